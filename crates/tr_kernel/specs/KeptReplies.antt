-- What private contracts see of a journal's entries, and of what it keeps of their replies and notes.
use Rattle.std.specs.Prelude.{◌≡◌, ℕ, ◌+◌, ◌*◌, ◌/◌, ◌<◌, ◌≤◌, suc, List, [], ◌∷◌, length, get_or, vec_capacity, vec_len}
use Rattle.tr_model.specs.Entries.{Entry}
use Rattle.tr_model.specs.declared.replies.Reply.{Reply}
use Rattle.tr_model.specs.declared.replies.Reply.TheVariants as reply
use Rattle.tr_kernel.specs.Kept.{EntryList, IsHeld, fact_told, joined, told}
use Rattle.tr_kernel.specs.declared.journal.Journal.TheInside.{Inside}
use Rattle.tr_kernel.specs.declared.replies.BriefReply.{BriefReply}
use Rattle.tr_kernel.specs.declared.replies.Mark.{Mark}
use Rattle.tr_kernel.specs.declared.replies.WholeReply.{WholeReply}

-- the mark of the block of a place, 64 entries each, by those of the full blocks and that of the one after them
abbrev pub mark_of : List Mark → Mark → ℕ → Mark
mark_of ms last p = get_or ms (p / 64) last

-- what is told so of each of these entries from a place on
abbrev pub all_by : {X : Type 0} → (Entry → Mark → List WholeReply → BriefReply → X) → List Mark → Mark → List WholeReply → ℕ → List Entry → List BriefReply → List X
all_by tell ms last ws p [] bs = []
all_by tell ms last ws p (e ∷ es) [] = []
all_by tell ms last ws p (e ∷ es) (b ∷ bs) = tell e (mark_of ms last p) ws b ∷ all_by tell ms last ws (suc p) es bs

-- there is what each names, from a place on
abbrev pub AreHeld : List Mark → Mark → List WholeReply → ℕ → List BriefReply → Type 0
AreHeld ms last ws p [] = Unit {0}
AreHeld ms last ws p (b ∷ bs) = IsHeld (mark_of ms last p) ws b × AreHeld ms last ws (suc p) bs

-- the number of the last signal that was sent, after a reply
abbrev pub last_sent : Reply → ℕ → ℕ
last_sent (reply.Sent fate n) before = n
last_sent _ before = before

abbrev pub kept_entries : Inside → EntryList
kept_entries j = record {
  entries = j.entries.items;
  replies = all_by told j.marks.items j.mark j.wholes.items 0 j.entries.items j.briefs.items;
  notes = joined (all_by fact_told j.marks.items j.mark j.wholes.items 0 j.entries.items j.briefs.items) j.notes.notes;
  room = j.room;
}

-- of each entry something is kept, each full block has its mark, and where there is room, each list has room
pub record HasReplies (j : Inside) : Type 0 where
  pub each : length j.entries.items ≡ length j.briefs.items
  pub noted : length j.notes.notes ≡ length j.briefs.items
  pub held : AreHeld j.marks.items j.mark j.wholes.items 0 j.briefs.items
  pub full : 64 * length j.marks.items ≤ length j.briefs.items
  pub unfilled : length j.briefs.items < 64 * length j.marks.items + 64
  pub since : j.mark.whole ≤ length j.wholes.items
  pub few : length j.wholes.items + 64 * length j.marks.items ≤ j.mark.whole + length j.briefs.items
  pub entry_room : vec_len j.entries + j.room ≤ vec_capacity j.entries
  pub brief_room : vec_len j.briefs + j.room ≤ vec_capacity j.briefs
  pub whole_room : vec_len j.wholes + j.room ≤ vec_capacity j.wholes
  pub mark_room : vec_len j.briefs + j.room < 64 * vec_capacity j.marks + 64
  pub note_room : 0 < j.room → 0 < j.notes.room
