-- What private contracts see of what a kernel keeps beside its table: what is written down, and for how much more there is
-- room.
use Rattle.std.specs.Prelude.{◌≡◌, ℕ, ◌+◌, ◌^◌, ◌<◌, ◌≤◌, ◌==◌, nat_le, zero, suc, false, ◌&&◌, List, [], ◌∷◌, length, get_or, slice_get, Bool, true, Option, Some, None, if◌then◌else◌}
use Rattle.tr_pending.specs.declared.instance.Info.{Info}
use Rattle.tr_model.specs.Choices.{Choice}
use Rattle.tr_model.specs.Entries.{Entry}
use Rattle.tr_model.specs.declared.events.Event.{Event}
use Rattle.tr_model.specs.declared.events.Event.TheVariants as event
use Rattle.tr_model.specs.declared.fates.Fate.{Fate}
use Rattle.tr_model.specs.declared.fates.Fate.TheVariants as fate
use Rattle.tr_model.specs.declared.replies.Did.{Did}
use Rattle.tr_model.specs.declared.replies.Reply.{Reply}
use Rattle.tr_model.specs.declared.replies.Reply.TheVariants as reply
use Rattle.tr_model.specs.declared.rows.Target.{Target}
use Rattle.tr_model.specs.declared.rows.Target.TheVariants as target
use Rattle.tr_model.specs.Packed.{word_of}
use Rattle.tr_model.specs.Steps.{number}
use Rattle.tr_kernel.specs.declared.note_list.KeptNote.{KeptNote}
use Rattle.tr_kernel.specs.declared.note_list.Kind.{Kind}
use Rattle.tr_kernel.specs.declared.note_list.Kind.TheVariants as kind
use Rattle.tr_kernel.specs.declared.notes.EntryFact.{EntryFact}
use Rattle.tr_kernel.specs.declared.notes.EntryFact.TheVariants.{Exec, Nothing, Stop, Take}
use Rattle.tr_kernel.specs.declared.notes.Note.{Note}
use Rattle.tr_kernel.specs.declared.replies.BriefReply.{BriefReply}
use Rattle.tr_kernel.specs.declared.replies.BriefReply.TheVariants as brief
use Rattle.tr_kernel.specs.declared.replies.Mark.{Mark}
use Rattle.tr_kernel.specs.declared.replies.WholeReply.{WholeReply}
use Rattle.tr_kernel.specs.declared.replies.WholeReply.TheVariants as whole

-- Fates

-- the fate of each accepted number
pub record FateList : Type 0 where
  pub fates : List Fate
  pub room : ℕ

-- Entries with their replies

-- the entries, and the reply and the note of each
pub record EntryList : Type 0 where
  pub entries : List Entry
  pub replies : List Reply
  pub notes : List Note
  pub room : ℕ

-- the thread of a take: the event names it, or its choice
abbrev pub taker_of : Event → Choice → ℕ
taker_of (event.Take id) c = id
taker_of _ c = number c.thread

abbrev pub taker : Entry → ℕ
taker e = taker_of e.event e.choice

-- the signal of a number that is kept; KILL for the number of none
abbrev pub signal_of : ℕ → ℕ
signal_of n = if nat_le 1 n && nat_le n 64 then n else 9

-- the reply of a take by an entry
abbrev pub told_take : Entry → Did → ℕ → Info → Reply
told_take e did sig info = reply.Took did (taker e) (record { n = number e.choice.instance; sig = signal_of sig; info = info })

-- the reply of an entry, of which this is kept whole
abbrev pub told_whole : Entry → WholeReply → Reply
told_whole e (whole.Sent fate low high) = reply.Sent fate (word_of (record { low = low; high = high }))
told_whole e (whole.Took did sig info) = told_take e did sig info
told_whole e (whole.TookFromThread did sig code pid value id) = told_take e did sig (record { code = code; pid = pid; value = value })
told_whole e (whole.TookFromGroup did sig code pid value g) = told_take e did sig (record { code = code; pid = pid; value = value })
told_whole e (whole.Cloned id) = reply.Cloned id
told_whole e (whole.Waited id word) = reply.Waited id word (number e.choice.report)
told_whole e (whole.WaitedForStop id word g) = reply.Waited id word (number e.choice.report)
told_whole e (whole.Message value) = reply.Message value
told_whole e (whole.Signal sig info) = reply.Signal (signal_of sig) info

-- of which one is kept whole, if there is one
abbrev pub told_by : Entry → Option WholeReply → Reply
told_by e None = reply.Done
told_by e (Some w) = told_whole e w

-- the reply of an entry, of which this is kept in brief after a mark, beside those that are kept whole
abbrev pub told : Entry → Mark → List WholeReply → BriefReply → Reply
told e m ws brief.Done = reply.Done
told e m ws brief.Exists = reply.Exists
told e m ws brief.Nothing = reply.Nothing
told e m ws (brief.Pending more) = reply.Sent fate.Pending (m.sent + more)
told e m ws (brief.Merged more) = reply.Sent fate.Merged (m.sent + more)
told e m ws (brief.Flushed more) = reply.Sent fate.Flushed (m.sent + more)
told e m ws (brief.Whole more) = told_by e (slice_get ws (m.whole + more))

-- what a take by an entry is to the laws, from this queue, before its id passed on
abbrev pub fact_of_take : Entry → ℕ → Target → EntryFact
fact_of_take e sig q = Take (record { number = number e.choice.instance; signal = signal_of sig; queue = q; transfers = 0 })

-- what the entry is to the laws, as far as a reply tells that is kept whole
abbrev pub fact_told_whole : Entry → WholeReply → EntryFact
fact_told_whole e (whole.TookFromThread did sig code pid value id) = fact_of_take e sig (target.Thread id)
fact_told_whole e (whole.TookFromGroup did sig code pid value g) = fact_of_take e sig (target.Group g)
fact_told_whole e (whole.WaitedForStop id word g) = Stop (record { thread = id; group = g })
fact_told_whole e _ = Nothing

-- as far as the one tells, if there is one
abbrev pub fact_told_by : Entry → Option WholeReply → EntryFact
fact_told_by e None = Nothing
fact_told_by e (Some w) = fact_told_whole e w

-- as far as its reply tells, of which this is kept in brief
abbrev pub fact_told : Entry → Mark → List WholeReply → BriefReply → EntryFact
fact_told e m ws (brief.Whole more) = fact_told_by e (slice_get ws (m.whole + more))
fact_told e m ws _ = Nothing

-- there is what it names: a number, or a reply among those that are kept whole
abbrev pub IsHeld : Mark → List WholeReply → BriefReply → Type 0
IsHeld m ws (brief.Pending more) = m.sent + more < 2 ^ 64
IsHeld m ws (brief.Merged more) = m.sent + more < 2 ^ 64
IsHeld m ws (brief.Flushed more) = m.sent + more < 2 ^ 64
IsHeld m ws (brief.Whole more) = m.whole + more < length ws
IsHeld m ws _ = Unit {0}

-- fewer replies than a block has entries were kept whole since the mark, where so many are
abbrev pub IsSince : Mark → ℕ → Type 0
IsSince m n = (m.whole ≤ n) × (n < m.whole + 64)

-- the same replies are kept whole, and at most one more
pub record IsMore (ws vs : List WholeReply) : Type 0 where
  pub least : length ws ≤ length vs
  pub most : length vs ≤ length ws + 1
  pub same : (i : ℕ) → i < length ws → slice_get vs i ≡ slice_get ws i

-- the entry tells which thread took which number, and which report was consumed
abbrev pub IsToldBy : Entry → Reply → Type 0
IsToldBy e (reply.Took did id i) = (id ≡ taker e) × (i.n ≡ number e.choice.instance)
IsToldBy e (reply.Waited id word report) = report ≡ number e.choice.report
IsToldBy e _ = Unit {0}

-- Notes

-- of each entry what is left of its note, and for how many more that are kept there is room
pub record NotesOfEntries : Type 0 where
  pub notes : List Note
  pub room : ℕ

-- the note of an entry that is nothing to the laws, once so many deaths of groups had begun
abbrev pub blank : ℕ → Note
blank deaths = record { fact = Nothing; killed = false; deaths = deaths }

-- a take from this queue, of which this is kept
abbrev pub take_from : Target → KeptNote → EntryFact
take_from q k = Take (record { number = word_of k.number; signal = signal_of k.signal; queue = q; transfers = k.second })

-- what an entry is to the laws, of which this is kept
abbrev pub fact_by : Kind → KeptNote → EntryFact
fact_by kind.Nothing k = Nothing
fact_by kind.Stop k = Stop (record { thread = k.id; group = k.second })
fact_by kind.TakeForThread k = take_from (target.Thread k.id) k
fact_by kind.TakeForGroup k = take_from (target.Group k.id) k
fact_by kind.Exec k = Exec k.id

abbrev pub kept_fact : KeptNote → EntryFact
kept_fact k = fact_by k.kind k

-- the note that is kept
abbrev pub noted : KeptNote → Note
noted k = record { fact = kept_fact k; killed = k.killed; deaths = k.deaths }

-- the notes of so many entries from a place on, before which so many deaths had begun: those that are kept, else blank ones
abbrev pub spread : List KeptNote → ℕ → ℕ → ℕ → List Note
spread ks deaths place zero = []
spread [] deaths place (suc n) = blank deaths ∷ spread [] deaths (suc place) n
spread (k ∷ ks) deaths place (suc n) =
    if k.place == place then noted k ∷ spread ks k.deaths (suc place) n else blank deaths ∷ spread (k ∷ ks) deaths (suc place) n

-- what is left of a note, where the reply of its entry tells what the entry is to the laws
abbrev pub left_of : Bool → Note → Note
left_of true n = record n { fact = Nothing }
left_of false n = n

-- the note with what the reply tells, if it tells that
abbrev pub with_fact : EntryFact → Note → Note
with_fact Nothing n = n
with_fact f n = record n { fact = f }

-- notes of entries, each with what the reply of its entry tells
abbrev pub joined : List EntryFact → List Note → List Note
joined [] ns = ns
joined (f ∷ fs) [] = []
joined (f ∷ fs) (n ∷ ns) = with_fact f n ∷ joined fs ns

-- the places ascend, from the first to before the last of these
abbrev pub AreWithin : ℕ → ℕ → List KeptNote → Type 0
AreWithin from to [] = from ≤ to
AreWithin from to (k ∷ ks) = (from ≤ k.place) × (k.place < to) × AreWithin (suc k.place) to ks

-- the note of the entry at a place, by those that are kept of the entries up to it
abbrev pub note_upto : ℕ → ℕ → List KeptNote → Note
note_upto deaths place [] = blank deaths
note_upto deaths place (k ∷ []) = if k.place == place then noted k else blank k.deaths
note_upto deaths place (k ∷ l ∷ ks) = note_upto k.deaths place (l ∷ ks)

-- so many of these are of entries up to the place
pub record IsUpto (place : ℕ) (ks : List KeptNote) (m : ℕ) : Type 0 where
  pub few : m ≤ length ks
  pub before : (i : ℕ) (d : KeptNote) → i < m → (get_or ks i d).place ≤ place
  pub behind : (i : ℕ) (d : KeptNote) → m ≤ i → i < length ks → place < (get_or ks i d).place

-- how many deaths had begun after these
abbrev pub deaths_of : ℕ → List KeptNote → ℕ
deaths_of deaths [] = deaths
deaths_of deaths (k ∷ ks) = deaths_of k.deaths ks
