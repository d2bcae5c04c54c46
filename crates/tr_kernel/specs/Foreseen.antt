-- What a call is answered where memory is given.
use Rattle.std.specs.Prelude.{length, nat_le, if◌then◌else◌, Option, Some, None, Result, Ok, Err}
use Rattle.tr_model.specs.Choices.{Choice}
use Rattle.tr_model.specs.declared.checked.Checked.{Checked}
use Rattle.tr_model.specs.declared.checked.Checked.TheVariants.{Quiet, Due}
use Rattle.tr_model.specs.Entries.{Entry}
use Rattle.tr_model.specs.declared.replies.Refusal.{Refusal}
use Rattle.tr_model.specs.declared.replies.Refusal.TheVariants.{JournalFull}
use Rattle.tr_model.specs.declared.replies.Reply.{Reply}
use Rattle.tr_model.specs.Compare.{entry_for}
use Rattle.tr_model.specs.Preferred.{check}
use Rattle.tr_model.specs.Runs.{Call}
use Rattle.tr_model.specs.Steps.{after}
use Rattle.tr_kernel.specs.States.{State}

-- a full journal takes no more; else the entry's own reply
abbrev pub foreseen_entry : State → Entry → Result Reply Refusal
foreseen_entry s e = if nat_le s.table.entries (length s.journal) then Err JournalFull else Ok (after s.table e).reply

-- what comes of a call that a check finds so
abbrev pub foreseen_by : State → Call → Result Checked Refusal → Result Reply Refusal
foreseen_by s c (Err why) = Err why
foreseen_by s c (Ok (Quiet r)) = Ok r
foreseen_by s c (Ok (Due x)) = foreseen_entry s (entry_for c x)

-- refused for its cause, answered without an entry, or due with this product's choice
abbrev pub foreseen : State → Call → Result Reply Refusal
foreseen s c = foreseen_by s c (check s.table c.actor c.event)

-- a choice, while the journal takes one entry more
abbrev pub choice_with_room : State → Choice → Option Choice
choice_with_room s x = if nat_le s.table.entries (length s.journal) then None else Some x

-- the choice of what a check finds due
abbrev pub choice_found : State → Result Checked Refusal → Option Choice
choice_found s (Ok (Due x)) = choice_with_room s x
choice_found s _ = None

-- this product's choice, where a call would make an entry
abbrev pub choice_ahead : State → Call → Option Choice
choice_ahead s c = choice_found s (check s.table c.actor c.event)
