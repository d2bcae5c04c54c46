-- What an answer brings to the books, and which answers are written down.
use Rattle.std.specs.Prelude.{ℕ, List, [], ◌∷◌, ◌++◌, Bool, true, false, if◌then◌else◌}
use Rattle.tr_model.specs.declared.events.Event.{Event}
use Rattle.tr_model.specs.declared.replies.Refusal.TheVariants.{NoMemory}
use Rattle.tr_kernel.specs.declared.answers.Answer.{Answer}
use Rattle.tr_kernel.specs.declared.answers.Answer.TheVariants.{Entered, Read, Refused}
use Rattle.tr_hub.specs.declared.answers.Asked.{Asked}

-- how many entries were made: one or none
abbrev pub entries_in : Answer → ℕ
entries_in (Entered receipt) = 1
entries_in (Read reply) = 0
entries_in (Refused why) = 0

-- how many signals that entry accepted
abbrev pub accepted_in : Answer → ℕ
accepted_in (Entered receipt) = receipt.accepted
accepted_in (Read reply) = 0
accepted_in (Refused why) = 0

-- every answer without an entry is written down, but for want of memory
abbrev pub is_kept : Answer → Bool
is_kept (Entered receipt) = false
is_kept (Refused NoMemory) = false
is_kept answer = true

-- the list of what was asked, after one answer more at a journal of this length
abbrev pub asked_after : List Asked → ℕ → Event → ℕ → Answer → List Asked
asked_after asked actor event position answer =
    if is_kept answer then asked ++ record { actor = actor; event = event; position = position; answer = answer } ∷ [] else asked
