-- What comes of hearing what another system answered to a call.
use Rattle.std.specs.Prelude.{◌≡◌, ◌⊎◌, ℕ, Bool, true, false, Some, Result, Ok, Err}
use Rattle.tr_model.specs.Choices.{Choice}
use Rattle.tr_model.specs.declared.events.Event.{Event}
use Rattle.tr_model.specs.declared.replies.Refusal.{Refusal}
use Rattle.tr_model.specs.declared.replies.Reply.{Reply}
use Rattle.tr_model.specs.Causes.{cause_of}
use Rattle.tr_model.specs.Compare.{IsLet, Lets}
use Rattle.tr_model.specs.Runs.{Call}
use Rattle.tr_kernel.specs.States.{IsDue, IsMade, IsQuiet, IsWithheld, State}

-- what the actor asks for
abbrev pub call_of : ℕ → Event → Call
call_of actor event = record { actor = actor; event = event }

-- a refusal and an answer without an entry change nothing; any other answer is that of one entry, with whatever choice
abbrev pub HasAnswered : State → ℕ → Event → Result Reply Refusal → State → Type 0
HasAnswered old actor event (Err why) new = (cause_of old.table actor event ≡ Some why) × (new ≡ old)
HasAnswered old actor event (Ok reply) new =
    IsQuiet old actor event reply new ⊎ ((c : Choice) × IsMade old (record { actor = actor; event = event; choice = c }) reply new)

-- True where the model lets the call have the answer, and the kernel has then given it; false where the model doesn't.
-- Where it does, and the entry isn't made, why. Without an entry nothing has changed.
abbrev pub IsHeard : State → ℕ → Event → Result Reply Refusal → Result Bool Refusal → State → Type 0
IsHeard old actor event told (Ok true) new = Lets old.table (call_of actor event) told new.table × HasAnswered old actor event told new
IsHeard old actor event told (Ok false) new = (IsLet old.table (call_of actor event) told → ⊥) × (new ≡ old)
IsHeard old actor event told (Err why) new = IsLet old.table (call_of actor event) told × IsDue old actor event × IsWithheld old why × (new ≡ old)
