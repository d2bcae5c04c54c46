-- That calls follow a script, and the lists of their answers.
use Rattle.std.specs.Prelude.{◌≡◌, ℕ, ◌+◌, ◌≤◌, ◌↔◌, List, [], ◌∷◌, ◌++◌, length, Some, None, if◌then◌else◌}
use Rattle.tr_model.specs.declared.events.Event.{Event}
use Rattle.tr_model.specs.declared.replies.Refusal.TheVariants.{NoMemory}
use Rattle.tr_model.specs.Runs as runs
use Rattle.tr_kernel.specs.declared.answers.Answer.{Answer}
use Rattle.tr_kernel.specs.declared.answers.Answer.TheVariants.{Entered, Read, Refused}
use Rattle.tr_kernel.specs.declared.answers.Receipt.{Receipt}
use Rattle.tr_kernel.specs.Answers.{IfEntered}
use Rattle.tr_hub.specs.Answers.{is_kept}
use Rattle.tr_workers.specs.declared.scripts.Plan.{Plan}
use Rattle.tr_workers.specs.declared.ports.Told.{Told}
use Rattle.tr_workers.specs.declared.working.Ended.{Ended}
use Rattle.tr_workers.specs.declared.working.Ended.TheVariants.{AtEnd, OutOfTurns}
use Rattle.tr_workers.specs.Scripts.{Progress, begun, next, told}

-- Calls

-- a call and its answer
pub record Made : Type 0 where
  pub event : Event
  pub answer : Answer

-- a call of this event got this answer
abbrev pub made : Event → Answer → Made
made event answer = record { event = event; answer = answer }

-- what a script learns of an answer
abbrev pub heard : Answer → runs.Answer
heard (Entered r) = runs.Entered r.reply
heard (Read reply) = runs.Read reply
heard (Refused why) = runs.Refused why

-- each call is the script's next after the answers before it
abbrev pub AreNext : Progress → List Made → Type 0
AreNext p [] = Unit {0}
AreNext p (m ∷ rest) = (next p ≡ Some m.event) × AreNext (told p (heard m.answer)) rest

-- how far the script has come by these calls
abbrev pub progress_after : Progress → List Made → Progress
progress_after p [] = p
progress_after p (m ∷ rest) = progress_after (told p (heard m.answer)) rest

-- its receipt is of the event called, which accepted at most 1,024 signals; and it was not refused for want of memory
abbrev pub IsAnswered : Made → Type 0
IsAnswered m = IfEntered m.answer (λ r. (r.event ≡ m.event) × (r.accepted ≤ 1024)) × (m.answer ≡ Refused NoMemory → ⊥)

-- each of the calls is answered so
abbrev pub AreAnswered : List Made → Type 0
AreAnswered [] = Unit {0}
AreAnswered (m ∷ rest) = IsAnswered m × AreAnswered rest

-- Lists of answers

-- the receipt that an answer brings
abbrev pub receipts_in : Answer → List Receipt
receipts_in (Entered r) = r ∷ []
receipts_in (Read reply) = []
receipts_in (Refused why) = []

-- what an answer without an entry tells after so many receipts; for want of memory nothing is told
abbrev pub told_in : ℕ → Event → Answer → List Told
told_in after event answer = if is_kept answer then record { after = after; event = event; answer = answer } ∷ [] else []

-- the receipts of the calls
abbrev pub receipts_of : List Made → List Receipt
receipts_of [] = []
receipts_of (m ∷ rest) = receipts_in m.answer ++ receipts_of rest

-- their other answers, each with the number of receipts before it
abbrev pub told_of : ℕ → List Made → List Told
told_of after [] = []
told_of after (m ∷ rest) = told_in after m.event m.answer ++ told_of (after + length (receipts_in m.answer)) rest

-- there are so many calls with answers, each the script's next; these are their receipts and their other answers; and the end is reached exactly where no call is left
pub record Follows (plan : Plan) (count : ℕ) (list : List Receipt) (others : List Told) (outcome : Ended) : Type 0 where
  pub calls : List Made
  pub number : length calls ≡ count
  pub follow : AreNext (begun plan) calls
  pub answered : AreAnswered calls
  pub receipts : receipts_of calls ≡ list
  pub tell : told_of 0 calls ≡ others
  pub ends : (outcome ≡ AtEnd) ↔ (next (progress_after (begun plan) calls) ≡ None)

-- within the turns a call more was made than those that follow the script, of which one was left; and it is in neither list
pub record IsCutShort (plan : Plan) (turns count : ℕ) (list : List Receipt) (others : List Told) : Type 0 where
  pub before : ℕ
  pub last : count ≡ before + 1
  pub within : count ≤ turns
  pub follows : Follows plan before list others OutOfTurns
