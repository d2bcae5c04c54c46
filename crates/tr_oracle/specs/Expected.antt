-- What a kernel answers where all that is known of another system's answer is whether it is as expected.
use Rattle.std.specs.Prelude.{◌≡◌, ◌≤◌, ◌<◌, ◌^◌, ◌⊎◌, ℕ, Bool, true, false, Option, Some, None, Result, Ok, Err, length}
use Rattle.tr_model.specs.declared.replies.Refusal.{Refusal}
use Rattle.tr_model.specs.declared.replies.Refusal.TheVariants.{JournalFull}
use Rattle.tr_model.specs.declared.replies.Reply.{Reply}
use Rattle.tr_model.specs.declared.replies.Reply.TheVariants.{Cloned}
use Rattle.tr_model.specs.Compare.{IsLet, Lets}
use Rattle.tr_model.specs.Runs.{Call}
use Rattle.tr_kernel.specs.Foreseen.{foreseen}
use Rattle.tr_kernel.specs.Heard.{HasAnswered}
use Rattle.tr_kernel.specs.States.{IsDue, State}

-- a full journal refuses what is due; any other answer is one that the model lets the call have
abbrev pub MayAnswer : State → Call → Result Reply Refusal → Type 0
MayAnswer s c x =
    (IsDue s c.actor c.event × (s.table.entries ≤ length s.journal) × (x ≡ Err JournalFull))
    ⊎ (IsLet s.table c x × (IsDue s c.actor c.event → length s.journal < s.table.entries))

-- a refusal changes nothing; a reply is one without an entry, or that of the entry that is made
abbrev pub HasGiven : State → Call → Result Reply Refusal → State → Type 0
HasGiven old c (Err why) new = new ≡ old
HasGiven old c (Ok r) new = HasAnswered old c.actor c.event (Ok r) new

-- the answer is as expected, and may be given; it is this product's own wherever that is as expected
pub record IsAnswered (old new : State) (c : Call) (expected : Result Reply Refusal → Bool) (x : Result Reply Refusal) : Type 0 where
  pub fits : expected x ≡ true
  pub may : MayAnswer old c x
  pub own : expected (foreseen old c) ≡ true → x ≡ foreseen old c
  pub given : HasGiven old c x new

-- an answer is given; or none that may be given is as expected, and nothing has changed
abbrev pub Answers : {E : Type 0} → State → State → Call → (Result Reply Refusal → Bool) → Result (Option (Result Reply Refusal)) E → Type 0
Answers old new c fits (Ok (Some x)) = IsAnswered old new c fits x
Answers old new c fits (Ok None) = ((x : Result Reply Refusal) → MayAnswer old c x → fits x ≡ false) × (new ≡ old)
Answers old new c fits (Err e) = new ≡ old

-- every id is as expected
abbrev pub FitsEachClone : (Result Reply Refusal → Bool) → Type 0
FitsEachClone fits = (id : ℕ) → id < 2 ^ 32 → fits (Ok (Cloned id)) ≡ true

-- where the id of a clone may be as expected, it is this one, or every id is
abbrev pub IsNamed : (Result Reply Refusal → Bool) → Option ℕ → Type 0
IsNamed fits named = (id : ℕ) → id < 2 ^ 32 → fits (Ok (Cloned id)) ≡ true → (named ≡ Some id) ⊎ FitsEachClone fits

-- an answer that was tried is as expected and given; or it isn't as expected, or not let, and nothing has changed
abbrev pub IsTried : {E : Type 0} → State → State → Call → (Result Reply Refusal → Bool) → Result Reply Refusal → Result Bool E → Type 0
IsTried old new c fits x (Ok true) = (fits x ≡ true) × Lets old.table c x new.table × HasAnswered old c.actor c.event x new
IsTried old new c fits x (Ok false) = ((fits x ≡ false) ⊎ (IsLet old.table c x → ⊥)) × (new ≡ old)
IsTried old new c fits x (Err e) = new ≡ old
