-- Answers by their kind, and what a receipt tells.
use Rattle.std.specs.Prelude.{◌≡◌, ◌+◌, ◌≤◌, ◌<◌, ◌⊎◌, ℕ, length, Bool, true, false, Result, Err, Some, IfOk, IfErr, OnErr}
use Rattle.tr_model.specs.declared.events.Event.{Event}
use Rattle.tr_model.specs.declared.replies.Refusal.{Refusal}
use Rattle.tr_model.specs.declared.replies.Reply.{Reply}
use Rattle.tr_kernel.specs.declared.answers.Answer.{Answer}
use Rattle.tr_kernel.specs.declared.answers.Answer.TheVariants.{Entered, Read, Refused}
use Rattle.tr_kernel.specs.declared.answers.Receipt.{Receipt}
use Rattle.tr_model.specs.Causes.{cause_of}
use Rattle.tr_kernel.specs.States.{AcceptsFew, IsDue, IsEntered, IsHistory, IsQuiet, IsRefusal, State}

-- a claim on the receipt, where there is one
abbrev pub IfEntered : Answer → (Receipt → Type 0) → Type 0
IfEntered (Entered receipt) P = P receipt
IfEntered (Read reply) P = Unit {0}
IfEntered (Refused why) P = Unit {0}

-- a claim on the reply of an answer without an entry
abbrev pub IfRead : Answer → (Reply → Type 0) → Type 0
IfRead (Entered receipt) P = Unit {0}
IfRead (Read reply) P = P reply
IfRead (Refused why) P = Unit {0}

-- a claim on the reason of a refusal
abbrev pub IfRefused : Answer → (Refusal → Type 0) → Type 0
IfRefused (Entered receipt) P = Unit {0}
IfRefused (Read reply) P = Unit {0}
IfRefused (Refused why) P = P why

-- whether there is a receipt
abbrev pub is_entered : Answer → Bool
is_entered (Entered receipt) = true
is_entered (Read reply) = false
is_entered (Refused why) = false

-- what a receipt tells of the step behind it
pub record IsReceipt (r : Receipt) (asked : Event) (old new : State) : Type 0 where
  pub event : r.event ≡ asked
  pub position : r.position ≡ length new.journal
  pub accepted : new.table.accepted ≡ old.table.accepted + r.accepted
  pub few : r.accepted ≤ 1024

-- what `call` says of its answer
pub record IsCalled (old : State) (actor : ℕ) (event : Event) (answer : Answer) (new : State) : Type 0 where
  pub entered : IfEntered answer (λ r. IsEntered old actor event r.reply new)
  pub receipt : IfEntered answer (λ r. IsReceipt r event old new)
  pub room : IfEntered answer (λ _. length old.journal < old.table.entries)
  pub read : IfRead answer (λ reply. IsQuiet old actor event reply new)
  pub refused : IfRefused answer (λ why. IsRefusal old actor event why)
  pub unchanged : IfRefused answer (λ _. new ≡ old)
  pub cause : (why : Refusal) → cause_of old.table actor event ≡ Some why → answer ≡ Refused why
  pub full : IsDue old actor event → old.table.entries ≤ length old.journal → answer ≡ Refused Refusal.JournalFull
  pub history : IsHistory new

-- what `step` says of its reply or refusal
pub record IsStepped (old : State) (actor : ℕ) (event : Event) (answer : Result Reply Refusal) (new : State) : Type 0 where
  pub ok : IfOk answer (λ reply. IsQuiet old actor event reply new ⊎ IsEntered old actor event reply new)
  pub err : IfErr answer (λ why. IsRefusal old actor event why)
  pub unchanged : OnErr answer (new ≡ old)
  pub cause : (why : Refusal) → cause_of old.table actor event ≡ Some why → answer ≡ Err why
  pub full : IsDue old actor event → old.table.entries ≤ length old.journal → answer ≡ Err Refusal.JournalFull
  pub bounded : AcceptsFew old.table new.table
  pub history : IsHistory new
