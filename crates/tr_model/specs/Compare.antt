-- The model as a judge of another system: which answers to a call it lets be, with whatever admitted choice.
use Rattle.std.specs.Prelude.{◌≡◌, ◌↔◌, ℕ, ◌<◌, suc, List, [], ◌∷◌, length, take, Some, None, Result, Ok, Err, ◌⊎◌}
use Rattle.tr_model.specs.Choices.{Choice, gives_id, gives_report, no_choice, takes_by, takes_instance}
use Rattle.tr_model.specs.Entries.{Entry}
use Rattle.tr_model.specs.declared.events.Event.{Event}
use Rattle.tr_model.specs.declared.events.Event.TheVariants as event
use Rattle.tr_model.specs.declared.replies.Refusal.{Refusal}
use Rattle.tr_model.specs.declared.replies.Reply.{Reply}
use Rattle.tr_model.specs.declared.replies.Reply.TheVariants as reply
use Rattle.tr_model.specs.Causes.{cause_of, quiet_of}
use Rattle.tr_model.specs.Runs.{Call}
use Rattle.tr_model.specs.Steps.{Admits, Step, after}
use Rattle.tr_model.specs.Tables.{Table}

-- the event is due in the table, and the model admits this choice for it
pub record Permits (T : Table) (a : ℕ) (e : Event) (c : Choice) : Type 0 where
  pub no_cause : cause_of T a e ≡ None
  pub not_quiet : quiet_of T a e ≡ None
  pub admitted : Admits T a e c

-- The choice that a reply tells

-- a take tells its instance, a take by any thread also the thread, a wait its report, a clone its id
abbrev pub choice_of : Event → Reply → Choice
choice_of (event.Take id) (reply.Took did t i) = takes_instance i.n
choice_of (event.TakeAny g) (reply.Took did t i) = takes_by t i.n
choice_of (event.Wait which) (reply.Waited id word r) = gives_report r
choice_of (event.StarterWait which flags) (reply.Waited id word r) = gives_report r
choice_of (event.CloneThread id) (reply.Cloned new) = gives_id new
choice_of _ _ = no_choice

-- no step has this reply with another choice than the one that the reply tells
abbrev pub RepliesTellTheChoice : Type 0
RepliesTellTheChoice = (T U : Table) (e : Entry) (r : Reply) → Step T e r U → e.choice ≡ choice_of e.event r

-- One answer

-- an entry for the call, with this choice
abbrev pub entry_for : Call → Choice → Entry
entry_for c x = record { actor = c.actor; event = c.event; choice = x }

-- a step of the call, with whatever choice, has this reply and leads to this table
abbrev pub SomeStep : Table → Call → Reply → Table → Type 0
SomeStep T c r U = (x : Choice) × Step T (entry_for c x) r U

-- a refusal is the model's own cause; a reply is the one without an entry, or that of some step
abbrev pub Lets : Table → Call → Result Reply Refusal → Table → Type 0
Lets T c (Err why) U = (cause_of T c.actor c.event ≡ Some why) × (U ≡ T)
Lets T c (Ok r) U = ((cause_of T c.actor c.event ≡ None) × (quiet_of T c.actor c.event ≡ Some r) × (U ≡ T)) ⊎ SomeStep T c r U

-- the model lets the call have this answer
abbrev pub IsLet : Table → Call → Result Reply Refusal → Type 0
IsLet T c answer = (U : Table) × Lets T c answer U

-- table, call and answer leave one next table
abbrev pub AnswersDetermine : Type 0
AnswersDetermine = (T U V : Table) (c : Call) (answer : Result Reply Refusal) → Lets T c answer U → Lets T c answer V → U ≡ V

-- so one test decides whether any step has the reply: that of the choice which the reply tells
abbrev pub OneTestDecides : Type 0
OneTestDecides = (T : Table) (c : Call) (r : Reply) → cause_of T c.actor c.event ≡ None → quiet_of T c.actor c.event ≡ None
    → IsLet T c (Ok r) ↔ (Admits T c.actor c.event (choice_of c.event r) × (r ≡ (after T (entry_for c (choice_of c.event r))).reply))

-- A record of answers

-- a call, and what another system answered to it
pub record Told : Type 0 where
  pub call : Call
  pub answer : Result Reply Refusal

-- the model has a run with these answers that leads from one table to another
abbrev pub Admitted : Table → List Told → Table → Type 0
Admitted T [] U = U ≡ T
Admitted T (x ∷ xs) U = (M : Table) × Lets T x.call x.answer M × Admitted M xs U

-- some run of the model has these answers
abbrev pub IsAdmitted : Table → List Told → Type 0
IsAdmitted T xs = (U : Table) × Admitted T xs U

-- What a comparison finds: the table that all answers lead to, or the place, from 0, of the first answer that no run of
-- the model has after those before it.
abbrev pub IsVerdict : Table → List Told → Result Table ℕ → Type 0
IsVerdict T xs (Ok U) = Admitted T xs U
IsVerdict T xs (Err k) = (k < length xs) × IsAdmitted T (take k xs) × (IsAdmitted T (take (suc k) xs) → ⊥)

-- there is no other verdict
abbrev pub VerdictsAreDetermined : Type 0
VerdictsAreDetermined = (T : Table) (xs : List Told) (v w : Result Table ℕ) → IsVerdict T xs v → IsVerdict T xs w → v ≡ w
