-- A step of a kernel, as a call of a run.
use Rattle.std.proofs.Common.{◌≡◌, ◌⊎◌, ◌∙◌, ◌≤◌, ◌<◌, ◌+◌, ℕ, List, [], ◌∷◌, ◌++◌, ap, refl, inl, inr, length, length-append, nat_le, true, false, Option, Some, None, Ok, Err, arith}
use Rattle.std.proofs.lemmas.Bool.Decides.{nat_tests}
use Rattle.tr_model.specs.declared.checked.Checked.TheVariants.{Quiet}
use Rattle.tr_model.specs.Choices.{Choice}
use Rattle.tr_model.specs.declared.events.Event.{Event}
use Rattle.tr_model.specs.declared.replies.Refusal.{Refusal}
use Rattle.tr_model.specs.declared.replies.Refusal.TheVariants.{Perm, Srch, Io, Child, Again, NoMemory, Inval, Busy, NotDue, NotRunning, Unmodelled, ThreadedExec, JournalFull}
use Rattle.tr_model.specs.declared.replies.Reply.{Reply}
use Rattle.tr_model.specs.Causes.{cause_of, quiet_of}
use Rattle.tr_model.specs.Preferred.{check, preferred, quiet_or, refused_or}
use Rattle.tr_model.specs.Runs.{Answer, Call, Entered, Read, Refused, call_by, made, unless_full}
use Rattle.tr_model.specs.Runs as runs
use Rattle.tr_kernel.specs.States.{State, IsDue, IsEntered, IsQuiet, IsRefusal, entry_of}
use Rattle.tr_kernel.proofs.Checks.{checked_due}

-- a kernel as a run so far, with the answers to its calls
abbrev pub run_at : State → List Answer → runs.State
run_at k xs = record { table = k.table; journal = k.journal; answers = xs }

-- What a check answers, by its parts

checked_quiet : (why : Option Refusal) (quiet : Option Reply) (x : Choice) (r : Reply) → why ≡ None → quiet ≡ Some r → refused_or why (quiet_or quiet x) ≡ Ok (Quiet r)
checked_quiet why quiet x r h k = rw (h, k) refl

checked_refused : (why : Option Refusal) (quiet : Option Reply) (x : Choice) (r : Refusal) → why ≡ Some r → refused_or why (quiet_or quiet x) ≡ Err r
checked_refused why quiet x r h = rw h refl

-- Calls

pub called_quiet : (old new : State) (xs : List Answer) (actor : ℕ) (event : Event) (r : Reply) → IsQuiet old actor event r new →
    call_by check (run_at old xs) (record { actor = actor; event = event }) ≡ run_at new (xs ++ Read r ∷ [])
called_quiet old new xs actor event r q =
    let found = checked_quiet (cause_of old.table actor event) (quiet_of old.table actor event) (preferred old.table actor event) r q.no_cause q.quiet in
    rw q.same (ap (made (run_at old xs) (record { actor = actor; event = event })) found)

-- a journal that isn't full takes one entry
pub called_entered : (old new : State) (xs : List Answer) (actor : ℕ) (event : Event) (r : Reply) → IsEntered old actor event r new → length old.journal < old.table.entries →
    (call_by check (run_at old xs) (record { actor = actor; event = event }) ≡ run_at new (xs ++ Entered r ∷ [])) × (length new.journal ≡ length old.journal + 1)
called_entered old new xs actor event r e room =
    let found = checked_due (cause_of old.table actor event) (quiet_of old.table actor event) (preferred old.table actor event) e.no_cause e.step.not_quiet in
    let not_full : nat_le old.table.entries (length old.journal) ≡ false = grind (arith, nat_tests) in
    let due = ap (made (run_at old xs) (record { actor = actor; event = event })) found in
    let entered = ap (unless_full (run_at old xs) (entry_of old actor event)) not_full in
    (due ∙ (entered ∙ rw (e.step.table, e.step.reply, e.journal) refl), rw e.journal (length-append old.journal (entry_of old actor event ∷ [])))

called_for_cause : (old : State) (xs : List Answer) (actor : ℕ) (event : Event) (why : Refusal) → cause_of old.table actor event ≡ Some why →
    call_by check (run_at old xs) (record { actor = actor; event = event }) ≡ run_at old (xs ++ Refused why ∷ [])
called_for_cause old xs actor event why h =
    ap (made (run_at old xs) (record { actor = actor; event = event })) (checked_refused (cause_of old.table actor event) (quiet_of old.table actor event) (preferred old.table actor event) why h)

called_when_full : (old : State) (xs : List Answer) (actor : ℕ) (event : Event) → IsDue old actor event → old.table.entries ≤ length old.journal →
    call_by check (run_at old xs) (record { actor = actor; event = event }) ≡ run_at old (xs ++ Refused JournalFull ∷ [])
called_when_full old xs actor event d h =
    let found = checked_due (cause_of old.table actor event) (quiet_of old.table actor event) (preferred old.table actor event) d.no_cause d.not_quiet in
    let full : nat_le old.table.entries (length old.journal) ≡ true = grind (arith, nat_tests) in
    ap (made (run_at old xs) (record { actor = actor; event = event })) found ∙ ap (unless_full (run_at old xs) (entry_of old actor event)) full

-- a refusal is the run's, unless memory was refused
pub called_refused : (old : State) (xs : List Answer) (actor : ℕ) (event : Event) (why : Refusal) → IsRefusal old actor event why →
    (why ≡ NoMemory) ⊎ (call_by check (run_at old xs) (record { actor = actor; event = event }) ≡ run_at old (xs ++ Refused why ∷ []))
called_refused old xs actor event Perm h = inr (called_for_cause old xs actor event Perm h)
called_refused old xs actor event Srch h = inr (called_for_cause old xs actor event Srch h)
called_refused old xs actor event Io h = inr (called_for_cause old xs actor event Io h)
called_refused old xs actor event Child h = inr (called_for_cause old xs actor event Child h)
called_refused old xs actor event Again h = inr (called_for_cause old xs actor event Again h)
called_refused old xs actor event NoMemory h = inl refl
called_refused old xs actor event Inval h = inr (called_for_cause old xs actor event Inval h)
called_refused old xs actor event Busy h = inr (called_for_cause old xs actor event Busy h)
called_refused old xs actor event NotDue h = inr (called_for_cause old xs actor event NotDue h)
called_refused old xs actor event NotRunning h = inr (called_for_cause old xs actor event NotRunning h)
called_refused old xs actor event Unmodelled h = inr (called_for_cause old xs actor event Unmodelled h)
called_refused old xs actor event ThreadedExec h = inr (called_for_cause old xs actor event ThreadedExec h)
called_refused old xs actor event JournalFull h = inr (called_when_full old xs actor event h.0 h.1)
