-- What a check refuses is a cause, and the only one.
use Rattle.std.proofs.Common.{◌≡◌, ℕ, Some, Ok, Err, refl, sym, ◌∙◌}
use Rattle.std.proofs.lemmas.Option.{same_Some}
use Rattle.tr_model.specs.declared.checked.Checked.TheVariants.{Due}
use Rattle.tr_model.specs.Choices.{Choice}
use Rattle.tr_model.specs.declared.events.Event.{Event}
use Rattle.tr_model.specs.declared.replies.Refusal.{Refusal}
use Rattle.tr_model.specs.declared.replies.Refusal.TheVariants.{Perm, Srch, Io, Child, Again, NoMemory, Inval, Busy, NotDue, NotRunning, Unmodelled, ThreadedExec, JournalFull}
use Rattle.tr_model.specs.Causes.{cause_of}
use Rattle.tr_model.specs.Preferred.{check}
use Rattle.tr_kernel.specs.States.{IsRefusal, IsWithheld, State}
use Rattle.tr_kernel.proofs.Checks.{dues, is_cause, refusals}

pub refusal : (k : State) (a : ℕ) (e : Event) (why : Refusal) → check k.table a e ≡ Err why → IsRefusal k a e why
refusal k a e Perm h = refusals k.table a e Perm h
refusal k a e Srch h = refusals k.table a e Srch h
refusal k a e Io h = refusals k.table a e Io h
refusal k a e Child h = refusals k.table a e Child h
refusal k a e Again h = refusals k.table a e Again h
refusal k a e NoMemory h = absurd ((is_cause k.table a e NoMemory (refusals k.table a e NoMemory h)).memory refl)
refusal k a e Inval h = refusals k.table a e Inval h
refusal k a e Busy h = refusals k.table a e Busy h
refusal k a e NotDue h = refusals k.table a e NotDue h
refusal k a e NotRunning h = refusals k.table a e NotRunning h
refusal k a e Unmodelled h = refusals k.table a e Unmodelled h
refusal k a e ThreadedExec h = refusals k.table a e ThreadedExec h
refusal k a e JournalFull h = absurd ((is_cause k.table a e JournalFull (refusals k.table a e JournalFull h)).full refl)

pub only_cause : (k : State) (a : ℕ) (e : Event) (found : Refusal) → check k.table a e ≡ Err found → (why : Refusal) → cause_of k.table a e ≡ Some why → found ≡ why
only_cause k a e found h why r = same_Some found why (sym (refusals k.table a e found h) ∙ r)

-- what is due and isn't made is refused so
pub withheld : (k : State) (a : ℕ) (e : Event) (c : Choice) (why : Refusal) → check k.table a e ≡ Ok (Due c) → IsWithheld k why → IsRefusal k a e why
withheld k a e c JournalFull h f = let d = dues k.table a e c h in (record { no_cause = d.no_cause; not_quiet = d.not_quiet }, f)
withheld k a e c NoMemory h f = let d = dues k.table a e c h in (record { no_cause = d.no_cause; not_quiet = d.not_quiet }, f)
withheld k a e c _ h f = absurd f
