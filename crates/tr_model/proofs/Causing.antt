-- Steps are determined, and which refusals are causes.
use Rattle.std.proofs.Common.{◌∙◌, ℕ, List, [], ◌∷◌, ◌++◌, Bool, true, false, Option, Some, None, sym, subst}
use Rattle.tr_tracee.specs.declared.life.Life.{Life}
use Rattle.tr_tracee.specs.declared.life.Life.TheVariants as life
use Rattle.tr_tracee.specs.declared.life.Stop.TheVariants as stop
use Rattle.tr_tracee.specs.declared.thread.Thread.{Thread}
use Rattle.tr_model.specs.declared.events.Event.{Event}
use Rattle.tr_model.specs.declared.events.Event.TheVariants as event
use Rattle.tr_model.specs.declared.replies.Refusal.{Refusal}
use Rattle.tr_model.specs.declared.replies.Refusal.TheVariants.{NoMemory, ThreadedExec, JournalFull}
use Rattle.tr_model.specs.Causes.{causes, first_cause, no_siginfo, refused_if, script, thread_then, unless, with_thread}
use Rattle.tr_model.specs.Laws.{CausesAreCauses, IsCause, StepsAreDetermined}
use Rattle.tr_model.specs.Tables.{Table, thread_of}

-- Steps

pub steps_are_determined : StepsAreDetermined
steps_are_determined T U V e r q s t = (s.reply ∙ sym t.reply, s.table ∙ sym t.table)

-- Causes

abbrev MayCause : Refusal → Type 0
MayCause NoMemory = ⊥
MayCause JournalFull = ⊥
MayCause ThreadedExec = ⊥
MayCause _ = Unit {0}

is_cause : (why : Refusal) → MayCause why → IsCause why
is_cause why c = record { memory = λ e. subst MayCause e c; full = λ e. subst MayCause e c; threaded = λ e. subst MayCause e c }

abbrev MayAnswer : Option Refusal → Type 0
MayAnswer None = Unit {0}
MayAnswer (Some why) = MayCause why

abbrev AllCauses : List (Option Refusal) → Type 0
AllCauses [] = Unit {0}
AllCauses (o ∷ os) = MayAnswer o × AllCauses os

first_causes : (os : List (Option Refusal)) → AllCauses os → MayAnswer (first_cause os)
first_causes [] c = tt
first_causes (None ∷ os) c = first_causes os c.1
first_causes (Some why ∷ os) c = c.0

-- Guards

unless_causes : (b : Bool) (why : Refusal) → MayCause why → MayAnswer (unless b why)
unless_causes true why c = tt
unless_causes false why c = c

where_causes : (b : Bool) (why : Refusal) → MayCause why → MayAnswer (refused_if b why)
where_causes true why c = c
where_causes false why c = tt

no_siginfo_causes : (l : Life) → MayAnswer (no_siginfo l)
no_siginfo_causes (life.InStop (stop.Signal i came)) = tt
no_siginfo_causes (life.InStop (stop.Group s)) = tt
no_siginfo_causes _ = tt

both_cause : (os qs : List (Option Refusal)) → AllCauses os → AllCauses qs → AllCauses (os ++ qs)
both_cause [] qs c d = d
both_cause (o ∷ os) qs c d = (c.0, both_cause os qs c.1 d)

thread_causes : (T : Table) (id : ℕ) (f : Thread → List (Option Refusal)) → ((t : Thread) → AllCauses (f t)) → AllCauses (with_thread T id f)
thread_causes T id f each = go (thread_of T id)
  where
    go : (o : Option Thread) → AllCauses (thread_then o f)
    go None = (tt, tt)
    go (Some t) = each t

script_causes : (T : Table) (t : Thread) → AllCauses (script T t)
script_causes T t = (unless_causes _ _ tt, (where_causes _ _ tt, tt))

script_then : (T : Table) (t : Thread) (o : Option Refusal) → MayAnswer o → AllCauses (script T t ++ o ∷ [])
script_then T t o c = both_cause (script T t) (o ∷ []) (script_causes T t) (c, tt)

-- Events

all_cause : (T : Table) (a : ℕ) (e : Event) → AllCauses (causes T a e)
all_cause T a (event.Kill g s) = (where_causes _ _ tt, (unless_causes _ _ tt, (where_causes _ _ tt, tt)))
all_cause T a (event.Tgkill g id s) = (where_causes _ _ tt, (unless_causes _ _ tt, (where_causes _ _ tt, tt)))
all_cause T a (event.Sigqueue g s v) = (where_causes _ _ tt, (unless_causes _ _ tt, (where_causes _ _ tt, tt)))
all_cause T a (event.Mask id set) = thread_causes T id _ (script_causes T)
all_cause T a (event.SetAction id s how) = thread_causes T id _ (λ t. script_then T t _ (where_causes _ _ tt))
all_cause T a (event.Pause id) = thread_causes T id _ (script_causes T)
all_cause T a (event.Take id) = thread_causes T id _ (λ t. (unless_causes _ _ tt, (where_causes _ _ tt, tt)))
all_cause T a (event.TakeAny g) = (unless_causes _ _ tt, tt)
all_cause T a (event.Halt id) = thread_causes T id _ (λ t. (unless_causes _ _ tt, tt))
all_cause T a (event.Trap id) = thread_causes T id _ (λ t. (unless_causes _ _ tt, tt))
all_cause T a (event.Die id) = thread_causes T id _ (λ t. (unless_causes _ _ tt, tt))
all_cause T a (event.CloneThread id) = thread_causes T id _ (λ t. script_then T t _ (where_causes _ _ tt))
all_cause T a (event.Exec id) = thread_causes T id _ (script_causes T)
all_cause T a (event.Finish id) = thread_causes T id _ (λ t. (unless_causes _ _ tt, tt))
all_cause T a (event.Exit id code) = thread_causes T id _ (script_causes T)
all_cause T a (event.ExitGroup id code) = thread_causes T id _ (script_causes T)
all_cause T a (event.Attach id) = thread_causes T id _ (λ t. (unless_causes _ _ tt, tt))
all_cause T a (event.Seize id o) = thread_causes T id _ (λ t. (unless_causes _ _ tt, tt))
all_cause T a (event.Interrupt id) = thread_causes T id _ (λ t. (unless_causes _ _ tt, (unless_causes _ _ tt, tt)))
all_cause T a (event.Cont id s) = thread_causes T id _ (λ t. (unless_causes _ _ tt, (where_causes _ _ tt, tt)))
all_cause T a (event.Listen id) = thread_causes T id _ (λ t. (unless_causes _ _ tt, (unless_causes _ _ tt, tt)))
all_cause T a (event.Detach id s) = thread_causes T id _ (λ t. (unless_causes _ _ tt, (where_causes _ _ tt, tt)))
all_cause T a (event.SetOptions id o) = thread_causes T id _ (λ t. (unless_causes _ _ tt, tt))
all_cause T a (event.EventMessage id) = thread_causes T id _ (λ t. (unless_causes _ _ tt, (unless_causes _ _ tt, tt)))
all_cause T a (event.SignalInfo id) = thread_causes T id _ (λ t. (unless_causes _ _ tt, (no_siginfo_causes t.life, tt)))
all_cause T a event.TracerExit = tt
all_cause T a (event.Wait which) = (unless_causes _ _ tt, tt)
all_cause T a (event.StarterWait which flags) = (unless_causes _ _ tt, tt)

pub causes_are_causes : CausesAreCauses
causes_are_causes T a e why h = is_cause why (subst MayAnswer h (first_causes (causes T a e) (all_cause T a e)))
