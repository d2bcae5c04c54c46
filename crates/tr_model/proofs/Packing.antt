-- What an entry is packed to, and read from.
use Rattle.std.proofs.Common.{Bool, true, false, ◌≡◌, ◌∙◌, ℕ, ap, arith, refl}
use Rattle.tr_sigset.specs.Sets
use Rattle.tr_sigset.specs.Sets.{of_word}
use Rattle.tr_tracee.specs.declared.thread.Options.{Options}
use Rattle.tr_wait.specs.declared.waits.Which.TheVariants as which
use Rattle.tr_model.specs.Choices.{Choice, gives_report, packed_id, packed_number, takes_by, takes_instance}
use Rattle.tr_model.specs.Entries.{Fits}
use Rattle.tr_model.specs.Packed.{bits_of, choice_of, event_of, halves_of, options_of, pack, word_of}
use Rattle.tr_model.specs.declared.events.Event.{Event}
use Rattle.tr_model.specs.declared.events.Event.TheVariants as event

same_word : (n : ℕ) → word_of (halves_of n) ≡ n
same_word n = omega arith

same_options : (o : Options) → options_of (bits_of o) ≡ o
same_options o = go o.clone o.exec o.exit o.exitkill
  where
    go : (a b c d : Bool) → let o : Options = record { clone = a; exec = b; exit = c; exitkill = d } in options_of (bits_of o) ≡ o
    go true true true true = refl
    go true true true false = refl
    go true true false true = refl
    go true true false false = refl
    go true false true true = refl
    go true false true false = refl
    go true false false true = refl
    go true false false false = refl
    go false true true true = refl
    go false true true false = refl
    go false true false true = refl
    go false true false false = refl
    go false false true true = refl
    go false false true false = refl
    go false false false true = refl
    go false false false false = refl

pub event_packed : (e : Event) (c : Choice) → event_of (pack e c) ≡ e
event_packed (event.Mask id set) c = ap (λ w. event.Mask id (of_word w)) (same_word (Sets.word_of set))
event_packed (event.Kill g s) c = refl
event_packed (event.Tgkill g id s) c = refl
event_packed (event.Sigqueue g s v) c = refl
event_packed (event.SetAction id s how) c = refl
event_packed (event.Pause id) c = refl
event_packed (event.Take id) c = refl
event_packed (event.TakeAny g) c = refl
event_packed (event.Halt id) c = refl
event_packed (event.Trap id) c = refl
event_packed (event.Die id) c = refl
event_packed (event.CloneThread id) c = refl
event_packed (event.Exec id) c = refl
event_packed (event.Finish id) c = refl
event_packed (event.Exit id code) c = refl
event_packed (event.ExitGroup id code) c = refl
event_packed (event.Attach id) c = refl
event_packed (event.Seize id o) c = ap (λ o. event.Seize id o) (same_options o)
event_packed (event.Interrupt id) c = refl
event_packed (event.Cont id s) c = refl
event_packed (event.Listen id) c = refl
event_packed (event.Detach id s) c = refl
event_packed (event.SetOptions id o) c = ap (λ o. event.SetOptions id o) (same_options o)
event_packed (event.EventMessage id) c = refl
event_packed (event.SignalInfo id) c = refl
event_packed event.TracerExit c = refl
event_packed (event.Wait which.Any) c = refl
event_packed (event.Wait (which.One id)) c = refl
event_packed (event.StarterWait which.Any flags) c = refl
event_packed (event.StarterWait (which.One id) flags) c = refl

pub choice_packed : (e : Event) (c : Choice) → Fits e c → choice_of (pack e c) ≡ c
choice_packed (event.Mask id set) c h = h
choice_packed (event.Kill g s) c h = h
choice_packed (event.Tgkill g id s) c h = h
choice_packed (event.Sigqueue g s v) c h = h
choice_packed (event.SetAction id s how) c h = h
choice_packed (event.Pause id) c h = h
choice_packed (event.Take id) c h = ap (λ n. takes_instance n) (same_word (packed_number c)) ∙ h
choice_packed (event.TakeAny g) c h = ap (λ n. takes_by (packed_id c) n) (same_word (packed_number c)) ∙ h
choice_packed (event.Halt id) c h = h
choice_packed (event.Trap id) c h = h
choice_packed (event.Die id) c h = h
choice_packed (event.CloneThread id) c h = h
choice_packed (event.Exec id) c h = h
choice_packed (event.Finish id) c h = h
choice_packed (event.Exit id code) c h = h
choice_packed (event.ExitGroup id code) c h = h
choice_packed (event.Attach id) c h = h
choice_packed (event.Seize id o) c h = h
choice_packed (event.Interrupt id) c h = h
choice_packed (event.Cont id s) c h = h
choice_packed (event.Listen id) c h = h
choice_packed (event.Detach id s) c h = h
choice_packed (event.SetOptions id o) c h = h
choice_packed (event.EventMessage id) c h = h
choice_packed (event.SignalInfo id) c h = h
choice_packed event.TracerExit c h = h
choice_packed (event.Wait which) c h = ap (λ n. gives_report n) (same_word (packed_number c)) ∙ h
choice_packed (event.StarterWait which flags) c h = ap (λ n. gives_report n) (same_word (packed_number c)) ∙ h
