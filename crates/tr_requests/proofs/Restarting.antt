-- A thread that leaves its stop, and what it held.
use Rattle.std.proofs.Common.{◌≡◌, ℕ, zero, suc, ◌≤◌, ◌==◌, [], ◌∷◌, Bool, true, false, Option, Some, None, Ok, Err, nat_lt, refl, sym, arith}
use Rattle.std.proofs.lemmas.Bool.{ltb-false, ne_eqb}
use Rattle.std.specs.Option.{SomeIff}
use Rattle.tr_sigset.specs.Signals.{IsSignal}
use Rattle.tr_pending.specs.declared.instance.Instance.{Instance}
use Rattle.tr_tracee.specs.declared.thread.Thread.{Thread}
use Rattle.tr_tracee.specs.Lives.{held}
use Rattle.tr_model.specs.declared.checked.Checked.TheVariants.{Due}
use Rattle.tr_model.specs.Choices.{Choice, no_choice}
use Rattle.tr_model.specs.declared.replies.Refusal.{Refusal}
use Rattle.tr_model.specs.declared.replies.Refusal.TheVariants.{Io, Srch}
use Rattle.tr_model.specs.Causes.{cause_unless_stopped, first_cause, refused_if, thread_then, unless}
use Rattle.tr_model.specs.Moves.{Work, at, on_thread}
use Rattle.tr_model.specs.declared.events.Event.TheVariants.{Cont}
use Rattle.tr_model.specs.Preferred.{check, quiet_or, refused_or}
use Rattle.tr_model.specs.Restarts.{restart, restart_held}
use Rattle.tr_model.specs.Tables.{Table, thread_of}
use Rattle.tr_requests.specs.Private.{restart_by, restart_from}

-- A number as a signal, none for 0

pub at_same : (id : ℕ) (f g : Thread → Work → Work) → ((t : Thread) (w : Work) → f t w ≡ g t w) → (w : Work) → at id f w ≡ at id g w
at_same id f g h w = go (thread_of w.table id)
  where
    go : (o : Option Thread) → on_thread o f w ≡ on_thread o g w
    go None = refl
    go (Some t) = h t w

no_zero : (s : ℕ) → 1 ≤ s → (s == 0) ≡ false
no_zero s h = ne_eqb s 0 (λ e. let q = e in absurd (le_zero q))
  where
    le_zero : s ≡ 0 → ⊥
    le_zero q = let k : 1 ≤ 0 = rw (sym q) h in omega (arith, k)

pub restart_same : (o : Option ℕ) (s : ℕ) → s ≤ 64 → SomeIff o (IsSignal s) s → (t : Thread) (w : Work) → restart_from t o (held t.life) w ≡ restart s t w
restart_same o s h k t w = go o k (held t.life)
  where
    is_zero : (IsSignal s → ⊥) → s ≡ 0
    is_zero n = zero_or s h n
      where
        zero_or : (s : ℕ) → s ≤ 64 → (IsSignal s → ⊥) → s ≡ 0
        zero_or zero h n = refl
        zero_or (suc s) h n = absurd (n (omega arith, h))

    by : (o : Option ℕ) → SomeIff o (IsSignal s) s → (i : Instance) → restart_by t o i w ≡ restart_held t s (Some i) w
    by None k i = rw (is_zero k) refl
    by (Some x) k i = let (p, q) = k in rw (q, no_zero s p.0) refl

    go : (o : Option ℕ) → SomeIff o (IsSignal s) s → (i : Option Instance) → restart_from t o i w ≡ restart_held t s i w
    go o k None = refl
    go o k (Some i) = by o k i

-- what is refused isn't due
pub refused_due : (why : Refusal) (c : Choice) → Err why ≡ Ok (Due c) → ⊥
refused_due why c e = cc

-- a restart that is due has a number up to 64
pub due_at_most : (T : Table) (a id s : ℕ) → check T a (Cont id s) ≡ Ok (Due no_choice) → s ≤ 64
due_at_most T a id s e = go (thread_of T id) e
  where
    by : (x b : Bool) → nat_lt 64 s ≡ b → refused_or (first_cause (unless x Srch ∷ refused_if b Io ∷ [])) (quiet_or None no_choice) ≡ Ok (Due no_choice) → s ≤ 64
    by false b f q = absurd (refused_due Srch no_choice q)
    by true true f q = absurd (refused_due Io no_choice q)
    by true false f q = ltb-false 64 s f

    go : (o : Option Thread) → refused_or (first_cause (thread_then o (λ t. cause_unless_stopped a t ∷ refused_if (nat_lt 64 s) Io ∷ []))) (quiet_or None no_choice) ≡ Ok (Due no_choice) → s ≤ 64
    go None q = absurd (refused_due Srch no_choice q)
    go (Some t) q = by _ (nat_lt 64 s) refl q
