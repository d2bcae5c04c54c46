-- Whether a number may be taken, by slots.
use Rattle.std.proofs.Common.{◌≡◌, ◌∙◌, ◌==◌, ℕ, List, ◌∷◌, Bool, true, false, cond, filter, refl, sym}
use Rattle.std.specs.List.{list_any}
use Rattle.tr_sigset.specs.declared.sets.SigSet.{SigSet}
use Rattle.tr_sigset.specs.Sets.{has}
use Rattle.tr_pending.specs.declared.instance.Instance.{Instance}
use Rattle.tr_model.specs.declared.rows.Target.{Target}
use Rattle.tr_model.specs.Tables.{same_target}
use Rattle.std.proofs.lemmas.Bool.{true≢false}
use Rattle.tr_queues.specs.declared.slots.Slot.{Slot}
use Rattle.tr_table.specs.Choices.{goes_first, is_choice, open_in}

-- a slot that is no choice
pub none_chosen : (all : List Instance) (q : Target) (blocked : SigSet) (n : ℕ) (s : Slot) (ss : List Slot) → is_choice all q blocked n s ≡ false
    → list_any (λ i. i.n == n) (filter (goes_first all) (open_in q blocked (s ∷ ss))) ≡ list_any (λ i. i.n == n) (filter (goes_first all) (open_in q blocked ss))
none_chosen all q blocked n s ss h = by (s.waiting.instance.n == n) refl s.gone refl (same_target q s.waiting.target) refl (has blocked s.waiting.instance.sig) refl
  where
    by : (m : Bool) → (s.waiting.instance.n == n) ≡ m → (g : Bool) → s.gone ≡ g → (t : Bool) → same_target q s.waiting.target ≡ t → (b : Bool) → has blocked s.waiting.instance.sig ≡ b
        → list_any (λ i. i.n == n) (filter (goes_first all) (open_in q blocked (s ∷ ss))) ≡ list_any (λ i. i.n == n) (filter (goes_first all) (open_in q blocked ss))
    by m e true f t u b v = rw f refl
    by m e false f false u b v = rw (f, u) refl
    by m e false f true u true v = rw (f, u, v) refl
    by m e false f true u false v = rw (f, u, v) (first (goes_first all s.waiting.instance) refl m e)
      where
        first : (x : Bool) → goes_first all s.waiting.instance ≡ x → (m : Bool) → (s.waiting.instance.n == n) ≡ m
            → list_any (λ i. i.n == n) (cond (goes_first all s.waiting.instance) (s.waiting.instance ∷ filter (goes_first all) (open_in q blocked ss)) (filter (goes_first all) (open_in q blocked ss))) ≡ list_any (λ i. i.n == n) (filter (goes_first all) (open_in q blocked ss))
        first false k m e = rw k refl
        first true k false e = rw (k, e) refl
        first true k true e = absurd (true≢false (sym (rw (e, f, u, v, k) refl) ∙ h))
