-- What a check says, in its parts.
use Rattle.std.proofs.Common.{◌≡◌, ◌∙◌, ℕ, Option, Some, None, Result, Ok, Err, refl, subst, sym, ap}
use Rattle.std.proofs.lemmas.Option.{same_Some}
use Rattle.tr_model.specs.declared.checked.Checked.{Checked}
use Rattle.tr_model.specs.declared.checked.Checked.TheVariants.{Due, Quiet}
use Rattle.tr_model.specs.Choices.{Choice, gives_id, gives_report, takes_by}
use Rattle.tr_model.specs.declared.events.Event.{Event}
use Rattle.tr_model.specs.declared.replies.Refusal.{Refusal}
use Rattle.tr_model.specs.declared.replies.Reply.{Reply}
use Rattle.tr_model.specs.declared.events.Event.TheVariants.{CloneThread, StarterWait, Take, TakeAny, Wait}
use Rattle.tr_model.specs.Causes.{cause_of, quiet_of}
use Rattle.tr_model.specs.Compare.{Permits}
use Rattle.tr_model.specs.Entries.{Fits}
use Rattle.tr_model.specs.Laws.{IsCause}
use Rattle.tr_kernel.specs.Private.{IsFixed}
use Rattle.tr_model.specs.Preferred.{check, preferred, quiet_or, refused_or}
use Rattle.tr_model.specs.Tables.{Table}
use Rattle.tr_model.proofs.Causing.{causes_are_causes}

due_same : (x y : Choice) → ◌≡◌ {A = Result Checked Refusal} (Ok (Due x)) (Ok (Due y)) → x ≡ y
due_same x y e = cc

quiet_same : (x y : Reply) → ◌≡◌ {A = Result Checked Refusal} (Ok (Quiet x)) (Ok (Quiet y)) → x ≡ y
quiet_same x y e = cc

err_same : (x y : Refusal) → ◌≡◌ {A = Result Checked Refusal} (Err x) (Err y) → x ≡ y
err_same x y e = cc

-- What is due

due_parts : (o : Option Refusal) (q : Option Reply) (p c : Choice) → refused_or o (quiet_or q p) ≡ Ok (Due c) → (o ≡ None) × (q ≡ None) × (c ≡ p)
due_parts (Some why) q p c e = absurd cc
due_parts None (Some r) p c e = absurd cc
due_parts None None p c e = (refl, refl, sym (due_same p c e))

pub record Dues (T : Table) (a : ℕ) (e : Event) (c : Choice) : Type 0 where
  pub no_cause : cause_of T a e ≡ None
  pub not_quiet : quiet_of T a e ≡ None
  pub preferred : c ≡ preferred T a e

pub dues : (T : Table) (a : ℕ) (e : Event) (c : Choice) → check T a e ≡ Ok (Due c) → Dues T a e c
dues T a e c h =
    let p = due_parts (cause_of T a e) (quiet_of T a e) (preferred T a e) c h in
    record { no_cause = p.0; not_quiet = p.1; preferred = p.2 }

-- What is quiet

quiet_parts : (o : Option Refusal) (q : Option Reply) (p : Choice) (r : Reply) → refused_or o (quiet_or q p) ≡ Ok (Quiet r) → (o ≡ None) × (q ≡ Some r)
quiet_parts (Some why) q p r e = absurd cc
quiet_parts None (Some x) p r e = (refl, ap Some (quiet_same x r e))
quiet_parts None None p r e = absurd cc

pub quiets : (T : Table) (a : ℕ) (e : Event) (r : Reply) → check T a e ≡ Ok (Quiet r) → (cause_of T a e ≡ None) × (quiet_of T a e ≡ Some r)
quiets T a e r h = quiet_parts (cause_of T a e) (quiet_of T a e) (preferred T a e) r h

-- What is refused

err_parts : (o : Option Refusal) (q : Option Reply) (p : Choice) (why : Refusal) → refused_or o (quiet_or q p) ≡ Err why → o ≡ Some why
err_parts (Some x) q p why e = ap Some (err_same x why e)
err_parts None (Some x) p why e = absurd cc
err_parts None None p why e = absurd cc

pub refusals : (T : Table) (a : ℕ) (e : Event) (why : Refusal) → check T a e ≡ Err why → cause_of T a e ≡ Some why
refusals T a e why h = err_parts (cause_of T a e) (quiet_of T a e) (preferred T a e) why h

pub is_cause : (T : Table) (a : ℕ) (e : Event) (why : Refusal) → cause_of T a e ≡ Some why → IsCause why
is_cause T a e why h = causes_are_causes T a e why h

-- The fields of a choice

pub same_take_by : (c : Choice) (id n u v : ℕ) → c ≡ takes_by id n → c.thread ≡ Some u → c.instance ≡ Some v → c ≡ takes_by u v
same_take_by c id n u v e f g = e ∙ (ap (λ x. takes_by x n) (same_Some id u (sym (ap (λ x. x.thread) e) ∙ f)) ∙ ap (takes_by u) (same_Some n v (sym (ap (λ x. x.instance) e) ∙ g)))

pub same_id : (c : Choice) (id u : ℕ) → c ≡ gives_id id → c.new_id ≡ Some u → c ≡ gives_id u
same_id c id u e f = e ∙ ap gives_id (same_Some id u (sym (ap (λ x. x.new_id) e) ∙ f))

pub same_report : (c : Choice) (r u : ℕ) → c ≡ gives_report r → c.report ≡ Some u → c ≡ gives_report u
same_report c r u e f = e ∙ ap gives_report (same_Some r u (sym (ap (λ x. x.report) e) ∙ f))

-- What is due with an admitted choice

pub checked_due : (o : Option Refusal) (q : Option Reply) (c : Choice) → o ≡ None → q ≡ None → refused_or o (quiet_or q c) ≡ Ok (Due c)
checked_due o q c e f = rw (e, f) refl

pub permits_fixed : (T : Table) (a : ℕ) (e : Event) (c : Choice) → Permits T a e c → IsFixed T a e c
permits_fixed T a (Take id) c p = tt
permits_fixed T a (TakeAny g) c p = tt
permits_fixed T a (Wait which) c p = tt
permits_fixed T a (StarterWait which flags) c p = tt
permits_fixed T a (CloneThread id) c p = tt
permits_fixed T a _ c p = checked_due _ _ _ p.no_cause p.not_quiet ∙ ap (λ (x : Choice). Ok (Due x)) (sym p.admitted)

-- what may be chosen is of what the event leaves open
pub permits_fits : (T : Table) (a : ℕ) (e : Event) (c : Choice) → Permits T a e c → Fits e c
permits_fits T a (Take id) c p = subst (Fits (Take id)) (sym p.admitted.1) refl
permits_fits T a (TakeAny g) c p = subst (Fits (TakeAny g)) (sym p.admitted.2) refl
permits_fits T a (Wait which) c p = subst (Fits (Wait which)) (sym p.admitted.1) refl
permits_fits T a (StarterWait which flags) c p = subst (Fits (StarterWait which flags)) (sym p.admitted.1) refl
permits_fits T a (CloneThread id) c p = subst (Fits (CloneThread id)) (sym p.admitted.1) refl
permits_fits T a _ c p = sym p.admitted
