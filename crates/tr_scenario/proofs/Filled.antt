-- Texts that come by way of a page, one after the other.
use Rattle.std.proofs.Common.{◌≡◌, ◌≤◌, ℕ, List, [], ◌++◌, ◌∙◌, ap, refl, inl, Result, Ok, Err, length, arith}
use Rattle.tr_status.specs.Writing.{IsFront}
use Rattle.tr_reading.specs.declared.faults.ScenarioFault.{ScenarioFault}
use Rattle.tr_reading.specs.declared.faults.ScenarioFault.TheVariants.{NoMemory}
use Rattle.tr_scenario.specs.Printing.{Fills, IsHalt, Prints}
use Rattle.tr_scenario.proofs.Halts.{front_none, halts_on, left_after, shorter_after}

-- a halt in the first of two texts
pub halts_first : (old new page here rest : List ℕ) (e : ScenarioFault) (f_old f_new : ℕ) → IsFront old new (page ++ here) × IsHalt e f_old f_new → IsFront old new (page ++ (here ++ rest)) × IsHalt e f_old f_new
halts_first old new page here rest e f_old f_new h = halts_on old old new page here rest (page ++ (here ++ rest)) e f_old f_old f_new refl (omega arith) refl h

module _ {K : Type 0} (taken : K → List ℕ) (failures : K → ℕ) (old mid : K) (page page_mid here rest : List ℕ)
    (went : (taken mid ++ page_mid ≡ taken old ++ (page ++ here)) × (length page_mid ≤ length (page ++ here)) × (failures mid ≡ failures old)) where
  left : taken mid ++ (page_mid ++ rest) ≡ taken old ++ (page ++ (here ++ rest))
  left = left_after (taken old) (taken old) (taken mid) page page_mid here rest (page ++ (here ++ rest)) refl went.0

  shorter : length (page_mid ++ rest) ≤ length (page ++ (here ++ rest))
  shorter = shorter_after page page_mid here rest (page ++ (here ++ rest)) (omega arith) went.1

  -- the first came, and then the second, or a halt in it
  pub fills_after : {X : Type 0} (new : K) (page_new : List ℕ) (r : Result X ScenarioFault) → Fills taken failures mid new page_mid page_new rest r → Fills taken failures old new page page_new (here ++ rest) r
  fills_after new page_new (Ok x) p = (p.0 ∙ left, omega (arith, p.1, shorter), p.2 ∙ went.2)
  fills_after new page_new (Err e) p = ((p.0.0, p.0.1 ∙ left, omega (arith, p.0.2, shorter)), rw went.2 at p.1)

-- the first came, and memory for the second was refused
pub halts_unpushed : {K : Type 0} (taken : K → List ℕ) (failures : K → ℕ) (old mid : K) (page page_mid here rest : List ℕ) →
    (taken mid ++ page_mid ≡ taken old ++ (page ++ here)) × (length page_mid ≤ length (page ++ here)) × (failures mid ≡ failures old) →
    IsFront (taken old) (taken mid) (page ++ (here ++ rest)) × IsHalt NoMemory (failures old) (failures mid)
halts_unpushed taken failures old mid page page_mid here rest went =
    fills_after taken failures old mid page page_mid here rest went {X = Unit {0}} mid [] (Err NoMemory) (front_none (taken mid) (page_mid ++ rest), inl (refl, refl))

-- the first came, and the second was put on the page
pub fills_pushed : {K : Type 0} (taken : K → List ℕ) (failures : K → ℕ) (old mid : K) (page page_mid page_new here rest : List ℕ) →
    (taken mid ++ page_mid ≡ taken old ++ (page ++ here)) × (length page_mid ≤ length (page ++ here)) × (failures mid ≡ failures old) → page_new ≡ page_mid ++ rest →
    (taken mid ++ page_new ≡ taken old ++ (page ++ (here ++ rest))) × (length page_new ≤ length (page ++ (here ++ rest))) × (failures mid ≡ failures old)
fills_pushed taken failures old mid page page_mid page_new here rest went e =
    let same : taken mid ++ page_new ≡ taken mid ++ (page_mid ++ rest) = ap (λ xs. taken mid ++ xs) e in
    fills_after taken failures old mid page page_mid here rest went {X = Unit {0}} mid page_new (Ok tt) (same, omega (arith, ap length e), refl)

-- a text came by way of an empty page, and what was kept back is printed
pub prints_kept : {K X : Type 0} (taken : K → List ℕ) (failures : K → ℕ) (old mid new : K) (page text : List ℕ) (r : Result X ScenarioFault) →
    (taken mid ++ page ≡ taken old ++ text) × (length page ≤ length text) × (failures mid ≡ failures old) → Prints taken failures mid new page r → Prints taken failures old new text r
prints_kept taken failures old mid new page text (Ok x) went p = (p.0 ∙ went.0, p.1 ∙ went.2)
prints_kept taken failures old mid new page text (Err e) went p = ((p.0.0, p.0.1 ∙ went.0, omega (arith, p.0.2, went.1)), rw went.2 at p.1)
