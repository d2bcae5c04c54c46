-- How often ids have passed on, with one of them once more.
use Rattle.std.proofs.Common.{◌≡◌, ℕ, zero, suc, ◌+◌, ◌<◌, List, [], ◌∷◌, ◌++◌, length, take, drop, Bool, true, false, ◌==◌, if◌then◌else◌, get_or, set, refl, sym, ap, ap₂, ◌∙◌, arith}
use Rattle.std.proofs.Math.Seq.{drop-length, take-length}
use Rattle.std.proofs.lemmas.Bool.{eq-eqb, eqb-true, eqb-false}
use Rattle.tr_kernel.specs.declared.notes.IdTransfer.{IdTransfer}
use Rattle.tr_kernel.specs.Notes.{times}
use Rattle.tr_kernel.specs.Private.{AreTransferred}

abbrev more : IdTransfer → IdTransfer
more p = record { id = p.id; times = p.times + 1 }

-- the list with the id once more
abbrev pub transferred : ℕ → List IdTransfer → List IdTransfer
transferred id [] = record { id = id; times = 1 } ∷ []
transferred id (p ∷ ps) = if p.id == id then more p ∷ ps else p ∷ transferred id ps

transferred_there : (id k : ℕ) (ps : List IdTransfer) (d : IdTransfer) → k < length ps → (get_or ps k d).id ≡ id → set ps k (more (get_or ps k d)) ≡ take k ps ++ transferred id (drop k ps)
transferred_there id k [] d l e = absurd (omega arith)
transferred_there id zero (p ∷ ps) d l e = go (p.id == id) (eq-eqb p.id id e)
  where
    go : (b : Bool) → b ≡ true → more p ∷ ps ≡ (if b then more p ∷ ps else p ∷ transferred id ps)
    go true h = refl
    go false h = absurd cc
transferred_there id (suc k) (p ∷ ps) d l e = ap (λ qs. p ∷ qs) (transferred_there id k ps d (omega arith) e)

set_transferred : (id k : ℕ) (ps : List IdTransfer) (d p : IdTransfer) → k < length ps → p ≡ get_or ps k d → p.id ≡ id → transferred id ps ≡ take k ps ++ transferred id (drop k ps) → set ps k (record { id = p.id; times = p.times + 1 }) ≡ transferred id ps
set_transferred id k ps d p l q e h = ap (λ x. set ps k (more x)) q ∙ (transferred_there id k ps d l (ap (λ (x : IdTransfer). x.id) (sym q) ∙ e) ∙ sym h)

-- each other id has passed on as often as before
times_bumped : (n id : ℕ) (ps : List IdTransfer) → times n (transferred id ps) ≡ times n ps + (if id == n then 1 else 0)
times_bumped n id [] = go (id == n)
  where
    go : (b : Bool) → (if b then 1 else 0) ≡ 0 + (if b then 1 else 0)
    go true = refl
    go false = refl
times_bumped n id (p ∷ ps) = go (p.id == id) refl (p.id == n) refl (times_bumped n id ps)
  where
    here : p.id ≡ id → (b : Bool) → (p.id == n) ≡ b → (c : Bool) → (id == n) ≡ c → (if b then p.times + 1 else times n ps) ≡ (if b then p.times else times n ps) + (if c then 1 else 0)
    here e true h true k = refl
    here e true h false k = absurd (eqb-false id n k (sym e ∙ eqb-true p.id n h))
    here e false h true k = absurd (eqb-false p.id n h (e ∙ eqb-true id n k))
    here e false h false k = omega arith

    there : (p.id ≡ id → ⊥) → (b : Bool) → (p.id == n) ≡ b → times n (transferred id ps) ≡ times n ps + (if id == n then 1 else 0) → (if b then p.times else times n (transferred id ps)) ≡ (if b then p.times else times n ps) + (if id == n then 1 else 0)
    there e true h ih = other (id == n) refl
      where
        other : (c : Bool) → (id == n) ≡ c → p.times ≡ p.times + (if c then 1 else 0)
        other true k = absurd (e (eqb-true p.id n h ∙ sym (eqb-true id n k)))
        other false k = omega arith
    there e false h ih = ih

    go : (a : Bool) → (p.id == id) ≡ a → (b : Bool) → (p.id == n) ≡ b → times n (transferred id ps) ≡ times n ps + (if id == n then 1 else 0)
        → times n (if a then more p ∷ ps else p ∷ transferred id ps) ≡ (if p.id == n then p.times else times n ps) + (if id == n then 1 else 0)
    go true h b k ih = here (eqb-true p.id id h) (p.id == n) refl (id == n) refl
    go false h b k ih = there (eqb-false p.id id h) (p.id == n) refl ih

-- In the words of the code

pub set_counts : (id k : ℕ) (ps : List IdTransfer) (d p : IdTransfer) → k < length ps → p ≡ get_or ps k d → p.id ≡ id → transferred id ps ≡ take k ps ++ transferred id (drop k ps)
    → AreTransferred (id ∷ []) ps (set ps k (record { id = p.id; times = p.times + 1 }))
set_counts id k ps d p l q e h = record { counts = λ n. ap (times n) (set_transferred id k ps d p l q e h) ∙ (times_bumped n id ps ∙ omega arith) }

pub append_counts : (id : ℕ) (ps : List IdTransfer) → transferred id ps ≡ take (length ps) ps ++ transferred id (drop (length ps) ps) → AreTransferred (id ∷ []) ps (ps ++ record { id = id; times = 1 } ∷ [])
append_counts id ps h = record { counts = λ n. ap (times n) (sym (h ∙ all)) ∙ (times_bumped n id ps ∙ omega arith) }
  where
    all : take (length ps) ps ++ transferred id (drop (length ps) ps) ≡ ps ++ transferred id []
    all = ap₂ (λ xs ys. xs ++ transferred id ys) (take-length ps) (drop-length ps)
