-- At most one instance has a number, among all that wait.
use Rattle.std.proofs.Common.{◌≡◌, ◌∙◌, ◌==◌, ℕ, List, [], ◌∷◌, Bool, true, false, Some, if◌then◌else◌, filter, is_some, map, not, refl, sym, ap, subst, arith}
use Rattle.std.proofs.lemmas.Bool.Decides.{nat_tests}
use Rattle.tr_model.specs.declared.fates.Ending.{Ending}
use Rattle.tr_model.specs.declared.fates.Fate.TheVariants.{Delivered}
use Rattle.tr_model.specs.declared.rows.Waiting.{Waiting}
use Rattle.tr_model.specs.Journals.{AllAbove, IsSorted}
use Rattle.tr_model.specs.Moves.{ending_of, instance_in, without_instance}

none_has : (n : ℕ) (ws : List Waiting) → AllAbove n ws → filter (λ q. q.instance.n == n) ws ≡ []
none_has n [] h = refl
none_has n (w ∷ ws) h =
    let other : (w.instance.n == n) ≡ false = grind (arith, nat_tests, h.0) in
    ap (λ b. if b then w ∷ filter (λ q. q.instance.n == n) ws else filter (λ q. q.instance.n == n) ws) other ∙ none_has n ws h.1

all_stay : (n : ℕ) (ws : List Waiting) → AllAbove n ws → ws ≡ filter (λ q. not (q.instance.n == n)) ws
all_stay n [] h = refl
all_stay n (w ∷ ws) h =
    let other : (w.instance.n == n) ≡ false = grind (arith, nat_tests, h.0) in
    let F = filter (λ (q : Waiting). not (q.instance.n == n)) ws in
    ap (λ vs. w ∷ vs) (all_stay n ws h.1) ∙ sym (ap (λ b. if not b then w ∷ F else F) other)

pub delivered_left : (n : ℕ) (ws : List Waiting) → IsSorted ws → without_instance n ws ≡ filter (λ q. not (q.instance.n == n)) ws
delivered_left n [] h = refl
delivered_left n (w ∷ ws) h = go (w.instance.n == n) refl (delivered_left n ws h.1)
  where
    F : List Waiting
    F = filter (λ q. not (q.instance.n == n)) ws

    go : (b : Bool) → (w.instance.n == n) ≡ b → without_instance n ws ≡ F → (if b then ws else w ∷ without_instance n ws) ≡ (if not b then w ∷ F else F)
    go true e rest = let same : w.instance.n ≡ n = grind (arith, nat_tests, e) in all_stay n ws (subst (λ m. AllAbove m ws) same h.0)
    go false e rest = ap (λ vs. w ∷ vs) rest

-- what ends where the instance of a number is delivered
abbrev pub delivery : ℕ → Ending
delivery n = record { number = n; fate = Delivered }

pub delivered_one : (n : ℕ) (ws : List Waiting) → IsSorted ws → map (ending_of Delivered) (filter (λ q. q.instance.n == n) ws) ≡ (if is_some (instance_in ws n) then delivery n ∷ [] else [])
delivered_one n [] h = refl
delivered_one n (w ∷ ws) h = go (w.instance.n == n) refl (delivered_one n ws h.1)
  where
    F : List Waiting
    F = filter (λ q. q.instance.n == n) ws

    go : (b : Bool) → (w.instance.n == n) ≡ b → map (ending_of Delivered) F ≡ (if is_some (instance_in ws n) then delivery n ∷ [] else [])
        → map (ending_of Delivered) (if b then w ∷ F else F) ≡ (if is_some (if b then Some w.instance else instance_in ws n) then delivery n ∷ [] else [])
    go true e rest =
        let same : w.instance.n ≡ n = grind (arith, nat_tests, e) in
        let none : F ≡ [] = none_has n ws (subst (λ m. AllAbove m ws) same h.0) in
        λ i. record { number = same i; fate = Delivered } ∷ map (ending_of Delivered) (none i)
    go false e rest = rest
