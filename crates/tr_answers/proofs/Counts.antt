-- How many answers are known.
use Rattle.std.proofs.Common.{◌≡◌, ◌≤◌, ◌<◌, ◌+◌, ◌∙◌, ℕ, zero, suc, List, [], ◌∷◌, ◌++◌, ap, sym, refl, Bool, true, false, filter, if◌then◌else◌, is_some, length, length-append, map, replicate, get_or, drop, arith}
use Rattle.std.proofs.lemmas.List.{drop_more}
use Rattle.std.proofs.lemmas.List.Elements.{filter-append}
use Rattle.std.proofs.lemmas.List.Sums.{sum_by-cons}
use Rattle.tr_reading.specs.declared.steps.Step.{Step}
use Rattle.tr_reading.specs.Scenarios.{calls_of_steps}
use Rattle.tr_answers.specs.declared.records.Answered.{Answered}
use Rattle.tr_answers.specs.Comparisons.{Asked, asked_by, asked_from, known}

-- the steps that have an answer, each as often as it says
abbrev pub known_by : List Answered → ℕ
known_by [] = 0
known_by (a ∷ steps) = (if is_some a.answer then a.step.times else 0) + known_by steps

known_append : (qs rs : List Asked) → known (qs ++ rs) ≡ known qs + known rs
known_append qs rs =
    ap length (filter-append (λ (q : Asked). is_some q.expected) qs rs)
    ∙ length-append (filter (λ (q : Asked). is_some q.expected) qs) (filter (λ (q : Asked). is_some q.expected) rs)

known_many : (q : Asked) (b : Bool) → is_some q.expected ≡ b → (n : ℕ) → known (replicate n q) ≡ (if b then n else 0)
known_many q true e zero = refl
known_many q false e zero = refl
known_many q true e (suc n) = rw e (ap suc (known_many q true e n))
known_many q false e (suc n) = rw e (known_many q false e n)

pub known_is : (k : ℕ) (steps : List Answered) → known (asked_from k steps) ≡ known_by steps
known_is k [] = refl
known_is k (a ∷ steps) =
    let many = known_many (asked_by k a) (is_some a.answer) refl a.step.times in
    known_append (replicate a.step.times (asked_by k a)) (asked_from (suc k) steps)
    ∙ (ap (λ n. n + known (asked_from (suc k) steps)) many ∙ ap (λ n. (if is_some a.answer then a.step.times else 0) + n) (known_is (suc k) steps))

part : (b : Bool) (n : ℕ) → (if b then n else 0) ≤ n
part true n = omega arith
part false n = omega arith

pub known_few : (steps : List Answered) → known_by steps ≤ calls_of_steps (map (λ a. a.step) steps)
known_few [] = omega arith
known_few (a ∷ steps) =
    omega (arith, sum_by-cons (λ (x : Step). x.times) a.step (map (λ (x : Answered). x.step) steps), part (is_some a.answer) a.step.times, known_few steps)

-- the answers that are left, as a loop comes to a step that has one
pub known_next : (steps : List Answered) (i : ℕ) (a : Answered) → a ≡ get_or steps i a → i < length steps → known_by (drop i steps) ≡ (if is_some a.answer then a.step.times else 0) + known_by (drop (i + 1) steps)
known_next steps i a at h =
    ap known_by (drop_more steps i a h ∙ ap (λ x. x ∷ drop (i + 1) steps) (sym at))
