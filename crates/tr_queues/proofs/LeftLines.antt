-- What is left of a line where an instance goes.
use Rattle.std.proofs.Common.{◌≡◌, ◌+◌, ◌-◌, ◌<◌, ◌≤◌, ℕ, List, [], ◌∷◌, ◌++◌, Some, None, length, refl, ap, arith}
use Rattle.std.proofs.lemmas.List.{length-append}
use Rattle.std.proofs.lemmas.Option.{same_Some}
use Rattle.tr_model.specs.declared.rows.Waiting.{Waiting}
use Rattle.tr_model.specs.Journals.{AllAbove, IsSorted}
use Rattle.tr_queues.specs.declared.lines.Line.{Line}
use Rattle.tr_queues.specs.Lines.{first_number, line_of}

-- the numbers of a sorted list before a place are less than the one there
pub above_at : (n : ℕ) (before rest : List Waiting) (w : Waiting) → AllAbove n (before ++ w ∷ rest) → n < w.instance.n
above_at n [] rest w h = h.0
above_at n (x ∷ before) rest w h = above_at n before rest w h.1

-- one instance alone leaves nothing
pub left_none : (l : Line) (before rest : List Waiting) (w : Waiting) → l.count ≤ 1 → Some l ≡ line_of (before ++ w ∷ rest) → None ≡ line_of (before ++ rest)
left_none l [] [] w few h = refl
left_none l [] (y ∷ rest) w few h = let e = ap (λ (k : Line). k.count) (same_Some l _ h) in absurd (omega (arith, e, few))
left_none l (x ∷ before) rest w few h =
    let e = ap (λ (k : Line). k.count) (same_Some l _ h) in
    let n : length (before ++ w ∷ rest) ≡ length before + length (w ∷ rest) = length-append before (w ∷ rest) in
    absurd (omega (arith, e, few, n))

-- the first goes, and the next becomes the first
pub left_next : (l : Line) (before rest : List Waiting) (w : Waiting) → IsSorted (before ++ w ∷ rest) → l.first ≡ w.instance.n → Some l ≡ line_of (before ++ w ∷ rest) → (n : ℕ) → Some n ≡ first_number rest → Some (record { first = n; count = l.count - 1 }) ≡ line_of (before ++ rest)
left_next l [] [] w sorted first h n next = cc
left_next l [] (y ∷ rest) w sorted first h n next =
    let e = ap (λ (k : Line). k.count) (same_Some l _ h) in
    let c : l.count - 1 ≡ 1 + length rest = omega (arith, e) in
    let f : n ≡ y.instance.n = cc in
    λ i. Some (record { first = f i; count = c i })
left_next l (x ∷ before) rest w sorted first h n next =
    let e = ap (λ (k : Line). k.first) (same_Some l _ h) in
    absurd (omega (arith, e, first, above_at x.instance.n before rest w sorted.0))

-- the first goes, and there is no other
pub left_empty : (l : Line) (before rest : List Waiting) (w : Waiting) → IsSorted (before ++ w ∷ rest) → l.first ≡ w.instance.n → Some l ≡ line_of (before ++ w ∷ rest) → None ≡ first_number rest → None ≡ line_of (before ++ rest)
left_empty l [] [] w sorted first h next = refl
left_empty l [] (y ∷ rest) w sorted first h next = cc
left_empty l (x ∷ before) rest w sorted first h next =
    let e = ap (λ (k : Line). k.first) (same_Some l _ h) in
    absurd (omega (arith, e, first, above_at x.instance.n before rest w sorted.0))

-- a later one goes
pub left_first : (l : Line) (before rest : List Waiting) (w : Waiting) → (l.first ≡ w.instance.n → ⊥) → Some l ≡ line_of (before ++ w ∷ rest) → Some (record { first = l.first; count = l.count - 1 }) ≡ line_of (before ++ rest)
left_first l [] rest w other h = absurd (other (ap (λ (k : Line). k.first) (same_Some l _ h)))
left_first l (x ∷ before) rest w other h =
    let e = ap (λ (k : Line). k.count) (same_Some l _ h) in
    let f : l.first ≡ x.instance.n = ap (λ (k : Line). k.first) (same_Some l _ h) in
    let n : length (before ++ w ∷ rest) ≡ length before + length (w ∷ rest) = length-append before (w ∷ rest) in
    let m : length (before ++ rest) ≡ length before + length rest = length-append before rest in
    let c : l.count - 1 ≡ 1 + length (before ++ rest) = omega (arith, e, n, m) in
    λ i. Some (record { first = f i; count = c i })
