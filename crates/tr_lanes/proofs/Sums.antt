-- Counts and unions, block by block and row by row.
use Rattle.std.proofs.Common.{◌≡◌, ℕ, ◌+◌, ◌-◌, ◌*◌, ◌<◌, ◌≤◌, Bool, true, false, cond, ◌^◌, length, map, List, [], ◌∷◌, ◌++◌, arith, refl, sym, ap, ◌∙◌, get_or, take, drop, bit_or, max, length-take}
use Rattle.std.specs.Simd.{first_chunks}
use Rattle.std.specs.List.{count_by}
use Rattle.std.specs.Int.{bit_at}
use Rattle.std.specs.Int.Bits.{or_zero_l, or_zero_r}
use Rattle.std.proofs.lemmas.List.Recursion.{is_count_by}
use Rattle.std.proofs.lemmas.List.Sums.{sum_by-append, count_by-le-length}
use Rattle.std.proofs.lemmas.Nat.{or_comm}
use Rattle.std.proofs.lemmas.Nat.Bits.{bit_at_or, same_from_bits}
use Rattle.std.proofs.lemmas.List.{length-map}
use Rattle.std.proofs.lemmas.Simd.{adds_fit, sum-zip2, length-zip2}
use lib.Lanes.{zip2, fold_l, sum_l, Each2}
use mir.Val.{Fits}
use mir.Syntax.{w64}
use Rattle.tr_lanes.specs.Scans.{union_of}
use Rattle.tr_lanes.proofs.Blocks.{take_block, take_rest, length_block}

-- counts

add_test : (b : Bool) (n : ℕ) → cond b 1 0 + n ≡ cond b (1 + n) n
add_test true n = refl
add_test false n = omega arith

sum_tests : (p : ℕ → Bool) (xs : List ℕ) → sum_l (map (λ x. cond (p x) 1 0) xs) ≡ count_by p xs
sum_tests p = is_count_by (λ xs. sum_l (map (λ x. cond (p x) 1 0) xs)) p refl (λ x xs. add_test (p x) (sum_l (map (λ y. cond (p y) 1 0) xs)))

-- the lanes after one more block of n of k, up to m, where each row of it that counts adds 1
module _ (p : ℕ → Bool) (n k : ℕ) (xs : List ℕ) (bs : List (List ℕ)) (d : List ℕ) (c m : ℕ) (is : bs ≡ first_chunks n k xs) (h : c < k) (next : m ≡ n * c + n) (room : m ≤ length xs) (lanes held : List ℕ) (long : length lanes ≡ n) (so_far : sum_l lanes ≡ count_by p (take (n * c) xs)) (here : held ≡ map (λ x. cond (p x) 1 0) (get_or bs c d)) where
  as_long : length lanes ≡ length held
  as_long = long ∙ sym (ap length here ∙ length-map (get_or bs c d) (λ x. cond (p x) 1 0) ∙ length_block n k xs bs d c is h (omega (arith, room, next)))

  pub count_lanes : sum_l lanes + sum_l held ≡ count_by p (take m xs)
  count_lanes =
      ap (λ v. v + sum_l held) so_far ∙ ap (λ v. count_by p (take (n * c) xs) + v) (ap sum_l here ∙ sum_tests p (get_or bs c d))
      ∙ sym (sum_by-append _ (take (n * c) xs) (get_or bs c d)) ∙ ap (count_by p) (sym (take_block n k xs bs d c is h m next))

  pub lanes_fit : length xs < 2 ^ 64 → Each2 (λ a b. Fits w64 (a + b)) lanes held
  lanes_fit few = adds_fit w64 lanes held (omega (arith, few, count_lanes, count_by-le-length p (take m xs), length-take m xs))

  pub count_more : sum_l (zip2 (λ a b. a + b) lanes held) ≡ count_by p (take m xs)
  count_more = sum-zip2 lanes held as_long ∙ count_lanes

  pub length_more : length (zip2 (λ a b. a + b) lanes held) ≡ n
  length_more = length-zip2 (λ a b. a + b) lanes held as_long ∙ long

-- unions

max_assoc : (a b c : ℕ) → max (max a b) c ≡ max a (max b c)
max_assoc a b c = omega arith

or_assoc : (a b c : ℕ) → bit_or (bit_or a b) c ≡ bit_or a (bit_or b c)
or_assoc a b c = same_from_bits _ _ (λ i. bit_at_or (bit_or a b) c i ∙ ap (λ v. max v (bit_at c i)) (bit_at_or a b i) ∙ max_assoc (bit_at a i) (bit_at b i) (bit_at c i)
    ∙ sym (bit_at_or a (bit_or b c) i ∙ ap (λ v. max (bit_at a i) v) (bit_at_or b c i)))

union-append : (xs ys : List ℕ) → union_of (xs ++ ys) ≡ bit_or (union_of xs) (union_of ys)
union-append [] ys = sym (or_zero_l (union_of ys))
union-append (x ∷ xs) ys = ap (λ v. bit_or x v) (union-append xs ys) ∙ sym (or_assoc x (union_of xs) (union_of ys))

or_swap : (a b c d : ℕ) → bit_or (bit_or a b) (bit_or c d) ≡ bit_or (bit_or a c) (bit_or b d)
or_swap a b c d =
    or_assoc a b (bit_or c d)
    ∙ ap (λ v. bit_or a v) (sym (or_assoc b c d) ∙ ap (λ v. bit_or v d) (or_comm b c) ∙ or_assoc c b d)
    ∙ sym (or_assoc a c (bit_or b d))

union-zip2 : (xs ys : List ℕ) → length xs ≡ length ys → union_of (zip2 (λ a b. bit_or a b) xs ys) ≡ bit_or (union_of xs) (union_of ys)
union-zip2 [] [] e = refl
union-zip2 [] (y ∷ ys) e = absurd (omega (arith, e))
union-zip2 (x ∷ xs) [] e = absurd (omega (arith, e))
union-zip2 (x ∷ xs) (y ∷ ys) e =
    ap (λ v. bit_or (bit_or x y) v) (union-zip2 xs ys (omega (arith, e))) ∙ or_swap x y (union_of xs) (union_of ys)

pub fold_l-union : (a : ℕ) (xs : List ℕ) → fold_l (λ a b. bit_or a b) a xs ≡ bit_or a (union_of xs)
fold_l-union a [] = sym (or_zero_r a)
fold_l-union a (x ∷ xs) = fold_l-union (bit_or a x) xs ∙ or_assoc a x (union_of xs)

-- after one more block of n of k, up to m
module _ (n k : ℕ) (xs : List ℕ) (bs : List (List ℕ)) (d : List ℕ) (c m : ℕ) (is : bs ≡ first_chunks n k xs) (h : c < k) (next : m ≡ n * c + n) where
  pub union_block : (lanes : List ℕ) → m ≤ length xs → length lanes ≡ n → union_of lanes ≡ union_of (take (n * c) xs) → union_of (zip2 (λ a b. bit_or a b) lanes (get_or bs c d)) ≡ union_of (take m xs)
  union_block lanes room l e =
      union-zip2 lanes (get_or bs c d) (l ∙ sym (length_block n k xs bs d c is h (omega (arith, room, next)))) ∙ ap (λ v. bit_or v (union_of (get_or bs c d))) e
      ∙ sym (union-append (take (n * c) xs) (get_or bs c d)) ∙ ap union_of (sym (take_block n k xs bs d c is h m next))

-- after one more row of the rest
pub union_row : (xs rest : List ℕ) (m j n : ℕ) → m ≤ length xs → rest ≡ drop m xs → j < length rest → n ≡ union_of (take (length xs - length rest + j) xs) → bit_or n (get_or rest j 0) ≡ union_of (take (length xs - length rest + (j + 1)) xs)
union_row xs rest m j n le is h e =
    ap (λ v. bit_or v (get_or rest j 0)) e
    ∙ ap (λ v. bit_or (union_of (take (length xs - length rest + j) xs)) v) (sym (or_zero_r (get_or rest j 0)))
    ∙ sym (union-append (take (length xs - length rest + j) xs) (get_or rest j 0 ∷ []))
    ∙ ap union_of (sym (take_rest xs rest m j le is h))
