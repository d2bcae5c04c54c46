-- What eight lanes give for a block of eight rows.
use Rattle.std.proofs.Common.{◌≡◌, ℕ, ◌-◌, ◌%◌, ◌^◌, suc, zero, Bool, not, ◌==◌, cond, eqb, arith, length, map, List, [], ◌∷◌, refl, sym, ap, ◌∙◌, bit_and, bit_or, lit≤}
use Rattle.std.specs.Prelude.{replicate}
use Rattle.std.specs.List.{position_or_len}
use Rattle.std.specs.Int.{trailing_zeros, bit_not, w64}
use Rattle.std.specs.Int.Bits.{and_zero_l, and_zero_r, or_zero_l}
use Rattle.std.proofs.lemmas.Bool.{eq-eqb, ne_eqb}
use Rattle.std.proofs.lemmas.List.{length-map}
use Rattle.std.proofs.lemmas.Nat.{and_assoc, and_comm, le_or_l, le_or_r}
use Rattle.std.proofs.lemmas.Simd.{bitmask_splat, zip2_splat, length-zip2, length-replicate, map-map, first_set_mask_l, tops_compared}
use lib.Lanes.{zip2, fold_l, sel_l, mask_l, top}
use Rattle.tr_lanes.specs.Scans.{ready_words, union_of}
use Rattle.tr_lanes.proofs.Sums.{fold_l-union}

length-masked : (block : List ℕ) (bit : ℕ) → length block ≡ 8 → length (zip2 (λ a b. bit_and a b) block (replicate 8 bit)) ≡ 8
length-masked block bit e = length-zip2 (λ a b. bit_and a b) block (replicate 8 bit) (e ∙ sym (length-replicate 8 bit)) ∙ e

-- the comparisons of eight rows under a mask with 0
clear_mask : (block : List ℕ) (bit : ℕ) → length block ≡ 8 →
    mask_l (map (top 63) (zip2 (λ a b. cond (a == b) (2 ^ 64 - 1) 0) (zip2 (λ a b. bit_and a b) block (replicate 8 bit)) (replicate 8 0))) % 2 ^ 64
    ≡ mask_l (map (λ row. bit_and row bit == 0) block)
clear_mask block bit e =
    bitmask_splat w64 (λ a b. a == b) (zip2 (λ a b. bit_and a b) block (replicate 8 bit)) 8 0 (length-masked block bit e) (lit≤ tt)
    ∙ ap (λ v. mask_l (map (λ x. x == 0) v)) (zip2_splat (λ a b. bit_and a b) block 8 bit e)
    ∙ ap mask_l (map-map (λ x. x == 0) (λ row. bit_and row bit) block)

pub first_clear_lane : (block : List ℕ) (bit hits : ℕ) → length block ≡ 8 → hits ≡ mask_l (map (top 63) (zip2 (λ a b. cond (a == b) (2 ^ 64 - 1) 0) (zip2 (λ a b. bit_and a b) block (replicate 8 bit)) (replicate 8 0))) % 2 ^ 64 →
    cond (eqb hits 0) 8 (trailing_zeros w64 hits) ≡ position_or_len (λ row. bit_and row bit == 0) block
first_clear_lane block bit hits e m =
    ap (λ v. cond (eqb v 0) 8 (trailing_zeros w64 v)) (m ∙ clear_mask block bit e)
    ∙ first_set_mask_l (λ row. bit_and row bit == 0) block 8 e (lit≤ tt)

-- where the rows have a bit of the mask in common, none is clear

and_zero_once : (a x bit : ℕ) → bit_and a bit ≡ 0 → bit_and (bit_and a x) bit ≡ 0
and_zero_once a x bit e = and_assoc bit a x ∙ ap (bit_and a) (and_comm x bit) ∙ sym (and_assoc x a bit) ∙ ap (λ v. bit_and v x) e ∙ and_zero_l x

and_zero_all : (a : ℕ) (rows : List ℕ) (bit : ℕ) → bit_and a bit ≡ 0 → bit_and (fold_l (λ a b. bit_and a b) a rows) bit ≡ 0
and_zero_all a [] bit e = e
and_zero_all a (x ∷ rows) bit e = and_zero_all (bit_and a x) rows bit (and_zero_once a x bit e)

pub no_clear_lane : (rows : List ℕ) (bit a : ℕ) → (bit_and (fold_l (λ a b. bit_and a b) a rows) bit ≡ 0 → ⊥) → position_or_len (λ row. bit_and row bit == 0) rows ≡ length rows
no_clear_lane [] bit a ne = refl
no_clear_lane (x ∷ rows) bit a ne =
    let clear : bit_and x bit ≡ 0 → ⊥ = λ e. ne (and_zero_all (bit_and a x) rows bit (and_assoc bit a x ∙ ap (bit_and a) e ∙ and_zero_r a)) in
    rw (ne_eqb (bit_and x bit) 0 clear) (omega (arith, no_clear_lane rows bit (bit_and a x) ne))

-- the comparisons of eight words with 0
nonzero_mask : (words : List ℕ) → length words ≡ 8 →
    mask_l (map (top 63) (zip2 (λ a b. cond (not (a == b)) (2 ^ 64 - 1) 0) words (replicate 8 0))) % 2 ^ 64
    ≡ mask_l (map (λ x. not (x == 0)) words)
nonzero_mask words e = bitmask_splat w64 (λ a b. not (a == b)) words 8 0 e (lit≤ tt)

pub first_nonzero_lane : (words : List ℕ) (hits : ℕ) → length words ≡ 8 → hits ≡ mask_l (map (top 63) (zip2 (λ a b. cond (not (a == b)) (2 ^ 64 - 1) 0) words (replicate 8 0))) % 2 ^ 64 →
    cond (eqb hits 0) 8 (trailing_zeros w64 hits) ≡ position_or_len (λ x. not (x == 0)) words
first_nonzero_lane words hits e m =
    ap (λ v. cond (eqb v 0) 8 (trailing_zeros w64 v)) (m ∙ nonzero_mask words e)
    ∙ first_set_mask_l (λ x. not (x == 0)) words 8 e (lit≤ tt)

-- where the union of the words is 0, none is another

none_but_zero : (words : List ℕ) → union_of words ≡ 0 → position_or_len (λ x. not (x == 0)) words ≡ length words
none_but_zero [] e = refl
none_but_zero (x ∷ words) e =
    let here : x ≡ 0 = omega (arith, le_or_l x (union_of words)) in
    let there : union_of words ≡ 0 = omega (arith, le_or_r x (union_of words)) in
    rw (eq-eqb x 0 here) (omega (arith, none_but_zero words there))

pub no_nonzero_lane : (words : List ℕ) → fold_l (λ a b. bit_or a b) 0 words ≡ 0 → position_or_len (λ x. not (x == 0)) words ≡ length words
no_nonzero_lane words e = none_but_zero words (sym (fold_l-union 0 words ∙ or_zero_l (union_of words)) ∙ e)

-- 1 for each of sixteen rows that has every bit of a mask

selected : (q : ℕ → Bool) (xs : List ℕ) (n a b : ℕ) → length xs ≡ n → sel_l (map q xs) (replicate n a) (replicate n b) ≡ map (λ x. cond (q x) a b) xs
selected q [] n a b e = refl
selected q (x ∷ xs) zero a b e = absurd (omega (arith, e))
selected q (x ∷ xs) (suc n) a b e = ap (λ v. cond (q x) a b ∷ v) (selected q xs n a b (omega (arith, e)))

pub held_lanes : (block : List ℕ) (bit : ℕ) → length block ≡ 16 →
    sel_l {A = ℕ} (map (top 63) (zip2 (λ a b. cond (a == b) (2 ^ 64 - 1) 0) (zip2 (λ a b. bit_and a b) block (replicate 16 bit)) (replicate 16 bit))) (replicate 16 1) (replicate 16 0)
    ≡ map (λ row. cond (bit_and row bit == bit) 1 0) block
held_lanes block bit e =
    ap (λ v. sel_l {A = ℕ} v (replicate 16 1) (replicate 16 0))
    (tops_compared w64 (λ a b. a == b) (zip2 (λ a b. bit_and a b) block (replicate 16 bit)) (replicate 16 bit)
    ∙ ap (λ v. zip2 (λ a b. a == b) v (replicate 16 bit)) (zip2_splat (λ a b. bit_and a b) block 16 bit e)
    ∙ zip2_splat (λ a b. a == b) (map (λ row. bit_and row bit) block) 16 bit (length-map block (λ row. bit_and row bit) ∙ e)
    ∙ map-map (λ x. x == bit) (λ row. bit_and row bit) block)
    ∙ selected (λ row. bit_and row bit == bit) block 16 1 0 e

zip2_maps : (f g : ℕ → ℕ) (h : ℕ → ℕ → ℕ) (xs ys : List ℕ) → zip2 h (map f xs) (map g ys) ≡ zip2 (λ x y. h (f x) (g y)) xs ys
zip2_maps f g h [] ys = refl
zip2_maps f g h (x ∷ xs) [] = refl
zip2_maps f g h (x ∷ xs) (y ∷ ys) = ap (λ v. h (f x) (g y) ∷ v) (zip2_maps f g h xs ys)

-- what eight threads can take
pub ready_lanes : (own blocked : List ℕ) (shared : ℕ) (runnable : List ℕ) → length own ≡ 8 →
    zip2 (λ a b. bit_and a b) (zip2 (λ a b. bit_and a b) (zip2 (λ a b. bit_or a b) own (replicate 8 shared)) (map (bit_not w64) blocked)) runnable ≡ ready_words own blocked shared runnable
ready_lanes own blocked shared runnable e =
    ap (λ v. zip2 (λ a b. bit_and a b) v runnable)
    (ap (λ v. zip2 (λ a b. bit_and a b) v (map (bit_not w64) blocked)) (zip2_splat (λ a b. bit_or a b) own 8 shared e)
    ∙ zip2_maps (λ o. bit_or o shared) (bit_not w64) (λ a b. bit_and a b) own blocked)
