-- The blocks of a list, and a scan of them.
use Rattle.std.proofs.Common.{◌≡◌, ℕ, zero, suc, ◌+◌, ◌-◌, ◌*◌, ◌/◌, ◌<◌, ◌≤◌, Bool, true, false, nat_lt, inl, inr, Some, None, List, [], ◌∷◌, ◌++◌, length, get_or, take, drop, length-drop, get_or-drop, drop-drop, mul-zero, arith, sym, ap, ◌∙◌}
use Rattle.std.specs.Simd.{first_chunks}
use Rattle.std.specs.List.{position, position_or_len}
use Rattle.std.proofs.Math.Nat.{mul-suc}
use Rattle.std.proofs.Math.Seq.{take-add}
use Rattle.std.proofs.lemmas.Bool.{cases_lt, lt-ltb}
use Rattle.std.proofs.lemmas.Bool.Decides.{nat_tests}
use Rattle.std.proofs.lemmas.List.{take_more}
use Rattle.std.proofs.lemmas.List.Sums.{position_or_len_is}
use Rattle.std.proofs.lemmas.Simd.{run_in_chunk_fails, run_in_chunk_stops, length-chunk}
use lib.Lanes.{chunk}

-- block c of k blocks of n
pub block_at : (n k : ℕ) (xs : List ℕ) (c : ℕ) (d : List ℕ) → c < k → get_or (first_chunks n k xs) c d ≡ chunk (n * c) n xs
block_at n zero xs c d h = absurd (omega arith)
block_at n (suc k) xs zero d h = simp (mul-zero)
block_at n (suc k) xs (suc c) d h = block_at n k (drop n xs) c d (omega arith) ∙ ap (take n) (drop-drop (n * c) n xs ∙ ap (λ i. drop i xs) (omega (arith, mul-suc n c)))

-- what is left after m elements

pub rest_at : (xs rest : List ℕ) (m j : ℕ) → m ≤ length xs → rest ≡ drop m xs → get_or xs (length xs - length rest + j) 0 ≡ get_or rest j 0
rest_at xs rest m j le e =
    let l : length xs - length rest + j ≡ m + j = omega (arith, ap length e, length-drop m xs) in
    ap (λ i. get_or xs i 0) l ∙ sym (get_or-drop m xs j 0) ∙ ap (λ v. get_or v j 0) (sym e)

pub take_rest : (xs rest : List ℕ) (m j : ℕ) → m ≤ length xs → rest ≡ drop m xs → j < length rest → take (length xs - length rest + (j + 1)) xs ≡ take (length xs - length rest + j) xs ++ get_or rest j 0 ∷ []
take_rest xs rest m j le e h =
    ap (λ i. take i xs) (omega arith) ∙ take_more xs (length xs - length rest + j) 0 (omega (arith, ap length e, length-drop m xs))
    ∙ ap (λ x. take (length xs - length rest + j) xs ++ x ∷ []) (rest_at xs rest m j le e)

module _ (n k : ℕ) (xs : List ℕ) (bs : List (List ℕ)) (d : List ℕ) (c : ℕ) (is : bs ≡ first_chunks n k xs) (h : c < k) where
  pub block_is : get_or bs c d ≡ chunk (n * c) n xs
  block_is = ap (λ b. get_or b c d) is ∙ block_at n k xs c d h

  pub length_block : n * c + n ≤ length xs → length (get_or bs c d) ≡ n
  length_block room = ap length block_is ∙ length-chunk (n * c) n xs room

  -- one more block, up to m
  pub take_block : (m : ℕ) → m ≡ n * c + n → take m xs ≡ take (n * c) xs ++ get_or bs c d
  take_block m next = ap (λ i. take i xs) next ∙ take-add (n * c) n xs ∙ ap (λ v. take (n * c) xs ++ v) (sym block_is)

-- a scan that has found, and one that has not

not_below : (n : ℕ) → nat_lt n n ≡ false
not_below n = grind (arith, nat_tests)

pub position_found : (p : ℕ → Bool) (xs : List ℕ) (i : ℕ) → i < length xs → ((k : ℕ) → k < i → p (get_or xs k 0) ≡ false) → p (get_or xs i 0) ≡ true → Some i ≡ position p xs
position_found p xs i h before at =
    let e : position_or_len p xs ≡ i = position_or_len_is p xs i 0 (omega arith) before (λ _. at) in
    rw e (rw (lt-ltb i (length xs) h))

pub position_none : (p : ℕ → Bool) (xs : List ℕ) → ((k : ℕ) → k < length xs → p (get_or xs k 0) ≡ false) → None ≡ position p xs
position_none p xs before =
    let e : position_or_len p xs ≡ length xs = position_or_len_is p xs (length xs) 0 (omega arith) before (λ h. absurd (omega arith)) in
    rw e (rw (not_below (length xs)))

-- how far the scan of block c has come, where r rows of the block come before the first that passes
module _ (p : ℕ → Bool) (xs : List ℕ) (c r : ℕ) (h : c < length xs / 8) (counted : r ≡ position_or_len p (chunk (8 * c) 8 xs)) (before : (k : ℕ) → k < 8 * c → p (get_or xs k 0) ≡ false) where
  room : 8 * c + 8 ≤ length xs
  room = omega arith

  passed : (k : ℕ) → k < 8 * c + r → p (get_or xs k 0) ≡ false
  passed k lt =
      elim (cases_lt k (8 * c)) [ inl l ↦ before k l | inr g ↦ run_in_chunk_fails p xs (8 * c) 8 r 0 room counted k g lt ]

  pub passed_all : 8 ≤ r → (k : ℕ) → k < 8 * (c + 1) → p (get_or xs k 0) ≡ false
  passed_all g k lt = passed k (omega arith)

  pub stopped : r < 8 → Some (8 * c + r) ≡ position p xs
  stopped lt =
      position_found p xs (8 * c + r) (omega (arith, room)) passed (run_in_chunk_stops p xs (8 * c) 8 r 0 room counted lt)

-- one more row that does not pass
pub one_more : (p : ℕ → Bool) (xs : List ℕ) (n j : ℕ) → ((k : ℕ) → k < n + j → p (get_or xs k 0) ≡ false) → p (get_or xs (n + j) 0) ≡ false → (k : ℕ) → k < n + (j + 1) → p (get_or xs k 0) ≡ false
one_more p xs n j before here k h =
    elim (cases_lt k (n + j)) [ inl l ↦ before k l | inr g ↦ let e : n + j ≡ k = omega arith in ap (λ i. p (get_or xs i 0)) (sym e) ∙ here ]
