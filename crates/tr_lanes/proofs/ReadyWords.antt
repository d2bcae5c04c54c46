-- What each thread can take, by row and by block.
use Rattle.std.proofs.Common.{◌≡◌, ℕ, zero, suc, ◌+◌, ◌-◌, ◌*◌, ◌/◌, ◌<◌, ◌≤◌, true, false, not, ◌==◌, List, [], ◌∷◌, ◌++◌, length, get_or, take, drop, set, length-drop, arith, refl, sym, ap, ◌∙◌, bit_or, bit_and}
use Rattle.std.specs.Int.{bit_not, w64}
use Rattle.std.specs.Simd.{first_chunks}
use Rattle.std.proofs.Math.Seq.{take-add}
use Rattle.std.proofs.lemmas.Bool.Decides.{nat_tests}
use Rattle.std.proofs.lemmas.List.{take_more, take_more_set, take_all}
use Rattle.std.proofs.lemmas.Simd.{get_or-zip2, length-zip2, length-chunk, take_more_put_chunk}
use lib.Lanes.{zip2, chunk, put_chunk}
use Rattle.tr_lanes.specs.Scans.{ready_words, ready_word}
use Rattle.tr_lanes.proofs.Blocks.{block_at, rest_at}

-- a chunk of lists that are joined element by element

take-zip2 : (f : ℕ → ℕ → ℕ) (n : ℕ) (xs ys : List ℕ) → take n (zip2 f xs ys) ≡ zip2 f (take n xs) (take n ys)
take-zip2 f zero xs ys = refl
take-zip2 f (suc n) [] ys = refl
take-zip2 f (suc n) (x ∷ xs) [] = refl
take-zip2 f (suc n) (x ∷ xs) (y ∷ ys) = ap (λ v. f x y ∷ v) (take-zip2 f n xs ys)

zip2-nil : (f : ℕ → ℕ → ℕ) (xs : List ℕ) → zip2 f xs [] ≡ []
zip2-nil f [] = refl
zip2-nil f (x ∷ xs) = refl

drop-zip2 : (f : ℕ → ℕ → ℕ) (n : ℕ) (xs ys : List ℕ) → drop n (zip2 f xs ys) ≡ zip2 f (drop n xs) (drop n ys)
drop-zip2 f zero xs ys = refl
drop-zip2 f (suc n) [] ys = refl
drop-zip2 f (suc n) (x ∷ xs) [] = sym (zip2-nil f (drop n xs))
drop-zip2 f (suc n) (x ∷ xs) (y ∷ ys) = drop-zip2 f n xs ys

chunk-zip2 : (f : ℕ → ℕ → ℕ) (i n : ℕ) (xs ys : List ℕ) → chunk i n (zip2 f xs ys) ≡ zip2 f (chunk i n xs) (chunk i n ys)
chunk-zip2 f i n xs ys = ap (take n) (drop-zip2 f i xs ys) ∙ take-zip2 f n (drop i xs) (drop i ys)

chunk-ready : (i n : ℕ) (own blocked : List ℕ) (shared : ℕ) (runnable : List ℕ) → chunk i n (ready_words own blocked shared runnable) ≡ ready_words (chunk i n own) (chunk i n blocked) shared (chunk i n runnable)
chunk-ready i n own blocked shared runnable =
    chunk-zip2 (λ w r. bit_and w r) i n _ runnable
    ∙ ap (λ v. zip2 (λ w r. bit_and w r) v (chunk i n runnable)) (chunk-zip2 (λ o b. bit_and (bit_or o shared) (bit_not w64 b)) i n own blocked)

module _ (own blocked : List ℕ) (shared : ℕ) (runnable : List ℕ) (eb : length blocked ≡ length own) (er : length runnable ≡ length own) where
  length-open : length (zip2 (λ o b. bit_and (bit_or o shared) (bit_not w64 b)) own blocked) ≡ length own
  length-open = length-zip2 (λ o b. bit_and (bit_or o shared) (bit_not w64 b)) own blocked (sym eb)

  pub length-ready : length (ready_words own blocked shared runnable) ≡ length own
  length-ready = length-zip2 (λ w r. bit_and w r) _ runnable (length-open ∙ sym er) ∙ length-open

  pub get_or-ready : (i : ℕ) → i < length own → get_or (ready_words own blocked shared runnable) i 0 ≡ ready_word (get_or own i 0) (get_or blocked i 0) shared (get_or runnable i 0)
  get_or-ready i h =
      get_or-zip2 (λ w r. bit_and w r) _ runnable i 0 0 0 (omega (arith, length-open)) (omega arith)
      ∙ ap (λ v. bit_and v (get_or runnable i 0)) (get_or-zip2 (λ o b. bit_and (bit_or o shared) (bit_not w64 b)) own blocked i 0 0 0 h (omega arith))

  -- the words of block c
  pub block-ready : (os bs rs : List (List ℕ)) (d e f : List ℕ) (c : ℕ) → os ≡ first_chunks 8 (length own / 8) own → bs ≡ first_chunks 8 (length blocked / 8) blocked → rs ≡ first_chunks 8 (length runnable / 8) runnable → c < length own / 8 →
      ready_words (get_or os c d) (get_or bs c e) shared (get_or rs c f) ≡ chunk (8 * c) 8 (ready_words own blocked shared runnable)
  block-ready os bs rs d e f c io ib ir h =
      ap (λ v. ready_words v (get_or bs c e) shared (get_or rs c f)) (ap (λ b. get_or b c d) io ∙ block_at 8 (length own / 8) own c d h)
      ∙ ap (λ v. ready_words (chunk (8 * c) 8 own) v shared (get_or rs c f)) (ap (λ b. get_or b c e) ib ∙ block_at 8 (length blocked / 8) blocked c e (omega arith))
      ∙ ap (λ v. ready_words (chunk (8 * c) 8 own) (chunk (8 * c) 8 blocked) shared v) (ap (λ b. get_or b c f) ir ∙ block_at 8 (length runnable / 8) runnable c f (omega arith))
      ∙ sym (chunk-ready (8 * c) 8 own blocked shared runnable)

  -- the word of row j of the rest
  pub rest-ready : (orest brest rrest : List ℕ) (j : ℕ) → orest ≡ drop (length own / 8 * 8) own → brest ≡ drop (length blocked / 8 * 8) blocked → rrest ≡ drop (length runnable / 8 * 8) runnable → j < length orest →
      get_or (ready_words own blocked shared runnable) (length own - length orest + j) 0 ≡ ready_word (get_or orest j 0) (get_or brest j 0) shared (get_or rrest j 0)
  rest-ready orest brest rrest j io ib ir h =
      let lo : length orest ≡ length own - length own / 8 * 8 = ap length io ∙ length-drop (length own / 8 * 8) own in
      let lb : length brest ≡ length own - length own / 8 * 8 = ap length ib ∙ length-drop (length blocked / 8 * 8) blocked ∙ ap (λ n. n - n / 8 * 8) eb in
      let lr : length rrest ≡ length own - length own / 8 * 8 = ap length ir ∙ length-drop (length runnable / 8 * 8) runnable ∙ ap (λ n. n - n / 8 * 8) er in
      get_or-ready (length own - length orest + j) (omega arith)
      ∙ ap (λ v. ready_word v (get_or blocked (length own - length orest + j) 0) shared (get_or runnable (length own - length orest + j) 0)) (rest_at own orest (length own / 8 * 8) j (omega arith) io)
      ∙ ap (λ v. ready_word (get_or orest j 0) v shared (get_or runnable (length own - length orest + j) 0)) (ap (λ i. get_or blocked i 0) (omega arith) ∙ rest_at blocked brest (length blocked / 8 * 8) j (omega arith) ib)
      ∙ ap (λ v. ready_word (get_or orest j 0) (get_or brest j 0) shared v) (ap (λ i. get_or runnable i 0) (omega arith) ∙ rest_at runnable rrest (length runnable / 8 * 8) j (omega arith) ir)

-- what the test of a word says
pub ready_yes : (w v : ℕ) → w ≡ v → (v ≡ 0 → ⊥) → not (w == 0) ≡ true
ready_yes w v e h = grind (arith, nat_tests)

pub ready_no : (w v : ℕ) → w ≡ v → v ≡ 0 → not (w == 0) ≡ false
ready_no w v e h = grind (arith, nat_tests)

-- what a store of block c leaves
pub stored_block : (out ws words : List ℕ) (c : ℕ) → length ws ≡ length out → 8 * c + 8 ≤ length out → words ≡ chunk (8 * c) 8 ws → take (8 * c) out ≡ take (8 * c) ws → take (8 * (c + 1)) (put_chunk (8 * c) out words) ≡ take (8 * (c + 1)) ws
stored_block out ws words c l h e before =
    let eight : length words ≡ 8 = ap length e ∙ length-chunk (8 * c) 8 ws (omega arith) in
    take_more_put_chunk (8 * c) out words (8 * (c + 1)) (omega arith) (omega arith)
    ∙ ap (λ v. v ++ words) before ∙ ap (λ v. take (8 * c) ws ++ v) e ∙ sym (take-add (8 * c) 8 ws) ∙ ap (λ n. take n ws) (omega arith)

-- what a store of row n + j leaves
pub stored_row : (out ws : List ℕ) (w n j : ℕ) → length ws ≡ length out → n + j < length out → w ≡ get_or ws (n + j) 0 → take (n + j) out ≡ take (n + j) ws → take (n + (j + 1)) (set out (n + j) w) ≡ take (n + (j + 1)) ws
stored_row out ws w n j l h e before =
    ap (λ m. take m (set out (n + j) w)) (omega arith) ∙ take_more_set out (n + j) w h
    ∙ ap (λ v. v ++ w ∷ []) before ∙ ap (λ x. take (n + j) ws ++ x ∷ []) e
    ∙ sym (take_more ws (n + j) 0 (omega arith)) ∙ ap (λ m. take m ws) (omega arith)

pub take_whole : (out ws : List ℕ) (n : ℕ) → length out ≤ n → length ws ≤ n → take n out ≡ take n ws → out ≡ ws
take_whole out ws n h g e = sym (take_all n out h) ∙ e ∙ take_all n ws g
