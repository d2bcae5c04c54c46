-- Numbers that stand twice, met one after the other.
use Rattle.std.proofs.Common.{◌≡◌, ◌==◌, ◌<◌, ◌+◌, ◌&&◌, sym, ℕ, List, [], ◌∷◌, ◌++◌, refl, length, get_or, take, drop, cond, true, false, not, arith}
use Rattle.std.proofs.lemmas.List.{take-append-drop, take_more}
use Rattle.std.proofs.lemmas.List.Folds.{list_any-append}
use Rattle.std.proofs.lemmas.Bool.Decides.{nat_tests}
use Rattle.std.specs.Ordering.{nat_cmp}
use Rattle.std.specs.BTreeMap.{is_at}
use Rattle.std.specs.List.{list_any}
use Rattle.tr_starts.specs.Starts.{no_repeat}
use Rattle.tr_queues.proofs.Keys.{both_ways}

-- what is among the numbers once there is one more
pub seen_more : (q k : ℕ) (ns : List ℕ) → list_any (λ n. n == q) (ns ++ k ∷ []) ≡ cond (is_at (nat_cmp k) q) true (list_any (λ n. n == q) ns)
seen_more q k ns = rw (list_any-append (λ n. n == q) ns (k ∷ [])) (grind (arith, nat_tests))

-- one more number stands once where it is none of those before
pub once_more : (ns : List ℕ) (k : ℕ) → no_repeat (ns ++ k ∷ []) ≡ (no_repeat ns && not (list_any (λ n. n == k) ns))
once_more [] k = refl
once_more (n ∷ ns) k = rw (once_more ns k, list_any-append (λ m. m == n) ns (k ∷ []), both_ways k n) (grind arith)

-- numbers that stand twice do so in a longer list
pub twice_within : (ns ms : List ℕ) → no_repeat ns ≡ false → no_repeat (ns ++ ms) ≡ false
twice_within [] ms h = cc
twice_within (n ∷ ns) ms h = rw (list_any-append (λ m. m == n) ns ms) (grind (arith, twice_within ns ms))

-- a number that is among those before it stands twice
pub found_twice : (ns : List ℕ) (i : ℕ) → i < length ns → list_any (λ n. n == get_or ns i 0) (take i ns) ≡ true → no_repeat ns ≡ false
found_twice ns i h met =
    let twice : no_repeat (take (i + 1) ns) ≡ false = rw (take_more ns i 0 h, once_more (take i ns) (get_or ns i 0), met) (grind arith) in
    rw (sym (take-append-drop (i + 1) ns)) (twice_within (take (i + 1) ns) (drop (i + 1) ns) twice)
