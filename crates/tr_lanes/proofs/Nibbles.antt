-- The digits of a word, four members at a time.
use Rattle.std.proofs.Common.{◌≡◌, ℕ, zero, suc, ◌+◌, ◌*◌, ◌/◌, ◌%◌, ◌^◌, ◌<◌, cond, ◌==◌, List, [], ◌∷◌, arith, refl, sym, ap, ◌∙◌, bit_and}
use Rattle.std.specs.Int.{bit_at}
use Rattle.std.specs.Int.Bits.{mask_lt}
use Rattle.std.proofs.Math.Nat.{div-div-eq-div-mul}
use Rattle.std.proofs.lemmas.Bool.Decides.{nat_tests}
use Rattle.std.proofs.lemmas.Nat.{and_mask, pow-add}
use Rattle.std.proofs.lemmas.Nat.Bits.{bit_at-lt}
use lib.Dec.{ltb}
use lib.Lanes.{top}
use Rattle.tr_sigset.specs.Sets.{in_word}
use Rattle.tr_sigset.proofs.Members.{in_word-suc}
use Rattle.tr_lanes.specs.Digits.{member, digit_value, digit_text}

-- the text of a digit, as lanes make it
text_at : (n : ℕ) → n < 16 → ((n + 48) % 256 + cond (top 7 (cond (ltb 9 n) 255 0)) 39 0) % 256 ≡ digit_text n
text_at zero h = refl
text_at (suc zero) h = refl
text_at (suc (suc zero)) h = refl
text_at (suc (suc (suc zero))) h = refl
text_at (suc (suc (suc (suc zero)))) h = refl
text_at (suc (suc (suc (suc (suc zero))))) h = refl
text_at (suc (suc (suc (suc (suc (suc zero)))))) h = refl
text_at (suc (suc (suc (suc (suc (suc (suc zero))))))) h = refl
text_at (suc (suc (suc (suc (suc (suc (suc (suc zero)))))))) h = refl
text_at (suc (suc (suc (suc (suc (suc (suc (suc (suc zero))))))))) h = refl
text_at (suc (suc (suc (suc (suc (suc (suc (suc (suc (suc zero)))))))))) h = refl
text_at (suc (suc (suc (suc (suc (suc (suc (suc (suc (suc (suc zero))))))))))) h = refl
text_at (suc (suc (suc (suc (suc (suc (suc (suc (suc (suc (suc (suc zero)))))))))))) h = refl
text_at (suc (suc (suc (suc (suc (suc (suc (suc (suc (suc (suc (suc (suc zero))))))))))))) h = refl
text_at (suc (suc (suc (suc (suc (suc (suc (suc (suc (suc (suc (suc (suc (suc zero)))))))))))))) h = refl
text_at (suc (suc (suc (suc (suc (suc (suc (suc (suc (suc (suc (suc (suc (suc (suc zero))))))))))))))) h = refl
text_at (suc (suc (suc (suc (suc (suc (suc (suc (suc (suc (suc (suc (suc (suc (suc (suc n)))))))))))))))) h = absurd (omega arith)

bit_member : (b : ℕ) → b < 2 → b ≡ cond (b == 1) 1 0
bit_member b h = grind (arith, nat_tests)

member_is : (word n : ℕ) → n < 64 → bit_at word n ≡ member (in_word word) (n + 1)
member_is word n l = bit_member (bit_at word n) (bit_at-lt word n) ∙ ap (λ b. cond b 1 0) (sym (in_word-suc word n l))

four_bits : (x : ℕ) → x % 16 ≡ 8 * (x / 8 % 2) + 4 * (x / 4 % 2) + 2 * (x / 2 % 2) + x % 2
four_bits x = omega arith

bit_above : (word n j : ℕ) → word / 2 ^ n / 2 ^ j % 2 ≡ bit_at word (n + j)
bit_above word n j = ap (λ v. v % 2) (div-div-eq-div-mul word (2 ^ n) (2 ^ j) ∙ ap (λ m. word / m) (sym (pow-add 2 n j)))

-- the four bits from 4 k up
nibble_is : (word k : ℕ) → k < 16 → bit_and (word / 2 ^ (4 * k)) 15 ≡ digit_value (in_word word) k
nibble_is word k l =
    and_mask (word / 2 ^ (4 * k)) 4 ∙ four_bits (word / 2 ^ (4 * k))
    ∙ ap (λ v. 8 * v + 4 * (word / 2 ^ (4 * k) / 4 % 2) + 2 * (word / 2 ^ (4 * k) / 2 % 2) + word / 2 ^ (4 * k) % 2) (bit_above word (4 * k) 3 ∙ member_is word (4 * k + 3) (omega arith) ∙ ap (member (in_word word)) (omega arith))
    ∙ ap (λ v. 8 * member (in_word word) (4 * k + 4) + 4 * v + 2 * (word / 2 ^ (4 * k) / 2 % 2) + word / 2 ^ (4 * k) % 2) (bit_above word (4 * k) 2 ∙ member_is word (4 * k + 2) (omega arith) ∙ ap (member (in_word word)) (omega arith))
    ∙ ap (λ v. 8 * member (in_word word) (4 * k + 4) + 4 * member (in_word word) (4 * k + 3) + 2 * v + word / 2 ^ (4 * k) % 2) (bit_above word (4 * k) 1 ∙ member_is word (4 * k + 1) (omega arith) ∙ ap (member (in_word word)) (omega arith))
    ∙ ap (λ v. 8 * member (in_word word) (4 * k + 4) + 4 * member (in_word word) (4 * k + 3) + 2 * member (in_word word) (4 * k + 2) + v) (member_is word (4 * k) (omega arith))

pub digit_is : (word k : ℕ) → k < 16 → ((bit_and (word / 2 ^ (4 * k)) 15 + 48) % 256 + cond (top 7 (cond (ltb 9 (bit_and (word / 2 ^ (4 * k)) 15)) 255 0)) 39 0) % 256 ≡ digit_text (digit_value (in_word word) k)
digit_is word k l = text_at (bit_and (word / 2 ^ (4 * k)) 15) (mask_lt (word / 2 ^ (4 * k)) 4) ∙ ap digit_text (nibble_is word k l)

pub cons : {x y : ℕ} {xs ys : List ℕ} → x ≡ y → xs ≡ ys → x ∷ xs ≡ y ∷ ys
cons e f = cc
