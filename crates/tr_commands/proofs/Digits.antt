-- What a numeral is read as.
use Rattle.std.proofs.Common.{◌≡◌, ◌∙◌, ◌<◌, ◌≤◌, ◌^◌, ℕ, Bool, List, [], ◌∷◌, true, false, ap, sym, length, nat_lt, arith, refl, if◌then◌else◌, Result, Ok, Err, Some, None}
use Rattle.std.proofs.Math.Nat.{pow-le-pow_right}
use Rattle.std.proofs.lemmas.Grind.{common_steps}
use Rattle.std.proofs.lemmas.Int.Digits.{digits_value-lt}
use Rattle.std.proofs.lemmas.Option.{none-some, same_Some}
use Rattle.std.specs.Char.{is_ascii_hexdigit, digit_value}
use Rattle.std.specs.List.{list_all}
use Rattle.std.specs.Result.{result_ok}
use Rattle.std.specs.Str.Parse.{AllDigits, IsNumeral, ParsesUnsigned, digits_value, without_leading_plus}
use Rattle.clap.specs.ValueTests.{is_unsigned_in}
use Rattle.tr_commands.specs.Asks.{is_numeral, numeral_value, count_value}

digit : (c : ℕ) → is_ascii_hexdigit c ≡ true → digit_value c < 16
digit c h = grind (arith, common_steps, h)

digits : (t : List ℕ) → list_all is_ascii_hexdigit t ≡ true → AllDigits 16 t
digits [] h = tt
digits (c ∷ cs) h = grind (arith, common_steps, digit c, digits cs, h)

no_sign : (t : List ℕ) → list_all is_ascii_hexdigit t ≡ true → without_leading_plus t ≡ t
no_sign [] h = refl
no_sign (c ∷ cs) h = grind (arith, common_steps, h)

fits : (t : List ℕ) → length t ≤ 8 → AllDigits 16 t → digits_value 16 t < 2 ^ 32
fits t h d = omega (arith, digits_value-lt 16 t d, pow-le-pow_right {n = 16} (omega arith) h)

-- a numeral has digits, and not too many
all_of : (t : List ℕ) → is_numeral t ≡ true → list_all is_ascii_hexdigit t ≡ true
all_of t h = grind (arith, common_steps, h)

least_of : (t : List ℕ) → is_numeral t ≡ true → 1 ≤ length t
least_of t h = grind (arith, common_steps, h)

most_of : (t : List ℕ) → is_numeral t ≡ true → length t ≤ 8
most_of t h = grind (arith, common_steps, h)

read_at : {E : Type 0} (t u : List ℕ) (r : Result ℕ E) → u ≡ t → is_numeral t ≡ true → ParsesUnsigned 32 16 t r → without_leading_plus t ≡ u → result_ok r ≡ Some (digits_value 16 t)
read_at t u (Ok n) e h p w = ap Some (p.1 ∙ ap (digits_value 16) (w ∙ e))
read_at t u (Err x) e h p w =
    let d = digits t (all_of t h) in
    let s = w ∙ e in
    absurd (p (rw s ((omega (arith, least_of t h), d), fits t (most_of t h) d)))

pub reads : {E : Type 0} (t : List ℕ) (r : Result ℕ E) → is_numeral t ≡ true → ParsesUnsigned 32 16 t r → result_ok r ≡ numeral_value t
reads t r h p = rw h (read_at t t r refl h p (no_sign t (all_of t h)))

-- Turns

are_digits : (ds : List ℕ) → list_all (λ d. nat_lt (digit_value d) 10) ds ≡ true → AllDigits 10 ds
are_digits [] h = tt
are_digits (d ∷ ds) h = grind (arith, common_steps, h, are_digits ds)

all_digits : (ds : List ℕ) → AllDigits 10 ds → list_all (λ d. nat_lt (digit_value d) 10) ds ≡ true
all_digits [] h = refl
all_digits (d ∷ ds) h = grind (arith, common_steps, h.0, all_digits ds h.1)

-- the test of a text, by what is read of it
is_in : (t : List ℕ) → IsNumeral 10 (without_leading_plus t) → digits_value 10 (without_leading_plus t) < 2 ^ 64 → 1 ≤ digits_value 10 (without_leading_plus t) → digits_value 10 (without_leading_plus t) ≤ 100000000 →
    is_unsigned_in 1 100000000 t ≡ true
is_in t numeral fits least most = grind (arith, common_steps, numeral.0, all_digits (without_leading_plus t) numeral.1, fits, least, most)

are_read : (t : List ℕ) → is_unsigned_in 1 100000000 t ≡ true → IsNumeral 10 (without_leading_plus t) × (digits_value 10 (without_leading_plus t) < 2 ^ 64)
are_read t h =
    let some : 0 < length (without_leading_plus t) = grind (arith, common_steps, h) in
    let digits : list_all (λ d. nat_lt (digit_value d) 10) (without_leading_plus t) ≡ true = grind (arith, common_steps, h) in
    let fits : digits_value 10 (without_leading_plus t) < 2 ^ 64 = grind (arith, common_steps, h) in
    ((some, are_digits (without_leading_plus t) digits), fits)

-- a number in range is the turns of its text
pub count_read : {E : Type 0} (t : List ℕ) (n : ℕ) (r : Result ℕ E) → result_ok r ≡ Some n → ParsesUnsigned 64 10 t r → 1 ≤ n → n ≤ 100000000 → count_value t ≡ Some n
count_read t n (Ok m) e p least most =
    let value : n ≡ digits_value 10 (without_leading_plus t) = sym (same_Some m n e) ∙ p.1 in
    rw (is_in t p.0.0 p.0.1 (omega (arith, value, least)) (omega (arith, value, most))) (ap Some (sym value))
count_read t n (Err x) e p least most = absurd (none-some n e)

-- a text that isn't read has none
turns_unless : (b : Bool) (n : ℕ) → (b ≡ true → ⊥) → (if b then Some n else None) ≡ None
turns_unless true n h = absurd (h refl)
turns_unless false n h = refl

pub count_unread : {E : Type 0} (t : List ℕ) (r : Result ℕ E) → result_ok r ≡ None → ParsesUnsigned 64 10 t r → count_value t ≡ None
count_unread t (Ok m) e p = absurd (none-some m (sym e))
count_unread t (Err x) e p = turns_unless (is_unsigned_in 1 100000000 t) (digits_value 10 (without_leading_plus t)) (λ h. p (are_read t h))
