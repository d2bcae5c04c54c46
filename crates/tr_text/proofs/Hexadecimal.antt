-- Hexadecimal digits, written from the last to the first.
use Rattle.std.proofs.Common.{◌≡◌, ◌+◌, ◌-◌, ◌/◌, ◌%◌, ◌^◌, ◌<◌, ◌≤◌, ◌==◌, ◌++◌, ◌∙◌, ℕ, zero, suc, List, [], ◌∷◌, Bool, true, false, if◌then◌else◌, length, length-append, arith, refl, ap, sym, subst, eq-eqb}
use Rattle.std.specs.Fmt.{digit_glyph, digits, digits_onto}
use Rattle.std.proofs.lemmas.Bool.{ne_eqb}

-- k digits of n at most, before a text
abbrev pub onto : ℕ → ℕ → List ℕ → List ℕ
onto k n t = digits_onto k 16 false n t

onto_append : (k n : ℕ) (a t : List ℕ) → onto k n (a ++ t) ≡ onto k n a ++ t
onto_append zero n a t = refl
onto_append (suc k) n a t = go (n / 16 == 0) (onto_append k (n / 16) (digit_glyph false (n % 16) ∷ a) t)
  where
    go : (b : Bool) → onto k (n / 16) (digit_glyph false (n % 16) ∷ (a ++ t)) ≡ onto k (n / 16) (digit_glyph false (n % 16) ∷ a) ++ t
        → (if b then digit_glyph false (n % 16) ∷ (a ++ t) else onto k (n / 16) (digit_glyph false (n % 16) ∷ (a ++ t))) ≡ (if b then digit_glyph false (n % 16) ∷ a else onto k (n / 16) (digit_glyph false (n % 16) ∷ a)) ++ t
    go true r = refl
    go false r = r

whole : (n : ℕ) (t : List ℕ) → onto 64 n t ≡ digits 16 false n ++ t
unfolding digits
whole n t = onto_append 64 n [] t

-- i digits have been written before a text, and these are left
pub record IsLeft (n : ℕ) (start : List ℕ) (room : ℕ) (i left : ℕ) (text : List ℕ) (room_left : ℕ) : Type 0 where
  pub spelled : onto (64 - i) left text ≡ onto 64 n start
  pub bounded : left < 16 ^ (8 - i)
  pub written : room_left + i ≡ room
  pub long : length text ≡ length start + i
  pub some : 0 < i → 0 < left

pub none_written : (n : ℕ) (start : List ℕ) (room : ℕ) → n < 2 ^ 32 → IsLeft n start room 0 n start room
none_written n start room l = record { spelled = refl; bounded = omega (arith, l); written = omega arith; long = omega arith; some = λ h. absurd (omega (arith, h)) }

module _ (n : ℕ) (start : List ℕ) (room i left : ℕ) (text : List ℕ) (room_left : ℕ) (h : IsLeft n start room i left text room_left) (l : i < 8) where
  step : (k : ℕ) → 64 - i ≡ suc k → (b : Bool) → (left / 16 == 0) ≡ b → onto 64 n start ≡ (if b then digit_glyph false (left % 16) ∷ text else onto k (left / 16) (digit_glyph false (left % 16) ∷ text))
  step k e b q = sym h.spelled ∙ (ap (λ (m : ℕ). onto m left text) e ∙ ap (λ (c : Bool). if c then digit_glyph false (left % 16) ∷ text else onto k (left / 16) (digit_glyph false (left % 16) ∷ text)) q)

  -- the last digit
  pub all_written : left / 16 ≡ 0 → (digit_glyph false (left % 16) ∷ text ≡ digits 16 false n ++ start)
  all_written z = sym (step (63 - i) (omega (arith, l)) true (eq-eqb (left / 16) 0 z)) ∙ whole n start

  -- one digit more
  pub one_written : (room_now : ℕ) → room_now + 1 ≡ room_left → 0 < left / 16 → IsLeft n start room (i + 1) (left / 16) (digit_glyph false (left % 16) ∷ text) room_now
  one_written room_now r some = record {
    spelled = ap (λ (m : ℕ). onto m (left / 16) (digit_glyph false (left % 16) ∷ text)) (omega (arith, l)) ∙ sym (step (63 - i) (omega (arith, l)) false (ne_eqb (left / 16) 0 (λ z. omega (arith, z, some))));
    bounded = subst (λ (e : ℕ). left / 16 < 16 ^ e) {x = 7 - i} {y = 8 - (i + 1)} (omega (arith, l)) (fewer (7 - i) (subst (λ (e : ℕ). left < 16 ^ e) {x = 8 - i} {y = suc (7 - i)} (omega (arith, l)) h.bounded));
    written = omega (arith, r, h.written);
    long = omega (arith, h.long);
    some = λ e. some;
  }
    where
      fewer : (e : ℕ) → left < 16 ^ suc e → left / 16 < 16 ^ e
      fewer e b = omega (arith, b)

  pub all_long : left / 16 ≡ 0 → length (digits 16 false n) ≡ i + 1
  all_long z = omega (arith, ap (λ (xs : List ℕ). length xs) (all_written z), length-append (digits 16 false n) start, h.long)

-- eight digits are enough
pub none_left : (n : ℕ) (start : List ℕ) (room i left : ℕ) (text : List ℕ) (room_left : ℕ) → IsLeft n start room i left text room_left → 8 ≤ i → ⊥
none_left n start room i left text room_left h l =
    let few : left < 16 ^ 0 = subst (λ (e : ℕ). left < 16 ^ e) {x = 8 - i} {y = 0} (omega (arith, l)) h.bounded in
    omega (arith, few, h.some (omega (arith, l)))
