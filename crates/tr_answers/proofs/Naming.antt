-- The id that a text names, where it fits the answer to a clone.
use Rattle.std.proofs.Common.{◌≡◌, ◌≢◌, ◌⊎◌, ◌∙◌, ◌<◌, ◌^◌, ◌==◌, ℕ, List, [], ◌∷◌, ap, append-nil, sym, refl, inl, inr, length, Bool, true, false, ◌&&◌, ◌||◌, codes, decimal, Option, None, Some, MatchOption, arith, lit<, subst}
use Rattle.std.proofs.lemmas.Fmt.{decimal_injective, digits_decimal}
use Rattle.std.proofs.lemmas.List.Splits.{join_with_byte-slice_split, slice_split-cons_no, slice_split_first, slice_split_none}
use Rattle.std.proofs.lemmas.List.Sums.{fails_before_first}
use Rattle.std.proofs.lemmas.Bool.{and_parts, ne_eqb}
use Rattle.std.proofs.lemmas.Str.Pattern.{IsSplitOnceResult, split_once_first}
use Rattle.std.specs.Borrow.{Bor}
use Rattle.std.proofs.lemmas.Slice.Eq.{bytes_eq-Decides}
use Rattle.std.proofs.lemmas.Str.Parse.{numerals_by_value, tells_digits}
use Rattle.std.specs.Int.{IsInRange}
use Rattle.std.specs.List.{after_first, join_with_byte, onto_first, position_or_len}
use Rattle.std.specs.Str.{bytes_eq}
use Rattle.std.specs.Str.Parse.{AllDigits}
use Rattle.tr_model.specs.declared.replies.Reply.TheVariants.{Cloned}
use Rattle.tr_oracle.specs.Expected.{FitsEachClone, IsNamed}
use Rattle.tr_scenario.specs.Replies.{reply_text}
use Rattle.tr_answers.specs.Comparisons.{is_expected}
use Rattle.tr_answers.specs.Fits.{any_word, fit, fits, fits_word, words}

-- The words of the answer to a clone

not_blank : (c : ℕ) → IsInRange 48 57 c → (c == 32) ≡ false
not_blank c h = ne_eqb c 32 (λ e. omega (arith, h.0, e))

one_word : (ds : List ℕ) → AllDigits 10 ds → words ds ≡ ds ∷ []
one_word [] h = refl
one_word (c ∷ cs) h =
    let p = tells_digits.parts c cs h in
    slice_split-cons_no (λ b. b == 32) c cs (not_blank c p.0) ∙ ap (onto_first c) (one_word cs p.1)

clone_words : (id : ℕ) → id < 2 ^ 32 → words (reply_text (Cloned id)) ≡ codes "cloned" ∷ decimal id ∷ []
clone_words id small =
    let digits = digits_decimal (numerals_by_value (AllDigits 10) tells_digits) id (omega arith) in
    ap (λ ws. codes "cloned" ∷ ws) (ap words (append-nil (decimal id)) ∙ one_word (decimal id) digits)

-- Texts that fit it

never : (a : Bool) → (a && false) ≡ true → ⊥
never true h = cc
never false h = cc

last_word : (ws : List (List ℕ)) (d : List ℕ) → fit ws (d ∷ []) ≡ true → (w : List ℕ) × (ws ≡ w ∷ []) × (fits_word w d ≡ true)
last_word [] d h = cc
last_word (w ∷ []) d h = (w, refl, (and_parts (fits_word w d) true h).0)
last_word (w ∷ v ∷ ws) d h = absurd (never (fits_word w d) h)

any_or_same : (a b : Bool) → (a || b) ≡ true → a ≡ false → b ≡ true
any_or_same true b h k = cc
any_or_same false b h k = h

fits_clone : (e : List ℕ) (ws : List (List ℕ)) (id : ℕ) → id < 2 ^ 32 → words e ≡ ws → fits e (reply_text (Cloned id)) ≡ fit ws (codes "cloned" ∷ decimal id ∷ [])
fits_clone e ws id small is = ap (λ vs. fit vs (words (reply_text (Cloned id)))) is ∙ ap (fit ws) (clone_words id small)

-- a text of one word fits no clone
pub one_names_none : (e : List ℕ) → position_or_len (λ b. b == 32) e ≡ length e → IsNamed (is_expected (Some e)) None
one_names_none e none = λ id small h.
    let one : words e ≡ e ∷ [] = slice_split_none (λ b. b == 32) e (λ k d more. fails_before_first (λ b. b == 32) e k d (omega (arith, none, more))) in
    absurd (never (fits_word e (codes "cloned")) (sym (fits_clone e (e ∷ []) id small one) ∙ h))

open_word : (a b : Bool) → a ≡ true → (a || b) ≡ true
open_word true b h = refl
open_word false b h = cc

both : (a b : Bool) → a ≡ true → b ≡ true → (a && (b && true)) ≡ true
both true true h k = refl
both true false h k = cc
both false b h k = cc

each_clone : (e front w : List ℕ) → words e ≡ front ∷ w ∷ [] → fits_word front (codes "cloned") ≡ true → any_word w ≡ true → FitsEachClone (is_expected (Some e))
each_clone e front w two here any = λ id small.
    fits_clone e (front ∷ w ∷ []) id small two ∙ both (fits_word front (codes "cloned")) (fits_word w (decimal id)) here (open_word (any_word w) (bytes_eq w (decimal id)) any)

-- of two words the second is the id, or any word
pub second_names : (e front rest : List ℕ) (r : Option ℕ) → words e ≡ front ∷ words rest → ((n : ℕ) → n < 2 ^ 32 → rest ≡ decimal n → r ≡ Some n) → IsNamed (is_expected (Some e)) r
second_names e front rest r parts named = λ id small h.
    let g = sym (fits_clone e (front ∷ words rest) id small parts) ∙ h in
    let fitting = and_parts (fits_word front (codes "cloned")) (fit (words rest) (decimal id ∷ [])) g in
    let here = fitting.0 in
    let l = last_word (words rest) (decimal id) fitting.1 in
    by_last id small here l.0 l.1 l.2 (any_word l.0) refl
  where
    by_last : (id : ℕ) → id < 2 ^ 32 → fits_word front (codes "cloned") ≡ true → (w : List ℕ) → words rest ≡ w ∷ [] → fits_word w (decimal id) ≡ true → (b : Bool) → any_word w ≡ b → (r ≡ Some id) ⊎ FitsEachClone (is_expected (Some e))
    by_last id small here w one h true any = inr (each_clone e front w (parts ∙ ap (λ ws. front ∷ ws) one) here any)
    by_last id small here w one h false any =
        let same = (bytes_eq-Decides w (decimal id)).0 (any_or_same (any_word w) (bytes_eq w (decimal id)) h any) in
        inl (named id small (sym (join_with_byte-slice_split 32 rest) ∙ (ap (join_with_byte 32) one ∙ same)))

-- As `split_once` cuts the text

pub names_none : (e copy : List ℕ) (r : Option (Bor (List ℕ) × Bor (List ℕ))) → copy ≡ e → IsSplitOnceResult 32 copy r → r ≡ None → IsNamed (is_expected (Some e)) None
names_none e copy r same cut none = subst (λ t. IsNamed (is_expected (Some t)) None) same (one_names_none copy (rw none at (split_once_first 32 copy r cut (lit< tt))))

number_named : (rest : List ℕ) (m : Option ℕ) → MatchOption m ((n : ℕ) → n < 2 ^ 32 → rest ≢ decimal n) (λ n. (n < 2 ^ 32) × (rest ≡ decimal n)) → (n : ℕ) → n < 2 ^ 32 → rest ≡ decimal n → m ≡ Some n
number_named rest None other n small is = absurd (other n small is)
number_named rest (Some m) here n small is = ap (λ k. Some k) (decimal_injective m n (omega (arith, here.0)) (omega (arith, small)) (sym here.1 ∙ is))

pub names_second : (e copy : List ℕ) (r : Option (Bor (List ℕ) × Bor (List ℕ))) (x : Bor (List ℕ) × Bor (List ℕ)) (m : Option ℕ) → copy ≡ e → IsSplitOnceResult 32 copy r → r ≡ Some x →
    MatchOption m ((n : ℕ) → n < 2 ^ 32 → x.1.now ≢ decimal n) (λ n. (n < 2 ^ 32) × (x.1.now ≡ decimal n)) → IsNamed (is_expected (Some e)) m
names_second e copy r x m same cut some number =
    let at = rw some at (split_once_first 32 copy r cut (lit< tt)) in
    let parts : words copy ≡ x.0.now ∷ words x.1.now = slice_split_first (λ b. b == 32) copy 0 at.0 ∙ (ap (λ w. w ∷ words (after_first (λ b. b == 32) copy)) (sym at.1) ∙ ap (λ t. x.0.now ∷ words t) (sym at.2)) in
    subst (λ t. IsNamed (is_expected (Some t)) m) same (second_names copy x.0.now x.1.now m parts (number_named x.1.now m number))
