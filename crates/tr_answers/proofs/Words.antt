-- Texts that fit, word by word.
use Rattle.std.proofs.Common.{◌≡◌, ◌≢◌, ◌∙◌, true≢false, ◌==◌, ℕ, List, [], ◌∷◌, ap, sym, refl, length, Bool, true, false, ◌&&◌, ◌||◌, ◌+◌, ◌<◌, ◌≤◌, Decides, arith, drop, take, take_all, not, nat_lt, ltb-true, ltb-false}
use Rattle.std.proofs.lemmas.Bool.{and_parts, or_parts}
use Rattle.std.proofs.lemmas.Bool.Decides.{Decides-eqb, same_from_decides}
use Rattle.std.proofs.lemmas.List.Splits.{join_with_byte-slice_split, slice_split-cons_no, slice_split-cons_yes, slice_split_first}
use Rattle.std.proofs.lemmas.List.Sums.{prefix_len-le-length}
use Rattle.std.proofs.lemmas.Slice.Eq.{bytes_eq-Decides}
use Rattle.std.specs.List.{join_with_byte, list_any, onto_first, position_or_len}
use Rattle.std.specs.Str.{bytes_eq}
use Rattle.tr_answers.specs.Fits.{any_word, fit, fits, fits_word, is_open, words}

-- Word by word

abbrev is_space : ℕ → Bool
is_space b = b == 32

more_words : (t : List ℕ) → position_or_len is_space t < length t → words t ≡ take (position_or_len is_space t) t ∷ words (drop (position_or_len is_space t + 1) t)
more_words t h = slice_split_first is_space t 0 h

one_word : (t : List ℕ) → position_or_len is_space t ≡ length t → words t ≡ t ∷ []
one_word [] h = refl
one_word (x ∷ xs) h = go (x == 32) refl (one_word xs)
  where
    go : (b : Bool) → (x == 32) ≡ b → (position_or_len is_space xs ≡ length xs → words xs ≡ xs ∷ []) → words (x ∷ xs) ≡ (x ∷ xs) ∷ []
    go true e k = let none = rw e at h in absurd (omega (arith, none))
    go false e k = let rest = rw e at h in slice_split-cons_no is_space x xs e ∙ ap (onto_first x) (k (omega (arith, rest)))

words_are_some : (u : List ℕ) → (w : List ℕ) × (ws : List (List ℕ)) × (words u ≡ w ∷ ws)
words_are_some [] = ([], [], refl)
words_are_some (x ∷ xs) = by (x == 32) refl (words_are_some xs)
  where
    by : (b : Bool) → (x == 32) ≡ b → (w : List ℕ) × (ws : List (List ℕ)) × (words xs ≡ w ∷ ws) → (w : List ℕ) × (ws : List (List ℕ)) × (words (x ∷ xs) ≡ w ∷ ws)
    by true e r = ([], words xs, slice_split-cons_yes is_space x xs e)
    by false e r = (x ∷ r.0, r.1, slice_split-cons_no is_space x xs e ∙ ap (onto_first x) r.2)

-- the first word, and what follows it
record Begins (t : List ℕ) : Type 0 where
  rest : List (List ℕ)
  whole : words t ≡ take (position_or_len is_space t) t ∷ rest
  none : position_or_len is_space t ≡ length t → rest ≡ []
  some : position_or_len is_space t < length t → (w : List ℕ) × (ws : List (List ℕ)) × (rest ≡ w ∷ ws)

begins : (t : List ℕ) → Begins t
begins t = go (nat_lt (position_or_len is_space t) (length t)) refl
  where
    at_most : position_or_len is_space t ≤ length t
    at_most = prefix_len-le-length (λ x. not (is_space x)) t

    go : (b : Bool) → nat_lt (position_or_len is_space t) (length t) ≡ b → Begins t
    go true e =
        let less : position_or_len is_space t < length t = ltb-true (position_or_len is_space t) (length t) e in
        record {
          rest = words (drop (position_or_len is_space t + 1) t);
          whole = more_words t less;
          none = λ k. absurd (omega (arith, less, k));
          some = λ k. words_are_some (drop (position_or_len is_space t + 1) t);
        }
    go false e =
        let all : position_or_len is_space t ≡ length t = omega (arith, at_most, ltb-false (position_or_len is_space t) (length t) e) in
        record {
          rest = [];
          whole = one_word t all ∙ ap (λ w. w ∷ []) (sym (take_all (position_or_len is_space t) t (omega (arith, all))));
          none = λ k. refl;
          some = λ k. absurd (omega (arith, all, k));
        }

-- the first word doesn't fit
pub misfit : (e t : List ℕ) (i j : ℕ) → i ≡ position_or_len is_space e → j ≡ position_or_len is_space t → fits_word (take i e) (take j t) ≡ false → fits e t ≡ false
misfit e t i j p q h = let a = begins e in let b = begins t in rw (a.whole, b.whole, rw (p, q) at h) refl

-- it does, and no word is left in either text
pub both_end : (e t : List ℕ) (i j : ℕ) → i ≡ position_or_len is_space e → j ≡ position_or_len is_space t → fits_word (take i e) (take j t) ≡ true → i ≡ length e → j ≡ length t → fits e t ≡ true
both_end e t i j p q h k l = let a = begins e in let b = begins t in rw (a.whole, b.whole, rw (p, q) at h, a.none (sym p ∙ k), b.none (sym q ∙ l)) refl

-- it does, and words are left in one text alone
pub expected_goes_on : (e t : List ℕ) (i j : ℕ) → i ≡ position_or_len is_space e → j ≡ position_or_len is_space t → fits_word (take i e) (take j t) ≡ true → i < length e → j ≡ length t → fits e t ≡ false
expected_goes_on e t i j p q h k l = let a = begins e in let b = begins t in let more = a.some (omega (arith, p, k)) in rw (a.whole, b.whole, rw (p, q) at h, more.2, b.none (sym q ∙ l)) refl

pub text_goes_on : (e t : List ℕ) (i j : ℕ) → i ≡ position_or_len is_space e → j ≡ position_or_len is_space t → fits_word (take i e) (take j t) ≡ true → i ≡ length e → j < length t → fits e t ≡ false
text_goes_on e t i j p q h k l = let a = begins e in let b = begins t in let more = b.some (omega (arith, q, l)) in rw (a.whole, b.whole, rw (p, q) at h, a.none (sym p ∙ k), more.2) refl

-- it does, and is the last one that is expected
pub last_word : (e t : List ℕ) (i j : ℕ) → i ≡ position_or_len is_space e → j ≡ position_or_len is_space t → fits_word (take i e) (take j t) ≡ true → i ≡ length e → j ≤ length t → (j == length t) ≡ fits e t
last_word e t i j p q h k l = go (j == length t) refl
  where
    go : (b : Bool) → (j == length t) ≡ b → b ≡ fits e t
    go true f = sym (both_end e t i j p q h k ((Decides-eqb j (length t)).0 f))
    go false f =
        let apart : j ≢ length t = λ m. true≢false (sym ((Decides-eqb j (length t)).1 m) ∙ f) in
        sym (text_goes_on e t i j p q h k (omega (arith, l, apart)))

-- it does, and the next words decide
pub next_words : (e t : List ℕ) (i j : ℕ) → i ≡ position_or_len is_space e → j ≡ position_or_len is_space t → fits_word (take i e) (take j t) ≡ true → i < length e → j < length t
    → fits e t ≡ fits (drop (i + 1) e) (drop (j + 1) t)
next_words e t i j p q h k l = rw (more_words e (omega (arith, p, k)), more_words t (omega (arith, q, l)), p, q, rw (p, q) at h) refl

-- Where no word is open, the text itself

same_words : (es ws : List (List ℕ)) → list_any any_word es ≡ false → fit es ws ≡ true → es ≡ ws
same_words [] [] closed h = refl
same_words [] (w ∷ ws) closed h = cc
same_words (e ∷ es) [] closed h = cc
same_words (e ∷ es) (w ∷ ws) closed h =
    let none = or_parts (any_word e) (list_any any_word es) closed in
    let fitting = and_parts (fits_word e w) (fit es ws) h in
    let word : bytes_eq e w ≡ true = rw none.0 at fitting.0 in
    let same : e ≡ w = (bytes_eq-Decides e w).0 word in
    let rest : es ≡ ws = same_words es ws none.1 fitting.1 in
    λ i. same i ∷ rest i

either_true : (b : Bool) → (b || true) ≡ true
either_true true = refl
either_true false = refl

fits_itself : (ws : List (List ℕ)) → fit ws ws ≡ true
fits_itself [] = refl
fits_itself (w ∷ ws) =
    let same : bytes_eq w w ≡ true = (bytes_eq-Decides w w).1 refl in
    let word : fits_word w w ≡ true = ap (λ b. any_word w || b) same ∙ either_true (any_word w) in
    ap (λ b. b && fit ws ws) word ∙ fits_itself ws

fits_closed : (expected text : List ℕ) → is_open expected ≡ false → Decides (fits expected text) (expected ≡ text)
fits_closed expected text closed = (
  λ h. sym (join_with_byte-slice_split 32 expected) ∙ (ap (join_with_byte 32) (same_words (words expected) (words text) closed h) ∙ join_with_byte-slice_split 32 text),
  λ e. ap (λ t. fits expected t) (sym e) ∙ fits_itself (words expected),
)

pub closed_fits : (expected text : List ℕ) → is_open expected ≡ false → bytes_eq expected text ≡ fits expected text
closed_fits expected text closed = same_from_decides (bytes_eq expected text) (fits expected text) (bytes_eq-Decides expected text) (fits_closed expected text closed)
