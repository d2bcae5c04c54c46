-- The text of elements, from its parts; and that each tag is closed where it is opened.
use Rattle.std.proofs.Common.{◌≡◌, ◌∙◌, ℕ, Bool, true, if◌then◌else◌, List, [], ◌∷◌, ◌++◌, ap, sym, refl, append_assoc, append-nil, codes, decimal, map, Some, None, OnOk, Result, Ok, Err}
use Rattle.std.specs.declared.alloc.AllocError.{AllocError}
use Rattle.std.specs.Str.{bytes_eq}
use Rattle.std.proofs.lemmas.Slice.Eq.{bytes_eq-Decides}
use Rattle.tr_status.specs.Texts.{texts}
use Rattle.tr_figures.specs.declared.styles.Style.{Style}
use Rattle.tr_figures.specs.Styles.{style_name}
use Rattle.tr_figures.specs.Elements.{AreBalanced, Characters, Close, Elements, Open, Token, both, escaped, none, pieces, printed, reads, rect, tag, text, token_pieces, tokens, words, words_begin}

-- Texts

pub texts_append : (xs ys : List (List ℕ)) → texts (xs ++ ys) ≡ texts xs ++ texts ys
texts_append [] ys = refl
texts_append (x ∷ xs) ys = ap (λ t. x ++ t) (texts_append xs ys) ∙ sym (append_assoc x (texts xs) (texts ys))

pub pieces_append : (xs ys : List Token) → pieces (xs ++ ys) ≡ pieces xs ++ pieces ys
pieces_append [] ys = refl
pieces_append (x ∷ xs) ys = ap (λ ps. token_pieces x ++ ps) (pieces_append xs ys) ∙ sym (append_assoc (token_pieces x) (pieces xs) (pieces ys))

tokens_both : (xs ys : Elements) → tokens (both xs ys) ≡ tokens xs ++ tokens ys
tokens_both none ys = refl
tokens_both (text t more) ys = ap (λ ts. Characters t ∷ ts) (tokens_both more ys)
tokens_both (tag n attrs inside more) ys =
    ap (λ ts. Open n attrs ∷ (tokens inside ++ Close n ∷ ts)) (tokens_both more ys)
    ∙ ap (λ ts. Open n attrs ∷ ts) (sym (append_assoc (tokens inside) (Close n ∷ tokens more) (tokens ys)))

-- of elements and of those after them
pub printed_both : (xs ys : Elements) → printed (both xs ys) ≡ printed xs ++ printed ys
printed_both xs ys =
    ap (λ ts. texts (pieces ts)) (tokens_both xs ys)
    ∙ (ap texts (pieces_append (tokens xs) (tokens ys)) ∙ texts_append (pieces (tokens xs)) (pieces (tokens ys)))

-- Pieces that were pushed one after the other

pub pushed_both : (old mid new : List ℕ) (xs ys : Elements) → mid ≡ old ++ printed xs → new ≡ mid ++ printed ys → new ≡ old ++ printed (both xs ys)
pushed_both old mid new xs ys first second =
    second ∙ (ap (λ p. p ++ printed ys) first ∙ (append_assoc old (printed xs) (printed ys) ∙ ap (λ t. old ++ t) (sym (printed_both xs ys))))

pub pushed_none : (old new : List ℕ) → new ≡ old → new ≡ old ++ printed none
pushed_none old new h = h ∙ sym (append-nil old)

pub pushed_words : (old first second new : List ℕ) (s : Style) (x y : ℕ) (t : List (List ℕ)) → first ≡ old ++ texts (words_begin s x y) → second ≡ first ++ texts (map escaped t) → new ≡ second ++ codes "</text>\n" → new ≡ old ++ printed (words s x y t)
pushed_words old first second new s x y t h1 h2 h3 =
    let begin : List (List ℕ) = words_begin s x y in
    let inside : List (List ℕ) = map escaped t in
    let end : List ℕ = codes "</text>\n" in
    let end_pieces : List (List ℕ) = codes "</" ∷ codes "text" ∷ codes ">\n" ∷ [] in
    h3
    ∙ ap (λ p. p ++ end) (h2 ∙ ap (λ p. p ++ texts inside) h1)
    ∙ append_assoc (old ++ texts begin) (texts inside) end
    ∙ append_assoc old (texts begin) (texts inside ++ end)
    ∙ ap (λ p. old ++ (texts begin ++ p)) (sym (texts_append inside end_pieces))
    ∙ ap (λ p. old ++ p) (sym (texts_append begin (inside ++ end_pieces)))

pub outlined : {X : Type 0} (old new b0 b1 b2 b3 b4 : List ℕ) (s : Style) (x y w h : ℕ) (r : Result X AllocError) → b0 ≡ style_name s → b1 ≡ decimal x → b2 ≡ decimal y → b3 ≡ decimal w → b4 ≡ decimal h →
    OnOk r (new ≡ old ++ texts (codes "<path class=\"" ∷ b0 ∷ codes "\" d=\"M" ∷ b1 ∷ codes " " ∷ b2 ∷ codes "h" ∷ b3 ∷ codes "v" ∷ b4 ∷ codes "H" ∷ b1 ∷ codes "z\"></path>\n" ∷ [])) → OnOk r (new ≡ old ++ printed (rect s x y w h))
outlined old new b0 b1 b2 b3 b4 s x y w h (Ok v) e0 e1 e2 e3 e4 p =
    p ∙ (λ i. old ++ texts (codes "<path class=\"" ∷ e0 i ∷ codes "\" d=\"M" ∷ e1 i ∷ codes " " ∷ e2 i ∷ codes "h" ∷ e3 i ∷ codes "v" ∷ e4 i ∷ codes "H" ∷ e1 i ∷ codes "z\"></path>\n" ∷ []))
outlined old new b0 b1 b2 b3 b4 s x y w h (Err e) e0 e1 e2 e3 e4 p = tt

-- Balance

same_name : (n : List ℕ) → bytes_eq n n ≡ true
same_name n = (bytes_eq-Decides n n).1 refl

-- after elements a reader has open what it had open before
pub balanced : (es : Elements) (rest : List Token) (names : List (List ℕ)) → reads (tokens es ++ rest) (Some names) ≡ reads rest (Some names)
balanced none rest names = refl
balanced (text t more) rest names = balanced more rest names
balanced (tag n attrs inside more) rest names =
    ap (λ ts. reads ts (Some (n ∷ names))) (append_assoc (tokens inside) (Close n ∷ tokens more) rest)
    ∙ (balanced inside (Close n ∷ (tokens more ++ rest)) (n ∷ names)
    ∙ (ap (λ (b : Bool). reads (tokens more ++ rest) (if b then Some names else None)) (same_name n) ∙ balanced more rest names))

pub are_balanced : AreBalanced
are_balanced es names = ap (λ ts. reads ts (Some names)) (sym (append-nil (tokens es))) ∙ balanced es [] names
