-- The text of a tag that was pushed.
use Rattle.std.proofs.Common.{◌≡◌, ◌∙◌, ℕ, List, [], ◌∷◌, ◌++◌, ap, sym, append_assoc}
use Rattle.tr_status.specs.Texts.{texts}
use Rattle.tr_figures.specs.Elements.{Attribute, Close, Elements, Open, none, pieces, printed, tag, token_pieces, tokens}
use Rattle.tr_figures.proofs.Printed.{pieces_append, texts_append}

pub pushed_tag : (old first second new : List ℕ) (n : List ℕ) (attrs : List Attribute) (inside : Elements) → first ≡ old ++ texts (token_pieces (Open n attrs)) → second ≡ first ++ printed inside →
    new ≡ second ++ texts (token_pieces (Close n)) → new ≡ old ++ printed (tag n attrs inside none)
pushed_tag old first second new n attrs inside h1 h2 h3 =
    let begin : List (List ℕ) = token_pieces (Open n attrs) in
    let end : List (List ℕ) = token_pieces (Close n) in
    let middle : List (List ℕ) = pieces (tokens inside) in
    h3
    ∙ ap (λ p. p ++ texts end) (h2 ∙ ap (λ p. p ++ texts middle) h1)
    ∙ append_assoc (old ++ texts begin) (texts middle) (texts end)
    ∙ append_assoc old (texts begin) (texts middle ++ texts end)
    ∙ ap (λ p. old ++ (texts begin ++ p)) (sym (texts_append middle end))
    ∙ ap (λ p. old ++ p) (sym (texts_append begin (middle ++ end)))
    ∙ ap (λ ps. old ++ texts (begin ++ ps)) (sym (pieces_append (tokens inside) (Close n ∷ [])))
