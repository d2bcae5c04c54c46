-- Fronts of a text.
use Rattle.std.proofs.Common.{◌≡◌, ◌≤◌, ◌+◌, ◌<◌, ℕ, List, ◌++◌, ◌∙◌, ap, sym, refl, length, get_or, drop, drop-cons, add-one, append_assoc, length-append, arith, Bor}
use Rattle.tr_status.specs.Writing.{IsFront, joined}

-- what is left of a piece, and then the rest, is left of the text
pub front_within : (old mid new piece rest text : List ℕ) → mid ++ (piece ++ rest) ≡ old ++ text → length (piece ++ rest) ≤ length text → IsFront mid new piece → IsFront old new text
front_within old mid new piece rest text e s h =
    let same : new ++ (h.0 ++ rest) ≡ old ++ text = sym (append_assoc new h.0 rest) ∙ (ap (λ xs. xs ++ rest) h.1 ∙ (append_assoc mid piece rest ∙ e)) in
    let short : length (h.0 ++ rest) ≤ length text = omega (arith, length-append h.0 rest, length-append piece rest, h.2) in
    (h.0 ++ rest, same, short)

-- one piece, and the others
pub joined_at : (pieces : List (Bor (List ℕ))) (i : ℕ) (d : Bor (List ℕ)) → i < length pieces → joined (drop i pieces) ≡ (get_or pieces i d).now ++ joined (drop (i + 1) pieces)
joined_at pieces i d h = rw (drop-cons pieces i d h, add-one) refl

-- where a piece was not written whole
pub stopped_at : (old mid new : List ℕ) (pieces : List (Bor (List ℕ))) (i : ℕ) (d : Bor (List ℕ)) → i < length pieces → mid ++ joined (drop i pieces) ≡ old ++ joined pieces → length (joined (drop i pieces)) ≤ length (joined pieces) → IsFront mid new (get_or pieces i d).now → IsFront old new (joined pieces)
stopped_at old mid new pieces i d h e s f =
    front_within old mid new (get_or pieces i d).now (joined (drop (i + 1) pieces)) (joined pieces) (rw (joined_at pieces i d h) at e) (rw (joined_at pieces i d h) at s) f
