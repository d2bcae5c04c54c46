-- Answers in a list, with commas between, and in lines of their own.
use Rattle.std.proofs.Common.{◌≡◌, ◌∙◌, ℕ, List, [], ◌∷◌, ◌++◌, ap, sym, append-nil, append_assoc, codes, map, Result, Ok}
use Rattle.tr_model.specs.declared.replies.Refusal.{Refusal}
use Rattle.tr_model.specs.declared.replies.Reply.{Reply}
use Rattle.tr_answers.specs.Comparisons.{Asked, answer_text, assumed_line, listed, quoted, step_text}
use Rattle.tr_answers.specs.Private.{assumed_front}

-- after the first
abbrev pub listed_after : List Reply → List ℕ
listed_after [] = []
listed_after (r ∷ rs) = codes ", " ++ (quoted (Ok r) ++ listed_after rs)

pub listed_is : (r : Reply) (rs : List Reply) → listed (map (λ r. Ok r) (r ∷ rs)) ≡ quoted (Ok r) ++ listed_after rs
listed_is r [] = sym (append-nil (quoted (Ok r)))
listed_is r (s ∷ rs) = ap (λ t. quoted (Ok r) ++ (codes ", " ++ t)) (listed_is s rs)

-- the front of a line, and then the answer that was made
pub told_line : (q : Asked) (x : Result Reply Refusal) (front : List ℕ) → front ≡ assumed_front q → front ++ (answer_text x ++ codes "`\n") ≡ assumed_line q x
told_line q x front h = ap (λ t. t ++ (answer_text x ++ codes "`\n")) h ∙ append_assoc (step_text q) (codes "assumed `") (answer_text x ++ codes "`\n")
