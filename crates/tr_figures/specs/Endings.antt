-- How the signals ended that a call ended.
use Rattle.std.specs.Prelude.{ℕ, ◌+◌, List, [], ◌∷◌, ◌++◌, codes, decimal, length}
use Rattle.tr_model.specs.declared.fates.Ending.{Ending}
use Rattle.tr_scenario.specs.Replies.{fate_text}
use Rattle.tr_figures.specs.declared.styles.Style.TheVariants as style
use Rattle.tr_figures.specs.Elements.{Elements, none, words}

-- its number and its fate
abbrev pub ending_words : Ending → List (List ℕ)
ending_words e = decimal e.number ∷ codes " " ∷ fate_text e.fate ∷ []

-- how many more
abbrev pub more_words : List Ending → List (List ℕ)
more_words [] = []
more_words (e ∷ es) = codes " +" ∷ decimal (length es + 1) ∷ []

-- the first two, and how many more
abbrev pub endings_words : List Ending → List (List ℕ)
endings_words [] = []
endings_words (e ∷ []) = ending_words e
endings_words (e ∷ f ∷ es) = ending_words e ++ codes ", " ∷ (ending_words f ++ more_words es)

-- below the answer of the call, if it ended some
abbrev pub endings_cell : ℕ → List Ending → Elements
endings_cell y [] = none
endings_cell y (e ∷ es) = words style.Waiting 312 y (endings_words (e ∷ es))
