-- The fates of accepted numbers, in order.
use Rattle.tr_model.specs.declared.fates.Fate.TheVariants.{Pending}
use Rattle.std.specs.Prelude.{ℕ, zero, suc, List, [], ◌∷◌, unwrap_or}
use Rattle.tr_model.specs.declared.fates.Ending.{Ending}
use Rattle.tr_model.specs.declared.fates.Fate.{Fate}
use Rattle.tr_model.specs.Journals.{ended_as}

-- those of k numbers from n on
abbrev pub fates_from : List Ending → ℕ → ℕ → List Fate
fates_from ended n zero = []
fates_from ended n (suc k) = unwrap_or (ended_as ended n) Pending ∷ fates_from ended (suc n) k

-- those of the first k numbers
abbrev pub fates_to : List Ending → ℕ → List Fate
fates_to ended k = fates_from ended 1 k
