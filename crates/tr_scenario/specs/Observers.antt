-- An observer of a run: what it knows after more calls.
use Rattle.std.specs.Prelude.{◌≡◌, List, [], ◌∷◌}
use Rattle.tr_kernel.specs.States.{State}
use Rattle.tr_model.specs.Runs.{Call}
use Rattle.tr_model.specs.Runs as runs
use Rattle.tr_scenario.specs.Kernels.{Makes, so_far}
use Rattle.tr_scenario.specs.RunTexts.{state_after, unanswered}

-- it takes note of each of them, one after the other
abbrev pub observed : {X : Type 0} → (X → runs.State → Call → X) → X → runs.State → List Call → X
observed knows x s [] = x
observed knows x s (c ∷ cs) = observed knows (knows x (unanswered s) c) (state_after s (c ∷ [])) cs

-- the calls were made, and it took note of them
pub record Observes {X : Type 0} (knows : X → runs.State → Call → X) (x x_new : X) (old new : State) (cs : List Call) : Type 0 where
  pub known : x_new ≡ observed knows x (so_far old) cs
  pub makes : Makes old new cs
