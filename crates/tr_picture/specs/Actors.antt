-- The actors of a job that have lanes: those that ask for something, or that are workers.
use Rattle.std.specs.Prelude.{ℕ, ◌==◌, List, [], ◌∷◌, ◌++◌, if◌then◌else◌, map}
use Rattle.std.specs.List.{list_any}
use Rattle.tr_reading.specs.declared.scenarios.Job.{Job}
use Rattle.tr_reading.specs.declared.scenarios.Job.TheVariants.{Steps, Workers}
use Rattle.tr_reading.specs.declared.steps.Step.{Step}
use Rattle.tr_figures.specs.Calls.{is_own}

abbrev pub with_actor : List ℕ → ℕ → List ℕ
with_actor actors a = if list_any (λ b. b == a) actors then actors else actors ++ a ∷ []

-- what a thread does by itself is drawn in its own lane
abbrev pub with_step : List ℕ → Step → List ℕ
with_step actors s = if is_own s.event then actors else with_actor actors s.actor

-- in the order in which they come
abbrev pub with_steps : List ℕ → List Step → List ℕ
with_steps actors [] = actors
with_steps actors (s ∷ ss) = with_steps (with_step actors s) ss

abbrev pub job_actors : Job → List ℕ
job_actors (Steps steps) = with_steps [] steps
job_actors (Workers scripts) = map (λ s. s.actor) scripts
