-- That something is told of whatever is refused.
use Rattle.std.specs.Prelude.{◌≡◌, ◌==◌, ℕ, List, Bool, true, Result, is_err}
use Rattle.std.specs.List.{list_any}
use Rattle.serde_json.specs.Data.{Data}
use Rattle.tr_reading.specs.declared.faults.ScenarioFault.{ScenarioFault}
use Rattle.tr_reading.specs.Groups.{action_of, group_of, thread_of}
use Rattle.tr_reading.specs.Scenarios.{walk}
use Rattle.tr_reading.specs.Steps.{step_of}
use Rattle.tr_reading.specs.Workers.{item_of, op_of, served_of, worker_of}
use Rattle.tr_mistakes.specs.Events.{item_mistake, op_mistake, step_mistake}
use Rattle.tr_mistakes.specs.Groups.{action_mistake, group_mistake, thread_mistake}
use Rattle.tr_mistakes.specs.Scenarios.{scenario_mistake}
use Rattle.tr_mistakes.specs.Workers.{served_mistake, worker_mistake}

-- a colon stands before what is wanted
abbrev pub has_words : List ℕ → Bool
has_words mistake = list_any (λ b. b == 58) mistake

-- of each value that the reading refuses it is told what is wanted
abbrev pub Tells : {A : Type 0} → (Data → Result A ScenarioFault) → (Data → List ℕ) → Type 0
Tells read mistake = (d : Data) → is_err (read d) ≡ true → has_words (mistake d) ≡ true

-- of whatever a scenario has
pub record IsAllTold : Type 0 where
  pub threads : Tells thread_of thread_mistake
  pub actions : Tells action_of action_mistake
  pub groups : Tells group_of group_mistake
  pub steps : Tells step_of step_mistake
  pub items : Tells item_of item_mistake
  pub ops : Tells op_of op_mistake
  pub machines : Tells served_of served_mistake
  pub workers : Tells worker_of worker_mistake
  pub scenarios : Tells walk scenario_mistake
