-- A run of workers: those of a scenario, or one for each actor of its steps, and the text of what they leave.
use Rattle.std.specs.Prelude.{◌≡◌, ◌⊎◌, ℕ, ◌<◌, ◌≤◌, ◌==◌, Bool, true, ◌&&◌, nat_le, List, [], ◌∷◌, ◌++◌, codes, length, map, sum_by, if◌then◌else◌, Result, Ok, Err}
use Rattle.tr_starts.specs.declared.starts.Start.{Start}
use Rattle.tr_starts.specs.Starts.{no_repeat, table_of}
use Rattle.tr_kernel.specs.States.{State}
use Rattle.tr_hub.specs.declared.answers.Asked.{Asked}
use Rattle.tr_hub.specs.Kept.{IsKept}
use Rattle.tr_status.specs.Writing.{IsFront}
use Rattle.tr_workers.specs.declared.receipts.Receipts.{Receipts}
use Rattle.tr_workers.specs.declared.scripts.Item.{Item}
use Rattle.tr_workers.specs.declared.scripts.Plan.TheVariants as plan
use Rattle.tr_workers.specs.declared.scripts.Repeat.TheVariants.{Times}
use Rattle.tr_workers.specs.declared.scripts.Script.{Script}
use Rattle.tr_workers.specs.declared.working.Tally.{Tally}
use Rattle.tr_workers.specs.declared.runs.RunFault.{RunFault}
use Rattle.tr_workers.specs.declared.runs.RunFault.TheVariants as run_fault
use Rattle.tr_workers.specs.Runs.{AreDone}
use Rattle.tr_workers.specs.Settled.{IsSettled}
use Rattle.tr_reading.specs.declared.faults.ScenarioFault.{ScenarioFault}
use Rattle.tr_reading.specs.declared.faults.ScenarioFault.TheVariants.{BadStart, NoMemory, Repeated, TooLarge, Unsettled}
use Rattle.tr_reading.specs.declared.scenarios.Job.{Job}
use Rattle.tr_reading.specs.declared.scenarios.Job.TheVariants.{Steps, Workers}
use Rattle.tr_reading.specs.declared.scenarios.Scenario.{Scenario}
use Rattle.tr_reading.specs.declared.steps.Step.{Step}
use Rattle.tr_scenario.specs.declared.threads.Share.{Share}
use Rattle.tr_scenario.specs.Kernels.{so_far}
use Rattle.tr_scenario.specs.Lines.{worker_line}
use Rattle.tr_scenario.specs.Printing.{IsHalt}
use Rattle.tr_scenario.specs.RunTexts.{end_text}
use Rattle.tr_scenario.specs.Serial.{Devices, HasRead, IsRefused, IsUnread}

-- Scripts

-- the event of a step, as often as it says
abbrev pub item_of_step : Step → Item
item_of_step s = record { event = s.event; repeat = Times s.times }

-- an actor's share of a single step
abbrev pub share_of : Step → Share
share_of s = record { actor = s.actor; items = item_of_step s ∷ [] }

-- a step goes to its actor's share, which comes last where it is new
abbrev pub with_step : List Share → Step → List Share
with_step [] s = share_of s ∷ []
with_step (x ∷ xs) s = if x.actor == s.actor then record { actor = x.actor; items = x.items ++ item_of_step s ∷ [] } ∷ xs else x ∷ with_step xs s

-- each step goes to its actor's share, in their order
abbrev pub with_steps : List Share → List Step → List Share
with_steps xs [] = xs
with_steps xs (s ∷ ss) = with_steps (with_step xs s) ss

-- a share as a script
abbrev pub script_of : Share → Script
script_of x = record { actor = x.actor; plan = plan.Items x.items }

-- a script for each actor, in order of first appearance
abbrev pub scripts_of : List Step → List Script
scripts_of ss = map script_of (with_steps [] ss)

-- a script for each actor of the steps, or those of the workers
abbrev pub scripts_of_job : Job → List Script
scripts_of_job (Steps steps) = scripts_of steps
scripts_of_job (Workers scripts) = scripts

-- at most 64 workers, each of another actor
abbrev pub is_manned : Job → Bool
is_manned (Steps steps) = true
is_manned (Workers scripts) = nat_le (length scripts) 64 && no_repeat (map (λ (x : Script). x.actor) scripts)

-- The text

-- what it handed back, without the answers
abbrev pub tally_of : Receipts → Tally
tally_of w = record { entries = w.entries; accepted = w.accepted; refused = w.refused; outcome = w.outcome }

-- one after the other
abbrev pub worker_lines : List Receipts → List ℕ
worker_lines [] = []
worker_lines (w ∷ ws) = worker_line w.actor (tally_of w) ++ worker_lines ws

-- the workers, the statuses, and the totals
abbrev pub workers_text : State → List Receipts → List ℕ
workers_text k ws = worker_lines ws ++ end_text (table_of k.start) (so_far k)

-- the whole text of a run that settles
abbrev pub settled_text : State → List Receipts → List ℕ
settled_text k ws = workers_text k ws ++ codes "settled\n"

-- the gate of these runs says yes to every worker at every turn
abbrev pub always : ℕ → ℕ → Bool → Type 0
always worker turn said = said ≡ true

-- what at most 64 workers leave: each has followed its script within the turns, and their entries and accepted signals are those of the journal and the table
pub record IsRun (start : Start) (scripts : List Script) (turns : ℕ) (k : State) (asked : List Asked) (ws : List Receipts) : Type 0 where
  pub few : length scripts ≤ 64
  pub begun : k.start ≡ start
  pub kept : IsKept (record { kernel = k; asked = asked })
  pub done : AreDone always turns 0 scripts ws
  pub entries : length k.journal ≡ sum_by (λ (w : Receipts). w.entries) ws
  pub accepted : k.table.accepted ≡ sum_by (λ (w : Receipts). w.accepted) ws

-- What is printed

-- the whole text of what workers leave, where it settles; else all but the line `settled`, or a front of the text, and
-- then the run halted
abbrev pub PrintsRun : {X : Type 0} → List ℕ → List ℕ → ℕ → ℕ → State → List Asked → List Receipts → Result X ScenarioFault → Type 0
PrintsRun old new failures failures_new k asked ws (Ok x) = IsSettled k asked ws × (new ≡ old ++ settled_text k ws) × (failures_new ≡ failures)
PrintsRun old new failures failures_new k asked ws (Err e) =
    (IsFront old new (settled_text k ws) × IsHalt e failures failures_new)
    ⊎ ((e ≡ Unsettled) × (IsSettled k asked ws → ⊥) × (new ≡ old ++ workers_text k ws) × (failures_new ≡ failures))

-- what a fault of a run is to the scenario
abbrev pub fault_of : RunFault → ScenarioFault
fault_of run_fault.BadStart = BadStart
fault_of run_fault.Repeated = Repeated
fault_of run_fault.NoMemory = NoMemory

-- there is no run to print: more than 64 actors, or want of memory
abbrev pub IsUnrun : List Script → ScenarioFault → Type 0
IsUnrun scripts e = ((64 < length scripts) × (e ≡ TooLarge)) ⊎ (e ≡ NoMemory)

-- the scripts are run and what is left is printed
abbrev pub RunsWorkers : {X : Type 0} → List ℕ → List ℕ → ℕ → ℕ → Start → List Script → ℕ → Result X ScenarioFault → Type 0
RunsWorkers old new failures failures_new start scripts turns (Ok x) =
    (k : State) × (asked : List Asked) × (ws : List Receipts) × IsRun start scripts turns k asked ws × PrintsRun {X = Unit {0}} old new failures failures_new k asked ws (Ok tt)
RunsWorkers old new failures failures_new start scripts turns (Err e) =
    (IsUnrun scripts e × (new ≡ old) × (failures_new ≡ failures))
    ⊎ ((k : State) × (asked : List Asked) × (ws : List Receipts) × IsRun start scripts turns k asked ws × PrintsRun {X = Unit {0}} old new failures failures_new k asked ws (Err e))

-- By what reader and writer show

-- the bytes that came are a scenario that was run by workers and printed; or they are refused, or were not read
abbrev pub RunsThreaded : {X : Type 0} → Devices → Devices → ℕ → Result X ScenarioFault → Type 0
RunsThreaded old new turns (Ok x) =
    (bytes : List ℕ) × (s : Scenario) × HasRead old new bytes s × RunsWorkers {X = Unit {0}} old.taken new.taken old.failures new.failures s.start (scripts_of_job s.job) turns (Ok tt)
RunsThreaded old new turns (Err e) =
    (bytes : List ℕ) × (IsRefused old new bytes e ⊎ (IsUnread old new bytes e
    ⊎ ((s : Scenario) × HasRead old new bytes s × RunsWorkers {X = Unit {0}} old.taken new.taken old.failures new.failures s.start (scripts_of_job s.job) turns (Err e))))
