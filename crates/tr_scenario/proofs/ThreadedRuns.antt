-- A run of workers, from its parts.
use Rattle.std.proofs.Common.{◌≡◌, ◌⊎◌, ℕ, true, List, ◌++◌, ◌∙◌, ap, refl, inl, inr, length, append_assoc, codes, Result, Ok, Err}
use Rattle.tr_starts.specs.declared.starts.Start.{Start}
use Rattle.tr_kernel.specs.States.{State}
use Rattle.tr_hub.specs.declared.answers.Asked.{Asked}
use Rattle.tr_status.specs.Writing.{IsFront}
use Rattle.tr_workers.specs.declared.receipts.Receipts.{Receipts}
use Rattle.tr_workers.specs.declared.runs.RunFault.{RunFault}
use Rattle.tr_workers.specs.declared.runs.RunFault.TheVariants as run_fault
use Rattle.tr_workers.specs.declared.scripts.Script.{Script}
use Rattle.tr_workers.specs.Settled.{IsSettled}
use Rattle.tr_reading.specs.declared.faults.ScenarioFault.{ScenarioFault}
use Rattle.tr_reading.specs.declared.faults.ScenarioFault.TheVariants.{NoMemory, Unsettled}
use Rattle.tr_reading.specs.declared.scenarios.Scenario.{Scenario}
use Rattle.tr_scenario.specs.Printing.{IsHalt, Prints}
use Rattle.tr_reading.specs.Scenarios.{scenario_of}
use Rattle.tr_scenario.specs.Sources.{Came, IsSound, Shown}
use Rattle.tr_scenario.specs.Threaded.{IsRun, PrintsRun, RunsThreaded, RunsWorkers, fault_of, scripts_of_job, workers_text}
use Rattle.tr_scenario.proofs.Halts.{halts_after, halts_in_front}
use Rattle.tr_scenario.proofs.Wholes.{at, has_read, refusal}

-- What is printed

-- the text before the line `settled` halted
pub halts_before : (X : Type 0) (old new : List ℕ) (f f_new : ℕ) (k : State) (asked : List Asked) (ws : List Receipts) (e : ScenarioFault) →
    IsFront old new (workers_text k ws) × IsHalt e f f_new → PrintsRun {X = X} old new f f_new k asked ws (Err e)
halts_before X old new f f_new k asked ws e h = inl (halts_in_front old new (workers_text k ws) (codes "settled\n") e f f_new h)

pub unsettled : (X : Type 0) (old new : List ℕ) (f f_new : ℕ) (k : State) (asked : List Asked) (ws : List Receipts) →
    (new ≡ old ++ workers_text k ws) × (f_new ≡ f) → (IsSettled k asked ws → ⊥) → PrintsRun {X = X} old new f f_new k asked ws (Err Unsettled)
unsettled X old new f f_new k asked ws h n = inr (refl, n, h.0, h.1)

pub settled_after : {K X : Type 0} (taken : K → List ℕ) (failures : K → ℕ) (old mid new : K) (k : State) (asked : List Asked) (ws : List Receipts) (r : Result X ScenarioFault) →
    (taken mid ≡ taken old ++ workers_text k ws) × (failures mid ≡ failures old) → IsSettled k asked ws → Prints taken failures mid new (codes "settled\n") r →
    PrintsRun (taken old) (taken new) (failures old) (failures new) k asked ws r
settled_after taken failures old mid new k asked ws (Ok x) h s p = (s, p.0 ∙ (ap (λ xs. xs ++ codes "settled\n") h.0 ∙ append_assoc (taken old) (workers_text k ws) (codes "settled\n")), p.1 ∙ h.1)
settled_after taken failures old mid new k asked ws (Err e) h s p = inl (halts_after (taken old) (taken mid) (taken new) (workers_text k ws) (codes "settled\n") e (failures old) (failures mid) (failures new) h.0 h.1 p)

-- The run

pub only_memory : (fault : RunFault) → (fault ≡ run_fault.BadStart → ⊥) → (fault ≡ run_fault.Repeated → ⊥) → fault_of fault ≡ NoMemory
only_memory run_fault.BadStart a b = absurd (a refl)
only_memory run_fault.Repeated a b = absurd (b refl)
only_memory run_fault.NoMemory a b = refl

-- what a run leaves, printed, is the run
pub runs_left : {X : Type 0} (old new : List ℕ) (f f_new : ℕ) (start : Start) (scripts : List Script) (turns : ℕ) (k : State) (asked : List Asked) (ws : List Receipts) (r : Result X ScenarioFault) →
    IsRun start scripts turns k asked ws → PrintsRun old new f f_new k asked ws r → RunsWorkers old new f f_new start scripts turns r
runs_left old new f f_new start scripts turns k asked ws (Ok x) run p = (k, asked, ws, run, p)
runs_left old new f f_new start scripts turns k asked ws (Err e) run p = inr (k, asked, ws, run, p)

-- The whole

pub threads_refused : (X : Type 0) (old new : Shown) (taken : List ℕ) (failures turns : ℕ) (bytes : List ℕ) (e : ScenarioFault) →
    Came old new bytes → (length bytes ≡ 1048577) ⊎ (new.ended ≡ true) → IsSound old new → (e ≡ NoMemory) ⊎ (scenario_of bytes ≡ Err e) →
    RunsThreaded {X = X} (at old taken failures) (at new taken failures) turns (Err e)
threads_refused X old new taken failures turns bytes e came end sound f = elim (refusal old new taken failures bytes e came end sound f) [ inl x ↦ (bytes, inl x) | inr x ↦ (bytes, inr (inl x)) ]

pub threads_ran : {X : Type 0} (old new : Shown) (taken taken_new : List ℕ) (failures failures_new turns : ℕ) (bytes : List ℕ) (s : Scenario) (r : Result X ScenarioFault) →
    Came old new bytes → (length bytes ≡ 1048577) ⊎ (new.ended ≡ true) → IsSound old new → scenario_of bytes ≡ Ok s →
    RunsWorkers taken taken_new failures failures_new s.start (scripts_of_job s.job) turns r → RunsThreaded (at old taken failures) (at new taken_new failures_new) turns r
threads_ran old new taken taken_new failures failures_new turns bytes s (Ok x) came end sound scenario h = (bytes, s, has_read old new taken taken_new failures failures_new bytes s came end sound scenario, h)
threads_ran old new taken taken_new failures failures_new turns bytes s (Err e) came end sound scenario h = (bytes, inr (inr (s, has_read old new taken taken_new failures failures_new bytes s came end sound scenario, h)))
