-- What comes of asking for the status of the thread with an id.
use Rattle.std.specs.Prelude.{◌≡◌, ℕ, List, Option, Some, None, Result, Ok, Err, ⊤}
use Rattle.tr_tracee.specs.declared.thread.Thread.{Thread}
use Rattle.tr_model.specs.Tables.{Table}
use Rattle.tr_status.specs.declared.statuses.StatusFault.{StatusFault}
use Rattle.tr_status.specs.declared.statuses.StatusFault.TheVariants.{Srch, Write}
use Rattle.tr_status.specs.Statuses.{status_text}
use Rattle.tr_status.specs.Writing.{Writes}

-- the fault that a failure of the sink is
abbrev pub IsWrite : {X : Type 0} → Result X StatusFault → Type 0
IsWrite (Ok x) = ⊤
IsWrite (Err e) = e ≡ Write

-- where no thread has the id the sink is as before; else the thread's text is written, or the sink fails
abbrev pub WritesStatus : {K X : Type 0} → (K → List ℕ) → (K → ℕ) → K → K → Table → Option Thread → Result X StatusFault → Type 0
WritesStatus taken failures old new T None result = (result ≡ Err Srch) × (new ≡ old)
WritesStatus taken failures old new T (Some t) result = Writes taken failures old new (status_text T t) result × IsWrite result
