-- The names of faults.
use Rattle.std.specs.Prelude.{ℕ, List, codes}
use Rattle.tr_reading.specs.declared.faults.ScenarioFault.{ScenarioFault}
use Rattle.tr_reading.specs.declared.faults.ScenarioFault.TheVariants.{NotJson, BadField, BadSignal, TooLarge, Repeated, BadStart, Unsettled, NoMemory, ReadFault, WriteFault}

-- a fault is told by its name
abbrev pub scenario_fault_name : ScenarioFault → List ℕ
scenario_fault_name NotJson = codes "NotJson"
scenario_fault_name BadField = codes "BadField"
scenario_fault_name BadSignal = codes "BadSignal"
scenario_fault_name TooLarge = codes "TooLarge"
scenario_fault_name Repeated = codes "Repeated"
scenario_fault_name BadStart = codes "BadStart"
scenario_fault_name Unsettled = codes "Unsettled"
scenario_fault_name NoMemory = codes "NoMemory"
scenario_fault_name ReadFault = codes "ReadFault"
scenario_fault_name WriteFault = codes "WriteFault"
