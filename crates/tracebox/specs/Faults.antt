-- How the program tells its faults, and what it exits with.
use Rattle.std.specs.Prelude.{ℕ, List, codes}
use Rattle.tr_reading.specs.declared.faults.ScenarioFault.{ScenarioFault}
use Rattle.tr_reading.specs.declared.faults.ScenarioFault.TheVariants.{NoMemory, ReadFault, WriteFault}
use Rattle.tr_reading.specs.Faults.{scenario_fault_name}
use Rattle.tracebox.specs.declared.faults.Fault.{Fault}
use Rattle.tracebox.specs.declared.faults.Fault.TheVariants.{Usage, NotAWord, Scenario}
use Rattle.tracebox.specs.Meanings.{line}

-- a fault is told by its name
abbrev pub fault_name : Fault → List ℕ
fault_name Usage = codes "Usage"
fault_name NotAWord = codes "NotAWord"
fault_name (Scenario e) = scenario_fault_name e

-- the line on standard error
abbrev pub fault_line : Fault → List ℕ
fault_line e = line (codes "tracebox: ") (fault_name e)

-- 3 for memory and devices, else 1 for what is read
abbrev pub scenario_status : ScenarioFault → ℕ
scenario_status NoMemory = 3
scenario_status ReadFault = 3
scenario_status WriteFault = 3
scenario_status _ = 1

-- 2 for a command line, 1 for a word that has no status
abbrev pub fault_status : Fault → ℕ
fault_status Usage = 2
fault_status NotAWord = 1
fault_status (Scenario e) = scenario_status e
