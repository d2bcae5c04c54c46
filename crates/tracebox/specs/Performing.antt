-- What the program does of what it is asked for.
use Rattle.std.specs.Prelude.{◌≡◌, ℕ, Bool, true, false, List, Option, Some, None, Result, Ok, Err, IfErr, ⊤}
use Rattle.clap.specs.Words.{Text}
use Rattle.tr_wait.specs.declared.status.Status.{Status}
use Rattle.tr_wait.specs.declared.words.Word.{Word}
use Rattle.tr_wait.specs.Words.{IsMeaning}
use Rattle.tr_status.specs.declared.sinks.Failed.{Failed}
use Rattle.tr_status.specs.Writing.{Writes}
use Rattle.tr_reading.specs.declared.faults.ScenarioFault.{ScenarioFault}
use Rattle.tr_reading.specs.declared.faults.ScenarioFault.TheVariants as scenario
use Rattle.tr_scenario.specs.Serial.{Devices, Runs}
use Rattle.tr_scenario.specs.Sources.{Shown}
use Rattle.tr_scenario.specs.Threaded.{RunsThreaded}
use Rattle.tr_answers.specs.Compares.{Compares}
use Rattle.tr_live.specs.Conversations.{Converses}
use Rattle.tr_picture.specs.Draws.{Draws}
use Rattle.tr_reasons.specs.Explains.{Explains}
use Rattle.tr_schedules.specs.Exploring.{Explores}
use Rattle.tr_schedules.specs.Replaying.{Replays}
use Rattle.tr_commands.specs.declared.asking.Ask.{Ask}
use Rattle.tr_commands.specs.declared.asking.Ask.TheVariants.{Serial, Threads, Explore, Replay, Explain, Draw, Live, Compare, Decode}
use Rattle.tr_commands.specs.declared.asking.AskFault.{AskFault}
use Rattle.tr_commands.specs.declared.asking.AskFault.TheVariants as asking
use Rattle.tracebox.specs.declared.faults.Fault.{Fault}
use Rattle.tracebox.specs.declared.faults.Fault.TheVariants.{Usage, NotAWord, Scenario}
use Rattle.tracebox.specs.declared.performing.Ending.{Ending}
use Rattle.tracebox.specs.declared.performing.Ending.TheVariants.{Done, Differs, NoEnd, TooMany}
use Rattle.tr_commands.specs.Asks.{Answers, Blames}
use Rattle.tracebox.specs.Faults.{fault_line, fault_status}
use Rattle.tracebox.specs.Meanings.{meaning_line}

-- 1 where an answer differs, there are too many states, or an end wasn't found
abbrev pub ending_status : Ending → ℕ
ending_status Done = 0
ending_status Differs = 1
ending_status TooMany = 1
ending_status NoEnd = 1

-- how a comparison ends
abbrev pub ending_of : Bool → Ending
ending_of true = Done
ending_of false = Differs

-- how a search ends
abbrev pub search_ending : Bool → Ending
search_ending true = Done
search_ending false = TooMany

-- how the search for one end ends
abbrev pub replay_ending : Bool → Ending
replay_ending true = Done
replay_ending false = NoEnd

-- a fault of a run is the program's
abbrev pub run_result : Result ⊤ ScenarioFault → Result Ending Fault
run_result (Ok x) = Ok Done
run_result (Err e) = Err (Scenario e)

-- so is one of a comparison
abbrev pub comparison_result : Result Bool ScenarioFault → Result Ending Fault
comparison_result (Ok agrees) = Ok (ending_of agrees)
comparison_result (Err e) = Err (Scenario e)

-- and one of a search
abbrev pub search_result : Result Bool ScenarioFault → Result Ending Fault
search_result (Ok complete) = Ok (search_ending complete)
search_result (Err e) = Err (Scenario e)

-- and one of the search for one end
abbrev pub replay_result : Result Bool ScenarioFault → Result Ending Fault
replay_result (Ok found) = Ok (replay_ending found)
replay_result (Err e) = Err (Scenario e)

-- once a text is written, all is done
abbrev pub text_result : Result ⊤ Fault → Result Ending Fault
text_result (Ok x) = Ok Done
text_result (Err e) = Err e

module _ {K : Type 0} (taken : K → List ℕ) (failures : K → ℕ) where
  -- a text is written, or a front of it and the sink fails
  abbrev pub Says : K → K → Text → Result ⊤ Fault → Type 0
  Says old new text r = Writes taken failures old new text r × IfErr r (λ e. e ≡ Scenario scenario.WriteFault)

  -- the line of a status is written; where there is none, nothing
  abbrev pub Means : K → K → Option Status → Result ⊤ Fault → Type 0
  Means old new (Some s) r = Says old new (meaning_line s) r
  Means old new None r = (r ≡ Err NotAWord) × (new ≡ old)

  -- what a word means
  abbrev pub Decodes : K → K → Word → Result ⊤ Fault → Type 0
  Decodes old new w r = (s : Option Status) × IsMeaning w.0 s × Means old new s r

  -- some text is written
  abbrev pub Helps : K → K → Result ⊤ Fault → Type 0
  Helps old new r = (text : Text) × Says old new text r

  -- help is written; any other fault of a command line is the program's, and nothing is written
  abbrev pub Declines : AskFault → K → K → Result ⊤ Fault → Type 0
  Declines asking.Help old new r = Helps old new r
  Declines asking.Usage old new r = (new ≡ old) × (r ≡ Err Usage)
  Declines asking.NoMemory old new r = (new ≡ old) × (r ≡ Err (Scenario scenario.NoMemory))

  -- the line of a fault is written, or a front of it and the sink fails
  abbrev pub Tells : K → K → Fault → Type 0
  Tells old new e = (told : Result ⊤ Failed) × Writes taken failures old new (fault_line e) told

  -- the exit status, and how a fault is told
  abbrev pub Ends : K → K → Result Ending Fault → ℕ → Type 0
  Ends old new (Ok ending) status = (status ≡ ending_status ending) × (new ≡ old)
  Ends old new (Err e) status = (status ≡ fault_status e) × Tells old new e

module _ {R W : Type 0} (shown : R → Shown) (taken : W → List ℕ) (failures : W → ℕ) where
  -- the two devices of a run
  abbrev pub devices : R → W → Devices
  devices r w = record { reader = shown r; taken = taken w; failures = failures w }

  -- what is done of what was asked for: the reader is read by a run, a search, a dialogue or a comparison alone
  abbrev pub Does : Result Ask AskFault → R → R → W → W → Result Ending Fault → Type 0
  Does (Ok Serial) r_old r_new w_old w_new result = (run : Result ⊤ ScenarioFault) × Runs (devices r_old w_old) (devices r_new w_new) run × (result ≡ run_result run)
  Does (Ok (Threads turns)) r_old r_new w_old w_new result = (run : Result ⊤ ScenarioFault) × RunsThreaded (devices r_old w_old) (devices r_new w_new) turns run × (result ≡ run_result run)
  Does (Ok (Explore free states)) r_old r_new w_old w_new result = (survey : Result Bool ScenarioFault) × Explores (devices r_old w_old) (devices r_new w_new) free states survey × (result ≡ search_result survey)
  Does (Ok (Replay states end)) r_old r_new w_old w_new result = (replay : Result Bool ScenarioFault) × Replays (devices r_old w_old) (devices r_new w_new) states end replay × (result ≡ replay_result replay)
  Does (Ok Explain) r_old r_new w_old w_new result = (run : Result ⊤ ScenarioFault) × Explains (devices r_old w_old) (devices r_new w_new) run × (result ≡ run_result run)
  Does (Ok Draw) r_old r_new w_old w_new result = (run : Result ⊤ ScenarioFault) × Draws (devices r_old w_old) (devices r_new w_new) run × (result ≡ run_result run)
  Does (Ok Live) r_old r_new w_old w_new result = (talk : Result ⊤ ScenarioFault) × Converses (devices r_old w_old) (devices r_new w_new) talk × (result ≡ run_result talk)
  Does (Ok Compare) r_old r_new w_old w_new result = (comparison : Result Bool ScenarioFault) × Compares (devices r_old w_old) (devices r_new w_new) comparison × (result ≡ comparison_result comparison)
  Does (Ok (Decode w)) r_old r_new w_old w_new result = (r_new ≡ r_old) × ((text : Result ⊤ Fault) × Decodes taken failures w_old w_new w text × (result ≡ text_result text))
  Does (Err fault) r_old r_new w_old w_new result = (r_new ≡ r_old) × ((text : Result ⊤ Fault) × Declines taken failures fault w_old w_new text × (result ≡ text_result text))

  -- what the words ask for is done
  abbrev pub Attempts : List Text → R → R → W → W → Result Ending Fault → Type 0
  Attempts words r_old r_new w_old w_new result = (answer : Result Ask AskFault) × Answers words answer × Blames words answer × Does answer r_old r_new w_old w_new result

module _ {R W E : Type 0} (shown : R → Shown) (taken : W → List ℕ) (failures : W → ℕ) (told : E → List ℕ) (untold : E → ℕ) where
  -- what was asked for is done, and its end told
  abbrev pub Performs : List Text → R → R → W → W → E → E → ℕ → Type 0
  Performs words r_old r_new w_old w_new e_old e_new status = (result : Result Ending Fault) × Attempts shown taken failures words r_old r_new w_old w_new result × Ends told untold e_old e_new result status
