-- What is answered, line by line.
use Rattle.std.specs.Prelude.{◌≡◌, ℕ, ◌==◌, Bool, true, false, List, [], ◌∷◌, ◌++◌, Option, Some, None, Result, Ok, Err, codes, if◌then◌else◌, length, nat_le, not, replicate}
use Rattle.serde_json.specs.Data.{Data}
use Rattle.tr_tracee.specs.declared.thread.Thread.{Thread}
use Rattle.tr_model.specs.declared.fates.Totals.{Totals}
use Rattle.tr_model.specs.declared.replies.Refusal.TheVariants.{Srch}
use Rattle.tr_model.specs.Journals.{totals}
use Rattle.tr_model.specs.Runs as runs
use Rattle.tr_model.specs.Runs.{Call, begun_at}
use Rattle.tr_model.specs.Tables.{Table, thread_of}
use Rattle.tr_starts.specs.declared.starts.Start.{Start}
use Rattle.tr_starts.specs.Starts.{table_of}
use Rattle.tr_kernel.specs.States as kernel
use Rattle.tr_status.specs.Statuses.{status_text}
use Rattle.tr_status.specs.Texts.{texts}
use Rattle.tr_reading.specs.declared.faults.ScenarioFault.{ScenarioFault}
use Rattle.tr_reading.specs.declared.steps.Step.{Step}
use Rattle.tr_reading.specs.Faults.{scenario_fault_name}
use Rattle.tr_scenario.specs.Kernels.{so_far}
use Rattle.tr_scenario.specs.Lines.{totals_line}
use Rattle.tr_scenario.specs.Replies.{refusal_text}
use Rattle.tr_scenario.specs.RunTexts.{call_of, call_text, calls_text, state_after}
use Rattle.tr_mistakes.specs.Texts.{IsTold}
use Rattle.tr_live.specs.declared.commands.Command.{Command}
use Rattle.tr_live.specs.declared.commands.Command.TheVariants.{Make, ShowStatus, ShowTable, ShowTotals}
use Rattle.tr_live.specs.Commands.{command_of, line_read, longest, opening_of}
use Rattle.tr_live.specs.Mistakes.{command_mistake, opening_mistake}

-- What a dialogue is about

-- where its kernel started from, and the run so far
pub record Session : Type 0 where
  pub start : Start
  pub run : runs.State

-- a kernel's
abbrev pub session_of : kernel.State → Session
session_of k = record { start = k.start; run = so_far k }

-- of a kernel that was just opened
abbrev pub begun : Start → Session
begun s = record { start = s; run = begun_at (table_of s) }

-- the kernel, once there is one, and the bytes of a line that hasn't ended yet
pub record Dialogue : Type 0 where
  pub session : Option Session
  pub line : List ℕ

-- nothing was said yet
abbrev pub silence : Dialogue
silence = record { session = None; line = [] }

-- Answers

-- a text, and the kernel after it
pub record Answer : Type 0 where
  pub text : List ℕ
  pub session : Option Session

-- a fault is answered by its name, and by what is told of the line
abbrev pub refused_line : ScenarioFault → List ℕ → List ℕ
refused_line e told = texts (codes "refused " ∷ scenario_fault_name e ∷ told ∷ codes "\n" ∷ [])

-- the status of a thread; where there is none, ESRCH
abbrev pub status_or_refusal : Table → Option Thread → List ℕ
status_or_refusal T (Some t) = status_text T t
status_or_refusal T None = texts (codes "refused " ∷ refusal_text Srch ∷ codes "\n" ∷ [])

-- the statuses of threads, one after the other
abbrev pub table_text : Table → List Thread → List ℕ
table_text T [] = []
table_text T (t ∷ ts) = status_text T t ++ table_text T ts

-- the calls of a step
abbrev pub calls_of : Step → List Call
calls_of s = replicate s.times (call_of s.actor s.event)

-- the totals of a run
abbrev pub totals_of : Session → Totals
totals_of s = totals (table_of s.start) s.run.journal s.run.table

-- what a command is answered
abbrev pub obeyed : Session → Command → Answer
obeyed s (Make step) = record { text = calls_text call_text s.run (calls_of step); session = Some (record s { run = state_after s.run (calls_of step) }) }
obeyed s (ShowStatus id) = record { text = status_or_refusal s.run.table (thread_of s.run.table id); session = Some s }
obeyed s ShowTable = record { text = table_text s.run.table s.run.table.threads; session = Some s }
obeyed s ShowTotals = record { text = totals_line (totals_of s); session = Some s }

-- a line that is refused changes nothing
abbrev pub commanded : Session → List ℕ → Result Command ScenarioFault → Answer
commanded s told (Err e) = record { text = refused_line e told; session = Some s }
commanded s told (Ok c) = obeyed s c

-- a kernel is opened, or the line is refused
abbrev pub opened : List ℕ → Result Start ScenarioFault → Answer
opened told (Err e) = record { text = refused_line e told; session = None }
opened told (Ok s) = record { text = codes "started\n"; session = Some (begun s) }

-- the first line that isn't refused opens a kernel, and those after it command it; so much is told of a line that is refused
abbrev pub answer : List ℕ → Option Session → List ℕ → Answer
answer told None line = opened told (line_read opening_of line)
answer told (Some s) line = commanded s told (line_read command_of line)

-- nothing is told of a line that is read
abbrev pub ToldOf : {X : Type 0} → (Data → List ℕ) → List ℕ → Result X ScenarioFault → List ℕ → Type 0
ToldOf mistake line (Ok x) told = told ≡ []
ToldOf mistake line (Err e) told = IsTold mistake longest line e told

-- this may be told of a line
abbrev pub MayTell : Option Session → List ℕ → List ℕ → Type 0
MayTell None line told = ToldOf opening_mistake line (line_read opening_of line) told
MayTell (Some s) line told = ToldOf command_mistake line (line_read command_of line) told

-- the kernel after a line, whatever is told of it
abbrev pub session_after : Option Session → List ℕ → Option Session
session_after s line = (answer [] s line).session

-- an empty line stands behind each answer
abbrev pub IsAnswer : Option Session → List ℕ → List ℕ → Type 0
IsAnswer s line text = (told : List ℕ) × MayTell s line told × (text ≡ (answer told s line).text ++ codes "\n")

-- Dialogues

-- one byte more; of a line that is too long no more are kept than show it
abbrev pub longer : List ℕ → ℕ → List ℕ
longer line b = if nat_le (length line) longest then line ++ b ∷ [] else line

-- after a byte: a newline ends the line
abbrev pub heard_byte : Dialogue → ℕ → Dialogue
heard_byte d b = if b == 10 then record { session = session_after d.session d.line; line = [] } else record { session = d.session; line = longer d.line b }

-- after bytes
abbrev pub heard : Dialogue → List ℕ → Dialogue
heard d [] = d
heard d (b ∷ bs) = heard (heard_byte d b) bs

-- a line that ended is answered
abbrev pub IsAnsweredIf : Bool → Dialogue → List ℕ → Type 0
IsAnsweredIf true d text = IsAnswer d.session d.line text
IsAnsweredIf false d text = text ≡ []

-- this is said to a byte
abbrev pub IsSaidTo : Dialogue → ℕ → List ℕ → Type 0
IsSaidTo d b text = IsAnsweredIf (b == 10) d text

-- this is said to bytes
abbrev pub IsSaid : Dialogue → List ℕ → List ℕ → Type 0
IsSaid d [] text = text ≡ []
IsSaid d (b ∷ bs) text = (first : List ℕ) × (rest : List ℕ) × IsSaidTo d b first × IsSaid (heard_byte d b) bs rest × (text ≡ first ++ rest)

-- this is said at the end of the bytes to a line that no newline ended
abbrev pub IsSaidLast : Dialogue → List ℕ → Type 0
IsSaidLast d text = IsAnsweredIf (not (length d.line == 0)) d text

-- this is all that is said to bytes
abbrev pub IsDialogue : List ℕ → List ℕ → Type 0
IsDialogue bytes text = (before : List ℕ) × (last : List ℕ) × IsSaid silence bytes before × IsSaidLast (heard silence bytes) last × (text ≡ before ++ last)
