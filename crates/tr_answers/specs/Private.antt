-- What only private functions' contracts cite.
use Rattle.std.specs.Prelude.{◌≡◌, ◌⊎◌, ℕ, List, ◌++◌, Bool, true, false, Result, Ok, Err, codes}
use Rattle.tr_model.specs.declared.replies.Refusal.{Refusal}
use Rattle.tr_model.specs.declared.replies.Reply.{Reply}
use Rattle.tr_kernel.specs.States.{State}
use Rattle.tr_oracle.specs.Expected.{IsAnswered}
use Rattle.tr_status.specs.Writing.{IsFront}
use Rattle.tr_reading.specs.declared.faults.ScenarioFault.{ScenarioFault}
use Rattle.tr_scenario.specs.Printing.{Fills, IsHalt}
use Rattle.tr_answers.specs.Comparisons.{Asked, Differs, Goes, IsRefuted, difference_line, is_expected, made_line, step_text}
use Rattle.tr_answers.specs.Compares.{Starts}

-- what the lines of the answers of one call begin with
abbrev pub assumed_front : Asked → List ℕ
assumed_front q = step_text q ++ codes "assumed `"

-- the call is made, and its line comes on the page; or no answer that it may be given fits, and that comes
abbrev pub IsTried : State → State → Asked → List ℕ → List ℕ → Bool → Type 0
IsTried old new q page page_new true = (x : Result Reply Refusal) × IsAnswered old new q.call (is_expected q.expected) x × (page_new ≡ page ++ made_line q x q.expected)
IsTried old new q page page_new false = (t : List ℕ) × IsRefuted old q t × (page_new ≡ page ++ difference_line old q t)

-- all calls are made, and their lines come by way of the page; or those up to a difference, which comes too; or a front of
-- such a text, and then the run halted
abbrev pub Walks : {K : Type 0} → (K → List ℕ) → (K → ℕ) → K → K → List ℕ → List ℕ → State → State → List Asked → Result Bool ScenarioFault → Type 0
Walks taken failures old new page page_new s u qs (Ok true) = (text : List ℕ) × Goes s qs text u × Fills {X = Unit {0}} taken failures old new page page_new text (Ok tt)
Walks taken failures old new page page_new s u qs (Ok false) = (text : List ℕ) × Differs s qs text × Fills {X = Unit {0}} taken failures old new page page_new text (Ok tt)
Walks taken failures old new page page_new s u qs (Err e) = (text : List ℕ) × (Starts s qs text ⊎ Differs s qs text) × IsFront (taken old) (taken new) (page ++ text) × IsHalt e (failures old) (failures new)
