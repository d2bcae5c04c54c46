-- The record that bytes are, or the first fault in them.
use Rattle.std.specs.Prelude.{ℕ, List, [], ◌∷◌, Option, Some, None, Result, Ok, codes, map}
use Rattle.serde_json.specs.Data.{Data}
use Rattle.serde_json.specs.Find.{as_str, get}
use Rattle.tr_reading.specs.declared.faults.ScenarioFault.{ScenarioFault}
use Rattle.tr_reading.specs.declared.scenarios.Job.TheVariants.{Steps}
use Rattle.tr_reading.specs.declared.scenarios.Scenario.{Scenario}
use Rattle.tr_reading.specs.Fields.{◌>>=◌, needed, no_key_but, number_at}
use Rattle.tr_reading.specs.Scenarios.{read_by, start_of, whole}
use Rattle.tr_reading.specs.Steps.{step_among, steps_at}
use Rattle.tr_answers.specs.declared.records.Answered.{Answered}
use Rattle.tr_answers.specs.declared.records.Record.{Record}

-- nothing is expected, where there is no such key; else a text is
abbrev pub answer_in : Option Data → Result (Option (List ℕ)) ScenarioFault
answer_in None = Ok None
answer_in (Some v) = do
  t ← needed (as_str v)
  Ok (Some t)

-- what was answered to each call of a step
unfoldable pub answer_of : Data → Result (Option (List ℕ)) ScenarioFault
answer_of d = answer_in (get (codes "answer") d)

-- a step, which may have an answer
unfoldable pub answered_of : Data → Result Answered ScenarioFault
answered_of d = do
  step ← step_among (codes "actor" ∷ codes "do" ∷ codes "times" ∷ codes "answer" ∷ []) d
  answer ← answer_of d
  Ok (record { step = step; answer = answer })

-- the object from its first field to its last, and no other key
unfoldable pub walk : Data → Result Record ScenarioFault
walk d = do
  version ← number_at (codes "version") 1 1 d
  start ← start_of d
  steps ← steps_at (codes "steps") answered_of d
  _ ← no_key_but (codes "version" ∷ codes "limit" ∷ codes "entries" ∷ codes "groups" ∷ codes "steps" ∷ []) d
  Ok (record { start = start; steps = steps })

-- the scenario that it is without the answers
abbrev pub asked : Record → Scenario
asked r = record { start = r.start; job = Steps (map (λ a. a.step) r.steps) }

-- that scenario, as a whole, holds what each is to hold
unfoldable pub whole_record : Record → Result Record ScenarioFault
whole_record r = do
  _ ← whole (asked r)
  Ok r

-- the record that a value is, or its first fault
abbrev pub record_in : Data → Result Record ScenarioFault
record_in d = walk d >>= whole_record

-- the record that the bytes are, or their first fault
unfoldable pub record_of : List ℕ → Result Record ScenarioFault
record_of bytes = read_by record_in bytes
