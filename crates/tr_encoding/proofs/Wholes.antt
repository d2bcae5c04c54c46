-- The text of a scenario of calls is read as their steps.
use Rattle.std.proofs.Common.{◌≡◌, ◌≤◌, ◌+◌, ◌∙◌, ℕ, Bool, true, false, ◌||◌, nat_le, if◌then◌else◌, List, [], ◌∷◌, Option, Some, None, Result, Ok, Err, All, codes, length, map, sum_by, refl, sym, ap, arith}
use Rattle.std.specs.Prelude.{⊤}
use Rattle.std.specs.Str.{is_utf8}
use Rattle.std.proofs.lemmas.Bool.{le-leb}
use Rattle.std.proofs.lemmas.List.Sums.{sum_by-cons}
use Rattle.serde_json.specs.Data.{Data, Members, no_members, object, put}
use Rattle.serde_json.specs.Find.{get}
use Rattle.serde_json.specs.Read.{read}
use Rattle.serde_json.specs.View.{items_of}
use Rattle.tr_starts.specs.declared.starts.Start.{Start}
use Rattle.tr_starts.specs.Starts.{is_good}
use Rattle.tr_model.specs.Runs.{Call}
use Rattle.tr_reading.specs.declared.faults.ScenarioFault.{ScenarioFault}
use Rattle.tr_reading.specs.declared.faults.ScenarioFault.TheVariants.{BadStart, NotJson, Repeated, TooLarge}
use Rattle.tr_reading.specs.declared.scenarios.Job.{Job}
use Rattle.tr_reading.specs.declared.scenarios.Job.TheVariants.{Steps, Workers}
use Rattle.tr_reading.specs.declared.scenarios.Scenario.{Scenario}
use Rattle.tr_reading.specs.declared.steps.Step.{Step}
use Rattle.tr_reading.specs.Fields.{◌>>=◌, no_key_but, number_at}
use Rattle.tr_reading.specs.Scenarios.{calls_of_steps, is_small, job_key, job_of, json_from, json_of, repeats_actor, repeats_in_start, scenario_of, start_of, walk, whole}
use Rattle.tr_reading.specs.Steps.{count_of, steps_at}
use Rattle.tr_encoding.specs.Calls.{CanBeRead, IsReadBack, call_data, step_of_call}
use Rattle.tr_encoding.specs.Scenarios.{ReadsBack, as_steps, put_some, scenario_data}
use Rattle.tr_encoding.specs.Sets.{array_data, number_data}
use Rattle.tr_encoding.proofs.ReadBack.{steps_read}
use Rattle.tr_scenario.proofs.Wholes.{read_within}

-- What stands at each key

abbrev built : Option Data → Option Data → Option Data → Data → Data
built l e g s = object (put (codes "steps") s (put_some (codes "groups") g (put_some (codes "entries") e (put_some (codes "limit") l (put (codes "version") (number_data 1) no_members)))))

record Stands (l e g : Option Data) (s : Data) : Type 0 where
  pub limit : get (codes "limit") (built l e g s) ≡ l
  pub entries : get (codes "entries") (built l e g s) ≡ e
  pub groups : get (codes "groups") (built l e g s) ≡ g
  pub version : get (codes "version") (built l e g s) ≡ Some (number_data 1)
  pub steps : get (codes "steps") (built l e g s) ≡ Some s
  pub keys : no_key_but (codes "version" ∷ codes "limit" ∷ codes "entries" ∷ codes "groups" ∷ codes "steps" ∷ []) (built l e g s) ≡ Ok tt

stands : (l e g : Option Data) (s : Data) → Stands l e g s
stands None None None s = record { limit = refl; entries = refl; groups = refl; version = refl; steps = refl; keys = refl }
stands None None (Some g) s = record { limit = refl; entries = refl; groups = refl; version = refl; steps = refl; keys = refl }
stands None (Some e) None s = record { limit = refl; entries = refl; groups = refl; version = refl; steps = refl; keys = refl }
stands None (Some e) (Some g) s = record { limit = refl; entries = refl; groups = refl; version = refl; steps = refl; keys = refl }
stands (Some l) None None s = record { limit = refl; entries = refl; groups = refl; version = refl; steps = refl; keys = refl }
stands (Some l) None (Some g) s = record { limit = refl; entries = refl; groups = refl; version = refl; steps = refl; keys = refl }
stands (Some l) (Some e) None s = record { limit = refl; entries = refl; groups = refl; version = refl; steps = refl; keys = refl }
stands (Some l) (Some e) (Some g) s = record { limit = refl; entries = refl; groups = refl; version = refl; steps = refl; keys = refl }

-- The walk

start_kept : (d : Data) (s : Data) → let d' = built (get (codes "limit") d) (get (codes "entries") d) (get (codes "groups") d) s in start_of d' ≡ start_of d
unfolding start_of number_at
start_kept d s =
    let k = stands (get (codes "limit") d) (get (codes "entries") d) (get (codes "groups") d) s in
    rw (k.limit, k.entries, k.groups)

count_of-calls : (cs : List Call) → count_of (items_of (map call_data cs)) ≡ length cs
count_of-calls [] = refl
count_of-calls (c ∷ cs) = rw (count_of-calls cs) (omega arith)

steps_are : (d : Data) (cs : List Call) → All IsReadBack cs → All CanBeRead cs → length cs ≤ 10000 → get (codes "steps") d ≡ Some (array_data (map call_data cs)) → job_of 1 d ≡ Ok (Steps (map step_of_call cs))
unfolding job_of steps_at
steps_are d cs back can few at = rw (at, count_of-calls cs, le-leb (length cs) 10000 few, steps_read cs back can)

walked : (d : Data) (cs : List Call) (start : Start) → start_of d ≡ Ok start → All IsReadBack cs → All CanBeRead cs → length cs ≤ 10000
    → walk (scenario_data d cs) ≡ Ok (record { start = start; job = Steps (map step_of_call cs) })
unfolding walk number_at
walked d cs start is back can few =
    let s = array_data (map call_data cs) in
    let k = stands (get (codes "limit") d) (get (codes "entries") d) (get (codes "groups") d) s in
    rw (k.version, start_kept d s, is, steps_are (scenario_data d cs) cs back can few k.steps, k.keys)

-- The whole

sum_of_calls : (cs : List Call) → calls_of_steps (map step_of_call cs) ≡ length cs
sum_of_calls [] = refl
sum_of_calls (c ∷ cs) =
    let first : calls_of_steps (map step_of_call (c ∷ cs)) ≡ 1 + calls_of_steps (map step_of_call cs) = sum_by-cons (λ (s : Step). s.times) (step_of_call c) (map step_of_call cs) in
    omega (arith, first, sum_of_calls cs)

again : (small repeats twice good : Bool) (s t u : Scenario) → (if small then (if (repeats || twice) then Err Repeated else (if good then Ok s else Err BadStart)) else Err TooLarge) ≡ Ok t
    → (s ≡ t) × ((if (repeats || false) then Err Repeated else (if good then Ok u else Err BadStart)) ≡ Ok u)
again false repeats twice good s t u h = cc
again true true twice good s t u h = cc
again true false true good s t u h = cc
again true false false false s t u h = cc
again true false false true s t u h = (cc, refl)

-- what is looked at as a whole stays, and would be taken with other steps
whole_again : (s t : Scenario) (cs : List Call) → whole s ≡ Ok t → length cs ≤ 10000 → (s ≡ t) × (whole (as_steps s.start cs) ≡ Ok (as_steps s.start cs))
unfolding whole
whole_again s t cs h few =
    let p = again (is_small s.job) (repeats_in_start s.start) (repeats_actor s.job) (is_good s.start) s t (as_steps s.start cs) h in
    (p.0, rw (sum_of_calls cs, le-leb (length cs) 100000 (omega (arith, few))) p.1)

-- From bytes to bytes

passed : (w : Result Scenario ScenarioFault) (t : Scenario) → (w >>= whole) ≡ Ok t → (w ≡ Ok t) × (whole t ≡ Ok t)
passed (Ok s) t h = let same = (whole_again s t [] h (omega arith)).0 in (ap Ok same, rw same at h)
passed (Err e) t h = cc

from_json : (j : Result Data ScenarioFault) (s : Scenario) → (j >>= λ d. walk d >>= whole) ≡ Ok s → (d : Data) × ((j ≡ Ok d) × ((walk d ≡ Ok s) × (whole s ≡ Ok s)))
from_json (Ok d) s h = (d, (refl, passed (walk d) s h))
from_json (Err e) s h = cc

-- a scenario is read by its walk, which is fit as a whole
pub scenario_from : (bytes : List ℕ) (s : Scenario) → scenario_of bytes ≡ Ok s → (d : Data) × ((json_of bytes ≡ Ok d) × ((walk d ≡ Ok s) × (whole s ≡ Ok s)))
unfolding scenario_of
scenario_from bytes s h = from_json (json_of bytes) s (read_within (nat_le (length bytes) 1048576) _ s h)

inner : (start : Start) (job : Result Job ScenarioFault) (keys : Result ⊤ ScenarioFault) (s : Scenario) → (job >>= λ j. keys >>= λ _. Ok (record { start = start; job = j })) ≡ Ok s → start ≡ s.start
inner start (Err e) keys s h = cc
inner start (Ok job) (Err e) s h = cc
inner start (Ok job) (Ok u) s h = cc

outer : (version : Result ℕ ScenarioFault) (start : Result Start ScenarioFault) (job : ℕ → Result Job ScenarioFault) (keys : ℕ → Result ⊤ ScenarioFault) (s : Scenario)
    → (version >>= λ v. start >>= λ x. job v >>= λ j. keys v >>= λ _. Ok (record { start = x; job = j })) ≡ Ok s → start ≡ Ok s.start
outer (Err e) start job keys s h = cc
outer (Ok v) (Err e) job keys s h = cc
outer (Ok v) (Ok start) job keys s h = ap Ok (inner start (job v) (keys v) s h)

start_of-walk : (d : Data) (s : Scenario) → walk d ≡ Ok s → start_of d ≡ Ok s.start
unfolding walk
start_of-walk d s h = outer (number_at (codes "version") 1 2 d) (start_of d) (λ v. job_of v d) (λ v. no_key_but (codes "version" ∷ codes "limit" ∷ codes "entries" ∷ codes "groups" ∷ job_key v ∷ []) d) s h

json_of-text : (text : List ℕ) (d : Data) → is_utf8 text ≡ true → read text ≡ Some d → json_of text ≡ Ok d
unfolding json_of
json_of-text text d utf8 is = rw (utf8, is)

scenario_is : (text : List ℕ) (d : Data) (s : Scenario) → length text ≤ 1048576 → json_of text ≡ Ok d → walk d ≡ Ok s → whole s ≡ Ok s → scenario_of text ≡ Ok s
unfolding scenario_of
scenario_is text d s size json is fit = rw (le-leb (length text) 1048576 size, json, is, fit)

pub read_as_steps : (bytes text : List ℕ) (d : Data) (cs : List Call) → json_of bytes ≡ Ok d → is_utf8 text ≡ true → read text ≡ Some (scenario_data d cs) → All IsReadBack cs → ReadsBack bytes cs text
read_as_steps bytes text d cs json utf8 is back = λ s was can few size.
    let from = scenario_from bytes s was in
    let same : from.0 ≡ d = cc in
    let walks = walked d cs s.start (start_of-walk d s (rw same at from.1.1.0)) back can few in
    scenario_is text (scenario_data d cs) (as_steps s.start cs) size (json_of-text text (scenario_data d cs) utf8 is) walks (whole_again s s cs from.1.1.1 few).1

-- what was read is the value of the text
read_of-json : (b : Bool) (o : Option Data) (d : Data) → (if b then json_from o else Err NotJson) ≡ Ok d → o ≡ Some d
read_of-json true (Some e) d h = let same : e ≡ d = cc in ap Some same
read_of-json true None d h = cc
read_of-json false o d h = cc

pub read_from : (bytes : List ℕ) (d : Data) → json_of bytes ≡ Ok d → read bytes ≡ Some d
unfolding json_of
read_from bytes d h = read_of-json (is_utf8 bytes) (read bytes) d h
