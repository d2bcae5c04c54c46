-- A scenario that was read has at most 64 workers, each of another actor.
use Rattle.std.proofs.Common.{◌≡◌, ℕ, List, [], ◌∷◌, refl, Bool, true, false, not, ◌&&◌, ◌||◌, ◌==◌, nat_le, Option, Some, None, Result, Ok, Err, IfOk, if◌then◌else◌, length, codes, map, arith}
use Rattle.serde_json.specs.Data.{Data, Items, no_items, item}
use Rattle.serde_json.specs.Find.{as_array}
use Rattle.tr_starts.specs.Starts.{no_repeat}
use Rattle.tr_workers.specs.declared.scripts.Script.{Script}
use Rattle.tr_reading.specs.declared.faults.ScenarioFault.{ScenarioFault}
use Rattle.tr_reading.specs.declared.faults.ScenarioFault.TheVariants.{BadField}
use Rattle.tr_reading.specs.declared.scenarios.Job.{Job}
use Rattle.tr_reading.specs.declared.scenarios.Job.TheVariants.{Steps, Workers}
use Rattle.tr_reading.specs.declared.scenarios.Scenario.{Scenario}
use Rattle.tr_reading.specs.Fields.{◌>>=◌, each, field_at, needed, no_key_but, number_at}
use Rattle.tr_reading.specs.Scenarios.{job_key, job_of, repeats_actor, repeats_in_start, start_of, walk}
use Rattle.tr_reading.specs.Steps.{count_of, step_of, steps_at}
use Rattle.tr_scenario.specs.Threaded.{is_manned}
use Rattle.tr_reading.specs.Workers.{worker_of, workers_at}

-- What holds of the value that comes of readings in a row

pub record Holds {A : Type 0} (P : A → Type 0) (r : Result A ScenarioFault) : Type 0 where
  pub holds : IfOk r P

pub after : {A B : Type 0} {Q : A → Type 0} {P : B → Type 0} (r : Result A ScenarioFault) (f : A → Result B ScenarioFault) → Holds Q r → ((x : A) → Q x → Holds P (f x)) → Holds P (r >>= f)
after (Ok x) f h k = k x h.holds
after (Err e) f h k = record { holds = tt }

-- whatever came before
pub last : {A B : Type 0} {P : B → Type 0} (r : Result A ScenarioFault) (f : A → Result B ScenarioFault) → ((x : A) → Holds P (f x)) → Holds P (r >>= f)
last (Ok x) f k = k x
last (Err e) f k = record { holds = tt }

-- At most 64

each_counts : {A : Type 0} (f : Data → Result A ScenarioFault) (ds : Items) → Holds (λ xs. length xs ≡ count_of ds) (each f ds)
each_counts f no_items = record { holds = refl }
each_counts f (item d ds) = last (f d) _ (λ x. after (each f ds) _ (each_counts f ds) (λ xs h. record { holds = omega (arith, h) }))

abbrev pub AreFew : List Script → Type 0
AreFew scripts = nat_le (length scripts) 64 ≡ true

each_few : (ds : Items) (r : Result (List Script) ScenarioFault) → nat_le (count_of ds) 64 ≡ true → Holds (λ xs. length xs ≡ count_of ds) r → Holds AreFew r
each_few ds (Ok xs) h n = record { holds = rw n.holds h }
each_few ds (Err e) h n = record { holds = tt }

chosen : (low high : Bool) (r : Result (List Script) ScenarioFault) → (high ≡ true → Holds AreFew r) → Holds AreFew (if low && high then r else Err BadField)
chosen true true r h = h refl
chosen true false r h = record { holds = tt }
chosen false high r h = record { holds = tt }

in_workers : (o : Option Items) → Holds AreFew (needed o >>= λ ds. if nat_le 1 (count_of ds) && nat_le (count_of ds) 64 then each worker_of ds else Err BadField)
in_workers None = record { holds = tt }
in_workers (Some ds) = chosen (nat_le 1 (count_of ds)) (nat_le (count_of ds) 64) (each worker_of ds) (λ h. each_few ds (each worker_of ds) h (each_counts worker_of ds))

at_workers : (key : List ℕ) (d : Data) → Holds AreFew (workers_at key d)
unfolding workers_at
at_workers key d = last (field_at key d) _ (λ v. in_workers (as_array v))

abbrev pub IsFew : Job → Type 0
IsFew (Steps steps) = Unit {0}
IsFew (Workers scripts) = AreFew scripts

either : (b : Bool) (r s : Result Job ScenarioFault) → Holds IsFew r → Holds IsFew s → Holds IsFew (if b then r else s)
either true r s h k = h
either false r s h k = k

of_job : (version : ℕ) (d : Data) → Holds IsFew (job_of version d)
unfolding job_of
of_job version d =
    either (version == 1) _ _ (last (steps_at (codes "steps") step_of d) _ (λ steps. record { holds = tt }))
    (after (workers_at (codes "workers") d) _ (at_workers (codes "workers") d) (λ scripts h. record { holds = h }))

pub walked_few : (d : Data) → Holds (λ s. IsFew s.job) (walk d)
unfolding walk
walked_few d =
    last (number_at (codes "version") 1 2 d) _ (λ version. last (start_of d) _ (λ start. after (job_of version d) _ (of_job version d) (λ job h.
    last (no_key_but (codes "version" ∷ codes "limit" ∷ codes "entries" ∷ codes "groups" ∷ job_key version ∷ []) d) _ (λ k. record { holds = h }))))

-- Distinct

once : (b c : Bool) → (b || not c) ≡ false → c ≡ true
once true c h = cc
once false true h = refl
once false false h = cc

pub manned : (s : Scenario) (job : Job) → s.job ≡ job → IsFew job → (repeats_in_start s.start || repeats_actor job) ≡ false → is_manned job ≡ true
manned s (Steps steps) is few h = refl
manned s (Workers scripts) is few h = rw (few, once (repeats_in_start s.start) (no_repeat (map (λ (x : Script). x.actor) scripts)) h) refl
