-- NotJson comes of the bytes alone: no reading of a value answers it.
use Rattle.std.proofs.Common.{◌≡◌, ℕ, List, [], ◌∷◌, ◌++◌, refl, Bool, true, false, Option, None, Some, Result, Ok, Err, ◌&&◌, ◌==◌, if◌then◌else◌, codes, int_le, nat_le, negsuc, option_and_then, pos}
use Rattle.std.specs.Str.{bytes_eq}
use Rattle.serde_json.specs.Data.{Data, Items, no_items, item, Num, unsigned, negative, float}
use Rattle.serde_json.specs.Find.{as_array, as_bool, as_integer, as_number, as_object, as_str, as_u64, get}
use Rattle.tr_group.specs.declared.stops.Action.TheVariants.{Catch, Default, Ignore}
use Rattle.tr_starts.specs.Starts.{is_good}
use Rattle.tr_tracee.specs.Threads.{no_options}
use Rattle.tr_reading.specs.declared.faults.ScenarioFault.{ScenarioFault}
use Rattle.tr_reading.specs.declared.faults.ScenarioFault.TheVariants.{BadField, BadSignal, BadStart, NotJson, Repeated, TooLarge}
use Rattle.tr_reading.specs.declared.kinds.Kind.{Kind}
use Rattle.tr_reading.specs.declared.kinds.Kind.TheVariants.{Kill, Tgkill, Sigqueue, Mask, SetAction, Pause, Take, TakeAny, Halt, Trap, Die, CloneThread, Exec, Finish, Exit, ExitGroup, Attach, Seize, Interrupt, Cont, Listen, Detach, SetOptions, EventMessage, SignalInfo, TracerExit, Wait, StarterWait}
use Rattle.tr_reading.specs.declared.scenarios.Scenario.{Scenario}
use Rattle.tr_reading.specs.Events.{event_of, option_named, option_of, options_at}
use Rattle.tr_reading.specs.Fields.{◌>>=◌, each, field_at, flag_at, keys_among, list_at, list_of, needed, no_key_but, number_at, number_in, set_at, signal_at, signal_from, signal_of, text_at, value_at}
use Rattle.tr_reading.specs.Groups.{action_of, group_of, how_at, how_from, thread_of}
use Rattle.tr_reading.specs.Kinds.{fields_of, kind_at}
use Rattle.tr_reading.specs.Scenarios.{has_repeats, is_small, job_key, job_of, start_of, walk, whole}
use Rattle.tr_reading.specs.Steps.{count_of, step_among, step_of, steps_at, times_in, times_of}
use Rattle.tr_reading.specs.Workers.{is_op, item_of, op_kind_at, op_of, plan_in, plan_of, repeat_in, repeat_of, served_of, until_from, worker_of, workers_at}

-- another fault than NotJson
abbrev pub is_other : ScenarioFault → Bool
is_other NotJson = false
is_other _ = true

abbrev pub is_spared : {A : Type 0} → Result A ScenarioFault → Bool
is_spared (Ok x) = true
is_spared (Err e) = is_other e

-- Readings in a row, and what is there or isn't

pub bind : {A B : Type 0} (r : Result A ScenarioFault) (f : A → Result B ScenarioFault) → is_spared r ≡ true → ((x : A) → is_spared (f x) ≡ true) → is_spared (r >>= f) ≡ true
bind (Ok x) f h k = k x
bind (Err e) f h k = h

pub last : {A B : Type 0} (r : Result A ScenarioFault) (f : A → B) → is_spared r ≡ true → is_spared (r >>= λ x. Ok (f x)) ≡ true
last (Ok x) f h = refl
last (Err e) f h = h

pub there : {A : Type 0} (o : Option A) → is_spared (needed o) ≡ true
there None = refl
there (Some x) = refl

if_either : {A : Type 0} (b : Bool) (r s : Result A ScenarioFault) → is_spared r ≡ true → is_spared s ≡ true → is_spared (if b then r else s) ≡ true
if_either true r s h k = h
if_either false r s h k = k

-- what is there is given where it passes a test
checked : {A B : Type 0} (o : Option A) (p : A → Bool) (f : A → B) (e : ScenarioFault) → is_other e ≡ true → is_spared (needed o >>= λ x. if p x then Ok (f x) else Err e) ≡ true
checked None p f e h = refl
checked (Some x) p f e h = if_either (p x) (Ok (f x)) (Err e) refl h

-- one of three, or of four, or a bad field
three : {A : Type 0} (a b c : Bool) (x y z : A) → is_spared (if a then Ok x else (if b then Ok y else (if c then Ok z else Err BadField))) ≡ true
three true b c x y z = refl
three false true c x y z = refl
three false false true x y z = refl
three false false false x y z = refl

four : {A : Type 0} (a b c d : Bool) (x y z w : A) → is_spared (if a then Ok x else (if b then Ok y else (if c then Ok z else (if d then Ok w else Err BadField)))) ≡ true
four true b c d x y z w = refl
four false b c d x y z w = three b c d y z w

-- Fields

at_field : (key : List ℕ) (d : Data) → is_spared (field_at key d) ≡ true
at_field key d = there (get key d)

in_range : (low high : ℕ) (d : Data) → is_spared (number_in low high d) ≡ true
in_range low high d = checked (option_and_then as_u64 (as_number d)) (λ n. nat_le low n && nat_le n high) (λ n. n) BadField refl

pub at_number : (key : List ℕ) (low high : ℕ) (d : Data) → is_spared (number_at key low high d) ≡ true
unfolding number_at
at_number key low high d = bind _ _ (at_field key d) (λ v. in_range low high v)

at_value : (key : List ℕ) (d : Data) → is_spared (value_at key d) ≡ true
unfolding value_at
at_value key d = bind _ _ (at_field key d) (λ v. checked (option_and_then as_integer (as_number v)) (λ n. int_le (negsuc 2147483647) n && int_le n (pos 2147483647)) (λ n. n) BadField refl)

at_flag : (key : List ℕ) (d : Data) → is_spared (flag_at key d) ≡ true
unfolding flag_at
at_flag key d = bind _ _ (at_field key d) (λ v. there _)

at_text : (key : List ℕ) (d : Data) → is_spared (text_at key d) ≡ true
unfolding text_at
at_text key d = bind _ _ (at_field key d) (λ v. there _)

in_each : {A : Type 0} (f : Data → Result A ScenarioFault) → ((d : Data) → is_spared (f d) ≡ true) → (ds : Items) → is_spared (each f ds) ≡ true
in_each f h no_items = refl
in_each f h (item d ds) = bind _ _ (h d) (λ x. last _ _ (in_each f h ds))

in_list : {A : Type 0} (f : Data → Result A ScenarioFault) → ((d : Data) → is_spared (f d) ≡ true) → (d : Data) → is_spared (list_of f d) ≡ true
unfolding list_of
in_list f h d = bind _ _ (there (as_array d)) (λ ds. in_each f h ds)

at_list : {A : Type 0} (key : List ℕ) (f : Data → Result A ScenarioFault) → ((d : Data) → is_spared (f d) ≡ true) → (d : Data) → is_spared (list_at key f d) ≡ true
at_list key f h d = bind _ _ (at_field key d) (λ v. in_list f h v)

from_number : (n : Num) → is_spared (signal_from n) ≡ true
from_number (unsigned n) = if_either (nat_le 1 n && nat_le n 64) (Ok n) (Err BadSignal) refl refl
from_number (negative z) = refl
from_number (float x) = refl

of_signal : (d : Data) → is_spared (signal_of d) ≡ true
of_signal d = bind (needed (as_number d)) signal_from (there (as_number d)) from_number

at_signal : (key : List ℕ) (d : Data) → is_spared (signal_at key d) ≡ true
unfolding signal_at
at_signal key d = bind _ _ (at_field key d) (λ v. of_signal v)

at_set : (key : List ℕ) (d : Data) → is_spared (set_at key d) ≡ true
unfolding set_at
at_set key d = last _ _ (at_list key signal_of of_signal d)

at_keys : (names : List (List ℕ)) (d : Data) → is_spared (no_key_but names d) ≡ true
at_keys names d = checked (as_object d) (keys_among names) (λ ms. tt) BadField refl

-- the keys are looked at last
pub at_end : {A : Type 0} (names : List (List ℕ)) (d : Data) (x : A) → is_spared (no_key_but names d >>= λ k. Ok x) ≡ true
at_end names d x = last (no_key_but names d) (λ k. x) (at_keys names d)

-- Groups

from_how : (t : List ℕ) → is_spared (how_from t) ≡ true
from_how t = three (bytes_eq t (codes "default")) (bytes_eq t (codes "ignore")) (bytes_eq t (codes "catch")) Default Ignore Catch

at_how : (key : List ℕ) (d : Data) → is_spared (how_at key d) ≡ true
unfolding how_at
at_how key d = bind (text_at key d) how_from (at_text key d) from_how

of_thread : (d : Data) → is_spared (thread_of d) ≡ true
unfolding thread_of
of_thread d = bind _ _ (at_number _ _ _ d) (λ tid. bind _ _ (at_set _ d) (λ blocked. at_end (codes "tid" ∷ codes "blocked" ∷ []) d (tid, blocked)))

of_action : (d : Data) → is_spared (action_of d) ≡ true
unfolding action_of
of_action d = bind _ _ (at_signal _ d) (λ sig. bind _ _ (at_how _ d) (λ how. at_end (codes "sig" ∷ codes "how" ∷ []) d (sig, how)))

of_group : (d : Data) → is_spared (group_of d) ≡ true
unfolding group_of
of_group d =
    bind _ _ (at_number _ _ _ d) (λ tgid. bind _ _ (at_text _ d) (λ name.
    bind _ _ (at_list (codes "threads") thread_of of_thread d) (λ threads. bind _ _ (at_list (codes "actions") action_of of_action d) (λ actions.
    at_end (codes "tgid" ∷ codes "name" ∷ codes "threads" ∷ codes "actions" ∷ []) d (record { tgid = tgid; name = name; actions = actions; threads = threads })))))

-- Events

named : (t : List ℕ) → is_spared (option_named t) ≡ true
named t =
    four (bytes_eq t (codes "clone")) (bytes_eq t (codes "exec")) (bytes_eq t (codes "exit")) (bytes_eq t (codes "exitkill"))
    (record no_options { clone = true }) (record no_options { exec = true }) (record no_options { exit = true }) (record no_options { exitkill = true })

of_option : (d : Data) → is_spared (option_of d) ≡ true
unfolding option_of
of_option d = bind (needed (as_str d)) option_named (there (as_str d)) named

at_options : (key : List ℕ) (d : Data) → is_spared (options_at key d) ≡ true
unfolding options_at
at_options key d = last _ _ (at_list key option_of of_option d)

of_event : (k : Kind) (d : Data) → is_spared (event_of k d) ≡ true
unfolding event_of
of_event Kill d = bind _ _ (at_number _ _ _ d) (λ tgid. last _ _ (at_number _ _ _ d))
of_event Tgkill d = bind _ _ (at_number _ _ _ d) (λ tgid. bind _ _ (at_number _ _ _ d) (λ tid. last _ _ (at_number _ _ _ d)))
of_event Sigqueue d = bind _ _ (at_number _ _ _ d) (λ tgid. bind _ _ (at_number _ _ _ d) (λ sig. last _ _ (at_value _ d)))
of_event Mask d = bind _ _ (at_number _ _ _ d) (λ tid. last _ _ (at_set _ d))
of_event SetAction d = bind _ _ (at_number _ _ _ d) (λ tid. bind _ _ (at_number _ _ _ d) (λ sig. last _ _ (at_how _ d)))
of_event Pause d = last _ _ (at_number _ _ _ d)
of_event Take d = last _ _ (at_number _ _ _ d)
of_event TakeAny d = last _ _ (at_number _ _ _ d)
of_event Halt d = last _ _ (at_number _ _ _ d)
of_event Trap d = last _ _ (at_number _ _ _ d)
of_event Die d = last _ _ (at_number _ _ _ d)
of_event CloneThread d = last _ _ (at_number _ _ _ d)
of_event Exec d = last _ _ (at_number _ _ _ d)
of_event Finish d = last _ _ (at_number _ _ _ d)
of_event Exit d = bind _ _ (at_number _ _ _ d) (λ tid. last _ _ (at_number _ _ _ d))
of_event ExitGroup d = bind _ _ (at_number _ _ _ d) (λ tid. last _ _ (at_number _ _ _ d))
of_event Attach d = last _ _ (at_number _ _ _ d)
of_event Seize d = bind _ _ (at_number _ _ _ d) (λ tid. last _ _ (at_options _ d))
of_event Interrupt d = last _ _ (at_number _ _ _ d)
of_event Cont d = bind _ _ (at_number _ _ _ d) (λ tid. last _ _ (at_number _ _ _ d))
of_event Listen d = last _ _ (at_number _ _ _ d)
of_event Detach d = bind _ _ (at_number _ _ _ d) (λ tid. last _ _ (at_number _ _ _ d))
of_event SetOptions d = bind _ _ (at_number _ _ _ d) (λ tid. last _ _ (at_options _ d))
of_event EventMessage d = last _ _ (at_number _ _ _ d)
of_event SignalInfo d = last _ _ (at_number _ _ _ d)
of_event TracerExit d = refl
of_event Wait d = last _ _ (at_number _ _ _ d)
of_event StarterWait d = bind _ _ (at_number _ _ _ d) (λ tgid. bind _ _ (at_flag _ d) (λ untraced. last _ _ (at_flag _ d)))

-- Steps

in_times : (o : Option Data) → is_spared (times_in o) ≡ true
in_times None = refl
in_times (Some v) = in_range 1 100000 v

of_times : (d : Data) → is_spared (times_of d) ≡ true
unfolding times_of
of_times d = in_times (get (codes "times") d)

at_kind : (key : List ℕ) (d : Data) → is_spared (kind_at key d) ≡ true
unfolding kind_at
at_kind key d = bind _ _ (at_text key d) (λ name. there _)

pub among : (keys : List (List ℕ)) (d : Data) → is_spared (step_among keys d) ≡ true
unfolding step_among
among keys d =
    bind _ _ (at_number _ _ _ d) (λ actor. bind _ _ (at_kind _ d) (λ kind.
    bind _ _ (of_event kind d) (λ event. bind _ _ (of_times d) (λ times.
    at_end (keys ++ fields_of kind) d (record { actor = actor; event = event; times = times })))))

of_step : (d : Data) → is_spared (step_of d) ≡ true
unfolding step_of
of_step d = among _ d

in_steps : {A : Type 0} (f : Data → Result A ScenarioFault) → ((d : Data) → is_spared (f d) ≡ true) → (o : Option Items) → is_spared (needed o >>= λ ds. if nat_le (count_of ds) 10000 then each f ds else Err TooLarge) ≡ true
in_steps f h None = refl
in_steps f h (Some ds) = if_either (nat_le (count_of ds) 10000) (each f ds) (Err TooLarge) (in_each f h ds) refl

pub at_steps : {A : Type 0} (key : List ℕ) (f : Data → Result A ScenarioFault) → ((d : Data) → is_spared (f d) ≡ true) → (d : Data) → is_spared (steps_at key f d) ≡ true
unfolding steps_at
at_steps key f h d = bind _ _ (at_field key d) (λ v. in_steps f h (as_array v))

-- Workers

from_until : (o : Option Bool) → is_spared (until_from o) ≡ true
from_until None = refl
from_until (Some true) = refl
from_until (Some false) = refl

in_repeat : (times until : Option Data) → is_spared (repeat_in times until) ≡ true
in_repeat times None = last _ _ (in_times times)
in_repeat None (Some v) = from_until (as_bool v)
in_repeat (Some times) (Some v) = refl

of_repeat : (d : Data) → is_spared (repeat_of d) ≡ true
unfolding repeat_of
of_repeat d = in_repeat (get (codes "times") d) (get (codes "until") d)

of_item : (d : Data) → is_spared (item_of d) ≡ true
unfolding item_of
of_item d =
    bind _ _ (at_kind _ d) (λ kind. bind _ _ (of_event kind d) (λ event. bind _ _ (of_repeat d) (λ repeat.
    at_end (codes "do" ∷ codes "times" ∷ codes "until" ∷ fields_of kind) d (record { event = event; repeat = repeat }))))

at_op_kind : (key : List ℕ) (d : Data) → is_spared (op_kind_at key d) ≡ true
unfolding op_kind_at
at_op_kind key d = bind _ _ (at_kind key d) (λ kind. if_either (is_op kind) (Ok kind) (Err BadField) refl refl)

of_op : (d : Data) → is_spared (op_of d) ≡ true
unfolding op_of
of_op d = bind _ _ (at_op_kind _ d) (λ kind. bind _ _ (of_event kind d) (λ event. at_end (codes "do" ∷ fields_of kind) d event))

of_served : (d : Data) → is_spared (served_of d) ≡ true
unfolding served_of
of_served d =
    bind _ _ (at_number _ _ _ d) (λ tid. bind _ _ (at_list (codes "ops") op_of of_op d) (λ ops.
    at_end (codes "tid" ∷ codes "ops" ∷ []) d (record { tid = tid; ops = ops })))

in_plan : (items machine : Option Data) → is_spared (plan_in items machine) ≡ true
in_plan (Some v) None = last _ _ (in_list item_of of_item v)
in_plan None (Some v) = last _ _ (in_list served_of of_served v)
in_plan None None = refl
in_plan (Some v) (Some w) = refl

of_plan : (d : Data) → is_spared (plan_of d) ≡ true
unfolding plan_of
of_plan d = in_plan (get (codes "items") d) (get (codes "machine") d)

of_worker : (d : Data) → is_spared (worker_of d) ≡ true
unfolding worker_of
of_worker d =
    bind _ _ (at_number _ _ _ d) (λ actor. bind _ _ (of_plan d) (λ plan.
    at_end (codes "actor" ∷ codes "items" ∷ codes "machine" ∷ []) d (record { actor = actor; plan = plan })))

in_workers : (o : Option Items) → is_spared (needed o >>= λ ds. if nat_le 1 (count_of ds) && nat_le (count_of ds) 64 then each worker_of ds else Err BadField) ≡ true
in_workers None = refl
in_workers (Some ds) = if_either (nat_le 1 (count_of ds) && nat_le (count_of ds) 64) (each worker_of ds) (Err BadField) (in_each worker_of of_worker ds) refl

at_workers : (key : List ℕ) (d : Data) → is_spared (workers_at key d) ≡ true
unfolding workers_at
at_workers key d = bind _ _ (at_field key d) (λ v. in_workers (as_array v))

-- The object

of_job : (version : ℕ) (d : Data) → is_spared (job_of version d) ≡ true
unfolding job_of
of_job version d = if_either (version == 1) _ _ (last _ _ (at_steps (codes "steps") step_of of_step d)) (last _ _ (at_workers _ d))

pub of_start : (d : Data) → is_spared (start_of d) ≡ true
unfolding start_of
of_start d = bind _ _ (at_number _ _ _ d) (λ limit. bind _ _ (at_number _ _ _ d) (λ entries. last _ _ (at_list (codes "groups") group_of of_group d)))

of_walk : (d : Data) → is_spared (walk d) ≡ true
unfolding walk
of_walk d =
    bind _ _ (at_number _ _ _ d) (λ version. bind _ _ (of_start d) (λ start. bind _ _ (of_job version d) (λ job.
    at_end (codes "version" ∷ codes "limit" ∷ codes "entries" ∷ codes "groups" ∷ job_key version ∷ []) d (record { start = start; job = job }))))

passed : (small repeats good : Bool) (s : Scenario) → is_spared (if small then (if repeats then Err Repeated else (if good then Ok s else Err BadStart)) else Err TooLarge) ≡ true
passed false repeats good s = refl
passed true true good s = refl
passed true false true s = refl
passed true false false s = refl

pub of_whole : (s : Scenario) → is_spared (whole s) ≡ true
unfolding whole
of_whole s = passed (is_small s.job) (has_repeats s) (is_good s.start) s

pub of_scenario : (d : Data) → is_spared (walk d >>= whole) ≡ true
of_scenario d = bind (walk d) whole (of_walk d) of_whole
