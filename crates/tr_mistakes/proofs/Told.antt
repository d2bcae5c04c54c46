-- Of whatever is refused it is told what is wanted.
use Rattle.std.proofs.Common.{◌≡◌, ◌==◌, ◌||◌, ◌+◌, ◌-◌, ◌^◌, ℕ, List, [], ◌∷◌, ◌++◌, refl, Bool, true, false, Option, None, Some, Result, Ok, Err, ◌&&◌, if◌then◌else◌, codes, nat_le}
use Rattle.std.specs.Prelude.{is_err, is_some, ⊤}
use Rattle.serde_json.specs.Data.{Data, Items, no_items, item, Members, no_members, member}
use Rattle.serde_json.specs.Find.{as_array, as_object, get}
use Rattle.tr_group.specs.declared.stops.Action.{Action}
use Rattle.tr_starts.specs.declared.starts.GroupStart.{GroupStart}
use Rattle.tr_workers.specs.declared.scripts.Item.{Item}
use Rattle.tr_workers.specs.declared.scripts.Plan.TheVariants.{Items as Items_of, Machine}
use Rattle.tr_workers.specs.declared.scripts.Script.{Script}
use Rattle.tr_workers.specs.declared.scripts.Served.{Served}
use Rattle.tr_reading.specs.declared.steps.Step.{Step}
use Rattle.tr_reading.specs.declared.faults.ScenarioFault.{ScenarioFault}
use Rattle.tr_reading.specs.declared.faults.ScenarioFault.TheVariants.{BadField, TooLarge}
use Rattle.tr_reading.specs.declared.kinds.Kind.{Kind}
use Rattle.tr_reading.specs.declared.kinds.Kind.TheVariants.{Kill, Tgkill, Sigqueue, Mask, SetAction, Pause, Take, TakeAny, Halt, Trap, Die, CloneThread, Exec, Finish, Exit, ExitGroup, Attach, Seize, Interrupt, Cont, Listen, Detach, SetOptions, EventMessage, SignalInfo, TracerExit, Wait, StarterWait}
use Rattle.tr_reading.specs.declared.scenarios.Job.TheVariants.{Steps, Workers}
use Rattle.tr_reading.specs.declared.scenarios.Scenario.{Scenario}
use Rattle.tr_reading.specs.Events.{event_of, option_of, options_at}
use Rattle.tr_reading.specs.Fields.{◌>>=◌, each, is_one_of, id_at, keys_among, list_at, list_of, needed, no_key_but, number_at, set_at, signal_at, signal_of, text_at}
use Rattle.tr_reading.specs.Groups.{action_of, group_of, how_at, thread_of}
use Rattle.tr_reading.specs.Kinds.{fields_of, kind_at}
use Rattle.tr_reading.specs.Scenarios.{job_key, job_of, start_of, walk}
use Rattle.tr_reading.specs.Steps.{count_of, step_among, step_of, steps_at, times_of}
use Rattle.tr_reading.specs.Workers.{item_of, op_kind_at, op_of, plan_in, plan_of, served_of, worker_of, workers_at}
use Rattle.tr_mistakes.specs.declared.wanted.Wanted.{Wanted}
use Rattle.tr_mistakes.specs.declared.wanted.Wanted.TheVariants as wanted
use Rattle.tr_mistakes.specs.Events.{by_kind, event_wanted, field_mistake, fields_mistake, is_refused, item_mistake, made_mistake, op_mistake, op_wanted, option_mistake, planned_mistake, repeat_mistake, op_fields_mistake, signal_mistake, step_fields_mistake, step_mistake}
use Rattle.tr_mistakes.specs.Groups.{action_fields_mistake, action_mistake, group_fields_mistake, group_lists_mistake, group_mistake, start_fields_mistake, thread_fields_mistake, thread_mistake}
use Rattle.tr_mistakes.specs.Parts.{in_object, index_part, key_part, keys_mistake, keys_mistake_of, list_mistake, list_mistake_in, listed_mistake, named_key, refused_member, unknown_among, unknown_key, wanted_at, wanted_in, whole_number}
use Rattle.tr_mistakes.specs.Scenarios.{fields_of_scenario_mistake, job_mistake, scenario_mistake, steps_listed, steps_mistake, version_mistake, walked_mistake, workers_listed, workers_mistake}
use Rattle.tr_mistakes.specs.Told.{IsAllTold, Tells, has_words}
use Rattle.tr_mistakes.specs.Workers.{plan_mistake, served_fields_mistake, served_mistake, worker_fields_mistake, worker_mistake}

-- Words

join : (a b : List ℕ) → has_words b ≡ true → has_words (a ++ b) ≡ true
join [] b h = h
join (x ∷ a) b h = go (x == 58) (join a b h)
  where
    go : (c : Bool) → has_words (a ++ b) ≡ true → (c || has_words (a ++ b)) ≡ true
    go true k = refl
    go false k = k

in_place : (words : List ℕ) (o : Option Data) → has_words words ≡ true → has_words (wanted_in words o) ≡ true
in_place words None h = refl
in_place words (Some v) h = h

at : (key words : List ℕ) (d : Data) → has_words words ≡ true → has_words (wanted_at key words d) ≡ true
at key words d h = join (key_part key) (wanted_in words (get key d)) (in_place words (get key d) h)

-- Readings in a row

told : {A B : Type 0} (r : Result A ScenarioFault) (f : A → Result B ScenarioFault) (here further : List ℕ) → is_err (r >>= f) ≡ true →
    (is_err r ≡ true → has_words here ≡ true) → ((x : A) → is_err (f x) ≡ true → has_words further ≡ true) → has_words (if is_err r then here else further) ≡ true
told (Ok x) f here further e h k = k x e
told (Err y) f here further e h k = h refl

plain : {A B : Type 0} (r : Result A ScenarioFault) (f : A → B) → is_err (r >>= λ x. Ok (f x)) ≡ true → is_err r ≡ true
plain (Ok x) f e = e
plain (Err y) f e = refl

last : {A B : Type 0} (r : Result A ScenarioFault) (f : A → B) (here : List ℕ) → is_err (r >>= λ x. Ok (f x)) ≡ true →
    (is_err r ≡ true → has_words here ≡ true) → has_words (if is_err r then here else []) ≡ true
last (Ok x) f here e h = cc
last (Err y) f here e h = h refl

-- Keys

of_key : (key : List ℕ) → has_words (unknown_key key) ≡ true
of_key key = go _
  where
    go : (b : Bool) → has_words (if b then named_key key else codes ": a key isn't known here") ≡ true
    go true = refl
    go false = refl

among : (names : List (List ℕ)) (ms : Members) → keys_among names ms ≡ false → has_words (unknown_among names ms) ≡ true
among names no_members e = cc
among names (member k d ms) e = go (is_one_of names k) (among names ms) e
  where
    go : (b : Bool) → (keys_among names ms ≡ false → has_words (unknown_among names ms) ≡ true) → (b && keys_among names ms) ≡ false → has_words (if b then unknown_among names ms else unknown_key k) ≡ true
    go true m h = m h
    go false m h = of_key k

-- the keys of an object
abbrev keys_read : List (List ℕ) → Option Members → Result ⊤ ScenarioFault
keys_read names o = needed o >>= λ ms. if keys_among names ms then Ok tt else Err BadField

of_keys : (names : List (List ℕ)) (o : Option Members) → is_some o ≡ true → is_err (keys_read names o) ≡ true → has_words (keys_mistake_of names o) ≡ true
of_keys names None s e = cc
of_keys names (Some ms) s e = go (keys_among names ms) refl e
  where
    go : (b : Bool) → keys_among names ms ≡ b → is_err {T = ⊤} (if b then Ok tt else Err BadField) ≡ true → has_words (unknown_among names ms) ≡ true
    go true h x = cc
    go false h x = among names ms h

at_end : {A : Type 0} (names : List (List ℕ)) (d : Data) (x : A) → is_some (as_object d) ≡ true → is_err (no_key_but names d >>= λ k. Ok x) ≡ true → has_words (keys_mistake names d) ≡ true
at_end names d x s e = of_keys names (as_object d) s (plain (no_key_but names d) (λ k. x) e)

object : (mistake : Data → List ℕ) (d : Data) → (is_some (as_object d) ≡ true → has_words (mistake d) ≡ true) → has_words (in_object mistake d) ≡ true
object mistake d h = go (is_some (as_object d)) refl
  where
    go : (b : Bool) → is_some (as_object d) ≡ b → has_words (if b then mistake d else codes ": an object is wanted") ≡ true
    go true s = h s
    go false s = refl

-- Lists

of_member : {A : Type 0} (read : Data → Result A ScenarioFault) (mistake : Data → List ℕ) → Tells read mistake → (i : ℕ) (ds : Items) → is_err (each read ds) ≡ true → has_words (refused_member read mistake i ds) ≡ true
of_member read mistake h i no_items e = cc
of_member {A} read mistake h i (item d ds) e = go (read d) (h d) (of_member read mistake h (i + 1) ds) e
  where
    go : (r : Result A ScenarioFault) → (is_err r ≡ true → has_words (mistake d) ≡ true) → (is_err (each read ds) ≡ true → has_words (refused_member read mistake (i + 1) ds) ≡ true) → is_err (r >>= λ x. each read ds >>= λ xs. Ok (x ∷ xs)) ≡ true →
        has_words (if is_err r then index_part i ++ mistake d else refused_member read mistake (i + 1) ds) ≡ true
    go (Ok x) k m p = m (plain (each read ds) (λ xs. x ∷ xs) p)
    go (Err y) k m p = join (index_part i) (mistake d) (k refl)

of_items : {A : Type 0} (read : Data → Result A ScenarioFault) (mistake : Data → List ℕ) → Tells read mistake → (o : Option Items) → is_err (needed o >>= λ ds. each read ds) ≡ true → has_words (listed_mistake read mistake o) ≡ true
of_items read mistake h None e = refl
of_items read mistake h (Some ds) e = of_member read mistake h 0 ds e

of_list : {A : Type 0} (read : Data → Result A ScenarioFault) (mistake : Data → List ℕ) → Tells read mistake → (d : Data) → is_err (list_of read d) ≡ true → has_words (listed_mistake read mistake (as_array d)) ≡ true
unfolding list_of
of_list read mistake h d e = of_items read mistake h (as_array d) e

in_list : {A : Type 0} (read : Data → Result A ScenarioFault) (mistake : Data → List ℕ) → Tells read mistake → (o : Option Data) → is_err (needed o >>= λ v. list_of read v) ≡ true → has_words (list_mistake_in read mistake o) ≡ true
in_list read mistake h None e = refl
in_list read mistake h (Some v) e = of_list read mistake h v e

at_list : {A : Type 0} (key : List ℕ) (read : Data → Result A ScenarioFault) (mistake : Data → List ℕ) → Tells read mistake → (d : Data) → is_err (list_at key read d) ≡ true → has_words (list_mistake key read mistake d) ≡ true
at_list key read mistake h d e = join (key_part key) _ (in_list read mistake h (get key d) e)

-- Fields

at_set : (key : List ℕ) (d : Data) → is_err (set_at key d) ≡ true → has_words (list_mistake key signal_of signal_mistake d) ≡ true
unfolding set_at
at_set key d e = at_list key signal_of signal_mistake (λ v h. refl) d (plain (list_at key signal_of d) _ e)

at_options : (key : List ℕ) (d : Data) → is_err (options_at key d) ≡ true → has_words (list_mistake key option_of option_mistake d) ≡ true
unfolding options_at
at_options key d e = at_list key option_of option_mistake (λ v h. refl) d (plain (list_at key option_of d) _ e)

at_field : (w : Wanted) (key : List ℕ) (d : Data) → is_refused w key d ≡ true → has_words (field_mistake w key d) ≡ true
at_field wanted.Id key d e = at key _ d refl
at_field wanted.Byte key d e = at key _ d refl
at_field wanted.Value key d e = at key _ d refl
at_field wanted.Flag key d e = at key _ d refl
at_field wanted.How key d e = at key _ d refl
at_field wanted.Signals key d e = at_set key d e
at_field wanted.Options key d e = at_options key d e

-- Groups

of_thread : Tells thread_of thread_mistake
unfolding thread_of
of_thread d e = object thread_fields_mistake d (λ s. told _ _ _ _ e (at_field wanted.Id _ d) (λ tid e. told _ _ _ _ e (at_field wanted.Signals _ d) (λ blocked e. at_end (codes "tid" ∷ codes "blocked" ∷ []) d (tid, blocked) s e)))

of_action : Tells action_of action_mistake
unfolding action_of
of_action d e = object action_fields_mistake d (λ s. told {B = ℕ × Action} (signal_at (codes "sig") d) _ (wanted_at (codes "sig") (codes ": a signal, 1 to 64, is wanted") d) (if is_err (how_at (codes "how") d) then field_mistake wanted.How (codes "how") d else keys_mistake (codes "sig" ∷ codes "how" ∷ []) d) e (λ h. at (codes "sig") (codes ": a signal, 1 to 64, is wanted") d refl) (λ sig e. told {B = ℕ × Action} (how_at (codes "how") d) _ (field_mistake wanted.How (codes "how") d) (keys_mistake (codes "sig" ∷ codes "how" ∷ []) d) e (at_field wanted.How (codes "how") d) (λ how e. at_end (codes "sig" ∷ codes "how" ∷ []) d (sig, how) s e)))

of_group : Tells group_of group_mistake
unfolding group_of
of_group d e =
    object group_fields_mistake d (λ s. told {B = GroupStart} (id_at (codes "tgid") d) _ (field_mistake wanted.Id (codes "tgid") d) _ e (at_field wanted.Id (codes "tgid") d) (λ tgid e. told {B = GroupStart} (text_at (codes "name") d) _ (wanted_at (codes "name") (codes ": a text is wanted") d) (group_lists_mistake d) e (λ h. at (codes "name") (codes ": a text is wanted") d refl) (λ name e.
    told {B = GroupStart} (list_at (codes "threads") thread_of d) _ (list_mistake (codes "threads") thread_of thread_mistake d) (if is_err (list_at (codes "actions") action_of d) then list_mistake (codes "actions") action_of action_mistake d else keys_mistake (codes "tgid" ∷ codes "name" ∷ codes "threads" ∷ codes "actions" ∷ []) d) e (at_list (codes "threads") thread_of thread_mistake of_thread d) (λ threads e. told {B = GroupStart} (list_at (codes "actions") action_of d) _ (list_mistake (codes "actions") action_of action_mistake d) (keys_mistake (codes "tgid" ∷ codes "name" ∷ codes "threads" ∷ codes "actions" ∷ []) d) e (at_list (codes "actions") action_of action_mistake of_action d) (λ actions e.
    at_end (codes "tgid" ∷ codes "name" ∷ codes "threads" ∷ codes "actions" ∷ []) d (record { tgid = tgid; name = name; actions = actions; threads = threads }) s e)))))

-- Events

of_event : (k : Kind) (d : Data) → is_err (event_of k d) ≡ true → has_words (fields_mistake (fields_of k) d) ≡ true
unfolding event_of
of_event Kill d e = told _ _ _ _ e (at_field wanted.Id _ d) (λ tgid e. last _ _ _ e (at_field wanted.Byte _ d))
of_event Tgkill d e = told _ _ _ _ e (at_field wanted.Id _ d) (λ tgid e. told _ _ _ _ e (at_field wanted.Id _ d) (λ tid e. last _ _ _ e (at_field wanted.Byte _ d)))
of_event Sigqueue d e = told _ _ _ _ e (at_field wanted.Id _ d) (λ tgid e. told _ _ _ _ e (at_field wanted.Byte _ d) (λ sig e. last _ _ _ e (at_field wanted.Value _ d)))
of_event Mask d e = told _ _ _ _ e (at_field wanted.Id _ d) (λ tid e. last _ _ _ e (at_field wanted.Signals _ d))
of_event SetAction d e = told _ _ _ _ e (at_field wanted.Id _ d) (λ tid e. told _ _ _ _ e (at_field wanted.Byte _ d) (λ sig e. last _ _ _ e (at_field wanted.How _ d)))
of_event Pause d e = last _ _ _ e (at_field wanted.Id _ d)
of_event Take d e = last _ _ _ e (at_field wanted.Id _ d)
of_event TakeAny d e = last _ _ _ e (at_field wanted.Id _ d)
of_event Halt d e = last _ _ _ e (at_field wanted.Id _ d)
of_event Trap d e = last _ _ _ e (at_field wanted.Id _ d)
of_event Die d e = last _ _ _ e (at_field wanted.Id _ d)
of_event CloneThread d e = last _ _ _ e (at_field wanted.Id _ d)
of_event Exec d e = last _ _ _ e (at_field wanted.Id _ d)
of_event Finish d e = last _ _ _ e (at_field wanted.Id _ d)
of_event Exit d e = told _ _ _ _ e (at_field wanted.Id _ d) (λ tid e. last _ _ _ e (at_field wanted.Id _ d))
of_event ExitGroup d e = told _ _ _ _ e (at_field wanted.Id _ d) (λ tid e. last _ _ _ e (at_field wanted.Id _ d))
of_event Attach d e = last _ _ _ e (at_field wanted.Id _ d)
of_event Seize d e = told _ _ _ _ e (at_field wanted.Id _ d) (λ tid e. last _ _ _ e (at_field wanted.Options _ d))
of_event Interrupt d e = last _ _ _ e (at_field wanted.Id _ d)
of_event Cont d e = told _ _ _ _ e (at_field wanted.Id _ d) (λ tid e. last _ _ _ e (at_field wanted.Byte _ d))
of_event Listen d e = last _ _ _ e (at_field wanted.Id _ d)
of_event Detach d e = told _ _ _ _ e (at_field wanted.Id _ d) (λ tid e. last _ _ _ e (at_field wanted.Byte _ d))
of_event SetOptions d e = told _ _ _ _ e (at_field wanted.Id _ d) (λ tid e. last _ _ _ e (at_field wanted.Options _ d))
of_event EventMessage d e = last _ _ _ e (at_field wanted.Id _ d)
of_event SignalInfo d e = last _ _ _ e (at_field wanted.Id _ d)
of_event TracerExit d e = cc
of_event Wait d e = last _ _ _ e (at_field wanted.Id _ d)
of_event StarterWait d e = told _ _ _ _ e (at_field wanted.Id _ d) (λ tgid e. told _ _ _ _ e (at_field wanted.Flag _ d) (λ untraced e. last _ _ _ e (at_field wanted.Flag _ d)))

-- by the kind, which some name has to be
of_kind : {A : Type 0} (words : List ℕ) (mistake : Kind → Data → List ℕ) (r : Result Kind ScenarioFault) (f : Kind → Result A ScenarioFault) (d : Data) →
    is_err (r >>= f) ≡ true → has_words words ≡ true → ((k : Kind) → is_err (f k) ≡ true → has_words (mistake k d) ≡ true) → has_words (by_kind words mistake r d) ≡ true
of_kind words mistake (Ok k) f d e w h = h k e
of_kind words mistake (Err y) f d e w h = at (codes "do") words d w

among_steps : (keys : List (List ℕ)) (d : Data) → is_some (as_object d) ≡ true → is_err (step_among keys d) ≡ true → has_words (step_fields_mistake keys d) ≡ true
unfolding step_among
among_steps keys d s e =
    told {B = Step} (number_at (codes "actor") 1 (2 ^ 32 - 1) d) _ (wanted_at (codes "actor") (whole_number 1 (2 ^ 32 - 1)) d) (by_kind event_wanted (made_mistake keys) (kind_at (codes "do") d) d) e (λ h. at (codes "actor") (whole_number 1 (2 ^ 32 - 1)) d refl) (λ actor e. of_kind {A = Step} event_wanted (made_mistake keys) (kind_at (codes "do") d) _ d e refl (λ kind e.
    told {B = Step} (event_of kind d) _ (fields_mistake (fields_of kind) d) (if is_err (times_of d) then wanted_at (codes "times") (whole_number 1 100000) d else keys_mistake (keys ++ fields_of kind) d) e (of_event kind d) (λ event e. told {B = Step} (times_of d) _ (wanted_at (codes "times") (whole_number 1 100000) d) (keys_mistake (keys ++ fields_of kind) d) e (λ h. at (codes "times") (whole_number 1 100000) d refl) (λ times e. at_end (keys ++ fields_of kind) d (record { actor = actor; event = event; times = times }) s e))))

of_step : Tells step_of step_mistake
unfolding step_of
of_step d e = object (step_fields_mistake (codes "actor" ∷ codes "do" ∷ codes "times" ∷ [])) d (λ s. among_steps _ d s e)

of_repeat : (o : Option Data) (d : Data) → has_words (repeat_mistake o d) ≡ true
of_repeat None d = at (codes "times") _ d refl
of_repeat (Some v) d = refl

of_item : Tells item_of item_mistake
unfolding item_of
of_item d e =
    object (λ x. by_kind event_wanted planned_mistake (kind_at (codes "do") x) x) d (λ s. of_kind event_wanted planned_mistake _ _ d e refl (λ kind e.
    told _ _ _ _ e (of_event kind d) (λ event e. told {B = Item} _ _ _ _ e (λ h. of_repeat (get (codes "until") d) d) (λ repeat e. at_end (codes "do" ∷ codes "times" ∷ codes "until" ∷ fields_of kind) d (record { event = event; repeat = repeat }) s e))))

of_op : Tells op_of op_mistake
unfolding op_of
of_op d e =
    object (λ x. by_kind op_wanted op_fields_mistake (op_kind_at (codes "do") x) x) d (λ s. of_kind op_wanted op_fields_mistake _ _ d e refl (λ kind e.
    told _ _ _ _ e (of_event kind d) (λ event e. at_end (codes "do" ∷ fields_of kind) d event s e)))

-- Workers

of_served : Tells served_of served_mistake
unfolding served_of
of_served d e = object served_fields_mistake d (λ s. told _ _ _ _ e (at_field wanted.Id _ d) (λ tid e. told {B = Served} (list_at (codes "ops") op_of d) _ (list_mistake (codes "ops") op_of op_mistake d) (keys_mistake (codes "tid" ∷ codes "ops" ∷ []) d) e (at_list (codes "ops") op_of op_mistake of_op d) (λ ops e. at_end (codes "tid" ∷ codes "ops" ∷ []) d (record { tid = tid; ops = ops }) s e)))

in_plan : (items machine : Option Data) → is_err (plan_in items machine) ≡ true → has_words (plan_mistake items machine) ≡ true
in_plan (Some v) None e = join (key_part (codes "items")) (listed_mistake item_of item_mistake (as_array v)) (of_list item_of item_mistake of_item v (plain (list_of item_of v) (λ items. Items_of items) e))
in_plan None (Some v) e = join (key_part (codes "machine")) (listed_mistake served_of served_mistake (as_array v)) (of_list served_of served_mistake of_served v (plain (list_of served_of v) (λ threads. Machine threads) e))
in_plan None None e = refl
in_plan (Some v) (Some w) e = refl

at_plan : (d : Data) → is_err (plan_of d) ≡ true → has_words (plan_mistake (get (codes "items") d) (get (codes "machine") d)) ≡ true
unfolding plan_of
at_plan d e = in_plan (get (codes "items") d) (get (codes "machine") d) e

of_worker : Tells worker_of worker_mistake
unfolding worker_of
of_worker d e = object worker_fields_mistake d (λ s. told _ _ _ _ e (λ h. at (codes "actor") (whole_number 1 (2 ^ 32 - 1)) d refl) (λ actor e. told {B = Script} _ _ _ _ e (at_plan d) (λ plan e. at_end (codes "actor" ∷ codes "items" ∷ codes "machine" ∷ []) d (record { actor = actor; plan = plan }) s e)))

-- The object

in_steps : (o : Option Items) → is_err (needed o >>= λ ds. if nat_le (count_of ds) 10000 then each step_of ds else Err TooLarge) ≡ true → has_words (steps_listed o) ≡ true
in_steps None e = refl
in_steps (Some ds) e = go (nat_le (count_of ds) 10000) e
  where
    go : (b : Bool) → is_err (if b then each step_of ds else Err TooLarge) ≡ true → has_words (if b then refused_member step_of step_mistake 0 ds else codes ": more than 10000 steps") ≡ true
    go true h = of_member step_of step_mistake of_step 0 ds h
    go false h = refl

in_workers : (o : Option Items) → is_err (needed o >>= λ ds. if nat_le 1 (count_of ds) && nat_le (count_of ds) 64 then each worker_of ds else Err BadField) ≡ true → has_words (workers_listed o) ≡ true
in_workers None e = refl
in_workers (Some ds) e = go (nat_le 1 (count_of ds)) (nat_le (count_of ds) 64) e
  where
    go : (b c : Bool) → is_err (if b && c then each worker_of ds else Err BadField) ≡ true → has_words (if b && c then refused_member worker_of worker_mistake 0 ds else codes ": 1 to 64 workers are wanted") ≡ true
    go true true h = of_member worker_of worker_mistake of_worker 0 ds h
    go true false h = refl
    go false true h = refl
    go false false h = refl

at_steps : (o : Option Data) → is_err (needed o >>= λ v. needed (as_array v) >>= λ ds. if nat_le (count_of ds) 10000 then each step_of ds else Err TooLarge) ≡ true → has_words (steps_mistake o) ≡ true
at_steps None e = refl
at_steps (Some v) e = in_steps (as_array v) e

at_workers : (o : Option Data) → is_err (needed o >>= λ v. needed (as_array v) >>= λ ds. if nat_le 1 (count_of ds) && nat_le (count_of ds) 64 then each worker_of ds else Err BadField) ≡ true → has_words (workers_mistake o) ≡ true
at_workers None e = refl
at_workers (Some v) e = in_workers (as_array v) e

of_steps : (d : Data) → is_err (steps_at (codes "steps") step_of d) ≡ true → has_words (key_part (codes "steps") ++ steps_mistake (get (codes "steps") d)) ≡ true
unfolding steps_at
of_steps d e = join (key_part (codes "steps")) (steps_mistake (get (codes "steps") d)) (at_steps (get (codes "steps") d) e)

of_workers : (d : Data) → is_err (workers_at (codes "workers") d) ≡ true → has_words (key_part (codes "workers") ++ workers_mistake (get (codes "workers") d)) ≡ true
unfolding workers_at
of_workers d e = join (key_part (codes "workers")) (workers_mistake (get (codes "workers") d)) (at_workers (get (codes "workers") d) e)

of_job : (version : ℕ) (d : Data) → is_err (job_of version d) ≡ true → has_words (job_mistake version d) ≡ true
unfolding job_of
of_job version d e = go (version == 1) e
  where
    go : (b : Bool) → is_err (if b then (steps_at (codes "steps") step_of d >>= λ steps. Ok (Steps steps)) else (workers_at (codes "workers") d >>= λ scripts. Ok (Workers scripts))) ≡ true →
        has_words (if b then key_part (codes "steps") ++ steps_mistake (get (codes "steps") d) else key_part (codes "workers") ++ workers_mistake (get (codes "workers") d)) ≡ true
    go true h = of_steps d (plain (steps_at (codes "steps") step_of d) _ h)
    go false h = of_workers d (plain (workers_at (codes "workers") d) _ h)

of_start : (d : Data) → is_err (start_of d) ≡ true → has_words (start_fields_mistake d) ≡ true
unfolding start_of
of_start d e =
    told _ _ _ _ e (at_field wanted.Id _ d) (λ limit e. told _ _ _ _ e (at_field wanted.Id _ d) (λ entries e.
    at_list (codes "groups") group_of group_mistake of_group d (plain (list_at (codes "groups") group_of d) _ e)))

in_version : (d : Data) → is_some (as_object d) ≡ true → (r : Result ℕ ScenarioFault) →
    is_err {T = Scenario} (r >>= λ version. start_of d >>= λ start. job_of version d >>= λ job.
    no_key_but (codes "version" ∷ codes "limit" ∷ codes "entries" ∷ codes "groups" ∷ job_key version ∷ []) d >>= λ k. Ok (record { start = start; job = job })) ≡ true →
    has_words (version_mistake r d) ≡ true
in_version d s (Ok version) e = told _ _ _ _ e (of_start d) (λ start e. told {B = Scenario} _ _ _ _ e (of_job version d) (λ job e. at_end (codes "version" ∷ codes "limit" ∷ codes "entries" ∷ codes "groups" ∷ job_key version ∷ []) d (record { start = start; job = job }) s e))
in_version d s (Err y) e = at (codes "version") _ d refl

of_walk : (d : Data) → is_some (as_object d) ≡ true → is_err (walk d) ≡ true → has_words (fields_of_scenario_mistake d) ≡ true
unfolding walk
of_walk d s e = in_version d s (number_at (codes "version") 1 2 d) e

of_scenario : Tells walk scenario_mistake
of_scenario d e = go (walk d) refl e
  where
    go : (r : Result Scenario ScenarioFault) → walk d ≡ r → is_err r ≡ true → has_words (walked_mistake r d) ≡ true
    go (Ok x) w h = cc
    go (Err y) w h = object fields_of_scenario_mistake d (λ s. of_walk d s e)

pub all_is_told : IsAllTold
all_is_told = record {
  threads = of_thread;
  actions = of_action;
  groups = of_group;
  steps = of_step;
  items = of_item;
  ops = of_op;
  machines = of_served;
  workers = of_worker;
  scenarios = of_scenario;
}
