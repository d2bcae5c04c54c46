-- Steps and the scripts of their actors.
use Rattle.std.proofs.Common.{◌≡◌, ◌∙◌, ◌==◌, ◌≤◌, ◌<◌, ◌+◌, ℕ, zero, suc, Bool, List, [], ◌∷◌, ◌++◌, true, false, ap, sym, refl, length, arith, Some, None, get_or, slice_set, drop, map, nat_le, ◌&&◌}
use Rattle.std.proofs.lemmas.Grind.{common_steps}
use Rattle.std.proofs.lemmas.List.{at_drop_more, length-map}
use Rattle.std.proofs.lemmas.List.Quantifiers.{position-Some}
use Rattle.std.proofs.lemmas.List.Sums.{fails_before_first}
use Rattle.std.specs.List.{list_any, position, position_or_len}
use Rattle.tr_starts.specs.Starts.{no_repeat}
use Rattle.tr_workers.specs.declared.scripts.Script.{Script}
use Rattle.tr_reading.specs.declared.scenarios.Job.{Job}
use Rattle.tr_reading.specs.declared.scenarios.Job.TheVariants.{Steps, Workers}
use Rattle.tr_reading.specs.declared.steps.Step.{Step}
use Rattle.tr_scenario.specs.Threaded.{item_of_step, is_manned, script_of, share_of, scripts_of, scripts_of_job, with_step, with_steps}
use Rattle.tr_scenario.specs.declared.threads.Share.{Share}

-- a script with the call of one step more
abbrev pub longer : Step → Share → Share
longer s x = record { actor = x.actor; items = x.items ++ item_of_step s ∷ [] }

-- a step goes to the first script of its actor
goes_to : (s : Step) (xs : List Share) (i : ℕ) (d : Share) → i < length xs → ((get_or xs i d).actor == s.actor) ≡ true →
    ((k : ℕ) → k < i → ((get_or xs k d).actor == s.actor) ≡ false) → slice_set xs i (longer s (get_or xs i d)) ≡ with_step xs s
goes_to s [] i d within here before = absurd (omega (arith, within))
goes_to s (x ∷ xs) zero d within here before = rw here refl
goes_to s (x ∷ xs) (suc i) d within here before =
    rw (before 0 (omega arith)) (ap (λ ys. x ∷ ys) (goes_to s xs i d (omega (arith, within)) here (λ k less. before (suc k) (omega (arith, less)))))

pub with_step_at : (s : Step) (xs : List Share) (i : ℕ) (d : Share) → position (λ y. y.actor == s.actor) xs ≡ Some i → slice_set xs i (longer s (get_or xs i d)) ≡ with_step xs s
with_step_at s xs i d found = let p = position-Some (λ (y : Share). y.actor == s.actor) xs i d found in goes_to s xs i d p.0 p.1 p.2

-- a script is new where there is none of its actor
is_new : (s : Step) (xs : List Share) → ((k : ℕ) (d : Share) → k < length xs → ((get_or xs k d).actor == s.actor) ≡ false) → xs ++ share_of s ∷ [] ≡ with_step xs s
is_new s [] none = refl
is_new s (x ∷ xs) none = rw (none 0 x (omega arith)) (ap (λ ys. x ∷ ys) (is_new s xs (λ k d less. none (suc k) d (omega (arith, less)))))

none_before : (p : Share → Bool) (xs : List Share) → position p xs ≡ None → length xs ≤ position_or_len p xs
none_before p xs e = grind (arith, common_steps, e)

pub with_step_new : (s : Step) (xs : List Share) → position (λ y. y.actor == s.actor) xs ≡ None → xs ++ share_of s ∷ [] ≡ with_step xs s
with_step_new s xs e = is_new s xs (λ k d less. let past = none_before (λ (y : Share). y.actor == s.actor) xs e in fails_before_first (λ (y : Share). y.actor == s.actor) xs k d (omega (arith, past, less)))

-- steps don't make scripts fewer
with_step_grows : (s : Step) (xs : List Share) → length xs ≤ length (with_step xs s)
with_step_grows s [] = omega arith
with_step_grows s (x ∷ xs) = grind (arith, common_steps, with_step_grows s xs)

pub with_steps_grow : (xs : List Share) (ss : List Step) → length xs ≤ length (with_steps xs ss)
with_steps_grow xs [] = omega arith
with_steps_grow xs (s ∷ ss) = omega (arith, with_step_grows s xs, with_steps_grow (with_step xs s) ss)

-- too many scripts after some steps are too many after all
pub crowded : (xs ys : List Share) (ss : List Step) (i most : ℕ) (d : Step) → i < length ss → with_steps xs (drop i ss) ≡ with_steps [] ss → ys ≡ with_step xs (get_or ss i d) →
    most < length ys → most < length (scripts_of ss)
crowded xs ys ss i most d within so_far one more =
    let all : with_steps ys (drop (i + 1) ss) ≡ with_steps [] ss = ap (λ zs. with_steps zs (drop (i + 1) ss)) one ∙ (sym (at_drop_more (with_steps xs) ss i d within) ∙ so_far) in
    omega (arith, with_steps_grow ys (drop (i + 1) ss), ap length all, more, length-map (with_steps [] ss) script_of)

-- No actor has two scripts

abbrev actors : List Share → List ℕ
actors xs = map (λ (x : Share). x.actor) xs

-- the number is among them
abbrev among : ℕ → List ℕ → Bool
among a ns = list_any (λ (n : ℕ). n == a) ns

among_more : (s : Step) (xs : List Share) (a : ℕ) → (s.actor == a) ≡ false → among a (actors xs) ≡ false → among a (actors (with_step xs s)) ≡ false
among_more s [] a other none = grind (arith, common_steps, other)
among_more s (x ∷ xs) a other none = grind (arith, common_steps, other, none, among_more s xs a other)

distinct_more : (s : Step) (xs : List Share) → no_repeat (actors xs) ≡ true → no_repeat (actors (with_step xs s)) ≡ true
distinct_more s [] h = refl
distinct_more s (x ∷ xs) h = grind (arith, common_steps, h, distinct_more s xs, among_more s xs x.actor)

distinct_after : (xs : List Share) (ss : List Step) → no_repeat (actors xs) ≡ true → no_repeat (actors (with_steps xs ss)) ≡ true
distinct_after xs [] h = h
distinct_after xs (s ∷ ss) h = distinct_after (with_step xs s) ss (distinct_more s xs h)

actors_of_scripts : (xs : List Share) → map (λ (s : Script). s.actor) (map script_of xs) ≡ actors xs
actors_of_scripts [] = refl
actors_of_scripts (x ∷ xs) = ap (λ ns. x.actor ∷ ns) (actors_of_scripts xs)

pub actors_are_distinct : (ss : List Step) → no_repeat (map (λ (s : Script). s.actor) (scripts_of ss)) ≡ true
actors_are_distinct ss = ap no_repeat (actors_of_scripts (with_steps [] ss)) ∙ distinct_after [] ss refl

pub job_is_distinct : (job : Job) → is_manned job ≡ true → no_repeat (map (λ (s : Script). s.actor) (scripts_of_job job)) ≡ true
job_is_distinct (Steps steps) h = actors_are_distinct steps
job_is_distinct (Workers scripts) h = both (nat_le (length scripts) 64) (no_repeat (map (λ (s : Script). s.actor) scripts)) h
  where
    both : (b c : Bool) → (b && c) ≡ true → c ≡ true
    both true c t = t
    both false c t = cc
