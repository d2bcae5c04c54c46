-- A clone that is due, and its place in the table.
use Rattle.std.proofs.Common.{◌≡◌, ◌∙◌, ℕ, ◌<◌, ◌&&◌, ◌||◌, ◌++◌, List, [], ◌∷◌, Bool, true, false, not, Option, Some, None, Result, Ok, Err, if◌then◌else◌, is_some, length, nat_le, refl, subst, sym, ap}
use Rattle.std.proofs.lemmas.Bool.{and_parts, leb-false, or_parts}
use Rattle.tr_tracee.specs.declared.thread.Thread.{Thread}
use Rattle.tr_tracee.specs.Ends.{child}
use Rattle.tr_tracee.specs.Lives.{is_free}
use Rattle.tr_tracee.specs.Threads.{has_mark}
use Rattle.tr_model.specs.declared.checked.Checked.{Checked}
use Rattle.tr_model.specs.declared.checked.Checked.TheVariants.{Due}
use Rattle.tr_model.specs.Choices.{Choice, gives_id}
use Rattle.tr_model.specs.declared.events.Event.TheVariants.{CloneThread}
use Rattle.tr_model.specs.declared.replies.Refusal.{Refusal}
use Rattle.tr_model.specs.declared.replies.Refusal.TheVariants.{Again, Busy, NotRunning}
use Rattle.tr_model.specs.Compare.{Permits}
use Rattle.tr_model.specs.Causes.{at_limit, first_cause, refused_if, script, thread_then, unless}
use Rattle.std.specs.Prelude.{OnOk}
use Rattle.tr_model.specs.Moves.{added, begin, on_thread, spawn, spawned}
use Rattle.tr_model.specs.Preferred.{check, clone_choice, new_id, quiet_or, refused_or}
use Rattle.tr_model.specs.Steps.{is_new, number}
use Rattle.tr_model.specs.Tables.{Table, group_of, members, thread_of}
use Rattle.tr_model.specs.Takes.{can_take}

pub record IsClone (T : Table) (tid id : ℕ) : Type 0 where
  pub thread : Thread
  pub there : thread_of T tid ≡ Some thread
  pub free : is_free thread.life ≡ true
  pub place : length (members T thread.group) < 64
  pub new : is_new T id ≡ true

pub is_clone : (T : Table) (a tid id : ℕ) → Permits T a (CloneThread tid) (gives_id id) → IsClone T tid id
is_clone T a tid id p = go (thread_of T tid) refl p.no_cause
  where
    fresh : is_new T id ≡ true
    fresh = let h = p.admitted in subst (λ k. is_new T k ≡ true) (sym (ap (λ (c : Choice). number c.new_id) h.1)) h.2

    by : (t : Thread) → thread_of T tid ≡ Some t → (x y z : Bool) → (is_free t.life && not t.pausing) ≡ x → at_limit T t ≡ z
        → first_cause (unless x NotRunning ∷ refused_if y Busy ∷ refused_if z Again ∷ []) ≡ None → IsClone T tid id
    by t h false y z f g q = cc
    by t h true true z f g q = cc
    by t h true false true f g q = cc
    by t h true false false f g q =
        let few = or_parts (nat_le 1024 (length T.threads)) (nat_le 64 (length (members T t.group))) g in
        record {
          thread = t;
          there = h;
          free = (and_parts (is_free t.life) (not t.pausing) f).0;
          place = leb-false 64 (length (members T t.group)) few.1;
          new = fresh;
        }

    go : (o : Option Thread) → thread_of T tid ≡ o → first_cause (thread_then o (λ t. script T t ++ refused_if (at_limit T t) Again ∷ [])) ≡ None → IsClone T tid id
    go None h q = cc
    go (Some t) h q = by t h (is_free t.life && not t.pausing) (has_mark t || can_take T t) (at_limit T t) refl refl q

-- a new id is no thread's
pub no_thread : (T : Table) (id : ℕ) → is_new T id ≡ true → thread_of T id ≡ None
no_thread T id e =
    let a = and_parts (nat_le 2 id) (nat_le id 4194303 && (not (is_some (thread_of T id)) && not (is_some (group_of T id)))) e in
    let b = and_parts (nat_le id 4194303) (not (is_some (thread_of T id)) && not (is_some (group_of T id))) a.1 in
    let d = and_parts (not (is_some (thread_of T id))) (not (is_some (group_of T id))) b.1 in
    none (thread_of T id) d.0
  where
    none : (o : Option Thread) → not (is_some o) ≡ true → o ≡ None
    none None h = refl
    none (Some t) h = cc

-- What a check answers

first_none : (xs ys : List (Option Refusal)) → first_cause xs ≡ None → first_cause (xs ++ ys) ≡ first_cause ys
first_none [] ys e = refl
first_none (None ∷ xs) ys e = first_none xs ys e
first_none (Some why ∷ xs) ys e = cc

first_some : (xs ys : List (Option Refusal)) (why : Refusal) → first_cause xs ≡ Some why → first_cause (xs ++ ys) ≡ Some why
first_some [] ys why e = cc
first_some (None ∷ xs) ys why e = first_some xs ys why e
first_some (Some x ∷ xs) ys why e = e

answer : Table → Option Thread → Result Checked Refusal
answer T o = refused_or (first_cause (thread_then o (λ t. script T t ++ refused_if (at_limit T t) Again ∷ []))) (quiet_or None (clone_choice T o))

pub refused_by_script : (T : Table) (a tid : ℕ) (t : Thread) (why : Refusal) → thread_of T tid ≡ Some t → first_cause (script T t) ≡ Some why → Err why ≡ check T a (CloneThread tid)
unfolding answer
refused_by_script T a tid t why e h =
    sym (ap (answer T) e ∙ ap (λ o. refused_or o (quiet_or None (clone_choice T (Some t)))) (first_some (script T t) (refused_if (at_limit T t) Again ∷ []) why h))

pub refused_at_limit : (T : Table) (a tid : ℕ) (t : Thread) → thread_of T tid ≡ Some t → first_cause (script T t) ≡ None → at_limit T t ≡ true → Err Again ≡ check T a (CloneThread tid)
unfolding answer
refused_at_limit T a tid t e h k =
    sym (ap (answer T) e ∙ ap (λ o. refused_or o (quiet_or None (clone_choice T (Some t)))) (first_none (script T t) (refused_if (at_limit T t) Again ∷ []) h ∙ ap (λ b. first_cause (refused_if b Again ∷ [])) k))

pub due_with_id : (T : Table) (a tid : ℕ) (t : Thread) → thread_of T tid ≡ Some t → first_cause (script T t) ≡ None → at_limit T t ≡ false → Ok (Due (gives_id (new_id T t.group))) ≡ check T a (CloneThread tid)
unfolding answer
due_with_id T a tid t e h k =
    sym (ap (answer T) e ∙ ap (λ o. refused_or o (quiet_or None (clone_choice T (Some t)))) (first_none (script T t) (refused_if (at_limit T t) Again ∷ []) h ∙ ap (λ b. first_cause (refused_if b Again ∷ [])) k))

pub none_script : (o : Option Refusal) → ((why : Refusal) → o ≡ Some why → ⊥) → o ≡ None
none_script None h = refl
none_script (Some why) h = absurd (h why refl)

-- what the model makes of it
pub spawns : (T : Table) (tid id : ℕ) (mark : Bool) (t : Thread) → thread_of T tid ≡ Some t → thread_of T t.id ≡ Some t → is_free t.life ≡ true
    → spawn t.id id mark (begin T) ≡ added (child id mark t) (begin T)
spawns T tid id mark t e f h = ap (λ o. on_thread o (spawned id mark) (begin T)) f ∙ ap (λ b. if b then added (child id mark t) (begin T) else begin T) h

pub on_ok : {A B : Type 0} (r : Result A B) (P Q : Type 0) → OnOk r P → (P → Q) → OnOk r Q
on_ok (Ok a) P Q p f = f p
on_ok (Err b) P Q p f = p
