-- What one entry writes into the log of its step: few deaths, and no id that passes on but at a finish.
use Rattle.std.proofs.Common.{List, ◌≡◌, ℕ, ◌+◌, ◌≤◌, [], ◌∷◌, length, true, false, Some, None, Option, refl, ◌∙◌, Bool, not, ◌&&◌, if◌then◌else◌, arith}
use Rattle.tr_tracee.specs.declared.thread.Thread.{Thread}
use Rattle.tr_tracee.specs.Lives.{is_execing}
use Rattle.tr_tracee.specs.Threads.{is_leader}
use Rattle.tr_model.specs.Choices.{Choice}
use Rattle.tr_model.specs.Entries.{Entry}
use Rattle.tr_model.specs.declared.events.Event.{Event}
use Rattle.tr_model.specs.declared.events.Event.TheVariants as event
use Rattle.tr_model.specs.Moves.{at, begin, on_thread, take_place, with_leaders_row}
use Rattle.tr_model.specs.Steps.{work_of}
use Rattle.tr_model.specs.Tables.{Table, thread_of}
use Rattle.tr_model.proofs.Bounds.{cost_of, entry_bound, finish_renames, renames_nothing}
use Rattle.tr_model.proofs.Kept.{itself}

few_by : (e : Event) (n : ℕ) → (cost_of e n).begun ≤ n + n + 1
few_by event.TracerExit n = omega arith
few_by _ n = omega arith

-- an entry begins at most two deaths for each thread of the table, and one
pub deaths_few : (T : Table) (e : Entry) → length (work_of T e).dying ≤ length T.threads + length T.threads + 1
deaths_few T e = omega (arith, (entry_bound T e).dying, few_by e.event (length T.threads))

-- the id that a finish gives to another thread: the leader's, which is the group's
abbrev passed_id : Option Thread → List ℕ
passed_id None = []
passed_id (Some t) = if is_execing t.life && not (is_leader t) then t.group ∷ [] else []

-- the ids that an event gives to another thread
abbrev passed_by : Table → Event → List ℕ
passed_by T (event.Finish id) = passed_id (thread_of T id)
passed_by T _ = []

-- the id whose place a finish takes
finished : (T : Table) (id : ℕ) → (at id (λ t. take_place t.id) (begin T)).renamed ≡ passed_id (thread_of T id)
finished T id = go (thread_of T id) refl
  where
    placing : (t : Thread) (b : Bool) → (if b then with_leaders_row t (begin T) else begin T).renamed ≡ (if b then t.group ∷ [] else [])
    placing t true = refl
    placing t false = refl

    go : (o : Option Thread) → thread_of T id ≡ o → (on_thread o (λ t. take_place t.id) (begin T)).renamed ≡ passed_id o
    go None e = refl
    go (Some t) e = rw (itself T.threads id t e) (placing t (is_execing t.life && not (is_leader t)))

-- which id it gives to another thread
pub passed_is : (T : Table) (e : Entry) → (work_of T e).renamed ≡ passed_by T e.event
passed_is T e = go e.actor e.event e.choice
  where
    go : (a : ℕ) (x : Event) (c : Choice) → (work_of T (record { actor = a; event = x; choice = c })).renamed ≡ passed_by T x
    go a (event.Finish id) c = finish_renames T a id c ∙ finished T id
    go a x c = renames_nothing T (record { actor = a; event = x; choice = c }) refl

one_id : (T : Table) (x : Event) → length (passed_by T x) ≤ 1
one_id T (event.Finish id) = go (thread_of T id)
  where
    in_turn : (t : Thread) (b : Bool) → length (if b then t.group ∷ [] else []) ≤ 1
    in_turn t true = omega arith
    in_turn t false = omega arith

    go : (o : Option Thread) → length (passed_id o) ≤ 1
    go None = omega arith
    go (Some t) = in_turn t (is_execing t.life && not (is_leader t))
one_id T _ = omega arith

-- an entry gives at most one id to another thread
pub renames_few : (T : Table) (e : Entry) → length (work_of T e).renamed ≤ 1
renames_few T e = rw (passed_is T e) (one_id T e.event)
