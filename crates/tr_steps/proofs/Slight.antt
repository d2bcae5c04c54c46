-- A move at one thread: it ends nothing, and raises one report at most.
use Rattle.std.proofs.Common.{◌≡◌, ◌+◌, ◌≤◌, ◌&&◌, ℕ, Bool, true, false, Option, Some, None, if◌then◌else◌, length, not, refl, arith}
use Rattle.std.proofs.lemmas.List.{length-map}
use Rattle.tr_wait.specs.declared.status.Status.{Status}
use Rattle.tr_tracee.specs.declared.life.End.{End}
use Rattle.tr_tracee.specs.declared.life.Stop.{Stop}
use Rattle.tr_tracee.specs.declared.thread.Thread.{Thread}
use Rattle.tr_tracee.specs.Lives.{is_dead, is_execing, status_of_end, status_of_stop}
use Rattle.tr_tracee.specs.Stops.{entered_as, may_enter, reported}
use Rattle.tr_tracee.specs.Threads.{is_leader}
use Rattle.tr_model.specs.Moves.{begin, dropped, enter, enter_if_allowed, entered_now, on_thread, raise, raise_with, report_dead, report_death, retargeted, take_place, taking_place, with_leaders_row}
use Rattle.tr_model.specs.Tables.{Table, thread_of}
use Rattle.tr_threads.specs.Held.{held_count}
use Rattle.tr_steps.proofs.Helds.{helds_changed, helds_dropped, helds_in_place}

pub record Slight (T U : Table) : Type 0 where
  pub helds : held_count U.threads ≤ held_count T.threads + 1
  pub waiting : length U.waiting ≡ length T.waiting
  pub groups : length U.groups ≡ length T.groups
  pub accepted : U.accepted ≡ T.accepted
  pub raised : U.raised ≤ T.raised + 1

nothing : (T : Table) → Slight T T
nothing T = record { helds = omega arith; waiting = refl; groups = refl; accepted = refl; raised = omega arith }

raising : (f : Thread → Thread) (t : Thread) (s : Status) (T : Table) → Slight T (raise_with f t s (begin T)).table
raising f t s T = record { helds = helds_changed t.id f T.threads; waiting = refl; groups = refl; accepted = refl; raised = omega arith }

pub slight_enter : (id : ℕ) (s : Stop) (T : Table) → Slight T (enter id s (begin T)).table
slight_enter id s T = go (thread_of T id)
  where
    may : (t : Thread) (b : Bool) → Slight T (if b then entered_now s t (begin T) else begin T).table
    may t true = raising (entered_as (T.raised + 1) s) t (status_of_stop s) T
    may t false = nothing T

    go : (o : Option Thread) → Slight T (on_thread o (enter_if_allowed s) (begin T)).table
    go None = nothing T
    go (Some t) = may t (may_enter t.life)

pub slight_death : (id : ℕ) (e : End) (T : Table) → Slight T (report_death id e (begin T)).table
slight_death id e T = go (thread_of T id)
  where
    may : (t : Thread) (b : Bool) → Slight T (if b then raise t (status_of_end e) (begin T) else begin T).table
    may t true = raising (reported (T.raised + 1) (status_of_end e)) t (status_of_end e) T
    may t false = nothing T

    go : (o : Option Thread) → Slight T (on_thread o (report_dead e) (begin T)).table
    go None = nothing T
    go (Some t) = may t (is_dead t.life)

pub slight_place : (id : ℕ) (T : Table) → Slight T (take_place id (begin T)).table
slight_place id T = go (thread_of T id)
  where
    may : (t : Thread) (b c : Bool) → is_execing t.life ≡ b → Slight T (if b && c then with_leaders_row t (begin T) else begin T).table
    may t true true e = record {
      helds = omega (arith, helds_in_place t e (dropped t.id T.threads), helds_dropped t.id T.threads);
      waiting = length-map T.waiting (retargeted t.id t.group);
      groups = refl;
      accepted = refl;
      raised = omega arith;
    }
    may t true false e = nothing T
    may t false c e = nothing T

    go : (o : Option Thread) → Slight T (on_thread o taking_place (begin T)).table
    go None = nothing T
    go (Some t) = may t (is_execing t.life) (not (is_leader t)) refl
