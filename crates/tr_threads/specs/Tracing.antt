-- What is kept beside the threads for waits: the tracees of each tracer, and which of them have a report; and how many
-- deaths are the starter's to be told.
use Rattle.std.specs.Prelude.{◌≡◌, ℕ, ◌+◌, ◌<◌, ◌≤◌, ◌&&◌, Bool, false, List, [], ◌∷◌, Option, Some, None, if◌then◌else◌, filter, is_some, length, vec_capacity}
use Rattle.tr_tracee.specs.declared.thread.Thread.{Thread}
use Rattle.tr_tracee.specs.Threads.{is_tracee_of, tracer_of}
use Rattle.tr_model.specs.Tables.{thread_in}
use Rattle.tr_index.specs.Counts.{bool_to_nat}
use Rattle.tr_threads.specs.declared.tracing.Tracing.{Tracing}
use Rattle.tr_threads.specs.TraceeLists.{IsListing, Rises}
use Rattle.tr_threads.specs.Waits.{is_report, is_stray_death, is_untraced_death}

-- who traces the thread
abbrev pub tracer : Thread → Option ℕ
tracer t = tracer_of t.trace

-- who may wait for its report, where it has one
abbrev pub waiter : Thread → Option ℕ
waiter t = if is_some t.report then tracer_of t.trace else None

-- nothing is kept of the thread
pub record IsUnkept (t : Thread) : Type 0 where
  pub tracer : tracer t ≡ None
  pub waiter : waiter t ≡ None
  pub untraced_death : is_untraced_death t ≡ false
  pub stray_death : is_stray_death t ≡ false

-- that is what is kept of these threads: all tracees are listed under their tracers, and so are those that have a report
pub record IsTracing (ts : List Thread) (v : Tracing) : Type 0 where
  pub tracees : IsListing tracer ts v.tracees.rows.items
  pub reporting : IsListing waiter ts v.reporting.rows.items
  pub untraced_deaths : v.untraced_deaths ≡ length (filter is_untraced_death ts)
  pub stray_deaths : v.stray_deaths ≡ length (filter is_stray_death ts)

-- there are places for so many threads
pub record HasPlaces (n : ℕ) (v : Tracing) : Type 0 where
  pub tracees : n ≤ vec_capacity v.tracees.rows
  pub reporting : n ≤ vec_capacity v.reporting.rows

-- the test passes of the thread, if it is there
abbrev pub passes : (Thread → Bool) → Option Thread → Bool
passes p None = false
passes p (Some t) = p t

-- the thread of the first of these ids of which the test passes
abbrev pub first_of : (Thread → Bool) → List Thread → List ℕ → Option Thread
first_of p ts [] = None
first_of p ts (n ∷ ns) = if passes p (thread_in ts n) then thread_in ts n else first_of p ts ns

-- there is a place for one thread more, which may be one death more, in rows that rise by tracer
pub record HasPlace (v : Tracing) : Type 0 where
  pub tracees_rise : Rises v.tracees.rows.items
  pub reporting_rise : Rises v.reporting.rows.items
  pub tracees : length v.tracees.rows.items < vec_capacity v.tracees.rows
  pub reporting : length v.reporting.rows.items < vec_capacity v.reporting.rows
  pub untraced_deaths : v.untraced_deaths < vec_capacity v.tracees.rows
  pub stray_deaths : v.stray_deaths < vec_capacity v.tracees.rows

-- the death of the thread is counted, if it is one, and no more deaths than there are places
pub record CountsDeath (t : Thread) (v : Tracing) : Type 0 where
  pub untraced : bool_to_nat (is_untraced_death t) ≤ v.untraced_deaths
  pub stray : bool_to_nat (is_stray_death t) ≤ v.stray_deaths
  pub untraced_few : v.untraced_deaths ≤ vec_capacity v.tracees.rows
  pub stray_few : v.stray_deaths ≤ vec_capacity v.tracees.rows

-- where the death of the thread counted, that of this other record of it counts from v to w
pub record RecountsDeath (t u : Thread) (v w : Tracing) : Type 0 where
  pub untraced : w.untraced_deaths + bool_to_nat (is_untraced_death t) ≡ v.untraced_deaths + bool_to_nat (is_untraced_death u)
  pub stray : w.stray_deaths + bool_to_nat (is_stray_death t) ≡ v.stray_deaths + bool_to_nat (is_stray_death u)

-- the thread, if it is there and passes
abbrev pub if_passes : (Thread → Bool) → Option Thread → Option Thread
if_passes p None = None
if_passes p (Some t) = if p t then Some t else None

-- the thread has such a report for the actor
abbrev pub reports : ℕ → Option ℕ → Thread → Bool
reports a number t = is_tracee_of a t && is_report number t.report
