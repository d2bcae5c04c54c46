-- Two records of a thread that differ in little of what is kept beside it.
use Rattle.std.specs.Prelude.{◌≡◌, ⊤}
use Rattle.tr_tracee.specs.declared.thread.Thread.{Thread}
use Rattle.tr_tracee.specs.Lives.{is_dead, is_live}
use Rattle.tr_tracee.specs.Threads.{is_leader}
use Rattle.tr_threads.specs.declared.thread_changes.Turned.{Turned}
use Rattle.tr_threads.specs.declared.thread_changes.Turned.TheVariants as turned

-- the two block the same, are live or dead alike, have the same tracer, and lead their group alike
pub record StandAlike (t u : Thread) : Type 0 where
  pub mask : t.mask ≡ u.mask
  pub live : is_live t.life ≡ is_live u.life
  pub dead : is_dead t.life ≡ is_dead u.life
  pub trace : t.trace ≡ u.trace
  pub leader : is_leader t ≡ is_leader u

-- the thread t becomes u, which turns no more than this
abbrev pub Turns : Turned → Thread → Thread → Type 0
Turns turned.Nothing t u = u ≡ t
Turns turned.Marks t u = StandAlike t u × (t.report ≡ u.report)
Turns turned.Report t u = u ≡ record t { report = u.report }
Turns turned.Stop t u = StandAlike t u
Turns turned.More t u = ⊤
