-- The end of one thread, and what execve(2) and clone(2) make of it.
use Rattle.std.specs.Prelude.{ℕ, Bool, true, false, not, ◌&&◌, ◌||◌, ◌==◌, None, if◌then◌else◌}
use Rattle.tr_tracee.specs.declared.life.End.{End}
use Rattle.tr_tracee.specs.declared.life.Life.{Life}
use Rattle.tr_tracee.specs.declared.life.Life.TheVariants as life
use Rattle.tr_tracee.specs.declared.life.Stop.TheVariants as stop
use Rattle.tr_tracee.specs.declared.thread.Thread.{Thread}
use Rattle.tr_tracee.specs.Lives.{is_dead, was_told, end_of_word}
use Rattle.tr_tracee.specs.Threads.{seized, options_of}

-- Ending

-- an exit takes the marks, and ends a pause
abbrev pub unmarked : Thread → Thread
unmarked t = record t { stop_mark = false; trap_mark = false; note_mark = false; pausing = false }

-- a running thread leaves, and is told already
abbrev pub leaving_life : End → Life → Life
leaving_life e life.Free = life.Leaving e true
leaving_life e l = l

-- _exit(2) without an exit stop
abbrev pub leaving : End → Thread → Thread
leaving e t = record t { life = leaving_life e t.life }

-- its stop is broken and its report withdrawn; it is told where KILL did it, it was told before, or it has no exit stop to make
abbrev pub leaving_with : Bool → End → Thread → Thread
leaving_with kill e t =
    record t {
      life = life.Leaving e (kill || was_told t.life || not (options_of t.trace).exit);
      stop_mark = false;
      trap_mark = false;
      note_mark = false;
      pausing = false;
      joined = false;
      report = None;
    }

-- It begins to leave: its stop is broken, its marks go. It still has its exit stop before it where its tracer asks for
-- that, unless KILL did it, or it was told before.
abbrev pub begun_to_leave : Bool → End → Thread → Thread
begun_to_leave kill e t = if is_dead t.life then t else leaving_with kill e t

-- who was told to leave is dead
abbrev pub dead_life : Life → Life
dead_life (life.Leaving e told) = if told then life.Dead e else life.Leaving e told
dead_life l = l

-- a told thread dies
abbrev pub dead : Thread → Thread
dead t = record t { life = dead_life t.life }

-- a dead thread without its tracer
abbrev pub released : Thread → Thread
released t = if is_dead t.life then record t { trace = None; report = None } else t

-- execve(2) in a group of several threads

-- the end of one that ends already, else this one
abbrev pub own_end : End → Life → End
own_end e (life.Leaving own told) = own
own_end e (life.InStop (stop.Exit w)) = end_of_word w
own_end e _ = e

-- each other thread begins to leave
abbrev pub begun_to_leave_by_exec : ℕ → End → Thread → Thread
begun_to_leave_by_exec id e t = if t.id == id then t else begun_to_leave false (own_end e t.life) t

-- a running thread waits in execve(2) for the others
abbrev pub execing_life : Life → Life
execing_life life.Free = life.Execing
execing_life l = l

-- it begins execve(2) in a group of several threads
abbrev pub execing : Thread → Thread
execing t = record t { life = execing_life t.life }

-- who waited in execve(2) runs again
abbrev pub execed_life : Life → Life
execed_life life.Execing = life.Free
execed_life l = l

-- its execve(2) is done
abbrev pub execed : Thread → Thread
execed t = record t { life = execed_life t.life }

-- clone(2)

-- free, with the parent's mask, and where that has the option, traced as the parent is
abbrev pub child : ℕ → Bool → Thread → Thread
child id stop_mark t =
    let traced = (options_of t.trace).clone in
    record {
      id = id;
      group = t.group;
      mask = t.mask;
      pausing = false;
      life = life.Free;
      trace = if traced then t.trace else None;
      stop_mark = stop_mark;
      trap_mark = traced && seized t.trace;
      note_mark = false;
      joined = false;
      report = None;
    }
