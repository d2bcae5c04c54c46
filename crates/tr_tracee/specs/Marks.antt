-- Masks, pauses and the group-stop, for one thread: sigprocmask(2), pause(2), "Group-stop" of ptrace(2).
use Rattle.std.specs.Prelude.{Bool, true, false, not, ◌&&◌, ◌||◌}
use Rattle.tr_sigset.specs.declared.sets.SigSet.{SigSet}
use Rattle.tr_sigset.specs.Sets.{without}
use Rattle.tr_tracee.specs.declared.life.Life.{Life}
use Rattle.tr_tracee.specs.declared.life.Life.TheVariants as life
use Rattle.tr_tracee.specs.declared.life.Stop.TheVariants as stop
use Rattle.tr_tracee.specs.declared.thread.Thread.{Thread}
use Rattle.tr_tracee.specs.Lives.{is_live}
use Rattle.tr_tracee.specs.Threads.{seized}

-- KILL (9) and STOP (19) can't be blocked
abbrev pub storable : SigSet → SigSet
storable set = without 9 (without 19 set)

-- sigprocmask(2): another mask in place of its own
abbrev pub masked : SigSet → Thread → Thread
masked set t = record t { mask = storable set }

-- pause(2) begins or ends
abbrev pub paused : Bool → Thread → Thread
paused p t = record t { pausing = p }

-- the stop mark, where it is live and takes no part yet
abbrev pub marked : Thread → Thread
marked t = record t { stop_mark = t.stop_mark || (is_live t.life && not t.joined) }

-- it takes part in the group-stop: the mark goes
abbrev pub joining : Thread → Thread
joining t = record t { stop_mark = false; joined = true }

-- a running thread is stopped
abbrev pub stopped_life : Life → Life
stopped_life life.Free = life.Stopped
stopped_life l = l

-- a group-stop holds it: an untraced thread is stopped
abbrev pub stopped : Thread → Thread
stopped t = record t { life = stopped_life t.life }

-- SIGCONT sets the note mark of a live seized thread, whether or not a group-stop is in effect
abbrev pub noted : Thread → Thread
noted t = record t { note_mark = t.note_mark || (is_live t.life && seized t.trace) }

-- a stopped thread runs again
abbrev pub continued_life : Life → Life
continued_life life.Stopped = life.Free
continued_life l = l

-- the group-stop in effect ends
abbrev pub continued : Thread → Thread
continued t = record t { life = continued_life t.life; stop_mark = false; joined = false }

-- the signal-delivery-stop notes the SIGCONT
abbrev pub cont_noted_life : Life → Life
cont_noted_life (life.InStop (stop.Signal i came)) = life.InStop (stop.Signal i true)
cont_noted_life l = l

-- a SIGCONT came during its signal-delivery-stop
abbrev pub cont_noted : Thread → Thread
cont_noted t = record t { life = cont_noted_life t.life }
