-- What becomes of a death that a tracer knows of.
use Rattle.std.specs.Prelude.{if◌then◌else◌}
use Rattle.tr_model.specs.Ends.{pass_on, remove_thread}
use Rattle.tr_model.specs.Moves.{Work}
use Rattle.tr_tracee.specs.Threads.{is_leader}
use Rattle.tr_tracee.specs.declared.thread.Thread.{Thread}

-- the dead thread goes, but a leader's death is then reported to the starter
abbrev pub consume_death : Thread → Work → Work
consume_death t w = if is_leader t then pass_on t t.report w else remove_thread t w
