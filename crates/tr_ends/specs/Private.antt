-- What private functions answer: no public contract cites these.
use Rattle.std.specs.Prelude.{List, None, Option, Some, [], filter, if◌then◌else◌, is_some, ℕ, ◌&&◌, ◌∷◌}
use Rattle.tr_model.specs.Ends.{word_of_end}
use Rattle.tr_model.specs.Moves.{Work, alter, enter}
use Rattle.tr_model.specs.Choices.{gives_report}
use Rattle.tr_model.specs.Tables.{Table, thread_of}
use Rattle.tr_model.specs.declared.checked.Checked.{Checked}
use Rattle.tr_model.specs.declared.checked.Checked.TheVariants.{Due, Quiet}
use Rattle.tr_model.specs.declared.replies.Reply.TheVariants.{Nothing}
use Rattle.tr_model.specs.declared.rows.Group.{Group}
use Rattle.tr_tracee.specs.Ends.{leaving}
use Rattle.tr_tracee.specs.Threads.{at_thread, options_of}
use Rattle.tr_tracee.specs.declared.life.End.{End}
use Rattle.tr_tracee.specs.declared.thread.Thread.{Thread}
use Rattle.tr_wait.specs.Words.{asks_for}
use Rattle.tr_wait.specs.declared.waits.Which.{Which}
use Rattle.tr_tracee.specs.declared.life.Stop.TheVariants as stop

-- Exits

-- with option exit in its exit stop, else leaving
abbrev pub leave_or_stop : Thread → End → Work → Work
leave_or_stop t e w = if (options_of t.trace).exit then enter t.id (stop.Exit (word_of_end e)) w else alter (at_thread t.id (leaving e)) w

-- Waits

-- those of these groups that the wait asks for and whose leader is in the table
abbrev pub led_among : Table → Which → List Group → List Group
led_among T which gs = filter (λ g. asks_for which g.tgid && is_some (thread_of T g.tgid)) gs

-- the first number, if there is one
abbrev pub first_number : List ℕ → Option ℕ
first_number [] = None
first_number (r ∷ rs) = Some r

-- due with the first report that is ready; without one nothing is given
abbrev pub due_report : Option ℕ → Checked
due_report None = Quiet Nothing
due_report (Some r) = Due (gives_report r)
