-- What the small moves of a step do, each on its own.
use Rattle.std.proofs.Common.{◌≡◌, List, None, Some, [], false, map, true, ◌==◌, ◌∷◌, refl}
use Rattle.tr_group.specs.declared.stops.Action.TheVariants.{Catch, Default, Ignore}
use Rattle.tr_model.specs.declared.events.Event.{Event}
use Rattle.tr_tracee.specs.declared.life.End.TheVariants.{Exited}
use Rattle.tr_model.specs.declared.replies.Did.TheVariants.{Reported}
use Rattle.tr_tracee.specs.declared.thread.Thread.{Thread}
use Rattle.tr_model.specs.Moves.{Work, begin, enter, hold, in_leaders_row, remove_dead, renamed, report_death, retarget, spawn, take_place, tell_dying, tell_killed, with_leaders_row}
use Rattle.tr_model.specs.Takes.{act}
use Rattle.tr_model.specs.Tables.{action_of, group_end, stop_in_effect}
use Rattle.tr_model.specs.Stops.{at_stop}
use Rattle.tr_model.specs.StarterWaits.{death_number, starter_takes}
use Rattle.tr_sigset.specs.Sets.{has, in_word}
use Rattle.tr_tracee.specs.Lives.{is_dead}
use Rattle.tr_tracee.specs.Threads.{no_options}
use Rattle.tr_model.specs.GroupStops.{note_stop}
use Rattle.tr_model.specs.Sends.{set_at}
use Rattle.tr_model.specs.Steps.{work_of}
use Rattle.std.specs.Prelude.{◌||◌}
use Rattle.tr_model.specs.declared.events.Event.TheVariants as event
use Rattle.tr_tracee.specs.declared.life.Life.TheVariants as life
use Rattle.tr_wait.specs.declared.status.Status.TheVariants as status
use Rattle.tr_tracee.specs.declared.life.Stop.TheVariants as stop
use Rattle.tr_model.specs.declared.rows.Target.TheVariants as target
use Rattle.tr_model.proofs.Worked.{one, two, blocking, dead_of, die, die_by, exit_by, halt, ids, interrupt, kill, left, listen, lives, seize, seize_of, take, thread, trap, unchosen}

-- Threads

-- a thread that was told to leave enters no ptrace-stop
a_thread_that_was_told_to_leave_enters_no_stop : lives (enter 10 (stop.Exec 10) (begin (left one (exit_by 10 0 ∷ [])))).table ≡ life.Leaving (Exited 0) true ∷ []
unfolding in_word
a_thread_that_was_told_to_leave_enters_no_stop = refl

-- a thread that isn't dead has no death to tell
a_thread_that_runs_has_no_death_report : (report_death 10 (Exited 0) (begin one)).raises ≡ []
unfolding in_word
a_thread_that_runs_has_no_death_report = refl

-- only a thread that runs clones
a_stopped_thread_has_no_child : ids (spawn 10 11 false (begin (left one (kill 20 ∷ take ∷ halt ∷ [])))).table ≡ 10 ∷ []
unfolding in_word
a_stopped_thread_has_no_child = refl

-- only the dead are removed
a_thread_that_runs_is_not_removed : ids (remove_dead (λ t. t.id == 10 || t.id == 11) (begin (left two (seize_of 11 no_options ∷ exit_by 11 0 ∷ die_by 11 ∷ [])))).table ≡ 10 ∷ []
unfolding in_word
a_thread_that_runs_is_not_removed = refl

-- only a thread that runs is held by a signal
a_listener_is_not_held : lives (hold 10 1 (begin (left one (seize no_options ∷ interrupt ∷ trap ∷ listen ∷ kill 10 ∷ [])))).table ≡ life.Listening ∷ []
unfolding in_word
a_listener_is_not_held = refl

-- The place of a leader

-- the own queue of the thread passes to its new id, and no other queue
an_exec_moves_the_queue_of_its_thread_alone : map (retarget 11 10) (target.Thread 11 ∷ target.Thread 12 ∷ target.Group 11 ∷ target.Group 12 ∷ []) ≡ target.Thread 10 ∷ target.Thread 12 ∷ target.Group 11 ∷ target.Group 12 ∷ []
unfolding in_word
an_exec_moves_the_queue_of_its_thread_alone = refl

-- a report under the former id is withdrawn
a_report_under_a_former_id_is_withdrawn : (renamed 10 (record (thread 11) { report = Some (record { number = 1; status = status.Clone }) })).report ≡ None
unfolding in_word
a_report_under_a_former_id_is_withdrawn = refl

-- the dead leader, a row of its id that runs, as no journal leads to, and other rows
abbrev rows_beside_an_exec : List Thread
rows_beside_an_exec = dead_of 10 10 ∷ thread 10 ∷ dead_of 10 12 ∷ thread 13 ∷ dead_of 20 20 ∷ []

-- the thread comes into the row of its dead leader
a_thread_takes_the_row_of_its_dead_leader : map (λ t. is_dead t.life) (map (in_leaders_row (thread 11)) rows_beside_an_exec) ≡ false ∷ false ∷ true ∷ false ∷ true ∷ []
unfolding in_word
a_thread_takes_the_row_of_its_dead_leader = refl

-- and no other row changes
every_other_row_keeps_its_id : map (λ t. t.id) (map (in_leaders_row (thread 11)) rows_beside_an_exec) ≡ 10 ∷ 10 ∷ 12 ∷ 13 ∷ 20 ∷ []
unfolding in_word
every_other_row_keeps_its_id = refl

-- so only that row has the mask of the thread
no_other_row_has_the_mask_of_the_thread : map (λ t. has t.mask 40) (map (in_leaders_row (blocking (40 ∷ []) 11)) rows_beside_an_exec) ≡ true ∷ false ∷ false ∷ false ∷ false ∷ []
unfolding in_word
no_other_row_has_the_mask_of_the_thread = refl

-- only a thread in its execve(2) takes the place
a_thread_that_runs_takes_no_place : ids (take_place 11 (begin (left two (exit_by 10 0 ∷ die ∷ [])))).table ≡ 10 ∷ 11 ∷ []
unfolding in_word
a_thread_that_runs_takes_no_place = refl

-- Logs

abbrev logged_before : Work
logged_before = record (begin two) { dying = 30 ∷ []; killed = 40 ∷ []; renamed = 50 ∷ [] }

-- what a step logs comes after what it logged before
a_death_is_logged_last : (tell_dying 10 logged_before).dying ≡ 30 ∷ 10 ∷ []
unfolding in_word
a_death_is_logged_last = refl

-- a KILL too
a_kill_is_logged_last : (tell_killed 10 logged_before).killed ≡ 40 ∷ 10 ∷ []
unfolding in_word
a_kill_is_logged_last = refl

-- and an id that passes on
an_id_that_passes_on_is_logged_last : (with_leaders_row (thread 11) logged_before).renamed ≡ 50 ∷ 10 ∷ []
unfolding in_word
an_id_that_passes_on_is_logged_last = refl

-- What is not there

-- what is not there is not moved
a_move_of_a_thread_that_is_not_there_changes_nothing : enter 99 (stop.Exec 10) (begin one) ≡ begin one
unfolding in_word
a_move_of_a_thread_that_is_not_there_changes_nothing = refl

-- nor is a thread held by a signal that does not wait
a_signal_that_does_not_wait_holds_nobody : hold 10 7 (begin one) ≡ begin one
unfolding in_word
a_signal_that_does_not_wait_holds_nobody = refl

-- without a group-stop nothing is done with its signal
no_group_stop_has_no_signal : at_stop None tell_dying (begin one) ≡ begin one
unfolding in_word
no_group_stop_has_no_signal = refl

-- and nothing is told of it
a_group_stop_that_is_over_is_not_told : note_stop 10 None (begin one) ≡ begin one
unfolding in_word
a_group_stop_that_is_over_is_not_told = refl

-- a wait that gives nothing consumes nothing
a_wait_that_gives_nothing_changes_nothing : starter_takes None None (begin one) ≡ begin one
unfolding in_word
a_wait_that_gives_nothing_changes_nothing = refl

-- a reported signal is left to the tracer
a_reported_signal_does_nothing_yet : act (thread 10) 12 false Reported (begin one) ≡ begin one
unfolding in_word
a_reported_signal_does_nothing_yet = refl

-- two are answered without an entry, and one is not due
abbrev answered_without_an_entry : List Event
answered_without_an_entry = event.EventMessage 10 ∷ event.SignalInfo 10 ∷ event.Die 10 ∷ []

-- a question changes nothing, nor does a death that is not due
a_question_changes_nothing : map (λ e. (work_of one (unchosen 900 e)).table) answered_without_an_entry ≡ one ∷ one ∷ one ∷ []
unfolding in_word
a_question_changes_nothing = refl

-- a group that is not there is in no group-stop
a_group_that_is_not_there_has_no_group_stop : stop_in_effect one 99 ≡ None
unfolding in_word
a_group_that_is_not_there_has_no_group_stop = refl

-- is not dying
a_group_that_is_not_there_has_no_end : group_end one 99 ≡ None
unfolding in_word
a_group_that_is_not_there_has_no_end = refl

-- and has the default actions
a_group_that_is_not_there_has_no_actions : action_of one 99 1 ≡ Default
unfolding in_word
a_group_that_is_not_there_has_no_actions = refl

-- a leader that is not there has no death to tell
a_leader_that_is_not_there_has_no_report : death_number None ≡ []
unfolding in_word
a_leader_that_is_not_there_has_no_report = refl

-- a place past the last action has none to set
an_action_past_the_last_is_not_set : set_at 1 Ignore (Catch ∷ []) ≡ Catch ∷ []
unfolding in_word
an_action_past_the_last_is_not_set = refl
