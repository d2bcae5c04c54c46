-- How threads and groups end, and who is told.
use Rattle.std.proofs.Common.{◌≡◌, List, [], ◌∷◌, ◌++◌, true, Some, None, false, map, refl}
use Rattle.tr_sigset.specs.Sets.{in_word}
use Rattle.tr_tracee.specs.declared.life.End.TheVariants.{Killed, Exited}
use Rattle.tr_tracee.specs.declared.life.Life.TheVariants as life
use Rattle.tr_tracee.specs.Threads.{no_options}
use Rattle.tr_model.specs.declared.events.Event.TheVariants as event
use Rattle.tr_model.specs.declared.fates.Fate.TheVariants.{Pending, Delivered, Flushed}
use Rattle.tr_model.specs.declared.replies.Did.TheVariants.{Dying, Stopping, Reported}
use Rattle.tr_model.specs.declared.replies.Refusal.TheVariants.{Srch}
use Rattle.tr_model.specs.Runs.{Answer, Refused, Call}
use Rattle.tr_model.specs.Tables.{Table}
use Rattle.tr_model.specs.Ends.{end_of_dead, reported_end}
use Rattle.tr_model.specs.Choices.{takes_instance}
use Rattle.tr_model.specs.Steps.{work_of}
use Rattle.tr_wait.specs.declared.status.Status.TheVariants as status
use Rattle.tr_model.proofs.Worked.{one, two, by, mask_of, take, die_by, die, exec_by, kill, tgkill, seize_of, seize, cont, message, wait, reap, with_exit, answers, ok, nothing, sent, took, waited, told, left, tally, sums, life_at, exit_by, exit_group_by, both, three, lives, dying_after_a_continue, cont_of, interrupt_of, kill_of, mask, take_by, thread, three_groups, trap_marks, unchosen}

-- Exits

-- with the option a tracee has an exit stop before its group dies; the low byte of the code counts
an_exit_of_the_group_with_the_option_has_an_exit_stop : answers one (seize with_exit ∷ by 10 (event.ExitGroup 10 259) ∷ die ∷ wait ∷ message ∷ cont 0 ∷ die ∷ wait ∷ reap ∷ []) ≡ ok ∷ ok ∷ ok ∷ waited 10 0x6057f 1 ∷ told 768 ∷ ok ∷ ok ∷ waited 10 0x300 2 ∷ waited 10 0x300 3 ∷ []
unfolding in_word
an_exit_of_the_group_with_the_option_has_an_exit_stop = refl

-- the last death in a dying group with a traced leader
abbrev last_death_of_a_traced_leader : List Call
last_death_of_a_traced_leader = seize with_exit ∷ exit_group_by 11 2 ∷ die ∷ die_by 11 ∷ cont 0 ∷ wait ∷ die ∷ []

a_traced_leader_that_dies_last_is_told_once_to_each : answers two (last_death_of_a_traced_leader ++ reap ∷ wait ∷ reap ∷ []) ≡ ok ∷ ok ∷ ok ∷ ok ∷ ok ∷ nothing ∷ ok ∷ nothing ∷ waited 10 0x200 2 ∷ waited 10 0x200 3 ∷ []
unfolding in_word
a_traced_leader_that_dies_last_is_told_once_to_each = refl

a_leaders_death_is_told_once_all_threads_are_dead : answers two (seize no_options ∷ exit_group_by 11 2 ∷ die ∷ wait ∷ die_by 11 ∷ wait ∷ []) ≡ ok ∷ ok ∷ ok ∷ nothing ∷ ok ∷ waited 10 0x200 1 ∷ []
unfolding in_word
a_leaders_death_is_told_once_all_threads_are_dead = refl

the_leader_of_a_dying_group_tells_the_end_of_the_group : answers two (exit_by 10 5 ∷ die ∷ exit_group_by 11 6 ∷ die_by 11 ∷ reap ∷ []) ≡ ok ∷ ok ∷ ok ∷ ok ∷ waited 10 0x600 1 ∷ []
unfolding in_word
the_leader_of_a_dying_group_tells_the_end_of_the_group = refl

the_leader_of_a_group_that_exits_one_by_one_tells_its_own_end : answers two (exit_by 10 5 ∷ die ∷ exit_by 11 6 ∷ die_by 11 ∷ reap ∷ []) ≡ ok ∷ ok ∷ ok ∷ ok ∷ waited 10 0x500 1 ∷ []
unfolding in_word
the_leader_of_a_group_that_exits_one_by_one_tells_its_own_end = refl

-- what a death flushes
abbrev dying_with_waiting_signals : List Call
dying_with_waiting_signals = mask_of 10 (10 ∷ []) ∷ mask_of 11 (10 ∷ []) ∷ kill 10 ∷ tgkill 11 10 ∷ exit_by 11 0 ∷ die_by 11 ∷ []

a_death_flushes_what_waits_for_the_thread : tally two dying_with_waiting_signals ≡ sums 2 1 0 0 0 1
unfolding in_word
a_death_flushes_what_waits_for_the_thread = refl

the_last_death_flushes_what_waits_for_the_group : tally two (dying_with_waiting_signals ++ exit_by 10 0 ∷ die ∷ []) ≡ sums 2 0 0 0 0 2
unfolding in_word
the_last_death_flushes_what_waits_for_the_group = refl

a_death_is_told_before_the_note_of_its_group : answers one (dying_after_a_continue ++ both ∷ kill 0 ∷ []) ≡ sent 1 Pending ∷ took 10 1 20 Stopping ∷ ok ∷ sent 2 Flushed ∷ ok ∷ ok ∷ waited 10 0 3 ∷ Refused Srch ∷ []
unfolding in_word
a_death_is_told_before_the_note_of_its_group = refl

-- Deaths by a signal

abbrev terminating : List Call
terminating = kill 15 ∷ take ∷ die ∷ []

abbrev terminated : List Answer
terminated = sent 1 Pending ∷ took 10 1 15 Dying ∷ ok ∷ []

-- a thread that takes a SIGTERM ends its group
a_term_signal_ends_the_group : answers one terminating ≡ terminated
unfolding in_word
a_term_signal_ends_the_group = refl

-- it is dead
a_thread_dies_by_the_signal_that_it_took : life_at (left one terminating) 10 ≡ Some (life.Dead (Killed 15))
unfolding in_word
a_thread_dies_by_the_signal_that_it_took = refl

abbrev reaping : List Call
reaping = terminating ++ kill 10 ∷ kill 9 ∷ reap ∷ kill 0 ∷ []

-- signals to a dead group are flushed until the starter reaps it
signals_to_a_dead_group_are_flushed_until_it_is_reaped : answers one reaping ≡ terminated ++ sent 2 Flushed ∷ sent 3 Flushed ∷ waited 10 0xf 1 ∷ Refused Srch ∷ []
unfolding in_word
signals_to_a_dead_group_are_flushed_until_it_is_reaped = refl

-- SIGTERM was delivered
a_dead_group_takes_no_signal : tally one reaping ≡ sums 3 0 0 1 0 2
unfolding in_word
a_dead_group_takes_no_signal = refl

-- KILL

abbrev killing : List Call
killing = seize no_options ∷ kill 10 ∷ take ∷ wait ∷ kill 9 ∷ die ∷ wait ∷ cont 0 ∷ reap ∷ kill 0 ∷ []

-- SIGKILL breaks a stop; the death is told to the tracer, then to the starter, and the group is gone
a_killed_tracee_is_told_to_its_tracer_and_then_to_the_starter : answers one killing ≡ ok ∷ sent 1 Pending ∷ took 10 1 10 Reported ∷ waited 10 0xa7f 1 ∷ sent 2 Delivered ∷ ok ∷ waited 10 9 2 ∷ Refused Srch ∷ waited 10 9 3 ∷ Refused Srch ∷ []
unfolding in_word
a_killed_tracee_is_told_to_its_tracer_and_then_to_the_starter = refl

-- what the tracee held is flushed
a_kill_flushes_what_a_stop_held : tally one killing ≡ sums 2 0 0 1 0 1
unfolding in_word
a_kill_flushes_what_a_stop_held = refl

-- no thread is left
a_reaped_thread_is_gone : (left one killing).threads ≡ []
unfolding in_word
a_reaped_thread_is_gone = refl

-- no group is left
a_group_without_threads_is_gone : (left one killing).groups ≡ []
unfolding in_word
a_group_without_threads_is_gone = refl

-- SIGKILL ends an exit stop: the death tells the kill
a_kill_in_an_exit_stop_is_how_the_thread_ends : answers one (seize with_exit ∷ by 10 (event.Exit 10 3) ∷ wait ∷ message ∷ kill 9 ∷ cont 0 ∷ die ∷ wait ∷ reap ∷ []) ≡ ok ∷ ok ∷ waited 10 0x6057f 1 ∷ told 768 ∷ sent 1 Delivered ∷ Refused Srch ∷ ok ∷ waited 10 9 2 ∷ waited 10 9 3 ∷ []
unfolding in_word
a_kill_in_an_exit_stop_is_how_the_thread_ends = refl

-- but a group that is dying already keeps its end
a_kill_in_a_dying_group_keeps_its_end : answers one (seize with_exit ∷ by 10 (event.ExitGroup 10 3) ∷ die ∷ wait ∷ kill 9 ∷ die ∷ wait ∷ reap ∷ []) ≡ ok ∷ ok ∷ ok ∷ waited 10 0x6057f 1 ∷ sent 1 Delivered ∷ ok ∷ waited 10 0x300 2 ∷ waited 10 0x300 3 ∷ []
unfolding in_word
a_kill_in_a_dying_group_keeps_its_end = refl

-- the end of a leaving thread
a_kill_replaces_the_end_of_a_leaving_thread : lives (left two (exit_by 11 7 ∷ kill 9 ∷ [])) ≡ life.Leaving (Killed 9) true ∷ life.Leaving (Killed 9) true ∷ []
unfolding in_word
a_kill_replaces_the_end_of_a_leaving_thread = refl

an_exec_keeps_the_end_of_a_leaving_thread : lives (left three (exit_by 12 7 ∷ exec_by 11 ∷ [])) ≡ life.Leaving (Exited 0) true ∷ life.Execing ∷ life.Leaving (Exited 7) true ∷ []
unfolding in_word
an_exec_keeps_the_end_of_a_leaving_thread = refl

a_kill_during_an_exec_replaces_every_end : lives (left three (exit_by 12 7 ∷ exec_by 11 ∷ tgkill 12 9 ∷ [])) ≡ life.Leaving (Killed 9) true ∷ life.Leaving (Killed 9) true ∷ life.Leaving (Killed 9) true ∷ []
unfolding in_word
a_kill_during_an_exec_replaces_every_end = refl

-- the end that a death tells
a_kill_of_a_dying_group_changes_no_word : answers two (seize_of 11 no_options ∷ exit_group_by 10 3 ∷ kill 9 ∷ die ∷ die_by 11 ∷ wait ∷ reap ∷ []) ≡ ok ∷ ok ∷ sent 1 Delivered ∷ ok ∷ ok ∷ waited 11 0x300 1 ∷ waited 10 0x300 2 ∷ []
unfolding in_word
a_kill_of_a_dying_group_changes_no_word = refl

-- Ends

-- a second death leaves the end of a dying group to each thread
a_kill_of_a_dying_group_changes_no_end : lives (left two (exit_group_by 10 3 ∷ kill 9 ∷ [])) ≡ life.Leaving (Exited 3) true ∷ life.Leaving (Exited 3) true ∷ []
unfolding in_word
a_kill_of_a_dying_group_changes_no_end = refl

-- in a dying group a death tells the end of the group, else its own
a_death_tells_the_end_of_a_dying_group : map (λ T. reported_end T (thread 11) (Exited 7)) (left two (exit_group_by 10 3 ∷ []) ∷ two ∷ []) ≡ Exited 3 ∷ Exited 7 ∷ []
unfolding in_word
a_death_tells_the_end_of_a_dying_group = refl

-- only the dead have ended; 0 fills in for the others
only_a_dead_thread_has_ended : map end_of_dead (life.Dead (Killed 9) ∷ life.Free ∷ life.Leaving (Killed 9) true ∷ []) ≡ Killed 9 ∷ Exited 0 ∷ Exited 0 ∷ []
unfolding in_word
only_a_dead_thread_has_ended = refl

-- a thread serves its marks before it exits, so no journal leads to this
abbrev exiting_with_a_mark : Table
exiting_with_a_mark = (work_of (left two (seize_of 11 no_options ∷ interrupt_of 11 ∷ [])) (unchosen 11 (event.Exit 11 0))).table

-- an exit takes the marks of its thread
an_exit_takes_the_marks_of_its_thread : trap_marks exiting_with_a_mark ≡ false ∷ false ∷ []
unfolding in_word
an_exit_takes_the_marks_of_its_thread = refl

-- a signal to a group without a live thread is flushed, though the group isn't dying
a_signal_to_a_group_that_exits_is_flushed : answers one (exit_by 10 0 ∷ kill 12 ∷ []) ≡ ok ∷ sent 1 Flushed ∷ []
unfolding in_word
a_signal_to_a_group_that_exits_is_flushed = refl

-- What a death ends and tells

abbrev dying_with_two_waiting : List Call
dying_with_two_waiting = mask (10 ∷ 12 ∷ []) ∷ kill 10 ∷ tgkill 10 12 ∷ exit_by 10 0 ∷ []

-- the last death flushes the thread's own queue, then the shared one
the_last_death_flushes_both_queues : (work_of (left one dying_with_two_waiting) (unchosen 10 (event.Die 10))).ended ≡ record { number = 2; fate = Flushed } ∷ record { number = 1; fate = Flushed } ∷ []
unfolding in_word
the_last_death_flushes_both_queues = refl

abbrev dying_beside_a_dead_leader : Table
dying_beside_a_dead_leader = left two (seize_of 11 no_options ∷ kill 9 ∷ die ∷ [])

-- the last death is told to the tracer, then the leader's to the starter
the_last_death_is_told_before_that_of_the_leader : (work_of dying_beside_a_dead_leader (unchosen 11 (event.Die 11))).raises ≡ record { number = 1; whom = Some 900; id = 11; status = status.Killed 9 } ∷ record { number = 2; whom = None; id = 10; status = status.Killed 9 } ∷ []
unfolding in_word
the_last_death_is_told_before_that_of_the_leader = refl

-- a KILL is delivered, and then what a stop held is flushed
a_kill_is_delivered_before_what_was_held_is_flushed : (work_of (left one (seize no_options ∷ kill 10 ∷ take ∷ [])) (unchosen 901 (event.Kill 10 9))).ended ≡ record { number = 2; fate = Delivered } ∷ record { number = 1; fate = Flushed } ∷ []
unfolding in_word
a_kill_is_delivered_before_what_was_held_is_flushed = refl

-- a KILL ends what the stops of its own group hold
a_kill_leaves_what_another_group_holds : tally three_groups (seize_of 20 no_options ∷ kill_of 20 10 ∷ take_by 20 ∷ kill 9 ∷ []) ≡ sums 2 1 0 1 0 0
unfolding in_word
a_kill_leaves_what_another_group_holds = refl

-- what a thread takes ends the group of the thread
a_thread_that_is_not_the_leader_ends_its_group : lives (left two (tgkill 11 15 ∷ take_by 11 ∷ [])) ≡ life.Leaving (Killed 15) true ∷ life.Leaving (Killed 15) true ∷ []
unfolding in_word
a_thread_that_is_not_the_leader_ends_its_group = refl

-- so does a KILL that its tracer gives it
a_kill_given_to_a_thread_ends_its_group : lives (left two (seize_of 11 no_options ∷ tgkill 11 10 ∷ take_by 11 ∷ cont_of 11 9 ∷ [])) ≡ life.Leaving (Killed 9) true ∷ life.Leaving (Killed 9) true ∷ []
unfolding in_word
a_kill_given_to_a_thread_ends_its_group = refl

abbrev holding_beside_a_death : Table
holding_beside_a_death = left two (seize_of 11 no_options ∷ tgkill 11 10 ∷ take_by 11 ∷ kill 15 ∷ [])

-- what is taken is delivered, and then what another thread holds is flushed
a_deadly_signal_is_delivered_before_what_is_held_is_flushed : (work_of holding_beside_a_death (record { actor = 10; event = event.Take 10; choice = takes_instance 2 })).ended ≡ record { number = 2; fate = Delivered } ∷ record { number = 1; fate = Flushed } ∷ []
unfolding in_word
a_deadly_signal_is_delivered_before_what_is_held_is_flushed = refl
