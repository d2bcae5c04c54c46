-- What becomes of a signal that is sent: it waits, merges, or is flushed.
use Rattle.std.proofs.Common.{◌≡◌, pos, List, [], ◌∷◌, ◌++◌, length, Some, false, map, negsuc, refl}
use Rattle.tr_sigset.specs.Sets.{in_word}
use Rattle.tr_wait.specs.declared.waits.Which.TheVariants.{Any}
use Rattle.tr_tracee.specs.declared.life.Life.TheVariants as life
use Rattle.tr_tracee.specs.Threads.{no_options}
use Rattle.tr_group.specs.declared.stops.Action.TheVariants.{Default, Ignore, Catch}
use Rattle.tr_model.specs.declared.events.Event.TheVariants as event
use Rattle.tr_model.specs.declared.fates.Fate.TheVariants.{Pending, Merged, Delivered, Flushed}
use Rattle.tr_model.specs.declared.replies.Did.TheVariants.{Stopping}
use Rattle.tr_model.specs.declared.replies.Refusal.TheVariants.{Perm, Child, Again, Inval, NotDue}
use Rattle.tr_model.specs.Runs.{Refused, Call}
use Rattle.tr_model.specs.Tables.{Table, owner}
use Rattle.tr_model.specs.Sends.{is_open, is_reachable}
use Rattle.tr_model.specs.Steps.{work_of}
use Rattle.tr_model.specs.declared.rows.Target.TheVariants as target
use Rattle.tr_model.proofs.Worked.{set_of, blocking, thread, group_of, one, two, by, mask, action, take, halt, die_by, kill, tgkill, sigqueue, attach, seize_of, seize, wait, answers, ok, sent, took, waited, left, tally, sums, shared, own, signals_with, life_at, mask_at, exit_by, exit_group_by, both, queueing, queued, blocking_cont, acting, group_record, group_with, kill_of, unchosen}

-- Pending signals

abbrev merging : List Call
merging = mask (10 ∷ []) ∷ kill 10 ∷ kill 10 ∷ []

-- a standard signal that waits already is merged with the one that waits
a_second_pending_standard_signal_is_merged : answers one merging ≡ ok ∷ sent 1 Pending ∷ sent 2 Merged ∷ []
unfolding in_word
a_second_pending_standard_signal_is_merged = refl

-- one of the two waits, for the group
one_of_two_merged_signals_waits : shared (left one merging) ≡ 10 ∷ []
unfolding in_word
one_of_two_merged_signals_waits = refl

-- nothing waits for the thread itself
nothing_waits_for_the_thread_itself_after_sends_to_its_group : own (left one merging) 10 ≡ []
unfolding in_word
nothing_waits_for_the_thread_itself_after_sends_to_its_group = refl

-- one instance is queued
a_merged_signal_takes_no_place : length (left one merging).waiting ≡ 1
unfolding in_word
a_merged_signal_takes_no_place = refl

-- the thread runs
a_blocked_signal_leaves_the_thread_running : life_at (left one merging) 10 ≡ Some life.Free
unfolding in_word
a_blocked_signal_leaves_the_thread_running = refl

-- the mask is the one that was set
a_mask_is_kept : mask_at (left one merging) 10 ≡ Some (set_of (10 ∷ []))
unfolding in_word
a_mask_is_kept = refl

-- each of the two has its fate
one_of_two_equal_signals_is_pending_and_one_merged : tally one merging ≡ sums 2 1 1 0 0 0
unfolding in_word
one_of_two_equal_signals_is_pending_and_one_merged = refl

-- a real-time signal is never merged
real_time_signals_of_one_number_all_wait : answers one queueing ≡ queued
unfolding in_word
real_time_signals_of_one_number_all_wait = refl

-- four instances are queued
each_real_time_signal_takes_a_place : length (left one queueing).waiting ≡ 4
unfolding in_word
each_real_time_signal_takes_a_place = refl

-- they wait for the group
queued_signals_wait_for_the_group : shared (left one queueing) ≡ 34 ∷ 34 ∷ 34 ∷ 34 ∷ []
unfolding in_word
queued_signals_wait_for_the_group = refl

-- the signal is caught
an_action_is_kept : signals_with Catch (left one queueing) ≡ 34 ∷ []
unfolding in_word
an_action_is_kept = refl

-- with as many instances as the queue limit a real-time signal is refused
a_real_time_signal_beyond_the_queue_limit_is_refused : answers one (queueing ++ sigqueue (pos 5) ∷ []) ≡ queued ++ Refused Again ∷ []
unfolding in_word
a_real_time_signal_beyond_the_queue_limit_is_refused = refl

-- and four wait as before
a_refused_signal_leaves_the_queue_as_it_was : shared (left one (queueing ++ sigqueue (pos 5) ∷ [])) ≡ 34 ∷ 34 ∷ 34 ∷ 34 ∷ []
unfolding in_word
a_refused_signal_leaves_the_queue_as_it_was = refl

-- nor is it accepted
a_refused_signal_is_not_accepted : tally one (queueing ++ sigqueue (pos 5) ∷ []) ≡ sums 4 4 0 0 0 0
unfolding in_word
a_refused_signal_is_not_accepted = refl

-- EAGAIN comes first, also in a dying group
the_queue_limit_counts_before_every_rule_but_not_for_kill : answers (record one { limit = 0 }) (exit_group_by 10 1 ∷ kill 40 ∷ kill 10 ∷ kill 9 ∷ []) ≡ ok ∷ Refused Again ∷ sent 1 Flushed ∷ sent 2 Delivered ∷ []
unfolding in_word
the_queue_limit_counts_before_every_rule_but_not_for_kill = refl

-- Stop signals and SIGCONT

abbrev stopping_blocked : List Call
stopping_blocked = mask (20 ∷ 21 ∷ []) ∷ tgkill 10 20 ∷ kill 21 ∷ []

-- a signal to a thread waits in its own queue
a_signal_to_a_thread_waits_for_it : own (left one stopping_blocked) 10 ≡ 20 ∷ []
unfolding in_word
a_signal_to_a_thread_waits_for_it = refl

-- a signal to a group waits in the shared queue
a_signal_to_a_group_waits_for_it : shared (left one stopping_blocked) ≡ 21 ∷ []
unfolding in_word
a_signal_to_a_group_waits_for_it = refl

-- SIGCONT that nobody blocks is flushed where its action is the default
an_ignored_cont_is_flushed : answers one (stopping_blocked ++ kill 18 ∷ []) ≡ ok ∷ sent 1 Pending ∷ sent 2 Pending ∷ sent 3 Flushed ∷ []
unfolding in_word
an_ignored_cont_is_flushed = refl

-- and flushes the stop signals in all queues of the group
a_cont_flushes_the_stop_signals_of_all_queues : (left one (stopping_blocked ++ kill 18 ∷ [])).waiting ≡ []
unfolding in_word
a_cont_flushes_the_stop_signals_of_all_queues = refl

-- so that all three are flushed
stop_signals_and_an_ignored_cont_are_flushed : tally one (stopping_blocked ++ kill 18 ∷ []) ≡ sums 3 0 0 0 0 3
unfolding in_word
stop_signals_and_an_ignored_cont_are_flushed = refl

abbrev blocking_stops : Table
blocking_stops = group_of (blocking (20 ∷ 21 ∷ []) 10 ∷ [])

-- the same where they are blocked from the start
a_cont_is_flushed_where_stop_signals_are_blocked_from_the_start : answers blocking_stops (tgkill 10 20 ∷ kill 21 ∷ kill 18 ∷ []) ≡ sent 1 Pending ∷ sent 2 Pending ∷ sent 3 Flushed ∷ []
unfolding in_word
a_cont_is_flushed_where_stop_signals_are_blocked_from_the_start = refl

-- with the same fates
blocked_stop_signals_are_flushed : tally blocking_stops (tgkill 10 20 ∷ kill 21 ∷ kill 18 ∷ []) ≡ sums 3 0 0 0 0 3
unfolding in_word
blocked_stop_signals_are_flushed = refl

-- a stop signal flushes SIGCONT in the own queue of another thread
a_blocked_cont_and_a_stop_signal_for_another_thread_are_accepted : answers blocking_cont (tgkill 11 18 ∷ tgkill 10 20 ∷ []) ≡ sent 1 Pending ∷ sent 2 Pending ∷ []
unfolding in_word
a_blocked_cont_and_a_stop_signal_for_another_thread_are_accepted = refl

a_stop_signal_flushes_a_cont_that_waits_for_another_thread : tally blocking_cont (tgkill 11 18 ∷ tgkill 10 20 ∷ []) ≡ sums 2 1 0 0 0 1
unfolding in_word
a_stop_signal_flushes_a_cont_that_waits_for_another_thread = refl

-- but one that reaches nobody flushes nothing
a_stop_signal_to_a_leaving_thread_is_flushed : answers blocking_cont (tgkill 10 18 ∷ exit_by 11 0 ∷ tgkill 11 20 ∷ []) ≡ sent 1 Pending ∷ ok ∷ sent 2 Flushed ∷ []
unfolding in_word
a_stop_signal_to_a_leaving_thread_is_flushed = refl

a_stop_signal_that_reaches_nobody_flushes_no_cont : own (left blocking_cont (tgkill 10 18 ∷ exit_by 11 0 ∷ tgkill 11 20 ∷ [])) 10 ≡ 18 ∷ []
unfolding in_word
a_stop_signal_that_reaches_nobody_flushes_no_cont = refl

-- a SIGCONT that reaches nobody does nothing
a_cont_to_a_leaving_thread_continues_nobody : answers two (exit_by 11 0 ∷ kill 20 ∷ take ∷ halt ∷ tgkill 11 18 ∷ both ∷ []) ≡ ok ∷ sent 1 Pending ∷ took 10 1 20 Stopping ∷ ok ∷ sent 2 Flushed ∷ waited 10 0x147f 1 ∷ []
unfolding in_word
a_cont_to_a_leaving_thread_continues_nobody = refl

-- Ignored signals

abbrev ignoring_a_waiting_one : List Call
ignoring_a_waiting_one = mask (10 ∷ []) ∷ kill 10 ∷ action 10 Ignore ∷ []

abbrev refusing : List Call
refusing = action 9 Catch ∷ kill 65 ∷ attach ∷ attach ∷ by 902 (event.Wait Any) ∷ halt ∷ []

-- SIGKILL has no action, 65 is no signal, a tracee has one tracer, a wait wants a tracee, a halt wants a mark
bad_requests_are_refused : answers one (ignoring_a_waiting_one ++ refusing) ≡ ok ∷ sent 1 Pending ∷ ok ∷ Refused Inval ∷ Refused Inval ∷ sent 2 Pending ∷ Refused Perm ∷ Refused Child ∷ Refused NotDue ∷ []
unfolding in_word
bad_requests_are_refused = refl

-- an action that ignores flushes what waits
a_new_action_that_ignores_flushes_what_waits : shared (left one (ignoring_a_waiting_one ++ refusing)) ≡ []
unfolding in_word
a_new_action_that_ignores_flushes_what_waits = refl

-- which is one signal
one_waiting_signal_is_flushed_by_a_new_action : (tally one (ignoring_a_waiting_one ++ refusing)).flushed ≡ 1
unfolding in_word
one_waiting_signal_is_flushed_by_a_new_action = refl

abbrev blocking_one : Table
blocking_one = group_of (blocking (10 ∷ []) 10 ∷ [])

-- the same where it is blocked from the start
a_signal_blocked_from_the_start_is_flushed_by_a_new_action : tally blocking_one (kill 10 ∷ action 10 Ignore ∷ []) ≡ sums 1 0 0 0 0 1
unfolding in_word
a_signal_blocked_from_the_start_is_flushed_by_a_new_action = refl

-- and nothing waits
nothing_waits_after_a_new_action_that_ignores : shared (left blocking_one (kill 10 ∷ action 10 Ignore ∷ [])) ≡ []
unfolding in_word
nothing_waits_after_a_new_action_that_ignores = refl

-- a new action that ignores flushes the own queues of all threads and the shared one
abbrev both_block_two : Table
both_block_two = group_of (blocking (10 ∷ 17 ∷ []) 10 ∷ blocking (10 ∷ 17 ∷ []) 11 ∷ [])

an_action_that_ignores_flushes_all_queues_of_the_group : tally both_block_two (tgkill 10 10 ∷ tgkill 11 10 ∷ kill 10 ∷ action 10 Ignore ∷ []) ≡ sums 3 0 0 0 0 3
unfolding in_word
an_action_that_ignores_flushes_all_queues_of_the_group = refl

a_signal_that_is_ignored_by_default_waits_while_it_is_caught : answers both_block_two (tgkill 11 10 ∷ kill 10 ∷ action 17 Catch ∷ tgkill 11 17 ∷ action 17 Default ∷ []) ≡ sent 1 Pending ∷ sent 2 Pending ∷ ok ∷ sent 3 Pending ∷ ok ∷ []
unfolding in_word
a_signal_that_is_ignored_by_default_waits_while_it_is_caught = refl

the_default_action_flushes_what_it_ignores_and_no_other_signal : tally both_block_two (tgkill 11 10 ∷ kill 10 ∷ action 17 Catch ∷ tgkill 11 17 ∷ action 17 Default ∷ []) ≡ sums 3 2 0 0 0 1
unfolding in_word
the_default_action_flushes_what_it_ignores_and_no_other_signal = refl

-- where the action ignores a signal a tracee, dead or not, keeps it; a mask counts while its thread lives
a_dead_tracee_keeps_an_ignored_signal_of_its_group : answers two (seize_of 11 no_options ∷ exit_by 11 0 ∷ die_by 11 ∷ kill 17 ∷ wait ∷ kill 17 ∷ []) ≡ ok ∷ ok ∷ ok ∷ sent 1 Pending ∷ waited 11 0 1 ∷ sent 2 Flushed ∷ []
unfolding in_word
a_dead_tracee_keeps_an_ignored_signal_of_its_group = refl

a_leaving_thread_does_not_count_as_blocking : answers (group_of (thread 10 ∷ blocking (17 ∷ []) 11 ∷ [])) (kill 17 ∷ exit_by 11 0 ∷ tgkill 10 17 ∷ kill 17 ∷ []) ≡ sent 1 Pending ∷ ok ∷ sent 2 Flushed ∷ sent 3 Flushed ∷ []
unfolding in_word
a_leaving_thread_does_not_count_as_blocking = refl

-- the action ignores the signal
an_ignored_signal_waits_for_a_tracee : answers two (seize no_options ∷ tgkill 10 17 ∷ tgkill 11 17 ∷ []) ≡ ok ∷ sent 1 Pending ∷ sent 2 Flushed ∷ []
unfolding in_word
an_ignored_signal_waits_for_a_tracee = refl

-- What a taker is told

abbrev sending_by_each_call : List Call
sending_by_each_call = mask (34 ∷ []) ∷ kill 34 ∷ tgkill 10 34 ∷ sigqueue (pos 7) ∷ []

-- si_code is that of kill(2), tgkill(2) and sigqueue(3), si_value that of sigqueue(3)
a_signal_tells_its_call_its_sender_and_its_value : map (λ w. w.instance.info) (left one sending_by_each_call).waiting ≡ record { code = pos 0; pid = 901; value = pos 0 } ∷ record { code = negsuc 5; pid = 901; value = pos 0 } ∷ record { code = negsuc 0; pid = 901; value = pos 7 } ∷ []
unfolding in_word
a_signal_tells_its_call_its_sender_and_its_value = refl

-- Targets

abbrev blocking_conts_of_two_groups : Table
blocking_conts_of_two_groups = record one { threads = blocking (18 ∷ []) 10 ∷ record (blocking (18 ∷ []) 20) { group = 20 } ∷ []; groups = group_record 10 ∷ group_record 20 ∷ [] }

-- a stop signal flushes SIGCONT in its own group
a_stop_signal_leaves_a_cont_of_another_group : tally blocking_conts_of_two_groups (kill 18 ∷ kill_of 20 18 ∷ kill 20 ∷ []) ≡ sums 3 2 0 0 0 1
unfolding in_word
a_stop_signal_leaves_a_cont_of_another_group = refl

-- a thread that is not there is neither reached nor open to a signal
a_thread_that_is_not_there_is_not_reached : is_reachable one (target.Thread 99) ∷ is_open one 17 (target.Thread 99) ∷ [] ≡ false ∷ false ∷ []
unfolding in_word
a_thread_that_is_not_there_is_not_reached = refl

-- its queue is no group's
the_queue_of_a_thread_that_is_not_there_has_no_owner : owner one (target.Thread 99) ≡ 0
unfolding in_word
the_queue_of_a_thread_that_is_not_there_has_no_owner = refl

-- a signal whose action is to ignore it is flushed at once
a_signal_with_an_action_that_ignores_is_flushed : answers (group_with (thread 10 ∷ []) (acting Ignore (12 ∷ []))) (kill 12 ∷ []) ≡ sent 1 Flushed ∷ []
unfolding in_word
a_signal_with_an_action_that_ignores_is_flushed = refl

abbrev ignoring_by_the_second_thread : List Call
ignoring_by_the_second_thread = tgkill 11 10 ∷ by 11 (event.SetAction 11 10 Ignore) ∷ []

-- an action is of the whole group, whichever thread sets it
an_action_of_any_thread_is_that_of_its_group : signals_with Ignore (left both_block_two ignoring_by_the_second_thread) ≡ 10 ∷ []
unfolding in_word
an_action_of_any_thread_is_that_of_its_group = refl

-- and flushes in all its queues
an_action_of_any_thread_flushes_in_its_group : tally both_block_two ignoring_by_the_second_thread ≡ sums 1 0 0 0 0 1
unfolding in_word
an_action_of_any_thread_flushes_in_its_group = refl

-- The order of endings

-- SIGCONT flushes the stop signals, and is then flushed itself
a_cont_flushes_before_it_is_flushed : (work_of (left one (mask (20 ∷ []) ∷ kill 20 ∷ [])) (unchosen 901 (event.Kill 10 18))).ended ≡ record { number = 1; fate = Flushed } ∷ record { number = 2; fate = Flushed } ∷ []
unfolding in_word
a_cont_flushes_before_it_is_flushed = refl
