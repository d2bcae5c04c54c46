-- Group-stops, and how tracees show them.
use Rattle.std.proofs.Common.{◌≡◌, pos, List, [], ◌∷◌, ◌++◌, true, false, Some, refl}
use Rattle.tr_sigset.specs.Sets.{in_word}
use Rattle.tr_wait.specs.declared.status.StopSig.TheVariants as stop_sig
use Rattle.tr_tracee.specs.declared.life.Life.TheVariants as life
use Rattle.tr_tracee.specs.declared.life.Stop.TheVariants as stop
use Rattle.tr_tracee.specs.Threads.{no_options}
use Rattle.tr_group.specs.declared.stops.GroupStop.TheVariants as gs
use Rattle.tr_model.specs.declared.fates.Fate.TheVariants.{Pending, Delivered, Flushed}
use Rattle.tr_model.specs.declared.replies.Did.TheVariants.{Stopping, Reported, Ignored}
use Rattle.tr_model.specs.declared.replies.Refusal.TheVariants.{Srch, Io, Inval, Busy, NotDue, Unmodelled}
use Rattle.tr_model.specs.Runs.{Answer, Refused, Call}
use Rattle.tr_model.proofs.Worked.{one, two, mask, take_by, take, halt_by, halt, trap, kill, attach, seize, interrupt, cont, listen, message, siginfo, wait, reap, wait_stopped, wait_continued, answers, ok, nothing, sent, took_with, took, took_attached, waited, left, tally, sums, shared, life_at, attach_of, detach_of, both, three, lives, joins, stop_marks, note_marks, stops, blocking_cont, listening_to_a_cont, interrupt_of, seize_of, trap_by}

-- Group-stops

abbrev stopping : List Call
stopping = kill 20 ∷ take ∷ take_by 11 ∷ halt ∷ halt_by 11 ∷ []

abbrev stopped : List Answer
stopped = sent 1 Pending ∷ took 10 1 20 Stopping ∷ Refused Busy ∷ ok ∷ ok ∷ []

-- a stop signal begins a group-stop, in which each thread has to stop
a_stop_signal_stops_every_thread : answers blocking_cont stopping ≡ stopped
unfolding in_word
a_stop_signal_stops_every_thread = refl

-- the thread that took it is stopped
the_thread_that_took_a_stop_signal_is_stopped : life_at (left blocking_cont stopping) 10 ≡ Some life.Stopped
unfolding in_word
the_thread_that_took_a_stop_signal_is_stopped = refl

-- and the other one
the_other_thread_is_stopped_too : life_at (left blocking_cont stopping) 11 ≡ Some life.Stopped
unfolding in_word
the_other_thread_is_stopped_too = refl

abbrev stopping_told : List Call
stopping_told = stopping ++ reap ∷ wait_stopped ∷ wait_stopped ∷ []

abbrev stopped_told : List Answer
stopped_told = stopped ++ nothing ∷ waited 10 0x147f 1 ∷ nothing ∷ []

-- the starter learns of it once, where it asks for stopped groups
a_group_stop_is_told_to_the_starter_once : answers blocking_cont stopping_told ≡ stopped_told
unfolding in_word
a_group_stop_is_told_to_the_starter_once = refl

abbrev continuing : List Call
continuing = stopping_told ++ kill 18 ∷ wait_continued ∷ []

-- a blocked SIGCONT continues the group and waits, and the starter learns of it
a_blocked_cont_continues_the_group_and_waits : answers blocking_cont continuing ≡ stopped_told ++ sent 2 Pending ∷ waited 10 0xffff 2 ∷ []
unfolding in_word
a_blocked_cont_continues_the_group_and_waits = refl

-- one thread runs
a_continued_thread_runs : life_at (left blocking_cont continuing) 10 ≡ Some life.Free
unfolding in_word
a_continued_thread_runs = refl

-- and the other one
the_other_continued_thread_runs : life_at (left blocking_cont continuing) 11 ≡ Some life.Free
unfolding in_word
the_other_continued_thread_runs = refl

-- SIGCONT waits for the group
a_blocked_cont_waits_for_the_group : shared (left blocking_cont continuing) ≡ 18 ∷ []
unfolding in_word
a_blocked_cont_waits_for_the_group = refl

-- one note for each group: the last one
a_continue_withdraws_the_note_of_a_stop : answers one (kill 20 ∷ take ∷ halt ∷ kill 18 ∷ wait_stopped ∷ wait_continued ∷ []) ≡ sent 1 Pending ∷ took 10 1 20 Stopping ∷ ok ∷ sent 2 Flushed ∷ nothing ∷ waited 10 0xffff 2 ∷ []
unfolding in_word
a_continue_withdraws_the_note_of_a_stop = refl

a_new_group_stop_replaces_the_note_of_a_continue : answers one (kill 20 ∷ take ∷ halt ∷ kill 18 ∷ kill 20 ∷ take ∷ halt ∷ wait_continued ∷ wait_stopped ∷ []) ≡ sent 1 Pending ∷ took 10 1 20 Stopping ∷ ok ∷ sent 2 Flushed ∷ sent 3 Pending ∷ took 10 3 20 Stopping ∷ ok ∷ nothing ∷ waited 10 0x147f 3 ∷ []
unfolding in_word
a_new_group_stop_replaces_the_note_of_a_continue = refl

-- an old Continued note stays where CONT finds no group-stop in effect
a_cont_without_a_group_stop_leaves_the_note : answers one (kill 20 ∷ take ∷ halt ∷ kill 18 ∷ kill 18 ∷ wait_continued ∷ []) ≡ sent 1 Pending ∷ took 10 1 20 Stopping ∷ ok ∷ sent 2 Flushed ∷ sent 3 Flushed ∷ waited 10 0xffff 2 ∷ []
unfolding in_word
a_cont_without_a_group_stop_leaves_the_note = refl

-- a group-stop that is not complete
a_group_stop_continued_before_it_is_complete_is_not_told : answers two (kill 20 ∷ take ∷ halt ∷ kill 18 ∷ both ∷ []) ≡ sent 1 Pending ∷ took 10 1 20 Stopping ∷ ok ∷ sent 2 Flushed ∷ nothing ∷ []
unfolding in_word
a_group_stop_continued_before_it_is_complete_is_not_told = refl

-- a KILL in a group-stop
a_kill_withdraws_the_note_of_a_group_stop : answers one (kill 20 ∷ take ∷ halt ∷ kill 9 ∷ wait_stopped ∷ []) ≡ sent 1 Pending ∷ took 10 1 20 Stopping ∷ ok ∷ sent 2 Delivered ∷ nothing ∷ []
unfolding in_word
a_kill_withdraws_the_note_of_a_group_stop = refl

a_kill_ends_a_group_stop : stops (left one (kill 20 ∷ take ∷ halt ∷ kill 9 ∷ [])) ≡ gs.No ∷ []
unfolding in_word
a_kill_ends_a_group_stop = refl

-- a SIGCONT without a group-stop
a_cont_marks_each_seized_thread_and_no_other : note_marks (left three (seize no_options ∷ attach_of 11 ∷ kill 18 ∷ [])) ≡ true ∷ false ∷ false ∷ []
unfolding in_word
a_cont_marks_each_seized_thread_and_no_other = refl

-- Tracees by PTRACE_ATTACH

-- PTRACE_INTERRUPT and PTRACE_LISTEN are for seized tracees
an_attached_tracee_is_not_interrupted_and_does_not_listen : answers one (attach ∷ take ∷ interrupt ∷ listen ∷ []) ≡ sent 1 Pending ∷ took_attached ∷ Refused Io ∷ Refused Io ∷ []
unfolding in_word
an_attached_tracee_is_not_interrupted_and_does_not_listen = refl

-- a thread is attached while it is stopped
a_thread_attached_in_a_group_stop_shows_it_and_then_takes_its_stop : answers one (kill 20 ∷ take ∷ halt ∷ attach ∷ wait ∷ siginfo ∷ message ∷ cont 0 ∷ take ∷ []) ≡ sent 1 Pending ∷ took 10 1 20 Stopping ∷ ok ∷ sent 2 Pending ∷ waited 10 0x147f 2 ∷ Refused Inval ∷ Refused Unmodelled ∷ ok ∷ took_with 10 2 19 (pos 128) 0 (pos 0) Reported ∷ []
unfolding in_word
a_thread_attached_in_a_group_stop_shows_it_and_then_takes_its_stop = refl

-- a SIGCONT while an attached tracee is in a group-stop
a_cont_marks_no_attached_tracee : note_marks (left one (attach ∷ take ∷ cont 19 ∷ halt ∷ kill 18 ∷ [])) ≡ false ∷ []
unfolding in_word
a_cont_marks_no_attached_tracee = refl

an_attached_tracee_stays_in_its_group_stop_at_a_cont : lives (left one (attach ∷ take ∷ cont 19 ∷ halt ∷ kill 18 ∷ [])) ≡ life.InStop (stop.Group 19) ∷ []
unfolding in_word
an_attached_tracee_stays_in_its_group_stop_at_a_cont = refl

-- detached then it runs, and takes the CONT
a_tracee_detached_after_a_cont_runs : answers one (attach ∷ take ∷ cont 19 ∷ halt ∷ kill 18 ∷ detach_of 10 0 ∷ take ∷ []) ≡ sent 1 Pending ∷ took_attached ∷ ok ∷ ok ∷ sent 2 Pending ∷ ok ∷ took 10 2 18 Ignored ∷ []
unfolding in_word
a_tracee_detached_after_a_cont_runs = refl

-- Tracees by PTRACE_SEIZE

abbrev seizing : List Call
seizing = seize no_options ∷ kill 19 ∷ take ∷ wait ∷ cont 19 ∷ halt ∷ wait ∷ listen ∷ cont 0 ∷ kill 18 ∷ trap ∷ wait ∷ []

-- a seized tracee shows a group-stop as an event stop, listens there, and is told by a trap that the group was continued
a_seized_tracee_listens_in_a_group_stop_and_is_told_of_its_end : answers one seizing ≡ ok ∷ sent 1 Pending ∷ took 10 1 19 Reported ∷ waited 10 0x137f 1 ∷ ok ∷ ok ∷ waited 10 0x80137f 2 ∷ ok ∷ Refused Srch ∷ sent 2 Pending ∷ ok ∷ waited 10 0x80057f 3 ∷ []
unfolding in_word
a_seized_tracee_listens_in_a_group_stop_and_is_told_of_its_end = refl

-- it is in that event stop
a_tracee_told_of_a_continue_is_in_an_event_stop : life_at (left one seizing) 10 ≡ Some (life.InStop (stop.Event stop_sig.Trap))
unfolding in_word
a_tracee_told_of_a_continue_is_in_an_event_stop = refl

-- SIGCONT waits
a_cont_waits_for_a_traced_group : shared (left one seizing) ≡ 18 ∷ []
unfolding in_word
a_cont_waits_for_a_traced_group = refl

-- and SIGSTOP was delivered
a_stop_signal_is_delivered_by_the_tracer : tally one seizing ≡ sums 2 1 0 1 0 0
unfolding in_word
a_stop_signal_is_delivered_by_the_tracer = refl

abbrev interrupting : List Call
interrupting = seize no_options ∷ interrupt ∷ trap ∷ wait ∷ cont 0 ∷ kill 19 ∷ take ∷ wait ∷ cont 19 ∷ halt ∷ wait ∷ listen ∷ interrupt ∷ trap ∷ wait ∷ trap ∷ []

-- an interrupt traps a tracee that runs or listens, once
an_interrupt_traps_a_running_and_a_listening_tracee : answers one interrupting ≡ ok ∷ ok ∷ ok ∷ waited 10 0x80057f 1 ∷ ok ∷ sent 1 Pending ∷ took 10 1 19 Reported ∷ waited 10 0x137f 2 ∷ ok ∷ ok ∷ waited 10 0x80137f 3 ∷ ok ∷ ok ∷ ok ∷ waited 10 0x80137f 4 ∷ Refused NotDue ∷ []
unfolding in_word
an_interrupt_traps_a_running_and_a_listening_tracee = refl

-- it is in the event stop of the group-stop
an_interrupted_listener_is_in_the_stop_of_its_group : life_at (left one interrupting) 10 ≡ Some (life.InStop (stop.Event stop_sig.Stop))
unfolding in_word
an_interrupted_listener_is_in_the_stop_of_its_group = refl

a_listener_is_told_of_a_continue_that_the_starter_is_not_told : answers two (listening_to_a_cont ++ wait_continued ∷ trap ∷ wait ∷ take_by 11 ∷ []) ≡ ok ∷ sent 1 Pending ∷ took 11 1 19 Stopping ∷ ok ∷ ok ∷ waited 10 0x80137f 1 ∷ ok ∷ sent 2 Pending ∷ nothing ∷ ok ∷ waited 10 0x80057f 2 ∷ took 11 2 18 Ignored ∷ []
unfolding in_word
a_listener_is_told_of_a_continue_that_the_starter_is_not_told = refl

a_cont_leaves_a_listener_in_its_stop : lives (left two listening_to_a_cont) ≡ life.Listening ∷ life.Free ∷ []
unfolding in_word
a_cont_leaves_a_listener_in_its_stop = refl

a_cont_marks_a_listener_to_be_told : note_marks (left two listening_to_a_cont) ≡ true ∷ false ∷ []
unfolding in_word
a_cont_marks_a_listener_to_be_told = refl

a_cont_ends_what_every_thread_joined : joins (left two listening_to_a_cont) ≡ false ∷ false ∷ []
unfolding in_word
a_cont_ends_what_every_thread_joined = refl

a_cont_ends_a_group_stop : stops (left two listening_to_a_cont) ≡ gs.No ∷ []
unfolding in_word
a_cont_ends_a_group_stop = refl

-- a stopped thread is seized, and its note for the starter waits
abbrev seizing_a_stopped_thread : List Call
seizing_a_stopped_thread = kill 20 ∷ take ∷ halt ∷ seize no_options ∷ []

a_thread_seized_in_a_group_stop_shows_it_and_a_cont_withdraws_the_note : answers one (seizing_a_stopped_thread ++ wait_stopped ∷ wait ∷ cont 0 ∷ mask [] ∷ kill 18 ∷ trap ∷ detach_of 10 0 ∷ both ∷ take ∷ []) ≡ sent 1 Pending ∷ took 10 1 20 Stopping ∷ ok ∷ ok ∷ nothing ∷ waited 10 0x80147f 2 ∷ ok ∷ ok ∷ sent 2 Pending ∷ ok ∷ ok ∷ nothing ∷ took 10 2 18 Ignored ∷ []
unfolding in_word
a_thread_seized_in_a_group_stop_shows_it_and_a_cont_withdraws_the_note = refl

a_note_that_waited_for_the_end_of_tracing_is_told : answers one (seizing_a_stopped_thread ++ detach_of 10 0 ∷ wait_stopped ∷ []) ≡ sent 1 Pending ∷ took 10 1 20 Stopping ∷ ok ∷ ok ∷ ok ∷ waited 10 0x147f 1 ∷ []
unfolding in_word
a_note_that_waited_for_the_end_of_tracing_is_told = refl

a_thread_seized_and_detached_in_a_group_stop_is_stopped : lives (left one (seizing_a_stopped_thread ++ detach_of 10 0 ∷ [])) ≡ life.Stopped ∷ []
unfolding in_word
a_thread_seized_and_detached_in_a_group_stop_is_stopped = refl

-- a second stop signal while a group-stop is in effect
abbrev stopping_twice : List Call
stopping_twice = seize no_options ∷ kill 19 ∷ take ∷ cont 19 ∷ halt ∷ cont 0 ∷ kill 20 ∷ take ∷ cont 20 ∷ []

a_second_stop_signal_stops_by_the_first : answers one (stopping_twice ++ halt ∷ wait ∷ []) ≡ ok ∷ sent 1 Pending ∷ took 10 1 19 Reported ∷ ok ∷ ok ∷ ok ∷ sent 2 Pending ∷ took 10 2 20 Reported ∷ ok ∷ ok ∷ waited 10 0x80137f 4 ∷ []
unfolding in_word
a_second_stop_signal_stops_by_the_first = refl

a_second_stop_signal_keeps_the_group_stop : stops (left one stopping_twice) ≡ gs.Stopped 19 ∷ []
unfolding in_word
a_second_stop_signal_keeps_the_group_stop = refl

a_second_stop_signal_marks_a_restarted_tracee : stop_marks (left one stopping_twice) ≡ true ∷ []
unfolding in_word
a_second_stop_signal_marks_a_restarted_tracee = refl

-- a group-stop begins while a tracee listens
a_listener_halts_for_a_new_group_stop : answers two (seize no_options ∷ interrupt ∷ trap ∷ listen ∷ kill 19 ∷ take_by 11 ∷ wait ∷ halt ∷ wait ∷ listen ∷ halt ∷ []) ≡ ok ∷ ok ∷ ok ∷ ok ∷ sent 1 Pending ∷ took 11 1 19 Stopping ∷ nothing ∷ ok ∷ waited 10 0x80137f 2 ∷ ok ∷ Refused NotDue ∷ []
unfolding in_word
a_listener_halts_for_a_new_group_stop = refl

-- two marks of one thread
a_trap_serves_the_mark_of_a_group_stop_too : answers two (seize no_options ∷ interrupt ∷ kill 19 ∷ take_by 11 ∷ trap ∷ halt ∷ wait ∷ []) ≡ ok ∷ ok ∷ sent 1 Pending ∷ took 11 1 19 Stopping ∷ ok ∷ Refused NotDue ∷ waited 10 0x80137f 1 ∷ []
unfolding in_word
a_trap_serves_the_mark_of_a_group_stop_too = refl

-- PTRACE_INTERRUPT while a group-stop is under way
abbrev interrupting_in_a_group_stop : List Call
interrupting_in_a_group_stop = seize no_options ∷ kill 19 ∷ take_by 11 ∷ interrupt ∷ trap ∷ []

a_trapped_tracee_has_joined_the_group_stop : joins (left two interrupting_in_a_group_stop) ≡ true ∷ false ∷ []
unfolding in_word
a_trapped_tracee_has_joined_the_group_stop = refl

a_trap_in_a_group_stop_takes_its_mark_away : stop_marks (left two interrupting_in_a_group_stop) ≡ false ∷ true ∷ []
unfolding in_word
a_trap_in_a_group_stop_takes_its_mark_away = refl

-- Threads beside the leader

-- a trap in a group-stop is of its thread, which then takes part
a_thread_that_traps_beside_the_leader_joins_the_group_stop : joins (left two (seize_of 11 no_options ∷ interrupt_of 11 ∷ kill 19 ∷ take ∷ trap_by 11 ∷ [])) ≡ false ∷ true ∷ []
unfolding in_word
a_thread_that_traps_beside_the_leader_joins_the_group_stop = refl

-- a stopped thread that isn't the leader is seized in the event stop of its group
a_thread_seized_beside_the_leader_shows_the_group_stop : answers two (kill 20 ∷ take ∷ halt ∷ halt_by 11 ∷ seize_of 11 no_options ∷ wait ∷ []) ≡ sent 1 Pending ∷ took 10 1 20 Stopping ∷ ok ∷ ok ∷ ok ∷ waited 11 0x80147f 2 ∷ []
unfolding in_word
a_thread_seized_beside_the_leader_shows_the_group_stop = refl

-- one that has still to stop runs on until it halts
a_thread_seized_before_it_stops_shows_nothing_yet : answers two (kill 20 ∷ take ∷ seize_of 11 no_options ∷ wait ∷ halt_by 11 ∷ wait ∷ []) ≡ sent 1 Pending ∷ took 10 1 20 Stopping ∷ ok ∷ nothing ∷ ok ∷ waited 11 0x80147f 1 ∷ []
unfolding in_word
a_thread_seized_before_it_stops_shows_nothing_yet = refl

-- a wait gives the report of a thread that isn't the leader once
a_report_beside_the_leader_is_given_once : answers two (seize_of 11 no_options ∷ interrupt_of 11 ∷ trap_by 11 ∷ wait ∷ wait ∷ []) ≡ ok ∷ ok ∷ ok ∷ waited 11 0x80057f 1 ∷ nothing ∷ []
unfolding in_word
a_report_beside_the_leader_is_given_once = refl
