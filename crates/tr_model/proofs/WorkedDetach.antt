-- How tracing ends: PTRACE_DETACH, and the end of the tracer.
use Rattle.std.proofs.Common.{◌≡◌, ◌+◌, pos, negsuc, List, [], ◌∷◌, ◌++◌, true, Some, None, map, refl}
use Rattle.tr_sigset.specs.Sets.{in_word}
use Rattle.tr_wait.specs.declared.waits.Which.TheVariants.{Any}
use Rattle.tr_tracee.specs.declared.life.End.TheVariants.{Killed, Exited}
use Rattle.tr_tracee.specs.declared.life.Life.TheVariants as life
use Rattle.tr_tracee.specs.Threads.{no_options, tracer_of}
use Rattle.tr_group.specs.declared.stops.GroupStop.TheVariants as gs
use Rattle.tr_model.specs.declared.events.Event.TheVariants as event
use Rattle.tr_model.specs.declared.fates.Fate.TheVariants.{Pending, Delivered, Flushed}
use Rattle.tr_model.specs.declared.replies.Did.TheVariants.{Stopping, Reported}
use Rattle.tr_model.specs.declared.replies.Refusal.TheVariants.{Srch, Child, Inval}
use Rattle.std.specs.Prelude.{◌*◌}
use Rattle.tr_model.specs.Steps.{work_of}
use Rattle.tr_model.specs.Runs.{Refused, Call}
use Rattle.tr_model.specs.Tables.{Table}
use Rattle.tr_model.specs.Moves.{at, begin}
use Rattle.tr_model.specs.Tracers.{held_signal, lose_tracer}
use Rattle.tr_model.proofs.Worked.{one, two, by, take_by, take, halt_by, halt, trap, die_by, die, kill, tgkill, take_any, seize_of, seize, interrupt, listen, siginfo, tracer_exit, wait, reap, wait_stopped, wait_continued, with_exitkill, answers, ok, nothing, sent, took_with, took, waited, left, tally, sums, life_at, tracer_at, exit_by, detach_of, both, three, lives, joins, stops, unchosen, three_groups, kill_of, halting, halted, listening_to_a_cont, ending_with_three_groups}

-- PTRACE_DETACH

abbrev detaching : List Call
detaching = halting ++ siginfo ∷ wait ∷ by 900 (event.Detach 10 0) ∷ []

-- a delivered SIGSTOP stops an attached tracee twice: with the signal held, and in the group-stop
an_attached_tracee_shows_a_group_stop_by_its_signal : answers one detaching ≡ halted ++ Refused Inval ∷ waited 10 0x137f 2 ∷ ok ∷ []
unfolding in_word
an_attached_tracee_shows_a_group_stop_by_its_signal = refl

-- detached in a group-stop it stays stopped
a_thread_detached_in_a_group_stop_stays_stopped : life_at (left one detaching) 10 ≡ Some life.Stopped
unfolding in_word
a_thread_detached_in_a_group_stop_stays_stopped = refl

-- and has no tracer
a_detached_thread_has_no_tracer : tracer_at (left one detaching) 10 ≡ None
unfolding in_word
a_detached_thread_has_no_tracer = refl

-- its SIGSTOP is delivered
a_restart_with_the_held_number_delivers_it : tally one detaching ≡ sums 1 0 0 1 0 0
unfolding in_word
a_restart_with_the_held_number_delivers_it = refl

-- a restart by PTRACE_DETACH with a stop signal
abbrev detaching_with_a_stop_signal : List Call
detaching_with_a_stop_signal = seize no_options ∷ kill 20 ∷ take ∷ detach_of 10 20 ∷ []

a_thread_detached_with_a_stop_signal_stops_its_group : answers one (detaching_with_a_stop_signal ++ wait ∷ wait_stopped ∷ []) ≡ ok ∷ sent 1 Pending ∷ took 10 1 20 Reported ∷ ok ∷ Refused Child ∷ waited 10 0x147f 2 ∷ []
unfolding in_word
a_thread_detached_with_a_stop_signal_stops_its_group = refl

a_thread_detached_with_a_stop_signal_joins_the_group_stop : joins (left one detaching_with_a_stop_signal) ≡ true ∷ []
unfolding in_word
a_thread_detached_with_a_stop_signal_joins_the_group_stop = refl

a_thread_detached_with_a_stop_signal_is_stopped : lives (left one detaching_with_a_stop_signal) ≡ life.Stopped ∷ []
unfolding in_word
a_thread_detached_with_a_stop_signal_is_stopped = refl

a_group_stop_by_a_detach_waits_for_the_others : stops (left two detaching_with_a_stop_signal) ≡ gs.Stopping 20 ∷ []
unfolding in_word
a_group_stop_by_a_detach_waits_for_the_others = refl

a_group_stop_by_a_detach_is_told_once_all_have_stopped : answers two (detaching_with_a_stop_signal ++ wait_stopped ∷ halt_by 11 ∷ wait_stopped ∷ []) ≡ ok ∷ sent 1 Pending ∷ took 10 1 20 Reported ∷ ok ∷ nothing ∷ ok ∷ waited 10 0x147f 2 ∷ []
unfolding in_word
a_group_stop_by_a_detach_is_told_once_all_have_stopped = refl

-- The end of a tracer

abbrev losing_the_tracer : List Call
losing_the_tracer = halting ++ tracer_exit ∷ []

abbrev losing_and_continuing : List Call
losing_and_continuing = losing_the_tracer ++ wait_stopped ∷ kill 18 ∷ wait_continued ∷ []

-- the end of its tracer leaves a thread of a group-stop stopped
a_thread_that_loses_its_tracer_in_a_group_stop_stays_stopped : life_at (left one losing_the_tracer) 10 ≡ Some life.Stopped
unfolding in_word
a_thread_that_loses_its_tracer_in_a_group_stop_stays_stopped = refl

-- without a tracer
the_end_of_a_tracer_ends_tracing : tracer_at (left one losing_the_tracer) 10 ≡ None
unfolding in_word
the_end_of_a_tracer_ends_tracing = refl

-- the group-stop that was complete under the tracer is not told anew, but its end is
the_end_of_a_group_stop_that_outlived_its_tracer_is_told : answers one losing_and_continuing ≡ halted ++ ok ∷ nothing ∷ sent 2 Flushed ∷ waited 10 0xffff 3 ∷ []
unfolding in_word
the_end_of_a_group_stop_that_outlived_its_tracer_is_told = refl

-- SIGCONT is flushed, SIGSTOP delivered
a_cont_after_the_end_of_a_tracer_is_flushed : tally one losing_and_continuing ≡ sums 2 0 0 1 0 1
unfolding in_word
a_cont_after_the_end_of_a_tracer_is_flushed = refl

-- the tracer of a listening thread ends, in a group-stop and without one
a_listener_that_loses_its_tracer_in_a_group_stop_is_stopped : lives (left two (seize no_options ∷ kill 19 ∷ take_by 11 ∷ halt ∷ halt_by 11 ∷ wait ∷ listen ∷ tracer_exit ∷ [])) ≡ life.Stopped ∷ life.Stopped ∷ []
unfolding in_word
a_listener_that_loses_its_tracer_in_a_group_stop_is_stopped = refl

a_listener_that_loses_its_tracer_without_a_group_stop_runs : lives (left two (listening_to_a_cont ++ tracer_exit ∷ [])) ≡ life.Free ∷ life.Free ∷ []
unfolding in_word
a_listener_that_loses_its_tracer_without_a_group_stop_runs = refl

-- a free tracee with a stop mark is stopped by it, and so the group-stop is complete, and told
the_end_of_a_tracer_completes_a_group_stop : answers two (seize no_options ∷ kill 19 ∷ take_by 11 ∷ halt_by 11 ∷ both ∷ tracer_exit ∷ both ∷ []) ≡ ok ∷ sent 1 Pending ∷ took 11 1 19 Stopping ∷ ok ∷ nothing ∷ ok ∷ waited 10 0x137f 1 ∷ []
unfolding in_word
the_end_of_a_tracer_completes_a_group_stop = refl

-- what becomes of dead tracees at the end of their tracer
the_report_of_a_dead_leader_passes_to_the_starter_at_the_end_of_its_tracer : answers one (seize no_options ∷ kill 9 ∷ die ∷ tracer_exit ∷ wait ∷ reap ∷ []) ≡ ok ∷ sent 1 Delivered ∷ ok ∷ ok ∷ Refused Child ∷ waited 10 9 2 ∷ []
unfolding in_word
the_report_of_a_dead_leader_passes_to_the_starter_at_the_end_of_its_tracer = refl

-- a dead tracee that isn't the leader goes with its tracer; the leader was reaped before, so the group goes too
a_dead_tracee_goes_with_its_tracer_and_its_group_with_it : answers two (seize_of 11 no_options ∷ kill 9 ∷ die_by 11 ∷ die ∷ reap ∷ kill 10 ∷ kill 9 ∷ reap ∷ take_any ∷ tracer_exit ∷ kill 0 ∷ tracer_exit ∷ []) ≡ ok ∷ sent 1 Delivered ∷ ok ∷ ok ∷ waited 10 9 2 ∷ sent 2 Flushed ∷ sent 3 Flushed ∷ Refused Child ∷ nothing ∷ ok ∷ Refused Srch ∷ nothing ∷ []
unfolding in_word
a_dead_tracee_goes_with_its_tracer_and_its_group_with_it = refl

-- one tracer ends, and another comes
a_new_tracer_is_told_no_old_report : answers one (seize no_options ∷ interrupt ∷ trap ∷ tracer_exit ∷ by 901 (event.Seize 10 no_options) ∷ by 901 (event.Wait Any) ∷ wait ∷ []) ≡ ok ∷ ok ∷ ok ∷ ok ∷ ok ∷ nothing ∷ Refused Child ∷ []
unfolding in_word
a_new_tracer_is_told_no_old_report = refl

the_end_of_a_tracer_passes_a_death_and_two_notes_on : answers three_groups (ending_with_three_groups ++ both ∷ both ∷ both ∷ both ∷ []) ≡ ok ∷ ok ∷ ok ∷ sent 1 Pending ∷ sent 2 Pending ∷ took 10 2 20 Reported ∷ took 30 1 20 Reported ∷ sent 3 Delivered ∷ ok ∷ ok ∷ waited 10 0x147f 5 ∷ waited 20 9 4 ∷ waited 30 0x147f 6 ∷ nothing ∷ []
unfolding in_word
the_end_of_a_tracer_passes_a_death_and_two_notes_on = refl

a_death_that_passes_on_is_numbered_before_the_notes : map (λ r. r.number + 100 * r.id) (work_of (left three_groups (seize no_options ∷ seize_of 20 no_options ∷ seize_of 30 no_options ∷ kill_of 30 20 ∷ kill_of 10 20 ∷ take ∷ take_by 30 ∷ kill_of 20 9 ∷ die_by 20 ∷ [])) (unchosen 900 event.TracerExit)).raises ≡ 2004 ∷ 1005 ∷ 3006 ∷ []
unfolding in_word
a_death_that_passes_on_is_numbered_before_the_notes = refl

-- PTRACE_O_EXITKILL

abbrev exiting_tracer : List Call
exiting_tracer = seize with_exitkill ∷ kill 10 ∷ take ∷ tracer_exit ∷ die ∷ reap ∷ []

-- with the option the end of a tracer kills its tracees
the_end_of_a_tracer_kills_its_tracees_with_the_option : answers one exiting_tracer ≡ ok ∷ sent 1 Pending ∷ took 10 1 10 Reported ∷ ok ∷ ok ∷ waited 10 9 2 ∷ []
unfolding in_word
the_end_of_a_tracer_kills_its_tracees_with_the_option = refl

-- by an accepted SIGKILL, and what was held is flushed
the_kill_of_an_ended_tracer_is_accepted : tally one exiting_tracer ≡ sums 2 0 0 1 0 1
unfolding in_word
the_kill_of_an_ended_tracer_is_accepted = refl

-- two tracees with exitkill, a dead leader as tracee, and a tracee that holds a signal
abbrev ending_with_two_to_kill : List Call
ending_with_two_to_kill = seize no_options ∷ seize_of 11 with_exitkill ∷ seize_of 12 with_exitkill ∷ exit_by 10 5 ∷ die ∷ tgkill 12 10 ∷ take_by 12 ∷ tracer_exit ∷ []

the_end_of_a_tracer_leaves_a_dead_leader_to_the_starter : answers three (ending_with_two_to_kill ++ die_by 11 ∷ die_by 12 ∷ reap ∷ kill 0 ∷ []) ≡ ok ∷ ok ∷ ok ∷ ok ∷ ok ∷ sent 1 Pending ∷ took_with 12 1 10 (negsuc 5) 901 (pos 0) Reported ∷ ok ∷ ok ∷ ok ∷ waited 10 9 2 ∷ Refused Srch ∷ []
unfolding in_word
the_end_of_a_tracer_leaves_a_dead_leader_to_the_starter = refl

the_end_of_a_tracer_kills_live_threads_alone : lives (left three ending_with_two_to_kill) ≡ life.Dead (Exited 5) ∷ life.Leaving (Killed 9) true ∷ life.Leaving (Killed 9) true ∷ []
unfolding in_word
the_end_of_a_tracer_kills_live_threads_alone = refl

the_end_of_a_tracer_sends_one_kill_for_each_tracee_with_the_option : tally three ending_with_two_to_kill ≡ sums 3 0 0 2 0 1
unfolding in_word
the_end_of_a_tracer_sends_one_kill_for_each_tracee_with_the_option = refl

nobody_is_traced_after_the_end_of_the_tracer : map (λ t. tracer_of t.trace) (left three ending_with_two_to_kill).threads ≡ None ∷ None ∷ None ∷ []
unfolding in_word
nobody_is_traced_after_the_end_of_the_tracer = refl

-- a tracee with exitkill dies before its tracer ends
abbrev dying_before_the_tracer : List Call
dying_before_the_tracer = seize_of 11 with_exitkill ∷ exit_by 11 0 ∷ die_by 11 ∷ tracer_exit ∷ []

a_dead_tracee_with_exitkill_kills_nobody : lives (left two dying_before_the_tracer) ≡ life.Free ∷ []
unfolding in_word
a_dead_tracee_with_exitkill_kills_nobody = refl

a_dead_tracee_with_exitkill_is_sent_nothing : tally two dying_before_the_tracer ≡ sums 0 0 0 0 0 0
unfolding in_word
a_dead_tracee_with_exitkill_is_sent_nothing = refl

-- so are those of exitkill
the_kill_of_an_ended_tracer_is_logged : (work_of (left two (seize with_exitkill ∷ [])) (unchosen 900 event.TracerExit)).killed ≡ 10 ∷ []
unfolding in_word
the_kill_of_an_ended_tracer_is_logged = refl

-- Threads beside the leader

-- a thread detached in a group-stop stays stopped, also one that isn't the leader
a_thread_detached_beside_the_leader_stays_stopped : life_at (left two (seize_of 11 no_options ∷ kill 19 ∷ take ∷ halt ∷ halt_by 11 ∷ detach_of 11 0 ∷ [])) 11 ≡ Some life.Stopped
unfolding in_word
a_thread_detached_beside_the_leader_stays_stopped = refl

-- The order of what the end of a tracer does

abbrev two_tracees_with_exitkill : Table
two_tracees_with_exitkill = left three_groups (seize with_exitkill ∷ seize_of 20 with_exitkill ∷ [])

-- its groups begin to die in table order
the_end_of_a_tracer_begins_each_death_in_turn : (work_of two_tracees_with_exitkill (unchosen 900 event.TracerExit)).dying ≡ 10 ∷ 20 ∷ []
unfolding in_word
the_end_of_a_tracer_begins_each_death_in_turn = refl

-- each by a delivered KILL
the_end_of_a_tracer_kills_each_group_in_turn : (work_of two_tracees_with_exitkill (unchosen 900 event.TracerExit)).killed ≡ 10 ∷ 20 ∷ []
unfolding in_word
the_end_of_a_tracer_kills_each_group_in_turn = refl

-- first the KILLs, and then what each tracee holds is delivered
the_end_of_a_tracer_kills_before_it_detaches : (work_of (left three_groups (seize no_options ∷ seize_of 20 with_exitkill ∷ kill 20 ∷ take ∷ [])) (unchosen 900 event.TracerExit)).ended ≡ record { number = 2; fate = Delivered } ∷ record { number = 1; fate = Delivered } ∷ []
unfolding in_word
the_end_of_a_tracer_kills_before_it_detaches = refl

-- only a thread that the actor traces is left by it
a_tracee_of_another_is_not_left : tracer_at (at 10 (lose_tracer 901) (begin (left one (seize no_options ∷ [])))).table 10 ≡ Some 900
unfolding in_word
a_tracee_of_another_is_not_left = refl

-- a thread that holds nothing is left with no number
what_is_not_held_is_no_signal : held_signal None ≡ 0
unfolding in_word
what_is_not_held_is_no_signal = refl

-- the KILL of an ended tracer is delivered, and then what its tracee holds is flushed
the_kill_of_an_ended_tracer_comes_before_what_it_flushes : (work_of (left one (seize with_exitkill ∷ kill 10 ∷ take ∷ [])) (unchosen 900 event.TracerExit)).ended ≡ record { number = 2; fate = Delivered } ∷ record { number = 1; fate = Flushed } ∷ []
unfolding in_word
the_kill_of_an_ended_tracer_comes_before_what_it_flushes = refl
