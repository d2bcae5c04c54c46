-- What a restart with a signal number does: PTRACE_CONT.
use Rattle.std.proofs.Common.{◌≡◌, pos, negsuc, List, [], ◌∷◌, ◌++◌, true, false, Some, map, refl}
use Rattle.tr_sigset.specs.Sets.{in_word}
use Rattle.tr_tracee.specs.declared.life.End.TheVariants.{Killed, Exited}
use Rattle.tr_tracee.specs.declared.life.Life.TheVariants as life
use Rattle.tr_tracee.specs.declared.life.Stop.TheVariants as stop
use Rattle.tr_tracee.specs.Threads.{no_options}
use Rattle.tr_group.specs.declared.stops.Action.TheVariants.{Ignore}
use Rattle.tr_group.specs.declared.stops.GroupStop.TheVariants as gs
use Rattle.tr_model.specs.declared.events.Event.TheVariants as event
use Rattle.tr_model.specs.declared.fates.Fate.TheVariants.{Pending, Delivered, Flushed, Suppressed}
use Rattle.tr_model.specs.declared.replies.Did.TheVariants.{Reported}
use Rattle.tr_model.specs.declared.replies.Refusal.TheVariants.{Srch, Io, Again, Busy}
use Rattle.tr_model.specs.declared.rows.Target.TheVariants as target
use Rattle.tr_model.specs.Steps.{work_of}
use Rattle.tr_model.specs.Runs.{Answer, Refused, Call}
use Rattle.tr_model.specs.Sends.{info}
use Rattle.tr_model.specs.Tables.{Table, queue}
use Rattle.tr_model.specs.Moves.{begin}
use Rattle.tr_model.specs.Restarts.{inject}
use Rattle.tr_model.proofs.Worked.{thread, acting, group_with, one, two, catching, mask, take, trap, die_by, die, kill, tgkill, seize_of, seize, cont, wait, reap, with_exit, answers, ok, nothing, sent, took_with, took, waited, left, tally, sums, own, life_at, exit_by, exit_group_by, lives, stops, unchosen, attaching, attached, blocking, cont_of, mask_of, take_by}

-- Restarts

abbrev suppressing : List Call
suppressing = attaching ++ cont 0 ∷ wait ∷ []

abbrev suppressed : List Answer
suppressed = attached ++ ok ∷ nothing ∷ []

-- an attached thread stops by a SIGSTOP, which its tracer may suppress
a_tracee_stops_after_an_attach : answers one suppressing ≡ suppressed
unfolding in_word
a_tracee_stops_after_an_attach = refl

-- it is suppressed
a_restart_with_0_suppresses_the_signal : tally one suppressing ≡ sums 1 0 0 0 1 0
unfolding in_word
a_restart_with_0_suppresses_the_signal = refl

-- and the thread runs
a_restarted_thread_runs : life_at (left one suppressing) 10 ≡ Some life.Free
unfolding in_word
a_restarted_thread_runs = refl

abbrev ignoring_one : Table
ignoring_one = group_with (thread 10 ∷ []) (acting Ignore (10 ∷ []))

-- an ignored signal stops a tracee too
an_ignored_signal_is_reported_to_the_tracer : answers ignoring_one (suppressing ++ kill 10 ∷ take ∷ wait ∷ []) ≡ suppressed ++ sent 2 Pending ∷ took 10 2 10 Reported ∷ waited 10 0xa7f 2 ∷ []
unfolding in_word
an_ignored_signal_is_reported_to_the_tracer = refl

abbrev injecting_attached : List Call
injecting_attached = attaching ++ cont 0 ∷ kill 10 ∷ take ∷ wait ∷ cont 65 ∷ cont 12 ∷ []

-- a restart with another number than the one held is a new signal; 65 is no signal
a_tracer_of_an_attached_thread_injects_a_signal : answers (catching (12 ∷ [])) injecting_attached ≡ attached ++ ok ∷ sent 2 Pending ∷ took 10 2 10 Reported ∷ waited 10 0xa7f 2 ∷ Refused Io ∷ ok ∷ []
unfolding in_word
a_tracer_of_an_attached_thread_injects_a_signal = refl

-- what was held is suppressed, the new one is delivered
an_injected_signal_is_accepted : tally (catching (12 ∷ [])) injecting_attached ≡ sums 3 0 0 1 2 0
unfolding in_word
an_injected_signal_is_accepted = refl

abbrev injecting : List Call
injecting = seize no_options ∷ kill 10 ∷ take ∷ wait ∷ []

abbrev injected : List Answer
injected = ok ∷ sent 1 Pending ∷ took 10 1 10 Reported ∷ waited 10 0xa7f 1 ∷ []

-- a restart with another number than the one held is a new signal; 65 is no signal
a_tracer_of_a_seized_thread_injects_a_signal : answers (catching (12 ∷ [])) (injecting ++ cont 65 ∷ cont 12 ∷ []) ≡ injected ++ Refused Io ∷ ok ∷ []
unfolding in_word
a_tracer_of_a_seized_thread_injects_a_signal = refl

-- the refused restart leaves the tracee in its stop
a_refused_restart_leaves_the_tracee_in_its_stop : life_at (left (catching (12 ∷ [])) (injecting ++ cont 65 ∷ [])) 10 ≡ Some (life.InStop (stop.Signal (record { n = 1; sig = 10; info = info (pos 0) 901 (pos 0) }) false))
unfolding in_word
a_refused_restart_leaves_the_tracee_in_its_stop = refl

-- what was held is suppressed, the new one is delivered
a_signal_injected_into_a_seized_thread_is_accepted : tally (catching (12 ∷ [])) (injecting ++ cont 65 ∷ cont 12 ∷ []) ≡ sums 2 0 0 1 1 0
unfolding in_word
a_signal_injected_into_a_seized_thread_is_accepted = refl

-- a restart with a signal that the tracee blocks
abbrev injecting_what_waits : List Call
injecting_what_waits = seize no_options ∷ mask (12 ∷ []) ∷ tgkill 10 12 ∷ kill 10 ∷ take ∷ cont 12 ∷ []

a_blocked_injected_signal_merges_with_one_that_waits_for_the_thread : tally (catching (12 ∷ [])) injecting_what_waits ≡ sums 3 1 1 0 1 0
unfolding in_word
a_blocked_injected_signal_merges_with_one_that_waits_for_the_thread = refl

abbrev injecting_what_waits_for_the_group : List Call
injecting_what_waits_for_the_group = seize no_options ∷ mask (12 ∷ []) ∷ kill 12 ∷ kill 10 ∷ take ∷ cont 12 ∷ []

a_blocked_injected_signal_does_not_merge_with_one_for_the_group : tally (catching (12 ∷ [])) injecting_what_waits_for_the_group ≡ sums 3 2 0 0 1 0
unfolding in_word
a_blocked_injected_signal_does_not_merge_with_one_for_the_group = refl

a_blocked_injected_signal_waits_for_the_thread : own (left (catching (12 ∷ [])) injecting_what_waits_for_the_group) 10 ≡ 12 ∷ []
unfolding in_word
a_blocked_injected_signal_waits_for_the_thread = refl

abbrev injecting_beyond_the_queue_limit : List Call
injecting_beyond_the_queue_limit = seize no_options ∷ mask (40 ∷ []) ∷ kill 40 ∷ kill 10 ∷ take ∷ cont 40 ∷ []

an_injected_signal_is_not_refused_by_the_queue_limit : answers (record one { limit = 0 }) injecting_beyond_the_queue_limit ≡ ok ∷ ok ∷ Refused Again ∷ sent 1 Pending ∷ took 10 1 10 Reported ∷ ok ∷ []
unfolding in_word
an_injected_signal_is_not_refused_by_the_queue_limit = refl

a_blocked_injected_signal_tells_the_tracer_as_its_sender : map (λ i. i.info) (queue (left (record one { limit = 0 }) injecting_beyond_the_queue_limit) (target.Thread 10)) ≡ info (pos 0) 900 (pos 0) ∷ []
unfolding in_word
a_blocked_injected_signal_tells_the_tracer_as_its_sender = refl

-- Stop signals

abbrev stopping_after_a_cont : List Call
stopping_after_a_cont = seize no_options ∷ kill 20 ∷ take ∷ wait ∷ kill 18 ∷ cont 20 ∷ []

abbrev not_stopped : List Answer
not_stopped = ok ∷ sent 1 Pending ∷ took 10 1 20 Reported ∷ waited 10 0x147f 1 ∷ sent 2 Pending ∷ ok ∷ []

-- a SIGCONT comes while a stop signal is held, and then the stop signal is delivered
a_cont_comes_while_a_stop_signal_is_held : answers one stopping_after_a_cont ≡ not_stopped
unfolding in_word
a_cont_comes_while_a_stop_signal_is_held = refl

-- which stops nobody
a_stop_signal_starts_no_group_stop_after_a_cont : life_at (left one stopping_after_a_cont) 10 ≡ Some life.Free
unfolding in_word
a_stop_signal_starts_no_group_stop_after_a_cont = refl

abbrev trapping_after_a_cont : List Call
trapping_after_a_cont = take ∷ trap ∷ wait ∷ cont 0 ∷ take ∷ wait ∷ []

-- the tracee serves its mark first, and then takes the SIGCONT
a_mark_is_served_before_a_signal_is_taken : answers one (stopping_after_a_cont ++ trapping_after_a_cont) ≡ not_stopped ++ Refused Busy ∷ ok ∷ waited 10 0x80057f 2 ∷ ok ∷ took 10 2 18 Reported ∷ waited 10 0x127f 3 ∷ []
unfolding in_word
a_mark_is_served_before_a_signal_is_taken = refl

-- a SIGCONT comes while a signal is held, and a stop signal is injected
abbrev injecting_a_stop_after_a_cont : List Call
injecting_a_stop_after_a_cont = seize no_options ∷ kill 10 ∷ take ∷ kill 18 ∷ cont 20 ∷ []

a_stop_signal_injected_after_a_cont_is_delivered : tally one injecting_a_stop_after_a_cont ≡ sums 3 1 0 1 1 0
unfolding in_word
a_stop_signal_injected_after_a_cont_is_delivered = refl

a_stop_signal_injected_after_a_cont_stops_nobody : stops (left one injecting_a_stop_after_a_cont) ≡ gs.No ∷ []
unfolding in_word
a_stop_signal_injected_after_a_cont_stops_nobody = refl

-- without the CONT it does
an_injected_stop_signal_begins_a_group_stop : stops (left one (seize no_options ∷ kill 10 ∷ take ∷ cont 20 ∷ [])) ≡ gs.Stopping 20 ∷ []
unfolding in_word
an_injected_stop_signal_begins_a_group_stop = refl

-- KILL

-- a restart with 9 from the exit stop of a dying group
abbrev restarting_a_dying_tracee_with_a_kill : List Call
restarting_a_dying_tracee_with_a_kill = seize with_exit ∷ exit_group_by 10 3 ∷ die ∷ cont 9 ∷ []

a_9_given_at_an_exit_stop_is_ignored : answers one (restarting_a_dying_tracee_with_a_kill ++ die ∷ wait ∷ reap ∷ []) ≡ ok ∷ ok ∷ ok ∷ ok ∷ ok ∷ waited 10 0x300 2 ∷ waited 10 0x300 3 ∷ []
unfolding in_word
a_9_given_at_an_exit_stop_is_ignored = refl

a_tracee_restarted_from_its_exit_stop_keeps_its_end : lives (left one restarting_a_dying_tracee_with_a_kill) ≡ life.Leaving (Exited 3) true ∷ []
unfolding in_word
a_tracee_restarted_from_its_exit_stop_keeps_its_end = refl

a_number_that_is_ignored_at_a_restart_is_not_accepted : tally one restarting_a_dying_tracee_with_a_kill ≡ sums 0 0 0 0 0 0
unfolding in_word
a_number_that_is_ignored_at_a_restart_is_not_accepted = refl

-- a restart with 9 from a signal-delivery-stop, while another tracee is in its exit stop
abbrev injecting_a_kill : List Call
injecting_a_kill = seize no_options ∷ seize_of 11 with_exit ∷ tgkill 10 10 ∷ take ∷ exit_by 11 7 ∷ cont 9 ∷ []

an_injected_kill_ends_every_thread_and_an_exit_stop : answers two (injecting_a_kill ++ wait ∷ die ∷ die_by 11 ∷ wait ∷ wait ∷ reap ∷ kill 0 ∷ []) ≡ ok ∷ ok ∷ sent 1 Pending ∷ took_with 10 1 10 (negsuc 5) 901 (pos 0) Reported ∷ ok ∷ ok ∷ nothing ∷ ok ∷ ok ∷ waited 10 9 4 ∷ waited 11 9 3 ∷ waited 10 9 5 ∷ Refused Srch ∷ []
unfolding in_word
an_injected_kill_ends_every_thread_and_an_exit_stop = refl

an_injected_kill_makes_every_thread_leave : lives (left two injecting_a_kill) ≡ life.Leaving (Killed 9) true ∷ life.Leaving (Killed 9) true ∷ []
unfolding in_word
an_injected_kill_makes_every_thread_leave = refl

an_injected_kill_is_delivered_and_what_was_held_suppressed : tally two injecting_a_kill ≡ sums 2 0 0 1 1 0
unfolding in_word
an_injected_kill_is_delivered_and_what_was_held_suppressed = refl

-- 9 is a KILL also where it is injected, another deadly number is none
abbrev injecting_beside_a_tracee_with_exit_stops : List Call
injecting_beside_a_tracee_with_exit_stops = seize no_options ∷ seize_of 11 with_exit ∷ tgkill 10 10 ∷ take ∷ []

an_injected_kill_skips_exit_stops : lives (left two (injecting_beside_a_tracee_with_exit_stops ++ cont 9 ∷ [])) ≡ life.Leaving (Killed 9) true ∷ life.Leaving (Killed 9) true ∷ []
unfolding in_word
an_injected_kill_skips_exit_stops = refl

an_injected_kill_is_logged : (work_of (left two injecting_beside_a_tracee_with_exit_stops) (unchosen 900 (event.Cont 10 9))).killed ≡ 10 ∷ []
unfolding in_word
an_injected_kill_is_logged = refl

-- any other deadly number is none
another_deadly_injected_signal_skips_none : lives (left two (injecting_beside_a_tracee_with_exit_stops ++ cont 15 ∷ [])) ≡ life.Leaving (Killed 15) true ∷ life.Leaving (Killed 15) false ∷ []
unfolding in_word
another_deadly_injected_signal_skips_none = refl

another_deadly_injected_signal_is_not_logged : (work_of (left two injecting_beside_a_tracee_with_exit_stops) (unchosen 900 (event.Cont 10 15))).killed ≡ []
unfolding in_word
another_deadly_injected_signal_is_not_logged = refl

-- Threads beside the leader

abbrev injecting_beside_the_leader : List Call
injecting_beside_the_leader = seize_of 11 no_options ∷ mask_of 11 (12 ∷ []) ∷ tgkill 11 10 ∷ take_by 11 ∷ cont_of 11 12 ∷ []

-- a blocked number waits for the thread that was restarted
an_injected_signal_waits_for_the_restarted_thread : own (left two injecting_beside_the_leader) 11 ≡ 12 ∷ []
unfolding in_word
an_injected_signal_waits_for_the_restarted_thread = refl

-- what was held is suppressed, and then the new one is delivered
what_was_held_is_ended_before_what_is_injected : (work_of (left (catching (12 ∷ [])) (seize no_options ∷ kill 10 ∷ take ∷ [])) (unchosen 900 (event.Cont 10 12))).ended ≡ record { number = 1; fate = Suppressed } ∷ record { number = 2; fate = Delivered } ∷ []
unfolding in_word
what_was_held_is_ended_before_what_is_injected = refl

-- without a tracer the sender would be 0
a_number_injected_by_nobody_has_no_sender : map (λ w. w.instance.info) (inject (blocking (12 ∷ []) 10) 12 (begin one)).table.waiting ≡ record { code = pos 0; pid = 0; value = pos 0 } ∷ []
unfolding in_word
a_number_injected_by_nobody_has_no_sender = refl

abbrev two_hold : Table
two_hold = left two (seize no_options ∷ seize_of 11 no_options ∷ tgkill 10 10 ∷ tgkill 11 12 ∷ take ∷ take_by 11 ∷ [])

-- a deadly number is delivered, and then what another thread holds is flushed
an_injected_signal_is_delivered_before_what_is_held_is_flushed : (work_of two_hold (unchosen 900 (event.Cont 10 15))).ended ≡ record { number = 1; fate = Suppressed } ∷ record { number = 3; fate = Delivered } ∷ record { number = 2; fate = Flushed } ∷ []
unfolding in_word
an_injected_signal_is_delivered_before_what_is_held_is_flushed = refl
