-- Which signal a thread takes, and what it does with it.
use Rattle.std.proofs.Common.{◌≡◌, ℕ, pos, List, [], ◌∷◌, ◌++◌, length, true, false, Some, map, replicate, negsuc, refl}
use Rattle.tr_sigset.specs.Sets.{in_word}
use Rattle.tr_tracee.specs.declared.life.Life.TheVariants as life
use Rattle.tr_group.specs.declared.stops.Action.TheVariants.{Catch, Ignore}
use Rattle.tr_model.specs.Preferred.{new_id}
use Rattle.tr_model.specs.declared.fates.Fate.TheVariants.{Pending, Flushed}
use Rattle.tr_model.specs.declared.replies.Did.TheVariants.{Caught, Dying, Stopping, Ignored}
use Rattle.tr_model.specs.declared.replies.Refusal.TheVariants.{Again, NotRunning}
use Rattle.tr_model.specs.Runs.{Answer, Refused, Call}
use Rattle.tr_model.specs.Tables.{Table, thread_of}
use Rattle.tr_model.specs.declared.events.Event.TheVariants as event
use Rattle.tr_model.proofs.Worked.{count_up, blocking, acting, group_with, one, catching, mask_of, mask, action, take, halt, clone, kill, sigqueue, take_any, answers, ok, nothing, sent, took, cloned, left, tally, sums, shared, life_at, pausing_in, lives, pause, queueing, queued, taking_four, took_four, by, group_of, take_by, tgkill, thread, took_with}

-- The order of takes

-- instances of one number are taken in order of acceptance, with their values
real_time_signals_are_taken_in_order_of_acceptance : answers one (queueing ++ sigqueue (pos 5) ∷ taking_four) ≡ queued ++ Refused Again ∷ took_four
unfolding in_word
real_time_signals_are_taken_in_order_of_acceptance = refl

-- nothing is queued any more
taken_signals_wait_no_more : length (left one (queueing ++ sigqueue (pos 5) ∷ taking_four)).waiting ≡ 0
unfolding in_word
taken_signals_wait_no_more = refl

-- each of the four is delivered
caught_signals_are_delivered : tally one (queueing ++ sigqueue (pos 5) ∷ taking_four) ≡ sums 4 0 0 4 0 0
unfolding in_word
caught_signals_are_delivered = refl

abbrev queueing_caught : List Call
queueing_caught = mask (34 ∷ []) ∷ sigqueue (pos 1) ∷ sigqueue (pos 2) ∷ sigqueue (pos 3) ∷ sigqueue (pos 4) ∷ sigqueue (pos 5) ∷ []

-- the same where the signal is caught from the start
real_time_signals_are_taken_in_order_where_they_are_caught_from_the_start : answers (catching (34 ∷ [])) (queueing_caught ++ taking_four) ≡ ok ∷ sent 1 Pending ∷ sent 2 Pending ∷ sent 3 Pending ∷ sent 4 Pending ∷ Refused Again ∷ took_four
unfolding in_word
real_time_signals_are_taken_in_order_where_they_are_caught_from_the_start = refl

-- and the fifth leaves four queued
four_caught_signals_stay_queued : length (left (catching (34 ∷ [])) queueing_caught).waiting ≡ 4
unfolding in_word
four_caught_signals_stay_queued = refl

abbrev mixing : List Call
mixing = mask (10 ∷ 34 ∷ 64 ∷ []) ∷ kill 64 ∷ kill 34 ∷ kill 10 ∷ []

abbrev taking_three : List Call
taking_three = mask [] ∷ take ∷ take ∷ take ∷ []

abbrev catching_three : List Call
catching_three = action 10 Catch ∷ action 34 Catch ∷ action 64 Catch ∷ []

abbrev took_three : List Answer
took_three = ok ∷ took 10 3 10 Caught ∷ took 10 2 34 Caught ∷ took 10 1 64 Caught ∷ []

abbrev sent_three : List Answer
sent_three = ok ∷ sent 1 Pending ∷ sent 2 Pending ∷ sent 3 Pending ∷ []

-- the three signals wait, in order of acceptance
signals_of_three_numbers_wait_in_order_of_acceptance : shared (left one (catching_three ++ mixing)) ≡ 64 ∷ 34 ∷ 10 ∷ []
unfolding in_word
signals_of_three_numbers_wait_in_order_of_acceptance = refl

-- the standard signal is taken first, then the lower real-time number
standard_signals_are_taken_before_real_time_ones_and_lower_before_higher : answers one (catching_three ++ mixing ++ taking_three) ≡ ok ∷ ok ∷ ok ∷ sent_three ++ took_three
unfolding in_word
standard_signals_are_taken_before_real_time_ones_and_lower_before_higher = refl

-- the same where they are caught from the start
standard_signals_are_taken_first_where_they_are_caught_from_the_start : answers (catching (10 ∷ 34 ∷ 64 ∷ [])) (mixing ++ taking_three) ≡ sent_three ++ took_three
unfolding in_word
standard_signals_are_taken_first_where_they_are_caught_from_the_start = refl

-- and wait as before
signals_caught_from_the_start_wait_in_order_of_acceptance : shared (left (catching (10 ∷ 34 ∷ 64 ∷ [])) mixing) ≡ 64 ∷ 34 ∷ 10 ∷ []
unfolding in_word
signals_caught_from_the_start_wait_in_order_of_acceptance = refl

-- Pauses

abbrev pausing : List Call
pausing = pause ∷ mask [] ∷ kill 28 ∷ kill 10 ∷ take ∷ []

abbrev paused : List Answer
paused = ok ∷ Refused NotRunning ∷ sent 1 Flushed ∷ sent 2 Pending ∷ took 10 2 10 Caught ∷ []

-- a paused thread is free, and pauses
a_pause_lasts : pausing_in (thread_of (left (catching (10 ∷ [])) (pause ∷ [])) 10) ≡ true
unfolding in_word
a_pause_lasts = refl

-- while it pauses it does nothing of its own; an ignored signal is flushed, a caught one is taken
a_paused_thread_takes_a_caught_signal : answers (catching (10 ∷ [])) pausing ≡ paused
unfolding in_word
a_paused_thread_takes_a_caught_signal = refl

-- which ends the pause
a_caught_signal_ends_a_pause : pausing_in (thread_of (left (catching (10 ∷ [])) pausing) 10) ≡ false
unfolding in_word
a_caught_signal_ends_a_pause = refl

-- and the thread runs
a_thread_runs_after_a_pause : life_at (left (catching (10 ∷ [])) pausing) 10 ≡ Some life.Free
unfolding in_word
a_thread_runs_after_a_pause = refl

-- so that it acts again
a_thread_acts_again_after_a_pause : answers (catching (10 ∷ [])) (pausing ++ mask [] ∷ []) ≡ paused ++ ok ∷ []
unfolding in_word
a_thread_acts_again_after_a_pause = refl

-- a group-stop and its end leave a pause as it was
a_stopped_and_continued_thread_still_pauses : answers one (pause ∷ kill 20 ∷ take ∷ halt ∷ kill 18 ∷ mask [] ∷ []) ≡ ok ∷ sent 1 Pending ∷ took 10 1 20 Stopping ∷ ok ∷ sent 2 Flushed ∷ Refused NotRunning ∷ []
unfolding in_word
a_stopped_and_continued_thread_still_pauses = refl

a_continued_thread_that_pauses_is_free : lives (left one (pause ∷ kill 20 ∷ take ∷ halt ∷ kill 18 ∷ [])) ≡ life.Free ∷ []
unfolding in_word
a_continued_thread_that_pauses_is_free = refl

-- Groups of several threads

abbrev cloning : List Call
cloning = replicate 63 clone

abbrev cloned_all : List Answer
cloned_all = map cloned (count_up 11 63)

abbrev block_12 : ℕ → Call
block_12 id = mask_of id (12 ∷ [])

abbrev leaving_one : List Call
leaving_one = cloning ++ clone ∷ map block_12 (count_up 10 63) ++ kill 12 ∷ take_any ∷ []

abbrev leaving_none : List Call
leaving_none = cloning ++ map block_12 (count_up 10 64) ++ kill 12 ∷ take_any ∷ []

-- clones get the least free ids, 64 threads are the most in a group, and the one thread that does not block a signal takes it
the_only_thread_that_does_not_block_a_signal_takes_it : answers one leaving_one ≡ cloned_all ++ Refused Again ∷ replicate 63 ok ++ sent 1 Pending ∷ took 73 1 12 Dying ∷ []
unfolding in_word new_id
the_only_thread_that_does_not_block_a_signal_takes_it = refl

-- where every thread blocks it nobody takes it
a_signal_that_every_thread_blocks_is_not_taken : answers one leaving_none ≡ cloned_all ++ replicate 64 ok ++ sent 1 Pending ∷ nothing ∷ []
unfolding in_word new_id
a_signal_that_every_thread_blocks_is_not_taken = refl

-- and it waits for the group
a_signal_that_every_thread_blocks_waits : shared (left one leaving_none) ≡ 12 ∷ []
unfolding in_word new_id
a_signal_that_every_thread_blocks_waits = refl

abbrev sixty_four : List ℕ → Table
sixty_four last = group_with (map (blocking (12 ∷ [])) (count_up 10 63) ++ blocking last 73 ∷ []) (acting Catch (12 ∷ []))

-- the same with all threads from the start
the_only_thread_that_does_not_block_a_signal_catches_it : answers (sixty_four []) (kill 12 ∷ take_any ∷ []) ≡ sent 1 Pending ∷ took 73 1 12 Caught ∷ []
unfolding in_word
the_only_thread_that_does_not_block_a_signal_catches_it = refl

-- and where every one of them blocks it
a_caught_signal_that_every_thread_blocks_is_not_taken : answers (sixty_four (12 ∷ [])) (kill 12 ∷ take_any ∷ []) ≡ sent 1 Pending ∷ nothing ∷ []
unfolding in_word
a_caught_signal_that_every_thread_blocks_is_not_taken = refl

-- What a taker does

-- SIGSEGV ends the group by default
a_signal_that_dumps_core_ends_the_group : answers one (kill 11 ∷ take ∷ []) ≡ sent 1 Pending ∷ took 10 1 11 Dying ∷ []
unfolding in_word
a_signal_that_dumps_core_ends_the_group = refl

-- a blocked SIGCHLD waits, and is then ignored by default
a_signal_ignored_by_default_is_taken_and_does_nothing : answers (group_of (blocking (17 ∷ []) 10 ∷ [])) (kill 17 ∷ mask [] ∷ take ∷ mask [] ∷ []) ≡ sent 1 Pending ∷ ok ∷ took 10 1 17 Ignored ∷ ok ∷ []
unfolding in_word
a_signal_ignored_by_default_is_taken_and_does_nothing = refl

-- so is a blocked signal whose action is to ignore it
a_signal_ignored_by_its_action_is_taken_and_does_nothing : answers (group_with (blocking (10 ∷ []) 10 ∷ []) (acting Ignore (10 ∷ []))) (kill 10 ∷ mask [] ∷ take ∷ mask [] ∷ []) ≡ sent 1 Pending ∷ ok ∷ took 10 1 10 Ignored ∷ ok ∷ []
unfolding in_word
a_signal_ignored_by_its_action_is_taken_and_does_nothing = refl

-- a caught signal ends the pause of the thread that takes it, by the action of its group
a_caught_signal_ends_the_pause_of_its_taker : answers (group_with (thread 10 ∷ thread 11 ∷ []) (acting Catch (12 ∷ []))) (by 11 (event.Pause 11) ∷ tgkill 11 12 ∷ take_by 11 ∷ mask_of 11 [] ∷ []) ≡ ok ∷ sent 1 Pending ∷ took_with 11 1 12 (negsuc 5) 901 (pos 0) Caught ∷ ok ∷ []
unfolding in_word
a_caught_signal_ends_the_pause_of_its_taker = refl

-- and it is delivered once
a_signal_that_does_nothing_is_delivered : tally (group_of (blocking (17 ∷ []) 10 ∷ [])) (kill 17 ∷ mask [] ∷ take ∷ []) ≡ sums 1 0 0 1 0 0
unfolding in_word
a_signal_that_does_nothing_is_delivered = refl
