-- What a script calls next.
use Rattle.std.specs.Prelude.{ℕ, ◌+◌, ◌-◌, Bool, true, false, ◌&&◌, ◌||◌, not, List, [], ◌∷◌, length, take, drop, set, Option, Some, None, is_some, nat_lt, ◌==◌, slice_get, if◌then◌else◌}
use Rattle.tr_model.specs.declared.events.Event.{Event}
use Rattle.tr_model.specs.declared.events.Event.TheVariants.{Die, Halt, Trap, Finish, Take}
use Rattle.tr_model.specs.declared.replies.Reply.TheVariants.{Nothing}
use Rattle.tr_model.specs.declared.replies.Refusal.TheVariants.{Srch, Busy, NotDue, NotRunning}
use Rattle.tr_model.specs.Runs.{Answer, Entered, Read, Refused}
use Rattle.tr_workers.specs.declared.scripts.Item.{Item}
use Rattle.tr_workers.specs.declared.scripts.Plan.{Plan}
use Rattle.tr_workers.specs.declared.scripts.Plan.TheVariants.{Items, Machine}
use Rattle.tr_workers.specs.declared.scripts.Repeat.{Repeat}
use Rattle.tr_workers.specs.declared.scripts.Repeat.TheVariants.{Times, Until}
use Rattle.tr_workers.specs.declared.scripts.Served.{Served}

-- Kinds of answers

-- there is no such thread
abbrev pub is_srch : Answer → Bool
is_srch (Refused Srch) = true
is_srch answer = false

-- the operation isn't possible yet
abbrev pub is_too_early : Answer → Bool
is_too_early (Refused Busy) = true
is_too_early (Refused NotRunning) = true
is_too_early answer = false

-- a call that is made until something comes of it is made again
abbrev pub is_vain : Answer → Bool
is_vain (Read Nothing) = true
is_vain (Refused NotDue) = true
is_vain answer = is_too_early answer

-- a machine leaves the thread after this answer
abbrev pub ends_visit : Answer → Bool
ends_visit (Entered r) = true
ends_visit answer = is_srch answer

-- Items

-- no call is left
abbrev pub is_over : Repeat → Bool
is_over (Times n) = n == 0
is_over Until = false

-- what is left after a call with this answer
abbrev pub repeat_after : Repeat → Answer → Repeat
repeat_after (Times n) answer = Times (n - 1)
repeat_after Until answer = if is_vain answer then Until else Times 0

-- the items from the first on that has a call left
abbrev pub items_left : List Item → List Item
items_left [] = []
items_left (i ∷ rest) = if is_over i.repeat then items_left rest else i ∷ rest

-- what is left once the first item's call was answered so
abbrev pub items_after : List Item → Answer → List Item
items_after [] answer = []
items_after (i ∷ rest) answer = items_left (record { event = i.event; repeat = repeat_after i.repeat answer } ∷ rest)

-- the call of the first item
abbrev pub next_of_items : List Item → Option Event
next_of_items [] = None
next_of_items (i ∷ rest) = Some i.event

-- Machines

-- the threads with the ops that are left; whose turn it is, from 0 (the machine's end is behind the last); how many calls
-- it had since its turn began; and whether each die of this round was answered ESRCH
pub record Round : Type 0 where
  pub threads : List Served
  pub place : ℕ
  pub calls : ℕ
  pub gone : Bool

-- the threads from the first on, in a new round
abbrev pub round_of : List Served → Round
round_of threads = record { threads = threads; place = 0; calls = 0; gone = true }

-- what a thread is asked in one round, in order: the last is the first op left
abbrev pub visit : Served → List Event
visit s = Die s.tid ∷ Halt s.tid ∷ Trap s.tid ∷ Finish s.tid ∷ Take s.tid ∷ take 1 s.ops

-- an op, the sixth call of a visit, is used up by its answer, unless it came too early
abbrev pub served_after : Served → ℕ → Answer → Served
served_after s calls answer = if calls == 5 && not (is_too_early answer) then record { tid = s.tid; ops = drop 1 s.ops } else s

-- the turn is over: ahead is the next thread or, behind the last, the end; else the first thread, in a new round
abbrev pub turned : Round → List Served → Bool → Bool → Round
turned r threads gone true = record { threads = threads; place = r.place + 1; calls = 0; gone = gone }
turned r threads gone false = round_of threads

-- the thread goes on, or its turn is over
abbrev pub moved : Round → List Served → Bool → Bool → Round
moved r threads gone true = record { threads = threads; place = r.place; calls = r.calls + 1; gone = gone }
moved r threads gone false = turned r threads gone (nat_lt (r.place + 1) (length r.threads) || gone)

-- the call of this thread was answered: its visit goes on where the answer doesn't end it and a call follows
abbrev pub answered : Round → Served → Answer → Round
answered r s answer =
    moved r (set r.threads r.place (served_after s r.calls answer)) (r.gone && (nat_lt 0 r.calls || is_srch answer))
    (not (ends_visit answer) && is_some (slice_get (visit s) (r.calls + 1)))

-- at the machine's end nothing changes
abbrev pub round_after_at : Round → Answer → Option Served → Round
round_after_at r answer None = r
round_after_at r answer (Some s) = answered r s answer

-- the round once the call of the thread whose turn it is was answered so
abbrev pub round_after : Round → Answer → Round
round_after r answer = round_after_at r answer (slice_get r.threads r.place)

-- the call at this place of the thread's visit
abbrev pub next_of_thread : ℕ → Option Served → Option Event
next_of_thread calls None = None
next_of_thread calls (Some s) = slice_get (visit s) calls

-- the call of the thread whose turn it is
abbrev pub next_of_round : Round → Option Event
next_of_round r = next_of_thread r.calls (slice_get r.threads r.place)

-- Scripts

-- how far a script has come
pub data Progress : Type 0 where
  Calling : List Item → Progress
  Serving : Round → Progress

-- its calls come from a machine
abbrev pub is_machine : Plan → Bool
is_machine (Items items) = false
is_machine (Machine threads) = true

-- how far it has come before its first call
abbrev pub begun : Plan → Progress
begun (Items items) = Calling (items_left items)
begun (Machine threads) = Serving (round_of threads)

-- the next call; at the end there is none
abbrev pub next : Progress → Option Event
next (Calling items) = next_of_items items
next (Serving r) = next_of_round r

-- how far it has come once the next call was answered so
abbrev pub told : Progress → Answer → Progress
told (Calling items) answer = Calling (items_after items answer)
told (Serving r) answer = Serving (round_after r answer)
