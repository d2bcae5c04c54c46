-- Group-stops: "Group-stop" of ptrace(2), and what SIGCONT does to one.
use Rattle.std.specs.Prelude.{ℕ, not, ◌&&◌, Option, Some, None, map, is_some}
use Rattle.tr_wait.specs.declared.status.Status.TheVariants as status
use Rattle.tr_tracee.specs.Marks.{continued, marked, noted}
use Rattle.tr_tracee.specs.Threads.{at_group}
use Rattle.tr_group.specs.declared.stops.GroupStop.TheVariants.{No}
use Rattle.tr_group.specs.GroupStops.{begun, completed, is_complete, is_stopping}
use Rattle.tr_model.specs.declared.rows.Group.{Group}
use Rattle.tr_model.specs.Tables.{group_of, has_stop_mark, has_traced, stop_in_effect, stop_of}
use Rattle.tr_model.specs.Moves.{Work, alter, each, note, only_group, regroup, when}

-- Beginning

-- a group-stop by this signal, unless one is in effect: that keeps its signal, and stays complete if it was
abbrev pub beginning : ℕ → Group → Group
beginning s x = record x { group_stop = begun s x.group_stop }

-- each live thread that takes no part yet gets the stop mark
abbrev pub initiate : ℕ → ℕ → Work → Work
initiate g s w = alter (at_group g marked) (regroup (only_group g (beginning s)) w)

-- Continuing

-- no group-stop is in effect any more, and the note for the starter is withdrawn, whatever it told
abbrev pub ended_stop : Group → Group
ended_stop x = record x { group_stop = No; note = None }

-- where the group-stop was complete and nobody traces the group, the starter may learn that it continued
abbrev pub end_stop : ℕ → Work → Work
end_stop g w =
    when (is_complete (stop_of (group_of w.table g)) && not (has_traced w.table g)) (note g status.Continued)
    (alter (at_group g continued) (regroup (only_group g ended_stop) w))

-- SIGCONT: the note mark for each live seized thread, and the end of a group-stop in effect
abbrev pub continue_all : ℕ → Work → Work
continue_all g w = when (is_some (stop_in_effect w.table g)) (end_stop g) (alter (at_group g noted) w)

-- Completing

-- the group-stop under way is complete, by the signal that began it
abbrev pub completed_group : Group → Group
completed_group x = record x { group_stop = completed x.group_stop }

-- where nobody traces the group, the starter may learn that it stopped
abbrev pub note_stop : ℕ → Option ℕ → Work → Work
note_stop g None w = w
note_stop g (Some s) w = when (not (has_traced w.table g)) (note g (status.Stopped s)) w

-- the group has stopped, and the starter may learn by which signal
abbrev pub complete_stop : ℕ → Work → Work
complete_stop g w = note_stop g (stop_in_effect w.table g) (regroup (only_group g completed_group) w)

-- a group-stop under way is complete once no thread has a stop mark left
abbrev pub complete_group_stop : ℕ → Work → Work
complete_group_stop g w = when (is_stopping (stop_of (group_of w.table g)) && not (has_stop_mark w.table g)) (complete_stop g) w

-- the last change of each step, in the order of the groups
abbrev pub complete_group_stops : Work → Work
complete_group_stops w = each (map (λ x. x.tgid) w.table.groups) complete_group_stop w
