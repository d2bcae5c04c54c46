-- How a group begins to die: exit_group(2), and "Death under ptrace" of ptrace(2).
use Rattle.std.specs.Prelude.{ℕ, Bool, true, Some, None, unwrap_or}
use Rattle.tr_tracee.specs.declared.life.End.{End}
use Rattle.tr_tracee.specs.declared.life.End.TheVariants.{Killed}
use Rattle.tr_tracee.specs.Ends.{begun_to_leave}
use Rattle.tr_tracee.specs.Threads.{at_group}
use Rattle.tr_group.specs.declared.stops.GroupStop.TheVariants.{No}
use Rattle.tr_model.specs.declared.fates.Fate.TheVariants.{Flushed}
use Rattle.tr_model.specs.declared.rows.Group.{Group}
use Rattle.tr_model.specs.Tables.{group_end}
use Rattle.tr_model.specs.Moves.{Work, become, only_group, regroup, tell_dying, tell_killed}

-- the group is dying, and keeps the end that it was dying with; its group-stop is over, and its note for the starter is withdrawn
abbrev pub dying_with : End → Group → Group
dying_with e x = record x { end = Some (unwrap_or x.end e); group_stop = No; note = None }

-- each thread that isn't dead leaves with the group's end, and what it held is flushed
abbrev pub begin_death : ℕ → End → Bool → Work → Work
begin_death g e kill w =
    tell_dying g (become Flushed (at_group g (begun_to_leave kill (unwrap_or (group_end w.table g) e))) (regroup (only_group g (dying_with e)) w))

-- a delivered KILL
abbrev pub kill_group : ℕ → Work → Work
kill_group g w = begin_death g (Killed 9) true (tell_killed g w)
