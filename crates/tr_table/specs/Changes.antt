-- What happens to the record of one group, and which changes leave a thread what it holds.
use Rattle.std.specs.Prelude.{ℕ, List, [], map, Bool, true, false}
use Rattle.tr_tracee.specs.declared.thread.Thread.{Thread}
use Rattle.tr_model.specs.declared.rows.Group.{Group}
use Rattle.tr_model.specs.Deaths.{dying_with}
use Rattle.tr_model.specs.GroupStops.{beginning, completed_group, ended_stop}
use Rattle.tr_model.specs.Execs.{with_reset}
use Rattle.tr_model.specs.Sends.{with_action}
use Rattle.tr_model.specs.StarterWaits.{no_note}
use Rattle.tr_model.specs.Tables.{Table}
use Rattle.tr_threads.specs.declared.thread_changes.ThreadChange.{ThreadChange}
use Rattle.tr_threads.specs.declared.thread_changes.ThreadChange.TheVariants as thread
use Rattle.tr_table.specs.declared.groups.GroupChange.{GroupChange}
use Rattle.tr_table.specs.declared.groups.GroupChange.TheVariants as group

-- the thread holds after it what it held before
abbrev pub keeps_held : ThreadChange → Bool
keeps_held (thread.Enter s n) = false
keeps_held thread.Restart = false
keeps_held (thread.BeginToLeave kill e) = false
keeps_held (thread.LeaveForExec id e) = false
keeps_held _ = true

-- what the change makes of one group's record
abbrev pub group_changed_by : GroupChange → Group → Group
group_changed_by (group.Begin s) x = beginning s x
group_changed_by group.EndStop x = ended_stop x
group_changed_by group.Complete x = completed_group x
group_changed_by (group.Die e) x = dying_with e x
group_changed_by (group.Act s how) x = with_action s how x
group_changed_by group.DropNote x = no_note x
group_changed_by group.ResetActions x = with_reset x

-- the ids of the groups, in table order
abbrev pub tgids : Table → List ℕ
tgids T = map (λ x. x.tgid) T.groups

-- a table of these threads and groups, for what asks for their ids alone
abbrev pub ids_table : List Thread → List Group → Table
ids_table ts gs = record { threads = ts; groups = gs; waiting = []; accepted = 0; raised = 0; limit = 0; entries = 0 }
