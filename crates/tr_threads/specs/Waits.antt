-- Which reports a wait looks for.
use Rattle.std.specs.Prelude.{ℕ, Bool, not, ◌&&◌, Option, Some, None, is_some}
use Rattle.tr_tracee.specs.declared.thread.Report.{Report}
use Rattle.tr_tracee.specs.declared.thread.Thread.{Thread}
use Rattle.tr_tracee.specs.Lives.{is_dead}
use Rattle.tr_tracee.specs.Threads.{is_leader, is_traced}
use Rattle.tr_model.specs.Waits.{has_report}

-- a report, and that of the number where one is given
abbrev pub is_report : Option ℕ → Option Report → Bool
is_report None r = is_some r
is_report (Some n) r = has_report n r

-- a death that is the starter's to be told: the thread is dead, nobody traces it, and it has a report
abbrev pub is_untraced_death : Thread → Bool
is_untraced_death t = is_dead t.life && (not (is_traced t) && is_some t.report)

-- the same of a thread that doesn't lead its group
abbrev pub is_stray_death : Thread → Bool
is_stray_death t = is_untraced_death t && not (is_leader t)
