use Rattle.std.proofs.Common.{◌≡◌, ◌∙◌, List, ap, map, subst}
use Rattle.tr_starts.specs.Starts.{no_repeat}
use Rattle.tr_workers.specs.declared.scripts.Script.{Script}
use Rattle.tr_scenario.specs.Threaded.{IsRun, scripts_of_job}
use Rattle.tr_scenario.proofs.Scripts.{job_is_distinct}
use Rattle.tr_scenario.proofs.ThreadedRuns.{runs_left}
use Rattle.tr_scenario.proofs.threads.run_workers.Goals as goal

pub left_by-requires-clause-distinct : goal.left_by-requires-clause-distinct
left_by-requires-clause-distinct g c κs within =
    ap (λ ss. no_repeat (map (λ (s : Script). s.actor) ss)) (c.as_slice.ensures ∙ c.in_ok-scripts.ensures.scripts.0) ∙ job_is_distinct c.args.scenario.job c.requires.manned

pub returns : goal.returns
returns g c =
    let same : c.as_slice.result.now ≡ scripts_of_job c.args.scenario.job = c.as_slice.ensures ∙ c.in_ok-scripts.ensures.scripts.0 in
    let run = subst (λ (ss : List Script). IsRun c.args.scenario.start ss c.args.turns c.in_ok-left.left.kernel c.in_ok-left.left.asked.items c.in_ok-left.left.workers.items) same c.in_ok-left.ensures.run in
    runs_left _ _ _ _ c.args.scenario.start (scripts_of_job c.args.scenario.job) c.args.turns _ _ _ c.print_left.result run c.print_left.ensures
