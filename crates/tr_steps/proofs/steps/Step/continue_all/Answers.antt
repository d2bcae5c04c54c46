use Rattle.std.proofs.Common.{◌≡◌, ◌&&◌, ◌∙◌, Bool, ap, arith, is_some, not, sym}
use Rattle.tr_wait.specs.declared.status.Status.TheVariants as status
use Rattle.tr_tracee.specs.Threads.{at_group}
use Rattle.tr_threads.specs.Changes.{continued_by}
use Rattle.tr_model.specs.GroupStops.{ended_stop}
use Rattle.tr_group.specs.GroupStops.{is_complete}
use Rattle.tr_model.specs.Tables.{group_of, has_traced, stop_in_effect, stop_of}
use Rattle.tr_model.specs.Moves.{Work, alter, note, only_group, regroup, when}
use Rattle.tr_steps.proofs.Continues.{ended_once}
use Rattle.tr_steps.proofs.steps.Step.continue_all.Goals as goal

pub returns : goal.returns
returns c =
    let g = c.args.tgid in
    let w = c.args.self.now.work in
    let a = c.continue_threads.ensures in
    let b = c.end_stop_where.ensures in
    let end : Bool → Bool → Work → Work = λ ends tells. when ends (λ u. when tells (note g status.Continued) (regroup (only_group g ended_stop) u)) in
    let ends : c.is_some-ends.result ≡ is_some (stop_in_effect w.table g) = c.is_some-ends.ensures ∙ ap is_some c.stop_now.ensures in
    let tells : c.tells_starter-tells.result ≡ (is_complete (stop_of (group_of w.table g)) && not (has_traced w.table g)) = c.tells_starter-tells.ensures in
    record {
      work = b.work ∙ (ap (end c.is_some-ends.result c.tells_starter-tells.result) a.work ∙ ((λ i. end (ends i) (tells i) (alter (at_group g (continued_by (ends i))) w)) ∙ sym (ended_once g w)));
      room = omega (arith, a.room, b.room);
      groups = omega (arith, a.groups, b.groups);
      taken_from = b.taken_from ∙ a.taken_from;
    }
