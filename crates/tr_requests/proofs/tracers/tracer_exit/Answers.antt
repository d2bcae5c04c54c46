use Rattle.std.proofs.Common.{◌≡◌, ◌∙◌, ap, filter, refl}
use Rattle.tr_model.specs.GroupStops.{complete_group_stops}
use Rattle.tr_model.specs.Moves.{at, each}
use Rattle.tr_model.specs.Tracers.{exit_kill, lose_tracer, to_kill, tracees}
use Rattle.tr_model.specs.Tables.{ids_of}
use Rattle.tr_requests.specs.Private.{is_to_kill}
use Rattle.tr_requests.proofs.Leaving.{killed_of_tracees}
use Rattle.tr_requests.proofs.tracers.tracer_exit.Goals as goal

pub returns-clause-did : goal.returns-clause-did
returns-clause-did c =
    let T = c.args.step.now.work.table in
    let a = c.args.actor in
    let x : c.deref.result.now ≡ ids_of (to_kill T a) = c.deref.ensures.value ∙ (c.in_ok-killed.ensures ∙ (ap (λ U. ids_of (filter (is_to_kill a) U.threads)) c.table.ensures ∙ ap ids_of (killed_of_tracees a T.threads))) in
    let y : c.deref-2.result.now ≡ ids_of (tracees T a) = c.deref-2.ensures.value ∙ (c.in_ok-left.ensures ∙ ap (λ U. ids_of (tracees U a)) c.table-2.ensures) in
    let killed = c.kill_each.ensures.work ∙ ap (each c.deref.result.now (λ id. at id exit_kill)) c.in_ok-begin.ensures.work in
    let left = c.leave_each.ensures.work ∙ ap (each c.deref-2.result.now (λ id. at id (lose_tracer a))) killed in
    let done = c.complete_group_stops.ensures.work ∙ ap complete_group_stops left in
    record {
      reply = refl;
      work = (rw (x, y) at done);
      taken_from = c.complete_group_stops.ensures.taken_from ∙ c.leave_each.ensures.taken_from ∙ c.kill_each.ensures.taken_from ∙ c.in_ok-begin.ensures.taken_from;
    }
