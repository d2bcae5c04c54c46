use Rattle.std.proofs.Common.{◌∙◌, ap, arith, length, subst, sym}
use Rattle.tr_model.specs.Entries.{Entry}
use Rattle.tr_model.specs.Moves.{Work}
use Rattle.tr_kernel.specs.Kept.{IsToldBy}
use Rattle.tr_kernel.specs.Private.{IsOfStop, fact_before, shown}
use Rattle.tr_kernel.proofs.Told.{reply_told, stop_told}
use Rattle.tr_kernel.proofs.Logs.{deaths_few, renames_few}
use Rattle.tr_kernel.proofs.entries.write_entry.Goals as goal

pub notice-noticed-requires-clause-dying : goal.notice-noticed-requires-clause-dying
notice-noticed-requires-clause-dying c =
    let few = deaths_few c.args.step.now.work.table (record { actor = c.args.actor; event = c.args.event.now; choice = c.args.choice }) in
    omega (arith, c.in_ok-make_room.ensures.note_room, few, c.deaths_at_once.ensures, ap (λ (w : Work). length w.dying) c.in_ok-reply.ensures.did.work, ap (λ T. length T.threads) c.table.ensures)

pub notice-noticed-requires-clause-one : goal.notice-noticed-requires-clause-one
notice-noticed-requires-clause-one c =
    rw c.in_ok-reply.ensures.did.work (renames_few c.args.step.now.work.table (record { actor = c.args.actor; event = c.args.event.now; choice = c.args.choice }))

pub push-requires-clause-told : goal.push-requires-clause-told
push-requires-clause-told c =
    let e : Entry = record { actor = c.args.actor; event = c.args.event.now; choice = c.args.choice } in
    subst (λ x. IsToldBy x c.in_ok-reply.reply) (sym c.new-entry.ensures) (subst (IsToldBy e) (sym c.in_ok-reply.ensures.did.reply) (reply_told c.args.step.now.work.table e))

pub push-requires-clause-stop : goal.push-requires-clause-stop
push-requires-clause-stop c =
    let T = c.args.step.now.work.table in
    let e : Entry = record { actor = c.args.actor; event = c.args.event.now; choice = c.args.choice } in
    let before = ap shown c.notice-noticed.ensures.before ∙ (c.fact_before-fact.ensures ∙ ap (λ X. fact_before X e.actor e.event e.choice) c.table-2.ensures) in
    subst (λ f. IsOfStop f c.in_ok-reply.reply) (sym before) (subst (IsOfStop (fact_before T e.actor e.event e.choice)) (sym c.in_ok-reply.ensures.did.reply) (stop_told T e))
