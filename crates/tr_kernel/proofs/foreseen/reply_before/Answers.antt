use Rattle.std.proofs.Common.{◌≡◌, ◌∙◌, ap, subst, sym}
use Rattle.tr_model.specs.declared.events.Event.{Event}
use Rattle.tr_model.specs.Foreseen.{reply_before}
use Rattle.tr_kernel.specs.Private.{reply_without_send}
use Rattle.tr_kernel.proofs.Heard.{without_send}
use Rattle.tr_kernel.proofs.foreseen.reply_before.Goals as goal

pub returns-in-Tgkill : goal.returns-in-Tgkill
returns-in-Tgkill c =
    subst (λ (e : Event). c.sent_to-in-Tgkill.result ≡ reply_before c.args.step.now.work.table c.args.actor e c.args.choice) (sym c.in-Tgkill.is) c.sent_to-in-Tgkill.ensures

pub returns-in_default : goal.returns-in_default
returns-in_default c =
    let d = c.in_default in
    c.reply_without_send.ensures
    ∙ (ap (λ U. reply_without_send U c.args.actor c.args.event.now c.args.choice) c.table-in_default.ensures
    ∙ without_send c.args.step.now.work.table c.args.actor c.args.event.now c.args.choice d.not-Kill d.not-Tgkill d.not-Sigqueue d.not-Attach)
