use Rattle.std.proofs.Common.{◌≡◌, ◌∙◌, IsTrue, ap, subst, sym}
use Rattle.std.specs.Prelude.{◌↔◌}
use Rattle.tr_model.specs.declared.events.Event.{Event}
use Rattle.tr_model.specs.declared.replies.Reply.{Reply}
use Rattle.tr_model.specs.Foreseen.{reply_before}
use Rattle.tr_kernel.specs.Private.{reply_without_send}
use Rattle.tr_kernel.proofs.Heard.{without_send}
use Rattle.tr_kernel.proofs.hearing.is_reply_of_step.Goals as goal

pub returns-in-Tgkill : goal.returns-in-Tgkill
returns-in-Tgkill c =
    subst (λ (e : Event). IsTrue c.is_sent_to-in-Tgkill.result ↔ (reply_before c.args.step.now.work.table c.args.actor e c.args.choice ≡ c.args.told.now)) (sym c.in-Tgkill.is) c.is_sent_to-in-Tgkill.ensures

pub returns-in_default : goal.returns-in_default
returns-in_default c =
    let T = c.args.step.now.work.table in
    let d = c.in_default in
    let same = without_send T c.args.actor c.args.event.now c.args.choice d.not-Kill d.not-Tgkill d.not-Sigqueue d.not-Attach in
    let told = c.reply_without_send.ensures ∙ (ap (λ U. reply_without_send U c.args.actor c.args.event.now c.args.choice) c.table.ensures ∙ same) in
    subst (λ (r : Reply). IsTrue c.same.result ↔ (r ≡ c.args.told.now)) told c.same.ensures
