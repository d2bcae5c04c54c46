use Rattle.std.proofs.Common.{◌≡◌, ◌==◌, ◌∙◌, ap, arith, sym, false, true}
use Rattle.tr_model.specs.Sends.{send_other}
use Rattle.tr_model.specs.Tables.{owner}
use Rattle.tr_steps.proofs.steps.Step.send.Goals as goal

pub returns-then-eq : goal.returns-then-eq
returns-then-eq c =
    let t : (c.args.signal == 9) ≡ true = sym c.if-eq.ensures in
    let e : c.owner-tgid.result ≡ owner c.args.self.now.work.table c.args.target = c.owner-tgid.ensures ∙ ap (λ T. owner T c.args.target) c.table.ensures in
    let a = c.send_kill.ensures in
    let w = a.work in
    record { work = rw t (rw e at w); room = a.room; groups = a.groups; taken_from = a.taken_from }

pub returns-in-Thread : goal.returns-in-Thread
returns-in-Thread c =
    let f : (c.args.signal == 9) ≡ false = sym c.if-eq.ensures in
    let a = c.send_other-in-Thread.ensures in
    let target = ap (λ q. send_other c.args.signal c.args.info.now q c.args.self.now.work) (sym c.in-Thread.is) in
    record { work = rw f (a.work ∙ target); room = omega (arith, a.room); groups = a.groups; taken_from = a.taken_from }
