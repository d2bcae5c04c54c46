use Rattle.std.proofs.Common.{◌∙◌, arith, sym}
use Rattle.tr_signals.proofs.Taking.{hold_is}
use Rattle.tr_signals.proofs.takes.take_instance.Goals as goal

pub returns-then-is_traced : goal.returns-then-is_traced
returns-then-is_traced c =
    let t = sym c.is_traced.ensures ∙ c.if-is_traced.true in
    let h = hold_is c.args.step.now.work c.args.thread.now c.args.instance.now c.requires.takes in
    let k = c.hold.ensures in
    record {
      work = rw (t, h) k.work;
      room = (let x = k.room in omega arith);
      groups = k.groups;
      taken_from = k.taken_from;
    }
