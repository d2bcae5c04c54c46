use Rattle.std.proofs.Common.{length}
use Rattle.tr_workers.specs.Follows.{heard}
use Rattle.tr_scenario.specs.RunTexts.{call_of}
use Rattle.tr_picture.proofs.Pictured.{called_is}
use Rattle.tr_picture.proofs.canvas.Canvas.push_call.Goals as goal

pub returns : goal.returns
returns c =
    called_is c.args.self.now _ _ _ c.args.line.now (length c.args.kernel.now.journal) _ c.args.done.now c.args.before.now c.args.kernel.now.table (call_of c.args.actor c.args.event.now) (heard c.args.answer.now)
    c.in_ok-hear.ensures c.in_ok-show.ensures c.self.view_is c.in_ok-self-inside.ensures
