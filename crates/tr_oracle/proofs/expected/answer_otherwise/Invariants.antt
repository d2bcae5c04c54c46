use Rattle.std.proofs.Common.{◌≡◌, drop}
use Rattle.tr_kernel.specs.Heard.{call_of}
use Rattle.tr_oracle.proofs.Expecting.{AllTried}
use Rattle.tr_oracle.proofs.expected.answer_otherwise.Given as goal

abbrev pub invariant-loop-reply : goal.invariant-loop-reply
invariant-loop-reply g l =
    let f = g.X.Expectation.fits l.expected in
    let c = call_of l.actor l.event in
    (l.kernel ≡ l.fn.kernel) × (AllTried l.fn.kernel c f (drop l.reply-index l.reply-items) → AllTried l.fn.kernel c f l.reply-items)
