use Rattle.std.proofs.Common.{ap, ◌∙◌}
use Rattle.tr_pending.specs.Waiting.{first_of, best_of}
use Rattle.tr_pending.proofs.Best.{first_ready, none_ready}
use Rattle.tr_pending.proofs.queue.Queue.best.Goals as goal

pub returns-in-Some : goal.returns-in-Some
returns-in-Some c =
    c.first_in.ensures
    ∙ ap (first_of c.in-Some.signal) c.deref.ensures.value
    ∙ first_ready c.args.blocked c.self.inside.mask c.minus.result c.self.inside.items.items c.self.invariant c.minus.ensures c.in-Some.signal c.in-Some.ensures.member c.in-Some.ensures.least
    ∙ ap (λ v. best_of c.args.blocked v.waiting) c.self.view_is

pub returns-in-None : goal.returns-in-None
returns-in-None c =
    none_ready c.args.blocked c.self.inside.mask c.minus.result c.self.inside.items.items c.self.invariant c.minus.ensures c.in-None.ensures.none
    ∙ ap (λ v. best_of c.args.blocked v.waiting) c.self.view_is
