use Rattle.std.proofs.Common.{List, subst}
use Rattle.tr_tracee.specs.declared.thread.Thread.{Thread}
use Rattle.tr_threads.specs.Kept.{IsPlace}
use Rattle.tr_threads.proofs.Places.{is_place}
use Rattle.tr_threads.proofs.threads.Threads.place_near.Goals as goal

pub returns : goal.returns
returns c = subst (λ (ts : List Thread). IsPlace c.args.id ts c.place_near.result) c.self.view_is (is_place c.args.id c.self.inside.list.items c.self.inside.index c.place_near.result c.self.invariant.rostered.indexed c.place_near.ensures.at)
