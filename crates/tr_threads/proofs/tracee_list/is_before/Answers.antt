use Rattle.std.proofs.Common.{◌∙◌, ap, sym}
use Rattle.tr_threads.proofs.Traced.{comes_before, place_before}
use Rattle.tr_threads.proofs.tracee_list.is_before.Goals as goal

pub returns-in-Some : goal.returns-in-Some
returns-in-Some c = ap (comes_before c.args.place) (sym c.in-Some.is) ∙ place_before c.args.id c.args.place c.args.index.now c.place.result c.place.ensures.at

pub returns-in-None : goal.returns-in-None
returns-in-None c = ap (comes_before c.args.place) (sym c.in-None.is) ∙ place_before c.args.id c.args.place c.args.index.now c.place.result c.place.ensures.at
