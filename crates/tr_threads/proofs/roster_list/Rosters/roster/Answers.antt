use Rattle.std.proofs.Common.{◌∙◌}
use Rattle.tr_threads.proofs.RosterLists.{is_absent, is_found}
use Rattle.tr_threads.proofs.roster_list.Rosters.roster.Goals as goal

pub returns-in_err-place : goal.returns-in_err-place
returns-in_err-place c = rw c.from_residual.ensures (is_absent c.args.tgid c.self.inside.index c.self.inside.list.items c.args.self.now c.place_near.result c.self.invariant c.self.view_is c.place_near.ensures.at c.in_err-place.was)

pub returns : goal.returns
returns c = c.index.ensures ∙ is_found c.args.tgid c.self.inside.index c.self.inside.list.items c.args.self.now c.place_near.result c.self.invariant c.self.view_is c.place_near.ensures.at c.in_ok-place.place c.index.result.now c.in_ok-place.was
