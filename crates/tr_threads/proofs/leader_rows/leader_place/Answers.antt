use Rattle.std.proofs.Common.{◌∙◌, sym}
use Rattle.tr_threads.proofs.Leaders.{dead_leader, live_leader, no_leader, place_there}
use Rattle.tr_threads.proofs.leader_rows.leader_place.Goals as goal

pub is_dead_at-requires : goal.is_dead_at-requires
is_dead_at-requires c = (place_there c.args.thread.now c.args.list.now c.args.index.now c.place.result c.requires c.place.ensures.at c.place.ensures.once c.in-Some.place c.in-Some.is).0

pub returns-then-is_dead_at : goal.returns-then-is_dead_at
returns-then-is_dead_at c =
    let t = c.args.thread.now in
    dead_leader t c.args.list.now c.args.index.now c.place.result c.requires c.place.ensures.at c.place.ensures.once c.in-Some.place t c.in-Some.is (sym (c.is_dead_at.ensures t) ∙ c.if-is_dead_at.true)

pub returns-else-is_dead_at : goal.returns-else-is_dead_at
returns-else-is_dead_at c =
    let t = c.args.thread.now in
    live_leader t c.args.list.now c.args.index.now c.place.result c.requires c.place.ensures.at c.place.ensures.once c.in-Some.place t c.in-Some.is (sym (c.is_dead_at.ensures t) ∙ c.if-is_dead_at.false)

pub returns-in-None : goal.returns-in-None
returns-in-None c = no_leader c.args.thread.now c.args.list.now c.args.index.now c.place.result c.requires c.place.ensures.at c.place.ensures.once c.in-None.is
