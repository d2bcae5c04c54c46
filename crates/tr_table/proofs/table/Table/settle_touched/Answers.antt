use Rattle.std.proofs.Common.{subst, sym}
use Rattle.std.proofs.lemmas.Bool.{or_parts}
use Rattle.tr_table.specs.Settled.{NoneBut, is_listed}
use Rattle.tr_table.specs.declared.unsettled.Unsettled.{Unsettled}
use Rattle.tr_table.specs.declared.unsettled.Unsettled.TheVariants.{In}
use Rattle.tr_table.proofs.Telling.{relisted, settled_in}
use Rattle.tr_table.proofs.table.Table.settle_touched.Goals as goal

pub invariant_of-self : goal.invariant_of-self
invariant_of-self c =
    let g = c.in-In.tgid in
    let ts = c.self.inside.threads in
    let xs = c.self.inside.groups in
    let before = is_listed xs c.self.inside.telling.numbers in
    let after = is_listed xs c.relist_group.new.places.numbers in
    let others : NoneBut (In g) ts xs before = subst (λ (u : Unsettled). NoneBut u ts xs before) c.in-In.is c.self.invariant.settled in
    let own = or_parts _ _ (c.relist_group.ensures.own c.if-relist_group.true) in
    record {
      roster = c.self.invariant.roster;
      few = c.self.invariant.few;
      ordered = c.self.invariant.ordered;
      settled = settled_in g ts xs before after c.relist_group.ensures.others others own.0 own.1;
    }

pub invariant_of-self-else-relist_group : goal.invariant_of-self-else-relist_group
invariant_of-self-else-relist_group c =
    let g = c.in-In.tgid in
    let ts = c.self.inside.threads in
    let xs = c.self.inside.groups in
    let before = is_listed xs c.self.inside.telling.numbers in
    let after = is_listed xs c.relist_group.new.places.numbers in
    let others : NoneBut (In g) ts xs before = subst (λ (u : Unsettled). NoneBut u ts xs before) c.in-In.is c.self.invariant.settled in
    record {
      roster = c.self.invariant.roster;
      few = c.self.invariant.few;
      ordered = c.self.invariant.ordered;
      settled = subst (λ (u : Unsettled). NoneBut u ts xs after) (sym c.in-In.is) (relisted g ts xs before after c.relist_group.ensures.others others);
    }
