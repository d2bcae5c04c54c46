use Rattle.std.proofs.Common.{◌≡◌, ap, subst, sym}
use Rattle.tr_model.specs.Moves.{dropped}
use Rattle.tr_table.specs.View.{View}
use Rattle.tr_table.proofs.Rosters.{roster_dropped}
use Rattle.tr_table.proofs.Unsettling.{members_dropped, moved_members, none_dropped}
use Rattle.tr_table.proofs.table.Table.remove.Goals as goal

pub invariant_of-self : goal.invariant_of-self
invariant_of-self c =
    let id = c.args.id in
    let t = c.in-Some.thread.now in
    let ts = c.self.inside.threads in
    let xs = c.self.inside.groups in
    rw (c.remove.ensures, c.touch.ensures) (record {
      roster = roster_dropped id ts c.self.invariant.roster;
      few = c.self.invariant.few;
      ordered = c.self.invariant.ordered;
      settled = moved_members _ t.group c.self.inside.unsettled ts _ xs (λ n ne. members_dropped id n t ne ts (sym c.in-Some.ensures)) c.self.invariant.settled;
    })

pub returns-in_default-clause-table : goal.returns-in_default-clause-table
returns-in_default-clause-table c =
    let same : dropped c.args.id c.args.self.now.table.threads ≡ c.args.self.now.table.threads = subst (λ (v : View). dropped c.args.id v.table.threads ≡ v.table.threads) c.self.view_is (none_dropped c.args.id c.self.inside.threads (sym c.in_default.ensures)) in
    ap (λ ts. record c.args.self.now { table = record c.args.self.now.table { threads = ts } }) (sym same)
