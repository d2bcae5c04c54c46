use Rattle.std.proofs.Common.{◌≡◌, ap, subst, sym}
use Rattle.tr_table.specs.View.{View}
use Rattle.tr_table.proofs.Rosters.{roster_filter}
use Rattle.tr_threads.proofs.ThreadLists.{left, none_goes}
use Rattle.tr_table.proofs.Unsettling.{members_living, moved_members}
use Rattle.tr_table.proofs.table.Table.remove_dead.Goals as goal

pub invariant_of-self : goal.invariant_of-self
invariant_of-self c =
    let id = c.args.id in
    let t = c.in-Some.thread.now in
    let ts = c.self.inside.threads in
    let xs = c.self.inside.groups in
    rw (c.remove_dead.ensures, c.touch.ensures) (record {
      roster = roster_filter _ ts c.self.invariant.roster;
      few = c.self.invariant.few;
      ordered = c.self.invariant.ordered;
      settled = moved_members _ t.group c.self.inside.unsettled ts _ xs (λ n ne. members_living id n t ne ts (c.self.invariant.roster.distinct id) (sym c.in-Some.ensures)) c.self.invariant.settled;
    })

pub returns-in_default : goal.returns-in_default
returns-in_default c =
    let same : left c.args.id c.args.self.now.table.threads ≡ c.args.self.now.table.threads = subst (λ (v : View). left c.args.id v.table.threads ≡ v.table.threads) c.self.view_is (none_goes c.args.id c.self.inside.threads (sym c.in_default.ensures)) in
    ap (λ ts. record c.args.self.now { table = record c.args.self.now.table { threads = ts } }) (sym same)
