use Rattle.std.proofs.Common.{◌≡◌, ◌∙◌, ap, arith, length, sym, subst}
use Rattle.tr_model.specs.Preferred.{new_id}
use Rattle.tr_model.specs.Tables.{Table}
use Rattle.tr_model.proofs.FreeIds.{new_id_is_new}
use Rattle.tr_table.specs.Changes.{ids_table}
use Rattle.tr_queues.specs.Slots.{standing}
use Rattle.tr_table.specs.View.{View}
use Rattle.tr_table.proofs.FreeIds.{same_new_id}
use Rattle.tr_table.proofs.table.Table.free_id.Goals as goal

pub returns-clause-free : goal.returns-clause-free
returns-clause-free c =
    let i = c.self.inside in
    let T : Table = record { threads = i.threads; groups = i.groups; waiting = standing i.pending.slots.items; accepted = i.accepted; raised = i.raised; limit = i.limit; entries = i.entries } in
    let a = c.free_in.ensures in
    let b : c.free_in.result ≡ new_id (ids_table i.threads i.groups) c.args.above = a in
    let d : c.free_in.result ≡ new_id T c.args.above = b ∙ same_new_id T c.args.above in
    subst (λ (v : View). c.free_in.result ≡ new_id v.table c.args.above) c.self.view_is d

pub returns-clause-new : goal.returns-clause-new
returns-clause-new c h =
    let i = c.self.inside in
    let few = c.self.invariant.few in
    let k : length c.args.self.now.table.groups ≡ length i.groups = sym (ap (λ (v : View). length v.table.groups) c.self.view_is) in
    rw (returns-clause-free c) (new_id_is_new c.args.self.now.table c.args.above (omega (arith, h, few, k)))
