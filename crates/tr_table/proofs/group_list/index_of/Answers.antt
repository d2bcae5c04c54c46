use Rattle.std.proofs.Common.{◌≡◌, ◌==◌, ◌∙◌, ℕ, take, get_or, arith, ap}
use Rattle.std.specs.List.{list_any}
use Rattle.tr_model.specs.declared.rows.Group.{Group}
use Rattle.tr_table.specs.Private.{tgids_of}
use Rattle.tr_table.proofs.GroupLists.{new_id_at}
use Rattle.tr_table.proofs.group_list.index_of.Goals as goal

pub push-requires : goal.push-requires
push-requires c =
    let gs = c.args.groups.now in
    let i = c.loop-group.group-index in
    let x = c.group-item.result in
    let k : x.tgid ≡ (get_or gs i x).tgid = ap (λ (y : Group). y.tgid) c.group-item.is in
    rw c.loop-group.invariant (ap (λ (m : ℕ). list_any (λ (n : ℕ). n == m) (tgids_of (take i gs))) k ∙ new_id_at gs i x (omega (arith, c.loop-group-test.true)) c.requires)
