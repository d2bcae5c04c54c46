use Rattle.std.proofs.Common.{◌≡◌, ◌<◌, ap, ◌∙◌, arith, length, get_or}
use Rattle.tr_model.specs.GroupStops.{complete_group_stop}
use Rattle.tr_table.specs.Changes.{tgids}
use Rattle.tr_steps.proofs.Groups.{each_more, settle_group_tgids}
use Rattle.tr_steps.proofs.steps.Step.complete_each_group_stop.Goals as goal

pub loop-i-preserved : goal.loop-i-preserved
loop-i-preserved c =
    let w = c.args.self.now.work in
    let i = c.loop-i.i in
    let v = c.loop-i.invariant in
    let s = c.complete_group_stop.ensures in
    let h : i < length (tgids w.table) = let x = v.3 in omega arith in
    let e : c.tgid_at-tgid.result ≡ get_or (tgids w.table) i 0 = c.tgid_at-tgid.ensures ∙ ap (λ T. get_or (tgids T) i 0) c.table-in-loop-i.ensures ∙ ap (λ xs. get_or xs i 0) v.1 in
    let b = s.work ∙ ap (complete_group_stop c.tgid_at-tgid.result) v.0 in (
      (let d = (rw e at b) in rw (each_more (tgids w.table) i complete_group_stop w h) d),
      ap (λ (x : _). tgids x.table) s.work ∙ settle_group_tgids c.tgid_at-tgid.result c.loop-i.self.work ∙ v.1,
      (let x = s.room in let y = v.2 in omega arith),
      v.3,
      s.taken_from ∙ v.4,
    )
