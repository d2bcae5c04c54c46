use Rattle.std.proofs.Common.{◌+◌, ◌≡◌, ◌∙◌, ap, drop, get_or, sym}
use Rattle.tr_starts.specs.declared.starts.GroupStart.{GroupStart}
use Rattle.tr_picture.specs.Drawn.{Drawn, with_group, with_groups, with_threads}
use Rattle.tr_figures.proofs.Pushed.{first_left}
use Rattle.tr_picture.proofs.canvas.Canvas.add_groups.Goals as goal

pub loop-group-preserved : goal.loop-group-preserved
loop-group-preserved c =
    let groups = c.args.groups.now in
    let i = c.loop-group.group-index in
    let d = c.loop-group.self in
    let g = c.group-item.result in
    let is : get_or groups i g ≡ g = sym c.group-item.is in
    let added : c.add_group.new.self ≡ with_group d g.tgid g.name = c.in_ok-add_group.ensures ∙ ap (λ n. with_group d g.tgid n) c.as_slice.ensures in
    ap (λ (s : Drawn). with_groups s (drop (i + 1) groups)) (c.in_ok-add_threads.ensures ∙ (λ j. with_threads (added j) (c.as_slice-in-loop-group.ensures j)))
    ∙ ap (λ (x : GroupStart). with_groups (with_threads (with_group d x.tgid x.name) x.threads) (drop (i + 1) groups)) (sym is)
    ∙ ap (λ gs. with_groups d gs) (sym (first_left groups i g c.loop-group-test.true))
    ∙ c.loop-group.invariant
