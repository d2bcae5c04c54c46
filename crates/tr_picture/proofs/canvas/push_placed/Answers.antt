use Rattle.std.proofs.Common.{◌+◌, ◌*◌, codes}
use Rattle.tr_status.specs.Texts.{texts}
use Rattle.tr_figures.specs.Elements.{Open, token_pieces}
use Rattle.tr_picture.specs.Rows.{moved_down}
use Rattle.tr_picture.proofs.Pushed.{three_parts}
use Rattle.tr_picture.proofs.canvas.push_placed.Goals as goal

pub returns : goal.returns
returns c =
    three_parts _ _ _ _ (texts (token_pieces (Open (codes "g") (moved_down (136 + 44 * c.args.rows))))) c.args.inside.now (codes "</g>\n")
    c.in_ok-push_group_start.ensures c.in_ok-push.ensures.ok c.in_ok-push-2.ensures.ok
