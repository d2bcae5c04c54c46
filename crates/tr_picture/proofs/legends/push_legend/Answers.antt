use Rattle.tr_picture.specs.Legends.{arrow_items, arrow_meanings, block_items, block_meanings, word_items, word_meanings}
use Rattle.tr_picture.proofs.Pushed.{pushed_three}
use Rattle.tr_picture.proofs.legends.push_legend.Goals as goal

pub returns : goal.returns
returns c =
    pushed_three _ _ _ _ (block_items 16 c.args.y block_meanings) (arrow_items 260 c.args.y arrow_meanings) (word_items 500 c.args.y word_meanings)
    c.in_ok-push_block_items.ensures c.in_ok-push_arrow_items.ensures c.in_ok-push_word_items.ensures
