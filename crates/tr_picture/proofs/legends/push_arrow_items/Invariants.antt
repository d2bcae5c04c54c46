use Rattle.std.proofs.Common.{◌≡◌, ◌+◌, ◌*◌, ◌++◌, drop, map}
use Rattle.tr_figures.specs.Elements.{printed}
use Rattle.tr_picture.specs.Legends.{arrow_items}
use Rattle.tr_picture.proofs.legends.push_arrow_items.Given as goal

abbrev pub invariant-loop-meaning : goal.invariant-loop-meaning
invariant-loop-meaning l = record {
  text : l.page ++ printed (arrow_items l.x l.y (map (λ m. (m.style, m.words.now)) (drop l.meaning-index l.meanings))) ≡ l.fn.page ++ printed (arrow_items l.x l.top (map (λ m. (m.style, m.words.now)) l.meanings));
  y : l.y ≡ l.top + 22 * l.meaning-index;
}
