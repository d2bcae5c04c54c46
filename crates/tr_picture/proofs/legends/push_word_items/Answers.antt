use Rattle.std.proofs.Common.{◌+◌, ◌∙◌, ◌++◌, [], ap, append-nil, arith, drop, drop_of_length-le, get_or, map, sym}
use Rattle.tr_picture.specs.declared.legends.Meaning.{Meaning}
use Rattle.tr_figures.specs.declared.styles.Style.TheVariants.{Running}
use Rattle.tr_figures.specs.Elements.{printed}
use Rattle.tr_picture.specs.Legends.{word_item, word_items}
use Rattle.tr_figures.proofs.Pushed.{first_left, next_pushed}
use Rattle.tr_picture.proofs.legends.push_word_items.Goals as goal

pub loop-meaning-preserved : goal.loop-meaning-preserved
loop-meaning-preserved c =
    let ms = c.word_meanings-meanings.result.now in
    let i = c.loop-meaning.meaning-index in
    let x = c.args.x in
    let y = c.loop-meaning.y in
    let d : Meaning = record { style = Running; words = record { ref_ptr = (0, 0); now = [] } } in
    let m = get_or ms i d in
    record {
      text = next_pushed _ _ _ (word_items x y (map (λ m. (m.style, m.words.now)) (drop i ms))) (word_item x y (m.style, m.words.now)) (word_items x (y + 22) (map (λ m. (m.style, m.words.now)) (drop (i + 1) ms))) (ap (λ l. word_items x y (map (λ m. (m.style, m.words.now)) l)) (first_left ms i d c.loop-meaning-test.true)) c.loop-meaning.invariant.text c.in_ok-push_word_item.ensures;
      y = omega (arith, c.loop-meaning.invariant.y);
    }

pub returns : goal.returns
returns c =
    let ms = c.word_meanings-meanings.result.now in
    let page = c.loop-meaning.page in
    sym (append-nil page)
    ∙ ap (λ l. page ++ printed (word_items c.args.x c.loop-meaning.y (map (λ m. (m.style, m.words.now)) l))) (sym (drop_of_length-le ms c.loop-meaning-test.false))
    ∙ c.loop-meaning.invariant.text
    ∙ ap (λ l. c.args.page.now ++ printed (word_items c.args.x c.args.top l)) c.word_meanings-meanings.ensures
