use Rattle.std.proofs.Common.{◌≡◌, ◌+◌, ◌<◌, ◌++◌, ◌∷◌, [], ℕ, List, arith, get_or, length, length-take, take}
use Rattle.std.proofs.lemmas.List.{take_more}
use Rattle.tr_model.specs.declared.rows.Waiting.{Waiting}
use Rattle.tr_queues.specs.Slots.{standing}
use Rattle.tr_table.proofs.RowWords.{own_last, own_length}
use Rattle.tr_table.proofs.rows.waiting_words.Goals as goal

pub push-requires : goal.push-requires
push-requires c =
    let ws : List Waiting = standing c.args.pending.now.slots.items in
    let ids : List ℕ = c.args.ids.now in
    let i : ℕ = c.loop-id.id-index in
    let room : length c.loop-id.words.items < 64 = omega (arith, own_length ws (take i ids) c.loop-id.words.items c.loop-id.invariant, length-take i ids, c.loop-id-test.true, c.requires.few) in
    (omega arith, room)

pub loop-id-preserved : goal.loop-id-preserved
loop-id-preserved c =
    let ws : List Waiting = standing c.args.pending.now.slots.items in
    let ids : List ℕ = c.args.ids.now in
    let i : ℕ = c.loop-id.id-index in
    let more : take (i + 1) ids ≡ take i ids ++ get_or ids i 0 ∷ [] = take_more ids i 0 (omega (arith, c.loop-id-test.true)) in
    rw (c.push.ensures.items, more) (own_last ws (take i ids) c.loop-id.words.items (get_or ids i 0) c.waiting_word.result c.loop-id.invariant c.waiting_word.ensures)
