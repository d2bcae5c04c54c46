use Rattle.std.proofs.Common.{ℕ, List, ◌≡◌, length, arith, ◌∙◌, sym}
use Rattle.tr_lanes.specs.Scans.{ready_words}
use Rattle.tr_lanes.proofs.ReadyWords.{block-ready, rest-ready, length-ready, stored_block, stored_row, take_whole}
use Rattle.tr_lanes.proofs.ready.ready_rows.Goals as goal

pub loop-c-preserved : goal.loop-c-preserved
loop-c-preserved c =
    let own : List ℕ = c.args.own.now in
    let blocked : List ℕ = c.args.blocked.now in
    let runnable : List ℕ = c.args.runnable.now in
    let long = length-ready own blocked c.args.shared runnable c.requires.as_many_blocked c.requires.as_many_runnable in
    let same : length c.loop-c.out ≡ length own = omega arith in
    let block = block-ready own blocked c.args.shared runnable c.requires.as_many_blocked c.requires.as_many_runnable c.as_chunks.result.0.now c.as_chunks-2.result.0.now c.as_chunks-3.result.0.now _ _ _ c.loop-c.c c.as_chunks.ensures.front c.as_chunks-2.ensures.front c.as_chunks-3.ensures.front (omega arith) in
    stored_block c.loop-c.out (ready_words own blocked c.args.shared runnable) c.ready_in-words.result c.loop-c.c (omega arith) (omega arith) (c.ready_in-words.ensures ∙ block) c.loop-c.invariant

pub loop-j-preserved : goal.loop-j-preserved
loop-j-preserved c =
    let own : List ℕ = c.args.own.now in
    let blocked : List ℕ = c.args.blocked.now in
    let runnable : List ℕ = c.args.runnable.now in
    let long = length-ready own blocked c.args.shared runnable c.requires.as_many_blocked c.requires.as_many_runnable in
    let same : length c.loop-j.out ≡ length own = omega arith in
    let row = rest-ready own blocked c.args.shared runnable c.requires.as_many_blocked c.requires.as_many_runnable c.as_chunks.result.1.now c.as_chunks-2.result.1.now c.as_chunks-3.result.1.now c.loop-j.j c.as_chunks.ensures.back c.as_chunks-2.ensures.back c.as_chunks-3.ensures.back c.loop-j-test.true in
    stored_row c.loop-j.out (ready_words own blocked c.args.shared runnable) _ _ c.loop-j.j (omega arith) (omega arith) (sym row) c.loop-j.invariant

pub returns : goal.returns
returns c =
    let long = length-ready c.args.own.now c.args.blocked.now c.args.shared c.args.runnable.now c.requires.as_many_blocked c.requires.as_many_runnable in
    let same : length c.loop-j.out ≡ length c.args.own.now = omega arith in
    take_whole c.loop-j.out (ready_words c.args.own.now c.args.blocked.now c.args.shared c.args.runnable.now) _ (omega arith) (omega arith) c.loop-j.invariant
