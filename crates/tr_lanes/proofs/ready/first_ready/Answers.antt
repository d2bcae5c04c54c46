use Rattle.std.proofs.Common.{ℕ, List, arith, ap, ◌∙◌}
use Rattle.std.specs.List.{position_or_len}
use Rattle.tr_lanes.specs.Scans.{ready_words, is_ready}
use Rattle.tr_lanes.proofs.Blocks.{stopped, passed_all, position_found, position_none, one_more}
use Rattle.tr_lanes.proofs.ReadyWords.{block-ready, rest-ready, length-ready, ready_yes, ready_no}
use Rattle.tr_lanes.proofs.ready.first_ready.Goals as goal

pub returns-then-k-lt8 : goal.returns-then-k-lt8
returns-then-k-lt8 c =
    let own : List ℕ = c.args.own.now in
    let blocked : List ℕ = c.args.blocked.now in
    let runnable : List ℕ = c.args.runnable.now in
    let long = length-ready own blocked c.args.shared runnable c.requires.as_many_blocked c.requires.as_many_runnable in
    let block = block-ready own blocked c.args.shared runnable c.requires.as_many_blocked c.requires.as_many_runnable c.as_chunks.result.0.now c.as_chunks-2.result.0.now c.as_chunks-3.result.0.now _ _ _ c.loop-c.c c.as_chunks.ensures.front c.as_chunks-2.ensures.front c.as_chunks-3.ensures.front (omega arith) in
    stopped is_ready (ready_words own blocked c.args.shared runnable) c.loop-c.c c.nonzero_in-k.result (omega arith)
    (c.nonzero_in-k.ensures ∙ ap (position_or_len is_ready) (c.ready_in-words.ensures ∙ block)) c.loop-c.invariant c.if-k-lt8.true

pub loop-c-preserved : goal.loop-c-preserved
loop-c-preserved c =
    let own : List ℕ = c.args.own.now in
    let blocked : List ℕ = c.args.blocked.now in
    let runnable : List ℕ = c.args.runnable.now in
    let long = length-ready own blocked c.args.shared runnable c.requires.as_many_blocked c.requires.as_many_runnable in
    let block = block-ready own blocked c.args.shared runnable c.requires.as_many_blocked c.requires.as_many_runnable c.as_chunks.result.0.now c.as_chunks-2.result.0.now c.as_chunks-3.result.0.now _ _ _ c.loop-c.c c.as_chunks.ensures.front c.as_chunks-2.ensures.front c.as_chunks-3.ensures.front (omega arith) in
    passed_all is_ready (ready_words own blocked c.args.shared runnable) c.loop-c.c c.nonzero_in-k.result (omega arith)
    (c.nonzero_in-k.ensures ∙ ap (position_or_len is_ready) (c.ready_in-words.ensures ∙ block)) c.loop-c.invariant c.if-k-lt8.false

pub returns-then-own_row-shared-ne0 : goal.returns-then-own_row-shared-ne0
returns-then-own_row-shared-ne0 c =
    let own : List ℕ = c.args.own.now in
    let blocked : List ℕ = c.args.blocked.now in
    let runnable : List ℕ = c.args.runnable.now in
    let long = length-ready own blocked c.args.shared runnable c.requires.as_many_blocked c.requires.as_many_runnable in
    let row = rest-ready own blocked c.args.shared runnable c.requires.as_many_blocked c.requires.as_many_runnable c.as_chunks.result.1.now c.as_chunks-2.result.1.now c.as_chunks-3.result.1.now c.loop-j.j c.as_chunks.ensures.back c.as_chunks-2.ensures.back c.as_chunks-3.ensures.back c.loop-j-test.true in
    position_found is_ready (ready_words own blocked c.args.shared runnable) _ (omega arith) c.loop-j.invariant (ready_yes _ _ row c.if-own_row-shared-ne0.true)

pub loop-j-preserved : goal.loop-j-preserved
loop-j-preserved c =
    let own : List ℕ = c.args.own.now in
    let blocked : List ℕ = c.args.blocked.now in
    let runnable : List ℕ = c.args.runnable.now in
    let row = rest-ready own blocked c.args.shared runnable c.requires.as_many_blocked c.requires.as_many_runnable c.as_chunks.result.1.now c.as_chunks-2.result.1.now c.as_chunks-3.result.1.now c.loop-j.j c.as_chunks.ensures.back c.as_chunks-2.ensures.back c.as_chunks-3.ensures.back c.loop-j-test.true in
    one_more is_ready (ready_words own blocked c.args.shared runnable) _ c.loop-j.j c.loop-j.invariant (ready_no _ _ row c.if-own_row-shared-ne0.false)

pub returns : goal.returns
returns c =
    let long = length-ready c.args.own.now c.args.blocked.now c.args.shared c.args.runnable.now c.requires.as_many_blocked c.requires.as_many_runnable in
    position_none is_ready (ready_words c.args.own.now c.args.blocked.now c.args.shared c.args.runnable.now) (λ k h. c.loop-j.invariant k (omega arith))
