use Rattle.std.proofs.Common.{◌≡◌, ◌/◌, ◌<◌, ◌∙◌, ◌∷◌, ℕ, ap, arith, rules}
use Rattle.tr_text.proofs.Hexadecimal.{all_long, all_written, none_left, one_written}
use Rattle.tr_text.proofs.buffers.TextBuffer.prepend_hexadecimal.Goals as goal

pub returns-then-left-eq0-clause-text : goal.returns-then-left-eq0-clause-text
returns-then-left-eq0-clause-text g c =
    let z : c.loop.left / 16 ≡ 0 = search rules in
    c.prepend.ensures.text ∙ (ap (λ (d : ℕ). d ∷ c.loop.self.text) c.digit.ensures ∙ all_written _ _ _ _ _ _ _ c.loop.invariant (omega (arith, c.loop-test.true)) z)

pub returns-then-left-eq0-clause-room : goal.returns-then-left-eq0-clause-room
returns-then-left-eq0-clause-room g c =
    let z : c.loop.left / 16 ≡ 0 = search rules in
    omega (arith, all_long _ _ _ _ _ _ _ c.loop.invariant (omega (arith, c.loop-test.true)) z, c.prepend.ensures.room, c.loop.invariant.written)

pub returns-then-left-eq0-clause-short : goal.returns-then-left-eq0-clause-short
returns-then-left-eq0-clause-short g c =
    let z : c.loop.left / 16 ≡ 0 = search rules in
    omega (arith, all_long _ _ _ _ _ _ _ c.loop.invariant (omega (arith, c.loop-test.true)) z, c.loop-test.true)

pub loop-preserved : goal.loop-preserved
loop-preserved g c =
    let some : 0 < c.loop.left / 16 = search rules in
    rw (c.prepend.ensures.text, c.digit.ensures) (one_written _ _ _ _ _ _ _ c.loop.invariant (omega (arith, c.loop-test.true)) c.prepend.new.self.room (omega (arith, c.prepend.ensures.room)) some)

pub returns-clause-text : goal.returns-clause-text
returns-clause-text g c = absurd (none_left _ _ _ _ _ _ _ c.loop.invariant (omega (arith, c.loop-test.false)))

pub returns-clause-room : goal.returns-clause-room
returns-clause-room g c = absurd (none_left _ _ _ _ _ _ _ c.loop.invariant (omega (arith, c.loop-test.false)))

pub returns-clause-short : goal.returns-clause-short
returns-clause-short g c = absurd (none_left _ _ _ _ _ _ _ c.loop.invariant (omega (arith, c.loop-test.false)))
