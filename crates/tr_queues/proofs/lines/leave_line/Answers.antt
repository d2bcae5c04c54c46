use Rattle.std.proofs.Common.{◌≡◌, ◌∙◌, Some, ap, if◌then◌else◌, is_some, rules, subst, sym}
use Rattle.tr_queues.proofs.Keys.{by_key, key_self}
use Rattle.tr_queues.proofs.Written.{line_written, stays_if}
use Rattle.tr_queues.specs.contracts.lines.LineKeyPartialEq.TheImpl as key_test
use Rattle.tr_queues.specs.Lines.{StandsAt, line_at, unless_empty}
use Rattle.tr_queues.proofs.lines.leave_line.Goals as goal

pub returns-clause-others : goal.returns-clause-others
returns-clause-others c = λ q s e.
    let left = unless_empty (Some c.left_of-left.result) in
    let at : StandsAt key_test.ghosts.eq c.args.lines.now c.in-Some.place c.key_of-key.result = subst (λ eq. StandsAt eq c.args.lines.now c.in-Some.place c.key_of-key.result) (sym by_key) (search rules) in
    line_written c.args.lines.now c.rewrite.new.map c.args.waiting.now c.key_of-key.result c.left_of-left.result c.key_of-key.ensures (λ k. c.rewrite.ensures.get c.key_of-key.result k at) q s
    ∙ ap (λ b. if b then left else line_at c.args.lines.now q s) e

pub returns-clause-own : goal.returns-clause-own
returns-clause-own c = λ q s before e sorted h.
    let w = c.args.waiting.now in
    let left = unless_empty (Some c.left_of-left.result) in
    let at : StandsAt key_test.ghosts.eq c.args.lines.now c.in-Some.place c.key_of-key.result = subst (λ eq. StandsAt eq c.args.lines.now c.in-Some.place c.key_of-key.result) (sym by_key) (search rules) in
    let found : Some c.in-Some.line ≡ line_at c.args.lines.now w.target w.instance.sig = search rules in
    line_written c.args.lines.now c.rewrite.new.map w c.key_of-key.result c.left_of-left.result c.key_of-key.ensures (λ k. c.rewrite.ensures.get c.key_of-key.result k at) q s
    ∙ (ap (λ b. if b then left else line_at c.args.lines.now q s) e ∙ c.left_of-left.ensures before sorted (found ∙ h))

pub returns-clause-answer : goal.returns-clause-answer
returns-clause-answer c =
    let w = c.args.waiting.now in
    let left = unless_empty (Some c.left_of-left.result) in
    let at : StandsAt key_test.ghosts.eq c.args.lines.now c.in-Some.place c.key_of-key.result = subst (λ eq. StandsAt eq c.args.lines.now c.in-Some.place c.key_of-key.result) (sym by_key) (search rules) in
    let wrote = line_written c.args.lines.now c.rewrite.new.map w c.key_of-key.result c.left_of-left.result c.key_of-key.ensures (λ k. c.rewrite.ensures.get c.key_of-key.result k at) w.target w.instance.sig in
    sym (ap is_some (wrote ∙ ap (λ b. if b then left else line_at c.args.lines.now w.target w.instance.sig) (key_self w)) ∙ stays_if c.left_of-left.result)
