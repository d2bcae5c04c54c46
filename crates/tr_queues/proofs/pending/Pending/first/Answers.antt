use Rattle.std.proofs.Common.{◌≡◌, ◌∙◌, sym, refl, rules, Some, None}
use Rattle.tr_queues.specs.Choices.{waiting_in}
use Rattle.tr_queues.specs.Slots.{standing}
use Rattle.tr_queues.proofs.Firsts.{first_line, first_none}
use Rattle.tr_queues.proofs.Standing.{instance_waiting, standing_sorted}
use Rattle.tr_queues.proofs.pending.Pending.first.Goals as goal

pub returns-in_err-line : goal.returns-in_err-line
returns-in_err-line c =
    c.from_residual.ensures ∙ sym (first_none c.args.target c.args.signal (standing c.args.self.now.slots.items) (search rules))

pub returns-in_err-waiting : goal.returns-in_err-waiting
returns-in_err-waiting c =
    let ws = standing c.args.self.now.slots.items in
    let none : waiting_in ws c.in_ok-line.line.first ≡ None = search rules in
    c.from_residual-in_err-waiting.ensures ∙ sym (instance_waiting ws c.in_ok-line.line.first ∙ rw none refl) ∙ first_line c.args.target c.args.signal ws c.in_ok-line.line (standing_sorted _ c.requires.sorted) (search rules)

pub returns : goal.returns
returns c =
    let ws = standing c.args.self.now.slots.items in
    let some : waiting_in ws c.in_ok-line.line.first ≡ Some c.in_ok-waiting.field-0.now = search rules in
    sym (instance_waiting ws c.in_ok-line.line.first ∙ rw some refl) ∙ first_line c.args.target c.args.signal ws c.in_ok-line.line (standing_sorted _ c.requires.sorted) (search rules)
