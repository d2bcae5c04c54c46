use Rattle.std.proofs.Common.{◌≡◌, ◌∙◌, sym, rules, Some, None}
use Rattle.tr_queues.specs.Lines.{line_at}
use Rattle.tr_queues.specs.Slots.{standing}
use Rattle.tr_queues.proofs.Firsts.{first_line, first_none, without_line, without_none}
use Rattle.tr_queues.proofs.Standing.{standing_sorted}
use Rattle.tr_queues.proofs.pending.Pending.take_first.Goals as goal

pub returns-in_err-line-clause-taken : goal.returns-in_err-line-clause-taken
returns-in_err-line-clause-taken c =
    let none : line_at c.args.self.now.lines c.args.target c.args.signal ≡ None = search rules in
    c.from_residual.ensures ∙ sym (first_none c.args.target c.args.signal (standing c.args.self.now.slots.items) (sym (c.requires.lines.lined c.args.target c.args.signal) ∙ none))

pub returns-in_err-line-clause-waiting : goal.returns-in_err-line-clause-waiting
returns-in_err-line-clause-waiting c =
    let none : line_at c.args.self.now.lines c.args.target c.args.signal ≡ None = search rules in
    without_none c.args.target c.args.signal (standing c.args.self.now.slots.items) (sym (c.requires.lines.lined c.args.target c.args.signal) ∙ none)

pub returns-clause-taken : goal.returns-clause-taken
returns-clause-taken c =
    let line : line_at c.args.self.now.lines c.args.target c.args.signal ≡ Some c.in_ok-line.line = search rules in
    c.remove.ensures.taken ∙ first_line c.args.target c.args.signal (standing c.args.self.now.slots.items) c.in_ok-line.line (standing_sorted _ c.requires.sorted) (sym (c.requires.lines.lined c.args.target c.args.signal) ∙ line)

pub returns-clause-waiting : goal.returns-clause-waiting
returns-clause-waiting c =
    let line : line_at c.args.self.now.lines c.args.target c.args.signal ≡ Some c.in_ok-line.line = search rules in
    c.remove.ensures.waiting ∙ without_line c.args.target c.args.signal (standing c.args.self.now.slots.items) c.in_ok-line.line (standing_sorted _ c.requires.sorted) (sym (c.requires.lines.lined c.args.target c.args.signal) ∙ line)
