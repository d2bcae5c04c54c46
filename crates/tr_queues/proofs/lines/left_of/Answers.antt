use Rattle.std.proofs.Common.{◌≡◌, ◌∙◌, ◌<◌, ◌-◌, None, Some, arith, rules}
use Rattle.tr_queues.proofs.LeftLines.{left_empty, left_first, left_next, left_none}
use Rattle.tr_queues.proofs.Written.{some_stay}
use Rattle.tr_queues.specs.Lines.{first_number}
use Rattle.tr_queues.specs.Slots.{line_in}
use Rattle.tr_queues.proofs.lines.left_of.Goals as goal

pub returns-then-line-le1 : goal.returns-then-line-le1
returns-then-line-le1 c = λ before sorted h. left_none _ before (line_in c.args.waiting.now c.args.after.now) c.args.waiting.now (search rules) h

pub returns-then-line-waiting : goal.returns-then-line-waiting
returns-then-line-waiting c = λ before sorted h.
    let line = c.args.line.now in
    let more : 1 < line.count = search rules in
    let other : line.first ≡ c.args.waiting.now.instance.n → ⊥ = search rules in
    some_stay (record line { count = line.count - 1 }) (omega (arith, more)) ∙ left_first line before (line_in c.args.waiting.now c.args.after.now) c.args.waiting.now other h

pub returns-in-Some : goal.returns-in-Some
returns-in-Some c = λ before sorted h.
    let line = c.args.line.now in
    let rest = line_in c.args.waiting.now c.args.after.now in
    let more : 1 < line.count = search rules in
    let next : Some c.in-Some.first ≡ first_number rest = search rules in
    let here : line.first ≡ c.args.waiting.now.instance.n = search rules in
    some_stay (record { first = c.in-Some.first; count = line.count - 1 }) (omega (arith, more)) ∙ left_next line before rest c.args.waiting.now sorted here h c.in-Some.first next

pub returns-in-None : goal.returns-in-None
returns-in-None c = λ before sorted h.
    let rest = line_in c.args.waiting.now c.args.after.now in
    let none : None ≡ first_number rest = search rules in
    let here : c.args.line.now.first ≡ c.args.waiting.now.instance.n = search rules in
    left_empty c.args.line.now before rest c.args.waiting.now sorted here h none
