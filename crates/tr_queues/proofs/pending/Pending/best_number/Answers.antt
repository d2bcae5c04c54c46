use Rattle.std.proofs.Common.{◌≡◌, ◌∙◌, ap, sym, rules, Option, Some, None, ℕ}
use Rattle.std.specs.Prelude.{option_map}
use Rattle.tr_pending.specs.declared.instance.Instance.{Instance}
use Rattle.tr_pending.proofs.Best.{first_ready, none_ready}
use Rattle.tr_queues.specs.Changes.{queue_in}
use Rattle.tr_queues.specs.Lines.{line_at}
use Rattle.tr_queues.specs.Slots.{standing}
use Rattle.tr_queues.proofs.Firsts.{first_none, line_number}
use Rattle.tr_queues.proofs.pending.Pending.best_number.Goals as goal

abbrev number : Option Instance → Option ℕ
number = option_map (λ i. i.n)

pub returns-in_err-line-in-Some : goal.returns-in_err-line-in-Some
returns-in_err-line-in-Some c =
    let ws = standing c.args.self.now.slots.items in
    let s = c.in-Some.signal in
    let none : line_at c.args.self.now.lines c.args.target s ≡ None = search rules in
    let best = first_ready c.args.blocked c.mask.result c.minus.result (queue_in c.args.target ws) c.mask.ensures c.minus.ensures s c.in-Some.ensures.member c.in-Some.ensures.least in
    c.from_residual.ensures ∙ ap number (sym (first_none c.args.target s ws (sym (c.requires.lines.lined c.args.target s) ∙ none)) ∙ best)

pub returns-in_ok-line-in-Some : goal.returns-in_ok-line-in-Some
returns-in_ok-line-in-Some c =
    let ws = standing c.args.self.now.slots.items in
    let s = c.in-Some.signal in
    let line : line_at c.args.self.now.lines c.args.target s ≡ Some c.in_ok-line-in-Some.field-0 = search rules in
    let best = first_ready c.args.blocked c.mask.result c.minus.result (queue_in c.args.target ws) c.mask.ensures c.minus.ensures s c.in-Some.ensures.member c.in-Some.ensures.least in
    sym (line_number c.args.target s ws c.in_ok-line-in-Some.field-0 (sym (c.requires.lines.lined c.args.target s) ∙ line)) ∙ ap number best

pub returns-in-None : goal.returns-in-None
returns-in-None c = ap number (none_ready c.args.blocked c.mask.result c.minus.result (queue_in c.args.target (standing c.args.self.now.slots.items)) c.mask.ensures c.minus.ensures c.in-None.ensures.none)
