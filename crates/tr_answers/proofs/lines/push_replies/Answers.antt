use Rattle.std.proofs.Common.{◌++◌, ◌∙◌, ap, append-nil, drop_of_length-le, sym}
use Rattle.tr_answers.proofs.Lists.{listed_is}
use Rattle.tr_answers.proofs.lines.push_replies.Goals as goal

pub returns : goal.returns
returns c =
    let i = rw (drop_of_length-le c.args.others.now c.loop-reply-test.false) at c.loop-reply.invariant in
    sym (append-nil c.loop-reply.page) ∙ (i ∙ ap (λ t. c.args.page.now ++ t) (sym (listed_is c.args.first.now c.args.others.now)))
