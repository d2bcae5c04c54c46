use Rattle.std.proofs.Common.{◌∙◌, ◌≤◌, Some, None, ap, drop_of_length-le, length, subst}
use Rattle.tr_kernel.specs.Heard.{call_of}
use Rattle.tr_oracle.specs.Expected.{IsNamed}
use Rattle.tr_oracle.specs.Offers.{offered}
use Rattle.tr_oracle.proofs.Expecting.{AllTried, given_other, next_tried, none_fits, sorted_now}
use Rattle.tr_oracle.proofs.expected.answer_otherwise.Goals as goal

pub returns-then-branch : goal.returns-then-branch
returns-then-branch g c =
    let f = g.X.Expectation.fits c.args.expected.now in
    let k = c.args.kernel.now in
    let call = call_of c.args.actor c.args.event.now in
    let x = c.reply-item.result in
    let h = rw (c.if-branch.true, c.loop-reply.invariant.0) at c.in_ok-is_given.ensures in
    given_other k c.is_given.new.kernel call f x c.requires.own c.requires.misfit h.0 h.1 h.2

pub loop-reply-preserved : goal.loop-reply-preserved
loop-reply-preserved g c =
    let f = g.X.Expectation.fits c.args.expected.now in
    let k = c.args.kernel.now in
    let call = call_of c.args.actor c.args.event.now in
    let x = c.reply-item.result in
    let h = rw (c.if-branch.false, c.loop-reply.invariant.0) at c.in_ok-is_given.ensures in
    (h.1, next_tried k call f c.as_slice-reply-items.result.now c.loop-reply.reply-index x c.reply-item.is c.loop-reply-test.true h.0 c.loop-reply.invariant.1)

pub returns-in_default : goal.returns-in_default
returns-in_default g c =
    let f = g.X.Expectation.fits c.args.expected.now in
    let k = c.args.kernel.now in
    let call = call_of c.args.actor c.args.event.now in
    let xs = c.as_slice-reply-items.result.now in
    let past : length xs ≤ c.loop-reply.reply-index = c.loop-reply-test.false in
    let all = (rw (drop_of_length-le xs past) at c.loop-reply.invariant.1) tt in
    let list = c.as_slice-reply-items.ensures ∙ (c.in_ok-replies.ensures ∙ ap (λ T. offered T c.args.actor c.args.event.now) c.table.ensures) in (
      none_fits k call f None (sorted_now k c.requires.history) c.requires.own c.requires.misfit (subst (AllTried k call f) list all)
          (subst (λ n. IsNamed f n) c.in_default.is c.named_id.ensures) tt,
      c.loop-reply.invariant.0,
    )

pub returns : goal.returns
returns g c =
    let f = g.X.Expectation.fits c.args.expected.now in
    let k = c.args.kernel.now in
    let call = call_of c.args.actor c.args.event.now in
    let xs = c.as_slice-reply-items.result.now in
    let past : length xs ≤ c.loop-reply.reply-index = c.loop-reply-test.false in
    let all = (rw (drop_of_length-le xs past) at c.loop-reply.invariant.1) tt in
    let list = c.as_slice-reply-items.ensures ∙ (c.in_ok-replies.ensures ∙ ap (λ T. offered T c.args.actor c.args.event.now) c.table.ensures) in
    let h = rw (c.if-branch-2.false, c.loop-reply.invariant.0) at c.in_ok-is_given-2.ensures in (
      none_fits k call f (Some c.in-Some.tid) (sorted_now k c.requires.history) c.requires.own c.requires.misfit (subst (AllTried k call f) list all)
          (subst (λ n. IsNamed f n) c.in-Some.is c.named_id.ensures) h.0,
      h.1,
    )
