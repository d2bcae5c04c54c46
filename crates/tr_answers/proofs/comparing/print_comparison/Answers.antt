use Rattle.std.proofs.Common.{◌++◌, ◌∙◌, ap, inl, inr}
use Rattle.std.proofs.lemmas.Result.{err_from_is_err_and}
use Rattle.tr_answers.specs.Comparisons.{agreement_line, asked_from}
use Rattle.tr_answers.proofs.Told.{halted_print, halted_walk, lacking_line, printed, told_end}
use Rattle.tr_answers.proofs.comparing.print_comparison.Goals as goal
use Rattle.tr_answers.proofs.comparing.print_comparison.Goals.{then-agrees+in_ok-push_agreement, else-agrees}

pub returns-in_err-agrees : goal.returns-in_err-agrees
returns-in_err-agrees g c =
    let p = err_from_is_err_and c.from_residual.result c.from_residual.ensures.1 in
    rw (p.1, p.2) (halted_walk g.W.Sink.taken g.W.Sink.failures _ _ c.fill_steps.new.page _ c.fill_steps.new.kernel _ _ (rw c.new-page.ensures at c.in_err-agrees.ensures))

pub returns-in_err-push_agreement : goal.returns-in_err-push_agreement
returns-in_err-push_agreement g c =
    let p = err_from_is_err_and c.from_residual-in_err-push_agreement.result c.from_residual-in_err-push_agreement.ensures.1 in
    let walk = rw c.new-page.ensures at (rw c.if-agrees.true at c.in_ok-agrees.ensures) in
    rw (p.1, p.2) (lacking_line g.W.Sink.taken g.W.Sink.failures _ _ c.fill_steps.new.page _ c.fill_steps.new.kernel _ walk)

pub returns-in_err-print_kept : goal.returns-in_err-print_kept
returns-in_err-print_kept g c =
    let p = err_from_is_err_and c.from_residual-in_err-print_kept.result c.from_residual-in_err-print_kept.ensures.1 in
    let kept = c.fill_steps.new.page in
    let told =
    told_end g.W.Sink.taken g.W.Sink.failures c.args.writer.now c.fill_steps.new.writer c.new-page.result kept c.if-agrees.page c.args.kernel.now c.fill_steps.new.kernel (asked_from 1 c.args.steps.now) c.in_ok-agrees.agrees c.new-page.ensures c.in_ok-agrees.ensures (
    elim c.if-agrees.branch [
      | then-agrees+in_ok-push_agreement w ↦ inl (w.if-agrees.true, w.page-is ∙ (w.in_ok-push_agreement.ensures ∙ ap (λ n. kept ++ agreement_line n) w.known_answers.ensures))
      | else-agrees w ↦ inr (w.if-agrees.false, w.page-is)
    ]
    )
    in
    rw (p.1, p.2) (halted_print g.W.Sink.taken g.W.Sink.failures _ _ _ c.if-agrees.page _ _ c.in_ok-agrees.agrees _ told c.in_err-print_kept.ensures.prints)

pub returns : goal.returns
returns g c =
    let kept = c.fill_steps.new.page in
    let told =
    told_end g.W.Sink.taken g.W.Sink.failures c.args.writer.now c.fill_steps.new.writer c.new-page.result kept c.if-agrees.page c.args.kernel.now c.fill_steps.new.kernel (asked_from 1 c.args.steps.now) c.in_ok-agrees.agrees c.new-page.ensures c.in_ok-agrees.ensures (
    elim c.if-agrees.branch [
      | then-agrees+in_ok-push_agreement w ↦ inl (w.if-agrees.true, w.page-is ∙ (w.in_ok-push_agreement.ensures ∙ ap (λ n. kept ++ agreement_line n) w.known_answers.ensures))
      | else-agrees w ↦ inr (w.if-agrees.false, w.page-is)
    ]
    )
    in
    printed g.W.Sink.taken g.W.Sink.failures _ _ _ c.if-agrees.page _ _ c.in_ok-agrees.agrees c.in_ok-print_kept.field-0 told c.in_ok-print_kept.ensures.prints
