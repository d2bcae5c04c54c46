use Rattle.std.proofs.Common.{◌∙◌, ◌++◌, ap, append_assoc, codes}
use Rattle.tr_mistakes.specs.Parts.{whole_number}
use Rattle.tr_mistakes.proofs.Spoken.{on_ok}
use Rattle.tr_mistakes.proofs.wholes.push_bad_tid.Goals as goal

pub returns : goal.returns
returns c =
    on_ok c.push_whole_number.result (λ h. h ∙ ap (λ p. p ++ whole_number 2 4194303) c.in_ok-push.ensures.ok ∙ append_assoc c.args.page.now (codes ".tid") (whole_number 2 4194303)) c.push_whole_number.ensures
