use Rattle.std.proofs.Common.{◌∙◌, ◌++◌, ap}
use Rattle.tr_mistakes.proofs.Spoken.{three_ok}
use Rattle.tr_mistakes.proofs.parts.push_named_key.Goals as goal

pub returns : goal.returns
returns c = three_ok c.push-3.result _ _ _ _ _ _ _ c.in_ok-push.ensures.ok (c.in_ok-push-2.ensures.ok ∙ ap (λ k. c.push.new.self ++ k) c.as_bytes.ensures.value) c.push-3.ensures.ok
