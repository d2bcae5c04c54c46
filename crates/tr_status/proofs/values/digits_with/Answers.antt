use Rattle.std.proofs.Common.{◌∙◌, ap, option_copied}
use Rattle.tr_sigset.specs.Sets.{in_word}
use Rattle.tr_model.specs.Tables.{actions_of}
use Rattle.tr_status.proofs.SameSets.{same_digits}
use Rattle.tr_status.specs.Statuses.{has_action}
use Rattle.tr_status.proofs.values.digits_with.Goals as goal

pub returns : goal.returns
returns c = c.hex16.ensures ∙ same_digits (in_word c.bits.result) (has_action c.args.wanted (actions_of (option_copied c.args.group))) (λ n. ap (λ w. in_word w n) c.bits.ensures.value ∙ c.signals_with.ensures n)
