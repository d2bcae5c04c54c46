use Rattle.std.proofs.Common.{◌∙◌, ap}
use Rattle.tr_sigset.specs.Sets.{in_word}
use Rattle.tr_status.proofs.Codes.{compared, members}
use Rattle.tr_status.proofs.values.signals_in.Goals as goal

pub returns : goal.returns
returns c n =
    ap (λ w. in_word w n) (c.from_bits.ensures.back ∙ compared c.args.wanted c.args.actions.now c.codes_of-codes.result c.code_of.result c.codes_of-codes.ensures c.code_of.ensures c.told-actions)
    ∙ members c.args.wanted c.args.actions.now n c.told-actions
