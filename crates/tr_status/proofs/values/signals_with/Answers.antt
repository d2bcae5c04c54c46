use Rattle.std.proofs.Common.{◌∙◌}
use Rattle.tr_status.proofs.SameSets.{of_defaults}
use Rattle.tr_status.proofs.values.signals_with.Goals as goal

pub returns-in-None : goal.returns-in-None
returns-in-None c n = rw (c.in-None.is) (c.signals_in-in-None.ensures n ∙ of_defaults c.args.wanted 64 n)
