use Rattle.std.proofs.Common.{◌≡◌, ◌≤◌, ◌-◌, ℕ, nat_le, true, sym, arith}
use Rattle.std.proofs.Math.ListN.{get_or-eq_default}
use Rattle.std.proofs.lemmas.Bool.Decides.{nat_tests}
use Rattle.tr_sigset.specs.declared.signals.Base.TheVariants.{Term}
use Rattle.tr_sigset.specs.Signals.{named_bases}
use Rattle.tr_sigset.proofs.signals.Signal.default_action.Goals as goal

from_32 : (n : ℕ) → nat_le 32 n ≡ true → 32 ≤ n
from_32 n e = grind (arith, nat_tests)

pub returns-then-is_real_time : goal.returns-then-is_real_time
returns-then-is_real_time c = let past : 32 ≤ c.args.self = from_32 c.args.self (sym c.if-is_real_time.ensures) in sym (get_or-eq_default named_bases Term {n = c.args.self - 1} (omega arith))
