use Rattle.std.proofs.Common.{arith}
use Rattle.tr_sigset.proofs.Members.{least_member, least_is_least}
use Rattle.tr_sigset.proofs.sets.SigSet.least.Goals as goal

pub returns-clause-member : goal.returns-clause-member
returns-clause-member c = least_member c.args.self.bits c.new.result c.new.ensures (omega arith) c.if-self-eq0.false

pub returns-clause-least : goal.returns-clause-least
returns-clause-least c = least_is_least c.args.self.bits c.new.result c.new.ensures (omega arith) c.if-self-eq0.false
