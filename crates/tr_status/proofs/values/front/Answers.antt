use Rattle.std.proofs.lemmas.List.{take_min}
use Rattle.tr_status.proofs.values.front.Goals as goal

pub returns-clause-front : goal.returns-clause-front
returns-clause-front c = rw (c.min.ensures) (take_min c.args.len c.args.bytes.now)
