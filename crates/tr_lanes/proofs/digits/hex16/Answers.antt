use Rattle.std.proofs.Common.{arith, refl}
use Rattle.tr_lanes.proofs.Nibbles.{cons, digit_is}
use Rattle.tr_lanes.proofs.digits.hex16.Goals as goal

pub returns : goal.returns
returns c = cons (digit_is c.args.word 15 (omega arith)) (cons (digit_is c.args.word 14 (omega arith)) (cons (digit_is c.args.word 13 (omega arith)) (cons (digit_is c.args.word 12 (omega arith)) (cons (digit_is c.args.word 11 (omega arith)) (cons (digit_is c.args.word 10 (omega arith)) (cons (digit_is c.args.word 9 (omega arith)) (cons (digit_is c.args.word 8 (omega arith)) (cons (digit_is c.args.word 7 (omega arith)) (cons (digit_is c.args.word 6 (omega arith)) (cons (digit_is c.args.word 5 (omega arith)) (cons (digit_is c.args.word 4 (omega arith)) (cons (digit_is c.args.word 3 (omega arith)) (cons (digit_is c.args.word 2 (omega arith)) (cons (digit_is c.args.word 1 (omega arith)) (cons (digit_is c.args.word 0 (omega arith)) refl)))))))))))))))
