use Rattle.std.proofs.Common.{◌∙◌, ap, arith, length, sym}
use Rattle.std.proofs.lemmas.Bool.{leb-true}
use Rattle.tr_kernel.proofs.Killed.{only_dying_at}
use Rattle.tr_kernel.proofs.laws.only_dying.Goals as goal
use Rattle.tr_kernel.proofs.laws.only_dying.Goals.{then-i-j, else-i-j}

pub returns-then-j-journal-clause-dying : goal.returns-then-j-journal-clause-dying
returns-then-j-journal-clause-dying c = λ q g k.
    elim c.if-i-j.branch [
      | then-i-j w ↦
          let l = leb-true c.args.j _ (sym w.value-is ∙ c.if-j-journal.true) in
          only_dying_at c.args.kernel.now w.journal.ensures.history c.args.i c.args.j w.if-i-j.true (omega (arith, l, ap length w.journal.ensures.entries)) g k
      | else-i-j w ↦ (let l = leb-true c.args.i c.args.j (sym w.value-is ∙ c.if-j-journal.true) in absurd (omega (arith, l, w.if-i-j.false)))
    ]
