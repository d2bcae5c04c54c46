use Rattle.std.proofs.Common.{◌≡◌, ◌∙◌, ℕ, List, [], ◌∷◌, ◌++◌, ap, arith, get_or, length, replicate, sym}
use Rattle.tr_model.specs.declared.fates.Ending.{Ending}
use Rattle.tr_model.specs.declared.fates.Fate.{Fate}
use Rattle.tr_model.specs.declared.fates.Fate.TheVariants.{Pending, Merged, Delivered, Suppressed, Flushed}
use Rattle.tr_kernel.specs.Private.{ending_noted, endings_noted}
use Rattle.tr_kernel.proofs.Noted.{noted_last}
use Rattle.tr_kernel.proofs.Tallied.{count_few}
use Rattle.tr_kernel.proofs.fates.Fates.enter.Goals as goal

pub add-requires-clause-merged : goal.add-requires-clause-merged
add-requires-clause-merged c =
    omega (arith, ap (λ n. n.merged) c.self.invariant, count_few Merged c.self.inside.list.items, c.if-ending-next.true, c.len.ensures, c.self.inside.list.ok.0)

pub add-requires-clause-delivered : goal.add-requires-clause-delivered
add-requires-clause-delivered c =
    omega (arith, ap (λ n. n.delivered) c.self.invariant, count_few Delivered c.self.inside.list.items, c.if-ending-next.true, c.len.ensures, c.self.inside.list.ok.0)

pub add-requires-clause-suppressed : goal.add-requires-clause-suppressed
add-requires-clause-suppressed c =
    omega (arith, ap (λ n. n.suppressed) c.self.invariant, count_few Suppressed c.self.inside.list.items, c.if-ending-next.true, c.len.ensures, c.self.inside.list.ok.0)

pub add-requires-clause-flushed : goal.add-requires-clause-flushed
add-requires-clause-flushed c =
    omega (arith, ap (λ n. n.flushed) c.self.invariant, count_few Flushed c.self.inside.list.items, c.if-ending-next.true, c.len.ensures, c.self.inside.list.ok.0)

pub returns-in-len1 : goal.returns-in-len1
returns-in-len1 c =
    let fs = c.self.inside.list.items in
    let d : Ending = record { number = 0; fate = Pending } in
    rw (← c.self.view_is)
    (c.push_reserved.ensures.items
    ∙ noted_last 1 (get_or c.args.ended.now 0 d) fs (omega (arith, c.if-ending-next.true, c.len.ensures, c.self.inside.list.ok.0))
    ∙ one c.args.ended.now fs c.args.more d (omega (arith, c.in-len1.len_at_least, c.in-len1.len_below)) c.if-more-eq1.true)
  where
    one : (es : List Ending) (fs : List Fate) (n : ℕ) (d : Ending) → length es ≡ 1 → n ≡ 1 → ending_noted 1 (get_or es 0 d) (fs ++ Pending ∷ []) ≡ endings_noted es (fs ++ replicate n Pending)
    one [] fs n d l e = absurd (omega (arith, l))
    one (x ∷ []) fs n d l e = ap (λ m. ending_noted 1 x (fs ++ replicate m Pending)) (sym e)
    one (x ∷ y ∷ es) fs n d l e = absurd (omega (arith, l))
