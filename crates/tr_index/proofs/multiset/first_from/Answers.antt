use Rattle.std.proofs.Common.{rules, ltb, ◌≡◌, ◌∙◌, ℕ, Some, ap, arith, option_copied, sym}
use Rattle.std.specs.List.{slice_get}
use Rattle.std.proofs.lemmas.Bool.{ltb-false, ltb-true}
use Rattle.std.proofs.lemmas.List.Sorted.{IsPartitionedBy-ltb, IsPartitionPoint-from_clause}
use Rattle.std.proofs.lemmas.Option.{get_or_from_slice_get}
use Rattle.tr_index.proofs.Following.{copied_is, next_at}
use Rattle.tr_index.proofs.multiset.first_from.Goals as goal

pub returns-in-Some : goal.returns-in-Some
returns-in-Some c =
    let xs = c.args.numbers.now in
    let x = c.in-Some.first.now in
    let at : slice_get xs 0 ≡ Some x = sym c.first.ensures.value ∙ ap option_copied c.in-Some.is in
    next_at xs c.args.n 0 (Some x) c.requires (λ k l w. absurd (omega (arith, l))) (λ w. omega (arith, c.if-n-first.true, get_or_from_slice_get xs 0 x 0 at)) at

pub returns-in-Some-2 : goal.returns-in-Some-2
returns-in-Some-2 c =
    let xs = c.args.numbers.now in
    let n = c.args.n in
    let i = c.partition_point-place.result in
    let point = IsPartitionPoint-from_clause (λ (y : ℕ). ltb y n) xs i c.partition_point-place.ensures.partitioned (IsPartitionedBy-ltb (λ (y : ℕ). y) xs n c.requires) (λ a r q k. search rules) in
    let at : slice_get xs i ≡ c.copied.result = copied_is xs i c.get.result c.get.ensures.lookup.0 c.get.ensures.lookup.1 ∙ sym c.copied.ensures in
    next_at xs n i c.copied.result c.requires (λ k l w. ltb-true _ _ (point.0 k 0 (omega arith) l)) (λ w. ltb-false _ _ (point.1 i 0 (omega arith) w)) at
