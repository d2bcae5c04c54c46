use Rattle.std.proofs.Common.{ltb, ◌≡◌, ◌+◌, ◌==◌, ◌∙◌, ◌<◌, ◌≤◌, ℕ, List, Bool, true, false, is_ok, if◌then◌else◌, length, arith, ap, sym, subst, rules, vec_capacity}
use Rattle.std.specs.List.{insert}
use Rattle.std.specs.List.Sorted.{IsPartitionPoint, IsPartitionedBy}
use Rattle.std.proofs.lemmas.List.Sorted.{IsPartitionedBy-ltb, IsPartitionPoint-from_clause}
use Rattle.tr_model.specs.Journals.{occurs}
use Rattle.tr_index.specs.Counts.{bool_to_nat}
use Rattle.tr_index.specs.Multisets.{MultisetView}
use Rattle.tr_index.proofs.Multisets.{occurs_added, occurs_last, rises_added}
use Rattle.tr_index.proofs.multiset.Multiset.insert.Goals as goal

-- the number is inserted
inserted : (xs ys : List ℕ) (b : Bool) (i n : ℕ) → ys ≡ (if b then insert xs i n else xs) → b ≡ true → ys ≡ insert xs i n
inserted xs ys b i n e h = e ∙ ap (λ (a : Bool). if a then insert xs i n else xs) h

pub returns-then-is_none_or-clause-counted : goal.returns-then-is_none_or-clause-counted
returns-then-is_none_or-clause-counted c m =
    ap (occurs m) c.push_reserved.ensures.items ∙ (occurs_last m c.args.n c.self.inside.numbers.items ∙ ap (λ (t : MultisetView). occurs m t.numbers + bool_to_nat (c.args.n == m)) c.self.view_is)

pub invariant_of-self-2 : goal.invariant_of-self-2
invariant_of-self-2 c =
    let xs = c.self.inside.numbers.items in
    let n = c.args.n in
    let i = c.partition_point-place.result in
    let room : length xs < vec_capacity c.self.inside.numbers = subst (λ (t : MultisetView). length t.numbers < t.places) (sym c.self.view_is) c.requires in
    let ok : is_ok c.insert-inserted.result ≡ true = c.insert-inserted.ensures.succeeds (omega (arith, room, c.deref-2.ensures.len, ap (λ (ys : List ℕ). length ys) c.deref-2.ensures.value)) in
    let parted = subst (IsPartitionedBy (λ (y : ℕ). ltb y n)) (sym c.deref-2.ensures.value) (IsPartitionedBy-ltb (λ (y : ℕ). y) xs n c.self.invariant) in
    let point = IsPartitionPoint-from_clause (λ (y : ℕ). ltb y n) c.deref-2.result.now i c.partition_point-place.ensures.partitioned parted (λ a r q k. search rules) in
    let at = subst (λ (ys : List ℕ). IsPartitionPoint (λ y. ltb y n ≡ true) (λ y. ltb y n ≡ false) ys i) c.deref-2.ensures.value point in
    let within : i ≤ length xs = omega (arith, c.partition_point-place.ensures.bound, ap (λ (ys : List ℕ). length ys) c.deref-2.ensures.value) in
    rw (inserted xs c.insert-inserted.new.self.items (is_ok c.insert-inserted.result) i n c.insert-inserted.ensures.items ok) (rises_added xs n i c.self.invariant within at)

pub returns-clause-counted : goal.returns-clause-counted
returns-clause-counted c m =
    let xs = c.self.inside.numbers.items in
    let n = c.args.n in
    let i = c.partition_point-place.result in
    let room : length xs < vec_capacity c.self.inside.numbers = subst (λ (t : MultisetView). length t.numbers < t.places) (sym c.self.view_is) c.requires in
    let ok : is_ok c.insert-inserted.result ≡ true = c.insert-inserted.ensures.succeeds (omega (arith, room, c.deref-2.ensures.len, ap (λ (ys : List ℕ). length ys) c.deref-2.ensures.value)) in
    ap (occurs m) (inserted xs c.insert-inserted.new.self.items (is_ok c.insert-inserted.result) i n c.insert-inserted.ensures.items ok) ∙ (occurs_added m n xs i ∙ ap (λ (t : MultisetView). occurs m t.numbers + bool_to_nat (n == m)) c.self.view_is)
