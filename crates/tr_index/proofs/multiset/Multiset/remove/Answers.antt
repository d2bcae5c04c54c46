use Rattle.std.proofs.Common.{◌+◌, ◌==◌, ◌∙◌, ◌≤◌, ℕ, List, ◌≡◌, ◌++◌, ◌-◌, ◌<◌, Option, None, Some, Ok, Err, true, ap, sym, get_or, length, arith, subst, rules, vec_len}
use Rattle.std.specs.List.{slice_get}
use Rattle.std.specs.Option.{option_eq, option_to_list}
use Rattle.std.proofs.lemmas.Bool.{eqb-true}
use Rattle.std.proofs.lemmas.Option.{get_or_from_slice_get, slice_get_within}
use Rattle.tr_model.specs.Journals.{occurs}
use Rattle.tr_index.specs.Counts.{bool_to_nat}
use Rattle.tr_index.specs.Multisets.{MultisetView}
use Rattle.tr_index.proofs.Multisets.{IsFound, found_it, occurs_gone, occurs_last, result, rises_gone}
use Rattle.tr_index.proofs.multiset.Multiset.remove.Goals as goal

-- the last number goes, which is this one
gone : (m n k : ℕ) (xs ys : List ℕ) (r s : Option ℕ) → length xs ≡ k → xs ≡ ys ++ option_to_list r → (0 < k → r ≡ Some (get_or xs (k - 1) n)) → s ≡ slice_get xs (k - 1) → option_eq (λ (x y : ℕ). x == y) s (Some n) ≡ true → occurs m ys + bool_to_nat (n == m) ≡ occurs m xs
gone m n k xs ys r None l e a b q = absurd (search rules)
gone m n k xs ys r (Some x) l e a b q =
    let there : slice_get xs (k - 1) ≡ Some n = sym b ∙ ap Some (eqb-true x n q) in
    let some : 0 < k = omega (arith, l, slice_get_within xs (k - 1) n there) in
    let same : r ≡ Some n = a some ∙ ap Some (get_or_from_slice_get xs (k - 1) n n there) in
    sym (ap (occurs m) (e ∙ ap (λ (o : Option ℕ). ys ++ option_to_list o) same) ∙ occurs_last m n ys)

pub returns-then-eq-clause-counted : goal.returns-then-eq-clause-counted
returns-then-eq-clause-counted c m =
    let xs = c.self.inside.numbers.items in
    let k = vec_len c.self.inside.numbers in
    let len : length xs ≡ k = sym (ap (λ (ys : List ℕ). length ys) c.deref.ensures.value) ∙ c.deref.ensures.len in
    let last : c.copied.result ≡ slice_get xs (k - 1) = c.copied.ensures ∙ (c.last.ensures.value ∙ λ i. slice_get (c.deref.ensures.value i) (c.deref.ensures.len i - 1)) in
    gone m c.args.n k xs c.pop-last.new.self.items c.pop-last.result c.copied.result len c.pop-last.ensures.items (λ h. c.pop-last.ensures.value c.args.n h) last (sym c.eq.ensures ∙ c.if-eq.true) ∙ ap (λ (t : MultisetView). occurs m t.numbers) c.self.view_is

pub invariant_of-self-in-Ok : goal.invariant_of-self-in-Ok
invariant_of-self-in-Ok c =
    let xs = c.self.inside.numbers.items in
    let at : IsFound xs c.args.n (Ok c.in-Ok.place) = result xs c.deref-2.result.now c.args.n (Ok c.in-Ok.place) c.deref-2.ensures.value c.self.invariant c.in-Ok.ensures.position in
    rw c.remove-removed.ensures.items (rises_gone (λ (x : ℕ). x) xs c.in-Ok.place at.0 c.self.invariant)

pub returns-in-Ok-clause-counted : goal.returns-in-Ok-clause-counted
returns-in-Ok-clause-counted c m =
    let xs = c.self.inside.numbers.items in
    let n = c.args.n in
    let at : IsFound xs n (Ok c.in-Ok.place) = result xs c.deref-2.result.now n (Ok c.in-Ok.place) c.deref-2.ensures.value c.self.invariant c.in-Ok.ensures.position in
    ap (λ (ys : List ℕ). occurs m ys + bool_to_nat (n == m)) c.remove-removed.ensures.items ∙ (occurs_gone m n xs c.in-Ok.place at.0 at.1 ∙ ap (λ (t : MultisetView). occurs m t.numbers) c.self.view_is)

pub returns-in_default-clause-counted : goal.returns-in_default-clause-counted
returns-in_default-clause-counted c m =
    let xs = c.self.inside.numbers.items in
    let n = c.args.n in
    absurd (found_it xs n c.in_default.field-0 (result xs c.deref-2.result.now n (Err c.in_default.field-0) c.deref-2.ensures.value c.self.invariant c.in_default.ensures.position) (subst (λ (t : MultisetView). 1 ≤ occurs n t.numbers) (sym c.self.view_is) c.requires))

pub returns-in_default-clause-sized : goal.returns-in_default-clause-sized
returns-in_default-clause-sized c =
    let xs = c.self.inside.numbers.items in
    let n = c.args.n in
    absurd (found_it xs n c.in_default.field-0 (result xs c.deref-2.result.now n (Err c.in_default.field-0) c.deref-2.ensures.value c.self.invariant c.in_default.ensures.position) (subst (λ (t : MultisetView). 1 ≤ occurs n t.numbers) (sym c.self.view_is) c.requires))
