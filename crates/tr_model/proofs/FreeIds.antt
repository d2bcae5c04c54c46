-- An id that a clone can have is found where one is left.
use Rattle.std.proofs.Common.{◌≡◌, ◌≤◌, ◌+◌, ◌-◌, ◌==◌, zero, suc, ℕ, List, [], ◌∷◌, ◌++◌, length, Bool, true, false, ◌&&◌, nat_le, Option, Some, None, if◌then◌else◌, cond, refl, sym, subst, arith}
use Rattle.std.specs.Prelude.{is_some}
use Rattle.std.proofs.lemmas.Bool.{le-leb, true≢false}
use Rattle.std.proofs.lemmas.Bool.Decides.{nat_tests}
use Rattle.tr_tracee.specs.declared.thread.Thread.{Thread}
use Rattle.tr_model.specs.declared.rows.Group.{Group}
use Rattle.tr_model.specs.Journals.{occurs}
use Rattle.tr_model.specs.Laws.{HasFreeId}
use Rattle.tr_model.specs.Preferred.{least_new, new_id, or_from_2}
use Rattle.tr_model.specs.Steps.{is_new}
use Rattle.tr_model.specs.Tables.{Table, group_in, group_of, ids_of, thread_in, thread_of}
use Rattle.tr_model.proofs.Among.{occurs-append}

-- What is found is new

found_is_new : (T : Table) (k first id : ℕ) → least_new T k first ≡ Some id → is_new T id ≡ true
found_is_new T zero first id e = cc
found_is_new T (suc k) first id e = go (is_new T first) refl (found_is_new T k (first + 1) id) e
  where
    go : (b : Bool) → is_new T first ≡ b → (least_new T k (first + 1) ≡ Some id → is_new T id ≡ true) → (if b then Some first else least_new T k (first + 1)) ≡ Some id → is_new T id ≡ true
    go true h rest f = let same : first ≡ id = cc in subst (λ n. is_new T n ≡ true) same h
    go false h rest f = rest f

-- Where none is found, as many ids are taken as were tried

-- how many of the numbers lie among these k
abbrev within : ℕ → ℕ → List ℕ → ℕ
within first k [] = 0
within first k (x ∷ xs) = (if nat_le first x && nat_le (x + 1) (first + k) then 1 else 0) + within first k xs

one_more : (first k x : ℕ) → (if nat_le first x && nat_le (x + 1) (first + suc k) then 1 else 0) ≡ (if x == first then 1 else 0) + (if nat_le (first + 1) x && nat_le (x + 1) (first + 1 + k) then 1 else 0)
one_more first k x = grind (arith, nat_tests)

within_more : (first k : ℕ) (xs : List ℕ) → within first (suc k) xs ≡ occurs first xs + within (first + 1) k xs
within_more first k [] = refl
within_more first k (x ∷ xs) = omega (arith, one_more first k x, within_more first k xs)

at_most_one : (b : Bool) → (if b then 1 else 0) ≤ 1
at_most_one true = omega arith
at_most_one false = omega arith

within_few : (first k : ℕ) (xs : List ℕ) → within first k xs ≤ length xs
within_few first k [] = omega arith
within_few first k (x ∷ xs) = let h = at_most_one (nat_le first x && nat_le (x + 1) (first + k)) in omega (arith, h, within_few first k xs)

abbrev tgids : List Group → List ℕ
tgids [] = []
tgids (g ∷ gs) = g.tgid ∷ tgids gs

abbrev taken_ids : Table → List ℕ
taken_ids T = ids_of T.threads ++ tgids T.groups

taken_length : (ts : List Thread) (gs : List Group) → length (ids_of ts ++ tgids gs) ≡ length ts + length gs
taken_length [] [] = omega arith
taken_length [] (g ∷ gs) = omega (arith, taken_length [] gs)
taken_length (t ∷ ts) gs = omega (arith, taken_length ts gs)

thread_counted : (ts : List Thread) (id : ℕ) → is_some (thread_in ts id) ≡ true → 1 ≤ occurs id (ids_of ts)
thread_counted [] id e = absurd (true≢false (sym e))
thread_counted (t ∷ ts) id e = go (t.id == id) (thread_counted ts id) e
  where
    go : (b : Bool) → (is_some (thread_in ts id) ≡ true → 1 ≤ occurs id (ids_of ts)) → is_some (cond b (Some t) (thread_in ts id)) ≡ true → 1 ≤ (if b then 1 else 0) + occurs id (ids_of ts)
    go true rest f = omega arith
    go false rest f = omega (arith, rest f)

group_counted : (gs : List Group) (id : ℕ) → is_some (group_in gs id) ≡ true → 1 ≤ occurs id (tgids gs)
group_counted [] id e = absurd (true≢false (sym e))
group_counted (g ∷ gs) id e = go (g.tgid == id) (group_counted gs id) e
  where
    go : (b : Bool) → (is_some (group_in gs id) ≡ true → 1 ≤ occurs id (tgids gs)) → is_some (cond b (Some g) (group_in gs id)) ≡ true → 1 ≤ (if b then 1 else 0) + occurs id (tgids gs)
    go true rest f = omega arith
    go false rest f = omega (arith, rest f)

counted : (T : Table) (id : ℕ) → 2 ≤ id → id ≤ 4194303 → is_new T id ≡ false → 1 ≤ occurs id (taken_ids T)
counted T id h k e = go (is_some (thread_of T id)) refl (is_some (group_of T id)) refl
  where
    go : (b : Bool) → is_some (thread_of T id) ≡ b → (c : Bool) → is_some (group_of T id) ≡ c → 1 ≤ occurs id (taken_ids T)
    go true p c q = omega (arith, thread_counted T.threads id p, occurs-append id (ids_of T.threads) (tgids T.groups))
    go false p true q = omega (arith, group_counted T.groups id q, occurs-append id (ids_of T.threads) (tgids T.groups))
    go false p false q = absurd (true≢false (rw (le-leb 2 id h, le-leb id 4194303 k, p, q) at e))

all_taken : (T : Table) (k first : ℕ) → 2 ≤ first → first + k ≤ 4194304 → least_new T k first ≡ None → k ≤ within first k (taken_ids T)
all_taken T zero first h m e = omega arith
all_taken T (suc k) first h m e = go (is_new T first) refl (all_taken T k (first + 1) (omega (arith, h)) (omega (arith, m))) e
  where
    go : (b : Bool) → is_new T first ≡ b → (least_new T k (first + 1) ≡ None → k ≤ within (first + 1) k (taken_ids T)) → (if b then Some first else least_new T k (first + 1)) ≡ None → suc k ≤ within first (suc k) (taken_ids T)
    go true p rest f = cc
    go false p rest f = omega (arith, rest f, within_more first k (taken_ids T), counted T first h (omega (arith, m)) p)

some_is_found : (T : Table) → HasFreeId T → least_new T 4194302 2 ≡ None → ⊥
some_is_found T free e =
    let n = taken_length T.threads T.groups in
    let all = all_taken T 4194302 2 (omega arith) (omega arith) e in
    let few = within_few 2 4194302 (taken_ids T) in
    omega (arith, n, all, few, free)

from_2_is_new : (T : Table) → HasFreeId T → is_new T (or_from_2 T None) ≡ true
from_2_is_new T free = go (least_new T 4194302 2) refl
  where
    go : (o : Option ℕ) → least_new T 4194302 2 ≡ o → is_new T (or_from_2 T None) ≡ true
    go (Some id) e = rw e (found_is_new T 4194302 2 id e)
    go None e = absurd (some_is_found T free e)

pub new_id_is_new : (T : Table) (g : ℕ) → HasFreeId T → is_new T (new_id T g) ≡ true
unfolding new_id
new_id_is_new T g free = go (least_new T (4194303 - g) (g + 1)) refl
  where
    go : (o : Option ℕ) → least_new T (4194303 - g) (g + 1) ≡ o → is_new T (or_from_2 T o) ≡ true
    go (Some id) e = found_is_new T (4194303 - g) (g + 1) id e
    go None e = from_2_is_new T free
