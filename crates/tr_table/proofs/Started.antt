-- The threads of a good start: no two have one id, and no group has more than 64.
use Rattle.std.proofs.Common.{◌≡◌, ◌==◌, ◌&&◌, ◌+◌, ◌*◌, ◌≤◌, ◌⊎◌, inl, inr, ℕ, List, [], ◌∷◌, ◌++◌, Bool, true, false, not, if◌then◌else◌, length, map, nat_le, length-append, arith, refl, sym, ap, ◌∙◌, true≢false}
use Rattle.std.proofs.lemmas.Bool.{and_parts, cases_eq, eq-eqb, eqb-true, ne_eqb, leb-true}
use Rattle.std.proofs.lemmas.Bool.Decides.{nat_tests}
use Rattle.std.proofs.lemmas.List.{length-map}
use Rattle.std.specs.Prelude.{IsTrue}
use Rattle.std.specs.List.{list_all, list_any}
use Rattle.tr_sigset.specs.declared.sets.SigSet.{SigSet}
use Rattle.tr_model.specs.Journals.{occurs}
use Rattle.tr_model.specs.Tables.{ids_of}
use Rattle.tr_model.proofs.Among.{occurs-append}
use Rattle.tr_model.proofs.Measures.{total, total-append}
use Rattle.tr_model.proofs.OneFate.{one}
use Rattle.tr_index.proofs.Indexing.{none_occurs}
use Rattle.tr_threads.proofs.Rosters.{in_all, is_of}
use Rattle.tr_threads.proofs.ThreadLists.{ids_append}
use Rattle.tr_table.specs.Order.{IsRoster}
use Rattle.tr_table.specs.Private.{tgids_of}
use Rattle.tr_starts.specs.Starts.{all_started, group_started, ids_started, is_good, is_good_actions, is_good_group, is_good_id, is_good_name, leads, no_repeat, thread_started, threads_started}
use Rattle.tr_starts.specs.declared.starts.GroupStart.{GroupStart}
use Rattle.tr_starts.specs.declared.starts.Start.{Start}

is_false : (b : Bool) → IsTrue (not b) → b ≡ false
is_false true e = absurd (true≢false (sym e))
is_false false e = refl

pub once : (n : ℕ) (xs : List ℕ) → IsTrue (no_repeat xs) → occurs n xs ≤ 1
once n [] h = omega arith
once n (x ∷ xs) h = let parts = and_parts (not (list_any (λ y. y == x) xs)) (no_repeat xs) h in go (is_false (list_any (λ y. y == x) xs) parts.0) (once n xs parts.1) (cases_eq x n)
  where
    go : list_any (λ y. y == x) xs ≡ false → occurs n xs ≤ 1 → (x ≡ n) ⊎ (x ≡ n → ⊥) → occurs n (x ∷ xs) ≤ 1
    go none rest (inl e) = rw (eq-eqb x n e) (omega (arith, ap (λ m. occurs m xs) e, none_occurs x xs none))
    go none rest (inr e) = rw (ne_eqb x n e) (omega (arith, rest))

group_ids : (g : ℕ) (ts : List (ℕ × SigSet)) → ids_of (map (thread_started g) ts) ≡ map (λ t. t.0) ts
group_ids g [] = refl
group_ids g (t ∷ ts) = ap (λ l. t.0 ∷ l) (group_ids g ts)

pub all_ids : (gs : List GroupStart) → ids_of (all_started gs) ≡ ids_started gs
all_ids [] = refl
all_ids (g ∷ gs) = ids_append (threads_started g) (all_started gs) ∙ (ap (λ l. l ++ ids_of (all_started gs)) (group_ids g.tgid g.threads) ∙ ap (λ l. map (λ t. t.0) g.threads ++ l) (all_ids gs))

-- groups

group_total : (k g : ℕ) (ts : List (ℕ × SigSet)) → total (is_of k) (map (thread_started g) ts) ≤ length ts
group_total k g [] = omega arith
group_total k g (t ∷ ts) = go (g == k) (group_total k g ts)
  where
    go : (b : Bool) → total (is_of k) (map (thread_started g) ts) ≤ length ts → one b + total (is_of k) (map (thread_started g) ts) ≤ length (t ∷ ts)
    go true h = omega (arith, h)
    go false h = omega (arith, h)

other_total : (k g : ℕ) → (g ≡ k → ⊥) → (ts : List (ℕ × SigSet)) → total (is_of k) (map (thread_started g) ts) ≡ 0
other_total k g e [] = refl
other_total k g e (t ∷ ts) = omega (arith, ap one (ne_eqb g k e), other_total k g e ts)

leader_occurs : (g : ℕ) (ts : List (ℕ × SigSet)) → IsTrue (leads g ts) → 1 ≤ occurs g (map (λ t. t.0) ts)
leader_occurs g [] h = absurd (true≢false (sym h))
leader_occurs g (t ∷ ts) h = rw h (omega arith)

below_64 : (n : ℕ) → IsTrue (nat_le n 64) → n ≤ 64
below_64 n h = grind (arith, nat_tests)

good_group : (g : GroupStart) → IsTrue (is_good_group g) → IsTrue (leads g.tgid g.threads) × (length g.threads ≤ 64)
good_group g h =
    let a = and_parts (leads g.tgid g.threads) (nat_le (length g.threads) 64 && (is_good_name g.name && is_good_actions g.actions)) h in
    let b = and_parts (nat_le (length g.threads) 64) (is_good_name g.name && is_good_actions g.actions) a.1 in
    (a.0, below_64 (length g.threads) b.0)

one_group : (k : ℕ) (g : GroupStart) → IsTrue (is_good_group g) → total (is_of k) (threads_started g) ≤ 64 * occurs k (map (λ t. t.0) g.threads)
one_group k g h = go (cases_eq g.tgid k)
  where
    go : (g.tgid ≡ k) ⊎ (g.tgid ≡ k → ⊥) → total (is_of k) (threads_started g) ≤ 64 * occurs k (map (λ t. t.0) g.threads)
    go (inl e) = let p = good_group g h in omega (arith, group_total k g.tgid g.threads, p.1, leader_occurs g.tgid g.threads p.0, ap (λ n. occurs n (map (λ t. t.0) g.threads)) e)
    go (inr e) = omega (arith, other_total k g.tgid e g.threads)

all_groups : (k : ℕ) (gs : List GroupStart) → IsTrue (list_all is_good_group gs) → total (is_of k) (all_started gs) ≤ 64 * occurs k (ids_started gs)
all_groups k [] h = omega arith
all_groups k (g ∷ gs) h =
    let p = and_parts (is_good_group g) (list_all is_good_group gs) h in
    omega (arith, total-append (is_of k) (threads_started g) (all_started gs), one_group k g p.0, all_groups k gs p.1, occurs-append k (map (λ t. t.0) g.threads) (ids_started gs))

pub roster_started : (s : Start) → IsTrue (is_good s) → IsRoster (all_started s.groups)
roster_started s h = record {
  distinct = λ n. rw (all_ids s.groups) (once n (ids_started s.groups) ids);
  few = λ k. omega (arith, in_all k (all_started s.groups), all_groups k s.groups a.0, once k (ids_started s.groups) ids);
}
  where
    a : IsTrue (list_all is_good_group s.groups) × IsTrue (nat_le (length (ids_started s.groups)) 1024 && (list_all is_good_id (ids_started s.groups) && no_repeat (ids_started s.groups)))
    a = and_parts (list_all is_good_group s.groups) (nat_le (length (ids_started s.groups)) 1024 && (list_all is_good_id (ids_started s.groups) && no_repeat (ids_started s.groups))) h

    ids : IsTrue (no_repeat (ids_started s.groups))
    ids = (and_parts (list_all is_good_id (ids_started s.groups)) (no_repeat (ids_started s.groups)) (and_parts (nat_le (length (ids_started s.groups)) 1024) (list_all is_good_id (ids_started s.groups) && no_repeat (ids_started s.groups)) a.1).1).1

-- each group has its leader's id, so no two have one id

leader_counts : (n g : ℕ) (ts : List (ℕ × SigSet)) → IsTrue (leads g ts) → (if g == n then 1 else 0) ≤ occurs n (map (λ t. t.0) ts)
leader_counts n g [] h = absurd (true≢false (sym h))
leader_counts n g (t ∷ ts) h = rw (sym (eqb-true t.0 g h)) (omega arith)

tgids_occur : (n : ℕ) (gs : List GroupStart) → IsTrue (list_all is_good_group gs) → occurs n (tgids_of (map group_started gs)) ≤ occurs n (ids_started gs)
tgids_occur n [] h = omega arith
tgids_occur n (g ∷ gs) h =
    let p = and_parts (is_good_group g) (list_all is_good_group gs) h in
    omega (arith, occurs-append n (map (λ t. t.0) g.threads) (ids_started gs), leader_counts n g.tgid g.threads (good_group g p.0).0, tgids_occur n gs p.1)

pub groups_once : (s : Start) → IsTrue (is_good s) → (n : ℕ) → occurs n (tgids_of (map group_started s.groups)) ≤ 1
groups_once s h n =
    let a = and_parts (list_all is_good_group s.groups) (nat_le (length (ids_started s.groups)) 1024 && (list_all is_good_id (ids_started s.groups) && no_repeat (ids_started s.groups))) h in
    let b = and_parts (nat_le (length (ids_started s.groups)) 1024) (list_all is_good_id (ids_started s.groups) && no_repeat (ids_started s.groups)) a.1 in
    omega (arith, tgids_occur n s.groups a.0, once n (ids_started s.groups) (and_parts (list_all is_good_id (ids_started s.groups)) (no_repeat (ids_started s.groups)) b.1).1)

-- each group has its leader, so there are no more groups than threads

some_thread : (g : ℕ) (ts : List (ℕ × SigSet)) → IsTrue (leads g ts) → 1 ≤ length ts
some_thread g [] h = absurd (true≢false (sym h))
some_thread g (t ∷ ts) h = omega arith

pub groups_few : (gs : List GroupStart) → IsTrue (list_all is_good_group gs) → length gs ≤ length (ids_started gs)
groups_few [] h = omega arith
groups_few (g ∷ gs) h =
    let parts = and_parts (is_good_group g) (list_all is_good_group gs) h in
    let led = and_parts (leads g.tgid g.threads) (nat_le (length g.threads) 64 && (is_good_name g.name && is_good_actions g.actions)) parts.0 in
    let a = some_thread g.tgid g.threads led.0 in
    let b : length (map (λ t. t.0) g.threads) ≡ length g.threads = length-map g.threads (λ t. t.0) in
    let k = length-append (map (λ t. t.0) g.threads) (ids_started gs) in
    omega (arith, groups_few gs parts.1)

pub few_started : (s : Start) → IsTrue (is_good s) → length s.groups ≤ 1024
few_started s h =
    let parts = and_parts (list_all is_good_group s.groups) (nat_le (length (ids_started s.groups)) 1024 && (list_all is_good_id (ids_started s.groups) && no_repeat (ids_started s.groups))) h in
    let rest = and_parts (nat_le (length (ids_started s.groups)) 1024) (list_all is_good_id (ids_started s.groups) && no_repeat (ids_started s.groups)) parts.1 in
    let a = groups_few s.groups parts.0 in
    let b = leb-true (length (ids_started s.groups)) 1024 rest.0 in
    omega arith
