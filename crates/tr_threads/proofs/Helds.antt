-- How many threads hold an instance.
use Rattle.std.proofs.Common.{◌≡◌, ◌==◌, ◌∙◌, ℕ, ◌+◌, ◌<◌, ◌≤◌, List, [], ◌∷◌, ◌++◌, Bool, true, false, cond, if◌then◌else◌, filter, flat_map, map, refl, sym, take, zero, suc, length, drop, get_or, Option, Some, None, is_some, ap, arith}
use Rattle.std.proofs.lemmas.List.{drop_more}
use Rattle.tr_pending.specs.declared.instance.Instance.{Instance}
use Rattle.tr_tracee.specs.declared.thread.Thread.{Thread}
use Rattle.tr_tracee.specs.Lives.{held}
use Rattle.tr_tracee.specs.Threads.{at_group, in_group}
use Rattle.tr_model.specs.declared.fates.Fate.{Fate}
use Rattle.tr_model.specs.declared.fates.Fate.TheVariants.{Flushed}
use Rattle.tr_model.specs.Journals.{occurs}
use Rattle.tr_model.specs.Moves.{ended_by_change, ended_hold}
use Rattle.tr_model.specs.Tables.{ids_of, thread_in}
use Rattle.tr_index.specs.Counts.{bool_to_nat}
use Rattle.tr_threads.specs.Kept.{ends_of, held_by}
use Rattle.tr_threads.proofs.ByIds.{found}
use Rattle.tr_threads.proofs.Rostering.{ids_in}
use Rattle.tr_threads.specs.Held.{held_count}

pub few_endings : (fate : Fate) (a b : Option Instance) → length (ended_hold fate a b) ≤ bool_to_nat (is_some a)
few_endings fate None b = omega arith
few_endings fate (Some i) None = omega arith
few_endings fate (Some i) (Some j) = omega arith

-- how many of the threads of these ids hold one
abbrev pub held_among : List Thread → List ℕ → ℕ
held_among ts [] = 0
held_among ts (n ∷ ns) = bool_to_nat (is_some (held_by (thread_in ts n))) + held_among ts ns

pub held_drop : (ts : List Thread) (ns : List ℕ) (i x : ℕ) → i < length ns → held_among ts (drop i ns) ≡ bool_to_nat (is_some (held_by (thread_in ts (get_or ns i x)))) + held_among ts (drop (i + 1) ns)
held_drop ts ns i x h = ap (held_among ts) (drop_more ns i x h)

pub few_ends : (f : Thread → Thread) (o : Option Thread) → length (ends_of f o) ≤ bool_to_nat (is_some (held_by o))
few_ends f None = omega arith
few_ends f (Some t) = few_endings Flushed (held t.life) (held (f t).life)

-- those of a group's ids are some of all
pub few_held : (g : ℕ) (ts : List Thread) → ((n : ℕ) → occurs n (ids_of ts) ≤ 1) → held_among ts (ids_in g ts) ≤ held_count ts
few_held g ts once = omega (arith, by_map (ids_in g ts), ap sum_held (found (in_group g) ts once), of_some (filter (in_group g) ts), fewer ts)
  where
    sum_held : List (Option Thread) → ℕ
    sum_held [] = 0
    sum_held (o ∷ os) = bool_to_nat (is_some (held_by o)) + sum_held os

    by_map : (ns : List ℕ) → held_among ts ns ≡ sum_held (map (thread_in ts) ns)
    by_map [] = refl
    by_map (n ∷ ns) = omega (arith, by_map ns)

    of_some : (ms : List Thread) → sum_held (map Some ms) ≡ held_count ms
    of_some [] = refl
    of_some (m ∷ ms) = omega (arith, of_some ms)

    fewer : (us : List Thread) → held_count (filter (in_group g) us) ≤ held_count us
    fewer [] = omega arith
    fewer (u ∷ us) = go (u.group == g) (fewer us)
      where
        go : (b : Bool) → held_count (filter (in_group g) us) ≤ held_count us → held_count (cond b (u ∷ filter (in_group g) us) (filter (in_group g) us)) ≤ bool_to_nat (is_some (held u.life)) + held_count us
        go true r = omega (arith, r)
        go false r = omega (arith, r)

-- what a group's threads give up, by their ids
pub ends_by_ids : (f : Thread → Thread) (g : ℕ) (ts : List Thread) → ((n : ℕ) → occurs n (ids_of ts) ≤ 1) → flat_map (λ n. ends_of f (thread_in ts n)) (ids_in g ts) ≡ flat_map (ended_by_change Flushed (at_group g f)) ts
ends_by_ids f g ts once = by_map (ids_in g ts) ∙ (ap (flat_map (ends_of f)) (found (in_group g) ts once) ∙ (of_some (filter (in_group g) ts) ∙ in_all ts))
  where
    by_map : (ns : List ℕ) → flat_map (λ n. ends_of f (thread_in ts n)) ns ≡ flat_map (ends_of f) (map (thread_in ts) ns)
    by_map [] = refl
    by_map (n ∷ ns) = ap (λ es. ends_of f (thread_in ts n) ++ es) (by_map ns)

    of_some : (ms : List Thread) → flat_map (ends_of f) (map Some ms) ≡ flat_map (ended_by_change Flushed f) ms
    of_some [] = refl
    of_some (m ∷ ms) = ap (λ es. ended_by_change Flushed f m ++ es) (of_some ms)

    stays : (o : Option Instance) → ended_hold Flushed o o ≡ []
    stays None = refl
    stays (Some i) = refl

    in_all : (us : List Thread) → flat_map (ended_by_change Flushed f) (filter (in_group g) us) ≡ flat_map (ended_by_change Flushed (at_group g f)) us
    in_all [] = refl
    in_all (u ∷ us) = go (u.group == g) (in_all us)
      where
        go : (b : Bool) → flat_map (ended_by_change Flushed f) (filter (in_group g) us) ≡ flat_map (ended_by_change Flushed (at_group g f)) us
            → flat_map (ended_by_change Flushed f) (cond b (u ∷ filter (in_group g) us) (filter (in_group g) us)) ≡ ended_hold Flushed (held u.life) (held (if b then f u else u).life) ++ flat_map (ended_by_change Flushed (at_group g f)) us
        go true r = ap (λ es. ended_by_change Flushed f u ++ es) r
        go false r = r ∙ sym (ap (λ es. es ++ flat_map (ended_by_change Flushed (at_group g f)) us) (stays (held u.life)))

all_taken : (ns : List ℕ) (i : ℕ) → length ns ≤ i → take i ns ≡ ns
all_taken [] zero h = refl
all_taken [] (suc i) h = refl
all_taken (n ∷ ns) zero h = absurd (omega (arith, h))
all_taken (n ∷ ns) (suc i) h = ap (λ (ms : List ℕ). n ∷ ms) (all_taken ns i (omega (arith, h)))

-- and once all of them are gone through
pub ends_of_all : (f : Thread → Thread) (g : ℕ) (ts : List Thread) (ns : List ℕ) (i : ℕ) → ((n : ℕ) → occurs n (ids_of ts) ≤ 1) → ns ≡ ids_in g ts → length ns ≤ i → flat_map (λ n. ends_of f (thread_in ts n)) (take i ns) ≡ flat_map (ended_by_change Flushed (at_group g f)) ts
ends_of_all f g ts ns i once e le = ap (λ ms. flat_map (λ n. ends_of f (thread_in ts n)) ms) (all_taken ns i le ∙ e) ∙ ends_by_ids f g ts once
