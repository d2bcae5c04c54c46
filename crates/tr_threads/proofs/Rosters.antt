-- How many threads a group has, as a sum; and changes that leave a thread its id and its group.
use Rattle.std.proofs.Common.{◌≡◌, ◌==◌, ◌+◌, ℕ, List, [], ◌∷◌, Bool, true, false, filter, length, cond, arith, refl}
use Rattle.tr_tracee.specs.declared.thread.Thread.{Thread}
use Rattle.tr_tracee.specs.Threads.{in_group}
use Rattle.tr_model.proofs.Measures.{total}
use Rattle.tr_model.proofs.OneFate.{one}

-- the threads of an id and of a group, as sums

abbrev pub is_of : ℕ → Thread → ℕ
is_of g t = one (t.group == g)

pub in_all : (g : ℕ) (ts : List Thread) → total (is_of g) ts ≡ length (filter (in_group g) ts)
in_all g [] = refl
in_all g (t ∷ ts) = go (t.group == g) (in_all g ts)
  where
    go : (b : Bool) → total (is_of g) ts ≡ length (filter (in_group g) ts) → one b + total (is_of g) ts ≡ length (cond b (t ∷ filter (in_group g) ts) (filter (in_group g) ts))
    go true h = omega (arith, h)
    go false h = omega (arith, h)

-- a change of a record that keeps id and group

pub record Same (t u : Thread) : Type 0 where
  pub id : u.id ≡ t.id
  pub group : u.group ≡ t.group
