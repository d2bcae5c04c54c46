-- The search for the least new id, one id after the other.
use Rattle.std.proofs.Common.{◌≡◌, ℕ, zero, suc, ◌+◌, ◌-◌, ◌<◌, true, false, Option, Some, None, if◌then◌else◌, ap, ◌∙◌, arith, refl, sym, unwrap_or}
use Rattle.tr_model.specs.Preferred.{least_new, new_id, or_from_2}
use Rattle.tr_model.specs.Steps.{is_new}
use Rattle.tr_model.specs.Tables.{Table}
use Rattle.tr_table.specs.Changes.{ids_table}

one_try : (n k : ℕ) → k < n → n - k ≡ suc (n - (k + 1))
one_try n k h = omega (arith, h)

-- an id that is new is the least
pub least_here : (T : Table) (n id : ℕ) → id < n → is_new T id ≡ true → least_new T (n - id) id ≡ Some id
least_here T n id h e = ap (λ tries. least_new T tries id) (one_try n id h) ∙ ap (λ b. if b then Some id else least_new T (n - (id + 1)) (id + 1)) e

-- else the next are asked
pub least_later : (T : Table) (n id : ℕ) → id < n → is_new T id ≡ false → least_new T (n - id) id ≡ least_new T (n - (id + 1)) (id + 1)
least_later T n id h e = ap (λ tries. least_new T tries id) (one_try n id h) ∙ ap (λ b. if b then Some id else least_new T (n - (id + 1)) (id + 1)) e

pub least_none : (T : Table) (n id : ℕ) → n - id ≡ 0 → least_new T (n - id) id ≡ None
least_none T n id e = ap (λ tries. least_new T tries id) e

pub from_2 : (T : Table) (o : Option ℕ) → o ≡ least_new T 4194302 2 → unwrap_or o 0 ≡ or_from_2 T None
from_2 T (Some id) e = rw (sym e) refl
from_2 T None e = rw (sym e) refl

pub found_above : (T : Table) (g id : ℕ) → Some id ≡ least_new T (4194303 - g) (g + 1) → id ≡ new_id T g
unfolding new_id
found_above T g id e = ap (or_from_2 T) e

pub none_above : (T : Table) (g : ℕ) → None ≡ least_new T (4194303 - g) (g + 1) → or_from_2 T None ≡ new_id T g
unfolding new_id
none_above T g e = ap (or_from_2 T) e

-- the ids of a table are those of its threads and groups
pub same_new_id : (T : Table) (g : ℕ) → new_id (ids_table T.threads T.groups) g ≡ new_id T g
unfolding new_id
same_new_id T g = go (4194303 - g) (g + 1)
  where
    tries : (k id : ℕ) → least_new (ids_table T.threads T.groups) k id ≡ least_new T k id
    tries zero id = refl
    tries (suc k) id = ap (λ o. if is_new T id then Some id else o) (tries k (id + 1))

    go : (k id : ℕ) → or_from_2 (ids_table T.threads T.groups) (least_new (ids_table T.threads T.groups) k id) ≡ or_from_2 T (least_new T k id)
    go k id = ap (or_from_2 (ids_table T.threads T.groups)) (tries k id) ∙ from (least_new T k id)
      where
        from : (o : Option ℕ) → or_from_2 (ids_table T.threads T.groups) o ≡ or_from_2 T o
        from (Some x) = refl
        from None = sym (from_2 (ids_table T.threads T.groups) (least_new T 4194302 2) (sym (tries 4194302 2))) ∙ from_2 T (least_new T 4194302 2) refl
