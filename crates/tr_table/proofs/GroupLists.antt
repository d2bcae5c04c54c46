-- A list of groups beside its ids and its counts.
use Rattle.std.proofs.Common.{◌≡◌, ◌==◌, ◌+◌, ◌<◌, ◌≤◌, ◌^◌, ◌||◌, ◌∙◌, ℕ, zero, suc, List, [], ◌∷◌, Bool, true, false, not, Some, None, cond, if◌then◌else◌, filter, is_some, length, map, set, get_or, remove, take, arith, refl, ap, sym, eq-eqb, eqb-true}
use Rattle.std.specs.List.{list_any}
use Rattle.std.proofs.lemmas.List.{length-map, length-set, take-map}
use Rattle.std.proofs.lemmas.List.Edits.{length-remove}
use Rattle.std.proofs.lemmas.Option.{none-some}
use Rattle.tr_group.specs.GroupStops.{is_stopping}
use Rattle.tr_model.specs.declared.rows.Group.{Group}
use Rattle.tr_model.specs.Journals.{occurs}
use Rattle.tr_model.specs.Moves.{group_changed, only_group}
use Rattle.tr_model.specs.Tables.{group_in}
use Rattle.tr_model.proofs.Costs.{filter-le-length}
use Rattle.tr_index.specs.Counts.{bool_to_nat}
use Rattle.tr_threads.proofs.Counting.{counted_gone, counted_written}
use Rattle.tr_threads.proofs.ThreadLists.{new_at}
use Rattle.tr_table.specs.Changes.{group_changed_by}
use Rattle.tr_table.specs.Private.{IsGroups, tgids_of}
use Rattle.tr_table.specs.declared.groups.GroupChange.{GroupChange}
use Rattle.tr_table.specs.declared.groups.GroupChange.TheVariants as change

pub new_id_at : (xs : List Group) (i : ℕ) (d : Group) → i < length xs → ((n : ℕ) → occurs n (tgids_of xs) ≤ 1) → list_any (λ n. n == (get_or xs i d).tgid) (tgids_of (take i xs)) ≡ false
new_id_at xs i d h once =
    let ns : List ℕ = tgids_of xs in
    let k : get_or ns i d.tgid ≡ (get_or xs i d).tgid = at xs i in
    ap (λ (m : List ℕ). list_any (λ n. n == (get_or xs i d).tgid) m) (sym (take-map (λ (x : Group). x.tgid) i xs))
    ∙ (ap (λ (m : ℕ). list_any (λ n. n == m) (take i ns)) (sym k) ∙ new_at ns i d.tgid (omega (arith, h, length-map xs (λ (x : Group). x.tgid))) once)
  where
    at : (ys : List Group) (j : ℕ) → get_or (tgids_of ys) j d.tgid ≡ (get_or ys j d).tgid
    at [] j = refl
    at (y ∷ ys) zero = refl
    at (y ∷ ys) (suc j) = at ys j

-- a record is written

ids_written : (xs : List Group) (i : ℕ) (d y : Group) → y.tgid ≡ (get_or xs i d).tgid → i < length xs → tgids_of (set xs i y) ≡ tgids_of xs
ids_written [] i d y e h = refl
ids_written (x ∷ xs) zero d y e h = ap (λ (n : ℕ). n ∷ tgids_of xs) e
ids_written (x ∷ xs) (suc i) d y e h = ap (λ (ns : List ℕ). x.tgid ∷ ns) (ids_written xs i d y e (omega (arith, h)))

pub ids_changed : (g : ℕ) (f : Group → Group) → ((x : Group) → (f x).tgid ≡ x.tgid) → (xs : List Group) → tgids_of (map (only_group g f) xs) ≡ tgids_of xs
ids_changed g f kept [] = refl
ids_changed g f kept (x ∷ xs) = λ i. one (x.tgid == g) i ∷ ids_changed g f kept xs i
  where
    one : (b : Bool) → (if b then f x else x).tgid ≡ x.tgid
    one true = kept x
    one false = refl

pub ids_first_changed : (g : ℕ) (f : Group → Group) → ((x : Group) → x.tgid ≡ g → (f x).tgid ≡ g) → (xs : List Group) → tgids_of (group_changed g f xs) ≡ tgids_of xs
ids_first_changed g f kept [] = refl
ids_first_changed g f kept (x ∷ xs) = go (x.tgid == g) refl (ids_first_changed g f kept xs)
  where
    go : (b : Bool) → (x.tgid == g) ≡ b → tgids_of (group_changed g f xs) ≡ tgids_of xs → tgids_of (if b then f x ∷ xs else x ∷ group_changed g f xs) ≡ tgids_of (x ∷ xs)
    go true e r = let k = eqb-true x.tgid g e in ap (λ (n : ℕ). n ∷ tgids_of xs) (kept x k ∙ sym k)
    go false e r = ap (λ (ns : List ℕ). x.tgid ∷ ns) r

pub written : (xs : List Group) (ids : List ℕ) (n m k l i : ℕ) (d y : Group) → IsGroups xs ids n m → i < length xs → y.tgid ≡ (get_or xs i d).tgid → k + bool_to_nat (is_stopping (get_or xs i d).group_stop) ≡ n + bool_to_nat (is_stopping y.group_stop)
    → l + bool_to_nat (is_some (get_or xs i d).note) ≡ m + bool_to_nat (is_some y.note) → IsGroups (set xs i y) ids k l
written xs ids n m k l i d y h w e c o = record {
  indexed = h.indexed ∙ sym (ids_written xs i d y e w);
  counted = omega (arith, c, h.counted, counted_written (λ x. is_stopping x.group_stop) xs i d y w);
  noted = omega (arith, o, h.noted, counted_written (λ x. is_some x.note) xs i d y w);
  few = omega (arith, h.few, length-set xs i y);
}

pub same_tgid : (o : GroupChange) (x : Group) → (group_changed_by o x).tgid ≡ x.tgid
same_tgid (change.Begin s) x = refl
same_tgid change.EndStop x = refl
same_tgid change.Complete x = refl
same_tgid (change.Die e) x = refl
same_tgid (change.Act s how) x = refl
same_tgid change.DropNote x = refl
same_tgid change.ResetActions x = refl

-- one group has the id, so a change of all with it is one of the first

none_left : (g : ℕ) (f : Group → Group) (xs : List Group) → occurs g (tgids_of xs) ≤ 0 → map (only_group g f) xs ≡ xs
none_left g f [] h = refl
none_left g f (x ∷ xs) h = go (x.tgid == g) h (none_left g f xs)
  where
    go : (b : Bool) → (if b then 1 else 0) + occurs g (tgids_of xs) ≤ 0 → (occurs g (tgids_of xs) ≤ 0 → map (only_group g f) xs ≡ xs) → (if b then f x else x) ∷ map (only_group g f) xs ≡ x ∷ xs
    go true k r = absurd (omega (arith, k))
    go false k r = ap (λ us. x ∷ us) (r (omega (arith, k)))

pub only_group_changed : (g : ℕ) (f : Group → Group) (xs : List Group) → occurs g (tgids_of xs) ≤ 1 → map (only_group g f) xs ≡ group_changed g f xs
only_group_changed g f [] h = refl
only_group_changed g f (x ∷ xs) h = go (x.tgid == g) h (only_group_changed g f xs)
  where
    go : (b : Bool) → (if b then 1 else 0) + occurs g (tgids_of xs) ≤ 1 → (occurs g (tgids_of xs) ≤ 1 → map (only_group g f) xs ≡ group_changed g f xs) → (if b then f x else x) ∷ map (only_group g f) xs ≡ (if b then f x ∷ xs else x ∷ group_changed g f xs)
    go true k r = ap (λ us. f x ∷ us) (none_left g f xs (omega (arith, k)))
    go false k r = ap (λ us. x ∷ us) (r (omega (arith, k)))

-- whether a group has the id

id_there : (g : ℕ) (xs : List Group) (i : ℕ) (d : Group) → i < length xs → (get_or xs i d).tgid ≡ g → 1 ≤ occurs g (tgids_of xs)
id_there g [] i d h e = absurd (omega (arith, h))
id_there g (x ∷ xs) zero d h e = rw (eq-eqb x.tgid g e) (omega arith)
id_there g (x ∷ xs) (suc i) d h e = omega (arith, id_there g xs i d (omega (arith, h)) e)

no_id : (g : ℕ) (xs : List Group) → group_in xs g ≡ None → occurs g (tgids_of xs) ≤ 0
no_id g [] e = omega arith
no_id g (x ∷ xs) e = go (x.tgid == g) e (no_id g xs)
  where
    go : (b : Bool) → cond b (Some x) (group_in xs g) ≡ None → (group_in xs g ≡ None → occurs g (tgids_of xs) ≤ 0) → (if b then 1 else 0) + occurs g (tgids_of xs) ≤ 0
    go true q r = absurd (none-some x (sym q))
    go false q r = omega (arith, r q)

none_with_id : (g : ℕ) (xs : List Group) → occurs g (tgids_of xs) ≤ 0 → filter (λ x. x.tgid == g) xs ≡ []
none_with_id g [] h = refl
none_with_id g (x ∷ xs) h = go (x.tgid == g) h (none_with_id g xs)
  where
    go : (b : Bool) → (if b then 1 else 0) + occurs g (tgids_of xs) ≤ 0 → (occurs g (tgids_of xs) ≤ 0 → filter (λ y. y.tgid == g) xs ≡ [])
        → cond b (x ∷ filter (λ y. y.tgid == g) xs) (filter (λ y. y.tgid == g) xs) ≡ []
    go true k r = absurd (omega (arith, k))
    go false k r = r (omega (arith, k))

-- a group goes

pub all_kept : (g : ℕ) (xs : List Group) → filter (λ x. not (x.tgid == g) || true) xs ≡ xs
all_kept g [] = refl
all_kept g (x ∷ xs) = go (x.tgid == g) (all_kept g xs)
  where
    go : (b : Bool) → filter (λ y. not (y.tgid == g) || true) xs ≡ xs → cond (not b || true) (x ∷ filter (λ y. not (y.tgid == g) || true) xs) (filter (λ y. not (y.tgid == g) || true) xs) ≡ x ∷ xs
    go true r = ap (λ us. x ∷ us) r
    go false r = ap (λ us. x ∷ us) r

others_kept : (g : ℕ) (xs : List Group) → occurs g (tgids_of xs) ≤ 0 → filter (λ x. not (x.tgid == g) || false) xs ≡ xs
others_kept g [] h = refl
others_kept g (x ∷ xs) h = go (x.tgid == g) h (others_kept g xs)
  where
    go : (b : Bool) → (if b then 1 else 0) + occurs g (tgids_of xs) ≤ 0 → (occurs g (tgids_of xs) ≤ 0 → filter (λ y. not (y.tgid == g) || false) xs ≡ xs)
        → cond (not b || false) (x ∷ filter (λ y. not (y.tgid == g) || false) xs) (filter (λ y. not (y.tgid == g) || false) xs) ≡ x ∷ xs
    go true k r = absurd (omega (arith, k))
    go false k r = ap (λ us. x ∷ us) (r (omega (arith, k)))

pub none_kept_out : (g : ℕ) (xs : List Group) → group_in xs g ≡ None → filter (λ x. not (x.tgid == g) || false) xs ≡ xs
none_kept_out g xs h = others_kept g xs (no_id g xs h)

pub one_goes : (g : ℕ) (xs : List Group) (i : ℕ) (d : Group) → i < length xs → (get_or xs i d).tgid ≡ g → occurs g (tgids_of xs) ≤ 1 → remove xs i ≡ filter (λ x. not (x.tgid == g) || false) xs
one_goes g [] i d h e once = absurd (omega (arith, h))
one_goes g (x ∷ xs) zero d h e once = go (x.tgid == g) (eq-eqb x.tgid g e) once
  where
    go : (b : Bool) → b ≡ true → (if b then 1 else 0) + occurs g (tgids_of xs) ≤ 1 → xs ≡ cond (not b || false) (x ∷ filter (λ y. not (y.tgid == g) || false) xs) (filter (λ y. not (y.tgid == g) || false) xs)
    go true q k = sym (others_kept g xs (omega (arith, k)))
    go false q k = cc
one_goes g (x ∷ xs) (suc i) d h e once = go (x.tgid == g) once (one_goes g xs i d (omega (arith, h)) e)
  where
    go : (b : Bool) → (if b then 1 else 0) + occurs g (tgids_of xs) ≤ 1 → (occurs g (tgids_of xs) ≤ 1 → remove xs i ≡ filter (λ y. not (y.tgid == g) || false) xs)
        → x ∷ remove xs i ≡ cond (not b || false) (x ∷ filter (λ y. not (y.tgid == g) || false) xs) (filter (λ y. not (y.tgid == g) || false) xs)
    go true k r = absurd (omega (arith, k, id_there g xs i d (omega (arith, h)) e))
    go false k r = ap (λ us. x ∷ us) (r (omega (arith, k)))

pub ids_removed : (xs : List Group) (i : ℕ) → tgids_of (remove xs i) ≡ remove (tgids_of xs) i
ids_removed [] zero = refl
ids_removed [] (suc i) = refl
ids_removed (x ∷ xs) zero = refl
ids_removed (x ∷ xs) (suc i) = ap (λ (ns : List ℕ). x.tgid ∷ ns) (ids_removed xs i)

pub gone : (xs : List Group) (ids : List ℕ) (n m k l i : ℕ) (d : Group) → IsGroups xs ids n m → i < length xs → k + bool_to_nat (is_stopping (get_or xs i d).group_stop) ≡ n → l + bool_to_nat (is_some (get_or xs i d).note) ≡ m → IsGroups (remove xs i) (remove ids i) k l
gone xs ids n m k l i d h w c o = record {
  indexed = ap (λ (ns : List ℕ). remove ns i) h.indexed ∙ sym (ids_removed xs i);
  counted = omega (arith, c, h.counted, counted_gone (λ x. is_stopping x.group_stop) xs i d w);
  noted = omega (arith, o, h.noted, counted_gone (λ x. is_some x.note) xs i d w);
  few = omega (arith, h.few, length-remove xs i w);
}

-- a count of some of them is small
pub countable : (p : Group → Bool) (xs : List Group) (n : ℕ) → length xs ≤ 1024 → n ≡ length (filter p xs) → n < 2 ^ 63
countable p xs n few c = omega (arith, c, few, filter-le-length p xs)

-- the group with an id, alone

pub with_id_there : (g : ℕ) (xs : List Group) (i : ℕ) (d : Group) → i < length xs → (get_or xs i d).tgid ≡ g → occurs g (tgids_of xs) ≤ 1 → get_or xs i d ∷ [] ≡ filter (λ x. x.tgid == g) xs
with_id_there g [] i d h e once = absurd (omega (arith, h))
with_id_there g (x ∷ xs) zero d h e once = go (x.tgid == g) (eq-eqb x.tgid g e) once
  where
    go : (b : Bool) → b ≡ true → (if b then 1 else 0) + occurs g (tgids_of xs) ≤ 1 → x ∷ [] ≡ cond b (x ∷ filter (λ y. y.tgid == g) xs) (filter (λ y. y.tgid == g) xs)
    go true q k = ap (λ us. x ∷ us) (sym (none_with_id g xs (omega (arith, k))))
    go false q k = cc
with_id_there g (x ∷ xs) (suc i) d h e once = go (x.tgid == g) once (with_id_there g xs i d (omega (arith, h)) e)
  where
    go : (b : Bool) → (if b then 1 else 0) + occurs g (tgids_of xs) ≤ 1 → (occurs g (tgids_of xs) ≤ 1 → get_or xs i d ∷ [] ≡ filter (λ y. y.tgid == g) xs)
        → get_or xs i d ∷ [] ≡ cond b (x ∷ filter (λ y. y.tgid == g) xs) (filter (λ y. y.tgid == g) xs)
    go true k r = absurd (omega (arith, k, id_there g xs i d (omega (arith, h)) e))
    go false k r = r (omega (arith, k))

pub with_id_nowhere : (g : ℕ) (xs : List Group) → group_in xs g ≡ None → [] ≡ filter (λ x. x.tgid == g) xs
with_id_nowhere g xs e = sym (none_with_id g xs (no_id g xs e))

-- a wait that asks for any
pub all_asked : (asks : ℕ → Bool) (xs : List Group) → ((n : ℕ) → asks n ≡ true) → xs ≡ filter (λ x. asks x.tgid) xs
all_asked asks xs all = sym (kept xs) ∙ (λ j. filter (λ x. (sym (all x.tgid)) j) xs)
  where
    kept : (ys : List Group) → filter (λ _. true) ys ≡ ys
    kept [] = refl
    kept (y ∷ ys) = ap (λ us. y ∷ us) (kept ys)
