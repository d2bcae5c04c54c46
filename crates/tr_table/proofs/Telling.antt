-- Which groups have something to tell the starter, and which of them are listed.
use Rattle.std.proofs.Common.{◌≡◌, ◌∙◌, ◌==◌, ◌&&◌, ◌||◌, ◌+◌, ◌<◌, ◌≤◌, ◌⊎◌, inl, inr, ℕ, zero, suc, List, [], ◌∷◌, None, Some, Option, Bool, true, false, not, filter, cond, if◌then◌else◌, is_some, length, nat_lt, get_or, remove, arith, ap, sym, refl, subst, eq-eqb, true≢false}
use Rattle.std.specs.List.{list_any}
use Rattle.std.proofs.lemmas.Bool.{and_right, cases_eq, cases_lt, eqb-true, le-ltb, lt-ltb, ne_eqb, or_from, or_parts}
use Rattle.std.proofs.lemmas.List.{get_or-map, length-map}
use Rattle.std.proofs.lemmas.Option.{slice_get-get_or}
use Rattle.tr_group.specs.GroupStops.{is_stopping}
use Rattle.tr_tracee.specs.declared.thread.Thread.{Thread}
use Rattle.tr_tracee.specs.Threads.{in_group, is_traced}
use Rattle.tr_model.specs.declared.rows.Group.{Group}
use Rattle.tr_model.specs.Journals.{occurs}
use Rattle.tr_model.specs.Tables.{Table, ids_of, stop_of, thread_in}
use Rattle.tr_index.specs.Places.{place_in}
use Rattle.tr_index.proofs.Places.{first, first_is}
use Rattle.tr_index.proofs.Positions.{place_at}
use Rattle.tr_threads.specs.Waits.{is_stray_death, is_untraced_death}
use Rattle.tr_table.specs.Private.{IsGroupPlace, IsNextPlace, tgids_of}
use Rattle.tr_table.specs.Settled.{NoneBut, can_complete, has_mark, is_listed, is_open, is_open_row, leader_died, tells, tells_of}
use Rattle.tr_table.specs.Telling.{IsNextTelling, has_died, tells_starter}
use Rattle.tr_table.specs.declared.unsettled.Unsettled.TheVariants.{In, Nowhere}
use Rattle.tr_table.proofs.GroupLists.{ids_removed, with_id_nowhere, with_id_there}

-- the leader's death

any_if : (b : Bool) (p : Thread → Bool) (t : Thread) (ts : List Thread) → list_any p (cond b (t ∷ ts) ts) ≡ (if b then p t || list_any p ts else list_any p ts)
any_if true p t ts = refl
any_if false p t ts = refl

no_leader : (g : ℕ) (ts : List Thread) → occurs g (ids_of ts) ≤ 0 → leader_died ts g ≡ false
no_leader g [] h = refl
no_leader g (t ∷ ts) h = any_if (t.group == g) (λ u. u.id == g && is_untraced_death u) t (filter (in_group g) ts) ∙ go (t.id == g) (t.group == g) h (no_leader g ts)
  where
    go : (a b : Bool) → (if a then 1 else 0) + occurs g (ids_of ts) ≤ 0 → (occurs g (ids_of ts) ≤ 0 → leader_died ts g ≡ false)
        → (if b then a && is_untraced_death t || leader_died ts g else leader_died ts g) ≡ false
    go true b k r = absurd (omega (arith, k))
    go false true k r = r (omega (arith, k))
    go false false k r = r (omega (arith, k))

-- it leads the group, and its death is the starter's to be told
abbrev pub is_dead_leader : ℕ → Option Thread → Bool
is_dead_leader g None = false
is_dead_leader g (Some t) = t.group == g && is_untraced_death t

pub leader_is : (g : ℕ) (ts : List Thread) → occurs g (ids_of ts) ≤ 1 → is_dead_leader g (thread_in ts g) ≡ leader_died ts g
leader_is g [] once = refl
leader_is g (t ∷ ts) once = go (t.id == g) (t.group == g) refl once (leader_is g ts) (no_leader g ts) ∙ sym (any_if (t.group == g) (λ u. u.id == g && is_untraced_death u) t (filter (in_group g) ts))
  where
    go : (a b : Bool) → (t.group == g) ≡ b → (if a then 1 else 0) + occurs g (ids_of ts) ≤ 1 → (occurs g (ids_of ts) ≤ 1 → is_dead_leader g (thread_in ts g) ≡ leader_died ts g) → (occurs g (ids_of ts) ≤ 0 → leader_died ts g ≡ false)
        → is_dead_leader g (cond a (Some t) (thread_in ts g)) ≡ (if b then a && is_untraced_death t || leader_died ts g else leader_died ts g)
    go true true e k r none = ap (λ (b : Bool). b && is_untraced_death t) e ∙ (alone (is_untraced_death t) ∙ ap (λ (b : Bool). is_untraced_death t || b) (sym (none (omega (arith, k)))))
      where
        alone : (b : Bool) → b ≡ (b || false)
        alone true = refl
        alone false = refl
    go true false e k r none = ap (λ (b : Bool). b && is_untraced_death t) e ∙ sym (none (omega (arith, k)))
    go false true e k r none = r (omega (arith, k))
    go false false e k r none = r (omega (arith, k))

pub deathless : (g : ℕ) (ts : List Thread) → list_any is_untraced_death ts ≡ false → leader_died ts g ≡ false
deathless g [] h = refl
deathless g (t ∷ ts) h = let p = or_parts _ _ h in any_if (t.group == g) (λ u. u.id == g && is_untraced_death u) t (filter (in_group g) ts) ∙ go (t.group == g) (and_right (t.id == g) (is_untraced_death t) p.0) (deathless g ts p.1)
  where
    go : (b : Bool) → (t.id == g && is_untraced_death t) ≡ false → leader_died ts g ≡ false → (if b then t.id == g && is_untraced_death t || leader_died ts g else leader_died ts g) ≡ false
    go true e r = or_from _ _ e r
    go false e r = r

-- whoever has the group's id hasn't died, where its leader hasn't, and no thread that leads no group
no_death : (g : ℕ) (ts : List Thread) → leader_died ts g ≡ false → list_any is_stray_death ts ≡ false → has_died (thread_in ts g) ≡ false
no_death g [] led stray = refl
no_death g (t ∷ ts) led stray =
    let p = or_parts _ _ stray in
    go (cases_eq t.id g) (t.group == g) refl (sym (any_if (t.group == g) (λ u. u.id == g && is_untraced_death u) t (filter (in_group g) ts)) ∙ led) p.0 (λ h. no_death g ts h p.1)
  where
    go : (t.id ≡ g) ⊎ (t.id ≡ g → ⊥) → (b : Bool) → (t.group == g) ≡ b → (if b then t.id == g && is_untraced_death t || leader_died ts g else leader_died ts g) ≡ false → (is_untraced_death t && not (t.id == t.group)) ≡ false
        → (leader_died ts g ≡ false → has_died (thread_in ts g) ≡ false) → has_died (thread_in (t ∷ ts) g) ≡ false
    go (inl e) true k l s r = rw (eq-eqb t.id g e) (or_parts _ _ (ap (λ (b : Bool). b && is_untraced_death t || leader_died ts g) (sym (eq-eqb t.id g e)) ∙ l)).0
    go (inl e) false k l s r =
        let apart : (t.id == t.group) ≡ false = ne_eqb t.id t.group (λ j. true≢false (sym (eq-eqb t.group g (sym j ∙ e)) ∙ k)) in
        rw (eq-eqb t.id g e) (alone (is_untraced_death t) (ap (λ (b : Bool). is_untraced_death t && not b) (sym apart) ∙ s))
      where
        alone : (b : Bool) → (b && true) ≡ false → b ≡ false
        alone true q = q
        alone false q = refl
    go (inr e) true k l s r = rw (ne_eqb t.id g e) (r (or_parts _ _ l).1)
    go (inr e) false k l s r = rw (ne_eqb t.id g e) (r l)

-- what a look at the groups tells

stops_left : (g : ℕ) (ts : List Thread) (listed : Group → Bool) (xs : List Group) → ((k : ℕ) (d : Group) → k < length xs → is_open_row ts (listed (get_or xs k d)) (get_or xs k d) ≡ false) → can_complete ts xs g ≡ false
stops_left g ts listed [] h = refl
stops_left g ts listed (x ∷ xs) h = go (cases_eq x.tgid g) (or_parts _ _ (h 0 x (omega arith))).0 (stops_left g ts listed xs (λ k d l. h (suc k) d (omega (arith, l))))
  where
    go : (x.tgid ≡ g) ⊎ (x.tgid ≡ g → ⊥) → (is_stopping x.group_stop && not (has_mark ts x.tgid)) ≡ false → can_complete ts xs g ≡ false → can_complete ts (x ∷ xs) g ≡ false
    go (inl e) k r = rw (eq-eqb x.tgid g e) (ap (λ n. is_stopping x.group_stop && not (has_mark ts n)) (sym e) ∙ k)
    go (inr e) k r = rw (ne_eqb x.tgid g e) r

either : (a b c : Bool) → (a && c) ≡ false → (b && c) ≡ false → ((a || b) && c) ≡ false
either true b c h k = h
either false b c h k = k

told_left : (g : ℕ) (ts : List Thread) (listed : ℕ → Bool) (xs : List Group) → ((k : ℕ) (d : Group) → k < length xs → is_open_row ts (listed (get_or xs k d).tgid) (get_or xs k d) ≡ false) → (tells_of ts xs g && not (listed g)) ≡ false
told_left g ts listed [] h = refl
told_left g ts listed (x ∷ xs) h = go (cases_eq x.tgid g) (or_parts _ _ (h 0 x (omega arith))).1 (told_left g ts listed xs (λ k d l. h (suc k) d (omega (arith, l))))
  where
    go : (x.tgid ≡ g) ⊎ (x.tgid ≡ g → ⊥) → (tells ts x && not (listed x.tgid)) ≡ false → (tells_of ts xs g && not (listed g)) ≡ false → (tells_of ts (x ∷ xs) g && not (listed g)) ≡ false
    go (inl e) k r = rw (eq-eqb x.tgid g e) (either (tells ts x) (tells_of ts xs g) (not (listed g)) (ap (λ n. tells ts x && not (listed n)) (sym e) ∙ k) r)
    go (inr e) k r = rw (ne_eqb x.tgid g e) r

-- the place of a group's id is its own
pub own_place : (xs : List Group) (k : ℕ) (d : Group) → ((n : ℕ) → occurs n (tgids_of xs) ≤ 1) → k < length xs → place_in (get_or xs k d).tgid (tgids_of xs) ≡ k
own_place xs k d once l = place_at _ k d.tgid (tgids_of xs) (omega (arith, l, length-map xs (λ (x : Group). x.tgid))) (get_or-map (λ (x : Group). x.tgid) xs k d d.tgid l) (once (get_or xs k d).tgid)

-- no group is open where none at any place is
pub nowhere_left : (ts : List Thread) (xs : List Group) (places : List ℕ) → ((n : ℕ) → occurs n (tgids_of xs) ≤ 1) → ((k : ℕ) (d : Group) → k < length xs → is_open_row ts (not (occurs k places == 0)) (get_or xs k d) ≡ false) → NoneBut Nowhere ts xs (is_listed xs places)
nowhere_left ts xs places once h g = or_from _ _ (stops_left g ts (λ x. is_listed xs places x.tgid) xs left) (told_left g ts (is_listed xs places) xs left)
  where
    left : (k : ℕ) (d : Group) → k < length xs → is_open_row ts (is_listed xs places (get_or xs k d).tgid) (get_or xs k d) ≡ false
    left k d l = ap (λ (p : ℕ). is_open_row ts (not (occurs p places == 0)) (get_or xs k d)) (own_place xs k d once l) ∙ h k d l

-- with no note and no death nothing is told, and with an empty list nothing either

pub untold : (ts : List Thread) (xs : List Group) → list_any (λ x. is_some x.note) xs ≡ false → list_any is_untraced_death ts ≡ false → (g : ℕ) → tells_of ts xs g ≡ false
untold ts [] notes deaths g = refl
untold ts (x ∷ xs) notes deaths g =
    let p = or_parts _ _ notes in
    let here : tells ts x ≡ false = or_from _ _ (ap (λ b. b && not (list_any is_traced (filter (in_group x.tgid) ts))) p.0) (deathless x.tgid ts deaths) in
    go (x.tgid == g) here (untold ts xs p.1 deaths g)
  where
    go : (b : Bool) → tells ts x ≡ false → tells_of ts xs g ≡ false → list_any (tells ts) (cond b (x ∷ filter (λ y. y.tgid == g) xs) (filter (λ y. y.tgid == g) xs)) ≡ false
    go true e r = or_from _ _ e r
    go false e r = r

none_of : (ns : List ℕ) (g : ℕ) → length ns ≡ 0 → occurs g ns ≡ 0
none_of [] g e = refl
none_of (n ∷ ns) g e = absurd (omega (arith, e))

unlisted_tells : (b c : Bool) → (b && not c) ≡ false → c ≡ false → b ≡ false
unlisted_tells true true h e = e
unlisted_tells true false h e = h
unlisted_tells false c h e = refl

pub unlisted : (ts : List Thread) (xs : List Group) (places : List ℕ) → length places ≡ 0 → NoneBut Nowhere ts xs (is_listed xs places) → (g : ℕ) → tells_of ts xs g ≡ false
unlisted ts xs places e h g = unlisted_tells _ _ (or_parts _ _ (h g)).1 (ap (λ (n : ℕ). not (n == 0)) (none_of places _ e))

-- a group tells nothing where none with its id does
own_row : (ts : List Thread) (xs : List Group) (k : ℕ) (d : Group) → k < length xs → tells_of ts xs (get_or xs k d).tgid ≡ false → tells ts (get_or xs k d) ≡ false
own_row ts [] k d l h = absurd (omega (arith, l))
own_row ts (x ∷ xs) zero d l h = (or_parts _ _ (ap (λ b. list_any (tells ts) (cond b (x ∷ filter (λ y. y.tgid == x.tgid) xs) (filter (λ y. y.tgid == x.tgid) xs))) (sym (eq-eqb x.tgid x.tgid refl)) ∙ h)).0
own_row ts (x ∷ xs) (suc k) d l h = own_row ts xs k d (omega (arith, l)) (rest (x.tgid == (get_or xs k d).tgid) h)
  where
    others : List Group
    others = filter (λ y. y.tgid == (get_or xs k d).tgid) xs

    rest : (b : Bool) → list_any (tells ts) (cond b (x ∷ others) others) ≡ false → list_any (tells ts) others ≡ false
    rest true e = (or_parts _ _ e).1
    rest false e = e

none_at_all : {A : Type 0} (p : A → Bool) (xs : List A) → ((k : ℕ) (d : A) → k < length xs → p (get_or xs k d) ≡ false) → list_any p xs ≡ false
none_at_all p [] h = refl
none_at_all p (x ∷ xs) h = or_from _ _ (h 0 x (omega arith)) (none_at_all p xs (λ k d l. h (suc k) d (omega (arith, l))))

pub unshown : (ts : List Thread) (xs : List Group) → ((g : ℕ) → tells_of ts xs g ≡ false) → list_any (λ x. is_some x.note && not (list_any is_traced (filter (in_group x.tgid) ts))) xs ≡ false
unshown ts xs h = none_at_all (λ x. is_some x.note && not (list_any is_traced (filter (in_group x.tgid) ts))) xs (λ k d l. (or_parts _ _ (own_row ts xs k d l (h (get_or xs k d).tgid))).0)

pub noteless : (ts : List Thread) (xs : List Group) → list_any (λ x. is_some x.note) xs ≡ false → list_any (λ x. is_some x.note && not (list_any is_traced (filter (in_group x.tgid) ts))) xs ≡ false
noteless ts [] h = refl
noteless ts (x ∷ xs) h = let p = or_parts _ _ h in or_from _ _ (ap (λ b. b && not (list_any is_traced (filter (in_group x.tgid) ts))) p.0) (noteless ts xs p.1)

-- the groups whose places aren't listed have nothing to tell

pub none_tells : (T : Table) (places : List ℕ) → ((n : ℕ) → occurs n (tgids_of T.groups) ≤ 1) → NoneBut Nowhere T.threads T.groups (is_listed T.groups places) → list_any is_stray_death T.threads ≡ false
    → (k : ℕ) (d : Group) → k < length T.groups → occurs k places ≡ 0 → tells_starter T (get_or T.groups k d) ≡ false
none_tells T places once none stray k d l out =
    let x : Group = get_or T.groups k d in
    let unlisted : is_listed T.groups places x.tgid ≡ false = ap (λ (p : ℕ). not (occurs p places == 0)) (own_place T.groups k d once l) ∙ ap (λ (n : ℕ). not (n == 0)) out in
    let p = or_parts _ _ (own_row T.threads T.groups k d l (unlisted_tells _ _ (or_parts _ _ (none x.tgid)).1 unlisted)) in
    or_from _ _ (no_death x.tgid T.threads p.1 stray) p.0

pub next_told : (T : Table) (places : List ℕ) (from : ℕ) (r : Option ℕ) → IsNextPlace from (length T.groups) places r → ((k : ℕ) (d : Group) → k < length T.groups → occurs k places ≡ 0 → tells_starter T (get_or T.groups k d) ≡ false) → IsNextTelling T T.groups from r
next_told T places from None h none = λ k d le l. none k d l (h k le l)
next_told T places from (Some i) h none = (h.0, h.1, λ k d le l. none k d (omega (arith, l, h.1)) (h.2 k le l))

-- a group goes, and the places after its own close up

place_gone : (n i d : ℕ) (ids : List ℕ) → i < length ids → (get_or ids i d ≡ n → ⊥) → place_in n ids ≡ (if nat_lt (place_in n (remove ids i)) i then place_in n (remove ids i) else place_in n (remove ids i) + 1)
place_gone n i d [] l ne = absurd (omega (arith, l))
place_gone n zero d (x ∷ xs) l ne = ap (λ b. cond (not b) (1 + place_in n xs) 0) (ne_eqb x n ne) ∙ sym (ap (λ (b : Bool). if b then place_in n xs else place_in n xs + 1) (le-ltb (place_in n xs) 0 (omega arith)) ∙ swapped (place_in n xs))
  where
    swapped : (p : ℕ) → p + 1 ≡ 1 + p
    swapped p = omega arith
place_gone n (suc i) d (x ∷ xs) l ne = go (x == n) (place_gone n i d xs (omega (arith, l)) ne)
  where
    p : ℕ
    p = place_in n (remove xs i)

    later : (q : ℕ) → (p < i) ⊎ (i ≤ p) → q ≡ (if nat_lt p i then p else p + 1) → 1 + q ≡ (if nat_lt (1 + p) (suc i) then 1 + p else 1 + p + 1)
    later q (inl h) r = rw (lt-ltb (1 + p) (suc i) (omega (arith, h))) (omega (arith, r ∙ ap (λ (b : Bool). if b then p else p + 1) (lt-ltb p i h)))
    later q (inr h) r = rw (le-ltb (1 + p) (suc i) (omega (arith, h))) (omega (arith, r ∙ ap (λ (b : Bool). if b then p else p + 1) (le-ltb p i h)))

    go : (b : Bool) → place_in n xs ≡ (if nat_lt p i then p else p + 1) → cond (not b) (1 + place_in n xs) 0 ≡ (if nat_lt (cond (not b) (1 + p) 0) (suc i) then cond (not b) (1 + p) 0 else cond (not b) (1 + p) 0 + 1)
    go true r = sym (ap (λ (b : Bool). if b then 0 else 0 + 1) (lt-ltb 0 (suc i) (omega arith)))
    go false r = later (place_in n xs) (cases_lt p i) r

pub listed_closed_up : (xs : List Group) (i : ℕ) (d : Group) (g n : ℕ) (before after : List ℕ) → i < length xs → (get_or xs i d).tgid ≡ g → (g ≡ n → ⊥) → ((m : ℕ) → occurs m after ≡ occurs (if nat_lt m i then m else m + 1) before) → is_listed (remove xs i) after n ≡ is_listed xs before n
listed_closed_up xs i d g n before after l e ne closed =
    ap (λ (k : ℕ). not (k == 0)) (
    ap (λ (ids : List ℕ). occurs (place_in n ids) after) (ids_removed xs i)
    ∙ (closed (place_in n (remove (tgids_of xs) i))
    ∙ ap (λ (p : ℕ). occurs p before) (sym (place_gone n i d.tgid (tgids_of xs) (omega (arith, l, length-map xs (λ (x : Group). x.tgid))) (λ k. ne (sym e ∙ (sym (get_or-map (λ (x : Group). x.tgid) xs i d d.tgid l) ∙ k))))))
    )

-- a group is listed, or is listed no more

stands : (n d : ℕ) (ids : List ℕ) → first (λ m. m == n) ids < length ids → get_or ids (first (λ m. m == n) ids) d ≡ n
stands n d [] h = absurd (omega (arith, h))
stands n d (x ∷ xs) h = go (x == n) refl h (stands n d xs)
  where
    go : (b : Bool) → (x == n) ≡ b → (if b then 0 else suc (first (λ m. m == n) xs)) < suc (length xs) → (first (λ m. m == n) xs < length xs → get_or xs (first (λ m. m == n) xs) d ≡ n) → get_or (x ∷ xs) (if b then 0 else suc (first (λ m. m == n) xs)) d ≡ n
    go true e k r = eqb-true x n e
    go false e k r = r (omega (arith, k))

pub relisted_others : (xs : List Group) (i g n : ℕ) (before after : List ℕ) → IsGroupPlace g xs (Some i) → (g ≡ n → ⊥) → ((m : ℕ) → (i == m) ≡ false → occurs m after ≡ occurs m before) → is_listed xs after n ≡ is_listed xs before n
relisted_others [] i g n before after there ne same = absurd (omega (arith, there.0))
relisted_others (x ∷ xs) i g n before after there ne same = ap (λ (k : ℕ). not (k == 0)) (same (place_in n ids) (ne_eqb i (place_in n ids) apart))
  where
    ids : List ℕ
    ids = tgids_of (x ∷ xs)

    at : get_or ids i x.tgid ≡ g
    at = get_or-map (λ (y : Group). y.tgid) (x ∷ xs) i x x.tgid there.0 ∙ there.3 x

    apart : i ≡ place_in n ids → ⊥
    apart e =
        let here : i ≡ first (λ m. m == n) ids = e ∙ sym (first_is (λ m. m == n) ids) in
        ne (sym at ∙ (ap (λ k. get_or ids k x.tgid) here ∙ stands n x.tgid ids (omega (arith, sym here, there.0, length-map (x ∷ xs) (λ (y : Group). y.tgid)))))

pub relisted_own : (xs : List Group) (i g : ℕ) (places : List ℕ) (b : Bool) → IsGroupPlace g xs (Some i) → ((n : ℕ) → occurs n (tgids_of xs) ≤ 1) → (not b || not (occurs i places == 0)) ≡ true → (b && not (is_listed xs places g)) ≡ false
relisted_own [] i g places b there once h = absurd (omega (arith, there.0))
relisted_own (x ∷ xs) i g places b there once h =
    let at : place_in g (tgids_of (x ∷ xs)) ≡ i = ap (λ n. place_in n (tgids_of (x ∷ xs))) (sym (there.3 x)) ∙ own_place (x ∷ xs) i x once there.0 in
    ap (λ (p : ℕ). b && not (not (occurs p places == 0))) at ∙ go b (not (occurs i places == 0)) h
  where
    go : (b c : Bool) → (not b || c) ≡ true → (b && not c) ≡ false
    go true c k = ap not k
    go false c k = refl

-- a group that isn't there isn't open, and one that is listed where it has something to tell is open for its stop alone

pub closed_nowhere : (ts : List Thread) (xs : List Group) (listed : ℕ → Bool) (g : ℕ) → IsGroupPlace g xs None → is_open ts xs listed g ≡ false
closed_nowhere ts xs listed g none = or_from _ _
    (ap (λ o. is_stopping (stop_of o) && not (has_mark ts g)) none.1)
    (ap (λ ys. list_any (tells ts) ys && not (listed g)) (sym (with_id_nowhere g xs none.1)))

pub closed_there : (ts : List Thread) (xs : List Group) (i g : ℕ) (x : Group) (places : List ℕ) → x ≡ get_or xs i x → IsGroupPlace g xs (Some i) → ((n : ℕ) → occurs n (tgids_of xs) ≤ 1)
    → (is_stopping x.group_stop && not (has_mark ts x.tgid)) ≡ false → (not (tells ts x) || not (occurs i places == 0)) ≡ true → is_open ts xs (is_listed xs places) g ≡ false
closed_there ts xs i g x places at there once stop listed = or_from _ _
    (ap (λ o. is_stopping (stop_of o) && not (has_mark ts g)) (there.2 ∙ (slice_get-get_or xs i x there.0 ∙ ap Some (sym at))) ∙ (ap (λ n. is_stopping x.group_stop && not (has_mark ts n)) (sym own) ∙ stop))
    (ap (λ b. b && not (is_listed xs places g)) told ∙ relisted_own xs i g places (tells ts x) there once listed)
  where
    own : x.tgid ≡ g
    own = ap (λ (y : Group). y.tgid) at ∙ there.3 x

    alone : (b : Bool) → (b || false) ≡ b
    alone true = refl
    alone false = refl

    told : tells_of ts xs g ≡ tells ts x
    told = ap (list_any (tells ts)) (sym (with_id_there g xs i x there.0 (there.3 x) (once g))) ∙ (ap (λ (y : Group). tells ts y || false) (sym at) ∙ alone (tells ts x))

-- nothing but the listing of one group has changed

pub relisted : (n : ℕ) (ts : List Thread) (xs : List Group) (before after : ℕ → Bool) → ((g : ℕ) → (n ≡ g → ⊥) → after g ≡ before g) → NoneBut (In n) ts xs before → NoneBut (In n) ts xs after
relisted n ts xs before after same h = λ g ne. ap (λ b. can_complete ts xs g || tells_of ts xs g && not b) (same g ne) ∙ h g ne

pub settled_in : (n : ℕ) (ts : List Thread) (xs : List Group) (before after : ℕ → Bool) → ((g : ℕ) → (n ≡ g → ⊥) → after g ≡ before g) → NoneBut (In n) ts xs before → can_complete ts xs n ≡ false → (tells_of ts xs n && not (after n)) ≡ false → NoneBut Nowhere ts xs after
settled_in n ts xs before after same h stop told = λ g. go g (cases_eq n g)
  where
    go : (g : ℕ) → (n ≡ g) ⊎ (n ≡ g → ⊥) → is_open ts xs after g ≡ false
    go g (inl e) = subst (λ m. is_open ts xs after m ≡ false) e (or_from _ _ stop told)
    go g (inr ne) = relisted n ts xs before after same h g ne
