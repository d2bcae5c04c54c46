-- What happens to one group leaves whether another is open.
use Rattle.std.proofs.Common.{◌≡◌, ◌∙◌, ◌==◌, ◌&&◌, ◌||◌, ◌++◌, ◌+◌, ◌≤◌, ◌⊎◌, inl, inr, ℕ, List, [], ◌∷◌, None, Some, Result, Ok, Err, Option, Bool, true, false, not, map, filter, cond, if◌then◌else◌, nat_lt, arith, ap, sym, refl, subst, eq-eqb}
use Rattle.std.specs.Prelude.{OnErr, OnOk, is_some}
use Rattle.std.specs.List.{list_any}
use Rattle.std.proofs.lemmas.Bool.{cases_eq, ne_eqb}
use Rattle.std.proofs.lemmas.Option.{none-some}
use Rattle.tr_group.specs.GroupStops.{is_stopping}
use Rattle.tr_tracee.specs.declared.thread.Thread.{Thread}
use Rattle.tr_tracee.specs.Lives.{is_dead}
use Rattle.tr_tracee.specs.Threads.{at_group, in_group, is_traced}
use Rattle.tr_model.specs.declared.rows.Group.{Group}
use Rattle.tr_model.specs.Journals.{occurs}
use Rattle.tr_model.specs.Moves.{dropped, group_changed, in_leaders_row, only_group, renamed}
use Rattle.tr_model.specs.Tables.{group_in, group_of_thread, ids_of, stop_of, thread_in}
use Rattle.tr_index.specs.Places.{place_in}
use Rattle.tr_table.specs.Order.{IsRoster}
use Rattle.tr_table.specs.Private.{IsGone, tgids_of}
use Rattle.tr_table.specs.Settled.{NoneBut, has_mark, is_listed, is_open, tells, tells_of, touched}
use Rattle.tr_table.specs.declared.unsettled.Unsettled.{Unsettled}
use Rattle.tr_table.specs.declared.unsettled.Unsettled.TheVariants.{Anywhere, In, Nowhere}
use Rattle.tr_table.proofs.GroupLists.{ids_changed, ids_first_changed}
use Rattle.tr_table.proofs.Telling.{listed_closed_up}
use Rattle.tr_table.proofs.Rosters.{roster_dropped}
use Rattle.tr_threads.specs.Waits.{is_untraced_death}
use Rattle.tr_threads.proofs.ThreadLists.{left, others_left}

-- where nothing but one group has become another, no other has come to be open
pub moved : (listed more : ℕ → Bool) (g : ℕ) (u : Unsettled) (ts us : List Thread) (xs ys : List Group) → ((n : ℕ) → (g ≡ n → ⊥) → is_open us ys more n ≡ is_open ts xs listed n) → NoneBut u ts xs listed → NoneBut (touched g u) us ys more
moved listed more g Nowhere ts us xs ys same h = λ n ne. same n ne ∙ h n
moved listed more g (In m) ts us xs ys same h = go (cases_eq m g)
  where
    go : (m ≡ g) ⊎ (m ≡ g → ⊥) → NoneBut (if m == g then In m else Anywhere) us ys more
    go (inl e) = rw (eq-eqb m g e) (λ n ne. same n (λ k. ne (e ∙ k)) ∙ h n ne)
    go (inr e) = rw (ne_eqb m g e) tt
moved listed more g Anywhere ts us xs ys same h = tt

moved_two : (listed : ℕ → Bool) (g h : ℕ) (u : Unsettled) (ts us : List Thread) (xs : List Group) → ((n : ℕ) → (g ≡ n → ⊥) → (h ≡ n → ⊥) → is_open us xs listed n ≡ is_open ts xs listed n) → NoneBut u ts xs listed → NoneBut (touched h (touched g u)) us xs listed
moved_two listed g h Nowhere ts us xs same none = go (cases_eq g h)
  where
    go : (g ≡ h) ⊎ (g ≡ h → ⊥) → NoneBut (if g == h then In g else Anywhere) us xs listed
    go (inl e) = rw (eq-eqb g h e) (λ n ne. same n ne (λ k. ne (e ∙ k)) ∙ none n)
    go (inr e) = rw (ne_eqb g h e) tt
moved_two listed g h (In m) ts us xs same none = go (cases_eq m g) (cases_eq m h)
  where
    go : (m ≡ g) ⊎ (m ≡ g → ⊥) → (m ≡ h) ⊎ (m ≡ h → ⊥) → NoneBut (touched h (if m == g then In m else Anywhere)) us xs listed
    go (inl e) (inl k) = rw (eq-eqb m g e, eq-eqb m h k) (λ n ne. same n (λ j. ne (e ∙ j)) (λ j. ne (k ∙ j)) ∙ none n ne)
    go (inl e) (inr k) = rw (eq-eqb m g e, ne_eqb m h k) tt
    go (inr e) w = rw (ne_eqb m g e) tt
moved_two listed g h Anywhere ts us xs same none = tt

-- threads

-- the group's rows tell what they told
members_tell : (ts us : List Thread) (n : ℕ) → filter (in_group n) us ≡ filter (in_group n) ts → (xs : List Group) → tells_of us xs n ≡ tells_of ts xs n
members_tell ts us n e [] = refl
members_tell ts us n e (x ∷ xs) = go (cases_eq x.tgid n) (members_tell ts us n e xs)
  where
    told : List Thread → Bool
    told ms = is_some x.note && not (list_any is_traced ms) || list_any (λ t. t.id == x.tgid && is_untraced_death t) ms

    go : (x.tgid ≡ n) ⊎ (x.tgid ≡ n → ⊥) → tells_of us xs n ≡ tells_of ts xs n → tells_of us (x ∷ xs) n ≡ tells_of ts (x ∷ xs) n
    go (inl k) r = rw (eq-eqb x.tgid n k) (λ i. told (subst (λ g. filter (in_group g) us ≡ filter (in_group g) ts) (sym k) e i) || r i)
    go (inr k) r = rw (ne_eqb x.tgid n k) r

by_members : (listed : ℕ → Bool) (ts us : List Thread) (xs : List Group) (n : ℕ) → filter (in_group n) us ≡ filter (in_group n) ts → is_open us xs listed n ≡ is_open ts xs listed n
by_members listed ts us xs n e =
    let stop = ap (λ (ms : List Thread). is_stopping (stop_of (group_in xs n)) && not (list_any (λ t. t.stop_mark) ms)) e in
    let told = members_tell ts us n e xs in
    λ i. stop i || told i && not (listed n)

-- no other group's threads have changed
pub moved_members : (listed : ℕ → Bool) (g : ℕ) (u : Unsettled) (ts us : List Thread) (xs : List Group) → ((n : ℕ) → (g ≡ n → ⊥) → filter (in_group n) us ≡ filter (in_group n) ts) → NoneBut u ts xs listed → NoneBut (touched g u) us xs listed
moved_members listed g u ts us xs same h = moved listed listed g u ts us xs xs (λ n ne. by_members listed ts us xs n (same n ne)) h

pub moved_two_members : (listed : ℕ → Bool) (g h : ℕ) (u : Unsettled) (ts us : List Thread) (xs : List Group) → ((n : ℕ) → (g ≡ n → ⊥) → (h ≡ n → ⊥) → filter (in_group n) us ≡ filter (in_group n) ts) → NoneBut u ts xs listed → NoneBut (touched h (touched g u)) us xs listed
moved_two_members listed g h u ts us xs same none = moved_two listed g h u ts us xs (λ n ne other. by_members listed ts us xs n (same n ne other)) none

pub members_changed : (g n : ℕ) (f : Thread → Thread) → ((t : Thread) → (f t).group ≡ t.group) → (g ≡ n → ⊥) → (ts : List Thread) → filter (in_group n) (map (at_group g f) ts) ≡ filter (in_group n) ts
members_changed g n f kept ne [] = refl
members_changed g n f kept ne (t ∷ ts) = go (cases_eq t.group g) (members_changed g n f kept ne ts)
  where
    go : (t.group ≡ g) ⊎ (t.group ≡ g → ⊥) → filter (in_group n) (map (at_group g f) ts) ≡ filter (in_group n) ts → filter (in_group n) (at_group g f t ∷ map (at_group g f) ts) ≡ filter (in_group n) (t ∷ ts)
    go (inl e) rest =
        let out : (t.group == n) ≡ false = ne_eqb t.group n (λ k. ne (sym e ∙ k)) in
        let still : ((f t).group == n) ≡ false = ne_eqb (f t).group n (λ k. ne (sym e ∙ (sym (kept t) ∙ k))) in
        rw (eq-eqb t.group g e, out, still) rest
    go (inr e) rest = rw (ne_eqb t.group g e) (ap (λ (us : List Thread). cond (t.group == n) (t ∷ us) us) rest)

pub members_dropped : (id n : ℕ) (t : Thread) → (t.group ≡ n → ⊥) → (ts : List Thread) → thread_in ts id ≡ Some t → filter (in_group n) (dropped id ts) ≡ filter (in_group n) ts
members_dropped id n t ne [] e = refl
members_dropped id n t ne (x ∷ ts) e = go (x.id == id) e (members_dropped id n t ne ts)
  where
    go : (b : Bool) → cond b (Some x) (thread_in ts id) ≡ Some t → (thread_in ts id ≡ Some t → filter (in_group n) (dropped id ts) ≡ filter (in_group n) ts) → filter (in_group n) (cond b ts (x ∷ dropped id ts)) ≡ filter (in_group n) (x ∷ ts)
    go true k r = sym (ap (λ b. cond b (x ∷ filter (in_group n) ts) (filter (in_group n) ts)) (ne_eqb x.group n (λ j. ne (sym (ap group_of_thread k) ∙ j))))
    go false k r = ap (λ (us : List Thread). cond (x.group == n) (x ∷ us) us) (r k)

pub members_living : (id n : ℕ) (t : Thread) → (t.group ≡ n → ⊥) → (ts : List Thread) → occurs id (ids_of ts) ≤ 1 → thread_in ts id ≡ Some t → filter (in_group n) (left id ts) ≡ filter (in_group n) ts
members_living id n t ne [] once e = refl
members_living id n t ne (x ∷ ts) once e = go (x.id == id) once e (members_living id n t ne ts)
  where
    go : (b : Bool) → (if b then 1 else 0) + occurs id (ids_of ts) ≤ 1 → cond b (Some x) (thread_in ts id) ≡ Some t → (occurs id (ids_of ts) ≤ 1 → thread_in ts id ≡ Some t → filter (in_group n) (left id ts) ≡ filter (in_group n) ts)
        → filter (in_group n) (cond (not (b && is_dead x.life)) (x ∷ left id ts) (left id ts)) ≡ filter (in_group n) (x ∷ ts)
    go true o k r =
        let out : (x.group == n) ≡ false = ne_eqb x.group n (λ j. ne (sym (ap group_of_thread k) ∙ j)) in
        let here : filter (in_group n) (x ∷ ts) ≡ filter (in_group n) ts = ap (λ b. cond b (x ∷ filter (in_group n) ts) (filter (in_group n) ts)) out in
        let rest : left id ts ≡ ts = others_left id ts (omega (arith, o)) in
        elim (is_dead x.life) as (λ d. filter (in_group n) (cond (not d) (x ∷ left id ts) (left id ts)) ≡ filter (in_group n) (x ∷ ts)) [
          | true ↦ ap (filter (in_group n)) rest ∙ sym here
          | false ↦ ap (λ (us : List Thread). filter (in_group n) (x ∷ us)) rest
        ]
    go false o k r = ap (λ (us : List Thread). cond (x.group == n) (x ∷ us) us) (r (omega (arith, o)) k)

pub members_more : (n : ℕ) (ts : List Thread) (t : Thread) → (t.group == n) ≡ false → filter (in_group n) (ts ++ t ∷ []) ≡ filter (in_group n) ts
members_more n [] t out = ap (λ (b : Bool). cond b (t ∷ []) []) out
members_more n (x ∷ ts) t out = ap (λ (us : List Thread). cond (x.group == n) (x ∷ us) us) (members_more n ts t out)

pub grown : {A B : Type 0} (listed : ℕ → Bool) (r : Result A B) (t : Thread) (u : Unsettled) (ts us : List Thread) (xs : List Group) → OnOk r (us ≡ ts ++ t ∷ []) → OnErr r (us ≡ ts) → NoneBut u ts xs listed → NoneBut (touched t.group u) us xs listed
grown listed (Ok a) t u ts us xs ok err h = moved_members listed t.group u ts us xs (λ n ne. (ap (filter (in_group n)) ok ∙ members_more n ts t (ne_eqb t.group n ne))) h
grown listed (Err b) t u ts us xs ok err h = moved_members listed t.group u ts us xs (λ n ne. (ap (filter (in_group n)) err)) h

pub none_dropped : (id : ℕ) (ts : List Thread) → thread_in ts id ≡ None → dropped id ts ≡ ts
none_dropped id [] e = refl
none_dropped id (t ∷ ts) e = go (t.id == id) e (none_dropped id ts)
  where
    go : (b : Bool) → cond b (Some t) (thread_in ts id) ≡ None → (thread_in ts id ≡ None → dropped id ts ≡ ts) → cond b ts (t ∷ dropped id ts) ≡ t ∷ ts
    go true q r = absurd (none-some t (sym q))
    go false q r = ap (λ us. t ∷ us) (r q)

-- a thread takes its leader's row: nothing happens to threads of other groups than its own and the leader's

found_elsewhere : (id g : ℕ) → (id ≡ g → ⊥) → (ts : List Thread) → thread_in (dropped id ts) g ≡ thread_in ts g
found_elsewhere id g ne [] = refl
found_elsewhere id g ne (t ∷ ts) = go (cases_eq t.id id) (found_elsewhere id g ne ts)
  where
    go : (t.id ≡ id) ⊎ (t.id ≡ id → ⊥) → thread_in (dropped id ts) g ≡ thread_in ts g → thread_in (dropped id (t ∷ ts)) g ≡ thread_in (t ∷ ts) g
    go (inl e) r = rw (eq-eqb t.id id e, ne_eqb t.id g (λ k. ne (sym e ∙ k))) refl
    go (inr e) r = rw (ne_eqb t.id id e) (ap (λ o. cond (t.id == g) (Some t) o) r)

no_leader : (x : Thread) (ts : List Thread) → occurs x.group (ids_of ts) ≤ 0 → map (in_leaders_row x) ts ≡ ts
no_leader x [] h = refl
no_leader x (t ∷ ts) h = go (t.id == x.group) h (no_leader x ts)
  where
    go : (b : Bool) → (if b then 1 else 0) + occurs x.group (ids_of ts) ≤ 0 → (occurs x.group (ids_of ts) ≤ 0 → map (in_leaders_row x) ts ≡ ts) → (if b && is_dead t.life then renamed x.group x else t) ∷ map (in_leaders_row x) ts ≡ t ∷ ts
    go true k r = absurd (omega (arith, k))
    go false k r = ap (λ us. t ∷ us) (r (omega (arith, k)))

in_row : (x : Thread) (n : ℕ) → (x.group ≡ n → ⊥) → (ts : List Thread) → occurs x.group (ids_of ts) ≤ 1 → (group_of_thread (thread_in ts x.group) ≡ n → ⊥) → filter (in_group n) (map (in_leaders_row x) ts) ≡ filter (in_group n) ts
in_row x n ne [] once other = refl
in_row x n ne (t ∷ ts) once other = go (t.id == x.group) once other (in_row x n ne ts)
  where
    go : (b : Bool) → (if b then 1 else 0) + occurs x.group (ids_of ts) ≤ 1 → (group_of_thread (cond b (Some t) (thread_in ts x.group)) ≡ n → ⊥)
        → (occurs x.group (ids_of ts) ≤ 1 → (group_of_thread (thread_in ts x.group) ≡ n → ⊥) → filter (in_group n) (map (in_leaders_row x) ts) ≡ filter (in_group n) ts)
        → filter (in_group n) ((if b && is_dead t.life then renamed x.group x else t) ∷ map (in_leaders_row x) ts) ≡ filter (in_group n) (t ∷ ts)
    go true o k r =
        let out : (t.group == n) ≡ false = ne_eqb t.group n k in
        let own : (x.group == n) ≡ false = ne_eqb x.group n ne in
        let rest : filter (in_group n) (map (in_leaders_row x) ts) ≡ filter (in_group n) ts = ap (filter (in_group n)) (no_leader x ts (omega (arith, o))) in
        let here : filter (in_group n) (t ∷ ts) ≡ filter (in_group n) ts = ap (λ (b : Bool). cond b (t ∷ filter (in_group n) ts) (filter (in_group n) ts)) out in
        elim (is_dead t.life) as (λ d. filter (in_group n) ((if true && d then renamed x.group x else t) ∷ map (in_leaders_row x) ts) ≡ filter (in_group n) (t ∷ ts)) [
          | true ↦ ap (λ (b : Bool). cond b (renamed x.group x ∷ filter (in_group n) (map (in_leaders_row x) ts)) (filter (in_group n) (map (in_leaders_row x) ts))) own ∙ (rest ∙ sym here)
          | false ↦ ap (λ (b : Bool). cond b (t ∷ filter (in_group n) (map (in_leaders_row x) ts)) (filter (in_group n) (map (in_leaders_row x) ts))) out ∙ (rest ∙ sym here)
        ]
    go false o k r = ap (λ (us : List Thread). cond (t.group == n) (t ∷ us) us) (r (omega (arith, o)) k)

pub members_placed : (x : Thread) (n : ℕ) (ts : List Thread) → IsRoster ts → thread_in ts x.id ≡ Some x → (x.id ≡ x.group → ⊥) → (x.group ≡ n → ⊥) → (group_of_thread (thread_in ts x.group) ≡ n → ⊥) → filter (in_group n) (map (in_leaders_row x) (dropped x.id ts)) ≡ filter (in_group n) ts
members_placed x n ts h there apart ne other =
    in_row x n ne (dropped x.id ts) ((roster_dropped x.id ts h).distinct x.group) (λ k. other (ap group_of_thread (sym (found_elsewhere x.id x.group apart ts)) ∙ k)) ∙ members_dropped x.id n x ne ts there

-- groups

abbrev pub rows : List Group → ℕ → List Group
rows xs n = filter (λ x. x.tgid == n) xs

abbrev first : List Group → Option Group
first [] = None
first (x ∷ xs) = Some x

found : (xs : List Group) (n : ℕ) → group_in xs n ≡ first (rows xs n)
found [] n = refl
found (x ∷ xs) n = go (x.tgid == n) (found xs n)
  where
    go : (b : Bool) → group_in xs n ≡ first (rows xs n) → cond b (Some x) (group_in xs n) ≡ first (cond b (x ∷ rows xs n) (rows xs n))
    go true r = refl
    go false r = r

pub same_group : (xs ys : List Group) (n : ℕ) → rows ys n ≡ rows xs n → group_in ys n ≡ group_in xs n
same_group xs ys n e = found ys n ∙ (ap first e ∙ sym (found xs n))

pub by_group : (listed more : ℕ → Bool) (ts : List Thread) (xs ys : List Group) (n : ℕ) → more n ≡ listed n → rows ys n ≡ rows xs n → is_open ts ys more n ≡ is_open ts xs listed n
by_group listed more ts xs ys n at e =
    let stop = ap (λ o. is_stopping (stop_of o) && not (has_mark ts n)) (same_group xs ys n e) in
    let told = ap (list_any (tells ts)) e in
    λ i. stop i || told i && not (at i)

pub elsewhere : (g n : ℕ) (f : Group → Group) → ((x : Group) → (f x).tgid ≡ x.tgid) → (g ≡ n → ⊥) → (xs : List Group) → rows (map (only_group g f) xs) n ≡ rows xs n
elsewhere g n f kept ne [] = refl
elsewhere g n f kept ne (x ∷ xs) = go (cases_eq x.tgid g) (elsewhere g n f kept ne xs)
  where
    go : (x.tgid ≡ g) ⊎ (x.tgid ≡ g → ⊥) → rows (map (only_group g f) xs) n ≡ rows xs n → rows (only_group g f x ∷ map (only_group g f) xs) n ≡ rows (x ∷ xs) n
    go (inl e) rest =
        let out : (x.tgid == n) ≡ false = ne_eqb x.tgid n (λ k. ne (sym e ∙ k)) in
        let still : ((f x).tgid == n) ≡ false = ne_eqb (f x).tgid n (λ k. ne (sym e ∙ (sym (kept x) ∙ k))) in
        rw (eq-eqb x.tgid g e, out, still) rest
    go (inr e) rest = rw (ne_eqb x.tgid g e) (ap (λ us. cond (x.tgid == n) (x ∷ us) us) rest)

pub first_elsewhere : (g n : ℕ) (f : Group → Group) → ((x : Group) → x.tgid ≡ g → (f x).tgid ≡ g) → (g ≡ n → ⊥) → (xs : List Group) → rows (group_changed g f xs) n ≡ rows xs n
first_elsewhere g n f kept ne [] = refl
first_elsewhere g n f kept ne (x ∷ xs) = go (cases_eq x.tgid g) (first_elsewhere g n f kept ne xs)
  where
    go : (x.tgid ≡ g) ⊎ (x.tgid ≡ g → ⊥) → rows (group_changed g f xs) n ≡ rows xs n → rows (group_changed g f (x ∷ xs)) n ≡ rows (x ∷ xs) n
    go (inl e) rest =
        let out : (x.tgid == n) ≡ false = ne_eqb x.tgid n (λ k. ne (sym e ∙ k)) in
        let still : ((f x).tgid == n) ≡ false = ne_eqb (f x).tgid n (λ k. ne (sym (kept x e) ∙ k)) in
        rw (eq-eqb x.tgid g e, out, still) refl
    go (inr e) rest = rw (ne_eqb x.tgid g e) (ap (λ us. cond (x.tgid == n) (x ∷ us) us) rest)

module _ (places : List ℕ) (g : ℕ) (u : Unsettled) (f : Group → Group) (ts : List Thread) (xs : List Group) (none : NoneBut u ts xs (is_listed xs places)) where
  -- the group is written, and keeps its id and its place
  written : (ys : List Group) → tgids_of ys ≡ tgids_of xs → ((n : ℕ) → (g ≡ n → ⊥) → rows ys n ≡ rows xs n) → NoneBut (touched g u) ts ys (is_listed ys places)
  written ys e same = moved (is_listed xs places) (is_listed ys places) g u ts ts xs ys (λ n ne. by_group (is_listed xs places) (is_listed ys places) ts xs ys n (ap (λ (ids : List ℕ). not (occurs (place_in n ids) places == 0)) e) (same n ne)) none

  pub moved_changed : ((x : Group) → (f x).tgid ≡ x.tgid) → NoneBut (touched g u) ts (map (only_group g f) xs) (is_listed (map (only_group g f) xs) places)
  moved_changed kept = written (map (only_group g f) xs) (ids_changed g f kept xs) (λ n ne. elsewhere g n f kept ne xs)

  pub moved_first_changed : ((x : Group) → x.tgid ≡ g → (f x).tgid ≡ g) → NoneBut (touched g u) ts (group_changed g f xs) (is_listed (group_changed g f xs) places)
  moved_first_changed kept = written (group_changed g f xs) (ids_first_changed g f kept xs) (λ n ne. first_elsewhere g n f kept ne xs)

pub others_there : (g n : ℕ) (b : Bool) → (g ≡ n → ⊥) → (xs : List Group) → rows (filter (λ x. not (x.tgid == g) || b) xs) n ≡ rows xs n
others_there g n b ne [] = refl
others_there g n b ne (x ∷ xs) = go (cases_eq x.tgid g) b (others_there g n b ne xs)
  where
    go : (x.tgid ≡ g) ⊎ (x.tgid ≡ g → ⊥) → (b : Bool) → rows (filter (λ x. not (x.tgid == g) || b) xs) n ≡ rows xs n → rows (filter (λ x. not (x.tgid == g) || b) (x ∷ xs)) n ≡ rows (x ∷ xs) n
    go (inl e) true rest = rw (eq-eqb x.tgid g e) (ap (λ us. cond (x.tgid == n) (x ∷ us) us) rest)
    go (inl e) false rest =
        let out : (x.tgid == n) ≡ false = ne_eqb x.tgid n (λ k. ne (sym e ∙ k)) in
        rw (eq-eqb x.tgid g e, out) rest
    go (inr e) b rest = rw (ne_eqb x.tgid g e) (ap (λ us. cond (x.tgid == n) (x ∷ us) us) rest)

-- the group goes, and the places after its own close up
pub moved_gone : (before after : List ℕ) (g : ℕ) (u : Unsettled) (b : Bool) (ts : List Thread) (xs ys : List Group) (i : ℕ) → ys ≡ filter (λ x. not (x.tgid == g) || b) xs → IsGone g xs ys (Some i)
    → ((m : ℕ) → occurs m after ≡ occurs (if nat_lt m i then m else m + 1) before) → NoneBut u ts xs (is_listed xs before) → NoneBut (touched g u) ts ys (is_listed ys after)
moved_gone before after g u b ts [] ys i kept gone closed none = absurd (omega (arith, gone.0))
moved_gone before after g u b ts (x ∷ xs) ys i kept gone closed none =
    moved (is_listed (x ∷ xs) before) (is_listed ys after) g u ts ts (x ∷ xs) ys (λ n ne. by_group (is_listed (x ∷ xs) before) (is_listed ys after) ts (x ∷ xs) ys n (
    ap (λ (zs : List Group). is_listed zs after n) gone.2 ∙ listed_closed_up (x ∷ xs) i x g n before after gone.0 (gone.1 x) ne closed
    ) (ap (λ (zs : List Group). rows zs n) kept ∙ others_there g n b ne (x ∷ xs))) none
