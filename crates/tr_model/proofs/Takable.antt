-- What this product takes is one of the instances that the model lets a thread take.
use Rattle.std.proofs.Common.{◌≡◌, ◌∙◌, ◌⊎◌, ◌&&◌, ℕ, ◌≤◌, ◌<◌, ◌==◌, List, [], ◌∷◌, ◌++◌, Bool, true, false, not, nat_le, Option, Some, None, if◌then◌else◌, cond, refl, sym, ap, subst, inl, inr, arith}
use Rattle.std.specs.Prelude.{filter, is_some, map}
use Rattle.std.specs.List.{list_all}
use Rattle.std.proofs.lemmas.Bool.{and_from, cases_lt, eq-eqb, eqb-false, eqb-true, leb-false, leb-true, true≢false}
use Rattle.std.proofs.lemmas.Bool.Decides.{nat_tests}
use Rattle.std.proofs.lemmas.Option.{none-some}
use Rattle.std.specs.Option.{option_or}
use Rattle.tr_sigset.specs.Sets.{has}
use Rattle.tr_sigset.specs.declared.sets.SigSet.{SigSet}
use Rattle.tr_pending.specs.Waiting.{best_of, preferred_of}
use Rattle.tr_pending.specs.declared.instance.Instance.{Instance}
use Rattle.tr_tracee.specs.Threads.{is_ready_to_take}
use Rattle.tr_tracee.specs.declared.thread.Thread.{Thread}
use Rattle.tr_model.specs.declared.rows.Target.{Target}
use Rattle.tr_model.specs.declared.rows.Target.TheVariants as target
use Rattle.tr_model.specs.declared.rows.Waiting.{Waiting}
use Rattle.tr_model.specs.Journals.{IsSorted, taken_by}
use Rattle.tr_model.specs.Moves.{instance_in}
use Rattle.tr_model.specs.Preferred.{best_for}
use Rattle.tr_model.specs.Tables.{Table, queue, same_target}
use Rattle.tr_model.specs.Takes.{can_take, choices, choices_in, goes_before, is_empty, taken_from, unblocked, with_number}
use Rattle.tr_model.proofs.Among.{Among, among_empty, among_filter, among_left, among_right, filter_among}
use Rattle.tr_model.proofs.Sorted.{InOrder, Past, in_order_filter, sorted_filter, sorted_instances}

-- The first instance of the least number

abbrev least : List Instance → Option Instance
least [] = None
least (i ∷ is) = Some (preferred_of i (least is))

best_is_least : (mask : SigSet) (is : List Instance) → best_of mask is ≡ least (unblocked mask is)
best_is_least mask [] = refl
best_is_least mask (i ∷ is) = go (has mask i.sig) (best_is_least mask is)
  where
    go : (b : Bool) → best_of mask is ≡ least (unblocked mask is) → (if b then best_of mask is else Some (preferred_of i (best_of mask is))) ≡ least (cond (not b) (i ∷ unblocked mask is) (unblocked mask is))
    go true e = e
    go false e = ap (λ o. Some (preferred_of i o)) e

-- none of these goes before i
abbrev NoneBefore : Instance → List Instance → Type 0
NoneBefore i [] = Unit {0}
NoneBefore i (j ∷ js) = ((i.sig ≤ j.sig) × (j.sig ≡ i.sig → i.n ≤ j.n)) × NoneBefore i js

stays_behind : (i j : Instance) → i.sig ≤ j.sig → (j.sig ≡ i.sig → i.n ≤ j.n) → not (goes_before j i) ≡ true
stays_behind i j h k = grind (arith, nat_tests)

all_stay : (i : Instance) (js : List Instance) → NoneBefore i js → list_all (λ j. not (goes_before j i)) js ≡ true
all_stay i [] h = refl
all_stay i (j ∷ js) h = and_from (not (goes_before j i)) _ (stays_behind i j h.0.0 h.0.1) (all_stay i js h.1)

none_before_past : (i j : Instance) (is : List Instance) → Past i.n is → i.sig ≤ j.sig → NoneBefore j is → NoneBefore i is
none_before_past i j [] p h k = tt
none_before_past i j (x ∷ is) p h k = ((omega (arith, h, k.0.0), λ _. omega (arith, p.0)), none_before_past i j is p.1 h k.1)

abbrev IsFirst : Instance → List Instance → Type 0
IsFirst i is = Among i is × NoneBefore i is

least_is_first : (is : List Instance) (i : Instance) → InOrder is → least is ≡ Some i → IsFirst i is
least_is_first [] i o e = cc
least_is_first (x ∷ []) i o e = let same : x ≡ i = cc in subst (λ z. IsFirst z (x ∷ [])) same (inl refl, ((omega arith, λ _. omega arith), tt))
least_is_first (x ∷ y ∷ ys) i o e = go (preferred_of y (least ys)) (nat_le x.sig (preferred_of y (least ys)).sig) refl (least_is_first (y ∷ ys) (preferred_of y (least ys)) o.1 refl) e
  where
    go : (j : Instance) (b : Bool) → nat_le x.sig j.sig ≡ b → IsFirst j (y ∷ ys) → Some (if b then x else j) ≡ Some i → IsFirst i (x ∷ y ∷ ys)
    go j true h k f =
        let same : x ≡ i = cc in
        subst (λ z. IsFirst z (x ∷ y ∷ ys)) same (inl refl, ((omega arith, λ _. omega arith), none_before_past x j (y ∷ ys) o.0 (leb-true x.sig j.sig h) k.1))
    go j false h k f =
        let same : j ≡ i = cc in
        let less : j.sig < x.sig = leb-false x.sig j.sig h in
        subst (λ z. IsFirst z (x ∷ y ∷ ys)) same (inr k.0, ((omega (arith, less), λ q. omega (arith, less, q)), k.1))

-- From one queue

best_is_choice : (mask : SigSet) (is : List Instance) (i : Instance) → InOrder is → best_of mask is ≡ Some i → Among i (choices_in (unblocked mask is))
best_is_choice mask is i o e =
    let xs : List Instance = unblocked mask is in
    let h = least_is_first xs i (in_order_filter (λ j. not (has mask j.sig)) is o) (sym (best_is_least mask is) ∙ e) in
    among_filter (λ j. list_all (λ k. not (goes_before k j)) xs) i xs h.0 (all_stay i xs h.1)

no_choice_left : (mask : SigSet) (is : List Instance) → best_of mask is ≡ None → choices_in (unblocked mask is) ≡ []
no_choice_left mask is e = go (unblocked mask is) (sym (best_is_least mask is) ∙ e)
  where
    go : (xs : List Instance) → least xs ≡ None → choices_in xs ≡ []
    go [] f = refl
    go (x ∷ xs) f = cc

-- From its own queue or the shared one

record Taking (mask : SigSet) (own shared : List Instance) : Type 0 where
  instance : Instance
  best : option_or (best_of mask own) (best_of mask shared) ≡ Some instance
  among : Among instance (choices_in (unblocked mask own) ++ choices_in (unblocked mask shared))

taking : (mask : SigSet) (own shared : List Instance) → InOrder own → InOrder shared
    → not (is_empty (choices_in (unblocked mask own) ++ choices_in (unblocked mask shared))) ≡ true → Taking mask own shared
taking mask own shared o p c = go (best_of mask own) refl (best_of mask shared) refl
  where
    go : (b : Option Instance) → best_of mask own ≡ b → (d : Option Instance) → best_of mask shared ≡ d → Taking mask own shared
    go (Some i) e d f = record { instance = i; best = ap (λ x. option_or x (best_of mask shared)) e; among = among_left i _ _ (best_is_choice mask own i o e) }
    go None e (Some i) f = record {
      instance = i;
      best = ap (λ x. option_or x (best_of mask shared)) e ∙ f;
      among = among_right i (choices_in (unblocked mask own)) _ (best_is_choice mask shared i p f);
    }
    go None e None f =
        absurd (true≢false (sym c ∙ (ap (λ x. not (is_empty (x ++ choices_in (unblocked mask shared)))) (no_choice_left mask own e)
        ∙ ap (λ x. not (is_empty x)) (no_choice_left mask shared f))))

pub numbered_there : (i : Instance) (is : List Instance) → Among i is → is_some (with_number i.n is) ≡ true
numbered_there i [] m = absurd m
numbered_there i (j ∷ is) (inl e) = rw (eq-eqb j.n i.n (ap (λ z. z.n) (sym e))) refl
numbered_there i (j ∷ is) (inr m) = elim (j.n == i.n) as (λ b. is_some (if b then Some j else with_number i.n is) ≡ true) [ true ↦ refl | false ↦ numbered_there i is m ]

pub queue_in_order : (T : Table) (q : Target) → IsSorted T.waiting → InOrder (queue T q)
queue_in_order T q s = let p = λ (w : Waiting). same_target q w.target in sorted_instances (filter p T.waiting) (sorted_filter p T.waiting s)

-- what a thread takes that can take something
pub record Taken (T : Table) (t : Thread) : Type 0 where
  pub instance : Instance
  pub best : best_for T t ≡ Some instance
  pub found : is_some (with_number instance.n (choices T t)) ≡ true

pub taken_by_choice : (T : Table) (t : Thread) → IsSorted T.waiting → can_take T t ≡ true → Taken T t
taken_by_choice T t s c = go (is_ready_to_take t) refl
  where
    go : (b : Bool) → is_ready_to_take t ≡ b → Taken T t
    go true e =
        let own : List Instance = queue T (target.Thread t.id) in
        let shared : List Instance = queue T (target.Group t.group) in
        let h = taking t.mask own shared (queue_in_order T (target.Thread t.id) s) (queue_in_order T (target.Group t.group) s) (rw e at c) in
        record { instance = h.instance; best = rw e h.best; found = numbered_there h.instance (choices T t) (rw e h.among) }
    go false e = absurd (true≢false (sym (rw e at c)))

-- Whether a thread can take something: whether something is best for it, in whatever order the queues stand

-- one that no other goes before, first by number and then by acceptance
record Least (is : List Instance) : Type 0 where
  first : Instance
  among : Among first is
  none : NoneBefore first is

before_all : (x i : Instance) (js : List Instance) → ((j : Instance) → i.sig ≤ j.sig → (j.sig ≡ i.sig → i.n ≤ j.n) → (x.sig ≤ j.sig) × (j.sig ≡ x.sig → x.n ≤ j.n)) → NoneBefore i js → NoneBefore x js
before_all x i [] f h = tt
before_all x i (j ∷ js) f h = (f j h.0.0 h.0.1, before_all x i js f h.1)

some_least : (x : Instance) (xs : List Instance) → Least (x ∷ xs)
some_least x [] = record { first = x; among = inl refl; none = ((omega arith, λ _. omega arith), tt) }
some_least x (y ∷ ys) = go (some_least y ys)
  where
    itself : (x.sig ≤ x.sig) × (x.sig ≡ x.sig → x.n ≤ x.n)
    itself = (omega arith, λ _. omega arith)

    go : Least (y ∷ ys) → Least (x ∷ y ∷ ys)
    go l = by_sig (cases_lt x.sig l.first.sig)
      where
        by_n : x.sig ≡ l.first.sig → (x.n < l.first.n) ⊎ (l.first.n ≤ x.n) → Least (x ∷ y ∷ ys)
        by_n e (inl h) = record { first = x; among = inl refl; none = (itself, before_all x l.first (y ∷ ys) (λ j a b. (omega (arith, e, a), λ q. let c = b (q ∙ e) in omega (arith, h, c))) l.none) }
        by_n e (inr h) = record { first = l.first; among = inr l.among; none = ((omega (arith, e), λ q. omega (arith, h)), l.none) }

        by_rest : l.first.sig ≤ x.sig → (l.first.sig < x.sig) ⊎ (x.sig ≤ l.first.sig) → Least (x ∷ y ∷ ys)
        by_rest k (inl h) = record { first = l.first; among = inr l.among; none = ((omega (arith, h), λ q. omega (arith, h, q)), l.none) }
        by_rest k (inr h) = by_n (omega (arith, h, k)) (cases_lt x.n l.first.n)

        by_sig : (x.sig < l.first.sig) ⊎ (l.first.sig ≤ x.sig) → Least (x ∷ y ∷ ys)
        by_sig (inl h) = record { first = x; among = inl refl; none = (itself, before_all x l.first (y ∷ ys) (λ j a b. (omega (arith, h, a), λ q. omega (arith, h, a, q))) l.none) }
        by_sig (inr h) = by_rest h (cases_lt l.first.sig x.sig)

left_where_best : (mask : SigSet) (is : List Instance) → is_empty (choices_in (unblocked mask is)) ≡ not (is_some (best_of mask is))
left_where_best mask is = go (unblocked mask is) (best_is_least mask is)
  where
    go : (xs : List Instance) → best_of mask is ≡ least xs → is_empty (choices_in xs) ≡ not (is_some (best_of mask is))
    go [] e = rw e refl
    go (x ∷ xs) e =
        let l = some_least x xs in
        rw e (among_empty l.first (choices_in (x ∷ xs)) (among_filter (λ j. list_all (λ k. not (goes_before k j)) (x ∷ xs)) l.first (x ∷ xs) l.among (all_stay l.first (x ∷ xs) l.none)))

none_left_append : (xs ys : List Instance) → is_empty (xs ++ ys) ≡ (is_empty xs && is_empty ys)
none_left_append [] ys = refl
none_left_append (x ∷ xs) ys = refl

either_some : (a b : Option Instance) → not (not (is_some a) && not (is_some b)) ≡ is_some (option_or a b)
either_some None None = refl
either_some None (Some j) = refl
either_some (Some i) b = refl

pub can_take_best : (T : Table) (t : Thread) → can_take T t ≡ is_some (best_for T t)
can_take_best T t = go (is_ready_to_take t) refl
  where
    go : (b : Bool) → is_ready_to_take t ≡ b → can_take T t ≡ is_some (best_for T t)
    go false e = rw e refl
    go true e =
        let own = queue T (target.Thread t.id) in
        let shared = queue T (target.Group t.group) in
        let h : not (is_empty (choices_in (unblocked t.mask own) ++ choices_in (unblocked t.mask shared))) ≡ is_some (option_or (best_of t.mask own) (best_of t.mask shared)) =
        ap not (none_left_append (choices_in (unblocked t.mask own)) (choices_in (unblocked t.mask shared)))
        ∙ (ap (λ b. not (b && is_empty (choices_in (unblocked t.mask shared)))) (left_where_best t.mask own)
        ∙ (ap (λ b. not (not (is_some (best_of t.mask own)) && b)) (left_where_best t.mask shared)
        ∙ either_some (best_of t.mask own) (best_of t.mask shared))) in
        rw e h

-- What is best for a thread is the choice of its number, and waits

pub among_either : (i : Instance) (xs ys : List Instance) → Among i (xs ++ ys) → Among i xs ⊎ Among i ys
among_either i [] ys m = inr m
among_either i (x ∷ xs) ys (inl e) = inl (inl e)
among_either i (x ∷ xs) ys (inr m) = later (among_either i xs ys m)
  where
    later : Among i xs ⊎ Among i ys → Among i (x ∷ xs) ⊎ Among i ys
    later (inl h) = inl (inr h)
    later (inr h) = inr h

abbrev pub all_instances : List Waiting → List Instance
all_instances ws = map (λ w. w.instance) ws

among_queue : (p : Waiting → Bool) (i : Instance) (ws : List Waiting) → Among i (all_instances (filter p ws)) → Among i (all_instances ws)
among_queue p i [] m = absurd m
among_queue p i (w ∷ ws) m = go (p w) m (among_queue p i ws)
  where
    go : (b : Bool) → Among i (all_instances (cond b (w ∷ filter p ws) (filter p ws))) → (Among i (all_instances (filter p ws)) → Among i (all_instances ws)) → Among i (w.instance ∷ all_instances ws)
    go true (inl e) r = inl e
    go true (inr h) r = inr (r h)
    go false h r = inr (r h)

pub chosen_waits : (T : Table) (mask : SigSet) (q : Target) (i : Instance) → Among i (choices_in (unblocked mask (queue T q))) → Among i (all_instances T.waiting)
chosen_waits T mask q i m =
    let xs = unblocked mask (queue T q) in
    let a = filter_among (λ j. list_all (λ k. not (goes_before k j)) xs) i xs m in
    let b = filter_among (λ j. not (has mask j.sig)) i (queue T q) a.0 in
    among_queue (λ w. same_target q w.target) i T.waiting b.0

pub past_among : (n : ℕ) (i : Instance) (is : List Instance) → Past n is → Among i is → n < i.n
past_among n i [] p m = absurd m
past_among n i (x ∷ is) p (inl e) = subst (λ z. n < z.n) (sym e) p.0
past_among n i (x ∷ is) p (inr m) = past_among n i is p.1 m

pub same_number : (i j : Instance) (is : List Instance) → InOrder is → Among i is → Among j is → i.n ≡ j.n → i ≡ j
same_number i j [] o m k e = absurd m
same_number i j (x ∷ is) o (inl p) (inl q) e = p ∙ sym q
same_number i j (x ∷ is) o (inl p) (inr k) e = absurd (let h = past_among x.n j is o.0 k in let s : i.n ≡ x.n = ap (λ z. z.n) p in omega (arith, h, s, e))
same_number i j (x ∷ is) o (inr m) (inl q) e = absurd (let h = past_among x.n i is o.0 m in let s : j.n ≡ x.n = ap (λ z. z.n) q in omega (arith, h, s, e))
same_number i j (x ∷ is) o (inr m) (inr k) e = same_number i j is o.1 m k e

pub numbered_is : (i : Instance) (is : List Instance) → Among i is → ((j : Instance) → Among j is → j.n ≡ i.n → j ≡ i) → with_number i.n is ≡ Some i
numbered_is i [] m u = absurd m
numbered_is i (x ∷ xs) m u = go (x.n == i.n) refl m (λ k. numbered_is i xs k (λ j h. u j (inr h)))
  where
    go : (b : Bool) → (x.n == i.n) ≡ b → (i ≡ x) ⊎ Among i xs → (Among i xs → with_number i.n xs ≡ Some i) → (if b then Some x else with_number i.n xs) ≡ Some i
    go true e k r = ap Some (u x (inl refl) (eqb-true x.n i.n e))
    go false e (inl s) r = absurd (eqb-false x.n i.n e (ap (λ z. z.n) (sym s)))
    go false e (inr k) r = r k

pub instance_numbered : (n : ℕ) (ws : List Waiting) → instance_in ws n ≡ with_number n (all_instances ws)
instance_numbered n [] = refl
instance_numbered n (w ∷ ws) = ap (λ o. if w.instance.n == n then Some w.instance else o) (instance_numbered n ws)

pub record Best (T : Table) (t : Thread) (i : Instance) : Type 0 where
  pub ready : is_ready_to_take t ≡ true
  pub chosen : with_number i.n (choices T t) ≡ Some i
  pub waits : instance_in T.waiting i.n ≡ Some i
  pub taken : taken_by T (Some t) i.n ≡ Some (record { number = i.n; signal = i.sig; queue = taken_from (best_of t.mask (queue T (target.Thread t.id))) t })

pub best_is_chosen : (T : Table) (t : Thread) (i : Instance) → IsSorted T.waiting → best_for T t ≡ Some i → Best T t i
best_is_chosen T t i s e = go (is_ready_to_take t) refl
  where
    own : List Instance
    own = queue T (target.Thread t.id)

    shared : List Instance
    shared = queue T (target.Group t.group)

    order : InOrder (all_instances T.waiting)
    order = sorted_instances T.waiting s

    waiting : (j : Instance) → Among j (choices_in (unblocked t.mask own) ++ choices_in (unblocked t.mask shared)) → Among j (all_instances T.waiting)
    waiting j m = from (among_either j (choices_in (unblocked t.mask own)) (choices_in (unblocked t.mask shared)) m)
      where
        from : Among j (choices_in (unblocked t.mask own)) ⊎ Among j (choices_in (unblocked t.mask shared)) → Among j (all_instances T.waiting)
        from (inl h) = chosen_waits T t.mask (target.Thread t.id) j h
        from (inr h) = chosen_waits T t.mask (target.Group t.group) j h

    Is : List Instance → Type 0
    Is xs = with_number i.n xs ≡ Some i

    only_one : (xs : List Instance) → ((j : Instance) → Among j xs → Among j (all_instances T.waiting)) → Among i xs → Is xs
    only_one xs from m = numbered_is i xs m (λ j k q. same_number j i (all_instances T.waiting) order (from j k) (from i m) q)

    make : is_ready_to_take t ≡ true → Among i (choices_in (unblocked t.mask own) ++ choices_in (unblocked t.mask shared))
        → taken_by T (Some t) i.n ≡ Some (record { number = i.n; signal = i.sig; queue = taken_from (best_of t.mask own) t }) → Best T t i
    make r m q =
        let w = waiting i m in
        let c = only_one (choices_in (unblocked t.mask own) ++ choices_in (unblocked t.mask shared)) waiting m in
        record { ready = r; chosen = rw r c; waits = instance_numbered i.n T.waiting ∙ only_one (all_instances T.waiting) (λ j k. k) w; taken = q }

    go : (b : Bool) → is_ready_to_take t ≡ b → Best T t i
    go false r = absurd (none-some i (rw r at e))
    go true r = by (best_of t.mask own) refl (rw r at e)
      where
        by : (o : Option Instance) → best_of t.mask own ≡ o → option_or o (best_of t.mask shared) ≡ Some i → Best T t i
        by (Some j) f q =
            let same : j ≡ i = cc in
            let m = best_is_choice t.mask own i (queue_in_order T (target.Thread t.id) s) (f ∙ ap Some same) in
            let n = only_one (choices_in (unblocked t.mask own)) (λ k h. chosen_waits T t.mask (target.Thread t.id) k h) m in
            make r (among_left i _ _ m) (rw (r, n, f) refl)
        by None f q =
            let m = best_is_choice t.mask shared i (queue_in_order T (target.Group t.group) s) q in
            let n = only_one (choices_in (unblocked t.mask shared)) (λ k h. chosen_waits T t.mask (target.Group t.group) k h) m in
            make r (among_right i (choices_in (unblocked t.mask own)) _ m) (rw (r, no_choice_left t.mask own f, n, f) refl)
