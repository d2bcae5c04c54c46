-- An instance that the model lets a thread take: it waits, and in which queue.
use Rattle.std.proofs.Common.{◌≡◌, ◌∙◌, ◌==◌, ◌||◌, ℕ, ◌<◌, List, [], ◌∷◌, ◌++◌, Bool, true, false, Option, Some, None, if◌then◌else◌, cond, refl, sym, ap, subst, inl, inr, arith}
use Rattle.std.specs.Prelude.{filter, is_some, map, not}
use Rattle.std.specs.List.{list_all, list_any}
use Rattle.std.proofs.lemmas.Bool.{and_parts, eq-eqb}
use Rattle.std.proofs.lemmas.Bool.Decides.{nat_tests}
use Rattle.std.proofs.lemmas.List.Folds.{list_any-append}
use Rattle.std.proofs.lemmas.Option.{same_Some}
use Rattle.tr_sigset.specs.Sets.{has}
use Rattle.tr_pending.specs.declared.instance.Instance.{Instance}
use Rattle.tr_tracee.specs.declared.thread.Thread.{Thread}
use Rattle.tr_tracee.specs.Lives.{is_free}
use Rattle.tr_tracee.specs.Threads.{has_mark, is_ready_to_take}
use Rattle.tr_model.specs.declared.rows.Target.{Target}
use Rattle.tr_model.specs.declared.rows.Target.TheVariants as target
use Rattle.tr_model.specs.declared.rows.Waiting.{Waiting}
use Rattle.tr_model.specs.Journals.{AllAbove, IsSorted, taken_by, taken_if}
use Rattle.tr_model.specs.Moves.{instance_in}
use Rattle.tr_model.specs.Steps.{takes}
use Rattle.tr_model.specs.Tables.{Table, queue, same_target}
use Rattle.tr_model.specs.Takes.{choices, choices_from, choices_in, goes_before, unblocked, with_number}
use Rattle.tr_model.proofs.Among.{Among, filter_among}
use Rattle.tr_model.proofs.Compared.{numbered_among}
use Rattle.tr_model.proofs.Order.{numbered-append}
use Rattle.tr_queues.specs.Changes.{queue_in}
use Rattle.tr_queues.specs.Choices.{waiting_in}
use Rattle.tr_queues.proofs.Keys.{same_is}
use Rattle.tr_queues.proofs.Standing.{instance_waiting}

-- Where a number waits

above_among : (n : ℕ) (x : Waiting) (ws : List Waiting) → AllAbove n ws → Among x ws → n < x.instance.n
above_among n x [] p m = absurd m
above_among n x (w ∷ ws) p (inl e) = subst (λ z. n < z.instance.n) (sym e) p.0
above_among n x (w ∷ ws) p (inr m) = above_among n x ws p.1 m

waiting_found : (x : Waiting) (ws : List Waiting) → IsSorted ws → Among x ws → waiting_in ws x.instance.n ≡ Some x
waiting_found x [] s m = absurd m
waiting_found x (w ∷ ws) s (inl e) =
    ap (λ b. if b then Some w else waiting_in ws x.instance.n) (eq-eqb w.instance.n x.instance.n (ap (λ z. z.instance.n) (sym e))) ∙ ap Some (sym e)
waiting_found x (w ∷ ws) s (inr m) =
    let less : w.instance.n < x.instance.n = above_among w.instance.n x ws s.0 m in
    let other : (w.instance.n == x.instance.n) ≡ false = grind (arith, nat_tests, less) in
    ap (λ b. if b then Some w else waiting_in ws x.instance.n) other ∙ waiting_found x ws s.1 m

queued : (q : Target) (i : Instance) (ws : List Waiting) → Among i (queue_in q ws) → Among (record { instance = i; target = q }) ws
queued q i [] m = absurd m
queued q i (w ∷ ws) m = go (same_target q w.target) refl m (queued q i ws)
  where
    go : (b : Bool) → same_target q w.target ≡ b → Among i (map (λ w. w.instance) (cond b (w ∷ filter (λ w. same_target q w.target) ws) (filter (λ w. same_target q w.target) ws)))
        → (Among i (queue_in q ws) → Among (record { instance = i; target = q }) ws) → Among (record { instance = i; target = q }) (w ∷ ws)
    go true h (inl e) rest = inl (ap (λ j. record { instance = j; target = q }) e ∙ ap (λ r. record { instance = w.instance; target = r }) (same_is q w.target h))
    go true h (inr k) rest = inr (rest k)
    go false h k rest = inr (rest k)

from_choices : (T : Table) (t : Thread) (q : Target) (i : Instance) → Among i (choices_from T t q) → (is_free t.life ≡ true) × Among i (queue T q)
from_choices T t q i m = go (is_ready_to_take t) refl
  where
    xs : List Instance
    xs = unblocked t.mask (queue T q)

    go : (b : Bool) → is_ready_to_take t ≡ b → (is_free t.life ≡ true) × Among i (queue T q)
    go true r =
        let a = filter_among (λ j. list_all (λ k. not (goes_before k j)) xs) i xs (rw r at m) in
        ((and_parts (is_free t.life) (not (has_mark t)) r).0, (filter_among (λ j. not (has t.mask j.sig)) i (queue T q) a.0).0)
    go false r = absurd (rw r at m)

-- What was chosen

pub record IsChosen (T : Table) (t : Thread) (n : ℕ) (i : Instance) : Type 0 where
  pub free : is_free t.life ≡ true
  pub number : i.n ≡ n
  pub from : Target
  pub there : waiting_in T.waiting n ≡ Some (record { instance = i; target = from })
  pub waits : instance_in T.waiting n ≡ Some i
  pub taken : taken_by T (Some t) n ≡ Some (record { number = i.n; signal = i.sig; queue = from })

-- what is a choice from a queue waits in that queue
chosen_from : (T : Table) (t : Thread) (q : Target) (n : ℕ) (i : Instance) → IsSorted T.waiting → with_number n (choices_from T t q) ≡ Some i
    → taken_by T (Some t) n ≡ Some (record { number = i.n; signal = i.sig; queue = q }) → IsChosen T t n i
chosen_from T t q n i s e taken =
    let m = numbered_among n i (choices_from T t q) e in
    let k = from_choices T t q i m.0 in
    let row : Waiting = record { instance = i; target = q } in
    let there : waiting_in T.waiting n ≡ Some row = ap (waiting_in T.waiting) (sym m.1) ∙ waiting_found row T.waiting s (queued q i T.waiting k.1) in
    record { free = k.0; number = m.1; from = q; there = there; waits = instance_waiting T.waiting n ∙ rw there refl; taken = taken }

found_later : (n : ℕ) (i : Instance) (xs ys : List Instance) → with_number n (xs ++ ys) ≡ Some i → with_number n xs ≡ None → with_number n ys ≡ Some i
found_later n i [] ys e f = e
found_later n i (x ∷ xs) ys e f = go (x.n == n) e f (found_later n i xs ys)
  where
    go : (b : Bool) → (if b then Some x else with_number n (xs ++ ys)) ≡ Some i → (if b then Some x else with_number n xs) ≡ None → (with_number n (xs ++ ys) ≡ Some i → with_number n xs ≡ None → with_number n ys ≡ Some i) → with_number n ys ≡ Some i
    go true p q rest = cc
    go false p q rest = rest p q

pub chosen_is : (T : Table) (t : Thread) (n : ℕ) (i : Instance) → IsSorted T.waiting → with_number n (choices T t) ≡ Some i → IsChosen T t n i
chosen_is T t n i s e = go (with_number n (choices_from T t own)) refl
  where
    own : Target
    own = target.Thread t.id

    shared : Target
    shared = target.Group t.group

    go : (o : Option Instance) → with_number n (choices_from T t own) ≡ o → IsChosen T t n i
    go (Some j) f =
        let same : j ≡ i = same_Some j i (sym (numbered-append n j (choices_from T t own) (choices_from T t shared) f) ∙ e) in
        let k : with_number n (choices_from T t own) ≡ Some i = f ∙ ap Some same in
        chosen_from T t own n i s k (ap (λ o. taken_if own o (taken_if shared (with_number n (choices_from T t shared)) None)) k)
    go None f =
        let k = found_later n i (choices_from T t own) (choices_from T t shared) e f in
        chosen_from T t shared n i s k (ap (λ o. taken_if own o (taken_if shared (with_number n (choices_from T t shared)) None)) f ∙ ap (λ o. taken_if shared o None) k)

-- Whether a thread may take a number, by its two queues

any_numbered : (n : ℕ) (is : List Instance) → is_some (with_number n is) ≡ list_any (λ i. i.n == n) is
any_numbered n [] = refl
any_numbered n (i ∷ is) = go (i.n == n) (any_numbered n is)
  where
    go : (b : Bool) → is_some (with_number n is) ≡ list_any (λ i. i.n == n) is → is_some (if b then Some i else with_number n is) ≡ (b || list_any (λ i. i.n == n) is)
    go true e = refl
    go false e = e

abbrev pub from_queue : Table → Thread → Target → ℕ → Bool
from_queue T t q n = list_any (λ i. i.n == n) (choices_in (unblocked t.mask (queue T q)))

takes_from : (T : Table) (t : Thread) (n : ℕ) → is_ready_to_take t ≡ true → (from_queue T t (target.Thread t.id) n || from_queue T t (target.Group t.group) n) ≡ takes T (Some t) n
takes_from T t n r = rw r (sym (any_numbered n (own ++ shared) ∙ list_any-append (λ i. i.n == n) own shared))
  where
    own : List Instance
    own = choices_in (unblocked t.mask (queue T (target.Thread t.id)))

    shared : List Instance
    shared = choices_in (unblocked t.mask (queue T (target.Group t.group)))

pub takes_from_own : (T : Table) (t : Thread) (n : ℕ) → is_ready_to_take t ≡ true → from_queue T t (target.Thread t.id) n ≡ true → true ≡ takes T (Some t) n
takes_from_own T t n r h = ap (λ b. b || from_queue T t (target.Group t.group) n) (sym h) ∙ takes_from T t n r

pub takes_from_shared : (T : Table) (t : Thread) (n : ℕ) → is_ready_to_take t ≡ true → from_queue T t (target.Thread t.id) n ≡ false → from_queue T t (target.Group t.group) n ≡ takes T (Some t) n
takes_from_shared T t n r h = ap (λ b. b || from_queue T t (target.Group t.group) n) (sym h) ∙ takes_from T t n r
