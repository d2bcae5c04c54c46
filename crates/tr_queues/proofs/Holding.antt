-- Where no queue of a group holds what is flushed, nothing that waits is flushed.
use Rattle.std.proofs.Common.{◌≡◌, ◌≢◌, ◌∙◌, ◌==◌, ◌&&◌, ◌||◌, ℕ, List, [], ◌∷◌, Bool, true, false, Some, if◌then◌else◌, filter, length, map, not, refl, sym, ap, subst, arith}
use Rattle.std.specs.List.{list_any}
use Rattle.std.proofs.lemmas.Bool.Decides.{nat_tests}
use Rattle.tr_sigset.specs.Signals.{is_stop}
use Rattle.tr_pending.specs.declared.instance.Instance.{Instance}
use Rattle.tr_pending.specs.Waiting.{is_waiting}
use Rattle.tr_tracee.specs.declared.thread.Thread.{Thread}
use Rattle.tr_tracee.specs.Threads.{in_group}
use Rattle.tr_model.specs.declared.rows.Target.{Target}
use Rattle.tr_model.specs.declared.rows.Target.TheVariants as target
use Rattle.tr_model.specs.declared.rows.Waiting.{Waiting}
use Rattle.tr_model.specs.Tables.{group_of_thread, ids_of, owner_in, same_target, thread_in}
use Rattle.tr_queues.specs.Changes.{flushes, holds, is_flushed, queue_in}
use Rattle.tr_queues.specs.declared.picked.Flush.{Flush}
use Rattle.tr_queues.proofs.Keys.{same_self}

-- where no element passes a test, the filter takes none, and its opposite takes all

pub none_filtered : (p : Waiting → Bool) (ws : List Waiting) → list_any p ws ≡ false → filter p ws ≡ []
none_filtered p [] h = refl
none_filtered p (w ∷ ws) h = go (p w) h (none_filtered p ws)
  where
    go : (b : Bool) → (b || list_any p ws) ≡ false → (list_any p ws ≡ false → filter p ws ≡ []) → (if b then w ∷ filter p ws else filter p ws) ≡ []
    go true h rest = cc
    go false h rest = rest h

pub all_filtered : (p : Waiting → Bool) (ws : List Waiting) → list_any p ws ≡ false → ws ≡ filter (λ w. not (p w)) ws
all_filtered p [] h = refl
all_filtered p (w ∷ ws) h = go (p w) h (all_filtered p ws)
  where
    F : List Waiting
    F = filter (λ v. not (p v)) ws

    go : (b : Bool) → (b || list_any p ws) ≡ false → (list_any p ws ≡ false → ws ≡ F) → w ∷ ws ≡ (if not b then w ∷ F else F)
    go true h rest = cc
    go false h rest = ap (λ vs. w ∷ vs) (rest h)

module _ (ts : List Thread) (g : ℕ) (f : Flush) where
  holds_here : (w : Waiting) (ws : List Waiting) → holds f w.target (w ∷ ws) ≡ false → flushes f w.instance.sig ≡ false
  holds_here w ws h = go (flushes f w.instance.sig) (sym (ap (λ b. list_any (λ i. flushes f i.sig) (map (λ (v : Waiting). v.instance) (if b then w ∷ G else G))) (same_self w.target)) ∙ h)
    where
      G : List Waiting
      G = filter (λ v. same_target w.target v.target) ws

      go : (b : Bool) → (b || list_any (λ i. flushes f i.sig) (map (λ (v : Waiting). v.instance) G)) ≡ false → b ≡ false
      go true h = cc
      go false h = refl

  holds_later : (q : Target) (w : Waiting) (ws : List Waiting) → holds f q (w ∷ ws) ≡ false → holds f q ws ≡ false
  holds_later q w ws h = go (same_target q w.target) (flushes f w.instance.sig) h
    where
      G : List Waiting
      G = filter (λ v. same_target q v.target) ws

      inner : (c : Bool) → (c || holds f q ws) ≡ false → holds f q ws ≡ false
      inner true h = cc
      inner false h = h

      go : (b c : Bool) → list_any (λ i. flushes f i.sig) (map (λ (v : Waiting). v.instance) (if b then w ∷ G else G)) ≡ false → holds f q ws ≡ false
      go true c h = inner (flushes f w.instance.sig) h
      go false c h = h

  none_flushed : (ws : List Waiting) → ((q : Target) → (owner_in ts q == g) ≡ true → holds f q ws ≡ false) → list_any (is_flushed ts g f) ws ≡ false
  none_flushed [] h = refl
  none_flushed (w ∷ ws) h = go (flushes f w.instance.sig) (owner_in ts w.target == g) refl refl (none_flushed ws (λ q e. holds_later q w ws (h q e)))
    where
      go : (b c : Bool) → flushes f w.instance.sig ≡ b → (owner_in ts w.target == g) ≡ c → list_any (is_flushed ts g f) ws ≡ false → ((b && c) || list_any (is_flushed ts g f) ws) ≡ false
      go true true b c rest = let no = holds_here w ws (h w.target c) in cc
      go true false b c rest = rest
      go false c b d rest = rest

  module _ (ws : List Waiting) (other : g ≢ 0) where
    held_by : (us : List Thread) (id : ℕ) → list_any (λ t. t.group == g && holds f (target.Thread t.id) ws) us ≡ false → (group_of_thread (thread_in us id) == g) ≡ true → holds f (target.Thread id) ws ≡ false
    held_by [] id h e = let z : (0 ≡ g) = grind (arith, nat_tests, e) in absurd (other (sym z))
    held_by (t ∷ us) id h e = go (t.id == id) refl (t.group == g) (holds f (target.Thread t.id) ws) refl refl h e (held_by us id)
      where
        L : Bool
        L = list_any (λ u. u.group == g && holds f (target.Thread u.id) ws) us

        go : (a : Bool) → (t.id == id) ≡ a → (b c : Bool) → (t.group == g) ≡ b → holds f (target.Thread t.id) ws ≡ c → ((b && c) || L) ≡ false → (group_of_thread (if a then Some t else thread_in us id) == g) ≡ true
            → (L ≡ false → (group_of_thread (thread_in us id) == g) ≡ true → holds f (target.Thread id) ws ≡ false) → holds f (target.Thread id) ws ≡ false
        go true a true true b c h e rest = cc
        go true a true false b c h e rest = let same : t.id ≡ id = grind (arith, nat_tests, a) in subst (λ n. holds f (target.Thread n) ws ≡ false) same c
        go true a false c b d h e rest = cc
        go false a true true b c h e rest = cc
        go false a true false b c h e rest = rest h e
        go false a false c b d h e rest = rest h e

    of_members : (us : List Thread) → list_any (λ id. holds f (target.Thread id) ws) (ids_of (filter (in_group g) us)) ≡ false → list_any (λ t. t.group == g && holds f (target.Thread t.id) ws) us ≡ false
    of_members [] h = refl
    of_members (t ∷ us) h = go (t.group == g) h (of_members us)
      where
        M : List Thread
        M = filter (in_group g) us

        L : Bool
        L = list_any (λ u. u.group == g && holds f (target.Thread u.id) ws) us

        go : (b : Bool) → list_any (λ id. holds f (target.Thread id) ws) (ids_of (if b then t ∷ M else M)) ≡ false
            → (list_any (λ id. holds f (target.Thread id) ws) (ids_of M) ≡ false → L ≡ false) → ((b && holds f (target.Thread t.id) ws) || L) ≡ false
        go true h rest = by (holds f (target.Thread t.id) ws) h
          where
            by : (c : Bool) → (c || list_any (λ id. holds f (target.Thread id) ws) (ids_of M)) ≡ false → (c || L) ≡ false
            by true k = cc
            by false k = rest k
        go false h rest = rest h

    pub none_held : holds f (target.Group g) ws ≡ false → list_any (λ id. holds f (target.Thread id) ws) (ids_of (filter (in_group g) ts)) ≡ false → list_any (is_flushed ts g f) ws ≡ false
    none_held shared members = none_flushed ws owned
      where
        owned : (q : Target) → (owner_in ts q == g) ≡ true → holds f q ws ≡ false
        owned (target.Group h) e = let same : g ≡ h = grind (arith, nat_tests, e) in subst (λ n. holds f (target.Group n) ws ≡ false) same shared
        owned (target.Thread id) e = held_by ts id (of_members ts members) e

-- a queue of none holds none
pub none_held_of : (p : Waiting → Bool) (q : Target) (ws : List Waiting) → ((w : Waiting) → same_target q w.target ≡ false → p w ≡ false) → length (queue_in q ws) ≡ 0 → list_any p ws ≡ false
none_held_of p q [] only h = refl
none_held_of p q (w ∷ ws) only h = go (same_target q w.target) refl h (none_held_of p q ws only)
  where
    G : List Waiting
    G = filter (λ v. same_target q v.target) ws

    go : (b : Bool) → same_target q w.target ≡ b → length (map (λ (v : Waiting). v.instance) (if b then w ∷ G else G)) ≡ 0 → (length (queue_in q ws) ≡ 0 → list_any p ws ≡ false) → (p w || list_any p ws) ≡ false
    go true e h rest = absurd (omega (arith, h))
    go false e h rest = ap (λ b. b || list_any p ws) (only w e) ∙ rest h

-- of no instance a test passes
pub none_of_none : (p : Waiting → Bool) (ws : List Waiting) → length ws ≡ 0 → list_any p ws ≡ false
none_of_none p [] h = refl
none_of_none p (w ∷ ws) h = absurd (omega (arith, h))

-- a stop signal is one of the four
one_of_four : (n : ℕ) → is_stop n ≡ (n == 19 || (n == 20 || (n == 21 || n == 22)))
one_of_four n = grind (arith, nat_tests)

pub any_stop : (is : List Instance) → list_any (λ i. is_stop i.sig) is ≡ (is_waiting 19 is || (is_waiting 20 is || (is_waiting 21 is || is_waiting 22 is)))
any_stop [] = refl
any_stop (i ∷ is) = ap (λ b. b || list_any (λ j. is_stop j.sig) is) (one_of_four i.sig) ∙ (ap (λ b. (i.sig == 19 || (i.sig == 20 || (i.sig == 21 || i.sig == 22))) || b) (any_stop is) ∙ mixed (i.sig == 19) (i.sig == 20) (i.sig == 21) (i.sig == 22) (is_waiting 19 is) (is_waiting 20 is) (is_waiting 21 is) (is_waiting 22 is))
  where
    mixed : (a b c d x y z w : Bool) → ((a || (b || (c || d))) || (x || (y || (z || w)))) ≡ ((a || x) || ((b || y) || ((c || z) || (d || w))))
    mixed true b c d x y z w = refl
    mixed false true c d true y z w = refl
    mixed false true c d false y z w = refl
    mixed false false true d true y z w = refl
    mixed false false true d false true z w = refl
    mixed false false true d false false z w = refl
    mixed false false false true true y z w = refl
    mixed false false false true false true z w = refl
    mixed false false false true false false true w = refl
    mixed false false false true false false false w = refl
    mixed false false false false x y z w = refl
