-- A thread's words say whether it can take something, and the first word that does is that of the first thread that can.
use Rattle.std.proofs.Common.{◌≡◌, ◌==◌, ◌&&◌, ◌||◌, ◌-◌, ◌^◌, ◌<◌, ◌≤◌, ◌∙◌, ℕ, suc, List, [], ◌∷◌, Bool, true, false, not, nat_le, if◌then◌else◌, cond, Option, Some, None, is_some, length, arith, refl, sym, ap, subst, true≢false, inl, inr}
use Rattle.std.proofs.lemmas.Bool.{and_parts, eq-eqb, eqb-true, ltb-false, ltb-true, not-true, or_left, or_right}
use Rattle.std.proofs.lemmas.List.Folds.{find_at}
use Rattle.std.proofs.lemmas.Nat.{and_le_r}
use Rattle.std.proofs.lemmas.Nat.Bits.{bit_at_ones}
use Rattle.std.proofs.lemmas.Option.{slice_get_past}
use Rattle.std.specs.Int.{bit_at}
use Rattle.std.specs.List.{find, position, position_or_len}
use Rattle.std.specs.Prelude.{nat_lt, slice_get}
use Rattle.std.specs.Option.{option_or}
use Rattle.tr_sigset.specs.declared.sets.SigSet.{SigSet}
use Rattle.tr_sigset.specs.Sets.{has, in_word, word_of}
use Rattle.tr_sigset.proofs.Members.{in_range, in_word-zero}
use Rattle.tr_lanes.specs.Scans.{is_ready, ready_word, ready_words}
use Rattle.tr_lanes.proofs.Members.{in_word-ready, some_member}
use Rattle.tr_pending.specs.declared.instance.Instance.{Instance}
use Rattle.tr_pending.specs.Waiting.{best_of, is_waiting, preferred_of}
use Rattle.tr_tracee.specs.declared.life.Life.{Life}
use Rattle.tr_tracee.specs.declared.life.Life.TheVariants as life
use Rattle.tr_tracee.specs.declared.thread.Thread.{Thread}
use Rattle.tr_tracee.specs.Lives.{is_free, is_live}
use Rattle.tr_tracee.specs.Threads.{has_mark, in_group, is_ready_to_take}
use Rattle.tr_model.specs.declared.rows.Target.TheVariants as target
use Rattle.tr_model.specs.Tables.{Table, members, queue}
use Rattle.tr_model.specs.Takes.{can_take}
use Rattle.tr_model.proofs.Among.{Among, filter_among}
use Rattle.tr_model.proofs.Takable.{can_take_best}
use Rattle.tr_table.specs.Rows.{AreRows, IsRow, IsWord, RowsOf, RowsView}

same : (a b : Bool) → (a ≡ true → b ≡ true) → (b ≡ true → a ≡ true) → a ≡ b
same true b f g = sym (f refl)
same false true f g = g refl
same false false f g = refl

-- Something is best where something waits that isn't blocked

best_some : (mask : SigSet) (n : ℕ) (q : List Instance) → is_waiting n q ≡ true → has mask n ≡ false → is_some (best_of mask q) ≡ true
best_some mask n [] w h = absurd (true≢false (sym w))
best_some mask n (i ∷ q) w h = go (has mask i.sig) refl (i.sig == n) refl w (λ k. best_some mask n q k h)
  where
    go : (b : Bool) → has mask i.sig ≡ b → (c : Bool) → (i.sig == n) ≡ c → (c || is_waiting n q) ≡ true → (is_waiting n q ≡ true → is_some (best_of mask q) ≡ true)
        → is_some (if b then best_of mask q else Some (preferred_of i (best_of mask q))) ≡ true
    go false e c f k r = refl
    go true e true f k r = absurd (true≢false (sym e ∙ (ap (has mask) (eqb-true i.sig n f) ∙ h)))
    go true e false f k r = r k

record Open (mask : SigSet) (q : List Instance) : Type 0 where
  signal : ℕ
  waits : is_waiting signal q ≡ true
  free : has mask signal ≡ false

best_which : (mask : SigSet) (q : List Instance) → is_some (best_of mask q) ≡ true → Open mask q
best_which mask [] e = absurd (true≢false (sym e))
best_which mask (i ∷ q) e = go (has mask i.sig) refl e (best_which mask q)
  where
    go : (b : Bool) → has mask i.sig ≡ b → is_some (if b then best_of mask q else Some (preferred_of i (best_of mask q))) ≡ true → (is_some (best_of mask q) ≡ true → Open mask q) → Open mask (i ∷ q)
    go false f k r = record { signal = i.sig; waits = or_left (i.sig == i.sig) (is_waiting i.sig q) (eq-eqb i.sig i.sig refl); free = f }
    go true f k r = let o = r k in record { signal = o.signal; waits = or_right (i.sig == o.signal) (is_waiting o.signal q) o.waits; free = o.free }

-- One thread's words

in_full : (w n : ℕ) → in_word w n ≡ true → in_word (2 ^ 64 - 1) n ≡ true
unfolding in_word
in_full w n e =
    let range = (and_parts (nat_le 1 n && nat_le n 64) (bit_at w (n - 1) == 1) e).0 in
    rw (range, bit_at_ones 64 (n - 1) (in_range n range)) refl

free_live : (l : Life) → is_free l ≡ true → is_live l ≡ true
free_live life.Free e = refl
free_live life.Stopped e = absurd (true≢false (sym e))
free_live (life.InStop s) e = absurd (true≢false (sym e))
free_live life.Listening e = absurd (true≢false (sym e))
free_live (life.Leaving s told) e = absurd (true≢false (sym e))
free_live (life.Dead s) e = absurd (true≢false (sym e))
free_live life.Execing e = absurd (true≢false (sym e))

nonzero : (w n : ℕ) → in_word w n ≡ true → is_ready w ≡ true
nonzero w n e = go (w == 0) refl
  where
    go : (b : Bool) → (w == 0) ≡ b → not b ≡ true
    go true z = absurd (true≢false (sym e ∙ (ap (λ v. in_word v n) (eqb-true w 0 z) ∙ in_word-zero n)))
    go false z = refl

either : (a b : Option Instance) → is_some (option_or a b) ≡ (is_some a || is_some b)
either None b = refl
either (Some i) b = refl

module _ (T : Table) (t : Thread) (o b r s : ℕ) (row : IsRow T.waiting t o b r) (shared : IsWord s (queue T (target.Group t.group))) where
  abbrev own_queue : List Instance
  own_queue = queue T (target.Thread t.id)

  abbrev shared_queue : List Instance
  shared_queue = queue T (target.Group t.group)

  -- where it runs without a mark
  module _ (ready : is_ready_to_take t ≡ true) where
    full : r ≡ 2 ^ 64 - 1
    full = row.runnable ∙ ap (λ c. if c then 2 ^ 64 - 1 else 0) ready

    blocks : b ≡ word_of t.mask
    blocks = row.blocked ∙ ap (λ c. if c then word_of t.mask else 0) (free_live t.life (and_parts (is_free t.life) (not (has_mark t)) ready).0)

    member_is : (n : ℕ) → in_word (ready_word o b s r) n ≡ (((is_waiting n own_queue || is_waiting n shared_queue) && not (has t.mask n)) && in_word (2 ^ 64 - 1) n)
    member_is n =
        in_word-ready o b s r n row.fits
        ∙ (ap (λ x. ((x || in_word s n) && not (in_word b n)) && in_word r n) (row.own.waits n)
        ∙ (ap (λ x. ((is_waiting n own_queue || x) && not (in_word b n)) && in_word r n) (shared.waits n)
        ∙ (ap (λ x. ((is_waiting n own_queue || is_waiting n shared_queue) && not (in_word x n)) && in_word r n) blocks
        ∙ ap (λ x. ((is_waiting n own_queue || is_waiting n shared_queue) && not (has t.mask n)) && in_word x n) full)))

    member_from : (n : ℕ) → (is_waiting n own_queue || is_waiting n shared_queue) ≡ true → has t.mask n ≡ false → in_word (2 ^ 64 - 1) n ≡ true → is_ready (ready_word o b s r) ≡ true
    member_from n w h f = nonzero (ready_word o b s r) n (member_is n ∙ rw (w, h, f) refl)

    fits : ready_word o b s r < 2 ^ 64
    fits = let h : ready_word o b s r ≤ r = and_le_r _ r in omega (arith, h, full)

    takes : is_ready (ready_word o b s r) ≡ true → (is_some (best_of t.mask own_queue) || is_some (best_of t.mask shared_queue)) ≡ true
    takes e =
        let m = some_member (ready_word o b s r) fits (λ z. true≢false (sym e ∙ ap is_ready z)) in
        let p = and_parts ((is_waiting m.0 own_queue || is_waiting m.0 shared_queue) && not (has t.mask m.0)) (in_word (2 ^ 64 - 1) m.0) (sym (member_is m.0) ∙ m.1) in
        let q = and_parts (is_waiting m.0 own_queue || is_waiting m.0 shared_queue) (not (has t.mask m.0)) p.0 in
        go m.0 (is_waiting m.0 own_queue) refl q.0 (not-true (has t.mask m.0) q.1)
      where
        go : (n : ℕ) (c : Bool) → is_waiting n own_queue ≡ c → (c || is_waiting n shared_queue) ≡ true → has t.mask n ≡ false → (is_some (best_of t.mask own_queue) || is_some (best_of t.mask shared_queue)) ≡ true
        go n true f w h = or_left _ _ (best_some t.mask n own_queue f h)
        go n false f w h = or_right _ _ (best_some t.mask n shared_queue w h)

    ready_where : (is_some (best_of t.mask own_queue) || is_some (best_of t.mask shared_queue)) ≡ true → is_ready (ready_word o b s r) ≡ true
    ready_where e = go (is_some (best_of t.mask own_queue)) refl e
      where
        go : (c : Bool) → is_some (best_of t.mask own_queue) ≡ c → (c || is_some (best_of t.mask shared_queue)) ≡ true → is_ready (ready_word o b s r) ≡ true
        go true f k = let w = best_which t.mask own_queue f in member_from w.signal (or_left _ _ w.waits) w.free (in_full o w.signal (row.own.waits w.signal ∙ w.waits))
        go false f k = let w = best_which t.mask shared_queue k in member_from w.signal (or_right _ _ w.waits) w.free (in_full s w.signal (shared.waits w.signal ∙ w.waits))

  pub ready_takes : is_ready (ready_word o b s r) ≡ can_take T t
  ready_takes = go (is_ready_to_take t) refl
    where
      nothing : r ≡ 0 → is_ready (ready_word o b s r) ≡ false
      nothing z = let h : ready_word o b s r ≤ r = and_le_r _ r in let e : ready_word o b s r ≡ 0 = omega (arith, h, z) in ap is_ready e

      go : (c : Bool) → is_ready_to_take t ≡ c → is_ready (ready_word o b s r) ≡ can_take T t
      go true e = same _ _ (takes e) (ready_where e) ∙ (sym (either (best_of t.mask own_queue) (best_of t.mask shared_queue)) ∙ sym (can_take_best T t ∙ rw e refl))
      go false e = nothing (row.runnable ∙ ap (λ x. if x then 2 ^ 64 - 1 else 0) e) ∙ sym (can_take_best T t ∙ rw e refl)

-- All threads of a group

module _ (T : Table) (g s : ℕ) (shared : IsWord s (queue T (target.Group g))) where
  shared_of : (t : Thread) → t.group ≡ g → IsWord s (queue T (target.Group t.group))
  shared_of t e = subst (λ h. IsWord s (queue T (target.Group h))) (sym e) shared

  pub record SameRows (ts : List Thread) (os bs rs : List ℕ) : Type 0 where
    pub place : position_or_len is_ready (ready_words os bs s rs) ≡ position_or_len (can_take T) ts
    pub words : length (ready_words os bs s rs) ≡ length ts
    pub blocked : length bs ≡ length os
    pub runnable : length rs ≡ length os

  pub same_rows : (ts : List Thread) (os bs rs : List ℕ) → ((t : Thread) → Among t ts → t.group ≡ g) → AreRows T.waiting ts os bs rs → SameRows ts os bs rs
  same_rows [] [] [] [] m h = record { place = refl; words = refl; blocked = refl; runnable = refl }
  same_rows (t ∷ ts) (o ∷ os) (b ∷ bs) (r ∷ rs) m h =
      let k = same_rows ts os bs rs (λ x a. m x (inr a)) h.1 in
      let e : is_ready (ready_word o b s r) ≡ can_take T t = ready_takes T t o b r s h.0 (shared_of t (m t (inl refl))) in
      record { place = rw (e, k.place) refl; words = ap suc k.words; blocked = ap suc k.blocked; runnable = ap suc k.runnable }
  same_rows [] (o ∷ os) bs rs m h = absurd h
  same_rows [] [] (b ∷ bs) rs m h = absurd h
  same_rows [] [] [] (r ∷ rs) m h = absurd h
  same_rows (t ∷ ts) [] bs rs m h = absurd h
  same_rows (t ∷ ts) (o ∷ os) [] rs m h = absurd h
  same_rows (t ∷ ts) (o ∷ os) (b ∷ bs) [] m h = absurd h

-- Places

pub position_same : {X Y : Type 0} (p : X → Bool) (q : Y → Bool) (xs : List X) (ys : List Y) → position_or_len p xs ≡ position_or_len q ys → length xs ≡ length ys → position p xs ≡ position q ys
position_same p q xs ys e l = rw (e, l) refl

pub found_at : {X : Type 0} (p : X → Bool) (xs : List X) (k : ℕ) → position p xs ≡ Some k → (k < length xs) × (find p xs ≡ slice_get xs k)
found_at p xs k e = go (nat_lt (position_or_len p xs) (length xs)) refl e
  where
    go : (b : Bool) → nat_lt (position_or_len p xs) (length xs) ≡ b → cond b (Some (position_or_len p xs)) None ≡ Some k → (k < length xs) × (find p xs ≡ slice_get xs k)
    go true h f = let same_place : position_or_len p xs ≡ k = cc in (subst (λ n. n < length xs) same_place (ltb-true _ _ h), find_at p xs ∙ ap (slice_get xs) same_place)
    go false h f = cc

pub found_none : {X : Type 0} (p : X → Bool) (xs : List X) → position p xs ≡ None → find p xs ≡ None
found_none p xs e = go (nat_lt (position_or_len p xs) (length xs)) refl e
  where
    go : (b : Bool) → nat_lt (position_or_len p xs) (length xs) ≡ b → cond b (Some (position_or_len p xs)) None ≡ None → find p xs ≡ None
    go true h f = cc
    go false h f = find_at p xs ∙ slice_get_past xs _ (ltb-false _ _ h)

-- What a scan of a group's rows finds

pub rows_of : (T : Table) (g : ℕ) (rows : RowsView) → (h : RowsOf T g rows) → SameRows T g rows.shared h.shared (members T g) rows.own rows.blocked rows.runnable
rows_of T g rows h = same_rows T g rows.shared h.shared (members T g) rows.own rows.blocked rows.runnable (λ t a. eqb-true t.group g (filter_among (in_group g) t T.threads a).1) h.each

pub scanned : (T : Table) (g : ℕ) (rows : RowsView) → RowsOf T g rows → position is_ready (ready_words rows.own rows.blocked rows.shared rows.runnable) ≡ position (can_take T) (members T g)
scanned T g rows h = let k = rows_of T g rows h in position_same is_ready (can_take T) (ready_words rows.own rows.blocked rows.shared rows.runnable) (members T g) k.place k.words
