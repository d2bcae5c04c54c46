-- The row of a dead leader, which a thread of its group takes.
use Rattle.std.proofs.Common.{◌≡◌, ◌==◌, ◌&&◌, ◌≤◌, ◌∙◌, ℕ, List, Bool, true, false, Option, Some, None, if◌then◌else◌, get_or, map, position, ap, refl, subst, sym}
use Rattle.std.proofs.lemmas.List.{set-get_or}
use Rattle.tr_tracee.specs.declared.thread.Thread.{Thread}
use Rattle.tr_tracee.specs.Lives.{is_dead}
use Rattle.tr_tracee.specs.Threads.{at_thread}
use Rattle.tr_model.specs.Journals.{occurs}
use Rattle.tr_model.specs.Moves.{changed, in_leaders_row, renamed}
use Rattle.tr_model.specs.Tables.{ids_of}
use Rattle.tr_threads.specs.Kept.{IsLeaderPlace, IsPlace}
use Rattle.tr_threads.proofs.Onlys.{only_changed}
use Rattle.tr_threads.proofs.Places.{is_place}

module _ (t : Thread) (ts : List Thread) (ids : List ℕ) (r : Option ℕ) (i : ids ≡ ids_of ts) (e : r ≡ position (λ n. n == t.group) ids) (once : (n : ℕ) → occurs n ids ≤ 1) where
  as_change : map (in_leaders_row t) ts ≡ changed t.group (λ x. if is_dead x.life then renamed t.group t else x) ts
  as_change = (λ j. map (λ x. same x j) ts) ∙ only_changed t.group (λ x. if is_dead x.life then renamed t.group t else x) ts (rw (sym i) (once t.group))
    where
      go : (x : Thread) (b d : Bool) → (if b && d then renamed t.group t else x) ≡ (if b then (if d then renamed t.group t else x) else x)
      go x true d = refl
      go x false d = refl

      same : (x : Thread) → in_leaders_row t x ≡ at_thread t.group (λ y. if is_dead y.life then renamed t.group t else y) x
      same x = go x (x.id == t.group) (is_dead x.life)

  pub no_leader : r ≡ None → map (in_leaders_row t) ts ≡ ts
  no_leader n = let p : IsPlace t.group ts None = subst (IsPlace t.group ts) n (is_place t.group ts ids r i e) in as_change ∙ p.0 (λ x. if is_dead x.life then renamed t.group t else x)

  pub place_there : (k : ℕ) → r ≡ Some k → IsPlace t.group ts (Some k)
  place_there k n = subst (IsPlace t.group ts) n (is_place t.group ts ids r i e)

  pub dead_leader : (k : ℕ) (x : Thread) → r ≡ Some k → is_dead (get_or ts k x).life ≡ true → IsLeaderPlace t ts (Some k)
  dead_leader k x n dead =
      let p = place_there k n in
      (p.0, p.4, p.1 (λ y. if is_dead y.life then renamed t.group t else y) x (renamed t.group t) (sym (ap (λ b. if b then renamed t.group t else get_or ts k x) dead)) ∙ sym as_change)

  pub live_leader : (k : ℕ) (x : Thread) → r ≡ Some k → is_dead (get_or ts k x).life ≡ false → map (in_leaders_row t) ts ≡ ts
  live_leader k x n lives =
      let p = place_there k n in
      as_change ∙ (sym (p.1 (λ y. if is_dead y.life then renamed t.group t else y) x (get_or ts k x) (sym (ap (λ b. if b then renamed t.group t else get_or ts k x) lives))) ∙ set-get_or ts k x)
