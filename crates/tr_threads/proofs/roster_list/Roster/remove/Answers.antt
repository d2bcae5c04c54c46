use Rattle.std.proofs.Common.{◌≡◌, ◌-◌, ◌+◌, ◌≤◌, ◌∙◌, ℕ, Bool, List, false, length, remove, arith, ap, refl, subst, sym}
use Rattle.tr_tracee.specs.Lives.{is_dead, is_live}
use Rattle.tr_tracee.specs.Threads.{is_traced}
use Rattle.tr_threads.specs.declared.roster_list.Roster.TheInside.{Inside}
use Rattle.tr_index.specs.Counts.{bool_to_nat}
use Rattle.tr_index.specs.Places.{place_in}
use Rattle.tr_threads.specs.Rosters.{without}
use Rattle.tr_threads.specs.Rows.{AreWords}
use Rattle.tr_threads.proofs.Members.{remove_past}
use Rattle.tr_threads.proofs.RowWords.{words_removed}
use Rattle.tr_threads.proofs.roster_list.Roster.remove.Goals.{then-place-len, else-place-len}
use Rattle.tr_threads.proofs.roster_list.Roster.remove.Goals as goal

abbrev IsWhole : Inside → Type 0
IsWhole r = (length r.blocked.items ≡ length r.ids.items) × (length r.runnable.items ≡ length r.ids.items) × AreWords r.blocked.items

pub invariant_of-self : goal.invariant_of-self
invariant_of-self c =
    let whole : IsWhole c.if-place-len.self-inside = elim c.if-place-len.branch [
      | then-place-len w ↦
          subst IsWhole (sym w.self-inside-is) (
            omega (arith, w.remove-id.ensures.len, w.remove-blocked.ensures.len, c.self.invariant.0),
            omega (arith, w.remove-id.ensures.len, w.remove-runnable.ensures.len, c.self.invariant.1),
            rw w.remove-blocked.ensures.items (words_removed c.self.inside.blocked.items c.place_in-place.result c.self.invariant.2),
          )
      | else-place-len w ↦ subst IsWhole (sym w.self-inside-is) c.self.invariant
    ] in
    (whole.0, whole.1, whole.2)

-- what is left of a count
less : (m n k : ℕ) (a b : Bool) → n ≡ k → a ≡ b → m + bool_to_nat a ≡ n + bool_to_nat false → m ≡ k - bool_to_nat b
less m n k a b s e h = omega (arith, h, s, ap bool_to_nat e)

abbrev lists_of : Inside → List ℕ × List ℕ × List ℕ
lists_of r = (r.ids.items, r.blocked.items, r.runnable.items)

abbrev counts_of : Inside → ℕ × ℕ × ℕ × ℕ
counts_of r = (r.live, r.dead, r.traced, r.marked)

pub returns : goal.returns
returns c =
    let t = c.args.thread.now in
    let ids : List ℕ = c.self.inside.ids.items in
    let bs : List ℕ = c.self.inside.blocked.items in
    let rs : List ℕ = c.self.inside.runnable.items in
    let o : Inside = c.self.inside in
    let p : Inside = c.if-place-len.self-inside in
    let n : ℕ = place_in t.id ids in
    let at : c.place_in-place.result ≡ n = c.place_in-place.ensures ∙ ap (place_in t.id) c.deref.ensures.0 in
    let left : ℕ → List ℕ × List ℕ × List ℕ = λ m. (remove ids m, remove bs m, remove rs m) in
    let lists : lists_of p ≡ left n
    = elim c.if-place-len.branch [
      | then-place-len w ↦ ap lists_of w.self-inside-is ∙ ((λ j. (w.remove-id.ensures.items j, w.remove-blocked.ensures.items j, w.remove-runnable.ensures.items j)) ∙ ap left at)
      | else-place-len w ↦
          let past : length ids ≤ n = omega (arith, w.if-place-len.false, at, c.len.ensures.value) in
          ap lists_of w.self-inside-is ∙ sym (λ j. (remove_past ids n past j, remove_past bs n (omega (arith, past, c.self.invariant.0)) j, remove_past rs n (omega (arith, past, c.self.invariant.1)) j))
    ] in
    let counts : counts_of p ≡ counts_of o
    = elim c.if-place-len.branch [
      | then-place-len w ↦ ap counts_of w.self-inside-is
      | else-place-len w ↦ ap counts_of w.self-inside-is
    ] in
    let live = less _ _ o.live _ (is_live t.life) (ap (λ q. q.0) counts) c.is_live.ensures c.recounted-self-inside.ensures in
    let dead = less _ _ o.dead _ (is_dead t.life) (ap (λ q. q.1) counts) c.is_dead.ensures c.recounted-self-inside-2.ensures in
    let traced = less _ _ o.traced _ (is_traced t) (ap (λ q. q.2) counts) c.is_traced.ensures c.recounted-self-inside-3.ensures in
    let marked = less _ _ o.marked t.stop_mark _ (ap (λ q. q.3) counts) refl c.recounted-self-inside-4.ensures in
    (λ j. record { ids = (lists j).0; blocked = (lists j).1; runnable = (lists j).2; live = live j; dead = dead j; traced = traced j; marked = marked j }) ∙ ap (without t) c.self.view_is
