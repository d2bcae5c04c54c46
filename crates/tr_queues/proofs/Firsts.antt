-- The first of a line, among all that waits.
use Rattle.std.proofs.Common.{◌≡◌, ◌∙◌, ◌+◌, ◌<◌, ◌==◌, ◌&&◌, ℕ, suc, not, List, [], ◌∷◌, Bool, true, false, Option, Some, None, if◌then◌else◌, filter, map, slice_get, refl, sym, ap, arith}
use Rattle.std.specs.Prelude.{option_map}
use Rattle.std.proofs.lemmas.Bool.Decides.{nat_tests}
use Rattle.tr_pending.specs.declared.instance.Instance.{Instance}
use Rattle.tr_pending.specs.Waiting.{first_of, place_of}
use Rattle.tr_model.specs.declared.rows.Target.{Target}
use Rattle.tr_model.specs.declared.rows.Waiting.{Waiting}
use Rattle.tr_model.specs.Journals.{AllAbove, IsSorted}
use Rattle.tr_model.specs.Moves.{instance_in, without_instance}
use Rattle.tr_model.specs.Tables.{same_target}
use Rattle.tr_queues.specs.Changes.{queue_in}
use Rattle.tr_queues.specs.declared.lines.Line.{Line}
use Rattle.tr_queues.specs.Lines.{line_of}
use Rattle.tr_queues.specs.Queues.{is_one, without_one}

first_here : (s : ℕ) (i : Instance) (is : List Instance) → (i.sig == s) ≡ true → first_of s (i ∷ is) ≡ Some i
first_here s i is e = ap (λ b. slice_get (i ∷ is) (if not b then 1 + place_of s is else 0)) e

first_later : (s : ℕ) (i : Instance) (is : List Instance) → (i.sig == s) ≡ false → first_of s (i ∷ is) ≡ first_of s is
first_later s i is e = ap (λ b. slice_get (i ∷ is) (if not b then 1 + place_of s is else 0)) e ∙ ap (slice_get (i ∷ is)) (let o : 1 + place_of s is ≡ suc (place_of s is) = omega arith in o)

line_first : (w : Waiting) (ws : List Waiting) (l : Line) → line_of (w ∷ ws) ≡ Some l → l.first ≡ w.instance.n
line_first w ws l h = go _ _ h
  where
    go : (a b : Line) → Some a ≡ Some b → b.first ≡ a.first
    go a b e = cc

above_first : (n : ℕ) (p : Waiting → Bool) (ws : List Waiting) (l : Line) → AllAbove n ws → line_of (filter p ws) ≡ Some l → n < l.first
above_first n p [] l h e = cc
above_first n p (w ∷ ws) l h e = go (p w) e (above_first n p ws l h.1)
  where
    go : (b : Bool) → line_of (if b then w ∷ filter p ws else filter p ws) ≡ Some l → (line_of (filter p ws) ≡ Some l → n < l.first) → n < l.first
    go true e rest = omega (arith, h.0, line_first w (filter p ws) l e)
    go false e rest = rest e

module _ (q : Target) (s : ℕ) where
  past : (w : Waiting) (ws : List Waiting) (l : Line) → AllAbove w.instance.n ws → line_of (filter (is_one q s) ws) ≡ Some l → (w.instance.n == l.first) ≡ false
  past w ws l h e = let less = above_first w.instance.n (is_one q s) ws l h e in grind (arith, nat_tests, less)

  pub first_line : (ws : List Waiting) (l : Line) → IsSorted ws → line_of (filter (is_one q s) ws) ≡ Some l → instance_in ws l.first ≡ first_of s (queue_in q ws)
  first_line [] l sorted h = cc
  first_line (w ∷ ws) l sorted h = go (same_target q w.target) (w.instance.sig == s) refl h (first_line ws l sorted.1)
    where
      G : List Waiting
      G = filter (λ v. same_target q v.target) ws

      next : line_of (filter (is_one q s) ws) ≡ Some l → instance_in (w ∷ ws) l.first ≡ instance_in ws l.first
      next e = ap (λ b. if b then Some w.instance else instance_in ws l.first) (past w ws l sorted.0 e)

      go : (b c : Bool) → (w.instance.sig == s) ≡ c → line_of (if b && c then w ∷ filter (is_one q s) ws else filter (is_one q s) ws) ≡ Some l → (line_of (filter (is_one q s) ws) ≡ Some l → instance_in ws l.first ≡ first_of s (queue_in q ws))
          → instance_in (w ∷ ws) l.first ≡ first_of s (map (λ v. v.instance) (if b then w ∷ G else G))
      go true true c h rest =
          let e = line_first w (filter (is_one q s) ws) l h in
          let here : (w.instance.n == l.first) ≡ true = grind (arith, nat_tests, e) in
          ap (λ b. if b then Some w.instance else instance_in ws l.first) here ∙ sym (first_here s w.instance (queue_in q ws) c)
      go true false c h rest = next h ∙ (rest h ∙ sym (first_later s w.instance (queue_in q ws) c))
      go false true c h rest = next h ∙ rest h
      go false false c h rest = next h ∙ rest h

  pub line_number : (ws : List Waiting) (l : Line) → line_of (filter (is_one q s) ws) ≡ Some l → option_map (λ i. i.n) (first_of s (queue_in q ws)) ≡ Some l.first
  line_number [] l h = cc
  line_number (w ∷ ws) l h = go (same_target q w.target) (w.instance.sig == s) refl h (line_number ws l)
    where
      G : List Waiting
      G = filter (λ v. same_target q v.target) ws

      number : Option Instance → Option ℕ
      number = option_map (λ i. i.n)

      go : (b c : Bool) → (w.instance.sig == s) ≡ c → line_of (if b && c then w ∷ filter (is_one q s) ws else filter (is_one q s) ws) ≡ Some l → (line_of (filter (is_one q s) ws) ≡ Some l → number (first_of s (queue_in q ws)) ≡ Some l.first)
          → number (first_of s (map (λ v. v.instance) (if b then w ∷ G else G))) ≡ Some l.first
      go true true c h rest = ap number (first_here s w.instance (queue_in q ws) c) ∙ ap Some (sym (line_first w (filter (is_one q s) ws) l h))
      go true false c h rest = ap number (first_later s w.instance (queue_in q ws) c) ∙ rest h
      go false true c h rest = rest h
      go false false c h rest = rest h

  pub first_none : (ws : List Waiting) → line_of (filter (is_one q s) ws) ≡ None → first_of s (queue_in q ws) ≡ None
  first_none [] h = refl
  first_none (w ∷ ws) h = go (same_target q w.target) (w.instance.sig == s) refl h (first_none ws)
    where
      G : List Waiting
      G = filter (λ v. same_target q v.target) ws

      go : (b c : Bool) → (w.instance.sig == s) ≡ c → line_of (if b && c then w ∷ filter (is_one q s) ws else filter (is_one q s) ws) ≡ None → (line_of (filter (is_one q s) ws) ≡ None → first_of s (queue_in q ws) ≡ None)
          → first_of s (map (λ v. v.instance) (if b then w ∷ G else G)) ≡ None
      go true true c h rest = cc
      go true false c h rest = first_later s w.instance (queue_in q ws) c ∙ rest h
      go false true c h rest = rest h
      go false false c h rest = rest h

  pub without_line : (ws : List Waiting) (l : Line) → IsSorted ws → line_of (filter (is_one q s) ws) ≡ Some l → without_instance l.first ws ≡ without_one q s ws
  without_line [] l sorted h = refl
  without_line (w ∷ ws) l sorted h = go (is_one q s w) h (without_line ws l sorted.1)
    where
      go : (b : Bool) → line_of (if b then w ∷ filter (is_one q s) ws else filter (is_one q s) ws) ≡ Some l → (line_of (filter (is_one q s) ws) ≡ Some l → without_instance l.first ws ≡ without_one q s ws)
          → without_instance l.first (w ∷ ws) ≡ (if b then ws else w ∷ without_one q s ws)
      go true h rest =
          let e = line_first w (filter (is_one q s) ws) l h in
          let here : (w.instance.n == l.first) ≡ true = grind (arith, nat_tests, e) in
          ap (λ b. if b then ws else w ∷ without_instance l.first ws) here
      go false h rest = ap (λ b. if b then ws else w ∷ without_instance l.first ws) (past w ws l sorted.0 h) ∙ ap (λ vs. w ∷ vs) (rest h)

  pub without_none : (ws : List Waiting) → line_of (filter (is_one q s) ws) ≡ None → ws ≡ without_one q s ws
  without_none [] h = refl
  without_none (w ∷ ws) h = go (is_one q s w) h (without_none ws)
    where
      go : (b : Bool) → line_of (if b then w ∷ filter (is_one q s) ws else filter (is_one q s) ws) ≡ None → (line_of (filter (is_one q s) ws) ≡ None → ws ≡ without_one q s ws) → w ∷ ws ≡ (if b then ws else w ∷ without_one q s ws)
      go true h rest = cc
      go false h rest = ap (λ vs. w ∷ vs) (rest h)
