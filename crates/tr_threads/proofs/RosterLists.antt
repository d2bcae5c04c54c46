-- The roster that a list of ids and a list of rosters beside it have for a group.
use Rattle.std.proofs.Common.{◌≡◌, ◌==◌, ◌+◌, ◌-◌, ◌<◌, ◌≤◌, ◌∙◌, ◌⊎◌, inl, inr, ℕ, zero, suc, List, [], ◌∷◌, ◌++◌, Bool, true, false, Option, Some, None, cond, if◌then◌else◌, get_or, is_some, length, nat_eq, position, remove, set, arith, ap, refl, subst, sym}
use Rattle.std.specs.Prelude.{unwrap_or}
use Rattle.std.specs.List.{list_any, zip}
use Rattle.std.specs.Map.{lookup}
use Rattle.std.proofs.lemmas.Bool.{cases_eq, eq-eqb, eqb-false, eqb-true, ne_eqb}
use Rattle.std.proofs.lemmas.List.{set-get_or}
use Rattle.tr_model.specs.Journals.{occurs}
use Rattle.tr_tracee.specs.declared.thread.Thread.{Thread}
use Rattle.tr_tracee.specs.Lives.{is_dead, is_live}
use Rattle.tr_tracee.specs.Threads.{is_traced}
use Rattle.tr_threads.specs.Alike.{StandAlike}
use Rattle.tr_index.specs.Counts.{bool_to_nat}
use Rattle.tr_threads.specs.Rosters.{CountAlike, HasRow, HaveSameWords, RosterView, no_one, rewritten, roster_in, unless_empty, with_counts, with_marks, with_words}
use Rattle.tr_index.specs.Places.{place_in}
use Rattle.tr_threads.specs.Rows.{blocked_word, runnable_word}
use Rattle.tr_index.specs.Pages.{counted_from_one}
use Rattle.tr_threads.proofs.Alike.{blocks_alike}
use Rattle.tr_index.proofs.Numbered.{absent, bump, number, number_is}

-- that of the first group with the id
abbrev pub value : ℕ → List ℕ → List RosterView → RosterView
value g [] rs = no_one
value g (x ∷ xs) [] = no_one
value g (x ∷ xs) (r ∷ rs) = if x == g then r else value g xs rs

same_test : (g x : ℕ) → nat_eq g x ≡ (x == g)
same_test g x = go (cases_eq x g)
  where
    go : (x ≡ g) ⊎ (x ≡ g → ⊥) → nat_eq g x ≡ (x == g)
    go (inl e) = eq-eqb g x (sym e) ∙ sym (eq-eqb x g e)
    go (inr e) = ne_eqb g x (λ k. e (sym k)) ∙ sym (ne_eqb x g e)

pub value_is : (g : ℕ) (xs : List ℕ) (rs : List RosterView) → roster_in (zip xs rs) g ≡ value g xs rs
value_is g [] rs = refl
value_is g (x ∷ xs) [] = refl
value_is g (x ∷ xs) (r ∷ rs) = ap (λ (b : Bool). unwrap_or (cond b (Some r) (lookup (nat_eq g) (zip xs rs))) no_one) (same_test g x) ∙ go (x == g) (value_is g xs rs)
  where
    go : (b : Bool) → roster_in (zip xs rs) g ≡ value g xs rs → unwrap_or (cond b (Some r) (lookup (nat_eq g) (zip xs rs))) no_one ≡ (if b then r else value g xs rs)
    go true h = refl
    go false h = h

-- Where the group stands, counted from 1

-- at the front, or one place further on than in the rest
by_step : (b : Bool) (k p : ℕ) → (if b then 1 else bump k) ≡ suc p → ((b ≡ true) × (p ≡ 0)) ⊎ ((b ≡ false) × (q : ℕ) × (p ≡ suc q) × (k ≡ suc q))
by_step true k p h = inl (refl, omega (arith, h))
by_step false zero p h = absurd (omega (arith, h))
by_step false (suc k) p h = inr (refl, k, omega (arith, h), refl)

no_step : (b : Bool) (k : ℕ) → (if b then 1 else bump k) ≡ 0 → (b ≡ false) × (k ≡ 0)
no_step true k h = absurd (omega (arith, h))
no_step false zero h = (refl, refl)
no_step false (suc k) h = absurd (omega (arith, h))

pub none_there : (g : ℕ) (xs : List ℕ) (rs : List RosterView) → number g xs ≡ 0 → value g xs rs ≡ no_one
none_there g [] rs h = refl
none_there g (x ∷ xs) [] h = refl
none_there g (x ∷ xs) (r ∷ rs) h = let s = no_step (x == g) (number g xs) h in rw s.0 (none_there g xs rs s.1)

pub one_there : (g p : ℕ) (xs : List ℕ) (rs : List RosterView) (d : RosterView) → length xs ≡ length rs → number g xs ≡ suc p → (p < length rs) × (value g xs rs ≡ get_or rs p d)
one_there g p [] rs d l h = absurd (omega (arith, h))
one_there g p (x ∷ xs) [] d l h = absurd (omega (arith, l))
one_there g p (x ∷ xs) (r ∷ rs) d l h = go (by_step (x == g) (number g xs) p h) (λ q k. one_there g q xs rs d (omega (arith, l)) k)
  where
    go : ((x == g) ≡ true) × (p ≡ 0) ⊎ ((x == g) ≡ false) × (q : ℕ) × (p ≡ suc q) × (number g xs ≡ suc q) → ((q : ℕ) → number g xs ≡ suc q → (q < length rs) × (value g xs rs ≡ get_or rs q d))
        → (p < suc (length rs)) × ((if x == g then r else value g xs rs) ≡ get_or (r ∷ rs) p d)
    go (inl s) f = rw (s.0, s.1) (omega arith, refl)
    go (inr s) f = let t = f s.1 s.3 in rw (s.0, s.2) (omega (arith, t.0), t.1)

no_any : (g : ℕ) (xs : List ℕ) → number g xs ≡ 0 → list_any (λ n. n == g) xs ≡ false
no_any g [] h = refl
no_any g (x ∷ xs) h = let s = no_step (x == g) (number g xs) h in rw s.0 (no_any g xs s.1)

-- of two groups that aren't one it doesn't matter which is looked at first
apart : (x g h : ℕ) (r a b : RosterView) → (x == g) ≡ false → (if x == h then r else (if g == h then a else b)) ≡ (if g == h then a else (if x == h then r else b))
apart x g h r a b e = go (cases_eq x h)
  where
    go : (x ≡ h) ⊎ (x ≡ h → ⊥) → (if x == h then r else (if g == h then a else b)) ≡ (if g == h then a else (if x == h then r else b))
    go (inl k) = rw (eq-eqb x h k, ne_eqb g h (λ q. eqb-false x g e (k ∙ sym q))) refl
    go (inr k) = rw (ne_eqb x h k) refl

front : (x g h : ℕ) (y r b : RosterView) → (x == g) ≡ true → (if x == h then y else b) ≡ (if g == h then y else (if x == h then r else b))
front x g h y r b e = ap (λ (i : ℕ). if i == h then y else b) same ∙ go (g == h) (x == h) (ap (λ (i : ℕ). i == h) (sym same))
  where
    same : x ≡ g
    same = eqb-true x g e

    go : (c d : Bool) → c ≡ d → (if c then y else b) ≡ (if c then y else (if d then r else b))
    go true d k = refl
    go false true k = cc
    go false false k = refl

pub written : (g p h : ℕ) (xs : List ℕ) (rs : List RosterView) (y : RosterView) → length xs ≡ length rs → number g xs ≡ suc p → value h xs (set rs p y) ≡ (if g == h then y else value h xs rs)
written g p h [] rs y l k = absurd (omega (arith, k))
written g p h (x ∷ xs) [] y l k = absurd (omega (arith, l))
written g p h (x ∷ xs) (r ∷ rs) y l k = go (by_step (x == g) (number g xs) p k) (λ q m. written g q h xs rs y (omega (arith, l)) m)
  where
    go : ((x == g) ≡ true) × (p ≡ 0) ⊎ ((x == g) ≡ false) × (q : ℕ) × (p ≡ suc q) × (number g xs ≡ suc q) → ((q : ℕ) → number g xs ≡ suc q → value h xs (set rs q y) ≡ (if g == h then y else value h xs rs))
        → value h (x ∷ xs) (set (r ∷ rs) p y) ≡ (if g == h then y else (if x == h then r else value h xs rs))
    go (inl s) f = rw s.1 (front x g h y r (value h xs rs) s.0)
    go (inr s) f = rw s.2 (ap (λ (b : RosterView). if x == h then r else b) (f s.1 s.3) ∙ apart x g h r y (value h xs rs) s.0)

pub pushed : (g h : ℕ) (xs : List ℕ) (rs : List RosterView) (y : RosterView) → length xs ≡ length rs → number g xs ≡ 0 → value h (xs ++ g ∷ []) (rs ++ y ∷ []) ≡ (if g == h then y else value h xs rs)
pushed g h [] [] y l k = refl
pushed g h [] (r ∷ rs) y l k = absurd (omega (arith, l))
pushed g h (x ∷ xs) [] y l k = absurd (omega (arith, l))
pushed g h (x ∷ xs) (r ∷ rs) y l k =
    let s = no_step (x == g) (number g xs) k in
    ap (λ (b : RosterView). if x == h then r else b) (pushed g h xs rs y (omega (arith, l)) s.1) ∙ apart x g h r y (value h xs rs) s.0

pub gone : (g p h : ℕ) (xs : List ℕ) (rs : List RosterView) → ((n : ℕ) → occurs n xs ≤ 1) → length xs ≡ length rs → number g xs ≡ suc p → value h (remove xs p) (remove rs p) ≡ (if g == h then no_one else value h xs rs)
gone g p h [] rs once l k = absurd (omega (arith, k))
gone g p h (x ∷ xs) [] once l k = absurd (omega (arith, l))
gone g p h (x ∷ xs) (r ∷ rs) once l k = go (by_step (x == g) (number g xs) p k) (λ q m. gone g q h xs rs (λ n. omega (arith, once n)) (omega (arith, l)) m)
  where
    none : (x ≡ h) ⊎ (x ≡ h → ⊥) → value h xs rs ≡ (if x == h then no_one else (if x == h then r else value h xs rs))
    none (inl e) = rw (eq-eqb x h e) (none_there h xs rs (absent h xs (omega (arith, once h, ap {B = ℕ} (λ (b : Bool). if b then 1 else 0) (eq-eqb x h e)))))
    none (inr e) = rw (ne_eqb x h e) refl

    go : ((x == g) ≡ true) × (p ≡ 0) ⊎ ((x == g) ≡ false) × (q : ℕ) × (p ≡ suc q) × (number g xs ≡ suc q) → ((q : ℕ) → number g xs ≡ suc q → value h (remove xs q) (remove rs q) ≡ (if g == h then no_one else value h xs rs))
        → value h (remove (x ∷ xs) p) (remove (r ∷ rs) p) ≡ (if g == h then no_one else (if x == h then r else value h xs rs))
    go (inl s) f = rw s.1 (none (cases_eq x h) ∙ ap (λ (i : ℕ). if i == h then no_one else (if x == h then r else value h xs rs)) (eqb-true x g s.0))
    go (inr s) f = rw s.2 (ap (λ (b : RosterView). if x == h then r else b) (f s.1 s.3) ∙ apart x g h r no_one (value h xs rs) s.0)

-- What a look-up of the group's id says

module _ (g : ℕ) (ids : List ℕ) (rs : List RosterView) (v : List (ℕ × RosterView)) (o : Option ℕ) (same : length ids ≡ length rs) (is : zip ids rs ≡ v) (at : o ≡ position (λ n. n == g) ids) where
  stands : (p : ℕ) → o ≡ Some p → number g ids ≡ suc p
  stands p e = sym (number_is g ids) ∙ ap counted_from_one (sym at ∙ e)

  stands_not : o ≡ None → number g ids ≡ 0
  stands_not e = sym (number_is g ids) ∙ ap counted_from_one (sym at ∙ e)

  of_view : (h : ℕ) → value h ids rs ≡ roster_in v h
  of_view h = sym (value_is h ids rs) ∙ ap (λ (w : List (ℕ × RosterView)). roster_in w h) is

  pub is_absent : o ≡ None → roster_in v g ≡ no_one
  is_absent e = sym (of_view g) ∙ none_there g ids rs (stands_not e)

  pub is_new : o ≡ None → list_any (λ n. n == g) ids ≡ false
  is_new e = no_any g ids (stands_not e)

  pub is_within : (p : ℕ) → o ≡ Some p → p < length rs
  is_within p e = (one_there g p ids rs no_one same (stands p e)).0

  pub is_found : (p : ℕ) (d : RosterView) → o ≡ Some p → get_or rs p d ≡ roster_in v g
  is_found p d e = sym (one_there g p ids rs d same (stands p e)).1 ∙ of_view g

  pub is_written : (p h : ℕ) (y : RosterView) → o ≡ Some p → roster_in (zip ids (set rs p y)) h ≡ (if g == h then y else roster_in v h)
  is_written p h y e = value_is h ids (set rs p y) ∙ (written g p h ids rs y same (stands p e) ∙ ap (λ (b : RosterView). if g == h then y else b) (of_view h))

  pub is_pushed : (h : ℕ) (y : RosterView) → o ≡ None → roster_in (zip (ids ++ g ∷ []) (rs ++ y ∷ [])) h ≡ (if g == h then y else roster_in v h)
  is_pushed h y e = value_is h (ids ++ g ∷ []) (rs ++ y ∷ []) ∙ (pushed g h ids rs y same (stands_not e) ∙ ap (λ (b : RosterView). if g == h then y else b) (of_view h))

  pub is_gone : (p h : ℕ) → ((n : ℕ) → occurs n ids ≤ 1) → o ≡ Some p → roster_in (zip (remove ids p) (remove rs p)) h ≡ (if g == h then no_one else roster_in v h)
  is_gone p h once e = value_is h (remove ids p) (remove rs p) ∙ (gone g p h ids rs once same (stands p e) ∙ ap (λ (b : RosterView). if g == h then no_one else b) (of_view h))

-- the group itself is the one that is looked at
pub at_itself : (g h : ℕ) (f : RosterView → RosterView) (v : List (ℕ × RosterView)) → (if g == h then f (roster_in v g) else roster_in v h) ≡ (if g == h then f (roster_in v h) else roster_in v h)
at_itself g h f v = go (cases_eq g h)
  where
    go : (g ≡ h) ⊎ (g ≡ h → ⊥) → (if g == h then f (roster_in v g) else roster_in v h) ≡ (if g == h then f (roster_in v h) else roster_in v h)
    go (inl e) = ap (λ (i : ℕ). if g == h then f (roster_in v i) else roster_in v h) e
    go (inr e) = rw (ne_eqb g h e) refl

-- nothing becomes nothing
pub stays : (g h : ℕ) (f : RosterView → RosterView) (v : List (ℕ × RosterView)) → roster_in v g ≡ no_one → f no_one ≡ no_one → roster_in v h ≡ (if g == h then f (roster_in v h) else roster_in v h)
stays g h f v none same = go (cases_eq g h)
  where
    go : (g ≡ h) ⊎ (g ≡ h → ⊥) → roster_in v h ≡ (if g == h then f (roster_in v h) else roster_in v h)
    go (inl e) = let here : roster_in v h ≡ no_one = ap (roster_in v) (sym e) ∙ none in rw (eq-eqb g h e) (here ∙ sym (ap f here ∙ same))
    go (inr e) = rw (ne_eqb g h e) refl

pub set_then_removed : (rs : List RosterView) (p : ℕ) (y : RosterView) → remove (set rs p y) p ≡ remove rs p
set_then_removed [] zero y = refl
set_then_removed [] (suc p) y = refl
set_then_removed (r ∷ rs) zero y = refl
set_then_removed (r ∷ rs) (suc p) y = ap (λ (xs : List RosterView). r ∷ xs) (set_then_removed rs p y)

pub none_left : (r : RosterView) → (length r.ids == 0) ≡ true → no_one ≡ unless_empty r
none_left r e = ap (λ (b : Bool). if b then no_one else r) (sym e)

pub some_left : (r : RosterView) → (length r.ids == 0) ≡ false → r ≡ unless_empty r
some_left r e = ap (λ (b : Bool). if b then no_one else r) (sym e)

-- a thread that counts as before leaves its roster as it is

same_count : (n : ℕ) (a b : Bool) → a ≡ b → n ≡ n + bool_to_nat b - bool_to_nat a
same_count n a b e = let m = ap bool_to_nat e in omega (arith, m)

same_place : (xs : List ℕ) (i x y : ℕ) → get_or xs i x ≡ x → x ≡ y → xs ≡ set xs i y
same_place xs i x y e f = sym (ap (λ (z : ℕ). set xs i z) (sym f ∙ sym e) ∙ set-get_or xs i x)

pub words_stay : (t u : Thread) → HaveSameWords t u → (r : RosterView) → HasRow t r → with_words t.id u r ≡ r
words_stay t u a r row = λ i. record {
  ids = r.ids;
  blocked = sym (same_place r.blocked (place_in t.id r.ids) (blocked_word t) (blocked_word u) row.blocked a.blocked) i;
  runnable = sym (same_place r.runnable (place_in t.id r.ids) (runnable_word t) (runnable_word u) row.runnable a.runnable) i;
  live = r.live;
  dead = r.dead;
  traced = r.traced;
  marked = r.marked;
}

pub counts_stay : (t u : Thread) → CountAlike t u → (r : RosterView) → with_counts t u r ≡ r
counts_stay t u a r = λ i. record {
  ids = r.ids;
  blocked = r.blocked;
  runnable = r.runnable;
  live = sym (same_count r.live (is_live t.life) (is_live u.life) a.live) i;
  dead = sym (same_count r.dead (is_dead t.life) (is_dead u.life) a.dead) i;
  traced = sym (same_count r.traced (is_traced t) (is_traced u) a.traced) i;
  marked = sym (same_count r.marked t.stop_mark u.stop_mark a.marked) i;
}

-- one that stands as before is written by its marks alone
pub marks_written : (t u : Thread) → StandAlike t u → u.id ≡ t.id → (r : RosterView) → HasRow t r → with_marks t.stop_mark u r ≡ rewritten t u r
marks_written t u a e r row = λ i. record {
  ids = r.ids;
  blocked = same_place r.blocked (place_in t.id r.ids) (blocked_word t) (blocked_word u) row.blocked (blocks_alike t u a) i;
  runnable = set r.runnable (place_in (e i) r.ids) (runnable_word u);
  live = same_count r.live (is_live t.life) (is_live u.life) a.live i;
  dead = same_count r.dead (is_dead t.life) (is_dead u.life) a.dead i;
  traced = same_count r.traced (is_traced t) (is_traced u) (ap is_some a.trace) i;
  marked = r.marked + bool_to_nat u.stop_mark - bool_to_nat t.stop_mark;
}

pub marks_in : (t u : Thread) → StandAlike t u → u.id ≡ t.id → (g h : ℕ) (rs : List (ℕ × RosterView)) → HasRow t (roster_in rs g) → (if g == h then with_marks t.stop_mark u (roster_in rs h) else roster_in rs h) ≡ (if g == h then rewritten t u (roster_in rs h) else roster_in rs h)
marks_in t u a e g h rs row = go (g == h) refl
  where
    go : (b : Bool) → (g == h) ≡ b → (if b then with_marks t.stop_mark u (roster_in rs h) else roster_in rs h) ≡ (if b then rewritten t u (roster_in rs h) else roster_in rs h)
    go true k = marks_written t u a e (roster_in rs h) (subst (λ (n : ℕ). HasRow t (roster_in rs n)) (eqb-true g h k) row)
    go false k = refl

pub unwritten : (t u : Thread) → HaveSameWords t u → CountAlike t u → (g h : ℕ) (rs : List (ℕ × RosterView)) → HasRow t (roster_in rs g) → roster_in rs h ≡ (if g == h then rewritten t u (roster_in rs h) else roster_in rs h)
unwritten t u words counts g h rs row = go (g == h) refl
  where
    r : RosterView
    r = roster_in rs h

    go : (b : Bool) → (g == h) ≡ b → r ≡ (if b then rewritten t u r else r)
    go true e = sym (counts_stay t u counts (with_words t.id u r) ∙ words_stay t u words r (subst (λ (n : ℕ). HasRow t (roster_in rs n)) (eqb-true g h e) row))
    go false e = refl
