-- A journal that replays, cut at a position.
use Rattle.std.proofs.Common.{◌≡◌, ℕ, zero, suc, ◌+◌, ◌<◌, ◌≤◌, List, [], ◌∷◌, ◌++◌, length, take, drop, Some, refl, sym, ap, ◌∙◌, subst, arith, inl, inr, append-nil, append_assoc, length-append}
use Rattle.std.proofs.Math.Seq.{drop-append-add, take-append_seam}
use Rattle.std.proofs.lemmas.Option.{none-some, same_Some}
use Rattle.std.specs.Prelude.{slice_get}
use Rattle.tr_model.specs.Entries.{Entry}
use Rattle.tr_model.specs.declared.replies.Reply.{Reply}
use Rattle.tr_model.specs.Journals.{IsIn, Replay, killed_by, renamed_by}
use Rattle.tr_model.specs.Steps.{Step, work_of}
use Rattle.tr_model.specs.Tables.{Table}
use Rattle.tr_kernel.specs.Notes.{dying_by}
use Rattle.tr_kernel.specs.Positions.{table_at}

-- the parts before an entry, at it and after it
pub record Cut (T : Table) (es : List Entry) (rs : List Reply) (U : Table) (k : ℕ) (e : Entry) : Type 0 where
  pub reply : Reply
  pub earlier : Replay T (take k es) (take k rs) (table_at T es k)
  pub step : Step (table_at T es k) e reply (table_at T es (suc k))
  pub later : Replay (table_at T es (suc k)) (drop (suc k) es) (drop (suc k) rs) U

made : (T M : Table) (x : Entry) (r : Reply) → Step T x r M → Step T x r (work_of T x).table
made T M x r s = subst (Step T x r) s.table s

goes_on : (T M U : Table) (x : Entry) (r : Reply) (es : List Entry) (rs : List Reply) → Step T x r M → Replay M es rs U → Replay (work_of T x).table es rs U
goes_on T M U x r es rs s h = subst (λ N. Replay N es rs U) s.table h

pub cut : (k : ℕ) (T U : Table) (es : List Entry) (rs : List Reply) (e : Entry) → Replay T es rs U → slice_get es k ≡ Some e → Cut T es rs U k e
cut k T U [] rs e h q = absurd (none-some e q)
cut k T U (x ∷ es) [] e h q = absurd h
cut zero T U (x ∷ es) (r ∷ rs) e h q = record {
  reply = r;
  earlier = refl;
  step = subst (λ y. Step T y r (work_of T x).table) (same_Some x e q) (made T h.0 x r h.1);
  later = goes_on T h.0 U x r es rs h.1 h.2;
}
cut (suc k) T U (x ∷ es) (r ∷ rs) e h q =
    let c = cut k (work_of T x).table U es rs e (goes_on T h.0 U x r es rs h.1 h.2) q in
    record { reply = c.reply; earlier = ((work_of T x).table, made T h.0 x r h.1, c.earlier); step = c.step; later = c.later }

-- the part up to a number of entries
pub replay_to : (n : ℕ) (T U : Table) (es : List Entry) (rs : List Reply) → Replay T es rs U → n ≤ length es → Replay T (take n es) (take n rs) (table_at T es n)
replay_to zero T U es rs h l = refl
replay_to (suc n) T U [] rs h l = absurd (omega arith)
replay_to (suc n) T U (x ∷ es) [] h l = absurd h
replay_to (suc n) T U (x ∷ es) (r ∷ rs) h l = ((work_of T x).table, made T h.0 x r h.1, replay_to n (work_of T x).table U es rs (goes_on T h.0 U x r es rs h.1 h.2) (omega arith))

-- Places

pub some_there : (es : List Entry) (k : ℕ) → k < length es → (e : Entry) × (slice_get es k ≡ Some e)
some_there [] k l = absurd (omega arith)
some_there (x ∷ es) zero l = (x, refl)
some_there (x ∷ es) (suc k) l = some_there es k (omega arith)

pub get_take : (es : List Entry) (n k : ℕ) → k < n → slice_get (take n es) k ≡ slice_get es k
get_take es zero k l = absurd (omega arith)
get_take [] (suc n) k l = refl
get_take (x ∷ es) (suc n) zero l = refl
get_take (x ∷ es) (suc n) (suc k) l = get_take es n k (omega arith)

pub table_take : (T : Table) (es : List Entry) (n k : ℕ) → k ≤ n → table_at T (take n es) k ≡ table_at T es k
table_take T es n zero l = refl
table_take T es zero (suc k) l = absurd (omega arith)
table_take T [] (suc n) (suc k) l = refl
table_take T (x ∷ es) (suc n) (suc k) l = table_take (work_of T x).table es n k (omega arith)

pub get_drop : (es : List Entry) (i n : ℕ) → slice_get (drop i es) n ≡ slice_get es (i + n)
get_drop es zero n = ap (slice_get es) (omega arith)
get_drop [] (suc i) n = refl
get_drop (x ∷ es) (suc i) n = get_drop es i n ∙ ap (slice_get (x ∷ es)) next
  where
    next : suc (i + n) ≡ suc i + n
    next = omega arith

pub table_drop : (T : Table) (es : List Entry) (i n : ℕ) → table_at (table_at T es i) (drop i es) n ≡ table_at T es (i + n)
table_drop T es zero n = ap (table_at T es) (omega arith)
table_drop T [] (suc i) zero = ap (table_at T []) {x = suc i} (omega arith)
table_drop T [] (suc i) (suc n) = ap (table_at T []) {x = suc (i + suc n)} (omega arith)
table_drop T (x ∷ es) (suc i) n = table_drop (work_of T x).table es i n ∙ ap (table_at T (x ∷ es)) next
  where
    next : suc (i + n) ≡ suc i + n
    next = omega arith

-- the part between an entry and a later position
pub replay_between : (i j : ℕ) (T : Table) (es : List Entry) (rs : List Reply) (e : Entry) → Replay T (take j es) (take j rs) (table_at T es j) → i < j → slice_get es i ≡ Some e
    → Replay (table_at T es (suc i)) (drop (suc i) (take j es)) (drop (suc i) (take j rs)) (table_at T es j)
replay_between i j T es rs e h l q =
    let c = cut i T (table_at T es j) (take j es) (take j rs) e h (get_take es j i l ∙ q) in
    subst (λ M. Replay M (drop (suc i) (take j es)) (drop (suc i) (take j rs)) (table_at T es j)) (table_take T es j (suc i) (omega arith)) c.later

-- What the entries up to a place did

pub killed_there : (T : Table) (es : List Entry) (k n g : ℕ) (e : Entry) → slice_get es k ≡ Some e → k < n → IsIn g (work_of (table_at T es k) e).killed → IsIn g (killed_by T (take n es))
killed_there T [] k n g e q l h = absurd (none-some e q)
killed_there T (x ∷ es) k zero g e q l h = absurd (omega arith)
killed_there T (x ∷ es) zero (suc n) g e q l h = in_left g (work_of T x).killed _ (subst (λ y. IsIn g (work_of T y).killed) (sym (same_Some x e q)) h)
  where
    in_left : (g : ℕ) (xs ys : List ℕ) → IsIn g xs → IsIn g (xs ++ ys)
    in_left g [] ys m = absurd m
    in_left g (x ∷ xs) ys (inl m) = inl m
    in_left g (x ∷ xs) ys (inr m) = inr (in_left g xs ys m)
killed_there T (x ∷ es) (suc k) (suc n) g e q l h = in_right g (work_of T x).killed _ (killed_there (work_of T x).table es k n g e q (omega arith) h)
  where
    in_right : (g : ℕ) (xs ys : List ℕ) → IsIn g ys → IsIn g (xs ++ ys)
    in_right g [] ys m = m
    in_right g (x ∷ xs) ys m = inr (in_right g xs ys m)

pub renamed_split : (T : Table) (es : List Entry) (i : ℕ) → renamed_by T es ≡ renamed_by T (take i es) ++ renamed_by (table_at T es i) (drop i es)
renamed_split T es zero = refl
renamed_split T [] (suc i) = refl
renamed_split T (x ∷ es) (suc i) = ap (λ ys. (work_of T x).renamed ++ ys) (renamed_split (work_of T x).table es i) ∙ sym (append_assoc (work_of T x).renamed (renamed_by (work_of T x).table (take i es)) (renamed_by (table_at (work_of T x).table es i) (drop i es)))

pub renamed_next : (T : Table) (es : List Entry) (k : ℕ) (e : Entry) → slice_get es k ≡ Some e → renamed_by T (take (suc k) es) ≡ renamed_by T (take k es) ++ (work_of (table_at T es k) e).renamed
renamed_next T [] k e q = absurd (none-some e q)
renamed_next T (x ∷ es) zero e q = append-nil (work_of T x).renamed ∙ ap (λ y. (work_of T y).renamed) (same_Some x e q)
renamed_next T (x ∷ es) (suc k) e q =
    ap (λ ys. (work_of T x).renamed ++ ys) (renamed_next (work_of T x).table es k e q)
    ∙ sym (append_assoc (work_of T x).renamed (renamed_by (work_of T x).table (take k es)) (work_of (table_at (work_of T x).table es k) e).renamed)

-- the deaths that an entry began, among all
pub dying_there : (T : Table) (es : List Entry) (k : ℕ) (e : Entry) → slice_get es k ≡ Some e
    → take (length (work_of (table_at T es k) e).dying) (drop (length (dying_by T (take k es))) (dying_by T es)) ≡ (work_of (table_at T es k) e).dying
dying_there T [] k e q = absurd (none-some e q)
dying_there T (x ∷ es) zero e q = subst (λ y. take (length (work_of T y).dying) ((work_of T x).dying ++ dying_by (work_of T x).table es) ≡ (work_of T y).dying) (same_Some x e q) (take-append_seam (work_of T x).dying (dying_by (work_of T x).table es))
dying_there T (x ∷ es) (suc k) e q =
    ap (take (length (work_of (table_at (work_of T x).table es k) e).dying)) (past (work_of T x).dying (dying_by (work_of T x).table (take k es)) (dying_by (work_of T x).table es))
    ∙ dying_there (work_of T x).table es k e q
  where
    past : (xs ys zs : List ℕ) → drop (length (xs ++ ys)) (xs ++ zs) ≡ drop (length ys) zs
    past xs ys zs = ap (λ n. drop n (xs ++ zs)) (length-append xs ys) ∙ drop-append-add xs zs (length ys)
