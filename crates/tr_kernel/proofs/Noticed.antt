-- What the notes tell of the entry at a position.
use Rattle.std.proofs.Common.{◌≡◌, ℕ, zero, suc, ◌+◌, ◌-◌, ◌≤◌, List, [], ◌∷◌, ◌++◌, length, take, Option, Some, None, refl, sym, ap, ap₂, ◌∙◌, subst, arith, inl, ◌↔◌, true, true≢false, append-nil, append_assoc, length-append}
use Rattle.std.proofs.lemmas.Option.{none-some, same_Some, slice_get_within}
use Rattle.std.specs.Prelude.{slice_get}
use Rattle.tr_model.specs.Entries.{Entry}
use Rattle.tr_model.specs.Journals.{IsIn, renamed_by}
use Rattle.tr_model.specs.Steps.{work_of}
use Rattle.tr_model.specs.Tables.{Table}
use Rattle.tr_kernel.specs.declared.notes.EntryFact.{EntryFact}
use Rattle.tr_kernel.specs.declared.notes.EntryFact.TheVariants.{Nothing}
use Rattle.tr_kernel.specs.declared.notes.Note.{Note}
use Rattle.tr_kernel.specs.Laws.{KillsAt}
use Rattle.tr_kernel.specs.Notes.{dying_by, is_some_group, fact_of, note_of, notes_from, notes_of}
use Rattle.tr_kernel.specs.Positions.{table_at}
use Rattle.tr_kernel.specs.Private.{AreOrdered, deaths_in, deaths_to, killed_in, fact_at, fact_in}
use Rattle.tr_kernel.proofs.Cuts.{some_there}

note_there : (T : Table) (ids : List ℕ) (d : ℕ) (es : List Entry) (k : ℕ) (e : Entry) → slice_get es k ≡ Some e
    → slice_get (notes_from ids d T es) k ≡ Some (note_of (ids ++ renamed_by T (take k es)) (d + length (dying_by T (take k es))) (table_at T es k) e)
note_there T ids d [] k e q = absurd (none-some e q)
note_there T ids d (x ∷ es) zero e q = ap₂ (λ i n. Some (note_of i n T x)) (sym (append-nil ids)) (omega arith) ∙ ap (λ y. Some (note_of (ids ++ []) (d + 0) T y)) (same_Some x e q)
note_there T ids d (x ∷ es) (suc k) e q =
    let w = work_of T x in
    let n : (d + length w.dying) + length (dying_by w.table (take k es)) ≡ d + length (w.dying ++ dying_by w.table (take k es)) = omega (arith, length-append w.dying (dying_by w.table (take k es))) in
    note_there w.table (ids ++ w.renamed) (d + length w.dying) es k e q
    ∙ ap₂ (λ i m. Some (note_of i m (table_at w.table es k) e)) (append_assoc ids w.renamed (renamed_by w.table (take k es))) n

no_note : (T : Table) (ids : List ℕ) (d : ℕ) (es : List Entry) (k : ℕ) → slice_get es k ≡ None → slice_get (notes_from ids d T es) k ≡ None
no_note T ids d [] k q = refl
no_note T ids d (x ∷ es) zero q = absurd (none-some x (sym q))
no_note T ids d (x ∷ es) (suc k) q = no_note (work_of T x).table (ids ++ (work_of T x).renamed) (d + length (work_of T x).dying) es k q

-- the note of the entry at a place
pub note_is : (T : Table) (es : List Entry) (k : ℕ) (e : Entry) → slice_get es k ≡ Some e
    → slice_get (notes_of T es) k ≡ Some (note_of (renamed_by T (take k es)) (length (dying_by T (take k es))) (table_at T es k) e)
note_is T es k e q = note_there T [] 0 es k e q ∙ ap (λ d. Some (note_of (renamed_by T (take k es)) d (table_at T es k) e)) (omega arith)

pub mark_is : (T : Table) (es : List Entry) (k : ℕ) (e : Entry) → slice_get es k ≡ Some e → fact_at (notes_of T es) (suc k) ≡ fact_of (renamed_by T (take k es)) (table_at T es k) e.actor e.event e.choice
mark_is T es k e q = ap fact_in (note_is T es k e q)

-- a fact other than Nothing stands at an entry
pub marked_there : (T : Table) (es : List Entry) (p : ℕ) (m : EntryFact) → fact_at (notes_of T es) p ≡ m → (Nothing ≡ m → ⊥) → (k : ℕ) × (e : Entry) × (p ≡ suc k) × (slice_get es k ≡ Some e)
marked_there T es zero m q n = absurd (n q)
marked_there T es (suc k) m q n = go (slice_get es k) refl
  where
    go : (o : Option Entry) → slice_get es k ≡ o → (k' : ℕ) × (e : Entry) × (suc k ≡ suc k') × (slice_get es k' ≡ Some e)
    go None h = absurd (n (sym (ap fact_in (no_note T [] 0 es k h)) ∙ q))
    go (Some e) h = (k, e, refl, h)

pub length_notes : (T : Table) (ids : List ℕ) (d : ℕ) (es : List Entry) → length (notes_from ids d T es) ≡ length es
length_notes T ids d [] = refl
length_notes T ids d (e ∷ es) = ap suc (length_notes (work_of T e).table (ids ++ (work_of T e).renamed) (d + length (work_of T e).dying) es)

-- Deaths

dying_next : (T : Table) (es : List Entry) (k : ℕ) (e : Entry) → slice_get es k ≡ Some e → length (dying_by T (take (suc k) es)) ≡ length (dying_by T (take k es)) + length (work_of (table_at T es k) e).dying
dying_next T [] k e q = absurd (none-some e q)
dying_next T (x ∷ es) zero e q = omega (arith, ap (λ y. length (work_of T y).dying) (same_Some x e q), length-append (work_of T x).dying [])
dying_next T (x ∷ es) (suc k) e q =
    let w = work_of T x in
    omega (arith, dying_next w.table es k e q, length-append w.dying (dying_by w.table (take (suc k) es)), length-append w.dying (dying_by w.table (take k es)))

dying_up : (T : Table) (es : List Entry) (n : ℕ) → length (dying_by T (take n es)) ≤ length (dying_by T es)
dying_up T es zero = omega arith
dying_up T [] (suc n) = omega arith
dying_up T (x ∷ es) (suc n) =
    let w = work_of T x in
    omega (arith, dying_up w.table es n, length-append w.dying (dying_by w.table (take n es)), length-append w.dying (dying_by w.table es))

pub deaths_is : (T : Table) (es : List Entry) (k : ℕ) → k ≤ length es → deaths_to (notes_of T es) k ≡ length (dying_by T (take k es))
deaths_is T es zero l = refl
deaths_is T es (suc k) l =
    let s = some_there es k (omega arith) in
    ap deaths_in (note_is T es k s.0 s.1) ∙ sym (dying_next T es k s.0 s.1)

pub deaths_after : (T : Table) (es : List Entry) (k : ℕ) (e : Entry) → slice_get es k ≡ Some e → deaths_to (notes_of T es) (suc k) - deaths_to (notes_of T es) k ≡ length (work_of (table_at T es k) e).dying
deaths_after T es k e q =
    let l = slice_get_within es k e q in
    omega (arith, deaths_is T es k (omega arith), deaths_is T es (suc k) (omega arith), dying_next T es k e q)

pub notes_ordered : (T : Table) (es : List Entry) → AreOrdered (notes_of T es) (length (dying_by T es))
notes_ordered T es p l =
    let n : length (notes_of T es) ≡ length es = length_notes T [] 0 es in
    let s = some_there es p (omega arith) in
    (omega (arith, deaths_is T es p (omega arith), deaths_is T es (suc p) (omega arith), dying_next T es p s.0 s.1), omega (arith, deaths_is T es (suc p) (omega arith), dying_up T es (suc p)))

-- Kills

some_group : (gs : List ℕ) → (is_some_group gs ≡ true) ↔ ((g : ℕ) × IsIn g gs)
some_group [] = ((λ e. absurd (true≢false (sym e))), λ h. absurd h.1)
some_group (g ∷ gs) = ((λ e. (g, inl refl)), λ h. refl)

pub kills_exactly : (T : Table) (es : List Entry) (p : ℕ) (o : Option Note) → (p ≡ 0 → o ≡ None) → (1 ≤ p → o ≡ slice_get (notes_of T es) (p - 1)) → (killed_in o ≡ true) ↔ ((g : ℕ) × KillsAt T es p g)
kills_exactly T es zero o none at = rw (none refl) ((λ e. absurd (true≢false (sym e))), λ h. absurd (none-some h.1.0 h.1.1))
kills_exactly T es (suc k) o none at = go (slice_get es k) refl
  where
    note : o ≡ slice_get (notes_of T es) k
    note = at (omega arith) ∙ ap (slice_get (notes_of T es)) (omega arith)

    go : (x : Option Entry) → slice_get es k ≡ x → (killed_in o ≡ true) ↔ ((g : ℕ) × KillsAt T es (suc k) g)
    go None h = rw (note, no_note T [] 0 es k h) ((λ e. absurd (true≢false (sym e))), λ q. absurd (none-some q.1.0 (sym h ∙ q.1.1)))
    go (Some e) h =
        let s = some_group (work_of (table_at T es k) e).killed in
        let m : killed_in o ≡ is_some_group (work_of (table_at T es k) e).killed = ap killed_in (note ∙ note_is T es k e h) in (
          (λ t. let i = s.0 (sym m ∙ t) in (i.0, (e, h, i.1))),
          λ q. m ∙ s.1 (q.0, subst (λ y. IsIn q.0 (work_of (table_at T es k) y).killed) (same_Some q.1.0 e (sym q.1.1 ∙ h)) q.1.2),
        )
