-- Lanes after a call, from their parts.
use Rattle.std.proofs.Common.{◌≡◌, ◌<◌, ◌+◌, ◌∙◌, ℕ, Bool, true, List, [], ◌∷◌, ◌++◌, Option, Some, ap, sym, refl, append_assoc, add-one, drop, drop-cons, get_or, length}
use Rattle.tr_sigset.specs.Sets.{of_word}
use Rattle.tr_pending.specs.declared.instance.Instance.{Instance}
use Rattle.tr_pending.specs.Waiting.{best_of}
use Rattle.tr_tracee.specs.declared.thread.Thread.{Thread}
use Rattle.tr_model.specs.declared.rows.Group.{Group}
use Rattle.tr_model.specs.declared.rows.Target.{Target}
use Rattle.tr_model.specs.Tables.{Table, queue}
use Rattle.tr_figures.specs.declared.styles.Style.{Style}
use Rattle.tr_figures.specs.declared.styles.Style.TheVariants.{Name}
use Rattle.tr_figures.specs.Cells.{block, cell, cells, first_cell, group_cell, mark_cell, more_cell, report_cell, thread_cell, trace_cell}
use Rattle.tr_figures.specs.Elements.{Elements, all, none, printed, rect, words}
use Rattle.tr_figures.specs.Lives.{group_words, life_words, style_of_group, style_of_life}
use Rattle.tr_figures.proofs.Printed.{printed_both, pushed_both, pushed_none}

pub pushed_last : (old new : List ℕ) (x : Elements) → new ≡ old ++ printed x → new ≡ old ++ printed (all (x ∷ []))
pushed_last old new x h = pushed_both old new new x none h (pushed_none new new refl)

pub thread_told : (old p1 p2 p3 p4 new : List ℕ) (x : ℕ) (t : Thread) (s : Style) → s ≡ style_of_life t.pausing t.life →
    p1 ≡ old ++ printed (rect s (x + 124) 10 124 44) → p2 ≡ p1 ++ printed (words Name (x + 128) 30 (life_words t.pausing t.life)) → p3 ≡ p2 ++ printed (trace_cell x t.trace) →
    p4 ≡ p3 ++ printed (mark_cell x t) → new ≡ p4 ++ printed (report_cell x t.report) → new ≡ old ++ printed (thread_cell true x (Some t))
thread_told old p1 p2 p3 p4 new x t s is h1 h2 h3 h4 h5 =
    let a : Elements = rect (style_of_life t.pausing t.life) (x + 124) 10 124 44 in
    let b : Elements = words Name (x + 128) 30 (life_words t.pausing t.life) in
    let c : Elements = trace_cell x t.trace in
    let d : Elements = mark_cell x t in
    let e : Elements = report_cell x t.report in
    pushed_both old p1 new a (all (b ∷ c ∷ d ∷ e ∷ [])) (h1 ∙ ap (λ (s : Style). old ++ printed (rect s (x + 124) 10 124 44)) is)
    (pushed_both p1 p2 new b (all (c ∷ d ∷ e ∷ [])) h2
    (pushed_both p2 p3 new c (all (d ∷ e ∷ [])) h3
    (pushed_both p3 p4 new d (all (e ∷ [])) h4 (pushed_last p4 new e h5))))

pub group_told : (old p1 p2 new : List ℕ) (x : ℕ) (g : Group) (s : Style) → s ≡ style_of_group g.end g.group_stop →
    p1 ≡ old ++ printed (rect s (x + 124) 10 124 44) → p2 ≡ p1 ++ printed (words Name (x + 128) 30 (group_words g.end g.group_stop)) →
    new ≡ p2 ++ printed (report_cell x g.note) → new ≡ old ++ printed (group_cell true x (Some g))
group_told old p1 p2 new x g s is h1 h2 h3 =
    let a : Elements = rect (style_of_group g.end g.group_stop) (x + 124) 10 124 44 in
    let b : Elements = words Name (x + 128) 30 (group_words g.end g.group_stop) in
    let c : Elements = report_cell x g.note in
    pushed_both old p1 new a (all (b ∷ c ∷ [])) (h1 ∙ ap (λ (s : Style). old ++ printed (rect s (x + 124) 10 124 44)) is)
    (pushed_both p1 p2 new b (all (c ∷ [])) h2 (pushed_last p2 new c h3))

pub celled : (old p1 p2 new : List ℕ) (told : Bool) (x : ℕ) (T : Table) (l : Target) (i : Option Instance) (n : ℕ) →
    i ≡ best_of (of_word 0) (queue T l) → n ≡ length (queue T l) → p1 ≡ old ++ printed (first_cell x i) → p2 ≡ p1 ++ printed (more_cell x n) →
    new ≡ p2 ++ printed (block told x T l) → new ≡ old ++ printed (cell told x T l)
celled old p1 p2 new told x T l i n first many h1 h2 h3 =
    let a : Elements = first_cell x (best_of (of_word 0) (queue T l)) in
    let b : Elements = more_cell x (length (queue T l)) in
    let c : Elements = block told x T l in
    pushed_both old p1 new a (all (b ∷ c ∷ [])) (h1 ∙ ap (λ (i : Option Instance). old ++ printed (first_cell x i)) first)
    (pushed_both p1 p2 new b (all (c ∷ [])) (h2 ∙ ap (λ (n : ℕ). p1 ++ printed (more_cell x n)) many) (pushed_last p2 new c h3))

-- one lane more was drawn
pub cells_next : (page page_next text : List ℕ) (told : Bool) (left : ℕ) (T : Table) (lanes : List Target) (i : ℕ) (d : Target) → i < length lanes →
    page ++ printed (cells told left T (drop i lanes)) ≡ text → page_next ≡ page ++ printed (cell told left T (get_or lanes i d)) →
    page_next ++ printed (cells told (left + 292) T (drop (i + 1) lanes)) ≡ text
cells_next page page_next text told left T lanes i d h before drawn =
    let here : Elements = cell told left T (get_or lanes i d) in
    let rest : Elements = cells told (left + 292) T (drop (i + 1) lanes) in
    let parts = drop-cons lanes i d h ∙ ap (λ k. get_or lanes i d ∷ drop k lanes) (sym (add-one i)) in
    ap (λ p. p ++ printed rest) drawn
    ∙ (append_assoc page (printed here) (printed rest)
    ∙ (ap (λ t. page ++ t) (sym (printed_both here rest))
    ∙ (ap (λ ls. page ++ printed (cells told left T ls)) (sym parts) ∙ before)))
