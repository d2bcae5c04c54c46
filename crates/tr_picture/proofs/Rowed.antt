-- The row of a call, from its parts.
use Rattle.std.proofs.Common.{◌≡◌, ◌∙◌, ℕ, Bool, List, [], ◌∷◌, ◌++◌, ◌<◌, Option, ap, arith, length, append-nil, sym, codes}
use Rattle.tr_model.specs.declared.fates.Ending.{Ending}
use Rattle.tr_model.specs.declared.raises.Raise.{Raise}
use Rattle.tr_model.specs.declared.rows.Target.{Target}
use Rattle.tr_model.specs.Runs.{Answer, Call}
use Rattle.tr_model.specs.Tables.{Table}
use Rattle.tr_kernel.specs.Logs.{Log}
use Rattle.tr_picture.specs.declared.layouts.Layout.{Layout}
use Rattle.tr_figures.specs.declared.reports.LaneReport.{LaneReport}
use Rattle.tr_figures.specs.declared.styles.Style.TheVariants.{Dim, Ink}
use Rattle.tr_figures.specs.Calls.{aim_of, call_words, marks}
use Rattle.tr_figures.specs.Cells.{cells}
use Rattle.tr_figures.specs.Details.{detail}
use Rattle.tr_figures.specs.Elements.{Elements, all, none, printed, text, words, escaped}
use Rattle.tr_figures.specs.Endings.{endings_cell}
use Rattle.tr_figures.specs.Joins.{joined, joins}
use Rattle.tr_figures.specs.Reports.{taken_by, withdrawals}
use Rattle.tr_picture.specs.Layouts.{actor_place, aimed_place, lanes_left}
use Rattle.tr_picture.specs.Rows.{answer_words, below_raised, is_entry, position_words, raised_cell, row_inside, row_words, title}
use Rattle.tr_picture.specs.Pictures.{sheet}
use Rattle.tr_figures.specs.Styles.{style_sheet}
use Rattle.tr_figures.proofs.Celled.{pushed_last}
use Rattle.tr_figures.proofs.Printed.{pushed_both}
use Rattle.tr_picture.proofs.Printed.{pushed_tag}

pub titled : (old p1 p2 new line : List ℕ) → p1 ≡ old ++ codes "<title>" → p2 ≡ p1 ++ escaped line → new ≡ p2 ++ codes "</title>\n" → new ≡ old ++ printed (title line)
titled old p1 p2 new line h1 h2 h3 =
    pushed_tag old p1 p2 new (codes "title") [] (text (line ∷ []) none) h1 (h2 ∙ ap (λ t. p1 ++ t) (sym (append-nil (escaped line)))) h3

pub sheeted : (old p1 p2 new bytes : List ℕ) → bytes ≡ style_sheet → p1 ≡ old ++ codes "<style>" → p2 ≡ p1 ++ escaped bytes → new ≡ p2 ++ codes "</style>\n" → new ≡ old ++ printed sheet
sheeted old p1 p2 new bytes is h1 h2 h3 =
    pushed_tag old p1 p2 new (codes "style") [] (text (style_sheet ∷ []) none) h1 (h2 ∙ ap (λ b. p1 ++ escaped b) is ∙ ap (λ t. p1 ++ t) (sym (append-nil (escaped style_sheet)))) h3

pub worded : (old p1 p2 p3 p4 p5 new : List ℕ) (n : ℕ) (w : Log) (rs : List Raise) (y : ℕ) (es : List Ending) (c : Call) (x : Answer) → rs ≡ w.raises → y ≡ below_raised rs → es ≡ w.ended →
    p1 ≡ old ++ printed (words Dim 16 14 (position_words n x ∷ [])) → p2 ≡ p1 ++ printed (words Ink 64 14 (call_words c)) → p3 ≡ p2 ++ printed (detail c.event) → p4 ≡ p3 ++ printed (words Ink 312 14 (answer_words x ∷ [])) →
    p5 ≡ p4 ++ printed (raised_cell rs) → new ≡ p5 ++ printed (endings_cell y es) → new ≡ old ++ printed (row_words n w c x)
worded old p1 p2 p3 p4 p5 new n w rs y es c x is_rs is_y is_es h1 h2 h3 h4 h5 h6 =
    let a : Elements = words Dim 16 14 (position_words n x ∷ []) in
    let b : Elements = words Ink 64 14 (call_words c) in
    let m : Elements = detail c.event in
    let d : Elements = words Ink 312 14 (answer_words x ∷ []) in
    let e : Elements = raised_cell w.raises in
    let f : Elements = endings_cell (below_raised w.raises) w.ended in
    let at : y ≡ below_raised w.raises = is_y ∙ ap below_raised is_rs in
    pushed_both old p1 new a (all (b ∷ m ∷ d ∷ e ∷ f ∷ [])) h1
    (pushed_both p1 p2 new b (all (m ∷ d ∷ e ∷ f ∷ [])) h2
    (pushed_both p2 p3 new m (all (d ∷ e ∷ f ∷ [])) h3
    (pushed_both p3 p4 new d (all (e ∷ f ∷ [])) h4
    (pushed_both p4 p5 new e (all (f ∷ [])) (h5 ∙ ap (λ r. p4 ++ printed (raised_cell r)) is_rs)
    (pushed_last p5 new f (h6 ∙ (λ i. p5 ++ printed (endings_cell (at i) (is_es i)))))))))

pub row_filled : (old p1 p2 p3 p4 p5 new : List ℕ) (L : Layout) (line : List ℕ) (n : ℕ) (w : Log) (before : List LaneReport) (T : Table) (c : Call) (x : Answer) (told : Bool) (left : ℕ) (lanes : List Target) (taken actor lane other : Option ℕ) (ids : List ℕ) →
    told ≡ is_entry x → left ≡ lanes_left L → lanes ≡ L.lanes → taken ≡ taken_by x → actor ≡ actor_place 640 L.actors c.actor → lane ≡ aimed_place (lanes_left L) L.lanes (aim_of c.event x) → other ≡ aimed_place (lanes_left L) L.lanes (joined x w.renamed) → ids ≡ w.renamed →
    p1 ≡ old ++ printed (title line) → p2 ≡ p1 ++ printed (cells told left T lanes) → p3 ≡ p2 ++ printed (withdrawals left T taken before) → p4 ≡ p3 ++ printed (row_words n w c x) → p5 ≡ p4 ++ printed (marks c.event x actor lane) → new ≡ p5 ++ printed (joins lane other ids) →
    new ≡ old ++ printed (row_inside L line n w before T c x)
row_filled old p1 p2 p3 p4 p5 new L line n w before T c x told left lanes taken actor lane other ids e1 e2 e3 e4 e5 e6 e7 e8 h1 h2 h3 h4 h5 h6 =
    let at : Option ℕ = aimed_place (lanes_left L) L.lanes (aim_of c.event x) in
    let a : Elements = title line in
    let b : Elements = cells (is_entry x) (lanes_left L) T L.lanes in
    let v : Elements = withdrawals (lanes_left L) T (taken_by x) before in
    let d : Elements = row_words n w c x in
    let e : Elements = marks c.event x (actor_place 640 L.actors c.actor) at in
    let f : Elements = joins at (aimed_place (lanes_left L) L.lanes (joined x w.renamed)) w.renamed in
    pushed_both old p1 new a (all (b ∷ v ∷ d ∷ e ∷ f ∷ [])) h1
    (pushed_both p1 p2 new b (all (v ∷ d ∷ e ∷ f ∷ [])) (h2 ∙ (λ i. p1 ++ printed (cells (e1 i) (e2 i) T (e3 i))))
    (pushed_both p2 p3 new v (all (d ∷ e ∷ f ∷ [])) (h3 ∙ (λ i. p2 ++ printed (withdrawals (e2 i) T (e4 i) before)))
    (pushed_both p3 p4 new d (all (e ∷ f ∷ [])) h4
    (pushed_both p4 p5 new e (all (f ∷ [])) (h5 ∙ (λ i. p4 ++ printed (marks c.event x (e5 i) (e6 i))))
    (pushed_last p5 new f (h6 ∙ (λ i. p5 ++ printed (joins (e6 i) (e7 i) (e8 i)))))))))

pub row_is_something : (L : Layout) (line : List ℕ) (n : ℕ) (w : Log) (before : List LaneReport) (T : Table) (c : Call) (x : Answer) → 0 < length (printed (row_inside L line n w before T c x))
row_is_something L line n w before T c x = omega arith
