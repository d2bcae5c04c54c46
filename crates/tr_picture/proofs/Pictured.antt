-- The picture of a run, from its parts.
use Rattle.std.proofs.Common.{◌≡◌, ◌+◌, ◌<◌, ◌≤◌, ◌∙◌, ℕ, append-nil, arith, nat_lt, refl, true, false, if◌then◌else◌, List, [], ◌∷◌, ◌++◌, ap, sym, codes, decimal, length, map, IfOk, OnOk, Result, Ok, Err}
use Rattle.std.proofs.lemmas.Bool.Decides.{nat_tests}
use Rattle.std.specs.declared.alloc.AllocError.{AllocError}
use Rattle.std.specs.Str.{bytes_eq}
use Rattle.tr_model.specs.declared.fates.Totals.{Totals}
use Rattle.tr_model.specs.declared.rows.Target.{Target}
use Rattle.tr_model.specs.Journals.{totals}
use Rattle.tr_model.specs.Runs.{Answer, Call}
use Rattle.tr_model.specs.Tables.{Table}
use Rattle.tr_kernel.specs.declared.answers.Answer as kernel
use Rattle.tr_kernel.specs.declared.answers.Answer.TheVariants as answer
use Rattle.tr_kernel.specs.Answers.{is_entered}
use Rattle.tr_kernel.specs.Logs.{Log, logged}
use Rattle.tr_kernel.specs.States.{State, opened as opened_kernel}
use Rattle.tr_workers.specs.Follows.{heard}
use Rattle.tr_status.specs.Texts.{texts}
use Rattle.tr_starts.specs.Starts.{table_of}
use Rattle.tr_scenario.specs.Kernels.{Answers, Makes, so_far}
use Rattle.tr_reading.specs.declared.faults.ScenarioFault.{ScenarioFault}
use Rattle.tr_reading.specs.declared.scenarios.Scenario.{Scenario}
use Rattle.tr_scenario.specs.Lines.{totals_line}
use Rattle.tr_scenario.specs.Observers.{Observes}
use Rattle.tr_scenario.specs.Serial.{job_calls}
use Rattle.tr_scenario.specs.RunTexts.{call_text, state_after}
use Rattle.tr_picture.specs.declared.layouts.Layout.{Layout}
use Rattle.tr_picture.specs.declared.pictures.Facts.{Facts}
use Rattle.tr_figures.specs.declared.reports.LaneReport.{LaneReport}
use Rattle.tr_figures.specs.declared.styles.Style.TheVariants as style
use Rattle.tr_picture.specs.Actors.{job_actors}
use Rattle.tr_picture.specs.Drawn.{Drawn, begun, blank, closed, counted, drawn, reports_at, shown, times_note, with_answer, with_answered, with_call, with_groups, with_new_row, with_row, with_start_row}
use Rattle.tr_figures.specs.Elements.{Elements, Open, all, escaped, none as no_elements, printed, rect, token_pieces, words}
use Rattle.tr_figures.specs.Cells.{cells}
use Rattle.tr_picture.specs.Layouts.{lanes_left}
use Rattle.tr_picture.specs.Rows.{is_entry, moved_down, row_inside}
use Rattle.tr_picture.specs.Legends.{legend}
use Rattle.tr_picture.specs.Pictures.{captions, description, facts, foot, head, hidden_note, hidden_words, life_lines, limits, lost_note, picture_description, picture, picture_from, picture_of, picture_title, reading, rows_end, sheet, summary, svg_attributes, width}
use Rattle.tr_figures.proofs.Printed.{pushed_both}
use Rattle.tr_picture.proofs.Printed.{pushed_tag}
use Rattle.tr_picture.proofs.Pushed.{five_parts, pushed_four}

-- a call that was made
pub drawn_is : (d : Drawn) (old new : State) (c : Call) (x : kernel.Answer) (line : List ℕ) (w : Log) (rs : List LaneReport) → Makes old new (c ∷ []) → Answers old c x → line ≡ call_text (so_far old) c →
    w ≡ logged (is_entry (heard x)) old.table c → rs ≡ reports_at old.table d → with_call d line (length new.journal) w rs new.table c (heard x) ≡ drawn d (so_far old) c
unfolding drawn
drawn_is d old new c x line w rs m a is done before =
    (λ j. with_call d (is j) (length new.journal) (done j) (before j) new.table c (heard x))
    ∙ ap (λ s. with_answered d (so_far old) s c (heard x ∷ [])) m.state
    ∙ ap (λ xs. with_answered d (so_far old) (state_after (so_far old) (c ∷ [])) c xs) (sym a.answers)

pub headed : (old p1 p2 p3 p4 p5 p6 p7 new : List ℕ) (b d : Drawn) (f : Facts) (w e : ℕ) (actors : List ℕ) → b ≡ d → w ≡ width b.layout → e ≡ rows_end b.rows → actors ≡ b.layout.actors →
    p1 ≡ old ++ printed (picture_title b.calls f.entries) → p2 ≡ p1 ++ printed (picture_description f.totals) → p3 ≡ p2 ++ printed sheet → p4 ≡ p3 ++ printed (rect style.Ground 0 0 w (e + 400)) →
    p5 ≡ p4 ++ printed (words style.Ink 16 28 (summary b.calls f.entries)) → p6 ≡ p5 ++ printed (words style.Dim 16 50 (limits f.limit f.entry_limit)) → p7 ≡ p6 ++ printed captions →
    new ≡ p7 ++ printed (life_lines 640 e actors) → new ≡ old ++ printed (head d f)
headed old p1 p2 p3 p4 p5 p6 p7 new b d f w e actors same is_w is_e is_a h1 h2 h3 h4 h5 h6 h7 h8 =
    let t : Elements = picture_title b.calls f.entries in
    let k : Elements = picture_description f.totals in
    let g : Elements = rect style.Ground 0 0 (width b.layout) (rows_end b.rows + 400) in
    let s : Elements = words style.Ink 16 28 (summary b.calls f.entries) in
    let l : Elements = words style.Dim 16 50 (limits f.limit f.entry_limit) in
    let n : Elements = life_lines 640 (rows_end b.rows) b.layout.actors in
    pushed_both old p1 new t (all (k ∷ sheet ∷ g ∷ s ∷ l ∷ captions ∷ n ∷ [])) h1
    (pushed_both p1 p2 new k (all (sheet ∷ g ∷ s ∷ l ∷ captions ∷ n ∷ [])) h2
    (pushed_both p2 p3 new sheet (all (g ∷ s ∷ l ∷ captions ∷ n ∷ [])) h3
    (pushed_both p3 p4 new g (all (s ∷ l ∷ captions ∷ n ∷ [])) (h4 ∙ (λ i. p3 ++ printed (rect style.Ground 0 0 (is_w i) (is_e i + 400))))
    (pushed_four p4 p5 p6 p7 new s l captions n h5 h6 h7 (h8 ∙ (λ i. p7 ++ printed (life_lines 640 (is_e i) (is_a i))))))))
    ∙ ap (λ (x : Drawn). old ++ printed (head x f)) same

pub footed : (old p1 p2 p3 new : List ℕ) (b d : Drawn) (t : Totals) (e : ℕ) → b ≡ d → e ≡ rows_end b.rows →
    p1 ≡ old ++ printed (lost_note (e + 24) b.lost) → p2 ≡ p1 ++ printed (hidden_note (e + 44) b.layout) → p3 ≡ p2 ++ printed (words style.Ink 16 (e + 64) (totals_line t ∷ [])) → new ≡ p3 ++ printed (legend (e + 90)) →
    new ≡ old ++ printed (foot d t)
footed old p1 p2 p3 new b d t e same is h1 h2 h3 h4 =
    pushed_four old p1 p2 p3 new (lost_note (e + 24) b.lost) (hidden_note (e + 44) b.layout) (words style.Ink 16 (e + 64) (totals_line t ∷ [])) (legend (e + 90)) h1 h2 h3 h4
    ∙ ap (λ (y : ℕ). old ++ printed (all (lost_note (y + 24) b.lost ∷ hidden_note (y + 44) b.layout ∷ words style.Ink 16 (y + 64) (totals_line t ∷ []) ∷ legend (y + 90) ∷ []))) is
    ∙ ap (λ (x : Drawn). old ++ printed (foot x t)) same

pub pictured : (old p1 p2 p3 p4 new : List ℕ) (b d : Drawn) (f : Facts) (w e : ℕ) (rows : List ℕ) → b ≡ d → w ≡ width b.layout → e ≡ rows_end b.rows → rows ≡ b.text →
    p1 ≡ old ++ texts (token_pieces (Open (codes "svg") (svg_attributes w (e + 400)))) → p2 ≡ p1 ++ printed (head d f) → p3 ≡ p2 ++ rows → p4 ≡ p3 ++ printed (foot d f.totals) → new ≡ p4 ++ codes "</svg>\n" →
    new ≡ old ++ picture_of d f
pictured old p1 p2 p3 p4 new b d f w e rows same is_w is_e is_r h1 h2 h3 h4 h5 =
    let w_is = is_w ∙ ap (λ (x : Drawn). width x.layout) same in
    let e_is = is_e ∙ ap (λ (x : Drawn). rows_end x.rows) same in
    let r_is = is_r ∙ ap (λ (x : Drawn). x.text) same in
    five_parts old p1 p2 p3 p4 new (texts (token_pieces (Open (codes "svg") (svg_attributes w (e + 400))))) (printed (head d f)) rows (printed (foot d f.totals)) (codes "</svg>\n") h1 h2 h3 h4 h5
    ∙ (λ i. old ++ (texts (token_pieces (Open (codes "svg") (svg_attributes (w_is i) (e_is i + 400)))) ++ (printed (head d f) ++ (r_is i ++ (printed (foot d f.totals) ++ codes "</svg>\n")))))

pub start_row_is : (e d : Drawn) (T : Table) (p1 p2 text : List ℕ) (left : ℕ) (lanes : List Target) → e ≡ d → left ≡ lanes_left e.layout → lanes ≡ e.layout.lanes →
    p1 ≡ e.text ++ texts (token_pieces (Open (codes "g") (moved_down 92))) → p2 ≡ p1 ++ printed (cells true left T lanes) → text ≡ p2 ++ codes "</g>\n" → record e { text = text } ≡ with_start_row d T
start_row_is e d T p1 p2 text left lanes is at are h1 h2 h3 =
    ap (λ t. record e { text = t }) (pushed_tag e.text p1 p2 text (codes "g") (moved_down 92) (cells true (lanes_left e.layout) T e.layout.lanes) h1 (h2 ∙ (λ i. p1 ++ printed (cells true (at i) T (are i)))) h3)
    ∙ ap (λ (x : Drawn). with_start_row x T) is

-- where there are 200 rows, and the last one is of no call more, there is none that a call may have
pub row_is_lost : (d : Drawn) (inside : List ℕ) → 200 ≤ d.rows → length d.last ≡ 0 → d.times ≡ 0 → 0 < length inside → with_row d inside ≡ record d { lost = d.lost + 1 }
row_is_lost d inside full empty once some =
    let e : d.last ≡ [] = void d.last empty in
    let differ : bytes_eq inside d.last ≡ false = ap (bytes_eq inside) e ∙ unlike inside some in
    let below : nat_lt d.rows 200 ≡ false = grind (arith, nat_tests) in
    let note : times_note d.rows d.times ≡ no_elements = ap (times_note d.rows) once in
    (λ i. if differ i then record d { times = d.times + 1 } else if below i then with_new_row (closed d) inside else record d { times = 0; last = []; lost = d.lost + 1; text = d.text ++ printed (note i) })
    ∙ (λ i. record d { times = sym once i; last = sym e i; lost = d.lost + 1; text = append-nil d.text i })
  where
    void : (xs : List ℕ) → length xs ≡ 0 → xs ≡ []
    void [] h = refl
    void (x ∷ xs) h = absurd (omega (arith, h))

    unlike : (xs : List ℕ) → 0 < length xs → bytes_eq xs [] ≡ false
    unlike [] h = absurd (omega (arith, h))
    unlike (x ∷ xs) h = refl

pub shown_is : {X : Type 0} (d v after : Drawn) (line cleared pushed bytes : List ℕ) (n k : ℕ) (w : Log) (rs : List LaneReport) (T U : Table) (c : Call) (x : Answer) (r : Result X AllocError) → v ≡ d → cleared ≡ [] → n ≡ k → U ≡ T →
    pushed ≡ cleared ++ printed (row_inside v.layout line n w rs U c x) → bytes ≡ pushed → OnOk r (after ≡ with_row d bytes) → OnOk r (after ≡ shown d line k w rs T c x)
shown_is d v after line cleared pushed bytes n k w rs T U c x (Ok y) same none is_n is_T h is_b row =
    let inside : bytes ≡ printed (row_inside d.layout line k w rs T c x) = is_b ∙ h ∙ (λ i. none i ++ printed (row_inside (same i).layout line (is_n i) w rs (is_T i) c x)) in
    row ∙ ap (λ b. with_row d b) inside
shown_is d v after line cleared pushed bytes n k w rs T U c x (Err e) same none is_n is_T h is_b row = tt

pub called_is : (d h v after : Drawn) (line : List ℕ) (k m : ℕ) (w : Log) (rs : List LaneReport) (T : Table) (c : Call) (x : Answer) → h ≡ with_answer d x → after ≡ shown h line k w rs T c x → v ≡ after → m ≡ v.calls + 1 → record v { calls = m } ≡ with_call d line k w rs T c x
called_is d h v after line k m w rs T c x heard show same more =
    ap (λ (j : ℕ). record v { calls = j }) more ∙ ap counted (same ∙ show ∙ ap (λ (y : Drawn). shown y line k w rs T c x) heard)

pub finished_is : (page new : List ℕ) (k : State) (x y d : Drawn) (n l m : ℕ) (t : Totals) → x ≡ d → y ≡ closed x → page ≡ [] →
    n ≡ length k.journal → l ≡ k.table.limit → m ≡ k.table.entries → t ≡ totals (table_of k.start) k.journal k.table →
    new ≡ page ++ picture_of y (record { entries = n; limit = l; entry_limit = m; totals = t }) → new ≡ picture_of (closed d) (facts (table_of k.start) (so_far k))
finished_is page new k x y d n l m t is_x is_y none is_n is_l is_m is_t h =
    let is_d = is_y ∙ ap closed is_x in
    h ∙ (λ i. none i ++ picture_of (is_d i) (record { entries = is_n i; limit = is_l i; entry_limit = is_m i; totals = is_t i }))

pub from_is : (x y canvas : Drawn) (k k_next : State) (cs : List Call) (p : List ℕ) → x ≡ canvas → Observes drawn x y k k_next cs → p ≡ picture_of (closed y) (facts (table_of k_next.start) (so_far k_next)) → p ≡ picture_from canvas (table_of k.start) (so_far k) cs
from_is x y canvas k k_next cs p is o h =
    h ∙ (λ i. picture_of (closed (o.known i)) (facts (table_of (o.makes.start i)) (o.makes.state i))) ∙ ap (λ (d : Drawn). picture_from d (table_of k.start) (so_far k) cs) is

pub picture_is : (s : Scenario) (bare canvas : Drawn) (k : State) (T : Table) (r : Result (List ℕ) ScenarioFault) → bare ≡ with_groups (blank (job_actors s.job)) s.start.groups → k ≡ opened_kernel s.start → T ≡ k.table → canvas ≡ with_start_row bare T →
    IfOk r (λ p. p ≡ picture_from canvas (table_of k.start) (so_far k) (job_calls (so_far k) s.job)) → IfOk r (λ p. p ≡ picture s)
unfolding picture
picture_is s bare canvas k T (Ok p) is_bare is_k is_T row h =
    let T_is : T ≡ table_of s.start = is_T ∙ ap (λ (x : State). x.table) is_k in
    let is : canvas ≡ begun (job_actors s.job) s.start = row ∙ (λ i. with_start_row (is_bare i) (T_is i)) in
    h ∙ (λ i. picture_from (is i) (table_of (is_k i).start) (so_far (is_k i)) (job_calls (so_far (is_k i)) s.job))
picture_is s bare canvas k T (Err e) is_bare is_k is_T row h = tt

-- Long texts

pub opened : {X : Type 0} (old new b1 b2 b3 b4 : List ℕ) (w h : ℕ) (r : Result X AllocError) → b1 ≡ decimal w → b2 ≡ decimal h → b3 ≡ decimal w → b4 ≡ decimal h →
    OnOk r (new ≡ old ++ texts (codes "<svg xmlns=\"http://www.w3.org/2000/svg\" width=\"" ∷ b1 ∷ codes "\" height=\"" ∷ b2 ∷ codes "\" viewBox=\"0 0 " ∷ b3 ∷ codes " " ∷ b4 ∷ codes "\" role=\"img\" aria-labelledby=\"t d\">" ∷ [])) →
    OnOk r (new ≡ old ++ texts (token_pieces (Open (codes "svg") (svg_attributes w h))))
opened old new b1 b2 b3 b4 w h (Ok x) e1 e2 e3 e4 p =
    p ∙ (λ i. old ++ texts (codes "<svg xmlns=\"http://www.w3.org/2000/svg\" width=\"" ∷ e1 i ∷ codes "\" height=\"" ∷ e2 i ∷ codes "\" viewBox=\"0 0 " ∷ e3 i ∷ codes " " ∷ e4 i ∷ codes "\" role=\"img\" aria-labelledby=\"t d\">" ∷ []))
opened old new b1 b2 b3 b4 w h (Err e) e1 e2 e3 e4 p = tt

pub described : {X : Type 0} (old new line : List ℕ) (t : Totals) (r : Result X AllocError) → line ≡ totals_line t → OnOk r (new ≡ old ++ texts (map escaped (reading ∷ line ∷ []))) → OnOk r (new ≡ old ++ texts (map escaped (description t)))
described old new line t (Ok x) is p = p ∙ (λ i. old ++ texts (map escaped (reading ∷ is i ∷ [])))
described old new line t (Err e) is p = tt

pub hidden_told : {X : Type 0} (old new b1 b2 b3 : List ℕ) (y : ℕ) (L : Layout) (r : Result X AllocError) → b1 ≡ decimal L.hidden_threads → b2 ≡ decimal L.hidden_groups → b3 ≡ decimal L.hidden_actors →
    OnOk r (new ≡ old ++ printed (words style.Refused 16 y (codes "without a lane: " ∷ b1 ∷ codes " threads, " ∷ b2 ∷ codes " groups, " ∷ b3 ∷ codes " actors" ∷ []))) →
    OnOk r (new ≡ old ++ printed (words style.Refused 16 y (hidden_words L)))
hidden_told old new b1 b2 b3 y L (Ok x) e1 e2 e3 p =
    p ∙ (λ i. old ++ printed (words style.Refused 16 y (codes "without a lane: " ∷ e1 i ∷ codes " threads, " ∷ e2 i ∷ codes " groups, " ∷ e3 i ∷ codes " actors" ∷ [])))
hidden_told old new b1 b2 b3 y L (Err e) e1 e2 e3 p = tt

-- an answer of the kernel tells of an entry where the run's does
pub entered_is : (x : kernel.Answer) → is_entered x ≡ is_entry (heard x)
entered_is (answer.Entered r) = refl
entered_is (answer.Read r) = refl
entered_is (answer.Refused why) = refl

-- a call that was made and drawn
pub made_is : (d v e : Drawn) (old new : State) (c : Call) (x : kernel.Answer) (cleared page bytes : List ℕ) (w : Log) (rs : List LaneReport) (T : Table) → v ≡ d → cleared ≡ [] → page ≡ cleared ++ call_text (so_far old) c → bytes ≡ page → T ≡ old.table → rs ≡ reports_at T v → w ≡ logged (is_entry (heard x)) old.table c →
    Makes old new (c ∷ []) → Answers old c x → e ≡ with_call v bytes (length new.journal) w rs new.table c (heard x) → e ≡ drawn d (so_far old) c
made_is d v e old new c x cleared page bytes w rs T is none text is_b is_T before done m a h =
    h
    ∙ ap (λ (y : Drawn). with_call y bytes (length new.journal) w rs new.table c (heard x)) is
    ∙ drawn_is d old new c x bytes w rs m a (is_b ∙ text ∙ ap (λ p. p ++ call_text (so_far old) c) none) done (before ∙ (λ i. reports_at (is_T i) (is i)))
