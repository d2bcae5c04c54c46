-- Each picture is the text of elements.
use Rattle.std.proofs.Common.{◌≡◌, ◌+◌, ◌*◌, ◌∙◌, ℕ, Bool, true, false, nat_lt, if◌then◌else◌, List, [], ◌∷◌, ◌++◌, ap, sym, refl, append_assoc, codes, length, take}
use Rattle.std.specs.Str.{bytes_eq}
use Rattle.tr_sigset.specs.declared.sets.SigSet.{SigSet}
use Rattle.tr_model.specs.declared.replies.Reply.TheVariants as reply
use Rattle.tr_model.specs.declared.rows.Target.TheVariants.{Thread}
use Rattle.tr_model.specs.Runs.{Answer, Call, Entered, Read, Refused, State, begun_at, call}
use Rattle.tr_starts.specs.declared.starts.GroupStart.{GroupStart}
use Rattle.tr_starts.specs.declared.starts.Start.{Start}
use Rattle.tr_starts.specs.Starts.{table_of}
use Rattle.tr_status.specs.Texts.{texts}
use Rattle.tr_scenario.specs.Observers.{observed}
use Rattle.tr_scenario.specs.RunTexts.{call_text, state_after, unanswered}
use Rattle.tr_scenario.specs.Serial.{job_calls}
use Rattle.tr_picture.specs.declared.pictures.Facts.{Facts}
use Rattle.tr_picture.specs.Actors.{job_actors}
use Rattle.tr_kernel.specs.Logs.{logged}
use Rattle.tr_picture.specs.Drawn.{Drawn, actor_heads, begun, blank, closed, drawn, group_head, placed, reports_at, start_row, thread_head, times_note, with_answer, with_answered, with_elements, with_group, with_groups, with_row, with_thread, with_threads}
use Rattle.tr_picture.specs.Draws.{ArePictures}
use Rattle.tr_figures.specs.Elements.{Elements, Open, both, none, printed, tag, token_pieces}
use Rattle.tr_picture.specs.Layouts.{has_lane, lanes_right}
use Rattle.tr_picture.specs.Pictures.{facts, foot, head, height, picture, picture_of, svg_attributes, width}
use Rattle.tr_picture.specs.Rows.{is_entry, moved_down, row_inside}
use Rattle.tr_figures.proofs.Printed.{printed_both}
use Rattle.tr_picture.proofs.Printed.{pushed_tag}
use Rattle.tr_picture.proofs.Pushed.{three_parts}

-- the text of some elements
abbrev IsText : List ℕ → Type 0
IsText t = (es : Elements) × (t ≡ printed es)

of : (es : Elements) → IsText (printed es)
of es = (es, refl)

joined : (s t : List ℕ) → IsText s → IsText t → IsText (s ++ t)
joined s t a b = (both a.0 b.0, (λ i. a.1 i ++ b.1 i) ∙ sym (printed_both a.0 b.0))

-- a row
in_row : (rows : ℕ) (inside : List ℕ) → IsText inside → IsText (placed rows inside)
in_row rows inside a =
    let attrs = moved_down (136 + 44 * rows) in (
      tag (codes "g") attrs a.0 none,
      ap (λ t. texts (token_pieces (Open (codes "g") attrs)) ++ (t ++ codes "</g>\n")) a.1
          ∙ sym (three_parts [] _ _ _ (texts (token_pieces (Open (codes "g") attrs))) (printed a.0) (codes "</g>\n") refl refl refl)
          ∙ pushed_tag [] _ _ _ (codes "g") attrs a.0 refl refl refl,
    )

pushed : (d : Drawn) (es : Elements) → IsText d.text → IsText (with_elements d es).text
pushed d es a = joined d.text (printed es) a (of es)

one_of : (b : Bool) (x y : Drawn) → IsText x.text → IsText y.text → IsText (if b then x else y).text
one_of true x y a c = a
one_of false x y a c = c

-- Lanes

thread_kept : (d : Drawn) (id : ℕ) → IsText d.text → IsText (with_thread d id).text
thread_kept d id a =
    one_of (has_lane d.layout.lanes (Thread id)) d _ a
    (one_of (nat_lt d.layout.threads 16) _ _ (pushed d (thread_head (lanes_right d.layout) id) a) a)

threads_kept : (d : Drawn) (ts : List (ℕ × SigSet)) → IsText d.text → IsText (with_threads d ts).text
threads_kept d [] a = a
threads_kept d (t ∷ ts) a = threads_kept (with_thread d t.0) ts (thread_kept d t.0 a)

group_kept : (d : Drawn) (g : ℕ) (name : List ℕ) → IsText d.text → IsText (with_group d g name).text
group_kept d g name a = one_of (nat_lt d.layout.groups 16) _ _ (pushed d (group_head (lanes_right d.layout) g name) a) a

groups_kept : (d : Drawn) (gs : List GroupStart) → IsText d.text → IsText (with_groups d gs).text
groups_kept d [] a = a
groups_kept d (g ∷ gs) a = groups_kept (with_threads (with_group d g.tgid g.name) g.threads) gs (threads_kept (with_group d g.tgid g.name) g.threads (group_kept d g.tgid g.name a))

begun_kept : (actors : List ℕ) (s : Start) → IsText (begun actors s).text
begun_kept actors s =
    let d = with_groups (blank actors) s.groups in
    pushed d (start_row d.layout (table_of s)) (groups_kept (blank actors) s.groups (of (actor_heads 640 (take 8 actors))))

-- Rows

closed_kept : (d : Drawn) → IsText d.text → IsText (closed d).text
closed_kept d a = pushed d (times_note d.rows d.times) a

row_kept : (d : Drawn) (inside : List ℕ) → IsText inside → IsText d.text → IsText (with_row d inside).text
row_kept d inside i a =
    one_of (bytes_eq inside d.last) _ _ a
    (one_of (nat_lt d.rows 200) _ _ (joined (closed d).text (placed d.rows inside) (closed_kept d a) (in_row d.rows inside i)) (closed_kept d a))

answer_kept : (d : Drawn) (x : Answer) → IsText d.text → IsText (with_answer d x).text
answer_kept d (Entered (reply.Cloned id)) a = thread_kept d id a
answer_kept d (Entered reply.Done) a = a
answer_kept d (Entered reply.Exists) a = a
answer_kept d (Entered reply.Nothing) a = a
answer_kept d (Entered (reply.Sent fate n)) a = a
answer_kept d (Entered (reply.Took did tid i)) a = a
answer_kept d (Entered (reply.Waited id word report)) a = a
answer_kept d (Entered (reply.Message value)) a = a
answer_kept d (Entered (reply.Signal sig info)) a = a
answer_kept d (Read r) a = a
answer_kept d (Refused why) a = a

answered_kept : (d : Drawn) (s after : State) (c : Call) (xs : List Answer) → IsText d.text → IsText (with_answered d s after c xs).text
answered_kept d s after c [] a = a
answered_kept d s after c (x ∷ xs) a =
    let h = with_answer d x in
    row_kept h _ (of (row_inside h.layout (call_text s c) (length after.journal) (logged (is_entry x) s.table c) (reports_at s.table d) after.table c x)) (answer_kept d x a)

drawn_kept : (d : Drawn) (s : State) (c : Call) → IsText d.text → IsText (drawn d s c).text
unfolding drawn
drawn_kept d s c a = answered_kept d s (state_after s (c ∷ [])) c (call s c).answers a

observed_kept : (d : Drawn) (s : State) (cs : List Call) → IsText d.text → IsText (observed drawn d s cs).text
observed_kept d s [] a = a
observed_kept d s (c ∷ cs) a = observed_kept (drawn d (unanswered s) c) (state_after s (c ∷ [])) cs (drawn_kept d (unanswered s) c a)

-- All of it

whole : (d : Drawn) (f : Facts) → IsText d.text → IsText (picture_of d f)
whole d f a =
    let attrs = svg_attributes (width d.layout) (height d.rows) in
    let middle = both (head d f) (both a.0 (foot d f.totals)) in
    let same : printed (head d f) ++ (d.text ++ (printed (foot d f.totals) ++ codes "</svg>\n")) ≡ printed middle ++ codes "</svg>\n" =
    ap (λ t. printed (head d f) ++ (t ++ (printed (foot d f.totals) ++ codes "</svg>\n"))) a.1
    ∙ ap (λ t. printed (head d f) ++ t) (sym (append_assoc (printed a.0) (printed (foot d f.totals)) (codes "</svg>\n")))
    ∙ ap (λ t. printed (head d f) ++ (t ++ codes "</svg>\n")) (sym (printed_both a.0 (foot d f.totals)))
    ∙ sym (append_assoc (printed (head d f)) (printed (both a.0 (foot d f.totals))) (codes "</svg>\n"))
    ∙ ap (λ t. t ++ codes "</svg>\n") (sym (printed_both (head d f) (both a.0 (foot d f.totals)))) in (
      tag (codes "svg") attrs middle none,
      ap (λ t. texts (token_pieces (Open (codes "svg") attrs)) ++ t) same
          ∙ sym (three_parts [] _ _ _ (texts (token_pieces (Open (codes "svg") attrs))) (printed middle) (codes "</svg>\n") refl refl refl)
          ∙ pushed_tag [] _ _ _ (codes "svg") attrs middle refl refl refl,
    )

pub are_pictures : ArePictures
unfolding picture
are_pictures s =
    let T = table_of s.start in
    let d = observed drawn (begun (job_actors s.job) s.start) (begun_at T) (job_calls (begun_at T) s.job) in
    whole (closed d) (facts T (state_after (begun_at T) (job_calls (begun_at T) s.job))) (closed_kept d (observed_kept _ (begun_at T) (job_calls (begun_at T) s.job) (begun_kept (job_actors s.job) s.start)))
