-- The row of a call: its words, the marks at its event line, and what holds after it.
use Rattle.std.specs.Prelude.{ℕ, List, [], ◌∷◌, Bool, true, false, nat_lt, if◌then◌else◌, codes, decimal, Option}
use Rattle.tr_model.specs.declared.raises.Raise.{Raise}
use Rattle.tr_model.specs.Runs.{Answer, Call, Entered, Read, Refused}
use Rattle.tr_model.specs.Tables.{Table}
use Rattle.tr_kernel.specs.Logs.{Log}
use Rattle.tr_scenario.specs.Replies.{refusal_text, reply_text}
use Rattle.tr_figures.specs.declared.styles.Style.TheVariants as style
use Rattle.tr_figures.specs.Calls.{aim_of, call_words, marks}
use Rattle.tr_figures.specs.Cells.{cells}
use Rattle.tr_figures.specs.Details.{detail}
use Rattle.tr_figures.specs.Elements.{Attribute, Down, Elements, all, none, tag, text, words}
use Rattle.tr_picture.specs.declared.layouts.Layout.{Layout}
use Rattle.tr_figures.specs.declared.reports.LaneReport.{LaneReport}
use Rattle.tr_figures.specs.Endings.{endings_cell}
use Rattle.tr_figures.specs.Joins.{joined, joins}
use Rattle.tr_picture.specs.Layouts.{actor_place, aimed_place, lanes_left}
use Rattle.tr_figures.specs.Reports.{taken_by, withdrawals}

-- the place of its entry in a journal of n entries
abbrev pub position_words : ℕ → Answer → List ℕ
position_words n (Entered r) = decimal n
position_words n (Read r) = codes "."
position_words n (Refused why) = codes "!"

abbrev pub answer_words : Answer → List ℕ
answer_words (Entered r) = reply_text r
answer_words (Read r) = reply_text r
answer_words (Refused why) = refusal_text why

-- the last of the reports, of which this is the first
abbrev pub last_report : ℕ → List Raise → ℕ
last_report first [] = first
last_report first (r ∷ rs) = last_report r.number rs

abbrev pub raised_words : ℕ → ℕ → List (List ℕ)
raised_words first last = if nat_lt first last then codes "raises r" ∷ decimal first ∷ codes " to r" ∷ decimal last ∷ [] else codes "raises r" ∷ decimal first ∷ []

-- the first and the last of the reports that it raised, if it raised some
abbrev pub raised_cell : List Raise → Elements
raised_cell [] = none
raised_cell (r ∷ rs) = words style.Report 312 30 (raised_words r.number (last_report r.number rs))

-- where the next words below the answer are
abbrev pub below_raised : List Raise → ℕ
below_raised [] = 30
below_raised (r ∷ rs) = 42

-- whether it made an entry
abbrev pub is_entry : Answer → Bool
is_entry (Entered r) = true
is_entry (Read r) = false
is_entry (Refused why) = false

abbrev pub title : List ℕ → Elements
title line = tag (codes "title") [] (text (line ∷ []) none) none

abbrev pub moved_down : ℕ → List Attribute
moved_down y = record { name = codes "transform"; value = Down y } ∷ []

-- the words of a call, after which there are so many entries, and which did this beside its answer
abbrev pub row_words : ℕ → Log → Call → Answer → Elements
row_words n done c x = all (
    words style.Dim 16 14 (position_words n x ∷ []) ∷
    words style.Ink 64 14 (call_words c) ∷
    detail c.event ∷
    words style.Ink 312 14 (answer_words x ∷ []) ∷
    raised_cell done.raises ∷
    endings_cell (below_raised done.raises) done.ended ∷ [])

-- what is in the row of a call with this line of text, before which lanes showed these reports, and which led to this table
abbrev pub row_inside : Layout → List ℕ → ℕ → Log → List LaneReport → Table → Call → Answer → Elements
row_inside L line n done before T c x =
    let lane : Option ℕ = aimed_place (lanes_left L) L.lanes (aim_of c.event x) in
    all (
    title line ∷
    cells (is_entry x) (lanes_left L) T L.lanes ∷
    withdrawals (lanes_left L) T (taken_by x) before ∷
    row_words n done c x ∷
    marks c.event x (actor_place 640 L.actors c.actor) lane ∷
    joins lane (aimed_place (lanes_left L) L.lanes (joined x done.renamed)) done.renamed ∷ [])
