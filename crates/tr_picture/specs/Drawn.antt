-- What is drawn of a run so far: the lanes, and a row for each call.
use Rattle.std.specs.Prelude.{ℕ, ◌+◌, ◌*◌, List, [], ◌∷◌, ◌++◌, true, nat_lt, if◌then◌else◌, codes, decimal, length, map, take}
use Rattle.std.specs.Str.{bytes_eq}
use Rattle.tr_sigset.specs.declared.sets.SigSet.{SigSet}
use Rattle.tr_model.specs.declared.replies.Reply.TheVariants.{Cloned}
use Rattle.tr_model.specs.declared.rows.Target.TheVariants.{Thread}
use Rattle.tr_model.specs.Runs.{Answer, Call, Entered, State, call}
use Rattle.tr_model.specs.Tables.{Table}
use Rattle.tr_kernel.specs.Logs.{Log, logged}
use Rattle.tr_starts.specs.declared.starts.GroupStart.{GroupStart}
use Rattle.tr_starts.specs.declared.starts.Start.{Start}
use Rattle.tr_starts.specs.Starts.{table_of}
use Rattle.tr_status.specs.Texts.{texts}
use Rattle.tr_scenario.specs.RunTexts.{call_text, state_after}
use Rattle.tr_picture.specs.declared.layouts.Layout.{Layout}
use Rattle.tr_figures.specs.declared.reports.LaneReport.{LaneReport}
use Rattle.tr_figures.specs.declared.styles.Style.TheVariants as style
use Rattle.tr_figures.specs.Cells.{cells}
use Rattle.tr_figures.specs.Elements.{Elements, Open, all, both, none, printed, tag, token_pieces, words}
use Rattle.tr_picture.specs.Layouts.{has_lane, lanes_left, lanes_right, layout_of, with_group_lane, with_thread_lane}
use Rattle.tr_figures.specs.Reports.{lane_report}
use Rattle.tr_picture.specs.Rows.{is_entry, moved_down, row_inside}

pub record Drawn : Type 0 where
  pub layout : Layout
  -- how many calls were made, and how many rows there are
  pub calls : ℕ
  pub rows : ℕ
  -- of how many calls the last row is, and what is in it
  pub times : ℕ
  pub last : List ℕ
  -- how many calls have no row
  pub lost : ℕ
  pub text : List ℕ

abbrev pub with_elements : Drawn → Elements → Drawn
with_elements d es = record d { text = d.text ++ printed es }

-- Lanes

abbrev pub actor_head : ℕ → ℕ → Elements
actor_head x a = all (words style.Ink (x + 4) 78 (decimal a ∷ []) ∷ words style.Dim (x + 4) 94 (codes "actor" ∷ []) ∷ [])

-- of each actor its head, the first at x
abbrev pub actor_heads : ℕ → List ℕ → Elements
actor_heads x [] = none
actor_heads x (a ∷ rest) = both (actor_head x a) (actor_heads (x + 118) rest)

abbrev pub thread_head : ℕ → ℕ → Elements
thread_head x id = words style.Ink (x + 128) 94 (codes "thread " ∷ decimal id ∷ [])

abbrev pub group_head : ℕ → ℕ → List ℕ → Elements
group_head x g name = all (words style.Name (x + 128) 78 (name ∷ []) ∷ words style.Ink (x + 128) 94 (codes "group " ∷ decimal g ∷ []) ∷ [])

-- at the right of the other lanes, unless it has a lane, or there are 16
abbrev pub with_thread : Drawn → ℕ → Drawn
with_thread d id =
    let L : Layout = d.layout in
    if has_lane L.lanes (Thread id) then d
    else if nat_lt L.threads 16 then record (with_elements d (thread_head (lanes_right L) id)) { layout = with_thread_lane L id }
    else record d { layout = record L { hidden_threads = L.hidden_threads + 1 } }

abbrev pub with_group : Drawn → ℕ → List ℕ → Drawn
with_group d g name =
    let L : Layout = d.layout in
    if nat_lt L.groups 16 then record (with_elements d (group_head (lanes_right L) g name)) { layout = with_group_lane L g }
    else record d { layout = record L { hidden_groups = L.hidden_groups + 1 } }

abbrev pub with_threads : Drawn → List (ℕ × SigSet) → Drawn
with_threads d [] = d
with_threads d (t ∷ ts) = with_threads (with_thread d t.0) ts

-- a group, and then its threads
abbrev pub with_groups : Drawn → List GroupStart → Drawn
with_groups d [] = d
with_groups d (g ∷ gs) = with_groups (with_threads (with_group d g.tgid g.name) g.threads) gs

-- The start

-- the lanes of actors alone
abbrev pub blank : List ℕ → Drawn
blank actors = record { layout = layout_of actors; calls = 0; rows = 0; times = 0; last = []; lost = 0; text = printed (actor_heads 640 (take 8 actors)) }

-- what holds before the first call
abbrev pub start_row : Layout → Table → Elements
start_row L T = tag (codes "g") (moved_down 92) (cells true (lanes_left L) T L.lanes) none

abbrev pub with_start_row : Drawn → Table → Drawn
with_start_row d T = with_elements d (start_row d.layout T)

abbrev pub begun : List ℕ → Start → Drawn
begun actors s = with_start_row (with_groups (blank actors) s.groups) (table_of s)

-- Rows

-- of how many calls the last of so many rows is, if of more than one
abbrev pub times_note : ℕ → ℕ → Elements
times_note rows times = if nat_lt 1 times then words style.Dim 16 (122 + 44 * rows) (codes "x" ∷ decimal times ∷ []) else none

-- the last row is of no call more
abbrev pub closed : Drawn → Drawn
closed d = record (with_elements d (times_note d.rows d.times)) { times = 0; last = [] }

-- what is in a row, at its place below so many rows
abbrev pub placed : ℕ → List ℕ → List ℕ
placed rows inside = texts (token_pieces (Open (codes "g") (moved_down (136 + 44 * rows)))) ++ (inside ++ codes "</g>\n")

abbrev pub with_new_row : Drawn → List ℕ → Drawn
with_new_row d inside = record d { rows = d.rows + 1; times = 1; last = inside; text = d.text ++ placed d.rows inside }

-- a row that is as the last one is drawn once, and a row below 200 isn't drawn
abbrev pub with_row : Drawn → List ℕ → Drawn
with_row d inside =
    if bytes_eq inside d.last then record d { times = d.times + 1 }
    else if nat_lt d.rows 200 then with_new_row (closed d) inside
    else record (closed d) { lost = d.lost + 1 }

-- Calls

-- a new thread has a lane
abbrev pub with_answer : Drawn → Answer → Drawn
with_answer d (Entered (Cloned id)) = with_thread d id
with_answer d x = d

-- one call more
abbrev pub counted : Drawn → Drawn
counted d = record d { calls = d.calls + 1 }

-- the row of a call
abbrev pub shown : Drawn → List ℕ → ℕ → Log → List LaneReport → Table → Call → Answer → Drawn
shown d line n done before T c x = with_row d (printed (row_inside d.layout line n done before T c x))

-- a call with its line, after which there are so many entries, with what it did beside its answer, and the reports that lanes
-- showed before it
abbrev pub with_call : Drawn → List ℕ → ℕ → Log → List LaneReport → Table → Call → Answer → Drawn
with_call d line n done before T c x = counted (shown (with_answer d x) line n done before T c x)

-- the reports that the lanes show at a table
abbrev pub reports_at : Table → Drawn → List LaneReport
reports_at T d = map (lane_report T) d.layout.lanes

-- with the answer that there is
abbrev pub with_answered : Drawn → State → State → Call → List Answer → Drawn
with_answered d s after c [] = d
with_answered d s after c (x ∷ xs) = with_call d (call_text s c) (length after.journal) (logged (is_entry x) s.table c) (reports_at s.table d) after.table c x

-- a call at a run so far
unfoldable pub drawn : Drawn → State → Call → Drawn
drawn d s c = with_answered d s (state_after s (c ∷ [])) c (call s c).answers
