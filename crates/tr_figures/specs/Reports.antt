-- The reports that lanes show, and those that were withdrawn.
use Rattle.std.specs.Prelude.{ℕ, ◌+◌, ◌==◌, List, [], ◌∷◌, Bool, false, ◌||◌, if◌then◌else◌, codes, decimal, Option, Some, None}
use Rattle.tr_tracee.specs.declared.thread.Report.{Report}
use Rattle.tr_tracee.specs.declared.thread.Thread.{Thread}
use Rattle.tr_model.specs.declared.replies.Reply.TheVariants.{Waited}
use Rattle.tr_model.specs.declared.rows.Group.{Group}
use Rattle.tr_model.specs.declared.rows.Target.{Target}
use Rattle.tr_model.specs.declared.rows.Target.TheVariants as target
use Rattle.tr_model.specs.Runs.{Answer, Entered}
use Rattle.tr_model.specs.Tables.{Table, group_of, thread_of}
use Rattle.tr_figures.specs.declared.reports.LaneReport.{LaneReport}
use Rattle.tr_figures.specs.declared.styles.Style.TheVariants as style
use Rattle.tr_figures.specs.Elements.{Elements, both, none, words}

abbrev pub number_of : Option Report → Option ℕ
number_of None = None
number_of (Some r) = Some r.number

abbrev pub thread_report : Option Thread → Option ℕ
thread_report None = None
thread_report (Some t) = number_of t.report

abbrev pub group_report : Option Group → Option ℕ
group_report None = None
group_report (Some g) = number_of g.note

-- the number of the report that the lane of a thread or a group shows
abbrev pub report_in : Table → Target → Option ℕ
report_in T (target.Thread id) = thread_report (thread_of T id)
report_in T (target.Group g) = group_report (group_of T g)

abbrev pub lane_report : Table → Target → LaneReport
lane_report T l = record { lane = l; report = report_in T l }

-- the report that a wait took
abbrev pub taken_by : Answer → Option ℕ
taken_by (Entered (Waited id word report)) = Some report
taken_by x = None

abbrev pub is_report : ℕ → Option ℕ → Bool
is_report r None = false
is_report r (Some q) = r == q

abbrev pub withdrawn_words : ℕ → List (List ℕ)
withdrawn_words r = codes "r" ∷ decimal r ∷ codes " withdrawn" ∷ []

-- a report that a lane showed before, which it shows no longer, and which wasn't taken
abbrev pub withdrawn : ℕ → Option ℕ → Option ℕ → Option ℕ → Elements
withdrawn x None after taken = none
withdrawn x (Some r) after taken = if is_report r after || is_report r taken then none else words style.Report (x + 252) 42 (withdrawn_words r)

-- of the lanes that showed these before, at a table after it; the first lane is at x
abbrev pub withdrawals : ℕ → Table → Option ℕ → List LaneReport → Elements
withdrawals x T taken [] = none
withdrawals x T taken (s ∷ ss) = both (withdrawn x s.report (report_in T s.lane) taken) (withdrawals (x + 292) T taken ss)
