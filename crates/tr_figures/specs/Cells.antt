-- What holds in the lanes of threads and groups after a call.
use Rattle.std.specs.Prelude.{ℕ, ◌+◌, ◌-◌, List, [], ◌∷◌, Bool, true, false, nat_lt, if◌then◌else◌, codes, decimal, length, Option, Some, None}
use Rattle.tr_sigset.specs.Sets.{of_word}
use Rattle.tr_pending.specs.declared.instance.Instance.{Instance}
use Rattle.tr_pending.specs.Waiting.{best_of}
use Rattle.tr_tracee.specs.declared.thread.Report.{Report}
use Rattle.tr_tracee.specs.declared.thread.Thread.{Thread}
use Rattle.tr_tracee.specs.declared.thread.Trace.{Trace}
use Rattle.tr_tracee.specs.Threads.{has_mark}
use Rattle.tr_model.specs.declared.rows.Group.{Group}
use Rattle.tr_model.specs.declared.rows.Target.{Target}
use Rattle.tr_model.specs.declared.rows.Target.TheVariants as target
use Rattle.tr_model.specs.Tables.{Table, group_of, queue, thread_of}
use Rattle.tr_figures.specs.declared.styles.Style.TheVariants as style
use Rattle.tr_figures.specs.Elements.{Elements, all, both, none, rect, words}
use Rattle.tr_figures.specs.Lives.{group_words, life_words, signal_name, style_of_group, style_of_life}

-- The parts of a lane, whose left edge is x: what waits, the block, and what is reported

-- how a thread is traced
abbrev pub how_traced : Bool → List ℕ
how_traced true = codes " seized"
how_traced false = codes " attached"

-- who traces a thread, and how
abbrev pub trace_cell : ℕ → Option Trace → Elements
trace_cell x None = none
trace_cell x (Some t) = words style.Dim (x + 128) 42 (codes "by " ∷ decimal t.tracer ∷ how_traced t.seized ∷ [])

abbrev pub letter : Bool → List ℕ → List ℕ
letter true l = l
letter false l = []

-- the marks of a thread: a stop, a trap, a note of a SIGCONT
abbrev pub mark_cell : ℕ → Thread → Elements
mark_cell x t = if has_mark t then words style.Ink (x + 224) 30 (letter t.stop_mark (codes "S") ∷ letter t.trap_mark (codes "T") ∷ letter t.note_mark (codes "N") ∷ []) else none

-- a report that no wait has taken
abbrev pub report_cell : ℕ → Option Report → Elements
report_cell x None = none
report_cell x (Some r) = words style.Report (x + 252) 30 (codes "r" ∷ decimal r.number ∷ [])

-- what a thread is doing; all that is known of it only where told
abbrev pub thread_cell : Bool → ℕ → Option Thread → Elements
thread_cell told x None = none
thread_cell false x (Some t) = rect (style_of_life t.pausing t.life) (x + 124) 10 124 44
thread_cell true x (Some t) = all (
    rect (style_of_life t.pausing t.life) (x + 124) 10 124 44 ∷
    words style.Name (x + 128) 30 (life_words t.pausing t.life) ∷
    trace_cell x t.trace ∷ mark_cell x t ∷ report_cell x t.report ∷ [])

-- what a group is doing
abbrev pub group_cell : Bool → ℕ → Option Group → Elements
group_cell told x None = none
group_cell false x (Some g) = rect (style_of_group g.end g.group_stop) (x + 124) 10 124 44
group_cell true x (Some g) = all (
    rect (style_of_group g.end g.group_stop) (x + 124) 10 124 44 ∷
    words style.Name (x + 128) 30 (group_words g.end g.group_stop) ∷
    report_cell x g.note ∷ [])

abbrev pub block : Bool → ℕ → Table → Target → Elements
block told x T (target.Thread id) = thread_cell told x (thread_of T id)
block told x T (target.Group g) = group_cell told x (group_of T g)

-- how many more than one wait
abbrev pub more_cell : ℕ → ℕ → Elements
more_cell x n = if nat_lt 1 n then words style.Waiting (x + 90) 30 (codes "+" ∷ decimal (n - 1) ∷ []) else none

-- of those that wait the one that is taken first where none is blocked
abbrev pub first_cell : ℕ → Option Instance → Elements
first_cell x None = none
first_cell x (Some i) = words style.Waiting (x + 4) 30 (decimal i.n ∷ codes " " ∷ signal_name i.sig ∷ [])

-- what waits in the lane of a thread or a group, and what it is doing
abbrev pub cell : Bool → ℕ → Table → Target → Elements
cell told x T l = all (
    first_cell x (best_of (of_word 0) (queue T l)) ∷
    more_cell x (length (queue T l)) ∷
    block told x T l ∷ [])

-- the lanes of these, the first at x
abbrev pub cells : Bool → ℕ → Table → List Target → Elements
cells told x T [] = none
cells told x T (l ∷ ls) = both (cell told x T l) (cells told (x + 292) T ls)
