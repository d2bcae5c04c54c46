-- Which reports a wait of the starter may give, and what a wait that gives one does: waitpid(2).
use Rattle.std.specs.Prelude.{ℕ, List, [], ◌∷◌, ◌++◌, Bool, false, not, ◌&&◌, Option, Some, None, if◌then◌else◌, filter, flat_map, is_some}
use Rattle.tr_wait.specs.declared.status.Status.{Status}
use Rattle.tr_wait.specs.declared.status.Status.TheVariants as status
use Rattle.tr_wait.specs.declared.waits.WaitFlags.{WaitFlags}
use Rattle.tr_wait.specs.declared.waits.Which.{Which}
use Rattle.tr_wait.specs.Words.{asks_for}
use Rattle.tr_tracee.specs.declared.thread.Report.{Report}
use Rattle.tr_tracee.specs.declared.thread.Thread.{Thread}
use Rattle.tr_tracee.specs.Lives.{is_dead}
use Rattle.tr_tracee.specs.Threads.{is_traced}
use Rattle.tr_model.specs.declared.rows.Group.{Group}
use Rattle.tr_model.specs.Ends.{remove_thread}
use Rattle.tr_model.specs.Tables.{Table, has_traced, thread_of}
use Rattle.tr_model.specs.Moves.{Work, only_group, regroup}
use Rattle.tr_model.specs.Waits.{report_number, has_report}

-- the groups that it asks for and whose leader is in the table
abbrev pub led_groups : Table → Which → List Group
led_groups T which = filter (λ g. asks_for which g.tgid && is_some (thread_of T g.tgid)) T.groups

-- WCONTINUED asks for continued groups, WUNTRACED for stopped ones
abbrev pub wanted : WaitFlags → Status → Bool
wanted flags status.Continued = flags.continued
wanted flags _ = flags.untraced

-- the group has a note, of a kind that the flags ask for
abbrev pub note_wanted : WaitFlags → Option Report → Bool
note_wanted flags None = false
note_wanted flags (Some r) = wanted flags r.status

-- the number of the note, where the flags ask for its kind
abbrev pub note_number : WaitFlags → Option Report → List ℕ
note_number flags r = if note_wanted flags r then report_number r else []

-- the report of a dead leader that nobody traces
abbrev pub death_number : Option Thread → List ℕ
death_number None = []
death_number (Some t) = if is_dead t.life && not (is_traced t) then report_number t.report else []

-- the leader's death, then the group's note while nobody traces the group
abbrev pub ready_of_group : Table → WaitFlags → Group → List ℕ
ready_of_group T flags g = death_number (thread_of T g.tgid) ++ (if has_traced T g.tgid then [] else note_number flags g.note)

-- what the starter's wait may give, in the order of the groups that it asks for
abbrev pub ready_for_starter : Table → Which → WaitFlags → List ℕ
ready_for_starter T which flags = flat_map (ready_of_group T flags) (led_groups T which)

-- the first group whose note has the number
abbrev pub group_with_note : List Group → ℕ → Option Group
group_with_note [] r = None
group_with_note (g ∷ gs) r = if has_report r g.note then Some g else group_with_note gs r

-- the thread is dead and untraced, and this is the number of its report
abbrev pub has_death : ℕ → Option Thread → Bool
has_death r None = false
has_death r (Some t) = is_dead t.life && (not (is_traced t) && has_report r t.report)

-- the first leader of these groups whose death report has the number
abbrev pub with_death : Table → List Group → ℕ → Option Thread
with_death T [] r = None
with_death T (g ∷ gs) r = if has_death r (thread_of T g.tgid) then thread_of T g.tgid else with_death T gs r

-- the dead leader that has the report
abbrev pub ready_death : Table → Which → ℕ → Option Thread
ready_death T which r = with_death T (led_groups T which) r

-- the wait asks for the group, its leader is in the table, nobody traces it, and the flags ask for its note
abbrev pub shows_note : Table → Which → WaitFlags → Group → Bool
shows_note T which flags g = asks_for which g.tgid && (is_some (thread_of T g.tgid) && (not (has_traced T g.tgid) && note_wanted flags g.note))

-- the group that has the note
abbrev pub ready_note : Table → Which → WaitFlags → ℕ → Option Group
ready_note T which flags r = group_with_note (filter (shows_note T which flags) T.groups) r

-- the note is consumed, so no other wait gives it
abbrev pub no_note : Group → Group
no_note x = record x { note = None }

-- a wait for a note clears it, and the group stays
abbrev pub consume_note : Option Group → Work → Work
consume_note None w = w
consume_note (Some g) w = regroup (only_group g.tgid no_note) w

-- the starter's wait for a leader's death removes it
abbrev pub starter_takes : Option Thread → Option Group → Work → Work
starter_takes None g w = consume_note g w
starter_takes (Some t) g w = remove_thread t w
