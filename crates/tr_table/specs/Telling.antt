-- Which groups have something to tell the starter.
use Rattle.std.specs.Prelude.{◌≡◌, ℕ, ◌<◌, ◌≤◌, ◌&&◌, ◌||◌, Bool, false, not, List, Option, Some, None, get_or, is_some, length}
use Rattle.tr_tracee.specs.declared.thread.Thread.{Thread}
use Rattle.tr_threads.specs.Waits.{is_untraced_death}
use Rattle.tr_model.specs.declared.rows.Group.{Group}
use Rattle.tr_model.specs.Tables.{Table, has_traced, thread_of}

-- the thread is there, and its death is the starter's to be told
abbrev pub has_died : Option Thread → Bool
has_died None = false
has_died (Some t) = is_untraced_death t

-- its leader's death, or a note while nobody traces the group
abbrev pub tells_starter : Table → Group → Bool
tells_starter T x = has_died (thread_of T x.tgid) || is_some x.note && not (has_traced T x.tgid)

-- none of the groups at these places has anything to tell, from the one up to before the other
abbrev pub NoneTells : Table → List Group → ℕ → ℕ → Type 0
NoneTells T gs from end = (k : ℕ) (d : Group) → from ≤ k → k < end → tells_starter T (get_or gs k d) ≡ false

-- those of the groups that stand from this place on and before the one at the answer have nothing to tell, or where there is none all from it on
abbrev pub IsNextTelling : Table → List Group → ℕ → Option ℕ → Type 0
IsNextTelling T gs from None = NoneTells T gs from (length gs)
IsNextTelling T gs from (Some i) = (from ≤ i) × (i < length gs) × NoneTells T gs from i
