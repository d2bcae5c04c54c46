-- The lines and the queues of all that waits. A line is what waits of one signal for one target.
use Rattle.std.specs.Prelude.{◌≡◌, ℕ, ◌+◌, Bool, ◌&&◌, ◌==◌, List, [], ◌∷◌, Option, Some, None, filter, if◌then◌else◌, length, slice_get, true}
use Rattle.indexmap.specs.IndexMap.{IndexMap, get}
use Rattle.tr_pending.specs.declared.instance.Instance.{Instance}
use Rattle.tr_pending.specs.Waiting.{IsMask}
use Rattle.tr_model.specs.declared.rows.Target.{Target}
use Rattle.tr_model.specs.declared.rows.Waiting.{Waiting}
use Rattle.tr_model.specs.Tables.{same_target}
use Rattle.tr_queues.specs.declared.lines.Line.{Line}
use Rattle.tr_queues.specs.declared.lines.LineKey.{LineKey}
use Rattle.tr_queues.specs.declared.lines.Queue.{Queue}
use Rattle.tr_queues.specs.Changes.{queue_in}
use Rattle.tr_queues.specs.Queues.{is_one}

-- of one target and one signal
abbrev pub same_key : LineKey → LineKey → Bool
same_key a b = same_target a.target b.target && a.signal == b.signal

-- at this place of a map stands the key, or one that is equal to it
pub record StandsAt {K V S : Type 0} (eq : K → K → Bool) (m : IndexMap K V S) (place : ℕ) (key : K) : Type 0 where
  pub found : K
  pub value : V
  pub there : slice_get m.entries place ≡ Some (found, value)
  pub same : eq key found ≡ true

-- nothing, where nothing waits in the line
abbrev pub unless_empty : Option Line → Option Line
unless_empty None = None
unless_empty (Some l) = if l.count == 0 then None else Some l

-- what is kept of the line of a target's signal; nothing of an empty one
abbrev pub line_at : {S : Type 0} → IndexMap LineKey Line S → Target → ℕ → Option Line
line_at m q s = unless_empty (get same_key m (record { target = q; signal = s }))

-- what is kept of the queue of a target
abbrev pub queue_at : {S : Type 0} → IndexMap Target Queue S → Target → Option Queue
queue_at m q = get same_target m q

-- whether the instance is in the line of this target and signal
abbrev pub is_key : Waiting → Target → ℕ → Bool
is_key w q s = same_target w.target q && w.instance.sig == s

-- the number of the first
abbrev pub first_number : List Waiting → Option ℕ
first_number [] = None
first_number (w ∷ ws) = Some w.instance.n

-- what is kept of a line of these instances; nothing of an empty one
abbrev pub line_of : List Waiting → Option Line
line_of [] = None
line_of (w ∷ ws) = Some (record { first = w.instance.n; count = 1 + length ws })

-- what is kept of a queue of these instances; maybe nothing of an empty one
abbrev pub IsQueue : Option Queue → List Instance → Type 0
IsQueue None is = is ≡ []
IsQueue (Some x) is = (x.count ≡ length is) × IsMask x.mask is

-- for each target and signal its line, and for each target its queue
pub record AreLines {S R : Type 0} (lines : IndexMap LineKey Line S) (queues : IndexMap Target Queue R) (ws : List Waiting) : Type 0 where
  pub lined : (q : Target) (s : ℕ) → line_at lines q s ≡ line_of (filter (is_one q s) ws)
  pub queued : (q : Target) → IsQueue (queue_at queues q) (queue_in q ws)

-- a line with one more instance, which comes last
abbrev pub longer : ℕ → Option Line → Line
longer n None = record { first = n; count = 1 }
longer n (Some l) = record l { count = l.count + 1 }
