-- The legend: what the classes and the letters of a picture mean.
use Rattle.std.specs.Prelude.{ℕ, ◌+◌, List, [], ◌∷◌, codes}
use Rattle.tr_figures.specs.declared.styles.Style.{Style}
use Rattle.tr_figures.specs.declared.styles.Style.TheVariants as style
use Rattle.tr_figures.specs.Elements.{Elements, all, both, line, none, rect, words}

-- the blocks of threads and of groups
abbrev pub block_meanings : List (Style × List ℕ)
block_meanings =
    (style.Running, codes "runs") ∷
    (style.Pausing, codes "waits in pause(2)") ∷
    (style.Stopped, codes "stopped") ∷
    (style.SignalStop, codes "signal-delivery-stop") ∷
    (style.GroupStop, codes "group-stop, traced") ∷
    (style.EventStop, codes "event stop") ∷
    (style.ExitStop, codes "exit stop") ∷
    (style.Listening, codes "listening") ∷
    (style.Execing, codes "in execve(2)") ∷
    (style.Leaving, codes "leaving, dying") ∷
    (style.Dead, codes "dead") ∷
    (style.Stopping, codes "group is stopping") ∷
    (style.NoStop, codes "group, no stop") ∷ []

-- the arrows of calls
abbrev pub arrow_meanings : List (Style × List ℕ)
arrow_meanings =
    (style.Request, codes "request") ∷
    (style.Send, codes "signal sent") ∷
    (style.Takes, codes "wait takes a report") ∷
    (style.Joins, codes "clone, id taken by execve(2)") ∷
    (style.Refused, codes "refused") ∷ []

-- words in lanes
abbrev pub word_meanings : List (Style × List ℕ)
word_meanings =
    (style.Waiting, codes "7 INT +2: waits first, of 3") ∷
    (style.Waiting, codes "7 flushed +2: so ended, and 2 more did") ∷
    (style.Report, codes "r3: report 3, not taken") ∷
    (style.Report, codes "r3 withdrawn: no wait took it") ∷
    (style.Joins, codes "now 10: has taken the id 10") ∷
    (style.Ink, codes "S T N: marks: stop, trap, note") ∷
    (style.Dim, codes ".: no entry; !: refused; x3: 3 calls") ∷ []

abbrev pub block_item : ℕ → ℕ → Style × List ℕ → Elements
block_item x y m = all (rect m.0 x y 18 12 ∷ words style.Ink (x + 24) (y + 11) (m.1 ∷ []) ∷ [])

abbrev pub arrow_item : ℕ → ℕ → Style × List ℕ → Elements
arrow_item x y m = all (line m.0 x (y + 6) (x + 18) (y + 6) ∷ words style.Ink (x + 24) (y + 11) (m.1 ∷ []) ∷ [])

abbrev pub word_item : ℕ → ℕ → Style × List ℕ → Elements
word_item x y m = words m.0 x (y + 11) (m.1 ∷ [])

-- below each other, the first at x and y
abbrev pub block_items : ℕ → ℕ → List (Style × List ℕ) → Elements
block_items x y [] = none
block_items x y (m ∷ ms) = both (block_item x y m) (block_items x (y + 22) ms)

abbrev pub arrow_items : ℕ → ℕ → List (Style × List ℕ) → Elements
arrow_items x y [] = none
arrow_items x y (m ∷ ms) = both (arrow_item x y m) (arrow_items x (y + 22) ms)

abbrev pub word_items : ℕ → ℕ → List (Style × List ℕ) → Elements
word_items x y [] = none
word_items x y (m ∷ ms) = both (word_item x y m) (word_items x (y + 22) ms)

-- three columns
abbrev pub legend : ℕ → Elements
legend y = all (block_items 16 y block_meanings ∷ arrow_items 260 y arrow_meanings ∷ word_items 500 y word_meanings ∷ [])
