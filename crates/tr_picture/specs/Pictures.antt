-- The picture of a run.
use Rattle.std.specs.Prelude.{ℕ, Bool, ◌||◌, ◌+◌, ◌*◌, List, [], ◌∷◌, ◌++◌, nat_lt, if◌then◌else◌, codes, decimal, length}
use Rattle.tr_model.specs.declared.fates.Totals.{Totals}
use Rattle.tr_model.specs.Journals.{totals}
use Rattle.tr_model.specs.Runs.{Call, State, begun_at}
use Rattle.tr_model.specs.Tables.{Table}
use Rattle.tr_starts.specs.Starts.{table_of}
use Rattle.tr_status.specs.Texts.{texts}
use Rattle.tr_reading.specs.declared.scenarios.Scenario.{Scenario}
use Rattle.tr_scenario.specs.Lines.{totals_line}
use Rattle.tr_scenario.specs.Observers.{observed}
use Rattle.tr_scenario.specs.RunTexts.{state_after}
use Rattle.tr_scenario.specs.Serial.{job_calls}
use Rattle.tr_picture.specs.declared.layouts.Layout.{Layout}
use Rattle.tr_picture.specs.declared.pictures.Facts.{Facts}
use Rattle.tr_figures.specs.declared.styles.Style.TheVariants as style
use Rattle.tr_picture.specs.Actors.{job_actors}
use Rattle.tr_picture.specs.Drawn.{Drawn, begun, closed, drawn}
use Rattle.tr_figures.specs.Elements.{Attribute, Box, Elements, Open, Word, all, both, line, none, number_at, printed, rect, tag, text, token_pieces, words}
use Rattle.tr_picture.specs.Layouts.{lanes_right}
use Rattle.tr_picture.specs.Legends.{legend}
use Rattle.tr_figures.specs.Styles.{style_sheet}

-- Sizes

-- of the lanes with words right of the last one, and at least of the legend
abbrev pub width : Layout → ℕ
width L = if nat_lt (lanes_right L + 84) 1000 then 1000 else lanes_right L + 84

-- where the rows end
abbrev pub rows_end : ℕ → ℕ
rows_end rows = 136 + 44 * rows

abbrev pub height : ℕ → ℕ
height rows = rows_end rows + 400

-- The head

abbrev pub word_at : List ℕ → List ℕ → Attribute
word_at name w = record { name = name; value = Word w }

abbrev pub svg_attributes : ℕ → ℕ → List Attribute
svg_attributes w h =
    word_at (codes "xmlns") (codes "http://www.w3.org/2000/svg") ∷
    number_at (codes "width") w ∷
    number_at (codes "height") h ∷
    record { name = codes "viewBox"; value = Box w h } ∷
    word_at (codes "role") (codes "img") ∷
    word_at (codes "aria-labelledby") (codes "t d") ∷ []

-- how much was done
abbrev pub summary : ℕ → ℕ → List (List ℕ)
summary calls entries = codes "tracebox: " ∷ decimal calls ∷ codes " calls, " ∷ decimal entries ∷ codes " entries" ∷ []

abbrev pub picture_title : ℕ → ℕ → Elements
picture_title calls entries = tag (codes "title") (word_at (codes "id") (codes "t") ∷ []) (text (summary calls entries) none) none

-- how to read the picture
abbrev pub reading : List ℕ
reading = codes "Time runs down: a row for each call, with its place in the journal, the call, its answer, the reports that it raised and how signals ended by it. Right of them are the lanes of actors, of groups and of their threads: what waits, what each does after the call, who traces it, the report that no wait has taken, and one that was withdrawn; arrows between threads are of clones and of ids that execve(2) takes. "

-- that, and the totals
abbrev pub description : Totals → List (List ℕ)
description t = reading ∷ totals_line t ∷ []

abbrev pub picture_description : Totals → Elements
picture_description t = tag (codes "desc") (word_at (codes "id") (codes "d") ∷ []) (text (description t) none) none

abbrev pub sheet : Elements
sheet = tag (codes "style") [] (text (style_sheet ∷ []) none) none

abbrev pub limits : ℕ → ℕ → List (List ℕ)
limits limit entry_limit = codes "queue limit " ∷ decimal limit ∷ codes ", entry limit " ∷ decimal entry_limit ∷ []

-- over the columns of words
abbrev pub captions : Elements
captions = all (words style.Dim 16 94 (codes "at" ∷ []) ∷ words style.Dim 64 94 (codes "call" ∷ []) ∷ words style.Dim 312 94 (codes "answer" ∷ []) ∷ [])

-- down to y, where the actor is named again
abbrev pub life_line : ℕ → ℕ → ℕ → Elements
life_line x y a = all (line style.Dim (x + 46) 102 (x + 46) y ∷ words style.Dim (x + 4) (y + 24) (decimal a ∷ []) ∷ [])

-- of each actor a line, the first lane at x
abbrev pub life_lines : ℕ → ℕ → List ℕ → Elements
life_lines x y [] = none
life_lines x y (a ∷ rest) = both (life_line x y a) (life_lines (x + 118) y rest)

abbrev pub head : Drawn → Facts → Elements
head d f = all (
    picture_title d.calls f.entries ∷
    picture_description f.totals ∷
    sheet ∷
    rect style.Ground 0 0 (width d.layout) (height d.rows) ∷
    words style.Ink 16 28 (summary d.calls f.entries) ∷
    words style.Dim 16 50 (limits f.limit f.entry_limit) ∷
    captions ∷
    life_lines 640 (rows_end d.rows) d.layout.actors ∷ [])

-- The foot

abbrev pub lost_note : ℕ → ℕ → Elements
lost_note y lost = if nat_lt 0 lost then words style.Refused 16 y (codes "cut: " ∷ decimal lost ∷ codes " calls have no row" ∷ []) else words style.Dim 16 y (codes "end" ∷ [])

abbrev pub has_hidden : Layout → Bool
has_hidden L = nat_lt 0 L.hidden_threads || (nat_lt 0 L.hidden_groups || nat_lt 0 L.hidden_actors)

abbrev pub hidden_words : Layout → List (List ℕ)
hidden_words L = codes "without a lane: " ∷ decimal L.hidden_threads ∷ codes " threads, " ∷ decimal L.hidden_groups ∷ codes " groups, " ∷ decimal L.hidden_actors ∷ codes " actors" ∷ []

-- how many threads, groups and actors have no lane, if some have none
abbrev pub hidden_note : ℕ → Layout → Elements
hidden_note y L =
    if has_hidden L then words style.Refused 16 y (hidden_words L) else none

abbrev pub foot : Drawn → Totals → Elements
foot d t =
    let y : ℕ = rows_end d.rows in
    all (lost_note (y + 24) d.lost ∷ hidden_note (y + 44) d.layout ∷ words style.Ink 16 (y + 64) (totals_line t ∷ []) ∷ legend (y + 90) ∷ [])

-- All of it

-- a head, the rows, and a foot
abbrev pub picture_of : Drawn → Facts → List ℕ
picture_of d f =
    texts (token_pieces (Open (codes "svg") (svg_attributes (width d.layout) (height d.rows)))) ++ (printed (head d f) ++ (d.text ++ (printed (foot d f.totals) ++ codes "</svg>\n")))

-- what is known of a run from a table, at its end
abbrev pub facts : Table → State → Facts
facts T s = record { entries = length s.journal; limit = s.table.limit; entry_limit = s.table.entries; totals = totals T s.journal s.table }

-- with what was drawn before its calls
abbrev pub picture_from : Drawn → Table → State → List Call → List ℕ
picture_from d T s cs = picture_of (closed (observed drawn d s cs)) (facts T (state_after s cs))

-- the picture of the run of a scenario
unfoldable pub picture : Scenario → List ℕ
picture s = picture_from (begun (job_actors s.job) s.start) (table_of s.start) (begun_at (table_of s.start)) (job_calls (begun_at (table_of s.start)) s.job)
