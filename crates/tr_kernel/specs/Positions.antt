-- Positions of a journal, counted from 1, and the tables between its entries.
use Rattle.std.specs.Prelude.{ℕ, zero, suc, List, [], ◌∷◌, Option, None, slice_get, take, drop}
use Rattle.tr_model.specs.Entries.{Entry}
use Rattle.tr_model.specs.Steps.{work_of}
use Rattle.tr_model.specs.Tables.{Table}

-- the entry at a position
abbrev pub entry_at : List Entry → ℕ → Option Entry
entry_at es zero = None
entry_at es (suc k) = slice_get es k

-- the table after so many entries
abbrev pub table_at : Table → List Entry → ℕ → Table
table_at T es zero = T
table_at T [] (suc n) = T
table_at T (e ∷ es) (suc n) = table_at (work_of T e).table es n

-- the entries before a position, and the table that they lead to
abbrev pub before : List Entry → ℕ → List Entry
before es zero = []
before es (suc k) = take k es

-- the table in which the entry at a position was made
abbrev pub table_before : Table → List Entry → ℕ → Table
table_before T es zero = T
table_before T es (suc k) = table_at T es k

-- the entries after one position and before another
abbrev pub between : List Entry → ℕ → ℕ → List Entry
between es i j = drop i (before es j)
