-- Tables between the entries of a journal.
use Rattle.std.proofs.Common.{◌≡◌, ℕ, ◌≤◌, List, [], ◌∷◌, ◌++◌, length, zero, suc, refl, sym, subst, arith}
use Rattle.tr_model.specs.Entries.{Entry}
use Rattle.tr_model.specs.declared.replies.Reply.{Reply}
use Rattle.tr_model.specs.Journals.{Replay}
use Rattle.tr_model.specs.Steps.{work_of}
use Rattle.tr_model.specs.Tables.{Table}
use Rattle.tr_kernel.specs.Positions.{table_at}

-- a replay ends in the table after all its entries
pub table_at_end : (T U : Table) (es : List Entry) (rs : List Reply) → Replay T es rs U → table_at T es (length es) ≡ U
table_at_end T U [] [] h = sym h
table_at_end T U [] (r ∷ rs) h = absurd h
table_at_end T U (e ∷ es) [] h = absurd h
table_at_end T U (e ∷ es) (r ∷ rs) h = table_at_end (work_of T e).table U es rs (subst (λ M. Replay M es rs U) h.1.table h.2)

-- later entries leave the earlier tables as they were
pub table_at_kept : (T : Table) (es fs : List Entry) (n : ℕ) → n ≤ length es → table_at T (es ++ fs) n ≡ table_at T es n
table_at_kept T es fs zero l = refl
table_at_kept T [] fs (suc n) l = absurd (omega arith)
table_at_kept T (e ∷ es) fs (suc n) l = table_at_kept (work_of T e).table es fs n (omega arith)
