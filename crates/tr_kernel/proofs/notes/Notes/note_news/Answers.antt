use Rattle.std.proofs.Common.{ℕ, ◌<◌, ◌^◌, subst, sym}
use Rattle.tr_kernel.specs.KeptNotes.{KeptNotes}
use Rattle.tr_kernel.specs.Notes.{times}
use Rattle.tr_kernel.proofs.notes.Notes.note_news.Goals as goal

pub count_first_transfer-requires-clause-few : goal.count_first_transfer-requires-clause-few
count_first_transfer-requires-clause-few c = subst (λ (v : KeptNotes). (n : ℕ) → times n v.transfers < 2 ^ 32) (sym c.self.view_is) c.requires.few
