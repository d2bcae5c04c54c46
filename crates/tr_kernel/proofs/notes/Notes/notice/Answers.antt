use Rattle.std.proofs.Common.{ℕ, ◌<◌, ◌^◌, subst, sym}
use Rattle.tr_kernel.specs.KeptNotes.{KeptNotes}
use Rattle.tr_kernel.specs.Notes.{times}
use Rattle.tr_kernel.proofs.notes.Notes.notice.Goals as goal

pub origin_of-origin-requires : goal.origin_of-origin-requires
origin_of-origin-requires c =
    let few = subst (λ (v : KeptNotes). (n : ℕ) → times n v.transfers < 2 ^ 32) (sym c.self.view_is) c.requires.few in
    record { few = subst (λ ts. (n : ℕ) → times n ts < 2 ^ 32) (sym c.deref.ensures.value) few }
