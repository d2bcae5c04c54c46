use Rattle.std.proofs.Common.{◌∙◌, ap, sym, subst, length}
use Rattle.tr_starts.specs.Starts.{table_of}
use Rattle.tr_kernel.specs.Notes.{notes_of}
use Rattle.tr_kernel.specs.Private.{AreOrdered}
use Rattle.tr_kernel.proofs.Noticed.{length_notes, notes_ordered}
use Rattle.tr_kernel.proofs.Restarted.{restart_found, restart_none}
use Rattle.tr_kernel.proofs.kernels.Kernel.first_restart.Goals as goal

pub first_restart-requires-clause-notes : goal.first_restart-requires-clause-notes
first_restart-requires-clause-notes c = ap length c.self.invariant.1.notes ∙ length_notes _ _ _ _

pub first_restart-requires-clause-ordered : goal.first_restart-requires-clause-ordered
first_restart-requires-clause-ordered c =
    let n = c.self.invariant.1.notes in
    let d = c.dying.ensures ∙ c.self.invariant.1.dying in
    let T = table_of c.self.inside.start in
    let es = c.self.inside.journal.entries in
    subst (λ ns. AreOrdered ns (length c.dying.result.now)) (sym n) (subst (λ gs. AreOrdered (notes_of T es) (length gs)) (sym d) (notes_ordered T es))

pub returns-in_err-place-clause-none : goal.returns-in_err-place-clause-none
returns-in_err-place-clause-none c =
    let h = rw (← c.self.view_is) at c.requires in
    let f = rw (c.actor-tracer.ensures, c.dying.ensures, c.self.invariant.1.notes, c.self.invariant.1.dying) at (c.first_restart.ensures.none c.in_err-place.was) in
    λ q. rw (← c.self.view_is) (restart_none _ _ c.args.i c.args.j c.args.stop.now c.entry.result.now h.0 h.1 h.2 c.entry.ensures f)

pub returns-clause-found : goal.returns-clause-found
returns-clause-found c =
    let h = rw (← c.self.view_is) at c.requires in
    let f = rw (c.actor-tracer.ensures, c.dying.ensures, c.self.invariant.1.notes, c.self.invariant.1.dying) at c.in_ok-place.ensures.found in
    rw (← c.self.view_is) (restart_found _ _ c.args.i c.args.j c.in_ok-place.place c.args.stop.now c.entry.result.now h.0 f.0 f.1 h.2 c.entry.ensures f.2)
