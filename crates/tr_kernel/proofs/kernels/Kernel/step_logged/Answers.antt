use Rattle.std.proofs.Common.{◌<◌, ◌^◌, [], length, arith, ap, refl, sym, subst}
use Rattle.tr_model.specs.Compare.{Permits}
use Rattle.tr_kernel.specs.States.{State}
use Rattle.tr_kernel.proofs.Histories.{counted, few_after, few_same, written_history}
use Rattle.tr_starts.specs.Starts.{table_of}
use Rattle.tr_kernel.proofs.Noticed.{length_notes}
use Rattle.tr_kernel.proofs.Noting.{few_times, noted_goes_on}
use Rattle.tr_kernel.proofs.kernels.Kernel.step_logged.Goals as goal
use Rattle.tr_kernel.proofs.kernels.Kernel.step_logged.Goals.{in-Ok+in_ok-copy-in-Ok, in-Err}

pub write_entry-made-requires-clause-few_passes : goal.write_entry-made-requires-clause-few_passes
write_entry-made-requires-clause-few_passes c =
    few_times _ _ _ _ _ c.self.invariant.1 (subst (λ (k : State). length k.journal < 2 ^ 32) (sym c.self.view_is) c.requires.few)

pub write_entry-made-requires-clause-few_notes : goal.write_entry-made-requires-clause-few_notes
write_entry-made-requires-clause-few_notes c =
    let few = subst (λ (k : State). length k.journal < 2 ^ 32) (sym c.self.view_is) c.requires.few in
    omega (arith, few, ap length c.self.invariant.1.notes, length_notes (table_of c.self.inside.start) [] 0 c.self.inside.journal.entries)

pub write_entry-made-requires-clause-counted : goal.write_entry-made-requires-clause-counted
write_entry-made-requires-clause-counted c = counted _ c.self.invariant.0

pub write_entry-made-requires-clause-bounded : goal.write_entry-made-requires-clause-bounded
write_entry-made-requires-clause-bounded c =
    let due = subst (λ (k : State). Permits k.table c.args.actor c.args.event.now c.args.choice) (sym c.self.view_is) c.requires.due in
    few_after _ (record { actor = c.args.actor; event = c.args.event.now; choice = c.args.choice }) c.self.invariant.0 due

pub invariant_of-self : goal.invariant_of-self
invariant_of-self c =
    let due = subst (λ (k : State). Permits k.table c.args.actor c.args.event.now c.args.choice) (sym c.self.view_is) c.requires.due in
    let e = c.in-Ok.ensures in (
      written_history _ _ c.in-Ok.reply _ c.self.invariant.0 due (record { start = refl; table = e.table; reply = e.reply; journal = e.journal; replies = e.replies; fates = e.fates }),
      rw (e.journal, e.notes, e.dying) (noted_goes_on _ (record { actor = c.args.actor; event = c.args.event.now; choice = c.args.choice }) _ _ _ _ c.self.invariant.0 c.self.invariant.1 due e.transfers),
    )

pub returns-in_err-copy-in-Ok-clause-bounded : goal.returns-in_err-copy-in-Ok-clause-bounded
returns-in_err-copy-in-Ok-clause-bounded c =
    let due = subst (λ (k : State). Permits k.table c.args.actor c.args.event.now c.args.choice) (sym c.self.view_is) c.requires.due in
    rw (← c.self.view_is, c.in-Ok.ensures.table) (few_after _ (record { actor = c.args.actor; event = c.args.event.now; choice = c.args.choice }) c.self.invariant.0 due)

pub returns-in_err-copy-in-Ok-clause-history : goal.returns-in_err-copy-in-Ok-clause-history
returns-in_err-copy-in-Ok-clause-history c =
    let due = subst (λ (k : State). Permits k.table c.args.actor c.args.event.now c.args.choice) (sym c.self.view_is) c.requires.due in
    let e = c.in-Ok.ensures in
    written_history _ _ c.in-Ok.reply _ c.self.invariant.0 due (record { start = refl; table = e.table; reply = e.reply; journal = e.journal; replies = e.replies; fates = e.fates })

pub invariant_of-self-2 : goal.invariant_of-self-2
invariant_of-self-2 c =
    let due = subst (λ (k : State). Permits k.table c.args.actor c.args.event.now c.args.choice) (sym c.self.view_is) c.requires.due in
    elim c.match-made.branch [
      | in-Ok+in_ok-copy-in-Ok w ↦
          let e = w.in-Ok.ensures in (
            written_history _ _ w.in-Ok.reply _ c.self.invariant.0 due (record { start = refl; table = e.table; reply = e.reply; journal = e.journal; replies = e.replies; fates = e.fates }),
            rw (e.journal, e.notes, e.dying) (noted_goes_on _ (record { actor = c.args.actor; event = c.args.event.now; choice = c.args.choice }) _ _ _ _ c.self.invariant.0 c.self.invariant.1 due e.transfers),
          )
      | in-Err w ↦
          let e = w.in-Err.ensures in
          (rw (e.err_table, e.err_journal, e.err_replies, e.err_fates) c.self.invariant.0, rw (e.err_journal, e.err_notes, e.err_dying, e.err_passed) c.self.invariant.1)
    ]

pub returns-clause-bounded : goal.returns-clause-bounded
returns-clause-bounded c =
    let due = subst (λ (k : State). Permits k.table c.args.actor c.args.event.now c.args.choice) (sym c.self.view_is) c.requires.due in
    elim c.match-made.branch [
      | in-Ok+in_ok-copy-in-Ok w ↦
          rw (← c.self.view_is, w.in-Ok.ensures.table) (few_after _ (record { actor = c.args.actor; event = c.args.event.now; choice = c.args.choice }) c.self.invariant.0 due)
      | in-Err w ↦ rw (← c.self.view_is, w.in-Err.ensures.err_table) (few_same _)
    ]

pub returns-clause-history : goal.returns-clause-history
returns-clause-history c =
    let due = subst (λ (k : State). Permits k.table c.args.actor c.args.event.now c.args.choice) (sym c.self.view_is) c.requires.due in
    elim c.match-made.branch [
      | in-Ok+in_ok-copy-in-Ok w ↦
          let e = w.in-Ok.ensures in
          written_history _ _ w.in-Ok.reply _ c.self.invariant.0 due (record { start = refl; table = e.table; reply = e.reply; journal = e.journal; replies = e.replies; fates = e.fates })
      | in-Err w ↦ let e = w.in-Err.ensures in rw (e.err_table, e.err_journal, e.err_replies, e.err_fates) c.self.invariant.0
    ]
