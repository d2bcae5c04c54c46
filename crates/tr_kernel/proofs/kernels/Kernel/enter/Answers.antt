use Rattle.std.proofs.Common.{◌<◌, ◌^◌, [], length, arith, ap, refl, sym, subst}
use Rattle.tr_model.specs.Compare.{Permits}
use Rattle.tr_kernel.specs.States.{State}
use Rattle.tr_kernel.proofs.Histories.{counted, few_after, few_same, written_history, written_made}
use Rattle.tr_starts.specs.Starts.{table_of}
use Rattle.tr_kernel.proofs.Noticed.{length_notes}
use Rattle.tr_kernel.proofs.Noting.{few_times, noted_goes_on}
use Rattle.tr_kernel.proofs.kernels.Kernel.enter.Goals as goal
use Rattle.tr_kernel.proofs.kernels.Kernel.enter.Goals.{in-Ok, in-Err}

pub write_entry-made-requires-clause-counted : goal.write_entry-made-requires-clause-counted
write_entry-made-requires-clause-counted c = counted _ c.self.invariant.0

pub write_entry-made-requires-clause-bounded : goal.write_entry-made-requires-clause-bounded
write_entry-made-requires-clause-bounded c =
    let due = subst (λ (k : State). Permits k.table c.args.actor c.args.event.now c.args.choice) (sym c.self.view_is) c.requires.due in
    few_after _ (record { actor = c.args.actor; event = c.args.event.now; choice = c.args.choice }) c.self.invariant.0 due

pub write_entry-made-requires-clause-few_passes : goal.write_entry-made-requires-clause-few_passes
write_entry-made-requires-clause-few_passes c =
    few_times _ _ _ _ _ c.self.invariant.1 (subst (λ (k : State). length k.journal < 2 ^ 32) (sym c.self.view_is) c.requires.few)

pub write_entry-made-requires-clause-few_notes : goal.write_entry-made-requires-clause-few_notes
write_entry-made-requires-clause-few_notes c =
    let few = subst (λ (k : State). length k.journal < 2 ^ 32) (sym c.self.view_is) c.requires.few in
    omega (arith, few, ap length c.self.invariant.1.notes, length_notes (table_of c.self.inside.start) [] 0 c.self.inside.journal.entries)

pub invariant_of-self : goal.invariant_of-self
invariant_of-self c =
    let due = subst (λ (k : State). Permits k.table c.args.actor c.args.event.now c.args.choice) (sym c.self.view_is) c.requires.due in
    elim c.match-made.branch [
      | in-Ok w ↦
          let e = w.in-Ok.ensures in (
            written_history _ _ w.in-Ok.reply _ c.self.invariant.0 due (record { start = refl; table = e.table; reply = e.reply; journal = e.journal; replies = e.replies; fates = e.fates }),
            rw (e.journal, e.notes, e.dying) (noted_goes_on _ (record { actor = c.args.actor; event = c.args.event.now; choice = c.args.choice }) _ _ _ _ c.self.invariant.0 c.self.invariant.1 due e.transfers),
          )
      | in-Err w ↦
          let e = w.in-Err.ensures in
          (rw (e.err_table, e.err_journal, e.err_replies, e.err_fates) c.self.invariant.0, rw (e.err_journal, e.err_notes, e.err_dying, e.err_passed) c.self.invariant.1)
    ]

pub returns-clause-history : goal.returns-clause-history
returns-clause-history c =
    let due = subst (λ (k : State). Permits k.table c.args.actor c.args.event.now c.args.choice) (sym c.self.view_is) c.requires.due in
    elim c.match-made.branch [
      | in-Ok w ↦
          let e = w.in-Ok.ensures in
          written_history _ _ w.in-Ok.reply _ c.self.invariant.0 due (record { start = refl; table = e.table; reply = e.reply; journal = e.journal; replies = e.replies; fates = e.fates })
      | in-Err w ↦ let e = w.in-Err.ensures in rw (e.err_table, e.err_journal, e.err_replies, e.err_fates) c.self.invariant.0
    ]

pub returns-clause-ok : goal.returns-clause-ok
returns-clause-ok c =
    let due = subst (λ (k : State). Permits k.table c.args.actor c.args.event.now c.args.choice) (sym c.self.view_is) c.requires.due in
    elim c.match-made.branch [
      | in-Ok w ↦
          let e = w.in-Ok.ensures in
          rw (w.result-is, ← c.self.view_is)
          (written_made _ (record { actor = c.args.actor; event = c.args.event.now; choice = c.args.choice }) w.in-Ok.reply _ due (record { start = refl; table = e.table; reply = e.reply; journal = e.journal; replies = e.replies; fates = e.fates }))
      | in-Err w ↦ rw w.result-is tt
    ]

pub returns-clause-bounded : goal.returns-clause-bounded
returns-clause-bounded c =
    let due = subst (λ (k : State). Permits k.table c.args.actor c.args.event.now c.args.choice) (sym c.self.view_is) c.requires.due in
    elim c.match-made.branch [
      | in-Ok w ↦
          let e = w.in-Ok.ensures in
          rw (← c.self.view_is, e.table) (few_after _ (record { actor = c.args.actor; event = c.args.event.now; choice = c.args.choice }) c.self.invariant.0 due)
      | in-Err w ↦ rw (← c.self.view_is, w.in-Err.ensures.err_table) (few_same _)
    ]
