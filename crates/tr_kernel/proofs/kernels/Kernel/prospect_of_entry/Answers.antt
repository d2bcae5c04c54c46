use Rattle.std.proofs.Common.{◌≡◌, ◌∙◌, Bool, false, Ok, Err, ap, arith, if◌then◌else◌, leb-false, length, nat_le, subst, sym}
use Rattle.tr_model.specs.declared.replies.Refusal.TheVariants.{JournalFull}
use Rattle.tr_model.specs.Compare.{Permits, entry_for}
use Rattle.tr_model.specs.Steps.{after}
use Rattle.tr_kernel.specs.Foreseen.{foreseen_entry}
use Rattle.tr_kernel.specs.Heard.{call_of}
use Rattle.tr_kernel.specs.States.{State}
use Rattle.tr_kernel.proofs.Answered.{accepted_few, reply_is}
use Rattle.tr_kernel.proofs.kernels.Kernel.prospect_of_entry.Goals as goal

pub reply_before-requires-clause-few : goal.reply_before-requires-clause-few
reply_before-requires-clause-few c =
    let few = leb-false c.entries.result (length c.self.inside.journal.entries) (sym c.is_full.ensures ∙ c.if-is_full.false) in
    omega (arith, accepted_few _ c.self.invariant.0, few, c.entries.type_inv)

pub returns-clause-foreseen : goal.returns-clause-foreseen
returns-clause-foreseen c =
    let a = c.args.actor in
    let e = c.args.event.now in
    let T = c.self.inside.step.work.table in
    let n = length c.self.inside.journal.entries in
    let room : nat_le T.entries n ≡ false = ap (λ m. nat_le m n) (sym (c.entries.ensures ∙ ap (λ U. U.entries) c.table.ensures)) ∙ (sym c.is_full.ensures ∙ c.if-is_full.false) in
    let due = subst (λ (k : State). Permits k.table a e c.args.choice) (sym c.self.view_is) c.requires.due in
    let reply = c.reply_before.ensures ∙ reply_is _ a e c.args.choice c.self.invariant.0 due in
    subst (λ (k : State). Ok c.reply_before.result ≡ foreseen_entry k (entry_for (call_of a e) c.args.choice)) c.self.view_is
    (ap (λ r. Ok r) reply ∙ sym (ap (λ (b : Bool). if b then Err JournalFull else Ok (after T (entry_for (call_of a e) c.args.choice)).reply) room))
