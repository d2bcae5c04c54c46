use Rattle.std.proofs.Common.{Ok, refl, rules, sym, ap, ◌∙◌}
use Rattle.tr_kernel.specs.declared.answers.Answer.TheVariants.{Refused}
use Rattle.tr_kernel.proofs.Checks.{quiets}
use Rattle.tr_kernel.proofs.Histories.{permits}
use Rattle.tr_kernel.proofs.Refusals.{only_cause, refusal, withheld}
use Rattle.tr_kernel.proofs.kernels.Kernel.call_checked.Goals as goal

pub returns-in-Err : goal.returns-in-Err
returns-in-Err c =
    let said = sym c.requires.checked ∙ c.in-Err.is in
    record {
      entered = tt;
      receipt = tt;
      room = tt;
      read = tt;
      refused = refusal c.args.self.now c.args.actor c.args.event c.in-Err.why said;
      unchanged = refl;
      cause = λ why r. ap (λ x. Refused x) (only_cause c.args.self.now c.args.actor c.args.event c.in-Err.why said why r);
      full = search rules;
      history = c.requires.history;
    }

pub returns-in-Quiet : goal.returns-in-Quiet
returns-in-Quiet c =
    let quiet = sym c.requires.checked ∙ c.in-Ok.is ∙ ap (λ x. Ok x) c.in-Quiet.is in
    let q = quiets c.args.self.now.table c.args.actor c.args.event c.in-Quiet.reply quiet in
    record {
      entered = tt;
      receipt = tt;
      room = tt;
      read = record { no_cause = q.0; quiet = q.1; same = refl };
      refused = tt;
      unchanged = tt;
      cause = search rules;
      full = search rules;
      history = c.requires.history;
    }

pub returns-in-Ok-enter_with_receipt : goal.returns-in-Ok-enter_with_receipt
returns-in-Ok-enter_with_receipt c =
    let made = c.in-Ok-enter_with_receipt.ensures in
    record {
      entered = made.entered;
      receipt = made.receipt;
      room = made.room;
      read = tt;
      refused = tt;
      unchanged = tt;
      cause = search rules;
      full = search rules;
      history = made.history;
    }

pub returns-in-Err-enter_with_receipt : goal.returns-in-Err-enter_with_receipt
returns-in-Err-enter_with_receipt c =
    let due = sym c.requires.checked ∙ c.in-Ok.is ∙ ap (λ x. Ok x) c.in-Due.is in
    record {
      entered = tt;
      receipt = tt;
      room = tt;
      read = tt;
      refused = withheld c.args.self.now c.args.actor c.args.event c.in-Due.choice c.in-Err-enter_with_receipt.why due c.in-Err-enter_with_receipt.ensures.err;
      unchanged = c.in-Err-enter_with_receipt.ensures.unchanged;
      cause = search rules;
      full = search rules;
      history = c.in-Err-enter_with_receipt.ensures.history;
    }

pub enter_with_receipt-requires-clause-admitted : goal.enter_with_receipt-requires-clause-admitted
enter_with_receipt-requires-clause-admitted c =
    let due = sym c.requires.checked ∙ c.in-Ok.is ∙ ap (λ x. Ok x) c.in-Due.is in
    permits c.args.self.now c.args.actor c.args.event c.in-Due.choice c.requires.history due
