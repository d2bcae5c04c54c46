use Rattle.std.proofs.Common.{inl, refl}
use Rattle.tr_scenario.proofs.Halts.{front_none}
use Rattle.tr_live.specs.Commands.{command_of, line_read}
use Rattle.tr_live.specs.Mistakes.{command_mistake}
use Rattle.tr_live.proofs.Saying.{told_of}
use Rattle.tr_live.proofs.replies.fill_command.Goals as goal

pub returns-in-Err-push_shown : goal.returns-in-Err-push_shown
returns-in-Err-push_shown g c =
    let t = told_of command_mistake c.args.line.now (line_read command_of c.args.line.now) in
    record { fills = (t.0, t.1, (front_none _ _, inl (refl, refl))); session = tt }

pub returns-in-Err-NoMemory-clause-fills : goal.returns-in-Err-NoMemory-clause-fills
returns-in-Err-NoMemory-clause-fills g c =
    let t = told_of command_mistake c.args.line.now (line_read command_of c.args.line.now) in
    (t.0, t.1, (front_none _ _, inl (refl, refl)))

pub returns-in-Err-push_refused : goal.returns-in-Err-push_refused
returns-in-Err-push_refused g c =
    let t = told_of command_mistake c.args.line.now (line_read command_of c.args.line.now) in
    record { fills = (t.0, t.1, (front_none _ _, inl (refl, refl))); session = tt }
