use Rattle.std.proofs.Common.{inl, option_map, refl}
use Rattle.tr_scenario.proofs.Halts.{front_none}
use Rattle.tr_live.specs.Dialogues.{session_of}
use Rattle.tr_live.proofs.Saying.{told_to}
use Rattle.tr_live.proofs.replies.fill_answer.Goals as goal

pub returns-in-Err-clause-fills : goal.returns-in-Err-clause-fills
returns-in-Err-clause-fills g c =
    let t = told_to (option_map session_of c.args.kernel.now) c.args.line.now in
    (t.0, t.1, (front_none _ _, inl (c.in-Err.ensures.err, refl)))
