use Rattle.std.proofs.Common.{◌∙◌, ◌≡◌, ap, sym, inl, inr, map, true}
use Rattle.clap.specs.Words.{App, app_of, fault_of, is_simple_and_free, takes}
use Rattle.tr_commands.specs.Asks.{answer_of, fault_at}
use Rattle.tr_commands.specs.CommandLine.{tracebox}
use Rattle.tr_commands.proofs.Refusals.{answered, refused, simple, taken}
use Rattle.tr_commands.proofs.asking.asked.Goals as goal

pub returns-in-Ok-try_get_matches_from-clause-blames : goal.returns-in-Ok-try_get_matches_from-clause-blames
returns-in-Ok-try_get_matches_from-clause-blames g c =
    let words = map g.S.AsStr.text c.args.words.now in
    let same : app_of c.in-Ok.command ≡ tracebox = c.in-Ok.ensures in
    let free : is_simple_and_free (app_of c.in-Ok.command) ≡ true = ap is_simple_and_free same ∙ simple in
    taken words (answer_of c.ask_of.result) (sym (ap (λ (a : App). fault_of a words) same) ∙ c.in-Ok-try_get_matches_from.ensures.kinds free)

pub returns-in-Err-clause-answers : goal.returns-in-Err-clause-answers
returns-in-Err-clause-answers g c =
    let words = map g.S.AsStr.text c.args.words.now in
    let same : app_of c.in-Ok.command ≡ tracebox = c.in-Ok.ensures in
    λ (fits : takes tracebox words ≡ true). elim c.declined_by.ensures [
      | inl memory ↦ inl memory
      | inr is ↦ inl (is ∙ ap fault_at (c.in-Err.ensures.passes (ap (λ (a : App). takes a words) same ∙ fits)))
    ]

pub returns-in-Err-clause-blames : goal.returns-in-Err-clause-blames
returns-in-Err-clause-blames g c =
    let words = map g.S.AsStr.text c.args.words.now in
    let same : app_of c.in-Ok.command ≡ tracebox = c.in-Ok.ensures in
    let free : is_simple_and_free (app_of c.in-Ok.command) ≡ true = ap is_simple_and_free same ∙ simple in
    elim c.declined_by.ensures [
      | inl memory ↦ inl memory
      | inr is ↦ refused (app_of c.in-Ok.command) words c.in-Err.error c.declined_by.result.fault same is (c.in-Err.ensures.kinds free)
    ]

pub returns-in-Ok-try_get_matches_from-clause-answers : goal.returns-in-Ok-try_get_matches_from-clause-answers
returns-in-Ok-try_get_matches_from-clause-answers g c =
    answered (map g.S.AsStr.text c.args.words.now) _ c.in-Ok-try_get_matches_from.matches (answer_of c.ask_of.result) c.in-Ok.ensures c.in-Ok-try_get_matches_from.ensures.matches c.ask_of.ensures.asked
