use Rattle.tr_mistakes.proofs.Spoken.{key_told, no_key_told}
use Rattle.tr_mistakes.proofs.parts.push_keys_mistake.Goals as goal

pub returns-in-Some-first_unknown : goal.returns-in-Some-first_unknown
returns-in-Some-first_unknown c =
    key_told c.push_unknown.result _ _ _ c.args.names.now c.args.fields.now _ c.in-Some.members.now.entries c.in-Some-first_unknown.key.now c.push_unknown.ensures c.as_str.ensures.value c.in-Some-first_unknown.ensures c.in-Some.ensures

pub returns-in-None : goal.returns-in-None
returns-in-None c = no_key_told c.args.page.now c.args.names.now c.args.fields.now _ c.in-Some.members.now.entries c.in-None.ensures c.in-Some.ensures
