use Rattle.std.proofs.lemmas.Str.{is_utf8-from_IsUtf8}
use Rattle.serde_json.proofs.Nesting.{depth-read}
use Rattle.serde_json.specs.View.{view}
use Rattle.tr_encoding.proofs.Depths.{scenario_depth}
use Rattle.tr_encoding.proofs.Wholes.{read_as_steps, read_from}
use Rattle.tr_encoding.proofs.scenarios.scenario_text.Goals as goal

pub returns-clause-text : goal.returns-clause-text
returns-clause-text c =
    let d = view c.in_ok-value.value in
    let read = read_from c.args.bytes.now d c.in_ok-value.ensures.gives in
    let text = rw c.in_ok-scenario.ensures.value at c.in_ok-to_vec.ensures.text in
    let back = rw c.in_ok-scenario.ensures.value at c.in_ok-to_vec.ensures.reads_back in
    (d, (c.in_ok-value.ensures.gives, (back (scenario_depth d c.args.calls.now (depth-read c.args.bytes.now d read)), text)))

pub returns-clause-reads_back : goal.returns-clause-reads_back
returns-clause-reads_back c =
    let d = view c.in_ok-value.value in
    let read = read_from c.args.bytes.now d c.in_ok-value.ensures.gives in
    let back = rw c.in_ok-scenario.ensures.value at c.in_ok-to_vec.ensures.reads_back in
    read_as_steps c.args.bytes.now c.in_ok-to_vec.field-0.items d c.args.calls.now c.in_ok-value.ensures.gives (is_utf8-from_IsUtf8 c.in_ok-to_vec.field-0.items c.in_ok-to_vec.ensures.utf8)
    (back (scenario_depth d c.args.calls.now (depth-read c.args.bytes.now d read))) c.in_ok-scenario.ensures.reads_back
