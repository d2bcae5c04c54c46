use Rattle.std.proofs.Common.{◌≡◌, ◌∙◌, None, Some, if◌then◌else◌, ap, rules, sym}
use Rattle.indexmap.specs.IndexMap.{get}
use Rattle.tr_queues.specs.contracts.lines.LineKeyPartialEq.TheImpl as key_test
use Rattle.tr_queues.specs.declared.lines.Line.{Line}
use Rattle.tr_queues.specs.declared.lines.LineKey.{LineKey}
use Rattle.tr_queues.specs.Lines.{StandsAt, is_key, line_at, longer, unless_empty}
use Rattle.tr_queues.proofs.Written.{line_found, line_written, longer_few, longer_stays}
use Rattle.tr_queues.proofs.lines.enter_line.Goals as goal

pub longer-requires : goal.longer-requires
longer-requires c =
    let w = c.args.waiting.now in
    let here = line_found c.args.lines.now w c.key_of-key.result (Some c.in-Some.line) c.key_of-key.ensures (search rules) in
    longer_few c.in-Some.line (line_at c.args.lines.now w.target w.instance.sig) here c.requires.few

pub returns-in-Some-clause-get : goal.returns-in-Some-clause-get
returns-in-Some-clause-get c =
    let w = c.args.waiting.now in
    let L = c.args.lines.now in
    let key = c.key_of-key.result in
    let here = line_found L w key (Some c.in-Some.line) c.key_of-key.ensures (search rules) in
    let line = c.longer.ensures ∙ ap (longer w.instance.n) (sym here) in
    let at : StandsAt key_test.ghosts.eq L c.in-Some.place key = search rules in
    λ q s. line_written L c.rewrite.new.map w key c.longer.result c.key_of-key.ensures (λ k. c.rewrite.ensures.get key k at) q s
    ∙ ap (λ l. if is_key w q s then l else line_at L q s) (ap (λ l. unless_empty (Some l)) line ∙ longer_stays w.instance.n (line_at L w.target w.instance.sig))

pub returns-in-None-clause-get : goal.returns-in-None-clause-get
returns-in-None-clause-get c =
    let w = c.args.waiting.now in
    let L = c.args.lines.now in
    let key = c.key_of-key.result in
    let here = line_found L w key None c.key_of-key.ensures (search rules) in
    let line : Line = record { first = w.instance.n; count = 1 } in
    let wrote : (k : LineKey) → get key_test.ghosts.eq c.insert.new.self k ≡ (if key_test.ghosts.eq key k then Some line else get key_test.ghosts.eq L k) = λ k. search rules in
    λ q s. line_written L c.insert.new.self w key line c.key_of-key.ensures wrote q s
    ∙ ap (λ l. if is_key w q s then Some (longer w.instance.n l) else line_at L q s) (sym here)
