use Rattle.std.proofs.Common.{◌∙◌, Some, if◌then◌else◌, ap, rules, sym}
use Rattle.std.proofs.lemmas.Option.{slice_get_within}
use Rattle.indexmap.proofs.CallerLemmas.{index_map_len-with_value_at, updates-with_value_at}
use Rattle.indexmap.specs.IndexMap.{get}
use Rattle.tr_queues.proofs.lines.rewrite.Goals as goal

pub returns-in-Some-clause-get : goal.returns-in-Some-clause-get
returns-in-Some-clause-get g c = λ key k h.
    let eq = g.K.PartialEq.eq in
    let m = c.args.map.now in
    let laws = g.met.K.Eq.laws in
    let wrote = updates-with_value_at m c.args.place c.args.value laws c.get_index_mut.ensures.unique h.found h.value h.there in
    wrote.0 k ∙ ap (λ b. if b then Some c.args.value else get eq m k) (sym (laws.congr key h.found k h.same))

pub returns-in-Some-clause-len : goal.returns-in-Some-clause-len
returns-in-Some-clause-len g c = index_map_len-with_value_at c.args.map.now c.args.place c.args.value

pub returns-in_default-clause-get : goal.returns-in_default-clause-get
returns-in_default-clause-get g c = λ key k h.
    let some = c.get_index_mut.ensures.found.1 (slice_get_within c.args.map.now.entries c.args.place (h.found, h.value) h.there) in
    search (rules, some)
