use Rattle.std.proofs.Common.{◌≡◌, ◌∙◌, ◌+◌, ◌++◌, Bool, true, false, ap, append-nil, drop, if◌then◌else◌, sym}
use Rattle.std.specs.Prelude.{is_err}
use Rattle.serde_json.specs.View.{items_view, view}
use Rattle.tr_mistakes.specs.Parts.{index_part, refused_member}
use Rattle.tr_mistakes.proofs.Spoken.{decided, member_end, member_left, told_at}
use Rattle.tr_mistakes.proofs.lists.push_refused_member.Goals as goal

pub returns-then-branch : goal.returns-then-branch
returns-then-branch g c =
    let i = c.loop-index.index in
    let vs = c.args.values.now in
    let v = c.index-values-index.result in
    let e : is_err (g.T.FromJson.reads (view v)) ≡ true = decided _ _ _ _ _ c.from_json.ensures c.refused.ensures c.in_ok-refused.was ∙ c.if-branch.true in
    told_at c.push_mistake.result _ _ _ _ _ _ _ _ _ c.loop-index.invariant.page c.in_ok-push_index.ensures c.push_mistake.ensures e
    (sym (member_left g.T.FromJson.reads g.T.Mistaken.mistake vs i v c.loop-index-test.true (sym c.index-values-index.is)) ∙ c.loop-index.invariant.rest)

pub returns : goal.returns
returns g c =
    c.loop-index.invariant.page
    ∙ sym (append-nil c.args.page.now)
    ∙ ap (λ t. c.args.page.now ++ t) (sym (member_end g.T.FromJson.reads g.T.Mistaken.mistake c.args.values.now c.loop-index.index c.loop-index-test.false) ∙ c.loop-index.invariant.rest)

pub loop-index-preserved : goal.loop-index-preserved
loop-index-preserved g c =
    let i = c.loop-index.index in
    let vs = c.args.values.now in
    let v = c.index-values-index.result in
    let e : is_err (g.T.FromJson.reads (view v)) ≡ false = decided _ _ _ _ _ c.from_json.ensures c.refused.ensures c.in_ok-refused.was ∙ c.if-branch.false in
    record {
      page = c.loop-index.invariant.page;
      rest = ap (λ (b : Bool). if b then index_part i ++ g.T.Mistaken.mistake (view v) else refused_member g.T.FromJson.reads g.T.Mistaken.mistake (i + 1) (items_view (drop (i + 1) vs))) (sym e)
          ∙ sym (member_left g.T.FromJson.reads g.T.Mistaken.mistake vs i v c.loop-index-test.true (sym c.index-values-index.is))
          ∙ c.loop-index.invariant.rest;
    }
