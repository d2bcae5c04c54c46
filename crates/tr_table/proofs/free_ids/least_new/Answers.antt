use Rattle.std.proofs.Common.{◌≡◌, ◌<◌, ◌∙◌, false, true, sym, arith}
use Rattle.tr_model.specs.Steps.{is_new}
use Rattle.tr_table.specs.Changes.{ids_table}
use Rattle.tr_table.proofs.FreeIds.{least_here, least_later, least_none}
use Rattle.tr_table.proofs.free_ids.least_new.Goals as goal

pub loop-id-preserved : goal.loop-id-preserved
loop-id-preserved c =
    let T = ids_table c.args.threads.now c.args.groups.now in
    let h : c.loop-id.id < 4194304 = let x = c.loop-id-test.true in omega arith in
    let e : is_new T c.loop-id.id ≡ false = sym c.is_new.ensures ∙ c.if-is_new.false in
    c.loop-id.invariant ∙ least_later T 4194304 c.loop-id.id h e

pub returns-then-is_new : goal.returns-then-is_new
returns-then-is_new c =
    let T = ids_table c.args.threads.now c.args.groups.now in
    let h : c.loop-id.id < 4194304 = let x = c.loop-id-test.true in omega arith in
    let e : is_new T c.loop-id.id ≡ true = sym c.is_new.ensures ∙ c.if-is_new.true in
    sym (c.loop-id.invariant ∙ least_here T 4194304 c.loop-id.id h e)

pub returns : goal.returns
returns c =
    let T = ids_table c.args.threads.now c.args.groups.now in
    sym (c.loop-id.invariant ∙ least_none T 4194304 c.loop-id.id (omega arith))
