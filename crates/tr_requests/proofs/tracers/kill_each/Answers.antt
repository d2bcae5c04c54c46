use Rattle.std.proofs.Common.{◌≡◌, ◌<◌, ◌∙◌, ap, arith, length, take, take_all}
use Rattle.tr_model.specs.Moves.{at}
use Rattle.tr_model.specs.Tracers.{exit_kill}
use Rattle.tr_steps.proofs.Groups.{each_more}
use Rattle.tr_requests.proofs.tracers.kill_each.Goals as goal

pub kill_at-requires : goal.kill_at-requires
kill_at-requires c =
    let r = c.requires in
    let v = c.loop-i.invariant.0.room in
    let t = c.loop-i-test.true in
    omega arith

pub loop-i-preserved : goal.loop-i-preserved
loop-i-preserved c =
    let xs = c.args.ids.now in
    let i = c.loop-i.i in
    let v = c.loop-i.invariant.0 in
    let a = c.kill_at.ensures in
    let h : i < length xs = let x = c.loop-i-test.true in omega arith in
    let w = a.work ∙ ap (at _ exit_kill) v.work in (
      record {
        work = rw (each_more xs i (λ id. at id exit_kill) c.args.step.now.work h) w;
        room = (let x = a.room in let y = v.room in omega arith);
        groups = (let x = a.groups in let y = v.groups in omega arith);
        taken_from = a.taken_from ∙ v.taken_from;
      },
      omega (arith, h),
    )

pub returns : goal.returns
returns c =
    let xs = c.args.ids.now in
    let v = c.loop-i.invariant.0 in
    let p : c.loop-i.i ≡ length xs = let x = c.loop-i.invariant.1 in let y = c.loop-i-test.false in omega arith in
    let q : take c.loop-i.i xs ≡ xs = ap (λ k. take k xs) p ∙ take_all (length xs) xs (omega arith) in
    let w = v.work in
    record {
      work = (rw q at w);
      room = (let y = v.room in omega (arith, p));
      groups = v.groups;
      taken_from = v.taken_from;
    }
