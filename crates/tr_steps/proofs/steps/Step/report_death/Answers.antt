use Rattle.std.proofs.Common.{◌≡◌, ap, arith, length, refl, subst}
use Rattle.tr_model.specs.Moves.{Work, begin}
use Rattle.tr_model.specs.Tables.{Table}
use Rattle.tr_steps.proofs.Slight.{Slight, slight_death}
use Rattle.tr_steps.proofs.steps.Step.report_death.Goals as goal

pub invariant_of-self : goal.invariant_of-self
invariant_of-self c h =
    let o = c.self.invariant (omega (arith, h)) in
    let was : Table = c.self.inside.table.table in
    let m : Slight was c.report_death-raise.new.self.table = subst (Slight was) (ap (λ (w : Work). w.table) (c.report_death-raise.ensures.work (begin was) refl)) (slight_death c.args.id c.args.end.now was) in
    let a = m.helds in
    let b = m.waiting in
    let d = m.accepted in
    let e = m.raised in
    let r = c.report_death-raise.ensures.room in
    let n = c.raise_some.ensures.room in
    let z = o.ended in
    record {
      ended = omega (arith, h);
      news = (let d = o.news in omega (arith, h));
      waiting = (let d = o.waiting in omega arith);
      accepted = (let x = o.accepted in omega (arith, h));
      raised = (let x = o.raised in omega (arith, h));
    }

pub returns : goal.returns
returns c =
    let i = c.self.inside in
    let was : Table = i.table.table in
    let w : Work = record { table = was; ended = i.ended.items; raises = i.news.news.raises; dying = i.news.news.dying; killed = i.news.news.killed; renamed = i.news.news.renamed } in
    let m : Slight was c.report_death-raise.new.self.table = subst (Slight was) (ap (λ (w : Work). w.table) (c.report_death-raise.ensures.work (begin was) refl)) (slight_death c.args.id c.args.end.now was) in
    let g = m.groups in
    let q : i.room ≡ c.args.self.now.room = ap (λ x. x.room) c.self.view_is in
    let k : length was.groups ≡ length c.args.self.now.work.table.groups = ap (λ x. length x.work.table.groups) c.self.view_is in
    let h = c.requires in
    record {
      work = rw (← c.self.view_is, c.raise_some.ensures.news, c.report_death-raise.ensures.work w refl) refl;
      room = omega arith;
      groups = omega arith;
      taken_from = rw (← c.self.view_is, c.raise_some.ensures.news) refl;
    }
