use Rattle.std.proofs.Common.{◌≡◌, ◌+◌, ◌<◌, ◌∙◌, ap, sym, subst, take, arith, Some}
use Rattle.std.proofs.lemmas.Option.{slice_get_past}
use Rattle.tr_kernel.specs.Kept.{AreWithin, IsUpto, note_upto, spread}
use Rattle.tr_kernel.proofs.Spread.{length_spread, spread_at}
use Rattle.tr_kernel.proofs.note_list.NoteList.get.Goals as goal

pub returns-then-place-self : goal.returns-then-place-self
returns-then-place-self c =
    let ks = c.self.inside.kept.items in
    let n = c.self.inside.len in
    rw (← c.self.view_is) (sym (slice_get_past (spread ks 0 0 n) c.args.place (omega (arith, length_spread ks 0 0 n, c.if-place-self.true))))

pub returns : goal.returns
returns c =
    let ks = c.self.inside.kept.items in
    let n = c.self.inside.len in
    let p = c.args.place in
    let m = c.count_upto-upto.result in
    let here : p ≡ 0 + p = omega arith in
    let end : n ≡ 0 + n = omega arith in
    let before : p < n = omega (arith, c.if-place-self.false) in
    let upto = subst (λ q. IsUpto q ks m) here (subst (λ l. IsUpto p l m) c.deref.ensures.value c.count_upto-upto.ensures) in
    let kept = spread_at ks 0 0 n p m (subst (λ q. AreWithin 0 q ks) end c.self.invariant.0) before upto in
    let note = ap (λ q. Some (note_upto 0 q (take m ks))) (sym here) ∙ ap (λ x. Some x) (ap (λ l. note_upto 0 p (take m l)) (sym c.deref-2.ensures.value) ∙ sym c.note_upto.ensures) in
    rw (← c.self.view_is) (sym (kept ∙ note))
