use Rattle.std.proofs.Common.{◌≡◌, ◌∙◌, ap, refl, sym, subst, arith, length, Some}
use Rattle.std.proofs.lemmas.Option.{slice_get_read, slice_get_within}
use Rattle.std.specs.Prelude.{slice_get}
use Rattle.tr_kernel.specs.Kept.{IsHeld, fact_told, with_fact}
use Rattle.tr_kernel.specs.KeptReplies.{all_by, mark_of}
use Rattle.tr_kernel.proofs.Joined.{joined_at, joined_none}
use Rattle.tr_kernel.proofs.Told.{each_at, held_at, told_of}
use Rattle.tr_kernel.proofs.journal.Journal.note.Goals as goal

pub returns-in_err-note : goal.returns-in_err-note
returns-in_err-note c =
    let j = c.self.inside in
    let fs = all_by fact_told j.marks.items j.mark j.wholes.items 0 j.entries.items j.briefs.items in
    rw (← c.self.view_is) (c.from_residual.ensures ∙ sym (joined_none fs j.notes.notes c.args.place (sym c.get.ensures ∙ c.in_err-note.was)))

pub index-requires : goal.index-requires
index-requires c =
    let within = slice_get_within c.self.inside.notes.notes c.args.place c.in_ok-note.note (sym c.get.ensures ∙ c.in_ok-note.was) in
    omega (arith, within, c.self.invariant.noted)

pub index-requires-2 : goal.index-requires-2
index-requires-2 c =
    let within = slice_get_within c.self.inside.notes.notes c.args.place c.in_ok-note.note (sym c.get.ensures ∙ c.in_ok-note.was) in
    omega (arith, within, c.self.invariant.noted, c.self.invariant.each)

pub fact-fact-requires : goal.fact-fact-requires
fact-fact-requires c =
    let j = c.self.inside in
    let p = c.args.place in
    let b = c.index.result.now in
    let within = slice_get_within j.notes.notes p c.in_ok-note.note (sym c.get.ensures ∙ c.in_ok-note.was) in
    let brief = slice_get_read j.briefs.items (length j.briefs.items) p b refl (omega (arith, within, c.self.invariant.noted)) c.index.ensures in
    let held = held_at j.marks.items j.mark j.wholes.items j.briefs.items p b c.self.invariant.held brief in
    let mark = c.mark_of-mark.ensures ∙ ap (λ ms. mark_of ms j.mark p) c.deref.ensures.value in
    subst (λ ws. IsHeld c.mark_of-mark.result ws b) (sym c.deref-2.ensures.value) (subst (λ m. IsHeld m j.wholes.items b) (sym mark) held)

pub returns : goal.returns
returns c =
    let j = c.self.inside in
    let p = c.args.place in
    let e = c.index-2.result.now in
    let b = c.index.result.now in
    let note = c.in_ok-note.note in
    let there = sym c.get.ensures ∙ c.in_ok-note.was in
    let within = slice_get_within j.notes.notes p note there in
    let entry = slice_get_read j.entries.items (length j.entries.items) p e refl (omega (arith, within, c.self.invariant.noted, c.self.invariant.each)) c.index-2.ensures in
    let brief = slice_get_read j.briefs.items (length j.briefs.items) p b refl (omega (arith, within, c.self.invariant.noted)) c.index.ensures in
    let m = mark_of j.marks.items j.mark p in
    let mark = c.mark_of-mark.ensures ∙ ap (λ ms. mark_of ms j.mark p) c.deref.ensures.value in
    let fs = all_by fact_told j.marks.items j.mark j.wholes.items 0 j.entries.items j.briefs.items in
    let told : slice_get fs p ≡ Some (fact_told e m j.wholes.items b)
    = each_at fact_told j.marks.items j.mark j.wholes.items j.entries.items j.briefs.items p
    ∙ (ap (λ o. told_of fact_told o (slice_get j.briefs.items p) m j.wholes.items) entry ∙ ap (λ o. told_of fact_told (Some e) o m j.wholes.items) brief) in
    let fact = c.fact-fact.ensures ∙ (ap (λ ws. fact_told e c.mark_of-mark.result ws b) c.deref-2.ensures.value ∙ ap (λ x. fact_told e x j.wholes.items b) mark) in
    rw (← c.self.view_is) (ap (λ x. Some x) (c.with_fact.ensures ∙ ap (λ f. with_fact f note) fact) ∙ sym (joined_at fs j.notes.notes p _ note told there))
