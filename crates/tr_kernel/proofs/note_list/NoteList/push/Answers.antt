use Rattle.std.proofs.Common.{◌≡◌, ◌<◌, ◌^◌, ◌++◌, ◌∷◌, [], ◌∙◌, ap, sym, subst, arith, length}
use Rattle.tr_kernel.specs.Kept.{NotesOfEntries, spread}
use Rattle.tr_kernel.proofs.Spread.{deaths_push, length_spread, note_more, within_push}
use Rattle.tr_kernel.proofs.note_list.NoteList.push.Goals as goal

pub overflow_cast-self-inside : goal.overflow_cast-self-inside
overflow_cast-self-inside c =
    let few = subst (λ (v : NotesOfEntries). length v.notes < 2 ^ 32) (sym c.self.view_is) c.requires.few in
    omega (arith, few, length_spread c.self.inside.kept.items 0 0 c.self.inside.len)

pub invariant_of-self : goal.invariant_of-self
invariant_of-self c =
    let n = c.self.inside.len in
    let ks = c.self.inside.kept.items in
    let x = c.new.result in
    let last : x.deaths ≡ c.args.note.now.deaths = ap (λ m. m.deaths) c.new.ensures.note in
    rw (c.push_reserved.ensures.items) (within_push 0 n ks x c.new.ensures.place (omega arith) c.self.invariant.0, sym last ∙ deaths_push 0 ks x)

pub returns : goal.returns
returns c =
    let ks = c.self.inside.kept.items in
    let n = c.self.inside.len in
    rw (c.push_reserved.ensures.items, ← c.self.view_is) (note_more ks n c.self.invariant.0 c.new.result c.new.ensures.place ∙ ap (λ m. spread ks 0 0 n ++ m ∷ []) c.new.ensures.note)
