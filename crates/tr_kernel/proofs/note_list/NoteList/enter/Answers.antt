use Rattle.std.proofs.Common.{◌≡◌, ◌<◌, ◌^◌, ◌++◌, ◌∷◌, [], ◌∙◌, ap, sym, subst, arith, length, true}
use Rattle.tr_kernel.specs.Kept.{NotesOfEntries, blank, left_of, spread}
use Rattle.tr_kernel.specs.Private.{note_noticed}
use Rattle.tr_kernel.specs.declared.notes.EntryFact.TheVariants.{Nothing}
use Rattle.tr_kernel.specs.declared.notes.Note.{Note}
use Rattle.tr_kernel.proofs.Spread.{blank_more, length_spread, within_more}
use Rattle.tr_kernel.proofs.note_list.NoteList.enter.Goals as goal

pub overflow_add-self : goal.overflow_add-self
overflow_add-self c =
    let few = subst (λ (v : NotesOfEntries). length v.notes < 2 ^ 32) (sym c.self.view_is) c.requires.few in
    omega (arith, few, length_spread c.self.inside.kept.items 0 0 c.self.inside.len)

pub invariant_of-self : goal.invariant_of-self
invariant_of-self c = (within_more 0 c.self.inside.len c.self.inside.kept.items c.self.invariant.0, c.self.invariant.1)

pub returns-then-noticed-self-clause-notes : goal.returns-then-noticed-self-clause-notes
returns-then-noticed-self-clause-notes c =
    let ks = c.self.inside.kept.items in
    let n = c.self.inside.len in
    let noticed = c.args.noticed.now in
    let r = c.args.reply.now in
    let same : noticed.deaths ≡ c.self.inside.deaths = omega (arith, c.if-noticed-self.true) in
    let deaths = ap blank (sym c.self.invariant.1 ∙ sym same) in
    let left : ◌≡◌ {A = Note} (blank noticed.deaths) (left_of true (note_noticed noticed r)) = ap (λ k. record { fact = Nothing; killed = k; deaths = noticed.deaths }) (sym c.if-not-noticed.true) in
    let tells = ap (λ t. left_of t (note_noticed noticed r)) (sym c.if-tells_fact.true) in
    rw (← c.self.view_is) (blank_more ks n c.self.invariant.0 ∙ ap (λ m. spread ks 0 0 n ++ m ∷ []) (deaths ∙ (left ∙ tells)))
