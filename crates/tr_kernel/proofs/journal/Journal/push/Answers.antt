use Rattle.std.proofs.Common.{◌≡◌, ◌∙◌, ◌+◌, ◌*◌, ◌^◌, ◌<◌, [], ◌∷◌, ◌++◌, ap, arith, length, length-append, subst, sym}
use Rattle.tr_kernel.specs.declared.replies.Mark.{Mark}
use Rattle.tr_kernel.specs.Kept.{EntryList, fact_told}
use Rattle.tr_kernel.specs.KeptReplies.{AreHeld, all_by}
use Rattle.tr_kernel.specs.Private.{note_noticed}
use Rattle.tr_kernel.proofs.Joined.{full_notes, length_joined, pushed_notes}
use Rattle.tr_kernel.proofs.Told.{full_held, pushed_held}
use Rattle.tr_kernel.proofs.journal.Journal.push.Goals as goal

pub invariant_of-self : goal.invariant_of-self
invariant_of-self c =
    let h = c.self.invariant in
    let entries = ap length c.append.ensures.items ∙ length-append c.self.inside.entries.items (c.args.entry.now ∷ []) in
    let briefs = ap length c.append-2.ensures.items ∙ length-append c.self.inside.briefs.items (c.keep-kept.result.brief ∷ []) in
    let marks = ap length c.append-then-len-eq0.ensures.items ∙ length-append c.self.inside.marks.items (c.self.inside.mark ∷ []) in
    let notes = ap length c.enter-self-inside.ensures.notes ∙ length-append c.self.inside.notes.notes _ in
    let least = c.enter-self-inside.ensures.least in
    let room : 0 < c.self.inside.room = subst (λ (l : EntryList). 0 < l.room) (sym c.self.view_is) c.requires.room in
    let block : length c.append-2.new.items.items ≡ 64 * length c.self.inside.marks.items + 64 = omega (arith, entries, briefs, h.each, h.full, h.unfilled, c.len.ensures, c.if-len-eq0.true) in
    record {
      each = omega (arith, entries, briefs, h.each);
      noted = omega (arith, notes, briefs, h.noted);
      held = subst (λ ms. AreHeld ms (record { sent = c.last_sent-self-inside.result; whole = c.len-then-len-eq0.result }) c.keep-kept.new.wholes.items 0 c.append-2.new.items.items)
          (sym c.append-then-len-eq0.ensures.items)
          (subst (λ bs. AreHeld (c.self.inside.marks.items ++ c.self.inside.mark ∷ []) (record { sent = c.last_sent-self-inside.result; whole = c.len-then-len-eq0.result }) c.keep-kept.new.wholes.items 0 bs)
          (sym c.append-2.ensures.items)
          (full_held c.self.inside.marks.items c.self.inside.mark (record { sent = c.last_sent-self-inside.result; whole = c.len-then-len-eq0.result }) c.self.inside.wholes.items c.keep-kept.new.wholes.items
          c.self.inside.briefs.items c.keep-kept.result.brief h.full h.unfilled c.keep-kept.ensures.more h.held c.keep-kept.ensures.held));
      full = omega (arith, briefs, marks, block);
      unfilled = omega (arith, briefs, marks, h.unfilled);
      since = omega (arith, c.len-then-len-eq0.ensures);
      few = omega (arith, c.len-then-len-eq0.ensures, briefs, marks, block);
      entry_room = omega (arith, entries, c.append.ensures.capacity, h.entry_room, room, least);
      brief_room = omega (arith, briefs, c.append-2.ensures.capacity, h.brief_room, room, least);
      whole_room = omega (arith, c.keep-kept.ensures.more.most, c.keep-kept.ensures.capacity, h.whole_room, room, least);
      mark_room = omega (arith, briefs, c.append-then-len-eq0.ensures.capacity, h.mark_room, room, least);
      note_room = c.enter-self-inside.ensures.room;
    }

pub invariant_of-self-else-len-eq0 : goal.invariant_of-self-else-len-eq0
invariant_of-self-else-len-eq0 c =
    let h = c.self.invariant in
    let entries = ap length c.append.ensures.items ∙ length-append c.self.inside.entries.items (c.args.entry.now ∷ []) in
    let briefs = ap length c.append-2.ensures.items ∙ length-append c.self.inside.briefs.items (c.keep-kept.result.brief ∷ []) in
    let notes = ap length c.enter-self-inside.ensures.notes ∙ length-append c.self.inside.notes.notes _ in
    let least = c.enter-self-inside.ensures.least in
    let room : 0 < c.self.inside.room = subst (λ (l : EntryList). 0 < l.room) (sym c.self.view_is) c.requires.room in
    record {
      each = omega (arith, entries, briefs, h.each);
      noted = omega (arith, notes, briefs, h.noted);
      held = subst (λ bs. AreHeld c.self.inside.marks.items c.self.inside.mark c.keep-kept.new.wholes.items 0 bs) (sym c.append-2.ensures.items)
          (pushed_held c.self.inside.marks.items c.self.inside.mark c.self.inside.wholes.items c.keep-kept.new.wholes.items c.self.inside.briefs.items c.keep-kept.result.brief
          h.full c.keep-kept.ensures.more h.held c.keep-kept.ensures.held);
      full = omega (arith, briefs, h.full);
      unfilled = omega (arith, entries, briefs, h.each, h.unfilled, c.len.ensures, c.if-len-eq0.false);
      since = omega (arith, h.since, c.keep-kept.ensures.more.least);
      few = omega (arith, h.few, briefs, c.keep-kept.ensures.more.most);
      entry_room = omega (arith, entries, c.append.ensures.capacity, h.entry_room, room, least);
      brief_room = omega (arith, briefs, c.append-2.ensures.capacity, h.brief_room, room, least);
      whole_room = omega (arith, c.keep-kept.ensures.more.most, c.keep-kept.ensures.capacity, h.whole_room, room, least);
      mark_room = omega (arith, briefs, h.mark_room, room, least);
      note_room = c.enter-self-inside.ensures.room;
    }

pub enter-self-inside-requires-clause-few : goal.enter-self-inside-requires-clause-few
enter-self-inside-requires-clause-few c =
    let j = c.self.inside in
    let few = subst (λ (l : EntryList). length l.notes < 2 ^ 32) (sym c.self.view_is) c.requires.few in
    omega (arith, few, length_joined (all_by fact_told j.marks.items j.mark j.wholes.items 0 j.entries.items j.briefs.items) j.notes.notes)

pub returns-then-len-eq0-clause-notes : goal.returns-then-len-eq0-clause-notes
returns-then-len-eq0-clause-notes c =
    let j = c.self.inside in
    let h = c.self.invariant in
    let k = c.keep-kept in
    let n = note_noticed c.args.noticed.now c.args.reply.now in
    let next : Mark = record { sent = c.last_sent-self-inside.result; whole = c.len-then-len-eq0.result } in
    rw (c.append-then-len-eq0.ensures.items, c.append.ensures.items, c.append-2.ensures.items, c.enter-self-inside.ensures.notes, ← c.self.view_is)
    (full_notes j.marks.items j.mark next j.wholes.items k.new.wholes.items j.entries.items j.briefs.items j.notes.notes c.args.entry.now k.result.brief k.result.tells_fact n
    h.each h.noted h.full h.unfilled k.ensures.more h.held (λ t. k.ensures.fact t c.args.entry.now c.requires.told) (λ t. k.ensures.no_fact t c.args.entry.now))

pub returns-else-len-eq0-clause-notes : goal.returns-else-len-eq0-clause-notes
returns-else-len-eq0-clause-notes c =
    let j = c.self.inside in
    let h = c.self.invariant in
    let k = c.keep-kept in
    let n = note_noticed c.args.noticed.now c.args.reply.now in
    rw (c.append.ensures.items, c.append-2.ensures.items, c.enter-self-inside.ensures.notes, ← c.self.view_is)
    (pushed_notes j.marks.items j.mark j.wholes.items k.new.wholes.items j.entries.items j.briefs.items j.notes.notes c.args.entry.now k.result.brief k.result.tells_fact n
    h.each h.noted h.full k.ensures.more h.held (λ t. k.ensures.fact t c.args.entry.now c.requires.told) (λ t. k.ensures.no_fact t c.args.entry.now))
