use Rattle.std.proofs.Common.{◌+◌, ◌∙◌, List, Option, Some, ap, arith, drop, filter, if◌then◌else◌, sym}
use Rattle.tr_model.specs.declared.rows.Group.{Group}
use Rattle.tr_model.specs.StarterWaits.{group_with_note, shows_note}
use Rattle.tr_ends.proofs.Firsts.{note_first}
use Rattle.tr_ends.proofs.Passing.{at_end, at_next}
use Rattle.tr_ends.proofs.Untold.{note_passed}
use Rattle.tr_ends.proofs.starter_waits.note_among.Goals as goal

pub returns-then-has_note : goal.returns-then-has_note
returns-then-has_note c =
    let T = c.args.table.now.table in
    let n = c.args.number in
    let gs = c.args.groups.now in
    let x = c.index-groups-next.result in
    let rest = drop (c.in-Some.next + 1) gs in
    let first : List Group → Option Group = λ us. group_with_note (filter (shows_note T c.args.which c.args.flags) us) n in
    let given = note_first (shows_note T c.args.which c.args.flags) n x rest ∙ ap (λ b. if b then Some x else first rest) (sym c.if-has_note.ensures) in
    sym given ∙ at_next first T (note_passed T c.args.which c.args.flags n) gs c.loop-next.place c.in-Some.next x c.in-Some.ensures c.index-groups-next.is c.loop-next.invariant.2

pub loop-next-preserved : goal.loop-next-preserved
loop-next-preserved c =
    let T = c.args.table.now.table in
    let n = c.args.number in
    let gs = c.args.groups.now in
    let x = c.index-groups-next.result in
    let rest = drop (c.in-Some.next + 1) gs in
    let first : List Group → Option Group = λ us. group_with_note (filter (shows_note T c.args.which c.args.flags) us) n in
    let other = note_first (shows_note T c.args.which c.args.flags) n x rest ∙ ap (λ b. if b then Some x else first rest) (sym c.if-has_note.ensures) in
    (omega (arith, c.loop-next.invariant.0, c.in-Some.ensures.0), omega (arith, c.in-Some.ensures.1), sym other ∙ at_next first T (note_passed T c.args.which c.args.flags n) gs c.loop-next.place c.in-Some.next x c.in-Some.ensures c.index-groups-next.is c.loop-next.invariant.2)

pub returns : goal.returns
returns c =
    let T = c.args.table.now.table in
    let first : List Group → Option Group = λ us. group_with_note (filter (shows_note T c.args.which c.args.flags) us) c.args.number in
    at_end first T (note_passed T c.args.which c.args.flags c.args.number) c.args.groups.now c.loop-next.place c.loop-next.invariant.1 c.in_default.ensures c.loop-next.invariant.2
