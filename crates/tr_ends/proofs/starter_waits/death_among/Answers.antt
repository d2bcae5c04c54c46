use Rattle.std.proofs.Common.{◌+◌, ◌&&◌, ◌∙◌, List, Bool, Option, ap, arith, drop, if◌then◌else◌, is_some, sym}
use Rattle.tr_wait.specs.Words.{asks_for}
use Rattle.tr_tracee.specs.declared.thread.Thread.{Thread}
use Rattle.tr_model.specs.declared.rows.Group.{Group}
use Rattle.tr_model.specs.StarterWaits.{has_death, with_death}
use Rattle.tr_model.specs.Tables.{thread_of}
use Rattle.tr_ends.specs.Private.{led_among}
use Rattle.tr_ends.proofs.Firsts.{death_first}
use Rattle.tr_ends.proofs.Passing.{at_end, at_next}
use Rattle.tr_ends.proofs.Untold.{death_passed}
use Rattle.tr_ends.proofs.starter_waits.death_among.Goals as goal

pub returns-then-is_led_death : goal.returns-then-is_led_death
returns-then-is_led_death c =
    let T = c.args.table.now.table in
    let n = c.args.number in
    let gs = c.args.groups.now in
    let x = c.index-groups-next.result in
    let rest = drop (c.in-Some.next + 1) gs in
    let first : List Group → Option Thread = λ us. with_death T (led_among T c.args.which us) n in
    let test : Option Thread → Bool = λ o. (asks_for c.args.which x.tgid && is_some o) && has_death n o in
    let found = c.find-leader.ensures.found in
    let given = death_first T c.args.which n x rest ∙ ap (λ b. if b then thread_of T x.tgid else first rest) (ap test (sym found) ∙ sym c.if-is_led_death.ensures) in
    found ∙ (sym given ∙ at_next first T (death_passed T c.args.which n) gs c.loop-next.place c.in-Some.next x c.in-Some.ensures c.index-groups-next.is c.loop-next.invariant.2)

pub loop-next-preserved : goal.loop-next-preserved
loop-next-preserved c =
    let T = c.args.table.now.table in
    let n = c.args.number in
    let gs = c.args.groups.now in
    let x = c.index-groups-next.result in
    let rest = drop (c.in-Some.next + 1) gs in
    let first : List Group → Option Thread = λ us. with_death T (led_among T c.args.which us) n in
    let test : Option Thread → Bool = λ o. (asks_for c.args.which x.tgid && is_some o) && has_death n o in
    let other = death_first T c.args.which n x rest ∙ ap (λ b. if b then thread_of T x.tgid else first rest) (ap test (sym c.find-leader.ensures.found) ∙ sym c.if-is_led_death.ensures) in
    (omega (arith, c.loop-next.invariant.0, c.in-Some.ensures.0), omega (arith, c.in-Some.ensures.1), sym other ∙ at_next first T (death_passed T c.args.which n) gs c.loop-next.place c.in-Some.next x c.in-Some.ensures c.index-groups-next.is c.loop-next.invariant.2)

pub returns : goal.returns
returns c =
    let T = c.args.table.now.table in
    let first : List Group → Option Thread = λ us. with_death T (led_among T c.args.which us) c.args.number in
    at_end first T (death_passed T c.args.which c.args.number) c.args.groups.now c.loop-next.place c.loop-next.invariant.1 c.in_default.ensures c.loop-next.invariant.2
