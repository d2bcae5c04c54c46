use Rattle.std.proofs.Common.{◌+◌, ◌&&◌, ◌∙◌, ℕ, List, Bool, Option, ap, arith, drop, flat_map, is_some, sym}
use Rattle.std.specs.Option.{option_or}
use Rattle.tr_wait.specs.Words.{asks_for}
use Rattle.tr_model.specs.declared.rows.Group.{Group}
use Rattle.tr_model.specs.StarterWaits.{ready_of_group}
use Rattle.tr_model.specs.Tables.{thread_of}
use Rattle.tr_ends.specs.Private.{first_number, led_among}
use Rattle.tr_ends.proofs.Firsts.{first_told}
use Rattle.tr_ends.proofs.Passing.{at_end, at_next}
use Rattle.tr_ends.proofs.Untold.{first_passed}
use Rattle.tr_ends.proofs.starter_waits.first_among.Goals as goal

pub returns-in-Some-ready_of_led : goal.returns-in-Some-ready_of_led
returns-in-Some-ready_of_led c =
    let T = c.args.table.now.table in
    let gs = c.args.groups.now in
    let x = c.index-groups-next.result in
    let rest = drop (c.in-Some.next + 1) gs in
    let led : Group → Bool = λ y. asks_for c.args.which y.tgid && is_some (thread_of T y.tgid) in
    let first : List Group → Option ℕ = λ us. first_number (flat_map (ready_of_group T c.args.flags) (led_among T c.args.which us)) in
    let told = first_told (ready_of_group T c.args.flags) led x rest ∙ ap (λ o. option_or o (first rest)) (sym c.in-Some-ready_of_led.ensures) in
    sym told ∙ at_next first T (first_passed T c.args.which c.args.flags) gs c.loop-next.place c.in-Some.next x c.in-Some.ensures c.index-groups-next.is c.loop-next.invariant.2

pub loop-next-preserved : goal.loop-next-preserved
loop-next-preserved c =
    let T = c.args.table.now.table in
    let gs = c.args.groups.now in
    let x = c.index-groups-next.result in
    let rest = drop (c.in-Some.next + 1) gs in
    let led : Group → Bool = λ y. asks_for c.args.which y.tgid && is_some (thread_of T y.tgid) in
    let first : List Group → Option ℕ = λ us. first_number (flat_map (ready_of_group T c.args.flags) (led_among T c.args.which us)) in
    let untold = first_told (ready_of_group T c.args.flags) led x rest ∙ ap (λ o. option_or o (first rest)) (sym c.in_default-ready_of_led.ensures) in
    (omega (arith, c.loop-next.invariant.0, c.in-Some.ensures.0), omega (arith, c.in-Some.ensures.1), sym untold ∙ at_next first T (first_passed T c.args.which c.args.flags) gs c.loop-next.place c.in-Some.next x c.in-Some.ensures c.index-groups-next.is c.loop-next.invariant.2)

pub returns : goal.returns
returns c =
    let T = c.args.table.now.table in
    let first : List Group → Option ℕ = λ us. first_number (flat_map (ready_of_group T c.args.flags) (led_among T c.args.which us)) in
    at_end first T (first_passed T c.args.which c.args.flags) c.args.groups.now c.loop-next.place c.loop-next.invariant.1 c.in_default.ensures c.loop-next.invariant.2
