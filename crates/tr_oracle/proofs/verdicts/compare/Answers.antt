use Rattle.std.proofs.Common.{◌+◌, drop, length, ◌≤◌, drop_of_length-le}
use Rattle.std.specs.Prelude.{Ok, Err}
use Rattle.tr_oracle.specs.declared.verdicts.Verdict.TheVariants.{Agrees, Differs}
use Rattle.tr_oracle.specs.Verdicts.{record_of, told_of}
use Rattle.tr_oracle.proofs.Finding.{found_all, found_next, found_other, found_withheld, next_told}
use Rattle.tr_oracle.proofs.verdicts.compare.Goals as goal

pub returns-in-Ok-false : goal.returns-in-Ok-false
returns-in-Ok-false c =
    let k = c.loop-place.place in
    let xs = c.args.answers.now in
    let x = c.index-answers-place.result in
    let i = rw (next_told xs k x c.index-answers-place.is c.loop-place-test.true) at c.loop-place.invariant in
    let h = rw c.in-Ok-false.field-0-test at c.in-Ok-false.ensures.heard in
    i (Ok (Differs k)) c.hear.new.self (found_other k c.loop-place.kernel c.hear.new.self (told_of x) (record_of (drop (k + 1) xs)) h.0 h.1)

pub returns-in-Err : goal.returns-in-Err
returns-in-Err c =
    let k = c.loop-place.place in
    let xs = c.args.answers.now in
    let x = c.index-answers-place.result in
    let i = rw (next_told xs k x c.index-answers-place.is c.loop-place-test.true) at c.loop-place.invariant in
    let h = c.in-Err.ensures.heard in
    i (Err (record { place = k; why = c.in-Err.why })) c.hear.new.self (found_withheld k c.loop-place.kernel c.hear.new.self (told_of x) (record_of (drop (k + 1) xs)) c.in-Err.why h.0 h.2 h.3)

pub loop-place-preserved : goal.loop-place-preserved
loop-place-preserved c =
    let k = c.loop-place.place in
    let xs = c.args.answers.now in
    let x = c.index-answers-place.result in
    let i = rw (next_told xs k x c.index-answers-place.is c.loop-place-test.true) at c.loop-place.invariant in
    let h = rw c.in-Ok-true.field-0-test at c.in-Ok-true.ensures.heard in
    λ r u f. i r u (found_next k c.loop-place.kernel c.hear.new.self (told_of x) (record_of (drop (k + 1) xs)) r u h.0 h.1 f)

pub returns : goal.returns
returns c =
    let past : length c.args.answers.now ≤ c.loop-place.place = c.loop-place-test.false in
    let i = rw (drop_of_length-le c.args.answers.now past) at c.loop-place.invariant in
    i (Ok Agrees) c.loop-place.kernel (found_all c.loop-place.place c.loop-place.kernel)
