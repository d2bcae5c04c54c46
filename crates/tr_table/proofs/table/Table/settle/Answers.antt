use Rattle.std.proofs.Common.{◌∙◌, ◌&&◌, ◌||◌, Bool, ap, not, sym}
use Rattle.tr_table.specs.Settled.{has_mark, is_listed, tells_of}
use Rattle.tr_table.proofs.Settling.{none_in}
use Rattle.tr_table.proofs.Telling.{untold}
use Rattle.tr_table.proofs.table.Table.settle.Goals as goal

pub invariant_of-self : goal.invariant_of-self
invariant_of-self c =
    let ts = c.self.inside.threads in
    let xs = c.self.inside.groups in
    let listed = is_listed xs c.self.inside.telling.numbers in
    let stops = none_in xs (sym c.stopping.ensures ∙ c.if-stopping-eq0.true) in
    let told = untold ts xs (sym c.has_notes.ensures ∙ c.if-not-has_notes.true) (sym c.has_untraced_deaths.ensures ∙ c.if-not-has_untraced_deaths.true) in
    record {
      roster = c.self.invariant.roster;
      few = c.self.invariant.few;
      ordered = c.self.invariant.ordered;
      settled = λ g. ap (λ (b : Bool). b && not (has_mark ts g) || tells_of ts xs g && not (listed g)) (stops g) ∙ ap (λ (b : Bool). b && not (listed g)) (told g);
    }

pub returns-then-is_empty-clause-stops : goal.returns-then-is_empty-clause-stops
returns-then-is_empty-clause-stops c g =
    ap (λ (b : Bool). b && not (has_mark c.self.inside.threads g)) (none_in c.self.inside.groups (sym c.stopping.ensures ∙ c.if-stopping-eq0.true) g)
