use Rattle.std.proofs.Common.{◌≡◌, ◌∙◌, ◌++◌, ◌==◌, ◌∷◌, [], List, true, false, ap, append-nil, arith, filter, if◌then◌else◌, is_some, length, map, not, rules, sym}
use Rattle.std.proofs.lemmas.List.{length-append, length-map}
use Rattle.tr_model.proofs.Sorted.{up_to_less}
use Rattle.tr_model.specs.declared.fates.Fate.TheVariants.{Delivered}
use Rattle.tr_model.specs.declared.rows.Waiting.{Waiting}
use Rattle.tr_model.specs.Moves.{ending_of, instance_in, without_instance}
use Rattle.tr_queues.specs.Slots.{standing}
use Rattle.tr_table.proofs.Delivering.{delivered_left, delivered_one, delivery}
use Rattle.tr_queues.proofs.Standing.{standing_sorted}
use Rattle.tr_table.proofs.table.Table.deliver.Goals.{then-is_some, else-is_some}
use Rattle.tr_table.proofs.table.Table.deliver.Goals as goal

pub invariant_of-self : goal.invariant_of-self
invariant_of-self c = record { roster = c.self.invariant.roster; few = c.self.invariant.few; ordered = record { kept = c.remove.ensures.kept; numbered = rw c.remove.ensures.waiting (up_to_less _ _ _ c.self.invariant.ordered.numbered) }; settled = c.self.invariant.settled }

pub returns-clause-table : goal.returns-clause-table
returns-clause-table c =
    let ws : List Waiting = standing c.self.inside.pending.slots.items in
    let left : without_instance c.args.n ws ≡ filter (λ q. not (q.instance.n == c.args.n)) ws = delivered_left c.args.n ws (standing_sorted _ c.self.invariant.ordered.kept.sorted) in
    search (rules, left)

pub returns-clause-ended : goal.returns-clause-ended
returns-clause-ended c =
    let ws : List Waiting = standing c.self.inside.pending.slots.items in
    let one = delivered_one c.args.n ws (standing_sorted _ c.self.invariant.ordered.kept.sorted) in
    let all : c.if-is_some.ended.items ≡ c.args.ended.now.items ++ map (ending_of Delivered) (filter (λ q. q.instance.n == c.args.n) ws)
    = elim c.if-is_some.branch [
      | then-is_some w ↦
          let some : is_some (instance_in ws c.args.n) ≡ true = search rules in
          ap (λ v. v.items) w.ended-is ∙ (w.push_reserved.ensures.items ∙ sym (ap (λ vs. c.args.ended.now.items ++ vs) (one ∙ ap (λ b. if b then delivery c.args.n ∷ [] else []) some)))
      | else-is_some w ↦
          let none : is_some (instance_in ws c.args.n) ≡ false = search rules in
          ap (λ v. v.items) w.ended-is ∙ (sym (append-nil c.args.ended.now.items) ∙ sym (ap (λ vs. c.args.ended.now.items ++ vs) (one ∙ ap (λ b. if b then delivery c.args.n ∷ [] else []) none)))
    ] in
    all ∙ ap (λ v. c.args.ended.now.items ++ map (ending_of Delivered) (filter (λ q. q.instance.n == c.args.n) v.table.waiting)) c.self.view_is

pub returns-clause-len : goal.returns-clause-len
returns-clause-len c =
    let ends = filter (λ (q : Waiting). q.instance.n == c.args.n) c.args.self.now.table.waiting in
    let n = ap length (returns-clause-ended c) ∙ length-append c.args.ended.now.items (map (ending_of Delivered) ends) in
    let m = length-map ends (ending_of Delivered) in
    omega (arith, n, m, c.if-is_some.ended.ok.0, c.args.ended.now.ok.0)
