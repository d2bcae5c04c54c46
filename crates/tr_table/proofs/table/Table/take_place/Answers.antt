use Rattle.std.proofs.Common.{◌≡◌, ◌∙◌, ◌++◌, ◌∷◌, ◌&&◌, [], List, Some, true, false, ap, eq-eqb, map, not, refl, remove, rules, subst, sym, true≢false}
use Rattle.tr_tracee.specs.declared.thread.Thread.{Thread}
use Rattle.tr_tracee.specs.Lives.{is_execing}
use Rattle.tr_tracee.specs.Threads.{is_leader}
use Rattle.tr_model.specs.Moves.{dropped, in_leaders_row}
use Rattle.tr_model.specs.Tables.{Table, group_of_thread, thread_in}
use Rattle.tr_model.proofs.Kept.{itself}
use Rattle.tr_model.proofs.Sorted.{up_to_retargeted}
use Rattle.tr_table.specs.Order.{IsRoster}
use Rattle.tr_table.specs.Settled.{NoneBut, is_listed, touched}
use Rattle.tr_queues.specs.Slots.{standing}
use Rattle.tr_table.specs.View.{View}
use Rattle.tr_table.proofs.Moving.{gone, not_placed, placed, there}
use Rattle.tr_table.proofs.Rosters.{roster_placed}
use Rattle.tr_table.proofs.Unsettling.{members_placed, moved_two_members}
use Rattle.tr_table.proofs.table.Table.take_place.Goals.{then-not-is_execing-via-then-not-is_execing, then-not-is_execing-via-else-not-is_execing+then-is_leader}
use Rattle.tr_table.proofs.table.Table.take_place.Goals as goal

pub returns-then-not-is_execing : goal.returns-then-not-is_execing
returns-then-not-is_execing c =
    let o = c.self.inside in
    let T : Table = record { threads = o.threads; groups = o.groups; waiting = standing o.pending.slots.items; accepted = o.accepted; raised = o.raised; limit = o.limit; entries = o.entries } in
    let v : T ≡ c.args.self.now.table = ap (λ (u : View). u.table) c.self.view_is in
    let x : Thread = c.at.result.now in
    let stays : (is_execing x.life && not (is_leader x)) ≡ false = elim c.then-not-is_execing.branch [
      | then-not-is_execing-via-then-not-is_execing w ↦ search rules
      | then-not-is_execing-via-else-not-is_execing+then-is_leader w ↦ search rules
    ] in
    record {
      work = λ w e. not_placed c.args.id c.in_ok-place.place T c.in_ok-place.ensures.place x (c.at.ensures x) w stays (e ∙ sym v) ∙ ap (λ (U : Table). record w { table = U; renamed = w.renamed ++ [] }) v;
      room = refl;
    }

pub invariant_of-self : goal.invariant_of-self
invariant_of-self c =
    let o = c.self.inside in
    let T : Table = record { threads = o.threads; groups = o.groups; waiting = standing o.pending.slots.items; accepted = o.accepted; raised = o.raised; limit = o.limit; entries = o.entries } in
    let x : Thread = c.at.result.now in
    let here = c.in_ok-place.ensures.place in
    let mine : thread_in o.threads x.id ≡ Some x = itself o.threads c.args.id x (there c.args.id c.in_ok-place.place T here x (c.at.ensures x)) in
    let roster : IsRoster (map (in_leaders_row x) (remove o.threads c.in_ok-place.place)) = subst (λ (ts : List Thread). IsRoster (map (in_leaders_row x) ts)) (gone c.args.id c.in_ok-place.place T here x (c.at.ensures x)) (roster_placed x o.threads mine c.self.invariant.roster) in
    let xs = o.groups in
    let former = group_of_thread (thread_in o.threads x.group) in
    let apart : x.id ≡ x.group → ⊥ = λ e. true≢false (sym (eq-eqb x.id x.group e) ∙ (sym c.is_leader.ensures ∙ c.if-is_leader.false)) in
    let moved : NoneBut (touched former (touched x.group o.unsettled)) (map (in_leaders_row x) (dropped x.id o.threads)) xs (is_listed xs o.telling.numbers) =
    moved_two_members _ x.group former o.unsettled o.threads _ xs (λ n ne other. members_placed x n o.threads c.self.invariant.roster mine apart ne other) c.self.invariant.settled in
    let settled : NoneBut (touched former (touched x.group o.unsettled)) (map (in_leaders_row x) (remove o.threads c.in_ok-place.place)) xs (is_listed xs o.telling.numbers) =
    subst (λ (ts : List Thread). NoneBut (touched former (touched x.group o.unsettled)) (map (in_leaders_row x) ts) xs (is_listed xs o.telling.numbers)) (gone c.args.id c.in_ok-place.place T here x (c.at.ensures x)) moved in
    rw c.take_place.ensures (record { roster = roster; few = c.self.invariant.few; ordered = record { kept = c.retarget.ensures.kept; numbered = rw c.retarget.ensures.waiting (up_to_retargeted _ _ _ _ c.self.invariant.ordered.numbered) }; settled = rw (c.touch-2.ensures, c.touch.ensures, c.owner_of.ensures) settled })

pub returns : goal.returns
returns c =
    let o = c.self.inside in
    let T : Table = record { threads = o.threads; groups = o.groups; waiting = standing o.pending.slots.items; accepted = o.accepted; raised = o.raised; limit = o.limit; entries = o.entries } in
    let v : T ≡ c.args.self.now.table = ap (λ (u : View). u.table) c.self.view_is in
    let x : Thread = c.at.result.now in
    let goes : (is_execing x.life && not (is_leader x)) ≡ true = search rules in
    record {
      work = λ w e.
          placed c.args.id c.in_ok-place.place T c.in_ok-place.ensures.place x (c.at.ensures x) w goes (e ∙ sym v)
          ∙ (λ j. record w { table = record T { threads = sym c.take_place.ensures j; waiting = sym c.retarget.ensures.waiting j }; renamed = w.renamed ++ x.group ∷ [] });
      room = c.retarget.ensures.room ∙ ap (λ (u : View). u.room) c.self.view_is;
    }
