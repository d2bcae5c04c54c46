use Rattle.std.proofs.Common.{◌≡◌, ◌==◌, ◌<◌, ◌≤◌, ◌∙◌, ℕ, List, Some, filter, length, get_or, remove, set, if◌then◌else◌, arith, ap, refl, subst, sym}
use Rattle.std.proofs.lemmas.Bool.{ne_eqb}
use Rattle.std.proofs.lemmas.List.{set-get_or, set-set}
use Rattle.tr_tracee.specs.declared.thread.Thread.{Thread}
use Rattle.tr_tracee.specs.Threads.{in_group}
use Rattle.tr_model.specs.Tables.{ids_of}
use Rattle.tr_model.specs.Moves.{renamed}
use Rattle.tr_threads.specs.Kept.{IsLeaderPlace, IsThreads}
use Rattle.tr_threads.specs.Rosters.{Counts, HasRow, rewritten, roster_in, roster_of, unless_empty, without}
use Rattle.tr_threads.proofs.ThreadLists.{ids_length, ids_removed, ids_written}
use Rattle.tr_threads.proofs.Rostering.{few_moved, has_row, is_counted, is_once, is_small, is_there, is_there_too, kept_gone, kept_moved, kept_written}
use Rattle.tr_threads.specs.Tracing.{HasPlaces, IsTracing}
use Rattle.tr_index.proofs.Indexing.{once_removed}
use Rattle.tr_threads.proofs.Tracings.{places_gone, places_written}
use Rattle.tr_threads.proofs.leader_rows.move_up.Goals as goal

pub remove-requires : goal.remove-requires
remove-requires c = omega (arith, c.requires.place, ap (λ (ns : List ℕ). length ns) c.requires.kept.indexed, ids_length c.args.list.now.items)

pub leader_place-requires : goal.leader_place-requires
leader_place-requires c =
    c.remove.ensures ∙ (ap (λ (ns : List ℕ). remove ns c.args.place) c.requires.kept.indexed ∙ (sym (ids_removed c.args.list.now.items c.args.place) ∙ ap ids_of (sym (c.deref-2.ensures.value ∙ c.remove-former.ensures.items))))

pub remove-requires-then-former-thread-clause-small : goal.remove-requires-then-former-thread-clause-small
remove-requires-then-former-thread-clause-small c = is_small c.args.list.now.items c.args.index.now c.args.rosters.now c.requires.kept c.args.thread.now.group

pub remove-requires-then-former-thread-clause-counts : goal.remove-requires-then-former-thread-clause-counts
remove-requires-then-former-thread-clause-counts c =
    subst (λ (t : Thread). Counts t (roster_in c.args.rosters.now t.group)) (sym c.requires.there) (is_counted c.args.list.now.items c.args.index.now c.args.rosters.now c.requires.kept c.args.place c.args.thread.now c.requires.place)

pub remove-requires-in-None-clause-small : goal.remove-requires-in-None-clause-small
remove-requires-in-None-clause-small c = is_small c.args.list.now.items c.args.index.now c.args.rosters.now c.requires.kept c.args.thread.now.group

pub remove-requires-in-None-clause-counts : goal.remove-requires-in-None-clause-counts
remove-requires-in-None-clause-counts c =
    subst (λ (t : Thread). Counts t (roster_in c.args.rosters.now t.group)) (sym c.requires.there) (is_counted c.args.list.now.items c.args.index.now c.args.rosters.now c.requires.kept c.args.place c.args.thread.now c.requires.place)

-- what is kept once the thread has gone
gone : (t : Thread) (ts us : List Thread) (ids ns : List ℕ) (rs rs1 : _) (i : ℕ) → IsThreads ts ids rs → i < length ts → t ≡ get_or ts i t → us ≡ remove ts i → ns ≡ remove ids i
    → ((g : ℕ) → roster_in rs1 g ≡ (if t.group == g then unless_empty (without t (roster_in rs g)) else roster_in rs g)) → IsThreads us ns rs1
gone t ts us ids ns rs rs1 i h k there e n q =
    let told = subst (λ (u : Thread). (g : ℕ) → roster_in rs1 g ≡ (if u.group == g then unless_empty (without u (roster_in rs g)) else roster_in rs g)) there q in
    rw e (kept_gone ts ids rs h ns rs1 i t k n told)

pub returns-in-None-clause-kept : goal.returns-in-None-clause-kept
returns-in-None-clause-kept c = gone c.args.thread.now c.args.list.now.items c.remove-former.new.self.items c.args.index.now c.remove.new.self c.args.rosters.now c.remove-in-None.new.self c.args.place c.requires.kept c.requires.place c.requires.there c.remove-former.ensures.items c.remove.ensures c.remove-in-None.ensures

pub rewrite-requires-then-former-thread-clause-there : goal.rewrite-requires-then-former-thread-clause-there
rewrite-requires-then-former-thread-clause-there c =
    let us = c.remove-former.new.self.items in
    let l = c.in-Some.leader in
    let kept = gone c.args.thread.now c.args.list.now.items us c.args.index.now c.remove.new.self c.args.rosters.now c.remove-then-former-thread.new.self c.args.place c.requires.kept c.requires.place c.requires.there c.remove-former.ensures.items c.remove.ensures c.remove-then-former-thread.ensures in
    let here : IsLeaderPlace c.args.thread.now us (Some l) = subst (λ (vs : List Thread). IsLeaderPlace c.args.thread.now vs (Some l)) c.deref-2.ensures.value c.in-Some.ensures in
    subst (λ (u : Thread). 0 < length (roster_in c.remove-then-former-thread.new.self u.group).ids) (sym c.index.ensures) (is_there us c.remove.new.self c.remove-then-former-thread.new.self kept l c.index.result.now here.0)

pub rewrite-requires-then-former-thread-clause-once : goal.rewrite-requires-then-former-thread-clause-once
rewrite-requires-then-former-thread-clause-once c =
    let us = c.remove-former.new.self.items in
    let kept = gone c.args.thread.now c.args.list.now.items us c.args.index.now c.remove.new.self c.args.rosters.now c.remove-then-former-thread.new.self c.args.place c.requires.kept c.requires.place c.requires.there c.remove-former.ensures.items c.remove.ensures c.remove-then-former-thread.ensures in
    is_once us c.remove.new.self c.remove-then-former-thread.new.self kept c.index.result.now.id c.index.result.now.group

pub rewrite-requires-then-former-thread-clause-row : goal.rewrite-requires-then-former-thread-clause-row
rewrite-requires-then-former-thread-clause-row c =
    let us = c.remove-former.new.self.items in
    let l = c.in-Some.leader in
    let kept = gone c.args.thread.now c.args.list.now.items us c.args.index.now c.remove.new.self c.args.rosters.now c.remove-then-former-thread.new.self c.args.place c.requires.kept c.requires.place c.requires.there c.remove-former.ensures.items c.remove.ensures c.remove-then-former-thread.ensures in
    let here : IsLeaderPlace c.args.thread.now us (Some l) = subst (λ (vs : List Thread). IsLeaderPlace c.args.thread.now vs (Some l)) c.deref-2.ensures.value c.in-Some.ensures in
    subst (λ (u : Thread). HasRow u (roster_in c.remove-then-former-thread.new.self u.group)) (sym c.index.ensures) (has_row us c.remove.new.self c.remove-then-former-thread.new.self kept l c.index.result.now here.0)

pub rewrite-requires-then-former-thread-clause-small : goal.rewrite-requires-then-former-thread-clause-small
rewrite-requires-then-former-thread-clause-small c =
    let us = c.remove-former.new.self.items in
    let kept = gone c.args.thread.now c.args.list.now.items us c.args.index.now c.remove.new.self c.args.rosters.now c.remove-then-former-thread.new.self c.args.place c.requires.kept c.requires.place c.requires.there c.remove-former.ensures.items c.remove.ensures c.remove-then-former-thread.ensures in
    is_small us c.remove.new.self c.remove-then-former-thread.new.self kept c.index.result.now.group

pub rewrite-requires-then-former-thread-clause-counts : goal.rewrite-requires-then-former-thread-clause-counts
rewrite-requires-then-former-thread-clause-counts c =
    let us = c.remove-former.new.self.items in
    let l = c.in-Some.leader in
    let kept = gone c.args.thread.now c.args.list.now.items us c.args.index.now c.remove.new.self c.args.rosters.now c.remove-then-former-thread.new.self c.args.place c.requires.kept c.requires.place c.requires.there c.remove-former.ensures.items c.remove.ensures c.remove-then-former-thread.ensures in
    let here : IsLeaderPlace c.args.thread.now us (Some l) = subst (λ (vs : List Thread). IsLeaderPlace c.args.thread.now vs (Some l)) c.deref-2.ensures.value c.in-Some.ensures in
    subst (λ (u : Thread). Counts u (roster_in c.remove-then-former-thread.new.self u.group)) (sym c.index.ensures) (is_counted us c.remove.new.self c.remove-then-former-thread.new.self kept l c.index.result.now here.0)

pub returns-then-former-thread-clause-kept : goal.returns-then-former-thread-clause-kept
returns-then-former-thread-clause-kept c =
    let t = c.args.thread.now in
    let us = c.remove-former.new.self.items in
    let l = c.in-Some.leader in
    let x = c.index.result.now in
    let y = renamed t.group t in
    let rs1 = c.remove-then-former-thread.new.self in
    let kept = gone t c.args.list.now.items us c.args.index.now c.remove.new.self c.args.rosters.now rs1 c.args.place c.requires.kept c.requires.place c.requires.there c.remove-former.ensures.items c.remove.ensures c.remove-then-former-thread.ensures in
    let here : IsLeaderPlace t us (Some l) = subst (λ (vs : List Thread). IsLeaderPlace t vs (Some l)) c.deref-2.ensures.value c.in-Some.ensures in
    let mine : y.group ≡ (get_or us l x).group = sym (ap (λ (u : Thread). u.group) (sym c.index.ensures) ∙ c.if-former-thread.true) in
    let told = subst (λ (u : Thread). (g : ℕ) → roster_in c.rewrite-then-former-thread.new.self g ≡ (if u.group == g then rewritten u y (roster_in rs1 g) else roster_in rs1 g)) c.index.ensures c.rewrite-then-former-thread.ensures in
    kept_written us c.remove.new.self rs1 kept c.rewrite-then-former-thread.new.self l x y here.0 (sym (here.1 x)) mine told

-- where the leader was of another group

few : (ts us vs ws : List Thread) (ids : List ℕ) (rs : _) (i l : ℕ) (t x y : Thread) → IsThreads ts ids rs → i < length ts → t ≡ get_or ts i t → us ≡ remove ts i → l < length us → y.group ≡ t.group → vs ≡ set us l y → ws ≡ vs → (g : ℕ) → length (filter (in_group g) ws) ≤ 64
few ts us vs ws ids rs i l t x y h k there e m same w v g =
    let within : l < length (remove ts i) = subst (λ (zs : List Thread). l < length zs) e m in
    let eq : ws ≡ set (remove ts i) l y = v ∙ (w ∙ ap (λ (zs : List Thread). set zs l y) e) in
    rw eq (few_moved ts ids rs h i t k l x y within (same ∙ ap (λ (u : Thread). u.group) there) g)

pub collect-requires : goal.collect-requires
collect-requires c =
    let t = c.args.thread.now in
    let us = c.remove-former.new.self.items in
    let l = c.in-Some.leader in
    let here : IsLeaderPlace t us (Some l) = subst (λ (vs : List Thread). IsLeaderPlace t vs (Some l)) c.deref-2.ensures.value c.in-Some.ensures in
    few c.args.list.now.items us (set us l (renamed t.group t)) c.deref-else-former-thread.result.now c.args.index.now c.args.rosters.now c.args.place l t c.index.result.now (renamed t.group t) c.requires.kept c.requires.place c.requires.there c.remove-former.ensures.items here.0 refl refl c.deref-else-former-thread.ensures.value t.group

pub set-requires : goal.set-requires
set-requires c =
    subst (λ (t : Thread). 0 < length (roster_in c.args.rosters.now t.group).ids) (sym c.requires.there) (is_there c.args.list.now.items c.args.index.now c.args.rosters.now c.requires.kept c.args.place c.args.thread.now c.requires.place)

pub collect-requires-else-former-thread : goal.collect-requires-else-former-thread
collect-requires-else-former-thread c =
    let t = c.args.thread.now in
    let us = c.remove-former.new.self.items in
    let l = c.in-Some.leader in
    let here : IsLeaderPlace t us (Some l) = subst (λ (vs : List Thread). IsLeaderPlace t vs (Some l)) c.deref-2.ensures.value c.in-Some.ensures in
    few c.args.list.now.items us (set us l (renamed t.group t)) c.deref-else-former-thread-2.result.now c.args.index.now c.args.rosters.now c.args.place l t c.index.result.now (renamed t.group t) c.requires.kept c.requires.place c.requires.there c.remove-former.ensures.items here.0 refl refl c.deref-else-former-thread-2.ensures.value c.index.result.now.group

there_too : (ts us : List Thread) (ids : List ℕ) (rs rs1 : _) (i l : ℕ) (t x : Thread) (r : _) → IsThreads ts ids rs → i < length ts → t ≡ get_or ts i t → us ≡ remove ts i → l < length us → x ≡ get_or us l x → (x.group ≡ t.group → ⊥)
    → ((g : ℕ) → roster_in rs1 g ≡ (if t.group == g then r else roster_in rs g)) → 0 < length (roster_in rs1 x.group).ids
there_too ts us ids rs rs1 i l t x r h k there e m a apart q =
    let within : l < length (remove ts i) = subst (λ (zs : List Thread). l < length zs) e m in
    let at : x ≡ get_or (remove ts i) l x = a ∙ ap (λ (zs : List Thread). get_or zs l x) e in
    let some : 0 < length (roster_in rs x.group).ids = subst (λ (u : Thread). 0 < length (roster_in rs u.group).ids) (sym at) (is_there_too ts ids rs h i t k l x (record t { id = t.id }) within (ap (λ (u : Thread). u.group) there)) in
    rw (q x.group ∙ ap (λ b. if b then r else roster_in rs x.group) (ne_eqb t.group x.group (λ f. apart (sym f)))) some

pub set-requires-else-former-thread : goal.set-requires-else-former-thread
set-requires-else-former-thread c =
    let t = c.args.thread.now in
    let us = c.remove-former.new.self.items in
    let l = c.in-Some.leader in
    let here : IsLeaderPlace t us (Some l) = subst (λ (vs : List Thread). IsLeaderPlace t vs (Some l)) c.deref-2.ensures.value c.in-Some.ensures in
    there_too c.args.list.now.items us c.args.index.now c.args.rosters.now c.set.new.self c.args.place l t c.index.result.now (unless_empty c.collect.result) c.requires.kept c.requires.place c.requires.there c.remove-former.ensures.items here.0 c.index.ensures c.if-former-thread.false c.set.ensures

-- both rosters are as collected
moved : (ts us : List Thread) (ids ns : List ℕ) (rs rs1 rs2 : _) (i l : ℕ) (t x y : Thread) (r s : _) → IsThreads ts ids rs → i < length ts → t ≡ get_or ts i t → us ≡ remove ts i → l < length us → x ≡ get_or us l x → y.group ≡ t.group → y.id ≡ (get_or us l x).id → ns ≡ remove ids i
    → r ≡ roster_of (filter (in_group t.group) (set us l y)) → s ≡ roster_of (filter (in_group x.group) (set us l y))
    → ((g : ℕ) → roster_in rs1 g ≡ (if t.group == g then unless_empty r else roster_in rs g)) → ((g : ℕ) → roster_in rs2 g ≡ (if x.group == g then unless_empty s else roster_in rs1 g)) → IsThreads (set us l y) ns rs2
moved ts us ids ns rs rs1 rs2 i l t x y r s h k there e m a same id n first second q p =
    let vs = remove ts i in
    let within : l < length vs = subst (λ (zs : List Thread). l < length zs) e m in
    let at : x ≡ get_or vs l x = a ∙ ap (λ (zs : List Thread). get_or zs l x) e in
    let id' : y.id ≡ (get_or vs l x).id = id ∙ ap (λ (zs : List Thread). (get_or zs l x).id) e in
    let r' : r ≡ roster_of (filter (in_group y.group) (set vs l y)) = first ∙ ((λ j. roster_of (filter (in_group (sym same j)) (set (e j) l y)))) in
    let s' : s ≡ roster_of (filter (in_group (get_or vs l x).group) (set vs l y)) = second ∙ ((λ j. roster_of (filter (in_group (at j).group) (set (e j) l y)))) in
    let told : (g : ℕ) → roster_in rs2 g ≡ (if (get_or vs l x).group == g then unless_empty (roster_of (filter (in_group (get_or vs l x).group) (set vs l y))) else (if y.group == g then unless_empty (roster_of (filter (in_group y.group) (set vs l y))) else roster_in rs g)) =
    λ g. p g ∙ ((λ j. if (at j).group == g then unless_empty (s' j) else q g j) ∙ (λ j. if (get_or vs l x).group == g then unless_empty (roster_of (filter (in_group (get_or vs l x).group) (set vs l y))) else (if sym same j == g then unless_empty (r' j) else roster_in rs g))) in
    rw e (kept_moved ts ids rs h i t k l x y within (same ∙ ap (λ (u : Thread). u.group) there) ns rs2 id' n told)

pub returns-else-former-thread-clause-kept : goal.returns-else-former-thread-clause-kept
returns-else-former-thread-clause-kept c =
    let t = c.args.thread.now in
    let us = c.remove-former.new.self.items in
    let l = c.in-Some.leader in
    let x = c.index.result.now in
    let y = renamed t.group t in
    let here : IsLeaderPlace t us (Some l) = subst (λ (vs : List Thread). IsLeaderPlace t vs (Some l)) c.deref-2.ensures.value c.in-Some.ensures in
    let r = c.collect.ensures ∙ ap (λ (vs : List Thread). roster_of (filter (in_group t.group) vs)) c.deref-else-former-thread.ensures.value in
    let s = c.collect-else-former-thread.ensures ∙ ap (λ (vs : List Thread). roster_of (filter (in_group x.group) vs)) c.deref-else-former-thread-2.ensures.value in
    moved c.args.list.now.items us c.args.index.now c.remove.new.self c.args.rosters.now c.set.new.self c.set-else-former-thread.new.self c.args.place l t x y c.collect.result c.collect-else-former-thread.result c.requires.kept c.requires.place c.requires.there c.remove-former.ensures.items here.0 c.index.ensures refl (sym (here.1 x)) c.remove.ensures r s c.set.ensures c.set-else-former-thread.ensures

pub rewrite-requires-clause-kept : goal.rewrite-requires-clause-kept
rewrite-requires-clause-kept c =
    let us = c.remove-former.new.self.items in
    let l = c.in-Some.leader in
    let x = c.index.result.now in
    let y = renamed c.args.thread.now.group c.args.thread.now in
    let back : set c.deref-in-Some.result.now l x ≡ us = ap (λ (zs : List Thread). set zs l x) c.deref-in-Some.ensures.value ∙ (set-set us l y x ∙ (ap (λ (z : Thread). set us l z) c.index.ensures ∙ set-get_or us l x)) in
    let left = subst (λ (zs : List Thread). IsTracing (remove zs c.args.place) c.forget.new.self) c.deref.ensures.value c.forget.ensures.kept in
    subst (λ (zs : List Thread). IsTracing zs c.forget.new.self) (sym (back ∙ c.remove-former.ensures.items)) left

pub rewrite-requires-clause-indexed : goal.rewrite-requires-clause-indexed
rewrite-requires-clause-indexed c =
    let t = c.args.thread.now in
    let us = c.remove-former.new.self.items in
    let l = c.in-Some.leader in
    let x = c.index.result.now in
    let y = renamed t.group t in
    let here : IsLeaderPlace t us (Some l) = subst (λ (vs : List Thread). IsLeaderPlace t vs (Some l)) c.deref-2.ensures.value c.in-Some.ensures in
    let left : c.remove.new.self ≡ ids_of us = c.remove.ensures ∙ (ap (λ (ns : List ℕ). remove ns c.args.place) c.requires.kept.indexed ∙ (sym (ids_removed c.args.list.now.items c.args.place) ∙ ap ids_of (sym c.remove-former.ensures.items))) in
    left ∙ sym (ap ids_of c.deref-in-Some.ensures.value ∙ ids_written us l x y (sym (here.1 x)) here.0)

pub rewrite-requires-clause-once : goal.rewrite-requires-clause-once
rewrite-requires-clause-once c n = rw c.remove.ensures (once_removed c.args.index.now c.args.place c.requires.kept.once n)

pub returns-then-former-thread-clause-places : goal.returns-then-former-thread-clause-places
returns-then-former-thread-clause-places c =
    let xs = c.args.list.now.items in
    let us = c.remove-former.new.self.items in
    let left : HasPlaces (length (remove xs c.args.place)) c.forget.new.self = places_gone xs c.args.place c.forget.new.self c.requires.place (c.forget.ensures.places (length xs) c.requires.places) in
    let still : HasPlaces (length us) c.forget.new.self = subst (λ (zs : List Thread). HasPlaces (length zs) c.forget.new.self) (sym c.remove-former.ensures.items) left in
    places_written us c.in-Some.leader (renamed c.args.thread.now.group c.args.thread.now) c.rewrite.new.self (c.rewrite.ensures.places (length us) still)

pub returns-else-former-thread-clause-places : goal.returns-else-former-thread-clause-places
returns-else-former-thread-clause-places c =
    let xs = c.args.list.now.items in
    let us = c.remove-former.new.self.items in
    let left : HasPlaces (length (remove xs c.args.place)) c.forget.new.self = places_gone xs c.args.place c.forget.new.self c.requires.place (c.forget.ensures.places (length xs) c.requires.places) in
    let still : HasPlaces (length us) c.forget.new.self = subst (λ (zs : List Thread). HasPlaces (length zs) c.forget.new.self) (sym c.remove-former.ensures.items) left in
    places_written us c.in-Some.leader (renamed c.args.thread.now.group c.args.thread.now) c.rewrite.new.self (c.rewrite.ensures.places (length us) still)
