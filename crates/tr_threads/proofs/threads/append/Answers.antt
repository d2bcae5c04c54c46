use Rattle.std.proofs.Common.{◌≡◌, ◌==◌, ◌++◌, ◌∷◌, [], ◌∙◌, ◌+◌, ℕ, List, Bool, false, true, is_ok, if◌then◌else◌, remove, filter, length, length-append, arith, ap, sym}
use Rattle.std.specs.List.{list_any}
use Rattle.tr_tracee.specs.declared.thread.Thread.{Thread}
use Rattle.tr_tracee.specs.Threads.{in_group}
use Rattle.tr_threads.proofs.ThreadLists.{ids_length, last_removed, no_id}
use Rattle.tr_threads.proofs.Rostering.{is_small, kept_added}
use Rattle.tr_threads.proofs.Tracings.{has_place}
use Rattle.tr_threads.proofs.threads.append.Goals as goal

pub push-requires : goal.push-requires
push-requires c = let id = c.args.thread.now.id in ap (λ (ns : List ℕ). list_any (λ (n : ℕ). n == id) ns) c.requires.kept.indexed ∙ no_id c.args.list.now.items id c.requires.new

pub push-requires-2-clause-room : goal.push-requires-2-clause-room
push-requires-2-clause-room c = let g = c.args.thread.now.group in rw (c.requires.kept.told g) (omega (arith, c.requires.room, ids_length (filter (in_group g) c.args.list.now.items)))

pub push-requires-2-clause-small : goal.push-requires-2-clause-small
push-requires-2-clause-small c = is_small c.args.list.now.items c.args.index.now c.args.rosters.now c.requires.kept c.args.thread.now.group

pub remove-requires : goal.remove-requires
remove-requires c =
    let xs = c.args.list.now.items in
    let id = c.args.thread.now.id in
    let n : length c.as_slice.result.now ≡ length xs = ap (λ (ts : List Thread). length ts) c.as_slice.ensures.value ∙ ap (λ (ts : List Thread). length ts) c.in_ok-reserve.ensures.items in
    omega (arith, n, ids_length xs, ap (λ (ns : List ℕ). length ns) c.requires.kept.indexed, ap (λ (ns : List ℕ). length ns) c.in_ok-push.ensures.ok, length-append c.args.index.now (id ∷ []))

pub returns-in-Err-clause-kept : goal.returns-in-Err-clause-kept
returns-in-Err-clause-kept c =
    let xs = c.args.list.now.items in
    let id = c.args.thread.now.id in
    let n : length c.as_slice.result.now ≡ length xs = ap (λ (ts : List Thread). length ts) c.as_slice.ensures.value ∙ ap (λ (ts : List Thread). length ts) c.in_ok-reserve.ensures.items in
    let m : length c.as_slice.result.now ≡ length c.args.index.now = n ∙ (sym (ids_length xs) ∙ ap (λ (ns : List ℕ). length ns) (sym c.requires.kept.indexed)) in
    let back : c.remove.new.self ≡ c.args.index.now = c.remove.ensures ∙ (ap (λ (ns : List ℕ). remove ns (length c.as_slice.result.now)) c.in_ok-push.ensures.ok ∙ last_removed c.args.index.now id (length c.as_slice.result.now) m) in
    rw (c.in_ok-reserve.ensures.items, back, c.in-Err.ensures.err) c.requires.kept

pub returns-clause-kept : goal.returns-clause-kept
returns-clause-kept c =
    let xs = c.args.list.now.items in
    let t = c.args.thread.now in
    let new : list_any (λ (n : ℕ). n == t.id) c.args.index.now ≡ false = ap (λ (ns : List ℕ). list_any (λ (n : ℕ). n == t.id) ns) c.requires.kept.indexed ∙ no_id xs t.id c.requires.new in
    let ok : is_ok c.extend_from_slice.result ≡ true = c.extend_from_slice.ensures.succeeds (omega (arith, c.in_ok-reserve.ensures.ok, c.from_ref.ensures.len)) in
    let items : c.extend_from_slice.new.self.items ≡ xs ++ t ∷ [] =
    c.extend_from_slice.ensures.items ∙ (ap (λ (b : Bool). if b then c.reserve.new.self.items ++ c.from_ref.result.now else c.reserve.new.self.items) ok ∙ (ap (λ (us : List Thread). us ++ c.from_ref.result.now) c.in_ok-reserve.ensures.items ∙ ap (λ (us : List Thread). xs ++ us) c.from_ref.ensures.value)) in
    rw items (kept_added xs c.args.index.now c.args.rosters.now c.requires.kept c.push.new.self c.push-2.new.self t c.in_ok-push.ensures.ok new c.requires.room c.in_default.ensures.ok)

pub add-requires : goal.add-requires
add-requires c =
    let xs = c.args.list.now.items in
    has_place xs c.grow.new.self (c.len.result + 1) (c.in_ok-grow.ensures.kept xs c.requires.traced) c.in_ok-grow.ensures.ok (omega (arith, c.len.ensures, c.in_ok-reserve.ensures.len))
