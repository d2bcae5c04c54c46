use Rattle.std.proofs.Common.{◌≡◌, ◌<◌, ◌∙◌, ℕ, List, arith, ap, filter, get_or, length}
use Rattle.std.proofs.lemmas.Grind.{get_or_default_zero}
use Rattle.tr_tracee.specs.declared.thread.Thread.{Thread}
use Rattle.tr_tracee.specs.Threads.{in_group}
use Rattle.tr_model.specs.Tables.{ids_of, thread_in}
use Rattle.tr_threads.proofs.ByIds.{member_found}
use Rattle.tr_threads.proofs.ThreadLists.{ids_length}
use Rattle.tr_threads.proofs.threads.Threads.member.Goals as goal

-- the group has as many threads as ids
as_many : (g : ℕ) (ts : List Thread) (ids : List ℕ) → ids ≡ ids_of (filter (in_group g) ts) → length ids ≡ length (filter (in_group g) ts)
as_many g ts ids e = ap (λ (ns : List ℕ). length ns) e ∙ ids_length (filter (in_group g) ts)

pub returns : goal.returns
returns c =
    let ts : List Thread = c.args.self.now in
    let g : ℕ = c.args.tgid in
    let i : ℕ = c.args.place in
    let ids : List ℕ = c.ids_in.result.now in
    let n : ℕ = c.in_ok-id.field-0.now in
    let within : i < length ids = c.in_ok-id.ensures.lookup.3.0 in
    let id : n ≡ get_or ids i 0 = c.in_ok-id.ensures.lookup.1 ∙ get_or_default_zero ids i n within in
    c.find.ensures ∙ (ap (thread_in ts) id ∙ (ap (λ (ns : List ℕ). thread_in ts (get_or ns i 0)) c.ids_in.ensures.ids ∙ member_found g i ts c.ids_in.ensures.once (omega (arith, within, as_many g ts ids c.ids_in.ensures.ids))))
