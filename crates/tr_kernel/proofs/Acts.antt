-- What is due at a table alone has an admitted choice.
use Rattle.std.proofs.Common.{◌≡◌, ◌≤◌, ℕ, None, Ok, length, subst, sym, arith}
use Rattle.tr_model.specs.declared.checked.Checked.TheVariants.{Due}
use Rattle.tr_model.specs.declared.events.Event.{Event}
use Rattle.tr_model.specs.declared.events.Event.TheVariants.{CloneThread}
use Rattle.tr_model.specs.Causes.{cause_of}
use Rattle.tr_model.specs.Choices.{Choice}
use Rattle.tr_model.specs.Compare.{Permits}
use Rattle.tr_model.specs.Laws.{HasFreeId}
use Rattle.tr_model.specs.Preferred.{check, preferred}
use Rattle.tr_model.specs.Steps.{Admits}
use Rattle.tr_model.specs.Tables.{Table, thread_of}
use Rattle.tr_model.proofs.Admitted.{admitted_where_free}
use Rattle.tr_model.proofs.Bounds.{room_for}
use Rattle.tr_table.specs.Snapshots.{IsRestorable}
use Rattle.tr_kernel.proofs.Checks.{dues}

-- a clone that isn't refused finds fewer than 1,024 threads
free_for_clones : (T : Table) (a : ℕ) (e : Event) → length T.groups ≤ 1024 → cause_of T a e ≡ None → (id : ℕ) → e ≡ CloneThread id → HasFreeId T
free_for_clones T a e few c id is =
    let room = room_for T (thread_of T id) (subst (λ x. cause_of T a x ≡ None) is c) in
    omega (arith, few, room)

pub permits_where_due : (T : Table) (a : ℕ) (e : Event) (c : Choice) → IsRestorable T → check T a e ≡ Ok (Due c) → Permits T a e c
permits_where_due T a e c sound h =
    let z = dues T a e c h in
    let admitted : Admits T a e (preferred T a e) = admitted_where_free T a e (free_for_clones T a e sound.few z.no_cause) sound.roster.distinct sound.sorted z.no_cause z.not_quiet in
    record { no_cause = z.no_cause; not_quiet = z.not_quiet; admitted = subst (λ x. Admits T a e x) (sym z.preferred) admitted }
