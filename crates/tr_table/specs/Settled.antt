-- Which groups have to be looked at: their stops may be complete, or they may have something to tell the starter.
use Rattle.std.specs.Prelude.{◌≡◌, ◌==◌, ◌&&◌, ◌||◌, ℕ, List, Bool, false, filter, if◌then◌else◌, is_some, map, not, ⊤}
use Rattle.std.specs.List.{list_any}
use Rattle.tr_group.specs.GroupStops.{is_stopping}
use Rattle.tr_tracee.specs.declared.thread.Thread.{Thread}
use Rattle.tr_tracee.specs.Threads.{in_group, is_traced}
use Rattle.tr_model.specs.declared.rows.Group.{Group}
use Rattle.tr_model.specs.Journals.{occurs}
use Rattle.tr_model.specs.Tables.{group_in, stop_of}
use Rattle.tr_index.specs.Places.{place_in}
use Rattle.tr_threads.specs.Waits.{is_untraced_death}
use Rattle.tr_table.specs.declared.unsettled.Unsettled.{Unsettled}
use Rattle.tr_table.specs.declared.unsettled.Unsettled.TheVariants.{Anywhere, In, Nowhere}

-- some thread of the group has a stop mark
abbrev pub has_mark : List Thread → ℕ → Bool
has_mark ts g = list_any (λ t. t.stop_mark) (filter (in_group g) ts)

-- the group's stop is under way, and no thread of it has a stop mark
abbrev pub can_complete : List Thread → List Group → ℕ → Bool
can_complete ts xs g = is_stopping (stop_of (group_in xs g)) && not (has_mark ts g)

-- the leader of the group died, and its death is the starter's to be told
abbrev pub leader_died : List Thread → ℕ → Bool
leader_died ts g = list_any (λ t. t.id == g && is_untraced_death t) (filter (in_group g) ts)

-- the group has something to tell the starter: a note while nobody traces a thread of it, or its leader's death
abbrev pub tells : List Thread → Group → Bool
tells ts x = is_some x.note && not (list_any is_traced (filter (in_group x.tgid) ts)) || leader_died ts x.tgid

-- the same of the group with an id
abbrev pub tells_of : List Thread → List Group → ℕ → Bool
tells_of ts xs g = list_any (tells ts) (filter (λ x. x.tgid == g) xs)

-- the place of the group is one of these
abbrev pub is_listed : List Group → List ℕ → ℕ → Bool
is_listed xs places g = not (occurs (place_in g (map (λ x. x.tgid) xs)) places == 0)

-- the group's stop can be complete, or it has something to tell and isn't among those that are listed for that
abbrev pub is_open : List Thread → List Group → (ℕ → Bool) → ℕ → Bool
is_open ts xs listed g = can_complete ts xs g || tells_of ts xs g && not (listed g)

-- the same of one group, which is listed or isn't
abbrev pub is_open_row : List Thread → Bool → Group → Bool
is_open_row ts listed x = is_stopping x.group_stop && not (has_mark ts x.tgid) || tells ts x && not listed

-- no other group is open
abbrev pub NoneBut : Unsettled → List Thread → List Group → (ℕ → Bool) → Type 0
NoneBut Nowhere ts xs listed = (g : ℕ) → is_open ts xs listed g ≡ false
NoneBut (In n) ts xs listed = (g : ℕ) → (n ≡ g → ⊥) → is_open ts xs listed g ≡ false
NoneBut Anywhere ts xs listed = ⊤

-- no stop of another group can be complete
abbrev pub NoStopBut : Unsettled → List Thread → List Group → Type 0
NoStopBut Nowhere ts xs = (g : ℕ) → can_complete ts xs g ≡ false
NoStopBut (In n) ts xs = (g : ℕ) → (n ≡ g → ⊥) → can_complete ts xs g ≡ false
NoStopBut Anywhere ts xs = ⊤

-- something happened to the group
abbrev pub touched : ℕ → Unsettled → Unsettled
touched g Nowhere = In g
touched g (In n) = if n == g then In n else Anywhere
touched g Anywhere = Anywhere
