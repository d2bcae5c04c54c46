-- The names of a good start fit their 15 bytes.
use Rattle.std.proofs.Common.{◌&&◌, List, [], ◌∷◌, length, nat_le, refl}
use Rattle.std.proofs.lemmas.Bool.{and_from, and_parts}
use Rattle.std.specs.Prelude.{IsTrue}
use Rattle.std.specs.List.{list_all}
use Rattle.tr_starts.specs.declared.starts.GroupStart.{GroupStart}
use Rattle.tr_starts.specs.declared.starts.Start.{Start}
use Rattle.tr_starts.specs.Starts.{ids_started, is_good, is_good_actions, is_good_group, is_good_id, is_good_name, is_name_byte, leads, name_fits, names_fit, no_repeat}

name_good : (g : GroupStart) → IsTrue (is_good_group g) → IsTrue (is_good_name g.name)
name_good g h = (and_parts (is_good_name g.name) (is_good_actions g.actions) (and_parts (nat_le (length g.threads) 64) (is_good_name g.name && is_good_actions g.actions) (and_parts (leads g.tgid g.threads) (nat_le (length g.threads) 64 && (is_good_name g.name && is_good_actions g.actions)) h).1).1).0

fits : (g : GroupStart) → IsTrue (is_good_group g) → IsTrue (name_fits g)
fits g h = (and_parts (name_fits g) (list_all is_name_byte g.name) (and_parts (nat_le 1 (length g.name)) (name_fits g && list_all is_name_byte g.name) (name_good g h)).1).0

each_fits : (gs : List GroupStart) → IsTrue (list_all is_good_group gs) → IsTrue (list_all name_fits gs)
each_fits [] h = refl
each_fits (g ∷ gs) h = and_from (name_fits g) (list_all name_fits gs) (fits g (and_parts (is_good_group g) (list_all is_good_group gs) h).0) (each_fits gs (and_parts (is_good_group g) (list_all is_good_group gs) h).1)

pub good_names_fit : (s : Start) → IsTrue (is_good s) → IsTrue (names_fit s)
good_names_fit s h = each_fits s.groups (and_parts (list_all is_good_group s.groups) (nat_le (length (ids_started s.groups)) 1024 && (list_all is_good_id (ids_started s.groups) && no_repeat (ids_started s.groups))) h).0
