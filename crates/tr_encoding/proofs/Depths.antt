-- The scenario of calls nests no deeper than text may.
use Rattle.std.proofs.Common.{◌≡◌, ◌≤◌, ℕ, suc, max, List, [], ◌∷◌, Option, Some, None, Ordering, Less, Equal, Greater, codes, map, refl, arith}
use Rattle.std.specs.Ordering.{nat_cmp, match_ordering}
use Rattle.std.specs.Cmp.Lexicographic.{slice_cmp}
use Rattle.serde_json.specs.Data.{Data, null, boolean, number, string, array, object, Members, no_members, member, put, depth, items_depth, members_depth}
use Rattle.serde_json.specs.Find.{get, get_member}
use Rattle.serde_json.specs.Read.{max_depth}
use Rattle.serde_json.specs.View.{items_of}
use Rattle.tr_model.specs.declared.events.Event.{Event}
use Rattle.tr_model.specs.declared.events.Event.TheVariants as event
use Rattle.tr_model.specs.Runs.{Call}
use Rattle.tr_encoding.specs.Calls.{Field, call_data, fields, with_fields}
use Rattle.tr_encoding.specs.Scenarios.{keep, put_some, scenario_data}
use Rattle.tr_reading.specs.Kinds.{event_name}
use Rattle.tr_encoding.specs.Sets.{array_data, number_data, number_list, option_names, signals_of, text_list}

-- Members

chosen : (o : Ordering) (a b c : Members) (n : ℕ) → members_depth a ≤ n → members_depth b ≤ n → members_depth c ≤ n → members_depth (match_ordering o a b c) ≤ n
chosen Less a b c n p q r = p
chosen Equal a b c n p q r = q
chosen Greater a b c n p q r = r

put_depth : (k : List ℕ) (d : Data) (ms : Members) (n : ℕ) → depth d ≤ n → members_depth ms ≤ n → members_depth (put k d ms) ≤ n
put_depth k d no_members n p q = omega (arith, p)
put_depth k d (member l e ms) n p q =
    chosen _ (member k d (member l e ms)) (member l d ms) (member l e (put k d ms)) n (omega (arith, p, q)) (omega (arith, p, q)) (omega (arith, q, put_depth k d ms n p (omega (arith, q))))

found_at : (o : Ordering) (e v : Data) (ms : Members) (r : Option Data) → (r ≡ Some v → depth v ≤ members_depth ms) → match_ordering o r (Some e) r ≡ Some v → depth v ≤ max (depth e) (members_depth ms)
found_at Less e v ms r later h = omega (arith, later h)
found_at Equal e v ms r later h = let same : e ≡ v = cc in rw same (omega arith)
found_at Greater e v ms r later h = omega (arith, later h)

member_depth : (k : List ℕ) (ms : Members) (v : Data) → get_member k ms ≡ Some v → depth v ≤ members_depth ms
member_depth k no_members v h = cc
member_depth k (member l e ms) v h = found_at (slice_cmp nat_cmp k l) e v ms (get_member k ms) (member_depth k ms v) h

value_depth : (k : List ℕ) (d v : Data) (n : ℕ) → depth d ≤ suc n → get k d ≡ Some v → depth v ≤ n
value_depth k null v n p h = cc
value_depth k (boolean b) v n p h = cc
value_depth k (number x) v n p h = cc
value_depth k (string s) v n p h = cc
value_depth k (array ds) v n p h = cc
value_depth k (object ms) v n p h = omega (arith, p, member_depth k ms v h)

put_some_depth : (k : List ℕ) (o : Option Data) (ms : Members) (n : ℕ) → ((v : Data) → o ≡ Some v → depth v ≤ n) → members_depth ms ≤ n → members_depth (put_some k o ms) ≤ n
put_some_depth k None ms n p q = q
put_some_depth k (Some v) ms n p q = put_depth k v ms n (p v refl) q

keep_depth : (k : List ℕ) (d : Data) (ms : Members) (n : ℕ) → depth d ≤ suc n → members_depth ms ≤ n → members_depth (keep k d ms) ≤ n
keep_depth k d ms n p q = put_some_depth k (get k d) ms n (λ v h. value_depth k d v n p h) q

-- Calls

numbers_depth : (ns : List ℕ) → items_depth (items_of (number_list ns)) ≤ 0
numbers_depth [] = omega arith
numbers_depth (n ∷ ns) = omega (arith, numbers_depth ns)

texts_depth : (ts : List (List ℕ)) → items_depth (items_of (text_list ts)) ≤ 0
texts_depth [] = omega arith
texts_depth (t ∷ ts) = omega (arith, texts_depth ts)

abbrev AreShallow : List Field → Type 0
AreShallow [] = Unit {0}
AreShallow (f ∷ fs) = (depth f.1 ≤ 1) × AreShallow fs

fields_depth : (fs : List Field) (ms : Members) → AreShallow fs → members_depth ms ≤ 1 → members_depth (with_fields fs ms) ≤ 1
fields_depth [] ms all q = q
fields_depth (f ∷ fs) ms all q = fields_depth fs (put f.0 f.1 ms) all.1 (put_depth f.0 f.1 ms 1 all.0 q)

shallow : (e : Event) → AreShallow (fields e)
shallow (event.Kill g s) = (omega arith, (omega arith, tt))
shallow (event.Tgkill g id s) = (omega arith, (omega arith, (omega arith, tt)))
shallow (event.Sigqueue g s v) = (omega arith, (omega arith, (omega arith, tt)))
shallow (event.Mask id set) = (omega arith, (omega (arith, numbers_depth (signals_of set)), tt))
shallow (event.SetAction id s how) = (omega arith, (omega arith, (omega arith, tt)))
shallow (event.Pause id) = (omega arith, tt)
shallow (event.Take id) = (omega arith, tt)
shallow (event.TakeAny g) = (omega arith, tt)
shallow (event.Halt id) = (omega arith, tt)
shallow (event.Trap id) = (omega arith, tt)
shallow (event.Die id) = (omega arith, tt)
shallow (event.CloneThread id) = (omega arith, tt)
shallow (event.Exec id) = (omega arith, tt)
shallow (event.Finish id) = (omega arith, tt)
shallow (event.Exit id code) = (omega arith, (omega arith, tt))
shallow (event.ExitGroup id code) = (omega arith, (omega arith, tt))
shallow (event.Attach id) = (omega arith, tt)
shallow (event.Seize id o) = (omega arith, (omega (arith, texts_depth (option_names o)), tt))
shallow (event.Interrupt id) = (omega arith, tt)
shallow (event.Cont id s) = (omega arith, (omega arith, tt))
shallow (event.Listen id) = (omega arith, tt)
shallow (event.Detach id s) = (omega arith, (omega arith, tt))
shallow (event.SetOptions id o) = (omega arith, (omega (arith, texts_depth (option_names o)), tt))
shallow (event.EventMessage id) = (omega arith, tt)
shallow (event.SignalInfo id) = (omega arith, tt)
shallow event.TracerExit = tt
shallow (event.Wait which) = (omega arith, tt)
shallow (event.StarterWait which flags) = (omega arith, (omega arith, (omega arith, tt)))

call_depth : (c : Call) → depth (call_data c) ≤ 2
call_depth c = omega (
  arith,
  fields_depth (fields c.event) (put (codes "do") (string (event_name c.event)) (put (codes "actor") (number_data c.actor) no_members)) (shallow c.event)
      (put_depth (codes "do") (string (event_name c.event)) (put (codes "actor") (number_data c.actor) no_members) 1 (omega arith) (omega arith)),
)

calls_depth : (cs : List Call) → items_depth (items_of (map call_data cs)) ≤ 2
calls_depth [] = omega arith
calls_depth (c ∷ cs) = omega (arith, call_depth c, calls_depth cs)

-- The whole

pub scenario_depth : (d : Data) (cs : List Call) → depth d ≤ max_depth → depth (scenario_data d cs) ≤ max_depth
scenario_depth d cs p =
    let version = put (codes "version") (number_data 1) no_members in
    let limit = keep_depth (codes "limit") d version 126 p (omega arith) in
    let entries = keep_depth (codes "entries") d (keep (codes "limit") d version) 126 p limit in
    let groups = keep_depth (codes "groups") d (keep (codes "entries") d (keep (codes "limit") d version)) 126 p entries in
    omega (arith, put_depth (codes "steps") (array_data (map call_data cs)) (keep (codes "groups") d (keep (codes "entries") d (keep (codes "limit") d version))) 126 (omega (arith, calls_depth cs)) groups)
