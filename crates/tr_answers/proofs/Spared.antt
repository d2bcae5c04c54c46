-- NotJson comes of the bytes alone: no reading of a record answers it.
use Rattle.std.proofs.Common.{◌≡◌, [], ◌∷◌, refl, true, Option, None, Some, codes}
use Rattle.serde_json.specs.Data.{Data}
use Rattle.serde_json.specs.Find.{as_str, get}
use Rattle.tr_reading.specs.Fields.{◌>>=◌}
use Rattle.tr_reading.proofs.Spared.{among, at_end, at_number, at_steps, bind, is_spared, last, of_start, of_whole, there}
use Rattle.tr_answers.specs.declared.records.Record.{Record}
use Rattle.tr_answers.specs.Records.{answer_in, answer_of, answered_of, asked, walk, whole_record}

in_answer : (o : Option Data) → is_spared (answer_in o) ≡ true
in_answer None = refl
in_answer (Some v) = last _ _ (there (as_str v))

of_answer : (d : Data) → is_spared (answer_of d) ≡ true
unfolding answer_of
of_answer d = in_answer (get (codes "answer") d)

of_answered : (d : Data) → is_spared (answered_of d) ≡ true
unfolding answered_of
of_answered d = bind _ _ (among _ d) (λ step. last _ _ (of_answer d))

of_walk : (d : Data) → is_spared (walk d) ≡ true
unfolding walk
of_walk d =
    bind _ _ (at_number _ _ _ d) (λ version. bind _ _ (of_start d) (λ start. bind _ _ (at_steps (codes "steps") answered_of of_answered d) (λ steps.
    at_end (codes "version" ∷ codes "limit" ∷ codes "entries" ∷ codes "groups" ∷ codes "steps" ∷ []) d (record { start = start; steps = steps }))))

of_whole_record : (r : Record) → is_spared (whole_record r) ≡ true
unfolding whole_record
of_whole_record r = last _ _ (of_whole (asked r))

pub of_record : (d : Data) → is_spared (walk d >>= whole_record) ≡ true
of_record d = bind (walk d) whole_record (of_walk d) of_whole_record
