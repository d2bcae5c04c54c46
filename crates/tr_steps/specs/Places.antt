-- How a step is seen, and the places that it has reserved.
use Rattle.std.specs.Prelude.{ℕ, ◌+◌, ◌≤◌, ◌<◌, ◌^◌, length, vec_len, vec_capacity}
use Rattle.tr_model.specs.Tables.{Table}
use Rattle.tr_threads.specs.Held.{held_count}
use Rattle.tr_steps.specs.UnderWay.{UnderWay}
use Rattle.tr_steps.specs.declared.steps.Step.TheInside.{Inside}

-- the lists are the model's log
abbrev pub seen : Inside → UnderWay
seen s = record {
  work = record { table = s.table.table; ended = s.ended.items; raises = s.news.news.raises; dying = s.news.news.dying; killed = s.news.news.killed; renamed = s.news.news.renamed };
  room = s.room;
  taken_from = s.news.news.taken_from;
}

-- n more signals and n more reports can be numbered
abbrev pub CanNumber : Table → ℕ → Type 0
CanNumber T n = (T.accepted + n < 2 ^ 64) × (T.raised + n < 2 ^ 64)

-- A place for each instance that can still end, and for the news of each move. What ends leaves a queue or a thread that held it,
-- so this stays as it is while instances end.
pub record Places (s : Inside) : Type 0 where
  pub ended : (vec_len s.ended + (length s.table.table.waiting + held_count s.table.table.threads)) + s.room ≤ vec_capacity s.ended
  pub news : s.room ≤ s.news.room
  pub waiting : s.room ≤ s.table.room
  pub accepted : s.table.table.accepted + s.room < 2 ^ 64
  pub raised : s.table.table.raised + s.room < 2 ^ 64

-- where a step is under way
abbrev pub HasPlaces : Inside → Type 0
HasPlaces s = 0 < s.room → Places s
