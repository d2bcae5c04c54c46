-- What a step did beside what it ended, and the places of its lists.
use Rattle.std.specs.Prelude.{◌≡◌, ◌↔◌, ◌-◌, ◌≤◌, ℕ, IsTrue, List, [], Option, None, min, vec_capacity, vec_len}
use Rattle.tr_model.specs.declared.raises.Raise.{Raise}
use Rattle.tr_model.specs.declared.rows.Target.{Target}
use Rattle.tr_steps.specs.declared.news.News.TheInside.{Inside}

-- the reports that it raised, the groups whose death it began and those that a KILL was delivered to, the ids that it gave
-- to another thread, and whose queue a take took from
pub record News : Type 0 where
  pub raises : List Raise
  pub dying : List ℕ
  pub killed : List ℕ
  pub renamed : List ℕ
  pub taken_from : Option Target

-- nothing yet
abbrev pub no_news : News
no_news = record { raises = []; dying = []; killed = []; renamed = []; taken_from = None }

-- at most reports, and whose queue a take took from: no death began, no KILL was delivered, and no id was given away
pub record IsPlain (t : News) : Type 0 where
  pub dying : t.dying ≡ []
  pub killed : t.killed ≡ []
  pub renamed : t.renamed ≡ []

-- the same, and how much more each list has a place for
pub record NewsAndRoom : Type 0 where
  pub news : News
  pub room : ℕ

abbrev pub news_in : Inside → News
news_in t = record { raises = t.raises.items; dying = t.dying.items; killed = t.killed.items; renamed = t.renamed.items; taken_from = t.taken_from }

abbrev pub news_and_room : Inside → NewsAndRoom
news_and_room t = record {
  news = news_in t;
  room = min
      (min (vec_capacity t.raises - vec_len t.raises) (vec_capacity t.dying - vec_len t.dying))
      (min (vec_capacity t.killed - vec_len t.killed) (vec_capacity t.renamed - vec_len t.renamed));
}

-- so many places are in each list, and it is known whether it is plain
pub record IsKnown (t : Inside) : Type 0 where
  pub raises : t.places ≤ vec_capacity t.raises
  pub dying : t.places ≤ vec_capacity t.dying
  pub killed : t.places ≤ vec_capacity t.killed
  pub renamed : t.places ≤ vec_capacity t.renamed
  pub plain : IsTrue t.is_plain ↔ IsPlain (news_in t)
