use Rattle.std.proofs.Common.{inl, inr, rules}
use Rattle.tr_kernel.proofs.kernels.Kernel.step_checked.Goals as goal

pub returns-in-Entered : goal.returns-in-Entered
returns-in-Entered c =
    record {
      ok = inr (search rules);
      err = tt;
      unchanged = tt;
      cause = search rules;
      full = search rules;
      bounded = search rules;
      history = c.call_checked.ensures.history;
    }

pub returns-in-Read : goal.returns-in-Read
returns-in-Read c =
    record {
      ok = inl (search rules);
      err = tt;
      unchanged = tt;
      cause = search rules;
      full = search rules;
      bounded = search rules;
      history = c.call_checked.ensures.history;
    }

pub returns-in-Refused : goal.returns-in-Refused
returns-in-Refused c =
    record {
      ok = tt;
      err = search rules;
      unchanged = search rules;
      cause = search rules;
      full = search rules;
      bounded = search rules;
      history = c.call_checked.ensures.history;
    }
