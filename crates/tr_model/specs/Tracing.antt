-- Tracing begins: ptrace(2).
use Rattle.std.specs.Prelude.{ℕ, pos, Bool, true, false}
use Rattle.tr_tracee.specs.declared.thread.Options.{Options}
use Rattle.tr_tracee.specs.declared.thread.Thread.{Thread}
use Rattle.tr_tracee.specs.Stops.{traced_by}
use Rattle.tr_tracee.specs.Threads.{at_thread, no_options}
use Rattle.tr_model.specs.declared.rows.Target.TheVariants as target
use Rattle.tr_model.specs.Sends.{info, send}
use Rattle.tr_model.specs.Stops.{show_stop}
use Rattle.tr_model.specs.Moves.{alter, Work}

-- the actor is the tracer, attached or seized, with these options; a thread that has a tracer keeps it
abbrev pub trace : ℕ → Bool → Options → Thread → Work → Work
trace a is_seized o t w = alter (at_thread t.id (traced_by (record { tracer = a; seized = is_seized; options = o }))) w

-- PTRACE_ATTACH sends SIGSTOP, with si_code SI_KERNEL
abbrev pub attach : ℕ → Thread → Work → Work
attach a t w = show_stop t (send 19 (info (pos 128) 0 (pos 0)) (target.Thread t.id) (trace a false no_options t w))

-- PTRACE_SEIZE sends nothing
abbrev pub seize : ℕ → Options → Thread → Work → Work
seize a o t w = show_stop t (trace a true o t w)
