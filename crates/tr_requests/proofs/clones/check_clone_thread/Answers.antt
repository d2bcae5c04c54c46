use Rattle.std.proofs.Common.{◌≡◌, ◌∙◌, Some, ap, sym}
use Rattle.std.specs.Prelude.{option_copied}
use Rattle.tr_model.specs.Tables.{thread_of}
use Rattle.tr_requests.proofs.Cloning.{due_with_id, none_script, refused_at_limit, refused_by_script}
use Rattle.tr_requests.proofs.clones.check_clone_thread.Goals as goal

pub returns-in-Some-script : goal.returns-in-Some-script
returns-in-Some-script c a =
    let T = c.args.table.now.table in
    let t = c.in-Some.thread.now in
    let e : thread_of T c.args.tid ≡ Some t = sym c.find.ensures.found ∙ ap option_copied c.in-Some.is in
    refused_by_script T a c.args.tid t c.in-Some-script.why e (sym c.script.ensures ∙ c.in-Some-script.is)

pub returns-then-is_at_limit : goal.returns-then-is_at_limit
returns-then-is_at_limit c a =
    let T = c.args.table.now.table in
    let t = c.in-Some.thread.now in
    let e : thread_of T c.args.tid ≡ Some t = sym c.find.ensures.found ∙ ap option_copied c.in-Some.is in
    refused_at_limit T a c.args.tid t e (sym c.script.ensures ∙ none_script c.script.result c.in_default-script.not-Some) (sym c.is_at_limit.ensures ∙ c.if-is_at_limit.true)

pub returns : goal.returns
returns c a =
    let T = c.args.table.now.table in
    let t = c.in-Some.thread.now in
    let e : thread_of T c.args.tid ≡ Some t = sym c.find.ensures.found ∙ ap option_copied c.in-Some.is in
    rw (c.of_new_id.ensures, c.free_id.ensures.free) (due_with_id T a c.args.tid t e (sym c.script.ensures ∙ none_script c.script.result c.in_default-script.not-Some) (sym c.is_at_limit.ensures ∙ c.if-is_at_limit.false))
