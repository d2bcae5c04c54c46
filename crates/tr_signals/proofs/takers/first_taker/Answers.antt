use Rattle.std.proofs.Common.{◌≡◌, ◌∙◌, ap, option_copied, sym}
use Rattle.std.specs.List.{position}
use Rattle.tr_model.specs.Tables.{members}
use Rattle.tr_model.specs.Takes.{can_take}
use Rattle.tr_table.specs.Rows.{RowsView}
use Rattle.tr_signals.proofs.Ready.{found_at, found_none, rows_of, scanned}
use Rattle.tr_signals.proofs.takers.first_taker.Goals as goal

pub first_ready-requires-clause-as_many_blocked : goal.first_ready-requires-clause-as_many_blocked
first_ready-requires-clause-as_many_blocked c =
    let rows : RowsView = record { own = c.args.own.now; blocked = c.args.blocked.now; runnable = c.args.runnable.now; shared = c.args.shared } in
    (rows_of c.args.table.now.table c.args.tgid rows c.requires.rows).blocked

pub first_ready-requires-clause-as_many_runnable : goal.first_ready-requires-clause-as_many_runnable
first_ready-requires-clause-as_many_runnable c =
    let rows : RowsView = record { own = c.args.own.now; blocked = c.args.blocked.now; runnable = c.args.runnable.now; shared = c.args.shared } in
    (rows_of c.args.table.now.table c.args.tgid rows c.requires.rows).runnable

pub returns-in_err-place : goal.returns-in_err-place
returns-in_err-place c =
    let T = c.args.table.now.table in
    let g = c.args.tgid in
    let rows : RowsView = record { own = c.args.own.now; blocked = c.args.blocked.now; runnable = c.args.runnable.now; shared = c.args.shared } in
    let e : c.first_ready.result ≡ position (can_take T) (members T g) = c.first_ready.ensures ∙ scanned T g rows c.requires.rows in
    ap option_copied c.from_residual.ensures ∙ sym (found_none (can_take T) (members T g) (sym e ∙ c.in_err-place.was))

pub returns : goal.returns
returns c =
    let T = c.args.table.now.table in
    let g = c.args.tgid in
    let rows : RowsView = record { own = c.args.own.now; blocked = c.args.blocked.now; runnable = c.args.runnable.now; shared = c.args.shared } in
    let e : c.first_ready.result ≡ position (can_take T) (members T g) = c.first_ready.ensures ∙ scanned T g rows c.requires.rows in
    c.member.ensures ∙ sym (found_at (can_take T) (members T g) c.in_ok-place.place (sym e ∙ c.in_ok-place.was)).1
