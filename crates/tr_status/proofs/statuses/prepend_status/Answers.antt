use Rattle.std.proofs.Common.{◌∙◌, ap}
use Rattle.tr_status.specs.declared.statuses.Front.{Front}
use Rattle.tr_status.specs.Shown.{front_pieces}
use Rattle.tr_status.specs.Texts.{before}
use Rattle.tr_status.proofs.Lines.{shown_is}
use Rattle.tr_status.proofs.statuses.prepend_status.Goals as goal

pub returns-clause-text : goal.returns-clause-text
returns-clause-text c =
    let t = c.args.thread.now in
    let m = c.masks_of.ensures in
    let v : Front = record { name = c.name_of.result; state = c.state_of.result; tgid = t.group; pid = t.id; tracer = c.tracer_number.result; threads = c.member_count.result; queued = c.queued.result; limit = c.limit.result } in
    let text = c.compose_front.ensures.text ∙ (ap (before (front_pieces v)) c.compose_masks.ensures.text ∙ shown_is v c.masks_of.result c.args.text.now.text) in
    rw (c.name_of.ensures.text, c.group.ensures, c.state_of.ensures.text, c.tracer_number.ensures, c.member_count.ensures, c.queued.ensures, c.limit.ensures, m.own, m.shared, m.blocked, m.ignored, m.caught) at text
