use Rattle.std.proofs.Common.{rules, ◌≡◌, ◌∙◌, ◌==◌, ◌&&◌, Bool, ap, false, sym, true}
use Rattle.tr_threads.specs.Waits.{is_untraced_death}
use Rattle.tr_table.proofs.Telling.{deathless, is_dead_leader, leader_is}
use Rattle.tr_table.proofs.unsettled.leader_died.Goals as goal

pub returns-then-not-has_untraced_deaths : goal.returns-then-not-has_untraced_deaths
returns-then-not-has_untraced_deaths c = sym (deathless c.args.tgid c.args.threads.now (sym c.has_untraced_deaths.ensures ∙ c.if-not-has_untraced_deaths.true))

pub returns-then-leader-tgid : goal.returns-then-leader-tgid
returns-then-leader-tgid c =
    let g = c.args.tgid in
    let t = c.in-Some.leader.now in
    let leads : (t.group == g) ≡ true = search rules in
    c.is_untraced_death.ensures ∙ (sym (ap (λ (b : Bool). b && is_untraced_death t) leads) ∙ (ap (is_dead_leader g) c.in-Some.ensures ∙ leader_is g c.args.threads.now (c.requires g)))

pub returns-else-leader-tgid : goal.returns-else-leader-tgid
returns-else-leader-tgid c =
    let g = c.args.tgid in
    let t = c.in-Some.leader.now in
    let elsewhere : (t.group == g) ≡ false = search rules in
    elsewhere ∙ (sym (ap (λ (b : Bool). b && is_untraced_death t) elsewhere) ∙ (ap (is_dead_leader g) c.in-Some.ensures ∙ leader_is g c.args.threads.now (c.requires g)))

pub returns-in-None : goal.returns-in-None
returns-in-None c = let g = c.args.tgid in ap (is_dead_leader g) c.in-None.ensures ∙ leader_is g c.args.threads.now (c.requires g)
