use Rattle.std.proofs.Common.{◌≤◌, ◌∙◌, ap, codes, get_or, length, map, sym}
use Rattle.std.proofs.lemmas.List.{get_or-map, get_or_past, length-map}
use Rattle.tr_figures.proofs.lives.signal_name.Goals as goal

pub returns-in-Some : goal.returns-in-Some
returns-in-Some c =
    let at = c.in-Some.ensures.lookup.3 in
    ap (λ n. n.now) (at.1 c.in-Some.name.now)
    ∙ (sym (get_or-map (λ n. n.now) c.signal_names.result.now c.args.sig c.in-Some.name.now (codes "no signal") at.0) ∙ ap (λ ns. get_or ns c.args.sig (codes "no signal")) c.signal_names.ensures)

pub returns-in-None : goal.returns-in-None
returns-in-None c =
    let names = c.signal_names.result.now in
    let past : length (map (λ n. n.now) names) ≤ c.args.sig = rw (length-map names (λ n. n.now)) c.in-None.ensures.lookup.3 in
    sym (get_or_past (map (λ n. n.now) names) c.args.sig (codes "no signal") past) ∙ ap (λ ns. get_or ns c.args.sig (codes "no signal")) c.signal_names.ensures
