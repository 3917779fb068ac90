use Rattle.std.proofs.Common.{◌≡◌, false, None, sym, ap, ◌∙◌, rules}
use Rattle.std.specs.Prelude.{replicate}
use Rattle.wq_cert.proofs.NotedLemmas.{AreNoted-none}
use Rattle.wq_cert.proofs.noted_workqueues.NotedWorkqueues.none.Goals as goal

pub returns : goal.returns
returns g c =
    let stood : c.in_ok-stood.stood.items ≡ replicate c.from.result false = c.in_ok-stood.ensures.items_if_clones_equal (λ y e. search rules) in
    let lanes : c.in_ok-lane_of_group.lane_of_group.items ≡ replicate c.from-2.result None = c.in_ok-lane_of_group.ensures.items_if_clones_equal (λ y e. search rules) in
    AreNoted-none c.args.groups.now c.from.result c.in_ok-stood.stood.items c.in_ok-lane_of_group.lane_of_group.items (c.requires ∙ sym c.from.ensures) stood
    (lanes ∙ ap (λ n. replicate n None) (c.from-2.ensures ∙ c.len.ensures.len))
