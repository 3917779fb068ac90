use Rattle.std.proofs.Common.{◌≡◌, ◌<◌, ℕ, length, sym, ap, subst, ◌∙◌}
use Rattle.std.specs.List.{All, concat}
use Rattle.wq_cert.proofs.StoodLemmas.{length-marks}
use Rattle.wq_cert.proofs.LaneLemmas.{length-lanes_with}
use Rattle.wq_cert.proofs.NotedLemmas.{fresh_items-fresh, AreNoted-more}
use Rattle.wq_cert.proofs.noted_workqueues.NotedWorkqueues.with.Goals as goal

pub mark-requires : goal.mark-requires
mark-requires g c =
    let p = c.args.groups.now in
    let all : length c.args.self.stood.items ≡ length p.group_of = ap length c.requires.noted.1.items ∙ length-marks (length p.group_of) (concat c.requires.noted.0) in
    subst (λ (n : ℕ). All (λ i. i < n) c.args.items.now) (sym all) c.requires.items

pub settle-requires-clause-groups : goal.settle-requires-clause-groups
settle-requires-clause-groups g c = ap length c.requires.noted.1.groups ∙ length-lanes_with c.args.groups.now c.requires.noted.0

pub returns-clause-workqueues : goal.returns-clause-workqueues
returns-clause-workqueues g c = λ workqueues noted.
    let p = c.args.groups.now in
    let marked = c.in-Some.ensures (length p.group_of) (concat workqueues) noted.items in
    let settled = c.in-Some-settle.ensures workqueues (c.new-lane.ensures ∙ noted.number) noted.groups in (
      fresh_items-fresh p.group_of (concat workqueues) c.args.items.now c.args.line marked.0 settled.0,
      AreNoted-more p workqueues c.args.self.count c.args.self.stood.items c.in-Some.stood.items c.args.self.lane_of_group.items c.in-Some-settle.lane_of_group.items c.args.items.now c.requires.room noted marked.1 settled.1,
    )
