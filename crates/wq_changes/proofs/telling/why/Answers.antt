use Rattle.std.proofs.Common.{◌≡◌, ℕ, List, length, map, sym, ap, subst, ◌∙◌}
use Rattle.std.specs.Prelude.{Option, option_map}
use Rattle.std.proofs.lemmas.List.FromFn.{length-map-range_with_len}
use Rattle.wq_groups.specs.Partition.{Partition}
use Rattle.wq_core.specs.Assigned.{Assigned}
use Rattle.wq_core.specs.Workqueues.{Workqueues}
use Rattle.wq_groups.specs.DeclaredGroups.{declared_waits, Declared}
use Rattle.wq_voice.specs.Reasons.{GivesReason, Lead}
use Rattle.wq_voice.specs.Waits.{words_of}
use Rattle.wq_voice.specs.declared.waits.Wording.TheVariants.{OnWorkqueues}
use Rattle.wq_changes.specs.Without.{lane_without, without_change}
use Rattle.wq_changes.specs.Words.{lead_of}
use Rattle.wq_changes.proofs.telling.why.Goals as goal

pub without_change-requires-clause-old : goal.without_change-requires-clause-old
without_change-requires-clause-old g c =
    ap (λ (ws : Workqueues). length ws.assignment.lane_of_group) c.workqueues.ensures.is
    ∙ c.workqueues.ensures.assigned.assignment.assignment.one_each
    ∙ sym (c.len-groups.ensures.len ∙ ap (λ (p : Partition). p.groups) c.groups.ensures.is)

pub without_change-requires-clause-new : goal.without_change-requires-clause-new
without_change-requires-clause-new g c =
    c.requires.new ∙ sym (c.len-groups.ensures.len ∙ ap (λ (p : Partition). p.groups) c.groups.ensures.is)

pub without_change-requires-clause-lanes : goal.without_change-requires-clause-lanes
without_change-requires-clause-lanes g c = rw c.workqueues.ensures.is c.requires.lanes

pub new-assigned-requires : goal.new-assigned-requires
new-assigned-requires g c =
    let new = c.args.repair.now.new.now in
    ap (λ (ws : Workqueues). length ws.assignment.lane_of_group) c.in_ok-workqueues.ensures
    ∙ length-map-range_with_len (lane_without c.workqueues.result.now new c.args.change.now) 0
    (length new.assignment.lane_of_group) ∙ c.requires.new
    ∙ sym (ap (λ (a : Assigned). a.declared.partition.groups) c.old.view_is)

pub returns : goal.returns
returns g c =
    let r = c.args.repair.now in
    let s : Declared = r.old.now.declared in
    let names = map (λ n. n.now) r.names.now in
    let said : Option (List ℕ) = option_map (λ v. v.items) c.in_ok-said.said in
    let first = r.declaration.file.now in
    let ws = c.in_ok-workqueues.workqueues in
    let without : ws ≡ without_change r.old.now.workqueues r.new.now c.args.change.now =
    c.in_ok-workqueues.ensures
    ∙ ap (λ (old : Workqueues). without_change old r.new.now c.args.change.now) c.workqueues.ensures.is in (
      said,
      c.or_nothing.ensures,
      subst (λ (ws : Workqueues). GivesReason first (lead_of c.args.change.now)
          (λ h. words_of OnWorkqueues s ws names h) (declared_waits s) ws said)
          without
          (subst (λ (lead : Lead). GivesReason first lead (λ h. words_of OnWorkqueues s ws names h) (declared_waits s)
          ws said)
          c.lead_of.ensures
          (subst (λ (a : Assigned). GivesReason first c.lead_of.result
          (λ h. words_of OnWorkqueues a.declared ws names h) (declared_waits a.declared) ws said) c.old.view_is
          (rw c.new-assigned.ensures at c.in_ok-said.ensures))),
    )
