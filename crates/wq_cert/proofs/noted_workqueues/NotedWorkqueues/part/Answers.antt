use Rattle.std.proofs.Common.{length, ap, ◌∙◌, arith}
use Rattle.std.specs.List.{concat}
use Rattle.std.proofs.lemmas.List.Sums.{count_by-le-length}
use Rattle.wq_fixed.specs.Fixed.{has_none}
use Rattle.wq_cert.proofs.LaneLemmas.{length-lanes_with}
use Rattle.wq_cert.proofs.StoodLemmas.{length-marks}
use Rattle.wq_cert.proofs.noted_workqueues.NotedWorkqueues.part.Goals as goal

pub are_whole-requires-clause-items : goal.are_whole-requires-clause-items
are_whole-requires-clause-items g c =
    ap length c.as_slice.ensures.value ∙ ap length c.requires.1.items
    ∙ length-marks (length c.args.groups.now.group_of) (concat c.requires.0)

pub are_whole-requires-clause-groups : goal.are_whole-requires-clause-groups
are_whole-requires-clause-groups g c =
    ap length c.as_slice-2.ensures.value ∙ ap length c.requires.1.groups
    ∙ length-lanes_with c.args.groups.now c.requires.0

pub count_without-free-requires : goal.count_without-free-requires
count_without-free-requires g c =
    let long = ap length c.as_slice-3.ensures.value ∙ ap length c.requires.1.groups
    ∙ length-lanes_with c.args.groups.now c.requires.0 in
    omega (arith, long, c.len-groups.ensures.len, c.len-groups.ensures.few)

pub overflow_add-from : goal.overflow_add-from
overflow_add-from g c =
    let long = ap length c.as_slice-3.ensures.value ∙ ap length c.requires.1.groups
    ∙ length-lanes_with c.args.groups.now c.requires.0 in
    omega (
      arith,
      long,
      c.len-groups.ensures.len,
      c.len-groups.ensures.few,
      c.from.ensures,
      c.requires.1.few,
      c.count_without-free.ensures,
      count_by-le-length has_none c.as_slice-3.result.now,
    )
