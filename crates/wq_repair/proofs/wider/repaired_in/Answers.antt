use Rattle.std.proofs.Common.{◌<◌, ℕ, Bool, List, length, ap, subst, ◌∙◌, arith}
use Rattle.wq_groups.specs.DeclaredGroups.{declared_waits}
use Rattle.wq_deadlock.specs.Judging.{AreSafe}
use Rattle.wq_repair.specs.Changes.{IsRescued, lane_in}
use Rattle.wq_repair.specs.Marks.{IsMarked}
use Rattle.wq_repair.specs.Ready.{Scope}
use Rattle.wq_repair.proofs.wider.repaired_in.Goals as goal

pub repaired-requires : goal.repaired-requires
repaired-requires g c =
    let s = c.args.scope.now in
    let begin = c.in_ok-begin.begin in
    let all : (k : ℕ) → k < length s.needed → IsMarked s.needed k → IsRescued begin (lane_in begin k) =
    subst (λ (xs : List Bool). (k : ℕ) → k < length xs → IsMarked xs k → IsRescued begin (lane_in begin k))
    (c.as_slice.ensures.value ∙ ap (λ (x : Scope). x.needed) c.scope.view_is)
    (c.all_rescued.ensures c.if-not-all_rescued.false) in
    let safe : AreSafe (declared_waits c.args.assigned.now.declared) begin =
    c.in_ok-others_are_safe.ensures c.if-not-branch.false in (
      c.requires.0,
      record {
        scope = c.requires.1;
        by = c.in_ok-begin.ensures;
        rescued = λ k below marked. all k (omega (arith, below, c.requires.1.one_each)) marked;
        safe = safe.safe;
      },
    )

pub returns : goal.returns
returns g c = λ names is.
    let s = c.args.scope.now in
    let begin = c.in_ok-begin.begin in
    let all : (k : ℕ) → k < length s.needed → IsMarked s.needed k → IsRescued begin (lane_in begin k) =
    subst (λ (xs : List Bool). (k : ℕ) → k < length xs → IsMarked xs k → IsRescued begin (lane_in begin k))
    (c.as_slice.ensures.value ∙ ap (λ (x : Scope). x.needed) c.scope.view_is)
    (c.all_rescued.ensures c.if-not-all_rescued.false) in
    let safe : AreSafe (declared_waits c.args.assigned.now.declared) begin =
    c.in_ok-others_are_safe.ensures c.if-not-branch.false in
    c.in_ok-new.ensures names (record {
      scope = is;
      by = c.in_ok-begin.ensures;
      rescued = λ k below marked. all k (omega (arith, below, is.one_each)) marked;
      safe = safe.safe;
    })
