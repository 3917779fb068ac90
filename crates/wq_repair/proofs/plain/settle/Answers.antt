use Rattle.std.proofs.Common.{◌≡◌, ℕ, ◌+◌, ◌≤◌, ◌++◌, Bool, List, length, sym, ap, subst, ◌∙◌, arith}
use Rattle.std.proofs.lemmas.Bool.{false≢true}
use Rattle.wq_groups.specs.Assignment.{Assignment}
use Rattle.wq_groups.specs.DeclaredGroups.{declared_waits}
use Rattle.wq_core.specs.Workqueues.{Workqueues}
use Rattle.wq_repair.specs.Ready.{Scope, IsTrial}
use Rattle.wq_repair.specs.Settled.{IsSettled}
use Rattle.wq_repair.proofs.Readied.{IsSettled-start}
use Rattle.wq_repair.proofs.Settling.{IsSettled-next}
use Rattle.wq_repair.proofs.plain.settle.Goals as goal

pub ranks_of_start-requires : goal.ranks_of_start-requires
ranks_of_start-requires g c = (c.args.old.now, c.requires.ready.0, c.args.scope.now, c.requires.ready.1)

pub loop-group-init : goal.loop-group-init
loop-group-init g c =
    let fixed : c.extend_from_slice.new.self.items ≡ c.args.fixed.now =
    c.in_ok-extend_from_slice.ensures.items ∙ ap
    (λ (xs : List Bool). xs ++ c.args.fixed.now) c.new-stays.ensures.items in
    let few : c.args.start.now.workqueues.assignment.lanes ≤ 4096 =
    omega (
      arith,
      c.workqueues_of-few.ensures.assignment.few,
      ap (λ (ws : Workqueues). ws.assignment.lanes) c.workqueues_of-few.ensures.is,
    ) in
    record {
      one_each = ap length fixed ∙ c.requires.fixed.one_each;
      settled = λ graph trial.
          subst (λ (xs : List Bool). IsSettled graph c.args.old.now.assignment c.args.fixed.now c.args.tried.now 0
          (record { stays = xs; ranks = c.in_ok-ranks.ranks.items })) (sym fixed)
          (IsSettled-start (declared_waits c.args.start.now.declared) c.args.old.now c.requires.ready.0
          c.args.scope.now c.args.start.now.workqueues
          c.workqueues_of-few.ensures.declaration c.requires.ready.1 graph trial.of few c.in_ok-ranks.ranks.items
          c.in_ok-ranks.ensures
          c.args.fixed.now c.args.tried.now c.requires.fixed);
    }

pub loop-group-preserved-then-not-is_tried : goal.loop-group-preserved-then-not-is_tried
loop-group-preserved-then-not-is_tried g c = record {
  one_each = c.loop-group.invariant.one_each;
  settled = λ graph trial.
      IsSettled-next graph c.args.old.now.assignment c.args.fixed.now c.args.tried.now c.loop-group.group
      c.loop-group.settled
      (c.loop-group.invariant.settled graph trial)
      (omega (arith, c.loop-group-test.true, c.requires.tried, trial.of.long))
      (λ marked. absurd (false≢true (sym c.if-not-is_tried.true ∙ marked)));
}

pub try_group-requires-clause-assigned : goal.try_group-requires-clause-assigned
try_group-requires-clause-assigned g c =
    ap (λ (a : Assignment). length a.lane_of_group) c.assignment.ensures ∙ c.requires.ready.1.scope.assignment.one_each

pub try_group-requires-clause-needed : goal.try_group-requires-clause-needed
try_group-requires-clause-needed g c =
    ap length (c.as_slice.ensures.value ∙ ap (λ (x : Scope). x.needed) c.scope.view_is)
    ∙ c.requires.ready.1.scope.one_each

pub try_group-requires-clause-group : goal.try_group-requires-clause-group
try_group-requires-clause-group g c = omega (arith, c.new.ensures, c.loop-group-test.true, c.requires.tried)

pub loop-group-preserved : goal.loop-group-preserved
loop-group-preserved g c =
    let d = declared_waits c.args.start.now.declared in
    let i = c.loop-group.group in
    let tried = c.args.tried.now in
    let fixed = c.args.fixed.now in
    let next = rw c.new.ensures at c.in_ok-try_group.ensures.settled in
    record {
      one_each = c.in_ok-try_group.ensures.stays;
      settled = λ graph trial.
          subst (λ (a : Assignment). IsSettled graph a fixed tried (i + 1) c.try_group.new.settled) c.assignment.ensures
          (next graph fixed tried
          (subst (λ (xs : List Bool). IsTrial d xs fixed tried graph)
          (sym (c.as_slice.ensures.value ∙ ap (λ (x : Scope). x.needed) c.scope.view_is)) trial)
          c.if-not-is_tried.false
          (subst (λ (a : Assignment). IsSettled graph a fixed tried i c.loop-group.settled) (sym c.assignment.ensures)
          (c.loop-group.invariant.settled graph trial)));
    }

pub returns : goal.returns
returns g c = λ graph trial.
    subst (λ (n : ℕ). IsSettled graph c.args.old.now.assignment c.args.fixed.now c.args.tried.now n
    c.loop-group.settled)
    (omega (arith, c.loop-group-test.false, c.loop-group.auto.group-end, c.requires.tried, trial.of.long))
    (c.loop-group.invariant.settled graph trial)
