use Rattle.std.proofs.Common.{◌<◌, ◌-◌, ℕ, length, Option, refl, sym, subst, ◌∙◌}
use Rattle.std.specs.Prelude.{IfSome}
use Rattle.std.proofs.lemmas.Bool.{false≢true}
use Rattle.wq_groups.specs.DeclaredGroups.{declared_waits}
use Rattle.wq_core.specs.Workqueues.{wiring_of}
use Rattle.wq_checker.specs.Chains.{before_from}
use Rattle.wq_checker.specs.Around.{AllJoinIn}
use Rattle.wq_checker.proofs.Arcs.{IfSome-slice_get}
use Rattle.wq_checker.proofs.checking_around.check_circle.Goals as goal

pub first_break-requires-clause-first : goal.first_break-requires-clause-first
first_break-requires-clause-first g c =
    let arcs = c.args.arcs.now in
    let items = length c.args.start.now.declared.table.waits in
    subst (λ (o : Option (ℕ × ℕ)). IfSome o (λ b. b.1 < items)) (sym (c.copied.ensures ∙ c.last.ensures.value))
    (IfSome-slice_get (λ (b : ℕ × ℕ). b.1 < items) arcs (length arcs - 1)
    (λ k d within. (c.requires.asked.arcs k d within).1))

pub returns-then-branch : goal.returns-then-branch
returns-then-branch g c =
    let w = wiring_of (declared_waits c.args.start.now.declared) c.args.start.now.workqueues in
    let arcs = c.args.arcs.now in (
      subst (λ (o : Option (ℕ × ℕ)). AllJoinIn w (before_from o arcs) arcs) (c.copied.ensures ∙ c.last.ensures.value)
          c.in_default.ensures.none,
      c.in_ok-show_deadlock.ensures.0 c.if-branch.true,
      refl,
    )

pub returns-else-branch : goal.returns-else-branch
returns-else-branch g c =
    let w = wiring_of (declared_waits c.args.start.now.declared) c.args.start.now.workqueues in
    let arcs = c.args.arcs.now in (
      subst (λ (o : Option (ℕ × ℕ)). AllJoinIn w (before_from o arcs) arcs) (c.copied.ensures ∙ c.last.ensures.value)
          c.in_default.ensures.none,
      (λ shown. false≢true (sym c.if-branch.false ∙ c.in_ok-show_deadlock.ensures.1 shown)),
    )
