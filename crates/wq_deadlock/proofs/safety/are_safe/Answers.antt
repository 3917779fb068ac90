use Rattle.std.proofs.Common.{◌≡◌, ◌==◌, ◌<◌, [], ◌∷◌, false, ℕ, List, length, sym, subst, ◌∙◌, arith}
use Rattle.std.proofs.lemmas.Bool.{false≢true}
use Rattle.wq_groups.specs.DeclaredGroups.{declared_waits}
use Rattle.wq_graph.specs.declared.arc.WaitArc.{WaitArc}
use Rattle.wq_deadlock.proofs.BareLanes.{IsDeclaration-assigned, Deadlocks-bare, some-bare}
use Rattle.wq_deadlock.proofs.safety.are_safe.Goals as goal

-- a list that isn't empty has an element
some : (waits : List WaitArc) (n : ℕ) → n ≡ length waits → false ≡ (n == 0) → 0 < length waits
some [] n long is = absurd (false≢true (subst (λ (m : ℕ). false ≡ (m == 0)) long is))
some (x ∷ more) n long is = omega arith

pub returns-clause-no : goal.returns-clause-no
returns-clause-no g c =
    let a = c.args.assigned.now in
    let is = c.bare_waits.ensures.assigned in
    let waits = c.in_ok-waits.waits in
    λ _. Deadlocks-bare (declared_waits a.declared) a.workqueues (IsDeclaration-assigned a is)
    is.assignment.assignment waits.items c.in_ok-waits.ensures.arcs
    (some waits.items waits.len (omega (arith, waits.ok.0)) (sym c.if-is_empty.false ∙ c.is_empty.ensures))

pub returns-clause-some : goal.returns-clause-some
returns-clause-some g c =
    let a = c.args.assigned.now in
    let is = c.bare_waits.ensures.assigned in
    let waits = c.in_ok-waits.waits in
    λ _. some-bare (declared_waits a.declared) a.workqueues (IsDeclaration-assigned a is)
    is.assignment.assignment waits.items c.in_ok-waits.ensures.arcs
    (some waits.items waits.len (omega (arith, waits.ok.0)) (sym c.if-is_empty.false ∙ c.is_empty.ensures))
