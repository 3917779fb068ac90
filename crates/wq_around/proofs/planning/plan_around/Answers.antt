use Rattle.std.proofs.Common.{◌≡◌, List, [], ◌∷◌, Some, sym, ap, ◌∙◌}
use Rattle.std.specs.Prelude.{slice_get}
use Rattle.std.proofs.lemmas.Option.{same_Some, none-some}
use Rattle.wq_groups.specs.DeclaredGroups.{declared_waits}
use Rattle.wq_graph.specs.declared.arc.WaitArc.{WaitArc}
use Rattle.wq_deadlock.specs.Judging.{bare_waits}
use Rattle.wq_deadlock.proofs.BareLanes.{IsDeclaration-assigned}
use Rattle.wq_fixed.specs.Fixed.{start as start_of}
use Rattle.wq_around.proofs.StartHangs.{AllDeadlock-bare}
use Rattle.wq_around.proofs.planning.plan_around.Goals as goal

-- a list that has a first element
with_first : (xs : List WaitArc) (x : WaitArc) → Some x ≡ slice_get xs 0 → (others : List WaitArc) × (xs ≡ x ∷ others)
with_first [] x is = absurd (none-some x (sym is))
with_first (y ∷ ys) x is = (ys, ap (λ (z : WaitArc). z ∷ ys) (same_Some y x (sym is)))

pub returns-in-Some : goal.returns-in-Some
returns-in-Some g c =
    let s = c.args.start.now in
    let d = declared_waits s.declared in
    let f = c.args.fixed.now in
    let found = with_first c.as_slice.result.now c.in-Some.arc.now c.in-Some.ensures.value in
    let first : bare_waits d (start_of f) ≡ c.in-Some.arc.now ∷ found.0 =
    sym (c.as_slice.ensures.value ∙ c.in_ok-waits.ensures.arcs ∙ ap (bare_waits d) c.requires.start) ∙ found.1 in
    record {
      answer = record {
        others = found.0;
        first = first;
        deadlock = AllDeadlock-bare d f (IsDeclaration-assigned s c.in_ok-waits.ensures.assigned) c.requires.fixed
            c.in-Some.arc.now found.0 first;
      };
    }
