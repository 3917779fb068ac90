use Rattle.std.proofs.Common.{◌≡◌, [], ℕ, List, length, map, inl, inr, sym, ap, subst, ◌∙◌}
use Rattle.std.specs.List.{All}
use Rattle.std.proofs.lemmas.Result.{IfOk-weaker}
use Rattle.wq_items.specs.Chain.{HasCircle}
use Rattle.wq_groups.specs.Declaration.{GroupWaits}
use Rattle.wq_groups.specs.DeclaredGroups.{declared_waits, Declared, IsSound}
use Rattle.wq_plan.specs.Plan.{chain_of_plan}
use Rattle.wq_plan.specs.Solve.{IsCircled, IsPlanned}
use Rattle.wq_commands.specs.Answer.{ends_of}
use Rattle.wq_commands.proofs.AnswerLemmas.{ArePrintable-planned, JoinsItems}
use Rattle.wq_voice.specs.Chain.{IsChainNote}
use Rattle.wq_voice.proofs.plan.plan_note.Goals as goal

pub chain_note-requires : goal.chain_note-requires
chain_note-requires g c =
    let inside : Declared = record { table = c.declared.inside.table; partition = c.declared.inside.groups } in
    let sound : IsSound inside = c.declared.invariant in
    let chain = c.in-Plan.chain.items in
    let planned : IsPlanned (declared_waits inside) c.in-Plan.assignment chain =
    rw c.in-Plan.is at c.in_ok-assignment.ensures.answer in
    let arcs : c.as_slice.result.now ≡ map ends_of chain =
    c.as_slice.ensures.value ∙ c.in_ok-arcs-in-Plan.ensures ∙ ap (map ends_of) c.deref.ensures.value in
    subst (λ (s : Declared). All (JoinsItems s.table) c.as_slice.result.now) c.declared.view_is
    (ArePrintable-planned inside c.in-Plan.assignment chain c.as_slice.result.now sound planned arcs).items

pub returns-in-Plan : goal.returns-in-Plan
returns-in-Plan g c =
    let inside : Declared = record { table = c.declared.inside.table; partition = c.declared.inside.groups } in
    let s : Declared = c.args.declared.now in
    let file = c.args.file.now in
    let a = c.in-Plan.assignment in
    let chain = c.in-Plan.chain.items in
    let first : IsPlanned (declared_waits inside) a chain = rw c.in-Plan.is at c.in_ok-assignment.ensures.answer in
    let planned : IsPlanned (declared_waits s) a chain =
    subst (λ (x : Declared). IsPlanned (declared_waits x) a chain) c.declared.view_is first in
    let arcs : c.as_slice.result.now ≡ map ends_of (chain_of_plan (declared_waits s) a.lane_of_group) =
    c.as_slice.ensures.value ∙ c.in_ok-arcs-in-Plan.ensures
    ∙ ap (map ends_of) (c.deref.ensures.value ∙ planned.longest) in
    IfOk-weaker c.chain_note.result _ _ (λ note is. inr (inr (
      a,
      planned.plan,
      subst (λ (l : List (ℕ × ℕ)). IsChainNote file s a.lanes l note.items) arcs
          (subst (λ (n : ℕ). IsChainNote file s n c.as_slice.result.now note.items)
          (c.from-lanes.ensures ∙ c.lanes.ensures.lanes) is),
    ))) c.chain_note.ensures

pub returns : goal.returns
returns g c =
    let inside : Declared = record { table = c.declared.inside.table; partition = c.declared.inside.groups } in
    let circled : IsCircled (declared_waits inside) c.in-Circle.arcs.items =
    rw c.in-Circle.is at c.in_ok-assignment.ensures.answer in
    inr (inl (
      c.new-in-Circle.ensures.items,
      subst (λ (s : Declared). HasCircle (GroupWaits (declared_waits s)) s.partition.groups) c.declared.view_is
          circled.has_circle,
    ))
