use Rattle.std.proofs.Common.{◌≡◌, ℕ, List, map, ◌∙◌, ap, subst, sym, arith}
use Rattle.std.proofs.lemmas.Result.{IfOk-weaker}
use Rattle.wq_groups.specs.Assignment.{Assignment, item_lanes}
use Rattle.wq_groups.specs.DeclaredGroups.{declared_waits, Declared}
use Rattle.wq_fixed.specs.Fixed.{IsFixed, fixed_lanes}
use Rattle.wq_cert.specs.AroundText.{around_text}
use Rattle.wq_around.specs.Around.{IsPlannedAround}
use Rattle.wq_commands.specs.Answer.{ends_of}
use Rattle.wq_around_command.proofs.PlannedLemmas.{ArePrintable-planned}
use Rattle.wq_around_command.proofs.planning.text_of_plan.Goals as goal

pub around_text-requires-clause-few : goal.around_text-requires-clause-few
around_text-requires-clause-few g c =
    let s : Declared = record { table = c.declared.inside.table; partition = c.declared.inside.groups } in
    let f = c.args.fixed.now in
    let ws = c.args.workqueues.now in
    let fixed = subst (λ (d : Declared). IsFixed d.partition.groups f) (sym c.declared.view_is) c.requires.fixed in
    let planned = subst (λ (d : Declared). IsPlannedAround (declared_waits d) f ws c.args.order.now c.args.chain.now)
    (sym c.declared.view_is) c.requires.planned in
    let chain = c.as_slice.ensures.value ∙ c.in_ok-chain.ensures in
    omega (
      arith,
      (ArePrintable-planned s c.declared.invariant f fixed ws c.args.order.now c.args.chain.now _ planned chain).few,
    )

pub around_text-requires-clause-items : goal.around_text-requires-clause-items
around_text-requires-clause-items g c =
    let s : Declared = record { table = c.declared.inside.table; partition = c.declared.inside.groups } in
    let f = c.args.fixed.now in
    let ws = c.args.workqueues.now in
    let fixed = subst (λ (d : Declared). IsFixed d.partition.groups f) (sym c.declared.view_is) c.requires.fixed in
    let planned = subst (λ (d : Declared). IsPlannedAround (declared_waits d) f ws c.args.order.now c.args.chain.now)
    (sym c.declared.view_is) c.requires.planned in
    let chain = c.as_slice.ensures.value ∙ c.in_ok-chain.ensures in
    (ArePrintable-planned s c.declared.invariant f fixed ws c.args.order.now c.args.chain.now _ planned chain).items

pub returns : goal.returns
returns g c =
    let s = c.args.declared.now in
    let a = c.args.workqueues.now.assignment in
    let order = c.args.order.now in
    let arcs : c.as_slice.result.now ≡ map ends_of c.args.chain.now =
    c.as_slice.ensures.value ∙ c.in_ok-chain.ensures in
    let chain = c.as_slice.result.now in
    let own = c.assignment.result.now in
    IfOk-weaker c.around_text.result _ _ (λ text printed. printed
    ∙ ap (λ (d : Declared). around_text d.table.names c.lanes.result own.lanes (item_lanes own d.partition.group_of)
    order
    chain) c.declared.view_is
    ∙ ap (λ (n : ℕ). around_text s.table.names n own.lanes (item_lanes own s.partition.group_of) order chain)
    c.lanes.ensures.lanes
    ∙ ap (λ (b : Assignment). around_text s.table.names (fixed_lanes c.args.fixed.now) b.lanes
    (item_lanes b s.partition.group_of) order chain) c.assignment.ensures
    ∙ ap (λ (l : List (ℕ × ℕ)). around_text s.table.names (fixed_lanes c.args.fixed.now) a.lanes
    (item_lanes a s.partition.group_of) order l) arcs)
    c.around_text.ensures
