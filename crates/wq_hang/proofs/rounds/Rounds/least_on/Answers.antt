use Rattle.std.proofs.Common.{◌≡◌, ◌<◌, ◌≤◌, ℕ, Bool, List, length, sym, ap, subst, ◌∙◌, arith}
use Rattle.std.specs.Prelude.{IfSome, IfNone}
use Rattle.std.specs.List.{All}
use Rattle.wq_core.specs.Wiring.{Wiring, items}
use Rattle.wq_core.specs.Workqueues.{with_bare}
use Rattle.wq_hang.specs.declared.hop.Hop.{Hop}
use Rattle.wq_hang.specs.Walk.{IsRound, IsRoundOn, IsLeastRoundOn}
use Rattle.wq_hang.specs.Search.{AreItemsOn, ArePassed, AreMarkedOf, IsLeastRound, hops_cost}
use Rattle.wq_hang.proofs.Taken.{IfOk-weaker, IfSome-weaker, IfNone-weaker}
use Rattle.wq_hang.proofs.SomeLanes.{IsLeastRoundOn-least, none_on, AreItemsOn-kept, ArePassed-on, passed_items}
use Rattle.wq_hang.proofs.rounds.Rounds.least_on.Goals as goal

pub marked_items_of-requires-clause-few : goal.marked_items_of-requires-clause-few
marked_items_of-requires-clause-few g c = omega (
  arith,
  ap (λ (l : List Bool). length l) c.deref.ensures.value,
  c.self.invariant.one_each,
  c.lanes-lanes.ensures.lanes,
  c.lanes-lanes.ensures.few,
)

pub least_round_settled-requires-clause-on : goal.least_round_settled-requires-clause-on
least_round_settled-requires-clause-on g c =
    let w = c.self.inside.wires in
    let bare = c.leave_others_out.new.bare.items in
    let same : c.new-waits.result ≡ with_bare w bare = c.new-waits.ensures
    ∙ ap (with_bare w) c.as_slice.ensures.value in
    subst (λ (v : Wiring). AreItemsOn v c.self.inside.on) (sym same)
    (AreItemsOn-kept w c.lanes-lanes.ensures.wiring c.args.lanes.now bare c.in_ok-leave_others_out.ensures
    c.self.inside.on c.self.invariant.items_on)

pub least_round_settled-requires-clause-items : goal.least_round_settled-requires-clause-items
least_round_settled-requires-clause-items g c =
    let w = c.self.inside.wires in
    let bare = c.leave_others_out.new.bare.items in
    let passed = c.marked_items_of.new.list.items in
    let same : c.new-waits.result ≡ with_bare w bare = c.new-waits.ensures
    ∙ ap (with_bare w) c.as_slice.ensures.value in
    let of : AreMarkedOf c.self.inside.on c.self.inside.marks.items c.args.lanes.now passed =
    subst (λ (l : List Bool). AreMarkedOf c.self.inside.on l c.args.lanes.now passed) c.deref.ensures.value
    c.in_ok-marked_items_of.ensures in
    let all : All (λ i. i < items w) passed = passed_items w c.self.inside.on c.self.inside.marks.items
    c.args.lanes.now passed c.self.invariant of in
    let here : All (λ i. i < items w) c.as_slice-3.result.now =
    subst (λ (l : List ℕ). All (λ i. i < items w) l) (sym c.as_slice-3.ensures.value) all in
    subst (λ (v : Wiring). All (λ i. i < items v) c.as_slice-3.result.now) (sym same) here

pub least_round_settled-requires-clause-passed : goal.least_round_settled-requires-clause-passed
least_round_settled-requires-clause-passed g c =
    let w = c.self.inside.wires in
    let bare = c.leave_others_out.new.bare.items in
    let passed = c.marked_items_of.new.list.items in
    let same : c.new-waits.result ≡ with_bare w bare = c.new-waits.ensures
    ∙ ap (with_bare w) c.as_slice.ensures.value in
    let of : AreMarkedOf c.self.inside.on c.self.inside.marks.items c.args.lanes.now passed =
    subst (λ (l : List Bool). AreMarkedOf c.self.inside.on l c.args.lanes.now passed) c.deref.ensures.value
    c.in_ok-marked_items_of.ensures in
    let are : ArePassed (with_bare w bare) passed = ArePassed-on w c.lanes-lanes.ensures.wiring c.args.lanes.now
    bare c.in_ok-leave_others_out.ensures c.self.inside.on c.self.inside.marks.items
    passed c.self.invariant of in
    subst (ArePassed c.new-waits.result) (sym c.as_slice-3.ensures.value)
    (subst (λ (v : Wiring). ArePassed v passed) (sym same) are)

pub returns-clause-some : goal.returns-clause-some
returns-clause-some g c =
    let w = c.self.inside.wires in
    let bare = c.leave_others_out.new.bare.items in
    let lanes = c.args.lanes.now in
    let same : c.new-waits.result ≡ with_bare w bare = c.new-waits.ensures
    ∙ ap (with_bare w) c.as_slice.ensures.value in
    let on : (hops : List Hop) → IsLeastRound c.new-waits.result 134266884 hops
    → IsLeastRoundOn c.args.self.now lanes hops = λ hops is.
    let least : IsLeastRound (with_bare w bare) 134266884 hops = subst
    (λ (v : Wiring). IsLeastRound v 134266884 hops) same is in
    subst (λ (v : Wiring). IsLeastRoundOn v lanes hops) c.self.view_is
    (IsLeastRoundOn-least w c.lanes-lanes.ensures.wiring lanes bare c.in_ok-leave_others_out.ensures
    134266884 hops least) in
    IfOk-weaker c.least_round_settled.result (λ found. IfSome found
    (λ hops. IsLeastRound c.new-waits.result 134266884 hops.items))
    (λ found. IfSome found (λ hops. IsLeastRoundOn c.args.self.now lanes hops.items))
    (λ found some. IfSome-weaker found (λ hops. IsLeastRound c.new-waits.result 134266884 hops.items)
    (λ hops. IsLeastRoundOn c.args.self.now lanes hops.items) (λ hops is. on hops.items is) some)
    c.least_round_settled.ensures.some

pub returns-clause-none : goal.returns-clause-none
returns-clause-none g c =
    let w = c.self.inside.wires in
    let bare = c.leave_others_out.new.bare.items in
    let lanes = c.args.lanes.now in
    let same : c.new-waits.result ≡ with_bare w bare = c.new-waits.ensures
    ∙ ap (with_bare w) c.as_slice.ensures.value in
    let none : ((hops : List Hop) → IsRound c.new-waits.result hops → 134266884 ≤ hops_cost hops) → (hops : List Hop)
    → ¬ IsRoundOn c.args.self.now lanes hops = λ rounds hops is.
    none_on w c.lanes-lanes.ensures.wiring lanes bare c.in_ok-leave_others_out.ensures 134266884
    (omega (arith, c.lanes-lanes.ensures.lanes, c.lanes-lanes.ensures.few))
    (subst (λ (v : Wiring). (others : List Hop) → IsRound v others → 134266884 ≤ hops_cost others) same rounds) hops
    (subst (λ (v : Wiring). IsRoundOn v lanes hops) (sym c.self.view_is) is) in
    IfOk-weaker c.least_round_settled.result (λ found. IfNone found
    ((hops : List Hop) → IsRound c.new-waits.result hops → 134266884 ≤ hops_cost hops))
    (λ found. IfNone found ((hops : List Hop) → ¬ IsRoundOn c.args.self.now lanes hops))
    (λ found rounds. IfNone-weaker found ((hops : List Hop) → IsRound c.new-waits.result hops
    → 134266884 ≤ hops_cost hops) ((hops : List Hop) → ¬ IsRoundOn c.args.self.now lanes hops) none rounds)
    c.least_round_settled.ensures.none
