use Rattle.std.proofs.Common.{◌≡◌, ℕ, ◌<◌, inl, inr, List, length, get_or, sym, ap, subst, ◌∙◌, arith}
use Rattle.std.proofs.lemmas.Bool.{cases_lt, false≢true}
use Rattle.std.proofs.lemmas.List.{get_or_default}
use Rattle.wq_items.specs.declared.target.Target.{Target}
use Rattle.wq_items.specs.Table.{targets_of}
use Rattle.wq_items.proofs.Tables.{targets_of-below, targets_of-rise}
use Rattle.wq_groups.specs.Declaration.{declaration_of}
use Rattle.wq_checker.specs.SearchingAround.{ItemsFall}
use Rattle.wq_checker.proofs.AroundFalling.{ItemsFall-lanes, lanes-ItemsFall, item_lane-below}
use Rattle.wq_checker.proofs.FallingLemmas.{IsFirstOf-item}
use Rattle.wq_checker.proofs.checking_around.first_of_item.Goals as goal

pub falls-requires-clause-from : goal.falls-requires-clause-from
falls-requires-clause-from g c =
    let groups = c.args.groups.now in
    let below = item_lane-below c.args.assignment.now groups.group_of groups.groups c.args.item
    c.len-groups.ensures.partition.within c.requires.assigned c.lanes-lanes.ensures.within
    (omega (arith, c.requires.item, c.requires.grouped)) in
    omega (arith, below, c.lane_of-from.ensures, c.requires.places)

pub falls-requires-clause-to : goal.falls-requires-clause-to
falls-requires-clause-to g c =
    let groups = c.args.groups.now in
    let table = c.args.table.now in
    let k = c.loop-target.target-index in
    let same = c.waits-target-items.ensures in
    let target = c.target-item.result in
    let at : target ≡ get_or (targets_of table.waits c.args.item) k target =
    subst (λ (l : List Target). target ≡ get_or l k target) same c.target-item.is in
    let there : (get_or (targets_of table.waits c.args.item) k target).item < length table.names =
    targets_of-below (length table.names) table.waits c.args.item c.len-items.ensures.table.targets_are_items k target
    (omega (arith, c.loop-target-test.true, ap length same)) in
    let within : target.item < length groups.group_of =
    omega (arith, there, ap (λ (t : Target). t.item) at, c.requires.grouped) in
    let below = item_lane-below c.args.assignment.now groups.group_of groups.groups target.item
    c.len-groups.ensures.partition.within c.requires.assigned c.lanes-lanes.ensures.within within in
    omega (arith, below, c.lane_of.ensures, c.requires.places)

pub returns-then-not-falls : goal.returns-then-not-falls
returns-then-not-falls g c =
    let table = c.args.table.now in
    let d = declaration_of table c.args.groups.now in
    let a = c.args.assignment.now in
    let k = c.loop-target.target-index in
    let same = c.waits-target-items.ensures in
    let target = c.target-item.result in
    IsFirstOf-item d (ItemsFall d a c.args.bare.now c.args.places.now) c.args.item k target
    (targets_of-rise table.waits c.args.item c.len-items.ensures.table.places_rise)
    (omega (arith, c.loop-target-test.true, ap length same))
    (subst (λ (l : List Target). target ≡ get_or l k target) same c.target-item.is)
    (λ fall. false≢true
    (sym c.if-not-falls.true ∙ c.falls.ensures.1
    (lanes-ItemsFall d a c.args.bare.now c.args.places.now c.args.item target.item c.lane_of-from.result
    c.lane_of.result c.lane_of-from.ensures c.lane_of.ensures fall)))
    c.loop-target.invariant

pub loop-target-preserved : goal.loop-target-preserved
loop-target-preserved g c k e less =
    let table = c.args.table.now in
    let d = declaration_of table c.args.groups.now in
    let a = c.args.assignment.now in
    let bare = c.args.bare.now in
    let places = c.args.places.now in
    let n = c.loop-target.target-index in
    let same = c.waits-target-items.ensures in
    let target = c.target-item.result in
    let here : ItemsFall d a bare places c.args.item target.item =
    ItemsFall-lanes d a bare places c.args.item target.item c.lane_of-from.result c.lane_of.result
    c.lane_of-from.ensures c.lane_of.ensures (c.falls.ensures.0 c.if-not-falls.false) in
    elim (cases_lt k n) [
      | inl lower ↦ c.loop-target.invariant k e lower
      | inr last ↦
          let one : n ≡ k = omega (arith, last, less) in
          let within : n < length (targets_of table.waits c.args.item) =
          omega (arith, c.loop-target-test.true, ap length same) in
          let at : target ≡ get_or (targets_of table.waits c.args.item) n e =
          subst (λ (l : List Target). target ≡ get_or l n target) same c.target-item.is
          ∙ get_or_default (targets_of table.waits c.args.item) n target e within in
          subst (λ (m : ℕ). ItemsFall d a bare places c.args.item
          (get_or (targets_of table.waits c.args.item) m e).item) one
          (subst (λ (t : Target). ItemsFall d a bare places c.args.item t.item) at here)
    ]
