use Rattle.std.proofs.Common.{◌≡◌, ◌+◌, ◌-◌, ◌<◌, ◌≤◌, ◌⊎◌, inl, inr, ℕ, List, Some, length, take, get_or, refl, sym}
use Rattle.std.proofs.Common.{ap, subst}
use Rattle.std.proofs.Common.{◌∙◌, arith}
use Rattle.std.specs.Prelude.{Contains, slice_index}
use Rattle.std.proofs.lemmas.List.Elements.{Contains-get_or}
use Rattle.wq_core.specs.Wiring.{Wiring, IsWiring, HasRescuer, items, lane_of}
use Rattle.wq_hang.specs.declared.least_for.End.TheVariants as end
use Rattle.wq_hang.specs.Search.{AreBounds}
use Rattle.wq_hang.specs.declared.hop.Hop.{Hop}
use Rattle.wq_hang.specs.EndsFor.{Field, IsField, IsBest, IsRoundAlone, NoneFrom, NoneAlone}
use Rattle.wq_hang.proofs.Taken.{contains_more, contains_all}
use Rattle.wq_hang.proofs.Nearer.{NoneAlone-near, NoneAlone-round, NoneAlone-less, pending_rescuer}
use Rattle.wq_hang.proofs.EndsFound.{NoneAlone-next, IsBest-is}
use Rattle.wq_hang.proofs.least_for.Field.look_from_alone.Goals as goal
use Rattle.wq_hang.proofs.least_for.Field.look_from_alone.Goals.{
  then-cost-best+in_ok-has_round_before+then-branch+in_ok-more+in_default,
  then-cost-best+in_ok-has_round_before+else-branch,
  else-cost-best,
}

pub bounds_to-requires-clause-few : goal.bounds_to-requires-clause-few
bounds_to-requires-clause-few g c k d lt =
    omega (arith, c.requires.few k d lt, ap (λ (f : Field). items f.wiring) c.self.view_is)

pub bounds_to-requires-clause-on : goal.bounds_to-requires-clause-on
bounds_to-requires-clause-on g c = c.self.invariant.items_on

pub has_round_before-requires-clause-one_each : goal.has_round_before-requires-clause-one_each
has_round_before-requires-clause-one_each g c =
    ap (λ (l : List ℕ). length l) c.deref.ensures.value ∙ c.in_ok-bounds.ensures.len
    ∙ ap (λ (f : Field). f.wiring.lanes) c.self.view_is

pub has_round_before-requires-clause-bounds : goal.has_round_before-requires-clause-bounds
has_round_before-requires-clause-bounds g c =
    let few = c.args.few.now in
    let t : ℕ = c.new-item.result in
    let there : Contains few t =
    subst (Contains few) (sym c.new-item.ensures) (Contains-get_or few c.loop-i.i-index 0 c.loop-i-test.true) in
    subst (λ (x : Wiring). (i : ℕ) → lane_of x i ≡ lane_of x t → HasRescuer x (lane_of x i)
    → AreBounds x c.deref.result.now i) (ap (λ (f : Field). f.wiring) c.self.view_is) (λ i lane rescuer.
    subst (λ (l : List ℕ). AreBounds c.self.inside.waits.now l i) (sym c.deref.ensures.value)
    (c.in_ok-bounds.ensures.bounds i t there lane rescuer))

pub loop-i-init : goal.loop-i-init
loop-i-init g c = (c.requires.best, refl, λ t there. absurd (omega (arith, there.1)))

pub loop-i-preserved : goal.loop-i-preserved
loop-i-preserved g c =
    let f = c.args.self.now in
    let on = c.self.inside.on.now in
    let field : IsField on f = subst (IsField on) c.self.view_is c.self.invariant in
    let same = ap (λ (x : Field). x.wiring) c.self.view_is in
    let wiring : IsWiring f.wiring = subst IsWiring same c.items-items.ensures.wiring in
    let few = c.args.few.now in
    let k : ℕ = c.loop-i.i-index in
    let t : ℕ = c.new-item.result in
    let best : ℕ = c.loop-i.best.cost in
    let so_far = c.loop-i.invariant in
    let none_from : (i : ℕ) → NoneFrom f best i = λ i.
    subst (λ (n : ℕ). NoneFrom f n i) (sym so_far.1) (c.requires.round i) in
    let cost : c.cost-cost.result ≡ slice_index f.pending.costs t =
    c.cost-cost.ensures ∙ ap (λ (x : Field). slice_index x.pending.costs t) c.self.view_is in
    let either : (u : ℕ) → Contains (take (k + 1) few) u → Contains (take k few) u ⊎ (t ≡ u) = λ u there.
    elim (contains_more few k 0 u c.loop-i-test.true there) [
      | inl before ↦ inl before
      | inr it ↦ inr (c.new-item.ensures ∙ it)
    ] in
    let limit : ℕ = best - c.cost-cost.result in
    let none : NoneAlone f best t = elim c.if-cost-best.branch [
      | then-cost-best+in_ok-has_round_before+then-branch+in_ok-more+in_default v ↦ (
          let found : (hops : List Hop) (more : ℕ) → IsRoundAlone f.wiring t hops more
          → limit ≤ more = rw v.in_default.is at v.in_ok-more.ensures.none in
          λ hops more is. omega (arith, cost, found hops more is)
          )
      | then-cost-best+in_ok-has_round_before+else-branch v ↦
          NoneAlone-round on f field wiring best so_far.0.most none_from t limit
          (λ i below other lane one. v.in_ok-has_round_before.ensures v.if-branch.false i below other lane
          (one ∙ ap (λ (n : ℕ). n + 1) (sym cost))) (omega (arith, cost))
      | else-cost-best v ↦
          NoneAlone-near on f field wiring best so_far.0.most none_from t (omega (arith, cost, v.if-cost-best.false))
    ] in (
      so_far.0,
      so_far.1,
      NoneAlone-next f (take k few) (take (k + 1) few) best t so_far.2 none either,
    )

pub round_alone-requires-clause-rescuer : goal.round_alone-requires-clause-rescuer
round_alone-requires-clause-rescuer g c =
    let f = c.args.self.now in
    let on = c.self.inside.on.now in
    let field : IsField on f = subst (IsField on) c.self.view_is c.self.invariant in
    let t : ℕ = c.new-item.result in
    pending_rescuer on f field t
    (omega (arith, c.new-item.ensures, c.requires.few c.loop-i.i-index 0 c.loop-i-test.true)) (omega (
      arith,
      c.cost-cost.ensures,
      ap (λ (x : Field). slice_index x.pending.costs t) c.self.view_is,
      c.if-cost-best.true,
      c.loop-i.invariant.0.most,
    ))

pub returns-in-Some-clause-best : goal.returns-in-Some-clause-best
returns-in-Some-clause-best g c =
    let f = c.args.self.now in
    let t : ℕ = c.new-item.result in
    let more : ℕ = c.in-Some.more in
    let now : ℕ = c.becomes.new.self.cost in
    let cost : c.cost-cost.result ≡ slice_index f.pending.costs t =
    c.cost-cost.ensures ∙ ap (λ (x : Field). slice_index x.pending.costs t) c.self.view_is in
    let is_now : now ≡ c.cost-cost.result + more = c.becomes.ensures.cost in
    let some = rw c.in-Some.is at c.in_ok-more.ensures.some in
    IsBest-is f now now (Some (end.Alone t c.in-Some.hops)) c.becomes.new.self.end refl c.becomes.ensures.end (record {
      is_end = (
        omega (arith, c.new-item.ensures, c.requires.few c.loop-i.i-index 0 c.loop-i-test.true),
        some.1,
        some.2,
        omega (arith, is_now, cost, some.3),
      );
      most = omega (arith, is_now, some.0, c.if-cost-best.true, c.loop-i.invariant.0.most);
    })

pub returns-in-Some-clause-none : goal.returns-in-Some-clause-none
returns-in-Some-clause-none g c = λ u there.
    let f = c.args.self.now in
    let on = c.self.inside.on.now in
    let field : IsField on f = subst (IsField on) c.self.view_is c.self.invariant in
    let same = ap (λ (x : Field). x.wiring) c.self.view_is in
    let wiring : IsWiring f.wiring = subst IsWiring same c.items-items.ensures.wiring in
    let best : ℕ = c.loop-i.best.cost in
    let none_from : (i : ℕ) → NoneFrom f best i = λ i.
    subst (λ (n : ℕ). NoneFrom f n i) (sym c.loop-i.invariant.1) (c.requires.round i) in
    let some = rw c.in-Some.is at c.in_ok-more.ensures.some in
    NoneAlone-less on f field wiring best c.loop-i.invariant.0.most none_from u c.becomes.new.self.cost
    (omega (arith, c.becomes.ensures.cost, some.0, c.if-cost-best.true))

pub returns : goal.returns
returns g c = record {
  best = c.loop-i.invariant.0;
  less = omega (arith, c.loop-i.invariant.1);
  none = λ t there. c.loop-i.invariant.2 t
      (contains_all c.args.few.now c.loop-i.i-index t c.loop-i-test.false there);
}
