use Rattle.std.proofs.Common.{◌≡◌, ◌<◌, ◌≤◌, [], ◌∷◌, ◌++◌, ℕ, List, sym, ap, subst, ◌∙◌, arith}
use Rattle.std.specs.Prelude.{IfOk, MatchOption, slice_index, slice_index_or}
use Rattle.wq_core.specs.Wiring.{items}
use Rattle.wq_hang.specs.declared.hop.Hop.{Hop}
use Rattle.wq_hang.specs.EndsFor.{Field, IsField, IsLedTo, IsWalkAt, first_or}
use Rattle.wq_hang.proofs.Taken.{IfOk-weaker, match-weaker}
use Rattle.wq_hang.proofs.BestFound.{IsWalkAt-start, IsWalkAt-led, waits_from}
use Rattle.wq_hang.proofs.least_for.Field.with_way_alone.Goals as goal

pub hop_to-requires-clause-costs : goal.hop_to-requires-clause-costs
hop_to-requires-clause-costs g c =
    omega (
      arith,
      c.requires.1.0,
      c.self.invariant.pending.one_each,
      ap (λ (f : Field). items f.wiring) c.self.view_is,
    )

pub hop_to-requires-clause-by : goal.hop_to-requires-clause-by
hop_to-requires-clause-by g c =
    omega (
      arith,
      c.requires.1.0,
      c.self.invariant.pending.by_each,
      ap (λ (f : Field). items f.wiring) c.self.view_is,
    )

pub with_way-requires-clause-item : goal.with_way-requires-clause-item
with_way-requires-clause-item g c =
    let f = c.args.self.now in
    let field : IsField c.self.inside.on.now f = subst (IsField c.self.inside.on.now) c.self.view_is c.self.invariant in
    let h : Hop = c.in-Some.hop in
    let some : 0 < slice_index f.pending.costs c.args.item =
    omega (
      arith,
      c.in-Some.ensures.some.0,
      ap (λ (k : Field). slice_index k.pending.costs c.args.item)
          c.self.view_is,
    ) in
    let is : h ≡ slice_index_or f.pending.by c.args.item h =
    c.in-Some.ensures.some.1 h ∙ ap (λ (k : Field). slice_index_or k.pending.by c.args.item h) c.self.view_is in
    (waits_from c.self.inside.on.now f field c.requires.0 c.args.item c.args.hops.items c.requires.1 h h c.requires.2
    some is).0

pub with_way-requires-clause-reached : goal.with_way-requires-clause-reached
with_way-requires-clause-reached g c =
    let f = c.args.self.now in
    let field : IsField c.self.inside.on.now f = subst (IsField c.self.inside.on.now) c.self.view_is c.self.invariant in
    let h : Hop = c.in-Some.hop in
    let some : 0 < slice_index f.pending.costs c.args.item =
    omega (
      arith,
      c.in-Some.ensures.some.0,
      ap (λ (k : Field). slice_index k.pending.costs c.args.item)
          c.self.view_is,
    ) in
    let is : h ≡ slice_index_or f.pending.by c.args.item h =
    c.in-Some.ensures.some.1 h ∙ ap (λ (k : Field). slice_index_or k.pending.by c.args.item h) c.self.view_is in
    (waits_from c.self.inside.on.now f field c.requires.0 c.args.item c.args.hops.items c.requires.1 h h c.requires.2
    some is).1

pub returns-in_default : goal.returns-in_default
returns-in_default g c = λ cost ends most.
    let f = c.args.self.now in
    let field : IsField c.self.inside.on.now f = subst (IsField c.self.inside.on.now) c.self.view_is c.self.invariant in
    IsWalkAt-start c.self.inside.on.now f field cost c.args.item c.args.hops.items ends
    (sym (ap (λ (k : Field). slice_index k.pending.costs c.args.item) c.self.view_is) ∙ c.in_default.ensures.none)

pub returns : goal.returns
returns g c = λ cost ends most.
    let f = c.args.self.now in
    let field : IsField c.self.inside.on.now f = subst (IsField c.self.inside.on.now) c.self.view_is c.self.invariant in
    let h : Hop = c.in-Some.hop in
    let next : ℕ = c.first_or-hop.result in
    let hops : List Hop = c.args.hops.items in
    let all : List Hop = c.as_slice-3.result.now in
    let some : 0 < slice_index f.pending.costs c.args.item =
    omega (
      arith,
      c.in-Some.ensures.some.0,
      ap (λ (k : Field). slice_index k.pending.costs c.args.item)
          c.self.view_is,
    ) in
    let is : h ≡ slice_index_or f.pending.by c.args.item h =
    c.in-Some.ensures.some.1 h ∙ ap (λ (k : Field). slice_index_or k.pending.by c.args.item h) c.self.view_is in
    let h_next : Hop = record h { next = next } in
    let are : all ≡ h_next ∷ hops =
    c.as_slice-3.ensures.value
    ∙ c.in_ok-extend_from_slice.ensures.items
    ∙ ap (λ (l : List Hop). l ++ c.as_slice-2.result.now)
    (c.in_ok-push.ensures.items ∙ ap (λ (l : List Hop). l ++ (h_next ∷ [])) c.new-all.ensures.items)
    ∙ ap (λ (l : List Hop). h_next ∷ l) c.as_slice-2.ensures.value in
    let led = subst (λ (l : List Hop). IfOk c.with_way.result (λ found. MatchOption found ⊥
    (λ walk. IsLedTo f h.item l walk.named walk.hops.items))) are c.with_way.ensures in
    IfOk-weaker c.with_way.result
    (λ found. MatchOption found ⊥ (λ walk. IsLedTo f h.item (record h { next = next } ∷ hops) walk.named
    walk.hops.items))
    (λ found. MatchOption found ⊥ (λ walk. IsWalkAt f cost walk.named walk.hops.items))
    (λ found of. match-weaker found
    (λ walk. IsLedTo f h.item (record h { next = next } ∷ hops) walk.named walk.hops.items)
    (λ walk. IsWalkAt f cost walk.named walk.hops.items)
    (λ walk is_led. IsWalkAt-led c.self.inside.on.now f field cost c.args.item hops ends h h most some is next
    walk.named
    walk.hops.items (c.first_or-hop.ensures ∙ ap (first_or h.next) c.as_slice.ensures.value) is_led) of)
    led
