use Rattle.std.proofs.Common.{◌≡◌, ◌<◌, ◌≤◌, [], ◌∷◌, ℕ, List, Some, sym, ap, subst, ◌∙◌, arith}
use Rattle.std.specs.Prelude.{IfOk, MatchOption, slice_index}
use Rattle.wq_hang.specs.declared.hop.Hop.{Hop}
use Rattle.wq_hang.specs.EndsFor.{Field, IsField, IsBest, IsLedTo, IsWalkAt, EndsBare, EndsRound, EndsAlone}
use Rattle.wq_hang.proofs.Declared.{declared-item}
use Rattle.wq_hang.proofs.LeastFound.{path_rescuer}
use Rattle.wq_hang.proofs.Taken.{IfOk-weaker, match-weaker}
use Rattle.wq_hang.proofs.EndsFound.{hops_some}
use Rattle.wq_hang.proofs.EndCosts.{IsWalkAt-bare, IsWalkAt-round}
use Rattle.wq_hang.proofs.least_for.Field.walk_to.Goals as goal

pub with_way-requires-clause-item : goal.with_way-requires-clause-item
with_way-requires-clause-item g c =
    let f = c.args.self.now in
    let h : Hop = c.in-Bare.hop in
    let best = rw c.in-Bare.is at c.requires.1 in
    let ends : EndsBare f c.requires.0 h = best.is_end in
    declared-item f.wiring h.item h.flush ends.0.hop.declared

pub with_way-requires-clause-reached : goal.with_way-requires-clause-reached
with_way-requires-clause-reached g c =
    let f = c.args.self.now in
    let h : Hop = c.in-Bare.hop in
    let best = rw c.in-Bare.is at c.requires.1 in
    let ends : EndsBare f c.requires.0 h = best.is_end in
    omega (arith, ends.1, best.most)

pub returns-in-Bare : goal.returns-in-Bare
returns-in-Bare g c = λ cost is.
    let f = c.args.self.now in
    let field : IsField c.self.inside.on.now f = subst (IsField c.self.inside.on.now) c.self.view_is c.self.invariant in
    let h : Hop = c.in-Bare.hop in
    let best = rw c.in-Bare.is at is in
    let ends : EndsBare f cost h = best.is_end in
    IfOk-weaker c.with_way.result
    (λ found. MatchOption found ⊥ (λ walk. IsLedTo f h.item (h ∷ []) walk.named walk.hops.items))
    (λ found. MatchOption found ⊥ (λ walk. IsWalkAt f cost walk.named walk.hops.items))
    (λ found of. match-weaker found (λ walk. IsLedTo f h.item (h ∷ []) walk.named walk.hops.items)
    (λ walk. IsWalkAt f cost walk.named walk.hops.items)
    (λ walk led. IsWalkAt-bare c.self.inside.on.now f field cost walk.named h walk.hops.items led ends) of)
    c.with_way.ensures

pub with_way-requires-in-Round-clause-item : goal.with_way-requires-in-Round-clause-item
with_way-requires-in-Round-clause-item g c =
    let f = c.args.self.now in
    let i : ℕ = c.in-Round.item in
    let best = rw c.in-Round.is at c.requires.1 in
    let ends : EndsRound f c.requires.0 i c.in-Round.hops.items = best.is_end in
    (path_rescuer f.wiring i i c.in-Round.hops.items ends.0 ends.1).0

pub with_way-requires-in-Round-clause-reached : goal.with_way-requires-in-Round-clause-reached
with_way-requires-in-Round-clause-reached g c =
    let f = c.args.self.now in
    let i : ℕ = c.in-Round.item in
    let hops : List Hop = c.in-Round.hops.items in
    let best = rw c.in-Round.is at c.requires.1 in
    let ends : EndsRound f c.requires.0 i hops = best.is_end in
    omega (arith, ends.2, best.most, hops_some hops ends.0)

pub returns-in-Round : goal.returns-in-Round
returns-in-Round g c = λ cost is.
    let f = c.args.self.now in
    let field : IsField c.self.inside.on.now f = subst (IsField c.self.inside.on.now) c.self.view_is c.self.invariant in
    let i : ℕ = c.in-Round.item in
    let hops : List Hop = c.in-Round.hops.items in
    let best = rw c.in-Round.is at is in
    let ends : EndsRound f cost i hops = best.is_end in
    IfOk-weaker c.with_way-in-Round.result
    (λ found. MatchOption found ⊥ (λ walk. IsLedTo f i c.as_slice.result.now walk.named walk.hops.items))
    (λ found. MatchOption found ⊥ (λ walk. IsWalkAt f cost walk.named walk.hops.items))
    (λ found of. match-weaker found (λ walk. IsLedTo f i c.as_slice.result.now walk.named walk.hops.items)
    (λ walk. IsWalkAt f cost walk.named walk.hops.items)
    (λ walk led. IsWalkAt-round c.self.inside.on.now f field cost walk.named i hops walk.hops.items
    (subst (λ (l : List Hop). IsLedTo f i l walk.named walk.hops.items) c.as_slice.ensures.value led) ends) of)
    c.with_way-in-Round.ensures

pub with_way_alone-requires : goal.with_way_alone-requires
with_way_alone-requires g c =
    let best = rw c.in-Alone.is at c.requires.1 in
    (c.requires.0, best.is_end, best.most)

pub returns-in-Alone : goal.returns-in-Alone
returns-in-Alone g c = λ cost is.
    let best = rw c.in-Alone.is at is in
    c.with_way_alone.ensures cost best.is_end best.most
