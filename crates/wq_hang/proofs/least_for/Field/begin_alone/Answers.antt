use Rattle.std.proofs.Common.{◌≡◌, ◌+◌, ◌<◌, ◌⊎◌, inl, inr, [], ◌∷◌, ◌++◌, ℕ, List, map, sym, ap, subst, ◌∙◌, arith}
use Rattle.std.specs.Prelude.{Contains}
use Rattle.std.specs.List.{All}
use Rattle.std.proofs.lemmas.Bool.{cases_lt}
use Rattle.std.proofs.lemmas.List.{map_push}
use Rattle.std.proofs.lemmas.List.Elements.{All-nil, All-push, All-contains, All-contains_itself, All-weaker}
use Rattle.std.proofs.lemmas.List.Elements.{Contains-append_left, Contains-push}
use Rattle.wq_core.specs.Wiring.{IsWiring, items}
use Rattle.wq_hang.specs.EndsFor.{Field, IsField, NoneAlone}
use Rattle.wq_hang.proofs.Taken.{IfOk-weaker}
use Rattle.wq_hang.proofs.Nearer.{NoneAlone-left, NoneAlone-past}
use Rattle.wq_hang.proofs.least_for.Field.begin_alone.Goals as goal
use Rattle.wq_hang.proofs.least_for.Field.begin_alone.Goals.{then-may_begin_alone+in_ok-push, else-may_begin_alone}

pub loop-i-init : goal.loop-i-init
loop-i-init g c =
    let f = c.args.self.now in
    subst (λ l. All (λ i. i < items f.wiring) (map (λ key. key.1) l)
    × ((t : ℕ) → t < 0 → Contains (map (λ key. key.1) l) t ⊎ NoneAlone f c.args.best t)) (sym c.new-keys.ensures.items)
    (All-nil (λ i. i < items f.wiring), λ t lt. absurd (omega (arith, lt)))

pub loop-i-preserved : goal.loop-i-preserved
loop-i-preserved g c =
    let f = c.args.self.now in
    let best = c.args.best in
    let i : ℕ = c.loop-i.i in
    let keys : List ℕ = map (λ key. key.1) c.loop-i.keys.items in
    let so_far = c.loop-i.invariant in
    let field : IsField c.self.inside.on.now f = subst (IsField c.self.inside.on.now) c.self.view_is c.self.invariant in
    let same = ap (λ (x : Field). x.wiring) c.self.view_is in
    let wiring : IsWiring f.wiring = subst IsWiring same c.items-i-end.ensures.wiring in
    let below : i < items f.wiring =
    omega (arith, c.loop-i-test.true, c.items-i-end.ensures.items, ap items same) in
    elim c.if-may_begin_alone.branch [
      | then-may_begin_alone+in_ok-push v ↦ (
          let is =
          ap (λ x. map (λ key. key.1) x.items) v.keys-is
          ∙ ap (λ l. map (λ key. key.1) l) v.in_ok-push.ensures.items
          ∙ map_push (λ key. key.1) c.loop-i.keys.items (v.cost.result, v.from.result)
          ∙ ap (λ (m : ℕ). keys ++ (m ∷ [])) v.from.ensures in
          subst (λ (l : List ℕ). All (λ j. j < items f.wiring) l
          × ((t : ℕ) → t < i + 1 → Contains l t ⊎ NoneAlone f best t)) (sym is) (
            All-push (λ j. j < items f.wiring) keys i so_far.0 below,
            λ t lt. elim (cases_lt t i) [
              | inl before ↦ elim (so_far.1 t before) [
                | inl there ↦ inl (Contains-append_left keys (i ∷ []) t there)
                | inr none ↦ inr none
              ]
              | inr last ↦ (
                  let it : i ≡ t = omega (arith, last, lt) in
                  inl (subst (λ (j : ℕ). Contains (keys ++ (i ∷ [])) j) it (Contains-push keys i))
                  )
            ],
          )
          )
      | else-may_begin_alone v ↦ (
          let none : NoneAlone f best c.new-item.result = NoneAlone-left c.self.inside.on.now f field wiring best
          c.requires.most c.requires.round c.new-item.result c.args.latest.now c.requires.latest
          c.args.least c.requires.least.0 (c.may_begin_alone.ensures v.if-may_begin_alone.false) in
          subst (λ x. All (λ j. j < items f.wiring) (map (λ key. key.1) x.items)
          × ((t : ℕ) → t < i + 1 → Contains (map (λ key. key.1) x.items) t ⊎ NoneAlone f best t)) (sym v.keys-is) (
            so_far.0,
            λ t lt. elim (cases_lt t i) [
              | inl before ↦ so_far.1 t before
              | inr last ↦ (
                  let it : i ≡ t = omega (arith, last, lt) in
                  inr (subst (λ (j : ℕ). NoneAlone f best j) (c.new-item.ensures ∙ it) none)
                  )
            ],
          )
          )
    ]

pub returns-clause-within : goal.returns-clause-within
returns-clause-within g c =
    let w = c.args.self.now.wiring in
    let keys : List ℕ = map (λ key. key.1) c.loop-i.keys.items in
    IfOk-weaker c.cheapest_first.result (λ list. (i : ℕ) → Contains list.items i → Contains keys i)
    (λ few. All (λ i. i < items w) few.items)
    (λ few no_others. All-weaker (Contains few.items) (λ i. i < items w)
    (λ i there. All-contains (λ (k : ℕ). k < items w) keys i c.loop-i.invariant.0 (no_others i there)) few.items
    (All-contains_itself few.items))
    c.cheapest_first.ensures.no_others

pub returns-clause-others : goal.returns-clause-others
returns-clause-others g c =
    let f = c.args.self.now in
    let best = c.args.best in
    let keys : List ℕ = map (λ key. key.1) c.loop-i.keys.items in
    let field : IsField c.self.inside.on.now f = subst (IsField c.self.inside.on.now) c.self.view_is c.self.invariant in
    let same = ap (λ (x : Field). x.wiring) c.self.view_is in
    let wiring : IsWiring f.wiring = subst IsWiring same c.items-i-end.ensures.wiring in
    IfOk-weaker c.cheapest_first.result (λ list. (i : ℕ) → Contains keys i → Contains list.items i)
    (λ few. (t : ℕ) → Contains few.items t ⊎ NoneAlone f best t)
    (λ few all t. elim (cases_lt t (items f.wiring)) [
      | inr past ↦ inr (NoneAlone-past c.self.inside.on.now f field wiring best c.requires.most c.requires.round t past)
      | inl below ↦ elim (c.loop-i.invariant.1 t (omega (
        arith,
        below,
        c.loop-i-test.false,
        c.items-i-end.ensures.items,
        ap items same,
      ))) [
        | inl there ↦ inl (all t there)
        | inr none ↦ inr none
      ]
    ])
    c.cheapest_first.ensures.all
