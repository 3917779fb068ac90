-- What a flush says of itself, found by its place: of the targets of its item, one at most has this place.
use Rattle.std.proofs.Common.{◌≡◌, ℕ, ◌+◌, ◌<◌, ◌≤◌, ◌==◌, ◌&&◌, Bool, true, false, inl, inr, List, length, map, get_or}
use Rattle.std.proofs.Common.{Result, Ok, Err, refl, sym, ap, ◌∙◌, arith}
use Rattle.std.specs.Prelude.{MatchResult}
use Rattle.std.specs.List.{list_any}
use Rattle.std.specs.List.Sorted.{IsBinarySearchResult}
use Rattle.std.specs.Ordering.{nat_cmp, ordering_index}
use Rattle.std.specs.declared.cmp.Ordering.TheVariants.{Less, Equal, Greater}
use Rattle.std.specs.Cmp.{nat_cmp_is}
use Rattle.std.proofs.lemmas.Bool.{cases_Bool, cases_eq, cases_lt, eq-eqb, ne_eqb}
use Rattle.std.proofs.lemmas.Bool.Decides.{nat_tests}
use Rattle.std.proofs.lemmas.List.{get_or-map, get_or_default, get_or_past, length-map}
use Rattle.std.proofs.lemmas.List.Folds.{list_any_at, list_any_none}
use Rattle.std.proofs.lemmas.List.Kept.{AllPairs-from_increasing}
use Rattle.wq_items.specs.declared.target.Target.{Target}
use Rattle.wq_items.specs.Table.{PlacesRise}
use Rattle.wq_items.proofs.Tables.{PlacesRise-places}

-- the target is at this place, and says so
abbrev pub says_here : (Target → Bool) → ℕ → Target → Bool
says_here says place t = (t.place == place) && says t

and_no : (a b : Bool) → b ≡ false → a && b ≡ false
and_no true b fails = fails
and_no false b fails = refl

higher : (place a b : ℕ) → a ≤ b → ordering_index (nat_cmp a place) ≤ ordering_index (nat_cmp b place)
higher place a b le = grind (arith, nat_tests)

module _ (says : Target → Bool) (targets : List Target) (rise : PlacesRise targets) where
  -- a later target has a higher place
  apart : (i j : ℕ) (d e : Target) → i < j → j < length targets
      → (get_or targets i d).place < (get_or targets j e).place
  apart i j d e before within =
      let place_of : Target → ℕ = λ (t : Target). t.place in
      omega (
        arith,
        get_or-map place_of targets i d 0 (omega (arith, before, within)),
        get_or-map place_of targets j e 0 within,
        AllPairs-from_increasing (map place_of targets) rise i j 0 before
            (omega (arith, within, length-map targets place_of)),
      )

  -- so two targets at one place are one
  same_place : (i j : ℕ) (d e : Target) → i < length targets → j < length targets → (get_or targets i d).place
      ≡ (get_or targets j e).place → i ≡ j
  same_place i j d e one other same = elim (cases_lt i j) [
    | inl before ↦ absurd (omega (arith, apart i j d e before other, same))
    | inr rest ↦ elim (cases_lt j i) [
      | inl behind ↦ absurd (omega (arith, apart j i e d behind one, same))
      | inr not_behind ↦ omega (arith, rest, not_behind)
    ]
  ]

  -- the target at a place says it
  pub said_at : (place k : ℕ) (d : Target) → k < length targets → (get_or targets k d).place ≡ place
      → list_any (says_here says place) targets ≡ says (get_or targets k d)
  said_at place k d within here = elim (cases_Bool (says (get_or targets k d))) [
    | inl holds ↦ list_any_at (says_here says place) targets k d within
        (ap (λ (b : Bool). b && says (get_or targets k d)) (eq-eqb (get_or targets k d).place place here) ∙ holds)
        ∙ sym holds
    | inr fails ↦ list_any_none (says_here says place) targets (λ m e inside. others fails m e inside) ∙ sym fails
  ]
    where
      others : says (get_or targets k d) ≡ false → (m : ℕ) (e : Target) → m < length targets
          → says_here says place (get_or targets m e) ≡ false
      others fails m e inside = elim (cases_eq (get_or targets m e).place place) [
        | inl same ↦
            let one : m ≡ k = same_place m k e d inside within (same ∙ sym here) in
            let at : get_or targets m e ≡ get_or targets k d = ap (λ (i : ℕ). get_or targets i e) one
            ∙ get_or_default targets k e d within in
            and_no ((get_or targets m e).place == place) (says (get_or targets m e)) (ap says at ∙ fails)
        | inr other ↦ ap (λ (b : Bool). b && says (get_or targets m e)) (ne_eqb (get_or targets m e).place place other)
      ]

  -- if no target is at the place, none says so
  said_nowhere : (place : ℕ) → ((m : ℕ) (e : Target) → m < length targets → (get_or targets m e).place ≡ place → ⊥)
      → list_any (says_here says place) targets ≡ false
  said_nowhere place none =
      list_any_none (says_here says place) targets
      (λ m e inside. ap (λ (b : Bool). b && says (get_or targets m e))
      (ne_eqb (get_or targets m e).place place (none m e inside)))

  -- what halving finds
  abbrev pub Tells : ℕ → Result ℕ ℕ → Type 0
  Tells place r = MatchResult r (λ k. (k < length targets)
      × ((d : Target) → list_any (says_here says place) targets ≡ says (get_or targets k d)))
      (λ k. list_any (says_here says place) targets ≡ false)

  pub said_found : (place : ℕ) (r : Result ℕ ℕ) → IsBinarySearchResult (λ (t : Target). nat_cmp t.place place) targets
      r → Tells place r
  said_found place (Ok k) equal =
      let at : (d : Target) → (get_or targets k d).place ≡ place =
      λ d. is_equal (get_or targets k d).place place (equal d) in
      elim (cases_lt k (length targets)) [
        | inl within ↦ (within, λ d. said_at place k d within (at d))
        | inr past ↦
            let beyond : Target = record { item = 0; whole = false; unsure = false; place = place + 1 } in
            absurd (omega (arith, at beyond, ap (λ (t : Target). t.place) (get_or_past targets k beyond past)))
      ]
    where
      is_equal : (m n : ℕ) → nat_cmp m n ≡ Equal → m ≡ n
      is_equal m n e = elim (cases_eq m n) [
        | inl same ↦ same
        | inr other ↦ elim (cases_lt m n) [
          | inl less ↦ absurd (let never : Less ≡ Equal = nat_cmp_is m n Less less ∙ e in cc)
          | inr more ↦ absurd (let never : Greater ≡ Equal = nat_cmp_is m n Greater (omega (arith, other, more)) ∙ e in
              cc)
        ]
      ]
  said_found place (Err k) parted =
      let point = parted (λ i j d le within. higher place (get_or targets i d).place (get_or targets j d).place
      (PlacesRise-places targets i j d d rise le within)) in
      said_nowhere place (λ m e inside here.
      let same : Equal ≡ nat_cmp (get_or targets m e).place place =
      nat_cmp_is (get_or targets m e).place place Equal here in
      elim (cases_lt m k) [
        | inl before ↦ (let never : Equal ≡ Less = same ∙ point.0 m e (omega arith) before in cc)
        | inr behind ↦ (let never : Equal ≡ Greater = same ∙ point.1 m e (omega (arith, behind)) inside in cc)
      ])
