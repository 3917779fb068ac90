-- Arcs that join, as chains and circles of groups.
use Rattle.std.proofs.Common.{◌≡◌, ℕ, zero, suc, ◌+◌, ◌-◌, ◌<◌, ◌≤◌, List, [], ◌∷◌, length, get_or, eqb, Option, Some}
use Rattle.std.proofs.Common.{None, refl, sym, ap, subst, ◌∙◌, arith}
use Rattle.std.specs.Prelude.{slice_get, slice_index}
use Rattle.std.specs.List.{All}
use Rattle.std.proofs.lemmas.Bool.{cond-false, ne_eqb}
use Rattle.std.proofs.lemmas.List.{length-map}
use Rattle.std.proofs.lemmas.List.Elements.{All-cons, All-nil}
use Rattle.std.proofs.lemmas.Option.{slice_get-get_or, slice_get_within}
use Rattle.wq_items.specs.Chain.{IsChain, last_of}
use Rattle.wq_items.specs.Table.{ItemWaits}
use Rattle.wq_groups.specs.Declaration.{Declaration, IsDeclaration, GroupWaits}
use Rattle.wq_groups.proofs.Declarations.{waiting-item, awaited-item, GroupWaits-items}
use Rattle.wq_checker.specs.Chains.{Joins, AllJoin, before_from, before_in_circle, before_in_chain, IsChainAlong, heads}
use Rattle.wq_checker.specs.Chains.{IsCircleAlong}

-- the group of item i
abbrev group : Declaration → ℕ → ℕ
group d i = slice_index d.group_of i

-- each arc is declared, and begins in the group where the one before it ends; the first begins in group g
abbrev Linked : Declaration → ℕ → List (ℕ × ℕ) → Type 0
Linked d g [] = Unit {0}
Linked d g (arc ∷ arcs) = ItemWaits d.waits arc.0 arc.1 × (group d arc.0 ≡ g) × Linked d (group d arc.1) arcs

-- ---- what comes before an arc

pub before_from-suc : (first : Option (ℕ × ℕ)) (arcs : List (ℕ × ℕ)) (k : ℕ)
    → before_from first arcs (suc k) ≡ slice_get arcs k
before_from-suc first arcs k =
    cond-false (eqb (suc k) 0) first (slice_get arcs (suc k - 1)) (ne_eqb (suc k) 0 (λ e. absurd (omega (arith, e))))
    ∙ ap (slice_get arcs) (let e : suc k - 1 ≡ k = omega arith in e)

pub before_from-next : (first : Option (ℕ × ℕ)) (arc : ℕ × ℕ) (arcs : List (ℕ × ℕ)) (k : ℕ)
    → before_from first (arc ∷ arcs) (suc k) ≡ before_from (Some arc) arcs k
before_from-next first arc arcs zero = before_from-suc first (arc ∷ arcs) zero
before_from-next first arc arcs (suc k) = before_from-suc first (arc ∷ arcs) (suc k)
    ∙ sym (before_from-suc (Some arc) arcs k)

module _ (d : Declaration) where
  AllJoin-rest : (first : Option (ℕ × ℕ)) (arc : ℕ × ℕ) (arcs : List (ℕ × ℕ))
      → AllJoin d (before_from first (arc ∷ arcs)) (arc ∷ arcs) → AllJoin d (before_from (Some arc) arcs) arcs
  AllJoin-rest first arc arcs joined k other stands =
      subst (λ (o : Option (ℕ × ℕ)). Joins d o other) (before_from-next first arc arcs k) (joined (suc k) other stands)

  Joins-waits : (o : Option (ℕ × ℕ)) (arc : ℕ × ℕ) → Joins d o arc → ItemWaits d.waits arc.0 arc.1
  Joins-waits None arc joins = joins
  Joins-waits (Some before) arc joins = joins.0

  Linked-joined : (before : ℕ × ℕ) (arcs : List (ℕ × ℕ)) → AllJoin d (before_from (Some before) arcs) arcs
      → Linked d (group d before.1) arcs
  Linked-joined before [] joined = tt
  Linked-joined before (arc ∷ arcs) joined =
      let here = joined 0 arc refl in
      (here.0, sym here.1, Linked-joined arc arcs (AllJoin-rest (Some before) arc arcs joined))

  -- from the group of the first item on
  Linked-from_first : (first : Option (ℕ × ℕ)) (arc : ℕ × ℕ) (arcs : List (ℕ × ℕ))
      → AllJoin d (before_from first (arc ∷ arcs)) (arc ∷ arcs) → Linked d (group d arc.0) (arc ∷ arcs)
  Linked-from_first first arc arcs joined =
      (Joins-waits first arc (joined 0 arc refl), refl, Linked-joined arc arcs (AllJoin-rest first arc arcs joined))

  module _ (is : IsDeclaration d) where
    GroupWaits-from : (i j g : ℕ) → ItemWaits d.waits i j → group d i ≡ g → GroupWaits d g (group d j)
    GroupWaits-from i j g waits of = subst (λ (h : ℕ). GroupWaits d h (group d j)) of (GroupWaits-items d is i j waits)

    group-within : (i : ℕ) → i < length d.group_of → group d i < d.groups
    group-within i within = is.partition.within i 0 within

    -- ---- chains

    IsChain-linked : (g : ℕ) (arcs : List (ℕ × ℕ)) → Linked d g arcs → IsChain (GroupWaits d) (g ∷ heads d arcs)
    IsChain-linked g [] linked = tt
    IsChain-linked g (arc ∷ arcs) linked =
        (GroupWaits-from arc.0 arc.1 g linked.0 linked.1, IsChain-linked (group d arc.1) arcs linked.2)

    heads-within : (g : ℕ) (arcs : List (ℕ × ℕ)) → Linked d g arcs → All (λ h. h < d.groups) (heads d arcs)
    heads-within g [] linked = All-nil (λ h. h < d.groups)
    heads-within g (arc ∷ arcs) linked =
        All-cons (λ h. h < d.groups) (group d arc.1) (heads d arcs)
        (group-within arc.1 (awaited-item d is arc.0 arc.1 linked.0)) (heads-within (group d arc.1) arcs linked.2)

    -- each arc is declared, and leads from its group to the next
    along-linked : (g : ℕ) (arcs : List (ℕ × ℕ)) → Linked d g arcs → (k : ℕ) (arc : ℕ × ℕ) → slice_get arcs k ≡ Some arc
        → ItemWaits d.waits arc.0 arc.1 × (slice_get (g ∷ heads d arcs) k ≡ Some (group d arc.0)) ×
        (slice_get (heads d arcs) k ≡ Some (group d arc.1))
    along-linked g [] linked k arc stands = absurd (omega (arith, slice_get_within [] k arc stands))
    along-linked g (first ∷ arcs) linked zero arc stands =
        let same : first ≡ arc = cc in (
          subst (λ (a : ℕ × ℕ). ItemWaits d.waits a.0 a.1) same linked.0,
          ap (λ (h : ℕ). Some h) (sym linked.1 ∙ ap (λ (a : ℕ × ℕ). group d a.0) same),
          ap (λ (a : ℕ × ℕ). Some (group d a.1)) same,
        )
    along-linked g (first ∷ arcs) linked (suc k) arc stands = along-linked (group d first.1) arcs linked.2 k arc stands

    -- arcs that join are a chain of one more group
    IsChainAlong-joined : (first : Option (ℕ × ℕ)) (arc : ℕ × ℕ) (arcs : List (ℕ × ℕ))
        → AllJoin d (before_from first (arc ∷ arcs)) (arc ∷ arcs)
        → IsChainAlong d (arc ∷ arcs) (group d arc.0 ∷ heads d (arc ∷ arcs))
    IsChainAlong-joined first arc arcs joined =
        let linked = Linked-from_first first arc arcs joined in
        let g : ℕ = group d arc.0 in
        let long : length (heads d (arc ∷ arcs)) ≡ length (arc ∷ arcs) =
        length-map (arc ∷ arcs) (λ (a : ℕ × ℕ). group d a.1) in
        record {
          chain = IsChain-linked g (arc ∷ arcs) linked;
          within = All-cons (λ h. h < d.groups) g (heads d (arc ∷ arcs))
              (group-within arc.0 (waiting-item d is arc.0 arc.1 linked.0)) (heads-within g (arc ∷ arcs) linked);
          count = omega (arith, long);
          along = λ k other stands.
              let leads = along-linked g (arc ∷ arcs) linked k other stands in
              let next : k + 1 ≡ suc k = omega arith in
              (leads.0, leads.1, ap (slice_get (g ∷ heads d (arc ∷ arcs))) next ∙ leads.2);
        }

    -- a chain of one group, which is there, or of none
    chain_alone : (n : ℕ) → n ≤ 1 → (n ≡ 1 → ¬ (d.groups ≡ 0))
        → (groups : List ℕ) × IsChainAlong d [] groups × (length groups ≡ n)
    chain_alone zero few some = (
      [],
      record {
        chain = tt;
        within = All-nil (λ h. h < d.groups);
        count = omega arith;
        along =
            λ k arc stands. absurd (omega (arith, slice_get_within [] k arc stands));
      },
      refl,
    )
    chain_alone (suc n) few some =
        let some_group : 0 < d.groups = omega (arith, some (omega (arith, few))) in (
          0 ∷ [],
          record {
            chain = tt;
            within = All-cons (λ h. h < d.groups) 0 [] some_group (All-nil (λ h. h < d.groups));
            count = omega arith;
            along = λ k arc stands. absurd (omega (arith, slice_get_within [] k arc stands));
          },
          omega (arith, few),
        )

    -- arcs that join are a chain of n groups, if there is one arc fewer
    pub chain_of_groups : (n : ℕ) (arcs : List (ℕ × ℕ)) → AllJoin d (before_in_chain arcs) arcs → length arcs ≡ n - 1
        → (n ≡ 1 → ¬ (d.groups ≡ 0))
        → (groups : List ℕ) × IsChainAlong d arcs groups × (length groups ≡ n)
    chain_of_groups n [] joined count some = chain_alone n (omega (arith, count)) some
    chain_of_groups n (arc ∷ arcs) joined count some =
        let long : length (heads d (arc ∷ arcs)) ≡ length (arc ∷ arcs) =
        length-map (arc ∷ arcs) (λ (a : ℕ × ℕ). group d a.1) in
        (group d arc.0 ∷ heads d (arc ∷ arcs), IsChainAlong-joined None arc arcs joined, omega (arith, long, count))

    -- ---- circles

    last_of-heads : (arc : ℕ × ℕ) (arcs : List (ℕ × ℕ)) (last : ℕ × ℕ)
        → slice_get (arc ∷ arcs) (length arcs) ≡ Some last → last_of (group d arc.1) (heads d arcs) ≡ group d last.1
    last_of-heads arc [] last stands = let same : arc ≡ last = cc in ap (λ (a : ℕ × ℕ). group d a.1) same
    last_of-heads arc (next ∷ arcs) last stands = last_of-heads next arcs last stands

    -- arcs that join, the first joining the last, are a circle
    IsCircleAlong-joined : (arc : ℕ × ℕ) (arcs : List (ℕ × ℕ)) → AllJoin d (before_in_circle (arc ∷ arcs)) (arc ∷ arcs)
        → IsCircleAlong d (arc ∷ arcs)
    IsCircleAlong-joined arc arcs joined =
        let circle : List (ℕ × ℕ) = arc ∷ arcs in
        let end : ℕ = length arcs in
        let last : ℕ × ℕ = get_or circle end arc in
        let stands : slice_get circle end ≡ Some last = slice_get-get_or circle end arc (omega arith) in
        let at_end : slice_get circle (length circle - 1) ≡ Some last =
        ap (slice_get circle) (let e : length circle - 1 ≡ end = omega arith in e) ∙ stands in
        let linked = Linked-from_first (slice_get circle (length circle - 1)) arc arcs joined in
        let closed : group d last.1 ≡ group d arc.0 =
        (subst (λ (o : Option (ℕ × ℕ)). Joins d o arc) at_end (joined 0 arc refl)).1 in
        let chain : IsChain (GroupWaits d) (group d arc.0 ∷ heads d circle) =
        IsChain-linked (group d arc.0) circle linked in
        record {
          joined = joined;
          circle = record {
            first = group d arc.1;
            others = heads d arcs;
            chain = chain.1;
            closes = subst (λ (g : ℕ). GroupWaits d g (group d arc.1))
                (sym (last_of-heads arc arcs last stands ∙ closed)) chain.0;
          };
          within = heads-within (group d arc.0) circle linked;
          along = refl;
        }

    pub circle_of_groups : (arcs : List (ℕ × ℕ)) → 0 < length arcs → AllJoin d (before_in_circle arcs) arcs
        → IsCircleAlong d arcs
    circle_of_groups [] some joined = absurd (omega arith)
    circle_of_groups (arc ∷ arcs) some joined = IsCircleAlong-joined arc arcs joined
