-- The first flush that leads to a bare lane, item by item and flush by flush.
use Rattle.std.proofs.Common.{◌≡◌, ℕ, ◌+◌, ◌<◌, ◌≤◌, ◌⊎◌, inl, inr, List, [], Option, Some, None, sym, subst, ◌∙◌}
use Rattle.std.proofs.Common.{arith}
use Rattle.std.specs.Prelude.{Contains, IfSome, IfNone}
use Rattle.std.proofs.lemmas.Bool.{cases_eq}
use Rattle.wq_items.specs.declared.target.Target.{Target}
use Rattle.wq_core.specs.Wiring.{Wiring, HasRescuer, items, lane_of, declared_by}
use Rattle.wq_core.proofs.Wirings.{cases_rescuer}
use Rattle.wq_hang.specs.declared.hop.Hop.{Hop}
use Rattle.wq_hang.specs.Walk.{ComesNoLater, IsHop, IsToBare, IsFirstToBare}
use Rattle.wq_hang.specs.Bare.{IsNotAfter, IsFirstBelow}
use Rattle.wq_hang.proofs.Declared.{declared-item}

-- of the hops of items below i, and of item i by these flushes, that lead to a bare lane the one whose flush is declared
-- first, if there is one
pub record IsFirstWith (w : Wiring) (i : ℕ) (flushes : List Target) (found : Option Hop) : Type 0 where
  pub some : IfSome found (IsToBare w)
  pub below : (g : Hop) → IsHop w g → (¬ HasRescuer w (lane_of w g.flush.item)) → g.item < i → IsNotAfter found g
  pub own : (g : Hop) → IsHop w g → (¬ HasRescuer w (lane_of w g.flush.item)) → g.item ≡ i → Contains flushes g.flush → IsNotAfter found g

pub IsFirstWith-none : (w : Wiring) (i : ℕ) (found : Option Hop) → IsFirstBelow w i found → IsFirstWith w i [] found
IsFirstWith-none w i found is = record { some = is.some; below = is.first; own = λ g hop bare item there. absurd (omega (arith, there.1)) }

-- a flush that leads to a lane that has a rescuer
pub IsFirstWith-kept : (w : Wiring) (i : ℕ) (before after : List Target) (t : Target) (found : Option Hop) → IsFirstWith w i before found → HasRescuer w (lane_of w t.item)
    → ((u : Target) → Contains after u → Contains before u ⊎ (t ≡ u)) → IsFirstWith w i after found
IsFirstWith-kept w i before after t found is rescuer more = record {
  some = is.some;
  below = is.below;
  own = λ g hop bare item there. elim (more g.flush there) [
    | inl old ↦ is.own g hop bare item old
    | inr same ↦ absurd (bare (subst (λ (u : Target). HasRescuer w (lane_of w u.item)) same rescuer))
  ];
}

-- the first of three comes before the last
ComesNoLater-trans : (t u v : Target) → ComesNoLater t u → ComesNoLater u v → ComesNoLater t v
ComesNoLater-trans t u v (inl one) (inl two) = inl (one.0 ∙ two.0, omega (arith, one.1, two.1))
ComesNoLater-trans t u v (inl one) (inr two) = inr (one.0 ∙ two.0, two.1)
ComesNoLater-trans t u v (inr one) (inl two) = inr (one.0, λ sure. one.1 (two.0 ∙ sure))
ComesNoLater-trans t u v (inr one) (inr two) = absurd (one.1 two.0)

not_after : (found : Option Hop) (n g : Hop) → IfSome found (λ f. ComesNoLater n.flush f.flush) → IsNotAfter found g
    → ComesNoLater n.flush g.flush
not_after None n g le is = absurd is
not_after (Some f) n g le is = ComesNoLater-trans n.flush f.flush g.flush le is

to_bare : (w : Wiring) (found : Option Hop) (h n : Hop) → IfSome found (IsToBare w) → IsToBare w h → (n ≡ h) ⊎ (found ≡ Some n) → IsToBare w n
to_bare w found h n some is (inl same) = subst (IsToBare w) (sym same) is
to_bare w found h n some is (inr same) = subst (λ (o : Option Hop). IfSome o (IsToBare w)) same some

-- a hop by a flush that leads to a bare lane, of which and what was found before this one is declared first
pub IsFirstWith-more : (w : Wiring) (i : ℕ) (before after : List Target) (h n : Hop) (found : Option Hop) → IsFirstWith w i before found → IsToBare w h
    → ((u : Target) → Contains after u → Contains before u ⊎ (h.flush ≡ u)) → (n ≡ h) ⊎ (found ≡ Some n)
    → ComesNoLater n.flush h.flush → IfSome found (λ f. ComesNoLater n.flush f.flush) → IsFirstWith w i after (Some n)
IsFirstWith-more w i before after h n found is to more either first least = record {
  some = to_bare w found h n is.some to either;
  below = λ g hop bare item. not_after found n g least (is.below g hop bare item);
  own = λ g hop bare item there. elim (more g.flush there) [
    | inl old ↦ not_after found n g least (is.own g hop bare item old)
    | inr same ↦ subst (λ (u : Target). ComesNoLater n.flush u) same first
  ];
}

-- all flushes of the item
pub IsFirstBelow-all : (w : Wiring) (i : ℕ) (flushes : List Target) (found : Option Hop) → IsFirstWith w i flushes found → ((u : Target) → Contains (declared_by w i) u → Contains flushes u) → IsFirstBelow w (i + 1) found
IsFirstBelow-all w i flushes found is all = record { some = is.some; first = first }
  where
    first : (g : Hop) → IsHop w g → (¬ HasRescuer w (lane_of w g.flush.item)) → g.item < i + 1 → IsNotAfter found g
    first g hop bare below = elim (cases_eq g.item i) [
      | inl same ↦ is.own g hop bare same (all g.flush (subst (λ (k : ℕ). Contains (declared_by w k) g.flush) same hop.declared))
      | inr other ↦ is.below g hop bare (omega arith)
    ]

-- an item on a bare lane
pub IsFirstBelow-bare : (w : Wiring) (i : ℕ) (found : Option Hop) → IsFirstBelow w i found → (¬ HasRescuer w (lane_of w i)) → IsFirstBelow w (i + 1) found
IsFirstBelow-bare w i found is on_bare = record { some = is.some; first = first }
  where
    first : (g : Hop) → IsHop w g → (¬ HasRescuer w (lane_of w g.flush.item)) → g.item < i + 1 → IsNotAfter found g
    first g hop bare below = elim (cases_eq g.item i) [
      | inl same ↦ absurd (on_bare (subst (λ (k : ℕ). HasRescuer w (lane_of w k)) same hop.rescuer))
      | inr other ↦ is.first g hop bare (omega arith)
    ]

pub IsFirstBelow-start : (w : Wiring) → IsFirstBelow w 0 None
IsFirstBelow-start w = record { some = tt; first = λ g hop bare below. absurd (omega (arith, below)) }

-- all items
pub IfSome-first : (w : Wiring) (n : ℕ) (found : Option Hop) → IsFirstBelow w n found → items w ≤ n → IfSome found (IsFirstToBare w)
IfSome-first w n None is enough = tt
IfSome-first w n (Some h) is enough = record { to_bare = is.some; first = λ g hop bare. is.first g hop bare (omega (arith, enough, declared-item w g.item g.flush hop.declared)) }

pub IfNone-first : (w : Wiring) (n : ℕ) (found : Option Hop) → IsFirstBelow w n found → items w ≤ n → IfNone found ((h : Hop) → IsHop w h → HasRescuer w (lane_of w h.flush.item))
IfNone-first w n None is enough = λ h hop. elim (cases_rescuer w (lane_of w h.flush.item)) [
  | inl has ↦ has
  | inr bare ↦ absurd (is.first h hop bare (omega (arith, enough, declared-item w h.item h.flush hop.declared)))
]
IfNone-first w n (Some h) is enough = tt
