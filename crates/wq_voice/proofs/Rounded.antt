-- What is said of components, one after another.
use Rattle.std.proofs.Common.{◌≡◌, inl, inr, ℕ, zero, suc, ◌<◌, ◌+◌, List, [], ◌∷◌, ◌++◌, length, map, take, get_or}
use Rattle.std.proofs.Common.{append-nil, Bool, true, false, cond, Option, Some, None, refl, sym, ap, subst, ◌∙◌, arith}
use Rattle.std.specs.Prelude.{flat_map, find, not, slice_get}
use Rattle.std.specs.List.{All}
use Rattle.std.specs.Option.{option_map_or, option_or}
use Rattle.std.proofs.lemmas.List.Elements.{All-tail}
use Rattle.std.proofs.lemmas.List.Folds.{find-append}
use Rattle.std.proofs.lemmas.List.{take_more, map_push}
use Rattle.std.proofs.lemmas.List.Concat.{flat_map-append}
use Rattle.wq_graph.specs.declared.arc.WaitArc.{WaitArc}
use Rattle.wq_core.specs.Workqueues.{Workqueues, wiring_of}
use Rattle.wq_hang.specs.declared.hop.Hop.{Hop}
use Rattle.wq_hang.specs.Walk.{BeginsUnsure, IsLeastRoundOn, IsRoundOn}
use Rattle.wq_groups.specs.DeclaredGroups.{declared_waits, Declared}
use Rattle.wq_voice.specs.Components.{first_of, first_told, hop_of, is_unsure, lanes_of, AddsRounds, AreRounds}
use Rattle.wq_voice.specs.Reasons.{can_hang_lead, told, AddsSaid}
use Rattle.wq_voice.proofs.Blocks.{AddsSaid-none, AddsSaid-then}

module _ (s : Declared) (ws : Workqueues) where
  -- the rounds of some components, and then of more components
  AreRounds-append : (some more : List (List WaitArc)) (rounds others : List (List Hop)) → AreRounds s ws some rounds → AreRounds s ws more others → AreRounds s ws (some ++ more) (rounds ++ others)
  AreRounds-append [] more rounds others none rest = subst (λ (r : List (List Hop)). AreRounds s ws more (r ++ others)) (sym none) rest
  AreRounds-append (arcs ∷ some) more rounds others (inl (hops, after, is, least, begins, found)) rest =
      inl (
        hops,
        after ++ others,
        ap (λ (r : List (List Hop)). r ++ others) is,
        least,
        begins,
        AreRounds-append some more after others found rest,
      )
  AreRounds-append (arcs ∷ some) more rounds others (inr (none, found)) rest = inr (none, AreRounds-append some more rounds others found rest)

  module _ (file : List ℕ) (words : Hop → List ℕ) where
    pub AddsRounds-none : (out : List ℕ) → AddsRounds file words s ws [] out out
    AddsRounds-none out = ([], refl, AddsSaid-none file out)

    -- the round of one component was added
    pub AddsRounds-some : (arcs : List WaitArc) (hops : List Hop) (old new : List ℕ) → IsLeastRoundOn (wiring_of (declared_waits s) ws) (lanes_of s ws arcs) hops
        → BeginsUnsure hops → AddsSaid file (told can_hang_lead words hops) old new
        → AddsRounds file words s ws (arcs ∷ []) old new
    AddsRounds-some arcs hops old new least begins said = (
      hops ∷ [],
      inl (hops, [], refl, least, begins, refl),
      subst (λ (whats : List (List ℕ)). AddsSaid file whats old new)
          (sym (append-nil (told can_hang_lead words hops))) said,
    )

    -- a component has none
    pub AddsRounds-other : (arcs : List WaitArc) (out : List ℕ) → ((hops : List Hop) → ¬ IsRoundOn (wiring_of (declared_waits s) ws) (lanes_of s ws arcs) hops)
        → AddsRounds file words s ws (arcs ∷ []) out out
    AddsRounds-other arcs out none = ([], inr (none, refl), AddsSaid-none file out)

    AddsRounds-then : (some more : List (List WaitArc)) (old middle new : List ℕ) → AddsRounds file words s ws some old middle → AddsRounds file words s ws more middle new
        → AddsRounds file words s ws (some ++ more) old new
    AddsRounds-then some more old middle new (rounds, found, first) (others, rest, then) = (
      rounds ++ others,
      AreRounds-append some more rounds others found rest,
      subst (λ (whats : List (List ℕ)). AddsSaid file whats old new)
          (sym (flat_map-append (told can_hang_lead words) rounds others))
          (AddsSaid-then file (flat_map (told can_hang_lead words) rounds) (flat_map (told can_hang_lead words) others)
          old middle new first then),
    )

    -- the rounds of some components are added, and then the round of the next one
    pub AddsRounds-next : {X : Type 0} (arcs_of : X → List WaitArc) (xs : List X) (k : ℕ) (x : X) (old middle new : List ℕ) → k < length xs → x ≡ get_or xs k x
        → AddsRounds file words s ws (map arcs_of (take k xs)) old middle → AddsRounds file words s ws (arcs_of x ∷ []) middle new
        → AddsRounds file words s ws (map arcs_of (take (k + 1) xs)) old new
    AddsRounds-next {X = X} arcs_of xs k x old middle new within is some one =
        let on : map arcs_of (take (k + 1) xs) ≡ map arcs_of (take k xs) ++ (arcs_of x ∷ []) =
        ap (map arcs_of) (take_more xs k x within) ∙ map_push arcs_of (take k xs) (get_or xs k x) ∙ ap (λ y. map arcs_of (take k xs) ++ (arcs_of y ∷ [])) (sym is) in
        subst (λ (components : List (List WaitArc)). AddsRounds file words s ws components old new) (sym on)
        (AddsRounds-then (map arcs_of (take k xs)) (arcs_of x ∷ []) old middle new some one)

-- ---- flushes to no rescuer

-- what holds of all holds of the one that is found
found-All : (P : WaitArc → Type 0) (p : WaitArc → Bool) (waits : List WaitArc) (a : WaitArc) → All P waits
    → find p waits ≡ Some a → P a
found-All P p [] a all is = absurd cc
found-All P p (b ∷ waits) a all is = by (p b) (found-All P p waits a (All-tail P b waits all)) is
  where
    by : (passes : Bool) → (find p waits ≡ Some a → P a) → cond passes (Some b) (find p waits) ≡ Some a → P a
    by true later e = (let same : b ≡ a = cc in subst P same (all 0 b (omega arith)))
    by false later e = later e

at-All : (P : WaitArc → Type 0) (waits : List WaitArc) (a : WaitArc) → All P waits → slice_get waits 0 ≡ Some a → P a
at-All P [] a all is = absurd cc
at-All P (b ∷ waits) a all is = let same : b ≡ a = cc in subst P same (all 0 b (omega arith))

-- what holds of all flushes holds of the one that is named
pub first_of-All : (P : WaitArc → Type 0) (s : Declared) (waits : List WaitArc) (a : WaitArc) → All P waits
    → Some a ≡ first_of s waits → P a
first_of-All P s waits a all is = by (find sure waits) refl (sym is)
  where
    sure : WaitArc → Bool
    sure = λ (b : WaitArc). not (is_unsure s.table.waits b.src b.place)

    by : (o : Option WaitArc) → find sure waits ≡ o → option_or o (slice_get waits 0) ≡ Some a → P a
    by None found e = at-All P waits a all e
    by (Some b) found e = let same : b ≡ a = cc in subst P same (found-All P sure waits b all found)

pub first_told-none : (words : Hop → List ℕ) (s : Declared) (waits : List WaitArc) → None ≡ first_of s waits
    → [] ≡ first_told words s waits
first_told-none words s waits is =
    ap (λ (o : Option WaitArc). option_map_or (λ a. told can_hang_lead words (hop_of s a ∷ [])) o []) is

pub first_told-some : (words : Hop → List ℕ) (s : Declared) (waits : List WaitArc) (a : WaitArc)
    → Some a ≡ first_of s waits → told can_hang_lead words (hop_of s a ∷ []) ≡ first_told words s waits
first_told-some words s waits a is =
    ap (λ (o : Option WaitArc). option_map_or (λ b. told can_hang_lead words (hop_of s b ∷ [])) o []) is

-- the first element that passes, if no element before it does
pub found-here : (p : WaitArc → Bool) (waits : List WaitArc) (k : ℕ) (a : WaitArc) → k < length waits
    → a ≡ get_or waits k a → find p (take k waits) ≡ None → p a ≡ true → Some a ≡ find p waits
found-here p [] k a within is none passes = absurd (omega (arith, within))
found-here p (b ∷ waits) zero a within is none passes =
    let here : p b ≡ true = subst (λ (x : WaitArc). p x ≡ true) is passes in
    ap (λ (x : WaitArc). Some x) is ∙ sym (ap (λ (c : Bool). cond c (Some b) (find p waits)) here)
found-here p (b ∷ waits) (suc k) a within is none passes =
    by (p b) refl none (λ rest. found-here p waits k a (omega (arith, within)) is rest passes)
  where
    by : (c : Bool) → p b ≡ c → cond c (Some b) (find p (take k waits)) ≡ None
        → (find p (take k waits) ≡ None → Some a ≡ find p waits) → Some a ≡ find p (b ∷ waits)
    by true here e later = absurd cc
    by false here e later = later e ∙ sym (ap (λ (c : Bool). cond c (Some b) (find p waits)) here)

-- one more doesn't pass
pub none-next : (p : WaitArc → Bool) (waits : List WaitArc) (k : ℕ) (a : WaitArc) → k < length waits
    → a ≡ get_or waits k a → find p (take k waits) ≡ None → p a ≡ false → find p (take (k + 1) waits) ≡ None
none-next p waits k a within is none fails =
    let x = get_or waits k a in
    let here : p x ≡ false = subst (λ (y : WaitArc). p y ≡ false) is fails in
    ap (find p) (take_more waits k a within) ∙ find-append p (take k waits) (x ∷ [])
    ∙ ap (λ (o : Option WaitArc). option_or o (find p (x ∷ []))) none ∙ ap (λ (c : Bool). cond c (Some x) None) here
