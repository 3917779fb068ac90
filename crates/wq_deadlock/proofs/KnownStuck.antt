-- What is known about stuck lanes while a machine is played: that they can't move, and which item lists them.
use Rattle.std.proofs.Common.{◌≡◌, ◌≢◌, ℕ, zero, suc, ◌+◌, ◌<◌, inl, inr, Bool, true, false, List, [], ◌∷◌}
use Rattle.std.proofs.Common.{◌++◌, length, get_or, map, set, replicate, Some, None, Option, refl}
use Rattle.std.proofs.Common.{sym, ap, subst, ◌∙◌, arith, below_more}
use Rattle.std.specs.Prelude.{Contains, IfSome}
use Rattle.std.proofs.lemmas.Bool.{cases_eq}
use Rattle.std.proofs.lemmas.List.{
  get_or-map,
  get_or-set_same,
  get_or-set_other,
  length-map,
  length-set,
  length-replicate,
  map-set,
}
use Rattle.std.proofs.lemmas.List.Elements.{Contains-push, Contains-append_left}
use Rattle.wq_core.specs.declared.entry.Waiting.{Waiting}
use Rattle.wq_core.specs.declared.step.Step.{Step}
use Rattle.wq_core.specs.declared.step.Step.TheVariants.{
  Queue,
  Cancel,
  Start,
  Wait,
  Over,
  WaitAll,
  OverAll,
  Finish,
  Help,
}
use Rattle.wq_core.specs.Wiring.{Wiring, items}
use Rattle.wq_core.specs.State.{Lane, State, Runs}
use Rattle.wq_core.specs.Rules.{IsHolder, Lawful, over_of, effect}
use Rattle.wq_core.specs.Held.{IsSoundState}
use Rattle.wq_core.specs.Played.{IsDeclaredStep, HasNoDeclaredStep}
use Rattle.wq_core.proofs.DeclaredSteps.{IsDeclaredStep-over}
use Rattle.wq_core.proofs.Machines.{running-item}
use Rattle.smallvec.specs.SmallVec.{SmallVec}
use Rattle.wq_deadlock.specs.Stuck.{
  StuckLanes,
  Awaits,
  IsHeldBackBy,
  IsKnown,
  IsAfter,
  IsReleased,
  held_back_by,
  with_waiting,
  with_stuck,
}
use Rattle.wq_deadlock.proofs.Kept.{LeavesItem, IsHolder-step, lane_at-other, HasNoDeclaredStep-other}

-- ---- lanes that are forgotten

-- what is left of what was known, after these lanes
pub record Forgotten (old new : List Bool) (lanes : List ℕ) : Type 0 where
  pub size : length new ≡ length old
  pub left : (q : ℕ) → get_or new q false ≡ true → (get_or old q false ≡ true) × (¬ Contains lanes q)

-- ---- what is known

-- a lane that is known to be stuck can't move, and if it waits, it is listed by an item that holds its wait back
pub record KnowsStuck (w : Wiring) (s : State) (stuck : StuckLanes) : Type 0 where
  pub each_lane : length stuck.known ≡ w.lanes
  pub each_item : length stuck.waiting ≡ items w
  pub still : (q : ℕ) → IsKnown stuck q → HasNoDeclaredStep w s q
  pub listed : (q : ℕ) (f : Waiting) → IsKnown stuck q → Awaits s q f → (i : ℕ) × IsHolder w s f.whole f.target f.mark i
      × Contains (held_back_by stuck i) q

none_known : (n q : ℕ) → get_or (replicate n false) q false ≡ false
none_known zero q = refl
none_known (suc n) zero = refl
none_known (suc n) (suc q) = none_known n q

pub KnowsStuck-start : (w : Wiring) (s : State) (stuck : StuckLanes) (lanes count : ℕ) → stuck.known ≡ replicate lanes
    false → stuck.waiting ≡ replicate count [] → lanes ≡ w.lanes → count ≡ items w → KnowsStuck w s stuck
KnowsStuck-start w s stuck lanes count known waiting all_lanes all_items = record {
  each_lane = ap length known ∙ length-replicate lanes false ∙ all_lanes;
  each_item = ap length waiting ∙ length-replicate count [] ∙ all_items;
  still = λ q is. absurd (never q is);
  listed = λ q f is awaits. absurd (never q is);
}
  where
    never : (q : ℕ) → IsKnown stuck q → ⊥
    never q is = let both : false ≡ true = sym (none_known lanes q) ∙ ap (λ (bs : List Bool). get_or bs q false)
        (sym known) ∙ is in cc

-- ---- a lane is found to be stuck

module _ (w : Wiring) (s : State) (stuck : StuckLanes) (q : ℕ) (holder : Option ℕ) (knows : KnowsStuck w s stuck) where
  known_before : (p : ℕ) → p ≢ q → IsKnown (with_stuck stuck q holder) p → IsKnown stuck p
  known_before p other is = sym (get_or-set_other stuck.known q p true false other) ∙ is

  length_waiting : (o : Option ℕ) → length (with_waiting stuck.waiting q o) ≡ length stuck.waiting
  length_waiting None = refl
  length_waiting (Some i) = length-set stuck.waiting i (held_back_by stuck i ++ (q ∷ []))

  -- the list of an item that is found to hold back the lane
  own_list : (i : ℕ) → i < length stuck.waiting → get_or (with_waiting stuck.waiting q (Some i)) i [] ≡ held_back_by
      stuck i ++ (q ∷ [])
  own_list i within = get_or-set_same stuck.waiting i (held_back_by stuck i ++ (q ∷ [])) [] within

  stays_listed : (o : Option ℕ) → IfSome o (λ j. j < length stuck.waiting) → (i p : ℕ) → Contains (held_back_by stuck i)
      p → Contains (get_or (with_waiting stuck.waiting q o) i []) p
  stays_listed None within i p there = there
  stays_listed (Some j) within i p there = elim (cases_eq i j) [
    | inl same ↦ (
        let here : Contains (held_back_by stuck j) p = subst (λ (k : ℕ). Contains (held_back_by stuck k) p) same there
        in
        let longer : Contains (get_or (with_waiting stuck.waiting q (Some j)) j []) p = subst
        (λ (l : List ℕ). Contains l p) (sym (own_list j within))
        (Contains-append_left (held_back_by stuck j) (q ∷ []) p here) in
        subst (λ (k : ℕ). Contains (get_or (with_waiting stuck.waiting q (Some j)) k []) p) (sym same) longer
        )
    | inr other ↦ subst (λ (l : List ℕ). Contains l p) (sym (get_or-set_other stuck.waiting j i
        (held_back_by stuck j ++ (q ∷ [])) [] other)) there
  ]

  pub KnowsStuck-noted : HasNoDeclaredStep w s q → IfSome holder (λ i. i < items w) →
      ((f : Waiting) → Awaits s q f → IsHeldBackBy w s f holder) → KnowsStuck w s (with_stuck stuck q holder)
  KnowsStuck-noted none below held = record {
    each_lane = length-set stuck.known q true ∙ knows.each_lane;
    each_item = length_waiting holder ∙ knows.each_item;
    still = λ p is. elim (cases_eq p q) [
      | inl same ↦ subst (HasNoDeclaredStep w s) (sym same) none
      | inr other ↦ knows.still p (known_before p other is)
    ];
    listed = listed;
  }
    where
      within : IfSome holder (λ j. j < length stuck.waiting)
      within = subst (λ (n : ℕ). IfSome holder (λ j. j < n)) (sym knows.each_item) below

      -- a lane that waits and can't move is held back, so an item was found
      found : (o : Option ℕ) → IfSome o (λ j. j < length stuck.waiting) → (f : Waiting) → Awaits s q f → IsHeldBackBy w
          s f o
          → (i : ℕ) × IsHolder w s f.whole f.target f.mark i × Contains (get_or (with_waiting stuck.waiting q o) i []) q
      found None fits f awaits done = absurd (none (over_of f.whole q f.target)
          (IsDeclaredStep-over w s q awaits.0 awaits.1 f awaits.2 done))
      found (Some i) fits f awaits is = (
        i,
        is,
        subst (λ (l : List ℕ). Contains l q) (sym (own_list i fits))
            (Contains-push (held_back_by stuck i) q),
      )

      listed : (p : ℕ) (f : Waiting) → IsKnown (with_stuck stuck q holder) p → Awaits s p f
          → (i : ℕ) × IsHolder w s f.whole f.target f.mark i × Contains (held_back_by (with_stuck stuck q holder) i) p
      listed p f is awaits = elim (cases_eq p q) [
        | inl same ↦ (
            let here : Awaits s q f = subst (λ (k : ℕ). Awaits s k f) same awaits in
            let at = found holder within f here (held f here) in
            (at.0, at.1, subst (λ (k : ℕ). Contains (held_back_by (with_stuck stuck q holder) at.0) k) (sym same) at.2)
            )
        | inr other ↦ (let at = knows.listed p f (known_before p other is) awaits in
            (at.0, at.1, stays_listed holder within at.0 p at.2))
      ]

-- all lanes below q are known, and then q, too
pub known-more : (stuck : StuckLanes) (q lane : ℕ) (holder : Option ℕ) → lane ≡ q → q < length stuck.known
    → ((p : ℕ) → p < q → IsKnown stuck p) → (p : ℕ) → p < q + 1 → IsKnown (with_stuck stuck lane holder) p
known-more stuck q lane holder at within below =
    subst (λ (n : ℕ). (p : ℕ) → p < q + 1 → IsKnown (with_stuck stuck n holder) p) (sym at)
    (below_more (λ p. IsKnown (with_stuck stuck q holder) p) q stays (get_or-set_same stuck.known q true false within))
  where
    stays : (p : ℕ) → p < q → IsKnown (with_stuck stuck q holder) p
    stays p lt = get_or-set_other stuck.known q p true false (λ same. omega (arith, lt, same)) ∙ below p lt

-- ---- a lane makes a step

module _ (w : Wiring) (s : State) (q : ℕ) (step : Step) (stuck : StuckLanes) (knows : KnowsStuck w s stuck)
    (sound : IsSoundState w s) (is : IsDeclaredStep w s q step) where
  -- the lane isn't known to be stuck
  moved_other : (p : ℕ) → IsKnown stuck p → p ≢ q
  moved_other p known same = knows.still q (subst (IsKnown stuck) same known) step is

  -- a lane stays known only where no item that lists it is finished, and then it stays listed
  KnowsStuck-moved : (new : StuckLanes) → length new.known ≡ length stuck.known → length new.waiting ≡ length
      stuck.waiting → ((p : ℕ) → IsKnown new p → IsKnown stuck p)
      → ((p i : ℕ) → IsKnown new p → Contains (held_back_by stuck i) p → LeavesItem q step i × Contains
      (held_back_by new i) p) → KnowsStuck w (effect w s step) new
  KnowsStuck-moved new lanes lists before lists_it = record {
    each_lane = lanes ∙ knows.each_lane;
    each_item = lists ∙ knows.each_item;
    still = λ p known. HasNoDeclaredStep-other w s q step sound is p (moved_other p (before p known))
        (λ j made f awaits. let at = held p f known awaits in (at.0, at.1, at.2)) (knows.still p (before p known));
    listed = λ p f known awaits.
        let here : Awaits s p f = (
          awaits.0,
          subst (λ (l : Lane). Runs l awaits.0)
              (lane_at-other w s q step is p (moved_other p (before p known))) awaits.1,
          awaits.2,
        ) in
        let at = held p f known here in
        (at.0, IsHolder-step w s q step sound is f.whole f.target f.mark at.0 at.2 at.1, at.3);
  }
    where
      held : (p : ℕ) (f : Waiting) → IsKnown new p → Awaits s p f → (i : ℕ) × IsHolder w s f.whole f.target f.mark i ×
          LeavesItem q step i × Contains (held_back_by new i) p
      held p f known awaits =
          let at = knows.listed p f (before p known) awaits in
          let kept = lists_it p at.0 known at.2 in
          (at.0, at.1, kept.0, kept.1)

  -- nothing is finished
  KnowsStuck-kept : ((j : ℕ) → ¬ (step ≡ Finish q j)) → KnowsStuck w (effect w s step) stuck
  KnowsStuck-kept nothing = KnowsStuck-moved stuck refl refl (λ p known. known)
      (λ p i known there. ((λ j made. absurd (nothing j made)), there))

  -- item i is finished
  KnowsStuck-released : (i : ℕ) (new : StuckLanes) → ((j : ℕ) → step ≡ Finish q j → i ≡ j) → IsReleased stuck i new →
      length new.known ≡ length stuck.known → KnowsStuck w (effect w s step) new
  KnowsStuck-released i new only released size =
      KnowsStuck-moved new size (ap length released.waiting ∙ length-set stuck.waiting i [])
      (λ p known. (released.known p known).0)
      (λ p k known there.
      let other : k ≢ i = λ same. (released.known p known).1
      (subst (λ (n : ℕ). Contains (held_back_by stuck n) p) same there) in
      let at : get_or new.waiting k [] ≡ held_back_by stuck k = ap (λ (l : List (List ℕ)). get_or l k [])
      released.waiting ∙ get_or-set_other stuck.waiting i k [] [] other in
      ((λ j made same. other (same ∙ sym (only j made))), subst (λ (l : List ℕ). Contains l p) (sym at) there))

pub KnowsStuck-step : (w : Wiring) (s : State) (q : ℕ) (step : Step) (stuck new : StuckLanes) → KnowsStuck w s stuck →
    IsSoundState w s → IsDeclaredStep w s q step → IsAfter stuck step new → length new.known ≡ length stuck.known
    → KnowsStuck w (effect w s step) new
KnowsStuck-step w s q (Queue i) stuck new knows sound is after size = absurd is.of_lane
KnowsStuck-step w s q (Cancel i) stuck new knows sound is after size = absurd is.of_lane
KnowsStuck-step w s q (Start k i) stuck new knows sound is after size = subst (KnowsStuck w (effect w s (Start k i)))
    (sym after) (KnowsStuck-kept w s q (Start k i) stuck knows sound is (λ j never. cc))
KnowsStuck-step w s q (Wait k b) stuck new knows sound is after size = subst (KnowsStuck w (effect w s (Wait k b)))
    (sym after) (KnowsStuck-kept w s q (Wait k b) stuck knows sound is (λ j never. cc))
KnowsStuck-step w s q (Over k b) stuck new knows sound is after size = subst (KnowsStuck w (effect w s (Over k b)))
    (sym after) (KnowsStuck-kept w s q (Over k b) stuck knows sound is (λ j never. cc))
KnowsStuck-step w s q (WaitAll k b) stuck new knows sound is after size = subst
    (KnowsStuck w (effect w s (WaitAll k b))) (sym after) (KnowsStuck-kept w s q (WaitAll k b) stuck knows sound is
    (λ j never. cc))
KnowsStuck-step w s q (OverAll k b) stuck new knows sound is after size = subst
    (KnowsStuck w (effect w s (OverAll k b))) (sym after) (KnowsStuck-kept w s q (OverAll k b) stuck knows sound is
    (λ j never. cc))
KnowsStuck-step w s q (Finish k i) stuck new knows sound is after size = KnowsStuck-released w s q (Finish k i) stuck
    knows sound is i new (λ j made. let same : i ≡ j = cc in same) after size
KnowsStuck-step w s q (Help k c deed) stuck new knows sound is after size = absurd is.of_lane

-- what is finished is an item
pub finished-within : (w : Wiring) (s : State) (q : ℕ) (step : Step) (stuck : StuckLanes) → IsSoundState w s →
    KnowsStuck w s stuck → IsDeclaredStep w s q step → (p i : ℕ) → step ≡ Finish p i → i < length stuck.waiting
finished-within w s q step stuck sound knows is p i made =
    let (r, runs, may) = subst (λ (x : Step). Lawful w s x) made is.lawful in
    omega (arith, running-item w s p 0 r sound runs, may.entry, knows.each_item)

-- ---- how it is kept

module _ (known : List Bool) (lists : List (SmallVec ℕ)) (now : StuckLanes)
    (view : record { known = known; waiting = map (λ (v : SmallVec ℕ). v.items) lists } ≡ now) where
  abbrev shown : List (List ℕ)
  shown = map (λ (v : SmallVec ℕ). v.items) lists

  long : length shown ≡ length now.waiting
  long = ap (λ (s : StuckLanes). length s.waiting) view

  pub noted-view : (q place_q i place : ℕ) (list new : SmallVec ℕ) (holder : Option ℕ) → place_q ≡ q → place ≡ i →
      holder ≡ Some i → IfSome holder (λ j. j < length now.waiting) → list ≡ get_or lists place list
      → new.items ≡ list.items ++ (q ∷ []) → record {
        known = set known place_q true;
        waiting = map
            (λ (v : SmallVec ℕ). v.items) (set lists place new);
      } ≡ with_stuck now q holder
  noted-view q place_q i place list new holder at_q at is within read pushed =
      let fits : i < length now.waiting = subst (λ (o : Option ℕ). IfSome o (λ j. j < length now.waiting)) is within in
      let inside : place < length lists = omega (arith, fits, at, long, length-map lists (λ (v : SmallVec ℕ). v.items))
      in
      let was : list.items ≡ get_or shown place [] = ap (λ (v : SmallVec ℕ). v.items) read ∙ sym
      (get_or-map (λ (v : SmallVec ℕ). v.items) lists place list [] inside) in
      let grown : map (λ (v : SmallVec ℕ). v.items) (set lists place new) ≡ set shown place
      (get_or shown place [] ++ (q ∷ [])) =
      map-set (λ (v : SmallVec ℕ). v.items) lists place new ∙ ap (λ (l : List ℕ). set shown place l)
      (pushed ∙ ap (λ (l : List ℕ). l ++ (q ∷ [])) was) in
      let first : set known place_q true ≡ set known q true = ap (λ n. set known n true) at_q in
      let second : map (λ (v : SmallVec ℕ). v.items) (set lists place new) ≡ with_waiting shown q holder =
      grown ∙ ap (λ n. set shown n (get_or shown n [] ++ (q ∷ []))) at ∙ ap (λ (o : Option ℕ). with_waiting shown q o)
      (sym is) in
      let both : record {
        known = set known place_q true;
        waiting = map (λ (v : SmallVec ℕ). v.items)
            (set lists place new);
      } ≡ with_stuck (record { known = known; waiting = shown }) q holder =
      λ t. record { known = first t; waiting = second t } in
      both ∙ ap (λ (s : StuckLanes). with_stuck s q holder) view

  pub released-view : (i place : ℕ) (list new : SmallVec ℕ) (lanes : List ℕ) (left : List Bool) → place ≡ i → i < length
      now.waiting → list ≡ get_or lists place list → lanes ≡ list.items → new.items ≡ []
      → ((q : ℕ) → get_or left q false ≡ true → (get_or known q false ≡ true) × (¬ Contains lanes q)) → IsReleased now i
      (record { known = left; waiting = map (λ (v : SmallVec ℕ). v.items) (set lists place new) })
  released-view i place list new lanes left at within read all emptied each =
      let fits : place < length lists = omega (arith, within, at, long, length-map lists (λ (v : SmallVec ℕ). v.items))
      in
      let listed : get_or shown i [] ≡ lanes = ap (λ n. get_or shown n []) (sym at) ∙ get_or-map
      (λ (v : SmallVec ℕ). v.items) lists place list [] fits ∙ ap (λ (v : SmallVec ℕ). v.items) (sym read) ∙ sym all
      in
      let waiting : map (λ (v : SmallVec ℕ). v.items) (set lists place new) ≡ set shown i [] = map-set
      (λ (v : SmallVec ℕ). v.items) lists place new ∙ ap (λ n. set shown n new.items) at ∙ ap
      (λ (l : List ℕ). set shown i l) emptied in
      subst (λ (s : StuckLanes). IsReleased s i (record {
        known = left;
        waiting = map (λ (v : SmallVec ℕ). v.items)
            (set lists place new);
      })) view
      (record {
        known = λ q is. let h = each q is in (h.0, subst (λ (l : List ℕ). ¬ Contains l q) (sym listed) h.1);
        waiting = waiting;
      })
