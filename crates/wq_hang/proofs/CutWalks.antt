-- A walk that meets a lane twice can be cut there, and costs less then.
use Rattle.std.proofs.Common.{◌≡◌, ◌≢◌, ℕ, zero, suc, ◌+◌, ◌*◌, ◌<◌, ◌≤◌, ◌⊎◌, inl, inr, Bool, true, false, cond, List}
use Rattle.std.proofs.Common.{[], ◌∷◌, ◌++◌, length, refl, sym, ap, subst, ◌∙◌, arith}
use Rattle.std.specs.Prelude.{flat_map, filter, slice_index_or, if◌then◌else◌, ◌==◌, Contains}
use Rattle.std.proofs.lemmas.List.{append-nil, append_assoc, length-append}
use Rattle.std.proofs.lemmas.List.Elements.{filter-append}
use Rattle.wq_core.specs.Wiring.{Wiring, HasRescuer, lane_of}
use Rattle.wq_hang.specs.declared.hop.Hop.{Hop}
use Rattle.wq_hang.specs.Walk.{IsHop, IsPath, target_beside, unsure_hops}
use Rattle.wq_hang.specs.WalkFor.{HoldsUp, MeetsRound, MeetsBare, IsWalkFor, once, named_beside, pending_beside}
use Rattle.wq_hang.specs.WalkFor.{pending_for, cost_for}
use Rattle.wq_hang.proofs.Apart.{Avoids, Apart, In, cases_In, not_in, Apart-append, In-append_left, In-append_right}
use Rattle.wq_hang.proofs.Once.{once-In, length-once}
use Rattle.wq_hang.proofs.Declared.{beside_cases}
use Rattle.wq_hang.proofs.LeastWalks.{lanes_from, IsPath-append, redirect, redirect-some, redirect-path}
use Rattle.wq_hang.proofs.WalkRuns.{items_of, In-append}
use Rattle.wq_hang.proofs.Shortest.{path_first}

-- ---- where the hops of a walk lead

-- the hops lead on from an item that is on the lane of x
pub record LeadsFrom (w : Wiring) (x : ℕ) (hops : List Hop) : Type 0 where
  pub first : ℕ
  pub end : ℕ
  pub lane : lane_of w first ≡ lane_of w x
  pub path : IsPath w first hops end
  pub some : 0 < length hops
  pub to : In end (items_of hops) ⊎ (¬ HasRescuer w (lane_of w end))

item_later : (i : ℕ) (xs ys : List Hop) → In i (items_of ys) → In i (items_of (xs ++ ys))
item_later i [] ys there = there
item_later i (x ∷ xs) ys there = inr (item_later i xs ys there)

pub leads_from : (w : Wiring) (x : ℕ) (hops : List Hop) → HoldsUp w x hops
    → ((hops ≡ []) × (¬ HasRescuer w (lane_of w x))) ⊎ LeadsFrom w x hops
leads_from w x hops (inl bare) = inl bare
leads_from w x hops (inr (first, lane, inl meets)) =
    inr (record {
      first = first;
      end = meets.at;
      lane = lane;
      path = subst (λ (l : List Hop). IsPath w first l meets.at) (sym meets.are)
          (IsPath-append w first meets.at meets.at meets.way meets.round meets.leads meets.goes_round);
      some = omega (
        arith,
        meets.some,
        ap (λ (l : List Hop). length l) meets.are,
        length-append meets.way meets.round,
      );
      to = inl (subst (λ (l : List Hop). In meets.at (items_of l)) (sym meets.are)
          (item_later meets.at meets.way meets.round
          (path_first w meets.at meets.at meets.round meets.goes_round meets.some)));
    })
leads_from w x hops (inr (first, lane, inr meets)) =
    let h : Hop = meets.last in
    let last : IsPath w h.item (h ∷ []) h.next =
    (refl, meets.to_bare.hop, ap (lane_of w) meets.to_bare.next, refl) in
    inr (record {
      first = first;
      end = h.next;
      lane = lane;
      path = subst (λ (l : List Hop). IsPath w first l h.next) (sym meets.are)
          (IsPath-append w first h.item h.next meets.way (h ∷ []) meets.leads last);
      some = omega (
        arith,
        ap (λ (l : List Hop). length l) meets.are,
        length-append meets.way (h ∷ []),
      );
      to = inr (λ rescuer. meets.to_bare.bare
          (subst (λ (i : ℕ). HasRescuer w (lane_of w i)) meets.to_bare.next rescuer));
    })

-- ---- lists of hops in parts

pub lanes_from-append : (w : Wiring) (xs ys : List Hop)
    → lanes_from w (xs ++ ys) ≡ lanes_from w xs ++ lanes_from w ys
lanes_from-append w [] ys = refl
lanes_from-append w (x ∷ xs) ys = ap (λ (l : List ℕ). lane_of w x.item ∷ l) (lanes_from-append w xs ys)

-- one more hop, from a lane that the others don't leave
pub Apart-hop : (w : Wiring) (hops : List Hop) (h : Hop) → Apart (lanes_from w hops)
    → Avoids (lane_of w h.item) (lanes_from w hops) → Apart (lanes_from w (hops ++ (h ∷ [])))
Apart-hop w hops h apart new =
    subst Apart (sym (lanes_from-append w hops (h ∷ [])))
    (Apart-append (lanes_from w hops) (lane_of w h.item ∷ []) apart (tt, tt) (λ x there. (
      (λ is. not_in (lane_of w h.item) (lanes_from w hops) new
          (subst (λ (y : ℕ). In y (lanes_from w hops)) is there)),
      tt,
    )))

-- the hops before the first one that leaves a lane for the second time
record Again (w : Wiring) (hops : List Hop) : Type 0 where
  before : List Hop
  hop : Hop
  after : List Hop
  parts : hops ≡ before ++ (hop ∷ after)
  apart : Apart (lanes_from w before)
  again : In (lane_of w hop.item) (lanes_from w before)

again_from : (w : Wiring) (before hops : List Hop) → Apart (lanes_from w before)
    → Apart (lanes_from w (before ++ hops)) ⊎ Again w (before ++ hops)
again_from w before [] apart =
    inl (subst (λ (l : List Hop). Apart (lanes_from w l)) (sym (append-nil before)) apart)
again_from w before (h ∷ hops) apart = elim (cases_In (lane_of w h.item) (lanes_from w before)) [
  | inl there ↦ inr (record {
    before = before;
    hop = h;
    after = hops;
    parts = refl;
    apart = apart;
    again = there;
  })
  | inr new ↦ subst (λ (l : List Hop). Apart (lanes_from w l) ⊎ Again w l) (append_assoc before (h ∷ []) hops)
      (again_from w (before ++ (h ∷ [])) hops (Apart-hop w before h apart new))
]

-- a hop from this lane, with what comes before and after
pub record LeavesAt (w : Wiring) (q : ℕ) (hops : List Hop) : Type 0 where
  pub before : List Hop
  pub hop : Hop
  pub after : List Hop
  pub parts : hops ≡ before ++ (hop ∷ after)
  pub lane : lane_of w hop.item ≡ q

pub leaves_at : (w : Wiring) (q : ℕ) (hops : List Hop) → In q (lanes_from w hops) → LeavesAt w q hops
leaves_at w q [] there = absurd there
leaves_at w q (h ∷ hops) (inl same) =
    record { before = []; hop = h; after = hops; parts = refl; lane = sym same }
leaves_at w q (h ∷ hops) (inr later) =
    let at = leaves_at w q hops later in
    record {
      before = h ∷ at.before;
      hop = at.hop;
      after = at.after;
      parts = ap (λ (l : List Hop). h ∷ l) at.parts;
      lane = at.lane;
    }

-- a path leads to each of its hops, and on from there
pub path_parts : (w : Wiring) (i j : ℕ) (xs : List Hop) (h : Hop) (ys : List Hop) → IsPath w i (xs ++ (h ∷ ys)) j
    → IsPath w i xs h.item × IsPath w h.item (h ∷ ys) j
path_parts w i j [] h ys path = (sym path.0, (refl, path.1, path.2, path.3))
path_parts w i j (x ∷ xs) h ys path =
    let rest = path_parts w x.next j xs h ys path.3 in
    ((path.0, path.1, path.2, rest.0), rest.1)

-- the items of a path to a lane that has a rescuer are on such lanes
pub path_rescuer : (w : Wiring) (i j : ℕ) (hops : List Hop) → IsPath w i hops j → HasRescuer w (lane_of w j)
    → HasRescuer w (lane_of w i)
path_rescuer w i j [] path rescuer = subst (λ (k : ℕ). HasRescuer w (lane_of w k)) (sym path) rescuer
path_rescuer w i j (h ∷ hops) path rescuer = subst (λ (k : ℕ). HasRescuer w (lane_of w k)) path.0 path.1.rescuer

-- ---- the last hop leads elsewhere

lanes_from-redirected : (w : Wiring) (y : ℕ) (g : Hop) (hops : List Hop)
    → lanes_from w (redirect y g hops) ≡ lanes_from w (g ∷ hops)
lanes_from-redirected w y g [] = refl
lanes_from-redirected w y g (h ∷ hops) =
    ap (λ (l : List ℕ). lane_of w g.item ∷ l) (lanes_from-redirected w y h hops)

length-redirected : (y : ℕ) (g : Hop) (hops : List Hop) → length (redirect y g hops) ≡ length (g ∷ hops)
length-redirected y g [] = refl
length-redirected y g (h ∷ hops) =
    let rest : length (redirect y h hops) ≡ length (h ∷ hops) = length-redirected y h hops in
    omega arith

-- how many of them are unsure depends on their flushes alone
one_more : (u : Bool) (g h : Hop) (xs ys : List Hop) → length xs ≡ length ys
    → length (cond u (g ∷ xs) xs) ≡ length (cond u (h ∷ ys) ys)
one_more true g h xs ys same = omega arith
one_more false g h xs ys same = same

unsure-redirected : (y : ℕ) (g : Hop) (hops : List Hop)
    → length (unsure_hops (redirect y g hops)) ≡ length (unsure_hops (g ∷ hops))
unsure-redirected y g [] = one_more g.flush.unsure (record g { next = y }) g [] [] refl
unsure-redirected y g (h ∷ hops) =
    one_more g.flush.unsure g g (unsure_hops (redirect y h hops)) (unsure_hops (h ∷ hops))
    (unsure-redirected y h hops)

pub unsure-append : (xs ys : List Hop)
    → length (unsure_hops (xs ++ ys)) ≡ length (unsure_hops xs) + length (unsure_hops ys)
unsure-append xs ys =
    ap (λ (l : List Hop). length l) (filter-append (λ (h : Hop). h.flush.unsure) xs ys)
    ∙ length-append (unsure_hops xs) (unsure_hops ys)

-- ---- what is pending

-- nothing, or the target of the hop
pub pending_cases : (w : Wiring) (h : Hop)
    → (pending_beside w h ≡ []) ⊎ (pending_beside w h ≡ h.flush.item ∷ [])
pending_cases w h = by (slice_index_or w.bare (lane_of w h.flush.item) false) (beside_cases h)
  where
    by : (b : Bool) → ((target_beside h ≡ []) × (h.flush.whole ≡ false → h.flush.item ≡ h.next))
        ⊎ ((target_beside h ≡ h.flush.item ∷ []) × (h.flush.item ≢ h.next))
        → ((if b then h.flush.item ∷ [] else target_beside h) ≡ [])
        ⊎ ((if b then h.flush.item ∷ [] else target_beside h) ≡ h.flush.item ∷ [])
    by true cases = inr refl
    by false (inl none) = inl none.0
    by false (inr one) = inr one.0

pub pending_target : (w : Wiring) (h : Hop) (i : ℕ) → In i (pending_beside w h) → i ≡ h.flush.item
pending_target w h i there = elim (pending_cases w h) [
  | inl none ↦ absurd (subst (λ (l : List ℕ). In i l) none there)
  | inr one ↦ elim (subst (λ (l : List ℕ). In i l) one there) [ inl same ↦ same | inr later ↦ absurd later ]
]

-- the target of the last hop
abbrev last_target : Hop → List Hop → ℕ
last_target g [] = g.flush.item
last_target g (h ∷ hops) = last_target h hops

pending-redirected : (w : Wiring) (y : ℕ) (g : Hop) (hops : List Hop) (i : ℕ)
    → In i (flat_map (pending_beside w) (redirect y g hops))
    → (i ≡ last_target g hops) ⊎ In i (flat_map (pending_beside w) (g ∷ hops))
pending-redirected w y g [] i there = elim (In-append i (pending_beside w (record g { next = y })) [] there) [
  | inl here ↦ inl (pending_target w (record g { next = y }) i here)
  | inr later ↦ absurd later
]
pending-redirected w y g (h ∷ hops) i there =
    elim (In-append i (pending_beside w g) (flat_map (pending_beside w) (redirect y h hops)) there) [
      | inl here ↦ inr (In-append_left i (pending_beside w g) (flat_map (pending_beside w) (h ∷ hops)) here)
      | inr later ↦ elim (pending-redirected w y h hops i later) [
        | inl last ↦ inl last
        | inr old ↦ inr (In-append_right i (pending_beside w g) (flat_map (pending_beside w) (h ∷ hops)) old)
      ]
    ]

-- the first of the hops stays
named-redirected : (x y : ℕ) (xs : List Hop) (g : Hop) (ys more : List Hop)
    → named_beside x (xs ++ redirect y g ys) ≡ named_beside x ((xs ++ (g ∷ ys)) ++ more)
named-redirected x y [] g [] more = refl
named-redirected x y [] g (h ∷ ys) more = refl
named-redirected x y (f ∷ xs) g ys more = refl

pub In-flat_left : {X : Type 0} (f : X → List ℕ) (i : ℕ) (xs ys : List X) → In i (flat_map f xs)
    → In i (flat_map f (xs ++ ys))
In-flat_left f i [] ys there = absurd there
In-flat_left f i (x ∷ xs) ys there = elim (In-append i (f x) (flat_map f xs) there) [
  | inl here ↦ In-append_left i (f x) (flat_map f (xs ++ ys)) here
  | inr later ↦ In-append_right i (f x) (flat_map f (xs ++ ys)) (In-flat_left f i xs ys later)
]

pub In-flat_right : {X : Type 0} (f : X → List ℕ) (i : ℕ) (xs ys : List X) → In i (flat_map f ys)
    → In i (flat_map f (xs ++ ys))
In-flat_right f i [] ys there = there
In-flat_right f i (x ∷ xs) ys there =
    In-append_right i (f x) (flat_map f (xs ++ ys)) (In-flat_right f i xs ys there)

pub In-flat_append : {X : Type 0} (f : X → List ℕ) (i : ℕ) (xs ys : List X) → In i (flat_map f (xs ++ ys))
    → In i (flat_map f xs) ⊎ In i (flat_map f ys)
In-flat_append f i [] ys there = inr there
In-flat_append f i (x ∷ xs) ys there = elim (In-append i (f x) (flat_map f (xs ++ ys)) there) [
  | inl here ↦ inl (In-append_left i (f x) (flat_map f xs) here)
  | inr later ↦ elim (In-flat_append f i xs ys later) [
    | inl one ↦ inl (In-append_right i (f x) (flat_map f xs) one)
    | inr other ↦ inr other
  ]
]

-- ---- the walk as far as the lane that is met again, and round from there

module _ (w : Wiring) (x y : ℕ) (xs : List Hop) (g : Hop) (ys more : List Hop) where
  abbrev short : List Hop
  short = xs ++ redirect y g ys

  abbrev long : List Hop
  long = (xs ++ (g ∷ ys)) ++ more

  abbrev beside_short : List ℕ
  beside_short = named_beside x short ++ flat_map (pending_beside w) short

  abbrev beside_long : List ℕ
  beside_long = named_beside x long ++ flat_map (pending_beside w) long

  old_or_last : (i : ℕ) → In i beside_short → In i (last_target g ys ∷ once beside_long)
  old_or_last i there =
      elim (In-append i (named_beside x short) (flat_map (pending_beside w) short) there) [
        | inl here ↦ inr (once-In i beside_long (In-append_left i (named_beside x long)
            (flat_map (pending_beside w) long)
            (subst (λ (l : List ℕ). In i l) (named-redirected x y xs g ys more) here)))
        | inr later ↦ elim (In-flat_append (pending_beside w) i xs (redirect y g ys) later) [
          | inl before ↦ old (In-flat_left (pending_beside w) i xs (g ∷ ys) before)
          | inr after ↦ elim (pending-redirected w y g ys i after) [
            | inl last ↦ inl last
            | inr was ↦ old (In-flat_right (pending_beside w) i xs (g ∷ ys) was)
          ]
        ]
      ]
    where
      old : In i (flat_map (pending_beside w) (xs ++ (g ∷ ys))) → In i (last_target g ys ∷ once beside_long)
      old was = inr (once-In i beside_long (In-append_right i (named_beside x long)
          (flat_map (pending_beside w) long) (In-flat_left (pending_beside w) i (xs ++ (g ∷ ys)) more was)))

  cost-short : 0 < length more → cost_for w x short < cost_for w x long
  cost-short some =
      let pending : length (once beside_short) ≤ length (last_target g ys ∷ once beside_long) =
      length-once beside_short (last_target g ys ∷ once beside_long) old_or_last in
      omega (
        arith,
        some,
        pending,
        length-append xs (redirect y g ys),
        length-redirected y g ys,
        length-append (xs ++ (g ∷ ys)) more,
        length-append xs (g ∷ ys),
        unsure-append xs (redirect y g ys),
        unsure-redirected y g ys,
        unsure-append (xs ++ (g ∷ ys)) more,
        unsure-append xs (g ∷ ys),
      )

lanes_from-short : (w : Wiring) (y : ℕ) (xs : List Hop) (g : Hop) (ys : List Hop)
    → lanes_from w (xs ++ redirect y g ys) ≡ lanes_from w (xs ++ (g ∷ ys))
lanes_from-short w y [] g ys = lanes_from-redirected w y g ys
lanes_from-short w y (x ∷ xs) g ys = ap (λ (l : List ℕ). lane_of w x.item ∷ l) (lanes_from-short w y xs g ys)

-- what is cut off a walk that meets a lane twice
pub record IsCut (w : Wiring) (x : ℕ) (hops others : List Hop) : Type 0 where
  pub holds_up : HoldsUp w x others
  pub apart : Apart (lanes_from w others)
  pub cheaper : cost_for w x others < cost_for w x hops

cut_at : (w : Wiring) (x : ℕ) (hops : List Hop) → LeadsFrom w x hops → Again w hops
    → (others : List Hop) × IsCut w x hops others
cut_at w x hops from is =
    let at = leaves_at w (lane_of w is.hop.item) is.before is.again in
    let g : Hop = at.hop in
    let more : List Hop = is.hop ∷ is.after in
    let before : is.before ≡ at.before ++ (g ∷ at.after) = at.parts in
    let all : hops ≡ (at.before ++ (g ∷ at.after)) ++ more =
    is.parts ∙ ap (λ (l : List Hop). l ++ more) before in
    let whole : IsPath w from.first (is.before ++ (is.hop ∷ is.after)) from.end =
    subst (λ (l : List Hop). IsPath w from.first l from.end) is.parts from.path in
    let to : IsPath w from.first is.before is.hop.item =
    (path_parts w from.first from.end is.before is.hop is.after whole).0 in
    let parts = path_parts w from.first is.hop.item at.before g at.after
    (subst (λ (l : List Hop). IsPath w from.first l is.hop.item) before to) in
    let others : List Hop = at.before ++ redirect g.item g at.after in (
      others,
      record {
        holds_up = inr (
          from.first,
          from.lane,
          inl (record {
            way = at.before;
            round = redirect g.item g at.after;
            at = g.item;
            are = refl;
            leads = parts.0;
            some = redirect-some g.item g at.after;
            goes_round = redirect-path w g.item is.hop.item g.item g at.after parts.1 at.lane;
          }),
        );
        apart = subst Apart (sym (lanes_from-short w g.item at.before g at.after))
            (subst (λ (l : List Hop). Apart (lanes_from w l)) before is.apart);
        cheaper = subst (λ (l : List Hop). cost_for w x others < cost_for w x l) (sym all)
            (cost-short w x g.item at.before g at.after more (omega arith));
      },
    )

-- a walk meets no lane twice, or another one costs less, for the same item, and meets none twice
pub cut : (w : Wiring) (x : ℕ) (hops : List Hop) → HoldsUp w x hops
    → Apart (lanes_from w hops) ⊎ ((others : List Hop) × IsCut w x hops others)
cut w x hops holds = elim (leads_from w x hops holds) [
  | inl none ↦ inl (subst (λ (l : List Hop). Apart (lanes_from w l)) (sym none.0) tt)
  | inr from ↦ elim (again_from w [] hops tt) [
    | inl apart ↦ inl apart
    | inr again ↦ inr (cut_at w x hops from again)
  ]
]
