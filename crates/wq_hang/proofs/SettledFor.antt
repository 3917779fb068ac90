-- A walk for an item whose hops wait by other flushes with the same words.
use Rattle.std.proofs.Common.{◌≡◌, ℕ, zero, suc, ◌+◌, ◌*◌, ◌<◌, ◌≤◌, ◌⊎◌, inl, inr, Bool, true, false, cond, List, []}
use Rattle.std.proofs.Common.{◌∷◌, ◌++◌, length, get_or, set, refl, sym, ap, subst, ◌∙◌, arith}
use Rattle.std.specs.Prelude.{Contains, flat_map, slice_index_or, if◌then◌else◌, ◌==◌, ◌||◌, ⊤}
use Rattle.std.proofs.lemmas.Bool.{cases_eq}
use Rattle.std.proofs.lemmas.List.{get_or-set_same, get_or-set_other, length-set}
use Rattle.wq_items.specs.declared.target.Target.{Target}
use Rattle.wq_core.specs.Wiring.{Wiring, HasRescuer, lane_of, declared_by}
use Rattle.wq_hang.specs.declared.hop.Hop.{Hop}
use Rattle.wq_hang.specs.Walk.{IsHop, IsPath, AreAlike, AreFirstAlike, target_beside, unsure_hops}
use Rattle.wq_hang.specs.WalkFor.{HoldsUp, once, named_beside, pending_beside, pending_for, cost_for}
use Rattle.wq_hang.proofs.SettledHops.{AreAlike-same, AreAlike-trans, put_flush, IsFirst}

-- ---- hops that are alike

-- hop by hop the same items wait, by flushes with the same words, which they declare
abbrev pub AlikeHops : Wiring → List Hop → List Hop → Type 0
AlikeHops w [] [] = ⊤
AlikeHops w [] (h ∷ hs) = ⊥
AlikeHops w (g ∷ gs) [] = ⊥
AlikeHops w (g ∷ gs) (h ∷ hs) =
    (h.item ≡ g.item) × (h.next ≡ g.next) × AreAlike h.flush g.flush × Contains (declared_by w h.item) h.flush
    × AlikeHops w gs hs

pub AlikeHops-same : (w : Wiring) (hops : List Hop)
    → ((h : Hop) → Contains hops h → Contains (declared_by w h.item) h.flush) → AlikeHops w hops hops
AlikeHops-same w [] declared = tt
AlikeHops-same w (h ∷ hops) declared = (
  refl,
  refl,
  AreAlike-same h.flush,
  declared h (0, omega arith, refl),
  AlikeHops-same w hops (λ g there. declared g (suc there.0, omega (arith, there.1), there.2)),
)

AlikeHops-trans : (w : Wiring) (fs gs hs : List Hop) → AlikeHops w fs gs → AlikeHops w gs hs → AlikeHops w fs hs
AlikeHops-trans w [] [] [] one two = tt
AlikeHops-trans w [] [] (h ∷ hs) one two = two
AlikeHops-trans w [] (g ∷ gs) hs one two = absurd one
AlikeHops-trans w (f ∷ fs) [] hs one two = absurd one
AlikeHops-trans w (f ∷ fs) (g ∷ gs) [] one two = two
AlikeHops-trans w (f ∷ fs) (g ∷ gs) (h ∷ hs) one two = (
  two.0 ∙ one.0,
  two.1 ∙ one.1,
  AreAlike-trans h.flush g.flush f.flush two.2 one.2,
  two.3,
  AlikeHops-trans w fs gs hs one.4 two.4,
)

-- one hop waits by another flush
AlikeHops-put : (w : Wiring) (hops : List Hop) (i : ℕ) (d : Hop) (t : Target)
    → ((h : Hop) → Contains hops h → Contains (declared_by w h.item) h.flush) → i < length hops
    → AreAlike t (get_or hops i d).flush → Contains (declared_by w (get_or hops i d).item) t
    → AlikeHops w hops (put_flush hops i (get_or hops i d) t)
AlikeHops-put w [] i d t declared lt alike there = absurd (omega (arith, lt))
AlikeHops-put w (h ∷ hops) zero d t declared lt alike there = (
  refl,
  refl,
  alike,
  there,
  AlikeHops-same w hops (λ g in_hops. declared g (suc in_hops.0, omega (arith, in_hops.1), in_hops.2)),
)
AlikeHops-put w (h ∷ hops) (suc i) d t declared lt alike there = (
  refl,
  refl,
  AreAlike-same h.flush,
  declared h (0, omega arith, refl),
  AlikeHops-put w hops i d t
      (λ g in_hops. declared g (suc in_hops.0, omega (arith, in_hops.1), in_hops.2)) (omega (arith, lt)) alike there,
)

length-alike : (w : Wiring) (gs hs : List Hop) → AlikeHops w gs hs → length hs ≡ length gs
length-alike w [] [] alike = refl
length-alike w [] (h ∷ hs) alike = absurd alike
length-alike w (g ∷ gs) [] alike = absurd alike
length-alike w (g ∷ gs) (h ∷ hs) alike = ap suc (length-alike w gs hs alike.4)

-- a path stays one
IsPath-alike : (w : Wiring) (i j : ℕ) (gs hs : List Hop) → AlikeHops w gs hs → IsPath w i gs j → IsPath w i hs j
IsPath-alike w i j [] [] alike path = path
IsPath-alike w i j [] (h ∷ hs) alike path = absurd alike
IsPath-alike w i j (g ∷ gs) [] alike path = absurd alike
IsPath-alike w i j (g ∷ gs) (h ∷ hs) alike path = (
  alike.0 ∙ path.0,
  record {
    declared = alike.3;
    rescuer = subst (λ (k : ℕ). HasRescuer w (lane_of w k)) (sym alike.0) path.1.rescuer;
  },
  ap (lane_of w) alike.1 ∙ path.2 ∙ ap (lane_of w) (sym alike.2.item),
  IsPath-alike w h.next j gs hs alike.4 (subst (λ (k : ℕ). IsPath w k gs j) (sym alike.1) path.3),
)

-- in two parts
record Parts (w : Wiring) (xs ys hops : List Hop) : Type 0 where
  front : List Hop
  back : List Hop
  are : hops ≡ front ++ back
  front_alike : AlikeHops w xs front
  back_alike : AlikeHops w ys back

parts_alike : (w : Wiring) (xs ys hops : List Hop) → AlikeHops w (xs ++ ys) hops → Parts w xs ys hops
parts_alike w [] ys hops alike =
    record { front = []; back = hops; are = refl; front_alike = tt; back_alike = alike }
parts_alike w (x ∷ xs) ys [] alike = absurd alike
parts_alike w (x ∷ xs) ys (h ∷ hops) alike =
    let rest = parts_alike w xs ys hops alike.4 in
    record {
      front = h ∷ rest.front;
      back = rest.back;
      are = ap (λ (l : List Hop). h ∷ l) rest.are;
      front_alike = (alike.0, alike.1, alike.2, alike.3, rest.front_alike);
      back_alike = rest.back_alike;
    }

-- ---- what a walk costs

unsure-alike : (w : Wiring) (gs hs : List Hop) → AlikeHops w gs hs
    → length (unsure_hops hs) ≡ length (unsure_hops gs)
unsure-alike w [] [] alike = refl
unsure-alike w [] (h ∷ hs) alike = absurd alike
unsure-alike w (g ∷ gs) [] alike = absurd alike
unsure-alike w (g ∷ gs) (h ∷ hs) alike =
    let rest : length (unsure_hops hs) ≡ length (unsure_hops gs) = unsure-alike w gs hs alike.4 in
    ap (λ (u : Bool). length (cond u (h ∷ unsure_hops hs) (unsure_hops hs))) alike.2.unsure
    ∙ by g.flush.unsure rest
  where
    by : (u : Bool) → length (unsure_hops hs) ≡ length (unsure_hops gs)
        → length (cond u (h ∷ unsure_hops hs) (unsure_hops hs)) ≡ length (cond u (g ∷ unsure_hops gs) (unsure_hops gs))
    by true rest = ap suc rest
    by false rest = rest

-- what is pending for a hop depends on its flush's words and on what comes next
abbrev pending_with : Wiring → Bool → ℕ → ℕ → List ℕ
pending_with w whole item next =
    if slice_index_or w.bare (lane_of w item) false then item ∷ []
    else (if whole || (item == next) then [] else item ∷ [])

pending-alike : (w : Wiring) (g h : Hop) → AreAlike h.flush g.flush → h.next ≡ g.next
    → pending_beside w h ≡ pending_beside w g
pending-alike w g h alike next =
    ap (λ (b : Bool). pending_with w b h.flush.item h.next) alike.whole
    ∙ ap (λ (i : ℕ). pending_with w g.flush.whole i h.next) alike.item
    ∙ ap (λ (i : ℕ). pending_with w g.flush.whole g.flush.item i) next

flat-alike : (w : Wiring) (gs hs : List Hop) → AlikeHops w gs hs
    → flat_map (pending_beside w) hs ≡ flat_map (pending_beside w) gs
flat-alike w [] [] alike = refl
flat-alike w [] (h ∷ hs) alike = absurd alike
flat-alike w (g ∷ gs) [] alike = absurd alike
flat-alike w (g ∷ gs) (h ∷ hs) alike =
    ap (λ (l : List ℕ). l ++ flat_map (pending_beside w) hs) (pending-alike w g h alike.2 alike.1)
    ∙ ap (λ (l : List ℕ). pending_beside w g ++ l) (flat-alike w gs hs alike.4)

named-alike : (w : Wiring) (x : ℕ) (gs hs : List Hop) → AlikeHops w gs hs → named_beside x hs ≡ named_beside x gs
named-alike w x [] [] alike = refl
named-alike w x [] (h ∷ hs) alike = absurd alike
named-alike w x (g ∷ gs) [] alike = absurd alike
named-alike w x (g ∷ gs) (h ∷ hs) alike = ap (λ (i : ℕ). if i == x then [] else x ∷ []) alike.0

pub cost_for-alike : (w : Wiring) (x : ℕ) (gs hs : List Hop) → AlikeHops w gs hs → cost_for w x hs ≡ cost_for w x gs
cost_for-alike w x gs hs alike =
    let same : pending_for w x hs ≡ pending_for w x gs =
    ap (λ (l : List ℕ). once (l ++ flat_map (pending_beside w) hs)) (named-alike w x gs hs alike)
    ∙ ap (λ (l : List ℕ). once (named_beside x gs ++ l)) (flat-alike w gs hs alike) in
    omega (
      arith,
      unsure-alike w gs hs alike,
      length-alike w gs hs alike,
      ap (λ (l : List ℕ). length l) same,
    )

-- ---- it holds up

nil-alike : (w : Wiring) (hs : List Hop) → AlikeHops w [] hs → hs ≡ []
nil-alike w [] alike = refl
nil-alike w (h ∷ hs) alike = absurd alike

one-alike : (w : Wiring) (g : Hop) (hs : List Hop) → AlikeHops w (g ∷ []) hs
    → (h : Hop) × (hs ≡ h ∷ []) × (h.item ≡ g.item) × (h.next ≡ g.next) × AreAlike h.flush g.flush
    × Contains (declared_by w h.item) h.flush
one-alike w g [] alike = absurd alike
one-alike w g (h ∷ []) alike = (h, refl, alike.0, alike.1, alike.2, alike.3)
one-alike w g (h ∷ f ∷ hs) alike = absurd alike.4

pub HoldsUp-alike : (w : Wiring) (x : ℕ) (gs hs : List Hop) → AlikeHops w gs hs → HoldsUp w x gs → HoldsUp w x hs
HoldsUp-alike w x gs hs alike (inl none) =
    inl (nil-alike w hs (subst (λ (l : List Hop). AlikeHops w l hs) none.0 alike), none.1)
HoldsUp-alike w x gs hs alike (inr (first, lane, inl meets)) =
    let parts = parts_alike w meets.way meets.round hs (subst (λ (l : List Hop). AlikeHops w l hs) meets.are alike) in
    inr (
      first,
      lane,
      inl (record {
        way = parts.front;
        round = parts.back;
        at = meets.at;
        are = parts.are;
        leads = IsPath-alike w first meets.at meets.way parts.front parts.front_alike meets.leads;
        some = omega (arith, meets.some, length-alike w meets.round parts.back parts.back_alike);
        goes_round = IsPath-alike w meets.at meets.at meets.round parts.back parts.back_alike meets.goes_round;
      }),
    )
HoldsUp-alike w x gs hs alike (inr (first, lane, inr meets)) =
    let parts = parts_alike w meets.way (meets.last ∷ []) hs
    (subst (λ (l : List Hop). AlikeHops w l hs) meets.are alike) in
    let last = one-alike w meets.last parts.back parts.back_alike in
    let h : Hop = last.0 in
    inr (
      first,
      lane,
      inr (record {
        way = parts.front;
        last = h;
        are = parts.are ∙ ap (λ (l : List Hop). parts.front ++ l) last.1;
        leads = subst (λ (i : ℕ). IsPath w first parts.front i) (sym last.2)
            (IsPath-alike w first meets.last.item meets.way parts.front parts.front_alike meets.leads);
        to_bare = record {
          hop = record {
            declared = last.5;
            rescuer = subst (λ (i : ℕ). HasRescuer w (lane_of w i)) (sym last.2) meets.to_bare.hop.rescuer;
          };
          bare = λ rescuer. meets.to_bare.bare
              (subst (λ (i : ℕ). HasRescuer w (lane_of w i)) last.4.item rescuer);
          next = last.3 ∙ meets.to_bare.next ∙ sym last.4.item;
        };
      }),
    )

-- ---- the first n hops wait by the first flushes with their words

pub record IsHeldSettled (w : Wiring) (old hops : List Hop) (n : ℕ) : Type 0 where
  pub alike : AlikeHops w old hops
  pub declared : (h : Hop) → Contains hops h → Contains (declared_by w h.item) h.flush
  pub len : length hops ≡ length old
  pub first : (k : ℕ) (d : Hop) → k < n → IsFirst w (get_or hops k d) (get_or hops k d).flush

pub IsHeldSettled-none : (w : Wiring) (hops : List Hop)
    → ((h : Hop) → Contains hops h → Contains (declared_by w h.item) h.flush) → IsHeldSettled w hops hops 0
IsHeldSettled-none w hops declared = record {
  alike = AlikeHops-same w hops declared;
  declared = declared;
  len = refl;
  first = λ k d lt. absurd (omega (arith, lt));
}

declared-alike : (w : Wiring) (gs hs : List Hop) → AlikeHops w gs hs → (h : Hop) → Contains hs h
    → Contains (declared_by w h.item) h.flush
declared-alike w [] [] alike h there = absurd (omega (arith, there.1))
declared-alike w [] (f ∷ hs) alike h there = absurd alike
declared-alike w (g ∷ gs) [] alike h there = absurd alike
declared-alike w (g ∷ gs) (f ∷ hs) alike h (zero, lt, at) =
    subst (λ (x : Hop). Contains (declared_by w x.item) x.flush) at alike.3
declared-alike w (g ∷ gs) (f ∷ hs) alike h (suc k, lt, at) =
    declared-alike w gs hs alike.4 h (k, omega (arith, lt), at)

pub IsHeldSettled-more : (w : Wiring) (old hops new : List Hop) (n : ℕ) (h : Hop) (t : Target)
    → IsHeldSettled w old hops n → n < length hops → get_or hops n h ≡ h → AreAlike t h.flush
    → Contains (declared_by w h.item) t → IsFirst w h t → new ≡ put_flush hops n h t
    → IsHeldSettled w old new (n + 1)
IsHeldSettled-more w old hops new n h t is lt at alike there least made =
    subst (λ (l : List Hop). IsHeldSettled w old l (n + 1)) (sym made) (record {
      alike = AlikeHops-trans w old hops (put_flush hops n h t) is.alike put_alike;
      declared = declared-alike w hops (put_flush hops n h t) put_alike;
      len = length-set hops n (record h { flush = t }) ∙ is.len;
      first = first;
    })
  where
    put_alike : AlikeHops w hops (put_flush hops n h t)
    put_alike = subst (λ (g : Hop). AlikeHops w hops (put_flush hops n g t)) at
        (AlikeHops-put w hops n h t is.declared lt (subst (λ (g : Hop). AreAlike t g.flush) (sym at) alike)
        (subst (λ (g : Hop). Contains (declared_by w g.item) t) (sym at) there))

    first : (k : ℕ) (d : Hop) → k < n + 1
        → IsFirst w (get_or (put_flush hops n h t) k d) (get_or (put_flush hops n h t) k d).flush
    first k d low = elim (cases_eq k n) [
      | inl same ↦ (
          let here : get_or (put_flush hops n h t) k d ≡ record h { flush = t } =
          ap (λ (i : ℕ). get_or (put_flush hops n h t) i d) same
          ∙ get_or-set_same hops n (record h { flush = t }) d lt in
          subst (λ (g : Hop). IsFirst w g g.flush) (sym here)
          (λ u declared like. least u declared (AreAlike-trans u t h.flush like alike))
          )
      | inr other ↦ (
          let here : get_or (put_flush hops n h t) k d ≡ get_or hops k d =
          get_or-set_other hops n k (record h { flush = t }) d other in
          subst (λ (g : Hop). IsFirst w g g.flush) (sym here) (is.first k d (omega (arith, low, other)))
          )
    ]

pub AreFirstAlike-held : (w : Wiring) (old hops : List Hop) (n : ℕ) → IsHeldSettled w old hops n → length hops ≤ n
    → AreFirstAlike w hops
AreFirstAlike-held w old hops n is enough h (k, lt, at) =
    subst (λ (g : Hop). IsFirst w g g.flush) at (is.first k h (omega (arith, lt, enough)))
