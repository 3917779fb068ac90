-- Waits: how the flushes of a body raise the counts of waits, one after the other.
use Rattle.std.proofs.Common.{◌≡◌, ◌≢◌, ℕ, ◌+◌, ◌<◌, ◌≤◌, ◌⊎◌, inl, inr, Bool, true, false, not, cond, eqb, ◌&&◌, List, [], ◌∷◌, ◌++◌, length, take, get_or, refl, sym, ap, subst, ◌∙◌, arith}
use Rattle.std.proofs.lemmas.Bool.{cases_lt, cases_eq, eq-eqb, ne_eqb}
use Rattle.std.proofs.Math.Bool.{and-false}
use Rattle.std.proofs.lemmas.List.{set_past, take_more}
use Rattle.std.proofs.lemmas.List.Sums.{sum_by-append}
use Rattle.wq_items.specs.declared.target.Target.{Target}
use Rattle.wq_core.specs.Wiring.{Wiring, items}
use Rattle.wq_counts.specs.declared.kind.Kind.{Kind}
use Rattle.wq_counts.specs.Counting.{kind_place, place, HasCountsOf, made, raised, wait_kind, over_kind}
use Rattle.wq_counts.proofs.Places.{place-same, raised_at-other, made-raised_same, made-raised_other}
use Rattle.std.specs.Prelude.{sum}
use Rattle.wq_history.specs.declared.fault.CallError.{CallError}
use Rattle.wq_history.specs.Errors.{call_code}
use Rattle.wq_held.specs.Locked.{seat_rows, slots}
use Rattle.wq_held.proofs.Locking.{items_within_slots}
use Rattle.wq_api.specs.Refusals.{RefusesWaitIn}
use Rattle.wq_history.specs.declared.fault.CallError.TheVariants.{HistoryFull, Closed, Undeclared, TooManyWaits, WrongLane, NotAsked, NoItem}
use Rattle.wq_api.specs.WaitingCalls.{waited_for, RefusedWaitIn}
use Rattle.wq_rescuer.specs.Executing.{SameFinished}
use Rattle.wq_script.specs.Scripts.{counted_waits, is_target, times_among, CountsWaits, CountsFirstWaits, CountsOnlyWaits}

-- ---- kinds of waits

same_kind : (a b : Bool) → (a ≡ b) ⊎ (a ≢ b)
same_kind true true = inl refl
same_kind true false = inr (λ e. absurd cc)
same_kind false true = inr (λ e. absurd cc)
same_kind false false = inl refl

wait_kind-same : (a b : Bool) → wait_kind a ≡ wait_kind b → a ≡ b
wait_kind-same true true e = refl
wait_kind-same true false e = absurd (let places : 7 ≡ 2 = ap kind_place e in omega (arith, places))
wait_kind-same false true e = absurd (let places : 2 ≡ 7 = ap kind_place e in omega (arith, places))
wait_kind-same false false e = refl

-- the end of a wait is no wait
over_kind-other : (a b : Bool) → wait_kind a ≢ over_kind b
over_kind-other true true e = let places : 7 ≡ 8 = ap kind_place e in omega (arith, places)
over_kind-other true false e = let places : 7 ≡ 3 = ap kind_place e in omega (arith, places)
over_kind-other false true e = let places : 2 ≡ 8 = ap kind_place e in omega (arith, places)
over_kind-other false false e = let places : 2 ≡ 3 = ap kind_place e in omega (arith, places)

-- a target of this kind, and of the other
kind-own : (a whole : Bool) → a ≡ whole → cond whole a (not a) ≡ true
kind-own true true e = refl
kind-own true false e = absurd cc
kind-own false true e = absurd cc
kind-own false false e = refl

kind-other : (a whole : Bool) → a ≢ whole → cond whole a (not a) ≡ false
kind-other true true ne = absurd (ne refl)
kind-other true false ne = refl
kind-other false true ne = refl
kind-other false false ne = absurd (ne refl)

-- ---- one count

-- an item that has no counts has none to raise
raised-none : (n : ℕ) (counts : List ℕ) (i : ℕ) (kind : Kind) (said : Bool) → HasCountsOf n counts → n ≤ i → raised counts i kind said ≡ counts
raised-none n counts i kind said has past = set_past counts (place i kind said) (made counts i kind said + 1) (omega (arith, has, past))

waits-own : (n : ℕ) (counts : List ℕ) (i : ℕ) (whole said : Bool) → HasCountsOf n counts → i < n
    → counted_waits (raised counts i (wait_kind whole) said) whole i ≡ counted_waits counts whole i + 1
waits-own n counts i whole false has lt =
    let kind = wait_kind whole in
    omega (arith, made-raised_same counts i kind false (omega (arith, has, lt)), made-raised_other counts i i kind kind false true (λ e. omega (arith, e)))
waits-own n counts i whole true has lt =
    let kind = wait_kind whole in
    omega (arith, made-raised_same counts i kind true (omega (arith, has, lt)), made-raised_other counts i i kind kind true false (λ e. omega (arith, e)))

-- a count of another item or another kind
waits-other : (counts : List ℕ) (i j : ℕ) (kind : Kind) (whole said : Bool) → ¬ ((j ≡ i) × (wait_kind whole ≡ kind))
    → counted_waits (raised counts i kind said) whole j ≡ counted_waits counts whole j
waits-other counts i j kind whole said apart =
    let other : (answer : Bool) → place j (wait_kind whole) answer ≢ place i kind said =
    λ answer e. (let same = place-same j i (wait_kind whole) kind answer said e in apart (same.0, same.1)) in
    omega (arith, made-raised_other counts i j kind (wait_kind whole) said true (other true), made-raised_other counts i j kind (wait_kind whole) said false (other false))

-- ---- one target

times-own : (t : Target) (whole : Bool) (b : ℕ) → t.whole ≡ whole → t.item ≡ b → times_among (t ∷ []) whole b ≡ 1
times-own t whole b kind e =
    ap (λ (hit : Bool). 0 + cond hit 1 0) (ap (λ (k : Bool). k && (eqb t.item b)) (kind-own t.whole whole kind) ∙ eq-eqb t.item b e)

times-other_item : (t : Target) (whole : Bool) (b : ℕ) → t.item ≢ b → times_among (t ∷ []) whole b ≡ 0
times-other_item t whole b ne =
    let kind : Bool = cond whole t.whole (not t.whole) in
    ap (λ (hit : Bool). 0 + cond hit 1 0) (ap (λ (hit : Bool). kind && hit) (ne_eqb t.item b ne) ∙ and-false kind)

times-other_kind : (t : Target) (whole : Bool) (b : ℕ) → t.whole ≢ whole → times_among (t ∷ []) whole b ≡ 0
times-other_kind t whole b ne = ap (λ (k : Bool). 0 + cond (k && (eqb t.item b)) 1 0) (kind-other t.whole whole ne)

CountsWaits-none : (counts : List ℕ) → CountsWaits counts counts []
CountsWaits-none counts b whole = omega arith

unchanged : (old new : List ℕ) → new ≡ old → CountsWaits old new []
unchanged old new same = subst (λ (c : List ℕ). CountsWaits old c []) (sym same) (CountsWaits-none old)

CountsWaits-wait : (n : ℕ) (counts : List ℕ) (t : Target) (said : Bool) → HasCountsOf n counts → t.item < n
    → CountsWaits counts (raised counts t.item (wait_kind t.whole) said) (t ∷ [])
CountsWaits-wait n counts t said has lt b whole =
    let more : List ℕ = raised counts t.item (wait_kind t.whole) said in
    elim (cases_eq t.item b) [
      | inl e ↦ elim (same_kind t.whole whole) [
        | inl kind ↦ (omega (
          arith,
          times-own t whole b kind e,
          ap (λ (k : Bool). counted_waits more k t.item) kind,
          ap (counted_waits more whole) e,
          ap (λ (k : Bool). counted_waits counts k t.item) kind,
          ap (counted_waits counts whole) e,
          waits-own n counts t.item t.whole said has lt,
        ))
        | inr ne ↦ (omega (
          arith,
          times-other_kind t whole b ne,
          waits-other counts t.item b (wait_kind t.whole) whole said (λ same. ne (sym (wait_kind-same whole t.whole same.1))),
        ))
      ]
      | inr ne ↦ (omega (arith, times-other_item t whole b ne, waits-other counts t.item b (wait_kind t.whole) whole said (λ same. ne (sym same.0))))
    ]

-- the end of a wait is counted too
CountsWaits-over : (old new : List ℕ) (targets : List Target) (i : ℕ) (kind : Bool) → CountsWaits old new targets
    → CountsWaits old (raised new i (over_kind kind) true) targets
CountsWaits-over old new targets i kind before b whole =
    omega (arith, before b whole, waits-other new i b (over_kind kind) whole true (λ same. over_kind-other whole kind same.1))

-- a flush that is answered
CountsWaits-flushed : (w : Wiring) (old new : List ℕ) (t : Target) (unfinished : Bool) → HasCountsOf (slots w) old → t.item < items w
    → new ≡ waited_for old t.whole t.item unfinished → CountsWaits old new (t ∷ [])
CountsWaits-flushed w old new t unfinished has there is = subst (λ (c : List ℕ). CountsWaits old c (t ∷ [])) (sym is)
    (CountsWaits-over old (raised old t.item (wait_kind t.whole) unfinished) (t ∷ []) t.item t.whole
    (CountsWaits-wait (slots w) old t unfinished has (omega (arith, there, items_within_slots w))))

-- a flush that is refused: its wait isn't counted, or it is
CountsWaits-refused : (w : Wiring) (old new : List ℕ) (q c : ℕ) (t : Target) (e : CallError) → HasCountsOf (slots w) old
    → RefusedWaitIn w old new q c t.whole t.item e → CountsWaits old new [] ⊎ CountsWaits old new (t ∷ [])
CountsWaits-refused w old new q c t HistoryFull has same = inl (unchanged old new same)
CountsWaits-refused w old new q c t Closed has same = inl (unchanged old new same)
CountsWaits-refused w old new q c t Undeclared has same = inl (unchanged old new same)
CountsWaits-refused w old new q c t TooManyWaits has same = inl (unchanged old new same)
CountsWaits-refused w old new q c t WrongLane has why = elim why [
  | inl same ↦ inl (unchanged old new same)
  | inr waited ↦ elim (cases_lt t.item (slots w)) [
    | inl lt ↦ inr (subst (λ (c : List ℕ). CountsWaits old c (t ∷ [])) (sym waited.2) (CountsWaits-wait (slots w) old t waited.1 has lt))
    | inr past ↦ inl (unchanged old new (waited.2 ∙ raised-none (slots w) old t.item (wait_kind t.whole) waited.1 has past))
  ]
]
CountsWaits-refused w old new q c t NotAsked has same = inl (unchanged old new same)
CountsWaits-refused w old new q c t NoItem has same = inl (unchanged old new same)

-- ---- nothing but waits and their ends

only-same : (old new : List ℕ) → new ≡ old → CountsOnlyWaits old new
only-same old new same p waits ends = ap (λ (c : List ℕ). get_or c p 0) same

only-wait : (old new : List ℕ) (whole : Bool) (b : ℕ) (said : Bool) → new ≡ raised old b (wait_kind whole) said → CountsOnlyWaits old new
only-wait old new whole b said is p waits ends =
    ap (λ (c : List ℕ). get_or c p 0) is ∙ raised_at-other old (place b (wait_kind whole) said) p (waits b whole said)

only-flushed : (old new : List ℕ) (whole : Bool) (b : ℕ) (said : Bool) → new ≡ waited_for old whole b said → CountsOnlyWaits old new
only-flushed old new whole b said is p waits ends =
    ap (λ (c : List ℕ). get_or c p 0) is
    ∙ (raised_at-other (raised old b (wait_kind whole) said) (place b (over_kind whole) true) p (ends b whole)
    ∙ raised_at-other old (place b (wait_kind whole) said) p (waits b whole said))

only-refused : (w : Wiring) (old new : List ℕ) (q c : ℕ) (whole : Bool) (b : ℕ) (e : CallError) → RefusedWaitIn w old new q c whole b e → CountsOnlyWaits old new
only-refused w old new q c whole b HistoryFull same = only-same old new same
only-refused w old new q c whole b Closed same = only-same old new same
only-refused w old new q c whole b Undeclared same = only-same old new same
only-refused w old new q c whole b TooManyWaits same = only-same old new same
only-refused w old new q c whole b WrongLane why = elim why [
  | inl same ↦ only-same old new same
  | inr waited ↦ only-wait old new whole b waited.1 waited.2
]
only-refused w old new q c whole b NotAsked same = only-same old new same
only-refused w old new q c whole b NoItem same = only-same old new same

only-then : (a b c : List ℕ) → CountsOnlyWaits a b → CountsOnlyWaits b c → CountsOnlyWaits a c
only-then a b c first second p waits ends = second p waits ends ∙ first p waits ends

-- the number of a refusal is 60 only where the seat is full
pub full_at_60 : (w : Wiring) (old new : List ℕ) (q c : ℕ) (whole : Bool) (b : ℕ) (e : CallError) → RefusesWaitIn w old q c e → RefusedWaitIn w old new q c whole b e → call_code e ≡ 60
    → seat_rows ≤ sum new
full_at_60 w old new q c whole b HistoryFull why same is = subst (λ (c : List ℕ). seat_rows ≤ sum c) (sym same) why.1
full_at_60 w old new q c whole b Closed why same is = absurd why
full_at_60 w old new q c whole b Undeclared why same is = absurd (omega (arith, is))
full_at_60 w old new q c whole b TooManyWaits why same is = absurd (omega (arith, is))
full_at_60 w old new q c whole b WrongLane why same is = absurd (omega (arith, is))
full_at_60 w old new q c whole b NotAsked why same is = absurd why
full_at_60 w old new q c whole b NoItem why same is = absurd why

-- ---- targets in order

CountsWaits-then : (a b c : List ℕ) (xs ys : List Target) → CountsWaits a b xs → CountsWaits b c ys → CountsWaits a c (xs ++ ys)
CountsWaits-then a b c xs ys first second i whole = omega (arith, first i whole, second i whole, sum_by-append (λ (t : Target). cond (is_target whole i t) 1 0) xs ys)

next : (targets : List Target) (k : ℕ) (t : Target) (a b c : List ℕ) → k < length targets → t ≡ get_or targets k t
    → CountsWaits a b (take k targets) → CountsWaits b c (t ∷ []) → CountsWaits a c (take (k + 1) targets)
next targets k t a b c lt is before here =
    subst (λ (done : List Target). CountsWaits a c done) (ap (λ (x : Target). take k targets ++ (x ∷ [])) is ∙ sym (take_more targets k t lt))
    (CountsWaits-then a b c (take k targets) (t ∷ []) before here)

-- what a body has done when it has flushed these targets: for each item its seat counts the waits by their kinds, and nothing else;
-- and as many finished executions as before
pub record HasFlushed (old now : List ℕ) (targets : List Target) : Type 0 where
  pub counted : CountsWaits old now targets
  pub only : CountsOnlyWaits old now
  pub finished : SameFinished old now

-- it goes on with the next
pub HasFlushed-next : (w : Wiring) (targets : List Target) (k : ℕ) (t : Target) (old now after : List ℕ) (unfinished : Bool)
    → k < length targets → t ≡ get_or targets k t → HasFlushed old now (take k targets) → HasCountsOf (slots w) now → t.item < items w
    → after ≡ waited_for now t.whole t.item unfinished → SameFinished now after → HasFlushed old after (take (k + 1) targets)
HasFlushed-next w targets k t old now after unfinished lt is so_far has there waited same = record {
  counted = next targets k t old now after lt is so_far.counted (CountsWaits-flushed w now after t unfinished has there waited);
  only = only-then old now after so_far.only (only-flushed now after t.whole t.item unfinished waited);
  finished = λ i. same i ∙ so_far.finished i;
}

-- a refused flush counts nothing else either
pub only_waits-refused : (w : Wiring) (targets : List Target) (t : Target) (old now after : List ℕ) (q c : ℕ) (e : CallError)
    → HasFlushed old now targets → RefusedWaitIn w now after q c t.whole t.item e → CountsOnlyWaits old after
only_waits-refused w targets t old now after q c e so_far why = only-then old now after so_far.only (only-refused w now after q c t.whole t.item e why)

-- after a refusal it stops
pub CountsFirstWaits-refused : (w : Wiring) (targets : List Target) (k : ℕ) (t : Target) (old now after : List ℕ) (q c : ℕ) (e : CallError)
    → k < length targets → t ≡ get_or targets k t → HasFlushed old now (take k targets) → HasCountsOf (slots w) now → RefusedWaitIn w now after q c t.whole t.item e
    → CountsFirstWaits old after targets
CountsFirstWaits-refused w targets k t old now after q c e lt is so_far has why = elim (CountsWaits-refused w now after q c t e has why) [
  | inl none ↦ (k, omega arith, λ b whole. omega (arith, so_far.counted b whole, none b whole))
  | inr one ↦ (k + 1, omega arith, next targets k t old now after lt is so_far.counted one)
]
