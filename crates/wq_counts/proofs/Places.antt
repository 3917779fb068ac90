-- Places: each item, kind and answer has one place, and so has each lane, kind and answer. No two have the same.
use Rattle.std.proofs.Common.{◌≡◌, ◌≢◌, ℕ, zero, suc, ◌+◌, ◌*◌, ◌/◌, ◌%◌, ◌-◌, ◌<◌, ◌≤◌, ◌⊎◌, inl, inr, Bool, true, false, List, [], ◌∷◌, length, get_or, refl, sym, ap, ◌∙◌, arith}
use Rattle.std.proofs.lemmas.Bool.{cases_lt}
use Rattle.std.proofs.lemmas.List.{length-set, get_or-set_same, get_or-set_other, get_or_past, ext_get_or}
use Rattle.std.proofs.lemmas.List.Sums.{sum_by-cons, sum_by-set}
use Rattle.std.specs.Prelude.{sum}
use Rattle.wq_counts.specs.declared.kind.Kind.{Kind}
use Rattle.wq_counts.specs.declared.kind.Kind.TheVariants.{Queue, Cancel, Wait, Over, Ask, Told, Finish, WaitAll, OverAll}
use Rattle.wq_counts.specs.declared.kind.LaneKind.{LaneKind}
use Rattle.wq_counts.specs.declared.kind.LaneKind.TheVariants.{Ask as AskLane, Told as ToldLane}
use Rattle.wq_counts.specs.Counting.{counts_each, kind_place, lane_kind_place, answer_place, place, lane_place, HasCountsOf, made, made_lane, raised_at, raised}

-- ---- kinds and answers by their places

pub kind_place-lt : (kind : Kind) → kind_place kind < 9
kind_place-lt Queue = omega arith
kind_place-lt Cancel = omega arith
kind_place-lt Wait = omega arith
kind_place-lt Over = omega arith
kind_place-lt Ask = omega arith
kind_place-lt Told = omega arith
kind_place-lt Finish = omega arith
kind_place-lt WaitAll = omega arith
kind_place-lt OverAll = omega arith

-- kinds of a lane come after those of an item
pub lane_kind_place-ge : (kind : LaneKind) → 9 ≤ lane_kind_place kind
lane_kind_place-ge AskLane = omega arith
lane_kind_place-ge ToldLane = omega arith

pub lane_kind_place-lt : (kind : LaneKind) → lane_kind_place kind < 11
lane_kind_place-lt AskLane = omega arith
lane_kind_place-lt ToldLane = omega arith

pub answer_place-lt : (said : Bool) → answer_place said < 2
answer_place-lt false = omega arith
answer_place-lt true = omega arith

-- the kind at a place, and the answer
abbrev pub kind_at : ℕ → Kind
kind_at zero = Queue
kind_at (suc zero) = Cancel
kind_at (suc (suc zero)) = Wait
kind_at (suc (suc (suc zero))) = Over
kind_at (suc (suc (suc (suc zero)))) = Ask
kind_at (suc (suc (suc (suc (suc zero))))) = Told
kind_at (suc (suc (suc (suc (suc (suc zero)))))) = Finish
kind_at (suc (suc (suc (suc (suc (suc (suc zero))))))) = WaitAll
kind_at (suc (suc (suc (suc (suc (suc (suc (suc n)))))))) = OverAll

abbrev pub lane_kind_at : ℕ → LaneKind
lane_kind_at zero = AskLane
lane_kind_at (suc n) = ToldLane

abbrev pub answer_at : ℕ → Bool
answer_at zero = false
answer_at (suc n) = true

pub kind_at-kind_place : (kind : Kind) → kind_at (kind_place kind) ≡ kind
kind_at-kind_place Queue = refl
kind_at-kind_place Cancel = refl
kind_at-kind_place Wait = refl
kind_at-kind_place Over = refl
kind_at-kind_place Ask = refl
kind_at-kind_place Told = refl
kind_at-kind_place Finish = refl
kind_at-kind_place WaitAll = refl
kind_at-kind_place OverAll = refl

pub lane_kind_at-lane_kind_place : (kind : LaneKind) → lane_kind_at (lane_kind_place kind - 9) ≡ kind
lane_kind_at-lane_kind_place AskLane = refl
lane_kind_at-lane_kind_place ToldLane = refl

pub answer_at-answer_place : (said : Bool) → answer_at (answer_place said) ≡ said
answer_at-answer_place false = refl
answer_at-answer_place true = refl

pub kind_place-kind_at : (k : ℕ) → k < 9 → kind_place (kind_at k) ≡ k
kind_place-kind_at zero h = refl
kind_place-kind_at (suc zero) h = refl
kind_place-kind_at (suc (suc zero)) h = refl
kind_place-kind_at (suc (suc (suc zero))) h = refl
kind_place-kind_at (suc (suc (suc (suc zero)))) h = refl
kind_place-kind_at (suc (suc (suc (suc (suc zero))))) h = refl
kind_place-kind_at (suc (suc (suc (suc (suc (suc zero)))))) h = refl
kind_place-kind_at (suc (suc (suc (suc (suc (suc (suc zero))))))) h = refl
kind_place-kind_at (suc (suc (suc (suc (suc (suc (suc (suc n)))))))) h = omega (arith, h)

pub lane_kind_place-lane_kind_at : (k : ℕ) → k < 2 → lane_kind_place (lane_kind_at k) ≡ 9 + k
lane_kind_place-lane_kind_at zero h = refl
lane_kind_place-lane_kind_at (suc n) h = omega (arith, h)

pub answer_place-answer_at : (a : ℕ) → a < 2 → answer_place (answer_at a) ≡ a
answer_place-answer_at zero h = refl
answer_place-answer_at (suc n) h = omega (arith, h)

pub kind_place-same : (a b : Kind) → kind_place a ≡ kind_place b → a ≡ b
kind_place-same a b e = sym (kind_at-kind_place a) ∙ ap kind_at e ∙ kind_at-kind_place b

pub lane_kind_place-same : (a b : LaneKind) → lane_kind_place a ≡ lane_kind_place b → a ≡ b
lane_kind_place-same a b e =
    sym (lane_kind_at-lane_kind_place a) ∙ ap (λ (k : ℕ). lane_kind_at (k - 9)) e ∙ lane_kind_at-lane_kind_place b

pub answer_place-same : (a b : Bool) → answer_place a ≡ answer_place b → a ≡ b
answer_place-same a b e = sym (answer_at-answer_place a) ∙ ap answer_at e ∙ answer_at-answer_place b

-- ---- places

-- the parts of a place are those of its slot, kind and answer
pub split_place : (i j k l a b : ℕ) → k < 11 → l < 11 → a < 2 → b < 2 → counts_each * i + (2 * k + a) ≡ counts_each * j + (2 * l + b)
    → (i ≡ j) × (k ≡ l) × (a ≡ b)
split_place i j k l a b hk hl ha hb e = (omega arith, omega arith, omega arith)

-- two places are the same only if the items, the kinds and the answers are
pub place-same : (i j : ℕ) (kind other : Kind) (said answer : Bool) → place i kind said ≡ place j other answer
    → (i ≡ j) × (kind ≡ other) × (said ≡ answer)
place-same i j kind other said answer e =
    let parts = split_place i j (kind_place kind) (kind_place other) (answer_place said) (answer_place answer)
    (omega (arith, kind_place-lt kind)) (omega (arith, kind_place-lt other)) (answer_place-lt said) (answer_place-lt answer) e in
    (parts.0, kind_place-same kind other parts.1, answer_place-same said answer parts.2)

pub lane_place-same : (q p : ℕ) (kind other : LaneKind) (said answer : Bool) → lane_place q kind said ≡ lane_place p other answer
    → (q ≡ p) × (kind ≡ other) × (said ≡ answer)
lane_place-same q p kind other said answer e =
    let parts = split_place q p (lane_kind_place kind) (lane_kind_place other) (answer_place said) (answer_place answer)
    (lane_kind_place-lt kind) (lane_kind_place-lt other) (answer_place-lt said) (answer_place-lt answer) e in
    (parts.0, lane_kind_place-same kind other parts.1, answer_place-same said answer parts.2)

-- no item has the place of a lane
pub place-ne-lane_place : (i q : ℕ) (kind : Kind) (other : LaneKind) (said answer : Bool) → place i kind said ≢ lane_place q other answer
place-ne-lane_place i q kind other said answer e =
    let parts = split_place i q (kind_place kind) (lane_kind_place other) (answer_place said) (answer_place answer)
    (omega (arith, kind_place-lt kind)) (lane_kind_place-lt other) (answer_place-lt said) (answer_place-lt answer) e in
    omega (arith, kind_place-lt kind, lane_kind_place-ge other, parts.1)

-- the places of an item, and those of a lane, are among those of its slot
pub place-ge : (i : ℕ) (kind : Kind) (said : Bool) → counts_each * i ≤ place i kind said
place-ge i kind said = omega arith

pub place-below : (i : ℕ) (kind : Kind) (said : Bool) → place i kind said < counts_each * i + counts_each
place-below i kind said = omega (arith, kind_place-lt kind, answer_place-lt said)

pub lane_place-below : (q : ℕ) (kind : LaneKind) (said : Bool) → lane_place q kind said < counts_each * q + counts_each
lane_place-below q kind said = omega (arith, lane_kind_place-lt kind, answer_place-lt said)

pub place-lt : (i n : ℕ) (kind : Kind) (said : Bool) → i < n → place i kind said < counts_each * n
place-lt i n kind said h = omega (arith, kind_place-lt kind, answer_place-lt said)

pub lane_place-lt : (q n : ℕ) (kind : LaneKind) (said : Bool) → q < n → lane_place q kind said < counts_each * n
lane_place-lt q n kind said h = omega (arith, lane_kind_place-lt kind, answer_place-lt said)

pub place-lt-length : (counts : List ℕ) (i : ℕ) (kind : Kind) (said : Bool) → counts_each * i + counts_each ≤ length counts
    → place i kind said < length counts
place-lt-length counts i kind said h = omega (arith, place-below i kind said)

pub lane_place-lt-length : (counts : List ℕ) (q : ℕ) (kind : LaneKind) (said : Bool) → counts_each * q + counts_each ≤ length counts
    → lane_place q kind said < length counts
lane_place-lt-length counts q kind said h = omega (arith, lane_place-below q kind said)

-- each place is that of an item, a kind and an answer, or that of a lane, a kind and an answer
pub record IsItemPlace (n p : ℕ) : Type 0 where
  pub item : ℕ
  pub kind : Kind
  pub said : Bool
  pub within : item < n
  pub is : place item kind said ≡ p

pub record IsLanePlace (n p : ℕ) : Type 0 where
  pub lane : ℕ
  pub kind : LaneKind
  pub said : Bool
  pub within : lane < n
  pub is : lane_place lane kind said ≡ p

IsItemPlace-at : (n p : ℕ) → p < counts_each * n → p % 22 / 2 < 9 → IsItemPlace n p
IsItemPlace-at n p h k-lt =
    let i : ℕ = p / 22 in
    let k : ℕ = p % 22 / 2 in
    let a : ℕ = p % 22 % 2 in
    let a-lt : a < 2 = omega arith in
    let kind_is = kind_place-kind_at k k-lt in
    let said_is = answer_place-answer_at a a-lt in
    record {
      item = i;
      kind = kind_at k;
      said = answer_at a;
      within = omega arith;
      is = omega (arith, kind_is, said_is);
    }

IsLanePlace-at : (n p : ℕ) → p < counts_each * n → 9 ≤ p % 22 / 2 → IsLanePlace n p
IsLanePlace-at n p h k-ge =
    let q : ℕ = p / 22 in
    let k : ℕ = p % 22 / 2 - 9 in
    let a : ℕ = p % 22 % 2 in
    let k-lt : k < 2 = omega arith in
    let a-lt : a < 2 = omega arith in
    let kind_is = lane_kind_place-lane_kind_at k k-lt in
    let said_is = answer_place-answer_at a a-lt in
    record {
      lane = q;
      kind = lane_kind_at k;
      said = answer_at a;
      within = omega arith;
      is = omega (arith, kind_is, said_is, k-ge);
    }

pub cases_place : (n p : ℕ) → p < counts_each * n → IsItemPlace n p ⊎ IsLanePlace n p
cases_place n p h = elim (cases_lt (p % 22 / 2) 9) [
  | inl lt ↦ inl (IsItemPlace-at n p h lt)
  | inr ge ↦ inr (IsLanePlace-at n p h ge)
]

-- ---- counts by their places

-- counts of this many slots are the same if they are so at each place
pub same_counts : (n : ℕ) (c d : List ℕ) → HasCountsOf n c → HasCountsOf n d
    → ((p : ℕ) → p < counts_each * n → get_or c p 0 ≡ get_or d p 0) → c ≡ d
same_counts n c d hc hd same = ext_get_or 0 c d (omega (arith, hc, hd)) (λ p h. same p (omega (arith, h, hc)))

-- they are so at each place if all that they say of items and lanes is the same
pub same_places : (n : ℕ) (c d : List ℕ)
    → ((i : ℕ) (kind : Kind) (said : Bool) → i < n → made c i kind said ≡ made d i kind said)
    → ((q : ℕ) (kind : LaneKind) (said : Bool) → q < n → made_lane c q kind said ≡ made_lane d q kind said)
    → (p : ℕ) → p < counts_each * n → get_or c p 0 ≡ get_or d p 0
same_places n c d items lanes p h = elim (cases_place n p h) [
  | inl at ↦ ap (λ (k : ℕ). get_or c k 0) (sym at.is) ∙ items at.item at.kind at.said at.within ∙ ap (λ (k : ℕ). get_or d k 0) at.is
  | inr at ↦ ap (λ (k : ℕ). get_or c k 0) (sym at.is) ∙ lanes at.lane at.kind at.said at.within ∙ ap (λ (k : ℕ). get_or d k 0) at.is
]

-- ---- one more

pub length-raised_at : (counts : List ℕ) (p : ℕ) → length (raised_at counts p) ≡ length counts
length-raised_at counts p = length-set counts p (get_or counts p 0 + 1)

pub sum-raised_at : (counts : List ℕ) (p : ℕ) → p < length counts → sum (raised_at counts p) ≡ sum counts + 1
sum-raised_at counts p h = omega (arith, sum_by-set (λ (x : ℕ). x) counts p (get_or counts p 0 + 1) 0 h)

-- that count is one higher, and no other count is changed
pub raised_at-same : (counts : List ℕ) (p : ℕ) → p < length counts → get_or (raised_at counts p) p 0 ≡ get_or counts p 0 + 1
raised_at-same counts p h = get_or-set_same counts p (get_or counts p 0 + 1) 0 h

pub raised_at-other : (counts : List ℕ) (p q : ℕ) → q ≢ p → get_or (raised_at counts p) q 0 ≡ get_or counts q 0
raised_at-other counts p q ne = get_or-set_other counts p q (get_or counts p 0 + 1) 0 ne

pub made-raised_same : (counts : List ℕ) (i : ℕ) (kind : Kind) (said : Bool) → counts_each * i + counts_each ≤ length counts
    → made (raised counts i kind said) i kind said ≡ made counts i kind said + 1
made-raised_same counts i kind said within = raised_at-same counts (place i kind said) (place-lt-length counts i kind said within)

pub made-raised_other : (counts : List ℕ) (i j : ℕ) (kind other : Kind) (said answer : Bool)
    → place j other answer ≢ place i kind said
    → made (raised counts i kind said) j other answer ≡ made counts j other answer
made-raised_other counts i j kind other said answer ne = raised_at-other counts (place i kind said) (place j other answer) ne

-- ---- counts that are added

pub sum-added : (xs ys zs : List ℕ) → length xs ≡ length ys → length zs ≡ length xs
    → ((p : ℕ) → get_or zs p 0 ≡ get_or xs p 0 + get_or ys p 0) → sum zs ≡ sum xs + sum ys
sum-added [] [] [] hy hz each = refl
sum-added [] [] (z ∷ zs) hy hz each = absurd (omega (arith, hz))
sum-added [] (y ∷ ys) zs hy hz each = absurd (omega (arith, hy))
sum-added (x ∷ xs) [] zs hy hz each = absurd (omega (arith, hy))
sum-added (x ∷ xs) (y ∷ ys) [] hy hz each = absurd (omega (arith, hz))
sum-added (x ∷ xs) (y ∷ ys) (z ∷ zs) hy hz each =
    omega (arith, each 0, sum-added xs ys zs (omega (arith, hy)) (omega (arith, hz)) (λ p. each (suc p)), sum_by-cons (λ (n : ℕ). n) x xs, sum_by-cons (λ (n : ℕ). n) y ys, sum_by-cons (λ (n : ℕ). n) z zs)

-- if the places below some number are added, and those from it on are as they were, all are added
pub added_all : (xs ys zs : List ℕ) (n : ℕ) → length xs ≡ length ys → length xs ≤ n
    → ((p : ℕ) → p < n → get_or zs p 0 ≡ get_or xs p 0 + get_or ys p 0) → ((p : ℕ) → n ≤ p → get_or zs p 0 ≡ get_or xs p 0)
    → (p : ℕ) → get_or zs p 0 ≡ get_or xs p 0 + get_or ys p 0
added_all xs ys zs n lengths all below after p = elim (cases_lt p n) [
  | inl lt ↦ below p lt
  | inr ge ↦ (let past = get_or_past ys p 0 (omega (arith, lengths, all, ge)) in omega (arith, after p ge, past))
]
