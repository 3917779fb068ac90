-- The names that stand more than once, as they are found one after another.
use Rattle.std.proofs.Common.{◌≡◌, ℕ, ◌+◌, ◌<◌, Bool, true, false, not, cond, Ordering, List, length, map, take, get_or, inl, inr, refl, sym, ap, ◌∙◌, arith}
use Rattle.std.specs.Prelude.{bytes_eq, nat_le}
use Rattle.std.specs.Borrow.{Bor}
use Rattle.std.specs.Ordering.{is_eq, nat_cmp}
use Rattle.std.specs.Cmp.Lexicographic.{slice_cmp, bytes_decides, nat_list_eq_equiv}
use Rattle.std.specs.BTreeSet.{BTreeSet, contains, IsEmpty, Updates}
use Rattle.std.specs.BTreeMap.{is_at}
use Rattle.std.specs.List.{count_by, list_any}
use Rattle.std.proofs.lemmas.Bool.{cases_Bool, cond-true, cond-false, le-leb, lt-leb, leb-true, leb-false}
use Rattle.std.proofs.lemmas.List.Sums.{count_by_more_yes, count_by_more_no}
use Rattle.std.proofs.lemmas.Map.Text.{is_eq-slice_cmp}
use Rattle.wq_dot.specs.Shared.{HasShared}
use Rattle.wq_dot.proofs.Sums.{sum_by-map}

-- names are compared byte by byte
abbrev pub in_order : Bor (List ℕ) → Bor (List ℕ) → Ordering
in_order x y = slice_cmp nat_cmp x.now y.now

-- how often a name stands among these
abbrev pub times : List (Bor (List ℕ)) → List ℕ → ℕ
times names name = count_by (λ (v : Bor (List ℕ)). bytes_eq name v.now) names

-- the set has the names that stand at least so often
abbrev pub HasThose : ℕ → List (Bor (List ℕ)) → BTreeSet (Bor (List ℕ)) → Type 0
HasThose n names s = (q : Bor (List ℕ)) → contains in_order s q ≡ nat_le n (times names q.now)

-- what an insertion answers
pub was_there : (there is_new : Bool) → is_new ≡ not there → is_new ≡ false → there ≡ true
was_there true is_new is old = refl
was_there false is_new is old = absurd (let never : true ≡ false = sym is ∙ old in cc)

pub was_new : (there is_new : Bool) → is_new ≡ not there → is_new ≡ true → there ≡ false
was_new false is_new is new = refl
was_new true is_new is new = absurd (let never : false ≡ true = sym is ∙ new in cc)

-- an empty set has all names that occur at least once, or twice, in an empty list
pub has_none : (s : BTreeSet (Bor (List ℕ))) → IsEmpty s → (q : Bor (List ℕ)) → contains in_order s q ≡ false
has_none s empty q = ap (list_any (is_at (in_order q))) empty

-- one more name, x, stands at place k
module _ (names : List (Bor (List ℕ))) (k : ℕ) (x : Bor (List ℕ)) (within : k < length names) (at : x ≡ get_or names k x) where
  once_more : (name : List ℕ) → bytes_eq name x.now ≡ true → times (take (k + 1) names) name ≡ times (take k names) name + 1
  once_more name same = count_by_more_yes (λ (v : Bor (List ℕ)). bytes_eq name v.now) names k x within (ap (λ (v : Bor (List ℕ)). bytes_eq name v.now) (sym at) ∙ same)

  as_often : (name : List ℕ) → bytes_eq name x.now ≡ false → times (take (k + 1) names) name ≡ times (take k names) name
  as_often name other = count_by_more_no (λ (v : Bor (List ℕ)). bytes_eq name v.now) names k x within (ap (λ (v : Bor (List ℕ)). bytes_eq name v.now) (sym at) ∙ other)

  -- whether it is the name that is asked for
  is_it : (q : Bor (List ℕ)) → is_eq (slice_cmp nat_cmp x.now q.now) ≡ bytes_eq q.now x.now
  is_it q = is_eq-slice_cmp x.now q.now ∙ nat_list_eq_equiv.symm x.now q.now

  -- a name is put into the set of the names that occur
  pub seen_more : (s n : BTreeSet (Bor (List ℕ))) → Updates in_order s n x true → HasThose 1 (take k names) s → HasThose 1 (take (k + 1) names) n
  seen_more s n updates has q = elim (cases_Bool (bytes_eq q.now x.now)) [
    | inl same ↦
        updates.0 q
        ∙ cond-true (is_eq (slice_cmp nat_cmp x.now q.now)) true (contains in_order s q) (is_it q ∙ same)
        ∙ sym (le-leb 1 (times (take (k + 1) names) q.now) (omega (arith, once_more q.now same)))
    | inr other ↦
        updates.0 q
        ∙ cond-false (is_eq (slice_cmp nat_cmp x.now q.now)) true (contains in_order s q) (is_it q ∙ other)
        ∙ has q
        ∙ ap (nat_le 1) (sym (as_often q.now other))
  ]

  -- a name that occurred before is put into the set of the names that occur twice
  pub shared_more : (s n : BTreeSet (Bor (List ℕ))) → Updates in_order s n x true → (seen : BTreeSet (Bor (List ℕ))) → HasThose 1 (take k names) seen → contains in_order seen x ≡ true → HasThose 2 (take k names) s → HasThose 2 (take (k + 1) names) n
  shared_more s n updates seen once there has q = elim (cases_Bool (bytes_eq q.now x.now)) [
    | inl same ↦
        updates.0 q
        ∙ cond-true (is_eq (slice_cmp nat_cmp x.now q.now)) true (contains in_order s q) (is_it q ∙ same)
        ∙ sym (le-leb 2 (times (take (k + 1) names) q.now) (omega (arith, once_more q.now same, leb-true 1 (times (take k names) x.now) (sym (once x) ∙ there), ap (times (take k names)) ((bytes_decides q.now x.now).0 same))))
    | inr other ↦
        updates.0 q
        ∙ cond-false (is_eq (slice_cmp nat_cmp x.now q.now)) true (contains in_order s q) (is_it q ∙ other)
        ∙ has q
        ∙ ap (nat_le 2) (sym (as_often q.now other))
  ]

  -- it didn't stand there before
  pub shared_still : (s seen : BTreeSet (Bor (List ℕ))) → HasThose 1 (take k names) seen → contains in_order seen x ≡ false → HasThose 2 (take k names) s → HasThose 2 (take (k + 1) names) s
  shared_still s seen once there has q = elim (cases_Bool (bytes_eq q.now x.now)) [
    | inl same ↦
        let none = leb-false 1 (times (take k names) x.now) (sym (once x) ∙ there) in
        let alike = ap (times (take k names)) ((bytes_decides q.now x.now).0 same) in
        has q
        ∙ lt-leb 2 (times (take k names) q.now) (omega (arith, none, alike))
        ∙ sym (lt-leb 2 (times (take (k + 1) names) q.now) (omega (arith, none, alike, once_more q.now same)))
    | inr other ↦ has q ∙ ap (nat_le 2) (sym (as_often q.now other))
  ]

-- what the set has in the end
pub HasShared-all : (names : List (Bor (List ℕ))) (k : ℕ) (s : BTreeSet (Bor (List ℕ))) → take k names ≡ names → HasThose 2 (take k names) s → HasShared (map (λ (v : Bor (List ℕ)). v.now) names) s
HasShared-all names k s all has q =
    has q
    ∙ ap (λ (l : List (Bor (List ℕ))). nat_le 2 (times l q.now)) all
    ∙ ap (nat_le 2) (sym (sum_by-map (λ (b : List ℕ). cond (bytes_eq q.now b) 1 0) (λ (v : Bor (List ℕ)). v.now) names))
