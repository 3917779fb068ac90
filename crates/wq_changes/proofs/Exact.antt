-- What is said is about all changes, and about nothing else.
use Rattle.std.proofs.Common.{◌≡◌, ℕ, ◌<◌, Bool, true, false, List, map, inl, inr, refl, sym, ap, subst, ◌∙◌}
use Rattle.std.specs.Prelude.{◌≢◌, ◌==◌, ◌&&◌, not, filter, Contains}
use Rattle.std.specs.List.{list_any, range_with_len}
use Rattle.std.proofs.lemmas.Bool.{false≢true, eqb-true, eq-eqb}
use Rattle.std.proofs.lemmas.Bool.Decides.{eqb_tells}
use Rattle.std.proofs.lemmas.List.Elements.{All-contains, All-filter, Contains-append_left, Contains-append_right, Contains-append_cases, filter_passes}
use Rattle.std.proofs.lemmas.List.Folds.{Any-from_list_any}
use Rattle.wq_items.proofs.Lists.{range_with_len-below, Contains-range_with_len, Contains-filtered}
use Rattle.wq_graph.proofs.ListLemmas.{Contains-map, Contains-from_map}
use Rattle.wq_groups.specs.Declaration.{Declaration}
use Rattle.wq_core.specs.Workqueues.{Workqueues}
use Rattle.wq_repair.specs.Changes.{lane_in, HasMoved, IsGiven}
use Rattle.wq_changes.specs.declared.change.Change.{Change}
use Rattle.wq_changes.specs.declared.change.Change.TheVariants as change
use Rattle.wq_changes.proofs.Ranges.{some_passes}
use Rattle.wq_changes.specs.Changes.{changes_of, has_moved, is_bare, is_given, stays_on}

-- what is kept passes
passes : (p : ℕ → Bool) (xs : List ℕ) (x : ℕ) → Contains (filter p xs) x → p x ≡ true
passes p xs x (k, within, is) = subst (λ (y : ℕ). p y ≡ true) is (filter_passes p xs k x within)

-- and is in the range
below : (p : ℕ → Bool) (n x : ℕ) → Contains (filter p (range_with_len 0 n)) x → x < n
below p n x there = All-contains (λ (y : ℕ). y < n) (filter p (range_with_len 0 n)) x (All-filter p (λ (y : ℕ). y < n) (range_with_len 0 n) (range_with_len-below n)) there

moved-from : (a b : ℕ) → not (a == b) ≡ true → a ≢ b
moved-from a b is same = let e : (a == b) ≡ true = eq-eqb a b same in false≢true (sym (ap not e) ∙ is)

moved-to : (a b : ℕ) → a ≢ b → not (a == b) ≡ true
moved-to a b differ = elim (eqb_tells a b) [
  | inl same ↦ absurd (differ same.1)
  | inr other ↦ ap not other.0
]

both-from : (a b : Bool) → (a && b) ≡ true → (a ≡ true) × (b ≡ true)
both-from true b is = (refl, is)
both-from false b is = absurd (false≢true is)

both-to : (a b : Bool) → a ≡ true → b ≡ true → (a && b) ≡ true
both-to true b one other = other
both-to false b one other = absurd (false≢true one)

not-from : (b : Bool) → not b ≡ true → b ≡ false
not-from true is = absurd (false≢true is)
not-from false is = refl

module _ (d : Declaration) (old new : Workqueues) where
  abbrev lanes_given : List ℕ
  lanes_given = filter (is_given d.groups old new) (range_with_len 0 old.assignment.lanes)

  abbrev groups_moved : List ℕ
  groups_moved = filter (has_moved old new) (range_with_len 0 d.groups)

  abbrev AsGiven : ℕ → Change
  AsGiven q = change.Given q

  abbrev AsMoved : ℕ → Change
  AsMoved g = change.Moved g

  pub moved-said : (g : ℕ) → Contains (changes_of d.groups old new) (change.Moved g) → (g < d.groups) × HasMoved old new g
  moved-said g said = elim (Contains-append_cases (map AsGiven lanes_given) (map AsMoved groups_moved) (change.Moved g) said) [
    | inl given ↦ let (q, at, is) = Contains-from_map AsGiven lanes_given (change.Moved g) given in cc
    | inr moved ↦
        let (h, at, is) = Contains-from_map AsMoved groups_moved (change.Moved g) moved in
        let same : h ≡ g = cc in (
          subst (λ (x : ℕ). x < d.groups) same (below (has_moved old new) d.groups h at),
          moved-from (lane_in new g) (lane_in old g) (subst (λ (x : ℕ). has_moved old new x ≡ true) same (passes (has_moved old new) (range_with_len 0 d.groups) h at)),
        )
  ]

  pub moved-is_said : (g : ℕ) → g < d.groups → HasMoved old new g → Contains (changes_of d.groups old new) (change.Moved g)
  moved-is_said g is moved =
      Contains-append_right (map AsGiven lanes_given) (map AsMoved groups_moved) (change.Moved g)
      (Contains-map AsMoved groups_moved g
      (Contains-filtered (has_moved old new) (range_with_len 0 d.groups) g (moved-to (lane_in new g) (lane_in old g) moved) (Contains-range_with_len d.groups g is)))

  given-passes : (q : ℕ) → is_given d.groups old new q ≡ true → IsGiven d old new q
  given-passes q is =
      let both = both-from (is_bare old q && not (is_bare new q)) (list_any (stays_on old new q) (range_with_len 0 d.groups)) is in
      let bare = both-from (is_bare old q) (not (is_bare new q)) both.0 in
      let (k, h, within, at, stays) = Any-from_list_any (stays_on old new q) (range_with_len 0 d.groups) both.1 in
      let on = both-from (lane_in old h == q) (lane_in new h == q) stays in
      record {
        bare = bare.0;
        rescued = not-from (is_bare new q) bare.1;
        group = h;
        is_group = subst (λ (x : ℕ). x < d.groups) at (range_with_len-below d.groups k h within);
        was = eqb-true (lane_in old h) q on.0;
        stays = eqb-true (lane_in new h) q on.1;
      }

  pub given-said : (q : ℕ) → Contains (changes_of d.groups old new) (change.Given q) → (q < old.assignment.lanes) × IsGiven d old new q
  given-said q said = elim (Contains-append_cases (map AsGiven lanes_given) (map AsMoved groups_moved) (change.Given q) said) [
    | inl given ↦
        let (p, at, is) = Contains-from_map AsGiven lanes_given (change.Given q) given in
        let same : p ≡ q = cc in (
          subst (λ (x : ℕ). x < old.assignment.lanes) same (below (is_given d.groups old new) old.assignment.lanes p at),
          given-passes q (subst (λ (x : ℕ). is_given d.groups old new x ≡ true) same (passes (is_given d.groups old new) (range_with_len 0 old.assignment.lanes) p at)),
        )
    | inr moved ↦ let (h, at, is) = Contains-from_map AsMoved groups_moved (change.Given q) moved in cc
  ]

  passes-given : (q : ℕ) → IsGiven d old new q → is_given d.groups old new q ≡ true
  passes-given q given =
      let stays : stays_on old new q given.group ≡ true =
      both-to (lane_in old given.group == q) (lane_in new given.group == q) (eq-eqb (lane_in old given.group) q given.was) (eq-eqb (lane_in new given.group) q given.stays) in
      both-to (is_bare old q && not (is_bare new q)) (list_any (stays_on old new q) (range_with_len 0 d.groups))
      (both-to (is_bare old q) (not (is_bare new q)) given.bare (ap not given.rescued))
      (some_passes (stays_on old new q) d.groups given.group given.is_group stays)

  pub given-is_said : (q : ℕ) → q < old.assignment.lanes → IsGiven d old new q → Contains (changes_of d.groups old new) (change.Given q)
  given-is_said q is given =
      Contains-append_left (map AsGiven lanes_given) (map AsMoved groups_moved) (change.Given q)
      (Contains-map AsGiven lanes_given q
      (Contains-filtered (is_given d.groups old new) (range_with_len 0 old.assignment.lanes) q (passes-given q given) (Contains-range_with_len old.assignment.lanes q is)))
