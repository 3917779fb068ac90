-- Going through the `ordered` lines: what is noted about the items so far.
use Rattle.std.proofs.Common.{◌≡◌, ℕ, ◌+◌, ◌<◌, ◌⊎◌, inl, inr, Bool, true, false, ◌||◌, ◌&&◌, cond, ltb, List, [], ◌∷◌}
use Rattle.std.proofs.Common.{◌++◌, length, map, get_or, take, drop, Option, Some, None, Ok, Err, refl, sym, ap, subst}
use Rattle.std.proofs.Common.{◌∙◌, arith, append_assoc, append-nil}
use Rattle.std.specs.Prelude.{IsSome, is_some, Contains, bytes_eq, replicate}
use Rattle.std.specs.List.{All, position, position_or_len, range_with_len, filter_map}
use Rattle.std.specs.Option.{unwrap_or}
use Rattle.std.proofs.Math.Bool.{or-false}
use Rattle.std.proofs.lemmas.Bool.{cases_Bool, or_cases, or_left, or_right, and_parts, and_from, cond-true, cond-false}
use Rattle.std.proofs.lemmas.Bool.{lt-ltb, false_from_ne_true}
use Rattle.std.proofs.lemmas.List.{length-map, get_or-map, ext_get_or, get_or-replicate, length-replicate, drop_all}
use Rattle.std.proofs.lemmas.List.{take_all}
use Rattle.std.proofs.lemmas.List.Folds.{list_any-append}
use Rattle.std.proofs.lemmas.List.FromFn.{length-range_with_len, get_or-range_with_len}
use Rattle.std.proofs.lemmas.List.Elements.{All-weaker, All-head, All-tail, Contains-append_left, filter_map-append}
use Rattle.std.proofs.lemmas.List.Sums.{position_or_len_is}
use Rattle.wq_text.specs.Words.{WordView}
use Rattle.wq_decl.specs.declared.directive.Directive.{Directive}
use Rattle.wq_decl.specs.declared.directive.Directive.TheVariants.{Item, Flush, FlushWq, Unsure, Ordered}
use Rattle.wq_decl.specs.Reading.{has_ordered, ordered_lines}
use Rattle.wq_items.specs.Table.{Table, item_named}
use Rattle.wq_items.specs.Building.{table_of, items_named, and_item}
use Rattle.wq_items.specs.Flushes.{item_name}
use Rattle.wq_items.specs.FirstFault.{IsDeclared}
use Rattle.wq_items.proofs.BuildingLemmas.{names-table_of}
use Rattle.wq_items.proofs.FaultLemmas.{IsFaultless-table_of}
use Rattle.wq_groups.specs.declared.fault.GroupError.TheVariants.{GroupedTwice}
use Rattle.wq_groups.specs.Grouping.{names_ordered, all_ordered, are_together, first_member, groups_of}
use Rattle.wq_groups.specs.Reading.{names_in, marks_of, lowest_of, IsNoted}
use Rattle.wq_groups.proofs.Among.{is_among, same_name, bytes_eq-same, Contains-is_among, Differ, Differ-parts}
use Rattle.wq_groups.proofs.Regrouped.{all_ordered-push, first_regrouped-lowest}
use Rattle.wq_groups.proofs.Together.{same_test, position_or_len-agree, position_or_len-le, first_place, on_one_line}
use Rattle.wq_groups.proofs.Together.{on_one_line-ordered, are_together-same, together_cases}
use Rattle.wq_groups.proofs.Partitions.{groups_of-some}

-- ---- one more directive

position-agree : {X : Type 0} (p q : X → Bool) → ((x : X) → p x ≡ q x) → (xs : List X) → position p xs ≡ position q xs
position-agree p q agree xs = ap (λ (n : ℕ). cond (ltb n (length xs)) (Some n) None)
    (position_or_len-agree p q agree xs)

module _ (ds : List (ℕ × Directive)) (d : ℕ × Directive) (names : List (List ℕ)) where
  line_is : (a b : List ℕ) → on_one_line (ds ++ (d ∷ [])) a b ≡ (on_one_line ds a b ||
      ((is_among a (names_ordered d) && is_among b (names_ordered d)) || false))
  line_is a b = list_any-append (λ (e : ℕ × Directive). is_among a (names_ordered e) && is_among b (names_ordered e)) ds
      (d ∷ [])

  -- a name that isn't on the line
  together_other : (a b : List ℕ) → is_among a (names_ordered d) ≡ false
      → are_together (ds ++ (d ∷ [])) a b ≡ are_together ds a b
  together_other a b other =
      ap (λ (t : Bool). bytes_eq a b || t) (line_is a b
      ∙ ap (λ (t : Bool). on_one_line ds a b || ((t && is_among b (names_ordered d)) || false)) other
      ∙ or-false (on_one_line ds a b))

  -- a name that is on the line, and on none before it
  together_line : (a b : List ℕ) → Differ (all_ordered ds ++ names_ordered d) → is_among a (names_ordered d) ≡ true
      → are_together (ds ++ (d ∷ [])) a b ≡ is_among b (names_ordered d)
  together_line a b differ on = same_test (are_together (ds ++ (d ∷ [])) a b) (is_among b (names_ordered d)) to from
    where
      both : Bool
      both = is_among a (names_ordered d) && is_among b (names_ordered d)

      to : are_together (ds ++ (d ∷ [])) a b ≡ true → is_among b (names_ordered d) ≡ true
      to e = elim (or_cases (bytes_eq a b) (on_one_line (ds ++ (d ∷ [])) a b) e) [
        | inl same ↦ subst (λ (n : List ℕ). is_among n (names_ordered d) ≡ true) (same_name a b same) on
        | inr line ↦ elim (or_cases (on_one_line ds a b) ((is_among a (names_ordered d) && is_among b (names_ordered d))
            || false) (sym (line_is a b) ∙ line)) [
              | inl before ↦ absurd (Differ-parts (all_ordered ds) (names_ordered d) a differ
                  (on_one_line-ordered ds a b before) (Contains-is_among a (names_ordered d) on))
              | inr here ↦ elim (or_cases (is_among a (names_ordered d) && is_among b (names_ordered d)) false here) [
                | inl own ↦ (and_parts (is_among a (names_ordered d)) (is_among b (names_ordered d)) own).1
                | inr none ↦ absurd cc none
              ]
            ]
      ]

      from : is_among b (names_ordered d) ≡ true → are_together (ds ++ (d ∷ [])) a b ≡ true
      from e =
          or_right (bytes_eq a b) (on_one_line (ds ++ (d ∷ [])) a b)
          (line_is a b
          ∙ or_right (on_one_line ds a b) ((is_among a (names_ordered d) && is_among b (names_ordered d)) || false)
          (or_left (is_among a (names_ordered d) && is_among b (names_ordered d)) false
          (and_from (is_among a (names_ordered d)) (is_among b (names_ordered d)) on e)))

  pub first_member-push : (i : ℕ) → i < length names → Differ (all_ordered ds ++ names_ordered d)
      → first_member (ds ++ (d ∷ [])) names (get_or names i []) ≡ cond (is_among (get_or names i []) (names_ordered d))
      (lowest_of names (names_ordered d)) (first_member ds names (get_or names i []))
  first_member-push i within differ = elim (cases_Bool (is_among (get_or names i []) (names_ordered d))) [
    | inl on ↦
        ap (λ (o : Option ℕ). unwrap_or o 0) (position-agree (are_together (ds ++ (d ∷ [])) (get_or names i []))
        (λ (b : List ℕ). is_among b (names_ordered d)) (λ (b : List ℕ). together_line (get_or names i []) b differ
        on) names)
        ∙ first_place (λ (b : List ℕ). is_among b (names_ordered d)) names i [] within on
        ∙ sym (cond-true (is_among (get_or names i []) (names_ordered d)) (lowest_of names (names_ordered d))
        (first_member ds names (get_or names i [])) on)
    | inr other ↦
        ap (λ (o : Option ℕ). unwrap_or o 0) (position-agree (are_together (ds ++ (d ∷ [])) (get_or names i []))
        (are_together ds (get_or names i [])) (λ (b : List ℕ). together_other (get_or names i []) b other) names)
        ∙ sym (cond-false (is_among (get_or names i []) (names_ordered d)) (lowest_of names (names_ordered d))
        (first_member ds names (get_or names i [])) other)
  ]

  firsts-push : Differ (all_ordered ds ++ names_ordered d)
      → map (λ (name : List ℕ). cond (is_among name (names_ordered d)) (lowest_of names (names_ordered d))
      (first_member ds names name)) names ≡ map (first_member (ds ++ (d ∷ [])) names) names
  firsts-push differ =
      ext_get_or 0 (map f names) (map g names) (length-map names f ∙ sym (length-map names g))
      (λ i lt. let within : i < length names = omega (arith, lt, length-map names f) in get_or-map f names i [] 0 within
      ∙ sym (first_member-push i within differ) ∙ sym (get_or-map g names i [] 0 within))
    where
      f : List ℕ → ℕ
      f name = cond (is_among name (names_ordered d)) (lowest_of names (names_ordered d)) (first_member ds names name)

      g : List ℕ → ℕ
      g name = first_member (ds ++ (d ∷ [])) names name

  -- after a directive, whose names now have this first
  pub IsNoted-more : (old new : List ℕ) (marks marked : List Bool) (lowest : ℕ) → IsNoted ds names old marks
      → Differ (all_ordered ds ++ names_ordered d) → lowest ≡ lowest_of names (names_ordered d)
      → new ≡ map (λ (name : List ℕ). cond (is_among name (names_ordered d)) lowest (first_member ds names name)) names
      → marked ≡ marks_of names (all_ordered ds ++ names_ordered d)
      → IsNoted (ds ++ (d ∷ [])) names new marked
  IsNoted-more old new marks marked lowest noted differ low set_to now = record {
    firsts = set_to ∙ ap (λ (l : ℕ). map (λ (name : List ℕ). cond (is_among name (names_ordered d)) l
        (first_member ds names name)) names) low ∙ firsts-push differ;
    marks = now ∙ ap (marks_of names) (sym (all_ordered-push ds d));
    apart = subst Differ (sym (all_ordered-push ds d)) differ;
  }

  -- after a directive that orders nothing
  pub IsNoted-other : (first : List ℕ) (marks : List Bool) → names_ordered d ≡ [] → IsNoted ds names first marks
      → IsNoted (ds ++ (d ∷ [])) names first marks
  IsNoted-other first marks none noted =
      let same : all_ordered ds ++ names_ordered d ≡ all_ordered ds =
      ap (λ (l : List (List ℕ)). all_ordered ds ++ l) none ∙ append-nil (all_ordered ds) in
      let differ : Differ (all_ordered ds ++ names_ordered d) = subst Differ (sym same) noted.apart in
      record {
        firsts = noted.firsts ∙ ap (λ (line : List (List ℕ)).
            map (λ (name : List ℕ). cond (is_among name line) (lowest_of names line) (first_member ds names name))
            names) (sym none) ∙ firsts-push differ;
        marks = noted.marks ∙ ap (marks_of names) (sym same ∙ sym (all_ordered-push ds d));
        apart = subst Differ (sym (all_ordered-push ds d)) differ;
      }

-- ---- no directive

pub IsNoted-none : (names : List (List ℕ)) (first : List ℕ) (marks : List Bool) → Differ names
    → first ≡ range_with_len 0 (length names) → marks ≡ replicate (length names) false → IsNoted [] names first marks
IsNoted-none names first marks differ numbers none = record {
  firsts = numbers ∙ ext_get_or 0 (range_with_len 0 (length names)) (map (first_member [] names) names)
      (length-range_with_len 0 (length names) ∙ sym (length-map names (first_member [] names)))
      (λ i lt. let within : i < length names = omega (arith, lt, length-range_with_len 0 (length names)) in
      get_or-range_with_len 0 (length names) i 0 within
      ∙ sym (get_or-map (first_member [] names) names i [] 0 within ∙ own i within));
  marks = none ∙ ext_get_or false (replicate (length names) false) (marks_of names [])
      (length-replicate (length names) false ∙ sym (length-map names (λ (name : List ℕ). is_among name [])))
      (λ i lt. let within : i < length names = omega (arith, lt, length-replicate (length names) false) in
      get_or-replicate (length names) i false false within
      ∙ sym (get_or-map (λ (name : List ℕ). is_among name []) names i [] false within));
  apart = λ i j d lt within. absurd (omega arith);
}
  where
    own : (i : ℕ) → i < length names → first_member [] names (get_or names i []) ≡ 0 + i
    own i within =
        let start : i ≡ 0 + i = omega arith in
        first_place (are_together [] (get_or names i [])) names i [] within (same_together i)
        ∙ position_or_len_is (are_together [] (get_or names i [])) names i [] (omega arith) (λ k lt. other k lt)
        (λ lt. same_together i) ∙ start
      where
        same_together : (i : ℕ) → are_together [] (get_or names i []) (get_or names i []) ≡ true
        same_together i = are_together-same [] (get_or names i []) (get_or names i []) refl

        other : (k : ℕ) → k < i → are_together [] (get_or names i []) (get_or names k []) ≡ false
        other k lt = false_from_ne_true (are_together [] (get_or names i []) (get_or names k []))
            (λ e. alone (together_cases [] (get_or names i []) (get_or names k []) e))
          where
            alone : (get_or names i [] ≡ get_or names k []) ⊎ (false ≡ true) → ⊥
            alone (inl same) = differ k i [] lt within (sym same)
            alone (inr line) = absurd cc line

-- ---- all names on `ordered` lines are known

items_named-known : (names : List (List ℕ)) (words : List WordView) → All (Contains names) (names_in words)
    → IsSome (items_named names words)
items_named-known names [] known = refl
items_named-known names (word ∷ words) known =
    both (item_named names word.bytes) (items_named names words)
    (found (All-head (Contains names) word.bytes (names_in words) known))
    (items_named-known names words (All-tail (Contains names) word.bytes (names_in words) known))
  where
    both : (o : Option ℕ) (p : Option (List ℕ)) → IsSome o → IsSome p → IsSome (and_item o p)
    both None p none some = none
    both (Some i) None some none = none
    both (Some i) (Some others) some all = refl

    found : Contains names word.bytes → IsSome (item_named names word.bytes)
    found h =
        let passes : bytes_eq word.bytes (get_or names h.0 word.bytes) ≡ true =
        bytes_eq-same word.bytes (get_or names h.0 word.bytes) (sym h.2) in
        let first : position_or_len (bytes_eq word.bytes) names < length names =
        omega (arith, h.1, position_or_len-le (bytes_eq word.bytes) names h.0 word.bytes passes) in
        ap (λ (b : Bool). is_some (cond b (Some (position_or_len (bytes_eq word.bytes) names)) None))
        (lt-ltb (position_or_len (bytes_eq word.bytes) names) (length names) first)

known_names : (ds : List (ℕ × Directive)) (t : Table) (before : List (ℕ × Directive)) (n : ℕ) (words : List WordView)
    (after : List (ℕ × Directive)) → table_of ds ≡ Ok t → ds ≡ before ++ ((n, Ordered words) ∷ after)
    → IsSome (items_named t.names words)
known_names ds t before n words after made parts =
    let whole : t.names ≡ filter_map item_name before ++ filter_map item_name ((n, Ordered words) ∷ after) =
    names-table_of ds t made ∙ ap (filter_map item_name) parts
    ∙ filter_map-append item_name before ((n, Ordered words) ∷ after) in
    items_named-known t.names words
    (All-weaker (IsDeclared before) (Contains t.names)
    (λ (name : List ℕ) (h : IsDeclared before name). subst (λ (names : List (List ℕ)). Contains names name) (sym whole)
    (Contains-append_left (filter_map item_name before) (filter_map item_name ((n, Ordered words) ∷ after)) name h))
    (names_in words) ((IsFaultless-table_of ds t made).known before (n, Ordered words) after parts))

-- ---- going through them

-- what a vector holds after a write through a slice of all of it
pub written_back : {X : Type 0} (new old : List X) (n : ℕ) → length new ≡ length old → n ≡ length old
    → take n (new ++ drop (length new) old) ≡ new
written_back new old n long all =
    ap (λ (rest : List _). take n (new ++ rest)) (drop_all (length new) old (omega (arith, long)))
    ∙ ap (take n) (append-nil new) ∙ take_all n new (omega (arith, long, all))

-- the directives before an `ordered` line are noted, and these lines are left after it
record NotedUpTo (ds : List (ℕ × Directive)) (n : ℕ) (words : List WordView) (others : List (ℕ × List WordView))
    (names : List (List ℕ)) (first : List ℕ) (marks : List Bool) : Type 0 where
  before : List (ℕ × Directive)
  after : List (ℕ × Directive)
  parts : ds ≡ before ++ ((n, Ordered words) ∷ after)
  left : ordered_lines after ≡ others
  noted : IsNoted before names first marks

same_line : (a b : ℕ × List WordView) (after others : List (ℕ × List WordView)) → a ∷ after ≡ b ∷ others → a ≡ b
same_line a b after others left = cc

module _ (ds : List (ℕ × Directive)) (names : List (List ℕ)) (first : List ℕ) (marks : List Bool) where
  -- a directive that orders nothing is noted with those before it
  one_more : (before : List (ℕ × Directive)) (d : ℕ × Directive) → names_ordered d ≡ []
      → IsNoted before names first marks → IsNoted (before ++ (d ∷ [])) names first marks
  one_more before d none noted = IsNoted-other before d names first marks none noted

  up_to : (n : ℕ) (words : List WordView) (others : List (ℕ × List WordView)) (before rest : List (ℕ × Directive))
      → ds ≡ before ++ rest → ordered_lines rest ≡ (n, words) ∷ others
      → IsNoted before names first marks → NotedUpTo ds n words others names first marks
  up_to n words others before [] parts left noted = absurd cc
  up_to n words others before ((k, Item name) ∷ rest) parts left noted =
      up_to n words others (before ++ ((k, Item name) ∷ [])) rest
      (parts ∙ sym (append_assoc before ((k, Item name) ∷ []) rest)) left
      (one_more before (k, Item name) refl noted)
  up_to n words others before ((k, Flush name targets) ∷ rest) parts left noted =
      up_to n words others (before ++ ((k, Flush name targets) ∷ [])) rest
      (parts ∙ sym (append_assoc before ((k, Flush name targets) ∷ []) rest)) left
      (one_more before (k, Flush name targets) refl noted)
  up_to n words others before ((k, FlushWq name target) ∷ rest) parts left noted =
      up_to n words others (before ++ ((k, FlushWq name target) ∷ [])) rest
      (parts ∙ sym (append_assoc before ((k, FlushWq name target) ∷ []) rest)) left
      (one_more before (k, FlushWq name target) refl noted)
  up_to n words others before ((k, Unsure name target whole) ∷ rest) parts left noted =
      up_to n words others (before ++ ((k, Unsure name target whole) ∷ [])) rest
      (parts ∙ sym (append_assoc before ((k, Unsure name target whole) ∷ []) rest)) left
      (one_more before (k, Unsure name target whole) refl noted)
  up_to n words others before ((k, Ordered ws) ∷ rest) parts left noted =
      let same = same_line (k, ws) (n, words) (ordered_lines rest) others left in
      let behind : ordered_lines rest ≡ others = cc in
      record {
        before = before;
        after = rest;
        parts = parts ∙ ap (λ (line : ℕ × List WordView). before ++ ((line.0, Ordered line.1) ∷ rest)) same;
        left = behind;
        noted = noted;
      }

  to_the_end : (before rest : List (ℕ × Directive)) → ds ≡ before ++ rest → ordered_lines rest ≡ []
      → IsNoted before names first marks → IsNoted ds names first marks
  to_the_end before [] parts left noted = subst (λ (l : List (ℕ × Directive)). IsNoted l names first marks)
      (sym (parts ∙ append-nil before)) noted
  to_the_end before ((k, Item name) ∷ rest) parts left noted =
      to_the_end (before ++ ((k, Item name) ∷ [])) rest (parts ∙ sym (append_assoc before ((k, Item name) ∷ []) rest))
      left (one_more before (k, Item name) refl noted)
  to_the_end before ((k, Flush name targets) ∷ rest) parts left noted =
      to_the_end (before ++ ((k, Flush name targets) ∷ [])) rest
      (parts ∙ sym (append_assoc before ((k, Flush name targets) ∷ []) rest)) left
      (one_more before (k, Flush name targets) refl noted)
  to_the_end before ((k, FlushWq name target) ∷ rest) parts left noted =
      to_the_end (before ++ ((k, FlushWq name target) ∷ [])) rest
      (parts ∙ sym (append_assoc before ((k, FlushWq name target) ∷ []) rest)) left
      (one_more before (k, FlushWq name target) refl noted)
  to_the_end before ((k, Unsure name target whole) ∷ rest) parts left noted =
      to_the_end (before ++ ((k, Unsure name target whole) ∷ [])) rest
      (parts ∙ sym (append_assoc before ((k, Unsure name target whole) ∷ []) rest)) left
      (one_more before (k, Unsure name target whole) refl noted)
  to_the_end before ((k, Ordered ws) ∷ rest) parts left noted = absurd cc

-- these `ordered` lines are left, and the directives before the first of them are noted
pub record NotedSoFar (ds : List (ℕ × Directive)) (lines : List (ℕ × List WordView)) (names : List (List ℕ))
    (first : List ℕ) (marks : List Bool) : Type 0 where
  pub before : List (ℕ × Directive)
  pub rest : List (ℕ × Directive)
  pub parts : ds ≡ before ++ rest
  pub left : ordered_lines rest ≡ lines
  pub noted : IsNoted before names first marks

pub NotedSoFar-none : (ds : List (ℕ × Directive)) (names : List (List ℕ)) (first : List ℕ) (marks : List Bool)
    → Differ names → first ≡ range_with_len 0 (length names) → marks ≡ replicate (length names) false
    → NotedSoFar ds (ordered_lines ds) names first marks
NotedSoFar-none ds names first marks differ numbers none = record {
  before = [];
  rest = ds;
  parts = refl;
  left = refl;
  noted = IsNoted-none names first marks differ numbers none;
}

module _ (ds : List (ℕ × Directive)) (names : List (List ℕ)) (n : ℕ) (words : List WordView)
    (others : List (ℕ × List WordView)) (first : List ℕ) (marks : List Bool) where
  next_line : NotedSoFar ds ((n, words) ∷ others) names first marks → NotedUpTo ds n words others names first marks
  next_line so_far = up_to ds names first marks n words others so_far.before so_far.rest so_far.parts so_far.left
      so_far.noted

  pub NotedSoFar-more : (new : List ℕ) (marked : List Bool)
      → ((before : List (ℕ × Directive)) → IsNoted before names first marks
      → IsNoted (before ++ ((n, Ordered words) ∷ [])) names new marked)
      → NotedSoFar ds ((n, words) ∷ others) names first marks → NotedSoFar ds others names new marked
  NotedSoFar-more new marked step so_far =
      let line = next_line so_far in
      record {
        before = line.before ++ ((n, Ordered words) ∷ []);
        rest = line.after;
        parts = line.parts ∙ sym (append_assoc line.before ((n, Ordered words) ∷ []) line.after);
        left = line.left;
        noted = step line.before line.noted;
      }

  pub NotedSoFar-twice : ((before : List (ℕ × Directive)) → IsNoted before names first marks
      → Differ (all_ordered before ++ names_in words) → ⊥)
      → NotedSoFar ds ((n, words) ∷ others) names first marks → groups_of ds names ≡ Err (GroupedTwice n)
  NotedSoFar-twice twice so_far =
      let line = next_line so_far in
      groups_of-some ds names n
      (first_regrouped-lowest ds n (
      record {
        before = line.before;
        line = (n, Ordered words);
        after = line.after;
        parts = line.parts;
        number = refl;
        apart = line.noted.apart;
        twice = λ (differ : Differ (all_ordered (line.before ++ ((n, Ordered words) ∷ [])))). twice line.before
            line.noted (subst Differ (all_ordered-push line.before (n, Ordered words)) differ);
      }
      ))

pub NotedSoFar-known : (ds : List (ℕ × Directive)) (t : Table) (n : ℕ) (words : List WordView)
    (others : List (ℕ × List WordView)) (first : List ℕ) (marks : List Bool) → table_of ds ≡ Ok t
    → NotedSoFar ds ((n, words) ∷ others) t.names first marks → IsSome (items_named t.names words)
NotedSoFar-known ds t n words others first marks made so_far =
    let line = next_line ds t.names n words others first marks so_far in
    known_names ds t line.before n words line.after made line.parts

pub NotedSoFar-all : (ds : List (ℕ × Directive)) (names : List (List ℕ)) (first : List ℕ) (marks : List Bool)
    → NotedSoFar ds [] names first marks → IsNoted ds names first marks
NotedSoFar-all ds names first marks so_far = to_the_end ds names first marks so_far.before so_far.rest so_far.parts
    so_far.left so_far.noted

-- ---- no `ordered` line

no_lines : (ds : List (ℕ × Directive)) → has_ordered ds ≡ false → ordered_lines ds ≡ []
no_lines [] none = refl
no_lines ((n, Item name) ∷ ds) none = no_lines ds none
no_lines ((n, Flush name targets) ∷ ds) none = no_lines ds none
no_lines ((n, FlushWq name target) ∷ ds) none = no_lines ds none
no_lines ((n, Unsure name target whole) ∷ ds) none = no_lines ds none
no_lines ((n, Ordered names) ∷ ds) none = absurd cc

-- without an `ordered` line each item is the first-declared one of its group
pub IsNoted-unordered : (ds : List (ℕ × Directive)) (names : List (List ℕ)) (first : List ℕ) (marks : List Bool)
    → has_ordered ds ≡ false → Differ names → first ≡ range_with_len 0 (length names)
    → marks ≡ replicate (length names) false → IsNoted ds names first marks
IsNoted-unordered ds names first marks none differ numbers unmarked =
    to_the_end ds names first marks [] ds refl (no_lines ds none)
    (IsNoted-none names first marks differ numbers unmarked)
