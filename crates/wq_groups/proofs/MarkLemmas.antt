-- Going through the names of an `ordered` line: what is marked, which item is the first, and whose first it becomes.
use Rattle.std.proofs.Common.{◌≡◌, ℕ, ◌+◌, ◌<◌, ◌≤◌, ◌⊎◌, inl, inr, Bool, true, false, ◌||◌, cond, eqb, List, [], ◌∷◌, ◌++◌, length, map, get_or, set, Option, Some, None, refl, sym, ap, ap₂, subst, ◌∙◌, arith, append_assoc, append-nil}
use Rattle.std.specs.Prelude.{IsSome, Contains, bytes_eq, slice_index}
use Rattle.std.specs.List.{count_by, list_any}
use Rattle.std.proofs.lemmas.Bool.{cases_Bool, cases_eq, both_ways, cond-true, cond-false, eq-eqb, eqb-true, false_from_ne_true}
use Rattle.std.proofs.lemmas.List.{length-append, length-map, length-set, get_or-map, get_or-set_same, get_or-set_other, ext_get_or}
use Rattle.std.proofs.lemmas.List.Folds.{list_any-append}
use Rattle.std.proofs.lemmas.List.Sums.{fails_before_first, passes_at_first, position_or_len_is, sum_by-set, count_by-le-length}
use Rattle.std.proofs.lemmas.List.Quantifiers.{position-Some}
use Rattle.wq_text.specs.Words.{WordView}
use Rattle.wq_items.specs.Table.{item_named}
use Rattle.wq_items.specs.Building.{items_named, and_item}
use Rattle.wq_items.proofs.FlushLemmas.{item_named-is}
use Rattle.wq_items.proofs.TableLemmas.{parts, item_named-below}
use Rattle.wq_groups.specs.Reading.{names_in, marks_of, lowest_of}
use Rattle.wq_groups.proofs.Together.{same_test}
use Rattle.wq_groups.proofs.Among.{is_among, same_name, bytes_eq-same, Contains-is_among, is_among-Contains, Differ, Differ-places, Differ-push, Differ-parts}

-- ---- one name of a table

pub map-agree : {X Y : Type 0} (f g : X → Y) → ((x : X) → f x ≡ g x) → (xs : List X) → map f xs ≡ map g xs
map-agree f g agree [] = refl
map-agree f g agree (x ∷ xs) = ap₂ (λ (y : _) (ys : List _). y ∷ ys) (agree x) (map-agree f g agree xs)

-- a write at the item of a name
pub set-named : {X : Type 0} (f : List ℕ → X) (names : List (List ℕ)) (w : List ℕ) (i : ℕ) (v : X) → Differ names → item_named names w ≡ Some i
    → set (map f names) i v ≡ map (λ (name : List ℕ). cond (bytes_eq name w) v (f name)) names
set-named {X} f names w i v differ found =
    ext_get_or v (set (map f names) i v) (map g names) (length-set (map f names) i v ∙ length-map names f ∙ sym (length-map names g))
    (λ k lt. at k (omega (arith, lt, length-set (map f names) i v, length-map names f)))
  where
    g : List ℕ → X
    g name = cond (bytes_eq name w) v (f name)

    i_in : i < length names
    i_in = item_named-below names w i found

    at : (k : ℕ) → k < length names → get_or (set (map f names) i v) k v ≡ get_or (map g names) k v
    at k lt = elim (cases_eq k i) [
      | inl same ↦
          ap (λ n. get_or (set (map f names) i v) n v) same ∙ get_or-set_same (map f names) i v v (omega (arith, i_in, length-map names f))
          ∙ sym (ap (λ n. get_or (map g names) n v) same ∙ get_or-map g names i [] v i_in ∙ cond-true (bytes_eq (get_or names i []) w) v (f (get_or names i [])) (bytes_eq-same (get_or names i []) w (item_named-is names w i found)))
      | inr other ↦
          let differs : bytes_eq (get_or names k []) w ≡ false =
          false_from_ne_true (bytes_eq (get_or names k []) w) (λ e. other (Differ-places names k i differ lt i_in (same_name (get_or names k []) w e ∙ sym (item_named-is names w i found)))) in
          get_or-set_other (map f names) i k v v other ∙ get_or-map f names k [] v lt ∙ sym (get_or-map g names k [] v lt ∙ cond-false (bytes_eq (get_or names k []) w) v (f (get_or names k [])) differs)
    ]

-- what is noted at the item of a name
pub get_or-named : {X : Type 0} (f : List ℕ → X) (names : List (List ℕ)) (w : List ℕ) (i : ℕ) (d : X) → item_named names w ≡ Some i → get_or (map f names) i d ≡ f w
get_or-named f names w i d found = get_or-map f names i [] d (item_named-below names w i found) ∙ ap f (item_named-is names w i found)

-- the item that a look-up of a word's bytes gave, as an index
pub found_item : (names : List (List ℕ)) (word bytes : List ℕ) (o : Option ℕ) (id number i : ℕ) → bytes ≡ word → o ≡ item_named names bytes → o ≡ Some id → number ≡ id → i ≡ number → item_named names word ≡ Some i
found_item names word bytes o id number i read found some as_number as_index = ap (item_named names) (sym read) ∙ sym found ∙ some ∙ ap (λ (n : ℕ). Some n) (sym (as_index ∙ as_number))

-- ---- words that all name items

pub known_rest : (names : List (List ℕ)) (w : WordView) (rest : List WordView) → IsSome (items_named names (w ∷ rest)) → IsSome (items_named names rest)
known_rest names w rest known = chosen (item_named names w.bytes) (items_named names rest) known
  where
    chosen : (o : Option ℕ) (p : Option (List ℕ)) → IsSome (and_item o p) → IsSome p
    chosen None p none = absurd cc none
    chosen (Some i) None none = none
    chosen (Some i) (Some others) some = refl

-- ---- one more name

is_among-push : (a : List ℕ) (names : List (List ℕ)) (w : List ℕ) → is_among a (names ++ (w ∷ [])) ≡ cond (bytes_eq a w) true (is_among a names)
is_among-push a names w = list_any-append (bytes_eq a) names (w ∷ []) ∙ either (is_among a names) (bytes_eq a w)
  where
    either : (b c : Bool) → (b || (c || false)) ≡ cond c true b
    either true true = refl
    either true false = refl
    either false true = refl
    either false false = refl

marks_of-push : (names marked : List (List ℕ)) (w : List ℕ) (i : ℕ) → Differ names → item_named names w ≡ Some i → set (marks_of names marked) i true ≡ marks_of names (marked ++ (w ∷ []))
marks_of-push names marked w i differ found =
    set-named (λ (name : List ℕ). is_among name marked) names w i true differ found
    ∙ sym (map-agree (λ (name : List ℕ). is_among name (marked ++ (w ∷ []))) (λ (name : List ℕ). cond (bytes_eq name w) true (is_among name marked)) (λ (name : List ℕ). is_among-push name marked w) names)

-- the lower of the first place so far and that of the name
lowest_of-push : (names front : List (List ℕ)) (w : List ℕ) (i low : ℕ) → item_named names w ≡ Some i → low ≤ i → low ≤ lowest_of names front → (low ≡ i) ⊎ (low ≡ lowest_of names front)
    → low ≡ lowest_of names (front ++ (w ∷ []))
lowest_of-push names front w i low found le_own le_front one =
    sym (position_or_len_is (λ (name : List ℕ). is_among name (front ++ (w ∷ []))) names low [] (omega (arith, le_own, i_in)) before at)
  where
    i_in : i < length names
    i_in = item_named-below names w i found

    before : (k : ℕ) → k < low → is_among (get_or names k []) (front ++ (w ∷ [])) ≡ false
    before k lt =
        is_among-push (get_or names k []) front w
        ∙ cond-false (bytes_eq (get_or names k []) w) true (is_among (get_or names k []) front)
        (false_from_ne_true (bytes_eq (get_or names k []) w)
        (λ e. both_ways (bytes_eq w (get_or names k [])) ((position-Some (bytes_eq w) names i [] found).2 k (omega (arith, lt, le_own))) (bytes_eq-same w (get_or names k []) (sym (same_name (get_or names k []) w e)))))
        ∙ fails_before_first (λ (name : List ℕ). is_among name front) names k [] (omega (arith, lt, le_front))

    at : low < length names → is_among (get_or names low []) (front ++ (w ∷ [])) ≡ true
    at lt = is_among-push (get_or names low []) front w ∙ passes one
      where
        passes : (low ≡ i) ⊎ (low ≡ lowest_of names front) → cond (bytes_eq (get_or names low []) w) true (is_among (get_or names low []) front) ≡ true
        passes (inl own) = cond-true (bytes_eq (get_or names low []) w) true (is_among (get_or names low []) front) (bytes_eq-same (get_or names low []) w (ap (λ k. get_or names k []) own ∙ item_named-is names w i found))
        passes (inr front_is) = elim (cases_Bool (bytes_eq (get_or names low []) w)) [
          | inl own ↦ cond-true (bytes_eq (get_or names low []) w) true (is_among (get_or names low []) front) own
          | inr other ↦
              cond-false (bytes_eq (get_or names low []) w) true (is_among (get_or names low []) front) other
              ∙ subst (λ k. is_among (get_or names k []) front ≡ true) (sym front_is) (passes_at_first (λ (name : List ℕ). is_among name front) names [] (subst (λ k. k < length names) front_is lt))
        ]

-- ---- marking

-- how many items are marked
abbrev pub marked_count : List Bool → ℕ
marked_count marks = count_by (λ (b : Bool). b) marks

abbrev one_if : Bool → ℕ
one_if b = cond b 1 0

marked_count-set : (marks : List Bool) (i : ℕ) → i < length marks → get_or marks i false ≡ false → marked_count (set marks i true) ≡ marked_count marks + 1
marked_count-set marks i within fresh =
    let counted : marked_count (set marks i true) + one_if (get_or marks i false) ≡ marked_count marks + one_if true = sum_by-set one_if marks i true false within in
    let none : one_if (get_or marks i false) ≡ one_if false = ap one_if fresh in
    omega (arith, counted, none)

-- `rest` of all the words are left: the items of those before it are listed and marked, and the first of them is `lowest`
pub record Marked (names : List (List ℕ)) (old new : List Bool) (items : List ℕ) (lowest : ℕ) (rest words : List WordView) : Type 0 where
  pub front : List (List ℕ)
  pub parts : names_in words ≡ front ++ names_in rest
  pub known : IsSome (items_named names rest)
  pub long : length new ≡ length names
  pub first : lowest ≡ lowest_of names front
  pub marks : (before : List (List ℕ)) → old ≡ marks_of names before → new ≡ marks_of names (before ++ front)
  pub apart : (before : List (List ℕ)) → old ≡ marks_of names before → Differ before → Differ (before ++ front)
  pub listed : (others : List ℕ) → items_named names rest ≡ Some others → items_named names words ≡ Some (items ++ others)
  pub few : length items ≤ marked_count new

pub Marked-none : (names : List (List ℕ)) (old : List Bool) (items : List ℕ) (lowest : ℕ) (words : List WordView) → length old ≡ length names → items ≡ [] → IsSome (items_named names words) → lowest ≡ length names
    → Marked names old old items lowest words words
Marked-none names old items lowest words long empty known all = record {
  front = [];
  parts = refl;
  known = known;
  long = long;
  first = all ∙ sym (position_or_len_is (λ (name : List ℕ). is_among name []) names (length names) [] (omega arith) (λ k lt. refl) (λ lt. absurd (omega arith)));
  marks = λ before is. is ∙ ap (marks_of names) (sym (append-nil before));
  apart = λ before is differ. subst Differ (sym (append-nil before)) differ;
  listed = λ others is. is ∙ ap (λ (front : List ℕ). Some (front ++ others)) (sym empty);
  few = let none : length items ≡ 0 = ap length empty in omega (arith, none);
}

-- there is room for one more item than are listed if one isn't marked
pub Marked-room : (names : List (List ℕ)) (old mid : List Bool) (items : List ℕ) (lowest : ℕ) (rest words : List WordView) (i : ℕ) → i < length names → get_or mid i false ≡ false
    → Marked names old mid items lowest rest words → length items < length names
Marked-room names old mid items lowest rest words i within fresh m =
    omega (arith, m.few, m.long, marked_count-set mid i (omega (arith, within, m.long)) fresh, count_by-le-length (λ (b : Bool). b) (set mid i true), length-set mid i true)

-- the next name's item isn't marked
pub Marked-more : (names : List (List ℕ)) (old mid : List Bool) (items more : List ℕ) (lowest low : ℕ) (w : WordView) (rest words : List WordView) (i item : ℕ) → Differ names → item_named names w.bytes ≡ Some i
    → get_or mid i false ≡ false → item ≡ i → more ≡ items ++ (item ∷ []) → low ≤ i → low ≤ lowest → (low ≡ i) ⊎ (low ≡ lowest) → Marked names old mid items lowest (w ∷ rest) words
    → Marked names old (set mid i true) more low rest words
Marked-more names old mid items more lowest low w rest words i item differ found fresh same pushed le_own le_front one m = record {
  front = m.front ++ (w.bytes ∷ []);
  parts = m.parts ∙ sym (append_assoc m.front (w.bytes ∷ []) (names_in rest));
  known = known_rest names w rest m.known;
  long = length-set mid i true ∙ m.long;
  first = lowest_of-push names m.front w.bytes i low found le_own (omega (arith, le_front, m.first)) (subst (λ k. (low ≡ i) ⊎ (low ≡ k)) m.first one);
  marks = λ before is.
      ap (λ (marks : List Bool). set marks i true) (m.marks before is) ∙ marks_of-push names (before ++ m.front) w.bytes i differ found ∙ ap (marks_of names) (append_assoc before m.front (w.bytes ∷ []));
  apart = λ before is apart.
      subst Differ (append_assoc before m.front (w.bytes ∷ []))
      (Differ-push (before ++ m.front) w.bytes (m.apart before is apart)
      (λ (again : Contains (before ++ m.front) w.bytes). both_ways (get_or mid i false) fresh
      (ap (λ (marks : List Bool). get_or marks i false) (m.marks before is) ∙ get_or-named (λ (name : List ℕ). is_among name (before ++ m.front)) names w.bytes i false found ∙ is_among-Contains w.bytes (before ++ m.front) again)));
  listed = λ others is.
      m.listed (i ∷ others) (ap₂ and_item found is)
      ∙ ap (λ (l : List ℕ). Some l) (sym (ap (λ (front : List ℕ). front ++ others) (pushed ∙ ap (λ (j : ℕ). items ++ (j ∷ [])) same) ∙ append_assoc items (i ∷ []) others));
  few =
      let within : i < length mid = omega (arith, item_named-below names w.bytes i found, m.long) in
      let long : length more ≡ length items + 1 = ap length pushed ∙ length-append items (item ∷ []) in
      omega (arith, m.few, long, marked_count-set mid i within fresh);
}

-- when no words are left, the items of all are listed
pub Marked-all : (names : List (List ℕ)) (old new : List Bool) (items : List ℕ) (lowest : ℕ) (rest words : List WordView) → rest ≡ [] → Marked names old new items lowest rest words → items_named names words ≡ Some items
Marked-all names old new items lowest rest words done m = m.listed [] (ap (items_named names) done) ∙ ap (λ (l : List ℕ). Some l) (append-nil items)

-- the next name's item is marked already
pub Marked-twice : (names : List (List ℕ)) (old mid : List Bool) (items : List ℕ) (lowest : ℕ) (w : WordView) (rest words : List WordView) (i : ℕ) → item_named names w.bytes ≡ Some i → get_or mid i false ≡ true
    → Marked names old mid items lowest (w ∷ rest) words → (before : List (List ℕ)) → old ≡ marks_of names before → Differ (before ++ names_in words) → ⊥
Marked-twice names old mid items lowest w rest words i found marked m before is differ =
    let stood : Contains (before ++ m.front) w.bytes =
    Contains-is_among w.bytes (before ++ m.front)
    (sym (get_or-named (λ (name : List ℕ). is_among name (before ++ m.front)) names w.bytes i false found) ∙ ap (λ (marks : List Bool). get_or marks i false) (sym (m.marks before is)) ∙ marked) in
    let whole : before ++ names_in words ≡ (before ++ m.front) ++ (w.bytes ∷ names_in rest) = ap (λ (l : List (List ℕ)). before ++ l) m.parts ∙ sym (append_assoc before m.front (w.bytes ∷ names_in rest)) in
    Differ-parts (before ++ m.front) (w.bytes ∷ names_in rest) w.bytes (subst Differ whole differ) stood (0, omega arith, refl)

-- ---- setting the first

-- a name of the table is one of the words if its item is one of theirs
is_among-items : (names : List (List ℕ)) (words : List WordView) (items : List ℕ) (i : ℕ) → Differ names → items_named names words ≡ Some items → i < length names
    → is_among (get_or names i []) (names_in words) ≡ list_any (λ (item : ℕ). eqb i item) items
is_among-items names [] items i differ is within = let none : items ≡ [] = cc in ap (list_any (λ (item : ℕ). eqb i item)) (sym none)
is_among-items names (w ∷ words) items i differ is within =
    let p = parts (item_named names w.bytes) (items_named names words) items is in
    let first : bytes_eq (get_or names i []) w.bytes ≡ eqb i p.item = same_test (bytes_eq (get_or names i []) w.bytes) (eqb i p.item)
    (λ e. eq-eqb i p.item (Differ-places names i p.item differ within (item_named-below names w.bytes p.item p.first) (same_name (get_or names i []) w.bytes e ∙ sym (item_named-is names w.bytes p.item p.first))))
    (λ e. bytes_eq-same (get_or names i []) w.bytes (ap (λ k. get_or names k []) (eqb-true i p.item e) ∙ item_named-is names w.bytes p.item p.first)) in
    ap₂ (λ (a b : Bool). a || b) first (is_among-items names words p.others i differ p.rest within) ∙ ap (list_any (λ (item : ℕ). eqb i item)) (sym p.whole)

-- where the items of the words have this first, and no others' was changed
pub firsts-set : (names : List (List ℕ)) (words : List WordView) (items old new : List ℕ) (lowest : ℕ) (before : List ℕ → ℕ) → Differ names → items_named names words ≡ Some items → old ≡ map before names
    → length new ≡ length old → ((i : ℕ) → i < length old → slice_index new i ≡ cond (list_any (λ (item : ℕ). eqb i item) items) lowest (slice_index old i))
    → new ≡ map (λ (name : List ℕ). cond (is_among name (names_in words)) lowest (before name)) names
firsts-set names words items old new lowest before differ named was long set_to =
    ext_get_or 0 new (map f names) (long ∙ all ∙ sym (length-map names f))
    (λ i lt. let within : i < length names = omega (arith, lt, long, all) in
    set_to i (omega (arith, lt, long))
    ∙ ap₂ (λ (b : Bool) (n : ℕ). cond b lowest n) (sym (is_among-items names words items i differ named within)) (ap (λ (l : List ℕ). get_or l i 0) was ∙ get_or-map before names i [] 0 within)
    ∙ sym (get_or-map f names i [] 0 within))
  where
    f : List ℕ → ℕ
    f name = cond (is_among name (names_in words)) lowest (before name)

    all : length old ≡ length names
    all = ap length was ∙ length-map names before
