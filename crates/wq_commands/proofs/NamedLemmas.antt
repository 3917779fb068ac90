-- The items with some names, each once.
use Rattle.std.proofs.Common.{
  ◌≡◌,
  ℕ,
  zero,
  suc,
  ◌+◌,
  ◌<◌,
  ◌≤◌,
  ◌==◌,
  inl,
  inr,
  Bool,
  true,
  false,
  ◌||◌,
  cond,
  List,
  [],
  ◌∷◌,
  ◌++◌,
  length,
  get_or,
  set,
  take,
  map,
  Option,
  Some,
  None,
  refl,
  sym,
  ap,
  ap₂,
  subst,
  subst₂,
  ◌∙◌,
  arith,
  append-nil,
}
use Rattle.std.specs.Prelude.{Contains, option_map, replicate, filter}
use Rattle.std.specs.List.{All, list_any, range_with_len}
use Rattle.std.proofs.Math.Bool.{or-false}
use Rattle.std.proofs.lemmas.Bool.{cases_eq, eq-eqb, ne_eqb}
use Rattle.std.proofs.lemmas.List.{length-set, get_or-set_same, get_or-set_other, take_all}
use Rattle.std.proofs.lemmas.List.Elements.{All-filter, filter-append}
use Rattle.std.proofs.lemmas.List.FromFn.{fill_by_all}
use Rattle.std.specs.Option.{option_zip}
use Rattle.wq_items.specs.Table.{item_named}
use Rattle.wq_items.proofs.Lists.{Contains-here, Contains-later, range_with_len-below}
use Rattle.wq_items.proofs.TableLemmas.{range_with_len-push}
use Rattle.wq_core.proofs.LaneLemmas.{Contains-nil}
use Rattle.wq_graph.proofs.ListLemmas.{Contains-cases}
use Rattle.wq_cert.specs.Forms.{items_of}
use Rattle.wq_cert.specs.Noted.{marks}
use Rattle.wq_cert.specs.Reading.{stands_in}
use Rattle.wq_cert.proofs.StoodLemmas.{any_push, or_true, get_or-marks, length-marks, take_one}
use Rattle.wq_commands.specs.Named.{items_with_names}

-- ---- marks

marks-set : (n : ℕ) (items : List ℕ) (x : ℕ) → x < n → set (marks n items) x true ≡ marks n (items ++ (x ∷ []))
marks-set n items x within =
    fill_by_all (stands_in (items ++ (x ∷ []))) (set (marks n items) x true) n true
    (length-set (marks n items) x true ∙ length-marks n items) at
  where
    at : (k : ℕ) → k < n → get_or (set (marks n items) x true) k true ≡ stands_in (items ++ (x ∷ [])) k
    at k lt = elim (cases_eq k x) [
      | inl same ↦
          ap (λ i. get_or (set (marks n items) x true) i true) same
          ∙ get_or-set_same (marks n items) x true true (omega (arith, within, length-marks n items))
          ∙ sym (any_push (λ j. k == j) items x ∙ ap (λ b. stands_in items k || b) (eq-eqb k x same)
          ∙ or_true (stands_in items k))
      | inr other ↦
          get_or-set_other (marks n items) x k true true other ∙ get_or-marks n items k true lt
          ∙ sym (any_push (λ j. k == j) items x ∙ ap (λ b. stands_in items k || b) (ne_eqb k x other)
          ∙ or-false (stands_in items k))
    ]

-- one more of these items is marked
pub marks-more : (n : ℕ) (items : List ℕ) (k x : ℕ) (old : List Bool) → old ≡ marks n (take k items) → k < length items
    → x ≡ get_or items k x → x < n → set old x true ≡ marks n (take (k + 1) items)
marks-more n items k x old is within at low =
    ap (λ (ms : List Bool). set ms x true) is ∙ marks-set n (take k items) x low
    ∙ ap (marks n) (sym (take_one items k x within at))

pub marks-all : (n : ℕ) (items : List ℕ) (k : ℕ) (stood : List Bool) → stood ≡ marks n (take k items) → length items ≤ k
    → stood ≡ marks n items
marks-all n items k stood is all = is ∙ ap (marks n) (take_all k items all)

pub item_within : (items : List ℕ) (k x n : ℕ) → All (λ i. i < n) items → k < length items → x ≡ get_or items k x
    → x < n
item_within items k x n all within at = omega (arith, at, all k x within)

marks-from : (n a : ℕ) → map (stands_in []) (range_with_len a n) ≡ replicate n false
marks-from zero a = refl
marks-from (suc n) a = ap (λ (vs : List Bool). false ∷ vs) (marks-from n (a + 1))

pub marks-none : (n : ℕ) (stood : List Bool) → stood ≡ replicate n false → stood ≡ marks n []
marks-none n stood is = is ∙ sym (marks-from n 0)

-- ---- the marked items

grown : (items : List ℕ) (i : ℕ) → filter (stands_in items) (range_with_len 0 (i + 1))
    ≡ filter (stands_in items) (range_with_len 0 i) ++ cond (stands_in items i) (i ∷ []) []
grown items i =
    ap (filter (stands_in items)) (range_with_len-push i)
    ∙ filter-append (stands_in items) (range_with_len 0 i) (i ∷ [])

pub each_once-push : (items list new : List ℕ) (i x : ℕ) → list ≡ filter (stands_in items) (range_with_len 0 i)
    → stands_in items i ≡ true → new ≡ list ++ (x ∷ []) → x ≡ i
    → new ≡ filter (stands_in items) (range_with_len 0 (i + 1))
each_once-push items list new i x is stands pushed same =
    pushed ∙ ap₂ (λ (front : List ℕ) (y : ℕ). front ++ (y ∷ [])) is same
    ∙ sym (grown items i ∙ ap (λ b. filter (stands_in items) (range_with_len 0 i) ++ cond b (i ∷ []) []) stands)

pub each_once-kept : (items list : List ℕ) (i : ℕ) → list ≡ filter (stands_in items) (range_with_len 0 i)
    → stands_in items i ≡ false → list ≡ filter (stands_in items) (range_with_len 0 (i + 1))
each_once-kept items list i is stands =
    is ∙ sym (append-nil (filter (stands_in items) (range_with_len 0 i)))
    ∙ sym (grown items i ∙ ap (λ b. filter (stands_in items) (range_with_len 0 i) ++ cond b (i ∷ []) []) stands)

pub each_once-below : (items list : List ℕ) (count n : ℕ) → list ≡ filter (stands_in items) (range_with_len 0 count)
    → count ≡ n → All (λ i. i < n) list
each_once-below items list count n is same =
    subst₂ (λ (l : List ℕ) (k : ℕ). All (λ i. i < k) l) (sym is) same
    (All-filter (stands_in items) (λ i. i < count) (range_with_len 0 count) (range_with_len-below count))

-- ---- the items

pub items_with_names-some : (names words : List (List ℕ)) (items : List ℕ) → items_of names words ≡ Some items
    → items_with_names names words ≡ Some (filter (stands_in items) (range_with_len 0 (length names)))
items_with_names-some names words items is =
    ap (option_map (λ (is : List ℕ). filter (stands_in is) (range_with_len 0 (length names)))) is

some_is : (a b : List ℕ) → Some a ≡ Some b → a ≡ b
some_is a b e = cc

below_found : (names words : List (List ℕ)) (named : List ℕ) (found : Option (List ℕ))
    → option_map (λ (is : List ℕ). filter (stands_in is) (range_with_len 0 (length names))) found ≡ Some named
    → All (λ i. i < length names) named
below_found names words named None e = absurd cc
below_found names words named (Some items) e =
    subst (All (λ i. i < length names)) (some_is (filter (stands_in items) (range_with_len 0 (length names))) named e)
    (All-filter (stands_in items) (λ i. i < length names) (range_with_len 0 (length names))
    (range_with_len-below (length names)))

pub items_with_names-below : (names words : List (List ℕ)) (named : List ℕ) → items_with_names names words ≡ Some named
    → All (λ i. i < length names) named
items_with_names-below names words named is = below_found names words named (items_of names words) is

-- ---- the same names

-- the item with this name is among these
abbrev pub IsNamedIn : List (List ℕ) → List ℕ → List ℕ → Type 0
IsNamedIn names items word = (i : ℕ) × (item_named names word ≡ Some i) × Contains items i

-- what these names name: each of them an item, and no other item
pub record AreWith (names words : List (List ℕ)) (items : List ℕ) : Type 0 where
  pub each : (word : List ℕ) → Contains words word → IsNamedIn names items word
  pub no_other : (i : ℕ) → Contains items i → (word : List ℕ) × Contains words word × (item_named names word ≡ Some i)

AreWith-more : (names : List (List ℕ)) (word : List ℕ) (words : List (List ℕ)) (i : ℕ) (is : List ℕ)
    → item_named names word ≡ Some i → AreWith names words is → AreWith names (word ∷ words) (i ∷ is)
AreWith-more names word words i is own rest = record {
  each = λ w there. elim (Contains-cases word words w there) [
    | inl same ↦ (i, ap (item_named names) (sym same) ∙ own, Contains-here i is)
    | inr later ↦ (let (j, named, among) = rest.each w later in (j, named, Contains-later i is j among))
  ];
  no_other = λ j there. elim (Contains-cases i is j there) [
    | inl same ↦ (word, Contains-here word words, own ∙ ap (λ (k : ℕ). Some k) same)
    | inr later ↦ (let (w, among, named) = rest.no_other j later in (w, Contains-later word words w among, named))
  ];
}

AreWith-both : (names : List (List ℕ)) (word : List ℕ) (words : List (List ℕ)) (items : List ℕ)
    → ((is : List ℕ) → items_of names words ≡ Some is → AreWith names words is)
    → (o : Option ℕ) (q : Option (List ℕ)) → item_named names word ≡ o → items_of names words ≡ q
    → option_map (λ (p : ℕ × List ℕ). p.0 ∷ p.1) (option_zip o q) ≡ Some items → AreWith names (word ∷ words) items
AreWith-both names word words items rest None q own others e = absurd cc
AreWith-both names word words items rest (Some i) None own others e = absurd cc
AreWith-both names word words items rest (Some i) (Some is) own others e =
    subst (AreWith names (word ∷ words)) (some_is (i ∷ is) items e)
    (AreWith-more names word words i is own (rest is others))

AreWith-items_of : (names words : List (List ℕ)) (items : List ℕ) → items_of names words ≡ Some items
    → AreWith names words items
AreWith-items_of names [] items is = record {
  each = λ word there. absurd (Contains-nil word there);
  no_other = λ i there. absurd (Contains-nil i (subst (λ (l : List ℕ). Contains l i) (sym (some_is [] items is))
      there));
}
AreWith-items_of names (word ∷ words) items is =
    AreWith-both names word words items (AreWith-items_of names words) (item_named names word) (items_of names words)
    refl refl is

-- one of these names is that of no item
abbrev pub HasUnknown : List (List ℕ) → List (List ℕ) → Type 0
HasUnknown names words = (word : List ℕ) × Contains words word × (item_named names word ≡ None)

HasUnknown-both : (names : List (List ℕ)) (word : List ℕ) (words : List (List ℕ))
    → (items_of names words ≡ None → HasUnknown names words)
    → (o : Option ℕ) (q : Option (List ℕ)) → item_named names word ≡ o → items_of names words ≡ q
    → option_map (λ (p : ℕ × List ℕ). p.0 ∷ p.1) (option_zip o q) ≡ None → HasUnknown names (word ∷ words)
HasUnknown-both names word words rest None q own others e = (word, Contains-here word words, own)
HasUnknown-both names word words rest (Some i) None own others e =
    let (w, among, none) = rest others in
    (w, Contains-later word words w among, none)
HasUnknown-both names word words rest (Some i) (Some is) own others e = absurd cc

HasUnknown-items_of : (names words : List (List ℕ)) → items_of names words ≡ None → HasUnknown names words
HasUnknown-items_of names [] is = absurd cc
HasUnknown-items_of names (word ∷ words) is =
    HasUnknown-both names word words (HasUnknown-items_of names words) (item_named names word) (items_of names words)
    refl refl is

some_item : (i j : ℕ) → Some i ≡ Some j → i ≡ j
some_item i j e = cc

-- an unknown name is none of these
unknown_is_none : (names words : List (List ℕ)) (items word : List ℕ) → items_of names words ≡ Some items
    → Contains words word → item_named names word ≡ None → ⊥
unknown_is_none names words items word is there none =
    let (i, named, among) = (AreWith-items_of names words items is).each word there in
    some_or_none i (sym named ∙ none)
  where
    some_or_none : (i : ℕ) → Some i ≡ None → ⊥
    some_or_none i e = cc

stands_in-Contains : (items : List ℕ) (i : ℕ) → Contains items i → stands_in items i ≡ true
stands_in-Contains [] i there = absurd (Contains-nil i there)
stands_in-Contains (x ∷ xs) i there = elim (Contains-cases x xs i there) [
  | inl same ↦ ap (λ b. b || stands_in xs i) (eq-eqb i x (sym same))
  | inr later ↦ ap (λ b. (i == x) || b) (stands_in-Contains xs i later) ∙ or_true (i == x)
]

Contains-stands_in : (items : List ℕ) (i : ℕ) → stands_in items i ≡ true → Contains items i
Contains-stands_in [] i stands = absurd cc
Contains-stands_in (x ∷ xs) i stands = elim (cases_eq i x) [
  | inl same ↦ subst (Contains (x ∷ xs)) (sym same) (Contains-here x xs)
  | inr other ↦ Contains-later x xs i
      (Contains-stands_in xs i (sym (ap (λ b. b || stands_in xs i) (ne_eqb i x other)) ∙ stands))
]

filter-alike : (p q : ℕ → Bool) (xs : List ℕ) → ((x : ℕ) → p x ≡ q x) → filter p xs ≡ filter q xs
filter-alike p q [] same = refl
filter-alike p q (x ∷ xs) same =
    ap (λ b. cond b (x ∷ filter p xs) (filter p xs)) (same x)
    ∙ ap (λ (l : List ℕ). cond (q x) (x ∷ l) l) (filter-alike p q xs same)

-- what stands in the items of these names stands in those of others that are the same
stands_alike : (names words others : List (List ℕ)) (is js : List ℕ)
    → ((word : List ℕ) → Contains words word → Contains others word) → AreWith names words is → AreWith names others js
    → (i : ℕ) → stands_in is i ≡ true → stands_in js i ≡ true
stands_alike names words others is js same own other i stands =
    let (word, there, named) = own.no_other i (Contains-stands_in is i stands) in
    let (j, found, among) = other.each word (same word there) in
    stands_in-Contains js i (subst (Contains js) (some_item j i (sym found ∙ named)) among)

both_true : (a b : Bool) → (a ≡ true → b ≡ true) → (b ≡ true → a ≡ true) → a ≡ b
both_true true b to from = sym (to refl)
both_true false true to from = from refl
both_true false false to from = refl

-- the same names name the same items
pub items_with_names-same : (names words others : List (List ℕ))
    → ((word : List ℕ) → Contains words word → Contains others word)
    → ((word : List ℕ) → Contains others word → Contains words word)
    → items_with_names names words ≡ items_with_names names others
items_with_names-same names words others to from =
    by_both (items_of names words) (items_of names others) refl refl
  where
    once_each : List ℕ → List ℕ
    once_each is = filter (stands_in is) (range_with_len 0 (length names))

    by_both : (own other : Option (List ℕ)) → items_of names words ≡ own → items_of names others ≡ other
        → items_with_names names words ≡ items_with_names names others
    by_both None None own other = ap (option_map once_each) (own ∙ sym other)
    by_both None (Some js) own other = (
        let (word, there, none) = HasUnknown-items_of names words own in
        absurd (unknown_is_none names others js word other (to word there) none)
        )
    by_both (Some is) None own other = (
        let (word, there, none) = HasUnknown-items_of names others other in
        absurd (unknown_is_none names words is word own (from word there) none)
        )
    by_both (Some is) (Some js) own other = (
        let these = AreWith-items_of names words is own in
        let those = AreWith-items_of names others js other in
        let alike : (i : ℕ) → stands_in is i ≡ stands_in js i =
        λ i. both_true (stands_in is i) (stands_in js i) (stands_alike names words others is js to these those i)
        (stands_alike names others words js is from those these i) in
        ap (option_map once_each) own
        ∙ ap (λ (l : List ℕ). Some l) (filter-alike (stands_in is) (stands_in js) (range_with_len 0 (length names))
        alike)
        ∙ sym (ap (option_map once_each) other)
        )
