-- Unsure parts as they are printed, read back.
use Rattle.std.proofs.Common.{◌≡◌, ◌≢◌, ℕ, zero, suc, ◌+◌, ◌<◌, ◌≤◌, ◌^◌, ◌==◌, ◌&&◌, ◌||◌, ltb, inl, inr, Bool, true}
use Rattle.std.proofs.Common.{false, cond, not, List, [], ◌∷◌, ◌++◌, length, map, take, get_or, Option, Some, None}
use Rattle.std.proofs.Common.{Result, Ok, Err, refl, sym, ap, ap₂, subst, ◌∙◌, arith, append_assoc, append-nil}
use Rattle.std.specs.Prelude.{find, filter_map, flat_map, Contains, AllPairs, codes, decimal, option_map, ok_or}
use Rattle.std.specs.List.{All, AllByRecursion, cons_option}
use Rattle.std.specs.List.Sorted.{IsStrictlyIncreasing}
use Rattle.std.specs.Option.{option_or, option_zip}
use Rattle.std.proofs.lemmas.Bool.{cases_lt, eq-eqb, eqb-true, ne_eqb, and_parts, le-ltb}
use Rattle.std.proofs.lemmas.List.{length-map, length-append, length-take, get_or-take, get_or_append_left}
use Rattle.std.proofs.lemmas.List.{get_or_past, get_or_default, get_or-map}
use Rattle.std.proofs.lemmas.List.Elements.{All-tail}
use Rattle.std.proofs.lemmas.List.Folds.{find-append, list_any_at}
use Rattle.std.proofs.lemmas.List.Kept.{AllPairs-from_increasing}
use Rattle.std.proofs.lemmas.Grind.{flat_map-append}
use Rattle.std.proofs.Math.Seq.{get_or-append_seam}
use Rattle.wq_text.specs.LineText.{line_text}
use Rattle.wq_text.specs.Lines.{lines_of}
use Rattle.wq_items.specs.declared.target.Target.{Target}
use Rattle.wq_items.specs.Building.{and_then}
use Rattle.wq_items.specs.Readings.{is_among}
use Rattle.wq_items.specs.Table.{Table, IsTable, PlacesRise, item_named, targets_of, flush_count}
use Rattle.wq_items.proofs.ReadingLemmas.{place_of}
use Rattle.wq_core.specs.declared.step.Step.{Step}
use Rattle.wq_cert.specs.declared.fault.CertError.{CertError}
use Rattle.wq_cert.specs.declared.fault.CertError.TheVariants.{BadCertLine, NumberOutOfRange}
use Rattle.wq_cert.specs.Forms.{begins_with}
use Rattle.wq_cert.specs.LineRows.{count_words}
use Rattle.wq_cert.specs.Lines.{CertLine, cert_lines}
use Rattle.wq_cert.specs.Part.{has_unsure, unsure_word, unsure_line, unsure_at, part_lines, part_text, reading_text}
use Rattle.wq_cert.specs.Part.{unsure_kind, unsure_form, is_declared_so, stood_for, unsure_reading, next_unsure}
use Rattle.wq_cert.specs.Part.{unsure_count_reading, part_reading, made_reading, made_of, IsKeptPlace, AreKeptPlaces}
use Rattle.wq_cert.specs.PlanText.{name_of}
use Rattle.wq_cert.specs.Ranges.{IsStepOf}
use Rattle.wq_cert.specs.Reading.{Read, and_read, next_line, run_reading}
use Rattle.wq_cert.specs.RunText.{step_line, run_lines, run_text}
use Rattle.wq_cert.specs.Spelled.{words_of_lines, SpellsRun}
use Rattle.wq_cert.specs.Texts.{max_certificate}
use Rattle.wq_cert.proofs.FirstFound.{find-here, find-nowhere}
use Rattle.wq_cert.proofs.ListLemmas.{AllByRecursion-append}
use Rattle.wq_cert.proofs.PrintedLines.{IsPrintable, IsPrintableLine, words_of_text-printed, KeepsLimits-printed}
use Rattle.wq_cert.proofs.PrintedLines.{length-lines-le}
use Rattle.wq_cert.proofs.PrintedParts.{Owned, IsOwned, stands_at, before, rest, owned-split, fresh, unsure_at-is}
use Rattle.wq_cert.proofs.PrintedRuns.{IsPrintableLine-run}
use Rattle.wq_cert.proofs.PrintedWords.{IsPrintable-keyword, IsPrintable-name_of, IsPrintableLine-count}
use Rattle.wq_cert.proofs.SpelledAnswers.{text_reading-KeepsLimits}
use Rattle.wq_cert.proofs.SpelledForms.{count_form-SpellsCount}
use Rattle.wq_cert.proofs.SpelledLines.{IsReadBy, begun_line, and_read-Ok}
use Rattle.wq_cert.proofs.SpelledNumbers.{zip-AreBoth, item_named-name_of}
use Rattle.wq_cert.proofs.SpelledTexts.{run_reading-SpellsRun}
use Rattle.wq_cert.proofs.TextWords.{words_of_lines-text}

get_or_any : {X : Type 0} (xs : List X) (k : ℕ) (d : X) → k < length xs → get_or xs k (get_or xs k d) ≡ get_or xs k d
get_or_any xs k d lt = get_or_default xs k (get_or xs k d) d lt

-- ---- the flush at a place

-- a flush that is declared is found at its place
pub unsure_at-declared : (t : Table) (is : IsTable t) (i : ℕ) (u : Target) → i < length t.waits
    → Contains (targets_of t.waits i) u → u.unsure ≡ true → unsure_at t.waits u.place ≡ Some (i, u)
unsure_at-declared t is i u within there unsure =
    let waits = t.waits in
    let k : ℕ = there.0 in
    let f : ℕ × Target = (i, u) in
    let same : get_or (targets_of waits i) k u ≡ u = there.2 in
    let first : List Owned = before waits i within k in
    let others : List Owned = rest waits i within k in
    let free : find (stands_at u.place) first ≡ None =
    ap (λ (v : Target). find (stands_at v.place) first) (sym same)
    ∙ fresh waits i k u within there.1 is.places_are_numbered in
    let stands : stands_at u.place f ≡ true = ap₂ (λ (a b : Bool). a && b) unsure (eq-eqb u.place u.place refl) in
    ap (find (stands_at u.place)) (owned-split waits i within k u there.1 ∙ ap (λ (v : Target). let g : ℕ × Target =
    (i, v) in first ++ (g ∷ others)) same)
    ∙ find-append (stands_at u.place) first (f ∷ others)
    ∙ ap (λ (o : Option Owned). option_or o (find (stands_at u.place) (f ∷ others))) free
    ∙ ap (λ (b : Bool). cond b (Some f) (find (stands_at u.place) others)) stands

-- an item with a flush is one of the items
item-within : (waits : List (List Target)) (i k : ℕ) → k < length (targets_of waits i) → i < length waits
item-within waits i k lt = elim (cases_lt i (length waits)) [
  | inl within ↦ within
  | inr past ↦ absurd (omega (arith, ap (λ (l : List Target). length l) (get_or_past waits i [] past)))
]

-- the flush at a place that is kept
module _ (t : Table) (is : IsTable t) (kept : List ℕ) (p : ℕ) (h : IsKeptPlace t.waits kept p) where
  abbrev flush : Owned
  flush = (h.item, h.target)

  item_is : h.item < length t.waits
  item_is = item-within t.waits h.item h.declared.0 h.declared.1

  pub unsure_at-kept : unsure_at t.waits p ≡ Some (h.item, h.target)
  unsure_at-kept = ap (unsure_at t.waits) (sym h.place)
      ∙ unsure_at-declared t is h.item h.target item_is h.declared h.unsure

  owned_is : IsOwned t.waits (length t.names) flush
  owned_is = unsure_at-is t is p flush unsure_at-kept

-- ---- places that rise

-- of places that rise those before one of them are the lower ones
lower-taken : (taken : List ℕ) (p : ℕ) (todo : List ℕ) (q : ℕ) → IsStrictlyIncreasing (taken ++ (p ∷ todo))
    → Contains (taken ++ (p ∷ todo)) q → q < p → is_among taken q ≡ true
lower-taken taken p todo q rise there lower =
    let all : List ℕ = taken ++ (p ∷ todo) in
    let m : ℕ = there.0 in
    let n : ℕ = length taken in
    let long : length all ≡ n + suc (length todo) = length-append taken (p ∷ todo) in
    let pairs : AllPairs (λ (a b : ℕ). a < b) all = AllPairs-from_increasing all rise in
    let here : get_or all n q ≡ p = get_or-append_seam taken p todo q in
    elim (cases_lt m n) [
      | inl early ↦ list_any_at (λ (r : ℕ). r == q) taken m q early
          (eq-eqb (get_or taken m q) q (sym (get_or_append_left taken (p ∷ todo) q m early) ∙ there.2))
      | inr late ↦ elim (cases_lt n m) [
        | inl past ↦ absurd (let less : get_or all n q < get_or all m q = pairs n m q past there.1 in
            omega (arith, less, here, there.2))
        | inr same ↦ absurd (let equal : m ≡ n = omega arith in let is : get_or all m q ≡ p =
            ap (λ (k : ℕ). get_or all k q) equal ∙ here in omega (arith, is, there.2))
      ]
    ]

among-none : (xs : List ℕ) (p : ℕ) → All (λ x. x < p) xs → is_among xs p ≡ false
among-none [] p h = refl
among-none (x ∷ xs) p h =
    let first : x < p = h 0 x (omega arith) in
    let other : (x == p) ≡ false = ne_eqb x p (λ e. absurd (omega (arith, e))) in
    ap₂ (λ (a b : Bool). a || b) other (among-none xs p (All-tail (λ y. y < p) x xs h))

not-taken : (taken : List ℕ) (p : ℕ) (todo : List ℕ) → IsStrictlyIncreasing (taken ++ (p ∷ todo))
    → is_among taken p ≡ false
not-taken taken p todo rise =
    let all : List ℕ = taken ++ (p ∷ todo) in
    let long : length all ≡ length taken + suc (length todo) = length-append taken (p ∷ todo) in
    let pairs : AllPairs (λ (a b : ℕ). a < b) all = AllPairs-from_increasing all rise in
    among-none taken p (λ k d lt.
    let less : get_or all k d < get_or all (length taken) d = pairs k (length taken) d lt (omega arith) in
    omega (arith, less, get_or_append_left taken (p ∷ todo) d k lt, get_or-append_seam taken p todo d))

-- ---- the place for which a line stands

-- what it means that a flush is declared in a form
declared_parts : (whole : Bool) (i item : ℕ) (u : Target) → is_declared_so (whole, (i, item)) u ≡ true
    → (u.unsure ≡ true) × (u.item ≡ item) × (u.whole ≡ whole)
declared_parts whole i item u e =
    let first = and_parts (u.unsure && (u.item == item)) (cond whole u.whole (not u.whole)) e in
    let both = and_parts u.unsure (u.item == item) first.0 in
    (both.0, eqb-true u.item item both.1, alike whole u.whole first.1)
  where
    alike : (a b : Bool) → cond a b (not b) ≡ true → b ≡ a
    alike true b e = e
    alike false true e = absurd cc
    alike false false e = refl

own_form : (i : ℕ) (u : Target) → u.unsure ≡ true → is_declared_so (u.whole, (i, u.item)) u ≡ true
own_form i u unsure =
    ap₂ (λ (a b : Bool). a && b) (ap₂ (λ (a b : Bool). a && b) unsure (eq-eqb u.item u.item refl)) (alike u.whole)
  where
    alike : (b : Bool) → cond b b (not b) ≡ true
    alike true = refl
    alike false = refl

module _ (t : Table) (is : IsTable t) (taken : List ℕ) (p : ℕ) (todo : List ℕ)
    (kept : AreKeptPlaces t.waits (taken ++ (p ∷ todo))) (h : IsKeptPlace t.waits (taken ++ (p ∷ todo)) p) where
  abbrev form : Bool × (ℕ × ℕ)
  form = (h.target.whole, (h.item, h.target.item))

  abbrev test : Target → Bool
  test u = is_declared_so form u && not (is_among taken u.place)

  abbrev ts : List Target
  ts = targets_of t.waits h.item

  -- a flush that is declared before this one isn't meant
  earlier : (u : Target) → Contains ts u → u.place < p → test u ≡ false
  earlier u there lower = by (is_declared_so form u) refl
    where
      by : (b : Bool) → is_declared_so form u ≡ b → (b && not (is_among taken u.place)) ≡ false
      by false e = refl
      by true e =
          let parts = declared_parts h.target.whole h.item h.target.item u e in
          ap not (lower-taken taken p todo u.place kept.rise (h.first u there parts.0 parts.1 parts.2 lower) lower)

  before-it : (m : ℕ) (d : Target) → m < h.declared.0 → (get_or ts m d).place < p
  before-it m d lt =
      let k : ℕ = h.declared.0 in
      let rises : PlacesRise ts = is.places_rise h.item [] (item-within t.waits h.item k h.declared.1) in
      let pairs : AllPairs (λ (a b : ℕ). a < b) (map place_of ts) = AllPairs-from_increasing (map place_of ts) rises in
      let less : get_or (map place_of ts) m 0 < get_or (map place_of ts) k 0 =
      pairs m k 0 lt (omega (arith, h.declared.1, length-map ts place_of)) in
      let last : (get_or ts k h.target).place ≡ p = ap place_of h.declared.2 ∙ h.place in
      omega (
        arith,
        less,
        last,
        get_or-map place_of ts m d 0 (omega (arith, h.declared.1)),
        get_or-map place_of ts k
            h.target 0 h.declared.1,
      )

  none-before : find test (take h.declared.0 ts) ≡ None
  none-before =
      let k : ℕ = h.declared.0 in
      find-nowhere test (take k ts) (λ m d lt.
      let early : m < k = omega (arith, lt, length-take k ts) in
      let same : get_or (take k ts) m d ≡ get_or ts m d = get_or-take k ts m d early in
      ap test same ∙ earlier (get_or ts m d)
      (m, omega (arith, h.declared.1), get_or_any ts m d (omega (arith, h.declared.1))) (before-it m d early))

  pub stood_for-kept : stood_for t.waits taken form ≡ Some p
  stood_for-kept =
      let k : ℕ = h.declared.0 in
      let free : not (is_among taken h.target.place) ≡ true =
      ap (λ (q : ℕ). not (is_among taken q)) h.place ∙ ap not (not-taken taken p todo kept.rise) in
      let passes_it : test h.target ≡ true = ap₂ (λ (a b : Bool). a && b) (own_form h.item h.target h.unsure) free in
      let found : find test ts ≡ Some (get_or ts k h.target) =
      find-here test ts k h.target h.declared.1 none-before (ap test h.declared.2 ∙ passes_it) in
      ap (option_map place_of) (found ∙ ap (λ (u : Target). Some u) h.declared.2) ∙ ap (λ (q : ℕ). Some q) h.place

-- ---- one line

unsure_form-line : (names : List (List ℕ)) → AllPairs (λ (a b : List ℕ). a ≢ b) names → (f : Owned)
    → f.0 < length names → f.1.item < length names
    → unsure_form names (unsure_line names f) ≡ Some (f.1.whole, (f.0, f.1.item))
unsure_form-line names differ f item target =
    let both : ℕ × ℕ = (f.0, f.1.item) in
    let all : Bool × (ℕ × ℕ) = (f.1.whole, both) in
    zip-AreBoth (unsure_kind (unsure_word f.1.whole))
    (option_zip (item_named names (name_of names f.0)) (item_named names (name_of names f.1.item))) all (record {
      left = kind f.1.whole;
      right = zip-AreBoth (item_named names (name_of names f.0)) (item_named names (name_of names f.1.item)) both
          (record {
            left = item_named-name_of names differ f.0 item;
            right = item_named-name_of names differ f.1.item target;
          });
    })
  where
    kind : (b : Bool) → unsure_kind (unsure_word b) ≡ Some b
    kind true = refl
    kind false = refl

-- these lines say these places, behind those that are said before
pub record ArePlacesRead (names : List (List ℕ)) (waits : List (List Target)) (taken todo : List ℕ)
    (lines : List CertLine) (others : List (List (List ℕ))) : Type 0 where
  pub rest : List CertLine
  pub is_read : next_unsure names waits (length todo) taken lines ≡ Ok (taken ++ todo, rest)
  pub behind : words_of_lines rest ≡ others

module _ (t : Table) (is : IsTable t) where
  abbrev lines_at : List ℕ → List (List (List ℕ))
  lines_at kept = map (unsure_line t.names) (filter_map (unsure_at t.waits) kept)

  here-kept : (taken : List ℕ) (p : ℕ) (todo : List ℕ) → AreKeptPlaces t.waits (taken ++ (p ∷ todo))
      → IsKeptPlace t.waits (taken ++ (p ∷ todo)) p
  here-kept taken p todo kept =
      kept.each p (length taken, omega (arith, length-append taken (p ∷ todo)), get_or-append_seam taken p todo p)

  line-read : (taken : List ℕ) (p : ℕ) (todo : List ℕ) → (kept : AreKeptPlaces t.waits (taken ++ (p ∷ todo)))
      → (h : IsKeptPlace t.waits (taken ++ (p ∷ todo)) p) → (line : CertLine)
      → line.words ≡ unsure_line t.names (h.item, h.target)
      → unsure_reading t.names t.waits taken line ≡ Ok p
  line-read taken p todo kept h line words =
      let f : ℕ × Target = (h.item, h.target) in
      let o = owned_is t is (taken ++ (p ∷ todo)) p h in
      let said : unsure_form t.names line.words ≡ Some (h.target.whole, (h.item, h.target.item)) =
      ap (unsure_form t.names) words ∙ unsure_form-line t.names is.distinct f o.item o.target in
      let next : Bool × (ℕ × ℕ) → Result ℕ CertError =
      λ form. ok_or (stood_for t.waits taken form) (BadCertLine line.no) in
      ap (λ (o : Option (Bool × (ℕ × ℕ))). and_then next (ok_or o (BadCertLine line.no))) said
      ∙ ap (λ (o : Option ℕ). ok_or o (BadCertLine line.no)) (stood_for-kept t is taken p todo kept h)

  lines-cons : (p : ℕ) (todo : List ℕ) (f : Owned) → unsure_at t.waits p ≡ Some f
      → lines_at (p ∷ todo) ≡ unsure_line t.names f ∷ lines_at todo
  lines-cons p todo f at =
      ap (λ (o : Option Owned). map (unsure_line t.names) (cons_option o (filter_map (unsure_at t.waits) todo))) at

  pub places-read : (taken todo : List ℕ) (lines : List CertLine) (others : List (List (List ℕ)))
      → AreKeptPlaces t.waits (taken ++ todo) → words_of_lines lines ≡ lines_at todo ++ others
      → ArePlacesRead t.names t.waits taken todo lines others
  places-read taken [] lines others kept words =
      record { rest = lines; is_read = ap (λ (l : List ℕ). Ok (l, lines)) (sym (append-nil taken)); behind = words }
  places-read taken (p ∷ todo) [] others kept words =
      let h = here-kept taken p todo kept in
      let first = lines-cons p todo (h.item, h.target) (unsure_at-kept t is (taken ++ (p ∷ todo)) p h) in
      absurd (let none : [] ≡ unsure_line t.names (h.item, h.target) ∷ (lines_at todo ++ others) =
      words ∙ ap (λ (l : List (List (List ℕ))). l ++ others) first in cc)
  places-read taken (p ∷ todo) (line ∷ lines) others kept words =
      let h = here-kept taken p todo kept in
      let f : ℕ × Target = (h.item, h.target) in
      let first = lines-cons p todo f (unsure_at-kept t is (taken ++ (p ∷ todo)) p h) in
      let all : line.words ∷ words_of_lines lines ≡ unsure_line t.names f ∷ (lines_at todo ++ others) =
      words ∙ ap (λ (l : List (List (List ℕ))). l ++ others) first in
      let own : line.words ≡ unsure_line t.names f = cc in
      let behind : words_of_lines lines ≡ lines_at todo ++ others = cc in
      let shifted : taken ++ (p ∷ todo) ≡ (taken ++ (p ∷ [])) ++ todo = sym (append_assoc taken (p ∷ []) todo) in
      let more = places-read (taken ++ (p ∷ [])) todo lines others (subst (AreKeptPlaces t.waits) shifted kept) behind
      in
      let after : Result ℕ CertError → Read (List ℕ) =
      λ r. and_read (λ place behind. next_unsure t.names t.waits (length todo) (taken ++ (place ∷ [])) behind)
      (and_then (λ (v : ℕ). Ok (v, lines)) r) in
      record {
        rest = more.rest;
        is_read = ap after (line-read taken p todo kept h line own) ∙ more.is_read
            ∙ ap (λ (l : List ℕ). Ok (l, more.rest)) (sym shifted);
        behind = more.behind;
      }

-- `unsure M`
abbrev near_unsure : ℕ → ℕ → Result ℕ CertError
near_unsure line n = cond (ltb 16384 n) (Err (NumberOutOfRange line)) (Ok n)

IsReadBy-unsure : IsReadBy unsure_count_reading (count_words (codes "unsure")) (λ n. n ≤ 16384)
IsReadBy-unsure = record {
  said = λ line n words few.
      ap (λ (o : Option ℕ). and_then (near_unsure line.no) (ok_or o (BadCertLine line.no)))
      (count_form-SpellsCount (codes "unsure") line.words n (record { words_are = words; fits = omega arith }))
      ∙ ap (λ (b : Bool). cond b (Err (NumberOutOfRange line.no)) (Ok n)) (le-ltb 16384 n few);
}

-- ---- how many

-- numbers below n that rise are at most n
rising-few : (xs : List ℕ) (n : ℕ) → IsStrictlyIncreasing xs → All (λ x. x < n) xs → length xs ≤ n
rising-few xs n rise below =
    elim (cases_lt n (length xs)) [
      | inl more ↦ absurd (let low : n ≤ get_or xs n 0 = each n more in
          omega (arith, low, below n 0 more))
      | inr few ↦ few
    ]
  where
    each : (k : ℕ) → k < length xs → k ≤ get_or xs k 0
    each zero lt = omega arith
    each (suc k) lt =
        let before : k ≤ get_or xs k 0 = each k (omega arith) in
        let next : get_or xs k 0 < get_or xs (k + 1) 0 = rise k (omega arith) in
        let same : k + 1 ≡ suc k = omega arith in
        omega (arith, before, next, ap (λ (m : ℕ). get_or xs m 0) same)

module _ (t : Table) (is : IsTable t) (kept : List ℕ) (are : AreKeptPlaces t.waits kept) where
  pub few-kept : length kept ≤ 16384
  few-kept =
      let below : All (λ p. p < flush_count t.waits) kept = λ k d lt.
      let p : ℕ = get_or kept k d in
      let h = are.each p (k, lt, get_or_any kept k d lt) in
      let o = owned_is t is kept p h in
      omega (arith, o.place, h.place) in
      omega (arith, rising-few kept (flush_count t.waits) are.rise below, is.few_flushes)

  -- ---- the lines can be printed

  printable-line : (f : Owned) → IsOwned t.waits (length t.names) f → IsPrintableLine (unsure_line t.names f)
  printable-line f o = record {
    some = λ e. absurd cc;
    each = (
      keyword f.1.whole,
      (
        IsPrintable-name_of t.names is.named f.0 o.item,
        (IsPrintable-name_of t.names is.named f.1.item o.target, tt),
      ),
    );
    few = omega arith;
  }
    where
      keyword : (b : Bool) → IsPrintable (unsure_word b)
      keyword true = IsPrintable-keyword (codes "flushwq?") refl (omega arith) (omega arith)
      keyword false = IsPrintable-keyword (codes "flush?") refl (omega arith) (omega arith)

  printable-lines : (places : List ℕ) → AllByRecursion IsPrintableLine (lines_at t is places)
  printable-lines [] = tt
  printable-lines (p ∷ places) = by (unsure_at t.waits p) refl (printable-lines places)
    where
      by : (o : Option Owned) → unsure_at t.waits p ≡ o → AllByRecursion IsPrintableLine (lines_at t is places)
          → AllByRecursion IsPrintableLine
          (map (unsure_line t.names) (cons_option o (filter_map (unsure_at t.waits) places)))
      by None e others = others
      by (Some f) e others = (printable-line f (unsure_at-is t is p f e), others)

  printable-part : AllByRecursion IsPrintableLine (part_lines t.names t.waits kept)
  printable-part = (
    IsPrintableLine-count (codes "unsure") (length kept)
        (IsPrintable-keyword (codes "unsure") refl (omega arith) (omega arith)) (omega (arith, few-kept)),
    printable-lines kept,
  )

-- ---- texts

-- a run that has no part
made_reading-run : (names : List (List ℕ)) (waits : List (List Target)) → AllPairs (λ (a b : List ℕ). a ≢ b) names
    → (lines : List CertLine) (steps : List Step) → SpellsRun names (words_of_lines lines) steps
    → made_reading names waits lines ≡ Ok (None, steps)
made_reading-run names waits differ [] steps spells = absurd (let words = spells.words in cc)
made_reading-run names waits differ (line ∷ lines) steps spells =
    let words = spells.words in
    let first : line.words ≡ codes "run" ∷ decimal (length steps) ∷ [] = cc in
    let other : begins_with (codes "unsure") line.words ≡ false = ap (begins_with (codes "unsure")) first in
    let run : run_reading names (line ∷ lines) ≡ Ok steps =
    run_reading-SpellsRun names differ (line ∷ lines) steps spells in
    let made : List Step → Result (Option (List ℕ) × List Step) CertError = λ steps. Ok (None, steps) in
    ap (λ (b : Bool). cond b (part_reading names waits (line ∷ lines))
    (and_then made (run_reading names (line ∷ lines)))) other ∙ ap (and_then made) run

few-run : (names : List (List ℕ)) (steps : List Step) → length (run_text names steps) ≤ 8388608 → length steps < 2 ^ 32
few-run names steps most = omega (arith, length-lines-le (run_lines names steps), length-map steps (step_line names))

module _ (t : Table) (is : IsTable t) (steps : List Step) (known : All (IsStepOf (length t.names)) steps) where
  spells-run : length steps < 2 ^ 32 → SpellsRun t.names (run_lines t.names steps) steps
  spells-run few = record { words = refl; few = few; known = known }

  pub made_of-run : length (run_text t.names steps) ≤ max_certificate
      → made_of t.names t.waits (run_text t.names steps) ≡ Ok (None, steps)
  made_of-run most =
      let few = few-run t.names steps most in
      let lines = run_lines t.names steps in
      let text = run_text t.names steps in
      let printable = IsPrintableLine-run t is steps known few in
      let words : words_of_lines (cert_lines (lines_of text)) ≡ lines =
      words_of_lines-text text ∙ words_of_text-printed lines printable in
      text_reading-KeepsLimits (made_reading t.names t.waits) text (None, steps)
      (KeepsLimits-printed lines printable most)
      (made_reading-run t.names t.waits is.distinct (cert_lines (lines_of text)) steps
      (subst (λ (ws : List (List (List ℕ))). SpellsRun t.names ws steps) (sym words) (spells-run few)))

  module _ (kept : List ℕ) (are : AreKeptPlaces t.waits kept) where
    abbrev both : List (List (List ℕ))
    both = part_lines t.names t.waits kept ++ run_lines t.names steps

    part-read : length steps < 2 ^ 32 → (lines : List CertLine) → words_of_lines lines ≡ both
        → made_reading t.names t.waits lines ≡ Ok (Some kept, steps)
    part-read few [] words = absurd cc
    part-read few (line ∷ lines) words =
        let first : line.words ≡ count_words (codes "unsure") (length kept) = cc in
        let begins : begins_with (codes "unsure") line.words ≡ true = ap (begins_with (codes "unsure")) first in
        let count = begun_line unsure_count_reading (count_words (codes "unsure")) (λ n. n ≤ 16384) IsReadBy-unsure
        (line ∷ lines) (length kept) (lines_at t is kept ++ run_lines t.names steps) words
        (few-kept t is kept are) in
        let places = places-read t is [] kept count.rest (run_lines t.names steps) are count.behind in
        let run : run_reading t.names places.rest ≡ Ok steps =
        run_reading-SpellsRun t.names is.distinct places.rest steps
        (subst (λ (ws : List (List (List ℕ))). SpellsRun t.names ws steps) (sym places.behind) (spells-run few))
        in
        let last : List ℕ → List Step → Result (Option (List ℕ) × List Step) CertError =
        λ kept steps. Ok (Some kept, steps) in
        let after : List ℕ → List CertLine → Result (Option (List ℕ) × List Step) CertError =
        λ kept rest. and_then (last kept) (run_reading t.names rest) in
        let behind : ℕ → List CertLine → Result (Option (List ℕ) × List Step) CertError =
        λ n ls. and_read after (next_unsure t.names t.waits n [] ls) in
        ap (λ (b : Bool). cond b (part_reading t.names t.waits (line ∷ lines))
        (and_then (λ (steps : List Step). Ok (None, steps)) (run_reading t.names (line ∷ lines)))) begins
        ∙ and_read-Ok behind (next_line unsure_count_reading (line ∷ lines)) (length kept) count.rest count.is_read
        ∙ and_read-Ok after (next_unsure t.names t.waits (length kept) [] count.rest) kept places.rest places.is_read
        ∙ ap (and_then (last kept)) run

    pub made_of-part : has_unsure t.waits ≡ true → length (reading_text t.names t.waits kept steps) ≤ max_certificate
        → made_of t.names t.waits (reading_text t.names t.waits kept steps) ≡ Ok (Some kept, steps)
    made_of-part some most =
        let text = reading_text t.names t.waits kept steps in
        let part : part_text t.names t.waits kept ≡ flat_map line_text (part_lines t.names t.waits kept) =
        ap (λ (b : Bool). cond b (flat_map line_text (part_lines t.names t.waits kept)) []) some in
        let same : text ≡ flat_map line_text both =
        ap (λ (l : List ℕ). l ++ run_text t.names steps) part
        ∙ sym (flat_map-append line_text (part_lines t.names t.waits kept) (run_lines t.names steps)) in
        let short : length (run_text t.names steps) ≤ 8388608 =
        omega (arith, most, length-append (part_text t.names t.waits kept) (run_text t.names steps)) in
        let few = few-run t.names steps short in
        let printable = AllByRecursion-append IsPrintableLine (part_lines t.names t.waits kept)
        (run_lines t.names steps) (printable-part t is kept are) (IsPrintableLine-run t is steps known few) in
        let fits : length (flat_map line_text both) ≤ max_certificate =
        subst (λ (l : List ℕ). length l ≤ max_certificate) same most in
        let words : words_of_lines (cert_lines (lines_of (flat_map line_text both))) ≡ both =
        words_of_lines-text (flat_map line_text both) ∙ words_of_text-printed both printable in
        ap (made_of t.names t.waits) same
        ∙ text_reading-KeepsLimits (made_reading t.names t.waits) (flat_map line_text both) (Some kept, steps)
        (KeepsLimits-printed both printable fits)
        (part-read few (cert_lines (lines_of (flat_map line_text both))) words)
