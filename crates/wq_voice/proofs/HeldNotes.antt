-- What is said of items that must go on.
use Rattle.std.proofs.Common.{◌≡◌, ◌+◌, ◌-◌, ◌<◌, ◌≤◌, ℕ, Bool, true, false, List, [], ◌∷◌, ◌++◌, length, map}
use Rattle.std.proofs.Common.{take, drop, get_or, set, append-nil, refl, sym, ap, subst, ◌∙◌, arith}
use Rattle.std.specs.Prelude.{◌&&◌, not, filter, slice_index}
use Rattle.std.specs.List.{range_with_len}
use Rattle.std.proofs.lemmas.List.{get_or_default, take_all, take_more, map_push}
use Rattle.std.proofs.lemmas.List.FromFn.{length-map-range_with_len}
use Rattle.std.proofs.lemmas.Bool.{cond-true, cond-false}
use Rattle.std.proofs.lemmas.List.Elements.{filter-append}
use Rattle.wq_items.specs.Readings.{is_among}
use Rattle.wq_items.proofs.ReadingLists.{marked-at, AreMarked, AreMarked-more}
use Rattle.wq_items.proofs.TableLemmas.{range_with_len-push}
use Rattle.wq_core.specs.Assigned.{Assigned, IsAssigned}
use Rattle.wq_core.specs.Workqueues.{Workqueues}
use Rattle.wq_groups.specs.DeclaredGroups.{Declared}
use Rattle.wq_hang.specs.declared.hop.Hop.{Hop}
use Rattle.wq_names.specs.Messages.{nothing_flushes_on_these}
use Rattle.wq_diagnosis.specs.Diagnosis.{shown_lines}
use Rattle.wq_diagnosis.specs.Words.{workqueue_of}
use Rattle.wq_voice.specs.Held.{AreNotesFor, MakeNoDifferenceTo, TellsWalk, held_words, no_flush_words}
use Rattle.wq_voice.specs.Note.{listed}
use Rattle.wq_voice.specs.Reasons.{AddsSaid, and_lead, lead_for}
use Rattle.wq_voice.specs.Unsure.{undecided_note}
use Rattle.wq_voice.specs.Waits.{words_of}
use Rattle.wq_voice.specs.declared.waits.Wording.TheVariants.{OnWorkqueues}
use Rattle.wq_voice.proofs.Blocks.{AddsSaid-then, AreSaid-added}

-- ---- the waits of a walk

abbrev further : Declared → Workqueues → List (List ℕ) → Hop → List ℕ
further s ws names g = lead_for and_lead g ++ words_of OnWorkqueues s ws names g

module _ (first second : List ℕ) (s : Declared) (ws : Workqueues) (names : List (List ℕ)) (x : ℕ) where
  -- the block of the first wait, and behind it the blocks of the further waits
  pub TellsWalk-some : (hops : List Hop) (h : Hop) (middle text : List ℕ) → 0 < length hops → h ≡ get_or hops 0 h
      → AddsSaid first (held_words s ws names x h ∷ []) [] middle
      → AddsSaid first (map (λ (g : Hop). lead_for and_lead g ++ words_of OnWorkqueues s ws names g)
      (take (length hops - 1) (drop 1 hops))) middle text
      → TellsWalk first second s ws names x hops text
  TellsWalk-some [] h middle text some is one more = absurd (omega (arith, some))
  TellsWalk-some (f ∷ hops) h middle text some is one more =
      let whats : List (List ℕ) = map (further s ws names) hops in
      AreSaid-added first (held_words s ws names x f ∷ whats) text
      (AddsSaid-then first (held_words s ws names x f ∷ []) whats [] middle text
      (subst (λ (g : Hop). AddsSaid first (held_words s ws names x g ∷ []) [] middle) is one)
      (subst (λ (others : List Hop). AddsSaid first (map (further s ws names) others) middle text)
      (take_all (length (f ∷ hops) - 1) hops (omega arith)) more))

-- ---- unsure flushes

-- a run that needs some
pub AreNotesFor-some : (file : List ℕ) (s : Declared) (ws : Workqueues) (named kept idle notes : List ℕ)
    → 0 < length kept → MakeNoDifferenceTo file s ws named idle
    → notes ≡ undecided_note file (length kept) ++ idle → AreNotesFor file s ws named kept notes
AreNotesFor-some file s ws named [] idle notes some make is = absurd (omega (arith, some))
AreNotesFor-some file s ws named (place ∷ kept) idle notes some make is = (idle, make, is)

-- ---- marks

-- of one item more, which passes, its number is marked
filtered : (p : ℕ → Bool) (n : ℕ) (last : List ℕ) → filter p (n ∷ []) ≡ last
    → filter p (range_with_len 0 (n + 1)) ≡ filter p (range_with_len 0 n) ++ last
filtered p n last is =
    ap (filter p) (range_with_len-push n) ∙ filter-append p (range_with_len 0 n) (n ∷ [])
    ∙ ap (λ (l : List ℕ). filter p (range_with_len 0 n) ++ l) is

module _ (count : ℕ) (f : ℕ → ℕ) (p : ℕ → Bool) (n : ℕ) where
  pub marked-next : (marks new : List Bool) → f n < count → p n ≡ true → new ≡ set marks (f n) true
      → AreMarked count (map f (filter p (range_with_len 0 n))) marks
      → AreMarked count (map f (filter p (range_with_len 0 (n + 1)))) new
  marked-next marks new within passes is marked =
      let some : List ℕ = filter p (range_with_len 0 n) in
      let on : map f (filter p (range_with_len 0 (n + 1))) ≡ map f some ++ (f n ∷ []) =
      ap (map f) (filtered p n (n ∷ []) (cond-true (p n) (n ∷ []) [] passes)) ∙ map_push f some n in
      subst (λ (those : List ℕ). AreMarked count those new) (sym on)
      (subst (AreMarked count (map f some ++ (f n ∷ []))) (sym is)
      (AreMarked-more count (map f some) marks (f n) within marked))

  pub marked-same : (marks : List Bool) → p n ≡ false → AreMarked count (map f (filter p (range_with_len 0 n))) marks
      → AreMarked count (map f (filter p (range_with_len 0 (n + 1)))) marks
  marked-same marks fails marked =
      let some : List ℕ = filter p (range_with_len 0 n) in
      let on : filter p (range_with_len 0 (n + 1)) ≡ some =
      filtered p n [] (cond-false (p n) (n ∷ []) [] fails) ∙ append-nil some in
      subst (λ (l : List ℕ). AreMarked count (map f l) marks) (sym on) marked

-- one more of these is marked
pub marked-item : (count : ℕ) (items : List ℕ) (k i : ℕ) (marks : List Bool) → k < length items → i ≡ get_or items k i
    → i < count → AreMarked count (take k items) marks → AreMarked count (take (k + 1) items) (set marks i true)
marked-item count items k i marks within is fits marked =
    let on : take (k + 1) items ≡ take k items ++ (i ∷ []) =
    take_more items k i within ∙ ap (λ (j : ℕ). take k items ++ (j ∷ [])) (sym is) in
    subst (λ (those : List ℕ). AreMarked count those (set marks i true)) (sym on)
    (AreMarked-more count (take k items) marks i fits marked)

-- what the marks say of n, which is read at k
pub read-mark : (those : List ℕ) (count n k : ℕ) (marks : List Bool) (mark : Bool)
    → marks ≡ map (is_among those) (range_with_len 0 count) → n < count → k ≡ n → mark ≡ get_or marks k mark
    → is_among those n ≡ mark
read-mark those count n k marks mark are within at is =
    let long : length marks ≡ count =
    ap (λ (l : List Bool). length l) are ∙ length-map-range_with_len (is_among those) 0 count in
    marked-at those count n marks are (omega (arith, within, long))
    ∙ get_or_default marks n false mark (omega (arith, within, long))
    ∙ ap (λ (j : ℕ). get_or marks j mark) (sym at) ∙ sym is

-- ---- both tests

pub and-both : (a b : Bool) → a ≡ true → b ≡ false → (a && not b) ≡ true
and-both true false one other = refl
and-both true true one other = absurd cc
and-both false b one other = absurd cc

pub and-first : (a b : Bool) → a ≡ false → (a && not b) ≡ false
and-first false b none = refl
and-first true b none = absurd cc

pub and-second : (a b : Bool) → b ≡ true → (a && not b) ≡ false
and-second true true other = refl
and-second false true other = refl
and-second a false other = absurd cc

-- ---- workqueues of items

pub workqueue-below : (a : Assigned) → IsAssigned a → (i : ℕ) → i < length a.declared.partition.group_of
    → workqueue_of a.declared a.workqueues i < a.workqueues.assignment.lanes
workqueue-below a is i item =
    let group : slice_index a.declared.partition.group_of i < a.declared.partition.groups =
    is.declared.partition.within i 0 item in
    is.assignment.assignment.within (slice_index a.declared.partition.group_of i) 0
    (omega (arith, group, is.assignment.assignment.one_each))

-- ---- the note that nothing flushes there

pub no_flush-more : {X : Type 0} (f : X → List ℕ) (file : List ℕ) (xs : List X) (note : List ℕ) → 2 ≤ length xs
    → note ≡ shown_lines (nothing_flushes_on_these file (listed (map f xs)) ∷ [])
    → note ≡ no_flush_words file (map f xs)
no_flush-more f file [] note many is = absurd (omega (arith, many))
no_flush-more f file (x ∷ []) note many is = absurd (omega (arith, many))
no_flush-more f file (x ∷ y ∷ xs) note many is = is
