-- The notes on unsure flushes: how many there are, and which make no difference.
use Rattle.std.proofs.Common.{◌≡◌, ◌<◌, ◌≤◌, ◌+◌, ℕ, zero, suc, Bool, true, false, cond, List, [], ◌∷◌, ◌++◌, length}
use Rattle.std.proofs.Common.{map, take, get_or, append-nil, append_assoc, refl, sym, ap, ◌∙◌, arith}
use Rattle.std.specs.Prelude.{◌==◌, ◌&&◌, ◌||◌, not, filter, flat_map}
use Rattle.std.specs.List.{count_by, range_with_len}
use Rattle.std.proofs.lemmas.List.{length-append, length-map, map-append, take_more}
use Rattle.std.proofs.lemmas.List.Folds.{list_any-append}
use Rattle.std.proofs.lemmas.List.FromFn.{fill_by_all, length-map-range_with_len}
use Rattle.std.proofs.lemmas.List.Sums.{count_by-le-length, length-filter, sum_by-cons}
use Rattle.wq_items.specs.declared.target.Target.{Target}
use Rattle.wq_items.specs.Readings.{is_among, unsure_places}
use Rattle.wq_items.specs.Table.{flush_count}
use Rattle.wq_items.proofs.ReadingLists.{marked-at, AreMarked}
use Rattle.wq_core.specs.Workqueues.{Workqueues}
use Rattle.wq_graph.specs.declared.arc.WaitArc.{WaitArc}
use Rattle.wq_groups.specs.DeclaredGroups.{Declared}
use Rattle.wq_voice.specs.Unsure.{idle_places, is_idle, undecided_note, unsure_count, AreNotesOf, MakeNoDifference}

-- ---- how many

abbrev unsure_of : List Target → List Target
unsure_of ts = filter (λ (t : Target). t.unsure) ts

pub unsure_places-append : (waits more : List (List Target))
    → unsure_places (waits ++ more) ≡ unsure_places waits ++ unsure_places more
unsure_places-append [] more = refl
unsure_places-append (ts ∷ waits) more =
    ap (λ (l : List ℕ). map (λ (t : Target). t.place) (unsure_of ts) ++ l) (unsure_places-append waits more)
    ∙ sym (append_assoc (map (λ (t : Target). t.place) (unsure_of ts)) (unsure_places waits) (unsure_places more))

-- the places of some items, and then of the next item
pub unsure_places-next : (waits : List (List Target)) (n : ℕ) (ts : List Target) → n < length waits
    → ts ≡ get_or waits n [] → unsure_places (take (n + 1) waits)
    ≡ unsure_places (take n waits) ++ map (λ (t : Target). t.place) (unsure_of ts)
unsure_places-next waits n ts within is =
    ap unsure_places (take_more waits n [] within ∙ ap (λ (l : List Target). take n waits ++ (l ∷ [])) (sym is))
    ∙ unsure_places-append (take n waits) (ts ∷ [])
    ∙ ap (λ (l : List ℕ). unsure_places (take n waits) ++ l) (append-nil (map (λ (t : Target). t.place) (unsure_of ts)))

-- no more flushes are unsure than are declared
pub unsure_places-few : (n : ℕ) (waits : List (List Target)) → length (unsure_places (take n waits)) ≤ flush_count waits
unsure_places-few zero waits = omega arith
unsure_places-few (suc n) [] = omega arith
unsure_places-few (suc n) (ts ∷ waits) =
    omega (
      arith,
      unsure_places-few n waits,
      length-append (map (λ (t : Target). t.place) (unsure_of ts)) (unsure_places (take n waits)),
      length-map (unsure_of ts) (λ (t : Target). t.place),
      length-filter (λ (t : Target). t.unsure) ts,
      count_by-le-length (λ (t : Target). t.unsure) ts,
      sum_by-cons length ts waits,
    )

-- ---- marks

among-append : (xs ys : List ℕ) (p : ℕ) → is_among (xs ++ ys) p ≡ (is_among xs p || is_among ys p)
among-append xs ys p = list_any-append (λ (q : ℕ). q == p) xs ys

not-or : (a b c : Bool) → ((a && not b) && not c) ≡ (a && not (b || c))
not-or true true c = refl
not-or true false c = refl
not-or false b c = refl

-- the marks at some places were taken away
abbrev pub AreUnmarked : List Bool → List ℕ → List Bool → Type 0
AreUnmarked old places new = (p : ℕ) → get_or new p false ≡ (get_or old p false && not (is_among places p))

pub AreUnmarked-then : (old middle new : List Bool) (some more : List ℕ) → AreUnmarked old some middle
    → AreUnmarked middle more new → AreUnmarked old (some ++ more) new
AreUnmarked-then old middle new some more first then p =
    then p ∙ ap (λ (b : Bool). b && not (is_among more p)) (first p)
    ∙ not-or (get_or old p false) (is_among some p) (is_among more p)
    ∙ ap (λ (b : Bool). get_or old p false && not b) (sym (among-append some more p))

-- the marks at some places were made
abbrev pub AreMade : List Bool → List ℕ → List Bool → Type 0
AreMade old places new = (p : ℕ) → get_or new p false ≡ (get_or old p false || is_among places p)

pub AreMarked-made : (count : ℕ) (those more : List ℕ) (marks new : List Bool) → AreMarked count those marks
    → length new ≡ length marks → AreMade marks more new → AreMarked count (those ++ more) new
AreMarked-made count those more marks new h same made = record {
  len = same ∙ h.len;
  each = λ q within.
      made q ∙ ap (λ (b : Bool). b || is_among more q) (h.each q within) ∙ sym (among-append those more q);
}

-- the places of lists of flushes
pub places-of : {X : Type 0} (arcs_of : X → List WaitArc) (xs : List X)
    → flat_map (λ x. map (λ (a : WaitArc). a.place) (arcs_of x)) xs
    ≡ map (λ (a : WaitArc). a.place) (flat_map (λ arcs. arcs) (map arcs_of xs))
places-of arcs_of [] = refl
places-of arcs_of (x ∷ xs) =
    ap (λ (l : List ℕ). map (λ (a : WaitArc). a.place) (arcs_of x) ++ l) (places-of arcs_of xs)
    ∙ sym (map-append (λ (a : WaitArc). a.place) (arcs_of x) (flat_map (λ arcs. arcs) (map arcs_of xs)))

-- marks of unsure flushes, of which the marks of components and then those of flushes to no rescuer are taken away
pub are_idle : (waits : List (List Target)) (components : List (List WaitArc)) (bare : List WaitArc)
    (marks middle new : List Bool)
    → marks ≡ map (is_among (unsure_places waits)) (range_with_len 0 (flush_count waits))
    → length middle ≡ length marks → length new ≡ length middle
    → AreUnmarked marks (map (λ (a : WaitArc). a.place) (flat_map (λ arcs. arcs) components)) middle
    → AreUnmarked middle (map (λ (a : WaitArc). a.place) bare) new
    → new ≡ map (is_idle waits components bare) (range_with_len 0 (flush_count waits))
are_idle waits components bare marks middle new are same again first then =
    let some = map (λ (a : WaitArc). a.place) (flat_map (λ arcs. arcs) components) in
    let more = map (λ (a : WaitArc). a.place) bare in
    let both : AreUnmarked marks (some ++ more) new = AreUnmarked-then marks middle new some more first then in
    let count = flush_count waits in
    let long : length marks ≡ count =
    ap length are ∙ length-map-range_with_len (is_among (unsure_places waits)) 0 count in
    fill_by_all (is_idle waits components bare) new count false (again ∙ same ∙ long)
    (λ p within.
    both p
    ∙ ap (λ (b : Bool). b && not (is_among (some ++ more) p))
    (sym (marked-at (unsure_places waits) count p marks are (omega (arith, within, long))))
    ∙ ap (λ (l : List ℕ). is_among (unsure_places waits) p && not (is_among l p))
    (sym (map-append (λ (a : WaitArc). a.place) (flat_map (λ arcs. arcs) components) bare)))

-- ---- which make no difference

-- as many as marks
marks-filtered : (f : ℕ → Bool) (ns : List ℕ)
    → length (filter (λ (mark : Bool). mark) (map f ns)) ≡ length (filter f ns)
marks-filtered f [] = refl
marks-filtered f (n ∷ ns) = by (f n) (marks-filtered f ns)
  where
    by : (b : Bool) → length (filter (λ (mark : Bool). mark) (map f ns)) ≡ length (filter f ns)
        → length (cond b (b ∷ filter (λ (mark : Bool). mark) (map f ns)) (filter (λ (mark : Bool). mark) (map f ns)))
        ≡ length (cond b (n ∷ filter f ns) (filter f ns))
    by true later = omega (arith, later)
    by false later = later

pub marks-count : (f : ℕ → Bool) (ns : List ℕ) → count_by (λ (mark : Bool). mark) (map f ns) ≡ length (filter f ns)
marks-count f ns = sym (length-filter (λ (mark : Bool). mark) (map f ns)) ∙ marks-filtered f ns

-- if no flush is unsure, no flush makes no difference
pub idle_places-none : (waits : List (List Target)) (components : List (List WaitArc)) (bare : List WaitArc)
    → unsure_count waits ≡ 0 → length (idle_places waits components bare) ≡ 0
idle_places-none waits components bare none = over (range_with_len 0 (flush_count waits))
  where
    nowhere : (those : List ℕ) → length those ≡ 0 → (p : ℕ) → is_among those p ≡ false
    nowhere [] empty p = refl
    nowhere (q ∷ those) empty p = absurd (omega (arith, empty))

    idle : (p : ℕ) → is_idle waits components bare p ≡ false
    idle p =
        ap (λ (b : Bool). b
        && not (is_among (map (λ (a : WaitArc). a.place) (flat_map (λ arcs. arcs) components ++ bare)) p))
        (nowhere (unsure_places waits) none p)

    over : (ns : List ℕ) → length (filter (is_idle waits components bare) ns) ≡ 0
    over [] = refl
    over (n ∷ ns) =
        ap (λ (b : Bool). length (cond b (n ∷ filter (is_idle waits components bare) ns)
        (filter (is_idle waits components bare) ns))) (idle n)
        ∙ over ns

-- ---- beside a run

pub some-length : (xs : List ℕ) → (length xs == 0) ≡ false → 0 < length xs
some-length [] some = absurd cc
some-length (x ∷ xs) some = omega arith

-- a run that needs some
pub AreNotesOf-some : (file : List ℕ) (s : Declared) (ws : Workqueues) (kept idle notes : List ℕ) → 0 < length kept
    → MakeNoDifference file s ws idle → notes ≡ undecided_note file (length kept) ++ idle
    → AreNotesOf file s ws kept notes
AreNotesOf-some file s ws [] idle notes some make is = absurd (omega (arith, some))
AreNotesOf-some file s ws (place ∷ kept) idle notes some make is = (idle, make, is)
