-- The lines of workqueues come in the order of the workqueues' numbers, and there is one for each.
use Rattle.std.proofs.Common.{◌≡◌, ℕ, ◌+◌, ◌==◌, ◌||◌, not, Bool, true, false, cond, List, [], ◌∷◌, ◌++◌, length, map, Result, Ok, refl, sym, ap, ap₂, ◌∙◌, append-nil, arith}
use Rattle.std.specs.Prelude.{if◌then◌else◌, filter, codes, decimal, bytes_eq, slice_index_or}
use Rattle.std.specs.List.{range_with_len, enumerate_from}
use Rattle.std.proofs.lemmas.Bool.{ne_eqb}
use Rattle.std.proofs.lemmas.List.{length-map}
use Rattle.std.proofs.lemmas.List.Elements.{filter-append}
use Rattle.std.proofs.lemmas.List.FromFn.{length-map-range_with_len}
use Rattle.wq_text.specs.Lines.{LineView, lines_of}
use Rattle.wq_text.specs.Words.{WordView, words_of}
use Rattle.wq_groups.specs.Partition.{Partition}
use Rattle.wq_groups.specs.Assignment.{Assignment}
use Rattle.wq_core.specs.Workqueues.{Workqueues, all_rescued}
use Rattle.wq_cert.specs.declared.fault.CertError.{CertError}
use Rattle.wq_cert.specs.Certificate.{PlanCertificate}
use Rattle.wq_cert.specs.Forms.{begins_with}
use Rattle.wq_cert.specs.Lines.{CertLine, bytes_of, cert_line, cert_lines, filled, holds_word}
use Rattle.wq_cert.specs.PlanText.{arc_line, name_of, plan_line, workqueue_line}
use Rattle.wq_cert.specs.Reading.{as_wq, begins_plan, is_bare_line, lanes_reading, plan_reading, with_wq, workqueues_reading}
use Rattle.wq_cert.specs.Spelled.{count_line, words_of_lines, workqueue_lines}
use Rattle.wq_cert.specs.Texts.{workqueues_of_text}
use Rattle.wq_cert.proofs.ReadRanges.{IsReadSo-text_reading}
use Rattle.wq_cert.proofs.SpelledLines.{Follows-and_then, same_ok}
use Rattle.wq_cert.proofs.SpelledTexts.{SpellsPlan-plan_reading, SpellsWorkqueues-workqueues_reading}
use Rattle.wq_items.specs.Building.{and_then}
use Rattle.wq_names.specs.Names.{is_workqueue_line, name_on, names_of, spelled_number}

-- the words of a line
abbrev words_in : LineView → List (List ℕ)
words_in line = bytes_of (words_of line)

-- the first of these words begins the line of a workqueue
abbrev is_workqueue : List (List ℕ) → Bool
is_workqueue words = begins_with (codes "wq") words || begins_with (codes "norescuer") words

-- the second of these words
abbrev second : List (List ℕ) → List ℕ
second words = slice_index_or words 1 []

-- ---- lines of the text, and those that hold a word

-- a line without words is that of no workqueue
no_word : (ws : List WordView) → not (length ws == 0) ≡ false → is_workqueue (bytes_of ws) ≡ false
no_word [] e = refl
no_word (w ∷ ws) e =
    let never : true ≡ false = sym (ap not (ne_eqb (length (w ∷ ws)) 0 (λ none. omega (arith, none)))) ∙ e in
    absurd cc

one_line : (l : LineView) (kept held : List LineView) (b h : Bool) → is_workqueue_line l ≡ b → (h ≡ false → is_workqueue_line l ≡ false)
    → map words_in kept ≡ filter is_workqueue (words_of_lines (map cert_line held))
    → map words_in (cond b (l ∷ kept) kept) ≡ filter is_workqueue (words_of_lines (map cert_line (cond h (l ∷ held) held)))
one_line l kept held true true is none rest =
    ap (λ (ws : List (List (List ℕ))). words_in l ∷ ws) rest ∙ sym (ap (λ (b : Bool). cond b (words_in l ∷ filter is_workqueue (words_of_lines (map cert_line held))) (filter is_workqueue (words_of_lines (map cert_line held)))) is)
one_line l kept held false true is none rest =
    rest ∙ sym (ap (λ (b : Bool). cond b (words_in l ∷ filter is_workqueue (words_of_lines (map cert_line held))) (filter is_workqueue (words_of_lines (map cert_line held)))) is)
one_line l kept held true false is none rest = absurd (let never : true ≡ false = sym is ∙ none refl in cc)
one_line l kept held false false is none rest = rest

of_view : (view : List LineView) → map words_in (filter is_workqueue_line view) ≡ filter is_workqueue (words_of_lines (cert_lines view))
of_view [] = refl
of_view (l ∷ ls) = one_line l (filter is_workqueue_line ls) (filled ls) (is_workqueue_line l) (holds_word l) refl (no_word (words_of l)) (of_view ls)

of_numbers : (lines : List LineView) → map spelled_number lines ≡ map second (map words_in lines)
of_numbers [] = refl
of_numbers (l ∷ ls) = ap (λ (ds : List (List ℕ)). spelled_number l ∷ ds) (of_numbers ls)

-- ---- `wq` lines, and `norescuer` lines read as such

begun : (b : Bool) (word number : List ℕ) (more : List (List ℕ)) → bytes_eq word (codes "norescuer") ≡ b → (if b then codes "wq" else word) ≡ codes "wq" → is_workqueue (word ∷ number ∷ more) ≡ true
begun true word number more is e = ap (λ (c : Bool). bytes_eq word (codes "wq") || c) is ∙ either (bytes_eq word (codes "wq"))
  where
    either : (c : Bool) → (c || true) ≡ true
    either true = refl
    either false = refl
begun false word number more is e = ap (λ (w : List ℕ). is_workqueue (w ∷ number ∷ more)) e

read_so : (words : List (List ℕ)) (number : List ℕ) (items : List (List ℕ)) → with_wq true words ≡ codes "wq" ∷ number ∷ items → (is_workqueue words ≡ true) × (second words ≡ number)
read_so [] number items e = absurd cc
read_so (word ∷ []) number items e = absurd cc
read_so (word ∷ said ∷ more) number items e =
    let first : (if bytes_eq word (codes "norescuer") then codes "wq" else word) ≡ codes "wq" = cc in
    let same : said ≡ number = cc in
    (begun (bytes_eq word (codes "norescuer")) word said more refl first, same)

as_words : (lines : List CertLine) → map (with_wq true) (words_of_lines lines) ≡ words_of_lines (map as_wq lines)
as_words [] = refl
as_words (l ∷ ls) = ap (λ (ws : List (List (List ℕ))). with_wq true l.words ∷ ws) (as_words ls)

module _ (names : List (List ℕ)) where
  of_lanes : (n : ℕ) (workqueues : List (List ℕ)) (lines : List (List (List ℕ))) → map (with_wq true) lines ≡ map (workqueue_line names) (enumerate_from n workqueues)
      → map second (filter is_workqueue lines) ≡ map decimal (range_with_len n (length workqueues))
  of_lanes n [] [] e = refl
  of_lanes n [] (l ∷ ls) e = absurd cc
  of_lanes n (q ∷ qs) [] e = absurd cc
  of_lanes n (q ∷ qs) (l ∷ ls) e =
      let first : with_wq true l ≡ codes "wq" ∷ decimal n ∷ map (name_of names) q = cc in
      let others : map (with_wq true) ls ≡ map (workqueue_line names) (enumerate_from (n + 1) qs) = cc in
      let said = read_so l (decimal n) (map (name_of names) q) first in
      ap (λ (b : Bool). map second (cond b (l ∷ filter is_workqueue ls) (filter is_workqueue ls))) said.0
      ∙ ap₂ (λ (d : List ℕ) (ds : List (List ℕ)). d ∷ ds) said.1 (of_lanes (n + 1) qs ls others)

  -- ---- plans

  of_workqueues : (n : ℕ) (workqueues : List (List ℕ)) → map second (filter is_workqueue (map (workqueue_line names) (enumerate_from n workqueues))) ≡ map decimal (range_with_len n (length workqueues))
  of_workqueues n [] = refl
  of_workqueues n (q ∷ qs) = ap (λ (ds : List (List ℕ)). decimal n ∷ ds) (of_workqueues (n + 1) qs)

  no_arc : (arcs : List (ℕ × ℕ)) → filter is_workqueue (map (arc_line names) arcs) ≡ []
  no_arc [] = refl
  no_arc (a ∷ arcs) = no_arc arcs

  of_plan_lines : (lanes n : ℕ) (workqueues : List (List ℕ)) (arcs : List (ℕ × ℕ))
      → map second (filter is_workqueue (plan_line lanes ∷ (workqueue_lines names workqueues ++ (count_line n ∷ map (arc_line names) arcs)))) ≡ map decimal (range_with_len 0 (length workqueues))
  of_plan_lines lanes n workqueues arcs =
      ap (λ (ls : List (List (List ℕ))). map second ls) (
      filter-append is_workqueue (workqueue_lines names workqueues) (count_line n ∷ map (arc_line names) arcs)
      ∙ ap (λ (ls : List (List (List ℕ))). filter is_workqueue (workqueue_lines names workqueues) ++ ls) (no_arc arcs)
      ∙ append-nil (filter is_workqueue (workqueue_lines names workqueues))
      )
      ∙ of_workqueues 0 workqueues

-- ---- texts

-- the workqueues of a plan, and those of lines
abbrev of_plan : PlanCertificate → Result Workqueues CertError
of_plan plan = Ok (all_rescued plan.assignment)

abbrev of_lines : List CertLine → Assignment → Result Workqueues CertError
of_lines lines a = Ok (record { assignment = a; bare = map is_bare_line lines })

module _ (names : List (List ℕ)) (p : Partition) (one_group_each : length names ≡ length p.group_of) where
  in_order : (lines : List CertLine) (ws : Workqueues) → lanes_reading names p lines ≡ Ok ws
      → map second (filter is_workqueue (words_of_lines lines)) ≡ map decimal (range_with_len 0 ws.assignment.lanes)
  in_order lines ws e = chosen (begins_plan lines) e
    where
      chosen : (b : Bool) → cond b (and_then of_plan (plan_reading names p lines)) (and_then (of_lines lines) (workqueues_reading names p (map as_wq lines))) ≡ Ok ws
          → map second (filter is_workqueue (words_of_lines lines)) ≡ map decimal (range_with_len 0 ws.assignment.lanes)
      chosen true e =
          let found = Follows-and_then of_plan (plan_reading names p lines) ws e in
          let same : all_rescued found.value.assignment ≡ ws = same_ok (all_rescued found.value.assignment) ws found.then in
          let spells = SpellsPlan-plan_reading names p one_group_each lines found.value found.first in
          ap (λ (ls : List (List (List ℕ))). map second (filter is_workqueue ls)) spells.words
          ∙ of_plan_lines names (length spells.workqueues) found.value.length spells.workqueues found.value.arcs
          ∙ ap (λ (a : Assignment). map decimal (range_with_len 0 a.lanes)) (sym spells.assignment ∙ ap (λ (w : Workqueues). w.assignment) same)
      chosen false e =
          let found = Follows-and_then (of_lines lines) (workqueues_reading names p (map as_wq lines)) ws e in
          let read : Workqueues = record { assignment = found.value; bare = map is_bare_line lines } in
          let same : read ≡ ws = same_ok read ws found.then in
          let spells = SpellsWorkqueues-workqueues_reading names p one_group_each (map as_wq lines) found.value found.first in
          of_lanes names 0 spells.workqueues (words_of_lines lines) (as_words lines ∙ spells.words)
          ∙ ap (λ (a : Assignment). map decimal (range_with_len 0 a.lanes)) (sym spells.assignment ∙ ap (λ (w : Workqueues). w.assignment) same)

pub numbers_are : (names : List (List ℕ)) (p : Partition) (text : List ℕ) (ws : Workqueues) → length names ≡ length p.group_of → workqueues_of_text names p text ≡ Ok ws
    → map spelled_number (filter is_workqueue_line (lines_of text)) ≡ map decimal (range_with_len 0 ws.assignment.lanes)
numbers_are names p text ws one_group_each e =
    of_numbers (filter is_workqueue_line (lines_of text))
    ∙ ap (λ (ls : List (List (List ℕ))). map second ls) (of_view (lines_of text))
    ∙ in_order names p one_group_each (cert_lines (lines_of text)) ws (IsReadSo-text_reading (lanes_reading names p) text ws e).is_read

pub one_name_each : (names : List (List ℕ)) (p : Partition) (text : List ℕ) (ws : Workqueues) → length names ≡ length p.group_of → workqueues_of_text names p text ≡ Ok ws
    → length (names_of text) ≡ ws.assignment.lanes
one_name_each names p text ws one_group_each e =
    let lines : List LineView = filter is_workqueue_line (lines_of text) in
    length-map lines (λ (line : LineView). name_on line.bytes)
    ∙ sym (length-map lines spelled_number)
    ∙ ap (λ (ds : List (List ℕ)). length ds) (numbers_are names p text ws one_group_each e)
    ∙ length-map-range_with_len decimal 0 ws.assignment.lanes
