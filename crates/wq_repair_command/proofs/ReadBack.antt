-- The text of an assignment, read back: it says the workqueues that were printed.
use Rattle.std.proofs.Common.{◌≡◌, ℕ, ◌+◌, ◌*◌, ◌<◌, ◌≤◌, Bool, true, false, cond, List, [], ◌∷◌, ◌++◌, length, map, Result, Ok, refl, sym, ap, ◌∙◌, arith, append_assoc, length-append}
use Rattle.std.specs.Prelude.{flat_map, slice_index_or, codes, decimal}
use Rattle.std.specs.List.{AllByRecursion, range_with_len}
use Rattle.std.proofs.lemmas.List.{length-map}
use Rattle.wq_text.specs.Lines.{lines_of}
use Rattle.wq_items.specs.Table.{Table, IsTable, items_at}
use Rattle.wq_items.specs.Building.{and_then}
use Rattle.wq_groups.specs.Partition.{Partition, IsPartition}
use Rattle.wq_groups.specs.Assignment.{IsAssignment, group_lane, item_lanes}
use Rattle.wq_core.specs.Workqueues.{Workqueues}
use Rattle.wq_text.specs.LineText.{spaced}
use Rattle.wq_cert.specs.declared.fault.CertError.{CertError}
use Rattle.wq_cert.specs.Forms.{begins_with}
use Rattle.wq_cert.specs.Lines.{CertLine, cert_lines}
use Rattle.wq_cert.specs.PlanText.{name_of, wq_line}
use Rattle.wq_cert.specs.Reading.{begins_plan, as_wq, with_wq, is_bare_line, plan_reading, workqueues_reading, lanes_reading}
use Rattle.wq_cert.specs.Spelled.{words_of_lines, SpellsWorkqueues, KeepsLimits}
use Rattle.wq_cert.specs.Texts.{workqueues_of_text}
use Rattle.wq_cert.proofs.LanesRead.{of_plan, of_lines}
use Rattle.wq_cert.proofs.ListLemmas.{AllByRecursion-range_with_len, AllByRecursion-weaker}
use Rattle.wq_cert.proofs.PrintedLines.{IsPrintable}
use Rattle.wq_cert.proofs.PrintedWords.{IsPrintable-decimal, IsPrintable-keyword, IsPrintable-names_of}
use Rattle.wq_cert.proofs.PrintedWorkqueues.{IsOn, IsOn-items_at, length-items_at-le, workqueue_lines-printed, assignment_of-workqueues, AreWorkqueues-printed}
use Rattle.wq_cert.proofs.SpelledAnswers.{text_reading-KeepsLimits}
use Rattle.wq_cert.proofs.SpelledTexts.{workqueues_reading-SpellsWorkqueues}
use Rattle.wq_names.specs.Names.{names_of}
use Rattle.wq_repair_command.specs.AssignmentText.{keyword, lane_words, name_comment, workqueue_text, assignment_text}
use Rattle.wq_repair_command.specs.ReadBack.{with_each}
use Rattle.wq_repair_command.proofs.NamedLines.{IsShown, IsNamedLine, full_body, length-full_body, words_of-printed, IsShort-printed}
use Rattle.wq_repair_command.proofs.ReadNames.{IsCalled, is_workqueue-keyword, names_of-printed}
use Rattle.wq_repair_command.proofs.TextSize.{length-text}

-- ---- words

same_map : {X Y : Type 0} (f g : X → Y) → ((x : X) → f x ≡ g x) → (xs : List X) → map f xs ≡ map g xs
same_map {X} {Y} f g same [] = refl
same_map {X} {Y} f g same (x ∷ xs) = ap (λ (y : Y). y ∷ map f xs) (same x) ∙ ap (λ (ys : List Y). g x ∷ ys) (same_map f g same xs)

map_twice : {X Y Z : Type 0} (g : Y → Z) (f : X → Y) (xs : List X) → map g (map f xs) ≡ map (λ x. g (f x)) xs
map_twice {X} {Y} {Z} g f [] = refl
map_twice {X} {Y} {Z} g f (x ∷ xs) = ap (λ (zs : List Z). g (f x) ∷ zs) (map_twice g f xs)

words-as_wq : (lines : List CertLine) → words_of_lines (map as_wq lines) ≡ map (with_wq true) (words_of_lines lines)
words-as_wq [] = refl
words-as_wq (line ∷ lines) = ap (λ (ws : List (List (List ℕ))). with_wq true line.words ∷ ws) (words-as_wq lines)

words-bare : (lines : List CertLine) → map is_bare_line lines ≡ map (begins_with (codes "norescuer")) (words_of_lines lines)
words-bare [] = refl
words-bare (line ∷ lines) = ap (λ (bs : List Bool). begins_with (codes "norescuer") line.words ∷ bs) (words-bare lines)

-- a line begins with a keyword, whichever it is
as_wq-keyword : (bare : Bool) (words : List (List ℕ)) → with_wq true (keyword bare ∷ words) ≡ codes "wq" ∷ words
as_wq-keyword true words = refl
as_wq-keyword false words = refl

bare-keyword : (bare : Bool) (words : List (List ℕ)) → begins_with (codes "norescuer") (keyword bare ∷ words) ≡ bare
bare-keyword true words = refl
bare-keyword false words = refl

no_plan-keyword : (bare : Bool) (words : List (List ℕ)) → begins_with (codes "plan") (keyword bare ∷ words) ≡ false
no_plan-keyword true words = refl
no_plan-keyword false words = refl

keyword-printable : (bare : Bool) → IsPrintable (keyword bare)
keyword-printable true = IsPrintable-keyword (codes "norescuer") refl (omega arith) (omega arith)
keyword-printable false = IsPrintable-keyword (codes "wq") refl (omega arith) (omega arith)

-- ---- the text

module _ (t : Table) (p : Partition) (ws : Workqueues) (called : List (List ℕ)) (table : IsTable t) (is : IsPartition p) (long : length p.group_of ≡ length t.names)
    (assigned : IsAssignment p.groups ws.assignment) (few : ws.assignment.lanes ≤ 4096) (shown : (q : ℕ) → IsShown (slice_index_or called q [])) where
  abbrev lane : List ℕ
  lane = item_lanes ws.assignment p.group_of

  abbrev lanes : ℕ
  lanes = ws.assignment.lanes

  abbrev is_bare : ℕ → Bool
  is_bare q = slice_index_or ws.bare q false

  abbrev words : ℕ → List (List ℕ)
  words q = lane_words t.names q (is_bare q) (items_at lane q)

  abbrev name : ℕ → List ℕ
  name q = slice_index_or called q []

  abbrev line : ℕ → List ℕ
  line q = workqueue_text t.names lane ws.bare called q

  abbrev text : List ℕ
  text = assignment_text t.names p ws called

  length-lane : length lane ≡ length t.names
  length-lane = length-map p.group_of (group_lane ws.assignment) ∙ long

  parts : (q : ℕ) → line q ≡ full_body (words q) (name q) ++ (10 ∷ [])
  parts q =
      let first = keyword (is_bare q) in
      let rest = flat_map spaced (decimal q ∷ map (name_of t.names) (items_at lane q)) in
      let comment = name_comment (name q) in
      sym (append_assoc (first ++ rest) comment (10 ∷ []) ∙ append_assoc first rest (comment ++ (10 ∷ [])))

  -- ---- its lines

  named : (q : ℕ) → AllByRecursion (λ i. i < length t.names) (items_at lane q)
  named q = AllByRecursion-weaker (IsOn lane q) (λ i. i < length t.names) (λ i on. omega (arith, on.0, length-lane)) (items_at lane q) (IsOn-items_at lane q)

  length-words : (q : ℕ) → length (words q) ≡ 2 + length (items_at lane q)
  length-words q = omega (arith, length-map (items_at lane q) (name_of t.names))

  fine : (q : ℕ) → q < 4096 → IsNamedLine (words q) (name q)
  fine q below = record {
    printable = record {
      some = λ e. absurd cc;
      each = (keyword-printable (is_bare q), (IsPrintable-decimal q (omega arith), IsPrintable-names_of t.names table.named (items_at lane q) (named q)));
      few = omega (arith, length-words q, length-items_at-le lane q, length-lane, table.few_items);
    };
    few = omega (arith, length-words q, length-items_at-le lane q, length-lane, table.few_items);
    shown = shown q;
  }

  all_fine : AllByRecursion (λ q. IsNamedLine (words q) (name q)) (range_with_len 0 lanes)
  all_fine = AllByRecursion-range_with_len (λ q. IsNamedLine (words q) (name q)) 0 lanes (λ q low high. fine q (omega arith))

  length-line : (q : ℕ) → q < 4096 → length (line q) ≤ 196 + 64 * length (items_at lane q)
  length-line q below =
      omega (arith, ap length (parts q), length-append (full_body (words q) (name q)) (10 ∷ []), length-full_body (words q) (name q) (fine q below), length-words q)

  keeps : KeepsLimits text
  keeps = record {
    text_fits = length-text lane line length-line lanes few (omega (arith, length-lane, table.few_items));
    lines_fit = IsShort-printed line words name parts (range_with_len 0 lanes) all_fine;
  }

  -- ---- what is read

  abbrev lines : List CertLine
  lines = cert_lines (lines_of text)

  read_words : words_of_lines lines ≡ map words (range_with_len 0 lanes)
  read_words = words_of-printed line words name parts (range_with_len 0 lanes) all_fine

  no_plan : begins_plan lines ≡ false
  no_plan = of lines (range_with_len 0 lanes) read_words
    where
      of : (ls : List CertLine) (qs : List ℕ) → words_of_lines ls ≡ map words qs → begins_plan ls ≡ false
      of [] qs e = refl
      of (l ∷ ls) [] e = absurd cc
      of (l ∷ ls) (q ∷ qs) e =
          let first : l.words ≡ words q = cc in
          ap (begins_with (codes "plan")) first ∙ no_plan-keyword (is_bare q) (decimal q ∷ map (name_of t.names) (items_at lane q))

  wq_words : words_of_lines (map as_wq lines) ≡ map (wq_line t.names lane) (range_with_len 0 lanes)
  wq_words =
      words-as_wq lines ∙ ap (map (with_wq true)) read_words ∙ map_twice (with_wq true) words (range_with_len 0 lanes)
      ∙ same_map (λ q. with_wq true (words q)) (wq_line t.names lane) (λ q. as_wq-keyword (is_bare q) (decimal q ∷ map (name_of t.names) (items_at lane q))) (range_with_len 0 lanes)

  bare_read : map is_bare_line lines ≡ map is_bare (range_with_len 0 lanes)
  bare_read =
      words-bare lines ∙ ap (map (begins_with (codes "norescuer"))) read_words ∙ map_twice (begins_with (codes "norescuer")) words (range_with_len 0 lanes)
      ∙ same_map (λ q. begins_with (codes "norescuer") (words q)) is_bare (λ q. bare-keyword (is_bare q) (decimal q ∷ map (name_of t.names) (items_at lane q))) (range_with_len 0 lanes)

  spelled : SpellsWorkqueues t.names p (words_of_lines (map as_wq lines)) ws.assignment
  spelled = record {
    workqueues = map (items_at lane) (range_with_len 0 lanes);
    words = wq_words ∙ sym (workqueue_lines-printed lane t.names lanes);
    are = AreWorkqueues-printed p ws.assignment is assigned few (length t.names) long;
    assignment = sym (assignment_of-workqueues p ws.assignment is assigned);
  }

  read_assignment : workqueues_reading t.names p (map as_wq lines) ≡ Ok ws.assignment
  read_assignment = workqueues_reading-SpellsWorkqueues t.names p (sym long) table.distinct (map as_wq lines) ws.assignment spelled

  abbrev lanes_or : Bool → Result Workqueues CertError
  lanes_or b = cond b (and_then of_plan (plan_reading t.names p lines)) (and_then (of_lines lines) (workqueues_reading t.names p (map as_wq lines)))

  read_lanes : lanes_reading t.names p lines ≡ Ok (with_each ws)
  read_lanes =
      ap lanes_or no_plan ∙ ap (and_then (of_lines lines)) read_assignment
      ∙ ap (λ (bare : List Bool). Ok (record { assignment = ws.assignment; bare = bare })) bare_read

  pub workqueues_of_text-printed : workqueues_of_text t.names p (assignment_text t.names p ws called) ≡ Ok (with_each ws)
  workqueues_of_text-printed = text_reading-KeepsLimits (lanes_reading t.names p) text (with_each ws) keeps read_lanes

  -- the names in it
  module _ (is_called : (q : ℕ) → IsCalled (slice_index_or called q [])) where
    pub names_of-text : names_of (assignment_text t.names p ws called) ≡ map (λ (q : ℕ). slice_index_or called q []) (range_with_len 0 ws.assignment.lanes)
    names_of-text =
        names_of-printed line words name parts (λ q. is_workqueue-keyword (is_bare q) (decimal q ∷ map (name_of t.names) (items_at lane q))) is_called
        (range_with_len 0 lanes) all_fine
