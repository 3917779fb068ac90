-- Lines of a report as they grow word by word, and reports of equal counts.
use Rattle.std.proofs.Common.{◌≡◌, ℕ, ◌<◌, List, [], ◌∷◌, ◌++◌, length, map, flat_map, sym, ap, ◌∙◌, append_assoc, append-nil, arith}
use Rattle.std.specs.Prelude.{codes, decimal}
use Rattle.std.specs.List.{range_with_len}
use Rattle.std.proofs.lemmas.List.FromFn.{fill_by_all, get_or-map-range_with_len, length-map-range_with_len}
use Rattle.wq_groups.specs.Assignment.{Assignment, item_lane}
use Rattle.wq_text.specs.LineText.{spaced, line_text}
use Rattle.wq_cert.specs.PlanText.{name_of}
use Rattle.wq_cert.proofs.LineLemmas.{plan_text-parts}
use Rattle.wq_counts.specs.declared.kind.Kind.{Kind}
use Rattle.wq_counts.specs.declared.kind.Kind.TheVariants.{Queue, Cancel, Finish}
use Rattle.wq_groups.specs.DeclaredGroups.{Declared}
use Rattle.wq_run.specs.Report.{workqueues_line, faults_line, item_line, report_text}

-- six words after what is there
pub six_words : (out a b c d e f : List ℕ) → (((((out ++ spaced a) ++ spaced b) ++ spaced c) ++ spaced d) ++ spaced e) ++ spaced f
    ≡ out ++ flat_map spaced (a ∷ b ∷ c ∷ d ∷ e ∷ f ∷ [])
six_words out a b c d e f =
    let one = out ++ spaced a in
    let two = one ++ spaced b in
    let three = two ++ spaced c in
    let four = three ++ spaced d in
    let tail : List ℕ = spaced f in
    append_assoc four (spaced e) tail
    ∙ append_assoc three (spaced d) (spaced e ++ tail)
    ∙ append_assoc two (spaced c) (spaced d ++ (spaced e ++ tail))
    ∙ append_assoc one (spaced b) (spaced c ++ (spaced d ++ (spaced e ++ tail)))
    ∙ append_assoc out (spaced a) (spaced b ++ (spaced c ++ (spaced d ++ (spaced e ++ tail))))
    ∙ ap (λ (last : List ℕ). out ++ (spaced a ++ (spaced b ++ (spaced c ++ (spaced d ++ (spaced e ++ last)))))) (sym (append-nil tail))

-- a line of four words or more
pub line_text-more : (out w a b c : List ℕ) (ws : List (List ℕ))
    → (((((out ++ w) ++ spaced a) ++ spaced b) ++ spaced c) ++ flat_map spaced ws) ++ (10 ∷ []) ≡ out ++ line_text (w ∷ a ∷ b ∷ c ∷ ws)
line_text-more out w a b c ws =
    let end : List ℕ = 10 ∷ [] in
    let rest = flat_map spaced ws in
    let one = out ++ w in
    let two = one ++ spaced a in
    let three = two ++ spaced b in
    append_assoc (three ++ spaced c) rest end
    ∙ append_assoc three (spaced c) (rest ++ end)
    ∙ append_assoc two (spaced b) (spaced c ++ (rest ++ end))
    ∙ append_assoc one (spaced a) (spaced b ++ (spaced c ++ (rest ++ end)))
    ∙ append_assoc out w (spaced a ++ (spaced b ++ (spaced c ++ (rest ++ end))))
    ∙ ap (λ (ls : List ℕ). out ++ (w ++ ls)) (sym (append_assoc (spaced a) (spaced b ++ (spaced c ++ rest)) end
    ∙ ap (λ (ls : List ℕ). spaced a ++ ls) (append_assoc (spaced b) (spaced c ++ rest) end ∙ ap (λ (ls : List ℕ). spaced b ++ ls) (append_assoc (spaced c) rest end))))

-- a first line, lines and a last line
pub report_text-parts : (first : List (List ℕ)) (items : List (List (List ℕ))) (last : List (List ℕ))
    → (line_text first ++ flat_map line_text items) ++ line_text last ≡ flat_map line_text (first ∷ (items ++ (last ∷ [])))
report_text-parts first items last = sym (append-nil ((line_text first ++ flat_map line_text items) ++ line_text last)) ∙ plan_text-parts first items last []

-- if each item has the same counts, the same report is printed
module _ (s : Declared) (a : Assignment) (count other : ℕ → Kind → ℕ) where
  item_line-same : (i : ℕ) → ((kind : Kind) → count i kind ≡ other i kind) → item_line s a count i ≡ item_line s a other i
  item_line-same i same =
      let words : (queued cancelled finished : ℕ) → List (List ℕ) =
      λ queued cancelled finished. codes "item" ∷ name_of s.table.names i ∷ codes "wq" ∷ decimal (item_lane a s.partition.group_of i) ∷ codes "queued" ∷ decimal queued
      ∷ codes "cancelled" ∷ decimal cancelled ∷ codes "finished" ∷ decimal finished ∷ [] in
      ap (λ (n : ℕ). words n (count i Cancel) (count i Finish)) (same Queue)
      ∙ ap (λ (n : ℕ). words (other i Queue) n (count i Finish)) (same Cancel)
      ∙ ap (λ (n : ℕ). words (other i Queue) (other i Cancel) n) (same Finish)

  item_lines-same : (n : ℕ) → ((i : ℕ) (kind : Kind) → i < n → count i kind ≡ other i kind)
      → map (item_line s a count) (range_with_len 0 n) ≡ map (item_line s a other) (range_with_len 0 n)
  item_lines-same n same =
      fill_by_all (item_line s a other) (map (item_line s a count) (range_with_len 0 n)) n [] (length-map-range_with_len (item_line s a count) 0 n)
      (λ i below. get_or-map-range_with_len (item_line s a count) 0 n i i [] below (omega arith) ∙ item_line-same i (λ kind. same i kind below))

  pub report_text-same : (faults : ℕ) → ((i : ℕ) (kind : Kind) → i < length s.table.names → count i kind ≡ other i kind)
      → report_text s a count faults ≡ report_text s a other faults
  report_text-same faults same =
      ap (λ (lines : List (List (List ℕ))). flat_map line_text (workqueues_line a.lanes ∷ (lines ++ (faults_line faults ∷ []))))
      (item_lines-same (length s.table.names) same)
