-- Unsure parts: which unsure flushes a run keeps. A line has the words of the line that declares such a flush.
use Rattle.std.specs.Prelude.{◌≡◌, ℕ, zero, suc, ◌<◌, ◌==◌, ◌&&◌, nat_lt, not, if◌then◌else◌, Bool, true, false, List}
use Rattle.std.specs.Prelude.{[], ◌∷◌, ◌++◌}
use Rattle.std.specs.Prelude.{length, map, filter_map, flat_map, find, option_map, Option, Some, None, Result}
use Rattle.std.specs.Prelude.{Ok, Err, ok_or}
use Rattle.std.specs.Prelude.{bytes_eq, codes, decimal, Contains}
use Rattle.std.specs.List.{list_any, range_with_len}
use Rattle.std.specs.List.Sorted.{IsStrictlyIncreasing}
use Rattle.std.specs.Option.{option_zip}
use Rattle.wq_text.specs.LineText.{line_text}
use Rattle.wq_items.specs.declared.target.Target.{Target}
use Rattle.wq_items.specs.Building.{and_then}
use Rattle.wq_items.specs.Readings.{is_among}
use Rattle.wq_items.specs.Table.{item_named, max_flushes, targets_of}
use Rattle.wq_core.specs.declared.step.Step.{Step}
use Rattle.wq_cert.specs.declared.fault.CertError.{CertError}
use Rattle.wq_cert.specs.declared.fault.CertError.TheVariants.{BadCertLine, NumberOutOfRange}
use Rattle.wq_cert.specs.Forms.{begins_with, count_form}
use Rattle.wq_cert.specs.Lines.{CertLine}
use Rattle.wq_cert.specs.PlanText.{name_of}
use Rattle.wq_cert.specs.Reading.{Read, and_read, next_line, run_reading}
use Rattle.wq_cert.specs.RunText.{run_text}
use Rattle.wq_cert.specs.Texts.{text_reading}

-- some flush is unsure
abbrev pub has_unsure : List (List Target) → Bool
has_unsure waits = list_any (λ targets. list_any (λ (t : Target). t.unsure) targets) waits

-- ---- printed

-- the first word of the line that declares an unsure flush
abbrev pub unsure_word : Bool → List ℕ
unsure_word whole = if whole then codes "flushwq?" else codes "flush?"

-- the words of the line that declares this unsure flush of item i
abbrev pub unsure_line : List (List ℕ) → ℕ × Target → List (List ℕ)
unsure_line names (i, t) = unsure_word t.whole ∷ name_of names i ∷ name_of names t.item ∷ []

-- the flush at this place, with its item, if it is unsure
abbrev pub unsure_at : List (List Target) → ℕ → Option (ℕ × Target)
unsure_at waits place =
    find (λ (flush : ℕ × Target). flush.1.unsure && (flush.1.place == place))
    (flat_map (λ i. map (λ (t : Target). (i, t)) (targets_of waits i)) (range_with_len 0 (length waits)))

-- the lines of an unsure part, as words: `unsure M`, and the line of each of the flushes at these places
abbrev pub part_lines : List (List ℕ) → List (List Target) → List ℕ → List (List (List ℕ))
part_lines names waits kept =
    (codes "unsure" ∷ decimal (length kept) ∷ []) ∷ map (unsure_line names) (filter_map (unsure_at waits) kept)

-- the unsure part of the reading that keeps the unsure flushes at these places, if any flush is unsure
abbrev pub part_text : List (List ℕ) → List (List Target) → List ℕ → List ℕ
part_text names waits kept = if has_unsure waits then flat_map line_text (part_lines names waits kept) else []

-- the text of a run of the reading that keeps the unsure flushes at these places
abbrev pub reading_text : List (List ℕ) → List (List Target) → List ℕ → List Step → List ℕ
reading_text names waits kept steps = part_text names waits kept ++ run_text names steps

-- ---- read

-- if this word begins a line of a part, whether the flush is of a whole workqueue
abbrev pub unsure_kind : List ℕ → Option Bool
unsure_kind word =
    if bytes_eq word (codes "flush?") then Some false
    else (if bytes_eq word (codes "flushwq?") then Some true else None)

-- `flush? NAME TARGET` or `flushwq? NAME ITEM`: whether it is a flush of a whole workqueue, the item and the target
abbrev pub unsure_form : List (List ℕ) → List (List ℕ) → Option (Bool × (ℕ × ℕ))
unsure_form names [] = None
unsure_form names (word ∷ []) = None
unsure_form names (word ∷ item ∷ []) = None
unsure_form names (word ∷ item ∷ target ∷ []) =
    option_zip (unsure_kind word) (option_zip (item_named names item) (item_named names target))
unsure_form names (word ∷ item ∷ target ∷ more ∷ words) = None

-- the flush is unsure, and is declared in this form
abbrev pub is_declared_so : Bool × (ℕ × ℕ) → Target → Bool
is_declared_so form t = t.unsure && (t.item == form.1.1) && (if form.0 then t.whole else not t.whole)

-- the place of the unsure flush that a line of this form stands for: the first that is declared in this form and that
-- no line before it stands for, if there is one
abbrev pub stood_for : List (List Target) → List ℕ → Bool × (ℕ × ℕ) → Option ℕ
stood_for waits taken form =
    option_map (λ (t : Target). t.place)
    (find (λ (t : Target). is_declared_so form t && not (is_among taken t.place)) (targets_of waits form.1.0))

-- the place that a line stands for, after lines that stand for these places
abbrev pub unsure_reading : List (List ℕ) → List (List Target) → List ℕ → CertLine → Result ℕ CertError
unsure_reading names waits taken line =
    and_then (λ form. ok_or (stood_for waits taken form) (BadCertLine line.no))
    (ok_or (unsure_form names line.words) (BadCertLine line.no))

-- this many lines of a part, after lines that stand for these places: all places together
abbrev pub next_unsure : List (List ℕ) → List (List Target) → ℕ → List ℕ → List CertLine → Read (List ℕ)
next_unsure names waits zero taken lines = Ok (taken, lines)
next_unsure names waits (suc n) taken lines =
    and_read (λ place rest. next_unsure names waits n (taken ++ (place ∷ [])) rest)
    (next_line (unsure_reading names waits taken) lines)

-- `unsure M`, where M is at most 16,384
abbrev pub unsure_count_reading : CertLine → Result ℕ CertError
unsure_count_reading line =
    and_then (λ n. if nat_lt max_flushes n then Err (NumberOutOfRange line.no) else Ok n)
    (ok_or (count_form (codes "unsure") line.words) (BadCertLine line.no))

-- whether the first word is `unsure`
abbrev pub begins_unsure : List CertLine → Bool
begins_unsure [] = false
begins_unsure (line ∷ lines) = begins_with (codes "unsure") line.words

-- `unsure M`, M lines, and a run: the places that the lines stand for, and the steps
abbrev pub part_reading : List (List ℕ) → List (List Target) → List CertLine
    → Result (Option (List ℕ) × List Step) CertError
part_reading names waits lines =
    and_read (λ count behind.
    and_read (λ kept rest. and_then (λ steps. Ok (Some kept, steps)) (run_reading names rest))
    (next_unsure names waits count [] behind))
    (next_line unsure_count_reading lines)

-- a run with an unsure part if the first word is `unsure`, and else one without
abbrev pub made_reading : List (List ℕ) → List (List Target) → List CertLine
    → Result (Option (List ℕ) × List Step) CertError
made_reading names waits lines =
    if begins_unsure lines then part_reading names waits lines
    else and_then (λ steps. Ok (None, steps)) (run_reading names lines)

-- what the text of a run that may have an unsure part says: the places of the unsure flushes that it keeps, and the
-- steps
abbrev pub made_of : List (List ℕ) → List (List Target) → List ℕ → Result (Option (List ℕ) × List Step) CertError
made_of names waits text = text_reading (made_reading names waits) text

-- ---- what is printed and read back

-- the place is that of an unsure flush, and so are those of its item that are declared before it with the same words
pub record IsKeptPlace (waits : List (List Target)) (kept : List ℕ) (p : ℕ) : Type 0 where
  pub item : ℕ
  pub target : Target
  pub declared : Contains (targets_of waits item) target
  pub unsure : target.unsure ≡ true
  pub place : target.place ≡ p
  pub first : (other : Target) → Contains (targets_of waits item) other → other.unsure ≡ true
      → other.item ≡ target.item → other.whole ≡ target.whole → other.place < p → Contains kept other.place

-- places as a part says them: in order, and the first ones of several flushes that are declared in the same words
pub record AreKeptPlaces (waits : List (List Target)) (kept : List ℕ) : Type 0 where
  pub rise : IsStrictlyIncreasing kept
  pub each : (p : ℕ) → Contains kept p → IsKeptPlace waits kept p
