-- Names of workqueues are read back from the lines that were printed with them.
use Rattle.std.proofs.Common.{◌≡◌, ℕ, zero, suc, ◌+◌, ◌-◌, ◌<◌, ◌≤◌, ◌==◌, ◌||◌, ◌&&◌, Bool, true, false, cond, inl, inr, List, [], ◌∷◌, ◌++◌, length, map, take, drop, get_or, reverse, refl, sym, ap, ◌∙◌, arith, append_assoc}
use Rattle.std.specs.Prelude.{◌⊎◌, nat_le, filter, flat_map, codes}
use Rattle.std.specs.List.{AllByRecursion, before_first, list_all, position_or_len, prefix_len, suffix_len}
use Rattle.std.proofs.Math.Seq.{drop-append_seam, drop-length}
use Rattle.std.proofs.lemmas.Bool.{leb-true, and_parts}
use Rattle.std.proofs.lemmas.List.{get_or-take, get_or-drop, get_or-reverse, length-take, length-take-le, length-drop, length-reverse, take_all}
use Rattle.std.proofs.lemmas.List.Sums.{fails_before_first, position_or_len_is, prefix_len_is, prefix_len_stops, suffix_len_is}
use Rattle.wq_text.specs.Comments.{before_comment}
use Rattle.wq_text.specs.Lines.{LineView, lines_from, lines_of, pieces}
use Rattle.wq_text.specs.Words.{is_blank}
use Rattle.wq_cert.specs.Forms.{begins_with}
use Rattle.wq_cert.proofs.PrintedLines.{IsPrintableLine, line_body}
use Rattle.wq_names.specs.Comments.{is_lead, without_lead}
use Rattle.wq_names.specs.Names.{called, is_name, is_printable, is_workqueue_line, name_on, names_of, without_end}
use Rattle.wq_repair_command.specs.AssignmentText.{keyword}
use Rattle.wq_repair_command.proofs.NamedLines.{IsNamedLine, before_comment-full, bytes_of-printed_line, full_body, full-above, pieces-line, printed_line, strip-above}

-- ---- what names there are

-- a name that is read: no `#` or blank stands first, no blank last, and there is no comma
pub record IsRead (name : List ℕ) : Type 0 where
  pub is : is_name name ≡ true
  pub first : prefix_len is_lead name ≡ 0
  pub no_comma : position_or_len (λ (b : ℕ). b == 44) name ≡ length name
  pub no_end : suffix_len is_blank name ≡ 0

-- a name that is read, or none
abbrev pub IsCalled : List ℕ → Type 0
IsCalled name = (name ≡ []) ⊎ IsRead name

-- the element before the longest suffix of passing elements doesn't pass
suffix_len_stops : (p : ℕ → Bool) (xs : List ℕ) (d : ℕ) → suffix_len p xs < length xs → p (get_or xs (length xs - 1 - suffix_len p xs) d) ≡ false
suffix_len_stops p xs d lt =
    ap p (sym (get_or-reverse xs (suffix_len p xs) d lt)) ∙ prefix_len_stops p (reverse xs) d (omega (arith, lt, length-reverse xs))

module _ (bytes : List ℕ) (is : is_name (called bytes) ≡ true) where
  abbrev behind : List ℕ
  behind = drop (length (before_comment bytes)) bytes

  abbrev body : List ℕ
  body = drop (prefix_len is_lead (drop (length (before_comment bytes)) bytes)) (drop (length (before_comment bytes)) bytes)

  abbrev comma : ℕ
  comma = position_or_len (λ (b : ℕ). b == 44) body

  abbrev part : List ℕ
  part = take comma body

  abbrev size : ℕ
  size = length part - suffix_len is_blank part

  length-called : length (called bytes) ≡ size
  length-called = length-take-le size part (omega arith)

  some : 0 < size
  some =
      let parts = and_parts (nat_le 1 (length (called bytes)) && nat_le (length (called bytes)) 63) (list_all is_printable (called bytes)) is in
      let least = and_parts (nat_le 1 (length (called bytes))) (nat_le (length (called bytes)) 63) parts.0 in
      omega (arith, leb-true 1 (length (called bytes)) least.0, length-called)

  part-before_comma : length part ≤ comma
  part-before_comma = omega (arith, length-take comma body)

  part-in_body : length part ≤ length body
  part-in_body = omega (arith, length-take comma body)

  at : (k : ℕ) → k < size → get_or (called bytes) k 0 ≡ get_or body k 0
  at k lt = get_or-take size part k 0 lt ∙ get_or-take comma body k 0 (omega (arith, lt, part-before_comma))

  begins : prefix_len is_lead (called bytes) ≡ 0
  begins = prefix_len_is is_lead (called bytes) 0 0 (omega arith) (λ k lt. absurd (omega (arith, lt))) (λ lt. ap is_lead first_byte ∙ prefix_len_stops is_lead behind 0 there)
    where
      first_byte : get_or (called bytes) 0 0 ≡ get_or behind (prefix_len is_lead behind) 0
      first_byte = at 0 some ∙ get_or-drop (prefix_len is_lead behind) behind 0 0 ∙ ap (λ (k : ℕ). get_or behind k 0) (let e : prefix_len is_lead behind + 0 ≡ prefix_len is_lead behind = omega arith in e)

      there : prefix_len is_lead behind < length behind
      there = omega (arith, some, part-in_body, length-drop (prefix_len is_lead behind) behind)

  no_comma : position_or_len (λ (b : ℕ). b == 44) (called bytes) ≡ length (called bytes)
  no_comma =
      position_or_len_is (λ (b : ℕ). b == 44) (called bytes) (length (called bytes)) 0 (omega arith)
      (λ k lt. let within : k < size = omega (arith, lt, length-called) in ap (λ (b : ℕ). b == 44) (at k within) ∙ fails_before_first (λ (b : ℕ). b == 44) body k 0 (omega (arith, within, part-before_comma)))
      (λ lt. absurd (omega (arith, lt)))

  ends : suffix_len is_blank (called bytes) ≡ 0
  ends =
      let n = length (called bytes) in
      let none : n - n ≡ 0 = omega arith in
      suffix_len_is is_blank (called bytes) n 0 (omega arith) (λ k low high. absurd (omega (arith, low, high))) (λ lt. ap is_blank last_byte ∙ suffix_len_stops is_blank part 0 (omega (arith, some))) ∙ none
    where
      place : length (called bytes) - 1 ≡ length part - 1 - suffix_len is_blank part
      place = omega (arith, length-called)

      last_byte : get_or (called bytes) (length (called bytes) - 1) 0 ≡ get_or part (length part - 1 - suffix_len is_blank part) 0
      last_byte = get_or-take size part (length (called bytes) - 1) 0 (omega (arith, length-called, some)) ∙ ap (λ (k : ℕ). get_or part k 0) place

  IsRead-called : IsRead (called bytes)
  IsRead-called = record { is = is; first = begins; no_comma = no_comma; no_end = ends }

IsCalled-name_on : (bytes : List ℕ) → IsCalled (name_on bytes)
IsCalled-name_on bytes = of (is_name (called bytes)) refl
  where
    of : (b : Bool) → is_name (called bytes) ≡ b → IsCalled (cond b (called bytes) [])
    of true e = inr (IsRead-called bytes e)
    of false e = inl refl

IsCalled-at : (lines : List LineView) (q : ℕ) → IsCalled (get_or (map (λ (line : LineView). name_on line.bytes) lines) q [])
IsCalled-at [] q = inl refl
IsCalled-at (line ∷ lines) zero = IsCalled-name_on line.bytes
IsCalled-at (line ∷ lines) (suc q) = IsCalled-at lines q

-- the name of each workqueue of a text
pub IsCalled-names_of : (text : List ℕ) (q : ℕ) → IsCalled (get_or (names_of text) q [])
IsCalled-names_of text q = IsCalled-at (filter is_workqueue_line (lines_of text)) q

-- ---- the name on a printed line

-- what is read from what stands behind the words of a line
abbrev cut : List ℕ → List ℕ
cut behind = without_end (before_first (λ (b : ℕ). b == 44) (without_lead behind))

abbrev name_from : List ℕ → List ℕ
name_from behind = cond (is_name (cut behind)) (cut behind) []

cut-read : (name : List ℕ) → IsRead name → cut (35 ∷ 32 ∷ name) ≡ name
cut-read name read =
    let lead : without_lead (35 ∷ 32 ∷ name) ≡ name = ap (λ (k : ℕ). drop (1 + (1 + k)) (35 ∷ 32 ∷ name)) read.first in
    let whole : before_first (λ (b : ℕ). b == 44) name ≡ name = take_all (position_or_len (λ (b : ℕ). b == 44) name) name (omega (arith, read.no_comma)) in
    let end : without_end name ≡ name = take_all (length name - suffix_len is_blank name) name (omega (arith, read.no_end)) in
    ap (λ (bs : List ℕ). without_end (before_first (λ (b : ℕ). b == 44) bs)) lead ∙ ap without_end whole ∙ end

name_from-read : (name : List ℕ) → IsRead name → name_from (35 ∷ 32 ∷ name) ≡ name
name_from-read name read =
    ap (λ (bs : List ℕ). cond (is_name bs) bs []) (cut-read name read) ∙ ap (λ (b : Bool). cond b name []) read.is

name_on-none : (words : List (List ℕ)) → IsPrintableLine words → name_on (full_body words []) ≡ []
name_on-none words printable =
    let whole = full_body words [] in
    let front : before_comment whole ≡ whole = before_comment-full words [] printable in
    ap name_from (ap (λ (f : List ℕ). drop (length f) whole) front ∙ drop-length whole)

name_on-some : (words : List (List ℕ)) (b : ℕ) (rest : List ℕ) → IsPrintableLine words → IsRead (b ∷ rest) → name_on (full_body words (b ∷ rest)) ≡ b ∷ rest
name_on-some words b rest printable read =
    let whole = full_body words (b ∷ rest) in
    let front : List ℕ = line_body words ++ (32 ∷ 32 ∷ []) in
    let before : before_comment whole ≡ front = before_comment-full words (b ∷ rest) printable in
    let parts : whole ≡ front ++ (35 ∷ 32 ∷ b ∷ rest) = sym (append_assoc (line_body words) (32 ∷ 32 ∷ []) (35 ∷ 32 ∷ b ∷ rest)) in
    ap name_from (ap (λ (f : List ℕ). drop (length f) whole) before ∙ ap (drop (length front)) parts ∙ drop-append_seam front (35 ∷ 32 ∷ b ∷ rest))
    ∙ name_from-read (b ∷ rest) read

name_on-printed : (words : List (List ℕ)) (name : List ℕ) → IsPrintableLine words → IsCalled name → name_on (full_body words name) ≡ name
name_on-printed words [] printable is = name_on-none words printable
name_on-printed words (b ∷ rest) printable (inl none) = absurd cc
name_on-printed words (b ∷ rest) printable (inr read) = name_on-some words b rest printable read

-- ---- the names in a printed text

-- the first of these words begins the line of a workqueue
abbrev pub is_workqueue : List (List ℕ) → Bool
is_workqueue words = begins_with (codes "wq") words || begins_with (codes "norescuer") words

pub is_workqueue-keyword : (bare : Bool) (words : List (List ℕ)) → is_workqueue (keyword bare ∷ words) ≡ true
is_workqueue-keyword true words = refl
is_workqueue-keyword false words = refl

abbrev name_of_line : LineView → List ℕ
name_of_line line = name_on line.bytes

module _ {X : Type 0} (line : X → List ℕ) (words : X → List (List ℕ)) (name : X → List ℕ) (same : (x : X) → line x ≡ full_body (words x) (name x) ++ (10 ∷ []))
    (of_workqueue : (x : X) → is_workqueue (words x) ≡ true) (is_called : (x : X) → IsCalled (name x)) where
  abbrev IsFine : X → Type 0
  IsFine x = IsNamedLine (words x) (name x)

  names_from-printed : (n start : ℕ) (xs : List X) → AllByRecursion IsFine xs
      → map name_of_line (filter is_workqueue_line (lines_from n start (pieces (flat_map line xs)))) ≡ map name xs
  names_from-printed n start [] h = refl
  names_from-printed n start (x ∷ xs) h =
      let text = flat_map line xs in
      let behind = start + (length (full_body (words x) (name x)) + 1) in
      let one = printed_line n start (words x) (name x) in
      let rest = filter is_workqueue_line (lines_from (n + 1) behind (pieces text)) in
      let is_one : is_workqueue_line one ≡ true = ap is_workqueue (bytes_of-printed_line n start (words x) (name x) h.0) ∙ of_workqueue x in
      let named : name_of_line one ≡ name x =
      ap name_on (strip-above (full_body (words x) (name x)) (full-above (words x) (name x) h.0)) ∙ name_on-printed (words x) (name x) h.0.printable (is_called x) in
      ap (λ ps. map name_of_line (filter is_workqueue_line (lines_from n start ps))) (pieces-line line words name same x text h.0)
      ∙ ap (λ (b : Bool). map name_of_line (cond b (one ∷ rest) rest)) is_one
      ∙ ap (λ (called : List ℕ). called ∷ map name_of_line rest) named
      ∙ ap (λ (names : List (List ℕ)). name x ∷ names) (names_from-printed (n + 1) behind xs h.1)

  -- the names that are read from a printed text are the ones that were printed
  pub names_of-printed : (xs : List X) → AllByRecursion IsFine xs → names_of (flat_map line xs) ≡ map name xs
  names_of-printed xs h = names_from-printed 1 0 xs h
