-- Which line of a text is the first at fault.
use Rattle.std.proofs.Common.{◌≡◌, ℕ, zero, suc, ◌+◌, ◌<◌, ◌≤◌, Bool, true, false, not, cond, eqb, List, [], ◌∷◌, ◌++◌, length, map, take, drop, Option, None, Result, Ok, Err, refl, sym, ap, ap₂, subst, ◌∙◌, arith}
use Rattle.std.proofs.Math.Nat.{min-le_left}
use Rattle.std.proofs.lemmas.List.{length-map, length-take, take-append-drop, take-append-le}
use Rattle.wq_text.specs.declared.text.TextError.{TextError}
use Rattle.wq_text.proofs.LimitLaws.{limit_fault-fits}
use Rattle.wq_text.specs.Comments.{before_comment}
use Rattle.wq_text.specs.Limits.{limit_fault}
use Rattle.wq_text.specs.Lines.{Piece, LineView, taken, line_bytes, lines_from, lines_of, pieces}
use Rattle.wq_text.specs.Words.{WordView, is_blank, begins_word, longer, words_from, words_of}
use Rattle.wq_cert.proofs.FirstLines.{Settles, nothing_stands}
use Rattle.wq_cert.specs.declared.fault.CertError.{CertError}
use Rattle.wq_cert.specs.FirstFaults.{line_of, line_texts, first_lines, NoLineIsAtFault, IsOfTheFirstLine}
use Rattle.wq_cert.specs.Lines.{CertLine, bytes_of, holds_word, filled, cert_line, cert_lines}
use Rattle.wq_cert.specs.Spelled.{KeepsLimits}
use Rattle.wq_cert.specs.Texts.{max_certificate, max_certificate_line, unless_too_long, text_reading}

-- ---- the words of a line are in its bytes, wherever it begins

-- these words with one more byte before the first
abbrev one_longer : ℕ → List (List ℕ) → List (List ℕ)
one_longer b [] = (b ∷ []) ∷ []
one_longer b (w ∷ ws) = (b ∷ w) ∷ ws

bytes_of-longer : (at b : ℕ) (ws : List WordView) → bytes_of (longer at b ws) ≡ one_longer b (bytes_of ws)
bytes_of-longer at b [] = refl
bytes_of-longer at b (w ∷ ws) = refl

abbrev more_words : ℕ → ℕ → List WordView → Bool → Bool → List WordView
more_words at b others blank begins = cond blank others (cond begins (longer at b others) (record { start = at; bytes = b ∷ [] } ∷ others))

bytes_of-more : (at start b : ℕ) (ws vs : List WordView) (blank begins : Bool) → bytes_of ws ≡ bytes_of vs → bytes_of (more_words at b ws blank begins) ≡ bytes_of (more_words start b vs blank begins)
bytes_of-more at start b ws vs true begins e = e
bytes_of-more at start b ws vs false true e = bytes_of-longer at b ws ∙ ap (one_longer b) e ∙ sym (bytes_of-longer start b vs)
bytes_of-more at start b ws vs false false e = ap (λ (xs : List (List ℕ)). (b ∷ []) ∷ xs) e

bytes_of-words_from : (bs : List ℕ) (at start : ℕ) → bytes_of (words_from at bs) ≡ bytes_of (words_from start bs)
bytes_of-words_from [] at start = refl
bytes_of-words_from (b ∷ bs) at start =
    bytes_of-more at start b (words_from (at + 1) bs) (words_from (start + 1) bs) (is_blank b) (begins_word bs) (bytes_of-words_from bs (at + 1) (start + 1))

-- ---- the lines of a certificate, from the bytes of each line

-- the words in the bytes of a line
abbrev words_in_bytes : List ℕ → List (List ℕ)
words_in_bytes bytes = bytes_of (words_from 0 (before_comment bytes))

-- these words as line n before the others, if there is a word
abbrev with_line : ℕ → List (List ℕ) → List CertLine → List CertLine
with_line n words others = cond (not (eqb (length words) 0)) (record { no = n; words = words } ∷ others) others

-- the lines of a certificate, from line n on
abbrev numbered : ℕ → List (List ℕ) → List CertLine
numbered n [] = []
numbered n (bytes ∷ more) = with_line n (words_in_bytes bytes) (numbered (n + 1) more)

abbrev line_bytes_of : List LineView → List (List ℕ)
line_bytes_of lines = map (λ (line : LineView). line.bytes) lines

kept_line : (line : LineView) (lines : List LineView) (b : Bool) → map cert_line (cond b (line ∷ lines) lines) ≡ cond b (cert_line line ∷ map cert_line lines) (map cert_line lines)
kept_line line lines true = refl
kept_line line lines false = refl

cert_lines-line : (line : LineView) (lines : List LineView) → cert_lines (line ∷ lines) ≡ with_line line.no (bytes_of (words_of line)) (cert_lines lines)
cert_lines-line line lines =
    let counted : length (words_of line) ≡ length (bytes_of (words_of line)) = sym (length-map (words_of line) (λ (w : WordView). w.bytes)) in
    kept_line line (filled lines) (holds_word line)
    ∙ ap (λ (n : ℕ). cond (not (eqb n 0)) (cert_line line ∷ cert_lines lines) (cert_lines lines)) counted

cert_lines-numbered : (ps : List Piece) (n start : ℕ) → cert_lines (lines_from n start ps) ≡ numbered n (line_bytes_of (lines_from n start ps))
cert_lines-numbered [] n start = refl
cert_lines-numbered (piece ∷ ps) n start =
    cert_lines-line (record { no = n; start = start; bytes = line_bytes piece }) (lines_from (n + 1) (start + taken piece) ps)
    ∙ ap₂ (with_line n) (bytes_of-words_from (before_comment (line_bytes piece)) start 0) (cert_lines-numbered ps (n + 1) (start + taken piece))

-- ---- where a line is

-- line k + 1 of these has the number, and the lines up to it are kept wherever others have the same bytes
record StandsAt (n : ℕ) (texts : List (List ℕ)) (before : List CertLine) (line : CertLine) : Type 0 where
  place : ℕ
  within : place < length texts
  number : line.no ≡ n + place
  kept : (others : List (List ℕ)) → take (suc place) others ≡ take (suc place) texts → (rest : List CertLine) × (numbered n others ≡ before ++ (line ∷ rest))

-- the same for what comes after a line of bytes
numbered-same : (n : ℕ) (bytes : List ℕ) (texts : List (List ℕ)) (k : ℕ) (before : List CertLine) (line : CertLine)
    → (behind : (others : List (List ℕ)) → take k others ≡ take k texts → (rest : List CertLine) × (with_line n (words_in_bytes bytes) (numbered (n + 1) others) ≡ before ++ (line ∷ rest)))
    → (others : List (List ℕ)) → take (suc k) others ≡ take (suc k) (bytes ∷ texts) → (rest : List CertLine) × (numbered n others ≡ before ++ (line ∷ rest))
numbered-same n bytes texts k before line behind [] e = absurd cc
numbered-same n bytes texts k before line behind (found ∷ others) e =
    let first : found ≡ bytes = cc in
    let more : take k others ≡ take k texts = cc in
    let h = behind others more in
    (h.0, ap (λ (bs : List ℕ). with_line n (words_in_bytes bs) (numbered (n + 1) others)) first ∙ h.1)

-- a line without words comes first
behind_empty : (n : ℕ) (bytes : List ℕ) (texts : List (List ℕ)) (before : List CertLine) (line : CertLine) → not (eqb (length (words_in_bytes bytes)) 0) ≡ false → StandsAt (n + 1) texts before line → StandsAt n (bytes ∷ texts) before line
behind_empty n bytes texts before line empty h = record {
  place = suc h.place;
  within = omega (arith, h.within);
  number = omega (arith, h.number);
  kept = numbered-same n bytes texts (suc h.place) before line
      (λ others same.
      let k = h.kept others same in
      (k.0, ap (λ (b : Bool). cond b (record { no = n; words = words_in_bytes bytes } ∷ numbered (n + 1) others) (numbered (n + 1) others)) empty ∙ k.1));
}

-- a line with words comes first
behind_line : (n : ℕ) (bytes : List ℕ) (texts : List (List ℕ)) (first : CertLine) (before : List CertLine) (line : CertLine) → not (eqb (length (words_in_bytes bytes)) 0) ≡ true → record { no = n; words = words_in_bytes bytes } ≡ first
    → StandsAt (n + 1) texts before line → StandsAt n (bytes ∷ texts) (first ∷ before) line
behind_line n bytes texts first before line held is h = record {
  place = suc h.place;
  within = omega (arith, h.within);
  number = omega (arith, h.number);
  kept = numbered-same n bytes texts (suc h.place) (first ∷ before) line
      (λ others same.
      let k = h.kept others same in (
        k.0,
        ap (λ (b : Bool). cond b (record { no = n; words = words_in_bytes bytes } ∷ numbered (n + 1) others) (numbered (n + 1) others)) held
            ∙ ap₂ (λ (x : CertLine) (xs : List CertLine). x ∷ xs) is k.1,
      ));
}

-- it is the line itself
at_line : (n : ℕ) (bytes : List ℕ) (texts : List (List ℕ)) (line : CertLine) → not (eqb (length (words_in_bytes bytes)) 0) ≡ true → record { no = n; words = words_in_bytes bytes } ≡ line → StandsAt n (bytes ∷ texts) [] line
at_line n bytes texts line held is =
    let number : n ≡ line.no = ap (λ (x : CertLine). x.no) is in
    record {
      place = zero;
      within = omega arith;
      number = omega (arith, number);
      kept = numbered-same n bytes texts zero [] line
          (λ others same. (
            numbered (n + 1) others,
            ap (λ (b : Bool). cond b (record { no = n; words = words_in_bytes bytes } ∷ numbered (n + 1) others) (numbered (n + 1) others)) held
                ∙ ap (λ (x : CertLine). x ∷ numbered (n + 1) others) is,
          ));
    }

placed : (n : ℕ) (bytes : List ℕ) (texts : List (List ℕ)) (line : CertLine) (behind : List CertLine)
    → ((before : List CertLine) → numbered (n + 1) texts ≡ before ++ (line ∷ behind) → StandsAt (n + 1) texts before line)
    → (held : Bool) → not (eqb (length (words_in_bytes bytes)) 0) ≡ held → (before : List CertLine)
    → cond held (record { no = n; words = words_in_bytes bytes } ∷ numbered (n + 1) texts) (numbered (n + 1) texts) ≡ before ++ (line ∷ behind) → StandsAt n (bytes ∷ texts) before line
placed n bytes texts line behind more false is before e = behind_empty n bytes texts before line is (more before e)
placed n bytes texts line behind more true is [] e = at_line n bytes texts line is cc
placed n bytes texts line behind more true is (first ∷ before) e =
    let said : record { no = n; words = words_in_bytes bytes } ≡ first = cc in
    let others : numbered (n + 1) texts ≡ before ++ (line ∷ behind) = cc in
    behind_line n bytes texts first before line is said (more before others)

StandsAt-numbered : (texts : List (List ℕ)) (n : ℕ) (before : List CertLine) (line : CertLine) (behind : List CertLine) → numbered n texts ≡ before ++ (line ∷ behind) → StandsAt n texts before line
StandsAt-numbered [] n before line behind e = absurd (nothing_stands before line behind e)
StandsAt-numbered (bytes ∷ texts) n before line behind e =
    placed n bytes texts line behind (λ front h. StandsAt-numbered texts (n + 1) front line behind h) (not (eqb (length (words_in_bytes bytes)) 0)) refl before e

-- ---- texts

abbrev refused_by : {V : Type 0} → CertError → Result V CertError
refused_by fault = Err fault

same_fault : {V : Type 0} (found fault : CertError) → refused_by {V = V} found ≡ Err fault → found ≡ fault
same_fault found fault e = cc

module _ {V : Type 0} (read : List CertLine → Result V CertError) where
  text_reading-kept : (text : List ℕ) → KeepsLimits text → text_reading read text ≡ read (numbered 1 (line_texts text))
  text_reading-kept text keeps =
      let within : limit_fault max_certificate max_certificate_line text ≡ None = limit_fault-fits max_certificate max_certificate_line text (keeps.text_fits, keeps.lines_fit) in
      ap (λ (o : Option TextError). unless_too_long o (read (cert_lines (lines_of text)))) within
      ∙ ap read (cert_lines-numbered (pieces text) 1 0)

  -- the line of a fault is one of the text, and the lines up to it settle the fault
  record IsSettledIn (text : List ℕ) (fault : CertError) : Type 0 where
    stands : line_of fault ≤ length (line_texts text)
    settled : (other : List ℕ) → KeepsLimits other → first_lines (line_of fault) other ≡ first_lines (line_of fault) text → text_reading read other ≡ Err fault

  module _ (settles : Settles read) where
    IsSettledIn-text : (text : List ℕ) (fault : CertError) → KeepsLimits text → text_reading read text ≡ Err fault → 0 < line_of fault → IsSettledIn text fault
    IsSettledIn-text text fault keeps e some =
        let h = settles.refuses (numbered 1 (line_texts text)) fault (sym (text_reading-kept text keeps) ∙ e) some in
        let s = StandsAt-numbered (line_texts text) 1 h.before h.line h.behind h.lines_are in
        let place : suc s.place ≡ line_of fault = omega (arith, s.number, h.number) in
        record {
          stands = omega (arith, s.within, place);
          settled = λ other kept same.
              let lines = s.kept (line_texts other) (subst (λ (n : ℕ). take n (line_texts other) ≡ take n (line_texts text)) (sym place) same) in
              text_reading-kept other kept ∙ ap read lines.1 ∙ h.settled lines.0;
        }

    -- a fault in a prefix of a text is one of the text
    first_in : (text front : List ℕ) (n : ℕ) (found : CertError) → KeepsLimits text → KeepsLimits front → line_texts front ≡ first_lines n text → text_reading read front ≡ Err found → 0 < line_of found
        → (line_of found ≤ n) × (text_reading read text ≡ Err found)
    first_in text front n found keeps kept front_is e some =
        let s = IsSettledIn-text front found kept e some in
        let short : length (line_texts front) ≤ n = subst (λ (l : ℕ). l ≤ n) (sym (ap (λ (ts : List (List ℕ)). length ts) front_is ∙ length-take n (line_texts text))) (min-le_left n (length (line_texts text))) in
        let whole : line_texts text ≡ line_texts front ++ drop n (line_texts text) =
        sym (take-append-drop n (line_texts text)) ∙ ap (λ (ts : List (List ℕ)). ts ++ drop n (line_texts text)) (sym front_is) in
        let same : first_lines (line_of found) text ≡ first_lines (line_of found) front =
        ap (take (line_of found)) whole ∙ take-append-le (line_of found) (line_texts front) (drop n (line_texts text)) s.stands in
        (omega (arith, s.stands, short), s.settled text keeps same)

    none_at_fault : (text front : List ℕ) (n : ℕ) (fault : CertError) → KeepsLimits text → text_reading read text ≡ Err fault → KeepsLimits front → n < line_of fault → line_texts front ≡ first_lines n text → NoLineIsAtFault (text_reading read front)
    none_at_fault text front n fault keeps e kept below front_is = judged (text_reading read front) refl
      where
        none : (found : CertError) → text_reading read front ≡ Err found → (m : ℕ) → line_of found ≡ m → m ≡ 0
        none found is zero at = refl
        none found is (suc m) at =
            let some : 0 < line_of found = omega (arith, at) in
            let both = first_in text front n found keeps kept front_is is some in
            let same : found ≡ fault = same_fault {V = V} found fault (sym both.1 ∙ e) in
            let lines : line_of found ≡ line_of fault = ap line_of same in
            absurd (omega (arith, both.0, below, lines))

        judged : (r : Result V CertError) → text_reading read front ≡ r → NoLineIsAtFault r
        judged (Ok v) is = tt
        judged (Err found) is = none found is (line_of found) refl

    pub IsOfTheFirstLine-text_reading : (text : List ℕ) (fault : CertError) → KeepsLimits text → text_reading read text ≡ Err fault → 0 < line_of fault → IsOfTheFirstLine (text_reading read) text fault
    IsOfTheFirstLine-text_reading text fault keeps e some =
        let s = IsSettledIn-text text fault keeps e some in
        record {
          stands = s.stands;
          settled = s.settled;
          none_before = λ front n kept below front_is. none_at_fault text front n fault keeps e kept below front_is;
        }
