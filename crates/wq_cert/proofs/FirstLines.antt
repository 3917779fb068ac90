-- Reading in order: the lines up to a fault settle it, whatever comes after them.
use Rattle.std.proofs.Common.{◌≡◌, ℕ, zero, suc, ◌<◌, Bool, true, false, cond, List, [], ◌∷◌, ◌++◌, Option, Some, None, Result, Ok, Err, refl, sym, ap, subst, ◌∙◌, arith, append_assoc}
use Rattle.std.specs.Prelude.{ok_or, IfErr}
use Rattle.wq_cert.specs.declared.fault.CertError.{CertError}
use Rattle.wq_cert.specs.declared.fault.CertError.TheVariants.{BadCertLine}
use Rattle.wq_cert.specs.FirstFaults.{line_of, NoLineIsAtFault}
use Rattle.wq_cert.specs.Lines.{CertLine}
use Rattle.wq_items.specs.Building.{and_then}
use Rattle.wq_cert.specs.Reading.{Read, and_read, next_line, next_lines, at_end}
use Rattle.wq_cert.proofs.SpelledLines.{same_ok}

-- ---- which line a fault is at

-- a value, or a fault at line n
abbrev pub IsAt : {V : Type 0} → ℕ → Result V CertError → Type 0
IsAt n r = IfErr r (λ fault. line_of fault ≡ n)

pub IsAt-Err : {V : Type 0} (n : ℕ) (r : Result V CertError) (fault : CertError) → IsAt n r → r ≡ Err fault → line_of fault ≡ n
IsAt-Err n r fault h e = subst (IsAt n) e h

pub IsAt-ok_or : {V : Type 0} (n : ℕ) (o : Option V) → IsAt n (ok_or o (BadCertLine n))
IsAt-ok_or n None = refl
IsAt-ok_or n (Some v) = tt

pub IsAt-and_then : {V W : Type 0} (n : ℕ) (next : V → Result W CertError) (r : Result V CertError) → IsAt n r → ((v : V) → IsAt n (next v)) → IsAt n (and_then next r)
IsAt-and_then n next (Ok v) h then = then v
IsAt-and_then n next (Err fault) h then = h

-- a test that may fail, and what comes after it
pub IsAt-cond : {V : Type 0} (n : ℕ) (b : Bool) (fault : CertError) (r : Result V CertError) → line_of fault ≡ n → IsAt n r → IsAt n (cond b (Err fault) r)
IsAt-cond n true fault r h then = h
IsAt-cond n false fault r h then = then

-- ---- what is settled

-- no line is in an empty list
pub nothing_stands : (before : List CertLine) (line : CertLine) (behind : List CertLine) → [] ≡ before ++ (line ∷ behind) → ⊥
nothing_stands [] line behind e = cc
nothing_stands (front ∷ before) line behind e = cc

-- a fault at one of the lines is settled by those up to it
pub record IsSettled {V : Type 0} (read : List CertLine → Result V CertError) (lines : List CertLine) (fault : CertError) : Type 0 where
  pub before : List CertLine
  pub line : CertLine
  pub behind : List CertLine
  pub lines_are : lines ≡ before ++ (line ∷ behind)
  pub number : line.no ≡ line_of fault
  pub settled : (others : List CertLine) → read (before ++ (line ∷ others)) ≡ Err fault

-- each fault at a line is settled
pub record Settles {V : Type 0} (read : List CertLine → Result V CertError) : Type 0 where
  pub refuses : (lines : List CertLine) (fault : CertError) → read lines ≡ Err fault → 0 < line_of fault → IsSettled read lines fault

-- a value is read from a prefix of the lines, whatever comes after it
pub record IsReadOfPrefix {V : Type 0} (read : List CertLine → Read V) (lines : List CertLine) (v : V) (rest : List CertLine) : Type 0 where
  pub front : List CertLine
  pub lines_are : lines ≡ front ++ rest
  pub is_read : (others : List CertLine) → read (front ++ others) ≡ Ok (v, others)

-- values are read in order, and each fault at a line is settled
pub record ReadsInOrder {V : Type 0} (read : List CertLine → Read V) : Type 0 where
  pub reads : (lines : List CertLine) (v : V) (rest : List CertLine) → read lines ≡ Ok (v, rest) → IsReadOfPrefix read lines v rest
  pub refuses : Settles read

-- what is read stays so if more lines follow
pub with_more : {V : Type 0} (read : List CertLine → Read V) (lines more : List CertLine) (v : V) (rest : List CertLine) → ReadsInOrder read → read lines ≡ Ok (v, rest) → read (lines ++ more) ≡ Ok (v, rest ++ more)
with_more read lines more v rest first e =
    let f = first.reads lines v rest e in
    ap (λ (ls : List CertLine). read (ls ++ more)) f.lines_are ∙ ap read (append_assoc f.front rest more) ∙ f.is_read (rest ++ more)

-- ---- a value and what follows it

abbrev pub read_and : {V W : Type 0} → (List CertLine → Read V) → (V → List CertLine → Result W CertError) → List CertLine → Result W CertError
read_and read next lines = and_read next (read lines)

module _ {V W : Type 0} (read : List CertLine → Read V) (next : V → List CertLine → Result W CertError) (first : ReadsInOrder read) where
  pub Settles-and_read : ((v : V) → Settles (next v)) → Settles (read_and read next)
  Settles-and_read then = record { refuses = λ lines fault e some. judged lines fault some (read lines) refl e }
    where
      judged : (lines : List CertLine) (fault : CertError) → 0 < line_of fault → (r : Read V) → read lines ≡ r → and_read next r ≡ Err fault → IsSettled (read_and read next) lines fault
      judged lines fault some (Err found) is e =
          let same : found ≡ fault = cc in
          let h = first.refuses.refuses lines fault (is ∙ ap (λ (x : CertError). Err x) same) some in
          record {
            before = h.before;
            line = h.line;
            behind = h.behind;
            lines_are = h.lines_are;
            number = h.number;
            settled = λ others. ap (and_read next) (h.settled others);
          }
      judged lines fault some (Ok p) is e =
          let f = first.reads lines p.0 p.1 is in
          let h = (then p.0).refuses p.1 fault e some in
          record {
            before = f.front ++ h.before;
            line = h.line;
            behind = h.behind;
            lines_are = f.lines_are ∙ ap (λ (ls : List CertLine). f.front ++ ls) h.lines_are ∙ sym (append_assoc f.front h.before (h.line ∷ h.behind));
            number = h.number;
            settled = λ others.
                ap (read_and read next) (append_assoc f.front h.before (h.line ∷ others))
                ∙ ap (and_read next) (f.is_read (h.before ++ (h.line ∷ others)))
                ∙ h.settled others;
          }

module _ {V W : Type 0} (read : List CertLine → Read V) (next : V → List CertLine → Read W) (first : ReadsInOrder read) (then : (v : V) → ReadsInOrder (next v)) where
  pub ReadsInOrder-and_read : ReadsInOrder (read_and read next)
  ReadsInOrder-and_read = record {
    reads = λ lines w rest e. judged lines w rest (read lines) refl e;
    refuses = Settles-and_read read next first (λ v. (then v).refuses);
  }
    where
      judged : (lines : List CertLine) (w : W) (rest : List CertLine) → (r : Read V) → read lines ≡ r → and_read next r ≡ Ok (w, rest) → IsReadOfPrefix (read_and read next) lines w rest
      judged lines w rest (Err found) is e = absurd cc
      judged lines w rest (Ok p) is e =
          let f = first.reads lines p.0 p.1 is in
          let h = (then p.0).reads p.1 w rest e in
          record {
            front = f.front ++ h.front;
            lines_are = f.lines_are ∙ ap (λ (ls : List CertLine). f.front ++ ls) h.lines_are ∙ sym (append_assoc f.front h.front rest);
            is_read = λ others.
                ap (read_and read next) (append_assoc f.front h.front others)
                ∙ ap (and_read next) (f.is_read (h.front ++ others))
                ∙ h.is_read others;
          }

-- ---- values from no line

-- a value and the lines after it
abbrev read_with : {V : Type 0} → V → List CertLine → Read V
read_with v lines = Ok (v, lines)

same_read : {V : Type 0} (v w : V) (lines rest : List CertLine) → read_with v lines ≡ Ok (w, rest) → (v ≡ w) × (lines ≡ rest)
same_read {V} v w lines rest e =
    let both : (v, lines) ≡ (w, rest) = same_ok {V = V × List CertLine} (v, lines) (w, rest) e in
    (ap (λ (p : V × List CertLine). p.0) both, ap (λ (p : V × List CertLine). p.1) both)

-- a value with the lines after it, or a fault at no line
abbrev pub of_no_line : {V : Type 0} → Result V CertError → List CertLine → Read V
of_no_line r lines = and_then (λ v. Ok (v, lines)) r

pub ReadsInOrder-of_no_line : {V : Type 0} (r : Result V CertError) → NoLineIsAtFault r → ReadsInOrder (of_no_line r)
ReadsInOrder-of_no_line {V} (Ok v) h = record {
  reads = λ lines w rest e.
      let same = same_read v w lines rest e in
      record { front = []; lines_are = same.1; is_read = λ others. ap (λ (u : V). read_with u others) same.0 };
  refuses = record { refuses = λ lines fault e some. absurd cc };
}
ReadsInOrder-of_no_line (Err found) h = record {
  reads = λ lines w rest e. absurd cc;
  refuses = record {
    refuses = λ lines fault e some.
        let same : found ≡ fault = cc in
        let none : line_of fault ≡ 0 = ap line_of (sym same) ∙ h in
        absurd (omega (arith, some, none));
  };
}

-- ---- lines

module _ {V : Type 0} (read : CertLine → Result V CertError) (at : (line : CertLine) → IsAt line.no (read line)) where
  pub ReadsInOrder-next_line : ReadsInOrder (next_line read)
  ReadsInOrder-next_line = record { reads = taken; refuses = record { refuses = refused } }
    where
      of_one : (line : CertLine) (lines : List CertLine) (w : V) (rest : List CertLine) (r : Result V CertError) → read line ≡ r → of_no_line r lines ≡ Ok (w, rest) → IsReadOfPrefix (next_line read) (line ∷ lines) w rest
      of_one line lines w rest (Err found) is e = absurd cc
      of_one line lines w rest (Ok v) is e =
          let same = same_read v w lines rest e in
          record {
            front = line ∷ [];
            lines_are = ap (λ (ls : List CertLine). line ∷ ls) same.1;
            is_read = λ others. ap (λ (r : Result V CertError). of_no_line r others) is ∙ ap (λ (u : V). read_with u others) same.0;
          }

      taken : (lines : List CertLine) (w : V) (rest : List CertLine) → next_line read lines ≡ Ok (w, rest) → IsReadOfPrefix (next_line read) lines w rest
      taken [] w rest e = absurd cc
      taken (line ∷ lines) w rest e = of_one line lines w rest (read line) refl e

      at_one : (line : CertLine) (lines : List CertLine) (fault : CertError) (r : Result V CertError) → read line ≡ r → of_no_line r lines ≡ Err fault → IsSettled (next_line read) (line ∷ lines) fault
      at_one line lines fault (Ok v) is e = absurd cc
      at_one line lines fault (Err found) is e =
          let same : found ≡ fault = cc in
          let refused : read line ≡ Err fault = is ∙ ap (λ (x : CertError). Err x) same in
          record {
            before = [];
            line = line;
            behind = lines;
            lines_are = refl;
            number = sym (IsAt-Err line.no (read line) fault (at line) refused);
            settled = λ others. ap (λ (r : Result V CertError). of_no_line r others) refused;
          }

      refused : (lines : List CertLine) (fault : CertError) → next_line read lines ≡ Err fault → 0 < line_of fault → IsSettled (next_line read) lines fault
      refused [] fault e some =
          let same : BadCertLine 0 ≡ fault = cc in
          let none : line_of fault ≡ 0 = ap line_of (sym same) in
          absurd (omega (arith, some, none))
      refused (line ∷ lines) fault e some = at_one line lines fault (read line) refl e

  pub ReadsInOrder-next_lines : (n : ℕ) → ReadsInOrder (next_lines read n)
  ReadsInOrder-next_lines zero = ReadsInOrder-of_no_line {V = List V} (Ok []) tt
  ReadsInOrder-next_lines (suc n) =
      ReadsInOrder-and_read (next_line read) (λ v rest. and_read (λ vs behind. Ok (v ∷ vs, behind)) (next_lines read n rest)) ReadsInOrder-next_line
      (λ v. ReadsInOrder-and_read (next_lines read n) (λ vs behind. Ok (v ∷ vs, behind)) (ReadsInOrder-next_lines n) (λ vs. ReadsInOrder-of_no_line {V = List V} (Ok (v ∷ vs)) tt))

-- ---- the end

pub Settles-at_end : {V : Type 0} (v : V) → Settles (at_end v)
Settles-at_end {V} v = record { refuses = refused }
  where
    refused : (lines : List CertLine) (fault : CertError) → at_end v lines ≡ Err fault → 0 < line_of fault → IsSettled (at_end v) lines fault
    refused [] fault e some = absurd cc
    refused (line ∷ lines) fault e some =
        let same : BadCertLine line.no ≡ fault = cc in
        record {
          before = [];
          line = line;
          behind = lines;
          lines_are = refl;
          number = ap line_of same;
          settled = λ others. ap (λ (x : CertError). Err x) same;
        }

-- what is made of a value has the faults of the value
pub Settles-and_then : {V W : Type 0} (read : List CertLine → Result V CertError) (made : V → W) → Settles read → Settles (λ lines. and_then (λ v. Ok (made v)) (read lines))
Settles-and_then {V} {W} read made of = record { refuses = λ lines fault e some. judged lines fault some (read lines) refl e }
  where
    judged : (lines : List CertLine) (fault : CertError) → 0 < line_of fault → (r : Result V CertError) → read lines ≡ r → and_then (λ v. Ok (made v)) r ≡ Err fault → IsSettled (λ ls. and_then (λ v. Ok (made v)) (read ls)) lines fault
    judged lines fault some (Ok v) is e = absurd cc
    judged lines fault some (Err found) is e =
        let same : found ≡ fault = cc in
        let h = of.refuses lines fault (is ∙ ap (λ (x : CertError). Err x) same) some in
        record {
          before = h.before;
          line = h.line;
          behind = h.behind;
          lines_are = h.lines_are;
          number = h.number;
          settled = λ others. ap (and_then (λ v. Ok (made v))) (h.settled others);
        }
