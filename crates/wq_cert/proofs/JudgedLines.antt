-- The line after others: only it is judged, and if it is in order nothing is at fault yet.
use Rattle.std.proofs.Common.{◌≡◌, ℕ, zero, suc, ◌<◌, List, [], ◌∷◌, ◌++◌, length, map, Result, Ok, Err, refl, sym, ap, subst, ◌∙◌, arith}
use Rattle.std.specs.List.{AllByRecursion}
use Rattle.wq_cert.specs.declared.fault.CertError.{CertError}
use Rattle.wq_cert.specs.FirstFaults.{line_of, NoLineIsAtFault}
use Rattle.wq_cert.specs.Lines.{CertLine}
use Rattle.wq_items.specs.Building.{and_then}
use Rattle.wq_cert.specs.Reading.{Read, and_read, next_line, next_lines}
use Rattle.wq_cert.specs.Spelled.{words_of_lines}
use Rattle.wq_cert.proofs.FirstLines.{nothing_stands, IsAt, Settles, ReadsInOrder, with_more, read_and, of_no_line, ReadsInOrder-and_read, ReadsInOrder-of_no_line, ReadsInOrder-next_line, ReadsInOrder-next_lines}
use Rattle.wq_cert.proofs.SpelledLines.{IsReadBy}

-- ---- where no line is left

nothing_left : (front rest : List CertLine) → [] ≡ front ++ rest → rest ≡ []
nothing_left [] rest e = sym e
nothing_left (line ∷ front) rest e = absurd cc

of_none : {V : Type 0} (read : List CertLine → Result V CertError) (settles : Settles read) (fault : CertError) → read [] ≡ Err fault → (n : ℕ) → line_of fault ≡ n → n ≡ 0
of_none read settles fault is zero at = refl
of_none read settles fault is (suc n) at =
    let h = settles.refuses [] fault is (omega (arith, at)) in
    absurd (nothing_stands h.before h.line h.behind h.lines_are)

NoLineIsAtFault-nothing : {V : Type 0} (read : List CertLine → Result V CertError) → Settles read → NoLineIsAtFault (read [])
NoLineIsAtFault-nothing {V} read settles = decided (read []) refl
  where
    decided : (r : Result V CertError) → read [] ≡ r → NoLineIsAtFault r
    decided (Ok v) is = tt
    decided (Err fault) is = of_none read settles fault is (line_of fault) refl

-- all lines are read, or the fault is at no line
abbrev pub IsAllRead : {V : Type 0} → Read V → Type 0
IsAllRead (Ok p) = p.1 ≡ []
IsAllRead (Err fault) = line_of fault ≡ 0

IsAllRead-nothing : {V : Type 0} (read : List CertLine → Read V) → ReadsInOrder read → IsAllRead (read [])
IsAllRead-nothing {V} read order = decided (read []) refl
  where
    decided : (r : Read V) → read [] ≡ r → IsAllRead r
    decided (Ok p) is =
        let f = order.reads [] p.0 p.1 is in
        nothing_left f.front p.1 f.lines_are
    decided (Err fault) is = of_none read order.refuses fault is (line_of fault) refl

-- ---- one line, which breaks a row or keeps all

module _ (line : CertLine) (Breaks : CertError → Type 0) (Keeps : Type 0) where
  -- after these lines this one is judged, whatever comes after it
  pub record Judges {V : Type 0} (read : List CertLine → Result V CertError) (before : List CertLine) : Type 0 where
    pub refused : (fault : CertError) (behind : List CertLine) → Breaks fault → read (before ++ (line ∷ behind)) ≡ Err fault
    pub kept : Keeps → NoLineIsAtFault (read (before ++ (line ∷ [])))

  -- the same, and a line in order is the last that is read
  pub record JudgesNext {V : Type 0} (read : List CertLine → Read V) (before : List CertLine) : Type 0 where
    pub refused : (fault : CertError) (behind : List CertLine) → Breaks fault → read (before ++ (line ∷ behind)) ≡ Err fault
    pub kept : Keeps → IsAllRead (read (before ++ (line ∷ [])))

  -- the line is read in this way
  pub record IsJudged {V : Type 0} (read : CertLine → Result V CertError) : Type 0 where
    pub refused : (fault : CertError) → Breaks fault → read line ≡ Err fault
    pub kept : Keeps → (v : V) × (read line ≡ Ok v)

  pub JudgesNext-next_line : {V : Type 0} (read : CertLine → Result V CertError) → IsJudged read → JudgesNext (next_line read) []
  JudgesNext-next_line {V} read judged = record {
    refused = λ fault behind breaks. ap (λ (r : Result V CertError). of_no_line r behind) (judged.refused fault breaks);
    kept = λ keeps.
        let found = judged.kept keeps in
        subst (λ (r : Result V CertError). IsAllRead (of_no_line r [])) (sym found.1) refl;
  }

  module _ {V W : Type 0} (read : List CertLine → Read V) (before : List CertLine) where
    -- the line is judged first, and what follows has nothing to read
    pub Judges-first : (next : V → List CertLine → Result W CertError) → JudgesNext read before → ((v : V) → Settles (next v)) → Judges (read_and read next) before
    Judges-first next first then = record {
      refused = λ fault behind breaks. ap (and_read next) (first.refused fault behind breaks);
      kept = λ keeps. followed (read (before ++ (line ∷ []))) (first.kept keeps);
    }
      where
        followed : (r : Read V) → IsAllRead r → NoLineIsAtFault (and_read next r)
        followed (Ok p) h = subst (λ (rest : List CertLine). NoLineIsAtFault (next p.0 rest)) (sym h) (NoLineIsAtFault-nothing (next p.0) (then p.0))
        followed (Err fault) h = h

    pub JudgesNext-first : (next : V → List CertLine → Read W) → JudgesNext read before → ((v : V) → ReadsInOrder (next v)) → JudgesNext (read_and read next) before
    JudgesNext-first next first then = record {
      refused = λ fault behind breaks. ap (and_read next) (first.refused fault behind breaks);
      kept = λ keeps. followed (read (before ++ (line ∷ []))) (first.kept keeps);
    }
      where
        followed : (r : Read V) → IsAllRead r → IsAllRead (and_read next r)
        followed (Ok p) h = subst (λ (rest : List CertLine). IsAllRead (next p.0 rest)) (sym h) (IsAllRead-nothing (next p.0) (then p.0))
        followed (Err fault) h = h

    module _ (v : V) (rest : List CertLine) (order : ReadsInOrder read) (is : read before ≡ Ok (v, rest)) where
      -- a value comes before it, and what follows judges the line
      pub Judges-behind : (next : V → List CertLine → Result W CertError) → Judges (next v) rest → Judges (read_and read next) before
      Judges-behind next then = record {
        refused = λ fault behind breaks. ap (and_read next) (with_more read before (line ∷ behind) v rest order is) ∙ then.refused fault behind breaks;
        kept = λ keeps. subst (λ (r : Read V). NoLineIsAtFault (and_read next r)) (sym (with_more read before (line ∷ []) v rest order is)) (then.kept keeps);
      }

      pub JudgesNext-behind : (next : V → List CertLine → Read W) → JudgesNext (next v) rest → JudgesNext (read_and read next) before
      JudgesNext-behind next then = record {
        refused = λ fault behind breaks. ap (and_read next) (with_more read before (line ∷ behind) v rest order is) ∙ then.refused fault behind breaks;
        kept = λ keeps. subst (λ (r : Read V). IsAllRead (and_read next r)) (sym (with_more read before (line ∷ []) v rest order is)) (then.kept keeps);
      }

  pub Judges-and_then : {V W : Type 0} (read : List CertLine → Result V CertError) (made : V → W) (before : List CertLine) → Judges read before → Judges (λ lines. and_then (λ v. Ok (made v)) (read lines)) before
  Judges-and_then {V} {W} read made before judged = record {
    refused = λ fault behind breaks. ap (and_then (λ v. Ok (made v))) (judged.refused fault behind breaks);
    kept = λ keeps. made_of (read (before ++ (line ∷ []))) (judged.kept keeps);
  }
    where
      made_of : (r : Result V CertError) → NoLineIsAtFault r → NoLineIsAtFault (and_then {W = W} (λ v. Ok (made v)) r)
      made_of (Ok v) h = tt
      made_of (Err fault) h = h

  -- there are this many lines
  module _ {V : Type 0} (read : CertLine → Result V CertError) (at : (other : CertLine) → IsAt other.no (read other)) (judged : IsJudged read) where
    abbrev joined : V → List V → List CertLine → Read (List V)
    joined v vs behind = Ok (v ∷ vs, behind)

    abbrev more_lines : ℕ → V → List CertLine → Read (List V)
    more_lines n v rest = and_read (joined v) (next_lines read n rest)

    ReadsInOrder-joined : (v : V) (vs : List V) → ReadsInOrder (joined v vs)
    ReadsInOrder-joined v vs = ReadsInOrder-of_no_line {V = List V} (Ok (v ∷ vs)) tt

    -- it is the first of them
    pub JudgesNext-first_line : (n : ℕ) → JudgesNext (next_lines read (suc n)) []
    JudgesNext-first_line n =
        JudgesNext-first (next_line read) [] (more_lines n) (JudgesNext-next_line read judged)
        (λ v. ReadsInOrder-and_read (next_lines read n) (joined v) (ReadsInOrder-next_lines read at n) (ReadsInOrder-joined v))

    -- some of them come before it
    module _ (show : V → List (List ℕ)) (P : V → Type 0) (reads : IsReadBy read show P) where
      pub JudgesNext-next_lines : (vs : List V) (n : ℕ) (before : List CertLine) → length vs < n → words_of_lines before ≡ map show vs → AllByRecursion P vs → JudgesNext (next_lines read n) before
      JudgesNext-next_lines vs zero before fewer words hold = absurd (omega (arith, fewer))
      JudgesNext-next_lines [] (suc n) [] fewer words hold = JudgesNext-first_line n
      JudgesNext-next_lines [] (suc n) (front ∷ before) fewer words hold = absurd cc
      JudgesNext-next_lines (v ∷ vs) (suc n) [] fewer words hold = absurd cc
      JudgesNext-next_lines (v ∷ vs) (suc n) (front ∷ before) fewer words hold =
          let first : front.words ≡ show v = cc in
          let others : words_of_lines before ≡ map show vs = cc in
          JudgesNext-behind (next_line read) (front ∷ before) v before (ReadsInOrder-next_line read at) (ap (λ (r : Result V CertError). of_no_line r before) (reads.said front v first hold.0)) (more_lines n)
          (JudgesNext-first (next_lines read n) before (joined v) (JudgesNext-next_lines vs n before (omega (arith, fewer)) others hold.1) (ReadsInOrder-joined v))
