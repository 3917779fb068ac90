-- Reading line by line: what has been read so far, and that a fault of a part is one of the whole.
use Rattle.std.proofs.Common.{◌≡◌, ℕ, suc, ◌+◌, ◌-◌, ◌<◌, List, [], ◌∷◌, ◌++◌, map, Result, Ok, Err, refl, sym, ap}
use Rattle.std.proofs.Common.{subst, subst₂, ◌∙◌, arith, append_assoc}
use Rattle.wq_text.specs.Lines.{LineView}
use Rattle.wq_cert.specs.declared.fault.CertError.{CertError}
use Rattle.wq_cert.specs.declared.fault.CertError.TheVariants.{BadCertLine, NotAllItems, GroupSplit, NumberOutOfRange}
use Rattle.wq_cert.specs.declared.fault.CertError.TheVariants.{OutOfMemory}
use Rattle.wq_cert.specs.Lines.{CertLine, cert_line}
use Rattle.wq_items.specs.Building.{and_then}
use Rattle.wq_cert.specs.Reading.{Read, and_read, next_lines}
use Rattle.wq_cert.specs.Texts.{IsCertFaultOf}

-- ---- faults

pub IsCertFaultOf-err : {V : Type 0} (e : CertError) (r : Result V CertError) → r ≡ Err e → IsCertFaultOf e r
IsCertFaultOf-err (BadCertLine line) r is = is
IsCertFaultOf-err (NotAllItems line) r is = is
IsCertFaultOf-err (GroupSplit line) r is = is
IsCertFaultOf-err (NumberOutOfRange line) r is = is
IsCertFaultOf-err OutOfMemory r is = tt

-- a fault of a part is one of what is made of the part
pub IsCertFaultOf-then : {V W : Type 0} (next : V → Result W CertError) (e : CertError) (r : Result V CertError)
    (s : Result W CertError) → s ≡ and_then next r → IsCertFaultOf e r → IsCertFaultOf e s
IsCertFaultOf-then next (BadCertLine line) r s made h = made ∙ ap (λ q. and_then next q) h
IsCertFaultOf-then next (NotAllItems line) r s made h = made ∙ ap (λ q. and_then next q) h
IsCertFaultOf-then next (GroupSplit line) r s made h = made ∙ ap (λ q. and_then next q) h
IsCertFaultOf-then next (NumberOutOfRange line) r s made h = made ∙ ap (λ q. and_then next q) h
IsCertFaultOf-then next OutOfMemory r s made h = tt

-- ---- a line for each value

-- of this many values these are read, and this many are left, from the lines of `rest` on
pub record GoesOn {V : Type 0} (read : CertLine → Result V CertError) (n : ℕ) (lines : List CertLine) (vs : List V)
    (left : ℕ) (rest : List CertLine) : Type 0 where
  pub goes_on : next_lines read n lines ≡ and_read (λ us behind. Ok (vs ++ us, behind)) (next_lines read left rest)

-- these values before others that are read
in_front : {V : Type 0} → List V → List V × List CertLine → Result (List V × List CertLine) CertError
in_front vs p = Ok (vs ++ p.0, p.1)

front_is : {V : Type 0} (us vs : List V) (behind : List CertLine) → us ≡ vs
    → in_front [] (us, behind) ≡ in_front [] (vs, behind)
front_is {V} us vs behind e = ap (λ (ws : List V). in_front [] (ws, behind)) e

after_one : {V : Type 0} (vs : List V) (v : V) (r : Read (List V))
    → and_read {W = List V × List CertLine} (λ us behind. Ok (vs ++ us, behind))
    (and_read {W = List V × List CertLine} (λ us behind. Ok (v ∷ us, behind)) r)
    ≡ and_read {W = List V × List CertLine} (λ us behind. Ok ((vs ++ (v ∷ [])) ++ us, behind)) r
unfolding in_front
after_one vs v (Ok p) = front_is (vs ++ (v ∷ p.0)) ((vs ++ (v ∷ [])) ++ p.0) p.1 (sym (append_assoc vs (v ∷ []) p.0))
after_one vs v (Err e) = refl

-- what the next of the values is read from
next_of : {V : Type 0} (read : CertLine → Result V CertError) (m : ℕ) (rest : List CertLine) (r : Result V CertError)
    → Read (List V)
next_of {V} read m rest r = and_read (λ v behind. and_read (λ us ends. Ok (v ∷ us, ends)) (next_lines read m behind))
    (and_then (λ (v : V). Ok (v, rest)) r)

pub GoesOn-more : {V : Type 0} (read : CertLine → Result V CertError) (n : ℕ) (lines : List CertLine) (vs : List V)
    (m : ℕ) (line : CertLine) (rest : List CertLine) (v : V) → Ok v ≡ read line
    → GoesOn read n lines vs (suc m) (line ∷ rest) → GoesOn read n lines (vs ++ (v ∷ [])) m rest
unfolding next_of
GoesOn-more read n lines vs m line rest v taken h = record {
  goes_on = h.goes_on ∙ ap (λ r. and_read (λ us behind. Ok (vs ++ us, behind)) (next_of read m rest r)) (sym taken)
      ∙ after_one vs v (next_lines read m rest);
}

pub GoesOn-fault : {V : Type 0} (read : CertLine → Result V CertError) (n : ℕ) (lines : List CertLine) (vs : List V)
    (m : ℕ) (line : CertLine) (rest : List CertLine) (e : CertError) → Err e ≡ read line
    → GoesOn read n lines vs (suc m) (line ∷ rest) → next_lines read n lines ≡ Err e
unfolding next_of
GoesOn-fault read n lines vs m line rest e fault h =
    h.goes_on ∙ ap (λ r. and_read (λ us behind. Ok (vs ++ us, behind)) (next_of read m rest r)) (sym fault)

pub GoesOn-short : {V : Type 0} (read : CertLine → Result V CertError) (n : ℕ) (lines : List CertLine) (vs : List V)
    (m : ℕ) → GoesOn read n lines vs (suc m) [] → next_lines read n lines ≡ Err (BadCertLine 0)
GoesOn-short read n lines vs m h = h.goes_on

-- ---- the same, where a loop has read i of n, from lines of which `left` are left

module _ {V : Type 0} (read : CertLine → Result V CertError) (n i : ℕ) (lines : List CertLine) (vs : List V)
    (left : List LineView) where
  next_left : i < n → (views : List LineView) → left ≡ views → GoesOn read n lines vs (n - i) (map cert_line left)
      → GoesOn read n lines vs (suc (n - (i + 1))) (map cert_line views)
  next_left lt views is h =
      let fewer : n - i ≡ suc (n - (i + 1)) = omega arith in
      subst₂ (λ (m : ℕ) (ls : List LineView). GoesOn read n lines vs m (map cert_line ls)) fewer is h

  pub goes_on-more : (line : LineView) (rest : List LineView) (v : V) (ws : List V) → i < n → left ≡ line ∷ rest
      → Ok v ≡ read (cert_line line) → ws ≡ vs ++ (v ∷ [])
      → GoesOn read n lines vs (n - i) (map cert_line left) → GoesOn read n lines ws (n - (i + 1)) (map cert_line rest)
  goes_on-more line rest v ws lt first taken grown h =
      subst (λ (us : List V). GoesOn read n lines us (n - (i + 1)) (map cert_line rest)) (sym grown)
      (GoesOn-more read n lines vs (n - (i + 1)) (cert_line line) (map cert_line rest) v taken
      (next_left lt (line ∷ rest) first h))

  pub goes_on-fault : (line : LineView) (rest : List LineView) (e : CertError) → i < n → left ≡ line ∷ rest
      → Err e ≡ read (cert_line line)
      → GoesOn read n lines vs (n - i) (map cert_line left) → IsCertFaultOf e (next_lines read n lines)
  goes_on-fault line rest e lt first fault h =
      IsCertFaultOf-err e (next_lines read n lines) (GoesOn-fault read n lines vs (n - (i + 1)) (cert_line line)
      (map cert_line rest) e fault (next_left lt (line ∷ rest) first h))

  pub goes_on-short : i < n → left ≡ [] → GoesOn read n lines vs (n - i) (map cert_line left)
      → next_lines read n lines ≡ Err (BadCertLine 0)
  goes_on-short lt none h = GoesOn-short read n lines vs (n - (i + 1)) (next_left lt [] none h)

-- ---- texts
