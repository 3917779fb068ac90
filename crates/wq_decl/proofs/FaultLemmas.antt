-- Which line has the first fault.
use Rattle.std.proofs.Common.{◌≡◌, ◌↔◌, List, [], ◌∷◌, ◌++◌, Option, Some, None, Result, Ok, Err, IsOk, refl, sym, ap, subst, ◌∙◌}
use Rattle.std.specs.Option.{option_or}
use Rattle.std.proofs.lemmas.List.Elements.{All-nil, All-cons, All-head, All-tail}
use Rattle.wq_text.specs.Lines.{LineView}
use Rattle.wq_decl.specs.declared.directive.Directive.{Directive}
use Rattle.wq_decl.specs.declared.fault.DeclError.{DeclError}
use Rattle.wq_decl.specs.Reading.{fault_in, reading, first_fault}
use Rattle.wq_decl.specs.Faults.{AllRead, IsLowestDeclFault}

Reads : LineView → Type 0
Reads line = IsOk (reading line)

-- ---- no fault

none_in : (r : Result (Option Directive) DeclError) (rest : Option DeclError) → option_or (fault_in r) rest ≡ None → IsOk r × (rest ≡ None)
none_in (Ok found) rest e = (refl, e)
none_in (Err fault) rest e = absurd cc

none_from : (r : Result (Option Directive) DeclError) (rest : Option DeclError) → IsOk r → rest ≡ None → option_or (fault_in r) rest ≡ None
none_from (Ok found) rest ok e = e
none_from (Err fault) rest ok e = absurd cc

AllRead-first_fault : (lines : List LineView) → first_fault lines ≡ None → AllRead lines
unfolding Reads
AllRead-first_fault [] e = All-nil Reads
AllRead-first_fault (line ∷ lines) e = let p = none_in (reading line) (first_fault lines) e in All-cons Reads line lines p.0 (AllRead-first_fault lines p.1)

first_fault-none : (lines : List LineView) → AllRead lines → first_fault lines ≡ None
unfolding Reads
first_fault-none [] h = refl
first_fault-none (line ∷ lines) h = none_from (reading line) (first_fault lines) (All-head Reads line lines h) (first_fault-none lines (All-tail Reads line lines h))

pub first_fault-None : (lines : List LineView) → (first_fault lines ≡ None) ↔ AllRead lines
first_fault-None lines = (AllRead-first_fault lines, first_fault-none lines)

-- ---- a fault

lowest_in : (line : LineView) (lines : List LineView) (e : DeclError) (r : Result (Option Directive) DeclError) → reading line ≡ r → option_or (fault_in r) (first_fault lines) ≡ Some e
    → (first_fault lines ≡ Some e → IsLowestDeclFault lines e) → IsLowestDeclFault (line ∷ lines) e
unfolding Reads
lowest_in line lines e (Ok found) was is rest =
    let f = rest is in
    record {
      before = line ∷ f.before;
      line = f.line;
      after = f.after;
      parts = ap (λ (l : List LineView). line ∷ l) f.parts;
      read = All-cons Reads line f.before (subst IsOk (sym was) refl) f.read;
      refused = f.refused;
    }
lowest_in line lines e (Err fault) was is rest =
    let same : fault ≡ e = cc in
    record { before = []; line = line; after = lines; parts = refl; read = All-nil Reads; refused = was ∙ ap Err same }

IsLowestDeclFault-first_fault : (lines : List LineView) (e : DeclError) → first_fault lines ≡ Some e → IsLowestDeclFault lines e
IsLowestDeclFault-first_fault [] e is = absurd cc
IsLowestDeclFault-first_fault (line ∷ lines) e is = lowest_in line lines e (reading line) refl is (IsLowestDeclFault-first_fault lines e)

past : (line : LineView) (lines : List LineView) (e : Option DeclError) → IsOk (reading line) → first_fault lines ≡ e → first_fault (line ∷ lines) ≡ e
past line lines e ok is = passed (reading line) ok ∙ is
  where
    passed : (r : Result (Option Directive) DeclError) → IsOk r → option_or (fault_in r) (first_fault lines) ≡ first_fault lines
    passed (Ok found) ok = refl
    passed (Err fault) ok = absurd cc

at : (before : List LineView) (line : LineView) (after : List LineView) (e : DeclError) → AllRead before → reading line ≡ Err e → first_fault (before ++ (line ∷ after)) ≡ Some e
unfolding Reads
at [] line after e read is = ap (λ (r : Result (Option Directive) DeclError). option_or (fault_in r) (first_fault after)) is
at (first ∷ before) line after e read is =
    past first (before ++ (line ∷ after)) (Some e) (All-head Reads first before read) (at before line after e (All-tail Reads first before read) is)

pub first_fault-Some : (lines : List LineView) (e : DeclError) → (first_fault lines ≡ Some e) ↔ IsLowestDeclFault lines e
first_fault-Some lines e = (IsLowestDeclFault-first_fault lines e, λ (f : IsLowestDeclFault lines e). ap first_fault f.parts ∙ at f.before f.line f.after e f.read f.refused)
