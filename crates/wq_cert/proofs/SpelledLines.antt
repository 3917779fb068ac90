-- Lines that are read one after the other, where each value has words of its own.
use Rattle.std.proofs.Common.{◌≡◌, ◌≢◌, ℕ, zero, suc, ◌<◌, ◌≤◌, ◌^◌, Bool, true, false, cond, ltb, eqb, List, [], ◌∷◌, ◌++◌, length, map, Option, Some, None, Result, Ok, Err, refl, sym, ap, ap₂, subst, ◌∙◌, arith}
use Rattle.std.specs.Prelude.{AllPairs, codes, ok_or}
use Rattle.std.specs.List.{AllByRecursion}
use Rattle.std.proofs.lemmas.Bool.{le-ltb, ltb-false, eqb-false, ne_eqb}
use Rattle.wq_core.specs.declared.step.Step.{Step}
use Rattle.wq_cert.specs.declared.fault.CertError.{CertError}
use Rattle.wq_cert.specs.declared.fault.CertError.TheVariants.{BadCertLine, NumberOutOfRange}
use Rattle.wq_cert.specs.Lines.{CertLine}
use Rattle.wq_cert.specs.Forms.{count_form, arc_form, step_form}
use Rattle.wq_cert.specs.PlanText.{arc_line}
use Rattle.wq_cert.specs.RunText.{step_line}
use Rattle.wq_cert.specs.Ranges.{IsArcOf, IsStepOf}
use Rattle.wq_items.specs.Building.{and_then}
use Rattle.wq_cert.specs.Reading.{Read, and_read, next_line, next_lines, at_end, count_reading, circle_count_reading, arc_reading, names_far_lane, step_reading}
use Rattle.wq_cert.specs.LineRows.{SpellsCount, count_words}
use Rattle.wq_cert.specs.Spelled.{words_of_lines}
use Rattle.wq_cert.proofs.SpelledForms.{SpellsCount-count_form, count_form-SpellsCount, SpellsArc-arc_form, arc_form-SpellsArc, SpellsStep-step_form, step_form-line, IsNumbered-near}

-- ---- what follows a value

-- a value is read, and what follows it gives w
pub record Follows {V W : Type 0} (next : V → Result W CertError) (r : Result V CertError) (w : W) : Type 0 where
  pub value : V
  pub first : r ≡ Ok value
  pub then : next value ≡ Ok w

pub Follows-and_then : {V W : Type 0} (next : V → Result W CertError) (r : Result V CertError) (w : W) → and_then next r ≡ Ok w → Follows next r w
Follows-and_then next (Ok v) w e = record { value = v; first = refl; then = e }
Follows-and_then next (Err fault) w e = absurd cc

-- a value is read, and the lines after it
pub record FollowsRead {V W : Type 0} (next : V → List CertLine → Result W CertError) (r : Read V) (w : W) : Type 0 where
  pub value : V
  pub rest : List CertLine
  pub first : r ≡ Ok (value, rest)
  pub then : next value rest ≡ Ok w

pub FollowsRead-and_read : {V W : Type 0} (next : V → List CertLine → Result W CertError) (r : Read V) (w : W) → and_read next r ≡ Ok w → FollowsRead next r w
FollowsRead-and_read next (Ok p) w e = record { value = p.0; rest = p.1; first = refl; then = e }
FollowsRead-and_read next (Err fault) w e = absurd cc

pub and_read-Ok : {V W : Type 0} (next : V → List CertLine → Result W CertError) (r : Read V) (v : V) (rest : List CertLine) → r ≡ Ok (v, rest) → and_read next r ≡ next v rest
and_read-Ok next r v rest e = ap (and_read next) e

abbrev pub read_as : {V : Type 0} → V → Result V CertError
read_as v = Ok v

pub same_ok : {V : Type 0} (v w : V) → read_as v ≡ Ok w → v ≡ w
same_ok v w e = cc

-- a value that is there instead of a fault
pub Some-ok_or : {V : Type 0} (o : Option V) (fault : CertError) (v : V) → ok_or o fault ≡ Ok v → o ≡ Some v
Some-ok_or None fault v e = absurd cc
Some-ok_or (Some u) fault v e = cc

-- what comes after a test that was passed
pub past : {V : Type 0} (b : Bool) (fault : CertError) (r : Result V CertError) (w : V) → cond b (Err fault) r ≡ Ok w → (b ≡ false) × (r ≡ Ok w)
past true fault r w e = absurd cc
past false fault r w e = (refl, e)

-- what passed a test
pub passed : {V : Type 0} (b : Bool) (fault : CertError) (v w : V) → cond b (Err fault) (Ok v) ≡ Ok w → (b ≡ false) × (v ≡ w)
passed true fault v w e = absurd cc
passed false fault v w e = (refl, cc)

-- ---- the end

pub at_end-Ok : {V : Type 0} (v w : V) (lines : List CertLine) → at_end v lines ≡ Ok w → (lines ≡ []) × (v ≡ w)
at_end-Ok v w [] e = (refl, cc)
at_end-Ok v w (line ∷ lines) e = absurd cc

pub no_words : (lines : List CertLine) → words_of_lines lines ≡ [] → lines ≡ []
no_words [] e = refl
no_words (line ∷ lines) e = absurd cc

-- ---- lines of values

-- a line is read as a value exactly where its words are those of the value, which is one of these
pub record IsReadBy {V : Type 0} (read : CertLine → Result V CertError) (show : V → List (List ℕ)) (P : V → Type 0) : Type 0 where
  pub said : (line : CertLine) (v : V) → line.words ≡ show v → P v → read line ≡ Ok v

pub record Shows {V : Type 0} (read : CertLine → Result V CertError) (show : V → List (List ℕ)) (P : V → Type 0) : Type 0 where
  pub words_are : (line : CertLine) (v : V) → read line ≡ Ok v → line.words ≡ show v
  pub holds : (line : CertLine) (v : V) → read line ≡ Ok v → P v

-- the words of the lines are these, and then those of the rest
pub record Begins {V : Type 0} (read : CertLine → Result V CertError) (lines : List CertLine) (others : List (List (List ℕ))) (v : V) : Type 0 where
  pub rest : List CertLine
  pub is_read : next_line read lines ≡ Ok (v, rest)
  pub behind : words_of_lines rest ≡ others

pub record BeginsAll {V : Type 0} (read : CertLine → Result V CertError) (lines : List CertLine) (others : List (List (List ℕ))) (vs : List V) : Type 0 where
  pub rest : List CertLine
  pub is_read : next_lines read (length vs) lines ≡ Ok (vs, rest)
  pub behind : words_of_lines rest ≡ others

-- this many values come first
pub record AreInFront {V : Type 0} (show : V → List (List ℕ)) (P : V → Type 0) (n : ℕ) (lines rest : List CertLine) (vs : List V) : Type 0 where
  pub count : length vs ≡ n
  pub words_are : words_of_lines lines ≡ map show vs ++ words_of_lines rest
  pub hold : AllByRecursion P vs

module _ {V : Type 0} (read : CertLine → Result V CertError) (show : V → List (List ℕ)) (P : V → Type 0) where
  pub shown_line : Shows read show P → (lines rest : List CertLine) (v : V) → next_line read lines ≡ Ok (v, rest) → (words_of_lines lines ≡ show v ∷ words_of_lines rest) × P v
  shown_line shows [] rest v e = absurd cc
  shown_line shows (line ∷ lines) rest v e =
      let next : V → Read V = λ u. Ok (u, lines) in
      let found = Follows-and_then next (read line) (v, rest) e in
      let same : (found.value, lines) ≡ (v, rest) = same_ok (found.value, lines) (v, rest) found.then in
      let value : found.value ≡ v = ap (λ (p : V × List CertLine). p.0) same in
      let behind : lines ≡ rest = ap (λ (p : V × List CertLine). p.1) same in
      let is : read line ≡ Ok v = found.first ∙ ap (λ (u : V). Ok u) value in
      (ap₂ (λ (ws : List (List ℕ)) (ls : List CertLine). ws ∷ words_of_lines ls) (shows.words_are line v is) behind, shows.holds line v is)

  pub begun_line : IsReadBy read show P → (lines : List CertLine) (v : V) (others : List (List (List ℕ))) → words_of_lines lines ≡ show v ∷ others → P v → Begins read lines others v
  begun_line reads [] v others e h = absurd cc
  begun_line reads (line ∷ lines) v others e h =
      let first : line.words ≡ show v = cc in
      let next : V → Read V = λ u. Ok (u, lines) in
      record { rest = lines; is_read = ap (and_then next) (reads.said line v first h); behind = cc }

  pub shown_lines : Shows read show P → (n : ℕ) (lines rest : List CertLine) (vs : List V) → next_lines read n lines ≡ Ok (vs, rest) → AreInFront show P n lines rest vs
  shown_lines shows zero lines rest vs e =
      let none : List V = [] in
      let same : (none, lines) ≡ (vs, rest) = same_ok (none, lines) (vs, rest) e in
      let nothing : none ≡ vs = ap (λ (p : List V × List CertLine). p.0) same in
      let behind : lines ≡ rest = ap (λ (p : List V × List CertLine). p.1) same in
      subst (AreInFront show P zero lines rest) nothing (record { count = refl; words_are = ap words_of_lines behind; hold = tt })
  shown_lines shows (suc n) lines rest vs e =
      let join : V → List V → List CertLine → Read (List V) = λ v us behind. Ok (v ∷ us, behind) in
      let next : V → List CertLine → Read (List V) = λ v behind. and_read (join v) (next_lines read n behind) in
      let first = FollowsRead-and_read next (next_line read lines) (vs, rest) e in
      let more = FollowsRead-and_read (join first.value) (next_lines read n first.rest) (vs, rest) first.then in
      let same : (first.value ∷ more.value, more.rest) ≡ (vs, rest) = same_ok (first.value ∷ more.value, more.rest) (vs, rest) more.then in
      let values : first.value ∷ more.value ≡ vs = ap (λ (p : List V × List CertLine). p.0) same in
      let behind : more.rest ≡ rest = ap (λ (p : List V × List CertLine). p.1) same in
      let one = shown_line shows lines first.rest first.value first.first in
      let others = shown_lines shows n first.rest more.rest more.value more.first in
      subst (AreInFront show P (suc n) lines rest) values (record {
        count = ap suc others.count;
        words_are =
            one.0 ∙ ap (λ (ws : List (List (List ℕ))). show first.value ∷ ws) (others.words_are ∙ ap (λ (ls : List CertLine). map show more.value ++ words_of_lines ls) behind);
        hold = (one.1, others.hold);
      })

  pub begun_lines : IsReadBy read show P → (vs : List V) (lines : List CertLine) (others : List (List (List ℕ))) → words_of_lines lines ≡ map show vs ++ others → AllByRecursion P vs
      → BeginsAll read lines others vs
  begun_lines reads [] lines others e h = record { rest = lines; is_read = refl; behind = e }
  begun_lines reads (v ∷ vs) lines others e h =
      let join : V → List V → List CertLine → Read (List V) = λ u us behind. Ok (u ∷ us, behind) in
      let next : V → List CertLine → Read (List V) = λ u behind. and_read (join u) (next_lines read (length vs) behind) in
      let one = begun_line reads lines v (map show vs ++ others) e h.0 in
      let more = begun_lines reads vs one.rest others one.behind h.1 in
      record {
        rest = more.rest;
        is_read = and_read-Ok next (next_line read lines) v one.rest one.is_read ∙ and_read-Ok (join v) (next_lines read (length vs) one.rest) vs more.rest more.is_read;
        behind = more.behind;
      }

-- ---- counts

abbrev pub IsCount : ℕ → Type 0
IsCount n = n ≤ 4096

module _ (keyword : List ℕ) where
  abbrev near : ℕ → ℕ → Result ℕ CertError
  near line n = cond (ltb 4096 n) (Err (NumberOutOfRange line)) (Ok n)

  count_found : (line : CertLine) (n : ℕ) → count_reading keyword line ≡ Ok n → SpellsCount keyword line.words n × (n ≤ 4096)
  count_found line n e =
      let found = Follows-and_then (near line.no) (ok_or (count_form keyword line.words) (BadCertLine line.no)) n e in
      let small = passed (ltb 4096 found.value) (NumberOutOfRange line.no) found.value n found.then in
      let is : count_form keyword line.words ≡ Some n = Some-ok_or (count_form keyword line.words) (BadCertLine line.no) found.value found.first ∙ ap (λ (m : ℕ). Some m) small.1 in
      (SpellsCount-count_form keyword line.words n is, omega (arith, ltb-false 4096 found.value small.0, small.1))

  pub Shows-count : Shows (count_reading keyword) (count_words keyword) IsCount
  Shows-count = record { words_are = λ line n e. (count_found line n e).0.words_are; holds = λ line n e. (count_found line n e).1 }

  pub IsReadBy-count : IsReadBy (count_reading keyword) (count_words keyword) IsCount
  IsReadBy-count = record {
    said = λ line n words few.
        ap (λ (o : Option ℕ). and_then (near line.no) (ok_or o (BadCertLine line.no))) (count_form-SpellsCount keyword line.words n (record { words_are = words; fits = omega arith }))
        ∙ ap (λ (b : Bool). cond b (Err (NumberOutOfRange line.no)) (Ok n)) (le-ltb 4096 n few);
  }

-- `circle N`
abbrev pub IsCircleCount : ℕ → Type 0
IsCircleCount n = (0 < n) × (n ≤ 4096)

abbrev some_arc : ℕ → ℕ → Result ℕ CertError
some_arc line n = cond (eqb n 0) (Err (NumberOutOfRange line)) (Ok n)

circle_found : (line : CertLine) (n : ℕ) → circle_count_reading line ≡ Ok n → (count_reading (codes "circle") line ≡ Ok n) × (n ≢ 0)
circle_found line n e =
    let found = Follows-and_then (some_arc line.no) (count_reading (codes "circle") line) n e in
    let some = passed (eqb found.value 0) (NumberOutOfRange line.no) found.value n found.then in
    (found.first ∙ ap (λ (m : ℕ). Ok m) some.1, λ none. eqb-false found.value 0 some.0 (some.1 ∙ none))

pub Shows-circle : Shows circle_count_reading (count_words (codes "circle")) IsCircleCount
Shows-circle = record {
  words_are = λ line n e. (Shows-count (codes "circle")).words_are line n (circle_found line n e).0;
  holds = λ line n e. (omega (arith, (circle_found line n e).1), (Shows-count (codes "circle")).holds line n (circle_found line n e).0);
}

pub IsReadBy-circle : IsReadBy circle_count_reading (count_words (codes "circle")) IsCircleCount
IsReadBy-circle = record {
  said = λ line n words h.
      ap (and_then (some_arc line.no)) ((IsReadBy-count (codes "circle")).said line n words h.1)
      ∙ ap (λ (b : Bool). cond b (Err (NumberOutOfRange line.no)) (Ok n)) (ne_eqb n 0 (λ none. omega (arith, h.0, none)));
}

-- `run M`
abbrev pub run_count : CertLine → Result ℕ CertError
run_count line = ok_or (count_form (codes "run") line.words) (BadCertLine line.no)

abbrev pub IsNumber : ℕ → Type 0
IsNumber n = n < 2 ^ 32

run_found : (line : CertLine) (n : ℕ) → run_count line ≡ Ok n → SpellsCount (codes "run") line.words n
run_found line n e = SpellsCount-count_form (codes "run") line.words n (Some-ok_or (count_form (codes "run") line.words) (BadCertLine line.no) n e)

pub Shows-run : Shows run_count (count_words (codes "run")) IsNumber
Shows-run = record { words_are = λ line n e. (run_found line n e).words_are; holds = λ line n e. (run_found line n e).fits }

pub IsReadBy-run : IsReadBy run_count (count_words (codes "run")) IsNumber
IsReadBy-run = record {
  said = λ line n words fits.
      ap (λ (o : Option ℕ). ok_or o (BadCertLine line.no)) (count_form-SpellsCount (codes "run") line.words n (record { words_are = words; fits = fits }));
}

-- ---- arcs and steps

module _ (names : List (List ℕ)) where
  arc_found : (line : CertLine) (arc : ℕ × ℕ) → arc_reading names line ≡ Ok arc → arc_form names line.words ≡ Some arc
  arc_found line arc e = Some-ok_or (arc_form names line.words) (BadCertLine line.no) arc e

  pub Shows-arc : Shows (arc_reading names) (arc_line names) (IsArcOf (length names))
  Shows-arc = record {
    words_are = λ line arc e. (SpellsArc-arc_form names line.words arc (arc_found line arc e)).words_are;
    holds = λ line arc e. (SpellsArc-arc_form names line.words arc (arc_found line arc e)).known;
  }

  abbrev near_step : ℕ → Step → Result Step CertError
  near_step line step = cond (names_far_lane step) (Err (NumberOutOfRange line)) (Ok step)

  -- a step is found, on no workqueue above 4,095
  step_found : (line : CertLine) (step : Step) → step_reading names line ≡ Ok step → (step_form names line.words ≡ Some step) × (names_far_lane step ≡ false)
  step_found line step e =
      let found = Follows-and_then (near_step line.no) (ok_or (step_form names line.words) (BadCertLine line.no)) step e in
      let small = passed (names_far_lane found.value) (NumberOutOfRange line.no) found.value step found.then in
      (Some-ok_or (step_form names line.words) (BadCertLine line.no) found.value found.first ∙ ap (λ (s : Step). Some s) small.1, ap names_far_lane (sym small.1) ∙ small.0)

  pub Shows-step : Shows (step_reading names) (step_line names) (IsStepOf (length names))
  Shows-step = record {
    words_are = λ line step e. (SpellsStep-step_form names line.words step (step_found line step e).0).words_are;
    holds = λ line step e.
        let said = SpellsStep-step_form names line.words step (step_found line step e).0 in
        (said.known, (step_found line step e).1, said.no_help);
  }

  module _ (differ : AllPairs (λ (a b : List ℕ). a ≢ b) names) where
    pub IsReadBy-arc : IsReadBy (arc_reading names) (arc_line names) (IsArcOf (length names))
    IsReadBy-arc = record {
      said = λ line arc words known.
          ap (λ (o : Option (ℕ × ℕ)). ok_or o (BadCertLine line.no)) (arc_form-SpellsArc names line.words differ arc (record { words_are = words; known = known }));
    }

    pub IsReadBy-step : IsReadBy (step_reading names) (step_line names) (IsStepOf (length names))
    IsReadBy-step = record {
      said = λ line step words known.
          ap (λ (o : Option Step). and_then (near_step line.no) (ok_or o (BadCertLine line.no))) (ap (step_form names) words ∙ step_form-line names differ step known.0 known.2 (IsNumbered-near step known.1))
          ∙ ap (λ (b : Bool). cond b (Err (NumberOutOfRange line.no)) (Ok step)) known.1;
    }
