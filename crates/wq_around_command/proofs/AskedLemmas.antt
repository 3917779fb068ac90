-- What is read of an answer around fixed workqueues can be asked about.
use Rattle.std.proofs.Common.{◌≡◌, ℕ, ◌-◌, ◌<◌, ◌≤◌, Bool, true, false, cond, List, [], ◌∷◌, length, Option}
use Rattle.std.proofs.Common.{Some, None, Result, Ok, Err, refl, sym, ap, subst, ◌∙◌, arith}
use Rattle.std.specs.Prelude.{codes, nat_le, ok_or}
use Rattle.std.specs.List.{All, AllByRecursion, list_any}
use Rattle.std.proofs.lemmas.Bool.{leb-false, or_parts}
use Rattle.std.proofs.lemmas.List.{length-map}
use Rattle.std.proofs.lemmas.List.Elements.{All-from_recursion}
use Rattle.wq_text.specs.declared.text.TextError.{TextError}
use Rattle.wq_text.specs.Lines.{lines_of}
use Rattle.wq_text.specs.Limits.{limit_fault}
use Rattle.wq_text.proofs.LimitLaws.{fits-limit_fault}
use Rattle.wq_items.specs.Building.{and_then}
use Rattle.wq_groups.specs.Assignment.{Assignment, IsAssignment}
use Rattle.wq_groups.specs.DeclaredGroups.{declared_waits, Declared, IsSound}
use Rattle.wq_groups.specs.Partition.{Partition}
use Rattle.wq_core.specs.declared.step.Step.{Step}
use Rattle.wq_fixed.specs.Fixed.{Fixed, IsFixed, Keeps}
use Rattle.wq_cert.specs.declared.fault.CertError.{CertError}
use Rattle.wq_cert.specs.declared.fault.CertError.TheVariants.{BadCertLine, NotAllItems, NumberOutOfRange}
use Rattle.wq_cert.specs.AroundReading.{AroundCertificate, AroundPlan, NoRescuerCertificate, OfCircleAround}
use Rattle.wq_cert.specs.AroundReading.{OfNoRescuer}
use Rattle.wq_cert.specs.AroundReading.{OfPlanAround, around_of_text, around_plan_reading, around_reading}
use Rattle.wq_cert.specs.AroundReading.{fixed_workqueues, new_assignment, new_count_reading, norescuer_count_reading}
use Rattle.wq_cert.specs.AroundReading.{norescuer_reading, order_form, order_reading}
use Rattle.wq_cert.specs.Certificate.{CircleCertificate, OfCircle}
use Rattle.wq_cert.specs.Forms.{begins_with}
use Rattle.wq_cert.specs.LineRows.{count_words}
use Rattle.wq_cert.specs.Lines.{CertLine, cert_lines}
use Rattle.wq_cert.specs.PlanText.{arc_line}
use Rattle.wq_cert.specs.Ranges.{IsArcOf}
use Rattle.wq_cert.specs.Reading.{Read, and_read, next_line, next_lines, at_end, arc_reading, chain_reading}
use Rattle.wq_cert.specs.Reading.{count_reading}
use Rattle.wq_cert.specs.Reading.{circle_reading, hold_all, assignment_of, max_count, next_workqueues, plan_reading}
use Rattle.wq_cert.specs.Reading.{answer_reading, run_after, run_reading, whole_assignment}
use Rattle.wq_cert.specs.RunText.{step_line}
use Rattle.wq_cert.specs.Spelled.{words_of_lines}
use Rattle.wq_cert.specs.Texts.{max_certificate, max_certificate_line, unless_too_long}
use Rattle.wq_cert.proofs.ReadRanges.{IsCertificateOf-answer_of, IsReadSo-text_reading, circle_answer}
use Rattle.wq_cert.proofs.ReadRanges.{length-cert_lines}
use Rattle.wq_cert.proofs.ReadRanges.{plan_answer}
use Rattle.wq_cert.proofs.SpelledLines.{Follows-and_then, FollowsRead-and_read, IsCount, Shows-arc, Shows-count}
use Rattle.wq_cert.proofs.SpelledLines.{at_end-Ok, passed, same_ok, shown_line, shown_lines}
use Rattle.wq_cert.proofs.SpelledTexts.{SpellsRun-run_reading}
use Rattle.wq_cert.proofs.WholeLemmas.{IsAssignment-assignment_of}
use Rattle.wq_checker.specs.Around.{HasFewSteps, IsAroundAsked, IsNoRescuerAsked, IsPlanAroundAsked, planned}
use Rattle.wq_around_command.proofs.KeptWorkqueues.{Keeps-read, follow}

-- ---- lines

-- the next line is read so
next_read : {V : Type 0} (read : CertLine → Result V CertError) (lines rest : List CertLine) (v : V)
    → next_line read lines ≡ Ok (v, rest) → (line : CertLine) × (lines ≡ line ∷ rest) × (read line ≡ Ok v)
next_read read [] rest v e = absurd cc
next_read {V} read (line ∷ lines) rest v e =
    let next : V → Read V = λ u. Ok (u, lines) in
    let found = Follows-and_then next (read line) (v, rest) e in
    let same : (found.value, lines) ≡ (v, rest) = same_ok (found.value, lines) (v, rest) found.then in (
      line,
      ap (λ (p : V × List CertLine). line ∷ p.1) same,
      found.first ∙ ap (λ (p : V × List CertLine). Ok p.0) same,
    )

-- ---- a plan

below_all : (lanes : ℕ) (order : List ℕ) → list_any (nat_le lanes) order ≡ false → AllByRecursion (λ q. q < lanes) order
below_all lanes [] e = tt
below_all lanes (q ∷ order) e =
    let parts = or_parts (nat_le lanes q) (list_any (nat_le lanes) order) e in
    (leb-false lanes q parts.0, below_all lanes order parts.1)

-- the workqueues of an order are below this number
order_below : (lanes : ℕ) (line : CertLine) (order : List ℕ) → order_reading lanes line ≡ Ok order
    → All (λ q. q < lanes) order
order_below lanes line order e =
    let within : List ℕ → Result (List ℕ) CertError =
    λ found. cond (list_any (nat_le lanes) found) (Err (NumberOutOfRange line.no)) (Ok found) in
    let found = Follows-and_then within (ok_or (order_form line.words) (BadCertLine line.no)) order e in
    let past = passed (list_any (nat_le lanes) found.value) (NumberOutOfRange line.no) found.value order found.then in
    subst (All (λ q. q < lanes)) past.1
    (All-from_recursion (λ q. q < lanes) found.value (below_all lanes found.value past.0))

-- a chain of at most 4,096 groups, and one arc fewer, or none if there is no group
record IsChainOfItems (names : List (List ℕ)) (chain : ℕ × List (ℕ × ℕ)) : Type 0 where
  few : chain.0 ≤ max_count
  count : length chain.1 ≡ chain.0 - 1
  arcs : All (IsArcOf (length names)) chain.1

chain_read : (names : List (List ℕ)) (lines : List CertLine) (chain : ℕ × List (ℕ × ℕ))
    → chain_reading names lines ≡ Ok chain → IsChainOfItems names chain
chain_read names lines chain e =
    let last : ℕ → List (ℕ × ℕ) → List CertLine → Result (ℕ × List (ℕ × ℕ)) CertError =
    λ n arcs rest. at_end (n, arcs) rest in
    let behind : ℕ → List CertLine → Result (ℕ × List (ℕ × ℕ)) CertError =
    λ n ls. and_read (last n) (next_lines (arc_reading names) (n - 1) ls) in
    let count = FollowsRead-and_read behind (next_line (count_reading (codes "chain")) lines) chain e in
    let said = FollowsRead-and_read (last count.value) (next_lines (arc_reading names) (count.value - 1) count.rest)
    chain
    count.then in
    let ends = at_end-Ok (count.value, said.value) chain said.rest said.then in
    let first = shown_line (count_reading (codes "chain")) (count_words (codes "chain")) IsCount
    (Shows-count (codes "chain")) lines count.rest count.value count.first in
    let others = shown_lines (arc_reading names) (arc_line names) (IsArcOf (length names)) (Shows-arc names)
    (count.value - 1) count.rest said.rest said.value said.first in
    subst (IsChainOfItems names) ends.1 (record {
      few = first.1;
      count = others.count;
      arcs = All-from_recursion (IsArcOf (length names)) said.value others.hold;
    })

held : (p : Partition) (workqueues : List (List ℕ)) (a : Assignment) → whole_assignment p workqueues ≡ Ok a
    → (hold_all (length p.group_of) workqueues ≡ true) × (assignment_of p workqueues ≡ a)
held p workqueues a e = chosen (hold_all (length p.group_of) workqueues) e
  where
    chosen : (b : Bool) → cond b (Ok (assignment_of p workqueues)) (Err (NotAllItems 0)) ≡ Ok a
        → (b ≡ true) × (assignment_of p workqueues ≡ a)
    chosen true e = (refl, same_ok (assignment_of p workqueues) a e)
    chosen false e = absurd cc

module _ (s : Declared) (sound : IsSound s) (f : Fixed) (fixed : IsFixed s.partition.groups f) where
  abbrev names : List (List ℕ)
  names = s.table.names

  abbrev p : Partition
  p = s.partition

  arcs_of_items : (arcs : List (ℕ × ℕ)) → All (IsArcOf (length names)) arcs
      → All (IsArcOf (length s.table.waits)) arcs
  arcs_of_items arcs are = subst (λ (n : ℕ). All (IsArcOf n) arcs) (sym sound.table.one_list_each) are

  plan_asked : (lines : List CertLine) (c : AroundPlan) → around_plan_reading names p f lines ≡ Ok c
      → IsPlanAroundAsked (declared_waits s) f c
  plan_asked lines c e =
      let chained : Assignment → List ℕ → ℕ × List (ℕ × ℕ) → Result AroundPlan CertError =
      λ a order chain. Ok (record { assignment = a; order = order; length = chain.0; arcs = chain.1 }) in
      let ordered : Assignment → List ℕ → List CertLine → Result AroundPlan CertError =
      λ a order rest. and_then (chained a order) (chain_reading names rest) in
      let assigned : Assignment → List CertLine → Result AroundPlan CertError =
      λ a rest. and_read (ordered a) (next_line (order_reading a.lanes) rest) in
      let counted : ℕ → List CertLine → Result AroundPlan CertError =
      λ n rest. and_read assigned (new_assignment names p f n rest) in
      let with_rest : List CertLine → Assignment → Read Assignment = λ rest a. Ok (a, rest) in
      let behind : List (List ℕ) → List CertLine → Read Assignment =
      λ workqueues rest. and_then (with_rest rest) (whole_assignment p workqueues) in
      let count = FollowsRead-and_read counted (next_line (new_count_reading f) lines) c e in
      let made = FollowsRead-and_read assigned (new_assignment names p f count.value count.rest) c count.then in
      let all = FollowsRead-and_read behind
      (next_workqueues names p.group_of count.value (fixed_workqueues p f) count.rest) (made.value, made.rest)
      made.first in
      let own = Follows-and_then (with_rest all.rest) (whole_assignment p all.value) (made.value, made.rest) all.then in
      let same_own : (own.value, all.rest) ≡ (made.value, made.rest) =
      same_ok (own.value, all.rest) (made.value, made.rest) own.then in
      let same_made : own.value ≡ made.value = ap (λ (q : Assignment × List CertLine). q.0) same_own in
      let order = FollowsRead-and_read (ordered made.value) (next_line (order_reading made.value.lanes) made.rest) c
      made.then in
      let chain = Follows-and_then (chained made.value order.value) (chain_reading names order.rest) c order.then in
      let plan : AroundPlan = record {
        assignment = made.value;
        order = order.value;
        length = chain.value.0;
        arcs = chain.value.1;
      } in
      let same : plan ≡ c = same_ok plan c chain.then in
      let more = follow names p.group_of count.value (fixed_workqueues p f) all.value count.rest all.rest all.first in
      let whole = held p all.value made.value (own.first ∙ ap (λ (a : Assignment). Ok a) same_made) in
      let line = next_read (order_reading made.value.lanes) made.rest order.rest order.value order.first in
      let read = chain_read names order.rest chain.value chain.first in
      let keeps : Keeps f (planned f plan) =
      subst (λ (a : Assignment). Keeps f (record { assignment = a; bare = f.bare })) whole.1
      (subst (λ (ws : List (List ℕ)). Keeps f (record { assignment = assignment_of p ws; bare = f.bare })) (sym more.1)
      (Keeps-read p f sound.partition fixed more.0
      (subst (λ (ws : List (List ℕ)). hold_all (length p.group_of) ws ≡ true) more.1 whole.0))) in
      subst (IsPlanAroundAsked (declared_waits s) f) same (record {
        assignment = subst (IsAssignment p.groups) whole.1 (IsAssignment-assignment_of p all.value sound.partition
            whole.0);
        keeps = keeps;
        lanes = order_below made.value.lanes line.0 order.value line.2;
        arcs = arcs_of_items chain.value.1 read.arcs;
        count = read.count;
        few = read.few;
      })

  -- ---- a run

  few_steps : (lines : List CertLine) (steps : Option (List Step)) → length lines ≤ 8388608
      → run_after names lines ≡ Ok steps → HasFewSteps steps
  few_steps [] steps few e = λ made is.
      let none : Option (List Step) = None in
      absurd (let never : None ≡ Some made = same_ok none steps e ∙ is in cc)
  few_steps (line ∷ lines) steps few e = λ made is.
      let some : List Step → Result (Option (List Step)) CertError = λ found. Ok (Some found) in
      let found = Follows-and_then some (run_reading names (line ∷ lines)) steps e in
      let spells = SpellsRun-run_reading names (line ∷ lines) found.value found.first in
      let same : Some found.value ≡ Some made = same_ok (Some found.value) steps found.then ∙ is in
      let run : found.value ≡ made = cc in
      let long : length (words_of_lines (line ∷ lines)) ≡ length (line ∷ lines) =
      length-map (line ∷ lines) (λ (l : CertLine). l.words) in
      omega (
        arith,
        few,
        long,
        ap length spells.words,
        length-map found.value (step_line names),
        ap (λ (l : List Step). length l) run,
      )

  none_asked : (lines : List CertLine) (c : NoRescuerCertificate) → length lines ≤ 8388608
      → norescuer_reading names lines ≡ Ok c → IsNoRescuerAsked (declared_waits s) c
  none_asked lines c few e =
      let made : ℕ × ℕ → Option (List Step) → Result NoRescuerCertificate CertError =
      λ arc steps. Ok (record { arc = arc; steps = steps }) in
      let behind_arc : ℕ × ℕ → List CertLine → Result NoRescuerCertificate CertError =
      λ arc rest. and_then (made arc) (run_after names rest) in
      let behind : ℕ → List CertLine → Result NoRescuerCertificate CertError =
      λ n rest. and_read behind_arc (next_line (arc_reading names) rest) in
      let count = FollowsRead-and_read behind (next_line norescuer_count_reading lines) c e in
      let arc = FollowsRead-and_read behind_arc (next_line (arc_reading names) count.rest) c count.then in
      let run = Follows-and_then (made arc.value) (run_after names arc.rest) c arc.then in
      let none : NoRescuerCertificate = record { arc = arc.value; steps = run.value } in
      let same : none ≡ c = same_ok none c run.then in
      let first = next_read norescuer_count_reading lines count.rest count.value count.first in
      let second = shown_line (arc_reading names) (arc_line names) (IsArcOf (length names)) (Shows-arc names) count.rest
      arc.rest arc.value arc.first in
      let other = next_read (arc_reading names) count.rest arc.rest arc.value arc.first in
      let fewer : length arc.rest ≤ 8388608 =
      omega (arith, few, ap (λ (l : List CertLine). length l) first.1, ap (λ (l : List CertLine). length l) other.1) in
      subst (IsNoRescuerAsked (declared_waits s)) same (record {
        arc = arcs_of_items (arc.value ∷ [])
            (All-from_recursion (IsArcOf (length names)) (arc.value ∷ []) (second.1, tt));
        few_steps = few_steps arc.rest run.value fewer run.first;
      })

  -- ---- a text

  module _ (text : List ℕ) (within : limit_fault max_certificate max_certificate_line text ≡ None) where
    circle_asked : (line : CertLine) (lines : List CertLine) (c : CircleCertificate)
        → cert_lines (lines_of text) ≡ line ∷ lines → begins_with (codes "circle") line.words ≡ true
        → circle_reading names (line ∷ lines) ≡ Ok c → IsAroundAsked (declared_waits s) f (OfCircleAround c)
    circle_asked line lines c is begins e =
        let read : answer_reading names p (line ∷ lines) ≡ Ok (OfCircle c) =
        ap (λ (b : Bool). cond b (and_then circle_answer (circle_reading names (line ∷ lines)))
        (and_then plan_answer (plan_reading names p (line ∷ lines)))) begins
        ∙ ap (and_then circle_answer) e in
        let found = IsCertificateOf-answer_of names p sound.partition (sym sound.one_group_each) text (OfCircle c)
        (ap (λ (o : Option TextError). unless_too_long o (answer_reading names p (cert_lines (lines_of text)))) within
        ∙ ap (answer_reading names p) is ∙ read) in
        record {
          arcs = arcs_of_items c.arcs found.arcs;
          some = found.some;
          few = found.few;
          few_steps = λ steps made. (found.run steps made).few;
        }

    asked_lines : (lines : List CertLine) (c : AroundCertificate) → cert_lines (lines_of text) ≡ lines
        → around_reading names p f lines ≡ Ok c → IsAroundAsked (declared_waits s) f c
    asked_lines [] c is e = absurd cc
    asked_lines (line ∷ lines) c is e =
        by_first (begins_with (codes "circle") line.words) refl (begins_with (codes "norescuer") line.words) e
      where
        circle_found : CircleCertificate → Result AroundCertificate CertError
        circle_found circle = Ok (OfCircleAround circle)

        none_found : NoRescuerCertificate → Result AroundCertificate CertError
        none_found none = Ok (OfNoRescuer none)

        plan_found : AroundPlan → Result AroundCertificate CertError
        plan_found plan = Ok (OfPlanAround plan)

        by_first : (b : Bool) → begins_with (codes "circle") line.words ≡ b → (none : Bool)
            → cond b (and_then circle_found (circle_reading names (line ∷ lines)))
            (cond none (and_then none_found (norescuer_reading names (line ∷ lines)))
            (and_then plan_found (around_plan_reading names p f (line ∷ lines)))) ≡ Ok c
            → IsAroundAsked (declared_waits s) f c
        by_first true begins none e =
            let found = Follows-and_then circle_found (circle_reading names (line ∷ lines)) c e in
            subst (IsAroundAsked (declared_waits s) f) (same_ok (OfCircleAround found.value) c found.then)
            (circle_asked line lines found.value is begins found.first)
        by_first false begins true e =
            let found = Follows-and_then none_found (norescuer_reading names (line ∷ lines)) c e in
            let few : length (line ∷ lines) ≤ 8388608 =
            omega (
              arith,
              (fits-limit_fault max_certificate max_certificate_line text within).0,
              length-cert_lines text,
              ap (λ (l : List CertLine). length l) is,
            ) in
            subst (IsAroundAsked (declared_waits s) f) (same_ok (OfNoRescuer found.value) c found.then)
            (none_asked (line ∷ lines) found.value few found.first)
        by_first false begins false e =
            let found = Follows-and_then plan_found (around_plan_reading names p f (line ∷ lines)) c e in
            subst (IsAroundAsked (declared_waits s) f) (same_ok (OfPlanAround found.value) c found.then)
            (plan_asked (line ∷ lines) found.value found.first)

  -- what is read can be asked about
  pub IsAroundAsked-read : (text : List ℕ) (c : AroundCertificate) → around_of_text names p f text ≡ Ok c
      → IsAroundAsked (declared_waits s) f c
  IsAroundAsked-read text c e =
      let found = IsReadSo-text_reading (around_reading names p f) text c e in
      asked_lines text found.within (cert_lines (lines_of text)) c refl found.is_read
