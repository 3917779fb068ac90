-- Answers keep what they promise: what is printed is read back, and it is true.
use Rattle.std.proofs.Common.{
  ◌≡◌,
  ℕ,
  zero,
  suc,
  ◌+◌,
  ◌-◌,
  ◌<◌,
  ◌≤◌,
  ◌==◌,
  Bool,
  cond,
  inl,
  inr,
  List,
  [],
  ◌∷◌,
  length,
  map,
  get_or,
  Option,
  Some,
  None,
  Result,
  Ok,
  Err,
  refl,
  sym,
  ap,
  subst,
  ◌∙◌,
  arith,
}
use Rattle.std.specs.Result.{result_ok}
use Rattle.std.specs.Prelude.{
  MatchResult,
  MatchOption,
  slice_index,
  slice_get,
  option_map,
  flat_map,
  if◌then◌else◌,
  ◌⊎◌,
}
use Rattle.std.specs.List.{All, AllAdjacentBelow}
use Rattle.std.proofs.lemmas.Bool.{ne_eqb}
use Rattle.std.proofs.lemmas.List.{length-map}
use Rattle.std.proofs.lemmas.Grind.{flat_map-append}
use Rattle.std.proofs.lemmas.Option.{slice_get-map, slice_get_within, slice_get-get_or, get_or_from_slice_get}
use Rattle.wq_text.specs.Refusal.{Refusal}
use Rattle.wq_groups.specs.Assignment.{Assignment}
use Rattle.wq_groups.specs.Declaration.{Declaration, IsDeclaration}
use Rattle.wq_graph.specs.declared.arc.WaitArc.{WaitArc}
use Rattle.wq_graph.specs.Graph.{IsArc, group_graph}
use Rattle.wq_levels.specs.Walks.{IsWalkedCircle}
use Rattle.wq_plan.specs.Plan.{IsPlan, chain_of_plan}
use Rattle.wq_plan.specs.LongestChain.{IsLongestChain}
use Rattle.wq_plan.specs.CircleOfGroups.{IsCircleOfGroups}
use Rattle.wq_plan.proofs.LongestChain.{chain_of-longest}
use Rattle.wq_plan.proofs.GroupCircles.{IsCircleOfGroups-walked}
use Rattle.wq_plan.proofs.Plans.{IsPlan-lanes, IsPlan-falls, IsLeast-plan, IsCircled-from_walk}
use Rattle.wq_core.specs.declared.step.Step.{Step}
use Rattle.wq_core.specs.Wiring.{wiring, own_lanes}
use Rattle.wq_deadlock.specs.CircleRun.{IsCircleRun}
use Rattle.wq_cert.specs.declared.fault.CertError.{CertError}
use Rattle.wq_cert.specs.Certificate.{Certificate, PlanCertificate, CircleCertificate, OfPlan, OfCircle}
use Rattle.wq_cert.specs.PlanText.{arc_line}
use Rattle.wq_cert.specs.CircleText.{circle_line}
use Rattle.wq_cert.specs.RunText.{run_lines}
use Rattle.wq_cert.specs.Spelled.{SpellsPlan, words_of_text}
use Rattle.wq_cert.specs.Texts.{answer_of, cert_refusal}
use Rattle.wq_cert.proofs.PrintedPlans.{answer_of-plan}
use Rattle.wq_cert.proofs.PrintedCircles.{answer_of-circle}
use Rattle.wq_cert.proofs.SpelledAnswers.{SpellsCertificate-answer_of, answer_of-spelled, assignment_of_text-spelled}
use Rattle.wq_items.specs.Table.{ItemWaits}
use Rattle.wq_groups.proofs.Declarations.{waiting-item, GroupWaits-items}
use Rattle.wq_checker.specs.Chains.{IsChainAlong, Joins, AllJoin, before_from, before_in_chain, before_in_circle}
use Rattle.wq_checker.specs.Falling.{AllFall}
use Rattle.wq_checker.specs.declared.answer.Yes.{Yes}
use Rattle.wq_checker.specs.declared.answer.Yes.TheVariants as yes
use Rattle.wq_checker.specs.declared.answer.No.{No}
use Rattle.wq_checker.specs.Answers.{IsGoodPlan, ShowsDeadlock, AnswersPlan, AnswersCircle}
use Rattle.wq_checker.proofs.GroupChains.{chain_of_groups}
use Rattle.wq_checker.proofs.GoodAnswers.{IsChainAlong-good, IsLeast-good, IsCircleAlong-good, Deadlocks-any}
use Rattle.wq_commands.specs.declared.end.End.{End}
use Rattle.wq_commands.specs.declared.end.End.TheVariants.{Good, Bad, Refused}
use Rattle.wq_groups.specs.DeclaredGroups.{declared_waits, Declared}
use Rattle.wq_commands.specs.Answer.{
  Answers,
  AnswersDeclared,
  ends_of,
  text_of_plan,
  text_of_circle,
  refusal_text,
  PrintsRefusal,
}
use Rattle.wq_commands.specs.Declaration.{declaration}
use Rattle.wq_text.specs.LineText.{line_text}
use Rattle.wq_commands.specs.Checking.{yes_words, PrintsCheck, AnswersCheck, ChecksDeclared, Checks}
use Rattle.wq_commands.specs.PrintedChecked.{ChecksYesPlan, ChecksYesCircle, ChecksYesOf, ChecksYes}
use Rattle.wq_commands.proofs.CheckLemmas.{MatchResult-ok, IsAsked-read}
use Rattle.wq_commands.specs.DeclaredIn.{Named, named_of}
use Rattle.wq_commands.proofs.DeclaredLemmas.{declared_in-declaration}
use Rattle.wq_commands.specs.Promise.{LeadThrough, LeadRound, KeepsDeclared, KeepsPromise}
use Rattle.wq_commands.specs.Shown.{ShowsPlan, ShowsCircle, ShowsDeclared, ShowsAnswer}
use Rattle.wq_meter.specs.Meter.{Meter}
use Rattle.wq_commands.specs.CheckInput.{ChecksInput, KeepsYesOfInput}
use Rattle.wq_commands.specs.PlanInput.{AnswersInput, KeepsPromiseOfInput, ShowsAnswerOfInput}
use Rattle.wq_commands.specs.PromiseRead.{IsReadAsGoodPlan, IsReadAsGoodCircle}
use Rattle.wq_commands.specs.YesIsTrue.{IsTrueOfPlan, IsTrueOfCircle, YesIsTrue}
use Rattle.wq_commands.proofs.TextLength.{length-circled}
use Rattle.wq_commands.proofs.AnswerLemmas.{
  IsSound,
  IsSound-declaration,
  IsDeclaration-sound,
  ArePrintable,
  ArePrintable-plan,
  ArePrintable-walked,
}
use Rattle.wq_commands.proofs.CircleRuns.{DeadlocksBy-own_lanes, IsAssignmentOf-own_lanes}
use Rattle.wq_commands.proofs.NamedSteps.{IsStepOf-deadlock}

some_same : (a b : ℕ × ℕ) → Some a ≡ Some b → a ≡ b
some_same a b e = cc

-- a list of no length is empty
length_zero : (xs : List (ℕ × ℕ)) → length xs ≡ 0 → xs ≡ []
length_zero [] e = refl
length_zero (x ∷ xs) e = absurd (omega (arith, e))

-- one group more than arcs, and none if there is no lane
chain_length : (lanes n : ℕ) → n ≡ lanes - 1 → (if lanes == 0 then 0 else n + 1) ≡ lanes
chain_length zero n e = refl
chain_length (suc lanes) n e = ap (λ (b : Bool). cond b 0 (n + 1)) (ne_eqb (suc lanes) 0 (λ is. omega (arith, is))) ∙
    omega (arith, e)

-- ---- printed arcs join

module _ (s : Declared) (printed : List WaitArc) (none : WaitArc)
    (declared : All (IsArc s.table.waits s.partition.group_of) printed)
    (adjacent : AllAdjacentBelow (λ (x y : WaitArc). slice_index s.partition.group_of x.dst ≡ slice_index
    s.partition.group_of y.src) printed (length printed)) where
  abbrev arcs : List (ℕ × ℕ)
  arcs = map ends_of printed

  abbrev at : ℕ → WaitArc
  at k = get_or printed k none

  ends_at : (k : ℕ) → k < length printed → slice_get arcs k ≡ Some (ends_of (at k))
  ends_at k within = slice_get-map ends_of printed k ∙ ap (λ (o : Option WaitArc). option_map ends_of o)
      (slice_get-get_or printed k none within)

  waits_at : (k : ℕ) → k < length printed → ItemWaits s.table.waits (at k).src (at k).dst
  waits_at k within = let d = (declared k none within).declared in (d.0, d.1, d.2, d.3, d.4.0)

  joined : (before : Option (ℕ × ℕ)) (b : WaitArc) (k : ℕ) → before ≡ Some (ends_of b) → k < length printed
      → slice_index s.partition.group_of b.dst ≡ slice_index s.partition.group_of (at k).src → Joins (declared_waits s)
      before (ends_of (at k))
  joined before b k is within share = subst (λ (o : Option (ℕ × ℕ)). Joins (declared_waits s) o (ends_of (at k)))
      (sym is) (waits_at k within, share)

  module _ (first : Option (ℕ × ℕ)) (starts : 0 < length printed → Joins (declared_waits s) first (ends_of (at 0)))
    where
      joins_at : (k : ℕ) → k < length printed → Joins (declared_waits s) (before_from first arcs k) (ends_of (at k))
      joins_at zero within = starts within
      joins_at (suc k) within =
          let here : k < length printed = omega (arith, within) in
          let less : suc k - 1 ≡ k = omega arith in
          let next : k + 1 ≡ suc k = omega arith in
          let behind : before_from first arcs (suc k) ≡ slice_get arcs (suc k - 1) =
          ap (λ (b : Bool). cond b first (slice_get arcs (suc k - 1)))
          (ne_eqb (suc k) 0 (λ is. omega (arith, is))) in
          joined (before_from first arcs (suc k)) (at k) (suc k)
          (behind ∙ ap (slice_get arcs) less ∙ ends_at k here)
          within
          (subst (λ n. slice_index s.partition.group_of (at k).dst ≡ slice_index s.partition.group_of (at n).src) next
          (adjacent k none (omega (arith, within))))

      AllJoin-printed : AllJoin (declared_waits s) (before_from first arcs) arcs
      AllJoin-printed k arc stands =
          let within : k < length printed = subst (λ n. k < n) (length-map printed ends_of)
          (slice_get_within arcs k arc stands) in
          let same : ends_of (at k) ≡ arc = some_same (ends_of (at k)) arc (sym (ends_at k within) ∙ stands) in
          subst (Joins (declared_waits s) (before_from first arcs k)) same (joins_at k within)

-- the arcs of a circle lead round
AllJoin-circle : (s : Declared) (circle : List WaitArc) (round : IsCircleOfGroups (declared_waits s) circle) → AllJoin
    (declared_waits s) (before_in_circle (map ends_of circle)) (map ends_of circle)
AllJoin-circle s circle round =
    let ends = map ends_of circle in
    let last : slice_get ends (length ends - 1) ≡ Some (ends_of round.ends) =
    ap (λ n. slice_get ends (n - 1)) (length-map circle ends_of) ∙ slice_get-map ends_of circle (length circle - 1)
    ∙ ap (λ (o : Option WaitArc). option_map ends_of o) round.last in
    AllJoin-printed s circle round.first round.declared round.joined (slice_get ends (length ends - 1))
    (λ some. joined s circle round.first round.declared round.joined (slice_get ends (length ends - 1)) round.ends 0
    last some
    (round.closes ∙ ap (λ (b : WaitArc). slice_index s.partition.group_of b.src)
    (sym (get_or_from_slice_get circle 0 round.first round.first round.begins))))

-- the arcs of a chain follow one another
AllJoin-chain : (s : Declared) (a : Assignment) (chain : List WaitArc) → IsLongestChain (declared_waits s) a chain →
    AllJoin (declared_waits s) (before_in_chain (map ends_of chain)) (map ends_of chain)
AllJoin-chain s a chain longest =
    let none : WaitArc = record { src = 0; dst = 0; head = 0; place = 0 } in
    let declared : All (IsArc s.table.waits s.partition.group_of) chain = λ k x within.
    (longest.down.arcs k x within).declared in
    AllJoin-printed s chain none declared longest.down.joined None
    (λ some. waits_at s chain none declared longest.down.joined 0 some)

-- ---- each flush falls

AllFall-plan : (s : Declared) → IsSound s → (a : Assignment) → IsPlan (declared_waits s) a → AllFall (declared_waits s)
    a
AllFall-plan s sound a plan i j declared =
    let d = declared_waits s in
    let is = IsDeclaration-sound s sound in
    IsPlan-falls d a plan (slice_index d.group_of i) (slice_index d.group_of j)
    (is.partition.within i 0 (waiting-item d is i j declared)) (GroupWaits-items d is i j declared)

-- ---- arcs that lead through groups, and round

-- a chain along arcs is one that they lead through
LeadThrough-along : (d : Declaration) (arcs : List (ℕ × ℕ)) (groups : List ℕ) → IsChainAlong d arcs groups → LeadThrough
    d arcs groups
LeadThrough-along d _ groups is = record { within = is.within; count = is.count; along = is.along }

-- what comes before an arc that isn't the first doesn't depend on what comes before the first
before_from-suc : (first : Option (ℕ × ℕ)) (arcs : List (ℕ × ℕ)) (k : ℕ) → before_from first arcs (suc k) ≡ slice_get
    arcs (suc k - 1)
before_from-suc first arcs k = ap (λ (b : Bool). cond b first (slice_get arcs (suc k - 1)))
    (ne_eqb (suc k) 0 (λ is. omega (arith, is)))

Joins-declared : (d : Declaration) (before : Option (ℕ × ℕ)) (arc : ℕ × ℕ) → Joins d before arc → ItemWaits d.waits
    arc.0 arc.1
Joins-declared d None arc joins = joins
Joins-declared d (Some before) arc joins = joins.0

-- arcs that join in a circle join in a chain
AllJoin-opened : (d : Declaration) (first : Option (ℕ × ℕ)) (arcs : List (ℕ × ℕ)) → AllJoin d (before_from first arcs)
    arcs → AllJoin d (before_in_chain arcs) arcs
AllJoin-opened d first _ joined zero arc stands = Joins-declared d first arc (joined zero arc stands)
AllJoin-opened d first arcs joined (suc k) arc stands =
    subst (λ (o : Option (ℕ × ℕ)). Joins d o arc) (before_from-suc first arcs k ∙ sym (before_from-suc None arcs k))
    (joined (suc k) arc stands)

-- arcs that join in a circle lead round
LeadRound-joined : (d : Declaration) → IsDeclaration d → (arcs : List (ℕ × ℕ)) → 0 < length arcs → AllJoin d
    (before_in_circle arcs) arcs → LeadRound d arcs
LeadRound-joined d is arcs some joined =
    let none : ℕ × ℕ = (0, 0) in
    let end : ℕ = length arcs - 1 in
    let first : ℕ × ℕ = get_or arcs 0 none in
    let last : ℕ × ℕ = get_or arcs end none in
    let begins : slice_get arcs 0 ≡ Some first = slice_get-get_or arcs 0 none some in
    let ends : slice_get arcs end ≡ Some last = slice_get-get_or arcs end none (omega (arith, some)) in
    let chain = chain_of_groups d is (length arcs + 1) arcs (AllJoin-opened d (slice_get arcs (length arcs - 1)) arcs
    joined) (omega arith) (λ one. absurd (omega (arith, one, some))) in
    let share : slice_index d.group_of last.1 ≡ slice_index d.group_of first.0 =
    (subst (λ (o : Option (ℕ × ℕ)). Joins d o first) ends (joined 0 first begins)).1 in
    let next : length arcs ≡ end + 1 = omega (arith, some) in
    record {
      groups = chain.0;
      through = LeadThrough-along d arcs chain.0 chain.1;
      some = some;
      closes = ap (slice_get chain.0) next ∙ (chain.1.along end last ends).2 ∙ ap (λ (g : ℕ). Some g) share ∙ sym
          (chain.1.along 0 first begins).1;
    }

-- ---- what is printed

module _ (s : Declared) (sound : IsSound s) where
  ShowsPlan-printed : (a : Assignment) → IsPlan (declared_waits s) a → ShowsPlan s (text_of_plan s a)
  ShowsPlan-printed a plan =
      let d = declared_waits s in
      let is = IsDeclaration-sound s sound in
      let chain = chain_of_plan d a.lane_of_group in
      let arcs = map ends_of chain in
      let longest : IsLongestChain d a chain = chain_of-longest d is a plan in
      let few : a.lanes ≤ d.groups = IsPlan-lanes d is a plan in
      let many : length arcs ≡ length chain = length-map chain ends_of in
      let prints : ArePrintable s.table arcs = ArePrintable-plan s a sound plan in
      let least = IsLeast-plan d a is plan in
      let short : length arcs ≤ 4095 = omega (
        arith,
        many,
        longest.down.count,
        few,
        is.partition.few_groups,
        is.partition.few_items,
      ) in
      let none : a.lanes ≡ 0 → arcs ≡ [] = λ zero_lanes. length_zero arcs
      (omega (arith, many, longest.down.count, zero_lanes)) in
      let long : (if a.lanes == 0 then 0 else length arcs + 1) ≡ a.lanes = chain_length a.lanes (length arcs)
      (omega (arith, many, longest.down.count)) in
      let lanes : a.lanes ≤ 4096 = omega (arith, few, is.partition.few_groups, is.partition.few_items) in
      let said : PlanCertificate = record {
        assignment = a;
        length = if a.lanes == 0 then 0 else length arcs + 1;
        arcs =
            arcs;
      } in
      let read = answer_of-plan s.table s.partition a arcs sound.table sound.partition sound.one_group_each
      least.assignment lanes prints.items short none in
      let spells = SpellsCertificate-answer_of s.table.names s.partition (sym sound.one_group_each) (text_of_plan s a)
      (OfPlan said) read in
      let good : IsGoodPlan d said = record {
        falls = AllFall-plan s sound a plan;
        long = long;
        has_group = λ lacks. absurd (omega (arith, long, few, lacks.0, lacks.1));
        joined = AllJoin-chain s a chain longest;
      } in
      let along = IsChainAlong-good d is said (IsAsked-read s (text_of_plan s a) (OfPlan said) sound read) good in
      record {
        kept = record {
          assignment = a;
          arcs = arcs;
          text = refl;
          least = least;
          groups = along.0;
          leads =
              LeadThrough-along d arcs along.0 along.1;
          long = along.2;
        };
        plan = record { assignment = a; length = a.lanes; arcs = arcs };
        is_plan = refl;
        limits = spells.0;
        spelled = subst (λ (n : ℕ). SpellsPlan s.table.names s.partition (words_of_text (text_of_plan s a))
            (record { assignment = a; length = n; arcs = arcs })) long spells.1;
        falls = good.falls;
        is_chain = along.1;
      }

  ShowsCircle-printed : (circle : List WaitArc) (steps : List Step) → IsWalkedCircle (group_graph (declared_waits s))
      circle
      → IsCircleRun (wiring (declared_waits s) (own_lanes s.partition.groups)) circle steps → ShowsCircle s
      (text_of_circle s circle steps)
  ShowsCircle-printed circle steps walked is_run =
      let d = declared_waits s in
      let is = IsDeclaration-sound s sound in
      let arcs = map ends_of circle in
      let round : IsCircleOfGroups d circle = IsCircleOfGroups-walked d is circle walked in
      let many : length arcs ≡ length circle = length-map circle ends_of in
      let prints : ArePrintable s.table arcs = ArePrintable-walked s circle arcs sound walked refl in
      let some : 0 < length circle = slice_get_within circle 0 round.first round.begins in
      let some_arc : 0 < length arcs = omega (arith, some, many) in
      let deadlocks = DeadlocksBy-own_lanes s sound circle steps walked is_run in
      let said : CircleCertificate = record { arcs = arcs; steps = Some steps } in
      let read = answer_of-circle s.table sound.table s.partition arcs (Some steps) some_arc prints.few prints.items
      (IsStepOf-deadlock s sound (own_lanes s.partition.groups) (IsAssignmentOf-own_lanes s sound) steps deadlocks)
      (length-circled s sound circle steps walked is_run) in
      let spells = SpellsCertificate-answer_of s.table.names s.partition (sym sound.one_group_each)
      (text_of_circle s circle steps) (OfCircle said) read in
      let joined = AllJoin-circle s circle round in
      record {
        kept = record {
          arcs = arcs;
          behind = flat_map line_text (run_lines s.table.names steps);
          text = flat_map-append line_text (circle_line arcs ∷ map (arc_line s.table.names) arcs)
              (run_lines s.table.names steps);
          leads = LeadRound-joined d is arcs some_arc joined;
          deadlocks = (IsCircled-from_walk d is circle walked).deadlocks;
        };
        steps = steps;
        text = refl;
        circle = said;
        is_circle = refl;
        limits = spells.0;
        spelled = spells.1;
        goes_round = IsCircleAlong-good d is said (IsAsked-read s (text_of_circle s circle steps) (OfCircle said) sound
            read) joined;
        run_deadlocks = deadlocks;
      }

-- ---- any answer

ShowsDeclared-answers : (s : Declared) (end : End) (out : List ℕ) → IsSound s → AnswersDeclared s end out →
    ShowsDeclared s end out
ShowsDeclared-answers s Good out sound prints = subst (ShowsPlan s) (sym prints.text)
    (ShowsPlan-printed s sound prints.assignment prints.plan)
ShowsDeclared-answers s Bad out sound prints = subst (ShowsCircle s) (sym prints.text)
    (ShowsCircle-printed s sound prints.circle prints.steps prints.walked prints.is_run)
ShowsDeclared-answers s Refused out sound answers = absurd answers

shows : (declared : Result Declared Refusal) (end : End) (out : List ℕ) → ((s : Declared) → declared ≡ Ok s → IsSound s)
    → MatchResult declared (λ s. AnswersDeclared s end out) (λ r. (end ≡ Refused) × (out ≡ refusal_text r)) →
    MatchResult declared (λ s. ShowsDeclared s end out) (λ r. end ≡ Refused)
shows (Ok s) end out sound answers = ShowsDeclared-answers s end out (sound s refl) answers
shows (Err r) end out sound answers = answers.0

-- an answer shows what it promises
pub ShowsAnswer-answers : (text : List ℕ) (end : End) (out : List ℕ) → Answers text end out → ShowsAnswer text end out
ShowsAnswer-answers text end out answers = shows (declaration text) end out (IsSound-declaration text) answers

KeepsDeclared-shown : (s : Declared) (end : End) (out : List ℕ) → ShowsDeclared s end out → KeepsDeclared (named_of s)
    end out
KeepsDeclared-shown s Good out shown = shown.kept
KeepsDeclared-shown s Bad out shown = shown.kept
KeepsDeclared-shown s Refused out shown = absurd shown

keeps : (declared : Result Declared Refusal) (end : End) (out : List ℕ) → MatchResult declared
    (λ s. ShowsDeclared s end out) (λ r. end ≡ Refused)
    → MatchOption (option_map named_of (result_ok declared)) (end ≡ Refused) (λ s. KeepsDeclared s end out)
keeps (Ok s) end out shown = KeepsDeclared-shown s end out shown
keeps (Err r) end out refused = refused

-- and keeps it
pub KeepsPromise-answers : (text : List ℕ) (end : End) (out : List ℕ) → Answers text end out → KeepsPromise text end out
KeepsPromise-answers text end out answers =
    subst (λ (o : Option Named). MatchOption o (end ≡ Refused) (λ s. KeepsDeclared s end out))
    (sym (declared_in-declaration text)) (keeps (declaration text) end out
    (ShowsAnswer-answers text end out answers))

pub KeepsPromiseOfInput-answered : {R : Type 0} {remaining : R → Option (List ℕ)} {old new : Meter R} (end : End)
    (out : List ℕ)
    → AnswersInput remaining old new end out → KeepsPromiseOfInput remaining old new end out
KeepsPromiseOfInput-answered end out answered = record {
  answered = answered;
  promise = KeepsPromise-answers
      answered.text end out answered.answer;
}

pub ShowsAnswerOfInput-answered : {R : Type 0} {remaining : R → Option (List ℕ)} {old new : Meter R} (end : End)
    (out : List ℕ)
    → AnswersInput remaining old new end out → ShowsAnswerOfInput remaining old new end out
ShowsAnswerOfInput-answered end out answered = record {
  answered = answered;
  shown = ShowsAnswer-answers answered.text
      end out answered.answer;
}

-- ---- what the readers read of it, and what the checker says

-- a chain along arcs follows them: each arc leaves the group that the one before it led to
AllJoin-along : (d : Declaration) (arcs : List (ℕ × ℕ)) (groups : List ℕ) → IsChainAlong d arcs groups → AllJoin d
    (before_in_chain arcs) arcs
AllJoin-along d arcs groups is zero arc stands = (is.along 0 arc stands).0
AllJoin-along d arcs groups is (suc k) arc stands =
    let here : k < length arcs = omega (arith, slice_get_within arcs (suc k) arc stands) in
    let before = get_or arcs k arc in
    let there : slice_get arcs k ≡ Some before = slice_get-get_or arcs k arc here in
    let less : suc k - 1 ≡ k = omega arith in
    let next : k + 1 ≡ suc k = omega arith in
    let found : before_in_chain arcs (suc k) ≡ Some before =
    ap (λ (b : Bool). cond b None (slice_get arcs (suc k - 1))) (ne_eqb (suc k) 0 (λ is. omega (arith, is))) ∙ ap
    (slice_get arcs) less ∙ there in
    let led = is.along k before there in
    let leaves = is.along (suc k) arc stands in
    let same : slice_index d.group_of before.1 ≡ slice_index d.group_of arc.0 =
    same_number _ _ (sym led.2 ∙ ap (slice_get groups) next ∙ leaves.1) in
    subst (λ (o : Option (ℕ × ℕ)). Joins d o arc) (sym found) (leaves.0, same)
  where
    same_number : (m n : ℕ) → Some m ≡ Some n → m ≡ n
    same_number m n e = cc

module _ (s : Declared) (sound : IsSound s) (out : List ℕ) where
  pub IsReadAsGoodPlan-shown : (shown : ShowsPlan s out) → IsReadAsGoodPlan s out shown.plan
  IsReadAsGoodPlan-shown shown =
      let said : shown.plan.length ≡ shown.kept.assignment.lanes = ap (λ (p : PlanCertificate). p.length) shown.is_plan
      in
      let of_kept : shown.plan.assignment.lanes ≡ shown.kept.assignment.lanes = ap
      (λ (p : PlanCertificate). p.assignment.lanes) shown.is_plan in
      record {
        read = answer_of-spelled s.table.names s.partition (sym sound.one_group_each) sound.table.distinct out
            (OfPlan shown.plan) (shown.limits, shown.spelled);
        assignment = assignment_of_text-spelled s.table.names s.partition (sym sound.one_group_each)
            sound.table.distinct out shown.plan.assignment (shown.limits, inr (shown.plan, shown.spelled, refl));
        good = record {
          falls = shown.falls;
          long = said ∙ sym of_kept;
          has_group = λ lacks. absurd (omega (
            arith,
            shown.is_chain.within 0 0
                (omega (arith, shown.kept.long, said, lacks.0)),
            lacks.1,
          ));
          joined = AllJoin-along (declared_waits s) shown.plan.arcs shown.kept.groups shown.is_chain;
        };
      }

  pub IsReadAsGoodCircle-shown : (shown : ShowsCircle s out) → IsReadAsGoodCircle s out shown.circle
  IsReadAsGoodCircle-shown shown =
      let run : shown.circle.steps ≡ Some shown.steps = ap (λ (c : CircleCertificate). c.steps) shown.is_circle in
      record {
        read = answer_of-spelled s.table.names s.partition (sym sound.one_group_each) sound.table.distinct out
            (OfCircle shown.circle) (shown.limits, shown.spelled);
        good = record {
          joined = shown.goes_round.joined;
          deadlocks = subst (ShowsDeadlock (declared_waits s)) (sym run)
              shown.run_deadlocks;
        };
      }

-- the line that the checker answers to what is printed
pub Checks-answers : (text out : List ℕ) (end : End) → Answers text end out → ChecksYes text out end
Checks-answers text out end answers = checked (declaration text) end (IsSound-declaration text)
    (ShowsAnswer-answers text end out answers)
  where
    plan_checked : (s : Declared) → IsSound s → ShowsPlan s out → ChecksYesPlan s out
    plan_checked s sound shown =
        let is = IsReadAsGoodPlan-shown s sound out shown in
        record {
          plan = shown.plan;
          read = is.read;
          assignment = is.assignment;
          checked = MatchResult-ok (answer_of s.table.names s.partition out) (OfPlan shown.plan) _ _ is.read
              (Ok (yes.Plan shown.plan.assignment.lanes), (is.good, refl), (refl, refl));
        }

    circle_checked : (s : Declared) → IsSound s → ShowsCircle s out → ChecksYesCircle s out
    circle_checked s sound shown =
        let is = IsReadAsGoodCircle-shown s sound out shown in
        record {
          circle = shown.circle;
          read = is.read;
          checked = MatchResult-ok (answer_of s.table.names s.partition out) (OfCircle shown.circle) _ _ is.read
              (Ok (yes.Circle (length shown.circle.arcs)), (is.good, refl), (refl, refl));
        }

    checked : (declared : Result Declared Refusal) (end : End) → ((s : Declared) → declared ≡ Ok s → IsSound s)
        → MatchResult declared (λ s. ShowsDeclared s end out) (λ r. end ≡ Refused) → ChecksYesOf declared out end
    checked (Ok s) Good sound shown = plan_checked s (sound s refl) shown
    checked (Ok s) Bad sound shown = circle_checked s (sound s refl) shown
    checked (Ok s) Refused sound shown = absurd shown
    checked (Err r) Good sound shown = absurd cc
    checked (Err r) Bad sound shown = absurd cc
    checked (Err r) Refused sound shown = tt

-- ---- a yes is true

module _ (s : Declared) (sound : IsSound s) (claim out : List ℕ) where
  -- if a plan is read
  yes_to_plan : (plan : PlanCertificate) → answer_of s.table.names s.partition claim ≡ Ok (OfPlan plan) →
      (answer : Result Yes No)
      → AnswersPlan (declared_waits s) plan answer → PrintsCheck s.table.names answer Good out → IsTrueOfPlan s claim
      out
  yes_to_plan plan read (Ok (yes.Plan number)) answers prints =
      let d = declared_waits s in
      let is = IsDeclaration-sound s sound in
      let asked = IsAsked-read s claim (OfPlan plan) sound read in
      let along = IsChainAlong-good d is plan asked answers.0 in
      record {
        plan = plan;
        read = read;
        printed = prints.1 ∙ ap (λ n. line_text (yes_words (yes.Plan n))) answers.1;
        least = IsLeast-good d is plan asked answers.0;
        chain = along.0;
        is_chain = along.1;
        long = along.2;
      }
  yes_to_plan plan read (Ok (yes.Circle n)) answers prints = absurd answers
  yes_to_plan plan read (Err reason) answers prints = absurd cc

  -- if a circle is read
  yes_to_circle : (circle : CircleCertificate) → answer_of s.table.names s.partition claim ≡ Ok (OfCircle circle) →
      (answer : Result Yes No)
      → AnswersCircle (declared_waits s) circle answer → PrintsCheck s.table.names answer Good out → IsTrueOfCircle s
      claim out
  yes_to_circle circle read (Ok (yes.Plan number)) answers prints = absurd answers
  yes_to_circle circle read (Ok (yes.Circle n)) answers prints =
      let d = declared_waits s in
      let is = IsDeclaration-sound s sound in
      let asked = IsAsked-read s claim (OfCircle circle) sound read in
      let joined = answers.0.joined in
      record {
        circle = circle;
        read = read;
        printed = prints.1 ∙ ap (λ m. line_text (yes_words (yes.Circle m))) answers.1;
        goes_round = IsCircleAlong-good d is circle asked joined;
        deadlocks = Deadlocks-any d is circle asked joined;
      }
  yes_to_circle circle read (Err reason) answers prints = absurd cc

  yes_to_certificate : (c : Certificate) → answer_of s.table.names s.partition claim ≡ Ok c → AnswersCheck s c Good out
      → IsTrueOfPlan s claim out ⊎ IsTrueOfCircle s claim out
  yes_to_certificate (OfPlan plan) read checks = inl (yes_to_plan plan read checks.0 checks.1 checks.2)
  yes_to_certificate (OfCircle circle) read checks = inr (yes_to_circle circle read checks.0 checks.1 checks.2)

  yes_to_claim : (r : Result Certificate CertError) → answer_of s.table.names s.partition claim ≡ r
      → MatchResult r (λ c. AnswersCheck s c Good out) (λ fault. PrintsRefusal (cert_refusal fault) Good out) →
      IsTrueOfPlan s claim out ⊎ IsTrueOfCircle s claim out
  yes_to_claim (Ok c) read checks = yes_to_certificate c read checks
  yes_to_claim (Err fault) read refused = absurd cc

yes_to_declared : (declared : Result Declared Refusal) (claim out : List ℕ) →
    ((s : Declared) → declared ≡ Ok s → IsSound s)
    → MatchResult declared (λ s. ChecksDeclared s claim Good out) (λ r. PrintsRefusal r Good out)
    → MatchResult declared (λ s. IsTrueOfPlan s claim out ⊎ IsTrueOfCircle s claim out) (λ r. ⊥)
yes_to_declared (Ok s) claim out sound checks = yes_to_claim s (sound s refl) claim out
    (answer_of s.table.names s.partition claim) refl checks
yes_to_declared (Err r) claim out sound refused = absurd cc

-- a yes that is printed is true
pub YesIsTrue-checks : (text claim out : List ℕ) → Checks text claim Good out → YesIsTrue text claim out
YesIsTrue-checks text claim out checks = yes_to_declared (declaration text) claim out (IsSound-declaration text) checks

pub KeepsYesOfInput-answered : {D C : Type 0} {known : D → Option (List ℕ)} {certified : C → Option (List ℕ)}
    {old new : Meter D} {c_old c_new : Meter C} (end : End) (out : List ℕ)
    → ChecksInput known certified old new c_old c_new end out → KeepsYesOfInput known certified old new c_old c_new end
    out
KeepsYesOfInput-answered end out answered = record {
  answered = answered;
  promise = λ good. YesIsTrue-checks answered.text answered.claim out
      (subst (λ (e : End). Checks answered.text answered.claim e out) good answered.answer);
}
