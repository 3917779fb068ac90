-- Each certificate has an answer.
use Rattle.std.proofs.Common.{◌≡◌, ℕ, zero, suc, ◌+◌, ◌-◌, ◌<◌, ◌⊎◌, inl, inr, false, List, length, get_or, Option}
use Rattle.std.proofs.Common.{Some, None, Result, Ok, Err, refl, sym, subst, ◌∙◌, arith}
use Rattle.std.specs.Prelude.{slice_get, slice_index}
use Rattle.std.proofs.lemmas.Bool.{cases_eq}
use Rattle.std.proofs.lemmas.List.{get_or_default}
use Rattle.std.proofs.lemmas.Option.{slice_get_within}
use Rattle.wq_items.specs.declared.target.Target.{Target}
use Rattle.wq_items.specs.Table.{targets_of}
use Rattle.wq_items.proofs.Tables.{targets_of-rise}
use Rattle.wq_groups.specs.Declaration.{Declaration, IsDeclaration}
use Rattle.wq_groups.specs.Assignment.{Assignment, item_lane}
use Rattle.wq_core.specs.declared.step.Step.{Step}
use Rattle.wq_core.specs.Wiring.{wiring, own_lanes}
use Rattle.wq_cert.specs.Certificate.{PlanCertificate, CircleCertificate, Certificate, OfPlan, OfCircle}
use Rattle.wq_checker.specs.declared.answer.Yes.{Yes}
use Rattle.wq_checker.specs.declared.answer.Yes.TheVariants as yes
use Rattle.wq_checker.specs.declared.answer.No.{No}
use Rattle.wq_checker.specs.declared.answer.No.TheVariants.{NotFalling, LengthDiffers, ChainBroken, CircleBroken}
use Rattle.wq_checker.specs.declared.answer.No.TheVariants.{RunBroken}
use Rattle.wq_checker.specs.declared.falling.DeclaredFlush.{DeclaredFlush}
use Rattle.wq_checker.specs.Chains.{Joins, AllJoin, IsFirstBreak, before_in_chain, before_in_circle}
use Rattle.wq_checker.specs.Falling.{Falls, AllFall, Declares, IsFirstNotFalling}
use Rattle.wq_checker.specs.Searching.{FindsFirst, OfItem, OfItemsBelow, earlier}
use Rattle.wq_checker.specs.Answers.{AnswersPlan, AnswersCircle, AnswersCertificate, ShowsDeadlock}
use Rattle.wq_checker.proofs.Decided.{Decided, both, alike, cases_below, cases_Any, first_below}
use Rattle.wq_checker.proofs.FallingLemmas.{IsFirstOf-item, FindsFirst-earlier, IsFirstNotFalling-found, AllFall-found}
use Rattle.wq_checker.proofs.RunsDecided.{cases_DeadlocksBy}

-- ---- flushes that fall

module _ (d : Declaration) (is : IsDeclaration d) (a : Assignment) where
  cases_Falls : (i j : ℕ) → Decided (Falls d a i j)
  cases_Falls i j = cases_below (item_lane a d.group_of j) (item_lane a d.group_of i)

  -- any target
  abbrev nothing : Target
  nothing = record { item = 0; whole = false; unsure = false; place = 0 }

  -- the target of item i at place k of its list falls
  abbrev falls_at : ℕ → ℕ → Type 0
  falls_at i k = Falls d a i (get_or (targets_of d.waits i) k nothing).item

  first_of : (i : ℕ) → (o : Option DeclaredFlush) × FindsFirst (Falls d a) (OfItem d i) o
  first_of i = found
      (first_below (falls_at i) (λ k. cases_Falls i (get_or (targets_of d.waits i) k nothing).item)
      (length (targets_of d.waits i)))
    where
      found : ((k : ℕ) → k < length (targets_of d.waits i) → falls_at i k) ⊎
          ((m : ℕ) × (m < length (targets_of d.waits i)) × (¬ falls_at i m) × ((k : ℕ) → k < m → falls_at i k))
          → (o : Option DeclaredFlush) × FindsFirst (Falls d a) (OfItem d i) o
      found (inl each) = (
        None,
        λ k target of. (
            let there : Declares d i target = subst (λ (n : ℕ). Declares d n target) of.0 of.1 in
            let at : get_or (targets_of d.waits i) there.0 nothing ≡ target =
            get_or_default (targets_of d.waits i) there.0 nothing target there.1 ∙ there.2 in
            subst (λ (n : ℕ). Falls d a n target.item) (sym of.0)
            (subst (λ (t : Target). Falls d a i t.item) at (each there.0 there.1))
            ),
      )
      found (inr (m, within, fails, before)) =
          let target : Target = get_or (targets_of d.waits i) m nothing in (
            Some (record { item = i; target = target }),
            IsFirstOf-item d (Falls d a) i m target (targets_of-rise d.waits i is.places_rise) within
                (get_or_default (targets_of d.waits i) m nothing target within) fails
                (λ k e less. subst (λ (t : Target). Falls d a i t.item)
                (get_or_default (targets_of d.waits i) k nothing e (omega (arith, less, within))) (before k less)),
          )

  first_of_all : (n : ℕ) → (o : Option DeclaredFlush) × FindsFirst (Falls d a) (OfItemsBelow d n) o
  first_of_all zero = (None, λ k target of. absurd (omega (arith, of.0)))
  first_of_all (suc n) =
      let low = first_of_all n in
      let last = first_of n in (
        earlier low.0 last.0,
        subst (λ (m : ℕ). FindsFirst (Falls d a) (OfItemsBelow d m) (earlier low.0 last.0))
            (let e : n + 1 ≡ suc n = omega arith in e) (FindsFirst-earlier d (Falls d a) n low.0 last.0 low.1 last.1),
      )

  cases_fall : AllFall d a ⊎ ((i j : ℕ) × IsFirstNotFalling d a i j)
  cases_fall = of (first_of_all (length d.waits)).0 (first_of_all (length d.waits)).1
    where
      of : (o : Option DeclaredFlush) → FindsFirst (Falls d a) (OfItemsBelow d (length d.waits)) o
          → AllFall d a ⊎ ((i j : ℕ) × IsFirstNotFalling d a i j)
      of None found = inl (AllFall-found d a (length d.waits) (omega arith) found)
      of (Some flush) found =
          inr (flush.item, flush.target.item, IsFirstNotFalling-found d a (length d.waits) flush (omega arith) found)

-- ---- arcs that join

module _ (d : Declaration) where
  cases_Joins : (o : Option (ℕ × ℕ)) (arc : ℕ × ℕ) → Decided (Joins d o arc)
  cases_Joins None arc = cases_Any (λ (t : Target). t.item ≡ arc.1) (λ t. cases_eq t.item arc.1)
      (targets_of d.waits arc.0)
  cases_Joins (Some before) arc =
      both (cases_Any (λ (t : Target). t.item ≡ arc.1) (λ t. cases_eq t.item arc.1) (targets_of d.waits arc.0))
      (cases_eq (slice_index d.group_of before.1) (slice_index d.group_of arc.0))

  module _ (before : ℕ → Option (ℕ × ℕ)) (arcs : List (ℕ × ℕ)) where
    -- the arc at k, if there is one, joins
    abbrev joins_at : ℕ → Type 0
    joins_at k = (arc : ℕ × ℕ) → slice_get arcs k ≡ Some arc → Joins d (before k) arc

    cases_at : (k : ℕ) → Decided (joins_at k)
    cases_at k = of (slice_get arcs k) refl
      where
        of : (o : Option (ℕ × ℕ)) → slice_get arcs k ≡ o → Decided (joins_at k)
        of None none = inl (λ arc stands. absurd (let e : None ≡ Some arc = sym none ∙ stands in cc))
        of (Some arc) here =
            alike (λ (joins : Joins d (before k) arc) other stands.
            (let same : arc ≡ other = (let e : Some arc ≡ Some other = sym here ∙ stands in cc) in
            subst (Joins d (before k)) same joins))
            (λ (each : joins_at k). each arc here) (cases_Joins (before k) arc)

    IsFirstBreak-at : (m : ℕ) → (¬ joins_at m) → ((k : ℕ) → k < m → joins_at k) → IsFirstBreak d before arcs (m + 1)
    IsFirstBreak-at m fails first = of (slice_get arcs m) refl
      where
        of : (o : Option (ℕ × ℕ)) → slice_get arcs m ≡ o → IsFirstBreak d before arcs (m + 1)
        of None none = absurd (fails (λ arc stands. absurd (let e : None ≡ Some arc = sym none ∙ stands in cc)))
        of (Some arc) here =
            let same : m ≡ m + 1 - 1 = omega arith in
            let breaks : ¬ Joins d (before m) arc =
            λ joins. fails
            (λ other stands.
            (let one : arc ≡ other = (let e : Some arc ≡ Some other = sym here ∙ stands in cc) in
            subst (Joins d (before m)) one joins)) in
            record {
              from_one = omega arith;
              arc = arc;
              stands = subst (λ (n : ℕ). slice_get arcs n ≡ Some arc) same here;
              breaks = subst (λ (n : ℕ). ¬ Joins d (before n) arc) same breaks;
              first = λ k other less stands. first k (omega (arith, less)) other stands;
            }

    cases_joined : AllJoin d before arcs ⊎ ((at : ℕ) × IsFirstBreak d before arcs at)
    cases_joined = elim (first_below joins_at cases_at (length arcs)) [
      | inl each ↦ inl (λ k arc stands. each k (slice_get_within arcs k arc stands) arc stands)
      | inr first ↦ inr (first.0 + 1, IsFirstBreak-at first.0 first.2 first.3)
    ]

-- ---- answers

module _ (d : Declaration) (is : IsDeclaration d) where
  answer_to_plan : (c : PlanCertificate) → (r : Result Yes No) × AnswersPlan d c r
  answer_to_plan c = elim (cases_fall d is c.assignment) [
    | inr stays ↦ (Err (NotFalling stays.0 stays.1), stays.2)
    | inl falls ↦ elim (cases_eq c.length c.assignment.lanes) [
      | inr differs ↦ (Err LengthDiffers, (falls, differs))
      | inl long ↦ elim (both (cases_eq c.length 1) (cases_eq d.groups 0)) [
        | inl lacks ↦ (Err (ChainBroken 0), (falls, long, inl (lacks, refl)))
        | inr has ↦ elim (cases_joined d (before_in_chain c.arcs) c.arcs) [
          | inr broken ↦ (Err (ChainBroken broken.0), (falls, long, inr broken.1))
          | inl joined ↦ (
            Ok (yes.Plan c.assignment.lanes),
            (record { falls = falls; long = long; has_group = has; joined = joined }, refl),
          )
        ]
      ]
    ]
  ]

  cases_ShowsDeadlock : (o : Option (List Step)) → Decided (ShowsDeadlock d o)
  cases_ShowsDeadlock None = inl tt
  cases_ShowsDeadlock (Some steps) = cases_DeadlocksBy (wiring d (own_lanes d.groups)) steps

  answer_to_circle : (c : CircleCertificate) → (r : Result Yes No) × AnswersCircle d c r
  answer_to_circle c = elim (cases_joined d (before_in_circle c.arcs) c.arcs) [
    | inr broken ↦ (Err (CircleBroken broken.0), broken.1)
    | inl joined ↦ elim (cases_ShowsDeadlock c.steps) [
      | inl shown ↦ (Ok (yes.Circle (length c.arcs)), (record { joined = joined; deadlocks = shown }, refl))
      | inr not_shown ↦ (Err RunBroken, (joined, not_shown))
    ]
  ]

  pub an_answer : (c : Certificate) → (r : Result Yes No) × AnswersCertificate d c r
  an_answer (OfPlan c) = answer_to_plan c
  an_answer (OfCircle c) = answer_to_circle c
