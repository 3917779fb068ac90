-- Verdicts on assignments: a text has one, and a run that is printed is replayed to a deadlock.
use Rattle.std.proofs.Common.{
  ◌≡◌,
  ℕ,
  ◌⊎◌,
  Bool,
  true,
  false,
  inl,
  inr,
  Option,
  Some,
  None,
  List,
  [],
  ◌∷◌,
  Result,
  Ok,
  Err,
  refl,
  sym,
  ap,
  subst,
  ◌∙◌,
}
use Rattle.std.specs.Prelude.{MatchResult}
use Rattle.wq_text.specs.Refusal.{Refusal}
use Rattle.wq_groups.specs.Declaration.{IsDeclaration}
use Rattle.wq_graph.specs.declared.arc.WaitArc.{WaitArc}
use Rattle.wq_graph.specs.Graph.{lane_graph, IsGraph}
use Rattle.wq_graph.proofs.Graphs.{IsGraph-lane_graph}
use Rattle.wq_graph.proofs.LeavingOut.{IsGraph-without}
use Rattle.wq_levels.proofs.Existence.{AreRanks-or_walk}
use Rattle.wq_levels.proofs.OneCircle.{IsWalkedCircle-unique}
use Rattle.wq_core.specs.declared.step.Step.{Step}
use Rattle.wq_core.specs.Workqueues.{Workqueues, wiring_of}
use Rattle.wq_core.specs.Deadlock.{IsSafe, DeadlocksBy}
use Rattle.wq_deadlock.specs.CircleRun.{flushing_items, IsRunOf}
use Rattle.wq_deadlock.specs.Judging.{bare_waits, rescued_graph, AreFirst, IsHang, AreSafe}
use Rattle.wq_deadlock.proofs.BareLanes.{IsWiring-workqueues, IsKnot-first, IsRunOf-exists, IsHang-run, AreSafe-ranks}
use Rattle.wq_deadlock.proofs.OnlyRun.{same_run_of}
use Rattle.wq_deadlock.proofs.Renumbered.{not_safe-by}
use Rattle.wq_cert.specs.declared.fault.CertError.{CertError}
use Rattle.wq_text.specs.LineText.{line_text}
use Rattle.wq_groups.specs.Assignment.{IsAssignmentOf}
use Rattle.wq_cert.specs.RunText.{run_text}
use Rattle.wq_cert.specs.Part.{has_unsure, made_of, made_reading, reading_text}
use Rattle.wq_cert.specs.Spelled.{KeepsLimits}
use Rattle.wq_cert.specs.Texts.{workqueues_of_text, cert_refusal}
use Rattle.wq_cert.proofs.LanesRead.{AreWorkqueuesOf-workqueues_of_text}
use Rattle.wq_cert.proofs.SpelledAnswers.{KeepsLimits-text_reading}
use Rattle.wq_hang.specs.Walk.{needs}
use Rattle.wq_checker.specs.declared.run.RunEnd.TheVariants.{Deadlock}
use Rattle.wq_commands.specs.declared.end.End.{End}
use Rattle.wq_commands.specs.declared.end.End.TheVariants.{Good, Bad, Refused}
use Rattle.wq_groups.specs.DeclaredGroups.{declared_waits, reading_with_names, Declared}
use Rattle.wq_commands.specs.Answer.{refusal_text, PrintsRefusal}
use Rattle.wq_commands.specs.Deadlocking.{safe_text, PrintsRun, JudgesAssigned, JudgesDeclared, Judges}
use Rattle.wq_commands.specs.Declaration.{DeclaresNoUnsure, declaration}
use Rattle.wq_commands.specs.Replaying.{wiring_read, replay_words, AnswersReplay, ReplaysAssigned, ReplaysDeclared}
use Rattle.wq_commands.specs.Replaying.{ReplaysRun}
use Rattle.wq_commands.proofs.AnswerLemmas.{IsSound, IsSound-declaration, IsDeclaration-sound}
use Rattle.wq_commands.proofs.CheckLemmas.{MatchResult-ok}
use Rattle.wq_commands.proofs.FewestHangs.{IsHangOf-exists}
use Rattle.wq_commands.proofs.ReadingLemmas.{IsSound-reading, IsSafe-reading, deadlock-reading, AreKeptPlaces-needs}
use Rattle.wq_commands.proofs.ReadingLemmas.{not_safe-reading, not_safe-all, made_of-deadlock, made_of-reading}

-- ---- a declaration and an assignment of it

module _ (s : Declared) (sound : IsSound s) (a : Workqueues) (assigned : IsAssignmentOf s.partition.groups a.assignment)
  where
    is_declaration : IsDeclaration (declared_waits s)
    is_declaration = IsDeclaration-sound s sound

    graph : IsGraph (rescued_graph (declared_waits s) a)
    graph = IsGraph-without a.bare (lane_graph (declared_waits s) a.assignment)
        (IsGraph-lane_graph (declared_waits s) a.assignment is_declaration assigned.assignment assigned.few)

    -- ---- the run is printed and read back

    abbrev said : List ℕ
    said = line_text (replay_words Deadlock)

    -- so its text says the steps, and which unsure flushes are kept
    ReplaysAssigned-read : (out : List ℕ) (kept : Option (List ℕ)) (steps : List Step)
        → made_of s.table.names s.table.waits out ≡ Ok (kept, steps) → DeadlocksBy (wiring_read s a kept) steps
        → ReplaysAssigned s a out Bad said
    ReplaysAssigned-read out kept steps read deadlocks =
        MatchResult-ok (made_of s.table.names s.table.waits out) (kept, steps)
        (λ (run : Option (List ℕ) × List Step). AnswersReplay s a run.0 run.1 Bad said)
        (λ fault. PrintsRefusal (cert_refusal fault) Bad said) read
        (record { run_end = Deadlock; ends = deadlocks; status = refl; printed = refl })

    ReplaysAssigned-by : (b : Bool) (out : List ℕ) → has_unsure s.table.waits ≡ b → PrintsRun b s a out
        → ReplaysAssigned s a out Bad said
    ReplaysAssigned-by false out sure (steps, hang, is) =
        ReplaysAssigned-read out None steps
        (ap (made_of s.table.names s.table.waits) is ∙ made_of-deadlock s sound a assigned steps hang.deadlocks)
        hang.deadlocks
    ReplaysAssigned-by true out some (hops, (soonest, hang, steps, own, is)) =
        let kept : List ℕ = needs hops in
        let are = AreKeptPlaces-needs s a hops soonest hang in
        ReplaysAssigned-read out (Some kept) steps
        (ap (made_of s.table.names s.table.waits) is
        ∙ made_of-reading s sound a assigned steps kept are own.deadlocks some)
        (deadlock-reading s a kept steps own.deadlocks)

    ReplaysAssigned-judged : (out : List ℕ) → JudgesAssigned s a Bad out → ReplaysAssigned s a out Bad said
    ReplaysAssigned-judged out judged = ReplaysAssigned-by (has_unsure s.table.waits) out refl judged

    -- what is printed keeps the limits
    pub KeepsLimits-judged : (out : List ℕ) → JudgesAssigned s a Bad out → KeepsLimits out
    KeepsLimits-judged out judged = by (has_unsure s.table.waits) refl judged
      where
        read : (kept : Option (List ℕ)) (steps : List Step) → made_of s.table.names s.table.waits out ≡ Ok (kept, steps)
            → KeepsLimits out
        read kept steps is =
            (KeepsLimits-text_reading (made_reading s.table.names s.table.waits) out (kept, steps) is).0

        by : (b : Bool) → has_unsure s.table.waits ≡ b → PrintsRun b s a out → KeepsLimits out
        by false sure (steps, hang, is) = read None steps
            (ap (made_of s.table.names s.table.waits) is ∙ made_of-deadlock s sound a assigned steps hang.deadlocks)
        by true some (hops, (soonest, hang, steps, own, is)) =
            read (Some (needs hops)) steps (ap (made_of s.table.names s.table.waits) is
            ∙ made_of-reading s sound a assigned steps (needs hops) (AreKeptPlaces-needs s a hops soonest hang)
            own.deadlocks some)

    -- ---- the one verdict

    -- both queue the same items first
    same_first : (waits : List WaitArc) (one other : List ℕ) → AreFirst (declared_waits s) a waits one → AreFirst
        (declared_waits s) a waits other → one ≡ other
    same_first (x ∷ more) one other first second = first ∙ sym second
    same_first [] one other (circle, walked, is) (round, walked_too, is_too) =
        is ∙ ap flushing_items (IsWalkedCircle-unique (rescued_graph (declared_waits s) a) graph circle round walked
        walked_too) ∙ sym is_too

    same_run : (one other : List Step) → IsHang (declared_waits s) a one → IsHang (declared_waits s) a other → one ≡
        other
    same_run one other first second =
        let w = wiring_of (declared_waits s) a in
        let same : first.first ≡ second.first = same_first (bare_waits (declared_waits s) a) first.first second.first
        first.are_first second.are_first in
        same_run_of w second.first one other (subst (λ (is : List ℕ). IsRunOf w is one) same first.is_run) second.is_run

    not_both : (b : Bool) (out : List ℕ) → IsSafe (wiring_of (declared_waits s) a) → PrintsRun b s a out → ⊥
    not_both false out safe (steps, hang, is) =
        not_safe-by (wiring_of (declared_waits s) a) steps hang.deadlocks safe
    not_both true out safe (hops, (soonest, hang, steps, own, is)) = not_safe-all s a hops soonest hang safe

    JudgesAssigned-same_end : (end other : End) (out printed : List ℕ) → JudgesAssigned s a end out → JudgesAssigned s a
        other printed → end ≡ other
    JudgesAssigned-same_end Good Good out printed one two = refl
    JudgesAssigned-same_end Good Bad out printed one two = absurd
        (not_both (has_unsure s.table.waits) printed one.1 two)
    JudgesAssigned-same_end Good Refused out printed one two = absurd two
    JudgesAssigned-same_end Bad Good out printed one two = absurd
        (not_both (has_unsure s.table.waits) out two.1 one)
    JudgesAssigned-same_end Bad Bad out printed one two = refl
    JudgesAssigned-same_end Bad Refused out printed one two = absurd two
    JudgesAssigned-same_end Refused other out printed one two = absurd one

    -- without unsure flushes one run is printed
    JudgesAssigned-same_out : has_unsure s.table.waits ≡ false → (end other : End) (out printed : List ℕ)
        → JudgesAssigned s a end out → JudgesAssigned s a other printed → out ≡ printed
    JudgesAssigned-same_out sure Good Good out printed one two = one.2 ∙ sym two.2
    JudgesAssigned-same_out sure Good Bad out printed one two = absurd
        (not_both (has_unsure s.table.waits) printed one.1 two)
    JudgesAssigned-same_out sure Good Refused out printed one two = absurd two
    JudgesAssigned-same_out sure Bad Good out printed one two = absurd
        (not_both (has_unsure s.table.waits) out two.1 one)
    JudgesAssigned-same_out sure Bad Bad out printed one two =
        let first : PrintsRun false s a out = subst (λ (b : Bool). PrintsRun b s a out) sure one in
        let second : PrintsRun false s a printed = subst (λ (b : Bool). PrintsRun b s a printed) sure two in
        first.2 ∙ ap (run_text s.table.names) (same_run first.0 second.0 first.1 second.1) ∙ sym second.2
    JudgesAssigned-same_out sure Bad Refused out printed one two = absurd two
    JudgesAssigned-same_out sure Refused other out printed one two = absurd one

    IsHang-exists : (first : List ℕ) → AreFirst (declared_waits s) a (bare_waits (declared_waits s) a) first →
        (steps : List Step) × IsHang (declared_waits s) a steps
    IsHang-exists first are =
        let w = wiring_of (declared_waits s) a in
        let knot = IsKnot-first (declared_waits s) a is_declaration assigned.assignment
        (bare_waits (declared_waits s) a) refl first are in
        let run = IsRunOf-exists w first (IsWiring-workqueues (declared_waits s) a is_declaration assigned.assignment)
        knot in
        (run.0, IsHang-run (declared_waits s) a is_declaration assigned.assignment first run.0 are run.1)

    hangs : (first : List ℕ) → AreFirst (declared_waits s) a (bare_waits (declared_waits s) a) first
        → AreSafe (declared_waits s) a ⊎ ((steps : List Step) × IsHang (declared_waits s) a steps)
    hangs first are = inr (IsHang-exists first are)

    -- the workqueues are safe, or hang by some run
    pub verdict_exists : AreSafe (declared_waits s) a ⊎ ((steps : List Step) × IsHang (declared_waits s) a steps)
    verdict_exists = by_waits (bare_waits (declared_waits s) a) refl
      where
        by_waits : (waits : List WaitArc) → bare_waits (declared_waits s) a ≡ waits
            → AreSafe (declared_waits s) a ⊎ ((steps : List Step) × IsHang (declared_waits s) a steps)
        by_waits (x ∷ more) is = hangs (x.src ∷ []) (subst (λ (l : List WaitArc). AreFirst (declared_waits s) a l
            (x.src ∷ [])) (sym is) refl)
        by_waits [] is = elim (AreRanks-or_walk (rescued_graph (declared_waits s) a) graph) [
          | inl ranks ↦ inl (AreSafe-ranks (declared_waits s) a is_declaration assigned.assignment assigned.few is
              ranks.0 ranks.1)
          | inr walk ↦ hangs (flushing_items walk.0) (subst (λ (l : List WaitArc). AreFirst (declared_waits s) a l
              (flushing_items walk.0)) (sym is) (walk.0, walk.1, refl))
        ]

-- what isn't safe hangs by some run
pub IsHang-unsafe : (s : Declared) (sound : IsSound s) (a : Workqueues)
    (assigned : IsAssignmentOf s.partition.groups a.assignment) → (¬ IsSafe (wiring_of (declared_waits s) a))
    → (steps : List Step) × IsHang (declared_waits s) a steps
IsHang-unsafe s sound a assigned unsafe = elim (verdict_exists s sound a assigned) [
  | inl are ↦ absurd (unsafe are.safe)
  | inr hang ↦ hang
]

module _ (s : Declared) (sound : IsSound s) (a : Workqueues) (assigned : IsAssignmentOf s.partition.groups a.assignment)
  where
    -- with unsure flushes the fewest are printed by which they hang
    printed_run : (b : Bool) → (steps : List Step) → IsHang (declared_waits s) a steps
        → (out : List ℕ) × PrintsRun b s a out
    printed_run false steps hang = (run_text s.table.names steps, (steps, hang, refl))
    printed_run true steps hang =
        let d = declared_waits s in
        let found = IsHangOf-exists s sound a assigned
        (not_safe-by (wiring_of d a) steps hang.deadlocks) in
        let kept : List ℕ = needs found.0 in
        let own = IsHang-unsafe (reading_with_names s kept) (IsSound-reading s kept sound) a assigned
        (λ safe. not_safe-reading s a found.0 found.1 found.2 (IsSafe-reading s a kept safe)) in
        (reading_text s.table.names s.table.waits kept own.0, (found.0, (found.1, found.2, own.0, own.1, refl)))

    pub JudgesAssigned-exist : (end : End) × (out : List ℕ) × JudgesAssigned s a end out
    JudgesAssigned-exist = elim (verdict_exists s sound a assigned) [
      | inl are ↦ (Good, safe_text, (are.assignment, are.safe, refl))
      | inr hang ↦ let printed = printed_run (has_unsure s.table.waits) hang.0 hang.1 in (Bad, printed.0, printed.1)
    ]

-- ---- a text of an assignment

module _ (s : Declared) (sound : IsSound s) where
  -- what is read of it
  abbrev IsKnown : Result Workqueues CertError → Type 0
  IsKnown r = (a : Workqueues) → r ≡ Ok a → IsAssignmentOf s.partition.groups a.assignment

  known : (text : List ℕ) → IsKnown (workqueues_of_text s.table.names s.partition text)
  known text a is =
      let one = sym sound.one_group_each in
      (AreWorkqueuesOf-workqueues_of_text s.table.names s.partition sound.partition one text a is).assignment

  module _ (end other : End) (out printed : List ℕ) where
    same_end : (r : Result Workqueues CertError) → IsKnown r
        → MatchResult r (λ a. JudgesAssigned s a end out) (λ fault. PrintsRefusal (cert_refusal fault) end out)
        → MatchResult r (λ a. JudgesAssigned s a other printed)
        (λ fault. PrintsRefusal (cert_refusal fault) other printed) → end ≡ other
    same_end (Ok a) is one two = JudgesAssigned-same_end s sound a (is a refl) end other out printed one two
    same_end (Err fault) is one two = one.0 ∙ sym two.0

    same_out : has_unsure s.table.waits ≡ false → (r : Result Workqueues CertError) → IsKnown r
        → MatchResult r (λ a. JudgesAssigned s a end out) (λ fault. PrintsRefusal (cert_refusal fault) end out)
        → MatchResult r (λ a. JudgesAssigned s a other printed)
        (λ fault. PrintsRefusal (cert_refusal fault) other printed) → out ≡ printed
    same_out sure (Ok a) is one two = JudgesAssigned-same_out s sound a (is a refl) sure end other out printed one two
    same_out sure (Err fault) is one two = one.1 ∙ sym two.1

    JudgesDeclared-same_end : (text : List ℕ) → JudgesDeclared s text end out → JudgesDeclared s text other printed
        → end ≡ other
    JudgesDeclared-same_end text = same_end (workqueues_of_text s.table.names s.partition text) (known text)

    JudgesDeclared-same_out : has_unsure s.table.waits ≡ false → (text : List ℕ) → JudgesDeclared s text end out
        → JudgesDeclared s text other printed → out ≡ printed
    JudgesDeclared-same_out sure text =
        same_out sure (workqueues_of_text s.table.names s.partition text) (known text)

  judged : (r : Result Workqueues CertError) → IsKnown r
      → (end : End) × (out : List ℕ) × MatchResult r (λ a. JudgesAssigned s a end out)
      (λ fault. PrintsRefusal (cert_refusal fault) end out)
  judged (Ok a) is = JudgesAssigned-exist s sound a (is a refl)
  judged (Err fault) is = (Refused, refusal_text (cert_refusal fault), (refl, refl))

  JudgesDeclared-exist : (text : List ℕ) → (end : End) × (out : List ℕ) × JudgesDeclared s text end out
  JudgesDeclared-exist text = judged (workqueues_of_text s.table.names s.partition text) (known text)

  replayed : (out said : List ℕ) (r : Result Workqueues CertError) →
      ((a : Workqueues) → r ≡ Ok a → JudgesAssigned s a Bad out → ReplaysAssigned s a out Bad said)
      → MatchResult r (λ a. JudgesAssigned s a Bad out) (λ fault. PrintsRefusal (cert_refusal fault) Bad out)
      → MatchResult r (λ a. ReplaysAssigned s a out Bad said) (λ fault. PrintsRefusal (cert_refusal fault) Bad said)
  replayed out said (Ok a) replays judges = replays a refl judges
  replayed out said (Err fault) replays refused = absurd cc

  ReplaysDeclared-judged : (text out : List ℕ) → JudgesDeclared s text Bad out → ReplaysDeclared s text out Bad
      (line_text (replay_words Deadlock))
  ReplaysDeclared-judged text out =
      replayed out (line_text (replay_words Deadlock)) (workqueues_of_text s.table.names s.partition text)
      (λ a is. ReplaysAssigned-judged s sound a (known text a is) out)

-- ---- texts of a declaration and an assignment

abbrev IsSoundly : Result Declared Refusal → Type 0
IsSoundly r = (s : Declared) → r ≡ Ok s → IsSound s

module _ (text : List ℕ) (end other : End) (out printed : List ℕ) where
  judges_same_end : (r : Result Declared Refusal) → IsSoundly r
      → MatchResult r (λ s. JudgesDeclared s text end out) (λ refusal. PrintsRefusal refusal end out)
      → MatchResult r (λ s. JudgesDeclared s text other printed) (λ refusal. PrintsRefusal refusal other printed)
      → end ≡ other
  judges_same_end (Ok s) sound one two = JudgesDeclared-same_end s (sound s refl) end other out printed text one two
  judges_same_end (Err refusal) sound one two = one.0 ∙ sym two.0

  judges_same_out : (r : Result Declared Refusal) → IsSoundly r
      → ((s : Declared) → r ≡ Ok s → has_unsure s.table.waits ≡ false)
      → MatchResult r (λ s. JudgesDeclared s text end out) (λ refusal. PrintsRefusal refusal end out)
      → MatchResult r (λ s. JudgesDeclared s text other printed) (λ refusal. PrintsRefusal refusal other printed)
      → out ≡ printed
  judges_same_out (Ok s) sound sure one two =
      JudgesDeclared-same_out s (sound s refl) end other out printed (sure s refl) text one two
  judges_same_out (Err refusal) sound sure one two = one.1 ∙ sym two.1

pub Judges-same_end : (declared text : List ℕ) (end other : End) (out printed : List ℕ) → Judges declared text end out
    → Judges declared text other printed → end ≡ other
Judges-same_end declared text end other out printed =
    judges_same_end text end other out printed (declaration declared) (IsSound-declaration declared)

pub Judges-same_out : (declared text : List ℕ) (end other : End) (out printed : List ℕ) → DeclaresNoUnsure declared
    → Judges declared text end out → Judges declared text other printed → out ≡ printed
Judges-same_out declared text end other out printed sure =
    judges_same_out text end other out printed (declaration declared) (IsSound-declaration declared) sure

judges : (r : Result Declared Refusal) → IsSoundly r → (text : List ℕ)
    → (end : End) × (out : List ℕ) × MatchResult r (λ s. JudgesDeclared s text end out)
    (λ refusal. PrintsRefusal refusal end out)
judges (Ok s) sound text = JudgesDeclared-exist s (sound s refl) text
judges (Err refusal) sound text = (Refused, refusal_text refusal, (refl, refl))

pub Judges-exist : (declared text : List ℕ) → (end : End) × (out : List ℕ) × Judges declared text end out
Judges-exist declared = judges (declaration declared) (IsSound-declaration declared)

replays : (r : Result Declared Refusal) → IsSoundly r → (text out : List ℕ)
    → MatchResult r (λ s. JudgesDeclared s text Bad out) (λ refusal. PrintsRefusal refusal Bad out)
    → MatchResult r (λ s. ReplaysDeclared s text out Bad (line_text (replay_words Deadlock)))
    (λ refusal. PrintsRefusal refusal Bad (line_text (replay_words Deadlock)))
replays (Ok s) sound text out answer = ReplaysDeclared-judged s (sound s refl) text out answer
replays (Err refusal) sound text out refused = absurd cc

-- a run that is printed is answered with `deadlock`
pub ReplaysRun-judged : (declared text out : List ℕ) → Judges declared text Bad out → ReplaysRun declared text out Bad
    (line_text (replay_words Deadlock))
ReplaysRun-judged declared = replays (declaration declared) (IsSound-declaration declared)
