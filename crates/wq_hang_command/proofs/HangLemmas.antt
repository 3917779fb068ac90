-- Shortest runs that end stuck: they have few steps, and each can be printed.
use Rattle.std.proofs.Common.{◌≡◌, ℕ, ◌<◌, ◌≤◌, inl, inr, Bool, true, false, cond, List, [], ◌∷◌, ◌++◌, length, map}
use Rattle.std.proofs.Common.{Some, None, Ok, refl, sym, ap, subst, ◌∙◌, arith}
use Rattle.std.specs.Prelude.{◌||◌, not, flat_map}
use Rattle.std.specs.List.{All, list_any}
use Rattle.std.proofs.lemmas.Bool.{cases_lt}
use Rattle.std.proofs.lemmas.List.Elements.{All-weaker}
use Rattle.wq_items.specs.declared.target.Target.{Target}
use Rattle.wq_items.specs.Readings.{kept_of}
use Rattle.wq_core.specs.declared.step.Step.{Step}
use Rattle.wq_core.specs.declared.step.Step.TheVariants.{Queue, Cancel, Start, Wait, Over, WaitAll, OverAll, Finish, Help}
use Rattle.wq_core.specs.Wiring.{Wiring, items}
use Rattle.wq_core.specs.Workqueues.{Workqueues, wiring_of}
use Rattle.wq_core.specs.Readings.{reading}
use Rattle.wq_core.specs.Deadlock.{DeadlocksBy, IsSafe}
use Rattle.wq_core.specs.Runs.{IsHelp, HasNoHelp}
use Rattle.wq_core.proofs.MoreFlushes.{IsRun-more, DeclaresMore-all}
use Rattle.wq_groups.specs.Assignment.{IsAssignmentOf}
use Rattle.wq_text.specs.LineText.{line_text}
use Rattle.wq_cert.specs.Part.{has_unsure, made_of, part_lines, reading_text}
use Rattle.wq_cert.specs.Ranges.{IsStepOf}
use Rattle.wq_cert.specs.RunText.{run_text, step_item}
use Rattle.wq_cert.proofs.PartsReadBack.{few-kept, made_of-part, made_of-run}
use Rattle.wq_cert.proofs.TextLength.{length-reading_text, length-run_text}
use Rattle.wq_deadlock.proofs.BareLanes.{IsWiring-workqueues}
use Rattle.wq_deadlock.proofs.Named.{IsNamed-run}
use Rattle.wq_hang.specs.declared.hop.Hop.{Hop}
use Rattle.wq_hang.specs.Answer.{IsHangOf}
use Rattle.wq_hang.specs.Shortest.{NeedsWorker}
use Rattle.wq_hang.specs.Walk.{needs}
use Rattle.wq_commands.specs.declared.end.End.{End}
use Rattle.wq_commands.specs.declared.end.End.TheVariants.{Good, Bad, Refused}
use Rattle.wq_groups.specs.DeclaredGroups.{declared_waits, Declared}
use Rattle.wq_commands.specs.Deadlocking.{JudgesAssigned, PrintsRun}
use Rattle.wq_commands.proofs.AnswerLemmas.{IsSound, IsDeclaration-sound}
use Rattle.wq_commands.proofs.JudgeLemmas.{JudgesAssigned-exist}
use Rattle.wq_commands.proofs.NamedSteps.{length-hang, steps_of-named}
use Rattle.wq_commands.proofs.ReadingLemmas.{AreKeptPlaces-needs, deadlock-reading, length-reading, not_safe-all}
use Rattle.wq_commands.proofs.ReadingLemmas.{not_safe-reading}

-- a helper's step needs a worker that nobody can rely on
pub needs-help : (w : Wiring) (step : Step) → IsHelp step → NeedsWorker w step
needs-help w (Help q h deed) is = is
needs-help w (Queue i) is = absurd is
needs-help w (Cancel i) is = absurd is
needs-help w (Start q i) is = absurd is
needs-help w (Wait q b) is = absurd is
needs-help w (Over q b) is = absurd is
needs-help w (WaitAll q b) is = absurd is
needs-help w (OverAll q b) is = absurd is
needs-help w (Finish q i) is = absurd is

-- ---- without unsure flushes

-- sure flushes are kept in every reading
sure_kept : (ts : List Target) → list_any (λ (t : Target). t.unsure) ts ≡ false → kept_of [] ts ≡ ts
sure_kept [] none = refl
sure_kept (t ∷ ts) none = by t.unsure none (sure_kept ts)
  where
    by : (u : Bool) → (u || list_any (λ (x : Target). x.unsure) ts) ≡ false
        → (list_any (λ (x : Target). x.unsure) ts ≡ false → kept_of [] ts ≡ ts)
        → cond (not u || false) (t ∷ kept_of [] ts) (kept_of [] ts) ≡ t ∷ ts
    by true never rest = absurd cc
    by false sure rest = ap (λ (l : List Target). t ∷ l) (rest sure)

all_kept : (waits : List (List Target)) → has_unsure waits ≡ false → map (kept_of []) waits ≡ waits
all_kept [] none = refl
all_kept (ts ∷ waits) none = by (list_any (λ (t : Target). t.unsure) ts) refl none (all_kept waits)
  where
    by : (u : Bool) → list_any (λ (t : Target). t.unsure) ts ≡ u → (u || has_unsure waits) ≡ false
        → (has_unsure waits ≡ false → map (kept_of []) waits ≡ waits) → map (kept_of []) (ts ∷ waits) ≡ ts ∷ waits
    by true is never rest = absurd cc
    by false is sure rest = ap (λ (l : List Target). l ∷ map (kept_of []) waits) (sure_kept ts is)
        ∙ ap (λ (l : List (List Target)). ts ∷ l) (rest sure)

pub reading-sure : (s : Declared) (ws : Workqueues) → has_unsure s.table.waits ≡ false
    → reading (wiring_of (declared_waits s) ws) [] ≡ wiring_of (declared_waits s) ws
reading-sure s ws none =
    ap (λ (waits : List (List Target)). record (wiring_of (declared_waits s) ws) { waits = waits })
    (all_kept s.table.waits none)

-- ---- the run that is printed

module _ (s : Declared) (sound : IsSound s) (ws : Workqueues) (known : IsAssignmentOf s.partition.groups ws.assignment)
    (hops : List Hop) (steps : List Step) (hang : IsHangOf (declared_waits s) ws hops steps) where
  abbrev w : Wiring
  w = wiring_of (declared_waits s) ws

  -- the run that `deadlock` prints is no shorter, and has few steps
  pub length-shortest : length steps ≤ 45056
  length-shortest = let judged = JudgesAssigned-exist s sound ws known in few judged.0 judged.1 judged.2
    where
      by : (b : Bool) → has_unsure s.table.waits ≡ b → (out : List ℕ) → PrintsRun b s ws out → length steps ≤ 45056
      by false none out (made, is, text) =
          let by = subst (λ (v : Wiring). DeadlocksBy v made) (sym (reading-sure s ws none)) is.deadlocks in
          omega (
            arith,
            hang.fewest.soonest [] (omega arith) 0 (omega arith) made (by.run, by.stuck),
            length-hang s sound ws known made is.deadlocks,
          )
      by true some out (more, (soonest, other, made, is, text)) =
          let reads = deadlock-reading s ws (needs more) made is.deadlocks in
          let enough : length (needs more) ≤ length (needs hops) =
          elim (cases_lt (length (needs hops)) (length (needs more))) [
            | inl less ↦ absurd (not_safe-reading s ws hops steps hang (other.fewest.fewest (needs hops) less))
            | inr at_most ↦ at_most
          ] in
          let kept = AreKeptPlaces-needs s ws more soonest other in
          omega (
            arith,
            hang.fewest.soonest (needs more) enough 0 (omega arith) made (reads.run, reads.stuck),
            length-reading s sound ws known made (needs more) kept is.deadlocks,
          )

      few : (end : End) (out : List ℕ) → JudgesAssigned s ws end out → length steps ≤ 45056
      few Good out judged = absurd (not_safe-all s ws hops steps hang judged.1)
      few Bad out judged = by (has_unsure s.table.waits) refl out judged
      few Refused out judged = absurd judged

  pub no_help-shortest : HasNoHelp steps
  no_help-shortest =
      let v = reading w (needs hops) in
      All-weaker (λ (step : Step). ¬ NeedsWorker v step) (λ (step : Step). ¬ IsHelp step)
      (λ step alone is. alone (needs-help v step is)) steps hang.fewest.hang.alone

  -- each step is one of items that are declared
  pub IsStepOf-shortest : All (IsStepOf (length s.table.names)) steps
  IsStepOf-shortest =
      let v = reading w (needs hops) in
      let run = IsRun-more v w steps (DeclaresMore-all w (needs hops)) (hang.fewest.hang.hangs 0 (omega arith)).0 in
      let named = IsNamed-run w steps
      (IsWiring-workqueues (declared_waits s) ws (IsDeclaration-sound s sound) known.assignment) run in
      let of_items : All (IsStepOf (items w)) steps = steps_of-named w known.few steps named no_help-shortest in
      subst (λ n. All (IsStepOf n) steps) sound.table.one_list_each of_items

  -- the printer finds the item of each step
  pub step_item-shortest : All (λ (step : Step). step_item step < length s.table.names) steps
  step_item-shortest =
      All-weaker (IsStepOf (length s.table.names)) (λ (step : Step). step_item step < length s.table.names)
      (λ (step : Step) named. named.0) steps IsStepOf-shortest

  -- the unsure flushes are at few places
  pub few-needs : length (needs hops) ≤ 16384
  few-needs = few-kept s.table sound.table (needs hops) (AreKeptPlaces-needs s ws hops steps hang)

  -- what is printed is read back
  pub made_of-shortest : has_unsure s.table.waits ≡ true
      → made_of s.table.names s.table.waits (reading_text s.table.names s.table.waits (needs hops) steps)
      ≡ Ok (Some (needs hops), steps)
  made_of-shortest some =
      made_of-part s.table sound.table steps IsStepOf-shortest (needs hops) (AreKeptPlaces-needs s ws hops steps hang)
      some
      (length-reading_text s.table.names sound.table.named s.table.waits (needs hops) steps IsStepOf-shortest few-needs
      (omega (arith, length-shortest)))

  module _ (none : has_unsure s.table.waits ≡ false) where
    pub made_of-sure : made_of s.table.names s.table.waits
        (reading_text s.table.names s.table.waits (needs hops) steps) ≡ Ok (None, steps)
    made_of-sure =
        let text : reading_text s.table.names s.table.waits (needs hops) steps ≡ run_text s.table.names steps =
        ap
        (λ (b : Bool). cond b (flat_map line_text (part_lines s.table.names s.table.waits (needs hops))) []
        ++ run_text s.table.names steps)
        none in
        ap (made_of s.table.names s.table.waits) text
        ∙ made_of-run s.table sound.table steps IsStepOf-shortest
        (length-run_text s.table.names sound.table.named steps IsStepOf-shortest (omega (arith, length-shortest)))

    pub needs-none : needs hops ≡ []
    needs-none = by (needs hops) hang.fewest.fewest
      where
        by : (kept : List ℕ) → ((others : List ℕ) → length others < length kept → IsSafe (reading w others))
            → kept ≡ []
        by [] fewest = refl
        by (k ∷ kept) fewest = absurd
            (not_safe-all s ws hops steps hang (subst IsSafe (reading-sure s ws none) (fewest [] (omega arith))))
