-- The reading that keeps the unsure flushes of a walk: it is a declaration of its own, and its run is printed with
-- them.
use Rattle.std.proofs.Common.{◌≡◌, ℕ, zero, suc, ◌<◌, ◌≤◌, inl, inr, Bool, true, false, List, [], ◌∷◌, length, Some}
use Rattle.std.proofs.Common.{None, Ok, refl, sym, ap, subst, ◌∙◌, arith}
use Rattle.std.specs.Prelude.{Contains}
use Rattle.std.specs.List.{All}
use Rattle.wq_items.specs.declared.target.Target.{Target}
use Rattle.wq_items.specs.Table.{max_flushes}
use Rattle.wq_items.proofs.ReadingLemmas.{IsTable-reading}
use Rattle.wq_groups.specs.Declaration.{Declaration, reading_declared}
use Rattle.wq_groups.specs.Assignment.{IsAssignmentOf}
use Rattle.wq_groups.specs.DeclaredGroups.{declared_waits, reading_with_names, Declared}
use Rattle.wq_core.specs.declared.step.Step.{Step}
use Rattle.wq_core.specs.Wiring.{Wiring}
use Rattle.wq_core.specs.Workqueues.{Workqueues, wiring_of}
use Rattle.wq_core.specs.Readings.{reading}
use Rattle.wq_core.specs.Deadlock.{IsSafe, DeadlocksBy}
use Rattle.wq_core.proofs.MoreFlushes.{IsSafe-fewer, DeclaresMore-same, SameButPlaces-sym, SameButPlaces-compact}
use Rattle.wq_core.proofs.MoreFlushes.{IsSafeAnyway-all}
use Rattle.wq_cert.specs.Part.{has_unsure, made_of, reading_text, AreKeptPlaces}
use Rattle.wq_cert.specs.Ranges.{IsStepOf}
use Rattle.wq_cert.specs.RunText.{run_text}
use Rattle.wq_cert.proofs.PartsReadBack.{few-kept, made_of-run, made_of-part}
use Rattle.wq_cert.proofs.TextLength.{length-run_text, length-reading_text}
use Rattle.wq_hang.specs.declared.hop.Hop.{Hop}
use Rattle.wq_hang.specs.Answer.{IsHangOf}
use Rattle.wq_hang.specs.Walk.{IsHop, IsWalk, needs}
use Rattle.wq_hang.proofs.NeededPlaces.{needs_rise, needs_each}
use Rattle.wq_hang.proofs.Shortest.{path_hop}
use Rattle.wq_commands.proofs.AnswerLemmas.{IsSound}
use Rattle.wq_commands.proofs.NamedSteps.{IsStepOf-hang, length-hang}
use Rattle.wq_checker.specs.declared.run.RunEnd.{RunEnd}
use Rattle.wq_checker.specs.RunEnds.{EndsAs, EndsFor}
use Rattle.wq_commands.proofs.SamePlaces.{deadlock-same, end_as-same, end_for-same}

-- ---- the reading

pub IsSound-reading : (s : Declared) (kept : List ℕ) → IsSound s → IsSound (reading_with_names s kept)
IsSound-reading s kept sound =
    record {
      table = IsTable-reading s.table kept sound.table;
      partition = sound.partition;
      one_group_each =
          sound.one_group_each;
    }

module _ (s : Declared) (ws : Workqueues) (kept : List ℕ) where
  -- what is safe as a declaration of its own is safe as a reading
  pub IsSafe-reading : IsSafe (wiring_of (declared_waits (reading_with_names s kept)) ws)
      → IsSafe (reading (wiring_of (declared_waits s) ws) kept)
  IsSafe-reading safe =
      let d = declared_waits s in
      let v = wiring_of (reading_declared d kept) ws in
      let w = reading (wiring_of d ws) kept in
      IsSafe-fewer w v (DeclaresMore-same w v (SameButPlaces-sym v w (SameButPlaces-compact d ws kept))) safe

  pub deadlock-reading : (steps : List Step)
      → DeadlocksBy (wiring_of (declared_waits (reading_with_names s kept)) ws) steps
      → DeadlocksBy (reading (wiring_of (declared_waits s) ws) kept) steps
  deadlock-reading steps by =
      let d = declared_waits s in
      deadlock-same (wiring_of (reading_declared d kept) ws) (reading (wiring_of d ws) kept)
      (SameButPlaces-compact d ws kept) steps by

  pub end_as-reading : (steps : List Step) (e : RunEnd)
      → EndsAs (wiring_of (declared_waits (reading_with_names s kept)) ws) steps e
      → EndsAs (reading (wiring_of (declared_waits s) ws) kept) steps e
  end_as-reading steps e ends =
      let d = declared_waits s in
      end_as-same (wiring_of (reading_declared d kept) ws) (reading (wiring_of d ws) kept)
      (SameButPlaces-compact d ws kept) steps e ends

  pub end_for-reading : (named : List ℕ) (steps : List Step) (e : RunEnd)
      → EndsFor (wiring_of (declared_waits (reading_with_names s kept)) ws) named steps e
      → EndsFor (reading (wiring_of (declared_waits s) ws) kept) named steps e
  end_for-reading named steps e ends =
      let d = declared_waits s in
      end_for-same (wiring_of (reading_declared d kept) ws) (reading (wiring_of d ws) kept)
      (SameButPlaces-compact d ws kept) named steps e ends

-- ---- the flushes of a walk

hop_of : (w : Wiring) (hops : List Hop) (beside : List ℕ) → IsWalk w hops beside → (h : Hop) → Contains hops h
    → IsHop w h
hop_of w hops beside (inl (round, with_targets)) h there =
    (path_hop w round.first round.first hops round.path h there).0
hop_of w hops beside (inr (g, hop, bare, one, other)) h there = only (subst (λ (l : List Hop). Contains l h) one there)
  where
    only : Contains (g ∷ []) h → IsHop w h
    only (zero, lt, at) = subst (IsHop w) at hop
    only (suc k, lt, at) = absurd (omega arith)

module _ (s : Declared) (ws : Workqueues) (hops : List Hop) (soonest : List Step)
    (hang : IsHangOf (declared_waits s) ws hops soonest) where
  pub AreKeptPlaces-needs : AreKeptPlaces s.table.waits (needs hops)
  AreKeptPlaces-needs = record {
    rise = needs_rise hops;
    each = λ p there.
        let needed = ((needs_each hops p).0 there).1 in
        let h : Hop = needed.0 in
        let place : h.flush.place ≡ p = needed.3 in
        let hop = hop_of (wiring_of (declared_waits s) ws) hops hang.beside hang.walk h needed.1 in
        record {
          item = h.item;
          target = h.flush;
          declared = hop.declared;
          unsure = needed.2;
          place = place;
          first = λ other here unsure item whole lower.
              let first : h.flush.place ≤ other.place =
              hang.alike h needed.1 other here (record {
                item = item;
                whole = whole;
                unsure =
                    unsure ∙ sym needed.2;
              }) in
              absurd (omega (arith, first, lower, place));
        };
  }

  -- the reading hangs
  pub not_safe-reading : IsSafe (reading (wiring_of (declared_waits s) ws) (needs hops)) → ⊥
  not_safe-reading safe =
      let stuck = hang.fewest.hang.hangs 0 (omega arith) in
      safe 0 (omega arith) soonest stuck.0 stuck.1

  -- so workqueues that hang in it aren't safe
  pub not_safe-all : IsSafe (wiring_of (declared_waits s) ws) → ⊥
  not_safe-all safe = not_safe-reading ((IsSafeAnyway-all (wiring_of (declared_waits s) ws)).0 safe (needs hops))

-- ---- what is printed is read back

module _ (s : Declared) (sound : IsSound s) (ws : Workqueues)
    (assigned : IsAssignmentOf s.partition.groups ws.assignment) (steps : List Step) where
  pub made_of-deadlock : DeadlocksBy (wiring_of (declared_waits s) ws) steps
      → made_of s.table.names s.table.waits (run_text s.table.names steps) ≡ Ok (None, steps)
  made_of-deadlock deadlocks =
      let named = IsStepOf-hang s sound ws assigned steps deadlocks in
      let few : length steps ≤ 65536 = omega (arith, length-hang s sound ws assigned steps deadlocks) in
      made_of-run s.table sound.table steps named (length-run_text s.table.names sound.table.named steps named few)

  module _ (kept : List ℕ) (are : AreKeptPlaces s.table.waits kept)
      (deadlocks : DeadlocksBy (wiring_of (declared_waits (reading_with_names s kept)) ws) steps) where
    abbrev own : Declared
    own = reading_with_names s kept

    pub IsStepOf-reading : All (IsStepOf (length s.table.names)) steps
    IsStepOf-reading = IsStepOf-hang own (IsSound-reading s kept sound) ws assigned steps deadlocks

    pub length-reading : length steps ≤ 45056
    length-reading = length-hang own (IsSound-reading s kept sound) ws assigned steps deadlocks

    pub made_of-reading : has_unsure s.table.waits ≡ true
        → made_of s.table.names s.table.waits (reading_text s.table.names s.table.waits kept steps) ≡ Ok
        (Some kept, steps)
    made_of-reading some =
        made_of-part s.table sound.table steps IsStepOf-reading kept are some
        (length-reading_text s.table.names sound.table.named s.table.waits kept steps IsStepOf-reading
        (few-kept s.table sound.table kept are) (omega (arith, length-reading)))
