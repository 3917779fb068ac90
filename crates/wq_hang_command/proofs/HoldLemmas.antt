-- Shortest runs by which an item that must go on is held up: they have few steps, and each can be printed.
use Rattle.std.proofs.Common.{◌≡◌, ℕ, ◌<◌, ◌≤◌, Bool, true, false, cond, List, [], ◌∷◌, ◌++◌, length}
use Rattle.std.proofs.Common.{Some, None, Ok, refl, sym, ap, subst, ◌∙◌, arith}
use Rattle.std.specs.Prelude.{flat_map}
use Rattle.std.specs.List.{All}
use Rattle.std.proofs.lemmas.List.Elements.{All-weaker}
use Rattle.wq_core.specs.declared.step.Step.{Step}
use Rattle.wq_core.specs.Assigned.{Assigned, IsAssigned}
use Rattle.wq_core.specs.Wiring.{Wiring, IsWiring, items}
use Rattle.wq_core.specs.Workqueues.{Workqueues, wiring_of}
use Rattle.wq_core.specs.MustGoOn.{IsSafeFor}
use Rattle.wq_core.specs.Readings.{reading}
use Rattle.wq_core.specs.Runs.{IsHelp, HasNoHelp}
use Rattle.wq_core.proofs.MoreFlushes.{IsRun-more, DeclaresMore-all}
use Rattle.wq_groups.specs.Assignment.{IsAssignmentOf}
use Rattle.wq_text.specs.LineText.{line_text}
use Rattle.wq_cert.specs.Part.{has_unsure, made_of, part_lines, reading_text, AreKeptPlaces}
use Rattle.wq_cert.specs.Ranges.{IsStepOf}
use Rattle.wq_cert.specs.RunText.{run_text, step_item}
use Rattle.wq_cert.proofs.PartsReadBack.{few-kept, made_of-part, made_of-run}
use Rattle.wq_cert.proofs.TextLength.{length-reading_text, length-run_text}
use Rattle.wq_deadlock.proofs.Named.{IsNamed-run}
use Rattle.wq_hang.specs.declared.hop.Hop.{Hop}
use Rattle.wq_hang.specs.AnswerFor.{IsHeldBy}
use Rattle.wq_hang.specs.Shortest.{NeedsWorker}
use Rattle.wq_hang.specs.ShortestFor.{EndsStuckFor}
use Rattle.wq_hang.specs.Walk.{ArePlacesApart, needs, run_of_walk}
use Rattle.wq_hang.specs.WalkFor.{IsWalkFor, pending_for}
use Rattle.wq_hang.proofs.Fewest.{IsWiring-reading}
use Rattle.wq_hang.proofs.FewestFor.{few_hops, run_for_walk, walk_for_hop, walk_for_reading}
use Rattle.wq_hang.proofs.NeededPlaces.{needs_rise, needs_each}
use Rattle.wq_hang.proofs.RunsFor.{walk_for_hangs}
use Rattle.wq_hang.proofs.Shortest.{length-run_of_walk}
use Rattle.wq_hang.proofs.SomeLanes.{IsWiring-assigned, ArePlacesApart-assigned}
use Rattle.wq_hang.proofs.StuckWalks.{length-pending, walk_for_stuck}
use Rattle.wq_groups.specs.DeclaredGroups.{declared_waits, Declared}
use Rattle.wq_commands.proofs.AnswerLemmas.{IsSound}
use Rattle.wq_commands.proofs.NamedSteps.{steps_of-named}
use Rattle.wq_hang_command.proofs.HangLemmas.{needs-help, reading-sure}

module _ (s : Declared) (sound : IsSound s) (ws : Workqueues)
    (known : IsAssignmentOf s.partition.groups ws.assignment) where
  abbrev w : Wiring
  w = wiring_of (declared_waits s) ws

  abbrev assigned : Assigned
  assigned = record { declared = s; workqueues = ws }

  is_assigned : IsAssigned assigned
  is_assigned = record { declared = sound; assignment = known }

  wiring : IsWiring w
  wiring = IsWiring-assigned assigned is_assigned

  -- if no run of all flushes ends stuck for these items, none of a reading does
  pub IsSafeFor-reading : (named : List ℕ) → IsSafeFor w named → (kept : List ℕ) → IsSafeFor (reading w kept) named
  IsSafeFor-reading named safe kept n few steps run stuck =
      let places : ArePlacesApart w = ArePlacesApart-assigned assigned is_assigned in
      let is = walk_for_reading w named kept n steps wiring places (run, stuck) in
      let ends = run_for_walk w named is.0 is.1 wiring is.2.walk in
      safe 0 (omega arith) ends.0 ends.1.0 ends.1.1

  module _ (named : List ℕ) (x : ℕ) (hops : List Hop) (steps : List Step)
      (held : IsHeldBy (declared_waits s) ws named x hops steps) where
    abbrev v : Wiring
    v = reading w (needs hops)

    -- a walk that leaves no lane twice has few hops, and its run is no shorter
    pub length-held : length steps ≤ 45056
    length-held =
        let ends = held.fewest.hang.hangs 0 (omega arith) in
        let there : IsWiring v = IsWiring-reading w (needs hops) wiring in
        let (y, others, walk, apart, some) = walk_for_stuck v named 0 steps there ends in
        let pending : List ℕ = pending_for v y others in
        let few : v.lanes ≤ 4096 = known.few in
        omega (
          arith,
          held.fewest.hang.shortest 0 (omega arith) (run_of_walk v others pending)
              (walk_for_hangs v named y others there walk apart 0),
          length-run_of_walk v others pending,
          few_hops v y others there walk.holds_up apart,
          length-pending v y others,
          few,
        )

    pub no_help-held : HasNoHelp steps
    no_help-held =
        All-weaker (λ (step : Step). ¬ NeedsWorker v step) (λ (step : Step). ¬ IsHelp step)
        (λ step alone is. alone (needs-help v step is)) steps held.fewest.hang.alone

    -- each step is one of items that are declared
    pub IsStepOf-held : All (IsStepOf (length s.table.names)) steps
    IsStepOf-held =
        let run = IsRun-more v w steps (DeclaresMore-all w (needs hops)) (held.fewest.hang.hangs 0 (omega arith)).0 in
        let of_items : All (IsStepOf (items w)) steps =
        steps_of-named w known.few steps (IsNamed-run w steps wiring run) no_help-held in
        subst (λ n. All (IsStepOf n) steps) sound.table.one_list_each of_items

    -- the printer finds the item of each step
    pub step_item-held : All (λ (step : Step). step_item step < length s.table.names) steps
    step_item-held =
        All-weaker (IsStepOf (length s.table.names)) (λ (step : Step). step_item step < length s.table.names)
        (λ (step : Step) named. named.0) steps IsStepOf-held

    AreKeptPlaces-held : AreKeptPlaces s.table.waits (needs hops)
    AreKeptPlaces-held = record {
      rise = needs_rise hops;
      each = λ p there.
          let needed = ((needs_each hops p).0 there).1 in
          let h : Hop = needed.0 in
          let place : h.flush.place ≡ p = needed.3 in
          let hop = walk_for_hop w x hops held.walk.holds_up h needed.1 in
          record {
            item = h.item;
            target = h.flush;
            declared = hop.declared;
            unsure = needed.2;
            place = place;
            first = λ other here unsure item whole lower.
                let first : h.flush.place ≤ other.place =
                held.alike h needed.1 other here (record {
                  item = item;
                  whole = whole;
                  unsure = unsure ∙ sym needed.2;
                }) in
                absurd (omega (arith, first, lower, place));
          };
    }

    -- the unsure flushes are at few places
    pub few-held : length (needs hops) ≤ 16384
    few-held = few-kept s.table sound.table (needs hops) AreKeptPlaces-held

    -- what is printed is read back
    pub made_of-held : has_unsure s.table.waits ≡ true
        → made_of s.table.names s.table.waits (reading_text s.table.names s.table.waits (needs hops) steps)
        ≡ Ok (Some (needs hops), steps)
    made_of-held some =
        made_of-part s.table sound.table steps IsStepOf-held (needs hops) AreKeptPlaces-held some
        (length-reading_text s.table.names sound.table.named s.table.waits (needs hops) steps IsStepOf-held few-held
        (omega (arith, length-held)))

    module _ (none : has_unsure s.table.waits ≡ false) where
      pub made_of-held_sure : made_of s.table.names s.table.waits
          (reading_text s.table.names s.table.waits (needs hops) steps) ≡ Ok (None, steps)
      made_of-held_sure =
          let text : reading_text s.table.names s.table.waits (needs hops) steps ≡ run_text s.table.names steps =
          ap
          (λ (b : Bool). cond b (flat_map line_text (part_lines s.table.names s.table.waits (needs hops))) []
          ++ run_text s.table.names steps)
          none in
          ap (made_of s.table.names s.table.waits) text
          ∙ made_of-run s.table sound.table steps IsStepOf-held
          (length-run_text s.table.names sound.table.named steps IsStepOf-held (omega (arith, length-held)))

      -- a reading that keeps none is all that is declared
      pub needs-none_held : needs hops ≡ []
      needs-none_held = by (needs hops) held.fewest.fewest
        where
          ends : EndsStuckFor v named 0 steps
          ends = held.fewest.hang.hangs 0 (omega arith)

          by : (kept : List ℕ) → ((others : List ℕ) → length others < length kept → IsSafeFor (reading w others) named)
              → kept ≡ []
          by [] fewest = refl
          by (k ∷ kept) fewest =
              let safe : IsSafeFor w named =
              subst (λ (u : Wiring). IsSafeFor u named) (reading-sure s ws none) (fewest [] (omega arith)) in
              absurd (IsSafeFor-reading named safe (needs hops) 0 (omega arith) steps ends.0 ends.1)
