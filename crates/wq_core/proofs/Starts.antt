-- When a start of a context is lawful, and which number it gives.
use Rattle.std.proofs.Common.{◌≡◌, ◌≢◌, ℕ, ◌<◌, inl, true, false, Some, None, refl, sym, subst, ap, ◌∙◌, arith}
use Rattle.std.proofs.lemmas.Bool.{both_ways}
use Rattle.wq_core.specs.declared.entry.Entry.{Entry}
use Rattle.wq_core.specs.declared.step.Step.TheVariants.{Start, Help}
use Rattle.wq_core.specs.declared.step.HelpStep.TheVariants.{Start as DoStart}
use Rattle.wq_core.specs.Wiring.{Wiring, HasContext, lane_of}
use Rattle.wq_core.specs.State.{State, lane_at, run_by, is_running, next_of, pending_of, IsPendingOn}
use Rattle.wq_core.specs.Rules.{Lawful, Gives}
use Rattle.wq_core.specs.Held.{IsSoundState}
use Rattle.wq_core.proofs.Contexts.{next-may}
use Rattle.wq_core.proofs.LaneLemmas.{lane_within}
use Rattle.wq_core.proofs.Rising.{found-one}

module _ (w : Wiring) (s : State) (q : ℕ) (sound : IsSoundState w s) where
  -- the entry of an item that is pending is the one that is found
  found-entry : (e : Entry) (i : ℕ) → IsPendingOn (lane_at s q) e → e.item ≡ i → pending_of (lane_at s q) i ≡ Some e
  found-entry e i there is = subst (λ (j : ℕ). pending_of (lane_at s q) j ≡ Some e) is (found-one (lane_at s q).pending e (sound.once q) there)

  -- ---- of a rescuer

  pub first-lawful : (i : ℕ) (e : Entry) → (lane_at s q).running ≡ None → next_of (lane_at s q) ≡ Some e → e.item ≡ i → Lawful w s (Start q i) × Gives s (Start q i) e.number
  first-lawful i e idle next is =
      let there : IsPendingOn (lane_at s q) e = (next-may (lane_at s q).pending (is_running (lane_at s q)) e next).0 in
      (record { idle = idle; entry = e; first = next; of_item = is }, (e, found-entry e i there is, refl))

  -- ---- of a helper

  module _ (h i : ℕ) where
    pub help-lawful : (e : Entry) → 0 < h → HasContext w q h → run_by (lane_at s q) h ≡ None → IsPendingOn (lane_at s (lane_of w i)) e → e.item ≡ i → lane_of w i ≡ q → is_running (lane_at s q) i ≡ false
        → Lawful w s (Help q h (DoStart i)) × Gives s (Help q h (DoStart i)) e.number
    help-lawful e some exists idle there is own free =
        let here : IsPendingOn (lane_at s q) e = subst (λ (p : ℕ). IsPendingOn (lane_at s p) e) own there in
        (((some, exists.1), record { idle = idle; entry = e; pending = here; of_item = is; not_running = free }), (e, found-entry e i here is, refl))

    pub not_help-lane : lane_of w i ≢ q → ¬ Lawful w s (Help q h (DoStart i))
    not_help-lane other (helper, may) = other (ap (lane_of w) (sym may.of_item) ∙ (sound.own_lane q may.entry (inl may.pending)).1)

    pub not_help-context : (¬ HasContext w q h) → ¬ Lawful w s (Help q h (DoStart i))
    not_help-context none (helper, may) = none (omega (arith, lane_within s q may.entry (inl may.pending), sound.one_each), helper.1)

    pub not_help-busy : run_by (lane_at s q) h ≢ None → ¬ Lawful w s (Help q h (DoStart i))
    not_help-busy busy (helper, may) = busy may.idle

    pub not_help-runs : is_running (lane_at s q) i ≡ true → ¬ Lawful w s (Help q h (DoStart i))
    not_help-runs runs (helper, may) = both_ways (is_running (lane_at s q) i) may.not_running runs
