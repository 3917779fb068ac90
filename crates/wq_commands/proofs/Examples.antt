-- Answers, computed.
use Rattle.std.proofs.Common.{◌≡◌, ℕ, zero, suc, ◌<◌, ◌≤◌, List, [], ◌∷◌, codes, refl, sym, subst, ◌∙◌, ap, arith, Some, None, inl, inr, Bool, true, false, not}
use Rattle.std.specs.Prelude.{◌==◌, filter, slice_get, map}
use Rattle.std.proofs.lemmas.Fmt.{decimal_digit, decimal-digits_of}
use Rattle.std.proofs.lemmas.List.Elements.{All-from_recursion}
use Rattle.wq_items.specs.declared.target.Target.{Target}
use Rattle.wq_items.specs.Table.{ItemWaits}
use Rattle.wq_items.specs.Chain.{BeginsChain, IsRank}
use Rattle.wq_items.proofs.Chains.{BeginsChain-one, BeginsChain-more, BeginsChain-next}
use Rattle.wq_groups.specs.Declaration.{Declaration, GroupWaits}
use Rattle.wq_groups.specs.Assignment.{Assignment, group_lane, item_lanes}
use Rattle.wq_graph.specs.declared.arc.WaitArc.{WaitArc}
use Rattle.wq_graph.specs.Graph.{HasArc, group_graph}
use Rattle.wq_levels.specs.Walks.{Remains, IsWalkedCircle}
use Rattle.wq_plan.specs.Plan.{chain_of_plan}
use Rattle.wq_core.specs.declared.entry.Entry.{Entry}
use Rattle.wq_core.specs.declared.entry.Waiting.{Waiting}
use Rattle.wq_core.specs.declared.entry.Running.{Running}
use Rattle.wq_core.specs.declared.step.Step.{Step}
use Rattle.wq_core.specs.declared.step.Step.TheVariants.{Queue, Start, Wait}
use Rattle.wq_core.specs.Wiring.{Wiring, HasRescuer, declared_by}
use Rattle.wq_core.specs.State.{State, idle_lane, lane_at, with_lane}
use Rattle.wq_core.specs.Rules.{IsHeldBack, effect, wait_of, with_wait}
use Rattle.wq_core.specs.Played.{IsDeclaredStep, HasNoDeclaredStep, IsPlayedFrom}
use Rattle.wq_core.proofs.DeclaredSteps.{RescuerCanMove-within, HasNoDeclaredStep-waiting, IsDeclaredStep-start, IsDeclaredStep-wait}
use Rattle.wq_deadlock.specs.CircleRun.{IsCircleRun}
use Rattle.wq_commands.specs.declared.end.End.TheVariants.{Good, Bad, Refused}
use Rattle.wq_cert.specs.PlanText.{plan_text}
use Rattle.wq_commands.specs.Answer.{ends_of}
use Rattle.wq_cert.specs.CircleText.{circle_text}
use Rattle.wq_commands.specs.Answer.{Answers, refusal_text}

-- ---- an item that is used before its line

refused_early : codes "refused 8 line 2\n" ≡ refusal_text (record { code = 8; line = 2 })
refused_early = rw (decimal_digit 8 (omega arith), decimal_digit 2 (omega arith)) refl

pub early_use : Answers (codes "item a\nflush a b\nitem b\n") Refused (codes "refused 8 line 2\n")
early_use = (refl, refused_early)

-- ---- an item on two `ordered` lines

refused_twice : codes "refused 11 line 4\n" ≡ refusal_text (record { code = 11; line = 4 })
refused_twice = rw (decimal-digits_of 11 (omega arith) (omega arith), decimal_digit 4 (omega arith)) refl

pub grouped_twice : Answers (codes "item a\nitem b\nordered a b\nordered b\n") Refused (codes "refused 11 line 4\n")
grouped_twice = (refl, refused_twice)

-- ---- a `flushwq` line with three names

refused_third : codes "refused 12 line 3\n" ≡ refusal_text (record { code = 12; line = 3 })
refused_third = rw (decimal-digits_of 12 (omega arith) (omega arith), decimal_digit 3 (omega arith)) refl

pub third_name : Answers (codes "item a\nitem b\nflushwq a b b\n") Refused (codes "refused 12 line 3\n")
third_name = (refl, refused_third)

-- ---- a group that waits for itself

module _ (arc : WaitArc) (own : arc.head ≡ 0) where
  abbrev graph : List (List WaitArc)
  graph = (arc ∷ []) ∷ []

  own_arc : HasArc graph 0 0
  own_arc = (0, arc, omega arith, refl, own)

  remains : Remains graph 0
  remains = (omega arith, (0 ∷ [], (own_arc, tt), refl))

  round : IsWalkedCircle graph (arc ∷ [])
  round = record {
    start = 0;
    least = record { remains = remains; least = λ w lower. absurd (omega (arith, lower)) };
    lead_in = [];
    entry = 0;
    leads_in = refl;
    comes_back = (
      record {
        leaves = (0, omega arith, refl);
        remains = subst (Remains graph) (sym own) remains;
        least = All-from_recursion (λ (b : WaitArc). Remains graph b.head → arc.place ≤ b.place) (arc ∷ []) ((λ _. omega arith), tt);
      },
      own,
    );
    some = λ e. absurd cc;
    once = λ i j d apart within. absurd (omega (arith, apart, within));
  }

-- ---- one workqueue, whose first item waits for an item that is queued on it

-- the entry of item 0 that was queued first
abbrev e : Entry
e = record { number = 0; item = 0 }

module _ (w : Wiring) (next : ℕ) (behind : List Entry) (t : Target) (declares : slice_get (declared_by w 0) 0 ≡ Some t) (rescuer : HasRescuer w 0) where
  abbrev queued : State
  queued = record { next = next; lanes = record idle_lane { pending = e ∷ behind } ∷ [] }

  abbrev started : State
  started = effect w queued (Start 0 0)

  abbrev asleep : Running
  asleep = record { entry = e; made = 1; waiting = Some (record { target = t.item; whole = t.whole; mark = next }) }

  abbrev waiting : State
  waiting = record { next = next; lanes = record idle_lane { pending = filter (λ (x : Entry). not (x.item == 0)) behind; running = Some asleep } ∷ [] }

  -- whatever the kind of the wait
  begun : (whole : Bool) → effect w started (wait_of whole 0 t.item) ≡ with_lane started 0 (with_wait 0 whole t.item next (lane_at started 0))
  begun false = refl
  begun true = refl

  -- what it waits for is unfinished
  module _ (left : IsHeldBack w waiting t.whole t.item next) where
    hangs : (q : ℕ) → HasNoDeclaredStep w waiting q
    hangs q step is =
        let flush : Waiting = record { target = t.item; whole = t.whole; mark = next } in
        let only : q < 1 = RescuerCanMove-within w waiting q (step, is.of_lane, is.lawful, is.forced) in
        let here : IsDeclaredStep w waiting 0 step = subst (λ (k : ℕ). IsDeclaredStep w waiting k step) (omega (arith, only)) is in
        HasNoDeclaredStep-waiting w waiting 0 asleep refl flush refl left step here

    played : IsPlayedFrom w queued (Start 0 0 ∷ wait_of t.whole 0 t.item ∷ [])
    played = (
      (0, IsDeclaredStep-start w queued 0 refl rescuer e refl, λ p lower. absurd (omega (arith, lower))),
      (
        (0, IsDeclaredStep-wait w started 0 (record { entry = e; made = 0; waiting = None }) refl refl t declares, λ p lower. absurd (omega (arith, lower))),
        subst (λ (s : State). (q : ℕ) → HasNoDeclaredStep w s q) (sym (begun t.whole)) hangs,
      ),
    )

-- ---- an item that flushes itself, or its own workqueue

abbrev own_target : Bool → Target
own_target whole = record { item = 0; whole = whole; unsure = false; place = 0 }

abbrev self : Bool → Wiring
self whole = record { waits = (own_target whole ∷ []) ∷ []; lane_of_item = 0 ∷ []; lanes = 1; ordered = false ∷ []; bare = []; helpers = 0 }

abbrev run_of_a : Bool → List Step
run_of_a whole = Queue 0 ∷ Start 0 0 ∷ wait_of whole 0 0 ∷ []

abbrev arc_of_a : WaitArc
arc_of_a = record { src = 0; dst = 0; head = 0; place = 0 }

-- its own entry is unfinished
held_by_itself : (whole : Bool) → IsHeldBack (self whole) (waiting (self whole) 1 [] (own_target whole) refl refl) whole 0 1
held_by_itself false = record { lane = 0; entry = e; unfinished = inr (0, asleep (self false) 1 [] (own_target false) refl refl, refl, refl); of_item = refl; below = omega arith }
held_by_itself true = record { entry = e; unfinished = inr (0, asleep (self true) 1 [] (own_target true) refl refl, refl, refl); below = omega arith }

hangs_itself : (whole : Bool) → IsCircleRun (self whole) (arc_of_a ∷ []) (run_of_a whole)
hangs_itself whole = record {
  played = Start 0 0 ∷ wait_of whole 0 0 ∷ [];
  is_played = played (self whole) 1 [] (own_target whole) refl refl (held_by_itself whole);
  all = refl;
}

circle_of_a : codes "circle 1\narc a a\nrun 3\nqueue a\nstart 0 a\nwait 0 a\n" ≡ circle_text (codes "a" ∷ []) ((0, 0) ∷ []) (Some (run_of_a false))
circle_of_a = rw (decimal_digit 1 (omega arith), decimal_digit 3 (omega arith), decimal_digit 0 (omega arith)) refl

pub self_flush : Answers (codes "item a\nflush a a\n") Bad (codes "circle 1\narc a a\nrun 3\nqueue a\nstart 0 a\nwait 0 a\n")
self_flush = record { circle = arc_of_a ∷ []; walked = round arc_of_a refl; steps = run_of_a false; is_run = hangs_itself false; text = circle_of_a }

circle_of_own : codes "circle 1\narc a a\nrun 3\nqueue a\nstart 0 a\nwaitwq 0 a\n" ≡ circle_text (codes "a" ∷ []) ((0, 0) ∷ []) (Some (run_of_a true))
circle_of_own = rw (decimal_digit 1 (omega arith), decimal_digit 3 (omega arith), decimal_digit 0 (omega arith)) refl

pub own_workqueue_flush : Answers (codes "item a\nflushwq a a\n") Bad (codes "circle 1\narc a a\nrun 3\nqueue a\nstart 0 a\nwaitwq 0 a\n")
own_workqueue_flush = record { circle = arc_of_a ∷ []; walked = round arc_of_a refl; steps = run_of_a true; is_run = hangs_itself true; text = circle_of_own }

-- ---- a flush within a group

abbrev pair : Wiring
pair = record {
  waits = (record { item = 1; whole = false; unsure = false; place = 0 } ∷ []) ∷ [] ∷ [];
  lane_of_item =
      0 ∷ 0 ∷ [];
  lanes = 1;
  ordered = true ∷ [];
  bare = [];
  helpers = 0;
}

abbrev run_of_pair : List Step
run_of_pair = Queue 0 ∷ Queue 1 ∷ Start 0 0 ∷ Wait 0 1 ∷ []

hangs_next : IsCircleRun pair (record { src = 0; dst = 1; head = 0; place = 0 } ∷ []) run_of_pair
hangs_next =
    let other : Entry = record { number = 1; item = 1 } in
    let t : Target = record { item = 1; whole = false; unsure = false; place = 0 } in
    record {
      played = Start 0 0 ∷ Wait 0 1 ∷ [];
      is_played = played pair 2 (other ∷ []) t refl refl (record { lane = 0; entry = other; unfinished = inl (0, omega arith, refl); of_item = refl; below = omega arith });
      all = refl;
    }

circle_of_ordered : codes "circle 1\narc a b\nrun 4\nqueue a\nqueue b\nstart 0 a\nwait 0 b\n" ≡ circle_text (codes "a" ∷ codes "b" ∷ []) ((0, 1) ∷ []) (Some run_of_pair)
circle_of_ordered = rw (decimal_digit 1 (omega arith), decimal_digit 4 (omega arith), decimal_digit 0 (omega arith)) refl

pub ordered_flush : Answers (codes "item a\nitem b\nordered a b\nflush a b\n") Bad (codes "circle 1\narc a b\nrun 4\nqueue a\nqueue b\nstart 0 a\nwait 0 b\n")
ordered_flush =
    let arc : WaitArc = record { src = 0; dst = 1; head = 0; place = 0 } in
    record { circle = arc ∷ []; walked = round arc refl; steps = run_of_pair; is_run = hangs_next; text = circle_of_ordered }

-- ---- two items

-- item 0 flushes item 1
abbrev waits : List (List Target)
waits = (record { item = 1; whole = false; unsure = false; place = 0 } ∷ []) ∷ [] ∷ []

abbrev groups : List ℕ
groups = 0 ∷ 1 ∷ []

abbrev two : Declaration
two = record { waits = waits; group_of = groups; groups = 2 }

abbrev lanes : Assignment
lanes = record { lanes = 2; lane_of_group = 1 ∷ 0 ∷ [] }

first_waits : GroupWaits two 0 1
first_waits = let target : Target = record { item = 1; whole = false; unsure = false; place = 0 } in
    record { item = 0; target = 1; declares = (0, target, omega arith, refl, refl); of_item = refl; of_target = refl }

waited : (j : ℕ) → ItemWaits waits 0 j → 1 ≡ j
waited j (zero, x, within, is, same) = ap (λ (t : Target). t.item) is ∙ same
waited j (suc k, x, within, is, same) = absurd (omega arith)

only_first : (i j g h : ℕ) → ItemWaits waits i j → slice_get groups i ≡ Some g → slice_get groups j ≡ Some h → (g ≡ 0) × (h ≡ 1)
only_first zero j g h declares of_item of_target = let target : slice_get groups 1 ≡ Some h = subst (λ (k : ℕ). slice_get groups k ≡ Some h) (sym (waited j declares)) of_target in (cc, cc)
only_first (suc zero) j g h (k, x, within, is, same) of_item of_target = absurd (omega (arith, within))
only_first (suc (suc i)) j g h (k, x, within, is, same) of_item of_target = absurd (omega (arith, within))

GroupWaits-two : (g h : ℕ) → GroupWaits two g h → (g ≡ 0) × (h ≡ 1)
GroupWaits-two g h w = only_first w.item w.target g h w.declares w.of_item w.of_target

second_alone : BeginsChain (GroupWaits two) 1 2 → ⊥
second_alone begins = let next = BeginsChain-next (GroupWaits two) 1 0 begins in omega (arith, (GroupWaits-two 1 next.0 next.1).0)

first_over : BeginsChain (GroupWaits two) 0 3 → ⊥
first_over begins =
    let next = BeginsChain-next (GroupWaits two) 0 1 begins in second_alone (subst (λ j. BeginsChain (GroupWaits two) j 2) (GroupWaits-two 0 next.0 next.1).1 next.2)

ranks : (g : ℕ) → g < 2 → IsRank (GroupWaits two) g (group_lane lanes g)
ranks zero group = (BeginsChain-more (GroupWaits two) 0 1 1 first_waits (BeginsChain-one (GroupWaits two) 1), first_over)
ranks (suc zero) group = (BeginsChain-one (GroupWaits two) 1, second_alone)
ranks (suc (suc g)) group = absurd (omega arith)

printed : codes "plan 2\nwq 0 b\nwq 1 a\nchain 2\narc a b\n"
    ≡ plan_text (codes "a" ∷ codes "b" ∷ []) 2 (item_lanes lanes groups) (map ends_of (chain_of_plan two (1 ∷ 0 ∷ [])))
printed = rw (decimal_digit 2 (omega arith), decimal_digit 0 (omega arith), decimal_digit 1 (omega arith)) refl

pub two_items : Answers (codes "item a\nitem b\nflush a b\n") Good (codes "plan 2\nwq 0 b\nwq 1 a\nchain 2\narc a b\n")
two_items = record { assignment = lanes; plan = record { one_each = refl; ranks = ranks; count = refl }; text = printed }

-- the same two items, with a comment, CR LF and TABs, and without the last LF
pub two_items_spaced : Answers (codes "item a # x\r\n\titem\tb\r\nflush a b") Good (codes "plan 2\nwq 0 b\nwq 1 a\nchain 2\narc a b\n")
two_items_spaced = record { assignment = lanes; plan = record { one_each = refl; ranks = ranks; count = refl }; text = printed }
