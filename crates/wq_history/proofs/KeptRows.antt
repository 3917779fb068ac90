-- Rows that are kept, and what may come at a place of a legal history.
use Rattle.std.proofs.Common.{◌⊎◌, inl, inr, ◌≡◌, ℕ, ◌+◌, ◌<◌, ◌≤◌, Bool, true, false, cond, List, [], ◌∷◌, ◌++◌}
use Rattle.std.proofs.Common.{length, append_assoc, refl, sym, ap, ◌∙◌, arith, Some, None, ◌&&◌}
use Rattle.std.specs.List.{All}
use Rattle.std.proofs.lemmas.Bool.Decides.{same_from_decides}
use Rattle.std.proofs.lemmas.List.Elements.{All-head, All-tail}
use Rattle.wq_history.proofs.Words.{Step, QueueStep, CancelStep, HelperStep, DoStart, DoWait, DoWaitAll, DoOver}
use Rattle.wq_history.proofs.Words.{DoOverAll, DoFinish, Wiring, IsWiring, items, State, lane_at, effect, work_left}
use Rattle.wq_history.proofs.Words.{IsSoundState, Event, Row, lane_in, Subject, OfItem, OfLane, step_of, subject_in}
use Rattle.wq_history.proofs.Words.{is_ask, is_told, state_after, asks_waiting, IsThere, MayCome, MayFollow, IsLegal}
use Rattle.wq_history.proofs.Words.{reserved, rows_needed, Lawful}
use Rattle.wq_core.specs.declared.step.Step.TheVariants.{Start as StartStep, Wait as WaitStep, Over as OverStep}
use Rattle.wq_core.specs.declared.step.Step.TheVariants.{WaitAll as WaitAllStep, OverAll as OverAllStep}
use Rattle.wq_core.specs.declared.step.Step.TheVariants.{Finish as FinishStep}
use Rattle.wq_core.proofs.Contexts.{MayStart-first}
use Rattle.wq_core.specs.Runs.{IsRescuerStep}
use Rattle.wq_core.proofs.Numbers.{Gives-one}
use Rattle.wq_core.proofs.WorkLemmas.{work_left-rescuer}
use Rattle.wq_core.proofs.WorkChanges.{work_left-queued, work_left-cancelled}
use Rattle.wq_rows.specs.declared.event.Event.TheVariants.{Queue, Cancel, Start, Wait, Over, Finish, Ask, Told, WaitAll}
use Rattle.wq_rows.specs.declared.event.Event.TheVariants.{OverAll, AskLane, ToldLane, Help}
use Rattle.wq_history.proofs.Histories.{state_after-step, state_after-none}
use Rattle.wq_history.proofs.Counting.{count-more}
use Rattle.wq_history.proofs.LegalRows.{IsLegal-prefix, IsLegal-last, IsSoundState-legal, asked-there, some-wait}
use Rattle.wq_history.proofs.Deeds.{says_one, deed-there}
use Rattle.wq_core.proofs.Wirings.{lane_of-within}

-- ---- a row is paid for by what was kept and by the free rows that its event needs

-- the wiring is sound, or the row needs no free row
abbrev IsPaid : Wiring → Event → Bool → Type 0
IsPaid w event said = IsWiring w ⊎ (rows_needed w event said ≡ 0)

pub paid_row : (w : Wiring) (rows : List Row) (row : Row) → IsPaid w row.event row.yes → IsLegal w rows
    → MayFollow w rows row
    → reserved w (rows ++ (row ∷ [])) + 1 ≤ reserved w rows + rows_needed w row.event row.yes
paid_row w rows row paid legal may = by_event row.event row.yes row.number paid may where
  s : State
  s = state_after w rows

  sound : IsSoundState w s
  sound = IsSoundState-legal w rows legal

  -- the row makes a step, which leaves less work, but for the rows that its event needs
  stepping : (r : Row) (step : Step) → step_of r.event r.yes ≡ Some step → is_told r.event ≡ false
      → (is_ask r.event && r.yes) ≡ false
      → work_left w (effect w s step) + 1 ≤ work_left w s + rows_needed w r.event r.yes
      → reserved w (rows ++ (r ∷ [])) + 1 ≤ reserved w rows + rows_needed w r.event r.yes
  stepping r step makes told asked less =
      let left = ap (work_left w) (state_after-step w rows r step makes) in
      let a = rw asked at (count-more (λ (x : Row). is_ask x.event && x.yes) rows r) in
      let t = rw told at (count-more (λ (x : Row). is_told x.event) rows r) in
      omega (arith, left, a, t, less)

  acting : (r : Row) (step : Step) → step_of r.event r.yes ≡ Some step → is_told r.event ≡ false
      → (is_ask r.event && r.yes) ≡ false → IsRescuerStep step → rows_needed w r.event r.yes ≡ 0 → Lawful w s step
      → reserved w (rows ++ (r ∷ [])) + 1 ≤ reserved w rows + rows_needed w r.event r.yes
  acting r step makes told asked is none lawful =
      stepping r step makes told asked (omega (arith, none, work_left-rescuer w s step sound lawful is))

  -- it makes none, and so one more row is kept if an ask begins to wait
  noting : (r : Row) → step_of r.event r.yes ≡ None → is_told r.event ≡ false
      → reserved w (rows ++ (r ∷ [])) + 1 ≤ reserved w rows + (1 + cond (is_ask r.event && r.yes) 1 0)
  noting r none told =
      let left = ap (work_left w) (state_after-none w rows r none) in
      let a = count-more (λ (x : Row). is_ask x.event && x.yes) rows r in
      let t = rw told at (count-more (λ (x : Row). is_told x.event) rows r) in
      omega (arith, left, a, t)

  -- a caller is told, and so one row less is kept
  telling : (x : Subject) (r : Row) → step_of r.event r.yes ≡ None → is_told r.event ≡ true
      → (is_ask r.event && r.yes) ≡ false → 0 < asks_waiting x rows
      → reserved w (rows ++ (r ∷ [])) + 1 ≤ reserved w rows + 0
  telling x r none told asked waits =
      let left = ap (work_left w) (state_after-none w rows r none) in
      let a = rw asked at (count-more (λ (y : Row). is_ask y.event && y.yes) rows r) in
      let t = rw told at (count-more (λ (y : Row). is_told y.event) rows r) in
      omega (arith, left, a, t, some-wait w rows x legal waits)

  by_event : (event : Event) (said : Bool) (n : ℕ) → IsPaid w event said → MayCome w rows event said n
      → reserved w (rows ++ (record { event = event; yes = said; number = n } ∷ [])) + 1
      ≤ reserved w rows + rows_needed w event said
  by_event (Queue i) true n (inl wiring) come =
      stepping _ (QueueStep i) refl refl refl (omega (arith, work_left-queued w s i wiring sound come.0))
  by_event (Queue i) true n (inr none) come = absurd (omega (arith, none))
  by_event (Cancel i) true n paid come =
      stepping _ (CancelStep i) refl refl refl (omega (arith, work_left-cancelled w s i sound come.1.0))
  by_event (Queue i) false n paid come = noting _ refl refl
  by_event (Cancel i) false n paid come = noting _ refl refl
  by_event (Ask i) true n paid come = noting _ refl refl
  by_event (Ask i) false n paid come = noting _ refl refl
  by_event (AskLane q) true n paid come = noting _ refl refl
  by_event (AskLane q) false n paid come = noting _ refl refl
  by_event (Told i) said n paid come = telling (OfItem i) _ refl refl refl come.1
  by_event (ToldLane q) said n paid come = telling (OfLane q) _ refl refl refl come.1
  by_event event said n paid come = acting _ _ refl refl refl tt refl come.1.0

-- so rows that need none free write those that are kept
pub kept_rows : (w : Wiring) (rows more : List Row) → IsLegal w (rows ++ more)
    → All (λ (row : Row). rows_needed w row.event row.yes ≡ 0) more → length more ≤ reserved w rows
kept_rows w rows [] legal none = omega arith
kept_rows w rows (row ∷ more) legal none =
    let longer : IsLegal w ((rows ++ (row ∷ [])) ++ more) = rw append_assoc legal in
    let first : IsLegal w (rows ++ (row ∷ [])) = IsLegal-prefix w (rows ++ (row ∷ [])) more longer in
    let here = All-head (λ (r : Row). rows_needed w r.event r.yes ≡ 0) row more none in
    let rest = kept_rows w (rows ++ (row ∷ [])) more longer
    (All-tail (λ (r : Row). rows_needed w r.event r.yes ≡ 0) row more none) in
    let one = paid_row w rows row (inr here) (IsLegal-prefix w rows (row ∷ []) first) (IsLegal-last w rows row first) in
    omega (arith, rest, one, here)

-- ---- one answer

pub one_answer : (w : Wiring) (rows : List Row) (event : Event) (said other : Bool) (n m : ℕ) → IsLegal w rows → is_told event ≡ false
    → MayCome w rows event said n → MayCome w rows event other m → (said ≡ other) × (n ≡ m)
one_answer w rows event said other n m legal not_told a b = by_event event said other not_told a b where
  s : State
  s = state_after w rows

  sound : IsSoundState w s
  sound = IsSoundState-legal w rows legal

  by_event : (e : Event) (x y : Bool) → is_told e ≡ false → MayCome w rows e x n → MayCome w rows e y m → (x ≡ y) × (n ≡ m)
  by_event (Queue i) true true told a b = (refl, Gives-one w s (QueueStep i) n m sound a.1.1 b.1.1)
  by_event (Queue i) true false told a b = absurd (a.1.0.1 b.1.0)
  by_event (Queue i) false true told a b = absurd (b.1.0.1 a.1.0)
  by_event (Queue i) false false told a b = (refl, a.1.1 ∙ sym b.1.1)
  by_event (Cancel i) true true told a b = (refl, Gives-one w s (CancelStep i) n m sound a.1.1 b.1.1)
  by_event (Cancel i) true false told a b = absurd (b.1.0 a.1.0)
  by_event (Cancel i) false true told a b = absurd (a.1.0 b.1.0)
  by_event (Cancel i) false false told a b = (refl, a.1.1 ∙ sym b.1.1)
  by_event (Wait q t) x y told a b = (same_from_decides x y a.0 b.0, Gives-one w s (WaitStep q t) n m sound a.1.1 b.1.1)
  by_event (Ask i) x y told a b = (same_from_decides x y a.1 b.1, a.2 ∙ sym b.2)
  by_event (Told i) x y told a b = absurd cc
  by_event (WaitAll q t) x y told a b =
      (same_from_decides x y a.0 b.0, Gives-one w s (WaitAllStep q t) n m sound a.1.1 b.1.1)
  by_event (AskLane q) x y told a b = (same_from_decides x y a.1 b.1, a.2 ∙ sym b.2)
  by_event (ToldLane q) x y told a b = absurd cc
  by_event (Help q h deed) x y told a b =
      (says_one w s deed x y a.0 b.0, Gives-one w s (HelperStep q h deed) n m sound a.1.1 b.1.1)
  by_event (Start q i) x y told a b = (a.0 ∙ sym b.0, Gives-one w s (StartStep q i) n m sound a.1.1 b.1.1)
  by_event (Over q t) x y told a b = (a.0 ∙ sym b.0, Gives-one w s (OverStep q t) n m sound a.1.1 b.1.1)
  by_event (OverAll q t) x y told a b = (a.0 ∙ sym b.0, Gives-one w s (OverAllStep q t) n m sound a.1.1 b.1.1)
  by_event (Finish q i) x y told a b = (a.0 ∙ sym b.0, Gives-one w s (FinishStep q i) n m sound a.1.1 b.1.1)

-- ---- items and lanes

pub exist : (w : Wiring) (rows : List Row) (event : Event) (said : Bool) (n : ℕ) → IsWiring w → IsLegal w rows → MayCome w rows event said n
    → IsThere w (subject_in event) × (lane_in event < w.lanes)
exist w rows event said n wiring legal may = by_event event may where
  s : State
  s = state_after w rows

  sound : IsSoundState w s
  sound = IsSoundState-legal w rows legal

  -- if there is an item, there is a lane
  with_lane : (i : ℕ) → i < items w → 0 < w.lanes
  with_lane i there = omega (arith, lane_of-within w wiring i there)

  by_event : (e : Event) → MayCome w rows e said n → IsThere w (subject_in e) × (lane_in e < w.lanes)
  by_event (Queue i) come = (come.0, with_lane i come.0)
  by_event (Cancel i) come = (come.0, with_lane i come.0)
  by_event (Start q i) come = deed-there w s q 0 (DoStart i) wiring sound (MayStart-first (lane_at s q) i come.1.0)
  by_event (Wait q b) come = deed-there w s q 0 (DoWait b) wiring sound come.1.0
  by_event (Over q b) come = deed-there w s q 0 (DoOver b) wiring sound come.1.0
  by_event (Finish q i) come = deed-there w s q 0 (DoFinish i) wiring sound come.1.0
  by_event (Ask i) come = (come.0, with_lane i come.0)
  by_event (Told i) come = let there = asked-there w rows (OfItem i) legal come.1 in (there, with_lane i there)
  by_event (WaitAll q b) come = deed-there w s q 0 (DoWaitAll b) wiring sound come.1.0
  by_event (OverAll q b) come = deed-there w s q 0 (DoOverAll b) wiring sound come.1.0
  by_event (AskLane q) come = (come.0, come.0)
  by_event (ToldLane q) come = let there = asked-there w rows (OfLane q) legal come.1 in (there, there)
  by_event (Help q h deed) come = deed-there w s q h deed wiring sound come.1.0.1
