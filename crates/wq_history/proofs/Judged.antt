-- Judging: what one more row does to a replay, and why a row is at fault.
use Rattle.std.proofs.Common.{◌≡◌, ℕ, ◌+◌, ◌*◌, ◌<◌, ◌≤◌, ◌↔◌, true, false, eqb, List, append_assoc, length-append}
use Rattle.std.proofs.Common.{length-take, [], ◌∷◌, ◌++◌, length, get_or, take, refl, sym, ap, subst, ◌∙◌, arith}
use Rattle.std.proofs.Common.{Option, Some, None, IfSome, IfNone, IsTrue, ◌&&◌}
use Rattle.std.specs.Option.{option_eq}
use Rattle.std.proofs.lemmas.Bool.{eqb-true, eq-eqb}
use Rattle.std.proofs.lemmas.List.{append-nil}
use Rattle.std.proofs.lemmas.List.Elements.{All-nil}
use Rattle.std.proofs.lemmas.List.Sums.{count_by-le-length}
use Rattle.std.specs.List.{IsSplitAt}
use Rattle.wq_history.proofs.Words.{Step, QueueStep, Wiring, State, empty_state, Lawful, Gives, Machine, IsMachine}
use Rattle.wq_history.proofs.Words.{machine_after, Event, Row, max_rows, Subject, step_of, subject_in, ask_event}
use Rattle.wq_history.proofs.Words.{told_event, is_ask, state_after, Makes, MayComeIn, MayCome, MayFollow, IsLegal}
use Rattle.wq_history.proofs.Words.{AskView, Replays, ask_place, stepped, counted}
use Rattle.wq_core.specs.declared.step.StepError.{StepError}
use Rattle.wq_core.specs.declared.step.StepError.TheVariants.{NotLawful, NumbersUsedUp}
use Rattle.wq_core.specs.Held.{IsDone, IsRefusal, UsesUp}
use Rattle.wq_core.proofs.Numbers.{Gives-one}
use Rattle.wq_rows.specs.Packing.{packed, IsPackable, IsRowInRange, IsPackedRow}
use Rattle.wq_rows.specs.Stored.{IsStored}
use Rattle.wq_rows.proofs.StoredLemmas.{IsStored-length, IsStored-push, IsSplitAt-parts, empty_list}
use Rattle.wq_history.specs.Judging.{IsJudged, IsJudgedUpTo}
use Rattle.wq_history.proofs.Counting.{asks_waiting-count}
use Rattle.wq_history.proofs.Holding.{AreFirst, Replays-first}
use Rattle.wq_history.proofs.LegalRows.{Replays-follow}
use Rattle.wq_history.proofs.WaitEvents.{ask-exactly, told-exactly}

-- ---- the number of a step

number_left : (s : State) (step : Step) → s.next < 4294967295 → ¬ UsesUp s step
number_left s (QueueStep i) below used = omega (arith, below, used)
number_left s _ below used = used

refused : (m : Machine) (step : Step) (e : StepError) → m.state.next < 4294967295 → IsRefusal m step e → ¬ Lawful m.wiring m.state step
refused m step NotLawful below refusal = refusal
refused m step NumbersUsedUp below refusal = λ lawful. number_left m.state step below refusal.1

-- the number that is looked up is the one that is meant exactly if the step makes it
pub peeked : (m : Machine) (step : Step) (o : Option ℕ) (n : ℕ) → IsMachine m → m.state.next < 4294967295
    → IfSome o (λ k. IsDone m step k (machine_after m step)) → IfNone o ((e : StepError) × IsRefusal m step e)
    → IsTrue (option_eq eqb o (Some n)) ↔ Makes m.wiring m.state step n
peeked m step None n machine below some none = ((λ is. let bad : false ≡ true = is in absurd cc), (λ makes. absurd (refused m step none.0 below none.1 makes.0)))
peeked m step (Some k) n machine below some none = (
  (λ is. (some.lawful, subst (λ j. Gives m.state step j) (eqb-true k n is) some.gives)),
  (λ makes. eq-eqb k n (Gives-one m.wiring m.state step k n machine.state some.gives makes.1)),
)

-- ---- what is examined is what may follow

-- what may come in a machine that is the replay of rows, and with as many asks as are counted, may follow the rows
pub MayFollow-here : (m : Machine) (rows : List Row) (asks : AskView) (row : Row) (waiting : ℕ) → Replays m rows asks
    → waiting ≡ get_or asks.counts (ask_place (subject_in row.event)) 0
    → MayComeIn m.wiring m.state waiting row.event row.yes row.number ↔ MayFollow m.wiring rows row
MayFollow-here m rows asks row waiting replays is =
    let same = is ∙ asks_waiting-count rows asks (subject_in row.event) replays.asked.counts in
    rw (replays.replay, same) ((λ may. may), (λ may. may))

-- no more asks wait than there are rows
pub few_asks : (m : Machine) (rows : List Row) (asks : AskView) → Replays m rows asks → asks.all ≤ length rows
few_asks m rows asks replays = omega (
  arith,
  replays.asked.counts.in_all,
  count_by-le-length
      (λ (row : Row). is_ask row.event && row.yes) rows,
)

-- an ask that may come has a count
pub ask-counted : (m : Machine) (rows : List Row) (asks : AskView) (row : Row) (x : Subject) → Replays m rows asks
    → MayFollow m.wiring rows row → row.event ≡ ask_event x → ask_place x < length asks.counts
ask-counted m rows asks row x replays may is =
    let come = subst (λ (e : Event). MayCome m.wiring rows e row.yes row.number) is may in
    replays.asked.each x ((ask-exactly m.wiring rows x row.yes row.number).0 come).0

-- and where a caller may be told, the count isn't 0
pub told-counted : (m : Machine) (rows : List Row) (asks : AskView) (row : Row) (x : Subject) → Replays m rows asks
    → MayFollow m.wiring rows row → row.event ≡ told_event x → 0 < get_or asks.counts (ask_place x) 0
told-counted m rows asks row x replays may is =
    let come = subst (λ (e : Event). MayCome m.wiring rows e row.yes row.number) is may in
    let told = (told-exactly m.wiring rows x row.yes row.number).0 come in
    omega (arith, told.1, asks_waiting-count rows asks x replays.asked.counts)

-- ---- judged so far

-- the bytes before those that are left hold this many rows, and the machine is their replay
pub record JudgedSoFar (old : Machine) (bytes left : List ℕ) (now : Machine) (asks : AskView) (count : ℕ) : Type 0 where
  pub rows : List Row
  pub judged_bytes : List ℕ
  pub joined : judged_bytes ++ left ≡ bytes
  pub stored : IsStored judged_bytes rows
  pub counted_rows : count ≡ length rows
  pub wired : now.wiring ≡ old.wiring
  pub replays : Replays now rows asks

stepped-wiring : (m : Machine) (o : Option Step) → (stepped m o).wiring ≡ m.wiring
stepped-wiring m None = refl
stepped-wiring m (Some step) = refl

module _ {old : Machine} {bytes left : List ℕ} {now : Machine} {asks : AskView} {count : ℕ}
    (so_far : JudgedSoFar old bytes left now asks count) where
  -- how many bytes are judged
  pub judged-length : 12 * count + length left ≡ length bytes
  judged-length =
      omega (
        arith,
        so_far.counted_rows,
        IsStored-length so_far.judged_bytes so_far.rows so_far.stored,
        length-append so_far.judged_bytes left,
        ap length so_far.joined,
      )

  judged-is : IsJudged old so_far.judged_bytes so_far.rows now
  judged-is = record {
    stored = so_far.stored;
    legal = subst (λ (w : Wiring). IsLegal w so_far.rows) so_far.wired so_far.replays.legal;
    replay =
        let replay = so_far.replays.replay ∙ ap (λ (w : Wiring). state_after w so_far.rows) so_far.wired in
        ap (λ (w : Wiring). record { wiring = w; state = now.state }) so_far.wired
        ∙ ap (λ (s : State). record { wiring = old.wiring; state = s }) replay;
  }

  abbrev place-of : 0 < length left → IsJudgedUpTo old bytes (count + 1) now
  place-of some = record {
    rows = so_far.rows;
    judged_bytes = so_far.judged_bytes;
    left = left;
    joined = so_far.joined;
    judged = judged-is;
    some_left = some;
    at_is = omega (arith, so_far.counted_rows);
  }

  -- the next bytes don't hold a row
  pub bad-row : (front after : List ℕ) → IsSplitAt left 12 front after → ((row : Row) → ¬ IsPackedRow front row)
      → (place : IsJudgedUpTo old bytes (count + 1) now) × ((row : Row) → ¬ IsPackedRow (take 12 place.left) row)
  bad-row front after split none = (
    place-of (omega (arith, split.0)),
    (λ row holds. none row (subst (λ (l : List ℕ). IsPackedRow l row) (sym split.1) holds)),
  )

  -- fewer than 12 bytes are left, but at least one
  pub cut-off : length left < 12 → 0 < length left
      → (place : IsJudgedUpTo old bytes (count + 1) now) × ((row : Row) → ¬ IsPackedRow (take 12 place.left) row)
  cut-off short some = (
    place-of some,
    (λ row holds. let len : 12 ≡ length (take 12 left) = ap length holds.holds in
        omega (arith, short, len, length-take 12 left)),
  )

  -- the next row is looked at, with as many asks as are counted
  module _ (row : Row) (waiting : ℕ)
      (counted_is : waiting ≡ get_or asks.counts (ask_place (subject_in row.event)) 0) where
    -- it may not follow
    pub not-legal : (front after : List ℕ) → IsSplitAt left 12 front after → IsPackedRow front row
        → (¬ MayComeIn now.wiring now.state waiting row.event row.yes row.number)
        → (place : IsJudgedUpTo old bytes (count + 1) now)
        × ((r : Row) × IsPackedRow (take 12 place.left) r × (¬ MayFollow old.wiring place.rows r))
    not-legal front after split is_row never = (
      place-of (omega (arith, split.0)),
      (
        row,
        subst (λ (l : List ℕ). IsPackedRow l row) split.1 is_row,
        (λ may. never ((MayFollow-here now so_far.rows asks row waiting so_far.replays counted_is).1
            (subst (λ (w : Wiring). MayFollow w so_far.rows row) (sym so_far.wired) may))),
      ),
    )

    -- it may
    module _ (come : MayComeIn now.wiring now.state waiting row.event row.yes row.number) where
      pub follows : MayFollow now.wiring so_far.rows row
      follows = (MayFollow-here now so_far.rows asks row waiting so_far.replays counted_is).0 come

      -- one more row is judged
      pub judged-next : (front after : List ℕ) → IsSplitAt left 12 front after → IsPackedRow front row
          → length bytes ≤ 12 * max_rows → JudgedSoFar old bytes after (stepped now (step_of row.event row.yes))
          (counted asks row.event row.yes) (count + 1)
      judged-next front after split is_row few = record {
        rows = so_far.rows ++ (row ∷ []);
        judged_bytes = so_far.judged_bytes ++ packed row;
        joined =
            let parts = ap (λ (l : List ℕ). l ++ after) is_row.holds ∙ sym (IsSplitAt-parts left front after split) in
            append_assoc so_far.judged_bytes (packed row) after
            ∙ ap (λ (l : List ℕ). so_far.judged_bytes ++ l) parts ∙ so_far.joined;
        stored =
            IsStored-push so_far.judged_bytes so_far.rows row so_far.stored is_row.packable is_row.in_range;
        counted_rows = omega (arith, so_far.counted_rows, length-append so_far.rows (row ∷ []));
        wired = stepped-wiring now (step_of row.event row.yes) ∙ so_far.wired;
        replays =
            Replays-follow now so_far.rows asks row so_far.replays follows
            (omega (arith, so_far.counted_rows, judged-length, split.0, few));
      }

  -- nothing is left
  pub judged-all : length left ≡ 0 → (rows : List Row) × IsJudged old bytes rows now × (count ≡ length rows)
  judged-all none =
      let all : so_far.judged_bytes ≡ bytes =
      sym (append-nil so_far.judged_bytes)
      ∙ ap (λ (l : List ℕ). so_far.judged_bytes ++ l) (sym (empty_list left none)) ∙ so_far.joined in
      (so_far.rows, subst (λ (l : List ℕ). IsJudged old l so_far.rows now) all judged-is, so_far.counted_rows)

pub judged-first : (old : Machine) (bytes : List ℕ) (asks : AskView) → IsMachine old → old.state ≡ empty_state old.wiring
    → AreFirst old.wiring asks → JudgedSoFar old bytes bytes old asks 0
judged-first old bytes asks machine empty none = record {
  rows = [];
  judged_bytes = [];
  joined = refl;
  stored = record { packable = All-nil IsPackable; in_range = All-nil IsRowInRange; holds = refl };
  counted_rows = refl;
  wired = refl;
  replays = Replays-first old asks machine empty none;
}
