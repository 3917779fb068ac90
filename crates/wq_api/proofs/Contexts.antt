-- What the methods of a context say of their answers and counts follows from the calls that they make.
use Rattle.std.proofs.Common.{◌≡◌, ℕ, ◌<◌, ◌⊎◌, inl, inr, true, Bool, List, refl, sym, ap, subst, ◌∙◌, Option, Some}
use Rattle.std.proofs.Common.{None, Result, Ok, Err, IfOk, IfErr, OnErr, IfSome}
use Rattle.wq_history.proofs.Words.{Running, Context, Wiring, items, HasContext, lane_at, RunsIn, IsSoundState, Event}
use Rattle.wq_history.proofs.Words.{MayCome, BookView, state, IsBook, IsWrongToStart, IsNotAwake, RunsItem, WaitsFor}
use Rattle.wq_history.proofs.Words.{RefusesToWait, Row}
use Rattle.wq_held.proofs.Words.{Flush, Start, Wait, Over, Finish, Wrote, CallError, Undeclared, TooManyWaits}
use Rattle.wq_held.proofs.Words.{WrongLane}
use Rattle.wq_counts.specs.declared.kind.Kind.TheVariants.{Finish as FinishKind}
use Rattle.wq_counts.specs.Counting.{over_kind, raised}
use Rattle.wq_history.proofs.CallRows.{wrong-only}
use Rattle.wq_history.proofs.LegalRows.{IsSoundState-legal}
use Rattle.wq_history.proofs.OneAnswer.{wait-lawful}
use Rattle.wq_history.proofs.Upheld.{start_there, wait-there, finish-there}
use Rattle.wq_held.specs.Locked.{IsOnLane, SeatHasRoom}
use Rattle.wq_api.specs.Refusals.{RefusesWaitIn}
use Rattle.wq_api.specs.WaitingCalls.{IsDeclaredOn, HasWaiter, waited_for, RefusedWaitIn}
use Rattle.wq_api.specs.Locking.{WasWrongToStartIn}
use Rattle.wq_held.specs.Receipts.{Next}
use Rattle.wq_api.specs.Taking.{IsAnswered, Took, GivesItem, GivesNext, Waits}
use Rattle.wq_api.proofs.Calls.{wait_counted, over_counted, finish_counted, barred_by}

-- ---- next_in

next_given : (w : Wiring) (rows : ℕ) (c : Context) (item : Option ℕ)
    → GivesItem (λ answer. IsAnswered w rows (Start c) answer) item
    → HasContext w c.lane c.number × IfSome item (λ i. IsOnLane w c.lane i)
next_given w rows c (Some i) (row, is, took) =
    let there = start_there took.old took.new c row took.holds.legal took.answers in (
      subst (λ (x : Wiring). HasContext x c.lane c.number) took.holds.of_wiring there.0,
      subst (λ (x : Wiring). IsOnLane x c.lane i) took.holds.of_wiring
          (subst (λ (k : ℕ). IsOnLane took.old.wiring c.lane k) is (there.1, there.2)),
    )
next_given w rows c None took =
    (subst (λ (x : Wiring). HasContext x c.lane c.number) took.holds.of_wiring took.answers.0.0.0, tt)

pub next_started : (w : Wiring) (rows : ℕ) (c : Context) (r : Result Next CallError)
    → GivesNext c (λ answer. IsAnswered w rows (Start c) answer) r
    → IfOk r (λ next. HasContext w c.lane c.number × IfSome next.item (λ item. IsOnLane w c.lane item))
next_started w rows c (Ok next) took = next_given w rows c next.item took.1
next_started w rows c (Err e) took = tt

pub next_refused : (w : Wiring) (rows : ℕ) (c : Context) (r : Result Next CallError)
    → GivesNext c (λ answer. IsAnswered w rows (Start c) answer) r → IfErr r (λ e. e ≡ WrongLane)
next_refused w rows c (Err e) took = ((wrong-only (IsWrongToStart took.old c.lane c.number) e).1 took.answers.0).0
next_refused w rows c (Ok next) took = tt

pub next_cause : (w : Wiring) (rows : ℕ) (c : Context) (r : Result Next CallError)
    → GivesNext c (λ answer. IsAnswered w rows (Start c) answer) r
    → OnErr r (WasWrongToStartIn w rows c.lane c.number)
next_cause w rows c (Err e) took = (
  record { book = took.old; seats = 0 },
  took.holds,
  ((wrong-only (IsWrongToStart took.old c.lane c.number) e).1 took.answers.0).1,
)
next_cause w rows c (Ok next) took = tt

pub ruleset by_start = (next_refused, next_cause)

-- ---- finish_in

pub finish_done : (w : Wiring) (rows : ℕ) (counts left : List ℕ) (c : Context) (i : ℕ) (row : Row)
    → Took w rows counts (Finish c i) (Ok (Wrote row)) left
    → HasContext w c.lane c.number × IsOnLane w c.lane i × (left ≡ raised counts i FinishKind true)
finish_done w rows counts left c i row took =
    let there = finish-there took.0.old took.0.new c i row took.0.holds.legal took.0.answers in (
      subst (λ (x : Wiring). HasContext x c.lane c.number) took.0.holds.of_wiring there.0,
      subst (λ (x : Wiring). IsOnLane x c.lane i) took.0.holds.of_wiring (there.1, there.2),
      finish_counted w rows counts left c i row took,
    )

pub finish_refused : (w : Wiring) (rows : ℕ) (counts left : List ℕ) (c : Context) (i : ℕ) (e : CallError)
    → Took w rows counts (Finish c i) (Err e) left → (e ≡ WrongLane) × (left ≡ counts)
finish_refused w rows counts left c i e took = (
  ((wrong-only ((¬ RunsItem took.0.old c.lane c.number i) ⊎ IsNotAwake took.0.old c.lane c.number) e).1
      took.0.answers.0).0,
  took.1,
)

pub ruleset by_finish = (finish_done, finish_refused)

-- ---- wait_in

module _ (w : Wiring) (rows : ℕ) (counts left : List ℕ) (c : Context) (f : Flush) where
  pub wait_done : (r : Result Bool CallError) → Waits w rows counts c f r left
      → IfOk r (λ unfinished. HasContext w c.lane c.number × (f.target < items w) × SeatHasRoom counts
      × (left ≡ waited_for counts f.whole f.target unfinished))
  wait_done (Ok said) (began, between, over, says, came, ended) =
      let took = came.1 in
      let there = wait-there took.0.old took.0.new c f began took.0.holds.legal took.0.answers in (
        came.0.0,
        subst (λ (x : Wiring). f.target < items x) took.0.holds.of_wiring there.1,
        came.0.1 refl,
        over_counted w rows between left c f over ended
            ∙ ap (λ (s : List ℕ). raised s f.target (over_kind f.whole) true)
            (wait_counted w rows counts between c f began said says took),
      )
  wait_done (Err e) came = tt

  -- counts after a wait that couldn't begin
  not-begun : (e : CallError) → left ≡ counts → RefusedWaitIn w counts left c.lane c.number f.whole f.target e
  not-begun WrongLane same = inl same
  not-begun _ same = same

  refusal : (b : BookView) (e : CallError) → HasContext w c.lane c.number → SeatHasRoom counts
      → RefusesToWait b c f e → RefusesWaitIn w counts c.lane c.number e
  refusal b Undeclared there room why = (there, room)
  refusal b TooManyWaits there room why = (there, room)
  refusal b WrongLane there room why = inr room
  refusal b _ there room why = absurd why

  -- a wait that is refused once it began, is refused for one cause alone
  late : (between : List ℕ) (e : CallError) → Took w rows between (Over c f) (Err e) left → e ≡ WrongLane
  late between e took = ((wrong-only (¬ WaitsFor took.0.old c.lane c.number f.whole f.target) e).1 took.0.answers.0).0

  pub wait_not_done : (r : Result Bool CallError) → Waits w rows counts c f r left
      → IfErr r (λ e. RefusesWaitIn w counts c.lane c.number e
      × RefusedWaitIn w counts left c.lane c.number f.whole f.target e)
  wait_not_done (Ok said) came = tt
  wait_not_done (Err e) (inl (inl (barred, same))) = (
    barred_by (λ x. RefusesWaitIn w counts c.lane c.number x) w counts (Wait c f) e (λ none. inl none)
        (λ there full. (there, full)) barred,
    not-begun e same,
  )
  wait_not_done (Err e) (inl (inr (admitted, took))) =
      (refusal took.0.old e admitted.0 (admitted.1 refl) took.0.answers.0, not-begun e took.1)
  wait_not_done (Err e) (inr (began, between, came, took)) =
      let counted = took.1 ∙ wait_counted w rows counts between c f began began.yes refl came.1 in
      subst (λ (x : CallError). RefusesWaitIn w counts c.lane c.number x
      × RefusedWaitIn w counts left c.lane c.number f.whole f.target x) (sym (late between e took))
      (inr (came.0.1 refl), inr (came.0.0, began.yes, counted))

  -- what a context of a book runs is on its lane
  runs-on_lane : (b : BookView) (r : Running) → IsBook b → RunsIn (lane_at (state b) c.lane) c.number r
      → IsOnLane b.wiring c.lane r.entry.item
  runs-on_lane b r book runs =
      let sound : IsSoundState b.wiring (state b) = IsSoundState-legal b.wiring b.rows book.legal in
      sound.own_lane c.lane r.entry (inr (c.number, r, runs, refl))

  refused-waiter : (b : BookView) (e : CallError) → IsBook b → RefusesToWait b c f e
      → HasWaiter b.wiring c.lane f.whole f.target (Err e)
  refused-waiter b Undeclared book why = (why.0.entry.item, runs-on_lane b why.0 book why.1.0, why.2)
  refused-waiter b TooManyWaits book why = (why.0.entry.item, runs-on_lane b why.0 book why.1.0, why.2)
  refused-waiter b _ book why = tt

  -- so the answer to a wait tells of an item of the lane
  pub wait_waiter : (r : Result Bool CallError) → Waits w rows counts c f r left → HasContext w c.lane c.number
      → SeatHasRoom counts → HasWaiter w c.lane f.whole f.target r
  wait_waiter (Ok said) (began, between, over, says, came, ended) there room =
      let took = came.1.0 in
      let b : BookView = took.old in
      let may = subst (λ (e : Event). MayCome b.wiring b.rows e began.yes began.number) took.answers.0
      took.answers.1.may in
      let waits = wait-lawful b f.whole c.lane c.number f.target began.yes began.number may in
      subst (λ (x : Wiring). IsDeclaredOn x c.lane f.whole f.target) took.holds.of_wiring
      (waits.0.entry.item, runs-on_lane b waits.0 took.holds.legal waits.1, waits.2.declared)
  wait_waiter (Err e) (inl (inl (barred, same))) there room =
      barred_by (λ x. HasWaiter w c.lane f.whole f.target (Err x)) w counts (Wait c f) e
      (λ none. absurd (none there)) (λ named full. tt) barred
  wait_waiter (Err e) (inl (inr (admitted, took))) there room =
      subst (λ (x : Wiring). HasWaiter x c.lane f.whole f.target (Err e)) took.0.holds.of_wiring
      (refused-waiter took.0.old e took.0.holds.legal took.0.answers.0)
  wait_waiter (Err e) (inr (began, between, came, took)) there room =
      subst (λ (x : CallError). HasWaiter w c.lane f.whole f.target (Err x)) (sym (late between e took)) tt

pub ruleset by_wait = (wait_done, wait_not_done, wait_waiter)
