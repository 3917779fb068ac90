-- A call under the lock: what its rows are about is there, what the lock guards stays as it has to be, enough are
-- woken, and whoever sleeps has a group.
use Rattle.std.proofs.Common.{◌≡◌, ℕ, zero, suc, ◌<◌, ◌≤◌, Bool, List, refl, sym, ap, subst, ◌∙◌, arith, Result, Ok}
use Rattle.std.proofs.Common.{Err, [], sum}
use Rattle.wq_history.proofs.Words.{Context, Wiring, items, max_helpers, IsSoundState, Event, AskEvent, Row, subject_in}
use Rattle.wq_history.proofs.Words.{start_event, IsThere, BookView, state, IsBook, IsUnfinishedBelow, IsRowOf, Writes}
use Rattle.wq_history.proofs.Words.{WritesTwo, after, IsEarly, Answers, waiters_for, sleepers_of}
use Rattle.wq_held.proofs.Words.{Subject, OfItem, OfLane, Flush, Call, Ask, Told, CancelSync, Start, Over, Close, Drain}
use Rattle.wq_held.proofs.Words.{Reply, Wrote, WroteTwo, Done, NotYet, CallError}
use Rattle.wq_core.proofs.LaneLemmas.{lane_within}
use Rattle.wq_core.proofs.Machines.{unfinished-own_lane}
use Rattle.wq_counts.specs.Counting.{noted, noted_as}
use Rattle.wq_counts.proofs.Tallies.{counted_rows-le-length}
use Rattle.wq_history.proofs.KeptRows.{exist}
use Rattle.wq_history.proofs.LegalRows.{IsSoundState-legal}
use Rattle.wq_history.proofs.Upheld.{answer-upheld}
use Rattle.wq_history.proofs.WaitEvents.{declared-item}
use Rattle.wq_history.proofs.Woken.{answer-enough}
use Rattle.wq_held.specs.declared.turn.Turn.{Turn}
use Rattle.wq_held.specs.declared.turn.Turn.TheVariants.{Answers as Answered, Sleeps}
use Rattle.wq_held.specs.Locked.{HeldView, IsProtected, Holds}
use Rattle.wq_held.specs.Calls.{counts_after, IsUncounted, WasAnswered, AreThere, BecomesTurn, TakesTurn}
use Rattle.wq_held.specs.Turns.{IsGroup, Wakes, WakesEnoughOf}
use Rattle.wq_held.specs.Receipts.{Answered as Shown, TakesTurnOf, ShowsTurn}
use Rattle.wq_held.proofs.Locking.{IsProtected-noted}

-- ---- what the rows of an answer are about is there

row-there : (old new : BookView) (row : Row) → IsBook old → Writes old row new
    → IsThere old.wiring (subject_in row.event)
row-there old new row book writes =
    (exist old.wiring old.rows row.event row.yes row.number book.wiring book.legal writes.may).0

-- the book between an ask and a cancellation
between-upheld : (old between : BookView) (i : ℕ) (ask : Row) → IsBook old → ask.event ≡ AskEvent i
    → Writes old ask between → IsBook between × (between.wiring ≡ old.wiring) × (between.room ≡ old.room)
between-upheld old between i ask book event writes =
    answer-upheld old between (Ask (OfItem i)) (Ok (Wrote ask)) book (event, writes)

two-there : (old new : BookView) (call : Call) (ask taken : Row) → IsBook old → WritesTwo old call ask taken new
    → IsThere old.wiring (subject_in ask.event) × IsThere old.wiring (subject_in taken.event)
two-there old new (CancelSync i) ask taken book writes =
    let both = writes.1 in
    let mid = between-upheld old both.0 i ask book both.1 both.2 in (
      row-there old both.0 ask book both.2,
      subst (λ (w : Wiring). IsThere w (subject_in taken.event)) mid.1 (row-there both.0 new taken mid.0 both.4),
    )
two-there old new _ ask taken book writes = absurd writes

pub answered-there : (old new : BookView) (call : Call) (answer : Result Reply CallError) → IsBook old
    → Answers old call answer new → AreThere old.wiring answer
answered-there old new call (Ok (Wrote row)) book answers = row-there old new row book answers.1
answered-there old new call (Ok (WroteTwo ask taken)) book answers = two-there old new call ask taken book answers
answered-there old new call _ book answers = tt

-- the same of the book after
pub now-there : (b : BookView) (call : Call) (answer : Result Reply CallError) → WasAnswered b call answer
    → AreThere b.wiring answer
now-there b call answer (old, book, answers) =
    subst (λ (w : Wiring). AreThere w answer) (sym (answer-upheld old b call answer book answers).1)
    (answered-there old b call answer book answers)

-- ---- what the lock guards

-- the book that is protected is one
pub book-inside : (old inside : HeldView) → inside ≡ old → IsBook old.book → IsBook inside.book
book-inside old inside same book = subst (λ (x : HeldView). IsBook x.book) (sym same) book

-- there are few tallies: at most as many as the rows that a history may have
pub few-tallies : (w : Wiring) (rows parts : ℕ) (b : BookView) (tallies sums : List ℕ) (seats left amount : ℕ)
    → IsProtected w rows parts b tallies sums seats left amount → IsBook b → sum tallies < 4294967294
few-tallies w rows parts b tallies sums seats left amount held book =
    omega (arith, held.counted, counted_rows-le-length b.rows, book.enough, book.limit)

module _ (w : Wiring) (rows parts : ℕ) (b new : BookView) (tallies sums : List ℕ) (seats left amount : ℕ)
    (held : IsProtected w rows parts b tallies sums seats left amount) (book : IsBook b) where
  two-protected : (call : Call) (ask taken : Row) → WritesTwo b call ask taken new
      → IsProtected w rows parts new (noted (noted tallies ask) taken) sums seats left amount
  two-protected (CancelSync i) ask taken writes =
      let both = writes.1 in
      let mid = between-upheld b both.0 i ask book both.1 both.2 in
      IsProtected-noted w rows parts both.0 new (noted tallies ask) sums seats left amount taken.event taken.yes
      taken.number
      (IsProtected-noted w rows parts b both.0 tallies sums seats left amount ask.event ask.yes ask.number held book
      both.2) mid.0 both.4
  two-protected _ ask taken writes = absurd writes

  -- a call that is done without a row closes the book, or leaves it as it was
  done-protected : (call : Call) → IsProtected w rows parts (after b call) tallies sums seats left amount
  done-protected Close = record {
    of_wiring = held.of_wiring;
    of_rows = held.of_rows;
    few_lanes = held.few_lanes;
    few_helpers = held.few_helpers;
    safe = held.safe;
    a_count_each = held.a_count_each;
    tallied = held.tallied;
    counted = held.counted;
    no_sums = held.no_sums;
    all_parts = held.all_parts;
    parts_given = held.parts_given;
    a_part_left = held.a_part_left;
    no_amount_left = held.no_amount_left;
  }
  done-protected _ = held

  -- the same of a book that is known to be this
  of-book : (x : BookView) → new ≡ x → IsProtected w rows parts x tallies sums seats left amount
      → IsProtected w rows parts new tallies sums seats left amount
  of-book x is = subst (λ y. IsProtected w rows parts y tallies sums seats left amount) (sym is)

  -- an answer, whose rows are counted
  pub answered-protected : (call : Call) (answer : Result Reply CallError) → Answers b call answer new
      → IsProtected w rows parts new (counts_after tallies answer) sums seats left amount
  answered-protected call (Ok (Wrote row)) answers =
      IsProtected-noted w rows parts b new tallies sums seats left amount row.event row.yes row.number held book
      answers.1
  answered-protected call (Ok (WroteTwo ask taken)) answers = two-protected call ask taken answers
  answered-protected call (Ok Done) answers = of-book (after b call) answers.1 (done-protected call)
  answered-protected call (Ok NotYet) answers = of-book b answers.1 held
  answered-protected call (Err e) answers = of-book b answers.1 held

-- ---- calls of which no seat counts anything

start-uncounted : (counts : List ℕ) (q c i : ℕ) (said : Bool) → noted_as counts (start_event q c i) said ≡ counts
start-uncounted counts q zero i said = refl
start-uncounted counts q (suc h) i said = refl

row-uncounted : (b : BookView) (call : Call) (row : Row) (counts : List ℕ) → IsUncounted call → IsRowOf b call row
    → noted counts row ≡ counts
row-uncounted b (Start c) row counts uncounted (i, next, is) =
    ap (λ (e : Event). noted_as counts e row.yes) is ∙ start-uncounted counts c.lane c.number i row.yes
row-uncounted b Close row counts uncounted is = absurd is
row-uncounted b Drain row counts uncounted is = absurd is
row-uncounted b _ row counts uncounted is = absurd uncounted

two-uncounted : (b new : BookView) (call : Call) (ask taken : Row) (counts : List ℕ) → IsUncounted call
    → WritesTwo b call ask taken new → noted (noted counts ask) taken ≡ counts
two-uncounted b new (CancelSync i) ask taken counts uncounted writes = absurd uncounted
two-uncounted b new _ ask taken counts uncounted writes = absurd writes

pub answered-uncounted : (old new : BookView) (call : Call) (answer : Result Reply CallError) (counts : List ℕ)
    → IsUncounted call → Answers old call answer new → counts_after counts answer ≡ counts
answered-uncounted old new call (Ok (Wrote row)) counts uncounted answers =
    row-uncounted old call row counts uncounted answers.0
answered-uncounted old new call (Ok (WroteTwo ask taken)) counts uncounted answers =
    two-uncounted old new call ask taken counts uncounted answers
answered-uncounted old new call (Ok Done) counts uncounted answers = refl
answered-uncounted old new call _ counts uncounted answers = refl

-- ---- which callers sleep

module _ (b : BookView) (book : IsBook b) where
  sound : IsSoundState b.wiring (state b)
  sound = IsSoundState-legal b.wiring b.rows book.legal

  -- the sleepers that wait for an unfinished entry are a group
  waiters-group : (x : Subject) (mark : ℕ) → IsUnfinishedBelow (state b) x mark
      → IsGroup b.wiring.lanes (items b.wiring) (waiters_for x)
  waiters-group (OfItem i) mark left = (unfinished-own_lane b.wiring (state b) i mark sound left).0
  waiters-group (OfLane q) mark left =
      omega (arith, lane_within (state b) q left.entry left.unfinished, sound.one_each)

  -- the sleepers among which the caller of an early call sleeps are a group, too
  early-group : (call : Call) → IsEarly b call → IsGroup b.wiring.lanes (items b.wiring) (sleepers_of b.wiring call)
  early-group (Told x mark) early = waiters-group x mark early.1
  early-group (Start c) early = early.0.0.0
  early-group (Over c f) early = waiters-group _ early.0 early.2
  early-group Drain early = tt
  early-group _ early = absurd early

  -- what a context waits for is there
  pub awaited-there : (c : Context) (f : Flush) → IsEarly b (Over c f) → f.target < items b.wiring
  awaited-there c f (mark, (g, ((r, runs, waits), kind), same, of_mark), left) =
      let there = declared-item b.wiring g.whole r.entry.item g.target book.wiring
      ((sound.running c.lane c.number r runs).waits g waits).1 in
      subst (λ (t : ℕ). t < items b.wiring) same there

-- ---- turns

same-held : (old new : HeldView) → new.book ≡ old.book → new.seats ≡ old.seats → new ≡ old
same-held old new books seats = λ t. record { book = books t; seats = seats t }

pub turn-taken : (old new : HeldView) (counts left : List ℕ) (call : Call) (answer : Result Reply CallError)
    (turn : Turn (Result Reply CallError)) → Answers old.book call answer new.book → new.seats ≡ old.seats
    → left ≡ counts_after counts answer → BecomesTurn new.book call answer turn
    → TakesTurn old counts call turn new left
turn-taken old new counts left call answer (Answered same wake) answers seats counted comes =
    subst (λ (a : Result Reply CallError). TakesTurn old counts call (Answered a wake) new left) (sym comes.0)
    record {
      answers = answers;
      settled = comes.1;
      seats = seats;
      counted = counted;
      wakes = comes.2;
    }
turn-taken old new counts left call answer (Sleeps among) answers seats counted comes =
    let early = subst (λ (a : Result Reply CallError). Answers old.book call a new.book) comes.0 answers in
    record {
      early = early.0;
      unchanged = same-held old new early.1 seats;
      uncounted = counted ∙ ap (counts_after counts) comes.0;
      sleeps = comes.1 ∙ ap (λ (b : BookView). sleepers_of b.wiring call) early.1;
    }

-- enough sleepers are woken, and each sleeper has a group
pub turn-wakes : (w : Wiring) (rows : ℕ) (old new : HeldView) (counts left : List ℕ) (call : Call)
    (turn : Turn (Result Reply CallError)) → Holds w rows old.book → TakesTurn old counts call turn new left
    → Wakes w.lanes (items w) WakesEnoughOf old new turn
turn-wakes w rows old new counts left call (Answered answer wake) holds takes =
    answer-enough old.book new.book call answer wake holds.legal
    (subst (λ (x : Wiring). x.helpers ≤ max_helpers) (sym holds.of_wiring) holds.few_helpers) takes.answers takes.wakes
turn-wakes w rows old new counts left call (Sleeps among) holds takes = (
  takes.unchanged,
  subst (λ (x : Wiring). IsGroup x.lanes (items x) among) holds.of_wiring
      (subst (IsGroup old.book.wiring.lanes (items old.book.wiring)) (sym takes.sleeps)
      (early-group old.book holds.legal call takes.early)),
)

-- ---- turns that show their answers

pub shown-taken : (old new : HeldView) (call meant : Call) (turn : Turn (Result Reply CallError)) (shown : Turn Shown)
    → meant ≡ call → ((counts : List ℕ) → TakesTurn old counts call turn new counts) → ShowsTurn meant turn shown
    → TakesTurnOf old call shown new
shown-taken old new call meant (Answered answer wake) shown is takes shows =
    subst (λ (t : Turn Shown). TakesTurnOf old call t new) (sym shows) (is, takes)
shown-taken old new call meant (Sleeps among) shown is takes shows =
    subst (λ (t : Turn Shown). TakesTurnOf old call t new) (sym shows) takes

pub shown-wakes : (w : Wiring) (rows : ℕ) (old new : HeldView) (call : Call) (shown : Turn Shown)
    → Holds w rows old.book → TakesTurnOf old call shown new → Wakes w.lanes (items w) WakesEnoughOf old new shown
shown-wakes w rows old new call (Answered shown wake) holds takes =
    turn-wakes w rows old new [] [] call (Answered shown.answer wake) holds (takes.1 [])
shown-wakes w rows old new call (Sleeps among) holds takes =
    turn-wakes w rows old new [] [] call (Sleeps among) holds (takes [])
