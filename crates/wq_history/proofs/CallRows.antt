-- Rows of calls: what they say, and what they are about.
use Rattle.std.proofs.Common.{◌≡◌, ℕ, zero, suc, ◌<◌, ◌≤◌, Bool, true, false, List, [], ◌∷◌, refl, subst, arith, ◌↔◌}
use Rattle.std.proofs.Common.{IsTrue, not, Contains}
use Rattle.wq_items.proofs.Lists.{Contains-here}
use Rattle.wq_history.proofs.Words.{Entry, HelpStep, DoStart, Wiring, helpers_of, HasContext, State, lane_at}
use Rattle.wq_history.proofs.Words.{IsHeldBack, Event, QueueEvent, CancelEvent, Row, item_in, Subject, Wrote, CallError}
use Rattle.wq_history.proofs.Words.{WrongLane, event_in, told_event, start_event, over_event, finish_event, state_after}
use Rattle.wq_history.proofs.Words.{MayCome, BookView, state, free, IsBook, HasPendingOn, LacksRows, Appends}
use Rattle.wq_history.proofs.Words.{AppendsOne, subject_of, IsUnfinishedBelow, RefusesIf, Writes, Replies, DoOver}
use Rattle.wq_history.proofs.Words.{DoOverAll, DoFinish, Says, MayDo, deed_item, items}
use Rattle.wq_history.specs.declared.call.Call.TheVariants.{Queue as QueueCall, Cancel as CancelCall}
use Rattle.wq_core.proofs.Contexts.{MayStart-first}
use Rattle.wq_history.proofs.LegalRows.{IsSoundState-legal}
use Rattle.wq_history.proofs.WaitEvents.{told-exactly}
use Rattle.wq_history.proofs.Deeds.{deed-there}

-- ---- the same row

-- the row of an event, as that of the same event
pub appends-as : (old new : BookView) (event other : Event) (said answer : Bool) (n m : ℕ) → event ≡ other
    → said ≡ answer → n ≡ m → Appends old new event said n → Appends old new other answer m
appends-as old new event other said answer n m events answers numbers row =
    subst (λ (k : ℕ). Appends old new other answer k) numbers
    (subst (λ (k : Bool). Appends old new other k n) answers
    (subst (λ (k : Event). Appends old new k said n) events row))

-- a row that is written, as one of its event
pub appends_event : (old new : BookView) (row : Row) (event : Event) → row.event ≡ event → Writes old row new
    → AppendsOne old new event row.yes
appends_event old new row event is writes =
    (row.number, subst (λ (e : Event). Appends old new e row.yes row.number) is writes)

pub appends_queue : (old new : BookView) (i : ℕ) (row : Row) → Replies old (QueueCall i) (Wrote row) new
    → AppendsOne old new (QueueEvent i) row.yes
appends_queue old new i row replies = appends_event old new row (QueueEvent i) replies.0.0 replies.1

pub appends_cancel : (old new : BookView) (i : ℕ) (row : Row) → Replies old (CancelCall i) (Wrote row) new
    → AppendsOne old new (CancelEvent i) row.yes
appends_cancel old new i row replies = appends_event old new row (CancelEvent i) replies.0 replies.1

-- ---- rows that say yes

pub told-yes : (w : Wiring) (rows : List Row) (x : Subject) (said : Bool) (n : ℕ)
    → MayCome w rows (told_event x) said n → said ≡ true
told-yes w rows x said n may = ((told-exactly w rows x said n).0 may).0

-- what a context does says what it has to
pub deed-says : (w : Wiring) (rows : List Row) (q c : ℕ) (deed : HelpStep) (said : Bool) (n : ℕ)
    → MayCome w rows (event_in q c deed) said n → Says w (state_after w rows) deed said
deed-says w rows q zero (DoStart i) said n may = may.0
deed-says w rows q zero _ said n may = may.0
deed-says w rows q (suc h) deed said n may = may.0

pub over-yes : (w : Wiring) (rows : List Row) (whole : Bool) (q c b : ℕ) (said : Bool) (n : ℕ)
    → MayCome w rows (over_event whole q c b) said n → said ≡ true
over-yes w rows false q c b said n may = deed-says w rows q c (DoOver b) said n may
over-yes w rows true q c b said n may = deed-says w rows q c (DoOverAll b) said n may

pub finish-yes : (w : Wiring) (rows : List Row) (q c i : ℕ) (said : Bool) (n : ℕ)
    → MayCome w rows (finish_event q c i) said n → said ≡ true
finish-yes w rows q c i said n may = deed-says w rows q c (DoFinish i) said n may

-- a row that is written, of an event that comes only with yes
pub yes-row : (old new : BookView) (row : Row) (event : Event) → row.event ≡ event → Writes old row new
    → ((said : Bool) (n : ℕ) → MayCome old.wiring old.rows event said n → said ≡ true)
    → AppendsOne old new event true
yes-row old new row event is writes always =
    let one = appends_event old new row event is writes in
    (one.0, subst (λ (k : Bool). Appends old new event k one.0) (always row.yes one.0 one.1.may) one.1)

-- a cancellation lacks a row only if none is free
pub cancel-lacks : (b : BookView) (i : ℕ) → LacksRows b (CancelEvent i) → free b ≡ 0
cancel-lacks b i (true, n, may, less) = absurd (omega (arith, less))
cancel-lacks b i (false, n, may, less) = omega (arith, less)

-- ---- contexts

-- the item of a start
pub start-item : (q c i : ℕ) → item_in (start_event q c i) ≡ i
start-item q zero i = refl
start-item q (suc h) i = refl

-- what a context does, it may do
pub may-do : (b : BookView) (q c : ℕ) (deed : HelpStep) (said : Bool) (n : ℕ)
    → MayCome b.wiring b.rows (event_in q c deed) said n → MayDo b.wiring (state b) q c deed
may-do b q zero (DoStart i) said n may = MayStart-first (lane_at (state b) q) i may.1.0
may-do b q zero _ said n may = may.1.0
may-do b q (suc h) deed said n may = may.1.0.1

-- a helper that does something exists
helper-come : (w : Wiring) (rows : List Row) (q c : ℕ) (deed : HelpStep) (said : Bool) (n : ℕ)
    → MayCome w rows (event_in q c deed) said n → c ≤ helpers_of w q
helper-come w rows q zero deed said n come = omega arith
helper-come w rows q (suc h) deed said n come = come.1.0.0.1

-- the context of a row that is written exists, and so does the item that it is about
pub context-writes : (b new : BookView) (q c : ℕ) (deed : HelpStep) (row : Row) → IsBook b
    → row.event ≡ event_in q c deed → Writes b row new → HasContext b.wiring q c × (deed_item deed < items b.wiring)
context-writes b new q c deed row book is writes =
    let (n, appends) = appends_event b new row (event_in q c deed) is writes in
    let there = deed-there b.wiring (state b) q c deed book.wiring (IsSoundState-legal b.wiring b.rows book.legal)
    (may-do b q c deed row.yes n appends.may) in
    ((there.1, helper-come b.wiring b.rows q c deed row.yes n appends.may), there.0)

-- ---- refusals and marks

-- a call of a context that can't make it has one refusal
pub wrong-only : (wrong : Type 0) (e : CallError) → ((e ≡ WrongLane) × wrong) ↔ RefusesIf wrong e
wrong-only wrong WrongLane = ((λ why. why.1), (λ why. (refl, why)))
wrong-only wrong e = ((λ why. let bad : e ≡ WrongLane = why.0 in absurd cc), (λ why. absurd why))

-- what holds a wait back is what is unfinished below its mark
pub held-back : (w : Wiring) (s : State) (whole : Bool) (b mark : ℕ) → IsHeldBack w s whole b mark
    ↔ IsUnfinishedBelow s (subject_of w whole b) mark
held-back w s false b mark = ((λ is. is), (λ is. is))
held-back w s true b mark = ((λ is. is), (λ is. is))

-- ---- what is pending

-- nothing is pending on a lane, exactly if it isn't so that an entry is
pub says_nothing : (b : BookView) (q : ℕ) (pending : Bool) → (IsTrue pending ↔ HasPendingOn b q)
    → IsTrue (not pending) ↔ ((lane_at (state b) q).pending ≡ [])
says_nothing b q pending says = by_list (lane_at (state b) q).pending pending says where
  by_list : (es : List Entry) (some : Bool) → (IsTrue some ↔ ((e : Entry) × Contains es e))
      → IsTrue (not some) ↔ (es ≡ [])
  by_list [] true there = absurd (omega (arith, (there.0 refl).1.1))
  by_list [] false there = ((λ is. refl), (λ none. refl))
  by_list (e ∷ es) true there = ((λ is. absurd (let never : false ≡ true = is in cc)), (λ none. absurd cc))
  by_list (e ∷ es) false there = (
    (λ is. absurd (let never : false ≡ true = there.1 (e, Contains-here e es) in cc)),
    (λ none. absurd cc),
  )
