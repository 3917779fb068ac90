-- What holds of a book after an answer, and what an answer is about.
use Rattle.std.proofs.Common.{◌≡◌, ℕ, ◌+◌, ◌<◌, ◌≤◌, inl, inr, Bool, true, false, cond, [], ◌∷◌, ◌++◌, length-append}
use Rattle.std.proofs.Common.{refl, sym, ap, subst, ◌∙◌, arith, Result, Ok, Err, ◌&&◌}
use Rattle.wq_history.proofs.Words.{Context, DoStart, DoFinish, items, lane_of, HasContext, lane_at, is_running}
use Rattle.wq_history.proofs.Words.{wait_deed, over_deed, Event, Row, item_in, Subject, Flush, Call, CancelSync, Close}
use Rattle.wq_history.proofs.Words.{Reply, Wrote, WroteTwo, Done, NotYet, CallError, is_ask, ask_event, finish_event}
use Rattle.wq_history.proofs.Words.{MayCome, rows_needed, BookView, state, free, IsBook, Appends, IsNext, Writes}
use Rattle.wq_history.proofs.Words.{WritesTwo, after, Replies, Answers, deed_item}
use Rattle.wq_core.proofs.Contexts.{next-may}
use Rattle.wq_history.specs.declared.call.Call.TheVariants.{Queue as QueueCall, Ask as AskCall, Start as StartCall}
use Rattle.wq_history.specs.declared.call.Call.TheVariants.{Wait as WaitCall, Over as OverCall, Finish as FinishCall}
use Rattle.wq_history.proofs.Histories.{IsLegal-more}
use Rattle.wq_history.proofs.Holding.{free_rows-noted}
use Rattle.wq_history.proofs.LegalRows.{IsSoundState-legal}
use Rattle.wq_history.proofs.KeptRows.{paid_row}
use Rattle.wq_history.proofs.WaitEvents.{step_of-ask_event}
use Rattle.wq_history.proofs.CallRows.{appends-as, start-item, may-do, context-writes}
use Rattle.wq_history.proofs.Uniqueness.{comes}

-- ---- a book stays one

-- what is said of a book after an answer
abbrev IsUpheld : BookView → BookView → Type 0
IsUpheld old new = IsBook new × (new.wiring ≡ old.wiring) × (new.room ≡ old.room)

-- with one more row
appended-upheld : (old : BookView) (event : Event) (said : Bool) (n : ℕ) → IsBook old
    → MayCome old.wiring old.rows event said n → rows_needed old.wiring event said ≤ free old
    → IsBook (record old { rows = old.rows ++ (record { event = event; yes = said; number = n } ∷ []) })
appended-upheld old event said n book may room =
    let row : Row = record { event = event; yes = said; number = n } in
    record {
      wiring = book.wiring;
      legal = IsLegal-more old.wiring old.rows row book.legal may;
      limit = book.limit;
      enough = omega (
        arith,
        length-append old.rows (row ∷ []),
        book.enough,
        room,
        paid_row old.wiring old.rows row (inl book.wiring) book.legal may,
      );
    }

pub row-upheld : (old new : BookView) (row : Row) → IsBook old → Writes old row new → IsUpheld old new
row-upheld old new row book writes =
    subst (λ (b : BookView). IsUpheld old b) (sym writes.is_new)
    (appended-upheld old row.event row.yes row.number book writes.may writes.room, refl, refl)

two-upheld : (old new : BookView) (call : Call) (ask taken : Row) → IsBook old → WritesTwo old call ask taken new
    → IsUpheld old new
two-upheld old new (CancelSync i) ask taken book writes =
    let both = writes.1 in
    let first = row-upheld old both.0 ask book both.2 in
    let second = row-upheld both.0 new taken first.0 both.4 in
    (second.0, second.1 ∙ first.1, second.2 ∙ first.2)
two-upheld old new _ ask taken book writes = absurd writes

same-upheld : (old new : BookView) → IsBook old → new ≡ old → IsUpheld old new
same-upheld old new book same = subst (λ (b : BookView). IsUpheld old b) (sym same) (book, refl, refl)

done-upheld : (old new : BookView) (call : Call) → IsBook old → new ≡ after old call → IsUpheld old new
done-upheld old new Close book is =
    subst (λ (b : BookView). IsUpheld old b) (sym is)
    (record { wiring = book.wiring; legal = book.legal; limit = book.limit; enough = book.enough }, refl, refl)
done-upheld old new (QueueCall i) book is = same-upheld old new book is
done-upheld old new _ book is = same-upheld old new book is

pub answer-upheld : (old new : BookView) (call : Call) (answer : Result Reply CallError) → IsBook old
    → Answers old call answer new → IsUpheld old new
answer-upheld old new call (Ok (Wrote row)) book answers = row-upheld old new row book answers.1
answer-upheld old new call (Ok (WroteTwo ask taken)) book answers = two-upheld old new call ask taken book answers
answer-upheld old new call (Ok Done) book answers = done-upheld old new call book answers.1
answer-upheld old new call (Ok NotYet) book answers = same-upheld old new book answers.1
answer-upheld old new call (Err e) book answers = same-upheld old new book answers.1

-- ---- an ask takes two of the free rows, at most

asked-takes : (old new : BookView) (x : Subject) (said : Bool) (n : ℕ) → Appends old new (ask_event x) said n
    → free old ≤ free new + 2
asked-takes old new x said n row =
    let r : Row = record { event = ask_event x; yes = said; number = n } in
    let one : cond (is_ask (ask_event x) && said) 1 0 ≤ 1 = at_most_one (is_ask (ask_event x) && said) in
    omega (arith, ap free row.is_new, one, free_rows-noted old.wiring old.room old.rows r (step_of-ask_event x said))
  where
    at_most_one : (k : Bool) → cond k 1 0 ≤ 1
    at_most_one true = omega arith
    at_most_one false = omega arith

pub ask_takes : (old new : BookView) (x : Subject) (row : Row) → Replies old (AskCall x) (Wrote row) new
    → free old ≤ free new + 2
ask_takes old new x row replies =
    asked-takes old new x row.yes row.number
    (appends-as old new row.event (ask_event x) row.yes row.yes row.number row.number replies.0 refl refl replies.1)

-- ---- what an answer is about

-- the next item of a lane is one of this lane
next-there : (b : BookView) (q i : ℕ) → IsBook b → IsNext b q i → (i < items b.wiring) × (lane_of b.wiring i ≡ q)
next-there b q i book next =
    let lane = lane_at (state b) q in
    let sound = IsSoundState-legal b.wiring b.rows book.legal in
    let own = sound.own_lane q next.0 (inl (next-may lane.pending (is_running lane) next.0 next.1).0) in
    subst (λ (k : ℕ). (k < items b.wiring) × (lane_of b.wiring k ≡ q)) next.2 own

-- what is started: its context exists, and its item is one of the lane
pub start_there : (old new : BookView) (c : Context) (row : Row) → IsBook old
    → Replies old (StartCall c) (Wrote row) new
    → HasContext old.wiring c.lane c.number × (item_in row.event < items old.wiring)
    × (lane_of old.wiring (item_in row.event) ≡ c.lane)
start_there old new c row book replies =
    let i : ℕ = replies.0.0 in
    let item : item_in row.event ≡ i = ap item_in replies.0.2 ∙ start-item c.lane c.number i in
    let there = subst (λ (k : ℕ). (k < items old.wiring) × (lane_of old.wiring k ≡ c.lane)) (sym item)
    (next-there old c.lane i book replies.0.1) in
    ((context-writes old new c.lane c.number (DoStart i) row book replies.0.2 replies.1).0, there.0, there.1)

-- what a wait is for
wait-item : (whole : Bool) (b : ℕ) → deed_item (wait_deed whole b) ≡ b
wait-item false b = refl
wait-item true b = refl

over-item : (whole : Bool) (b : ℕ) → deed_item (over_deed whole b) ≡ b
over-item false b = refl
over-item true b = refl

-- what waits, and what it waits for
pub wait-there : (old new : BookView) (c : Context) (f : Flush) (row : Row) → IsBook old
    → Replies old (WaitCall c f) (Wrote row) new → HasContext old.wiring c.lane c.number × (f.target < items old.wiring)
wait-there old new c f row book replies =
    let there = context-writes old new c.lane c.number (wait_deed f.whole f.target) row book replies.0 replies.1 in
    (there.0, omega (arith, there.1, wait-item f.whole f.target))

pub over-there : (old new : BookView) (c : Context) (f : Flush) (row : Row) → IsBook old
    → Replies old (OverCall c f) (Wrote row) new → HasContext old.wiring c.lane c.number × (f.target < items old.wiring)
over-there old new c f row book replies =
    let there = context-writes old new c.lane c.number (over_deed f.whole f.target) row book replies.0 replies.1 in
    (there.0, omega (arith, there.1, over-item f.whole f.target))

-- what is finished: its context exists, and its item is one of the lane
pub finish-there : (old new : BookView) (c : Context) (i : ℕ) (row : Row) → IsBook old
    → Replies old (FinishCall c i) (Wrote row) new
    → HasContext old.wiring c.lane c.number × (i < items old.wiring) × (lane_of old.wiring i ≡ c.lane)
finish-there old new c i row book replies =
    let there = context-writes old new c.lane c.number (DoFinish i) row book replies.0 replies.1 in
    let (r, runs, done) = may-do old c.lane c.number (DoFinish i) row.yes row.number
    (comes old new row (finish_event c.lane c.number i) replies.0 replies.1) in
    let sound = IsSoundState-legal old.wiring old.rows book.legal in
    let own = sound.own_lane c.lane r.entry (inr (c.number, r, runs, refl)) in
    (there.0, there.1, ap (λ (k : ℕ). lane_of old.wiring k) (sym done.entry) ∙ own.1)
