-- What a call writes and counts, and why it is refused.
use Rattle.std.proofs.Common.{◌≡◌, ℕ, zero, suc, ◌<◌, ◌≤◌, inl, inr, Bool, true, false, List, refl, sym, ap, subst, ◌∙◌}
use Rattle.std.proofs.Common.{◌+◌, Result, Ok, Err, IfErr, OnOk, sum}
use Rattle.std.proofs.lemmas.Bool.{cases_lt}
use Rattle.wq_history.proofs.Words.{Context, Wiring, Event, Row, told_event, wait_event, over_event, finish_event}
use Rattle.wq_history.proofs.Words.{MayCome, BookView, WakesEnough, RefusesToTell, Replies}
use Rattle.wq_held.proofs.Words.{Subject, Flush, Call, Told, CancelSync, Start, Wait, Over, Finish, Close, Drain, Reply}
use Rattle.wq_held.proofs.Words.{Wrote, WroteTwo, Done, NotYet, CallError, HistoryFull, NotAsked, Wake}
use Rattle.wq_counts.specs.declared.kind.Kind.TheVariants.{Finish as FinishKind}
use Rattle.wq_counts.specs.Counting.{wait_kind, over_kind, raised, noted, noted_as}
use Rattle.wq_history.proofs.CallRows.{told-yes, over-yes, finish-yes}
use Rattle.wq_history.proofs.Wakes.{unchanged-enough}
use Rattle.wq_held.specs.declared.fault.SeatError.{SeatError}
use Rattle.wq_held.specs.Locked.{HeldView, seat_rows}
use Rattle.wq_held.specs.declared.turn.Turn.{Turn}
use Rattle.wq_held.specs.declared.turn.Turn.TheVariants.{Answers, Sleeps}
use Rattle.wq_held.specs.Calls.{IsNamed, missing, IsBarred, TakesTurn}
use Rattle.wq_held.specs.Turns.{IfSleeps}
use Rattle.wq_held.specs.Receipts.{Answered}
use Rattle.wq_api.specs.Taking.{WritesOne, IsAnswered, IsDoneBy, Took}

-- ---- replies

-- a call that writes one row isn't answered otherwise
pub never_two : (old new : BookView) (call : Call) (ask taken : Row) → WritesOne call
    → Replies old call (WroteTwo ask taken) new → ⊥
never_two old new (CancelSync i) ask taken writes replies = absurd writes
never_two old new _ ask taken writes replies = absurd replies

pub never_done : (old new : BookView) (call : Call) → WritesOne call → Replies old call Done new → ⊥
never_done old new (Start c) writes replies = absurd writes
never_done old new Close writes replies = absurd writes
never_done old new Drain writes replies = absurd writes
never_done old new _ writes replies = absurd replies.0

-- ---- counts

-- counts after a row of this event that says this
pub noted_so : (counts left : List ℕ) (row : Row) (event : Event) (said : Bool) → row.event ≡ event → row.yes ≡ said
    → left ≡ noted counts row → left ≡ noted_as counts event said
noted_so counts left row event said is says counted =
    counted ∙ (ap (λ (x : Event). noted_as counts x row.yes) is ∙ ap (λ (k : Bool). noted_as counts event k) says)

-- whoever is told is told yes
pub told_counted : (w : Wiring) (rows : ℕ) (counts left : List ℕ) (x : Subject) (mark : ℕ) (row : Row)
    → Took w rows counts (Told x mark) (Ok (Wrote row)) left → left ≡ noted_as counts (told_event x) true
told_counted w rows counts left x mark row took =
    let b : BookView = took.0.old in
    let is : row.event ≡ told_event x = took.0.answers.0.0 in
    let may = subst (λ (e : Event). MayCome b.wiring b.rows e row.yes row.number) is took.0.answers.1.may in
    noted_so counts left row (told_event x) true is (told-yes b.wiring b.rows x row.yes row.number may) took.1

-- what a context does is counted for the item of the wait, or of the entry
wait-noted : (counts : List ℕ) (whole : Bool) (q c b : ℕ) (said : Bool)
    → noted_as counts (wait_event whole q c b) said ≡ raised counts b (wait_kind whole) said
wait-noted counts false q zero b said = refl
wait-noted counts false q (suc h) b said = refl
wait-noted counts true q zero b said = refl
wait-noted counts true q (suc h) b said = refl

over-noted : (counts : List ℕ) (whole : Bool) (q c b : ℕ) (said : Bool)
    → noted_as counts (over_event whole q c b) said ≡ raised counts b (over_kind whole) said
over-noted counts false q zero b said = refl
over-noted counts false q (suc h) b said = refl
over-noted counts true q zero b said = refl
over-noted counts true q (suc h) b said = refl

finish-noted : (counts : List ℕ) (q c i : ℕ) (said : Bool)
    → noted_as counts (finish_event q c i) said ≡ raised counts i FinishKind said
finish-noted counts q zero i said = refl
finish-noted counts q (suc h) i said = refl

pub wait_counted : (w : Wiring) (rows : ℕ) (counts left : List ℕ) (c : Context) (f : Flush) (row : Row) (said : Bool)
    → row.yes ≡ said → Took w rows counts (Wait c f) (Ok (Wrote row)) left
    → left ≡ raised counts f.target (wait_kind f.whole) said
wait_counted w rows counts left c f row said says took =
    noted_so counts left row (wait_event f.whole c.lane c.number f.target) said took.0.answers.0 says took.1
    ∙ wait-noted counts f.whole c.lane c.number f.target said

pub over_counted : (w : Wiring) (rows : ℕ) (counts left : List ℕ) (c : Context) (f : Flush) (row : Row)
    → Took w rows counts (Over c f) (Ok (Wrote row)) left → left ≡ raised counts f.target (over_kind f.whole) true
over_counted w rows counts left c f row took =
    let b : BookView = took.0.old in
    let event : Event = over_event f.whole c.lane c.number f.target in
    let is : row.event ≡ event = took.0.answers.0 in
    let may = subst (λ (e : Event). MayCome b.wiring b.rows e row.yes row.number) is took.0.answers.1.may in
    let yes : row.yes ≡ true = over-yes b.wiring b.rows f.whole c.lane c.number f.target row.yes row.number may in
    noted_so counts left row event true is yes took.1 ∙ over-noted counts f.whole c.lane c.number f.target true

pub finish_counted : (w : Wiring) (rows : ℕ) (counts left : List ℕ) (c : Context) (i : ℕ) (row : Row)
    → Took w rows counts (Finish c i) (Ok (Wrote row)) left → left ≡ raised counts i FinishKind true
finish_counted w rows counts left c i row took =
    let b : BookView = took.0.old in
    let is : row.event ≡ finish_event c.lane c.number i = took.0.answers.0 in
    let may = subst (λ (e : Event). MayCome b.wiring b.rows e row.yes row.number) is took.0.answers.1.may in
    let yes : row.yes ≡ true = finish-yes b.wiring b.rows c.lane c.number i row.yes row.number may in
    noted_so counts left row (finish_event c.lane c.number i) true is yes took.1
    ∙ finish-noted counts c.lane c.number i true

-- ---- refusals

-- what isn't below is at or above
pub not_below : (a b : ℕ) → ¬ (a < b) → b ≤ a
not_below a b none = elim (cases_lt a b) [
  | inl below ↦ absurd (none below)
  | inr above ↦ above
]

-- what holds if something is missing, and if the seat is full, holds of whatever bars a call
pub barred_by : (P : CallError → Type 0) (w : Wiring) (counts : List ℕ) (call : Call) (e : CallError)
    → (¬ IsNamed w call → P (missing call)) → (IsNamed w call → seat_rows ≤ sum counts → P HistoryFull)
    → IsBarred w counts call e → P e
barred_by P w counts call e gone full (inl (none, is)) = subst P (sym is) (gone none)
barred_by P w counts call e gone full (inr (named, needs, over, is)) = subst P (sym is) (full named over)

-- a caller isn't told for one cause alone
pub told_refused : (b : BookView) (x : Subject) (e : CallError) → RefusesToTell b x e → e ≡ NotAsked
told_refused b x NotAsked why = refl
told_refused b x _ why = absurd why

-- ---- answers under the lock

-- a call that writes one row isn't answered otherwise
pub took_two : (w : Wiring) (rows : ℕ) (counts left : List ℕ) (call : Call) (r : Reply) (ask taken : Row) → WritesOne call
    → r ≡ WroteTwo ask taken → Took w rows counts call (Ok r) left → ⊥
took_two w rows counts left call r ask taken writes is took =
    never_two took.0.old took.0.new call ask taken writes
    (subst (λ (x : Reply). Replies took.0.old call x took.0.new) is took.0.answers)

pub took_done : (w : Wiring) (rows : ℕ) (counts left : List ℕ) (call : Call) (r : Reply) → WritesOne call → r ≡ Done
    → Took w rows counts call (Ok r) left → ⊥
took_done w rows counts left call r writes is took =
    never_done took.0.old took.0.new call writes
    (subst (λ (x : Reply). Replies took.0.old call x took.0.new) is took.0.answers)

pub ruleset one_row = (took_two, took_done)

-- whoever sleeps has counted nothing
pub sleeps_uncounted : (old new : HeldView) (counts left : List ℕ) (call : Call) (turn : Turn (Result Reply CallError))
    → TakesTurn old counts call turn new left → IfSleeps turn (λ _. left ≡ counts)
sleeps_uncounted old new counts left call (Answers answer wake) takes = tt
sleeps_uncounted old new counts left call (Sleeps among) takes = takes.uncounted

-- enough are woken if a seat is made, or isn't
pub seat_wakes : (old new : HeldView) (r : Result (List ℕ) SeatError) (few : Type 0) (wake : Wake)
    → OnOk r (few × (new ≡ record old { seats = old.seats + 1 })) → IfErr r (λ e. new ≡ old)
    → WakesEnough old.book new.book wake
seat_wakes old new (Ok seat) few wake made refused =
    subst (λ (b : BookView). WakesEnough old.book b wake) (sym (ap (λ (h : HeldView). h.book) made.1))
    (unchanged-enough old.book wake)
seat_wakes old new (Err e) few wake made refused =
    subst (λ (b : BookView). WakesEnough old.book b wake) (sym (ap (λ (h : HeldView). h.book) refused))
    (unchanged-enough old.book wake)

-- ---- calls that are done

-- a close is done, whatever the book
close_answer : (w : Wiring) (rows : ℕ) (answer : Result Reply CallError) → IsAnswered w rows Close answer
    → answer ≡ Ok Done
close_answer w rows (Ok (Wrote row)) answered = absurd answered.answers.0
close_answer w rows (Ok (WroteTwo ask taken)) answered = absurd answered.answers
close_answer w rows (Ok Done) answered = refl
close_answer w rows (Ok NotYet) answered = absurd answered.answers.0
close_answer w rows (Err e) answered = absurd answered.answers.0

-- so is a drain
drain_answer : (w : Wiring) (rows : ℕ) (answer : Result Reply CallError) → IsAnswered w rows Drain answer
    → answer ≡ Ok Done
drain_answer w rows (Ok (Wrote row)) answered = absurd answered.answers.0
drain_answer w rows (Ok (WroteTwo ask taken)) answered = absurd answered.answers
drain_answer w rows (Ok Done) answered = refl
drain_answer w rows (Ok NotYet) answered = absurd answered.settled
drain_answer w rows (Err e) answered = absurd answered.answers.0

-- a call that was answered with Done is done
done_by : (w : Wiring) (rows : ℕ) (call : Call) (a : Answered) → a.call ≡ call → a.answer ≡ Ok Done
    → IsAnswered w rows call a.answer → IsDoneBy w rows call a
done_by w rows call a calls done answered =
    (λ t. record { call = calls t; answer = done t }, subst (IsAnswered w rows call) done answered)

pub closed_done : (w : Wiring) (rows : ℕ) (a : Answered) → a.call ≡ Close → IsAnswered w rows Close a.answer
    → IsDoneBy w rows Close a
closed_done w rows a calls answered = done_by w rows Close a calls (close_answer w rows a.answer answered) answered

pub drained_done : (w : Wiring) (rows : ℕ) (a : Answered) → a.call ≡ Drain → IsAnswered w rows Drain a.answer
    → IsDoneBy w rows Drain a
drained_done w rows a calls answered = done_by w rows Drain a calls (drain_answer w rows a.answer answered) answered
