-- A book writes one row for a call: which one, the call and the book say.
use Rattle.std.proofs.Common.{◌≡◌, ℕ, zero, suc, false, refl, sym, ap, subst, ◌∙◌, Some}
use Rattle.wq_history.proofs.Words.{Context, Entry, HelpStep, DoStart, DoFinish, wait_deed, over_deed, Event}
use Rattle.wq_history.proofs.Words.{QueueEvent, CancelEvent, Row, is_told, event_in, told_event, start_event, MayCome}
use Rattle.wq_history.proofs.Words.{BookView, IsBook, IsNext, Call, Queue, Cancel, Ask, Told, Start, Wait, Over, Finish}
use Rattle.wq_history.proofs.Words.{IsRowOf, Writes, OfItem, OfLane, AskEvent, AskLaneEvent}
use Rattle.wq_history.proofs.KeptRows.{one_answer}
use Rattle.wq_history.proofs.CallRows.{told-yes}

-- rows with the same fields
pub same-row : (r s : Row) → r.event ≡ s.event → r.yes ≡ s.yes → r.number ≡ s.number → r ≡ s
same-row r s events answers numbers = λ i. record { event = events i; yes = answers i; number = numbers i }

-- a row that is written may come, as that of its event
pub comes : (b new : BookView) (row : Row) (event : Event) → row.event ≡ event → Writes b row new
    → MayCome b.wiring b.rows event row.yes row.number
comes b new row event is writes = subst (λ (e : Event). MayCome b.wiring b.rows e row.yes row.number) is writes.may

-- ---- events that tell no caller

context-told : (q c : ℕ) (deed : HelpStep) → is_told (event_in q c deed) ≡ false
context-told q zero (DoStart i) = refl
context-told q zero _ = refl
context-told q (suc h) deed = refl

-- ---- starts

-- a lane has one next item
one-next : (b : BookView) (q i j : ℕ) → IsNext b q i → IsNext b q j → i ≡ j
one-next b q i j one other =
    let same : Some one.0 ≡ Some other.0 = sym one.1 ∙ other.1 in
    let entries : one.0 ≡ other.0 = cc in
    sym one.2 ∙ (ap (λ (e : Entry). e.item) entries ∙ other.2)

-- ---- one row

module _ (b new next : BookView) (r s : Row) (book : IsBook b) (first : Writes b r new) (second : Writes b s next) where
  -- two rows of one event, which isn't Told or ToldLane
  pub same-event : (event : Event) → is_told event ≡ false → r.event ≡ event → s.event ≡ event → r ≡ s
  same-event event not_told one other =
      let same = one_answer b.wiring b.rows event r.yes s.yes r.number s.number book.legal not_told
      (comes b new r event one first) (comes b next s event other second) in
      same-row r s (one ∙ sym other) same.0 same.1

  -- two rows of what a context does
  same-deed : (c : Context) (deed : HelpStep) → r.event ≡ event_in c.lane c.number deed
      → s.event ≡ event_in c.lane c.number deed → r ≡ s
  same-deed c deed one other =
      same-event (event_in c.lane c.number deed) (context-told c.lane c.number deed) one other

  pub one-row : (call : Call) → IsRowOf b call r → IsRowOf b call s → r ≡ s
  one-row (Queue i) one other = same-event (QueueEvent i) refl one.0 other.0
  one-row (Cancel i) one other = same-event (CancelEvent i) refl one other
  one-row (Ask (OfItem i)) one other = same-event (AskEvent i) refl one other
  one-row (Ask (OfLane q)) one other = same-event (AskLaneEvent q) refl one other
  one-row (Told x mark) one other =
      let yes = told-yes b.wiring b.rows x r.yes r.number (comes b new r (told_event x) one.0 first) in
      let also = told-yes b.wiring b.rows x s.yes s.number (comes b next s (told_event x) other.0 second) in
      same-row r s (one.0 ∙ sym other.0) (yes ∙ sym also) (one.1 ∙ sym other.1)
  one-row (Start c) one other =
      let same : other.0 ≡ one.0 = one-next b c.lane other.0 one.0 other.1 one.1 in
      same-deed c (DoStart one.0) one.2 (other.2 ∙ ap (λ (k : ℕ). start_event c.lane c.number k) same)
  one-row (Wait c f) one other = same-deed c (wait_deed f.whole f.target) one other
  one-row (Over c f) one other = same-deed c (over_deed f.whole f.target) one other
  one-row (Finish c i) one other = same-deed c (DoFinish i) one other
  one-row _ one other = absurd one
