-- What the methods of a runtime say of their answers and counts follows from the calls that they make: queueings,
-- cancellations and flushes.
use Rattle.std.proofs.Common.{◌≡◌, ℕ, ◌<◌, ◌≤◌, inl, inr, Bool, true, false, List, refl, sym, subst, ap, ◌∙◌, arith}
use Rattle.std.proofs.Common.{Result, Ok, Err, IfOk, IfErr, IsTrue}
use Rattle.wq_history.proofs.Words.{Wiring, items, lane_of, QueueEvent, CancelEvent, AskEvent, Row, ask_event}
use Rattle.wq_history.proofs.Words.{told_event, IsThere, BookView, Refuses}
use Rattle.wq_held.proofs.Words.{Subject, OfItem, OfLane, Call, Queue, Cancel, Ask, CancelSync, Wrote, WroteTwo}
use Rattle.wq_held.proofs.Words.{CallError, HistoryFull, Closed, WrongLane, NotAsked, NoItem}
use Rattle.wq_counts.specs.declared.kind.Kind.TheVariants.{Queue as QueueKind, Cancel as CancelKind, Ask as AskKind}
use Rattle.wq_counts.specs.declared.kind.Kind.TheVariants.{Told as ToldKind}
use Rattle.wq_counts.specs.Counting.{raised, noted, noted_as}
use Rattle.wq_history.specs.Calls.{RefusesToQueue, RefusesToCancel, RefusesToAsk, RefusesToCancelSync}
use Rattle.wq_held.specs.Locked.{SeatHasRoom}
use Rattle.wq_held.specs.Calls.{IsNamed, missing, needs_room}
use Rattle.wq_api.specs.Refusals.{RefusesQueueWork, RefusesCancelWork}
use Rattle.wq_api.specs.WaitingCalls.{RefusesFlushWork, flushed, flush_refused, asked_and_cancelled, CountsCancelSync}
use Rattle.wq_api.specs.WaitingCalls.{RefusedCancelSync}
use Rattle.wq_api.specs.Taking.{ComesTo, GivesYes, Flushes, CancelsSync}
use Rattle.wq_api.proofs.Calls.{noted_so, told_counted, not_below, barred_by, told_refused}

-- what isn't there is past the end
past : (w : Wiring) (b : BookView) (i : ℕ) → b.wiring ≡ w → items b.wiring ≤ i → items w ≤ i
past w b i of_wiring why = subst (λ (x : Wiring). items x ≤ i) of_wiring why

-- and nothing is both below the end and past it
not-past : {i n : ℕ} → i < n → n ≤ i → ⊥
not-past below above = omega (arith, below, above)

-- counts after a flush that waited, or found nothing unfinished
abbrev flushed_of : List ℕ → Subject → Bool → List ℕ
flushed_of counts x true = noted_as (noted_as counts (ask_event x) true) (told_event x) true
flushed_of counts x false = noted_as counts (ask_event x) false

module _ (w : Wiring) (rows : ℕ) (counts left : List ℕ) where
  -- a refused call is barred, or the book refuses it, and nothing is counted
  refused-by : (P : CallError → Type 0) (call : Call) (e : CallError) → (¬ IsNamed w call → P (missing call))
      → (IsNamed w call → P HistoryFull)
      → ((b : BookView) → b.wiring ≡ w → IsNamed w call → (IsTrue (needs_room call) → SeatHasRoom counts)
      → Refuses b call e → P e)
      → ComesTo w rows counts call (Err e) left → P e × (left ≡ counts)
  refused-by P call e gone full why (inl (barred, same)) =
      (barred_by P w counts call e gone (λ named over. full named) barred, same)
  refused-by P call e gone full why (inr (admitted, took)) =
      (why took.0.old took.0.holds.of_wiring admitted.0 admitted.1 took.0.answers.0, took.1)

  -- ---- queue_item

  pub queue_counted : (i : ℕ) (r : Result Bool CallError)
      → GivesYes (λ answer. ComesTo w rows counts (Queue i) answer left) r
      → IfOk r (λ accepted. (i < items w) × SeatHasRoom counts × (left ≡ raised counts i QueueKind accepted))
  queue_counted i (Ok said) (row, says, came) =
      let counted = noted_so counts left row (QueueEvent i) said came.1.0.answers.0.0 says came.1.1 in
      (came.0.0, came.0.1 refl, counted)
  queue_counted i (Err e) came = tt

  queue-refusal : (b : BookView) (i : ℕ) (e : CallError) → b.wiring ≡ w → i < items w → SeatHasRoom counts
      → RefusesToQueue b i e → RefusesQueueWork w counts (lane_of w i) i e
  queue-refusal b i HistoryFull of_wiring there room why = (there, refl)
  queue-refusal b i Closed of_wiring there room why = ((there, refl), room)
  queue-refusal b i NoItem of_wiring there room why = past w b i of_wiring why
  queue-refusal b i _ of_wiring there room why = absurd why

  pub queue_refused : (i : ℕ) (r : Result Bool CallError)
      → GivesYes (λ answer. ComesTo w rows counts (Queue i) answer left) r
      → IfErr r (λ e. RefusesQueueWork w counts (lane_of w i) i e × (left ≡ counts))
  queue_refused i (Ok said) came = tt
  queue_refused i (Err e) came =
      refused-by (λ x. RefusesQueueWork w counts (lane_of w i) i x) (Queue i) e (not_below i (items w))
      (λ there. (there, refl)) (λ b of there room why. queue-refusal b i e of there (room refl) why) came

  -- ---- cancel_work

  pub cancel_counted : (i : ℕ) (r : Result Bool CallError)
      → GivesYes (λ answer. ComesTo w rows counts (Cancel i) answer left) r
      → IfOk r (λ taken. (i < items w) × SeatHasRoom counts × (left ≡ raised counts i CancelKind taken))
  cancel_counted i (Ok said) (row, says, came) =
      let counted = noted_so counts left row (CancelEvent i) said came.1.0.answers.0 says came.1.1 in
      (came.0.0, came.0.1 refl, counted)
  cancel_counted i (Err e) came = tt

  cancel-refusal : (b : BookView) (i : ℕ) (e : CallError) → b.wiring ≡ w → i < items w → RefusesToCancel b i e
      → RefusesCancelWork w i e
  cancel-refusal b i HistoryFull of_wiring there why = there
  cancel-refusal b i NoItem of_wiring there why = past w b i of_wiring why
  cancel-refusal b i _ of_wiring there why = absurd why

  pub cancel_refused : (i : ℕ) (r : Result Bool CallError)
      → GivesYes (λ answer. ComesTo w rows counts (Cancel i) answer left) r
      → IfErr r (λ e. RefusesCancelWork w i e × (left ≡ counts))
  cancel_refused i (Ok said) came = tt
  cancel_refused i (Err e) came =
      refused-by (λ x. RefusesCancelWork w i x) (Cancel i) e (not_below i (items w)) (λ there. there)
      (λ b of there room why. cancel-refusal b i e of there why) came

  -- ---- flushes, of an item or of a lane

  -- counts after an ask
  asked-counted : (x : Subject) (between : List ℕ) (asked : Row) (said : Bool) → asked.yes ≡ said
      → ComesTo w rows counts (Ask x) (Ok (Wrote asked)) between → between ≡ noted_as counts (ask_event x) said
  asked-counted x between asked said says came =
      noted_so counts between asked (ask_event x) said came.1.0.answers.0 says came.1.1

  is-flushed : (x : Subject) (waited : Bool) → Flushes w rows counts x (Ok waited) left
      → IsThere w x × SeatHasRoom counts × (left ≡ flushed_of counts x waited)
  is-flushed x waited (asked, between, says, came, inl (idle, same)) = (
    came.0.0,
    came.0.1 refl,
    subst (λ (k : Bool). left ≡ flushed_of counts x k) (sym idle ∙ says)
        (same ∙ asked-counted x between asked false idle came),
  )
  is-flushed x waited (asked, between, says, came, inr (waits, told)) = (
    came.0.0,
    came.0.1 refl,
    subst (λ (k : Bool). left ≡ flushed_of counts x k) (sym waits ∙ says)
        (told_counted w rows between left x asked.number told.0 told.1
        ∙ ap (λ (c : List ℕ). noted_as c (told_event x) true) (asked-counted x between asked true waits came)),
  )

  -- a book refuses an ask because there is no such item or lane, or for want of rows
  ask-refusal : (P : CallError → Type 0) (b : BookView) (x : Subject) (e : CallError) → b.wiring ≡ w
      → ((¬ IsThere b.wiring x) → P (missing (Ask x))) → P HistoryFull → RefusesToAsk b x e → P e
  ask-refusal P b (OfItem i) NoItem of gone full why = gone (λ there. not-past there why)
  ask-refusal P b (OfItem i) HistoryFull of gone full why = full
  ask-refusal P b (OfItem i) _ of gone full why = absurd why
  ask-refusal P b (OfLane q) WrongLane of gone full why = gone (λ there. not-past there why)
  ask-refusal P b (OfLane q) HistoryFull of gone full why = full
  ask-refusal P b (OfLane q) _ of gone full why = absurd why

  not-flushed : (P : CallError → List ℕ → Type 0) (x : Subject) (e : CallError)
      → ((¬ IsThere w x) → P (missing (Ask x)) counts) → (IsThere w x → P HistoryFull counts)
      → (IsThere w x → SeatHasRoom counts → P NotAsked (noted_as counts (ask_event x) true))
      → Flushes w rows counts x (Err e) left → P e left
  not-flushed P x e gone full late (inl came) =
      let refused = refused-by (λ k. P k counts) (Ask x) e gone full
      (λ b of there room why. ask-refusal (λ k. P k counts) b x e of
      (λ none. gone (λ has. none (subst (λ (v : Wiring). IsThere v x) (sym of) has))) (full there) why) came in
      subst (P e) (sym refused.1) refused.0
  not-flushed P x e gone full late (inr (asked, between, came, (waits, took))) =
      let is : e ≡ NotAsked = told_refused took.0.old x e took.0.answers.0 in
      subst (λ (k : CallError). P k left) (sym is)
      (subst (P NotAsked) (sym (took.1 ∙ asked-counted x between asked true waits came))
      (late came.0.0 (came.0.1 refl)))

  pub flush_counted : (i : ℕ) (r : Result Bool CallError) → Flushes w rows counts (OfItem i) r left
      → IfOk r (λ waited. (i < items w) × SeatHasRoom counts × (left ≡ flushed counts i waited))
  flush_counted i (Ok true) came = is-flushed (OfItem i) true came
  flush_counted i (Ok false) came = is-flushed (OfItem i) false came
  flush_counted i (Err e) came = tt

  pub flush_not_done : (i : ℕ) (r : Result Bool CallError) → Flushes w rows counts (OfItem i) r left
      → IfErr r (λ e. RefusesFlushWork w counts i e × (left ≡ flush_refused counts i e))
  flush_not_done i (Ok waited) came = tt
  flush_not_done i (Err e) came =
      not-flushed (λ k l. RefusesFlushWork w counts i k × (l ≡ flush_refused counts i k)) (OfItem i) e
      (λ none. (not_below i (items w) none, refl)) (λ there. (there, refl)) (λ there room. ((there, room), refl)) came

  -- ---- cancel_work_sync

  -- counts after an ask and a cancellation in one call
  both-counted : (between : List ℕ) (i : ℕ) (asked taken : Row) (waits said : Bool) → asked.yes ≡ waits
      → taken.yes ≡ said → ComesTo w rows counts (CancelSync i) (Ok (WroteTwo asked taken)) between
      → between ≡ asked_and_cancelled counts i waits said
  both-counted between i asked taken waits said waited says came =
      let rows_of = came.1.0.answers.1 in
      let first : noted counts asked ≡ raised counts i AskKind waits =
      noted_so counts (noted counts asked) asked (AskEvent i) waits rows_of.1 waited refl in
      noted_so (noted counts asked) between taken (CancelEvent i) said rows_of.3 says came.1.1
      ∙ ap (λ (c : List ℕ). raised c i CancelKind said) first

  pub cancel_sync_counted : (i : ℕ) (r : Result Bool CallError) → CancelsSync w rows counts i r left
      → IfOk r (λ taken. (i < items w) × SeatHasRoom counts × CountsCancelSync counts left i taken)
  cancel_sync_counted i (Ok said) (asked, taken, between, says, came, inl (idle, same)) =
      (came.0.0, came.0.1 refl, inl (same ∙ both-counted between i asked taken false said idle says came))
  cancel_sync_counted i (Ok said) (asked, taken, between, says, came, inr (waits, told)) = (
    came.0.0,
    came.0.1 refl,
    inr (told_counted w rows between left (OfItem i) asked.number told.0 told.1
        ∙ ap (λ (c : List ℕ). raised c i ToldKind true) (both-counted between i asked taken true said waits says came)),
  )
  cancel_sync_counted i (Err e) came = tt

  cancel-sync-refusal : (b : BookView) (i : ℕ) (e : CallError) → b.wiring ≡ w → i < items w
      → RefusesToCancelSync b i e → RefusesFlushWork w counts i e × RefusedCancelSync counts counts i e
  cancel-sync-refusal b i HistoryFull of_wiring there why = (there, refl)
  cancel-sync-refusal b i NoItem of_wiring there why = (past w b i of_wiring why, refl)
  cancel-sync-refusal b i _ of_wiring there why = absurd why

  pub cancel_sync_not_done : (i : ℕ) (r : Result Bool CallError) → CancelsSync w rows counts i r left
      → IfErr r (λ e. RefusesFlushWork w counts i e × RefusedCancelSync counts left i e)
  cancel_sync_not_done i (Ok said) came = tt
  cancel_sync_not_done i (Err e) (inl came) =
      let refused = refused-by (λ k. RefusesFlushWork w counts i k × RefusedCancelSync counts counts i k)
      (CancelSync i) e (λ none. (not_below i (items w) none, refl)) (λ there. (there, refl))
      (λ b of there room why. cancel-sync-refusal b i e of there why) came in
      subst (λ l. RefusesFlushWork w counts i e × RefusedCancelSync counts l i e) (sym refused.1) refused.0
  cancel_sync_not_done i (Err e) (inr (asked, taken, between, came, (waits, took))) =
      let is : e ≡ NotAsked = told_refused took.0.old (OfItem i) e took.0.answers.0 in
      subst (λ (x : CallError). RefusesFlushWork w counts i x × RefusedCancelSync counts left i x) (sym is) (
        (came.0.0, came.0.1 refl),
        (taken.yes, took.1 ∙ both-counted between i asked taken true taken.yes waits refl came),
      )

pub ruleset by_queue = (queue_counted, queue_refused)

pub ruleset by_cancel = (cancel_counted, cancel_refused)

pub ruleset by_flush = (flush_counted, flush_not_done)

pub ruleset by_cancel_sync = (cancel_sync_counted, cancel_sync_not_done)
