-- What is written: a book holds with one more row what it held before.
use Rattle.std.proofs.Common.{◌≡◌, ℕ, ◌+◌, ◌<◌, ◌≤◌, inl, Bool, List, [], ◌∷◌, ◌++◌, length, refl, sym, ap, subst, ◌∙◌}
use Rattle.std.proofs.Common.{arith, get_or, Some, None}
use Rattle.wq_history.proofs.Words.{Step, Wiring, effect, work_left, Machine, machine_after, Event, Row, Subject}
use Rattle.wq_history.proofs.Words.{step_of, ask_event, told_event, MayCome, reserved, rows_needed, AskView, Replays}
use Rattle.wq_history.proofs.Words.{HoldsBook, ask_place, counted, stepped, BookView, free}
use Rattle.wq_core.specs.Held.{IsDone}
use Rattle.wq_rows.specs.Packing.{MayAnswer}
use Rattle.wq_history.proofs.Holding.{reserved-held, length-more}
use Rattle.wq_history.proofs.LegalRows.{Replays-follow, counted-step}
use Rattle.wq_history.proofs.KeptRows.{paid_row}
use Rattle.wq_history.proofs.Deeds.{may-packable}
use Rattle.wq_history.proofs.Judged.{few_asks, ask-counted, told-counted}

-- of the parts of a book, and of one more row, which may follow, and for which enough rows are free
module _ {m : Machine} {rows : List Row} {room : ℕ} {asks : AskView} {work : ℕ} {closed : Bool} {book : BookView}
    (event : Event) (said : Bool) (n : ℕ) (holds : HoldsBook m rows room asks work)
    (is : record { wiring = m.wiring; rows = rows; room = room; closed = closed } ≡ book)
    (come : MayCome book.wiring book.rows event said n) (enough : rows_needed book.wiring event said ≤ free book) where
  abbrev row : Row
  row = record { event = event; yes = said; number = n }

  abbrev more : List Row
  more = rows ++ (row ∷ [])

  may : MayCome m.wiring rows event said n
  may = subst (λ (b : BookView). MayCome b.wiring b.rows event said n) (sym is) come

  -- there is room for it, and for what is kept after it
  room_for : length rows + (1 + reserved m.wiring more) ≤ room
  room_for =
      omega (
        arith,
        subst (λ (b : BookView). rows_needed b.wiring event said ≤ free b) (sym is) enough,
        holds.enough,
        reserved-held m rows asks work holds.replays holds.work_is,
        paid_row m.wiring rows row (inl holds.replays.machine_is.wiring) holds.replays.legal may,
      )

  pub room_for_row : length rows < room
  room_for_row = omega (arith, room_for)

  pub row-packable : MayAnswer event said
  row-packable = may-packable m.wiring rows event said n holds.replays.machine_is.few_helpers may

  -- an ask that waits has a count, and so has one that is told, which isn't 0
  pub asked-place : (x : Subject) → event ≡ ask_event x → ask_place x < length asks.counts
  asked-place x = ask-counted m rows asks row x holds.replays may

  pub told-place : (x : Subject) → event ≡ told_event x → 0 < get_or asks.counts (ask_place x) 0
  told-place x = told-counted m rows asks row x holds.replays may

  pub asks-few : asks.all < 4294967295
  asks-few = omega (arith, few_asks m rows asks holds.replays, holds.enough, holds.limit)

  replayed : Replays (stepped m (step_of event said)) more (counted asks event said)
  replayed = Replays-follow m rows asks row holds.replays may (omega (arith, room_for, holds.limit))

  -- the parts of the book are the replay again
  HoldsBook-more : (new : Machine) (now : AskView) (left : ℕ) → new.wiring ≡ m.wiring → Replays new more now
      → left ≡ work_left new.wiring new.state → HoldsBook new more room now left
  HoldsBook-more new now left same replays left_is = record {
    replays = replays;
    work_is = left_is;
    enough =
        let kept : reserved m.wiring more ≡ left + now.all =
        ap (λ (w : Wiring). reserved w more) (sym same) ∙ reserved-held new more now left replays left_is in
        omega (arith, kept, room_for, length-more rows row);
    limit = holds.limit;
  }

  -- its step was made
  pub HoldsBook-made : (new : Machine) (left : ℕ) (step : Step) → IsDone m step n new
      → step_of event said ≡ Some step → left ≡ work_left m.wiring (effect m.wiring m.state step)
      → HoldsBook new more room asks left
  HoldsBook-made new left step done makes left_is =
      let replays = rw (makes, counted-step asks event said step makes) at replayed in
      subst (λ (x : Machine). HoldsBook x more room asks left) (sym done.after)
      (HoldsBook-more (machine_after m step) asks left refl replays left_is)

  -- it has no step
  pub HoldsBook-noted : step_of event said ≡ None → HoldsBook m more room (counted asks event said) work
  HoldsBook-noted none =
      let replays = rw none at replayed in
      HoldsBook-more m (counted asks event said) work refl replays holds.work_is
