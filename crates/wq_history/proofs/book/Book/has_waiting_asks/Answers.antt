use Rattle.std.proofs.Common.{◌≡◌, ◌∙◌, arith}
use Rattle.std.proofs.lemmas.Bool.{ltb-true, ltb-false, lt-ltb}
use Rattle.wq_history.proofs.Words.{all_asks_waiting}
use Rattle.wq_history.proofs.Counting.{CountsAsks-none, all_asks_waiting-count}
use Rattle.wq_history.proofs.book.Book.has_waiting_asks.Goals as goal

pub returns-clause-some : goal.returns-clause-some
returns-clause-some g c =
    let b = c.self.inside in
    let counts = c.self.invariant.replays.asked.counts in
    let waiting : c.all.result ≡ all_asks_waiting c.args.self.now.rows =
    rw (← c.self.view_is) (c.all.ensures ∙ all_asks_waiting-count b.history.rows b.asks counts) in (
      (λ is. omega (arith, waiting, ltb-true 0 c.all.result is)),
      (λ some. lt-ltb 0 c.all.result (omega (arith, waiting, some))),
    )

pub returns-clause-none : goal.returns-clause-none
returns-clause-none g c is x =
    let b = c.self.inside in
    let asked = c.self.invariant.replays.asked in
    let none : b.asks.all ≡ 0 = omega (arith, c.all.ensures, ltb-false 0 c.all.result is) in
    rw (← c.self.view_is) (CountsAsks-none b.history.rows b.asks x asked.sum_is asked.counts none)
