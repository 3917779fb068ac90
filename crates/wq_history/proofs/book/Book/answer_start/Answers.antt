use Rattle.std.proofs.Common.{◌≡◌, ℕ, sym, Bool, true, false, None, MatchBool}
use Rattle.wq_history.proofs.Words.{HasContext, lane_at, run_by, BookView, state, IsWrongToStart}
use Rattle.wq_history.proofs.Deeds.{start_is_lawful}
use Rattle.wq_history.proofs.book.Book.answer_start.Goals as goal

-- the context exists, and runs nothing
is_idle : (b : BookView) (q c : ℕ) (is : Bool) → is ≡ true
    → MatchBool is (HasContext b.wiring q c × (run_by (lane_at (state b) q) c ≡ None)) (IsWrongToStart b q c)
    → HasContext b.wiring q c × (run_by (lane_at (state b) q) c ≡ None)
is_idle b q c true same says = says
is_idle b q c false same says = absurd cc

pub make_in-row-requires-clause-lawful : goal.make_in-row-requires-clause-lawful
make_in-row-requires-clause-lawful g c =
    let b = c.args.self.now in
    let q = c.args.context.lane in
    let h = c.args.context.number in
    let idle = is_idle b q h _ c.if-not-is_idle_context.false c.is_idle_context.ensures in
    start_is_lawful b.wiring (state b) q h c.in-Some.next idle.0 idle.1 (sym c.in-Some.ensures.next)
