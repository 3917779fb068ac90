-- A sleeper sleeps for something that isn't so yet, in a group that is woken once it is.
use Rattle.std.proofs.Common.{◌≡◌, ℕ, inl, inr, refl, sym, ap, subst, ◌∙◌, Some, None}
use Rattle.wq_history.proofs.Words.{Running, Context, lane_at, next_of, Subject, OfItem, OfLane, BookView, state}
use Rattle.wq_history.proofs.Words.{IsWaiting, Condition, WorkOn, sleepers_for, Flush, Call, Told, Start, Over, Drain}
use Rattle.wq_history.proofs.Words.{subject_of, IsUnfinishedBelow, IsEarly, waiters_for, sleepers_of}
use Rattle.wq_core.specs.declared.entry.Waiting.{Waiting as WaitOf}
use Rattle.wq_history.specs.Waits.{IsMet}
use Rattle.wq_history.specs.Calls.{WaitsWith, Awaits, done_below}

-- what isn't done yet
not-done : (b : BookView) (x : Subject) (mark : ℕ) → IsUnfinishedBelow (state b) x mark → ¬ IsMet b (done_below x mark)
not-done b (OfItem i) mark unfinished = λ met. met unfinished
not-done b (OfLane q) mark unfinished = λ met. met unfinished

-- who waits for it
among-waiters : (x : Subject) (mark : ℕ) → sleepers_for (done_below x mark) ≡ waiters_for x
among-waiters (OfItem i) mark = refl
among-waiters (OfLane q) mark = refl

-- a context waits with one mark
pub one-wait : (b : BookView) (q c : ℕ) (g h : WaitOf) → IsWaiting b q c g → IsWaiting b q c h → g ≡ h
one-wait b q c g h one other =
    let same : Some one.0 ≡ Some other.0 = sym one.1 ∙ other.1 in
    let runs : one.0 ≡ other.0 = cc in
    let waits : Some g ≡ Some h = sym one.2 ∙ (ap (λ (r : Running). r.waiting) runs ∙ other.2) in
    cc

one-mark : (b : BookView) (c : Context) (f : Flush) (m n : ℕ) → WaitsWith b c f m → WaitsWith b c f n → m ≡ n
one-mark b c f m n one other = sym one.3 ∙
    (ap (λ (g : WaitOf). g.mark) (one-wait b c.lane c.number one.0 other.0 one.1.0 other.1.0) ∙ other.3)

-- a lane with nothing to start has no work
no-work : (b : BookView) (q : ℕ) → next_of (lane_at (state b) q) ≡ None → ¬ IsMet b (WorkOn q)
no-work b q none = λ met. let bad : Some met.0 ≡ None = sym met.1 ∙ none in absurd cc

pub early-sleeps : (b : BookView) (call : Call) (condition : Condition) → IsEarly b call → Awaits b call condition
    → (¬ IsMet b condition) × (sleepers_for condition ≡ sleepers_of b.wiring call)
early-sleeps b (Told x mark) condition early awaits = rw awaits (not-done b x mark early.1, among-waiters x mark)
early-sleeps b (Start c) condition early (inl work) = rw work (no-work b c.lane early.0.2, refl)
early-sleeps b (Start c) condition early (inr end) = rw end (early.1, refl)
early-sleeps b (Over c f) condition early (mark, waits, is) =
    let x : Subject = subject_of b.wiring f.whole f.target in
    let same : early.0 ≡ mark = one-mark b c f early.0 mark early.1 waits in
    let unfinished = subst (λ (m : ℕ). IsUnfinishedBelow (state b) x m) same early.2 in
    rw is (not-done b x mark unfinished, among-waiters x mark)
early-sleeps b Drain condition early awaits = rw awaits (early, refl)
early-sleeps b _ condition early awaits = absurd early
