use Rattle.std.proofs.Common.{◌≡◌, ◌<◌, ◌≤◌, ℕ, true, false, take, get_or}
use Rattle.wq_deadlock.proofs.KnownStuck.{Forgotten}
use Rattle.wq_deadlock.proofs.stuck.forget.Given as goal

abbrev pub invariant-loop-q : goal.invariant-loop-q
invariant-loop-q g l = record {
  forgotten : Forgotten l.fn.known.items l.known.items (take l.q-index l.lanes);
  from : l.lowest ≤ l.fn.from;
  stay : (q : ℕ) → q < l.lowest → get_or l.fn.known.items q false ≡ true → get_or l.known.items q false ≡ true;
}
