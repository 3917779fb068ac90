use Rattle.std.proofs.Common.{◌≡◌, ◌<◌, ◌+◌, List, [], ◌∷◌, length, sum_by, refl, sym, ap, subst, ◌∙◌, arith}
use Rattle.std.specs.List.{All}
use Rattle.std.specs.declared.collections.vec_deque.Iter.{Iter}
use Rattle.std.specs.VecDeque.Iter.{deque_iter_rest}
use Rattle.std.proofs.lemmas.List.Elements.{All-head, All-tail}
use Rattle.std.proofs.lemmas.List.Sums.{sum_by-cons}
use Rattle.wq_core.specs.declared.entry.Entry.{Entry}
use Rattle.wq_core.specs.Wiring.{Wiring, items}
use Rattle.wq_core.specs.State.{Lane, lane_at}
use Rattle.wq_core.specs.Work.{whole_work}
use Rattle.wq_core.proofs.WorkBounds.{pending_items-exist, pending_work-machine}
use Rattle.wq_core.proofs.machine.Core.pending_work.Goals as goal

-- the iterator begins with everything that is pending on the lane
all_left : (left first : Iter Entry) (lane own : Lane) → left ≡ first → deque_iter_rest first ≡ lane.pending → lane ≡ own → deque_iter_rest left ≡ own.pending
all_left left first lane own same rest is = ap deque_iter_rest same ∙ rest ∙ ap (λ (l : Lane). l.pending) is

-- the work of the next entry and of the rest
next_work : (w : Wiring) (e : Entry) (left rest : List Entry) → left ≡ e ∷ rest
    → sum_by (λ (f : Entry). whole_work w f.item) left ≡ whole_work w e.item + sum_by (λ (f : Entry). whole_work w f.item) rest
next_work w e left rest is = ap (sum_by (λ (f : Entry). whole_work w f.item)) is ∙ sum_by-cons (λ (f : Entry). whole_work w f.item) e rest

none_left : (w : Wiring) (left : List Entry) → length left ≡ 0 → sum_by (λ (f : Entry). whole_work w f.item) left ≡ 0
none_left w [] is = refl
none_left w (e ∷ left) is = absurd (omega arith)

pub loop-entry-init : goal.loop-entry-init
loop-entry-init g c =
    let m = c.args.self.now in
    let all : deque_iter_rest c.into_iter-entry-iterator.result ≡ (lane_at m.state c.args.q).pending =
    all_left c.into_iter-entry-iterator.result c.pending-entry-items.result c.lane.result.now.lane (lane_at m.state c.args.q) c.into_iter-entry-iterator.ensures.into_iter_gives c.pending-entry-items.ensures c.lane.ensures.lane in
    record {
      so_far = omega (arith, ap (sum_by (λ (e : Entry). whole_work m.wiring e.item)) all);
      rest = subst (All (λ (e : Entry). e.item < items m.wiring)) (sym all) (pending_items-exist m.wiring m.state c.items-items.ensures.machine.state c.args.q);
    }

pub whole_work-work-requires : goal.whole_work-work-requires
whole_work-work-requires g c =
    let P : Entry → Type 0 = λ (e : Entry). e.item < items c.args.self.now.wiring in
    All-head P c.in-Some.entry.now (deque_iter_rest c.next.new.self) (subst (All P) c.in-Some.ensures.steps c.loop-entry.invariant.rest)

pub overflow_add-work : goal.overflow_add-work
overflow_add-work g c =
    let m = c.args.self.now in
    let next = next_work m.wiring c.in-Some.entry.now (deque_iter_rest c.loop-entry.entry-iterator) (deque_iter_rest c.next.new.self) c.in-Some.ensures.steps in
    omega (arith, next, c.loop-entry.invariant.so_far, c.whole_work-work.ensures.work, pending_work-machine m c.args.q c.items-items.ensures.machine)

pub loop-entry-preserved : goal.loop-entry-preserved
loop-entry-preserved g c =
    let m = c.args.self.now in
    let P : Entry → Type 0 = λ (e : Entry). e.item < items m.wiring in
    let next = next_work m.wiring c.in-Some.entry.now (deque_iter_rest c.loop-entry.entry-iterator) (deque_iter_rest c.next.new.self) c.in-Some.ensures.steps in
    record {
      so_far = omega (arith, next, c.loop-entry.invariant.so_far, c.whole_work-work.ensures.work);
      rest = All-tail P c.in-Some.entry.now (deque_iter_rest c.next.new.self) (subst (All P) c.in-Some.ensures.steps c.loop-entry.invariant.rest);
    }

pub returns-clause-work : goal.returns-clause-work
returns-clause-work g c =
    let m = c.args.self.now in
    omega (arith, c.loop-entry.invariant.so_far, none_left m.wiring (deque_iter_rest c.loop-entry.entry-iterator) c.in-None.ensures.steps.0)

pub returns-clause-few : goal.returns-clause-few
returns-clause-few g c =
    omega (arith, c.loop-entry.invariant.so_far, pending_work-machine c.args.self.now c.args.q c.items-items.ensures.machine)
