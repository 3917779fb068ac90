use Rattle.std.proofs.Common.{◌≡◌, ◌+◌, ◌<◌, ℕ, Bool, true, false, List, length, map, set, sym, ap, subst, ◌∙◌, arith}
use Rattle.std.specs.Prelude.{◌==◌, filter, not}
use Rattle.std.specs.List.{range_with_len}
use Rattle.wq_items.specs.declared.target.Target.{Target}
use Rattle.wq_items.specs.Table.{Table, targets_of}
use Rattle.wq_items.proofs.ReadingLists.{AreMarked, AreMarked-all}
use Rattle.wq_groups.specs.DeclaredGroups.{Declared}
use Rattle.wq_diagnosis.specs.Words.{workqueue_of}
use Rattle.wq_voice.specs.Held.{flushing_items}
use Rattle.wq_voice.proofs.HeldNotes.{marked-next, marked-same, workqueue-below}
use Rattle.wq_voice.proofs.held.lanes_with_flushes.Goals as goal
use Rattle.wq_voice.proofs.held.lanes_with_flushes.Goals.{then-not-is_empty, else-not-is_empty}

pub loop-number-preserved : goal.loop-number-preserved
loop-number-preserved g c =
    let a = c.args.assigned.now in
    let s : Declared = a.declared in
    let lanes : ℕ = a.workqueues.assignment.lanes in
    let n : ℕ = c.loop-number.number in
    let marks : List Bool = c.loop-number.marks.items in
    let f : ℕ → ℕ = workqueue_of s a.workqueues in
    let p : ℕ → Bool = λ i. not (length (targets_of s.table.waits i) == 0) in
    let targets : c.waits.result.now ≡ targets_of s.table.waits n =
    c.waits.ensures
    ∙ ap (λ (t : Table). targets_of t.waits c.new-item.result) c.table-in-loop-number.ensures.is
    ∙ ap (targets_of s.table.waits) c.new-item.ensures in
    let is : (length (targets_of s.table.waits n) == 0) ≡ c.is_empty.result =
    ap (λ (ts : List Target). length ts == 0) (sym targets) ∙ sym c.is_empty.ensures in
    let same = ap (λ (t : Table). length t.names) c.table.ensures.is in
    let item : n < length s.partition.group_of =
    omega (
      arith,
      c.loop-number-test.true,
      c.len-number-end.ensures.len,
      same,
      c.table.ensures.assigned.declared.one_group_each,
    ) in
    let within : f n < lanes = workqueue-below a c.table.ensures.assigned n item in
    elim c.if-not-is_empty.branch [
      | then-not-is_empty w ↦
          let at : w.from-then-not-is_empty.result ≡ f n =
          w.from-then-not-is_empty.ensures ∙ w.get.ensures ∙ w.workqueue_of.ensures ∙ ap f c.new-item.ensures in
          rw w.marks-is
          (marked-next lanes f p n marks (set marks w.from-then-not-is_empty.result true) within
          (ap not (is ∙ w.if-not-is_empty.true)) (ap (λ (q : ℕ). set marks q true) at) c.loop-number.invariant)
      | else-not-is_empty w ↦
          rw w.marks-is
          (marked-same lanes f p n marks (ap not (is ∙ w.if-not-is_empty.false)) c.loop-number.invariant)
    ]

pub returns : goal.returns
returns g c =
    let a = c.args.assigned.now in
    let s : Declared = a.declared in
    let lanes : ℕ = a.workqueues.assignment.lanes in
    let f : ℕ → ℕ = workqueue_of s a.workqueues in
    let p : ℕ → Bool = λ i. not (length (targets_of s.table.waits i) == 0) in
    let marks : List Bool = c.loop-number.marks.items in
    let same = ap (λ (t : Table). length t.names) c.table.ensures.is in
    let all : c.loop-number.number ≡ length s.table.names =
    omega (arith, c.loop-number-test.false, c.loop-number.auto.number-end, c.len-number-end.ensures.len, same) in
    AreMarked-all lanes (map f (flushing_items s)) marks
    (subst (λ (k : ℕ). AreMarked lanes (map f (filter p (range_with_len 0 k))) marks) all c.loop-number.invariant)
