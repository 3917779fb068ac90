use Rattle.std.proofs.Common.{◌<◌, ◌++◌, ◌∷◌, [], ℕ, length, sym, ap, subst, ◌∙◌, arith}
use Rattle.std.specs.Prelude.{filter}
use Rattle.std.specs.List.{All, range_with_len}
use Rattle.wq_deadlock.specs.Judging.{is_on_bare}
use Rattle.wq_items.specs.Table.{Table}
use Rattle.wq_voice.proofs.BareNotes.{bare_items-within, kept, left}
use Rattle.wq_voice.proofs.note.bare_items.Goals as goal
use Rattle.wq_voice.proofs.note.bare_items.Goals.{then-is_on_bare+in_ok-push, else-is_on_bare}

pub loop-number-preserved : goal.loop-number-preserved
loop-number-preserved g c =
    let ws = c.args.assigned.now.workqueues in
    let p = is_on_bare ws c.args.assigned.now.declared.partition.group_of in
    let n = c.loop-number.number in
    let bare = rw c.new-item.ensures at c.is_on_bare.ensures in
    elim c.if-is_on_bare.branch [
      | then-is_on_bare+in_ok-push w ↦
          rw w.items-is
          (kept p n c.loop-number.items.items w.push.new.self.items c.loop-number.invariant (sym bare ∙ w.if-is_on_bare.true)
          (w.in_ok-push.ensures.items ∙ ap (λ (i : ℕ). c.loop-number.items.items ++ (i ∷ [])) c.new-item.ensures))
      | else-is_on_bare w ↦ rw w.items-is (left p n c.loop-number.items.items c.loop-number.invariant (sym bare ∙ w.if-is_on_bare.false))
    ]

pub returns-clause-items : goal.returns-clause-items
returns-clause-items g c =
    let p = is_on_bare c.args.assigned.now.workqueues c.args.assigned.now.declared.partition.group_of in
    let same = ap (λ (t : Table). length t.names) c.table.ensures.is in
    c.loop-number.invariant ∙ ap (λ (n : ℕ). filter p (range_with_len 0 n))
    (omega (arith, c.loop-number-test.false, c.loop-number.auto.number-end, c.len-number-end.ensures.len, same))

pub returns-clause-within : goal.returns-clause-within
returns-clause-within g c =
    let s = c.args.assigned.now.declared in
    let p = is_on_bare c.args.assigned.now.workqueues s.partition.group_of in
    let same = ap (λ (t : Table). length t.names) c.table.ensures.is in
    let all = c.loop-number.invariant ∙ ap (λ (n : ℕ). filter p (range_with_len 0 n))
    (omega (arith, c.loop-number-test.false, c.loop-number.auto.number-end, c.len-number-end.ensures.len, same)) in
    subst (All (λ i. i < length s.table.names)) (sym all) (bare_items-within s c.args.assigned.now.workqueues)
