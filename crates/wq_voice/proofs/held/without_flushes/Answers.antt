use Rattle.std.proofs.Common.{◌≡◌, ◌++◌, ◌∷◌, [], ◌<◌, ℕ, Bool, true, false, List, length, map, sym, ap, ◌∙◌, arith}
use Rattle.std.specs.Prelude.{◌&&◌, filter, not}
use Rattle.std.specs.List.{range_with_len}
use Rattle.std.proofs.lemmas.List.FromFn.{length-map-range_with_len}
use Rattle.wq_items.specs.Readings.{is_among}
use Rattle.wq_items.specs.Table.{Table}
use Rattle.wq_groups.specs.DeclaredGroups.{Declared}
use Rattle.wq_diagnosis.specs.Words.{workqueue_of}
use Rattle.wq_voice.specs.Held.{flushing_items, has_flush_on}
use Rattle.wq_voice.proofs.BareNotes.{kept, left}
use Rattle.wq_voice.proofs.HeldNotes.{and-both, and-first, and-second, read-mark, workqueue-below}
use Rattle.wq_voice.proofs.held.without_flushes.Goals as goal
use Rattle.wq_voice.proofs.held.without_flushes.Goals.{then-is_named+then-not-has_flush+in_ok-push, else-is_named}
use Rattle.wq_voice.proofs.held.without_flushes.Goals.{else-is_named-via-then-is_named+else-not-has_flush}
use Rattle.wq_voice.proofs.held.without_flushes.Goals.{else-is_named-via-else-is_named}

pub index-is_named-requires : goal.index-is_named-requires
index-is_named-requires g c =
    omega (
      arith,
      c.loop-number-test.true,
      c.from.ensures,
      ap (λ (l : List Bool). length l) c.in_ok-named.ensures,
      length-map-range_with_len (is_among c.args.named.now) 0 c.len-count.result,
    )

pub index-has_flush-requires : goal.index-has_flush-requires
index-has_flush-requires g c =
    let a = c.args.assigned.now in
    let s : Declared = a.declared in
    let ws = a.workqueues in
    let n : ℕ = c.loop-number.number in
    let f : ℕ → ℕ = workqueue_of s ws in
    let same = ap (λ (t : Table). length t.names) c.table.ensures.is in
    let item : n < length s.partition.group_of =
    omega (
      arith,
      c.loop-number-test.true,
      c.len-count.ensures.len,
      same,
      c.table.ensures.assigned.declared.one_group_each,
    ) in
    let below : f n < ws.assignment.lanes = workqueue-below a c.table.ensures.assigned n item in
    let at : c.from-in-loop-number.result ≡ f n =
    c.from-in-loop-number.ensures ∙ c.get.ensures ∙ c.workqueue_of.ensures ∙ ap f c.new-item.ensures in
    omega (
      arith,
      below,
      at,
      ap (λ (l : List Bool). length l) c.in_ok-flushing.ensures,
      length-map-range_with_len (is_among (map f (flushing_items s))) 0 ws.assignment.lanes,
    )

pub loop-number-preserved : goal.loop-number-preserved
loop-number-preserved g c =
    let a = c.args.assigned.now in
    let s : Declared = a.declared in
    let ws = a.workqueues in
    let n : ℕ = c.loop-number.number in
    let f : ℕ → ℕ = workqueue_of s ws in
    let same = ap (λ (t : Table). length t.names) c.table.ensures.is in
    let item : n < length s.partition.group_of =
    omega (
      arith,
      c.loop-number-test.true,
      c.len-count.ensures.len,
      same,
      c.table.ensures.assigned.declared.one_group_each,
    ) in
    let below : f n < ws.assignment.lanes = workqueue-below a c.table.ensures.assigned n item in
    let at : c.from-in-loop-number.result ≡ f n =
    c.from-in-loop-number.ensures ∙ c.get.ensures ∙ c.workqueue_of.ensures ∙ ap f c.new-item.ensures in
    let named : List ℕ = c.args.named.now in
    let items : List ℕ = c.loop-number.items.items in
    let p : ℕ → Bool = λ i. is_among named i && not (has_flush_on s ws i) in
    let one : is_among named n ≡ c.index-is_named.result.now =
    read-mark named c.len-count.result n c.from.result c.in_ok-named.named.items c.index-is_named.result.now
    c.in_ok-named.ensures c.loop-number-test.true c.from.ensures c.index-is_named.ensures in
    let two : has_flush_on s ws n ≡ c.index-has_flush.result.now =
    read-mark (map f (flushing_items s)) ws.assignment.lanes (f n) c.from-in-loop-number.result
    c.in_ok-flushing.flushing.items c.index-has_flush.result.now c.in_ok-flushing.ensures below at
    c.index-has_flush.ensures in
    elim c.if-is_named.branch [
      | then-is_named+then-not-has_flush+in_ok-push w ↦
          rw w.items-is
          (kept p n items w.push.new.self.items c.loop-number.invariant
          (and-both (is_among named n) (has_flush_on s ws n) (one ∙ w.if-is_named.true) (two ∙ w.if-not-has_flush.true))
          (w.in_ok-push.ensures.items ∙ ap (λ (i : ℕ). items ++ (i ∷ [])) c.new-item.ensures))
      | else-is_named w ↦
          let fails : p n ≡ false = elim w.else-is_named.branch [
            | else-is_named-via-then-is_named+else-not-has_flush v ↦
                and-second (is_among named n) (has_flush_on s ws n) (two ∙ v.if-not-has_flush.false)
            | else-is_named-via-else-is_named v ↦
                and-first (is_among named n) (has_flush_on s ws n) (one ∙ v.if-is_named.false)
          ] in
          rw w.items-is (left p n items c.loop-number.invariant fails)
    ]

pub returns : goal.returns
returns g c =
    let a = c.args.assigned.now in
    let s : Declared = a.declared in
    let p : ℕ → Bool = λ i. is_among c.args.named.now i && not (has_flush_on s a.workqueues i) in
    let same = ap (λ (t : Table). length t.names) c.table.ensures.is in
    c.loop-number.invariant
    ∙ ap (λ (k : ℕ). filter p (range_with_len 0 k))
    (omega (arith, c.loop-number-test.false, c.loop-number.auto.number-end, c.len-count.ensures.len, same))
