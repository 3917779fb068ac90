use Rattle.std.proofs.Common.{◌≡◌, ◌≢◌, ◌<◌, ◌++◌, ◌∷◌, [], ℕ, List, length, map, sym, ap, subst, ◌∙◌, arith}
use Rattle.std.specs.Prelude.{filter, AllPairs, IfOk}
use Rattle.std.specs.List.{range_with_len}
use Rattle.std.proofs.lemmas.List.FromFn.{map-range_with_len_more}
use Rattle.wq_items.specs.declared.target.Target.{Target}
use Rattle.wq_items.specs.Table.{Table, IsTable, targets_of, flush_count, places}
use Rattle.wq_items.specs.Readings.{is_among, is_marked, kept_of, places_before, moved, compact}
use Rattle.wq_items.proofs.ReadingLemmas.{place_of, Differ-kept, flush_count-compact, flush_count-compact-le}
use Rattle.wq_items.proofs.ReadingLemmas.{length-compact, IsTable-reading}
use Rattle.wq_items.proofs.ReadingLists.{places-marked, targets-moved, lists-each}
use Rattle.wq_items.proofs.table.ItemTable.reading.Goals as goal

pub new_places-requires : goal.new_places-requires
new_places-requires g c =
    let waits = c.args.self.now.waits in
    let kept : List ℕ = c.args.kept.now in
    let table = c.len-items.ensures.table in
    let marks = c.as_slice.ensures.value ∙ c.in_ok-marks.ensures
    ∙ ap (λ (n : ℕ). map (is_among kept) (range_with_len 0 n)) c.flushes-count.ensures.count in
    let left : c.as_slice-2.result.now ≡ places (map (kept_of kept) waits) =
    c.as_slice-2.ensures.value ∙ c.in_ok-left.ensures
    ∙ ap (λ (l : List Target). map place_of (filter (is_marked c.as_slice.result.now) l)) c.all_waits.ensures.waits
    ∙ places-marked kept waits c.as_slice.result.now table.places_are_numbered marks in
    subst (AllPairs (λ (a b : ℕ). a ≢ b)) (sym left) (Differ-kept kept waits table.places_are_numbered)

pub loop-i-preserved : goal.loop-i-preserved
loop-i-preserved g c =
    let waits = c.args.self.now.waits in
    let kept : List ℕ = c.args.kept.now in
    let table = c.len-items.ensures.table in
    let count : ℕ = flush_count waits in
    let others : List ℕ = places (map (kept_of kept) waits) in
    let of : ℕ → List Target = targets_of (compact kept waits) in
    let i : ℕ = c.loop-i.i in
    let marks = c.as_slice-in-loop-i.result.now in
    let news = c.as_slice-in-loop-i-2.result.now in
    let first = c.as_slice.ensures.value ∙ c.in_ok-marks.ensures
    ∙ ap (λ (n : ℕ). map (is_among kept) (range_with_len 0 n)) c.flushes-count.ensures.count in
    let left : c.as_slice-2.result.now ≡ others =
    c.as_slice-2.ensures.value ∙ c.in_ok-left.ensures
    ∙ ap (λ (l : List Target). map place_of (filter (is_marked c.as_slice.result.now) l)) c.all_waits.ensures.waits
    ∙ places-marked kept waits c.as_slice.result.now table.places_are_numbered first in
    let marked : marks ≡ map (is_among kept) (range_with_len 0 count) =
    c.as_slice-in-loop-i.ensures.value ∙ c.in_ok-marks.ensures
    ∙ ap (λ (n : ℕ). map (is_among kept) (range_with_len 0 n)) c.flushes-count.ensures.count in
    let placed : news ≡ map (places_before others) (range_with_len 0 count) =
    c.as_slice-in-loop-i-2.ensures.value ∙ c.in_ok-places.ensures
    ∙ ap (λ (l : List ℕ). map (places_before l) (range_with_len 0 c.flushes-count.result)) left
    ∙ ap (λ (n : ℕ). map (places_before others) (range_with_len 0 n)) c.flushes-count.ensures.count in
    let within : i < length waits = omega (arith, c.loop-i-test.true, c.len-items.ensures.len, table.one_list_each) in
    let next : c.push_kept.new.pieces.next ≡ of i =
    c.in_ok-push_kept.ensures.next
    ∙ ap (λ (l : List Target). l ++ map (moved news) (filter (is_marked marks) c.waits-targets.result.now))
    c.loop-i.invariant.1
    ∙ ap (λ (ts : List Target). map (moved news) (filter (is_marked marks) ts))
    (c.waits-targets.ensures ∙ ap (targets_of waits) c.new.ensures)
    ∙ targets-moved kept waits marks news i within table.places_are_numbered marked placed in (
      c.in_ok-end_piece.ensures.pieces
          ∙ ap (λ (l : List Target). c.push_kept.new.pieces.pieces ++ (l ∷ [])) next
          ∙ ap (λ (l : List (List Target)). l ++ (of i ∷ [])) (c.in_ok-push_kept.ensures.pieces ∙ c.loop-i.invariant.0)
          ∙ sym (map-range_with_len_more of 0 i i (omega arith)),
      c.in_ok-end_piece.ensures.next,
    )

pub overflow_cast-len : goal.overflow_cast-len
overflow_cast-len g c =
    let waits = c.args.self.now.waits in
    let kept : List ℕ = c.args.kept.now in
    let table = c.len-items.ensures.table in
    let marks = c.as_slice.ensures.value ∙ c.in_ok-marks.ensures
    ∙ ap (λ (n : ℕ). map (is_among kept) (range_with_len 0 n)) c.flushes-count.ensures.count in
    let left : c.in_ok-left.left.items ≡ places (map (kept_of kept) waits) =
    c.in_ok-left.ensures
    ∙ ap (λ (l : List Target). map place_of (filter (is_marked c.as_slice.result.now) l)) c.all_waits.ensures.waits
    ∙ places-marked kept waits c.as_slice.result.now table.places_are_numbered marks in
    omega (
      arith,
      c.len-2.ensures,
      ap length left,
      flush_count-compact kept waits,
      flush_count-compact-le kept waits,
      table.few_flushes,
    )

pub with_waits-requires-clause-table : goal.with_waits-requires-clause-table
with_waits-requires-clause-table g c =
    let waits = c.args.self.now.waits in
    let kept : List ℕ = c.args.kept.now in
    let table = c.len-items.ensures.table in
    let whole : c.loop-i.i ≡ length (compact kept waits) = omega (
      arith,
      c.loop-i-test.false,
      c.loop-i.auto.i-end,
      c.len-items.ensures.len,
      table.one_list_each,
      length-compact kept waits,
    ) in
    let all : c.of.result ≡ compact kept waits =
    c.of.ensures ∙ c.finish.ensures ∙ c.loop-i.invariant.0
    ∙ ap (λ (n : ℕ). map (targets_of (compact kept waits)) (range_with_len 0 n)) whole
    ∙ sym (lists-each (compact kept waits)) in
    subst (λ (ws : List (List Target)). IsTable (record c.args.self.now { waits = ws })) (sym all)
    (IsTable-reading c.args.self.now kept table)

pub with_waits-requires-clause-count : goal.with_waits-requires-clause-count
with_waits-requires-clause-count g c =
    let waits = c.args.self.now.waits in
    let kept : List ℕ = c.args.kept.now in
    let table = c.len-items.ensures.table in
    let marks = c.as_slice.ensures.value ∙ c.in_ok-marks.ensures
    ∙ ap (λ (n : ℕ). map (is_among kept) (range_with_len 0 n)) c.flushes-count.ensures.count in
    let left : c.in_ok-left.left.items ≡ places (map (kept_of kept) waits) =
    c.in_ok-left.ensures
    ∙ ap (λ (l : List Target). map place_of (filter (is_marked c.as_slice.result.now) l)) c.all_waits.ensures.waits
    ∙ places-marked kept waits c.as_slice.result.now table.places_are_numbered marks in
    let whole : c.loop-i.i ≡ length (compact kept waits) = omega (
      arith,
      c.loop-i-test.false,
      c.loop-i.auto.i-end,
      c.len-items.ensures.len,
      table.one_list_each,
      length-compact kept waits,
    ) in
    let all : c.of.result ≡ compact kept waits =
    c.of.ensures ∙ c.finish.ensures ∙ c.loop-i.invariant.0
    ∙ ap (λ (n : ℕ). map (targets_of (compact kept waits)) (range_with_len 0 n)) whole
    ∙ sym (lists-each (compact kept waits)) in
    let long : c.len-2.result ≡ flush_count (compact kept waits) =
    omega (arith, c.len-2.ensures, ap length left, flush_count-compact kept waits) in
    long ∙ ap flush_count (sym all)

pub returns : goal.returns
returns g c =
    let waits = c.args.self.now.waits in
    let kept : List ℕ = c.args.kept.now in
    let table = c.len-items.ensures.table in
    let whole : c.loop-i.i ≡ length (compact kept waits) = omega (
      arith,
      c.loop-i-test.false,
      c.loop-i.auto.i-end,
      c.len-items.ensures.len,
      table.one_list_each,
      length-compact kept waits,
    ) in
    let all : c.of.result ≡ compact kept waits =
    c.of.ensures ∙ c.finish.ensures ∙ c.loop-i.invariant.0
    ∙ ap (λ (n : ℕ). map (targets_of (compact kept waits)) (range_with_len 0 n)) whole
    ∙ sym (lists-each (compact kept waits)) in
    subst (λ (ws : List (List Target)). IfOk c.with_waits.result
    (λ (t : Table). t ≡ record c.args.self.now { waits = ws })) all c.with_waits.ensures
