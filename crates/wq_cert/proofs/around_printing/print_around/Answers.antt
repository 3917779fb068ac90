use Rattle.std.proofs.Common.{◌≡◌, ◌<◌, ◌-◌, ◌+◌, ◌++◌, [], ◌∷◌, ℕ, suc, List, length, sym, ap, subst, ◌∙◌, arith}
use Rattle.std.specs.List.{All, range_with_len}
use Rattle.std.proofs.lemmas.List.FromFn.{length-map-range_with_len}
use Rattle.wq_buckets.specs.Places.{places_of}
use Rattle.wq_text.specs.LineText.{line_text}
use Rattle.wq_cert.specs.PlanText.{plan_line, wq_line, workqueue_line}
use Rattle.wq_cert.proofs.LineLemmas.{lines, lines-push, items_at-bucket, items_at-below}
use Rattle.wq_cert.proofs.OrderLines.{range_with_len-more}
use Rattle.wq_cert.proofs.around_printing.print_around.Goals as goal

pub places-requires : goal.places-requires
places-requires g c =
    let many = ap length c.in_ok-items.ensures.buckets
    ∙ length-map-range_with_len (places_of c.args.lane.now) 0 c.args.lanes in
    omega (arith, many, c.loop-q-test.true)

pub put_wq_line-requires : goal.put_wq_line-requires
put_wq_line-requires g c =
    let n = length c.args.table.now.names in
    let own = items_at-bucket c.args.lane.now c.in_ok-items.items c.args.lanes c.loop-q.q c.places.result.now
    c.in_ok-items.ensures.buckets c.loop-q-test.true c.places.ensures in
    subst (λ (is : List ℕ). All (λ i. i < n) is) (sym own)
    (items_at-below c.args.lane.now c.loop-q.q n c.requires.one_each)

pub loop-q-preserved : goal.loop-q-preserved
loop-q-preserved g c =
    let fixed = c.args.fixed in
    let first = line_text (plan_line (c.args.lanes - fixed)) in
    let names = c.args.table.now.names in
    let line = wq_line names c.args.lane.now in
    let q = c.loop-q.q in
    let own = items_at-bucket c.args.lane.now c.in_ok-items.items c.args.lanes q c.places.result.now
    c.in_ok-items.ensures.buckets c.loop-q-test.true c.places.ensures in
    let here : fixed + (q - fixed) ≡ q = omega arith in
    let more : suc (q - fixed) ≡ q + 1 - fixed = omega arith in
    let grown : range_with_len fixed (q - fixed) ++ (q ∷ []) ≡ range_with_len fixed (q + 1 - fixed) =
    ap (λ (k : ℕ). range_with_len fixed (q - fixed) ++ (k ∷ [])) (sym here)
    ∙ sym (range_with_len-more fixed (q - fixed)) ∙ ap (range_with_len fixed) more in
    c.in_ok-put_wq_line.ensures
    ∙ ap (λ (is : List ℕ). c.loop-q.out.items ++ line_text (workqueue_line names (q, is))) own
    ∙ ap (λ (o : List ℕ). o ++ line_text (line q)) c.loop-q.invariant
    ∙ lines-push line first (range_with_len fixed (q - fixed)) q
    ∙ ap (λ (qs : List ℕ). first ++ lines line qs) grown
