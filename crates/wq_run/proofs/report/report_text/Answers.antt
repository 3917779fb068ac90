use Rattle.std.proofs.Common.{◌≡◌, ◌++◌, ℕ, List, length, map, sym, ap, ◌∙◌, arith}
use Rattle.std.specs.Prelude.{true}
use Rattle.std.specs.List.{range_with_len}
use Rattle.wq_items.proofs.TableLemmas.{range_with_len-push}
use Rattle.wq_text.specs.LineText.{line_text}
use Rattle.wq_cert.proofs.LineLemmas.{lines, lines-push}
use Rattle.wq_counts.specs.declared.kind.Kind.{Kind}
use Rattle.wq_counts.specs.Counting.{made}
use Rattle.wq_groups.specs.DeclaredGroups.{Declared}
use Rattle.wq_run.specs.Report.{workqueues_line, faults_line, item_line}
use Rattle.wq_run.proofs.ReportLemmas.{report_text-parts}
use Rattle.wq_run.proofs.report.report_text.Goals as goal

pub loop-i-preserved : goal.loop-i-preserved
loop-i-preserved g c =
    let s = c.args.declared.now in
    let first = line_text (workqueues_line c.args.assignment.now.lanes) in
    let line = item_line s c.args.assignment.now (λ (j : ℕ) (kind : Kind). made c.args.closed.now.counts j kind true) in
    let i = c.loop-i.i in
    c.in_ok-put_item_line.ensures ∙ ap (λ (j : ℕ). c.loop-i.out.items ++ line_text (line j)) c.new-item.ensures ∙ ap (λ (o : List ℕ). o ++ line_text (line i)) c.loop-i.invariant
    ∙ lines-push line first (range_with_len 0 i) i ∙ ap (λ (is : List ℕ). first ++ lines line is) (sym (range_with_len-push i))

pub returns : goal.returns
returns g c =
    let s = c.args.declared.now in
    let first = workqueues_line c.args.assignment.now.lanes in
    let line = item_line s c.args.assignment.now (λ (j : ℕ) (kind : Kind). made c.args.closed.now.counts j kind true) in
    let last = faults_line c.args.ran.now.faults in
    let same = ap (λ (d : Declared). length d.table.names) c.declared.view_is in
    let all : c.loop-i.i ≡ length s.table.names = omega (
      arith,
      c.loop-i-test.false,
      c.len-i-end.ensures.len,
      c.loop-i.auto.i-end,
      same,
    ) in
    c.in_ok-put_faults_line.ensures
    ∙ ap (λ (o : List ℕ). o ++ line_text last) (c.loop-i.invariant ∙ ap (λ (n : ℕ). line_text first ++ lines line (range_with_len 0 n)) all)
    ∙ report_text-parts first (map line (range_with_len 0 (length s.table.names))) last
