use Rattle.std.proofs.Common.{◌≡◌, ◌++◌, ℕ, List, ap, ◌∙◌}
use Rattle.std.specs.Prelude.{codes, decimal, true}
use Rattle.std.proofs.lemmas.Result.{on_ok_weaker}
use Rattle.wq_text.specs.LineText.{spaced}
use Rattle.wq_counts.specs.declared.kind.Kind.TheVariants.{Queue, Cancel, Finish}
use Rattle.wq_counts.specs.Counting.{made}
use Rattle.wq_run.proofs.ReportLemmas.{six_words}
use Rattle.wq_run.proofs.report.put_counts.Goals as goal

pub returns : goal.returns
returns g c =
    let out = c.args.out.now.items in
    let counts = c.args.counts.now in
    let i = c.args.item in
    let queued = decimal (made counts i Queue true) in
    let cancelled = decimal (made counts i Cancel true) in
    let finished = decimal (made counts i Finish true) in
    let one : c.put_word.new.out.items ≡ out ++ spaced (codes "queued") = c.in_ok-put_word.ensures.added in
    let two : c.put_count.new.out.items ≡ (out ++ spaced (codes "queued")) ++ spaced queued =
    c.in_ok-put_count.ensures.added ∙ ap (λ (n : ℕ). c.put_word.new.out.items ++ spaced (decimal n)) c.queued.ensures ∙ ap (λ (o : List ℕ). o ++ spaced queued) one in
    let three : c.put_word-2.new.out.items ≡ ((out ++ spaced (codes "queued")) ++ spaced queued) ++ spaced (codes "cancelled") =
    c.in_ok-put_word-2.ensures.added ∙ ap (λ (o : List ℕ). o ++ spaced (codes "cancelled")) two in
    let four : c.put_count-2.new.out.items ≡ (((out ++ spaced (codes "queued")) ++ spaced queued) ++ spaced (codes "cancelled")) ++ spaced cancelled =
    c.in_ok-put_count-2.ensures.added ∙ ap (λ (n : ℕ). c.put_word-2.new.out.items ++ spaced (decimal n)) c.cancelled.ensures ∙ ap (λ (o : List ℕ). o ++ spaced cancelled) three in
    let five : c.put_word-3.new.out.items ≡ ((((out ++ spaced (codes "queued")) ++ spaced queued) ++ spaced (codes "cancelled")) ++ spaced cancelled) ++ spaced (codes "finished") =
    c.in_ok-put_word-3.ensures.added ∙ ap (λ (o : List ℕ). o ++ spaced (codes "finished")) four in
    on_ok_weaker c.put_count-3.result (λ e.
    e ∙ ap (λ (n : ℕ). c.put_word-3.new.out.items ++ spaced (decimal n)) c.finished.ensures ∙ ap (λ (o : List ℕ). o ++ spaced finished) five
    ∙ six_words out (codes "queued") queued (codes "cancelled") cancelled (codes "finished") finished) c.put_count-3.ensures.added
