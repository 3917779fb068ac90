use Rattle.std.proofs.Common.{◌++◌, List, ℕ}
use Rattle.std.specs.Prelude.{codes}
use Rattle.std.proofs.lemmas.Result.{on_ok_weaker}
use Rattle.wq_dot.specs.Drawing.{frame_text}
use Rattle.wq_dot.specs.Labels.{label_text, numbered}
use Rattle.wq_dot.proofs.Pieces.{put_more, put_end, put_line}
use Rattle.wq_dot.proofs.workqueue.put_frame.Goals as goal

pub returns : goal.returns
returns g c =
    let out = c.args.out.now.items in
    let bare = c.args.bare in
    let number = c.args.number in
    let front : List ℕ = codes "    graph [label=\"\", " in
    let framed : List ℕ = front ++ frame_text bare in
    let quoted : List ℕ = framed ++ codes "]; \"" in
    let called_so : List ℕ = quoted ++ numbered number in
    let opened : List ℕ = called_so ++ codes "\" [" in
    let label : List ℕ = label_text c.args.name.now c.args.shared bare number in
    let labelled : List ℕ = opened ++ label in
    let h2 = put_more out front _ (frame_text bare) _ _ c.in_ok-put.ensures.added c.in_ok-put-2.ensures.added c.frame_text.ensures in
    let h3 = put_line out framed (codes "]; \"") _ _ h2 c.in_ok-put-3.ensures.added in
    let h4 = put_line out quoted (numbered number) _ _ h3 c.in_ok-put_numbered.ensures in
    let h5 = put_line out called_so (codes "\" [") _ _ h4 c.in_ok-put-4.ensures.added in
    let h6 = put_line out opened label _ _ h5 c.in_ok-put_label.ensures in
    on_ok_weaker c.put-5.result (λ e. put_end out labelled (codes "shape=plaintext, style=\"\", fontsize=14];") _ _ h6 e) c.put-5.ensures.added
