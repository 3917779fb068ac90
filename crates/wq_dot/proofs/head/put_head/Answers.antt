use Rattle.std.proofs.Common.{◌≡◌, ◌++◌, [], ℕ, List, ap, ◌∙◌, refl, append_assoc, append-nil}
use Rattle.std.specs.Prelude.{codes}
use Rattle.std.proofs.lemmas.Result.{on_ok_weaker}
use Rattle.wq_dot.specs.Drawing.{ended}
use Rattle.wq_dot.proofs.Pieces.{put_line}
use Rattle.wq_dot.proofs.head.put_head.Goals as goal

-- the pieces of the head
head_is : (out first front title back third fourth : List ℕ)
    → out ++ (first ++ front ++ title ++ ended back ++ ended third ++ ended fourth) ≡ out ++ (first ++ (ended (front ++ title ++ back) ++ (ended third ++ (ended fourth ++ []))))
head_is out first front title back third fourth = ap (λ (l : List ℕ). out ++ l) (simp (append_assoc, append-nil) refl)

pub returns : goal.returns
returns g c =
    let out = c.args.out.now.items in
    let title = c.args.title.now in
    let first = ended (codes "digraph wqplan {") in
    let front = codes "  graph [label=\"" in
    let back = codes "\", labelloc=t, labeljust=l, rankdir=LR, nodesep=0.15, ranksep=1, fontname=\"sans-serif\"];" in
    let third = codes "  node [shape=box, style=filled, fillcolor=white, height=0.3, fontname=\"sans-serif\", fontsize=12];" in
    let fourth = codes "  edge [arrowsize=0.7];" in
    let h2 = put_line out first front _ _ c.in_ok-put.ensures.added c.in_ok-put-2.ensures.added in
    let h3 = put_line out (first ++ front) title _ _ h2 c.in_ok-put-3.ensures.added in
    let h4 = put_line out (first ++ front ++ title) (ended back) _ _ h3 c.in_ok-put-4.ensures.added in
    let h5 = put_line out (first ++ front ++ title ++ ended back) (ended third) _ _ h4 c.in_ok-put-5.ensures.added in
    on_ok_weaker c.put-6.result (λ e. put_line out (first ++ front ++ title ++ ended back ++ ended third) (ended fourth) _ _ h5 e ∙ head_is out first front title back third fourth) c.put-6.ensures.added
