use Rattle.std.proofs.Common.{◌≡◌, ◌++◌, ◌<◌, Bool, true, false, cond, ℕ, length, sym, refl, ap, ap₂, subst, ◌∙◌}
use Rattle.std.specs.Prelude.{codes}
use Rattle.std.proofs.lemmas.Result.{on_ok_weaker}
use Rattle.wq_dot.specs.Drawing.{ends_text, head_text, is_turned, is_whole_at, look_text}
use Rattle.wq_circles.specs.ComponentsText.{is_unsure_arc}
use Rattle.wq_dot.specs.Tooltips.{tooltip_text}
use Rattle.wq_dot.proofs.Pieces.{put_more, put_end}
use Rattle.wq_dot.proofs.arrow.put_flush.Goals as goal

-- one of two items is an item if both are
one_of : (n : ℕ) (turned : Bool) (one other : ℕ) → one < n → other < n → cond turned one other < n
one_of n true one other is or = is
one_of n false one other is or = or

pub put_ends-requires-clause-one : goal.put_ends-requires-clause-one
put_ends-requires-clause-one g c =
    let n = length c.args.table.now.names in
    subst (λ i. i < n) (sym c.tail.ensures) (one_of n c.is_turned-turned.result c.args.flush.dst c.args.flush.src
    c.requires.target c.requires.item)

pub put_ends-requires-clause-other : goal.put_ends-requires-clause-other
put_ends-requires-clause-other g c =
    let n = length c.args.table.now.names in
    subst (λ i. i < n) (sym c.tip.ensures) (one_of n c.is_turned-turned.result c.args.flush.src c.args.flush.dst
    c.requires.item c.requires.target)

pub returns : goal.returns
returns g c =
    let names = c.args.table.now.names in
    let waits = c.args.table.now.waits in
    let flush = c.args.flush in
    let out = c.args.out.now.items in
    let turned = is_turned waits flush in
    let is : c.is_turned-turned.result ≡ turned = c.is_turned-turned.ensures in
    let ends = ends_text names (cond turned flush.dst flush.src) (cond turned flush.src flush.dst) in
    let look = look_text c.args.look (is_unsure_arc waits flush) in
    let head = head_text turned (is_whole_at waits flush) in
    let one_is = c.tail.ensures ∙ ap (λ (b : Bool). cond b flush.dst flush.src) is in
    let other_is = c.tip.ensures ∙ ap (λ (b : Bool). cond b flush.src flush.dst) is in
    let h1 : c.put_ends.new.out.items ≡ out ++ ends = c.in_ok-put_ends.ensures
    ∙ ap₂ (λ (i j : ℕ). out ++ ends_text names i j) one_is other_is in
    let h2 = put_more out ends _ look _ _ h1 c.in_ok-put.ensures.added
    (c.look_text.ensures ∙ ap (look_text c.args.look) c.is_unsure.ensures) in
    let h3 = put_more out (ends ++ look) _ head _ _ h2 c.in_ok-put-2.ensures.added
    (c.head_text.ensures ∙ ap₂ head_text is c.is_whole.ensures) in
    let tooltip = tooltip_text c.args.comment.now in
    let h4 = put_more out (ends ++ look ++ head) _ tooltip _ _ h3 c.in_ok-put_tooltip.ensures refl in
    on_ok_weaker c.put-3.result (λ e. put_end out (ends ++ look ++ head ++ tooltip) (codes ";") _ _ h4 e)
    c.put-3.ensures.added
