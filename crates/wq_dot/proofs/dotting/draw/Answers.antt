use Rattle.std.proofs.Common.{◌≡◌, ◌∙◌, List, ℕ, Ok, map, ap, subst, sym}
use Rattle.std.proofs.lemmas.Result.{IfOk-weaker}
use Rattle.wq_commands.specs.Declaration.{declaration}
use Rattle.wq_dot.specs.Dotting.{DrawsCommented}
use Rattle.wq_dot.proofs.WithinLimits.{within_limits}
use Rattle.wq_dot.proofs.dotting.draw.Goals as goal

pub returns : goal.returns
returns g c =
    let s = c.args.declared.now in
    let texts = c.args.texts.now in
    IfOk-weaker c.draw_commented.result _ _
    (λ a drawn is.
    let within = within_limits texts.first s is in
    let first : c.first.result.now ≡ texts.first = c.first.ensures in
    subst (λ (l : List (List ℕ)). DrawsCommented c.args.assigned s l texts a.found a.end a.text.items)
    (rw first at c.in_ok-comments.ensures within) drawn)
    (rw c.deref.ensures.value at c.draw_commented.ensures)
