use Rattle.std.proofs.Common.{[], ◌∷◌, ap, sym, ◌∙◌}
use Rattle.std.specs.Prelude.{if◌then◌else◌}
use Rattle.wq_hang.proofs.OnceMarked.{named_beside_first, named_beside_none}
use Rattle.wq_hang.proofs.running.waits_first.Goals as goal

pub returns-in-Some : goal.returns-in-Some
returns-in-Some c =
    let x = c.args.item in
    named_beside_first x c.args.hops.now c.in-Some.first.now (sym c.in-Some.ensures.value)
    ∙ ap (λ b. if b then [] else x ∷ []) (sym c.eq.ensures)

pub returns-in-None : goal.returns-in-None
returns-in-None c = named_beside_none c.args.item c.args.hops.now (sym c.in-None.ensures.value)
