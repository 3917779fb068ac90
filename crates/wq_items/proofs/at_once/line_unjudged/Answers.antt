use Rattle.std.proofs.Common.{Option, sym, subst}
use Rattle.wq_decl.specs.declared.directive.Directive.{Directive}
use Rattle.wq_decl.specs.Reading.{reading}
use Rattle.wq_items.specs.AtOnce.{Foretells}
use Rattle.wq_items.proofs.AtOnceLemmas.{Foretells-reading}
use Rattle.wq_items.proofs.at_once.line_unjudged.Goals as goal

pub returns : goal.returns
returns c =
    let line = c.args.line.now in
    subst (λ (o : Option (Option Directive)). Foretells o (reading line)) (sym c.words_unjudged.ensures) (Foretells-reading line)
