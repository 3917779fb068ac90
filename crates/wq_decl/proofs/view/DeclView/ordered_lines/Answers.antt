use Rattle.std.proofs.Common.{ℕ, subst, List}
use Rattle.std.specs.List.{AllByRecursion}
use Rattle.wq_text.specs.Lines.{lines_of}
use Rattle.wq_decl.specs.declared.directive.Directive.{Directive}
use Rattle.wq_decl.specs.Reading.{HasNames}
use Rattle.wq_decl.proofs.NameLemmas.{HasNames-directives}
use Rattle.wq_decl.proofs.OrderedLemmas.{HasNames-ordered_lines}
use Rattle.wq_decl.proofs.view.DeclView.ordered_lines.Goals as goal

pub returns-clause-names : goal.returns-clause-names
returns-clause-names c =
    HasNames-ordered_lines c.args.self.now
    (subst (λ (ds : List (ℕ × Directive)). AllByRecursion (λ (d : ℕ × Directive). HasNames d.1) ds) c.self.view_is (HasNames-directives (lines_of c.self.inside.text)))
