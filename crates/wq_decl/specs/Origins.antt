-- Origins: which line a directive comes from.
use Rattle.std.specs.Prelude.{◌≡◌, ℕ, List, [], ◌∷◌}
use Rattle.wq_text.specs.Lines.{LineView}
use Rattle.wq_text.specs.Words.{WordView, words_of}
use Rattle.wq_decl.specs.declared.directive.Directive.{Directive}
use Rattle.wq_decl.specs.declared.directive.Directive.TheVariants.{Item, Flush, FlushWq, Unsure, Ordered}

-- the words of a directive
abbrev pub directive_words : Directive → List WordView
directive_words (Item name) = name ∷ []
directive_words (Flush name targets) = name ∷ targets
directive_words (FlushWq name target) = name ∷ target ∷ []
directive_words (Unsure name target whole) = name ∷ target ∷ []
directive_words (Ordered names) = names

-- the directive has the number of this line, and its words are all those after the line's first word
pub record IsFrom (d : ℕ × Directive) (line : LineView) : Type 0 where
  pub number : d.0 ≡ line.no
  pub first : WordView
  pub words : words_of line ≡ first ∷ directive_words d.1
