-- At once: what a line says before its words are known to be names.
use Rattle.std.specs.Prelude.{◌≡◌, Bool, true, false, List, [], ◌∷◌, Option, Some, None, Result, Ok, IsOk, IsTrue}
use Rattle.wq_text.specs.Lines.{LineView}
use Rattle.wq_text.specs.Words.{WordView}
use Rattle.wq_decl.specs.declared.directive.Directive.{Directive}
use Rattle.wq_decl.specs.declared.directive.Directive.TheVariants.{Item, Flush, FlushWq, Unsure, Ordered}
use Rattle.wq_decl.specs.declared.fault.DeclError.{DeclError}
use Rattle.wq_decl.specs.declared.keyword.Keyword.{Keyword}
use Rattle.wq_decl.specs.declared.keyword.Keyword.TheVariants as keyword
use Rattle.wq_decl.specs.Names.{is_name, are_names}
use Rattle.wq_decl.specs.Keywords.{keyword_of}
use Rattle.wq_decl.specs.Reading.{reading, is_ordered}
use Rattle.wq_items.specs.Building.{declared}
use Rattle.wq_items.specs.FirstFault.{DeclaresMore}
use Rattle.wq_items.specs.Table.{Table}

-- the words after `item` as a directive, if there is exactly one
abbrev pub item_unjudged : List WordView → Option (Option Directive)
item_unjudged [] = None
item_unjudged (name ∷ []) = Some (Some (Item name))
item_unjudged (name ∷ extra ∷ others) = None

-- the words after `flush` as a directive; it may lack a target
abbrev pub flush_unjudged : List WordView → Option (Option Directive)
flush_unjudged [] = None
flush_unjudged (name ∷ targets) = Some (Some (Flush name targets))

-- the words after `flushwq` as a directive, if there are exactly two
abbrev pub flushwq_unjudged : List WordView → Option (Option Directive)
flushwq_unjudged [] = None
flushwq_unjudged (name ∷ []) = None
flushwq_unjudged (name ∷ target ∷ []) = Some (Some (FlushWq name target))
flushwq_unjudged (name ∷ target ∷ extra ∷ others) = None

-- the words after `flush?` or `flushwq?` as a directive, if there are exactly two
abbrev pub unsure_unjudged : Bool → List WordView → Option (Option Directive)
unsure_unjudged whole [] = None
unsure_unjudged whole (name ∷ []) = None
unsure_unjudged whole (name ∷ target ∷ []) = Some (Some (Unsure name target whole))
unsure_unjudged whole (name ∷ target ∷ extra ∷ others) = None

-- the words after the keyword as a directive, whether or not they are names, and even if a target is missing; no answer
-- if there are too few or too many for any directive
abbrev pub unjudged_after : Option Keyword → List WordView → Option (Option Directive)
unjudged_after None words = None
unjudged_after (Some keyword.Item) words = item_unjudged words
unjudged_after (Some keyword.Flush) words = flush_unjudged words
unjudged_after (Some keyword.FlushWq) words = flushwq_unjudged words
unjudged_after (Some keyword.FlushUnsure) words = unsure_unjudged false words
unjudged_after (Some keyword.FlushWqUnsure) words = unsure_unjudged true words
unjudged_after (Some keyword.Ordered) words = Some (Some (Ordered words))

-- the words of a line as a directive: nothing on a blank line, or else what follows the keyword says
abbrev pub unjudged : List WordView → Option (Option Directive)
unjudged [] = Some None
unjudged (first ∷ others) = unjudged_after (keyword_of first.bytes) others

-- the directive has as many words as it needs, and each of them is a name
abbrev pub is_whole : Directive → Bool
is_whole (Item name) = is_name name.bytes
is_whole (Flush name []) = false
is_whole (Flush name (target ∷ others)) = are_names (name ∷ target ∷ others)
is_whole (FlushWq name target) = are_names (name ∷ target ∷ [])
is_whole (Unsure name target whole) = are_names (name ∷ target ∷ [])
is_whole (Ordered []) = false
is_whole (Ordered (name ∷ others)) = are_names (name ∷ others)

-- what a line says, given what its words seem to say: the same if the directive is whole, otherwise a fault
abbrev pub Foretells : Option (Option Directive) → Result (Option Directive) DeclError → Type 0
Foretells None said = ¬ IsOk said
Foretells (Some None) said = said ≡ Ok None
Foretells (Some (Some directive)) said =
    (IsTrue (is_whole directive) → said ≡ Ok (Some directive)) × (IsOk said → IsTrue (is_whole directive))

-- the first of the lines has no fault and isn't `ordered`; its directive makes table u of table t, and the others are
-- left
pub record IsTaken (t : Table) (lines : List LineView) (u : Table) (left : List LineView) : Type 0 where
  pub line : LineView
  pub directive : Directive
  pub first : lines ≡ line ∷ left
  pub said : reading line ≡ Ok (Some directive)
  pub other : is_ordered directive ≡ false
  pub makes : declared t line.no directive ≡ Ok u

-- the first of the lines has a fault, or it declares an item or a flush
pub record IsRefused (lines : List LineView) : Type 0 where
  pub line : LineView
  pub directive : Directive
  pub left : List LineView
  pub first : lines ≡ line ∷ left
  pub said : Foretells (Some (Some directive)) (reading line)
  pub grows : DeclaresMore (line.no, directive)
