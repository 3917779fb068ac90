-- Faults: which line has the first one, said without recursion over the lines.
use Rattle.std.specs.Prelude.{◌≡◌, List, ◌∷◌, ◌++◌, Err, IsOk}
use Rattle.std.specs.List.{All}
use Rattle.wq_text.specs.Lines.{LineView}
use Rattle.wq_decl.specs.declared.fault.DeclError.{DeclError}
use Rattle.wq_decl.specs.Reading.{reading}

-- each line is blank or holds a directive
abbrev pub AllRead : List LineView → Type 0
AllRead lines = All (λ (line : LineView). IsOk (reading line)) lines

-- e is the fault of a line, and no line before it has one
pub record IsLowestDeclFault (lines : List LineView) (e : DeclError) : Type 0 where
  pub before : List LineView
  pub line : LineView
  pub after : List LineView
  pub parts : lines ≡ before ++ (line ∷ after)
  pub read : AllRead before
  pub refused : reading line ≡ Err e
