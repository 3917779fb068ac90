-- What is declared was within the limits.
use Rattle.std.proofs.Common.{◌≡◌, ℕ, List, Option, Some, None, Ok, Err, refl, sym, ap, ◌∙◌}
use Rattle.wq_text.specs.declared.text.TextError.{TextError}
use Rattle.wq_text.specs.Lines.{lines_of}
use Rattle.wq_text.specs.Limits.{limit_fault, text_refusal}
use Rattle.wq_decl.specs.Reading.{first_fault, directives, decl_refusal}
use Rattle.wq_items.specs.Building.{table_of}
use Rattle.wq_groups.specs.DeclaredGroups.{Declared}
use Rattle.wq_commands.specs.Declaration.{declaration, by_table, max_declaration, max_declaration_line, unless_refused}

pub within_limits : (text : List ℕ) (s : Declared) → declaration text ≡ Ok s → limit_fault max_declaration max_declaration_line text ≡ None
within_limits text s is = by_fault (limit_fault max_declaration max_declaration_line text) refl
  where
    by_fault : (limit : Option TextError) → limit_fault max_declaration max_declaration_line text ≡ limit → limit_fault max_declaration max_declaration_line text ≡ None
    by_fault None e = e
    by_fault (Some fault) e =
        absurd (
        let never : Err (text_refusal fault) ≡ Ok s =
        ap (λ (l : Option TextError).
        unless_refused text_refusal l (unless_refused decl_refusal (first_fault (lines_of text)) (by_table (directives (lines_of text)) (table_of (directives (lines_of text)))))) (sym e)
        ∙ is in
        cc
        )
