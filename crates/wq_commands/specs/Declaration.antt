-- What a declaration text declares, pass by pass, or what it is refused for.
use Rattle.std.specs.Prelude.{◌≡◌, ℕ, false, List, Option, Some, None, Result, Ok, Err}
use Rattle.wq_decl.specs.declared.directive.Directive.{Directive}
use Rattle.wq_text.specs.Lines.{lines_of}
use Rattle.wq_text.specs.Limits.{limit_fault, text_refusal}
use Rattle.wq_text.specs.Refusal.{Refusal}
use Rattle.wq_decl.specs.Reading.{first_fault, directives, decl_refusal}
use Rattle.wq_items.specs.declared.fault.ItemError.{ItemError}
use Rattle.wq_items.specs.Table.{Table}
use Rattle.wq_items.specs.Building.{table_of, item_refusal}
use Rattle.wq_groups.specs.declared.fault.GroupError.{GroupError}
use Rattle.wq_groups.specs.DeclaredGroups.{Declared}
use Rattle.wq_groups.specs.Partition.{Partition}
use Rattle.wq_cert.specs.Part.{has_unsure}
use Rattle.wq_groups.specs.Grouping.{groups_of, group_refusal}

-- how many bytes a declaration may have at most
abbrev pub max_declaration : ℕ
max_declaration = 1048576

-- how many bytes a line of a declaration may have at most
abbrev pub max_declaration_line : ℕ
max_declaration_line = 4096

-- the table with its groups, or the refusal of the fourth pass
abbrev pub by_groups : Table → Result Partition GroupError → Result Declared Refusal
by_groups table (Ok partition) = Ok (record { table = table; partition = partition })
by_groups table (Err fault) = Err (group_refusal fault)

-- the refusal of the third pass, or what the fourth one says
abbrev pub by_table : List (ℕ × Directive) → Result Table ItemError → Result Declared Refusal
by_table ds (Ok table) = by_groups table (groups_of ds table.names)
by_table ds (Err fault) = Err (item_refusal fault)

-- the refusal of a pass that finds a fault, or what the passes after it say
abbrev pub unless_refused : {F : Type 0} → (F → Refusal) → Option F → Result Declared Refusal → Result Declared Refusal
unless_refused refusal (Some fault) rest = Err (refusal fault)
unless_refused refusal None rest = rest

-- what a text declares, or the first fault of the first pass that has one
abbrev pub declaration : List ℕ → Result Declared Refusal
declaration text =
    unless_refused text_refusal (limit_fault max_declaration max_declaration_line text)
    (unless_refused decl_refusal (first_fault (lines_of text))
    (by_table (directives (lines_of text)) (table_of (directives (lines_of text)))))

-- no flush that the text declares is unsure
abbrev pub DeclaresNoUnsure : List ℕ → Type 0
DeclaresNoUnsure text = (s : Declared) → declaration text ≡ Ok s → has_unsure s.table.waits ≡ false
