-- Comments, counted: there is one for each flush that is declared.
use Rattle.std.proofs.Common.{
  ◌≡◌,
  ℕ,
  ◌-◌,
  Bool,
  true,
  false,
  List,
  [],
  ◌∷◌,
  ◌++◌,
  length,
  Option,
  Some,
  None,
  Result,
  Ok,
  Err,
  refl,
  sym,
  ap,
  ◌∙◌,
  arith,
}
use Rattle.std.specs.Prelude.{flat_map, if◌then◌else◌}
use Rattle.std.specs.List.{cons_option, list_all}
use Rattle.std.specs.Option.{option_or}
use Rattle.std.proofs.lemmas.List.{length-append, length-map, length-replicate}
use Rattle.wq_text.specs.Comments.{before_comment}
use Rattle.wq_text.specs.Lines.{LineView, lines_of}
use Rattle.wq_text.specs.Words.{WordView, words_of}
use Rattle.wq_decl.specs.declared.directive.Directive.{Directive}
use Rattle.wq_decl.specs.declared.directive.Directive.TheVariants as directive
use Rattle.wq_decl.specs.declared.fault.DeclError.{DeclError}
use Rattle.wq_decl.specs.declared.fault.DeclError.TheVariants.{BadByte, UnknownWord, MissingName, ExtraWord, BadName}
use Rattle.wq_decl.specs.declared.keyword.Keyword.{Keyword}
use Rattle.wq_decl.specs.declared.keyword.Keyword.TheVariants as keyword
use Rattle.wq_decl.specs.Names.{is_name, are_names}
use Rattle.wq_decl.specs.Keywords.{keyword_cut, keyword_of}
use Rattle.wq_decl.specs.Reading.{
  decl_refusal,
  directive_in,
  directives,
  fault_in,
  first_fault,
  is_text_byte,
  reading,
  reading_after,
  unsure_reading,
  words_reading,
}
use Rattle.wq_items.specs.Building.{table_of}
use Rattle.wq_items.specs.declared.fault.ItemError.{ItemError}
use Rattle.wq_items.specs.Flushes.{flushes, line_flushes}
use Rattle.wq_items.specs.Table.{Table, flush_count}
use Rattle.wq_items.proofs.FlushLemmas.{flush_count-table_of}
use Rattle.wq_text.specs.Refusal.{Refusal}
use Rattle.wq_text.specs.Limits.{limit_fault, text_refusal}
use Rattle.wq_groups.specs.declared.fault.GroupError.{GroupError}
use Rattle.wq_groups.specs.Partition.{Partition}
use Rattle.wq_groups.specs.Grouping.{groups_of}
use Rattle.wq_groups.specs.DeclaredGroups.{Declared}
use Rattle.wq_commands.specs.Declaration.{
  by_groups,
  by_table,
  declaration,
  max_declaration,
  max_declaration_line,
  unless_refused,
}
use Rattle.wq_dot.specs.Tooltips.{comment_of, comments_of, flushes_cut, flushes_on, line_comments}

-- ---- a line

-- how many flushes the directive of line n declares, if it has one
abbrev declared_by : ℕ → Option Directive → ℕ
declared_by n None = 0
declared_by n (Some d) = length (line_flushes (n, d))

taken : (b : Bool) (d : Directive) (fault : DeclError) (found : Option Directive) →
    (if b then Ok (Some d) else Err fault) ≡ Ok found → Some d ≡ found
taken true d fault found e = cc
taken false d fault found e = absurd cc

never_ok : (fault : DeclError) (found : Option Directive) → Err fault ≡ Ok found → ⊥
never_ok fault found e = cc

-- a `flush` line declares a flush of each target
of_targets : (n : ℕ) (name : WordView) (targets : List WordView)
    → length (line_flushes (n, directive.Flush name targets)) ≡ length targets
of_targets n name [] = refl
of_targets n name (target ∷ others) =
    let rest : length (line_flushes (n, directive.Flush name others)) ≡ length others = of_targets n name others in
    omega (arith, rest)

of_unsure : (whole : Bool) (n : ℕ) (ws : List WordView) (found : Option Directive) → unsure_reading n whole ws ≡ Ok
    found → length ws - 1 ≡ declared_by n found
of_unsure whole n [] found e = absurd (never_ok (MissingName n) found e)
of_unsure whole n (name ∷ []) found e = absurd (never_ok (MissingName n) found e)
of_unsure whole n (name ∷ target ∷ []) found e =
    let one : length (name ∷ target ∷ []) - 1 ≡ 1 = omega arith in
    one ∙ ap (declared_by n) (taken (are_names (name ∷ target ∷ [])) (directive.Unsure name target whole) (BadName n)
    found e)
of_unsure whole n (name ∷ target ∷ extra ∷ others) found e = absurd (never_ok (ExtraWord n) found e)

of_after : (k : Option Keyword) (n : ℕ) (ws : List WordView) (found : Option Directive) → reading_after k n ws ≡ Ok
    found → flushes_cut (Some (k, ws)) ≡ declared_by n found
of_after None n ws found e = absurd (never_ok (UnknownWord n) found e)
of_after (Some keyword.Item) n [] found e = absurd (never_ok (MissingName n) found e)
of_after (Some keyword.Item) n (name ∷ []) found e = ap (declared_by n)
    (taken (is_name name.bytes) (directive.Item name) (BadName n) found e)
of_after (Some keyword.Item) n (name ∷ extra ∷ others) found e = absurd (never_ok (ExtraWord n) found e)
of_after (Some keyword.Flush) n [] found e = absurd (never_ok (MissingName n) found e)
of_after (Some keyword.Flush) n (name ∷ []) found e = absurd (never_ok (MissingName n) found e)
of_after (Some keyword.Flush) n (name ∷ target ∷ others) found e =
    let many : length (name ∷ target ∷ others) - 1 ≡ length (target ∷ others) = omega arith in
    many ∙ sym (of_targets n name (target ∷ others))
    ∙ ap (declared_by n) (taken (are_names (name ∷ target ∷ others)) (directive.Flush name (target ∷ others))
    (BadName n) found e)
of_after (Some keyword.FlushWq) n [] found e = absurd (never_ok (MissingName n) found e)
of_after (Some keyword.FlushWq) n (name ∷ []) found e = absurd (never_ok (MissingName n) found e)
of_after (Some keyword.FlushWq) n (name ∷ target ∷ []) found e =
    let one : length (name ∷ target ∷ []) - 1 ≡ 1 = omega arith in
    one ∙ ap (declared_by n) (taken (are_names (name ∷ target ∷ [])) (directive.FlushWq name target) (BadName n) found
    e)
of_after (Some keyword.FlushWq) n (name ∷ target ∷ extra ∷ others) found e = absurd (never_ok (ExtraWord n) found e)
of_after (Some keyword.FlushUnsure) n ws found e = of_unsure false n ws found e
of_after (Some keyword.FlushWqUnsure) n ws found e = of_unsure true n ws found e
of_after (Some keyword.Ordered) n [] found e = absurd (never_ok (MissingName n) found e)
of_after (Some keyword.Ordered) n (name ∷ rest) found e = ap (declared_by n)
    (taken (are_names (name ∷ rest)) (directive.Ordered (name ∷ rest)) (BadName n) found e)

of_words : (n : ℕ) (ws : List WordView) (found : Option Directive) → words_reading n ws ≡ Ok found → flushes_cut
    (keyword_cut ws) ≡ declared_by n found
of_words n [] found e =
    let none : None ≡ found = cc in
    ap (declared_by n) none
of_words n (first ∷ others) found e = of_after (keyword_of first.bytes) n others found e

-- a line without a fault has as many comments as its directive declares flushes
of_reading : (l : LineView) (found : Option Directive) → reading l ≡ Ok found → flushes_on l ≡ declared_by l.no found
of_reading l found e = by_bytes (list_all is_text_byte (before_comment l.bytes)) e
  where
    by_bytes : (b : Bool) → (if b then words_reading l.no (words_of l) else Err (BadByte l.no)) ≡ Ok found → flushes_on
        l ≡ declared_by l.no found
    by_bytes true read = of_words l.no (words_of l) found read
    by_bytes false read = absurd (never_ok (BadByte l.no) found read)

-- ---- all lines

of_line : (l : LineView) (ls : List LineView) (r : Result (Option Directive) DeclError) → reading l ≡ r → option_or
    (fault_in r) (first_fault ls) ≡ None
    → (first_fault ls ≡ None → length (flat_map line_comments ls) ≡ length (flushes (directives ls)))
    → length (line_comments l ++ flat_map line_comments ls) ≡ length
    (flushes (cons_option (directive_in l.no r) (directives ls)))
of_line l ls (Ok None) is e rest =
    omega (
      arith,
      length-append (line_comments l) (flat_map line_comments ls),
      length-replicate (flushes_on l)
          (comment_of l.bytes),
      of_reading l None is,
      rest e,
    )
of_line l ls (Ok (Some d)) is e rest =
    omega (
      arith,
      length-append (line_comments l) (flat_map line_comments ls),
      length-replicate (flushes_on l) (comment_of l.bytes),
      of_reading l (Some d) is,
      length-append (line_flushes (l.no, d)) (flushes (directives ls)),
      rest e,
    )
of_line l ls (Err fault) is e rest = absurd cc

of_lines : (lines : List LineView) → first_fault lines ≡ None → length (flat_map line_comments lines) ≡ length
    (flushes (directives lines))
of_lines [] e = refl
of_lines (l ∷ ls) e = of_line l ls (reading l) refl e (of_lines ls)

-- ---- what is declared

past : {F : Type 0} (refusal : F → Refusal) (fault : Option F) (rest : Result Declared Refusal) (s : Declared) →
    unless_refused refusal fault rest ≡ Ok s → (fault ≡ None) × (rest ≡ Ok s)
past refusal None rest s e = (refl, e)
past refusal (Some fault) rest s e = absurd cc

of_groups : (t : Table) (r : Result Partition GroupError) (s : Declared) → by_groups t r ≡ Ok s → t ≡ s.table
of_groups t (Ok p) s e =
    let same : record { table = t; partition = p } ≡ s = cc in
    ap (λ (d : Declared). d.table) same
of_groups t (Err fault) s e = absurd cc

of_table : (ds : List (ℕ × Directive)) (r : Result Table ItemError) (s : Declared) → table_of ds ≡ r → by_table ds r ≡
    Ok s → table_of ds ≡ Ok s.table
of_table ds (Ok t) s is e = is ∙ ap (λ (u : Table). Ok u) (of_groups t (groups_of ds t.names) s e)
of_table ds (Err fault) s is e = absurd cc

pub one_comment_each : (text : List ℕ) (s : Declared) → declaration text ≡ Ok s → length (comments_of text) ≡
    flush_count s.table.waits
one_comment_each text s is =
    let ds = directives (lines_of text) in
    let limits = past text_refusal (limit_fault max_declaration max_declaration_line text)
    (unless_refused decl_refusal (first_fault (lines_of text)) (by_table ds (table_of ds))) s is in
    let lines = past decl_refusal (first_fault (lines_of text)) (by_table ds (table_of ds)) s limits.1 in
    of_lines (lines_of text) lines.0 ∙ sym (flush_count-table_of ds s.table (of_table ds (table_of ds) s refl lines.1))
