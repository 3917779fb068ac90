-- The names of a table are slices of the text.
use Rattle.std.proofs.Common.{◌≡◌, ℕ, ◌+◌, List, [], ◌∷◌, length, map, get_or, Some, Ok, refl, sym, ap, subst, ◌∙◌}
use Rattle.std.specs.List.{All, Any, AllByRecursion, filter_map, slice_range, slice_get}
use Rattle.std.proofs.lemmas.List.{get_or-map}
use Rattle.std.proofs.lemmas.List.Elements.{All-contains, All-head, All-tail, All-weaker, recursion_from_All}
use Rattle.std.proofs.lemmas.Option.{get_or_from_slice_get, slice_get_within}
use Rattle.wq_text.specs.declared.span.Span.{Span}
use Rattle.wq_text.specs.Lines.{lines_of}
use Rattle.wq_text.proofs.SliceLaws.{LineStands, WordStands, LineStands-lines_of, WordStands-words_of, slice_range-StandsAt}
use Rattle.wq_decl.specs.declared.directive.Directive.{Directive}
use Rattle.wq_decl.specs.declared.directive.Directive.TheVariants.{Item, Flush, FlushWq, Unsure, Ordered}
use Rattle.wq_decl.specs.Reading.{directives}
use Rattle.wq_decl.specs.Origins.{directive_words, IsFrom}
use Rattle.wq_decl.proofs.OriginLemmas.{IsFrom-directives}
use Rattle.wq_items.specs.Table.{Table}
use Rattle.wq_items.specs.Building.{table_of}
use Rattle.wq_items.specs.Flushes.{item_name, item_span}
use Rattle.wq_items.proofs.BuildingLemmas.{names-table_of, spans-table_of}

module _ (text : List ℕ) where
  -- the bytes that a span takes of the text
  abbrev slice_at : Span → List ℕ
  slice_at span = slice_range text span.start span.end

  -- the words of a directive are in the text where they say
  abbrev Stands : ℕ × Directive → Type 0
  Stands d = All (WordStands text) (directive_words d.1)

  Stands-IsFrom : (d : ℕ × Directive) → Any (IsFrom d) (lines_of text) → Stands d
  Stands-IsFrom d (k, line, lt, at, from) =
      let there : LineStands text line = All-contains (LineStands text) (lines_of text) line (LineStands-lines_of text) (k, lt, at) in
      All-tail (WordStands text) from.first (directive_words d.1) (subst (All (WordStands text)) from.words (WordStands-words_of text line there))

  names_are : (ds : List (ℕ × Directive)) → AllByRecursion Stands ds → filter_map item_name ds ≡ map slice_at (filter_map item_span ds)
  names_are [] stand = refl
  names_are ((n, Item name) ∷ ds) stand =
      let slice : slice_range text name.start (name.start + length name.bytes) ≡ name.bytes = slice_range-StandsAt text name.start name.bytes (All-head (WordStands text) name [] stand.0) in
      ap (λ (bytes : List ℕ). bytes ∷ filter_map item_name ds) (sym slice) ∙ ap (λ (names : List (List ℕ)). slice_range text name.start (name.start + length name.bytes) ∷ names) (names_are ds stand.1)
  names_are ((n, Flush name targets) ∷ ds) stand = names_are ds stand.1
  names_are ((n, FlushWq name target) ∷ ds) stand = names_are ds stand.1
  names_are ((n, Unsure name target whole) ∷ ds) stand = names_are ds stand.1
  names_are ((n, Ordered names) ∷ ds) stand = names_are ds stand.1

  pub names-slices : (t : Table) → table_of (directives (lines_of text)) ≡ Ok t → t.names ≡ map (λ (span : Span). slice_range text span.start span.end) t.spans
  names-slices t made =
      let ds = directives (lines_of text) in
      let stand : All Stands ds = All-weaker (λ (d : ℕ × Directive). Any (IsFrom d) (lines_of text)) Stands Stands-IsFrom ds (IsFrom-directives (lines_of text)) in
      names-table_of ds t made ∙ names_are ds (recursion_from_All Stands ds stand) ∙ ap (map slice_at) (sym (spans-table_of ds t made))

  pub name-slice : (t : Table) (i : ℕ) (name : List ℕ) (span : Span) → table_of (directives (lines_of text)) ≡ Ok t → slice_get t.names i ≡ Some name → slice_get t.spans i ≡ Some span → slice_range text span.start span.end ≡ name
  name-slice t i name span made named stands =
      ap slice_at (sym (get_or_from_slice_get t.spans i span span stands)) ∙ sym (get_or-map slice_at t.spans i span [] (slice_get_within t.spans i span stands))
      ∙ ap (λ (names : List (List ℕ)). get_or names i []) (sym (names-slices t made)) ∙ get_or_from_slice_get t.names i name [] named
