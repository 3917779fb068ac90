-- Flushes: what the lines of a declaration say, each by itself: the items and the flushes that they declare.
use Rattle.std.specs.Prelude.{ℕ, if◌then◌else◌, List, [], ◌∷◌, map, flat_map, filter_map}
use Rattle.std.specs.Prelude.{slice_index_or, Option, Some, None, option_map, bytes_eq}
use Rattle.wq_text.specs.declared.span.Span.{Span}
use Rattle.wq_text.specs.Words.{WordView}
use Rattle.wq_decl.specs.declared.directive.Directive.{Directive}
use Rattle.wq_decl.specs.declared.directive.Directive.TheVariants.{Item, Flush, FlushWq, Unsure, Ordered}
use Rattle.wq_items.specs.declared.target.Kind.{Kind}
use Rattle.wq_items.specs.declared.target.Target.{Target}
use Rattle.wq_items.specs.Table.{Table, targets_of}
use Rattle.wq_items.specs.Building.{span_of, of_item, of_workqueue, unsure_of}

-- the word that names the item of an `item` line
abbrev pub item_word : ℕ × Directive → Option WordView
item_word (n, Item name) = Some name
item_word (n, Flush name targets) = None
item_word (n, FlushWq name target) = None
item_word (n, Unsure name target whole) = None
item_word (n, Ordered names) = None

-- the name of the item that a line declares, if it is an `item` line
abbrev pub item_name : ℕ × Directive → Option (List ℕ)
item_name d = option_map (λ (name : WordView). name.bytes) (item_word d)

-- where this name is in the text
abbrev pub item_span : ℕ × Directive → Option Span
item_span d = option_map span_of (item_word d)

-- the flushes that a line declares: for each, the name of the item, its kind, and the name of the target
abbrev pub line_flushes : ℕ × Directive → List (List ℕ × (Kind × List ℕ))
line_flushes (n, Item name) = []
line_flushes (n, Flush name targets) = map (λ (target : WordView). (name.bytes, (of_item, target.bytes))) targets
line_flushes (n, FlushWq name target) = (name.bytes, (of_workqueue, target.bytes)) ∷ []
line_flushes (n, Unsure name target whole) = (name.bytes, (unsure_of whole, target.bytes)) ∷ []
line_flushes (n, Ordered names) = []

-- the flushes that all lines declare, in order
abbrev pub flushes : List (ℕ × Directive) → List (List ℕ × (Kind × List ℕ))
flushes ds = flat_map line_flushes ds

-- those of the numbered flushes that the item with this name declares: for each, its kind, the name of the target and
-- the number
abbrev pub flushes_of : List ℕ → List (ℕ × (List ℕ × (Kind × List ℕ))) → List ((Kind × List ℕ) × ℕ)
flushes_of name numbered =
    filter_map (λ (f : ℕ × (List ℕ × (Kind × List ℕ))). if bytes_eq f.1.0 name then Some (f.1.1, f.0)
    else None) numbered

-- the kind of the flush of this target
abbrev pub kind_of : Target → Kind
kind_of target = record { whole = target.whole; unsure = target.unsure }

-- the targets of item i: for each, the kind of the flush, the name of the target and the place of the flush
abbrev pub named_targets : Table → ℕ → List ((Kind × List ℕ) × ℕ)
named_targets t i =
    map (λ (target : Target). ((kind_of target, slice_index_or t.names target.item []), target.place))
    (targets_of t.waits i)

-- the names on a line of flushes or an `ordered` line
abbrev pub names_used : ℕ × Directive → List (List ℕ)
names_used (n, Item name) = []
names_used (n, Flush name targets) = map (λ (word : WordView). word.bytes) (name ∷ targets)
names_used (n, FlushWq name target) = map (λ (word : WordView). word.bytes) (name ∷ target ∷ [])
names_used (n, Unsure name target whole) = map (λ (word : WordView). word.bytes) (name ∷ target ∷ [])
names_used (n, Ordered names) = map (λ (word : WordView). word.bytes) names
