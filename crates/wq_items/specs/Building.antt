-- Building: how the directives of a declaration make its table, one after the other, or what the first fault is.
use Rattle.std.specs.Prelude.{◌≡◌, Bool, true, false, ℕ, ◌+◌, nat_le, nat_lt, if◌then◌else◌, List, [], ◌∷◌, ◌++◌}
use Rattle.std.specs.Prelude.{length, slice_set, Option, Some, None, Result, Ok, Err, is_some}
use Rattle.wq_text.specs.declared.span.Span.{Span}
use Rattle.wq_text.specs.Words.{WordView}
use Rattle.wq_text.specs.Refusal.{Refusal}
use Rattle.wq_decl.specs.declared.directive.Directive.{Directive}
use Rattle.wq_decl.specs.declared.directive.Directive.TheVariants.{Item, Flush, FlushWq, Unsure, Ordered}
use Rattle.wq_items.specs.declared.target.Kind.{Kind}
use Rattle.wq_items.specs.declared.target.Target.{Target}
use Rattle.wq_items.specs.declared.fault.ItemError.{ItemError}
use Rattle.wq_items.specs.declared.fault.ItemError.TheVariants.{ItemTwice, UnknownItem, TooManyItems, TooManyFlushes}
use Rattle.wq_items.specs.declared.fault.ItemError.TheVariants.{OutOfMemory}
use Rattle.wq_items.specs.Table.{Table, item_named, targets_of, flush_count, max_items, max_flushes}

-- no items
abbrev pub empty_table : Table
empty_table = record { names = []; spans = []; waits = [] }

-- where a word is in the text
abbrev pub span_of : WordView → Span
span_of word = record { start = word.start; end = word.start + length word.bytes }

-- the table with one more item, which flushes nothing
abbrev pub with_item : Table → WordView → Table
with_item t name =
    record {
      names = t.names ++ (name.bytes ∷ []);
      spans = t.spans ++ (span_of name ∷ []);
      waits = t.waits ++ ([] ∷ []);
    }

-- a sure flush of an item
abbrev pub of_item : Kind
of_item = record { whole = false; unsure = false }

-- a sure flush of a whole workqueue
abbrev pub of_workqueue : Kind
of_workqueue = record { whole = true; unsure = false }

-- an unsure flush: of a whole workqueue, or of an item
abbrev pub unsure_of : Bool → Kind
unsure_of whole = record { whole = whole; unsure = true }

-- targets of one kind, where the first is at this place
abbrev pub targets_from : Kind → ℕ → List ℕ → List Target
targets_from kind place [] = []
targets_from kind place (item ∷ items) =
    record { item = item; whole = kind.whole; unsure = kind.unsure; place = place }
    ∷ targets_from kind (place + 1) items

-- the table in which item i flushes these items too, or their whole workqueues, at the next places
abbrev pub with_flushes : Table → Kind → ℕ → List ℕ → Table
with_flushes t kind i items =
    record t { waits = slice_set t.waits i (targets_of t.waits i ++ targets_from kind (flush_count t.waits) items) }

-- an item before the others, if all are known
abbrev pub and_item : Option ℕ → Option (List ℕ) → Option (List ℕ)
and_item None others = None
and_item (Some i) None = None
and_item (Some i) (Some others) = Some (i ∷ others)

-- the items with these names, if each is declared
abbrev pub items_named : List (List ℕ) → List WordView → Option (List ℕ)
items_named names [] = Some []
items_named names (word ∷ words) = and_item (item_named names word.bytes) (items_named names words)

-- line n declares an item with this name
abbrev pub item_declared : Table → ℕ → WordView → Result Table ItemError
item_declared t n name =
    if is_some (item_named t.names name.bytes) then Err (ItemTwice n)
    else (if nat_le max_items (length t.names) then Err (TooManyItems n) else Ok (with_item t name))

-- line n declares that the first of these items flushes the others, or their whole
-- workqueues, if all names on it are known
abbrev pub flushes_declared : Table → ℕ → Kind → Option (List ℕ) → Result Table ItemError
flushes_declared t n kind None = Err (UnknownItem n)
flushes_declared t n kind (Some []) = Ok t
flushes_declared t n kind (Some (i ∷ items)) =
    if nat_lt max_flushes (flush_count t.waits + length items) then Err (TooManyFlushes n)
    else Ok (with_flushes t kind i items)

-- a flush of this kind is added at this place: the item with the first name flushes the item with the second, or its
-- workqueue
pub record AddsOne (names : List (List ℕ)) (old : List (List Target)) (kind : Kind) (name target : List ℕ) (place : ℕ)
    (new : List (List Target)) : Type 0 where
  pub item : ℕ
  pub other : ℕ
  pub first : item_named names name ≡ Some item
  pub second : item_named names target ≡ Some other
  pub lists : new ≡ slice_set old item (targets_of old item ++ targets_from kind place (other ∷ []))

-- line n puts these items into one group, if all names on it are known; the table stays as it is
abbrev pub items_ordered : Table → ℕ → Option (List ℕ) → Result Table ItemError
items_ordered t n None = Err (UnknownItem n)
items_ordered t n (Some items) = Ok t

-- the table after the directive of line n, or its first fault by the rows of the format's table
abbrev pub declared : Table → ℕ → Directive → Result Table ItemError
declared t n (Item name) = item_declared t n name
declared t n (Flush name targets) = flushes_declared t n of_item (items_named t.names (name ∷ targets))
declared t n (FlushWq name target) = flushes_declared t n of_workqueue (items_named t.names (name ∷ target ∷ []))
declared t n (Unsure name target whole) =
    flushes_declared t n (unsure_of whole) (items_named t.names (name ∷ target ∷ []))
declared t n (Ordered names) = items_ordered t n (items_named t.names names)

-- what follows a value, if there is one; an error stays as it is
abbrev pub and_then : {V W E : Type 0} → (V → Result W E) → Result V E → Result W E
and_then next (Ok v) = next v
and_then next (Err e) = Err e

-- the table after these directives, or the first fault
abbrev pub table_after : Table → List (ℕ × Directive) → Result Table ItemError
table_after t [] = Ok t
table_after t (d ∷ ds) = and_then (λ u. table_after u ds) (declared t d.0 d.1)

-- the table that directives declare, or their first fault
abbrev pub table_of : List (ℕ × Directive) → Result Table ItemError
table_of ds = table_after empty_table ds

-- what a call returns instead of a table: that memory ran out, or else the first fault
abbrev pub IsFaultOf : ItemError → Result Table ItemError → Type 0
IsFaultOf (ItemTwice n) r = r ≡ Err (ItemTwice n)
IsFaultOf (UnknownItem n) r = r ≡ Err (UnknownItem n)
IsFaultOf (TooManyItems n) r = r ≡ Err (TooManyItems n)
IsFaultOf (TooManyFlushes n) r = r ≡ Err (TooManyFlushes n)
IsFaultOf OutOfMemory r = Unit {0}

-- code 7, 8, 9 or 10 with the line, or 20 without one
abbrev pub item_refusal : ItemError → Refusal
item_refusal (ItemTwice line) = record { code = 7; line = line }
item_refusal (UnknownItem line) = record { code = 8; line = line }
item_refusal (TooManyItems line) = record { code = 9; line = line }
item_refusal (TooManyFlushes line) = record { code = 10; line = line }
item_refusal OutOfMemory = record { code = 20; line = 0 }
