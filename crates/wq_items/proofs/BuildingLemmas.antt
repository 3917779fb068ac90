-- What the directives of a declaration make, one step at a time and all together.
use Rattle.std.proofs.Common.{◌≡◌, ℕ, ◌+◌, ◌<◌, ◌≤◌, Bool, true, false, cond, leb, ltb, List, [], ◌∷◌, ◌++◌, length}
use Rattle.std.proofs.Common.{Option, Some, None, Result, Ok, Err, is_some, refl, sym, ap, subst, ◌∙◌, append_assoc}
use Rattle.std.proofs.Common.{append-nil, ltb-false, leb-false}
use Rattle.std.specs.List.{AllByRecursion, filter_map, cons_option}
use Rattle.wq_text.specs.Words.{WordView}
use Rattle.wq_decl.specs.declared.directive.Directive.{Directive}
use Rattle.wq_decl.specs.declared.directive.Directive.TheVariants.{Item, Flush, FlushWq, Unsure, Ordered}
use Rattle.wq_decl.specs.Reading.{HasNames}
use Rattle.wq_items.specs.declared.fault.ItemError.{ItemError}
use Rattle.wq_items.specs.declared.fault.ItemError.TheVariants.{ItemTwice, TooManyItems, TooManyFlushes}
use Rattle.wq_items.specs.Table.{Table, IsTable, item_named, flush_count}
use Rattle.wq_items.specs.declared.target.Kind.{Kind}
use Rattle.wq_items.specs.Building.{of_item, of_workqueue, unsure_of, empty_table, with_item, with_flushes, items_named}
use Rattle.wq_items.specs.Building.{item_declared, flushes_declared, items_ordered, declared, and_then, table_after}
use Rattle.wq_items.specs.Building.{table_of}
use Rattle.wq_items.specs.Flushes.{item_name, item_span}
use Rattle.wq_items.proofs.TableLemmas.{IsTable-empty, IsTable-with_item, IsTable-with_flushes, parts, item_named-below}
use Rattle.wq_items.proofs.TableLemmas.{items_named-below}

-- ---- one step

-- an `item` line was taken
pub record ItemStep (t : Table) (name : WordView) (u : Table) : Type 0 where
  pub fresh : item_named t.names name.bytes ≡ None
  pub room : length t.names < 4096
  pub after : u ≡ with_item t name

-- a line of flushes was taken
pub record FlushStep (t : Table) (kind : Kind) (name : WordView) (targets : List WordView) (u : Table) : Type 0 where
  pub item : ℕ
  pub items : List ℕ
  pub first : item_named t.names name.bytes ≡ Some item
  pub others : items_named t.names targets ≡ Some items
  pub room : flush_count t.waits + length items ≤ 16384
  pub after : u ≡ with_flushes t kind item items

-- an `ordered` line was taken
pub record OrderStep (t : Table) (names : List WordView) (u : Table) : Type 0 where
  pub items : List ℕ
  pub known : items_named t.names names ≡ Some items
  pub after : u ≡ t

pub item_step : (t : Table) (n : ℕ) (name : WordView) (u : Table) → item_declared t n name ≡ Ok u → ItemStep t name u
item_step t n name u e = found (item_named t.names name.bytes) refl e
  where
    room : item_named t.names name.bytes ≡ None → (b : Bool) → leb 4096 (length t.names) ≡ b
        → cond b (Err (TooManyItems n)) (Ok (with_item t name)) ≡ Ok u → ItemStep t name u
    room none true full e = absurd cc
    room none false full e = record { fresh = none; room = leb-false 4096 (length t.names) full; after = cc }

    found : (o : Option ℕ) → item_named t.names name.bytes ≡ o
        → cond (is_some o) (Err (ItemTwice n)) (cond (leb 4096 (length t.names)) (Err (TooManyItems n))
        (Ok (with_item t name))) ≡ Ok u → ItemStep t name u
    found (Some i) is e = absurd cc
    found None is e = room is (leb 4096 (length t.names)) refl e

pub flush_step : (t : Table) (n : ℕ) (kind : Kind) (name : WordView) (targets : List WordView) (u : Table)
    → flushes_declared t n kind (items_named t.names (name ∷ targets)) ≡ Ok u → FlushStep t kind name targets u
flush_step t n kind name targets u e = found (items_named t.names (name ∷ targets)) refl e
  where
    room : (i : ℕ) (items : List ℕ) → items_named t.names (name ∷ targets) ≡ Some (i ∷ items) → (b : Bool)
        → ltb 16384 (flush_count t.waits + length items) ≡ b
        → cond b (Err (TooManyFlushes n)) (Ok (with_flushes t kind i items)) ≡ Ok u → FlushStep t kind name targets u
    room i items is true full e = absurd cc
    room i items is false full e =
        let p = parts (item_named t.names name.bytes) (items_named t.names targets) (i ∷ items) is in
        let first : i ≡ p.item = cc in
        let others : items ≡ p.others = cc in
        record {
          item = i;
          items = items;
          first = p.first ∙ ap Some (sym first);
          others = p.rest ∙ ap Some (sym others);
          room = ltb-false 16384 (flush_count t.waits + length items) full;
          after = cc;
        }

    found : (o : Option (List ℕ)) → items_named t.names (name ∷ targets) ≡ o → flushes_declared t n kind o ≡ Ok u
        → FlushStep t kind name targets u
    found None is e = absurd cc
    found (Some []) is e = let p = parts (item_named t.names name.bytes) (items_named t.names targets) [] is in absurd
        (let w = p.whole in cc)
    found (Some (i ∷ items)) is e = room i items is (ltb 16384 (flush_count t.waits + length items)) refl e

pub order_step : (t : Table) (n : ℕ) (names : List WordView) (u : Table)
    → items_ordered t n (items_named t.names names) ≡ Ok u → OrderStep t names u
order_step t n names u e = found (items_named t.names names) refl e
  where
    found : (o : Option (List ℕ)) → items_named t.names names ≡ o → items_ordered t n o ≡ Ok u → OrderStep t names u
    found None is e = absurd cc
    found (Some items) is e = record { items = items; known = is; after = cc }

-- ---- all steps

-- a step that was taken, and what came after it
pub record Taken (r : Result Table ItemError) (step : Table → Result Table ItemError) (w : Table) : Type 0 where
  pub next : Table
  pub taken : r ≡ Ok next
  pub rest : step next ≡ Ok w

pub and_then-Ok : (r : Result Table ItemError) (step : Table → Result Table ItemError) (w : Table)
    → and_then step r ≡ Ok w → Taken r step w
and_then-Ok (Ok u) step w e = record { next = u; taken = refl; rest = e }
and_then-Ok (Err f) step w e = absurd cc

-- what holds for a table and is kept by each step holds at the end
pub table_after-keeps : (P : Table → Type 0) (Q : ℕ × Directive → Type 0)
    → ((t : Table) (d : ℕ × Directive) (u : Table) → Q d → P t → declared t d.0 d.1 ≡ Ok u → P u)
    → (t : Table) (ds : List (ℕ × Directive)) (w : Table) → AllByRecursion Q ds → P t → table_after t ds ≡ Ok w → P w
table_after-keeps P Q step t [] w q p e = let same : t ≡ w = cc in subst P same p
table_after-keeps P Q step t (d ∷ ds) w q p e =
    let s = and_then-Ok (declared t d.0 d.1) (λ (u : Table). table_after u ds) w e in
    table_after-keeps P Q step s.next ds w q.1 (step t d s.next q.0 p s.taken) s.rest

-- what demands nothing of a line holds for every line
pub every_line : (ds : List (ℕ × Directive)) → AllByRecursion (λ (d : ℕ × Directive). Unit {0}) ds
every_line [] = tt
every_line (d ∷ ds) = (tt, every_line ds)

cons_option-append : {X : Type 0} (o : Option X) (xs : List X) → cons_option o [] ++ xs ≡ cons_option o xs
cons_option-append None xs = refl
cons_option-append (Some x) xs = refl

-- a list to which each step adds what its line says gets all that the lines say
pub table_after-grows : {X : Type 0} (field : Table → List X) (said : ℕ × Directive → Option X)
    → ((t : Table) (d : ℕ × Directive) (u : Table) → declared t d.0 d.1 ≡ Ok u → field u ≡ field t
    ++ cons_option (said d) [])
    → (t : Table) (ds : List (ℕ × Directive)) (w : Table) → table_after t ds ≡ Ok w → field w ≡ field t
    ++ filter_map said ds
table_after-grows field said step t [] w e = let same : w ≡ t = cc in ap field same ∙ sym (append-nil (field t))
table_after-grows field said step t (d ∷ ds) w e =
    let s = and_then-Ok (declared t d.0 d.1) (λ (u : Table). table_after u ds) w e in
    table_after-grows field said step s.next ds w s.rest
    ∙ ap (λ xs. xs ++ filter_map said ds) (step t d s.next s.taken)
    ∙ append_assoc (field t) (cons_option (said d) []) (filter_map said ds)
    ∙ ap (λ xs. field t ++ xs) (cons_option-append (said d) (filter_map said ds))

-- ---- the items

names_step : (t : Table) (d : ℕ × Directive) (u : Table) → declared t d.0 d.1 ≡ Ok u → u.names ≡ t.names
    ++ cons_option (item_name d) []
names_step t (n, Item name) u e = ap (λ (v : Table). v.names) (item_step t n name u e).after
names_step t (n, Flush name targets) u e = ap (λ (v : Table). v.names) (flush_step t n of_item name targets u e).after
    ∙ sym (append-nil t.names)
names_step t (n, FlushWq name target) u e = ap (λ (v : Table). v.names)
    (flush_step t n of_workqueue name (target ∷ []) u e).after ∙ sym (append-nil t.names)
names_step t (n, Unsure name target whole) u e = ap (λ (v : Table). v.names)
    (flush_step t n (unsure_of whole) name (target ∷ []) u e).after ∙ sym (append-nil t.names)
names_step t (n, Ordered names) u e = ap (λ (v : Table). v.names) (order_step t n names u e).after
    ∙ sym (append-nil t.names)

spans_step : (t : Table) (d : ℕ × Directive) (u : Table) → declared t d.0 d.1 ≡ Ok u → u.spans ≡ t.spans
    ++ cons_option (item_span d) []
spans_step t (n, Item name) u e = ap (λ (v : Table). v.spans) (item_step t n name u e).after
spans_step t (n, Flush name targets) u e = ap (λ (v : Table). v.spans) (flush_step t n of_item name targets u e).after
    ∙ sym (append-nil t.spans)
spans_step t (n, FlushWq name target) u e = ap (λ (v : Table). v.spans)
    (flush_step t n of_workqueue name (target ∷ []) u e).after ∙ sym (append-nil t.spans)
spans_step t (n, Unsure name target whole) u e = ap (λ (v : Table). v.spans)
    (flush_step t n (unsure_of whole) name (target ∷ []) u e).after ∙ sym (append-nil t.spans)
spans_step t (n, Ordered names) u e = ap (λ (v : Table). v.spans) (order_step t n names u e).after
    ∙ sym (append-nil t.spans)

pub names-table_after : (t : Table) (ds : List (ℕ × Directive)) (w : Table) → table_after t ds ≡ Ok w
    → w.names ≡ t.names ++ filter_map item_name ds
names-table_after = table_after-grows (λ (v : Table). v.names) item_name names_step

pub names-table_of : (ds : List (ℕ × Directive)) (t : Table) → table_of ds ≡ Ok t → t.names ≡ filter_map item_name ds
names-table_of ds t e = names-table_after empty_table ds t e

pub spans-table_of : (ds : List (ℕ × Directive)) (t : Table) → table_of ds ≡ Ok t → t.spans ≡ filter_map item_span ds
spans-table_of ds t e = table_after-grows (λ (v : Table). v.spans) item_span spans_step empty_table ds t e

-- ---- soundness

IsTable-step : (t : Table) (d : ℕ × Directive) (u : Table) → HasNames d.1 → IsTable t → declared t d.0 d.1 ≡ Ok u
    → IsTable u
IsTable-step t (n, Item name) u named h e =
    let s = item_step t n name u e in
    subst IsTable (sym s.after) (IsTable-with_item t name h s.fresh s.room named)
IsTable-step t (n, Flush name targets) u named h e =
    let s = flush_step t n of_item name targets u e in
    subst IsTable (sym s.after) (IsTable-with_flushes t of_item s.item s.items h
    (item_named-below t.names name.bytes s.item s.first) (items_named-below t.names targets s.items s.others)
    s.room)
IsTable-step t (n, FlushWq name target) u named h e =
    let s = flush_step t n of_workqueue name (target ∷ []) u e in
    subst IsTable (sym s.after) (IsTable-with_flushes t of_workqueue s.item s.items h
    (item_named-below t.names name.bytes s.item s.first) (items_named-below t.names (target ∷ []) s.items s.others)
    s.room)
IsTable-step t (n, Unsure name target whole) u named h e =
    let s = flush_step t n (unsure_of whole) name (target ∷ []) u e in
    subst IsTable (sym s.after) (IsTable-with_flushes t (unsure_of whole) s.item s.items h
    (item_named-below t.names name.bytes s.item s.first) (items_named-below t.names (target ∷ []) s.items s.others)
    s.room)
IsTable-step t (n, Ordered names) u named h e = subst IsTable (sym (order_step t n names u e).after) h

pub IsTable-table_of : (ds : List (ℕ × Directive)) (t : Table) → AllByRecursion (λ (d : ℕ × Directive). HasNames d.1) ds
    → table_of ds ≡ Ok t → IsTable t
IsTable-table_of ds t named e = table_after-keeps IsTable (λ (d : ℕ × Directive). HasNames d.1) IsTable-step empty_table
    ds t named IsTable-empty e

-- ---- the first fault

and_then-assoc : (r : Result Table ItemError) (xs ys : List (ℕ × Directive))
    → ((u : Table) → table_after u (xs ++ ys) ≡ and_then (λ (v : Table). table_after v ys) (table_after u xs))
    → and_then (λ (u : Table). table_after u (xs ++ ys)) r ≡ and_then (λ (u : Table). table_after u ys)
    (and_then (λ (u : Table). table_after u xs) r)
and_then-assoc (Ok u) xs ys h = h u
and_then-assoc (Err e) xs ys h = refl

pub table_after-append : (t : Table) (xs ys : List (ℕ × Directive))
    → table_after t (xs ++ ys) ≡ and_then (λ (u : Table). table_after u ys) (table_after t xs)
table_after-append t [] ys = refl
table_after-append t (d ∷ xs) ys = and_then-assoc (declared t d.0 d.1) xs ys (λ (u : Table). table_after-append u xs ys)

-- e is the fault of the first line that has one: from t on, the directives before it make a table, and its own can't be added
pub record IsFirstFault (t : Table) (ds : List (ℕ × Directive)) (e : ItemError) : Type 0 where
  pub before : List (ℕ × Directive)
  pub line : ℕ
  pub directive : Directive
  pub after : List (ℕ × Directive)
  pub table : Table
  pub parts : ds ≡ before ++ ((line, directive) ∷ after)
  pub makes : table_after t before ≡ Ok table
  pub refused : declared table line directive ≡ Err e

fault_in : (t : Table) (n : ℕ) (d : Directive) (ds : List (ℕ × Directive)) (e : ItemError) (r : Result Table ItemError)
    → declared t n d ≡ r → and_then (λ (u : Table). table_after u ds) r ≡ Err e
    → ((u : Table) → table_after u ds ≡ Err e → IsFirstFault u ds e) → IsFirstFault t ((n, d) ∷ ds) e
fault_in t n d ds e (Ok u) was is rest =
    let f = rest u is in
    record {
      before = (n, d) ∷ f.before;
      line = f.line;
      directive = f.directive;
      after = f.after;
      table = f.table;
      parts = ap (λ (l : List (ℕ × Directive)). (n, d) ∷ l) f.parts;
      makes = ap (λ (r : Result Table ItemError). and_then (λ (v : Table). table_after v f.before) r) was ∙ f.makes;
      refused = f.refused;
    }
fault_in t n d ds e (Err f) was is rest = record {
  before = [];
  line = n;
  directive = d;
  after = ds;
  table = t;
  parts = refl;
  makes = refl;
  refused = was ∙ is;
}

pub IsFirstFault-table_after : (t : Table) (ds : List (ℕ × Directive)) (e : ItemError) → table_after t ds ≡ Err e
    → IsFirstFault t ds e
IsFirstFault-table_after t [] e is = absurd cc
IsFirstFault-table_after t ((n, d) ∷ ds) e is = fault_in t n d ds e (declared t n d) refl is
    (λ (u : Table) (h : table_after u ds ≡ Err e). IsFirstFault-table_after u ds e h)

pub table_of-first_fault : (ds : List (ℕ × Directive)) (e : ItemError) → IsFirstFault empty_table ds e
    → table_of ds ≡ Err e
table_of-first_fault ds e f =
    ap table_of f.parts ∙ table_after-append empty_table f.before ((f.line, f.directive) ∷ f.after)
    ∙ ap (λ (r : Result Table ItemError). and_then (λ (u : Table). table_after u ((f.line, f.directive) ∷ f.after)) r)
    f.makes
    ∙ ap (λ (r : Result Table ItemError). and_then (λ (u : Table). table_after u f.after) r) f.refused

-- the directives before this one make a table, and it can be added
pub record IsAccepted (before : List (ℕ × Directive)) (d : ℕ × Directive) : Type 0 where
  pub table : Table
  pub next : Table
  pub makes : table_of before ≡ Ok table
  pub taken : declared table d.0 d.1 ≡ Ok next

pub IsAccepted-table_of : (ds : List (ℕ × Directive)) (t : Table) (before : List (ℕ × Directive)) (d : ℕ × Directive)
    (after : List (ℕ × Directive)) → table_of ds ≡ Ok t → ds ≡ before ++ (d ∷ after) → IsAccepted before d
IsAccepted-table_of ds t before d after e parts =
    let whole = sym (table_after-append empty_table before (d ∷ after)) ∙ ap table_of (sym parts) ∙ e in
    let a = and_then-Ok (table_of before) (λ (u : Table). table_after u (d ∷ after)) t whole in
    let b = and_then-Ok (declared a.next d.0 d.1) (λ (u : Table). table_after u after) t a.rest in
    record { table = a.next; next = b.next; makes = a.taken; taken = b.taken }
