-- Faults of lines, without tables.
use Rattle.std.proofs.Common.{◌≡◌, ◌≢◌, ◌↔◌, ℕ, suc, ◌+◌, ◌<◌, ◌≤◌, Bool, true, false, cond, leb, ltb, List, [], ◌∷◌}
use Rattle.std.proofs.Common.{◌++◌, length, map, Option, Some, None, Result, Ok, Err, IsOk, is_ok, is_some, refl, sym}
use Rattle.std.proofs.Common.{ap, subst, ◌∙◌, arith, append-nil, le-leb, leb-true, lt-ltb, ltb-true}
use Rattle.std.specs.Prelude.{AllPairs, Contains}
use Rattle.std.specs.List.{All, Any, filter_map}
use Rattle.std.proofs.lemmas.List.{length-append, length-map, get_or_append_left, get_or_at, get_or_default}
use Rattle.std.proofs.lemmas.List.Concat.{flat_map-append}
use Rattle.std.proofs.lemmas.List.Elements.{All-nil, All-cons, filter_map-append}
use Rattle.wq_text.specs.Words.{WordView}
use Rattle.wq_decl.specs.declared.directive.Directive.{Directive}
use Rattle.wq_decl.specs.declared.directive.Directive.TheVariants.{Item, Flush, FlushWq, Unsure, Ordered}
use Rattle.wq_items.specs.declared.fault.ItemError.{ItemError}
use Rattle.wq_items.specs.declared.fault.ItemError.TheVariants.{ItemTwice, UnknownItem, TooManyItems, TooManyFlushes}
use Rattle.wq_items.specs.declared.fault.ItemError.TheVariants.{OutOfMemory}
use Rattle.wq_items.specs.Table.{Table, item_named, flush_count}
use Rattle.wq_items.specs.declared.target.Kind.{Kind}
use Rattle.wq_items.specs.Building.{of_item, of_workqueue, unsure_of, empty_table, with_item, with_flushes, and_item}
use Rattle.wq_items.specs.Building.{items_named, item_declared, flushes_declared, items_ordered, declared, table_of}
use Rattle.wq_items.specs.Flushes.{item_name, line_flushes, flushes, names_used}
use Rattle.wq_items.specs.FirstFault.{IsDeclared, IsFaultless, IsFaultOfLine, IsLowestItemFault}
use Rattle.wq_items.proofs.TableLemmas.{differs-from-item_named, parts, item_named-below, length-items_named}
use Rattle.wq_items.proofs.TableLemmas.{flush_count-with_item}
use Rattle.wq_items.proofs.BuildingLemmas.{item_step, flush_step, order_step, table_after-keeps, every_line}
use Rattle.wq_items.proofs.BuildingLemmas.{names-table_of, IsFirstFault-table_after, table_of-first_fault}
use Rattle.wq_items.proofs.BuildingLemmas.{IsAccepted-table_of}
use Rattle.wq_items.proofs.FlushLemmas.{item_named-is, IsEven, IsEven-empty, IsEven-step, count_step}
use Rattle.wq_items.proofs.FlushLemmas.{flush_count-table_of}

words_bytes : List WordView → List (List ℕ)
words_bytes words = map (λ (word : WordView). word.bytes) words

-- ---- names that are there

Contains-item_named : (names : List (List ℕ)) (name : List ℕ) (i : ℕ) → item_named names name ≡ Some i
    → Contains names name
Contains-item_named names name i e =
    let lt : i < length names = item_named-below names name i e in
    (i, lt, get_or_default names i name [] lt ∙ item_named-is names name i e)

none-from_item_named : (names : List (List ℕ)) (name : List ℕ) → item_named names name ≡ None → ¬ Contains names name
none-from_item_named names name e h = differs-from-item_named names name e h.0 name h.1 h.2

Found : List (List ℕ) → List ℕ → Type 0
Found names name = (i : ℕ) × (item_named names name ≡ Some i)

item_named-from_Contains : (names : List (List ℕ)) (name : List ℕ) → Contains names name → Found names name
unfolding Found
item_named-from_Contains names name h = chosen (item_named names name) refl
  where
    chosen : (o : Option ℕ) → item_named names name ≡ o → (i : ℕ) × (item_named names name ≡ Some i)
    chosen None is = absurd (none-from_item_named names name is h)
    chosen (Some i) is = (i, is)

item_named-none : (names : List (List ℕ)) (name : List ℕ) → ¬ Contains names name → item_named names name ≡ None
item_named-none names name h = chosen (item_named names name) refl
  where
    chosen : (o : Option ℕ) → item_named names name ≡ o → item_named names name ≡ None
    chosen None is = is
    chosen (Some i) is = absurd (h (Contains-item_named names name i is))

-- each of these words names an item, or one doesn't
All-items_named : (names : List (List ℕ)) (words : List WordView) (items : List ℕ)
    → items_named names words ≡ Some items → All (Contains names) (words_bytes words)
unfolding words_bytes
All-items_named names [] items e = All-nil (Contains names)
All-items_named names (word ∷ words) items e =
    let p = parts (item_named names word.bytes) (items_named names words) items e in
    All-cons (Contains names) word.bytes (words_bytes words) (Contains-item_named names word.bytes p.item p.first)
    (All-items_named names words p.others p.rest)

Any-items_named : (names : List (List ℕ)) (words : List WordView) → items_named names words ≡ None
    → Any (λ (name : List ℕ). ¬ Contains names name) (words_bytes words)
unfolding words_bytes
Any-items_named names [] e = absurd cc
Any-items_named names (word ∷ words) e = chosen (item_named names word.bytes) refl (items_named names words) e
    (Any-items_named names words)
  where
    chosen : (o : Option ℕ) → item_named names word.bytes ≡ o → (others : Option (List ℕ)) → and_item o others ≡ None
        → (others ≡ None → Any (λ (name : List ℕ). ¬ Contains names name) (words_bytes words))
        → Any (λ (name : List ℕ). ¬ Contains names name) (word.bytes ∷ words_bytes words)
    chosen None is others e rest = (0, word.bytes, omega arith, refl, none-from_item_named names word.bytes is)
    chosen (Some i) is None e rest = let a = rest refl in (suc a.0, a.1, omega (arith, a.2), a.3, a.4)
    chosen (Some i) is (Some others) e rest = absurd cc

not_both : (names : List (List ℕ)) (words : List (List ℕ)) → All (Contains names) words
    → Any (λ (name : List ℕ). ¬ Contains names name) words → ⊥
not_both names words every one = one.4 (subst (Contains names) one.3 (every one.0 one.1 one.2))

record Known (names : List (List ℕ)) (words : List WordView) : Type 0 where
  items : List ℕ
  are : items_named names words ≡ Some items

items_named-from_All : (names : List (List ℕ)) (words : List WordView) → All (Contains names) (words_bytes words)
    → Known names words
items_named-from_All names words h = chosen (items_named names words) refl
  where
    chosen : (o : Option (List ℕ)) → items_named names words ≡ o → Known names words
    chosen None is = absurd (not_both names (words_bytes words) h (Any-items_named names words is))
    chosen (Some items) is = record { items = items; are = is }

items_named-from_Any : (names : List (List ℕ)) (words : List WordView)
    → Any (λ (name : List ℕ). ¬ Contains names name) (words_bytes words) → items_named names words ≡ None
items_named-from_Any names words h = chosen (items_named names words) refl
  where
    chosen : (o : Option (List ℕ)) → items_named names words ≡ o → items_named names words ≡ None
    chosen None is = is
    chosen (Some items) is = absurd (not_both names (words_bytes words) (All-items_named names words items is) h)

-- ---- a table's lines are faultless

record IsWithin (t : Table) : Type 0 where
  even : IsEven t
  items : length t.names ≤ 4096
  flushes : flush_count t.waits ≤ 16384

IsWithin-step : (t : Table) (d : ℕ × Directive) (u : Table) → Unit {0} → IsWithin t → declared t d.0 d.1 ≡ Ok u
    → IsWithin u
IsWithin-step t (n, Item name) u q h e =
    let s = item_step t n name u e in
    record {
      even = IsEven-step t (n, Item name) u q h.even e;
      items = omega (
        arith,
        ap (λ (v : Table). length v.names) s.after,
        length-append t.names (name.bytes ∷ []),
        s.room,
      );
      flushes = omega (arith, ap (λ (v : Table). flush_count v.waits) s.after, flush_count-with_item t name, h.flushes);
    }
IsWithin-step t (n, Flush name targets) u q h e =
    let s = flush_step t n of_item name targets u e in
    record {
      even = IsEven-step t (n, Flush name targets) u q h.even e;
      items = omega (arith, ap (λ (v : Table). length v.names) s.after, h.items);
      flushes = omega (
        arith,
        count_step t (n, Flush name targets) u h.even e,
        length-map {B = List ℕ × (Kind × List ℕ)} targets (λ (w : WordView). (name.bytes, (of_item, w.bytes))),
        length-items_named t.names targets s.items s.others,
        s.room,
      );
    }
IsWithin-step t (n, FlushWq name target) u q h e =
    let s = flush_step t n of_workqueue name (target ∷ []) u e in
    record {
      even = IsEven-step t (n, FlushWq name target) u q h.even e;
      items = omega (arith, ap (λ (v : Table). length v.names) s.after, h.items);
      flushes = omega (
        arith,
        count_step t (n, FlushWq name target) u h.even e,
        length-map {B = List ℕ × (Kind × List ℕ)} (target ∷ [])
            (λ (w : WordView). (name.bytes, (of_workqueue, w.bytes))),
        length-items_named t.names (target ∷ []) s.items s.others,
        s.room,
      );
    }
IsWithin-step t (n, Unsure name target whole) u q h e =
    let s = flush_step t n (unsure_of whole) name (target ∷ []) u e in
    record {
      even = IsEven-step t (n, Unsure name target whole) u q h.even e;
      items = omega (arith, ap (λ (v : Table). length v.names) s.after, h.items);
      flushes = omega (
        arith,
        count_step t (n, Unsure name target whole) u h.even e,
        length-map {B = List ℕ × (Kind × List ℕ)} (target ∷ [])
            (λ (w : WordView). (name.bytes, (unsure_of whole, w.bytes))),
        length-items_named t.names (target ∷ []) s.items s.others,
        s.room,
      );
    }
IsWithin-step t (n, Ordered names) u q h e = subst IsWithin (sym (order_step t n names u e).after) h

IsWithin-table_of : (ds : List (ℕ × Directive)) (t : Table) → table_of ds ≡ Ok t → IsWithin t
IsWithin-table_of ds t e =
    table_after-keeps IsWithin (λ (d : ℕ × Directive). Unit {0}) IsWithin-step empty_table ds t (every_line ds)
    (record { even = IsEven-empty; items = omega arith; flushes = omega arith }) e

names_known : (t : Table) (d : ℕ × Directive) (u : Table) → declared t d.0 d.1 ≡ Ok u
    → All (Contains t.names) (names_used d)
unfolding words_bytes
names_known t (n, Item name) u e = All-nil (Contains t.names)
names_known t (n, Flush name targets) u e =
    let s = flush_step t n of_item name targets u e in
    All-cons (Contains t.names) name.bytes (words_bytes targets) (Contains-item_named t.names name.bytes s.item s.first)
    (All-items_named t.names targets s.items s.others)
names_known t (n, FlushWq name target) u e =
    let s = flush_step t n of_workqueue name (target ∷ []) u e in
    All-cons (Contains t.names) name.bytes (words_bytes (target ∷ []))
    (Contains-item_named t.names name.bytes s.item s.first) (All-items_named t.names (target ∷ []) s.items s.others)
names_known t (n, Unsure name target whole) u e =
    let s = flush_step t n (unsure_of whole) name (target ∷ []) u e in
    All-cons (Contains t.names) name.bytes (words_bytes (target ∷ []))
    (Contains-item_named t.names name.bytes s.item s.first) (All-items_named t.names (target ∷ []) s.items s.others)
names_known t (n, Ordered names) u e = let s = order_step t n names u e in All-items_named t.names names s.items s.known

pub IsFaultless-table_of : (ds : List (ℕ × Directive)) (t : Table) → table_of ds ≡ Ok t → IsFaultless ds
IsFaultless-table_of ds t e =
    let within = IsWithin-table_of ds t e in
    let names : t.names ≡ filter_map item_name ds = names-table_of ds t e in
    record {
      once = subst (AllPairs (λ (a b : List ℕ). a ≢ b)) names within.even.distinct;
      known = λ before d after p.
          let a = IsAccepted-table_of ds t before d after e p in
          subst (λ (l : List (List ℕ)). All (Contains l) (names_used d)) (names-table_of before a.table a.makes)
          (names_known a.table d a.next a.taken);
      items = omega (arith, ap length names, within.items);
      flushes = omega (arith, flush_count-table_of ds t e, within.flushes);
    }

-- ---- the fault of a line

module _ (before : List (ℕ × Directive)) (t : Table) (makes : table_of before ≡ Ok t) where
  names_are : t.names ≡ filter_map item_name before
  names_are = names-table_of before t makes

  is_declared : (name : List ℕ) → Contains t.names name → IsDeclared before name
  is_declared name h = subst (λ (l : List (List ℕ)). Contains l name) names_are h

  is_there : (name : List ℕ) → IsDeclared before name → Contains t.names name
  is_there name h = subst (λ (l : List (List ℕ)). Contains l name) (sym names_are) h

  item_fault : (n : ℕ) (name : WordView) (e : ItemError) → item_declared t n name ≡ Err e
      → IsFaultOfLine before (n, Item name) e
  item_fault n name e is = found (item_named t.names name.bytes) refl is
    where
      room : ¬ IsDeclared before name.bytes → (b : Bool) → leb 4096 (length t.names) ≡ b
          → cond b (Err (TooManyItems n)) (Ok (with_item t name)) ≡ Err e → IsFaultOfLine before (n, Item name) e
      room fresh true full is =
          let same : TooManyItems n ≡ e = cc in
          subst (IsFaultOfLine before (n, Item name)) same (
            refl,
            fresh,
            omega (arith, leb-true 4096 (length t.names) full, ap length names_are),
          )
      room fresh false full is = absurd cc

      found : (o : Option ℕ) → item_named t.names name.bytes ≡ o
          → cond (is_some o) (Err (ItemTwice n)) (cond (leb 4096 (length t.names)) (Err (TooManyItems n))
          (Ok (with_item t name))) ≡ Err e → IsFaultOfLine before (n, Item name) e
      found (Some i) there is =
          let same : ItemTwice n ≡ e = cc in
          subst (IsFaultOfLine before (n, Item name)) same (
            refl,
            is_declared name.bytes (Contains-item_named t.names name.bytes i there),
          )
      found None there is =
          room (λ (h : IsDeclared before name.bytes). none-from_item_named t.names name.bytes there
          (is_there name.bytes h)) (leb 4096 (length t.names)) refl is

  -- the flushes before a line and on it
  flushes_more : (d : ℕ × Directive) → length (flushes (before ++ (d ∷ []))) ≡ flush_count t.waits + length
      (line_flushes d)
  flushes_more d =
      omega (
        arith,
        ap length (flat_map-append line_flushes before (d ∷ [])),
        length-append (flushes before) (line_flushes d ++ []),
        ap length (append-nil (line_flushes d)),
        flush_count-table_of before t makes,
      )

  -- the words of a line with flushes: what it uses and how many flushes it declares
  flush_fault : (n : ℕ) (said : Directive) (kind : Kind) (name : WordView) (targets : List WordView)
      → names_used (n, said) ≡ words_bytes (name ∷ targets) → length (line_flushes (n, said)) ≡ length targets
      → (e : ItemError) → flushes_declared t n kind (items_named t.names (name ∷ targets)) ≡ Err e
      → IsFaultOfLine before (n, said) e
  unfolding words_bytes
  flush_fault n said kind name targets used count e is = found (items_named t.names (name ∷ targets)) refl is
    where
      room : (i : ℕ) (items : List ℕ) → items_named t.names (name ∷ targets) ≡ Some (i ∷ items) → (b : Bool)
          → ltb 16384 (flush_count t.waits + length items) ≡ b
          → cond b (Err (TooManyFlushes n)) (Ok (with_flushes t kind i items)) ≡ Err e
          → IsFaultOfLine before (n, said) e
      room i items there true full is =
          let same : TooManyFlushes n ≡ e = cc in
          subst (IsFaultOfLine before (n, said)) same (
            refl,
            subst (λ (ns : List (List ℕ)). All (IsDeclared before) ns) (sym used)
                (subst (λ (l : List (List ℕ)). All (Contains l)
                (map (λ (word : WordView). word.bytes) (name ∷ targets))) names_are
                (All-items_named t.names (name ∷ targets) (i ∷ items) there)),
            omega (
              arith,
              ltb-true 16384 (flush_count t.waits + length items) full,
              flushes_more (n, said),
              count,
              length-items_named t.names (name ∷ targets) (i ∷ items) there,
            ),
          )
      room i items there false full is = absurd cc

      found : (o : Option (List ℕ)) → items_named t.names (name ∷ targets) ≡ o → flushes_declared t n kind o ≡ Err e
          → IsFaultOfLine before (n, said) e
      found None there is =
          let same : UnknownItem n ≡ e = cc in
          subst (IsFaultOfLine before (n, said)) same (
            refl,
            subst (λ (ns : List (List ℕ)). Any (λ (name : List ℕ). ¬ IsDeclared before name) ns) (sym used)
                (subst (λ (l : List (List ℕ)). Any (λ (name : List ℕ). ¬ Contains l name)
                (map (λ (word : WordView). word.bytes) (name ∷ targets))) names_are
                (Any-items_named t.names (name ∷ targets) there)),
          )
      found (Some []) there is = absurd cc
      found (Some (i ∷ items)) there is = room i items there (ltb 16384 (flush_count t.waits + length items)) refl is

  order_fault : (n : ℕ) (names : List WordView) (e : ItemError) → items_ordered t n (items_named t.names names) ≡ Err e
      → IsFaultOfLine before (n, Ordered names) e
  unfolding words_bytes
  order_fault n names e is = found (items_named t.names names) refl is
    where
      found : (o : Option (List ℕ)) → items_named t.names names ≡ o → items_ordered t n o ≡ Err e
          → IsFaultOfLine before (n, Ordered names) e
      found None there is =
          let same : UnknownItem n ≡ e = cc in
          subst (IsFaultOfLine before (n, Ordered names)) same (
            refl,
            subst (λ (l : List (List ℕ)). Any (λ (name : List ℕ). ¬ Contains l name)
                (map (λ (word : WordView). word.bytes) names)) names_are (Any-items_named t.names names there),
          )
      found (Some items) there is = absurd cc

  pub IsFaultOfLine-declared : (d : ℕ × Directive) (e : ItemError) → declared t d.0 d.1 ≡ Err e
      → IsFaultOfLine before d e
  unfolding words_bytes
  IsFaultOfLine-declared (n, Item name) e is = item_fault n name e is
  IsFaultOfLine-declared (n, Flush name targets) e is = flush_fault n (Flush name targets) of_item name targets refl
      (length-map {B = List ℕ × (Kind × List ℕ)} targets (λ (w : WordView). (name.bytes, (of_item, w.bytes)))) e is
  IsFaultOfLine-declared (n, FlushWq name target) e is = flush_fault n (FlushWq name target) of_workqueue name
      (target ∷ []) refl refl e is
  IsFaultOfLine-declared (n, Unsure name target whole) e is =
      flush_fault n (Unsure name target whole) (unsure_of whole) name (target ∷ []) refl refl e is
  IsFaultOfLine-declared (n, Ordered names) e is = order_fault n names e is

  -- after faultless lines, such a line is refused
  declared-from_fault : IsFaultless before → (d : ℕ × Directive) (e : ItemError) → IsFaultOfLine before d e
      → declared t d.0 d.1 ≡ Err e
  unfolding words_bytes Found
  declared-from_fault h (n, Item name) (ItemTwice m) p =
      let f = item_named-from_Contains t.names name.bytes (is_there name.bytes p.1) in
      ap (λ (o : Option ℕ). cond (is_some o) (Err (ItemTwice n))
      (cond (leb 4096 (length t.names)) (Err (TooManyItems n)) (Ok (with_item t name)))) f.1
      ∙ ap (λ (k : ℕ). Err (ItemTwice k)) p.0
  declared-from_fault h (n, Item name) (TooManyItems m) p =
      let fresh = item_named-none t.names name.bytes (λ (c : Contains t.names name.bytes). p.1
      (is_declared name.bytes c)) in
      ap (λ (o : Option ℕ). cond (is_some o) (Err (ItemTwice n))
      (cond (leb 4096 (length t.names)) (Err (TooManyItems n)) (Ok (with_item t name)))) fresh
      ∙ ap (λ (b : Bool). cond b (Err (TooManyItems n)) (Ok (with_item t name)))
      (le-leb 4096 (length t.names) (omega (arith, p.2, ap length names_are)))
      ∙ ap (λ (k : ℕ). Err (TooManyItems k)) p.0
  declared-from_fault h (n, Item name) (UnknownItem m) p = absurd (omega (arith, p.1.2))
  declared-from_fault h (n, Item name) (TooManyFlushes m) p =
      absurd (omega (arith, p.2, flushes_more (n, Item name), flush_count-table_of before t makes, h.flushes))
  declared-from_fault h (n, Item name) OutOfMemory p = absurd p
  declared-from_fault h (n, Flush name targets) (ItemTwice m) p = absurd p.1
  declared-from_fault h (n, Flush name targets) (TooManyItems m) p = absurd p.1
  declared-from_fault h (n, Flush name targets) (UnknownItem m) p =
      let unknown = subst (λ (l : List (List ℕ)). Any (λ (name : List ℕ). ¬ Contains l name)
      (map (λ (word : WordView). word.bytes) (name ∷ targets))) (sym names_are) p.1 in
      ap (flushes_declared t n of_item) (items_named-from_Any t.names (name ∷ targets) unknown)
      ∙ ap (λ (k : ℕ). Err (UnknownItem k)) p.0
  declared-from_fault h (n, Flush name targets) (TooManyFlushes m) p =
      let known = subst (λ (l : List (List ℕ)). All (Contains l)
      (map (λ (word : WordView). word.bytes) (name ∷ targets))) (sym names_are) p.1 in
      let k = items_named-from_All t.names (name ∷ targets) known in
      let q = parts (item_named t.names name.bytes) (items_named t.names targets) k.items k.are in
      let full : 16384 < flush_count t.waits + length q.others =
      omega (
        arith,
        p.2,
        flushes_more (n, Flush name targets),
        length-map {B = List ℕ × (Kind × List ℕ)} targets (λ (w : WordView). (name.bytes, (of_item, w.bytes))),
        length-items_named t.names targets q.others q.rest,
      ) in
      ap (flushes_declared t n of_item) (k.are ∙ ap Some q.whole)
      ∙ ap (λ (b : Bool). cond b (Err (TooManyFlushes n)) (Ok (with_flushes t of_item q.item q.others)))
      (lt-ltb 16384 (flush_count t.waits + length q.others) full)
      ∙ ap (λ (k : ℕ). Err (TooManyFlushes k)) p.0
  declared-from_fault h (n, Flush name targets) OutOfMemory p = absurd p
  declared-from_fault h (n, FlushWq name target) (ItemTwice m) p = absurd p.1
  declared-from_fault h (n, FlushWq name target) (TooManyItems m) p = absurd p.1
  declared-from_fault h (n, FlushWq name target) (UnknownItem m) p =
      let unknown = subst (λ (l : List (List ℕ)). Any (λ (name : List ℕ). ¬ Contains l name)
      (map (λ (word : WordView). word.bytes) (name ∷ target ∷ []))) (sym names_are) p.1 in
      ap (flushes_declared t n of_workqueue) (items_named-from_Any t.names (name ∷ target ∷ []) unknown)
      ∙ ap (λ (k : ℕ). Err (UnknownItem k)) p.0
  declared-from_fault h (n, FlushWq name target) (TooManyFlushes m) p =
      let known = subst (λ (l : List (List ℕ)). All (Contains l)
      (map (λ (word : WordView). word.bytes) (name ∷ target ∷ []))) (sym names_are) p.1 in
      let k = items_named-from_All t.names (name ∷ target ∷ []) known in
      let q = parts (item_named t.names name.bytes) (items_named t.names (target ∷ [])) k.items k.are in
      let full : 16384 < flush_count t.waits + length q.others =
      omega (
        arith,
        p.2,
        flushes_more (n, FlushWq name target),
        length-items_named t.names (target ∷ []) q.others q.rest,
      ) in
      ap (flushes_declared t n of_workqueue) (k.are ∙ ap Some q.whole)
      ∙ ap (λ (b : Bool). cond b (Err (TooManyFlushes n)) (Ok (with_flushes t of_workqueue q.item q.others)))
      (lt-ltb 16384 (flush_count t.waits + length q.others) full)
      ∙ ap (λ (k : ℕ). Err (TooManyFlushes k)) p.0
  declared-from_fault h (n, FlushWq name target) OutOfMemory p = absurd p
  declared-from_fault h (n, Unsure name target whole) (ItemTwice m) p = absurd p.1
  declared-from_fault h (n, Unsure name target whole) (TooManyItems m) p = absurd p.1
  declared-from_fault h (n, Unsure name target whole) (UnknownItem m) p =
      let unknown = subst (λ (l : List (List ℕ)). Any (λ (name : List ℕ). ¬ Contains l name)
      (map (λ (word : WordView). word.bytes) (name ∷ target ∷ []))) (sym names_are) p.1 in
      ap (flushes_declared t n (unsure_of whole)) (items_named-from_Any t.names (name ∷ target ∷ []) unknown)
      ∙ ap (λ (k : ℕ). Err (UnknownItem k)) p.0
  declared-from_fault h (n, Unsure name target whole) (TooManyFlushes m) p =
      let known = subst (λ (l : List (List ℕ)). All (Contains l)
      (map (λ (word : WordView). word.bytes) (name ∷ target ∷ []))) (sym names_are) p.1 in
      let k = items_named-from_All t.names (name ∷ target ∷ []) known in
      let q = parts (item_named t.names name.bytes) (items_named t.names (target ∷ [])) k.items k.are in
      let full : 16384 < flush_count t.waits + length q.others =
      omega (
        arith,
        p.2,
        flushes_more (n, Unsure name target whole),
        length-items_named t.names (target ∷ []) q.others q.rest,
      ) in
      ap (flushes_declared t n (unsure_of whole)) (k.are ∙ ap Some q.whole)
      ∙ ap (λ (b : Bool). cond b (Err (TooManyFlushes n)) (Ok (with_flushes t (unsure_of whole) q.item q.others)))
      (lt-ltb 16384 (flush_count t.waits + length q.others) full)
      ∙ ap (λ (k : ℕ). Err (TooManyFlushes k)) p.0
  declared-from_fault h (n, Unsure name target whole) OutOfMemory p = absurd p
  declared-from_fault h (n, Ordered names) (ItemTwice m) p = absurd p.1
  declared-from_fault h (n, Ordered names) (TooManyItems m) p = absurd p.1
  declared-from_fault h (n, Ordered names) (UnknownItem m) p =
      let unknown = subst (λ (l : List (List ℕ)). Any (λ (name : List ℕ). ¬ Contains l name)
      (map (λ (word : WordView). word.bytes) names)) (sym names_are) p.1 in
      ap (items_ordered t n) (items_named-from_Any t.names names unknown) ∙ ap (λ (k : ℕ). Err (UnknownItem k)) p.0
  declared-from_fault h (n, Ordered names) (TooManyFlushes m) p =
      absurd (omega (arith, p.2, flushes_more (n, Ordered names), flush_count-table_of before t makes, h.flushes))
  declared-from_fault h (n, Ordered names) OutOfMemory p = absurd p

-- ---- all lines

twice : (xs ys : List (List ℕ)) (name : List ℕ) → Contains xs name
    → AllPairs (λ (a b : List ℕ). a ≢ b) (xs ++ (name ∷ ys)) → ⊥
twice xs ys name h distinct =
    let within : length xs < length (xs ++ (name ∷ ys)) = omega (arith, length-append xs (name ∷ ys)) in
    distinct h.0 (length xs) name h.1 within (get_or_append_left xs (name ∷ ys) name h.0 h.1 ∙ h.2
    ∙ sym (get_or_at xs name ys name (length xs) refl))

-- faultless lines have no such line
no_fault_among : (ds before : List (ℕ × Directive)) (d : ℕ × Directive) (after : List (ℕ × Directive)) (e : ItemError)
    → IsFaultless ds → ds ≡ before ++ (d ∷ after) → IsFaultOfLine before d e → ⊥
no_fault_among ds before (n, Item name) after (ItemTwice m) h is p =
    twice (filter_map item_name before) (filter_map item_name after) name.bytes p.1 (
    subst (AllPairs (λ (a b : List ℕ). a ≢ b)) (ap (filter_map item_name) is
    ∙ filter_map-append item_name before ((n, Item name) ∷ after)) h.once
    )
no_fault_among ds before (n, Flush name targets) after (ItemTwice m) h is p = p.1
no_fault_among ds before (n, FlushWq name target) after (ItemTwice m) h is p = p.1
no_fault_among ds before (n, Unsure name target whole) after (ItemTwice m) h is p = p.1
no_fault_among ds before (n, Ordered names) after (ItemTwice m) h is p = p.1
no_fault_among ds before (n, Item name) after (TooManyItems m) h is p =
    omega (
      arith,
      p.2,
      h.items,
      ap length (ap (filter_map item_name) is ∙ filter_map-append item_name before ((n, Item name) ∷ after)),
      length-append (filter_map item_name before) (name.bytes ∷ filter_map item_name after),
    )
no_fault_among ds before (n, Flush name targets) after (TooManyItems m) h is p = p.1
no_fault_among ds before (n, FlushWq name target) after (TooManyItems m) h is p = p.1
no_fault_among ds before (n, Unsure name target whole) after (TooManyItems m) h is p = p.1
no_fault_among ds before (n, Ordered names) after (TooManyItems m) h is p = p.1
no_fault_among ds before d after (UnknownItem m) h is p = not_both (filter_map item_name before) (names_used d)
    (h.known before d after is) p.1
no_fault_among ds before d after (TooManyFlushes m) h is p =
    omega (
      arith,
      p.2,
      h.flushes,
      ap length (ap flushes is ∙ flat_map-append line_flushes before (d ∷ after)),
      length-append (flushes before) (line_flushes d ++ flushes after),
      length-append (line_flushes d) (flushes after),
      ap length (flat_map-append line_flushes before (d ∷ [])),
      length-append (flushes before) (line_flushes d ++ []),
      ap length (append-nil (line_flushes d)),
    )
no_fault_among ds before d after OutOfMemory h is p = p

IsLowestItemFault-table_of : (ds : List (ℕ × Directive)) (e : ItemError) → table_of ds ≡ Err e → IsLowestItemFault ds e
IsLowestItemFault-table_of ds e is =
    let f = IsFirstFault-table_after empty_table ds e is in
    record {
      before = f.before;
      line = (f.line, f.directive);
      after = f.after;
      parts = f.parts;
      faultless = IsFaultless-table_of f.before f.table f.makes;
      fault = IsFaultOfLine-declared f.before f.table f.makes (f.line, f.directive) e f.refused;
    }

record Made (ds : List (ℕ × Directive)) : Type 0 where
  table : Table
  made : table_of ds ≡ Ok table

table_of-faultless : (ds : List (ℕ × Directive)) → IsFaultless ds → Made ds
table_of-faultless ds h = chosen (table_of ds) refl
  where
    chosen : (r : Result Table ItemError) → table_of ds ≡ r → Made ds
    chosen (Ok t) is = record { table = t; made = is }
    chosen (Err e) is = let f = IsLowestItemFault-table_of ds e is in absurd
        (no_fault_among ds f.before f.line f.after e h f.parts f.fault)

faultless_from_ok : (ds : List (ℕ × Directive)) → IsOk (table_of ds) → IsFaultless ds
faultless_from_ok ds ok = chosen (table_of ds) refl ok
  where
    chosen : (r : Result Table ItemError) → table_of ds ≡ r → IsOk r → IsFaultless ds
    chosen (Ok t) is ok = IsFaultless-table_of ds t is
    chosen (Err e) is ok = absurd cc

pub IsOk-table_of : (ds : List (ℕ × Directive)) → IsOk (table_of ds) ↔ IsFaultless ds
IsOk-table_of ds = (faultless_from_ok ds, λ (h : IsFaultless ds). ap is_ok (table_of-faultless ds h).made)

pub Err-table_of : (ds : List (ℕ × Directive)) (e : ItemError) → (table_of ds ≡ Err e) ↔ IsLowestItemFault ds e
Err-table_of ds e = (
  IsLowestItemFault-table_of ds e,
  λ (f : IsLowestItemFault ds e).
      let m = table_of-faultless f.before f.faultless in
      table_of-first_fault ds e (
      record {
        before = f.before;
        line = f.line.0;
        directive = f.line.1;
        after = f.after;
        table = m.table;
        parts = f.parts;
        makes = m.made;
        refused = declared-from_fault f.before m.table m.made f.faultless f.line e f.fault;
      }
      ),
)
