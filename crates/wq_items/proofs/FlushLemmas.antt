-- The targets in a table are the flushes that the lines declare.
use Rattle.std.proofs.Common.{◌≡◌, ◌≢◌, inl, inr, ℕ, zero, suc, ◌+◌, ◌<◌, Bool, true, false, cond, List, [], ◌∷◌, ◌++◌}
use Rattle.std.proofs.Common.{length, map, get_or, set, Option, Some, None, Ok, refl, sym, ap, subst, ◌∙◌, arith}
use Rattle.std.proofs.Common.{append_assoc, append-nil}
use Rattle.std.specs.Prelude.{bytes_eq, AllPairs, slice_get}
use Rattle.std.specs.List.{filter_map, cons_option, enumerate_from}
use Rattle.std.proofs.lemmas.Bool.{cases_eq, cases_order, false_from_ne_true}
use Rattle.std.proofs.lemmas.List.{length_push, length-set, length-append, length-map, map-append, get_or_append_left}
use Rattle.std.proofs.lemmas.List.{get_or-set_same, get_or-set_other}
use Rattle.std.proofs.lemmas.List.Elements.{filter_map-append}
use Rattle.std.proofs.lemmas.List.Quantifiers.{all_pairs_push, position-Some}
use Rattle.std.proofs.lemmas.Option.{get_or_from_slice_get, slice_get_within}
use Rattle.std.proofs.lemmas.Slice.Eq.{bytes_eq-Decides}
use Rattle.wq_text.specs.Words.{WordView}
use Rattle.wq_decl.specs.declared.directive.Directive.{Directive}
use Rattle.wq_decl.specs.declared.directive.Directive.TheVariants.{Item, Flush, FlushWq, Unsure, Ordered}
use Rattle.wq_items.specs.declared.target.Kind.{Kind}
use Rattle.wq_items.specs.declared.target.Target.{Target}
use Rattle.wq_items.specs.Table.{Table, item_named, targets_of, flush_count}
use Rattle.wq_items.specs.Building.{of_item, of_workqueue, unsure_of, empty_table, with_item, with_flushes}
use Rattle.wq_items.specs.Building.{targets_from, items_named, flushes_declared, declared, table_after, table_of}
use Rattle.wq_items.specs.Flushes.{item_name, line_flushes, flushes, flushes_of, kind_of, named_targets}
use Rattle.wq_items.proofs.TableLemmas.{differs-from-item_named, parts, item_named-below, length-items_named}
use Rattle.wq_items.proofs.TableLemmas.{flush_count-with_item, flush_count-with_flushes}
use Rattle.wq_items.proofs.BuildingLemmas.{item_step, flush_step, order_step, and_then-Ok, table_after-keeps}
use Rattle.wq_items.proofs.BuildingLemmas.{every_line, names-table_after}

-- ---- lists

pub enumerate_from-append : {X : Type 0} (n : ℕ) (xs ys : List X) → enumerate_from n (xs ++ ys) ≡ enumerate_from n xs
    ++ enumerate_from (n + length xs) ys
enumerate_from-append n [] ys = let e : n ≡ n + 0 = omega arith in ap (λ (k : ℕ). enumerate_from k ys) e
enumerate_from-append {X} n (x ∷ xs) ys =
    let e : (n + 1) + length xs ≡ n + length (x ∷ xs) = omega arith in
    ap (λ (l : List (ℕ × X)). (n, x) ∷ l) (enumerate_from-append (n + 1) xs ys
    ∙ ap (λ (k : ℕ). enumerate_from (n + 1) xs ++ enumerate_from k ys) e)

get_or-push_nil : {X : Type 0} (xs : List (List X)) (i : ℕ) → get_or (xs ++ ([] ∷ [])) i [] ≡ get_or xs i []
get_or-push_nil [] zero = refl
get_or-push_nil [] (suc i) = refl
get_or-push_nil (x ∷ xs) zero = refl
get_or-push_nil (x ∷ xs) (suc i) = get_or-push_nil xs i

pub item_named-is : (names : List (List ℕ)) (name : List ℕ) (i : ℕ) → item_named names name ≡ Some i
    → get_or names i [] ≡ name
item_named-is names name i e =
    sym ((bytes_eq-Decides name (get_or names i [])).0 (position-Some (bytes_eq name) names i [] e).1)

-- ---- the names in a table differ, and each has its list of targets

pub record IsEven (t : Table) : Type 0 where
  pub waits : length t.waits ≡ length t.names
  pub distinct : AllPairs (λ (a b : List ℕ). a ≢ b) t.names

pub IsEven-empty : IsEven empty_table
IsEven-empty = record { waits = refl; distinct = λ i j d lt within. absurd (omega arith) }

pub IsEven-step : (t : Table) (d : ℕ × Directive) (u : Table) → Unit {0} → IsEven t → declared t d.0 d.1 ≡ Ok u
    → IsEven u
IsEven-step t (n, Item name) u q h e =
    let s = item_step t n name u e in
    subst IsEven (sym s.after) (
    record {
      waits = omega (arith, length_push {X = List Target} t.waits [], length_push t.names name.bytes, h.waits);
      distinct = all_pairs_push (λ (a b : List ℕ). a ≢ b) t.names name.bytes h.distinct
          (differs-from-item_named t.names name.bytes s.fresh);
    }
    )
IsEven-step t (n, Flush name targets) u q h e =
    let s = flush_step t n of_item name targets u e in
    subst IsEven (sym s.after) (
    record {
      waits = length-set t.waits s.item _ ∙ h.waits;
      distinct = h.distinct;
    }
    )
IsEven-step t (n, FlushWq name target) u q h e =
    let s = flush_step t n of_workqueue name (target ∷ []) u e in
    subst IsEven (sym s.after) (
    record {
      waits = length-set t.waits s.item _ ∙ h.waits;
      distinct = h.distinct;
    }
    )
IsEven-step t (n, Unsure name target whole) u q h e =
    let s = flush_step t n (unsure_of whole) name (target ∷ []) u e in
    subst IsEven (sym s.after) (
    record {
      waits = length-set t.waits s.item _ ∙ h.waits;
      distinct = h.distinct;
    }
    )
IsEven-step t (n, Ordered names) u q h e = subst IsEven (sym (order_step t n names u e).after) h

pub IsEven-table_after : (t : Table) (ds : List (ℕ × Directive)) (u : Table) → IsEven t → table_after t ds ≡ Ok u
    → IsEven u
IsEven-table_after t ds u h e = table_after-keeps IsEven (λ (d : ℕ × Directive). Unit {0}) IsEven-step t ds u
    (every_line ds) h e

-- ---- counts

-- the flushes that the words of a line declare
abbrev pub said : Kind → WordView → List WordView → List (List ℕ × (Kind × List ℕ))
said kind name targets = map (λ (w : WordView). (name.bytes, (kind, w.bytes))) targets

count_flushes : (t : Table) (n : ℕ) (kind : Kind) (name : WordView) (targets : List WordView) (u : Table) → IsEven t
    → flushes_declared t n kind (items_named t.names (name ∷ targets)) ≡ Ok u
    → flush_count u.waits ≡ flush_count t.waits + length (said kind name targets)
count_flushes t n kind name targets u h e =
    let s = flush_step t n kind name targets u e in
    let within : s.item < length t.waits = omega (arith, item_named-below t.names name.bytes s.item s.first, h.waits) in
    ap (λ (v : Table). flush_count v.waits) s.after ∙ flush_count-with_flushes t kind s.item s.items within
    ∙ ap (λ (k : ℕ). flush_count t.waits + k) (length-items_named t.names targets s.items s.others
    ∙ sym (length-map {B = List ℕ × (Kind × List ℕ)} targets (λ (w : WordView). (name.bytes, (kind, w.bytes)))))

pub count_step : (t : Table) (d : ℕ × Directive) (u : Table) → IsEven t → declared t d.0 d.1 ≡ Ok u
    → flush_count u.waits ≡ flush_count t.waits + length (line_flushes d)
count_step t (n, Item name) u h e = ap (λ (v : Table). flush_count v.waits) (item_step t n name u e).after
    ∙ flush_count-with_item t name ∙ omega arith
count_step t (n, Flush name targets) u h e = count_flushes t n of_item name targets u h e
count_step t (n, FlushWq name target) u h e = count_flushes t n of_workqueue name (target ∷ []) u h e
count_step t (n, Unsure name target whole) u h e = count_flushes t n (unsure_of whole) name (target ∷ []) u h e
count_step t (n, Ordered names) u h e = ap (λ (v : Table). flush_count v.waits) (order_step t n names u e).after
    ∙ omega arith

pub flush_count-table_after : (t : Table) (ds : List (ℕ × Directive)) (w : Table) → IsEven t → table_after t ds ≡ Ok w
    → flush_count w.waits ≡ flush_count t.waits + length (flushes ds)
flush_count-table_after t [] w h e = let same : w ≡ t = cc in ap (λ (v : Table). flush_count v.waits) same ∙ omega arith
flush_count-table_after t (d ∷ ds) w h e =
    let s = and_then-Ok (declared t d.0 d.1) (λ (u : Table). table_after u ds) w e in
    omega (
      arith,
      flush_count-table_after s.next ds w (IsEven-step t d s.next tt h s.taken) s.rest,
      count_step t d s.next h s.taken,
      length-append (line_flushes d) (flushes ds),
    )

pub flush_count-table_of : (ds : List (ℕ × Directive)) (t : Table) → table_of ds ≡ Ok t
    → flush_count t.waits ≡ length (flushes ds)
flush_count-table_of ds t e = flush_count-table_after empty_table ds t IsEven-empty e ∙ omega arith

-- ---- one line

-- the targets of item i, by the names in a list
targets_in : List (List ℕ) → List Target → List ((Kind × List ℕ) × ℕ)
targets_in names targets = map (λ (target : Target). ((kind_of target, get_or names target.item []), target.place))
    targets

-- the flushes that a line declares of items that are known
flushes_of-own : (names known : List (List ℕ)) (name : List ℕ) (kind : Kind) (place : ℕ) (targets : List WordView)
    (items : List ℕ) → ((j : ℕ) → j < length known → get_or names j [] ≡ get_or known j [])
    → items_named known targets ≡ Some items
    → flushes_of name (enumerate_from place (map (λ (w : WordView). (name, (kind, w.bytes))) targets)) ≡ targets_in
    names (targets_from kind place items)
unfolding targets_in
flushes_of-own names known name kind place [] items same e = let is : [] ≡ items =
    cc in ap (λ (l : List ℕ). targets_in names (targets_from kind place l)) is
flushes_of-own names known name kind place (w ∷ ws) items same e =
    let p = parts (item_named known w.bytes) (items_named known ws) items e in
    let yes : bytes_eq name name ≡ true = (bytes_eq-Decides name name).1 refl in
    let there : w.bytes ≡ get_or names p.item [] = sym (same p.item (item_named-below known w.bytes p.item p.first)
    ∙ item_named-is known w.bytes p.item p.first) in
    let rest = flushes_of-own names known name kind (place + 1) ws p.others same p.rest in
    ap (λ (b : Bool). cons_option (cond b (Some ((kind, w.bytes), place)) None)
    (flushes_of name (enumerate_from (place + 1) (map (λ (w : WordView). (name, (kind, w.bytes))) ws)))) yes
    ∙ ap (λ (l : List ((Kind × List ℕ) × ℕ)). ((kind, w.bytes), place) ∷ l) rest
    ∙ ap (λ (b : List ℕ). ((kind, b), place) ∷ targets_in names (targets_from kind (place + 1) p.others)) there
    ∙ ap (λ (l : List ℕ). targets_in names (targets_from kind place l)) (sym p.whole)

-- the flushes that a line declares of another item
flushes_of-other : (name other : List ℕ) (kind : Kind) (place : ℕ) (targets : List WordView) → other ≢ name
    → flushes_of name (enumerate_from place (map (λ (w : WordView). (other, (kind, w.bytes))) targets)) ≡ []
flushes_of-other name other kind place [] differ = refl
flushes_of-other name other kind place (w ∷ ws) differ =
    let apart : bytes_eq other name ≡ false = false_from_ne_true (bytes_eq other name)
    (λ (e : bytes_eq other name ≡ true). differ ((bytes_eq-Decides other name).0 e)) in
    ap (λ (b : Bool). cons_option (cond b (Some ((kind, w.bytes), place)) None)
    (flushes_of name (enumerate_from (place + 1) (map (λ (w : WordView). (other, (kind, w.bytes))) ws)))) apart
    ∙ flushes_of-other name other kind (place + 1) ws differ

-- what the line of step d adds to the targets of item i: those flushes of the line that are of its name
record Adds (names : List (List ℕ)) (t : Table) (d : ℕ × Directive) (u : Table) (i : ℕ) : Type 0 where
  targets : targets_in names (targets_of u.waits i) ≡ targets_in names (targets_of t.waits i)
      ++ flushes_of (get_or names i []) (enumerate_from (flush_count t.waits) (line_flushes d))

adds_item : (names : List (List ℕ)) (t : Table) (n : ℕ) (name : WordView) (i : ℕ)
    → Adds names t (n, Item name) (with_item t name) i
adds_item names t n name i = record {
  targets = ap (targets_in names) (get_or-push_nil t.waits i)
      ∙ sym (append-nil (targets_in names (targets_of t.waits i)));
}

adds_order : (names : List (List ℕ)) (t : Table) (n : ℕ) (ordered : List WordView) (i : ℕ)
    → Adds names t (n, Ordered ordered) t i
adds_order names t n ordered i = record { targets = sym (append-nil (targets_in names (targets_of t.waits i))) }

ne_places : (names : List (List ℕ)) (i j : ℕ) → AllPairs (λ (a b : List ℕ). a ≢ b) names → i < length names
    → j < length names → j ≢ i → get_or names j [] ≢ get_or names i []
ne_places names i j distinct in-i in-j differ =
    elim (cases_order i j) [
      | inl e ↦ absurd (differ (sym e))
      | inr (inl lt) ↦ λ (e : get_or names j [] ≡ get_or names i []). distinct i j [] lt in-j (sym e)
      | inr (inr lt) ↦ distinct j i [] lt in-i
    ]

-- the name of item i names it
pub item_named-at : (names : List (List ℕ)) (name : List ℕ) (i : ℕ) → AllPairs (λ (a b : List ℕ). a ≢ b) names
    → i < length names → get_or names i [] ≡ name → item_named names name ≡ Some i
item_named-at names name i distinct lt is = by (item_named names name) refl
  where
    by : (o : Option ℕ) → item_named names name ≡ o → o ≡ Some i
    by None none = absurd (differs-from-item_named names name none i [] lt is)
    by (Some j) found =
        elim (cases_eq j i) [
          | inl same ↦ ap Some same
          | inr other ↦ absurd (ne_places names i j distinct lt (item_named-below names name j found) other
              (item_named-is names name j found ∙ sym is))
        ]

module _ (names rest : List (List ℕ)) (t : Table) (even : IsEven t) (front : names ≡ t.names ++ rest)
    (distinct : AllPairs (λ (a b : List ℕ). a ≢ b) names) where
  same_name : (j : ℕ) → j < length t.names → get_or names j [] ≡ get_or t.names j []
  same_name j lt = ap (λ (l : List (List ℕ)). get_or l j []) front ∙ get_or_append_left t.names rest [] j lt

  adds_flush : (kind : Kind) (name : WordView) (targets : List WordView) (j : ℕ) (items : List ℕ) (i : ℕ)
      → item_named t.names name.bytes ≡ Some j → items_named t.names targets ≡ Some items → i < length names
      → targets_in names (targets_of (with_flushes t kind j items).waits i) ≡ targets_in names (targets_of t.waits i)
      ++ flushes_of (get_or names i []) (enumerate_from (flush_count t.waits) (said kind name targets))
  unfolding targets_in
  adds_flush kind name targets j items i first others within =
      let count : ℕ = flush_count t.waits in
      let in-names : j < length t.names = item_named-below t.names name.bytes j first in
      let in-waits : j < length t.waits = omega (arith, even.waits) in
      let in-all : j < length names = omega (arith, ap length front, length-append t.names rest) in
      let called : get_or names j [] ≡ name.bytes = same_name j in-names ∙ item_named-is t.names name.bytes j first in
      let new : List Target = targets_from kind count items in
      let words : List (List ℕ × (Kind × List ℕ)) = said kind name targets in
      elim (cases_order i j) [
        | inl e ↦
            subst (λ (k : ℕ). targets_in names (targets_of (set t.waits j (targets_of t.waits j ++ new)) k) ≡ targets_in
            names (targets_of t.waits k) ++ flushes_of (get_or names k []) (enumerate_from count words)) (sym e) (
            ap (targets_in names) (get_or-set_same t.waits j (targets_of t.waits j ++ new) [] in-waits)
            ∙ map-append (λ (target : Target). ((kind_of target, get_or names target.item []), target.place))
            (targets_of t.waits j) new
            ∙ ap (λ (l : List ((Kind × List ℕ) × ℕ)). targets_in names (targets_of t.waits j) ++ l) (
            sym (flushes_of-own names t.names name.bytes kind count targets items same_name others)
            ∙ ap (λ (b : List ℕ). flushes_of b (enumerate_from count words)) (sym called)
            )
            )
        | inr o ↦
            let differ : i ≢ j = elim o [ inl lt ↦ λ (e : i ≡ j). omega arith | inr lt ↦ λ (e : i ≡ j). omega arith ] in
            let back : j ≢ i = λ (e : j ≡ i). differ (sym e) in
            let apart : name.bytes ≢ get_or names i [] = λ (e : name.bytes ≡ get_or names i []). ne_places names i j
            distinct within in-all back (called ∙ e) in
            ap (targets_in names) (get_or-set_other t.waits j i (targets_of t.waits j ++ new) [] differ)
            ∙ sym (append-nil (targets_in names (targets_of t.waits i)))
            ∙ ap (λ (l : List ((Kind × List ℕ) × ℕ)). targets_in names (targets_of t.waits i) ++ l)
            (sym (flushes_of-other (get_or names i []) name.bytes kind count targets apart))
      ]

  adds : (d : ℕ × Directive) (u : Table) (i : ℕ) → declared t d.0 d.1 ≡ Ok u → i < length names → Adds names t d u i
  adds (n, Item name) u i e within = let s = item_step t n name u e in
      subst (λ (v : Table). Adds names t (n, Item name) v i) (sym s.after) (adds_item names t n name i)
  adds (n, Flush name targets) u i e within =
      let s = flush_step t n of_item name targets u e in
      subst (λ (v : Table). Adds names t (n, Flush name targets) v i) (sym s.after)
      (record { targets = adds_flush of_item name targets s.item s.items i s.first s.others within })
  adds (n, FlushWq name target) u i e within =
      let s = flush_step t n of_workqueue name (target ∷ []) u e in
      subst (λ (v : Table). Adds names t (n, FlushWq name target) v i) (sym s.after)
      (record { targets = adds_flush of_workqueue name (target ∷ []) s.item s.items i s.first s.others within })
  adds (n, Unsure name target whole) u i e within =
      let s = flush_step t n (unsure_of whole) name (target ∷ []) u e in
      subst (λ (v : Table). Adds names t (n, Unsure name target whole) v i) (sym s.after)
      (record {
        targets = adds_flush (unsure_of whole) name (target ∷ []) s.item s.items i s.first s.others
            within;
      })
  adds (n, Ordered ordered) u i e within = subst (λ (v : Table). Adds names t (n, Ordered ordered) v i)
      (sym (order_step t n ordered u e).after) (adds_order names t n ordered i)

-- ---- all lines

-- what lines add from t on to the targets of item i: those of their flushes that are of its name
record AddsAll (names : List (List ℕ)) (t : Table) (ds : List (ℕ × Directive)) (w : Table) (i : ℕ) : Type 0 where
  targets : targets_in names (targets_of w.waits i) ≡ targets_in names (targets_of t.waits i)
      ++ flushes_of (get_or names i []) (enumerate_from (flush_count t.waits) (flushes ds))

adds_none : (names : List (List ℕ)) (t : Table) (i : ℕ) → AddsAll names t [] t i
adds_none names t i = record { targets = sym (append-nil (targets_in names (targets_of t.waits i))) }

adds_more : (names : List (List ℕ)) (t u w : Table) (d : ℕ × Directive) (ds : List (ℕ × Directive)) (i : ℕ)
    → flush_count u.waits ≡ flush_count t.waits + length (line_flushes d) → Adds names t d u i → AddsAll names u ds w i
    → AddsAll names t (d ∷ ds) w i
adds_more names t u w d ds i counted a b =
    let name : List ℕ = get_or names i [] in
    let count : ℕ = flush_count t.waits in
    let own : List ((Kind × List ℕ) × ℕ) = targets_in names (targets_of t.waits i) in
    record {
      targets =
          b.targets ∙ ap (λ (l : List ((Kind × List ℕ) × ℕ)). l
          ++ flushes_of name (enumerate_from (flush_count u.waits) (flushes ds))) a.targets
          ∙ append_assoc own (flushes_of name (enumerate_from count (line_flushes d)))
          (flushes_of name (enumerate_from (flush_count u.waits) (flushes ds)))
          ∙ ap (λ (l : List ((Kind × List ℕ) × ℕ)). own ++ l) (
          ap (λ (k : ℕ). flushes_of name (enumerate_from count (line_flushes d))
          ++ flushes_of name (enumerate_from k (flushes ds))) counted
          ∙ sym (filter_map-append (λ (f : ℕ × (List ℕ × (Kind × List ℕ))). cond (bytes_eq f.1.0 name)
          (Some (f.1.1, f.0)) None) (enumerate_from count (line_flushes d))
          (enumerate_from (count + length (line_flushes d)) (flushes ds)))
          ∙ ap (flushes_of name) (sym (enumerate_from-append count (line_flushes d) (flushes ds)))
          );
    }

adds_all : (w : Table) (t : Table) (ds : List (ℕ × Directive)) (i : ℕ) → IsEven t → IsEven w → table_after t ds ≡ Ok w
    → i < length w.names → AddsAll w.names t ds w i
adds_all w t [] i h k e within = let same : t ≡ w = cc in subst (λ (v : Table). AddsAll w.names v [] w i) (sym same)
    (adds_none w.names w i)
adds_all w t (d ∷ ds) i h k e within =
    let s = and_then-Ok (declared t d.0 d.1) (λ (u : Table). table_after u ds) w e in
    adds_more w.names t s.next w d ds i (count_step t d s.next h s.taken)
    (adds w.names (filter_map item_name (d ∷ ds)) t h (names-table_after t (d ∷ ds) w e) k.distinct d s.next i
    s.taken within) (
    adds_all w s.next ds i (IsEven-step t d s.next tt h s.taken) k s.rest within
    )

pub named_targets-table_of : (ds : List (ℕ × Directive)) (t : Table) (i : ℕ) (name : List ℕ) → table_of ds ≡ Ok t
    → slice_get t.names i ≡ Some name → named_targets t i ≡ flushes_of name (enumerate_from 0 (flushes ds))
unfolding targets_in
named_targets-table_of ds t i name e is =
    let even = IsEven-table_after empty_table ds t IsEven-empty e in
    let a = adds_all t empty_table ds i IsEven-empty even e (slice_get_within t.names i name is) in
    a.targets ∙ ap (λ (b : List ℕ). flushes_of b (enumerate_from 0 (flushes ds)))
    (get_or_from_slice_get t.names i name [] is)
