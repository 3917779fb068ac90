-- A table that has grown, part by part, is a table.
use Rattle.std.proofs.Common.{◌≡◌, ℕ, ◌+◌, ◌<◌, ◌≤◌, List, [], ◌∷◌, ◌++◌, length, Option, Some, None, refl, sym, ap}
use Rattle.std.proofs.Common.{subst, ◌∙◌, arith}
use Rattle.std.specs.Prelude.{IsTrue, IfSome, option_map, slice_set}
use Rattle.wq_text.specs.declared.span.Span.{Span}
use Rattle.wq_text.specs.Words.{WordView}
use Rattle.wq_decl.specs.Names.{is_name}
use Rattle.wq_items.specs.declared.target.Kind.{Kind}
use Rattle.wq_items.specs.declared.target.Target.{Target}
use Rattle.wq_items.specs.Table.{Table, IsTable, item_named, targets_of, flush_count}
use Rattle.wq_items.specs.Building.{AddsOne, and_item, items_named, targets_from, span_of}
use Rattle.wq_items.proofs.TableLemmas.{IsTable-with_item, IsTable-with_flushes, flush_count-with_item}
use Rattle.wq_items.proofs.TableLemmas.{flush_count-with_flushes, item_named-below, items_named-below}

pub IsTable-item_added : (t : Table) (name : WordView) (names : List (List ℕ)) (spans : List Span)
    (waits : List (List Target)) → IsTable t → item_named t.names name.bytes ≡ None → length t.names < 4096
    → IsTrue (is_name name.bytes) → names ≡ t.names ++ (name.bytes ∷ []) → spans ≡ t.spans ++ (span_of name ∷ [])
    → waits ≡ t.waits ++ ([] ∷ [])
    → IsTable (record { names = names; spans = spans; waits = waits }) × (flush_count t.waits ≡ flush_count waits)
IsTable-item_added t name names spans waits sound new room named n s w =
    let table = IsTable-with_item t name sound new room named in (
      subst (λ (ns : List (List ℕ)). IsTable (record { names = ns; spans = spans; waits = waits })) (sym n)
          (subst (λ (ss : List Span). IsTable (record {
            names = t.names ++ (name.bytes ∷ []);
            spans = ss;
            waits = waits;
          })) (sym s)
          (subst (λ (ws : List (List Target)). IsTable (record {
            names = t.names ++ (name.bytes ∷ []);
            spans = t.spans
                ++ (span_of name ∷ []);
            waits = ws;
          })) (sym w) table)),
      sym (flush_count-with_item t name) ∙ ap flush_count (sym w),
    )

-- the items that the words of a line name, if all are known, and the place after them
pub known_next : (o : Option (List ℕ)) (first next : ℕ)
    → option_map (λ (items : List ℕ). first + length items) o ≡ Some next → (items : List ℕ) × (o ≡ Some items)
    × (first + length items ≡ next)
known_next None first next e = absurd cc
known_next (Some items) first next e = (items, refl, cc)

pub IsTable-flushes_added : (t : Table) (kind : Kind) (i : ℕ) (words : List WordView) (next : ℕ)
    (waits : List (List Target)) → IsTable t → i < length t.names
    → option_map (λ (items : List ℕ). flush_count t.waits + length items) (items_named t.names words) ≡ Some next
    → next ≤ 16384
    → IfSome (items_named t.names words) (λ items. waits ≡ slice_set t.waits i
    (targets_of t.waits i ++ targets_from kind (flush_count t.waits) items))
    → IsTable (record { names = t.names; spans = t.spans; waits = waits }) × (next ≡ flush_count waits)
IsTable-flushes_added t kind i words next waits sound within known room grown =
    let k = known_next (items_named t.names words) (flush_count t.waits) next known in
    let items = k.0 in
    let w : waits ≡ slice_set t.waits i (targets_of t.waits i ++ targets_from kind (flush_count t.waits) items) =
    subst (λ (o : Option (List ℕ)). IfSome o (λ js. waits ≡ slice_set t.waits i
    (targets_of t.waits i ++ targets_from kind (flush_count t.waits) js))) k.1 grown in
    let table = IsTable-with_flushes t kind i items sound within (items_named-below t.names words items k.1)
    (omega (arith, k.2)) in (
      subst (λ (ws : List (List Target)). IsTable (record { names = t.names; spans = t.spans; waits = ws })) (sym w)
          table,
      sym k.2 ∙ sym (flush_count-with_flushes t kind i items (omega (arith, sound.one_list_each)))
          ∙ ap flush_count (sym w),
    )

pub IsTable-one_added : (t : Table) (kind : Kind) (name target : WordView) (place next : ℕ) (waits : List (List Target))
    → IsTable t → place ≡ flush_count t.waits → place < 16384 → next ≡ place + 1
    → AddsOne t.names t.waits kind name.bytes target.bytes place waits
    → IsTable (record { names = t.names; spans = t.spans; waits = waits }) × (next ≡ flush_count waits)
IsTable-one_added t kind name target place next waits sound at room is added =
    let named : items_named t.names (target ∷ []) ≡ Some (added.other ∷ []) =
    ap (λ (o : Option ℕ). and_item o (Some [])) added.second in
    let count : ℕ = flush_count t.waits in
    let known : option_map (λ (items : List ℕ). count + length items) (items_named t.names (target ∷ [])) ≡ Some next =
    ap (option_map (λ (items : List ℕ). count + length items)) named ∙ ap Some (omega (arith, at, is)) in
    let lists : waits ≡ slice_set t.waits added.item (targets_of t.waits added.item
    ++ targets_from kind count (added.other ∷ [])) =
    added.lists ∙ ap (λ p. slice_set t.waits added.item (targets_of t.waits added.item
    ++ targets_from kind p (added.other ∷ []))) at in
    IsTable-flushes_added t kind added.item (target ∷ []) next waits sound
    (item_named-below t.names name.bytes added.item added.first) known (omega (arith, room, is))
    (subst (λ (o : Option (List ℕ)). IfSome o (λ items. waits ≡ slice_set t.waits added.item
    (targets_of t.waits added.item ++ targets_from kind count items))) (sym named) lists)

pub span_is : (s : Span) (w : WordView) → s.start ≡ w.start → s.end ≡ w.start + length w.bytes → s ≡ span_of w
span_is s w a b = λ i. record { start = a i; end = b i }
