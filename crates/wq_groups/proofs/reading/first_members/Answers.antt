use Rattle.std.proofs.Common.{◌≡◌, ◌++◌, ◌∷◌, ◌≤◌, [], Bool, true, false, length, take, drop, ℕ, List, refl, sym, ap, subst, subst₂, ◌∙◌, arith, rules}
use Rattle.std.specs.Prelude.{replicate}
use Rattle.std.specs.List.{range_with_len}
use Rattle.std.proofs.lemmas.Bool.{both_ways}
use Rattle.std.proofs.lemmas.List.{replicate_more}
use Rattle.std.proofs.lemmas.List.FromFn.{length-range_with_len}
use Rattle.wq_text.specs.Words.{WordView}
use Rattle.wq_decl.specs.declared.directive.Directive.{Directive}
use Rattle.wq_decl.specs.Reading.{has_ordered}
use Rattle.wq_groups.specs.Reading.{IsNoted}
use Rattle.wq_groups.proofs.Among.{Differ}
use Rattle.wq_items.proofs.TableLemmas.{range_with_len-push}
use Rattle.wq_groups.proofs.Regrouped.{first_regrouped-none}
use Rattle.wq_groups.proofs.NoteLemmas.{NotedSoFar, NotedSoFar-none, NotedSoFar-known, NotedSoFar-more, NotedSoFar-twice, NotedSoFar-all, IsNoted-unordered, written_back}
use Rattle.wq_groups.proofs.reading.first_members.Goals as goal

pub push-requires : goal.push-requires
push-requires g c =
    omega (arith, ap length c.loop-i.invariant.0, length-range_with_len 0 c.loop-i.i, c.loop-i-test.true, c.len-i-end.ensures.len, c.len-i-end.ensures.table.few_items)

pub loop-i-preserved : goal.loop-i-preserved
loop-i-preserved g c = (
  c.push.ensures.items ∙ ap (λ (i : ℕ). c.loop-i.first.items ++ (i ∷ [])) c.new.ensures ∙ ap (λ (is : List ℕ). is ++ (c.loop-i.i ∷ [])) c.loop-i.invariant.0 ∙ sym (range_with_len-push c.loop-i.i),
  c.push-in-loop-i.ensures.items ∙ ap (λ (bs : List Bool). bs ++ (false ∷ [])) c.loop-i.invariant.1 ∙ replicate_more c.loop-i.i false,
)

-- what is noted before the lines is noted of them all where none is an `ordered` line
unordered : (view : List (ℕ × Directive)) (names : List (List ℕ)) (first : List ℕ) (marks : List Bool) (n end : ℕ) (said : Bool) → Differ names → (first ≡ range_with_len 0 n) × (marks ≡ replicate n false)
    → n ≤ end → end ≤ n → end ≡ length names → said ≡ has_ordered view → said ≡ false → IsNoted view names first marks
unordered view names first marks n end said differ so_far below above len says none =
    let all : n ≡ length names = omega arith in
    IsNoted-unordered view names first marks (sym says ∙ none) differ (so_far.0 ∙ ap (range_with_len 0) all) (so_far.1 ∙ ap (λ (n : ℕ). replicate n false) all)

pub returns-then-not-has_ordered-clause-once : goal.returns-then-not-has_ordered-clause-once
returns-then-not-has_ordered-clause-once g c =
    first_regrouped-none c.args.view.now
    (unordered c.args.view.now c.args.table.now.names c.loop-i.first.items c.loop-i.ordered.items c.loop-i.i c.len-i-end.result c.has_ordered.result c.len-i-end.ensures.table.distinct c.loop-i.invariant
    c.loop-i.auto.i-end c.loop-i-test.false c.len-i-end.ensures.len c.has_ordered.ensures c.if-not-has_ordered.true).apart

pub returns-then-not-has_ordered-clause-first : goal.returns-then-not-has_ordered-clause-first
returns-then-not-has_ordered-clause-first g c =
    (unordered c.args.view.now c.args.table.now.names c.loop-i.first.items c.loop-i.ordered.items c.loop-i.i c.len-i-end.result c.has_ordered.result c.len-i-end.ensures.table.distinct c.loop-i.invariant
    c.loop-i.auto.i-end c.loop-i-test.false c.len-i-end.ensures.len c.has_ordered.ensures c.if-not-has_ordered.true).firsts

pub loop-line-init : goal.loop-line-init
loop-line-init g c =
    let names = c.args.table.now.names in
    let all : c.loop-i.i ≡ length names = omega (arith, c.loop-i-test.false, c.loop-i.auto.i-end, c.len-i-end.ensures.len) in
    subst (λ (lines : List (ℕ × List WordView)). NotedSoFar c.args.view.now lines names c.loop-i.first.items c.loop-i.ordered.items) (sym (c.into_iter-line-iterator.ensures.into_iter_gives ∙ c.ordered_lines-line-items.ensures.value))
    (NotedSoFar-none c.args.view.now names c.loop-i.first.items c.loop-i.ordered.items c.len-i-end.ensures.table.distinct
    (c.loop-i.invariant.0 ∙ ap (range_with_len 0) all) (c.loop-i.invariant.1 ∙ ap (λ (n : ℕ). replicate n false) all))

pub put_together-requires-clause-known : goal.put_together-requires-clause-known
put_together-requires-clause-known g c =
    let so_far = subst (λ (lines : List (ℕ × List WordView)). NotedSoFar c.args.view.now lines c.args.table.now.names c.loop-line.first.items c.loop-line.ordered.items) c.in-Some.ensures.steps c.loop-line.invariant in
    NotedSoFar-known c.args.view.now c.args.table.now c.in-Some.line c.in-Some.names c.next.new.self c.loop-line.first.items c.loop-line.ordered.items c.requires so_far

pub returns-then-not-put_together-clause-fault : goal.returns-then-not-put_together-clause-fault
returns-then-not-put_together-clause-fault g c =
    let names = c.args.table.now.names in
    let so_far = subst (λ (lines : List (ℕ × List WordView)). NotedSoFar c.args.view.now lines names c.loop-line.first.items c.loop-line.ordered.items) c.in-Some.ensures.steps c.loop-line.invariant in
    NotedSoFar-twice c.args.view.now names c.in-Some.line c.in-Some.names c.next.new.self c.loop-line.first.items c.loop-line.ordered.items
    (λ before noted differ.
    let ok : c.put_together.result ≡ true = (c.put_together.ensures.apart before (subst₂ (λ (f : List ℕ) (m : List Bool). IsNoted before names f m) (sym c.as_mut_slice.ensures.value) (sym c.as_mut_slice-in-loop-line.ensures.value) noted)).1 differ in
    both_ways c.put_together.result c.if-not-put_together.true ok)
    so_far

pub loop-line-preserved : goal.loop-line-preserved
loop-line-preserved g c =
    let names = c.args.table.now.names in
    let so_far = subst (λ (lines : List (ℕ × List WordView)). NotedSoFar c.args.view.now lines names c.loop-line.first.items c.loop-line.ordered.items) c.in-Some.ensures.steps c.loop-line.invariant in
    let first : take (length c.loop-line.first.items) (c.put_together.new.first ++ drop (length c.put_together.new.first) c.loop-line.first.items) ≡ c.put_together.new.first = written_back c.put_together.new.first c.loop-line.first.items (length c.loop-line.first.items) (omega (arith, c.put_together.auto.first, ap length c.as_mut_slice.ensures.value)) refl in
    let ordered : take (length c.loop-line.ordered.items) (c.put_together.new.ordered ++ drop (length c.put_together.new.ordered) c.loop-line.ordered.items) ≡ c.put_together.new.ordered = written_back c.put_together.new.ordered c.loop-line.ordered.items (length c.loop-line.ordered.items) (omega (arith, c.put_together.auto.ordered, ap length c.as_mut_slice-in-loop-line.ensures.value)) refl in
    subst₂ (λ (f : List ℕ) (m : List Bool). NotedSoFar c.args.view.now c.next.new.self names f m) (sym first) (sym ordered)
    (NotedSoFar-more c.args.view.now names c.in-Some.line c.in-Some.names c.next.new.self c.loop-line.first.items c.loop-line.ordered.items c.put_together.new.first c.put_together.new.ordered
    (λ before noted. c.put_together.ensures.noted before c.in-Some.line (subst₂ (λ (f : List ℕ) (m : List Bool). IsNoted before names f m) (sym c.as_mut_slice.ensures.value) (sym c.as_mut_slice-in-loop-line.ensures.value) noted) c.if-not-put_together.false)
    so_far)

pub returns-clause-once : goal.returns-clause-once
returns-clause-once g c =
    let rest : c.loop-line.line-iterator ≡ [] = search rules in
    let noted = NotedSoFar-all c.args.view.now c.args.table.now.names c.loop-line.first.items c.loop-line.ordered.items
    (subst (λ (lines : List (ℕ × List WordView)). NotedSoFar c.args.view.now lines c.args.table.now.names c.loop-line.first.items c.loop-line.ordered.items) rest c.loop-line.invariant) in
    first_regrouped-none c.args.view.now noted.apart

pub returns-clause-first : goal.returns-clause-first
returns-clause-first g c =
    let rest : c.loop-line.line-iterator ≡ [] = search rules in
    (NotedSoFar-all c.args.view.now c.args.table.now.names c.loop-line.first.items c.loop-line.ordered.items
    (subst (λ (lines : List (ℕ × List WordView)). NotedSoFar c.args.view.now lines c.args.table.now.names c.loop-line.first.items c.loop-line.ordered.items) rest c.loop-line.invariant)).firsts
