use Rattle.std.proofs.Common.{◌<◌, ℕ, List, cond, eqb, length, refl, sym, ap, subst, ◌∙◌}
use Rattle.std.specs.Prelude.{slice_index}
use Rattle.std.specs.List.{All, list_any}
use Rattle.wq_decl.specs.declared.directive.Directive.TheVariants.{Ordered}
use Rattle.wq_items.proofs.TableLemmas.{items_named-below}
use Rattle.wq_groups.specs.Grouping.{all_ordered, first_member}
use Rattle.wq_groups.proofs.MarkLemmas.{firsts-set}
use Rattle.wq_groups.proofs.NoteLemmas.{IsNoted-more}
use Rattle.wq_groups.proofs.reading.put_together.Goals as goal

pub set_first-requires : goal.set_first-requires
set_first-requires g c = record {
  within =
      subst (λ (items : List ℕ). All (λ (i : ℕ). i < length c.args.first.now) items) (sym c.as_slice.ensures.value)
      (subst (λ (n : ℕ). All (λ (i : ℕ). i < n) c.mark.new.items.items) (sym c.requires.items) (items_named-below c.args.table.now.names c.args.names c.mark.new.items.items c.in-Some.ensures.items));
}

pub returns-clause-noted : goal.returns-clause-noted
returns-clause-noted g c =
    let names = c.args.table.now.names in
    λ ds n noted ok.
    IsNoted-more ds (n, Ordered c.args.names) names c.args.first.now c.set_first.new.first c.args.ordered.now c.mark.new.ordered c.in-Some.lowest noted
    ((c.in-Some.ensures.apart (all_ordered ds) noted.marks noted.apart).0 refl) c.in-Some.ensures.first
    (firsts-set names c.args.names c.mark.new.items.items c.args.first.now c.set_first.new.first c.in-Some.lowest (first_member ds names) c.requires.table.distinct c.in-Some.ensures.items noted.firsts c.set_first.ensures.long
    (λ i lt. c.set_first.ensures.first i lt ∙ ap (λ (items : List ℕ). cond (list_any (λ (item : ℕ). eqb i item) items) c.in-Some.lowest (slice_index c.args.first.now i)) c.as_slice.ensures.value))
    (c.in-Some.ensures.marked (all_ordered ds) noted.marks)
