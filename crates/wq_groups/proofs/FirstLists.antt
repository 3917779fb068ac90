-- The list of first-declared members: what its numbers make.
use Rattle.std.proofs.Common.{◌≡◌, ℕ, ◌<◌, ◌≤◌, List, [], length, map, Ok, None, sym, ap, subst, ◌∙◌, arith}
use Rattle.std.specs.Prelude.{slice_index}
use Rattle.std.proofs.lemmas.List.{length-map, get_or-map}
use Rattle.wq_decl.specs.declared.directive.Directive.{Directive}
use Rattle.wq_items.specs.Table.{Table}
use Rattle.wq_items.specs.Building.{table_of}
use Rattle.wq_groups.specs.Grouping.{first_regrouped, first_member, partition_of}
use Rattle.wq_groups.specs.Numbering.{AreHeads, headed}
use Rattle.wq_groups.proofs.Heads.{headed-agree}
use Rattle.wq_groups.proofs.Regrouped.{Differ-all_ordered}
use Rattle.wq_groups.proofs.Together.{first_of, AreHeads-first_of, partition_of-headed}
use Rattle.wq_groups.proofs.Partitions.{few-table_of}

module _ (ds : List (ℕ × Directive)) (names : List (List ℕ)) (first : List ℕ) (are : first ≡ map (first_member ds names) names) where
  long : length first ≡ length names
  long = ap length are ∙ length-map names (first_member ds names)

  at : (i : ℕ) → i < length names → slice_index first i ≡ first_of ds names i
  at i within = ap (λ (l : List ℕ). slice_index l i) are ∙ get_or-map (first_member ds names) names i [] 0 within

  module _ (once : first_regrouped [] ds ≡ None) where
    heads : AreHeads (length names) (first_of ds names)
    heads = AreHeads-first_of ds names (Differ-all_ordered ds once)

    heads_at : AreHeads (length names) (slice_index first)
    heads_at = record {
      no_later = λ i within. omega (arith, at i within, heads.no_later i within);
      own = λ i within.
          let below : first_of ds names i < length names = omega (arith, within, heads.no_later i within) in
          ap (slice_index first) (at i within) ∙ at (first_of ds names i) below ∙ heads.own i within ∙ sym (at i within);
    }

    pub AreHeads-firsts : AreHeads (length first) (slice_index first)
    AreHeads-firsts = subst (λ n. AreHeads n (slice_index first)) (sym long) heads_at

    pub headed-firsts : headed (length first) (slice_index first) ≡ partition_of ds names
    headed-firsts = ap (λ n. headed n (slice_index first)) long ∙ headed-agree (slice_index first) (first_of ds names) (length names) heads_at at ∙ sym (partition_of-headed ds names)

pub few-firsts : (ds : List (ℕ × Directive)) (t : Table) (first : List ℕ) → table_of ds ≡ Ok t → first ≡ map (first_member ds t.names) t.names → length first ≤ 4096
few-firsts ds t first made are = omega (arith, ap length are, length-map t.names (first_member ds t.names), few-table_of ds t made)
