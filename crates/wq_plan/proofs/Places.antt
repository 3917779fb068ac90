-- Arcs in order of place.
use Rattle.std.proofs.Common.{◌≡◌, ℕ, ◌<◌, ◌≤◌, inl, inr, List, length, get_or, sym, ap, ◌∙◌, arith}
use Rattle.std.proofs.lemmas.Bool.{cases_eq}
use Rattle.std.proofs.lemmas.List.{get_or_default}
use Rattle.wq_graph.specs.declared.arc.WaitArc.{WaitArc}
use Rattle.wq_levels.proofs.Graphs.{ArcsRise}
use Rattle.wq_levels.proofs.WaysOn.{later_place}

-- one that comes no later has no greater place
pub earlier_place : (arcs : List WaitArc) (x : WaitArc) (i j : ℕ) (e : WaitArc) → ArcsRise arcs → i < length arcs → get_or arcs i x ≡ x → i ≤ j → j < length arcs → x.place ≤ (get_or arcs j e).place
earlier_place arcs x i j e rise there is le fits =
    let own : (get_or arcs i x).place ≡ x.place = ap (λ (a : WaitArc). a.place) is in
    elim (cases_eq i j) [
      | inl same ↦
          let at : (get_or arcs j e).place ≡ x.place = ap (λ (a : WaitArc). a.place) (ap (λ k. get_or arcs k e) (sym same) ∙ get_or_default arcs i e x there) ∙ own in
          omega arith
      | inr apart ↦ omega (arith, own, later_place arcs i j x e rise (omega arith) fits)
    ]
