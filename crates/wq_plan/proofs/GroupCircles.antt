-- Laws of the printed circle.
use Rattle.std.proofs.Common.{◌≡◌, ℕ, ◌-◌, ◌<◌, List, [], ◌∷◌, length, get_or, slice_index, refl, sym, ◌∙◌, arith}
use Rattle.std.specs.List.{All}
use Rattle.std.proofs.lemmas.Option.{slice_get-get_or}
use Rattle.wq_groups.specs.Declaration.{Declaration, IsDeclaration}
use Rattle.wq_graph.specs.declared.arc.WaitArc.{WaitArc}
use Rattle.wq_graph.specs.Graph.{IsArc, arcs_at, group_graph}
use Rattle.wq_graph.proofs.Graphs.{AreArcsFrom-group_graph}
use Rattle.wq_levels.specs.Walks.{IsWalkedCircle, LeadsRound}
use Rattle.wq_levels.proofs.Walks.{LeadsRound-walked}
use Rattle.wq_levels.proofs.Tails.{LeadsRound-joined, LeadsRound-closes, LeadsRound-once}
use Rattle.wq_plan.specs.CircleOfGroups.{tail_of, IsCircleOfGroups}
use Rattle.wq_plan.proofs.Paths.{leaving-declared}

module _ (d : Declaration) (is : IsDeclaration d) where
  -- what leaves a group has this group as its tail
  own_tails : (v : ℕ) → All (λ (a : WaitArc). tail_of d a ≡ v) (arcs_at (group_graph d) v)
  own_tails v k e fits = ((AreArcsFrom-group_graph d is v).declared k e fits).1

  -- each arc is that of a declared flush
  round-declared : (circle : List WaitArc) (round : LeadsRound (group_graph d) circle) → All (IsArc d.waits d.group_of) circle
  round-declared circle round k e fits = (leaving-declared d is (slice_index round.left k) (get_or circle k e) (round.leaves k e fits)).0

  IsCircleOfGroups-round : (circle : List WaitArc) → LeadsRound (group_graph d) circle → IsCircleOfGroups d circle
  IsCircleOfGroups-round [] round = absurd (round.some refl)
  IsCircleOfGroups-round (a ∷ arcs) round =
      let circle : List WaitArc = a ∷ arcs in
      let end = length circle - 1 in
      let within : end < length circle = omega arith in
      let last = slice_get-get_or circle end a within in
      let declared = round-declared circle round in
      record {
        declared = declared;
        joined = λ k e fits. sym (declared k e (omega arith)).head ∙ LeadsRound-joined (group_graph d) circle round (tail_of d) own_tails k e fits;
        first = a;
        begins = refl;
        ends = get_or circle end a;
        last = last;
        closes = sym (declared end a within).head ∙ LeadsRound-closes (group_graph d) circle round (tail_of d) own_tails a (get_or circle end a) refl last;
        once = LeadsRound-once (group_graph d) circle round (tail_of d) own_tails;
      }

  -- the circle of the walk leads round groups
  pub IsCircleOfGroups-walked : (circle : List WaitArc) → IsWalkedCircle (group_graph d) circle → IsCircleOfGroups d circle
  IsCircleOfGroups-walked circle walked = IsCircleOfGroups-round circle (LeadsRound-walked (group_graph d) circle walked)
