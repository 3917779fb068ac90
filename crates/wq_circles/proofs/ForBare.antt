-- The flushes that are printed because they lead to a workqueue without a rescuer.
use Rattle.std.proofs.Common.{◌≡◌, ℕ, ◌<◌, Bool, true, false, not, List, [], ◌∷◌, length, map, get_or, refl, sym, ap, ◌∙◌, arith}
use Rattle.std.specs.Prelude.{filter, ◌&&◌}
use Rattle.std.specs.List.Sorted.{IsStrictlyIncreasing}
use Rattle.std.proofs.lemmas.Bool.{false≢true}
use Rattle.std.proofs.lemmas.List.Elements.{Contains-get_or}
use Rattle.std.proofs.lemmas.List.Kept.{AllPairs-filter}
use Rattle.std.proofs.lemmas.List.Sums.{length-filter, count_by-le-length}
use Rattle.wq_items.specs.Table.{ItemWaits}
use Rattle.wq_items.proofs.Lists.{Contains-filtered}
use Rattle.wq_items.proofs.Tables.{ItemWaits-below}
use Rattle.wq_groups.specs.Declaration.{Declaration, IsDeclaration}
use Rattle.wq_groups.specs.Assignment.{Assignment, IsAssignment, item_lane}
use Rattle.wq_graph.specs.declared.arc.WaitArc.{WaitArc}
use Rattle.wq_graph.specs.Graph.{arc_of, arcs_by_place, IsArc}
use Rattle.wq_graph.proofs.Arcs.{src-below, ByPlace-arc, ByPlace-arcs_by_place}
use Rattle.wq_graph.proofs.Graphs.{Contains-by_place}
use Rattle.wq_graph.proofs.ListLemmas.{IsStrictlyIncreasing-map}
use Rattle.wq_core.specs.Wiring.{HasRescuer}
use Rattle.wq_core.specs.Workqueues.{Workqueues, wiring_of, all_rescued}
use Rattle.wq_deadlock.specs.Judging.{is_on_bare, leads_to_bare, bare_waits}
use Rattle.wq_deadlock.proofs.BareLanes.{IsArc-bare_waits}
use Rattle.wq_circles.specs.CirclesPromise.{AreForBare}
use Rattle.wq_circles.specs.ComponentsText.{AreBetween}
use Rattle.wq_circles.specs.Flushes.{HasFlush, IsDeclaredFlush}

both_ends : (src dst : Bool) → (not src && dst) ≡ true → (src ≡ false) × (dst ≡ true)
both_ends true dst is = absurd (let never : false ≡ true = is in cc)
both_ends false dst is = (refl, is)

module _ (d : Declaration) (ws : Workqueues) (declaration : IsDeclaration d) (assignment : IsAssignment d.groups ws.assignment) where
  abbrev on_bare : ℕ → Bool
  on_bare i = is_on_bare ws d.group_of i

  to : (b : WaitArc) → HasFlush b (bare_waits d ws) → HasRescuer (wiring_of d ws) (item_lane ws.assignment d.group_of b.src) × (¬ HasRescuer (wiring_of d ws) (item_lane ws.assignment d.group_of b.dst))
  to b (k, c, lt, at, same) =
      let ends = both_ends (on_bare c.src) (on_bare c.dst) (IsArc-bare_waits d ws declaration assignment c (k, lt, at)).1 in
      let src : on_bare b.src ≡ false = sym (ap on_bare same.0) ∙ ends.0 in
      let dst : on_bare b.dst ≡ true = sym (ap on_bare same.1) ∙ ends.1 in
      (src, λ rescuer. false≢true (sym rescuer ∙ dst))

  from : (b : WaitArc) → IsDeclaredFlush d.waits b → HasRescuer (wiring_of d ws) (item_lane ws.assignment d.group_of b.src) × (¬ HasRescuer (wiring_of d ws) (item_lane ws.assignment d.group_of b.dst)) → HasFlush b (bare_waits d ws)
  from b flush (src, no_dst) =
      let t = flush.1 in
      let x : WaitArc = arc_of d.group_of b.src t in
      let arc : IsArc d.waits d.group_of x = record { declared = (flush.0, t, flush.2, flush.3, (refl, refl)); head = refl } in
      let dst : on_bare t.item ≡ true = ap on_bare flush.4.0 ∙ bare (on_bare b.dst) no_dst in
      let passes : leads_to_bare ws d.group_of x ≡ true = ap (λ (o : Bool). not o && on_bare t.item) src ∙ dst in
      let there = Contains-filtered (leads_to_bare ws d.group_of) (arcs_by_place d.waits d.group_of) x passes (Contains-by_place d.waits d.group_of declaration.places_are_numbered x arc) in
      (there.0, x, there.1, there.2, (refl, flush.4.0, flush.4.1))
    where
      bare : (o : Bool) → (¬ o ≡ false) → o ≡ true
      bare true rescued = refl
      bare false rescued = absurd (rescued refl)

  rise : IsStrictlyIncreasing (map (λ (b : WaitArc). b.place) (bare_waits d ws))
  rise =
      let all : List WaitArc = arcs_by_place d.waits d.group_of in
      let placed = ByPlace-arcs_by_place d.waits d.group_of declaration.places_are_numbered in
      IsStrictlyIncreasing-map (λ (b : WaitArc). b.place) (bare_waits d ws) (record { src = 0; dst = 0; head = 0; place = 0 }) (
      AllPairs-filter (λ (b c : WaitArc). b.place < c.place) (leads_to_bare ws d.group_of) all (λ i j e lt within.
      let at = λ (k : ℕ) (inside : k < length all). (ByPlace-arc d.waits d.group_of declaration.places_are_numbered all placed k e inside).1 in
      omega (arith, lt, at i (omega (arith, lt, within)), at j within)
      )
      )

  IsArc-between : (b : WaitArc) → IsArc d.waits d.group_of b → (b.src < length d.group_of) × (b.dst < length d.group_of)
  IsArc-between b arc =
      let t = arc.declared in
      let waits : ItemWaits d.waits b.src b.dst = (t.0, t.1, t.2, t.3, t.4.0) in
      (omega (arith, src-below d.waits d.group_of b arc, declaration.one_list_each), ItemWaits-below (length d.group_of) d.waits declaration.targets_are_items b.src b.dst waits)

  pub AreBetween-waits : AreBetween (length d.group_of) (bare_waits d ws)
  AreBetween-waits =
      let all = arcs_by_place d.waits d.group_of in (
        omega (arith, length-filter (leads_to_bare ws d.group_of) all, count_by-le-length (leads_to_bare ws d.group_of) all, (ByPlace-arcs_by_place d.waits d.group_of declaration.places_are_numbered).long, declaration.few_flushes),
        λ k e within. IsArc-between _ (IsArc-bare_waits d ws declaration assignment (get_or (bare_waits d ws) k e) (Contains-get_or (bare_waits d ws) k e within)).0,
      )

  pub AreForBare-waits : AreForBare d ws (bare_waits d ws)
  AreForBare-waits = record {
    declared = λ k e within. (IsArc-bare_waits d ws declaration assignment (get_or (bare_waits d ws) k e) (Contains-get_or (bare_waits d ws) k e within)).0.declared;
    lie = λ b flush. (to b, from b flush);
    places = rise;
  }

-- if each workqueue has a rescuer, there are no such waits
pub no_waits : (a : Assignment) (group_of : List ℕ) (arcs : List WaitArc) → filter (leads_to_bare (all_rescued a) group_of) arcs ≡ []
no_waits a group_of [] = refl
no_waits a group_of (x ∷ arcs) = no_waits a group_of arcs
