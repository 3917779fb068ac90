-- The circle of the walk is the only one of its kind, and has no more arcs than there are vertices.
use Rattle.std.proofs.Common.{◌≡◌, ◌≢◌, ℕ, ◌<◌, ◌≤◌, inl, inr, List, [], ◌∷◌, ◌++◌, length, get_or, drop, AllPairs, refl, sym, ◌∙◌, subst, ap, arith}
use Rattle.std.proofs.lemmas.Bool.{cases_order}
use Rattle.std.proofs.lemmas.List.{length-append, drop_at}
use Rattle.wq_items.specs.Chain.{HasCircle}
use Rattle.wq_items.proofs.Circles.{circle_from_BeginsChain}
use Rattle.wq_graph.specs.declared.arc.WaitArc.{WaitArc}
use Rattle.wq_graph.specs.Graph.{IsGraph, HasArc}
use Rattle.wq_levels.specs.Ranks.{AreRanks}
use Rattle.wq_levels.specs.Walks.{IsLeastRemaining, IsWalk, vertices_walked, IsWalkedCircle}
use Rattle.wq_levels.proofs.Graphs.{HasArc-below}
use Rattle.wq_levels.proofs.Ranks.{AreRanks-no_circle}
use Rattle.wq_levels.proofs.Walks.{length-vertices_walked, IsWalk-append, IsWalk-same, IsWalk-end, IsWalk-passes, IsWalk-leads, IsWalk-entry}
use Rattle.wq_levels.proofs.UnderWay.{IsUnderWay, IsUnderWay-few}

pub some_length : {X : Type 0} (xs : List X) → xs ≢ [] → 0 < length xs
some_length [] some = absurd (some refl)
some_length (x ∷ xs) some = omega arith

IsLeastRemaining-unique : (graph : List (List WaitArc)) (v w : ℕ) → IsLeastRemaining graph v → IsLeastRemaining graph w → v ≡ w
IsLeastRemaining-unique graph v w one other = elim (cases_order v w) [
  | inl same ↦ same
  | inr apart ↦ elim apart [
    | inl lower ↦ absurd (other.least v lower one.remains)
    | inr higher ↦ absurd (one.least w higher other.remains)
  ]
]

-- a walk that leads from this vertex to a circle
record LeadsIn (graph : List (List WaitArc)) (start : ℕ) (lead_in : List WaitArc) (entry : ℕ) (circle : List WaitArc) : Type 0 where
  leads_in : IsWalk graph start lead_in entry
  comes_back : IsWalk graph entry circle entry
  some : circle ≢ []
  once : AllPairs (λ (v w : ℕ). v ≢ w) (vertices_walked start (lead_in ++ circle))

LeadsIn-walked : (graph : List (List WaitArc)) (circle : List WaitArc) (start : ℕ) (walked : IsWalkedCircle graph circle) → walked.start ≡ start → LeadsIn graph start walked.lead_in walked.entry circle
LeadsIn-walked graph circle start walked same = subst (λ (v : ℕ). LeadsIn graph v walked.lead_in walked.entry circle) same (record { leads_in = walked.leads_in; comes_back = walked.comes_back; some = walked.some; once = walked.once })

module _ (graph : List (List WaitArc)) (start : ℕ) (lead_in : List WaitArc) (entry : ℕ) (circle : List WaitArc) (leads : LeadsIn graph start lead_in entry circle) where
  whole : IsWalk graph start (lead_in ++ circle) entry
  whole = IsWalk-append graph start entry entry lead_in circle leads.leads_in leads.comes_back

  lead_in_shorter : length lead_in < length (lead_in ++ circle)
  lead_in_shorter = omega (arith, length-append lead_in circle, some_length circle leads.some)

  turn_left : get_or (vertices_walked start (lead_in ++ circle)) (length lead_in) 0 ≡ entry
  turn_left = IsWalk-entry graph start entry lead_in circle leads.leads_in leads.some

module _ (graph : List (List WaitArc)) (sound : IsGraph graph) (start : ℕ) where
  not_shorter : (l : List WaitArc) (t : ℕ) (c : List WaitArc) (m : List WaitArc) (u : ℕ) (d : List WaitArc) → LeadsIn graph start l t c → LeadsIn graph start m u d → ¬ (length (l ++ c) < length (m ++ d))
  not_shorter l t c m u d one other shorter =
      let one_whole = whole graph start l t c one in
      let other_whole = whole graph start m u d other in
      let end = IsWalk-end graph sound start t u (l ++ c) (m ++ d) one_whole other_whole shorter in
      let before = IsWalk-passes graph sound start t u (l ++ c) (m ++ d) (length l) one_whole other_whole (lead_in_shorter graph start l t c one) shorter in
      other.once (length l) (length (l ++ c)) 0 (lead_in_shorter graph start l t c one) (omega (arith, length-vertices_walked start (m ++ d)))
      (sym before ∙ turn_left graph start l t c one ∙ end)

  same_arcs : (l : List WaitArc) (t : ℕ) (c : List WaitArc) (m : List WaitArc) (u : ℕ) (d : List WaitArc) → LeadsIn graph start l t c → LeadsIn graph start m u d → l ++ c ≡ m ++ d
  same_arcs l t c m u d one other = elim (cases_order (length (l ++ c)) (length (m ++ d))) [
    | inl same ↦ IsWalk-same graph sound start t u (l ++ c) (m ++ d) (whole graph start l t c one) (whole graph start m u d other) same
    | inr apart ↦ elim apart [
      | inl shorter ↦ absurd (not_shorter l t c m u d one other shorter)
      | inr longer ↦ absurd (not_shorter m u d l t c other one longer)
    ]
  ]

  same_lead_in : (l : List WaitArc) (t : ℕ) (c : List WaitArc) (m : List WaitArc) (u : ℕ) (d : List WaitArc) → LeadsIn graph start l t c → LeadsIn graph start m u d → length l ≡ length m
  same_lead_in l t c m u d one other =
      let all = same_arcs l t c m u d one other in
      let vs = vertices_walked start (m ++ d) in
      let turns : t ≡ u = IsWalk-leads graph start t u (l ++ c) (m ++ d) (whole graph start l t c one) (whole graph start m u d other) all in
      let one_turn : get_or vs (length l) 0 ≡ t = subst (λ (xs : List WaitArc). get_or (vertices_walked start xs) (length l) 0 ≡ t) all (turn_left graph start l t c one) in
      let both : get_or vs (length l) 0 ≡ get_or vs (length m) 0 = one_turn ∙ turns ∙ sym (turn_left graph start m u d other) in
      let size : length (l ++ c) ≡ length (m ++ d) = ap (λ (xs : List WaitArc). length xs) all in
      elim (cases_order (length l) (length m)) [
        | inl same ↦ same
        | inr apart ↦ elim apart [
          | inl shorter ↦ absurd (other.once (length l) (length m) 0 shorter (omega (arith, length-vertices_walked start (m ++ d), lead_in_shorter graph start m u d other)) both)
          | inr longer ↦ absurd (other.once (length m) (length l) 0 longer (omega (arith, length-vertices_walked start (m ++ d), lead_in_shorter graph start l t c one)) (sym both))
        ]
      ]

  same_circle : (l : List WaitArc) (t : ℕ) (c : List WaitArc) (m : List WaitArc) (u : ℕ) (d : List WaitArc) → LeadsIn graph start l t c → LeadsIn graph start m u d → c ≡ d
  same_circle l t c m u d one other =
      sym (drop_at l c (length l) refl) ∙ ap (λ (xs : List WaitArc). drop (length l) xs) (same_arcs l t c m u d one other) ∙ drop_at m d (length l) (sym (same_lead_in l t c m u d one other))

module _ (graph : List (List WaitArc)) (sound : IsGraph graph) where
  pub IsWalkedCircle-unique : (one other : List WaitArc) → IsWalkedCircle graph one → IsWalkedCircle graph other → one ≡ other
  IsWalkedCircle-unique one other first second =
      same_circle graph sound second.start first.lead_in first.entry one second.lead_in second.entry other
      (LeadsIn-walked graph one second.start first (IsLeastRemaining-unique graph first.start second.start first.least second.least))
      (LeadsIn-walked graph other second.start second refl)

  -- if the walk comes to a circle, there is one
  pub HasCircle-walked : (circle : List WaitArc) → IsWalkedCircle graph circle → HasCircle (HasArc graph) (length graph)
  HasCircle-walked circle walked = circle_from_BeginsChain (HasArc graph) (length graph) walked.start (HasArc-below graph sound) walked.least.remains.0 walked.least.remains.1

  -- so there are no ranks
  pub AreRanks-no_walk : (ranks : List ℕ) (circle : List WaitArc) → AreRanks graph ranks → ¬ IsWalkedCircle graph circle
  AreRanks-no_walk ranks circle are walked = AreRanks-no_circle graph ranks are (HasCircle-walked circle walked)

-- a circle has no more arcs than there are vertices
pub IsWalkedCircle-few : (graph : List (List WaitArc)) (circle : List WaitArc) → IsWalkedCircle graph circle → length circle ≤ length graph
IsWalkedCircle-few graph circle walked =
    let entry = walked.entry in
    let all : IsUnderWay graph walked.start (walked.lead_in ++ circle) entry = record {
      least = walked.least;
      walk = IsWalk-append graph walked.start entry entry walked.lead_in circle walked.leads_in walked.comes_back;
      once = walked.once;
    } in
    omega (arith, IsUnderWay-few graph walked.start (walked.lead_in ++ circle) entry all, length-append walked.lead_in circle)
