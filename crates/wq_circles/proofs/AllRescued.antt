-- Texts of workqueues that have no `norescuer` line: what `circles` answers to them.
use Rattle.std.proofs.Common.{◌≡◌, ℕ, ◌↔◌, inl, inr, false, List, [], refl, sym, ap, subst, ◌∙◌}
use Rattle.std.specs.Prelude.{MatchResult}
use Rattle.std.specs.List.{list_any}
use Rattle.std.proofs.lemmas.List.{append-nil}
use Rattle.wq_text.specs.Lines.{lines_of}
use Rattle.wq_items.specs.declared.target.Target.{Target}
use Rattle.wq_groups.specs.Declaration.{Declaration}
use Rattle.wq_groups.specs.Assignment.{Assignment}
use Rattle.wq_graph.specs.declared.arc.WaitArc.{WaitArc}
use Rattle.wq_graph.specs.Graph.{HasArc, lane_graph}
use Rattle.wq_graph.proofs.LeavingOut.{without-none}
use Rattle.wq_core.specs.Wiring.{HasRescuer}
use Rattle.wq_core.specs.Workqueues.{Workqueues, wiring_of, all_rescued}
use Rattle.wq_deadlock.specs.Judging.{bare_waits}
use Rattle.wq_cert.specs.Lines.{cert_lines}
use Rattle.wq_cert.specs.Reading.{is_bare_line}
use Rattle.wq_cert.specs.Texts.{assignment_of_text, cert_refusal}
use Rattle.wq_commands.specs.declared.end.End.{End}
use Rattle.wq_commands.specs.declared.end.End.TheVariants.{Good, Bad, Refused}
use Rattle.wq_groups.specs.DeclaredGroups.{declared_waits, Declared}
use Rattle.wq_commands.specs.Answer.{PrintsRefusal}
use Rattle.wq_commands.specs.Declaration.{declaration}
use Rattle.wq_commands.proofs.AllRescued.{waits-rescued, of_declared, of_text, all_have}
use Rattle.wq_circles.specs.AllRescued.{CirclesAssignment, CirclesAllRescued}
use Rattle.wq_circles.specs.Circling.{CirclesAssigned, CirclesDeclared, Circles}
use Rattle.wq_circles.specs.Components.{joined, kept_graph, loops, AreComponents}
use Rattle.wq_circles.specs.ComponentsText.{components_text, circles_text}
use Rattle.wq_circles.specs.Leading.{AreLowest}

module _ (d : Declaration) (ws : Workqueues) (all : (q : ℕ) → HasRescuer (wiring_of d ws) q) where
  abbrev a : Assignment
  a = ws.assignment

  -- every workqueue is kept
  same-kept : (x : Assignment) → kept_graph d x ws.bare ≡ kept_graph d x []
  same-kept x = without-none ws.bare (lane_graph d x) all ∙ sym (without-none [] (lane_graph d x) (λ v. refl))

  components-rescued : (components : List (List WaitArc)) → AreComponents d ws components
      → AreComponents d (all_rescued a) components
  components-rescued components are = record {
    lowest = are.lowest;
    are_lowest = subst (λ (graph : List (List WaitArc)). AreLowest (HasArc graph) a.lanes are.lowest) (same-kept a)
        are.are_lowest;
    are = are.are ∙ ap loops (same-kept (joined a are.lowest));
  }

  rescued-components : (components : List (List WaitArc)) → AreComponents d (all_rescued a) components
      → AreComponents d ws components
  rescued-components components are = record {
    lowest = are.lowest;
    are_lowest = subst (λ (graph : List (List WaitArc)). AreLowest (HasArc graph) a.lanes are.lowest)
        (sym (same-kept a)) are.are_lowest;
    are = are.are ∙ sym (ap loops (same-kept (joined a are.lowest)));
  }

-- ---- answers

text-rescued : (names : List (List ℕ)) (targets : List (List Target)) (components : List (List WaitArc))
    (waits : List WaitArc) → waits ≡ [] → circles_text names targets components waits
    ≡ components_text names targets components
text-rescued names targets components waits none =
    ap (circles_text names targets components) none ∙ append-nil (components_text names targets components)

module _ (s : Declared) (ws : Workqueues) (all : (q : ℕ) → HasRescuer (wiring_of (declared_waits s) ws) q) where
  abbrev d : Declaration
  d = declared_waits s

  circles-rescued : (end : End) (out : List ℕ) → CirclesAssigned s ws end out → CirclesAssignment s ws.assignment end
      out
  circles-rescued Good out (are, none, is) = (components-rescued d ws all [] are, is)
  circles-rescued Bad out printed = record {
    components = printed.components;
    some = elim printed.some [
      | inl some ↦ some
      | inr some ↦ absurd (some (waits-rescued d ws all))
    ];
    are = components-rescued d ws all printed.components printed.are;
    text = printed.text ∙ text-rescued s.table.names s.table.waits printed.components (bare_waits d ws)
        (waits-rescued d ws all);
  }
  circles-rescued Refused out never = absurd never

  rescued-circles : (end : End) (out : List ℕ) → CirclesAssignment s ws.assignment end out
      → CirclesAssigned s ws end out
  rescued-circles Good out (are, is) = (rescued-components d ws all [] are, waits-rescued d ws all, is)
  rescued-circles Bad out printed = record {
    components = printed.components;
    some = inl printed.some;
    are = rescued-components d ws all printed.components printed.are;
    text = printed.text ∙ sym (text-rescued s.table.names s.table.waits printed.components (bare_waits d ws)
        (waits-rescued d ws all));
  }
  rescued-circles Refused out never = absurd never

pub Circles-rescued : (text : List ℕ) → list_any is_bare_line (cert_lines (lines_of text)) ≡ false
    → (declared : List ℕ) (end : End) (out : List ℕ)
    → Circles declared text end out ↔ CirclesAllRescued declared text end out
Circles-rescued text none declared end out =
    of_declared (declaration declared) (λ s. CirclesDeclared s text end out)
    (λ s. MatchResult (assignment_of_text s.table.names s.partition text) (λ a. CirclesAssignment s a end out)
    (λ fault. PrintsRefusal (cert_refusal fault) end out))
    (λ r. PrintsRefusal r end out)
    (λ s is.
    of_text text none s (λ ws. CirclesAssigned s ws end out) (λ a. CirclesAssignment s a end out)
    (λ fault. PrintsRefusal (cert_refusal fault) end out) (λ ws read. (
      circles-rescued s ws (all_have text none s ws read) end out,
      rescued-circles s ws (all_have text none s ws read) end out,
    ))
    )
