-- A declaration has one drawing for the waits of a shortest run that ends stuck, and so has an assignment; and one end
-- for all.
use Rattle.std.proofs.Common.{◌≡◌, inl, inr, ℕ, List, [], length, Result, Ok, Err, sym, ap, subst, ◌∙◌}
use Rattle.std.specs.Prelude.{MatchResult, codes}
use Rattle.wq_text.specs.Refusal.{Refusal}
use Rattle.wq_items.specs.Chain.{HasCircle}
use Rattle.wq_groups.specs.Declaration.{GroupWaits}
use Rattle.wq_groups.specs.Assignment.{Assignment}
use Rattle.wq_graph.specs.declared.arc.WaitArc.{WaitArc}
use Rattle.wq_core.specs.Wiring.{own_lanes}
use Rattle.wq_core.specs.Workqueues.{Workqueues, all_rescued}
use Rattle.wq_deadlock.specs.Judging.{bare_waits}
use Rattle.wq_plan.specs.Plan.{chain_of_plan}
use Rattle.wq_plan.proofs.Plans.{IsPlan-no_circle, IsPlan-unique}
use Rattle.wq_cert.specs.declared.fault.CertError.{CertError}
use Rattle.wq_cert.specs.Texts.{workqueues_of_text, cert_refusal}
use Rattle.wq_commands.specs.declared.end.End.{End}
use Rattle.wq_groups.specs.DeclaredGroups.{declared_waits, Declared}
use Rattle.wq_commands.specs.Answer.{PrintsRefusal}
use Rattle.wq_commands.specs.Declaration.{declaration}
use Rattle.wq_commands.proofs.Refusals.{PrintsRefusal-unique}
use Rattle.wq_circles.proofs.Safe.{AreComponents-unique}
use Rattle.wq_dot.specs.declared.look.FlushLook.{FlushLook}
use Rattle.wq_dot.specs.declared.look.FlushLook.TheVariants.{Bold}
use Rattle.wq_hang.specs.declared.hop.Hop.{Hop}
use Rattle.wq_voice.specs.Unsure.{unsure_count}
use Rattle.wq_dot.specs.Flushes.{bold_red, marked}
use Rattle.wq_dot.specs.Dotting.{circles_title, declared_looks, drawing_of, hanging_arcs, hanging_looks, plan_title}
use Rattle.wq_dot.specs.Dotting.{DrawsBy, DrawsAssigned, DrawsCircles, DrawsDeclared, DrawsGroups, DrawsOwn}
use Rattle.wq_dot.specs.Dotting.{DrawsPlan, OwnDrawsBy}
use Rattle.wq_dot.specs.Tooltips.{comments_of}
use Rattle.wq_names.specs.Names.{names_of}

module _ (s : Declared) (comments : List (List ℕ)) where
  DrawsPlan-unique : (out printed : List ℕ) → DrawsPlan s comments out → DrawsPlan s comments printed → out ≡ printed
  DrawsPlan-unique out printed one two =
      let same : one.assignment ≡ two.assignment = IsPlan-unique (declared_waits s) one.assignment two.assignment
      one.plan two.plan in
      one.drawn ∙ ap (λ (a : Assignment). drawing_of s (all_rescued a) []
      (λ (looks : List FlushLook). plan_title a.lanes (marked looks) (unsure_count s.table.waits))
      (declared_looks s Bold (chain_of_plan (declared_waits s) a.lane_of_group)) comments) same ∙ sym two.drawn

  DrawsCircles-unique : (hops : List Hop) (ws : Workqueues) (called : List (List ℕ)) (hanging out printed : List ℕ)
      → DrawsCircles s comments ws called hanging hops out → DrawsCircles s comments ws called hanging hops printed
      → out ≡ printed
  DrawsCircles-unique hops ws called hanging out printed one two =
      let same : one.components ≡ two.components = AreComponents-unique (declared_waits s) ws one.components
      two.components one.are two.are in
      let title : List FlushLook → List ℕ = λ looks. circles_title hanging (length (bare_waits (declared_waits s) ws))
      ws.bare (marked looks) (bold_red looks) (unsure_count s.table.waits) in
      one.drawn ∙ ap (λ (components : List (List WaitArc)). drawing_of s ws called title
      (hanging_looks s hops (hanging_arcs s ws components)) comments) same ∙ sym two.drawn

  -- what has a plan has no circle
  not_both : (out : List ℕ) → DrawsPlan s comments out → ¬ HasCircle (GroupWaits (declared_waits s)) s.partition.groups
  not_both out drawn = IsPlan-no_circle (declared_waits s) drawn.assignment drawn.plan

  pub DrawsGroups-unique : (hops : List Hop) (out printed : List ℕ) → DrawsGroups s comments hops out
      → DrawsGroups s comments hops printed → out ≡ printed
  DrawsGroups-unique hops out printed (inl one) (inl two) = DrawsPlan-unique out printed one two
  DrawsGroups-unique hops out printed (inl one) (inr two) = absurd (not_both out one two.0)
  DrawsGroups-unique hops out printed (inr one) (inl two) = absurd (not_both printed two one.0)
  DrawsGroups-unique hops out printed (inr one) (inr two) =
      DrawsCircles-unique hops (all_rescued (own_lanes s.partition.groups)) [] (codes "every assignment can hang") out
      printed one.1 two.1

-- ---- one end, and one text for the same waits

-- two answers have the same end, and, if they have the same waits, the same text
abbrev AreOne : List Hop → List Hop → End → End → List ℕ → List ℕ → Type 0
AreOne hops others end other out printed = (end ≡ other) × (hops ≡ others → out ≡ printed)

module _ (hops others : List Hop) (end other : End) (out printed : List ℕ) where
  pub DrawsDeclared-one : (s : Declared) (comments : List (List ℕ)) (text : List ℕ)
      → DrawsDeclared s comments text hops end out → DrawsDeclared s comments text others other printed
      → AreOne hops others end other out printed
  DrawsDeclared-one s comments text = by (workqueues_of_text s.table.names s.partition text)
    where
      by : (r : Result Workqueues CertError) → MatchResult r
          (λ ws. DrawsAssigned s comments ws (names_of text) hops end out)
          (λ fault. PrintsRefusal (cert_refusal fault) end out)
          → MatchResult r (λ ws. DrawsAssigned s comments ws (names_of text) others other printed)
          (λ fault. PrintsRefusal (cert_refusal fault) other printed) → AreOne hops others end other out printed
      by (Ok ws) one two = (
        one.0 ∙ sym two.0,
        λ same. DrawsCircles-unique s comments others ws (names_of text) (codes "can hang") out printed
            (subst (λ (h : List Hop). DrawsCircles s comments ws (names_of text) (codes "can hang") h out) same one.1)
            two.1,
      )
      by (Err fault) one two =
          let refused = PrintsRefusal-unique (cert_refusal fault) end other out printed one two in
          (refused.0, λ _. refused.1)

  pub DrawsBy-one : (declared text : List ℕ) → DrawsBy hops declared text end out → DrawsBy others declared text other
      printed → AreOne hops others end other out printed
  DrawsBy-one declared text = by (declaration declared)
    where
      by : (r : Result Declared Refusal) → MatchResult r
          (λ s. DrawsDeclared s (comments_of declared) text hops end out) (λ r. PrintsRefusal r end out)
          → MatchResult r (λ s. DrawsDeclared s (comments_of declared) text others other printed)
          (λ r. PrintsRefusal r other printed) → AreOne hops others end other out printed
      by (Ok s) one two = DrawsDeclared-one s (comments_of declared) text one two
      by (Err r) one two =
          let refused = PrintsRefusal-unique r end other out printed one two in
          (refused.0, λ _. refused.1)

  pub OwnDrawsBy-one : (declared : List ℕ) → OwnDrawsBy hops declared end out → OwnDrawsBy others declared other
      printed → AreOne hops others end other out printed
  OwnDrawsBy-one declared = by (declaration declared)
    where
      by : (r : Result Declared Refusal) → MatchResult r (λ s. DrawsOwn s (comments_of declared) hops end out)
          (λ r. PrintsRefusal r end out)
          → MatchResult r (λ s. DrawsOwn s (comments_of declared) others other printed)
          (λ r. PrintsRefusal r other printed) → AreOne hops others end other out printed
      by (Ok s) one two = (
        one.0 ∙ sym two.0,
        λ same. DrawsGroups-unique s (comments_of declared) others out printed
            (subst (λ (h : List Hop). DrawsGroups s (comments_of declared) h out) same one.1) two.1,
      )
      by (Err r) one two =
          let refused = PrintsRefusal-unique r end other out printed one two in
          (refused.0, λ _. refused.1)
