use Rattle.std.proofs.Common.{◌≡◌, ℕ, ◌<◌, Bool, List, Option, length, sym, ap, subst, ◌∙◌, arith}
use Rattle.std.specs.Prelude.{IfSome}
use Rattle.std.specs.List.{All}
use Rattle.std.proofs.lemmas.List.FromFn.{length-map-range_with_len}
use Rattle.wq_groups.specs.Assignment.{Assignment}
use Rattle.wq_changes.specs.Without.{bare_without}
use Rattle.wq_changes.proofs.Lanes.{lanes-within}
use Rattle.wq_changes.proofs.without.without_change.Goals as goal

pub unwrap-assignment-requires : goal.unwrap-assignment-requires
unwrap-assignment-requires g c =
    let old = c.args.old.now in
    let new = c.args.new.now in
    let count : c.lanes-count.result ≡ new.assignment.lanes = c.lanes-count.ensures.lanes ∙ ap (λ (a : Assignment). a.lanes) c.assignment-2.ensures in
    let old_within = subst (λ (a : Assignment). All (λ l. l < a.lanes) a.lane_of_group) c.assignment.ensures c.lanes-old.ensures.within in
    let new_within = subst (λ (a : Assignment). All (λ l. l < a.lanes) a.lane_of_group) c.assignment-2.ensures c.lanes-count.ensures.within in
    let within = lanes-within old new c.args.groups c.requires.old c.requires.new c.requires.lanes old_within new_within c.args.change.now in
    c.new.ensures.exactly.1 (
      c.lanes-count.ensures.few,
      subst (λ (n : ℕ). All (λ l. l < n) c.in_ok-lanes.lanes.items) (sym count) (subst (All (λ l. l < new.assignment.lanes)) (sym c.in_ok-lanes.ensures) within),
    )

pub new-requires-2 : goal.new-requires-2
new-requires-2 g c =
    let new = c.args.new.now in
    let count : c.lanes-count.result ≡ new.assignment.lanes = c.lanes-count.ensures.lanes ∙ ap (λ (a : Assignment). a.lanes) c.assignment-2.ensures in
    let long : length c.in_ok-bare.bare.items ≡ new.assignment.lanes =
    ap (λ (l : List Bool). length l) c.in_ok-bare.ensures ∙ length-map-range_with_len (bare_without new c.args.change.now) 0 new.assignment.lanes in
    let made = subst (λ (r : Option Assignment). IfSome r (λ a. (a.lanes ≡ c.lanes-count.result) × (a.lane_of_group ≡ c.in_ok-lanes.lanes.items))) c.unwrap-assignment.ensures c.new.ensures.some in
    omega (arith, long, count, made.0)
