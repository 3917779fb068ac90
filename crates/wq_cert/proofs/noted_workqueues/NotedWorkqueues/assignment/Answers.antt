use Rattle.std.proofs.Common.{◌≡◌, true, false, map, sym, ap, subst, ◌∙◌}
use Rattle.std.specs.Prelude.{unwrap_or}
use Rattle.std.specs.List.{list_all}
use Rattle.std.specs.Option.{IfSome}
use Rattle.wq_groups.specs.Assignment.{Assignment}
use Rattle.wq_cert.proofs.WholeLemmas.{whole_assignment-none, whole_assignment-all, lanes-below}
use Rattle.wq_cert.proofs.noted_workqueues.NotedWorkqueues.assignment.Goals as goal

pub returns-then-not-are_all_marked-clause-fault : goal.returns-then-not-are_all_marked-clause-fault
returns-then-not-are_all_marked-clause-fault g c = λ workqueues noted.
    let self = c.args.self in
    let none : list_all (λ b. b) self.stood.items ≡ false = ap (list_all (λ b. b)) (sym c.as_slice.ensures.value) ∙ sym c.are_all_marked.ensures ∙ c.if-not-are_all_marked.true in
    whole_assignment-none c.args.groups.now workqueues self.count self.stood.items self.lane_of_group.items noted none

pub unwrap-requires : goal.unwrap-requires
unwrap-requires g c =
    let self = c.args.self in
    let all : list_all (λ b. b) self.stood.items ≡ true = ap (list_all (λ b. b)) (sym c.as_slice.ensures.value) ∙ sym c.are_all_marked.ensures ∙ c.if-not-are_all_marked.false in
    let made : c.in_ok-lanes.lanes.items ≡ map (λ lane. unwrap_or lane 0) self.lane_of_group.items = c.in_ok-lanes.ensures ∙ ap (map (λ lane. unwrap_or lane 0)) c.as_slice-2.ensures.value in
    c.new.ensures.exactly.1 (
      c.requires.1.few,
      lanes-below c.args.groups.now c.requires.0 self.count self.stood.items self.lane_of_group.items c.requires.1 c.in_ok-lanes.lanes.items c.len-groups.ensures.partition all made,
    )

pub returns-clause-assignment : goal.returns-clause-assignment
returns-clause-assignment g c = λ workqueues noted.
    let self = c.args.self in
    let all : list_all (λ b. b) self.stood.items ≡ true = ap (list_all (λ b. b)) (sym c.as_slice.ensures.value) ∙ sym c.are_all_marked.ensures ∙ c.if-not-are_all_marked.false in
    let made : c.in_ok-lanes.lanes.items ≡ map (λ lane. unwrap_or lane 0) self.lane_of_group.items = c.in_ok-lanes.ensures ∙ ap (map (λ lane. unwrap_or lane 0)) c.as_slice-2.ensures.value in
    let P : Assignment → Type 0 = λ a. (a.lanes ≡ self.count) × (a.lane_of_group ≡ c.in_ok-lanes.lanes.items) in
    let is = subst (λ o. IfSome o P) c.unwrap.ensures c.new.ensures.some in
    whole_assignment-all c.args.groups.now workqueues self.count self.stood.items self.lane_of_group.items noted c.in_ok-lanes.lanes.items c.unwrap.result all made is.0 is.1
