use Rattle.std.proofs.Common.{◌∙◌}
use Rattle.std.proofs.lemmas.List.{length-map}
use Rattle.wq_groups.specs.Assignment.{group_lane, item_lanes}
use Rattle.wq_cert.proofs.PrintedPlans.{length-plan_text-most, IsShort-plan}
use Rattle.wq_cert.proofs.laws.a_plan_text_is_within_the_limits.Goals as goal

pub returns-clause-text : goal.returns-clause-text
returns-clause-text c = λ t p a chain table long few short.
    length-plan_text-most t table a.lanes (item_lanes a p.group_of) chain (length-map p.group_of (group_lane a) ∙ long) few short

pub returns-clause-lines : goal.returns-clause-lines
returns-clause-lines c = λ t p a chain table long few arcs short.
    IsShort-plan t table a.lanes (item_lanes a p.group_of) chain (length-map p.group_of (group_lane a) ∙ long) few short arcs
