use Rattle.std.proofs.Common.{◌≡◌, ◌⊎◌, inl, inr, true}
use Rattle.std.specs.Prelude.{Some}
use Rattle.wq_rows.specs.declared.event.Event.{Event}
use Rattle.wq_counts.specs.declared.kind.Kind.{Kind}
use Rattle.wq_counts.specs.declared.kind.LaneKind.{LaneKind}
use Rattle.wq_counts.specs.Counting.{kind_in, lane_kind_in, is_counted}
use Rattle.wq_counts.proofs.Tallies.{counted-kind, kind-counted, lane_kind-counted}
use Rattle.wq_counts.proofs.laws.a_counted_row_is_of_one_item_kind_and_answer.Goals as goal

counted : (event : Event) → ((kind : Kind) × (kind_in event ≡ Some kind)) ⊎ ((kind : LaneKind) × (lane_kind_in event ≡ Some kind))
    → is_counted event ≡ true
counted event (inl (kind, is)) = kind-counted event kind is
counted event (inr (kind, is)) = lane_kind-counted event kind is

pub returns-clause-counted : goal.returns-clause-counted
returns-clause-counted c = λ row. (counted-kind row.event, counted row.event)
