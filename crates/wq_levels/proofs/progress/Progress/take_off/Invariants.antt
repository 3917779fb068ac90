use Rattle.std.proofs.Common.{◌≡◌, map, take}
use Rattle.std.specs.Prelude.{slice_index}
use Rattle.wq_levels.specs.Taking.{with_arcs_gone}
use Rattle.wq_levels.proofs.progress.Progress.take_off.Given as goal

-- the arcs at the places so far are gone
abbrev pub invariant-loop-place : goal.invariant-loop-place
invariant-loop-place g l = l.self ≡ with_arcs_gone l.rank l.initial.self (map (slice_index l.tails) (take l.place-index l.places))
