use Rattle.std.proofs.Common.{◌≡◌, ℕ, List, take}
use Rattle.std.specs.Prelude.{bytes_eq, nat_le}
use Rattle.std.specs.Borrow.{Bor}
use Rattle.std.specs.Ordering.{nat_cmp}
use Rattle.std.specs.Cmp.Lexicographic.{slice_cmp}
use Rattle.std.specs.BTreeSet.{contains}
use Rattle.std.specs.List.{count_by}
use Rattle.wq_dot.proofs.shared.shared_names.Given as goal

-- of the names so far, one set has those that occur at least once, and the other set those that occur at least twice
abbrev pub invariant-loop-name : goal.invariant-loop-name
invariant-loop-name g l =
    ((q : Bor (List ℕ)) → contains (λ x y. slice_cmp nat_cmp x.now y.now) l.seen q ≡ nat_le 1 (count_by (λ v. bytes_eq q.now v.now) (take l.name-index l.called)))
    × ((q : Bor (List ℕ)) → contains (λ x y. slice_cmp nat_cmp x.now y.now) l.shared q ≡ nat_le 2 (count_by (λ v. bytes_eq q.now v.now) (take l.name-index l.called)))
