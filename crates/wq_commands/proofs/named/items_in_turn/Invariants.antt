use Rattle.std.proofs.Common.{◌≡◌, ◌++◌, ℕ, List, map, drop}
use Rattle.std.specs.Prelude.{option_map}
use Rattle.wq_cert.specs.Forms.{items_of}
use Rattle.wq_commands.proofs.named.items_in_turn.Given as goal

-- the items so far, and those of the names that are left
abbrev pub invariant-loop-name : goal.invariant-loop-name
invariant-loop-name g l =
    option_map (λ (is : List ℕ). l.items.items ++ is) (items_of l.table.names
    (map (λ n. n.now) (drop l.name-index l.names)))
    ≡ items_of l.table.names (map (λ n. n.now) l.names)
