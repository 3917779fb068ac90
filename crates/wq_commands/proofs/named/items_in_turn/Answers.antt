use Rattle.std.proofs.Common.{◌≡◌, ℕ, List, ◌++◌, map, Some, sym, ap, ◌∙◌, append-nil, arith}
use Rattle.std.specs.Prelude.{option_map}
use Rattle.std.proofs.lemmas.List.{drop_all}
use Rattle.wq_cert.specs.Forms.{items_of}
use Rattle.wq_cert.proofs.NotedLemmas.{below_all}
use Rattle.wq_commands.proofs.named.items_in_turn.Goals as goal

pub returns-clause-within : goal.returns-clause-within
returns-clause-within g c =
    let names = c.args.table.now.names in
    let items = c.loop-name.items.items in
    let gone = drop_all c.loop-name.name-index c.args.names.now (omega (arith, c.loop-name-test.false)) in
    let found : items_of names (map (λ n. n.now) c.args.names.now) ≡ Some items =
    sym c.loop-name.invariant
    ∙ ap (λ l. option_map (λ (is : List ℕ). items ++ is) (items_of names (map (λ n. n.now) l))) gone
    ∙ ap (λ (l : List ℕ). Some l) (append-nil items) in
    below_all names (map (λ n. n.now) c.args.names.now) items found
