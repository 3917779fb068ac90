use Rattle.std.proofs.Common.{◌<◌, ℕ, List, sym, subst₂}
use Rattle.std.specs.List.{All}
use Rattle.wq_cert.specs.Noted.{said_line}
use Rattle.wq_cert.proofs.NotedLemmas.{wq_items-below}
use Rattle.wq_cert.proofs.noted_workqueues.NotedWorkqueues.read_line.Goals as goal

pub with-requires-clause-items : goal.with-requires-clause-items
with-requires-clause-items g c =
    subst₂ (λ (items : List ℕ) (n : ℕ). All (λ i. i < n) items) (sym c.as_slice.ensures.value) (sym c.requires.grouped)
    (wq_items-below c.args.table.now.names c.args.self.count (said_line c.args.bare c.args.line.now) c.in_ok-items.items.items c.in_ok-items.ensures.items)
