use Rattle.std.proofs.Common.{length}
use Rattle.wq_commands.proofs.NamedLemmas.{each_once-below}
use Rattle.wq_commands.proofs.named.named_items.Goals as goal

pub returns-in_ok-each_once-in-Some-clause-within : goal.returns-in_ok-each_once-in-Some-clause-within
returns-in_ok-each_once-in-Some-clause-within g c =
    each_once-below c.as_slice.result.now c.in_ok-each_once-in-Some.field-0.items c.len.result
    (length c.args.table.now.names) c.in_ok-each_once-in-Some.ensures c.len.ensures.len
