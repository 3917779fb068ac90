use Rattle.std.proofs.Common.{List, length, drop, sym, subst, ◌∙◌, take_at}
use Rattle.wq_hang.specs.declared.hop.Hop.{Hop}
use Rattle.wq_hang.specs.Walk.{AreFirstAlike}
use Rattle.wq_hang.proofs.least.least_round_settled.Goals as goal

pub returns-in-Some-clause-alike : goal.returns-in-Some-clause-alike
returns-in-Some-clause-alike g c =
    let new : List Hop = c.settle.new.hops in
    let size = c.settle.ensures.len ∙ c.as_mut_slice.ensures.len in
    let whole = take_at new (drop (length new) c.in-Some.hops.items) c.in-Some.hops.len size in
    subst (AreFirstAlike c.args.waits.now) (sym whole) c.settle.ensures.alike
