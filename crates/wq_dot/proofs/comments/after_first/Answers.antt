use Rattle.std.proofs.Common.{◌+◌, ◌<◌, ◌^◌, inl, length, ap, arith}
use Rattle.wq_dot.proofs.comments.after_first.Goals as goal

pub count-requires-clause-fits : goal.count-requires-clause-fits
count-requires-clause-fits c =
    let few : 0 + length c.again.result < 2 ^ 64 = omega (arith, c.again.ensures.few, ap (λ ws. length ws) c.again.ensures.same) in
    inl few
