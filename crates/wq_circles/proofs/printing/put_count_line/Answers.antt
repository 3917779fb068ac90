use Rattle.std.specs.Prelude.{decimal}
use Rattle.std.proofs.lemmas.Result.{on_ok_weaker}
use Rattle.wq_circles.proofs.Printed.{line_text-written}
use Rattle.wq_circles.proofs.printing.put_count_line.Goals as goal

pub returns : goal.returns
returns g c =
    on_ok_weaker c.put_end.result
    (line_text-written c.args.out.now.items c.args.word.now (decimal c.args.count) c.put.new.out.items
    c.put_number.new.out.items c.put_end.new.out.items c.in_ok-put.ensures.added c.in_ok-put_number.ensures.added)
    c.put_end.ensures.added
