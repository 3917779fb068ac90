use Rattle.std.proofs.Common.{List, subst}
use Rattle.wq_text.specs.Lines.{LineView}
use Rattle.wq_items.specs.AtOnce.{IsTaken, IsRefused}
use Rattle.wq_items.proofs.AtOnceLemmas.{IsTaken-flush, IsTaken-item, IsRefused-flush, IsRefused-item, IfNone-always}
use Rattle.wq_items.proofs.at_once.Parts.take_plain.Goals as goal

pub returns-in-Some-clause-taken : goal.returns-in-Some-clause-taken
returns-in-Some-clause-taken g c = λ _.
    IsTaken-flush c.in-Some.name c.in-Some.target c.args.lines.now c.next_pair.new.self c.in-Some.ensures.pair
    c.args.self.now c.take_one.new.self c.in_ok-take_one.ensures.names c.in_ok-take_one.ensures.table

pub returns-in_err-take_one-clause-memory : goal.returns-in_err-take_one-clause-memory
returns-in_err-take_one-clause-memory g c =
    IfNone-always c.from_residual.result _
    (IsRefused-flush c.in-Some.name c.in-Some.target c.args.lines.now c.next_pair.new.self c.in-Some.ensures.pair)

pub returns-in-Some-next_single-clause-taken : goal.returns-in-Some-next_single-clause-taken
returns-in-Some-next_single-clause-taken g c = λ _.
    subst (λ (ls : List LineView). IsTaken c.args.self.now ls c.take_item.new.self c.next_single.new.self)
    c.in_default.ensures.none
    (IsTaken-item c.in-Some-next_single.name c.next_pair.new.self c.next_single.new.self
    c.in-Some-next_single.ensures.single
    c.args.self.now c.take_item.new.self c.in_ok-take_item.ensures.whole c.in_ok-take_item.ensures.table)

pub returns-in_err-take_item-clause-memory : goal.returns-in_err-take_item-clause-memory
returns-in_err-take_item-clause-memory g c =
    IfNone-always c.from_residual-in_err-take_item.result _
    (subst (λ (ls : List LineView). IsRefused ls) c.in_default.ensures.none
    (IsRefused-item c.in-Some-next_single.name c.next_pair.new.self c.next_single.new.self
    c.in-Some-next_single.ensures.single))
