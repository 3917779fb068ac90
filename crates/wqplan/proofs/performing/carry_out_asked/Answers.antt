use Rattle.std.specs.declared.alloc.Global.{Global}
use Rattle.std.proofs.Common.{◌≡◌, refl, subst, true}
use Rattle.wq_meter.specs.Input.{IsInput}
use Rattle.wqplan.specs.CommandLine.{paths, tail_spelled}
use Rattle.wqplan.specs.Ended.{EndedBy, EndsExplain, Has}
use Rattle.wqplan.proofs.AskedLemmas.{explain_ended, explain_told}
use Rattle.wqplan.specs.contracts.commands.Verb.{the_type}
use Rattle.wqplan.specs.declared.commands.Verb.{Verb}
use Rattle.wqplan.specs.declared.commands.Verb.TheVariants.{Explain}
use Rattle.wqplan.proofs.performing.carry_out_asked.Goals as goal
use denote.Enum.Bare.{sameb}

-- what is found to be `explain` is that
explains : (verb : Verb) → true ≡ sameb the_type verb Explain → verb ≡ Explain
explains Explain is = refl
explains verb is = let never : ⊥ = cc in absurd never

pub returns-then-eq-clause-ended : goal.returns-then-eq-clause-ended
returns-then-eq-clause-ended g c =
    let H = Has (g.O.World.opens c.args.world.now) g.O.File.Read.remaining in
    let I = IsInput (g.I.Read.remaining c.args.input.now.device) in
    explain_ended Global H I (paths c.args.request.files) (tail_spelled c.args.request.tail) c.args.request.verb
    (explains c.args.request.verb c.if-eq.ensures) g.W.Write.contents c.args.writer.now c.explain.new.writer
    c.explain.result
    (subst (λ w. EndedBy g.W.Write.contents c.args.writer.now c.explain.new.writer (EndsExplain w) c.explain.result)
    c.word.ensures c.explain.ensures.ended)

pub returns-then-eq-clause-told : goal.returns-then-eq-clause-told
returns-then-eq-clause-told g c =
    let H = Has (g.O.World.opens c.args.world.now) g.O.File.Read.remaining in
    let I = IsInput (g.I.Read.remaining c.args.input.now.device) in
    explain_told Global H I (paths c.args.request.files) (tail_spelled c.args.request.tail) c.args.request.verb
    (explains c.args.request.verb c.if-eq.ensures) g.W.Write.contents c.args.writer.now c.explain.new.writer
    g.E.Write.contents c.args.teller.now c.explain.result
    (subst (λ w. EndedBy g.W.Write.contents c.args.writer.now c.explain.new.writer (EndsExplain w) c.explain.result)
    c.word.ensures c.explain.ensures.ended)
