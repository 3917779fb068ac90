-- Around fixed workqueues, and without any: the command ended on its files, and this was told of it, as of what is
-- asked for.
use Rattle.std.proofs.Common.{◌≡◌, true, false, refl, subst, sym, ◌∙◌}
use Rattle.std.specs.declared.alloc.Global.{Global}
use Rattle.wq_meter.specs.Input.{HasFailed, IsInput}
use Rattle.wq_meter.specs.Shell.{kept}
use Rattle.wq_commands.specs.Commands.{FindsPlan, one_or_two_texts, one_text, two_texts}
use Rattle.wq_commands.specs.declared.found.Found.{Found}
use Rattle.wq_commands.proofs.FoundLemmas.{plan-kept}
use Rattle.wq_around_command.specs.Planning.{PlansText}
use Rattle.wq_around_command.specs.Saying.{SaysPlanAround}
use Rattle.wq_around_command.specs.declared.planning.Planned.{Planned}
use Rattle.wq_around_command.proofs.Taking.{plan_around-kept}
use Rattle.wq_voice.specs.Voice.{SaysPlan}
use Rattle.wqplan.specs.Cause.{EndsReady, MayFail}
use Rattle.wqplan.specs.CommandLine.{listed, nothing, paths}
use Rattle.wqplan.specs.Ended.{EndsPlan, Has, has_second}
use Rattle.wqplan.specs.Files.{HaveTexts}
use Rattle.wqplan.specs.Told.{SaysAnyPlan, names_given, names_of_files}
use Rattle.wqplan.specs.declared.commands.Verb.TheVariants.{Plan}
use Rattle.wqplan.proofs.AskedLemmas.{ended_as, told_as}
use Rattle.wqplan.proofs.performing.plan.Goals as goal

pub returns-then-has_second-clause-ended : goal.returns-then-has_second-clause-ended
returns-then-has_second-clause-ended g c =
    let H = Has (g.O.World.opens c.args.world.now) g.O.File.Read.remaining in
    let I = IsInput (g.I.Read.remaining c.args.input.now.device) in
    let files = paths c.args.files.now in
    let on = c.carry_out_files in
    let yes : true ≡ has_second files = sym c.if-has_second.true ∙ c.has_second.ensures in
    ended_as H I Plan files nothing two_texts
    (λ s t (f : Found (Planned Global)) e o. PlansText s t.second f e o)
    (λ t h. subst (λ b. HaveTexts H I (one_or_two_texts b) files t) yes h)
    (λ t found end out h. subst (λ b. EndsPlan b t end out) yes (plan_around-kept t found end out h))
    g.W.Write.contents c.args.writer.now on.new.writer Plan refl on.result on.ensures.ended

pub returns-then-has_second-clause-told : goal.returns-then-has_second-clause-told
returns-then-has_second-clause-told g c =
    let H = Has (g.O.World.opens c.args.world.now) g.O.File.Read.remaining in
    let I = IsInput (g.I.Read.remaining c.args.input.now.device) in
    let files = paths c.args.files.now in
    let on = c.carry_out_files in
    let yes : true ≡ has_second files = sym c.if-has_second.true ∙ c.has_second.ensures in
    let n = names_of_files files in
    told_as H I Plan files nothing two_texts
    (λ s t (f : Found (Planned Global)) e o. PlansText s t.second f e o)
    (λ t h. subst (λ b. HaveTexts H I (one_or_two_texts b) files t) yes h)
    (λ t found end out h. subst (λ b. EndsPlan b t end out) yes (plan_around-kept t found end out h))
    g.W.Write.contents c.args.writer.now on.new.writer Plan refl on.result Global
    (λ n s t f said. SaysPlanAround n.declaration n.second n.run s t f said)
    (λ t end out said h. subst (λ b. SaysAnyPlan Global n b (kept (one_or_two_texts b) t) end out said) yes h)
    (names_given c.args.names.now) c.requires.names g.E.Write.contents c.args.teller.now
    on.new.teller on.ensures.told

pub returns-then-has_second-clause-caused : goal.returns-then-has_second-clause-caused
returns-then-has_second-clause-caused g c =
    let files = paths c.args.files.now in
    let on = c.carry_out_files in
    let yes : true ≡ has_second files = sym c.if-has_second.true ∙ c.has_second.ensures in
    let Failed = HasFailed c.args.input.now on.new.input in
    subst
    (λ b. EndsReady (g.O.World.seeds c.args.world.now) (g.O.World.opens c.args.world.now) (listed files)
    (MayFail Failed (one_or_two_texts b) files) ⊥ on.result) yes on.ensures.caused

pub returns-clause-ended : goal.returns-clause-ended
returns-clause-ended g c =
    let H = Has (g.O.World.opens c.args.world.now) g.O.File.Read.remaining in
    let I = IsInput (g.I.Read.remaining c.args.input.now.device) in
    let files = paths c.args.files.now in
    let on = c.carry_out_files-2 in
    let no : false ≡ has_second files = sym c.if-has_second.false ∙ c.has_second.ensures in
    ended_as H I Plan files nothing one_text (λ s _ f e o. FindsPlan s f e o)
    (λ t h. subst (λ b. HaveTexts H I (one_or_two_texts b) files t) no h)
    (λ t found end out h. subst (λ b. EndsPlan b t end out) no (plan-kept t end out found h))
    g.W.Write.contents c.args.writer.now on.new.writer Plan refl on.result on.ensures.ended

pub returns-clause-told : goal.returns-clause-told
returns-clause-told g c =
    let H = Has (g.O.World.opens c.args.world.now) g.O.File.Read.remaining in
    let I = IsInput (g.I.Read.remaining c.args.input.now.device) in
    let files = paths c.args.files.now in
    let on = c.carry_out_files-2 in
    let no : false ≡ has_second files = sym c.if-has_second.false ∙ c.has_second.ensures in
    let n = names_of_files files in
    told_as H I Plan files nothing one_text (λ s _ f e o. FindsPlan s f e o)
    (λ t h. subst (λ b. HaveTexts H I (one_or_two_texts b) files t) no h)
    (λ t found end out h. subst (λ b. EndsPlan b t end out) no (plan-kept t end out found h))
    g.W.Write.contents c.args.writer.now on.new.writer Plan refl on.result Global
    (λ n s _ f said. SaysPlan n.declaration s f said)
    (λ t end out said h. subst (λ b. SaysAnyPlan Global n b (kept (one_or_two_texts b) t) end out said) no h)
    (names_given c.args.names.now) c.requires.names g.E.Write.contents c.args.teller.now
    on.new.teller on.ensures.told

pub returns-clause-caused : goal.returns-clause-caused
returns-clause-caused g c =
    let files = paths c.args.files.now in
    let on = c.carry_out_files-2 in
    let no : false ≡ has_second files = sym c.if-has_second.false ∙ c.has_second.ensures in
    let Failed = HasFailed c.args.input.now on.new.input in
    subst
    (λ b. EndsReady (g.O.World.seeds c.args.world.now) (g.O.World.opens c.args.world.now) (listed files)
    (MayFail Failed (one_or_two_texts b) files) ⊥ on.result) no on.ensures.caused
