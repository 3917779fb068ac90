-- Around fixed workqueues, and without any: the command ended on its files, and this was told of it, as of what is
-- asked for.
use Rattle.std.proofs.Common.{◌≡◌, true, false, refl, subst, sym, ◌∙◌}
use Rattle.std.specs.declared.alloc.Global.{Global}
use Rattle.wq_meter.specs.Input.{HasFailed, IsInput}
use Rattle.wq_meter.specs.Shell.{kept}
use Rattle.wq_commands.specs.Commands.{ChecksText, three_texts, two_texts}
use Rattle.wq_commands.proofs.FoundLemmas.{check-kept}
use Rattle.wq_around_command.specs.Checking.{ChecksTexts}
use Rattle.wq_around_command.specs.Saying.{SaysCheckAround}
use Rattle.wq_around_command.proofs.Taking.{check_around-kept}
use Rattle.wq_voice.specs.Voice.{SaysCheck}
use Rattle.wqplan.specs.Cause.{EndsReady, MayFail}
use Rattle.wqplan.specs.CommandLine.{listed, nothing, paths}
use Rattle.wqplan.specs.Ended.{EndsCheck, Has, has_third, two_or_three_texts}
use Rattle.wqplan.specs.Files.{HaveTexts}
use Rattle.wqplan.specs.Told.{SaysAnyCheck, names_given, names_of_files}
use Rattle.wqplan.specs.declared.commands.Verb.TheVariants.{Check}
use Rattle.wqplan.proofs.AskedLemmas.{ended_as, told_as}
use Rattle.wqplan.proofs.performing.check.Goals as goal

pub returns-then-has_third-clause-ended : goal.returns-then-has_third-clause-ended
returns-then-has_third-clause-ended g c =
    let H = Has (g.O.World.opens c.args.world.now) g.O.File.Read.remaining in
    let I = IsInput (g.I.Read.remaining c.args.input.now.device) in
    let files = paths c.args.files.now in
    let on = c.carry_out_files in
    let yes : true ≡ has_third files = sym c.if-has_third.true ∙ c.has_third.ensures in
    ended_as H I Check files nothing three_texts (λ s t f e o. ChecksTexts s t.second t.third f e o)
    (λ t h. subst (λ b. HaveTexts H I (two_or_three_texts b) files t) yes h)
    (λ t found end out h. subst (λ b. EndsCheck b t end out) yes (check_around-kept t found end out h))
    g.W.Write.contents c.args.writer.now on.new.writer Check refl on.result on.ensures.ended

pub returns-then-has_third-clause-told : goal.returns-then-has_third-clause-told
returns-then-has_third-clause-told g c =
    let H = Has (g.O.World.opens c.args.world.now) g.O.File.Read.remaining in
    let I = IsInput (g.I.Read.remaining c.args.input.now.device) in
    let files = paths c.args.files.now in
    let on = c.carry_out_files in
    let yes : true ≡ has_third files = sym c.if-has_third.true ∙ c.has_third.ensures in
    let n = names_of_files files in
    told_as H I Check files nothing three_texts (λ s t f e o. ChecksTexts s t.second t.third f e o)
    (λ t h. subst (λ b. HaveTexts H I (two_or_three_texts b) files t) yes h)
    (λ t found end out h. subst (λ b. EndsCheck b t end out) yes (check_around-kept t found end out h))
    g.W.Write.contents c.args.writer.now on.new.writer Check refl on.result Global
    (λ n s t f said. SaysCheckAround n.declaration n.second n.run s t f said)
    (λ t end out said h. subst (λ b. SaysAnyCheck n b (kept (two_or_three_texts b) t) end out said) yes h)
    (names_given c.args.names.now) c.requires.names g.E.Write.contents c.args.teller.now
    on.new.teller on.ensures.told

pub returns-then-has_third-clause-caused : goal.returns-then-has_third-clause-caused
returns-then-has_third-clause-caused g c =
    let files = paths c.args.files.now in
    let on = c.carry_out_files in
    let yes : true ≡ has_third files = sym c.if-has_third.true ∙ c.has_third.ensures in
    let Failed = HasFailed c.args.input.now on.new.input in
    subst
    (λ b. EndsReady (g.O.World.seeds c.args.world.now) (g.O.World.opens c.args.world.now) (listed files)
    (MayFail Failed (two_or_three_texts b) files) ⊥ on.result) yes on.ensures.caused

pub returns-clause-ended : goal.returns-clause-ended
returns-clause-ended g c =
    let H = Has (g.O.World.opens c.args.world.now) g.O.File.Read.remaining in
    let I = IsInput (g.I.Read.remaining c.args.input.now.device) in
    let files = paths c.args.files.now in
    let on = c.carry_out_files-2 in
    let no : false ≡ has_third files = sym c.if-has_third.false ∙ c.has_third.ensures in
    ended_as H I Check files nothing two_texts (λ s t f e o. ChecksText s t.second f e o)
    (λ t h. subst (λ b. HaveTexts H I (two_or_three_texts b) files t) no h)
    (λ t found end out h. subst (λ b. EndsCheck b t end out) no (check-kept t end out found h))
    g.W.Write.contents c.args.writer.now on.new.writer Check refl on.result on.ensures.ended

pub returns-clause-told : goal.returns-clause-told
returns-clause-told g c =
    let H = Has (g.O.World.opens c.args.world.now) g.O.File.Read.remaining in
    let I = IsInput (g.I.Read.remaining c.args.input.now.device) in
    let files = paths c.args.files.now in
    let on = c.carry_out_files-2 in
    let no : false ≡ has_third files = sym c.if-has_third.false ∙ c.has_third.ensures in
    let n = names_of_files files in
    told_as H I Check files nothing two_texts (λ s t f e o. ChecksText s t.second f e o)
    (λ t h. subst (λ b. HaveTexts H I (two_or_three_texts b) files t) no h)
    (λ t found end out h. subst (λ b. EndsCheck b t end out) no (check-kept t end out found h))
    g.W.Write.contents c.args.writer.now on.new.writer Check refl on.result Global
    (λ n s t f said. SaysCheck n.declaration n.second n.run s t f said)
    (λ t end out said h. subst (λ b. SaysAnyCheck n b (kept (two_or_three_texts b) t) end out said) no h)
    (names_given c.args.names.now) c.requires.names g.E.Write.contents c.args.teller.now
    on.new.teller on.ensures.told

pub returns-clause-caused : goal.returns-clause-caused
returns-clause-caused g c =
    let files = paths c.args.files.now in
    let on = c.carry_out_files-2 in
    let no : false ≡ has_third files = sym c.if-has_third.false ∙ c.has_third.ensures in
    let Failed = HasFailed c.args.input.now on.new.input in
    subst
    (λ b. EndsReady (g.O.World.seeds c.args.world.now) (g.O.World.opens c.args.world.now) (listed files)
    (MayFail Failed (two_or_three_texts b) files) ⊥ on.result) no on.ensures.caused
