-- Without names behind an assignment, and with some: the command ended on its files, and this was told of it, as of
-- what is asked for.
use Rattle.std.proofs.Common.{◌≡◌, true, false, List, [], Option, length, map, refl, subst, sym, ◌∙◌}
use Rattle.std.specs.Prelude.{◌==◌}
use Rattle.std.specs.declared.alloc.Global.{Global}
use Rattle.clap.specs.Words.{Text}
use Rattle.wq_meter.specs.Input.{HasFailed, IsInput}
use Rattle.wq_meter.specs.Shell.{kept}
use Rattle.wq_commands.specs.Commands.{one_or_two_texts, two_texts}
use Rattle.wq_commands.specs.declared.found.Found.{Found}
use Rattle.wq_circles.specs.Circling.{CirclesTexts}
use Rattle.wq_circles.specs.HeldText.{CirclesNamed, CirclesTextFor}
use Rattle.wq_circles.specs.declared.circling_for.CirclingFor.{CirclingFor}
use Rattle.wq_circles.proofs.Found.{circles-kept}
use Rattle.wq_circles.proofs.FoundFor.{circles_for-kept}
use Rattle.wq_voice.specs.Voice.{SaysCirclesOf}
use Rattle.wq_voice.specs.VoiceFor.{SaysCirclesOfFor}
use Rattle.wqplan.specs.Cause.{EndsReady, MayFail, TakesInput}
use Rattle.wqplan.specs.CommandLine.{listed, names, paths}
use Rattle.wqplan.specs.Ended.{EndsCircles, Has, has_second, names_behind}
use Rattle.wqplan.specs.Files.{HaveTexts}
use Rattle.wqplan.specs.Told.{IsSaidOf, SaysCirclesNamed, names_given, names_of_files}
use Rattle.wqplan.specs.declared.commands.Verb.TheVariants.{Circles}
use Rattle.wqplan.proofs.AskedLemmas.{ended_as, first_limit, told_as}
use Rattle.wqplan.proofs.NamedLemmas.{circles_none, none_behind, of_some, said_none, some_behind}
use Rattle.wqplan.proofs.performing.circles.Goals as goal

pub returns-then-is_empty-clause-ended : goal.returns-then-is_empty-clause-ended
returns-then-is_empty-clause-ended g c =
    let H = Has (g.O.World.opens c.args.world.now) g.O.File.Read.remaining in
    let I = IsInput (g.I.Read.remaining c.args.input.now.device) in
    let files = paths c.args.files.now in
    let all : List Text = map (λ n. n.now) c.args.named.now in
    let xs = c.names_behind-named.result.now in
    let assigned = c.has_second-assigned.result in
    let same : assigned ≡ has_second files = c.has_second-assigned.ensures in
    let on = c.carry_out_files in
    let none : names_behind assigned all ≡ [] =
    none_behind assigned all xs c.names_behind-named.ensures (sym c.is_empty.ensures ∙ c.if-is_empty.true) in
    ended_as H I Circles files (names all) (one_or_two_texts assigned) (CirclesTexts assigned)
    (λ t h. subst (λ b. HaveTexts H I (one_or_two_texts b) files t) same h)
    (λ t found end out h. subst (λ b. EndsCircles b all t end out) same
    (circles_none assigned all none t end out (circles-kept assigned t found end out h)))
    g.W.Write.contents c.args.writer.now on.new.writer Circles refl on.result on.ensures.ended

pub returns-then-is_empty-clause-told : goal.returns-then-is_empty-clause-told
returns-then-is_empty-clause-told g c =
    let H = Has (g.O.World.opens c.args.world.now) g.O.File.Read.remaining in
    let I = IsInput (g.I.Read.remaining c.args.input.now.device) in
    let files = paths c.args.files.now in
    let all : List Text = map (λ n. n.now) c.args.named.now in
    let xs = c.names_behind-named.result.now in
    let assigned = c.has_second-assigned.result in
    let same : assigned ≡ has_second files = c.has_second-assigned.ensures in
    let on = c.carry_out_files in
    let none : names_behind assigned all ≡ [] =
    none_behind assigned all xs c.names_behind-named.ensures (sym c.is_empty.ensures ∙ c.if-is_empty.true) in
    let n = names_of_files files in
    told_as H I Circles files (names all) (one_or_two_texts assigned) (CirclesTexts assigned)
    (λ t h. subst (λ b. HaveTexts H I (one_or_two_texts b) files t) same h)
    (λ t found end out h. subst (λ b. EndsCircles b all t end out) same
    (circles_none assigned all none t end out (circles-kept assigned t found end out h)))
    g.W.Write.contents c.args.writer.now on.new.writer Circles refl on.result Global
    (λ n s t f said. SaysCirclesOf n.declaration n.second n.run assigned s t f said)
    (λ t end out said h. subst (λ b. SaysCirclesNamed Global n b all (kept (one_or_two_texts b) t) end out said) same
    (said_none Global n assigned all none (kept (one_or_two_texts assigned) t) end out said h))
    (names_given c.args.names.now) c.requires.names g.E.Write.contents c.args.teller.now
    on.new.teller on.ensures.told

pub returns-then-is_empty-clause-caused : goal.returns-then-is_empty-clause-caused
returns-then-is_empty-clause-caused g c =
    let files = paths c.args.files.now in
    let on = c.carry_out_files in
    let Failed = HasFailed c.args.input.now on.new.input in
    subst
    (λ b. EndsReady (g.O.World.seeds c.args.world.now) (g.O.World.opens c.args.world.now) (listed files)
    (MayFail Failed (one_or_two_texts b) files) ⊥ on.result) c.has_second-assigned.ensures on.ensures.caused

pub returns-then-is_empty-clause-input : goal.returns-then-is_empty-clause-input
returns-then-is_empty-clause-input g c =
    let on = c.carry_out_files in
    subst (λ n. TakesInput g.I.Read.remaining c.args.input.now on.new.input n (paths c.args.files.now))
    (first_limit c.has_second-assigned.result) on.ensures.input

pub returns-clause-ended : goal.returns-clause-ended
returns-clause-ended g c =
    let H = Has (g.O.World.opens c.args.world.now) g.O.File.Read.remaining in
    let I = IsInput (g.I.Read.remaining c.args.input.now.device) in
    let files = paths c.args.files.now in
    let all : List Text = map (λ n. n.now) c.args.named.now in
    let xs = c.names_behind-named.result.now in
    let assigned = c.has_second-assigned.result in
    let same : assigned ≡ has_second files = c.has_second-assigned.ensures in
    let on = c.carry_out_files-2 in
    let some : (length xs == 0) ≡ false = sym c.is_empty.ensures ∙ c.if-is_empty.false in
    let is = some_behind assigned all xs c.names_behind-named.ensures some in
    let yes : true ≡ has_second files = sym is.0 ∙ same in
    let given : List Text = map (λ n. n.now) xs in
    ended_as H I Circles files (names all) two_texts
    (λ s t (f : Found (Option (CirclingFor Global))) e o. CirclesTextFor s given t.second f e o)
    (λ t h. subst (λ b. HaveTexts H I (one_or_two_texts b) files t) yes h)
    (λ t found end out h. subst (λ b. EndsCircles b all t end out) yes
    (subst (λ l. EndsCircles true l t end out) is.1
    (of_some xs some (λ l. CirclesNamed l t.first t.second end out) (λ l. EndsCircles true l t end out)
    (λ name more h. h) (circles_for-kept given t found end out h))))
    g.W.Write.contents c.args.writer.now on.new.writer Circles refl on.result on.ensures.ended

pub returns-clause-told : goal.returns-clause-told
returns-clause-told g c =
    let H = Has (g.O.World.opens c.args.world.now) g.O.File.Read.remaining in
    let I = IsInput (g.I.Read.remaining c.args.input.now.device) in
    let files = paths c.args.files.now in
    let all : List Text = map (λ n. n.now) c.args.named.now in
    let xs = c.names_behind-named.result.now in
    let assigned = c.has_second-assigned.result in
    let same : assigned ≡ has_second files = c.has_second-assigned.ensures in
    let on = c.carry_out_files-2 in
    let some : (length xs == 0) ≡ false = sym c.is_empty.ensures ∙ c.if-is_empty.false in
    let is = some_behind assigned all xs c.names_behind-named.ensures some in
    let yes : true ≡ has_second files = sym is.0 ∙ same in
    let given : List Text = map (λ n. n.now) xs in
    let n = names_of_files files in
    told_as H I Circles files (names all) two_texts
    (λ s t (f : Found (Option (CirclingFor Global))) e o. CirclesTextFor s given t.second f e o)
    (λ t h. subst (λ b. HaveTexts H I (one_or_two_texts b) files t) yes h)
    (λ t found end out h. subst (λ b. EndsCircles b all t end out) yes
    (subst (λ l. EndsCircles true l t end out) is.1
    (of_some xs some (λ l. CirclesNamed l t.first t.second end out) (λ l. EndsCircles true l t end out)
    (λ name more h. h) (circles_for-kept given t found end out h))))
    g.W.Write.contents c.args.writer.now on.new.writer Circles refl on.result Global
    (λ n s t f said. SaysCirclesOfFor n.declaration n.second n.run given s t f said)
    (λ t end out said h. subst (λ b. SaysCirclesNamed Global n b all (kept (one_or_two_texts b) t) end out said) yes
    (subst (λ l. SaysCirclesNamed Global n true l (kept two_texts t) end out said) is.1
    (of_some xs some
    (λ l. IsSaidOf n.declaration
    (λ s t (f : Found (Option (CirclingFor Global))) e o. CirclesTextFor s l t.second f e o)
    (λ s t f w. SaysCirclesOfFor n.declaration n.second n.run l s t f w) (kept two_texts t) end out said)
    (λ l. SaysCirclesNamed Global n true l (kept two_texts t) end out said) (λ name more h. h) h)))
    (names_given c.args.names.now) c.requires.names g.E.Write.contents c.args.teller.now
    on.new.teller on.ensures.told

pub returns-clause-caused : goal.returns-clause-caused
returns-clause-caused g c =
    let H = Has (g.O.World.opens c.args.world.now) g.O.File.Read.remaining in
    let I = IsInput (g.I.Read.remaining c.args.input.now.device) in
    let files = paths c.args.files.now in
    let all : List Text = map (λ n. n.now) c.args.named.now in
    let xs = c.names_behind-named.result.now in
    let assigned = c.has_second-assigned.result in
    let same : assigned ≡ has_second files = c.has_second-assigned.ensures in
    let on = c.carry_out_files-2 in
    let some : (length xs == 0) ≡ false = sym c.is_empty.ensures ∙ c.if-is_empty.false in
    let is = some_behind assigned all xs c.names_behind-named.ensures some in
    let yes : true ≡ has_second files = sym is.0 ∙ same in
    let given : List Text = map (λ n. n.now) xs in
    let Failed = HasFailed c.args.input.now on.new.input in
    subst
    (λ b. EndsReady (g.O.World.seeds c.args.world.now) (g.O.World.opens c.args.world.now) (listed files)
    (MayFail Failed (one_or_two_texts b) files) ⊥ on.result) yes on.ensures.caused
