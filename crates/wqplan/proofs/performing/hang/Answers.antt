-- Without names, and with some: the command ended on its files, and this was told of it, as of what is asked for.
use Rattle.std.proofs.Common.{[], Option, map, refl, sym, ◌∙◌}
use Rattle.std.specs.Prelude.{IfOk}
use Rattle.std.specs.declared.alloc.Global.{Global}
use Rattle.wq_meter.specs.Input.{IsInput}
use Rattle.wq_meter.specs.Meter.{WritesWhole}
use Rattle.wq_meter.specs.Shell.{Tells, kept}
use Rattle.wq_commands.specs.Commands.{two_texts}
use Rattle.wq_commands.specs.declared.found.Found.{Found}
use Rattle.wq_hang_command.specs.Hanging.{HangsText}
use Rattle.wq_hang_command.specs.Holding.{Holds, HoldsText}
use Rattle.wq_hang_command.specs.Saying.{SaysHangOf}
use Rattle.wq_hang_command.specs.Telling.{SaysHoldOf}
use Rattle.wq_hang_command.specs.declared.hanging.Hanging.{Hanging}
use Rattle.wq_hang_command.specs.declared.holding.Holding.{Holding}
use Rattle.wq_hang_command.proofs.HoldTaking.{hold-kept}
use Rattle.wq_hang_command.proofs.Taking.{hang-kept}
use Rattle.wqplan.specs.CommandLine.{named_asked, names, paths}
use Rattle.wqplan.specs.Ended.{EndedBy, EndsAsAsked, EndsHang, Has}
use Rattle.wqplan.specs.Told.{IsSaidOf, IsToldAsAsked, SaysHangNamed, names_given, names_of_files}
use Rattle.wqplan.specs.declared.commands.Verb.TheVariants.{Hang}
use Rattle.wqplan.proofs.AskedLemmas.{ended_as, told_as}
use Rattle.wqplan.proofs.NamedLemmas.{of_none, of_some}
use Rattle.wqplan.proofs.performing.hang.Goals as goal

pub returns-then-is_empty-clause-ended : goal.returns-then-is_empty-clause-ended
returns-then-is_empty-clause-ended g c =
    let H = Has (g.O.World.opens c.args.world.now) g.O.File.Read.remaining in
    let I = IsInput (g.I.Read.remaining c.args.input.now.device) in
    let files = paths c.args.files.now in
    let xs = c.args.named.now in
    let all = map (λ n. n.now) xs in
    let on = c.carry_out_files in
    of_none xs (sym c.is_empty.ensures ∙ c.if-is_empty.true)
    (λ l. EndedBy g.W.Write.contents c.args.writer.now on.new.writer (EndsAsAsked H I (named_asked Hang files l))
    on.result)
    (ended_as H I Hang files (names []) two_texts
    (λ s t (f : Found (Hanging Global)) e o. HangsText s t.second f e o)
    (λ t h. h)
    (λ t found end out h. hang-kept t found end out h)
    g.W.Write.contents c.args.writer.now on.new.writer Hang refl on.result on.ensures.ended)

pub returns-then-is_empty-clause-told : goal.returns-then-is_empty-clause-told
returns-then-is_empty-clause-told g c =
    let H = Has (g.O.World.opens c.args.world.now) g.O.File.Read.remaining in
    let I = IsInput (g.I.Read.remaining c.args.input.now.device) in
    let files = paths c.args.files.now in
    let xs = c.args.named.now in
    let all = map (λ n. n.now) xs in
    let on = c.carry_out_files in
    of_none xs (sym c.is_empty.ensures ∙ c.if-is_empty.true)
    (λ l. IfOk on.result (λ end. IsToldAsAsked Global H I (named_asked Hang files l) end
    (WritesWhole g.W.Write.contents c.args.writer.now on.new.writer)
    (Tells g.E.Write.contents c.args.teller.now on.new.teller)))
    (told_as H I Hang files (names []) two_texts
    (λ s t (f : Found (Hanging Global)) e o. HangsText s t.second f e o)
    (λ t h. h)
    (λ t found end out h. hang-kept t found end out h)
    g.W.Write.contents c.args.writer.now on.new.writer Hang refl on.result Global
    (λ n s t f said. SaysHangOf n.declaration n.second n.run s t f said)
    (λ t end out said h. h)
    (names_given c.args.names.now) c.requires.names g.E.Write.contents c.args.teller.now
    on.new.teller on.ensures.told)

pub returns-clause-ended : goal.returns-clause-ended
returns-clause-ended g c =
    let H = Has (g.O.World.opens c.args.world.now) g.O.File.Read.remaining in
    let I = IsInput (g.I.Read.remaining c.args.input.now.device) in
    let files = paths c.args.files.now in
    let xs = c.args.named.now in
    let all = map (λ n. n.now) xs in
    let on = c.carry_out_files-2 in
    ended_as H I Hang files (names all) two_texts
    (λ s t (f : Found (Option (Holding Global))) e o. HoldsText s all t.second f e o)
    (λ t h. h)
    (λ t found end out h. of_some xs (sym c.is_empty.ensures ∙ c.if-is_empty.false)
    (λ l. Holds l t.first t.second end out) (λ l. EndsHang l t end out) (λ name more h. h)
    (hold-kept all t found end out h))
    g.W.Write.contents c.args.writer.now on.new.writer Hang refl on.result on.ensures.ended

pub returns-clause-told : goal.returns-clause-told
returns-clause-told g c =
    let H = Has (g.O.World.opens c.args.world.now) g.O.File.Read.remaining in
    let I = IsInput (g.I.Read.remaining c.args.input.now.device) in
    let files = paths c.args.files.now in
    let xs = c.args.named.now in
    let all = map (λ n. n.now) xs in
    let on = c.carry_out_files-2 in
    let n = names_of_files files in
    told_as H I Hang files (names all) two_texts
    (λ s t (f : Found (Option (Holding Global))) e o. HoldsText s all t.second f e o)
    (λ t h. h)
    (λ t found end out h. of_some xs (sym c.is_empty.ensures ∙ c.if-is_empty.false)
    (λ l. Holds l t.first t.second end out) (λ l. EndsHang l t end out) (λ name more h. h)
    (hold-kept all t found end out h))
    g.W.Write.contents c.args.writer.now on.new.writer Hang refl on.result Global
    (λ n s t f said. SaysHoldOf n.declaration n.second n.run all s t f said)
    (λ t end out said h. of_some xs (sym c.is_empty.ensures ∙ c.if-is_empty.false)
    (λ l. IsSaidOf n.declaration (λ s t (f : Found (Option (Holding Global))) e o. HoldsText s l t.second f e o)
    (λ s t f w. SaysHoldOf n.declaration n.second n.run l s t f w) (kept two_texts t) end out said)
    (λ l. SaysHangNamed Global n l (kept two_texts t) end out said) (λ name more h. h) h)
    (names_given c.args.names.now) c.requires.names g.E.Write.contents c.args.teller.now
    on.new.teller on.ensures.told
