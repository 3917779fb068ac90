use Rattle.std.proofs.Common.{ap, subst, sym, ◌∙◌}
use Rattle.std.specs.declared.alloc.Global.{Global}
use Rattle.wq_meter.specs.Input.{HasFailed, IsInput}
use Rattle.wq_commands.specs.Commands.{one_text}
use Rattle.wq_commands.specs.Declaration.{max_declaration}
use Rattle.wqplan.specs.Cause.{MayFail, TakesInput}
use Rattle.wqplan.specs.CommandLine.{listed, paths}
use Rattle.wqplan.specs.Ended.{Has}
use Rattle.wqplan.specs.Files.{AreOpened}
use Rattle.wqplan.specs.Told.{names_given}
use Rattle.wqplan.proofs.CauseLemmas.{run_caused_by}
use Rattle.wqplan.proofs.FileLemmas.{AreNamed-first, all_opened, have_input, have_only}
use Rattle.wqplan.proofs.FileLemmas.{may_fail, none_named, none_taken}
use Rattle.wqplan.proofs.FileLemmas.{some_named, unnamed}
use Rattle.wqplan.proofs.RunLemmas.{run_ended, run_told}
use Rattle.wqplan.proofs.performing.run.Goals as goal

pub returns-in-Some-first_if-clause-ended : goal.returns-in-Some-first_if-clause-ended
returns-in-Some-first_if-clause-ended g c =
    let Opens = g.O.World.opens c.args.world.now in
    let files = paths c.args.files.now in
    let opened = c.in-Some.ensures.opened in
    let first = sym c.first_if.ensures ∙ c.in-Some-first_if.is in
    let named = some_named Opens files c.in-Some.readers opened
    (AreNamed-first c.in-Some.readers c.in-Some-first_if.first first) in
    let Input = IsInput (g.I.Read.remaining c.args.input.now.device) in
    let on = c.carry_out_run in
    run_ended (Has Opens g.O.File.Read.remaining) Input files c.args.command.now.helpers g.O.File.Read.remaining
    c.new-first.result c.carry_out_run.new.declaration
    (λ text given. have_only Opens g.O.File.Read.remaining Input text files c.in-Some.readers opened
    c.in-Some-first_if.first c.new-first.result.device first (ap (λ m. m.device) c.new-first.ensures) given)
    g.W.Write.contents c.args.writer.now on.new.writer g.E.Write.contents c.args.teller.now on.new.teller
    on.result c.end_of_run.result c.end_of_run.ensures.is (names_given c.names_of-voice.result)
    on.ensures.answered on.ensures.prefix on.ensures.untouched on.ensures.write_failed on.ensures.no_write_failed

pub returns-in-Some-first_if-clause-told : goal.returns-in-Some-first_if-clause-told
returns-in-Some-first_if-clause-told g c =
    let Opens = g.O.World.opens c.args.world.now in
    let files = paths c.args.files.now in
    let opened = c.in-Some.ensures.opened in
    let first = sym c.first_if.ensures ∙ c.in-Some-first_if.is in
    let named = some_named Opens files c.in-Some.readers opened
    (AreNamed-first c.in-Some.readers c.in-Some-first_if.first first) in
    let Input = IsInput (g.I.Read.remaining c.args.input.now.device) in
    let on = c.carry_out_run in
    run_told (Has Opens g.O.File.Read.remaining) Input files c.args.command.now.helpers g.O.File.Read.remaining
    c.new-first.result c.carry_out_run.new.declaration
    (λ text given. have_only Opens g.O.File.Read.remaining Input text files c.in-Some.readers opened
    c.in-Some-first_if.first c.new-first.result.device first (ap (λ m. m.device) c.new-first.ensures) given)
    g.W.Write.contents c.args.writer.now on.new.writer g.E.Write.contents c.args.teller.now on.new.teller
    on.result c.end_of_run.result c.end_of_run.ensures.is (names_given c.names_of-voice.result) Global
    c.names_of-voice.ensures
    on.ensures.answered

pub returns-in-Some-first_if-clause-caused : goal.returns-in-Some-first_if-clause-caused
returns-in-Some-first_if-clause-caused g c =
    let Opens = g.O.World.opens c.args.world.now in
    let files = paths c.args.files.now in
    let opened = c.in-Some.ensures.opened in
    let first = sym c.first_if.ensures ∙ c.in-Some-first_if.is in
    let named = some_named Opens files c.in-Some.readers opened
    (AreNamed-first c.in-Some.readers c.in-Some-first_if.first first) in
    let Failed = HasFailed c.args.input.now c.args.input.now in
    run_caused_by (g.O.World.seeds c.args.world.now) Opens (listed files)
    ((_, c.requires.drawn), all_opened Opens files c.in-Some.readers opened) (MayFail Failed one_text files)
    c.carry_out_run.result c.end_of_run.result c.end_of_run.ensures.is
    (λ failed. may_fail Failed one_text files named)

pub returns-in-Some-first_if-clause-input : goal.returns-in-Some-first_if-clause-input
returns-in-Some-first_if-clause-input g c =
    let Opens = g.O.World.opens c.args.world.now in
    let files = paths c.args.files.now in
    let opened = c.in-Some.ensures.opened in
    let first = sym c.first_if.ensures ∙ c.in-Some-first_if.is in
    let named = some_named Opens files c.in-Some.readers opened
    (AreNamed-first c.in-Some.readers c.in-Some-first_if.first first) in
    none_taken g.I.Read.remaining c.args.input.now max_declaration files

pub returns-in-None-clause-ended : goal.returns-in-None-clause-ended
returns-in-None-clause-ended g c =
    let Opens = g.O.World.opens c.args.world.now in
    let files = paths c.args.files.now in
    let opened = c.in-Some.ensures.opened in
    let none = unnamed c.in-Some.readers (sym c.first_if.ensures ∙ c.in-None.is) in
    let same = none_named Opens files (subst (AreOpened Opens files) none opened) in
    let Input = IsInput (g.I.Read.remaining c.args.input.now.device) in
    let on = c.carry_out_run-in-None in
    run_ended (Has Opens g.O.File.Read.remaining) Input files c.args.command.now.helpers g.I.Read.remaining
    c.args.input.now c.carry_out_run-in-None.new.declaration
    (λ text given. have_input Opens g.O.File.Read.remaining Input text files c.in-Some.readers opened none given)
    g.W.Write.contents c.args.writer.now on.new.writer g.E.Write.contents c.args.teller.now on.new.teller
    on.result c.end_of_run-in-None.result c.end_of_run-in-None.ensures.is (names_given c.names_of-voice.result)
    on.ensures.answered on.ensures.prefix on.ensures.untouched on.ensures.write_failed on.ensures.no_write_failed

pub returns-in-None-clause-told : goal.returns-in-None-clause-told
returns-in-None-clause-told g c =
    let Opens = g.O.World.opens c.args.world.now in
    let files = paths c.args.files.now in
    let opened = c.in-Some.ensures.opened in
    let none = unnamed c.in-Some.readers (sym c.first_if.ensures ∙ c.in-None.is) in
    let same = none_named Opens files (subst (AreOpened Opens files) none opened) in
    let Input = IsInput (g.I.Read.remaining c.args.input.now.device) in
    let on = c.carry_out_run-in-None in
    run_told (Has Opens g.O.File.Read.remaining) Input files c.args.command.now.helpers g.I.Read.remaining
    c.args.input.now c.carry_out_run-in-None.new.declaration
    (λ text given. have_input Opens g.O.File.Read.remaining Input text files c.in-Some.readers opened none given)
    g.W.Write.contents c.args.writer.now on.new.writer g.E.Write.contents c.args.teller.now on.new.teller
    on.result c.end_of_run-in-None.result c.end_of_run-in-None.ensures.is (names_given c.names_of-voice.result)
    Global c.names_of-voice.ensures
    on.ensures.answered

pub returns-in-None-clause-caused : goal.returns-in-None-clause-caused
returns-in-None-clause-caused g c =
    let Opens = g.O.World.opens c.args.world.now in
    let files = paths c.args.files.now in
    let opened = c.in-Some.ensures.opened in
    let none = unnamed c.in-Some.readers (sym c.first_if.ensures ∙ c.in-None.is) in
    let same = none_named Opens files (subst (AreOpened Opens files) none opened) in
    let Failed = HasFailed c.args.input.now c.carry_out_run-in-None.new.declaration in
    run_caused_by (g.O.World.seeds c.args.world.now) Opens (listed files)
    ((_, c.requires.drawn), all_opened Opens files c.in-Some.readers opened) (MayFail Failed one_text files)
    c.carry_out_run-in-None.result c.end_of_run-in-None.result c.end_of_run-in-None.ensures.is
    (λ failed. subst (MayFail Failed one_text) (sym same) (c.carry_out_run-in-None.ensures.read_failed failed))

pub returns-in-None-clause-input : goal.returns-in-None-clause-input
returns-in-None-clause-input g c =
    let Opens = g.O.World.opens c.args.world.now in
    let files = paths c.args.files.now in
    let opened = c.in-Some.ensures.opened in
    let none = unnamed c.in-Some.readers (sym c.first_if.ensures ∙ c.in-None.is) in
    let same = none_named Opens files (subst (AreOpened Opens files) none opened) in
    subst (TakesInput g.I.Read.remaining c.args.input.now c.carry_out_run-in-None.new.declaration max_declaration)
    (sym same) (c.carry_out_run-in-None.ensures.lost, c.carry_out_run-in-None.ensures.reads)
