-- In each arm: the texts are those of what was opened, and what was opened is what was named.
use Rattle.std.proofs.Common.{[], Some, ap, subst, sym}
use Rattle.std.proofs.lemmas.Result.{IfOk-weaker}
use Rattle.wq_meter.specs.Input.{HasFailed, IsInput}
use Rattle.wqplan.specs.Cause.{MayFail, TakesInput}
use Rattle.wqplan.specs.CommandLine.{listed, paths}
use Rattle.wqplan.specs.Files.{AreOpened}
use Rattle.wqplan.specs.declared.command_line.Files.TheVariants.{One, Three, Two, Unnamed}
use Rattle.wqplan.proofs.CauseLemmas.{caused_by}
use Rattle.wqplan.proofs.EndedLemmas.{IsAnswered-from, ended_by, of_end}
use Rattle.wqplan.proofs.FileLemmas.{all_opened, from_input, from_one, from_three, from_two, may_fail, none_named}
use Rattle.wqplan.proofs.FileLemmas.{none_taken, some_named}
use Rattle.wqplan.proofs.performing.carry_out_files.Goals as goal

pub returns-in-Unnamed-clause-ended : goal.returns-in-Unnamed-clause-ended
returns-in-Unnamed-clause-ended g c =
    let Opens = g.O.World.opens c.args.world.now in
    let files = paths c.args.files.now in
    let Input = IsInput (g.I.Read.remaining c.args.input.now.device) in
    let limits = g.C.Finds.limits c.args.command.now in
    let opened = subst (AreOpened Opens files) c.in-Unnamed.is c.in-Some.ensures.opened in
    let on = c.carry_out_on in
    let f = from_input Opens g.O.File.Read.remaining Input limits files opened (Some []) (Some []) in
    ended_by g.W.Write.contents c.args.writer.now on.new.writer limits _ (g.C.Finds.answers c.args.command.now) _ _
    on.result c.end_of.result c.end_of.ensures
    (IfOk-weaker on.result _ _ (λ end h. IsAnswered-from f h) on.ensures.answered)
    (λ failed. let h = on.ensures.prefix failed in (h.0, IsAnswered-from f h.1))
    on.ensures.untouched on.ensures.write_failed on.ensures.no_write_failed

pub returns-in-Unnamed-clause-told : goal.returns-in-Unnamed-clause-told
returns-in-Unnamed-clause-told g c =
    let Opens = g.O.World.opens c.args.world.now in
    let files = paths c.args.files.now in
    let Input = IsInput (g.I.Read.remaining c.args.input.now.device) in
    let limits = g.C.Finds.limits c.args.command.now in
    let opened = subst (AreOpened Opens files) c.in-Unnamed.is c.in-Some.ensures.opened in
    let on = c.carry_out_on in
    let f = from_input Opens g.O.File.Read.remaining Input limits files opened (Some []) (Some []) in
    of_end on.result c.end_of.result c.end_of.ensures _
    (IfOk-weaker on.result _ _ (λ end h. IsAnswered-from f h) on.ensures.answered)

pub returns-in-Unnamed-clause-caused : goal.returns-in-Unnamed-clause-caused
returns-in-Unnamed-clause-caused g c =
    let Opens = g.O.World.opens c.args.world.now in
    let files = paths c.args.files.now in
    let opened = subst (AreOpened Opens files) c.in-Unnamed.is c.in-Some.ensures.opened in
    let limits = g.C.Finds.limits c.args.command.now in
    let Failed = HasFailed c.args.input.now c.carry_out_on.new.first in
    caused_by (g.O.World.seeds c.args.world.now) Opens (listed files)
    ((_, c.requires.drawn), all_opened Opens files Unnamed opened) (MayFail Failed limits files)
    c.carry_out_on.result c.end_of.result c.end_of.ensures
    (λ failed. subst (MayFail Failed limits) (sym (none_named Opens files opened))
    (c.carry_out_on.ensures.read_failed failed))

pub returns-in-Unnamed-clause-input : goal.returns-in-Unnamed-clause-input
returns-in-Unnamed-clause-input g c =
    let Opens = g.O.World.opens c.args.world.now in
    let files = paths c.args.files.now in
    let opened = subst (AreOpened Opens files) c.in-Unnamed.is c.in-Some.ensures.opened in
    subst (TakesInput g.I.Read.remaining c.args.input.now c.carry_out_on.new.first
    (g.C.Finds.limits c.args.command.now).first)
    (sym (none_named Opens files opened)) (c.carry_out_on.ensures.lost, c.carry_out_on.ensures.reads)

pub returns-in-One-clause-ended : goal.returns-in-One-clause-ended
returns-in-One-clause-ended g c =
    let Opens = g.O.World.opens c.args.world.now in
    let files = paths c.args.files.now in
    let Input = IsInput (g.I.Read.remaining c.args.input.now.device) in
    let limits = g.C.Finds.limits c.args.command.now in
    let opened = subst (AreOpened Opens files) c.in-One.is c.in-Some.ensures.opened in
    let is = ap (λ m. m.device) c.new-first.ensures in
    let on = c.carry_out_on-in-One in
    let f = from_one Opens g.O.File.Read.remaining Input limits files c.in-One.first c.new-first.result.device
    opened is (Some []) (Some []) in
    ended_by g.W.Write.contents c.args.writer.now on.new.writer limits _ (g.C.Finds.answers c.args.command.now) _ _
    on.result c.end_of-in-One.result c.end_of-in-One.ensures
    (IfOk-weaker on.result _ _ (λ end h. IsAnswered-from f h) on.ensures.answered)
    (λ failed. let h = on.ensures.prefix failed in (h.0, IsAnswered-from f h.1))
    on.ensures.untouched on.ensures.write_failed on.ensures.no_write_failed

pub returns-in-One-clause-told : goal.returns-in-One-clause-told
returns-in-One-clause-told g c =
    let Opens = g.O.World.opens c.args.world.now in
    let files = paths c.args.files.now in
    let Input = IsInput (g.I.Read.remaining c.args.input.now.device) in
    let limits = g.C.Finds.limits c.args.command.now in
    let opened = subst (AreOpened Opens files) c.in-One.is c.in-Some.ensures.opened in
    let is = ap (λ m. m.device) c.new-first.ensures in
    let on = c.carry_out_on-in-One in
    let f = from_one Opens g.O.File.Read.remaining Input limits files c.in-One.first c.new-first.result.device
    opened is (Some []) (Some []) in
    of_end on.result c.end_of-in-One.result c.end_of-in-One.ensures _
    (IfOk-weaker on.result _ _ (λ end h. IsAnswered-from f h) on.ensures.answered)

pub returns-in-One-clause-caused : goal.returns-in-One-clause-caused
returns-in-One-clause-caused g c =
    let Opens = g.O.World.opens c.args.world.now in
    let files = paths c.args.files.now in
    let opened = subst (AreOpened Opens files) c.in-One.is c.in-Some.ensures.opened in
    let limits = g.C.Finds.limits c.args.command.now in
    let Failed = HasFailed c.args.input.now c.args.input.now in
    caused_by (g.O.World.seeds c.args.world.now) Opens (listed files)
    ((_, c.requires.drawn), all_opened Opens files (One c.in-One.first) opened) (MayFail Failed limits files)
    c.carry_out_on-in-One.result c.end_of-in-One.result c.end_of-in-One.ensures
    (λ failed. may_fail Failed limits files (some_named Opens files (One c.in-One.first) opened tt))

pub returns-in-One-clause-input : goal.returns-in-One-clause-input
returns-in-One-clause-input g c =
    none_taken g.I.Read.remaining c.args.input.now (g.C.Finds.limits c.args.command.now).first (paths c.args.files.now)

pub returns-in-Two-clause-ended : goal.returns-in-Two-clause-ended
returns-in-Two-clause-ended g c =
    let Opens = g.O.World.opens c.args.world.now in
    let files = paths c.args.files.now in
    let Input = IsInput (g.I.Read.remaining c.args.input.now.device) in
    let limits = g.C.Finds.limits c.args.command.now in
    let opened = subst (AreOpened Opens files) c.in-Two.is c.in-Some.ensures.opened in
    let is = ap (λ m. m.device) c.new-first-in-Two.ensures in
    let on = c.carry_out_on-in-Two in
    let f = from_two Opens g.O.File.Read.remaining Input limits files c.in-Two.first c.in-Two.second
    c.new-first-in-Two.result.device opened is (Some []) in
    ended_by g.W.Write.contents c.args.writer.now on.new.writer limits _ (g.C.Finds.answers c.args.command.now) _ _
    on.result c.end_of-in-Two.result c.end_of-in-Two.ensures
    (IfOk-weaker on.result _ _ (λ end h. IsAnswered-from f h) on.ensures.answered)
    (λ failed. let h = on.ensures.prefix failed in (h.0, IsAnswered-from f h.1))
    on.ensures.untouched on.ensures.write_failed on.ensures.no_write_failed

pub returns-in-Two-clause-told : goal.returns-in-Two-clause-told
returns-in-Two-clause-told g c =
    let Opens = g.O.World.opens c.args.world.now in
    let files = paths c.args.files.now in
    let Input = IsInput (g.I.Read.remaining c.args.input.now.device) in
    let limits = g.C.Finds.limits c.args.command.now in
    let opened = subst (AreOpened Opens files) c.in-Two.is c.in-Some.ensures.opened in
    let is = ap (λ m. m.device) c.new-first-in-Two.ensures in
    let on = c.carry_out_on-in-Two in
    let f = from_two Opens g.O.File.Read.remaining Input limits files c.in-Two.first c.in-Two.second
    c.new-first-in-Two.result.device opened is (Some []) in
    of_end on.result c.end_of-in-Two.result c.end_of-in-Two.ensures _
    (IfOk-weaker on.result _ _ (λ end h. IsAnswered-from f h) on.ensures.answered)

pub returns-in-Two-clause-caused : goal.returns-in-Two-clause-caused
returns-in-Two-clause-caused g c =
    let Opens = g.O.World.opens c.args.world.now in
    let files = paths c.args.files.now in
    let opened = subst (AreOpened Opens files) c.in-Two.is c.in-Some.ensures.opened in
    let limits = g.C.Finds.limits c.args.command.now in
    let Failed = HasFailed c.args.input.now c.args.input.now in
    caused_by (g.O.World.seeds c.args.world.now) Opens (listed files)
    ((_, c.requires.drawn), all_opened Opens files (Two c.in-Two.first c.in-Two.second) opened)
    (MayFail Failed limits files)
    c.carry_out_on-in-Two.result c.end_of-in-Two.result c.end_of-in-Two.ensures
    (λ failed. may_fail Failed limits files (some_named Opens files (Two c.in-Two.first c.in-Two.second) opened tt))

pub returns-in-Two-clause-input : goal.returns-in-Two-clause-input
returns-in-Two-clause-input g c =
    none_taken g.I.Read.remaining c.args.input.now (g.C.Finds.limits c.args.command.now).first (paths c.args.files.now)

pub returns-in-Three-clause-ended : goal.returns-in-Three-clause-ended
returns-in-Three-clause-ended g c =
    let Opens = g.O.World.opens c.args.world.now in
    let files = paths c.args.files.now in
    let Input = IsInput (g.I.Read.remaining c.args.input.now.device) in
    let limits = g.C.Finds.limits c.args.command.now in
    let opened = subst (AreOpened Opens files) c.in-Three.is c.in-Some.ensures.opened in
    let is = ap (λ m. m.device) c.new-first-in-Three.ensures in
    let on = c.carry_out_on-in-Three in
    let f = from_three Opens g.O.File.Read.remaining Input limits files c.in-Three.first c.in-Three.second
    c.in-Three.third c.new-first-in-Three.result.device opened is in
    ended_by g.W.Write.contents c.args.writer.now on.new.writer limits _ (g.C.Finds.answers c.args.command.now) _ _
    on.result c.end_of-in-Three.result c.end_of-in-Three.ensures
    (IfOk-weaker on.result _ _ (λ end h. IsAnswered-from f h) on.ensures.answered)
    (λ failed. let h = on.ensures.prefix failed in (h.0, IsAnswered-from f h.1))
    on.ensures.untouched on.ensures.write_failed on.ensures.no_write_failed

pub returns-in-Three-clause-told : goal.returns-in-Three-clause-told
returns-in-Three-clause-told g c =
    let Opens = g.O.World.opens c.args.world.now in
    let files = paths c.args.files.now in
    let Input = IsInput (g.I.Read.remaining c.args.input.now.device) in
    let limits = g.C.Finds.limits c.args.command.now in
    let opened = subst (AreOpened Opens files) c.in-Three.is c.in-Some.ensures.opened in
    let is = ap (λ m. m.device) c.new-first-in-Three.ensures in
    let on = c.carry_out_on-in-Three in
    let f = from_three Opens g.O.File.Read.remaining Input limits files c.in-Three.first c.in-Three.second
    c.in-Three.third c.new-first-in-Three.result.device opened is in
    of_end on.result c.end_of-in-Three.result c.end_of-in-Three.ensures _
    (IfOk-weaker on.result _ _ (λ end h. IsAnswered-from f h) on.ensures.answered)

pub returns-in-Three-clause-caused : goal.returns-in-Three-clause-caused
returns-in-Three-clause-caused g c =
    let Opens = g.O.World.opens c.args.world.now in
    let files = paths c.args.files.now in
    let opened = subst (AreOpened Opens files) c.in-Three.is c.in-Some.ensures.opened in
    let limits = g.C.Finds.limits c.args.command.now in
    let Failed = HasFailed c.args.input.now c.args.input.now in
    caused_by (g.O.World.seeds c.args.world.now) Opens (listed files) (
      (_, c.requires.drawn),
      all_opened Opens files (Three c.in-Three.first c.in-Three.second c.in-Three.third)
          opened,
    ) (MayFail Failed limits files)
    c.carry_out_on-in-Three.result c.end_of-in-Three.result c.end_of-in-Three.ensures
    (λ failed. may_fail Failed limits files (some_named Opens files
    (Three c.in-Three.first c.in-Three.second c.in-Three.third) opened tt))

pub returns-in-Three-clause-input : goal.returns-in-Three-clause-input
returns-in-Three-clause-input g c =
    none_taken g.I.Read.remaining c.args.input.now (g.C.Finds.limits c.args.command.now).first (paths c.args.files.now)
