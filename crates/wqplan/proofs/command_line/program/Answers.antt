use Rattle.std.proofs.Common.{refl, ap, ap₂, sym, slice_index_or, ◌∙◌}
use Rattle.std.proofs.lemmas.List.Sums.{fold_more}
use Rattle.clap.specs.Words.{App, with_subcommand}
use Rattle.wqplan.specs.declared.commands.Verb.TheVariants.{Plan}
use Rattle.wqplan.specs.Commands.{verbs}
use Rattle.wqplan.specs.CommandLine.{bare, with_command}
use Rattle.wqplan.proofs.CommandLemmas.{plain_command, third_is_not}
use Rattle.wqplan.proofs.command_line.program.Goals as goal

pub loop-verb-preserved : goal.loop-verb-preserved
loop-verb-preserved c =
    let verb = slice_index_or verbs c.loop-verb.verb-index Plan in
    let built = c.in_ok-command.ensures in (
      refl,
      c.in_ok-program.ensures.shape
          (third_is_not _ _ _ _ (ap (λ (a : App). a.top.is_plain) built ∙ plain_command verb))
          ∙ ap₂ with_subcommand c.loop-verb.invariant.1 (ap (λ (a : App). a.top) built)
          ∙ sym (fold_more with_command bare verbs c.loop-verb.verb-index Plan c.loop-verb-test.true),
    )
