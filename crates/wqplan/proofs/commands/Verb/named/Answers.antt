use Rattle.std.proofs.Common.{refl, ap, sym, false, slice_index_or, ◌≡◌, ◌∙◌}
use Rattle.std.specs.Str.{bytes_eq}
use Rattle.wqplan.specs.declared.commands.Verb.TheVariants.{Plan}
use Rattle.wqplan.specs.Commands.{command_name, verbs}
use Rattle.wqplan.proofs.CommandLemmas.{find_next}
use Rattle.wqplan.proofs.commands.Verb.named.Goals as goal

pub loop-verb-preserved : goal.loop-verb-preserved
loop-verb-preserved c =
    let name = c.args.name.now in
    let verb = slice_index_or verbs c.loop-verb.verb-index Plan in
    let other : bytes_eq (command_name verb) name ≡ false =
    ap (λ t. bytes_eq t name) (sym c.name.ensures) ∙ sym c.eq.ensures ∙ c.if-eq.false in (
      refl,
      find_next (λ v. bytes_eq (command_name v) name) verbs c.loop-verb.verb-index Plan c.loop-verb-test.true other
          ∙ c.loop-verb.invariant.1,
    )
