use Rattle.std.proofs.Common.{◌≡◌, ℕ, List, map, ap, subst, ◌∙◌}
use Rattle.std.specs.Prelude.{IfOk, option_map}
use Rattle.wq_names.specs.Names.{names_of}
use Rattle.wq_groups.specs.DeclaredGroups.{declared_waits}
use Rattle.wq_voice.specs.Reasons.{can_hang_lead, GivesReason}
use Rattle.wq_voice.specs.Waits.{words_of}
use Rattle.wq_voice.specs.declared.waits.Wording.TheVariants.{OnWorkqueues}
use Rattle.wq_around_command.proofs.saying.say_start.Goals as goal

pub returns : goal.returns
returns g c =
    let s = c.args.declared.now in
    let ws = c.args.start.now in
    let text = c.args.texts.now.second in
    let within = rw c.second.ensures at c.in_ok-called.ensures in
    let names : map (λ n. n.now) c.deref.result.now ≡ names_of text =
    ap (λ ns. map (λ n. n.now) ns) c.deref.ensures.value ∙ within c.requires.read in
    subst (λ (ns : List (List ℕ)). IfOk c.of_subject.result
    (λ said. GivesReason c.args.names.now.declaration.now can_hang_lead (λ h. words_of OnWorkqueues s ws ns h)
    (declared_waits s) ws (option_map (λ v. v.items) said)))
    names (rw (c.can_hang.ensures, c.new-assigned.ensures) at c.of_subject.ensures)
