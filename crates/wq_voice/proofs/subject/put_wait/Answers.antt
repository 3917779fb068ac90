use Rattle.std.proofs.Common.{ℕ, List, ◌++◌, map, ap, subst, ◌∙◌}
use Rattle.std.proofs.lemmas.Result.{on_ok_weaker}
use Rattle.wq_groups.specs.DeclaredGroups.{Declared}
use Rattle.wq_voice.specs.Reasons.{lead_for, IsSaidOf}
use Rattle.wq_voice.specs.Waits.{words_of}
use Rattle.wq_voice.proofs.Blocks.{AddsSaid-one}
use Rattle.wq_voice.proofs.subject.put_wait.Goals as goal

pub returns : goal.returns
returns g c =
    let subject = c.args.subject.now in
    let s : Declared = subject.assigned.now.declared in
    let file = subject.declaration.file.now in
    let what = lead_for c.args.lead.now c.args.hop.now ++ words_of subject.wording s subject.assigned.now.workqueues
    (map (λ n. n.now) subject.names.now) c.args.hop.now in
    let out = c.args.out.now.items in
    let block = c.in_ok-block.block.items in
    let said : IsSaidOf file what block = subst (λ (w : List ℕ). IsSaidOf file w block) (c.deref.ensures.value ∙ c.in_ok-what.ensures) c.in_ok-block.ensures in
    on_ok_weaker c.put.result (λ is. AddsSaid-one file what out c.put.new.out.items block said (is ∙ ap (λ (b : List ℕ). out ++ b) c.deref-2.ensures.value)) c.put.ensures.added
