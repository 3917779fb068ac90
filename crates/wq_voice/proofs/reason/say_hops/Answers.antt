use Rattle.std.proofs.Common.{◌≡◌, ◌++◌, ℕ, List, map, ap, subst, ◌∙◌}
use Rattle.wq_groups.specs.DeclaredGroups.{Declared}
use Rattle.wq_hang.specs.declared.hop.Hop.{Hop}
use Rattle.wq_names.specs.Names.{names_of}
use Rattle.wq_voice.specs.Reasons.{can_hang_lead, told, AreSaid, Lead}
use Rattle.wq_voice.specs.Waits.{words_of}
use Rattle.wq_voice.specs.declared.waits.Wording.TheVariants.{OnWorkqueues}
use Rattle.wq_diagnosis.proofs.ReadTexts.{limits-read}
use Rattle.wq_voice.proofs.reason.say_hops.Goals as goal

pub returns : goal.returns
returns g c =
    let s : Declared = c.args.assigned.now.declared in
    let ws = c.args.assigned.now.workqueues in
    let file = c.args.declaration.file.now in
    let text = c.args.assignment.text.now in
    let hops = c.args.hops.now in
    let said = c.in_ok-said.said.items in
    let names : map (λ n. n.now) c.deref.result.now ≡ names_of text =
    ap (λ ns. map (λ n. n.now) ns) c.deref.ensures.value
    ∙ c.in_ok-names.ensures (limits-read s.table.names s.partition text ws c.requires.read) in
    let led : AreSaid file (told can_hang_lead (λ (h : Hop).
    words_of OnWorkqueues s ws (map (λ n. n.now) c.deref.result.now) h) hops) said =
    subst (λ (lead : Lead). AreSaid file (told lead (λ (h : Hop).
    words_of OnWorkqueues s ws (map (λ n. n.now) c.deref.result.now) h) hops) said) c.can_hang.ensures
    c.in_ok-said.ensures in (
      said,
      c.in_ok-notes.notes.items,
      c.in_ok-put.ensures.added ∙ ap (λ (l : List ℕ). said ++ l) c.deref-2.ensures.value,
      subst (λ (ns : List (List ℕ)).
          AreSaid file (told can_hang_lead (λ (h : Hop). words_of OnWorkqueues s ws ns h) hops) said) names led,
      c.in_ok-notes.ensures,
    )
