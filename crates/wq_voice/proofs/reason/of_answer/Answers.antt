use Rattle.std.proofs.Common.{◌≡◌, ℕ, List, map, subst, sym}
use Rattle.wq_groups.specs.Declaration.{declaration_of}
use Rattle.wq_groups.specs.DeclaredGroups.{Declared}
use Rattle.wq_hang.specs.declared.hop.Hop.{Hop}
use Rattle.wq_hang.specs.Answer.{IsHangOf}
use Rattle.wq_voice.specs.Reasons.{told, AreSaid}
use Rattle.wq_voice.specs.Waits.{words_of}
use Rattle.wq_voice.proofs.reason.of_answer.Goals as goal

pub of_hops-requires : goal.of_hops-requires
of_hops-requires g c =
    let s = c.args.subject.now.assigned.now.declared in
    let d = declaration_of s.table s.partition in
    let ws = c.args.subject.now.assigned.now.workqueues in
    let steps = c.in-Hang.field-1.items in
    let hang : IsHangOf d ws c.in-Hang.hops.items steps = rw c.in-Hang.is at c.requires.answer in
    record { hang = (steps, subst (λ (hops : List Hop). IsHangOf d ws hops steps) (sym c.deref.ensures.value) hang) }

pub returns-in_ok-said-in-Hang : goal.returns-in_ok-said-in-Hang
returns-in_ok-said-in-Hang g c =
    let subject = c.args.subject.now in
    let s : Declared = subject.assigned.now.declared in
    let ws = subject.assigned.now.workqueues in
    let steps = c.in-Hang.field-1.items in
    let hang : IsHangOf (declaration_of s.table s.partition) ws c.in-Hang.hops.items steps =
    rw c.in-Hang.is at c.requires.answer in (
      c.in-Hang.hops.items,
      steps,
      hang,
      subst (λ (hops : List Hop). AreSaid subject.declaration.file.now (told c.args.lead.now (λ (h : Hop).
          words_of subject.wording s ws (map (λ n. n.now) subject.names.now) h) hops) c.in_ok-said-in-Hang.said.items)
          c.deref.ensures.value c.in_ok-said-in-Hang.ensures,
    )
