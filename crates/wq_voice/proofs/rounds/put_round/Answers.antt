use Rattle.std.proofs.Common.{◌<◌, ℕ, List, length, map, sym, subst, ◌∙◌}
use Rattle.std.specs.List.{All}
use Rattle.std.proofs.lemmas.Result.{on_ok_weaker}
use Rattle.wq_groups.specs.Declaration.{IsDeclaration, declaration_of}
use Rattle.wq_groups.proofs.Declarations.{IsDeclaration-of}
use Rattle.wq_core.specs.Wiring.{Wiring}
use Rattle.wq_core.specs.Workqueues.{wiring_of}
use Rattle.wq_hang.specs.declared.hop.Hop.{Hop}
use Rattle.wq_hang.specs.Walk.{BeginsUnsure, IsLeastRoundOn, IsRound, IsRoundOn}
use Rattle.wq_groups.specs.DeclaredGroups.{Declared}
use Rattle.wq_voice.specs.Components.{lanes_of}
use Rattle.wq_voice.specs.Reasons.{can_hang_lead, told, AddsSaid, Lead}
use Rattle.wq_voice.specs.Waits.{words_of}
use Rattle.wq_voice.proofs.Rounded.{AddsRounds-other, AddsRounds-some}
use Rattle.wq_voice.proofs.Walked.{round_items, round_targets}
use Rattle.wq_voice.proofs.rounds.put_round.Goals as goal

pub put_walk-requires-clause-items : goal.put_walk-requires-clause-items
put_walk-requires-clause-items g c =
    let t = c.args.subject.now.assigned.now.declared.table in
    let p = c.args.subject.now.assigned.now.declared.partition in
    let ws = c.args.subject.now.assigned.now.workqueues in
    let d = declaration_of t p in
    let held = c.table-table.ensures.assigned in
    let declaration : IsDeclaration d = IsDeclaration-of t p held.declared.table held.declared.partition
    held.declared.one_group_each in
    let hops = c.in-Some.hops.items in
    let least : IsLeastRoundOn c.args.rounds.now c.deref.result.now hops = rw c.in-Some.is at c.in_ok-hops.ensures.some in
    let round : IsRound (wiring_of d ws) hops = subst (λ (w : Wiring). IsRound w hops) c.requires.rounds least.stays.round in
    subst (λ (l : List Hop). All (λ (h : Hop). h.item < length p.group_of) l) (sym c.deref-in-Some.ensures.value)
    (round_items d ws declaration held.assignment.assignment hops round)

pub put_walk-requires-clause-targets : goal.put_walk-requires-clause-targets
put_walk-requires-clause-targets g c =
    let t = c.args.subject.now.assigned.now.declared.table in
    let p = c.args.subject.now.assigned.now.declared.partition in
    let ws = c.args.subject.now.assigned.now.workqueues in
    let d = declaration_of t p in
    let held = c.table-table.ensures.assigned in
    let declaration : IsDeclaration d = IsDeclaration-of t p held.declared.table held.declared.partition
    held.declared.one_group_each in
    let hops = c.in-Some.hops.items in
    let least : IsLeastRoundOn c.args.rounds.now c.deref.result.now hops = rw c.in-Some.is at c.in_ok-hops.ensures.some in
    let round : IsRound (wiring_of d ws) hops = subst (λ (w : Wiring). IsRound w hops) c.requires.rounds least.stays.round in
    subst (λ (l : List Hop). All (λ (h : Hop). h.flush.item < length p.group_of) l) (sym c.deref-in-Some.ensures.value)
    (round_targets d ws declaration held.assignment.assignment hops round)

pub returns-in-Some-clause-added : goal.returns-in-Some-clause-added
returns-in-Some-clause-added g c =
    let subject = c.args.subject.now in
    let s : Declared = subject.assigned.now.declared in
    let ws = subject.assigned.now.workqueues in
    let file = subject.declaration.file.now in
    let words = λ (h : Hop). words_of subject.wording s ws (map (λ n. n.now) subject.names.now) h in
    let arcs = c.args.arcs.now in
    let hops = c.in-Some.hops.items in
    let found : IsLeastRoundOn c.args.rounds.now c.deref.result.now hops = rw c.in-Some.is at c.in_ok-hops.ensures.some in
    let on : IsLeastRoundOn c.args.rounds.now (lanes_of s ws arcs) hops = subst (λ (lanes : List ℕ). IsLeastRoundOn c.args.rounds.now lanes hops) (c.deref.ensures.value ∙ c.in_ok-lanes.ensures) found in
    let least : IsLeastRoundOn (wiring_of (declaration_of s.table s.partition) ws) (lanes_of s ws arcs) hops = subst (λ (w : Wiring). IsLeastRoundOn w (lanes_of s ws arcs) hops) c.requires.rounds on in
    let begins : BeginsUnsure hops = rw c.in-Some.is at c.in_ok-hops.ensures.begins in
    on_ok_weaker c.put_walk.result (λ said.
    AddsRounds-some s ws file words arcs hops c.args.out.now.items c.put_walk.new.out.items least begins
    (subst (λ (l : List Hop). AddsSaid file (told can_hang_lead words l) c.args.out.now.items c.put_walk.new.out.items)
    c.deref-in-Some.ensures.value
    (subst (λ (lead : Lead). AddsSaid file (told lead words c.deref-in-Some.result.now) c.args.out.now.items
    c.put_walk.new.out.items) c.can_hang.ensures said))) c.put_walk.ensures

pub returns-clause-added : goal.returns-clause-added
returns-clause-added g c =
    let subject = c.args.subject.now in
    let s : Declared = subject.assigned.now.declared in
    let ws = subject.assigned.now.workqueues in
    let words = λ (h : Hop). words_of subject.wording s ws (map (λ n. n.now) subject.names.now) h in
    let arcs = c.args.arcs.now in
    let found : (hops : List Hop) → ¬ IsRoundOn c.args.rounds.now c.deref.result.now hops = rw c.in-None.is at c.in_ok-hops.ensures.none in
    let on : (hops : List Hop) → ¬ IsRoundOn c.args.rounds.now (lanes_of s ws arcs) hops = subst (λ (lanes : List ℕ). (hops : List Hop) → ¬ IsRoundOn c.args.rounds.now lanes hops) (c.deref.ensures.value ∙ c.in_ok-lanes.ensures) found in
    AddsRounds-other s ws subject.declaration.file.now words arcs c.args.out.now.items
    (subst (λ (w : Wiring). (hops : List Hop) → ¬ IsRoundOn w (lanes_of s ws arcs) hops) c.requires.rounds on)
