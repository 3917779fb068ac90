use Rattle.std.proofs.Common.{◌≡◌, ◌↔◌, ◌<◌, true, false, sym, subst, ◌∙◌}
use Rattle.std.specs.Prelude.{IsTrue}
use Rattle.wq_core.specs.declared.entry.Waiting.{Waiting}
use Rattle.wq_core.specs.Wiring.{items}
use Rattle.wq_core.specs.Rules.{IsHeldBack, over_of}
use Rattle.wq_core.specs.Played.{IsDeclaredStep}
use Rattle.wq_core.proofs.LawfulSteps.{waiting-target}
use Rattle.wq_core.proofs.Machines.{running-item}
use Rattle.wq_core.proofs.DeclaredSteps.{IsDeclaredStep-wait, IsDeclaredStep-over, IsDeclaredStep-finish}
use Rattle.wq_core.proofs.machine.Core.declared_running.Goals as goal

pub next_target-requires : goal.next_target-requires
next_target-requires g c =
    let m = c.args.self.now in running-item m.wiring m.state c.args.q 0 c.args.running c.requires.machine.state c.requires.runs

pub returns-in-Some-next_target-clause-some : goal.returns-in-Some-next_target-clause-some
returns-in-Some-next_target-clause-some g c =
    let m = c.args.self.now in
    rw c.wait_of.ensures (IsDeclaredStep-wait m.wiring m.state c.args.q c.args.running c.requires.runs c.in_default.is c.in-Some-next_target.target (sym c.in-Some-next_target.ensures))

pub returns-in-None-clause-some : goal.returns-in-None-clause-some
returns-in-None-clause-some g c =
    let m = c.args.self.now in
    IsDeclaredStep-finish m.wiring m.state c.args.q c.args.running c.requires.runs c.in_default.is (c.requires.machine.state.running c.args.q 0 c.args.running c.requires.runs) (sym c.in-None.ensures)

pub is_held_back-requires : goal.is_held_back-requires
is_held_back-requires g c =
    let m = c.args.self.now in
    let below = waiting-target m.wiring m.state c.args.q 0 c.args.running c.in-Some.flush c.requires.machine.wiring c.requires.machine.state c.requires.runs c.in-Some.is in
    subst (λ (f : Waiting). f.target < items m.wiring) (sym c.in-Some.flush-is) below

pub returns-else-is_held_back-clause-some : goal.returns-else-is_held_back-clause-some
returns-else-is_held_back-clause-some g c =
    let m = c.args.self.now in
    let q = c.args.q in
    let left = subst (λ (f : Waiting). IsTrue c.is_held_back.result ↔ IsHeldBack m.wiring m.state f.whole f.target f.mark) c.in-Some.flush-is c.is_held_back.ensures in
    let over = IsDeclaredStep-over m.wiring m.state q c.args.running c.requires.runs c.in-Some.flush c.in-Some.is (λ held. absurd (let never : false ≡ true = sym c.if-is_held_back.false ∙ left.1 held in cc)) in
    rw c.over_of.ensures (subst (λ (f : Waiting). IsDeclaredStep m.wiring m.state q (over_of f.whole q f.target)) (sym c.in-Some.flush-is) over)
