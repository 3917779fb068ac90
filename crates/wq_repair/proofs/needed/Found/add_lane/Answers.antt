use Rattle.std.proofs.Common.{◌≡◌, ℕ, ◌+◌, ◌<◌, get_or, length, sym, arith, ◌∙◌}
use Rattle.std.specs.Prelude.{Contains}
use Rattle.std.proofs.lemmas.List.{get_or_default}
use Rattle.wq_repair.proofs.NeededFound.{IsAmong, IsAmong-last, HasGrown-none, HasGrown-then, HasGrown-as}
use Rattle.wq_repair.proofs.needed.Found.add_lane.Goals as goal

pub loop-group-init : goal.loop-group-init
loop-group-init g c = HasGrown-none c.args.self.now (IsAmong c.args.on.now 0) (λ h among. absurd (omega (arith, among.1)))

pub add-requires : goal.add-requires
add-requires g c =
    let within = c.requires.within c.loop-group.group-index 0 c.loop-group-test.true in
    omega (arith, c.new.ensures, within, c.loop-group.invariant.one_each)

pub loop-group-preserved : goal.loop-group-preserved
loop-group-preserved g c =
    let on = c.args.on.now in
    let i = c.loop-group.group-index in
    HasGrown-then c.args.self.now c.loop-group.self c.add.new.self (IsAmong on i) (λ (h : ℕ). h ≡ get_or on i 0)
    (IsAmong on (i + 1)) c.loop-group.invariant (rw c.new.ensures at c.in_ok-add.ensures)
    (λ h among. (among.0, omega (arith, among.1), among.2))
    (λ h same. (i, omega arith, sym same))
    (IsAmong-last on i)

pub returns : goal.returns
returns g c =
    let on = c.args.on.now in
    let i = c.loop-group.group-index in
    HasGrown-as c.args.self.now c.loop-group.self (IsAmong on i) (Contains on) c.loop-group.invariant
    (λ h among. let within : among.0 < length on = omega (arith, among.1, c.loop-group.auto.group-index-end) in (among.0, within, get_or_default on among.0 h 0 within ∙ among.2))
    (λ h there. (there.0, omega (arith, there.1, c.loop-group-test.false), get_or_default on there.0 0 h there.1 ∙ there.2))
