use Rattle.std.proofs.Common.{◌+◌, take, sym, subst, arith}
use Rattle.std.proofs.lemmas.List.{get_or_default, take_all}
use Rattle.wq_dot.proofs.SharedNames.{HasShared-all, HasThose, has_none, seen_more, shared_more, shared_still, was_new, was_there}
use Rattle.wq_dot.proofs.shared.shared_names.Goals.{then-not-is_new+in_ok-insert, else-not-is_new}
use Rattle.wq_dot.proofs.shared.shared_names.Goals as goal

pub loop-name-init : goal.loop-name-init
loop-name-init g c = (has_none c.new-seen.result c.new-seen.ensures.empty, has_none c.new-shared.result c.new-shared.ensures.empty)

pub loop-name-preserved : goal.loop-name-preserved
loop-name-preserved g c =
    let names = c.args.called.now in
    let k = c.loop-name.name-index in
    let old = c.loop-name.shared in
    let (seen, shared) = c.loop-name.invariant in (
      seen_more names k _ c.loop-name-test.true (get_or_default names k _ _ c.loop-name-test.true) c.loop-name.seen c.insert.new.self c.in_ok-is_new.ensures.updates seen,
      elim c.if-not-is_new.branch [
        | then-not-is_new+in_ok-insert w ↦
            subst (HasThose 2 (take (k + 1) names)) (sym w.shared-is)
            (shared_more names k _ c.loop-name-test.true (get_or_default names k _ _ c.loop-name-test.true) old w.insert-then-not-is_new.new.self w.in_ok-insert.ensures.updates
            c.loop-name.seen seen (was_there _ c.in_ok-is_new.is_new c.in_ok-is_new.ensures.added w.if-not-is_new.true) shared)
        | else-not-is_new w ↦
            subst (HasThose 2 (take (k + 1) names)) (sym w.shared-is)
            (shared_still names k _ c.loop-name-test.true (get_or_default names k _ _ c.loop-name-test.true) old
            c.loop-name.seen seen (was_new _ c.in_ok-is_new.is_new c.in_ok-is_new.ensures.added w.if-not-is_new.false) shared)
      ],
    )

pub returns : goal.returns
returns g c =
    HasShared-all c.args.called.now c.loop-name.name-index c.loop-name.shared (take_all c.loop-name.name-index c.args.called.now (omega (arith, c.loop-name-test.false, c.loop-name.auto.name-index-end))) c.loop-name.invariant.1
