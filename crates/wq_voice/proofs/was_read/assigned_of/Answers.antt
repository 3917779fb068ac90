use Rattle.std.proofs.Common.{subst}
use Rattle.wq_groups.specs.DeclaredGroups.{IsSound}
use Rattle.wq_voice.proofs.WasRead.{assigned_read}
use Rattle.wq_voice.proofs.was_read.assigned_of.Goals as goal

pub new-requires : goal.new-requires
new-requires g c =
    let s = c.args.declared.now in
    let sound : IsSound s = subst IsSound c.declared.view_is c.declared.invariant in
    assigned_read s c.requires.0 c.args.workqueues.now sound c.requires.1
