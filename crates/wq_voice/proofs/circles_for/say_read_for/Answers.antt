use Rattle.std.proofs.Common.{map, subst}
use Rattle.wq_commands.specs.declared.found.Found.TheVariants.{Read}
use Rattle.wq_circles.specs.HeldText.{CirclesTextFor}
use Rattle.wq_voice.proofs.NamedRead.{CirclesTextFor-read}
use Rattle.wq_voice.proofs.circles_for.say_read_for.Goals as goal

pub assigned_of-assigned-requires : goal.assigned_of-assigned-requires
assigned_of-assigned-requires g c =
    let s = c.args.declared.now in
    let names = map (λ n. n.now) c.args.names.now in
    let (end, out, finds) = c.requires in
    let found = CirclesTextFor-read s names c.args.texts.now.second c.in-Some.circling end out
    (subst (λ o. CirclesTextFor s names c.args.texts.now.second (Read o) end out) c.in-Some.is finds) in
    (c.args.texts.now.second, found.read)

pub say_circling_for-requires-clause-read : goal.say_circling_for-requires-clause-read
say_circling_for-requires-clause-read g c =
    let s = c.args.declared.now in
    let names = map (λ n. n.now) c.args.names.now in
    let (end, out, finds) = c.requires in
    let found = CirclesTextFor-read s names c.args.texts.now.second c.in-Some.circling end out
    (subst (λ o. CirclesTextFor s names c.args.texts.now.second (Read o) end out) c.in-Some.is finds) in
    rw c.assigned_of-assigned.ensures found.read

pub say_circling_for-requires-clause-named : goal.say_circling_for-requires-clause-named
say_circling_for-requires-clause-named g c =
    let s = c.args.declared.now in
    let names = map (λ n. n.now) c.args.names.now in
    let (end, out, finds) = c.requires in
    let found = CirclesTextFor-read s names c.args.texts.now.second c.in-Some.circling end out
    (subst (λ o. CirclesTextFor s names c.args.texts.now.second (Read o) end out) c.in-Some.is finds) in
    rw c.assigned_of-assigned.ensures found.within

pub returns-in-Some : goal.returns-in-Some
returns-in-Some g c = rw c.in-Some.is (rw c.assigned_of-assigned.ensures at c.say_circling_for.ensures)
