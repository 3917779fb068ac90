use Rattle.std.proofs.Common.{map, subst}
use Rattle.wq_circles.specs.HeldText.{CirclesTextFor}
use Rattle.wq_voice.proofs.circles_for.say_circles_for.Goals as goal

pub say_read_for-requires : goal.say_read_for-requires
say_read_for-requires g c =
    let s = c.args.declared.now in
    let names = map (λ n. n.now) c.args.names.now in
    let (end, out, finds) = c.requires in
    (end, out, subst (λ f. CirclesTextFor s names c.args.texts.now.second f end out) c.in-Read.is finds)
