use Rattle.std.proofs.Common.{ℕ, [], ◌∷◌, ◌++◌, ap, ◌∙◌}
use Rattle.wq_deadlock.proofs.KnownStuck.{noted-view}
use Rattle.wq_deadlock.proofs.stuck.Stuck.note.Goals as goal

pub returns-in_ok-push : goal.returns-in_ok-push
returns-in_ok-push g c =
    noted-view c.self.inside.known.items c.self.inside.waiting.items c.args.self.now c.self.view_is c.args.q c.from.result c.in-Some.item c.from-in-Some.result c.index_mut-in-Some.result.now c.push.new.self c.args.holder
    (c.from.ensures ∙ c.get.ensures) (c.from-in-Some.ensures ∙ c.get-in-Some.ensures) c.in-Some.is c.requires.item c.index_mut-in-Some.ensures.value (c.in_ok-push.ensures.ok ∙ ap (λ (n : ℕ). c.index_mut-in-Some.result.now.items ++ (n ∷ [])) c.get-in-Some-2.ensures)
