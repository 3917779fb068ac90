use Rattle.wq_voice.proofs.circles.of_own.Goals as goal

pub returns : goal.returns
returns g c = rw (c.deref.ensures.value, c.deref-2.ensures.value) at c.of_components.ensures
