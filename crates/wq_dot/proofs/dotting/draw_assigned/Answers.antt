use Rattle.wq_dot.proofs.dotting.draw_assigned.Goals as goal

pub returns : goal.returns
returns g c = (
  c.in_ok-drawing.drawing.drawn,
  c.answered.ensures.found,
  (c.answered.ensures.end, rw c.answered.ensures.text c.in_ok-drawing.ensures),
)
