-- What one decision makes of what is declared: an unsure flush is taken away, or it is made sure. The other flushes
-- keep their places here. In the text that is edited they may move up; but places mean nothing to a reading.
use Rattle.std.specs.Prelude.{ℕ, ◌==◌, ◌&&◌, not, Bool, map, filter}
use Rattle.wq_items.specs.declared.target.Target.{Target}
use Rattle.wq_core.specs.Wiring.{Wiring}

-- this is the unsure flush at the place
abbrev pub is_unsure_at : ℕ → Target → Bool
is_unsure_at place t = t.unsure && (t.place == place)

-- the unsure flush at this place isn't so: its line is taken away
abbrev pub denied : ℕ → Wiring → Wiring
denied place w = record w { waits = map (filter (λ (t : Target). not (is_unsure_at place t))) w.waits }

-- the flush, if it isn't unsure any more at this place
abbrev pub sure_at : ℕ → Target → Target
sure_at place t = record t { unsure = t.unsure && not (t.place == place) }

-- the unsure flush at this place is so: it is sure
abbrev pub confirmed : ℕ → Wiring → Wiring
confirmed place w = record w { waits = map (map (sure_at place)) w.waits }
