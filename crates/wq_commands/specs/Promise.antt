-- What an answer promises, in terms of the bytes that are printed.
use Rattle.std.specs.Prelude.{◌≡◌, ℕ, ◌+◌, ◌-◌, ◌<◌, List, ◌∷◌, ◌++◌, length, map, flat_map, slice_get, slice_index}
use Rattle.std.specs.Prelude.{Some, MatchOption}
use Rattle.std.specs.List.{All}
use Rattle.wq_text.specs.LineText.{line_text}
use Rattle.wq_items.specs.Table.{ItemWaits}
use Rattle.wq_groups.specs.Assignment.{Assignment, IsAssignment, item_lanes}
use Rattle.wq_groups.specs.Declaration.{Declaration}
use Rattle.wq_core.specs.Wiring.{wiring}
use Rattle.wq_core.specs.Deadlock.{Deadlocks, IsLeast}
use Rattle.wq_cert.specs.PlanText.{arc_line, plan_text}
use Rattle.wq_cert.specs.CircleText.{circle_line}
use Rattle.wq_commands.specs.declared.end.End.{End}
use Rattle.wq_commands.specs.declared.end.End.TheVariants.{Good, Bad, Refused}
use Rattle.wq_commands.specs.DeclaredIn.{Named, declared_in}

-- the arcs, each an item and a target, lead through these groups: each arc is a declared flush, its item is in a group,
-- and its target in the next one. There is one group more than there are arcs; or there is neither a group nor an arc
pub record LeadThrough (d : Declaration) (arcs : List (ℕ × ℕ)) (groups : List ℕ) : Type 0 where
  pub within : All (λ g. g < d.groups) groups
  pub count : length arcs ≡ length groups - 1
  pub along : (k : ℕ) (arc : ℕ × ℕ) → slice_get arcs k ≡ Some arc → ItemWaits d.waits arc.0 arc.1
      × (slice_get groups k ≡ Some (slice_index d.group_of arc.0))
      × (slice_get groups (k + 1) ≡ Some (slice_index d.group_of arc.1))

-- the arcs lead round a circle: there is one at least, and they lead through groups
-- the last of which is the first. Others may recur, too
pub record LeadRound (d : Declaration) (arcs : List (ℕ × ℕ)) : Type 0 where
  pub groups : List ℕ
  pub through : LeadThrough d arcs groups
  pub some : 0 < length arcs
  pub closes : slice_get groups (length arcs) ≡ slice_get groups 0

-- the bytes are the text of a plan. No run of its assignment ends stuck, and every assignment to fewer workqueues has a
-- run that ends stuck, with each item queued once and flushing as declared. The printed arcs lead through as many
-- groups as there are workqueues, so each of them waits for the next
pub record KeepsPlan (names : List (List ℕ)) (d : Declaration) (out : List ℕ) : Type 0 where
  pub assignment : Assignment
  pub arcs : List (ℕ × ℕ)
  pub text : out ≡ plan_text names assignment.lanes (item_lanes assignment d.group_of) arcs
  pub least : IsLeast d assignment
  pub groups : List ℕ
  pub leads : LeadThrough d arcs groups
  pub long : length groups ≡ assignment.lanes

-- the bytes begin with `circle N` and N arcs (what is behind them is in `Shown`), which
-- lead round a circle of groups, each of which waits for the next; and every assignment
-- has a run that ends stuck, with each item queued once and flushing as declared
pub record KeepsCircle (names : List (List ℕ)) (d : Declaration) (out : List ℕ) : Type 0 where
  pub arcs : List (ℕ × ℕ)
  pub behind : List ℕ
  pub text : out ≡ flat_map line_text (circle_line arcs ∷ map (arc_line names) arcs) ++ behind
  pub leads : LeadRound d arcs
  pub deadlocks : (a : Assignment) → IsAssignment d.groups a → Deadlocks (wiring d a)

-- what is promised of the bytes that answer a declaration, by how the program ends:
-- `Good` with a plan, `Bad` with a circle, and never `Refused`
abbrev pub KeepsDeclared : Named → End → List ℕ → Type 0
KeepsDeclared s Good out = KeepsPlan s.names s.declared out
KeepsDeclared s Bad out = KeepsCircle s.names s.declared out
KeepsDeclared s Refused out = ⊥

-- what is promised of the bytes that answer a text; if the text is no declaration, only that it is refused. By which
-- number, and what is printed then, is in `Answers`
abbrev pub KeepsPromise : List ℕ → End → List ℕ → Type 0
KeepsPromise text end out = MatchOption (declared_in text) (end ≡ Refused) (λ s. KeepsDeclared s end out)
