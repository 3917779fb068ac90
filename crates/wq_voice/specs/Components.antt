-- What is said beside components of workqueues: how the workqueues of each can hang, and then by which flush to no
-- rescuer.
use Rattle.std.specs.Prelude.{◌≡◌, ◌⊎◌, ◌==◌, ◌&&◌, ℕ, Bool, false, true, List, [], ◌∷◌, ◌++◌, filter, flat_map}
use Rattle.std.specs.Prelude.{not, Option, slice_get}
use Rattle.std.specs.List.{find, list_any, range_with_len}
use Rattle.std.specs.Option.{option_map_or, option_or}
use Rattle.wq_items.specs.declared.target.Target.{Target}
use Rattle.wq_items.specs.Table.{targets_of}
use Rattle.wq_graph.specs.declared.arc.WaitArc.{WaitArc}
use Rattle.wq_core.specs.Workqueues.{Workqueues, wiring_of}
use Rattle.wq_hang.specs.declared.hop.Hop.{Hop}
use Rattle.wq_hang.specs.Walk.{BeginsUnsure, IsLeastRoundOn, IsRoundOn}
use Rattle.wq_groups.specs.DeclaredGroups.{declared_waits, Declared}
use Rattle.wq_voice.specs.Reasons.{AddsSaid, AreSaid, can_hang_lead, told}
use Rattle.wq_diagnosis.specs.Words.{workqueue_of}

-- ---- circular waits

-- an item of one of these flushes is on workqueue q
abbrev pub begins_on : Declared → Workqueues → List WaitArc → ℕ → Bool
begins_on s ws arcs q = list_any (λ (a : WaitArc). workqueue_of s ws a.src == q) arcs

-- the workqueues of the items of flushes, each once
abbrev pub lanes_of : Declared → Workqueues → List WaitArc → List ℕ
lanes_of s ws arcs = filter (begins_on s ws arcs) (range_with_len 0 ws.assignment.lanes)

-- for each component in turn a round of waits on its workqueues, with as few unsure flushes as possible, and of such
-- rounds with as few steps; if it has unsure flushes, it begins with one. A component without a round adds none
abbrev pub AreRounds : Declared → Workqueues → List (List WaitArc) → List (List Hop) → Type 0
AreRounds s ws [] rounds = rounds ≡ []
AreRounds s ws (arcs ∷ more) rounds =
    ((hops : List Hop)
    × (rest : List (List Hop)) × (rounds ≡ hops ∷ rest)
    × IsLeastRoundOn (wiring_of (declared_waits s) ws) (lanes_of s ws arcs) hops
    × BeginsUnsure hops
    × AreRounds s ws more rest)
    ⊎ (((hops : List Hop) → ¬ IsRoundOn (wiring_of (declared_waits s) ws) (lanes_of s ws arcs) hops)
    × AreRounds s ws more rounds)

-- the words for such rounds were added to a text
abbrev pub AddsRounds : List ℕ → (Hop → List ℕ) → Declared → Workqueues → List (List WaitArc) → List ℕ → List ℕ → Type 0
AddsRounds file words s ws components old new =
    (rounds : List (List Hop)) × AreRounds s ws components rounds
    × AddsSaid file (flat_map (told can_hang_lead words) rounds) old new

-- ---- flushes to no rescuer

-- the flush at this place, which item i declares, is of a whole workqueue
abbrev pub is_of_whole : List (List Target) → ℕ → ℕ → Bool
is_of_whole waits i place = list_any (λ (t : Target). (t.place == place) && t.whole) (targets_of waits i)

-- the flush at this place, which item i declares, is unsure
abbrev pub is_unsure : List (List Target) → ℕ → ℕ → Bool
is_unsure waits i place = list_any (λ (t : Target). (t.place == place) && t.unsure) (targets_of waits i)

-- the wait in a flush that leads to no rescuer: nothing waits there
abbrev pub hop_of : Declared → WaitArc → Hop
hop_of s a = record {
  item = a.src;
  flush = record {
    item = a.dst;
    place = a.place;
    whole = is_of_whole s.table.waits a.src a.place;
    unsure = is_unsure s.table.waits a.src a.place;
  };
  next = a.dst;
}

-- the first sure flush among these, or if none is sure, the first one
abbrev pub first_of : Declared → List WaitArc → Option WaitArc
first_of s waits =
    option_or (find (λ (a : WaitArc). not (is_unsure s.table.waits a.src a.place)) waits) (slice_get waits 0)

-- what is said of this one, if there is one
abbrev pub first_told : (Hop → List ℕ) → Declared → List WaitArc → List (List ℕ)
first_told words s waits = option_map_or (λ a. told can_hang_lead words (hop_of s a ∷ [])) (first_of s waits) []

-- ---- both

-- there is a component, or a flush to no rescuer
abbrev pub are_some : List (List WaitArc) → List WaitArc → Bool
are_some [] [] = false
are_some _ _ = true

-- the reasons of this file: how the workqueues of each of these components can hang, in order; and then, if there are
-- flushes to no rescuer, the first of them
pub record GivesReasons (file : List ℕ) (words : Hop → List ℕ) (s : Declared) (ws : Workqueues)
    (components : List (List WaitArc)) (waits : List WaitArc) (text : List ℕ) : Type 0 where
  pub rounds : List (List Hop)
  pub least : AreRounds s ws components rounds
  pub said : AreSaid file (flat_map (told can_hang_lead words) rounds ++ first_told words s waits) text
