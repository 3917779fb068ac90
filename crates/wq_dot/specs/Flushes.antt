-- How the flushes of a drawing look: the flushes of some arcs have one look, the flushes of some waits another, and all
-- others are plain.
use Rattle.std.specs.Prelude.{ℕ, ◌<◌, ◌==◌, Bool, true, false, List, map, flat_map, fold, cond, slice_set}
use Rattle.std.specs.List.{All, count_by, list_any, range_with_len}
use Rattle.wq_graph.specs.declared.arc.WaitArc.{WaitArc}
use Rattle.wq_hang.specs.declared.hop.Hop.{Hop}
use Rattle.wq_dot.specs.declared.look.FlushLook.{FlushLook}
use Rattle.wq_dot.specs.declared.look.FlushLook.TheVariants.{Plain, Red, BoldRed, Bold}

-- how the flush at this place looks, if the flushes of these arcs have this look
abbrev pub look_at : FlushLook → List WaitArc → ℕ → FlushLook
look_at look arcs place = cond (list_any (λ (a : WaitArc). a.place == place) arcs) look Plain

-- how each of n flushes looks, in order of place
abbrev pub looks_of : ℕ → FlushLook → List WaitArc → List FlushLook
looks_of n look arcs = map (look_at look arcs) (range_with_len 0 n)

-- how the flush at this place looks: bold red if one of these waits is made in it, or else red if it is the flush of
-- one of these arcs
abbrev pub red_look_at : List Hop → List WaitArc → ℕ → FlushLook
red_look_at hops arcs place =
    cond (list_any (λ (h : Hop). h.flush.place == place) hops) BoldRed (look_at Red arcs place)

-- how each of n flushes looks, in order of place: bold red if one of these waits is made in it, or else red if it is
-- the flush of one of these arcs
abbrev pub red_looks_of : ℕ → List Hop → List WaitArc → List FlushLook
red_looks_of n hops arcs = map (red_look_at hops arcs) (range_with_len 0 n)

-- the arcs of all components, one component after another
abbrev pub all_arcs : List (List WaitArc) → List WaitArc
all_arcs components = flat_map (λ (arcs : List WaitArc). arcs) components

-- a look that isn't plain
abbrev pub is_marked : FlushLook → Bool
is_marked Plain = false
is_marked Red = true
is_marked BoldRed = true
is_marked Bold = true

-- how many of these looks aren't plain
abbrev pub marked : List FlushLook → ℕ
marked looks = count_by is_marked looks

-- a look that is bold and red
abbrev pub is_bold_red : FlushLook → Bool
is_bold_red Plain = false
is_bold_red Red = false
is_bold_red BoldRed = true
is_bold_red Bold = false

-- how many of these looks are bold and red
abbrev pub bold_red : List FlushLook → ℕ
bold_red looks = count_by is_bold_red looks

-- ---- how they are marked, arc by arc, or wait by wait

-- the flush of each arc is one of n
abbrev pub AreMarkable : ℕ → List WaitArc → Type 0
AreMarkable n arcs = All (λ (a : WaitArc). a.place < n) arcs

-- the looks after the flushes of these arcs have been given this look
abbrev pub with_marks : FlushLook → List FlushLook → List WaitArc → List FlushLook
with_marks look looks arcs = fold (λ (l : List FlushLook) (a : WaitArc). slice_set l a.place look) looks arcs

-- the flush of each wait is one of n
abbrev pub AreFlushes : ℕ → List Hop → Type 0
AreFlushes n hops = All (λ (h : Hop). h.flush.place < n) hops

-- the looks after the flushes of these waits have become bold red
abbrev pub with_bold_red : List FlushLook → List Hop → List FlushLook
with_bold_red looks hops = fold (λ (l : List FlushLook) (h : Hop). slice_set l h.flush.place BoldRed) looks hops
