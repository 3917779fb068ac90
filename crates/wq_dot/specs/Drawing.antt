-- Drawings: the text for Graphviz that shows the items in their groups and
-- workqueues, and the flushes between them, line by line.
use Rattle.std.specs.Prelude.{ℕ, ◌==◌, ◌&&◌, nat_lt, cond, Bool, true, false, List, [], ◌∷◌, ◌++◌, length, map}
use Rattle.std.specs.Prelude.{flat_map, filter, slice_index_or, codes, decimal}
use Rattle.std.specs.List.{list_any, range_with_len}
use Rattle.wq_items.specs.declared.target.Target.{Target}
use Rattle.wq_items.specs.Table.{Table, items_at, targets_of}
use Rattle.wq_groups.specs.Partition.{Partition}
use Rattle.wq_groups.specs.Assignment.{Assignment, group_lane}
use Rattle.wq_graph.specs.declared.arc.WaitArc.{WaitArc}
use Rattle.wq_graph.specs.Graph.{arcs_by_place}
use Rattle.wq_core.specs.Workqueues.{Workqueues}
use Rattle.wq_dot.specs.declared.look.FlushLook.{FlushLook}
use Rattle.wq_dot.specs.declared.look.FlushLook.TheVariants.{Plain, Red, BoldRed, Bold}
use Rattle.wq_cert.specs.PlanText.{name_of}
use Rattle.wq_circles.specs.ComponentsText.{is_unsure_arc}
use Rattle.wq_dot.specs.Labels.{is_shared, label_text, numbered}
use Rattle.wq_dot.specs.Tooltips.{tooltip_text}

-- ---- the head

-- the four lines of the head; the second one has the title
abbrev pub head_lines : List ℕ → List (List ℕ)
head_lines title =
    codes "digraph wqplan {"
    ∷ (codes "  graph [label=\"" ++ title
    ++ codes "\", labelloc=t, labeljust=l, rankdir=LR, nodesep=0.15, ranksep=1, fontname=\"sans-serif\"];")
    ∷ codes "  node [shape=box, style=filled, fillcolor=white, height=0.3, fontname=\"sans-serif\", fontsize=12];"
    ∷ codes "  edge [arrowsize=0.7];"
    ∷ []

-- ---- groups

-- a group of one item: `"NAME";`, after four spaces
abbrev pub single_line : List (List ℕ) → ℕ → List ℕ
single_line names i = codes "    \"" ++ name_of names i ++ codes "\";"

-- an item of a group of several: `"NAME";`, after six spaces
abbrev pub member_line : List (List ℕ) → ℕ → List ℕ
member_line names i = codes "      \"" ++ name_of names i ++ codes "\";"

-- a group of several items, of which `first` is the first: a box within the workqueue's box, with the word `ordered`
-- and a line for each item
abbrev pub group_box_lines : List (List ℕ) → ℕ → List ℕ → List (List ℕ)
group_box_lines names first members =
    (codes "    subgraph \"cluster ordered " ++ name_of names first ++ codes "\" {")
    ∷ (codes "      graph [label=\"\", style=dashed, color=black]; \"ordered " ++ name_of names first
    ++ codes "\" [label=\"ordered\", shape=plaintext, style=\"\"];")
    ∷ (map (member_line names) members ++ (codes "    }" ∷ []))

-- the lines of a group with these items
abbrev pub group_lines : List (List ℕ) → List ℕ → List (List ℕ)
group_lines names [] = []
group_lines names (item ∷ []) = single_line names item ∷ []
group_lines names (first ∷ second ∷ others) = group_box_lines names first (first ∷ second ∷ others)

-- ---- workqueues

-- the groups on workqueue q, in the order of their numbers
abbrev pub groups_on : Assignment → ℕ → List ℕ
groups_on a q = filter (λ g. group_lane a g == q) (range_with_len 0 (length a.lane_of_group))

-- the frame of a workqueue: dashed if it has no rescuer
abbrev pub frame_text : Bool → List ℕ
frame_text true = codes "style=\"filled,dashed\", fillcolor=gray92, color=black"
frame_text false = codes "style=filled, color=gray92"

-- the second line of workqueue q, with its frame and its label, given its name and whether others have the same name
abbrev pub frame_line : List ℕ → Bool → Bool → ℕ → List ℕ
frame_line name shared bare q =
    codes "    graph [label=\"\", " ++ frame_text bare
    ++ codes "]; \"" ++ numbered q ++ codes "\" [" ++ label_text name shared bare q
    ++ codes "shape=plaintext, style=\"\", fontsize=14];"

-- workqueue q with this name and these groups: its three lines, with the lines of the groups before the third one
abbrev pub box_lines : List (List ℕ) → List ℕ → List ℕ → Bool → Bool → ℕ → List ℕ → List (List ℕ)
box_lines names group_of name shared bare q own =
    (codes "  subgraph \"cluster wq " ++ decimal q ++ codes "\" {")
    ∷ frame_line name shared bare q
    ∷ (flat_map (λ g. group_lines names (items_at group_of g)) own ++ (codes "  }" ∷ []))

-- the lines of workqueue q with its groups. `called` has the names of the workqueues
abbrev pub workqueue_box_lines : List (List ℕ) → List ℕ → Workqueues → List (List ℕ) → ℕ → List (List ℕ)
workqueue_box_lines names group_of ws called q =
    let name = slice_index_or called q [] in
    box_lines names group_of name (is_shared called name) (slice_index_or ws.bare q false) q (groups_on ws.assignment q)

-- ---- flushes

-- the flush is of a whole workqueue: the target at its place says so
abbrev pub is_whole_at : List (List Target) → WaitArc → Bool
is_whole_at waits flush = list_any (λ (t : Target). (t.place == flush.place) && t.whole) (targets_of waits flush.src)

-- the flush is drawn from its target: a flush goes the other way, too, and that one is of the item that was declared
-- first
abbrev pub is_turned : List (List Target) → WaitArc → Bool
is_turned waits flush =
    nat_lt flush.dst flush.src && list_any (λ (t : Target). t.item == flush.src) (targets_of waits flush.dst)

-- the line and the colour of an arrow, given whether the flush is unsure
abbrev pub look_text : FlushLook → Bool → List ℕ
look_text Plain false = []
look_text Red false = codes " [color=red, style=bold]"
look_text BoldRed false = codes " [color=red, penwidth=4]"
look_text Bold false = codes " [style=bold]"
look_text Plain true = codes " [style=dotted]"
look_text Red true = codes " [color=red, style=\"bold,dotted\"]"
look_text BoldRed true = codes " [color=red, penwidth=4, style=dotted]"
look_text Bold true = codes " [style=\"bold,dotted\"]"

-- the head of an arrow, given whether it is drawn from its target, and whether the flush is of a whole workqueue
abbrev pub head_text : Bool → Bool → List ℕ
head_text false false = []
head_text false true = codes " [arrowhead=odiamond]"
head_text true false = codes " [dir=back]"
head_text true true = codes " [dir=back, arrowtail=odiamond]"

-- an arrow between two items: `"NAME" -> "NAME"`, after two spaces
abbrev pub ends_text : List (List ℕ) → ℕ → ℕ → List ℕ
ends_text names one other = codes "  \"" ++ name_of names one ++ codes "\" -> \"" ++ name_of names other ++ codes "\""

-- a flush with this look and this comment, with its marks before the semicolon
abbrev pub arrow_line : List (List ℕ) → List (List Target) → FlushLook → List ℕ → WaitArc → List ℕ
arrow_line names waits look comment flush =
    let turned = is_turned waits flush in
    ends_text names (cond turned flush.dst flush.src) (cond turned flush.src flush.dst)
    ++ look_text look (is_unsure_arc waits flush)
    ++ head_text turned (is_whole_at waits flush)
    ++ tooltip_text comment
    ++ codes ";"

-- the line of a flush, with the look and the comment that are at its place
abbrev pub flush_line : List (List ℕ) → List (List Target) → List FlushLook → List (List ℕ) → WaitArc → List ℕ
flush_line names waits looks comments flush =
    arrow_line names waits (slice_index_or looks flush.place Plain) (slice_index_or comments flush.place []) flush

-- ---- the text

-- all lines: the head, each workqueue from 0 up, each flush in order of place, and the end
abbrev pub drawing_lines : Table → Partition → Workqueues → List (List ℕ) → List ℕ → List FlushLook → List (List ℕ)
    → List (List ℕ)
drawing_lines t p ws called title looks comments =
    head_lines title
    ++ flat_map (workqueue_box_lines t.names p.group_of ws called) (range_with_len 0 ws.assignment.lanes)
    ++ map (flush_line t.names t.waits looks comments) (arcs_by_place t.waits p.group_of)
    ++ (codes "}" ∷ [])

-- a line with its LF
abbrev pub ended : List ℕ → List ℕ
ended line = line ++ (10 ∷ [])

-- the text of the drawing
abbrev pub drawing_text : Table → Partition → Workqueues → List (List ℕ) → List ℕ → List FlushLook → List (List ℕ)
    → List ℕ
drawing_text t p ws called title looks comments = flat_map ended (drawing_lines t p ws called title looks comments)
