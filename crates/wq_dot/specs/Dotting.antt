-- The answer to a declaration and an assignment, or to a declaration alone: a drawing. If workqueues can hang, the
-- waits of a shortest run that ends stuck are bold red. There may be several such runs: this is the one freedom of an
-- answer.
use Rattle.std.specs.Prelude.{◌≡◌, ◌⊎◌, ◌==◌, ◌&&◌, not, cond, if◌then◌else◌, Bool, false, true, ℕ, List, [], ◌++◌}
use Rattle.std.specs.Prelude.{length, codes, decimal, MatchResult, Ok}
use Rattle.std.specs.List.{list_any}
use Rattle.wq_text.specs.LineText.{spaced}
use Rattle.wq_items.specs.Chain.{HasCircle}
use Rattle.wq_items.specs.Table.{flush_count}
use Rattle.wq_groups.specs.Declaration.{Declaration, GroupWaits}
use Rattle.wq_groups.specs.Assignment.{Assignment}
use Rattle.wq_graph.specs.declared.arc.WaitArc.{WaitArc}
use Rattle.wq_core.specs.declared.step.Step.{Step}
use Rattle.wq_core.specs.Wiring.{own_lanes}
use Rattle.wq_core.specs.Workqueues.{Workqueues, all_rescued, wiring_of}
use Rattle.wq_core.specs.Deadlock.{IsSafe}
use Rattle.wq_deadlock.specs.Judging.{bare_waits}
use Rattle.wq_plan.specs.Plan.{IsPlan, chain_of_plan}
use Rattle.wq_hang.specs.declared.hop.Hop.{Hop}
use Rattle.wq_hang.specs.Answer.{IsHangOf}
use Rattle.wq_cert.specs.Texts.{workqueues_of_text, cert_refusal}
use Rattle.wq_names.specs.Names.{names_of}
use Rattle.wq_meter.specs.Shell.{Given}
use Rattle.wq_commands.specs.declared.end.End.{End}
use Rattle.wq_commands.specs.declared.end.End.TheVariants.{Good}
use Rattle.wq_commands.specs.declared.found.Found.{Found}
use Rattle.wq_commands.specs.declared.found.Found.TheVariants.{Read, Refused}
use Rattle.wq_commands.specs.declared.found.Which.TheVariants.{Certificate as SecondText}
use Rattle.wq_groups.specs.DeclaredGroups.{declared_waits, Declared}
use Rattle.wq_commands.specs.Answer.{PrintsRefusal}
use Rattle.wq_commands.specs.Declaration.{declaration}
use Rattle.wq_commands.specs.Found.{AnswersIn}
use Rattle.wq_circles.specs.Components.{AreComponents}
use Rattle.wq_dot.specs.declared.dotting.Drawn.{Drawn}
use Rattle.wq_dot.specs.declared.look.FlushLook.{FlushLook}
use Rattle.wq_dot.specs.declared.look.FlushLook.TheVariants.{Bold}
use Rattle.wq_voice.specs.Unsure.{unsure_count}
use Rattle.wq_dot.specs.Tooltips.{comments_of}
use Rattle.wq_dot.specs.Drawing.{drawing_text}
use Rattle.wq_dot.specs.Flushes.{all_arcs, bold_red, looks_of, marked, red_looks_of}

-- ---- titles

-- a space, a number and the noun that it counts: ` 1 wait`, ` 2 waits`
abbrev pub counted : ℕ → List ℕ → List ℕ
counted n thing = spaced (decimal n) ++ codes " " ++ thing ++ cond (n == 1) [] (codes "s")

-- how many waits are bold
abbrev pub bold_text : ℕ → List ℕ
bold_text n = if n == 0 then [] else codes "," ++ counted n (codes "wait") ++ codes " in bold"

-- how many flushes are unsure
abbrev pub unsure_text : ℕ → List ℕ
unsure_text unsure = if unsure == 0 then [] else codes "," ++ spaced (decimal unsure) ++ codes " not sure"

-- the legend of bold waits of a plan, if there are any. Each line of a legend ends with `\l`, as Graphviz wants it
abbrev pub bold_legend : ℕ → List ℕ
bold_legend n = if n == 0 then [] else codes "\\lBold: the chain that needs so many workqueues."

-- the legend of dotted arrows, if any flush is unsure
abbrev pub dotted_legend : ℕ → List ℕ
dotted_legend unsure = if unsure == 0 then [] else codes "\\lDotted: not sure."

-- the end of the last line of the legend of a plan, if there is one
abbrev pub plan_end : ℕ → ℕ → List ℕ
plan_end bold unsure = if (bold == 0) && (unsure == 0) then [] else codes "\\l"

-- `plan of K workqueues`, and what is said of the bold waits and the unsure flushes
abbrev pub plan_title : ℕ → ℕ → ℕ → List ℕ
plan_title workqueues bold unsure =
    codes "plan of" ++ counted workqueues (codes "workqueue") ++ bold_text bold ++ unsure_text unsure
    ++ bold_legend bold ++ dotted_legend unsure ++ plan_end bold unsure

-- how many of the red waits lead to no rescuer
abbrev pub leading_text : ℕ → List ℕ
leading_text leading = if leading == 0 then [] else codes "," ++ spaced (decimal leading) ++ codes " to no rescuer"

-- the work that red waits wait for, given how many of how many lead to no rescuer; the others lie on a circle
abbrev pub awaited : ℕ → ℕ → List ℕ
awaited leading red =
    if leading == 0 then codes "only it, or one that waits for it, can do"
    else (if leading == red then codes "no rescuer does"
    else codes "only it, or one that waits for it, can do,\\lor that no rescuer does")

-- how many of the red waits are bold, if not all are
abbrev pub shortest_text : ℕ → ℕ → List ℕ
shortest_text red bold = if red == bold then [] else codes "," ++ spaced (decimal bold) ++ codes " in bold"

-- the legend of bold waits, if not all red waits are bold
abbrev pub shortest_legend : ℕ → ℕ → List ℕ
shortest_legend red bold = if red == bold then [] else codes "\\lBold: enough to hang it, in the fewest steps."

-- the legend of red waits
abbrev pub red_legend : ℕ → ℕ → List ℕ
red_legend leading red =
    codes "\\lRed: while memory is short, a worker may wait for work\\lthat " ++ awaited leading red ++ codes "."

-- `safe` if no wait is red, or else what hangs and the number of red waits
abbrev pub red_text : List ℕ → ℕ → ℕ → ℕ → List ℕ
red_text hanging leading red bold =
    if red == 0 then codes "safe"
    else hanging ++ codes "," ++ counted red (codes "wait") ++ codes " in red" ++ leading_text leading
    ++ shortest_text red bold

-- the legend of red waits and of bold ones, if there are any
abbrev pub red_legends : ℕ → ℕ → ℕ → List ℕ
red_legends leading red bold = if red == 0 then [] else red_legend leading red ++ shortest_legend red bold

-- some workqueue has no rescuer
abbrev pub some_bare : List Bool → Bool
some_bare bare = list_any (λ b. b) bare

-- the legend of dashed frames, if there is one
abbrev pub dashed_legend : List Bool → List ℕ
dashed_legend bare =
    if some_bare bare
    then codes "\\lDashed: no rescuer. While memory is short, nothing\\lguarantees that work there runs." else []

-- the end of the last line of a legend, if there is one
abbrev pub legend_end : List Bool → ℕ → ℕ → List ℕ
legend_end bare red unsure = if red == 0 && (not (some_bare bare) && (unsure == 0)) then [] else codes "\\l"

-- the title of a drawing of workqueues, given how many waits are red, how many of these lead to no rescuer, how many
-- are bold, and how many flushes are unsure
abbrev pub circles_title : List ℕ → ℕ → List Bool → ℕ → ℕ → ℕ → List ℕ
circles_title hanging leading bare red bold unsure =
    red_text hanging leading red bold ++ unsure_text unsure ++ red_legends leading red bold ++ dashed_legend bare
    ++ dotted_legend unsure ++ legend_end bare red unsure

-- ---- drawings

-- how the flushes of what is declared look: the flushes of these arcs have this look, the others are plain
abbrev pub declared_looks : Declared → FlushLook → List WaitArc → List FlushLook
declared_looks s look arcs = looks_of (flush_count s.table.waits) look arcs

-- the drawing of what is declared, on these workqueues with these names, with these
-- looks and comments; the title is made of the looks
abbrev pub drawing_of : Declared → Workqueues → List (List ℕ) → (List FlushLook → List ℕ) → List FlushLook
    → List (List ℕ) → List ℕ
drawing_of s ws called title looks comments = drawing_text s.table s.partition ws called (title looks) looks comments

-- the plan is drawn; the flushes along the chain of its plan text are bold
pub record DrawsPlan (s : Declared) (comments : List (List ℕ)) (out : List ℕ) : Type 0 where
  pub assignment : Assignment
  pub plan : IsPlan (declared_waits s) assignment
  pub drawn : out
      ≡ drawing_of s (all_rescued assignment) []
      (λ looks. plan_title assignment.lanes (marked looks) (unsure_count s.table.waits))
      (declared_looks s Bold (chain_of_plan (declared_waits s) assignment.lane_of_group)) comments

-- the flushes that are on a circle, of these components, and those that lead to a workqueue without a rescuer
abbrev pub hanging_arcs : Declared → Workqueues → List (List WaitArc) → List WaitArc
hanging_arcs s ws components = all_arcs components ++ bare_waits (declared_waits s) ws

-- these are the waits of a shortest run of the workqueues that ends stuck, in the walk that has this run; none if no
-- run ends stuck
abbrev pub AreShortest : Declaration → Workqueues → List Hop → Type 0
AreShortest d ws hops = (IsSafe (wiring_of d ws) × (hops ≡ [])) ⊎ ((steps : List Step) × IsHangOf d ws hops steps)

-- how the flushes of what is declared look: the flushes of these waits are bold red; of the others, the flushes of
-- these arcs are red
abbrev pub hanging_looks : Declared → List Hop → List WaitArc → List FlushLook
hanging_looks s hops arcs = red_looks_of (flush_count s.table.waits) hops arcs

-- workqueues with these names are drawn: the flushes on a circle are red, and so are those that lead to a workqueue
-- without a rescuer, and if there are any, this is what hangs; the flushes of `hops`, which are the waits of a shortest
-- run that ends stuck, are bold red
pub record DrawsCircles (s : Declared) (comments : List (List ℕ)) (ws : Workqueues) (called : List (List ℕ))
    (hanging : List ℕ) (hops : List Hop) (out : List ℕ) : Type 0 where
  pub components : List (List WaitArc)
  pub are : AreComponents (declared_waits s) ws components
  pub shortest : AreShortest (declared_waits s) ws hops
  pub drawn : out
      ≡ drawing_of s ws called
      (λ looks.
      circles_title hanging (length (bare_waits (declared_waits s) ws)) ws.bare (marked looks) (bold_red looks)
      (unsure_count s.table.waits))
      (hanging_looks s hops (hanging_arcs s ws components)) comments

-- the groups of a declaration are drawn, with the comments of its flushes: on the workqueues of their plan or, if they
-- wait in a circle, each on its own workqueue; in that case these are the waits of a shortest run that ends stuck
abbrev pub DrawsGroups : Declared → List (List ℕ) → List Hop → List ℕ → Type 0
DrawsGroups s comments hops out =
    DrawsPlan s comments out
    ⊎ (HasCircle (GroupWaits (declared_waits s)) s.partition.groups
    × DrawsCircles s comments (all_rescued (own_lanes s.partition.groups)) []
    (codes "every assignment can hang") hops out)

-- ---- answers in which, if something hangs, the flushes of these waits are bold red

-- the answer to workqueues of a declaration's groups, with these names
abbrev pub DrawsAssigned : Declared → List (List ℕ) → Workqueues → List (List ℕ) → List Hop → End → List ℕ → Type 0
DrawsAssigned s comments ws called hops end out =
    (end ≡ Good) × DrawsCircles s comments ws called (codes "can hang") hops out

-- the answer to the text of an assignment of a declaration, in which the workqueues have their names, or its refusal
abbrev pub DrawsDeclared : Declared → List (List ℕ) → List ℕ → List Hop → End → List ℕ → Type 0
DrawsDeclared s comments text hops end out =
    MatchResult (workqueues_of_text s.table.names s.partition text)
    (λ ws. DrawsAssigned s comments ws (names_of text) hops end out)
    (λ fault. PrintsRefusal (cert_refusal fault) end out)

-- the answer to the texts of a declaration and an assignment: a refusal of the declaration comes first
abbrev pub DrawsBy : List Hop → List ℕ → List ℕ → End → List ℕ → Type 0
DrawsBy hops declared text end out =
    MatchResult (declaration declared)
    (λ s. DrawsDeclared s (comments_of declared) text hops end out)
    (λ r. PrintsRefusal r end out)

-- the answer to the groups of a declaration
abbrev pub DrawsOwn : Declared → List (List ℕ) → List Hop → End → List ℕ → Type 0
DrawsOwn s comments hops end out = (end ≡ Good) × DrawsGroups s comments hops out

-- the answer to the text of a declaration alone
abbrev pub OwnDrawsBy : List Hop → List ℕ → End → List ℕ → Type 0
OwnDrawsBy hops declared end out =
    MatchResult (declaration declared)
    (λ s. DrawsOwn s (comments_of declared) hops end out)
    (λ r. PrintsRefusal r end out)

-- ---- answers

-- the answer to the texts of a declaration and an assignment
abbrev pub Draws : List ℕ → List ℕ → End → List ℕ → Type 0
Draws declared text end out = (hops : List Hop) × DrawsBy hops declared text end out

-- the answer to the text of a declaration alone
abbrev pub OwnDraws : List ℕ → End → List ℕ → Type 0
OwnDraws declared end out = (hops : List Hop) × OwnDrawsBy hops declared end out

-- ---- what is found, and drawn

-- the waits whose flushes are bold red are found, and this is drawn for them
abbrev pub FindsDrawing : {A : Type 0} → (List Hop → End → List ℕ → Type 0) → Found (Drawn A) → End → List ℕ → Type 0
FindsDrawing {A} Draws found end out = (drawn : Drawn A) × (found ≡ Read drawn) × Draws drawn.waits.items end out

-- the workqueues with this text
abbrev pub DrawsText : {A : Type 0} → Declared → List (List ℕ) → List ℕ → Found (Drawn A) → End → List ℕ → Type 0
DrawsText s comments text =
    AnswersIn SecondText (workqueues_of_text s.table.names s.partition text)
    (λ ws. FindsDrawing (λ hops. DrawsAssigned s comments ws (names_of text) hops))

-- ---- the command, with an assignment or without one

-- what the command finds in what is declared, with these comments, and in the texts after it; and its answer
abbrev pub DrawsCommented : {A : Type 0} → Bool → Declared → List (List ℕ) → Given → Found (Drawn A) → End → List ℕ
    → Type 0
DrawsCommented true s comments texts = DrawsText s comments texts.second
DrawsCommented false s comments texts = FindsDrawing (DrawsOwn s comments)

-- what the command finds in texts, the first of which declares this; and its answer
abbrev pub DrawsTexts : {A : Type 0} → Bool → Declared → Given → Found (Drawn A) → End → List ℕ → Type 0
DrawsTexts assigned s texts found end out =
    declaration texts.first ≡ Ok s → DrawsCommented assigned s (comments_of texts.first) texts found end out

-- if a drawing is found, its bold red flushes are the flushes of these waits
abbrev pub IsFor : {A : Type 0} → List Hop → Found (Drawn A) → Type 0
IsFor hops (Read drawn) = drawn.waits.items ≡ hops
IsFor hops (Refused which code line) = Unit {0}

-- what the command finds in texts, the first of which declares this, if these are the waits whose flushes are bold red;
-- and its answer
abbrev pub DrawsTextsBy : {A : Type 0} → List Hop → Bool → Declared → Given → Found (Drawn A) → End → List ℕ → Type 0
DrawsTextsBy hops assigned s texts found end out = IsFor hops found × DrawsTexts assigned s texts found end out

-- the answer of the command to the texts
abbrev pub AnswersDot : Bool → Given → End → List ℕ → Type 0
AnswersDot true texts end out = Draws texts.first texts.second end out
AnswersDot false texts end out = OwnDraws texts.first end out
