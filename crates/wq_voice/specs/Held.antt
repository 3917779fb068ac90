-- What is said of items that must go on: by which waits one of them is held up; or, beside `safe`, that nothing on
-- their workqueues waits, and that other items can hang.
use Rattle.std.specs.Prelude.{
  ◌≡◌,
  ◌⊎◌,
  ◌==◌,
  ◌&&◌,
  if◌then◌else◌,
  cond,
  ℕ,
  Bool,
  true,
  false,
  not,
  List,
  [],
  ◌∷◌,
  ◌++◌,
  length,
}
use Rattle.std.specs.Prelude.{Option, Some, None, filter, map, unwrap_or}
use Rattle.std.specs.List.{range_with_len}
use Rattle.wq_items.specs.Readings.{is_among}
use Rattle.wq_items.specs.Table.{targets_of}
use Rattle.wq_graph.specs.declared.arc.WaitArc.{WaitArc}
use Rattle.wq_core.specs.declared.step.Step.{Step}
use Rattle.wq_core.specs.Deadlock.{IsSafe}
use Rattle.wq_core.specs.MustGoOn.{IsSafeFor}
use Rattle.wq_core.specs.Workqueues.{Workqueues, wiring_of}
use Rattle.wq_deadlock.specs.Judging.{is_on_bare}
use Rattle.wq_hang.specs.declared.hop.Hop.{Hop}
use Rattle.wq_hang.specs.Answer.{IsHangOf}
use Rattle.wq_hang.specs.AnswerFor.{IsHeldBy}
use Rattle.wq_hang.specs.Walk.{needs}
use Rattle.wq_circles.specs.Held.{AreHeldCircles}
use Rattle.wq_cert.specs.Part.{has_unsure}
use Rattle.wq_names.specs.Messages.{hangs_for_sure, held_bare, held_behind, held_behind_if, held_on, held_on_if}
use Rattle.wq_names.specs.Messages.{nothing_flushes_on, nothing_flushes_on_these, others_can_hang, rest_all}
use Rattle.wq_names.specs.Messages.{rest_all_of_bare, rest_all_of_its_own, rest_bare, rest_behind, rest_behind_it}
use Rattle.wq_names.specs.Messages.{rest_for_it, rest_itself, rest_next, to_what_is_named}
use Rattle.wq_names.specs.Names.{names_of}
use Rattle.wq_groups.specs.DeclaredGroups.{declared_waits, Declared}
use Rattle.wq_diagnosis.specs.Diagnosis.{shown_lines}
use Rattle.wq_diagnosis.specs.Words.{item_words, workqueue_of}
use Rattle.wq_voice.specs.Note.{NotesBare, listed}
use Rattle.wq_voice.specs.Reasons.{AreSaid, IsSaidOf, and_lead, lead_for}
use Rattle.wq_voice.specs.Unsure.{IsNoDifference, above, safe_note, undecided_note}
use Rattle.wq_voice.specs.Waits.{home_words, words_of}
use Rattle.wq_voice.specs.declared.waits.Wording.TheVariants.{OnWorkqueues}

-- ---- who is held up

-- for what an item waits that is on a workqueue without a rescuer, behind words that name it
abbrev pub rest_of_bare : Declared → Workqueues → List (List ℕ) → Hop → List ℕ
rest_of_bare s ws names h =
    cond h.flush.whole (rest_all_of_bare (item_words s h.flush.item) (home_words s ws names h.flush.item))
    (rest_bare (item_words s h.flush.item) (home_words s ws names h.flush.item))

-- it waits for a whole workqueue
abbrev pub rest_of_whole : Declared → Workqueues → List (List ℕ) → Hop → List ℕ
rest_of_whole s ws names h =
    if h.next == h.item then rest_all_of_its_own
    else rest_all (home_words s ws names h.flush.item) (item_words s h.next)

-- it waits for the item that waits next
abbrev pub rest_of_next : Declared → Workqueues → List (List ℕ) → Hop → List ℕ
rest_of_next s ws names h =
    if h.next == h.item then rest_itself
    else rest_next (item_words s h.flush.item) (home_words s ws names h.flush.item)

-- it waits for one that is queued behind that
abbrev pub rest_of_behind : Declared → Workqueues → List (List ℕ) → Hop → List ℕ
rest_of_behind s ws names h =
    if h.next == h.item then rest_behind_it (item_words s h.flush.item)
    else rest_behind (item_words s h.flush.item) (item_words s h.next) (home_words s ws names h.flush.item)

-- for what an item waits, behind words that name it
abbrev pub rest_words : Declared → Workqueues → List (List ℕ) → Hop → List ℕ
rest_words s ws names h =
    if is_on_bare ws s.partition.group_of h.flush.item then rest_of_bare s ws names h
    else if h.flush.whole then rest_of_whole s ws names h
    else if h.flush.item == h.next then rest_of_next s ws names h
    else rest_of_behind s ws names h

-- the item waits for x alone, which is on a workqueue with a rescuer
abbrev pub waits_for_it : Declared → Workqueues → ℕ → Hop → Bool
waits_for_it s ws x h =
    not h.flush.whole && (h.flush.item == x) && not (is_on_bare ws s.partition.group_of h.flush.item)

-- the first that waits is held up itself
abbrev pub waits_words : Declared → Workqueues → List (List ℕ) → Hop → List ℕ
waits_words s ws names h =
    cond h.flush.unsure
    (held_on_if (item_words s h.item) (home_words s ws names h.item) (rest_words s ws names h))
    (held_on (item_words s h.item) (home_words s ws names h.item) (rest_words s ws names h))

-- for what the first that waits does, behind words that x is behind it
abbrev pub behind_rest : Declared → Workqueues → List (List ℕ) → ℕ → Hop → List ℕ
behind_rest s ws names x h = if waits_for_it s ws x h then rest_for_it else rest_words s ws names h

-- item x is held up behind the first that waits
abbrev pub behind_words : Declared → Workqueues → List (List ℕ) → ℕ → Hop → List ℕ
behind_words s ws names x h =
    cond h.flush.unsure
    (held_behind_if (item_words s x) (item_words s h.item) (home_words s ws names x) (behind_rest s ws names x h))
    (held_behind (item_words s x) (item_words s h.item) (home_words s ws names x) (behind_rest s ws names x h))

-- item x is held up: it waits itself, or is behind the first that waits
abbrev pub held_words : Declared → Workqueues → List (List ℕ) → ℕ → Hop → List ℕ
held_words s ws names x h =
    if h.item == x then waits_words s ws names h else behind_words s ws names x h

-- what is said of the waits of a walk that holds up x, one after another
abbrev pub held_told : Declared → Workqueues → List (List ℕ) → ℕ → List Hop → List (List ℕ)
held_told s ws names x [] = []
held_told s ws names x (h ∷ hops) =
    held_words s ws names x h
    ∷ map (λ (g : Hop). lead_for and_lead g ++ words_of OnWorkqueues s ws names g) hops

-- the waits of a walk that holds up x are said in the first file; without a wait, in the second, that the workqueue of
-- x has no rescuer
abbrev pub TellsWalk : List ℕ → List ℕ → Declared → Workqueues → List (List ℕ) → ℕ → List Hop → List ℕ → Type 0
TellsWalk first second s ws names x [] text =
    IsSaidOf second (held_bare (item_words s x) (home_words s ws names x)) text
TellsWalk first second s ws names x (h ∷ hops) text = AreSaid first (held_told s ws names x (h ∷ hops)) text

-- ---- unsure flushes

-- which unsure flushes make no difference to these items
abbrev pub MakeNoDifferenceTo : List ℕ → Declared → Workqueues → List ℕ → List ℕ → Type 0
MakeNoDifferenceTo file s ws named note =
    (components : List (List WaitArc)) × (waits : List WaitArc) × (ways : List WaitArc)
    × AreHeldCircles (declared_waits s) ws named components waits ways
    × IsNoDifference file to_what_is_named s components (waits ++ ways) note

-- of a run that needs these unsure flushes: that it hangs for sure if there are none; else how many aren't decided, and
-- which make no difference to these items
abbrev pub AreNotesFor : List ℕ → Declared → Workqueues → List ℕ → List ℕ → List ℕ → Type 0
AreNotesFor file s ws named [] notes = notes ≡ shown_lines (hangs_for_sure file ∷ [])
AreNotesFor file s ws named (place ∷ kept) notes =
    (idle : List ℕ) × MakeNoDifferenceTo file s ws named idle
    × (notes ≡ undecided_note file (length (place ∷ kept)) ++ idle)

-- the same of the waits of a run; nothing if no flush is unsure
abbrev pub AreHeldNotes : Bool → List ℕ → Declared → Workqueues → List ℕ → List Hop → List ℕ → Type 0
AreHeldNotes false file s ws named hops notes = notes ≡ []
AreHeldNotes true file s ws named hops notes = AreNotesFor file s ws named (needs hops) notes

-- how x, which is one of these items, is held up is said in these files, and behind that which unsure flushes matter
abbrev pub TellsHeld : List ℕ → List ℕ → List ℕ → Declared → Workqueues → List ℕ → ℕ → List Hop → List ℕ → Type 0
TellsHeld first second lanes s ws named x hops text =
    (reason : List ℕ) × (notes : List ℕ) × (text ≡ reason ++ notes)
    × TellsWalk first second s ws (names_of lanes) x hops reason
    × AreHeldNotes (has_unsure s.table.waits) first s ws named hops notes

-- how one of these items is held up soonest is said in these files; nothing if none can be
abbrev pub GivesHeld : List ℕ → List ℕ → List ℕ → Declared → Workqueues → List ℕ → Option (List ℕ) → Type 0
GivesHeld first second lanes s ws named None = IsSafeFor (wiring_of (declared_waits s) ws) named
GivesHeld first second lanes s ws named (Some text) =
    (x : ℕ) × (hops : List Hop) × (steps : List Step) × IsHeldBy (declared_waits s) ws named x hops steps
    × TellsWalk first second s ws (names_of lanes) x hops text

-- ---- beside `safe`

-- the items that declare a flush, in the order of their declaration
abbrev pub flushing_items : Declared → List ℕ
flushing_items s =
    filter (λ i. not (length (targets_of s.table.waits i) == 0)) (range_with_len 0 (length s.table.names))

-- an item on the workqueue of item i declares a flush
abbrev pub has_flush_on : Declared → Workqueues → ℕ → Bool
has_flush_on s ws i = is_among (map (workqueue_of s ws) (flushing_items s)) (workqueue_of s ws i)

-- those of these items on whose workqueues nothing declares a flush, in the order of their declaration
abbrev pub without_flushes : Declared → Workqueues → List ℕ → List ℕ
without_flushes s ws named =
    filter (λ i. is_among named i && not (has_flush_on s ws i)) (range_with_len 0 (length s.table.names))

-- that nothing on the workqueues of items with these words declares a flush; nothing if there are none
abbrev pub no_flush_words : List ℕ → List (List ℕ) → List ℕ
no_flush_words file [] = []
no_flush_words file (one ∷ []) = shown_lines (nothing_flushes_on file one ∷ [])
no_flush_words file (one ∷ other ∷ more) =
    shown_lines (nothing_flushes_on_these file (listed (one ∷ other ∷ more)) ∷ [])

-- `no_flush_words` of these items
abbrev pub no_flush_note : List ℕ → Declared → List ℕ → List ℕ
no_flush_note file s items = no_flush_words file (map (item_words s) items)

-- nothing if no run ends stuck; that other items can hang if one does
abbrev pub NotesOthers : List ℕ → Declared → Workqueues → List ℕ → Type 0
NotesOthers file s ws note =
    (IsSafe (wiring_of (declared_waits s) ws) × (note ≡ []))
    ⊎ (((hops : List Hop) × (steps : List Step) × IsHangOf (declared_waits s) ws hops steps)
    × (note ≡ shown_lines (others_can_hang file ∷ [])))

-- what is said, and below it these notes; just that if there are none
abbrev pub below : Option (List ℕ) → List ℕ → Option (List ℕ)
below said [] = said
below said (byte ∷ notes) = Some (unwrap_or said [] ++ (byte ∷ notes))

-- what is said beside `safe` of these items: as beside every `safe` of these workqueues; then on which workqueues
-- nothing declares a flush, and whether other items can hang
abbrev pub NotesNotHeld : List ℕ → List ℕ → List ℕ → Declared → Workqueues → List ℕ → Option (List ℕ) → Type 0
NotesNotHeld first second lanes s ws named said =
    (rest : Option (List ℕ)) × (others : List ℕ) × NotesBare first second lanes s ws rest
    × NotesOthers first s ws others
    × (said ≡ below (above (safe_note first s) rest) (no_flush_note first s (without_flushes s ws named) ++ others))
