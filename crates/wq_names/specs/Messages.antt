-- The messages of standard error, of what stands in each. tests/docs/made.py makes this file from
-- docs/tables/messages.txt.
use Rattle.std.specs.Prelude.{ℕ, List, ◌++◌, codes}

-- an item
-- "`{name}`"
abbrev pub an_item : List ℕ → List ℕ
an_item name = (codes "`" ++ name) ++ codes "`"

-- a workqueue: its number, followed by its name if it has one
-- "workqueue {number}{called}"
abbrev pub a_workqueue : List ℕ → List ℕ → List ℕ
a_workqueue number called = (codes "workqueue " ++ number) ++ called

-- the name of a workqueue, after its number or after an item on it
-- " ({name})"
abbrev pub its_name : List ℕ → List ℕ
its_name name = (codes " (" ++ name) ++ codes ")"

-- the first line of what is said about a place in a file
-- "{file}{place}: {what}"
abbrev pub at_place : List ℕ → List ℕ → List ℕ → List ℕ
at_place file place what = ((file ++ place) ++ codes ": ") ++ what

-- the first line of what is said about a place in a file, for an answer with a number
-- "{file}{place}: {what} [{word} {code}, `wqplan explain {code}`]"
abbrev pub answered : List ℕ → List ℕ → List ℕ → List ℕ → List ℕ → List ℕ
answered file place what word code =
    (((((((((file ++ place)
    ++ codes ": ") ++ what)
    ++ codes " [") ++ word)
    ++ codes " ") ++ code)
    ++ codes ", `wqplan explain ") ++ code)
    ++ codes "`]"

-- the first line of what is said about a place in a file, for a step that isn't lawful
-- "{file}{place}: {what} [not lawful {number}]"
abbrev pub answered_unlawful : List ℕ → List ℕ → List ℕ → List ℕ → List ℕ
answered_unlawful file place what number =
    (((((file ++ place)
    ++ codes ": ") ++ what)
    ++ codes " [not lawful ") ++ number)
    ++ codes "]"

-- a file can't be opened, read or written
-- "wqplan: {file}: {why}"
abbrev pub failed : List ℕ → List ℕ → List ℕ
failed file why = ((codes "wqplan: " ++ file) ++ codes ": ") ++ why

-- a declaration declares no item
-- "{file}: note: no item is declared: is this the right file?"
abbrev pub no_item : List ℕ → List ℕ
no_item file = file ++ codes ": note: no item is declared: is this the right file?"

-- a step names no item
-- "there is no such item"
abbrev pub no_such_item : List ℕ
no_such_item = codes "there is no such item"

-- the item can't be queued
-- "{item} is pending already"
abbrev pub is_pending : List ℕ → List ℕ
is_pending item = item ++ codes " is pending already"

-- the item can't be cancelled
-- "{item} isn't pending"
abbrev pub isnt_pending : List ℕ → List ℕ
isnt_pending item = item ++ codes " isn't pending"

-- the workqueue runs another item
-- "{workqueue} runs {item}"
abbrev pub runs : List ℕ → List ℕ → List ℕ
runs workqueue item = (workqueue ++ codes " runs ") ++ item

-- the workqueue has nothing to start
-- "nothing is pending on {workqueue}"
abbrev pub nothing_is_pending : List ℕ → List ℕ
nothing_is_pending workqueue = codes "nothing is pending on " ++ workqueue

-- the workqueue runs nothing
-- "nothing runs on {workqueue}"
abbrev pub nothing_runs : List ℕ → List ℕ
nothing_runs workqueue = codes "nothing runs on " ++ workqueue

-- a step names no workqueue
-- "there is no {workqueue}"
abbrev pub no_workqueue : List ℕ → List ℕ
no_workqueue workqueue = codes "there is no " ++ workqueue

-- another item comes first on the workqueue
-- "{item} isn't the first entry of {workqueue}, which is {first}"
abbrev pub isnt_first : List ℕ → List ℕ → List ℕ → List ℕ
isnt_first item workqueue first =
    (((item ++ codes " isn't the first entry of ") ++ workqueue)
    ++ codes ", which is ") ++ first

-- what runs on the workqueue waits for an item
-- "{item}, which runs on {workqueue}, waits for {target}"
abbrev pub runner_waits : List ℕ → List ℕ → List ℕ → List ℕ
runner_waits item workqueue target =
    (((item ++ codes ", which runs on ") ++ workqueue)
    ++ codes ", waits for ") ++ target

-- what runs on the workqueue waits for the whole workqueue of an item
-- "{item}, which runs on {workqueue}, waits for the workqueue of {target}{called}"
abbrev pub runner_waits_for_all : List ℕ → List ℕ → List ℕ → List ℕ → List ℕ
runner_waits_for_all item workqueue target called =
    ((((item ++ codes ", which runs on ") ++ workqueue)
    ++ codes ", waits for the workqueue of ") ++ target) ++ called

-- what runs on the workqueue declares no flush of the item
-- "{item}, which runs on {workqueue}, declares no flush of {target}"
abbrev pub declares_no_flush : List ℕ → List ℕ → List ℕ → List ℕ
declares_no_flush item workqueue target =
    (((item ++ codes ", which runs on ") ++ workqueue)
    ++ codes ", declares no flush of ") ++ target

-- what runs on the workqueue declares no flush of the item's whole workqueue
-- "{item}, which runs on {workqueue}, declares no `flushwq` of {target}"
abbrev pub declares_no_flushwq : List ℕ → List ℕ → List ℕ → List ℕ
declares_no_flushwq item workqueue target =
    (((item ++ codes ", which runs on ") ++ workqueue)
    ++ codes ", declares no `flushwq` of ") ++ target

-- what runs on the workqueue has made as many waits as it declares flushes
-- "{item}, which runs on {workqueue}, has made all of its waits: {number}"
abbrev pub has_made_all : List ℕ → List ℕ → List ℕ → List ℕ
has_made_all item workqueue number =
    (((item ++ codes ", which runs on ") ++ workqueue)
    ++ codes ", has made all of its waits: ") ++ number

-- what runs on the workqueue is awake
-- "{item}, which runs on {workqueue}, doesn't wait"
abbrev pub doesnt_wait : List ℕ → List ℕ → List ℕ
doesnt_wait item workqueue = ((item ++ codes ", which runs on ") ++ workqueue) ++ codes ", doesn't wait"

-- an entry of the item is from before the wait
-- "an entry of {item} from before this wait is unfinished"
abbrev pub is_unfinished : List ℕ → List ℕ
is_unfinished item = (codes "an entry of " ++ item) ++ codes " from before this wait is unfinished"

-- an entry on the whole workqueue of the item is from before the wait
-- "an entry from before this wait is unfinished on the workqueue of {item}{called}"
abbrev pub one_is_unfinished : List ℕ → List ℕ → List ℕ
one_is_unfinished item called =
    (codes "an entry from before this wait is unfinished on the workqueue of " ++ item) ++ called

-- before the first wait of a circular wait, and before a flush that leads to no rescuer
-- "can hang: "
abbrev pub can_hang : List ℕ
can_hang = codes "can hang: "

-- before the first wait of a circular wait that `plan` answers
-- "can hang on any workqueues: "
abbrev pub can_hang_on_any : List ℕ
can_hang_on_any = codes "can hang on any workqueues: "

-- before the first wait of a circular wait, or a flush that leads to no rescuer, if it is unsure
-- "can hang if this is so: "
abbrev pub can_hang_if : List ℕ
can_hang_if = codes "can hang if this is so: "

-- before the first wait of a circular wait that `plan` answers, if it is unsure
-- "can hang on any workqueues if this is so: "
abbrev pub can_hang_on_any_if : List ℕ
can_hang_on_any_if = codes "can hang on any workqueues if this is so: "

-- before each further wait of a circular wait
-- "and "
abbrev pub and_further : List ℕ
and_further = codes "and "

-- before each further wait of a circular wait, if it is unsure
-- "and if this is so: "
abbrev pub and_further_if : List ℕ
and_further_if = codes "and if this is so: "

-- a workqueue without a rescuer
-- "{workqueue} has no rescuer"
abbrev pub has_no_rescuer : List ℕ → List ℕ
has_no_rescuer workqueue = workqueue ++ codes " has no rescuer"

-- an item waits for one on a workqueue without a rescuer
-- "{item}, on {workqueue}, waits for {target}, which nothing guarantees to run: {other} has no rescuer"
abbrev pub waits_for_bare : List ℕ → List ℕ → List ℕ → List ℕ → List ℕ
waits_for_bare item workqueue target other =
    ((((((item ++ codes ", on ") ++ workqueue)
    ++ codes ", waits for ") ++ target)
    ++ codes ", which nothing guarantees to run: ") ++ other)
    ++ codes " has no rescuer"

-- an item waits for a whole workqueue without a rescuer
-- "{item}, on {workqueue}, waits for the workqueue of {target}, which nothing guarantees to run: {other} has no
-- rescuer"
abbrev pub waits_for_all_of_bare : List ℕ → List ℕ → List ℕ → List ℕ → List ℕ
waits_for_all_of_bare item workqueue target other =
    ((((((item ++ codes ", on ") ++ workqueue)
    ++ codes ", waits for the workqueue of ") ++ target)
    ++ codes ", which nothing guarantees to run: ") ++ other)
    ++ codes " has no rescuer"

-- an item waits for the one that waits next
-- "{item}, on {workqueue}, waits for {target}, which waits on {other}"
abbrev pub waits_for_next : List ℕ → List ℕ → List ℕ → List ℕ → List ℕ
waits_for_next item workqueue target other =
    (((((item ++ codes ", on ") ++ workqueue)
    ++ codes ", waits for ") ++ target)
    ++ codes ", which waits on ") ++ other

-- an item waits for itself
-- "{item}, on {workqueue}, waits for itself"
abbrev pub waits_for_itself : List ℕ → List ℕ → List ℕ
waits_for_itself item workqueue = ((item ++ codes ", on ") ++ workqueue) ++ codes ", waits for itself"

-- an item waits for one behind the one that waits next
-- "{item}, on {workqueue}, waits for {target}, which is behind {next} on {other}"
abbrev pub waits_for_behind : List ℕ → List ℕ → List ℕ → List ℕ → List ℕ → List ℕ
waits_for_behind item workqueue target next other =
    (((((((item ++ codes ", on ") ++ workqueue)
    ++ codes ", waits for ") ++ target)
    ++ codes ", which is behind ") ++ next)
    ++ codes " on ") ++ other

-- an item waits for one behind itself
-- "{item}, on {workqueue}, waits for {target}, which is behind it"
abbrev pub waits_for_behind_it : List ℕ → List ℕ → List ℕ → List ℕ
waits_for_behind_it item workqueue target =
    ((((item ++ codes ", on ") ++ workqueue)
    ++ codes ", waits for ") ++ target)
    ++ codes ", which is behind it"

-- an item waits for a whole workqueue, on which the next one waits
-- "{item}, on {workqueue}, waits for all of {other}, where {next} waits"
abbrev pub waits_for_all : List ℕ → List ℕ → List ℕ → List ℕ → List ℕ
waits_for_all item workqueue other next =
    ((((((item ++ codes ", on ") ++ workqueue)
    ++ codes ", waits for all of ") ++ other)
    ++ codes ", where ") ++ next)
    ++ codes " waits"

-- an item waits for its own whole workqueue
-- "{item}, on {workqueue}, waits for all of its workqueue"
abbrev pub waits_for_all_of_its_own : List ℕ → List ℕ → List ℕ
waits_for_all_of_its_own item workqueue =
    ((item ++ codes ", on ") ++ workqueue)
    ++ codes ", waits for all of its workqueue"

-- the first wait where an item that must go on is held up: it waits itself
-- "{item} is held up: on {workqueue}, it {rest}"
abbrev pub held_on : List ℕ → List ℕ → List ℕ → List ℕ
held_on item workqueue rest = (((item ++ codes " is held up: on ") ++ workqueue) ++ codes ", it ") ++ rest

-- the same, where the flush is unsure
-- "{item} is held up, if this is so: on {workqueue}, it {rest}"
abbrev pub held_on_if : List ℕ → List ℕ → List ℕ → List ℕ
held_on_if item workqueue rest =
    (((item ++ codes " is held up, if this is so: on ") ++ workqueue)
    ++ codes ", it ") ++ rest

-- the same, where another item waits in front of it
-- "{item} is held up: it is behind {first} on {workqueue}, which {rest}"
abbrev pub held_behind : List ℕ → List ℕ → List ℕ → List ℕ → List ℕ
held_behind item first workqueue rest =
    (((((item ++ codes " is held up: it is behind ") ++ first)
    ++ codes " on ") ++ workqueue)
    ++ codes ", which ") ++ rest

-- the same, where the flush is unsure
-- "{item} is held up, if this is so: it is behind {first} on {workqueue}, which {rest}"
abbrev pub held_behind_if : List ℕ → List ℕ → List ℕ → List ℕ → List ℕ
held_behind_if item first workqueue rest =
    (((((item ++ codes " is held up, if this is so: it is behind ") ++ first)
    ++ codes " on ") ++ workqueue)
    ++ codes ", which ") ++ rest

-- an item that must go on is on a workqueue without a rescuer
-- "{item} is held up: nothing guarantees that it runs: {workqueue} has no rescuer"
abbrev pub held_bare : List ℕ → List ℕ → List ℕ
held_bare item workqueue =
    ((item ++ codes " is held up: nothing guarantees that it runs: ") ++ workqueue)
    ++ codes " has no rescuer"

-- behind `held_behind`: the item in front waits for the one that must go on
-- "waits for it"
abbrev pub rest_for_it : List ℕ
rest_for_it = codes "waits for it"

-- behind these: an item waits for one on a workqueue without a rescuer
-- "waits for {target}, which nothing guarantees to run: {other} has no rescuer"
abbrev pub rest_bare : List ℕ → List ℕ → List ℕ
rest_bare target other =
    (((codes "waits for " ++ target)
    ++ codes ", which nothing guarantees to run: ") ++ other)
    ++ codes " has no rescuer"

-- behind these: an item waits for a whole workqueue without a rescuer
-- "waits for the workqueue of {target}, which nothing guarantees to run: {other} has no rescuer"
abbrev pub rest_all_of_bare : List ℕ → List ℕ → List ℕ
rest_all_of_bare target other =
    (((codes "waits for the workqueue of " ++ target)
    ++ codes ", which nothing guarantees to run: ") ++ other)
    ++ codes " has no rescuer"

-- behind these: an item waits for the one that waits next
-- "waits for {target}, which waits on {other}"
abbrev pub rest_next : List ℕ → List ℕ → List ℕ
rest_next target other = ((codes "waits for " ++ target) ++ codes ", which waits on ") ++ other

-- behind these: an item waits for itself
-- "waits for itself"
abbrev pub rest_itself : List ℕ
rest_itself = codes "waits for itself"

-- behind these: an item waits for one behind the one that waits next
-- "waits for {target}, which is behind {next} on {other}"
abbrev pub rest_behind : List ℕ → List ℕ → List ℕ → List ℕ
rest_behind target next other =
    ((((codes "waits for " ++ target)
    ++ codes ", which is behind ") ++ next)
    ++ codes " on ") ++ other

-- behind these: an item waits for one behind itself
-- "waits for {target}, which is behind it"
abbrev pub rest_behind_it : List ℕ → List ℕ
rest_behind_it target = (codes "waits for " ++ target) ++ codes ", which is behind it"

-- behind these: an item waits for a whole workqueue, on which the next one waits
-- "waits for all of {other}, where {next} waits"
abbrev pub rest_all : List ℕ → List ℕ → List ℕ
rest_all other next = (((codes "waits for all of " ++ other) ++ codes ", where ") ++ next) ++ codes " waits"

-- behind these: an item waits for its own whole workqueue
-- "waits for all of its workqueue"
abbrev pub rest_all_of_its_own : List ℕ
rest_all_of_its_own = codes "waits for all of its workqueue"

-- the note beside `safe` of items that must go on: nothing on the workqueue of this one waits
-- "{file}: note: nothing on the workqueue of {item} declares a flush. Does reclaim wait for its end, or for what
-- another item does?"
abbrev pub nothing_flushes_on : List ℕ → List ℕ → List ℕ
nothing_flushes_on file item =
    ((file ++ codes ": note: nothing on the workqueue of ") ++ item)
    ++ codes " declares a flush. Does reclaim wait for its end, or for what another item does?"

-- the same, of several items
-- "{file}: note: nothing on the workqueues of {items} declares a flush. Does reclaim wait for their ends, or for
-- what other items do?"
abbrev pub nothing_flushes_on_these : List ℕ → List ℕ → List ℕ
nothing_flushes_on_these file items =
    ((file ++ codes ": note: nothing on the workqueues of ") ++ items)
    ++ codes " declares a flush. Does reclaim wait for their ends, or for what other items do?"

-- the same note, where other items can hang
-- "{file}: note: nothing holds up what is named; other items can hang: ask without a NAME"
abbrev pub others_can_hang : List ℕ → List ℕ
others_can_hang file =
    file ++ codes ": note: nothing holds up what is named; other items can hang: ask without a NAME"

-- in words of groups: an item waits for the one that waits next
-- "{item} waits for {target}, which waits"
abbrev pub group_waits_for_next : List ℕ → List ℕ → List ℕ
group_waits_for_next item target = ((item ++ codes " waits for ") ++ target) ++ codes ", which waits"

-- in words of groups: an item waits for itself
-- "{item} waits for itself"
abbrev pub group_waits_for_itself : List ℕ → List ℕ
group_waits_for_itself item = item ++ codes " waits for itself"

-- in words of groups: an item waits for one behind the one that waits next
-- "{item} waits for {target}, which is behind {next}: they are `ordered`"
abbrev pub group_waits_for_behind : List ℕ → List ℕ → List ℕ → List ℕ
group_waits_for_behind item target next =
    ((((item ++ codes " waits for ") ++ target)
    ++ codes ", which is behind ") ++ next)
    ++ codes ": they are `ordered`"

-- in words of groups: an item waits for one behind itself
-- "{item} waits for {target}, which is behind it: they are `ordered`"
abbrev pub group_waits_for_behind_it : List ℕ → List ℕ → List ℕ
group_waits_for_behind_it item target =
    ((item ++ codes " waits for ") ++ target)
    ++ codes ", which is behind it: they are `ordered`"

-- in words of groups: an item waits for a whole workqueue, on which the next one waits
-- "{item} waits for the workqueue of {target}, where {next} waits"
abbrev pub group_waits_for_all : List ℕ → List ℕ → List ℕ → List ℕ
group_waits_for_all item target next =
    ((((item ++ codes " waits for the workqueue of ") ++ target)
    ++ codes ", where ") ++ next)
    ++ codes " waits"

-- in words of groups: an item waits for its own whole workqueue
-- "{item} waits for its workqueue"
abbrev pub group_waits_for_all_of_its_own : List ℕ → List ℕ
group_waits_for_all_of_its_own item = item ++ codes " waits for its workqueue"

-- a workqueue is given a rescuer
-- "{workqueue} is given a rescuer"
abbrev pub is_given : List ℕ → List ℕ
is_given workqueue = workqueue ++ codes " is given a rescuer"

-- a group moves from one workqueue to another
-- "{item} moves from {workqueue} to {other}"
abbrev pub moves : List ℕ → List ℕ → List ℕ → List ℕ
moves item workqueue other = (((item ++ codes " moves from ") ++ workqueue) ++ codes " to ") ++ other

-- a group of several items: the first of them, and how many more there are
-- "{item}, with {number} more of its group,"
abbrev pub with_more : List ℕ → List ℕ → List ℕ
with_more item number = ((item ++ codes ", with ") ++ number) ++ codes " more of its group,"

-- a workqueue that the assignment doesn't have
-- "{workqueue}, a new one"
abbrev pub a_new_one : List ℕ → List ℕ
a_new_one workqueue = workqueue ++ codes ", a new one"

-- a workqueue to which a group moves, and which is given a rescuer
-- "{workqueue}, which is given a rescuer"
abbrev pub which_is_given : List ℕ → List ℕ
which_is_given workqueue = workqueue ++ codes ", which is given a rescuer"

-- before the waits by which the workqueues hang without a rescuer
-- "without one: "
abbrev pub without_one : List ℕ
without_one = codes "without one: "

-- before the waits by which the workqueues hang without a rescuer, if the first is unsure
-- "without one, if this is so: "
abbrev pub without_one_if : List ℕ
without_one_if = codes "without one, if this is so: "

-- before the waits by which the workqueues hang if a group doesn't move
-- "if it stayed: "
abbrev pub if_it_stayed : List ℕ
if_it_stayed = codes "if it stayed: "

-- before the waits by which the workqueues hang if a group doesn't move, if the first is unsure
-- "if it stayed and this is so: "
abbrev pub if_it_stayed_if : List ℕ
if_it_stayed_if = codes "if it stayed and this is so: "

-- beside the start of a repair by names
-- "{file}: note: wherever these items move, the workqueues can hang; the run is on these:"
abbrev pub names_are_too_few : List ℕ → List ℕ
names_are_too_few file =
    file ++ codes ": note: wherever these items move, the workqueues can hang; the run is on these:"

-- a NAME after `repair` is no item
-- "{file}: no item `{name}` is declared [refused 8, `wqplan explain 8`]"
abbrev pub unknown_item : List ℕ → List ℕ → List ℕ
unknown_item file name =
    ((file ++ codes ": no item `") ++ name)
    ++ codes "` is declared [refused 8, `wqplan explain 8`]"

-- the item whose name is most like a NAME after `repair`
-- "{file}: note: did you mean `{name}`?"
abbrev pub did_you_mean : List ℕ → List ℕ → List ℕ
did_you_mean file name = ((file ++ codes ": note: did you mean `") ++ name) ++ codes "`?"

-- an item on a workqueue without a rescuer
-- "{item} on {workqueue}"
abbrev pub item_on_workqueue : List ℕ → List ℕ → List ℕ
item_on_workqueue item workqueue = (item ++ codes " on ") ++ workqueue

-- the first line of the note beside `safe`
-- "{file}: note: nothing guarantees that these run while memory is short: {items}"
abbrev pub nothing_guarantees : List ℕ → List ℕ → List ℕ
nothing_guarantees file items =
    (file ++ codes ": note: nothing guarantees that these run while memory is short: ") ++ items

-- the second line of the note beside `safe`
-- "{file}: note: where reclaim waits for one of them, declare who waits: an item of its own, on a `wq` line,
-- that flushes it"
abbrev pub declare_who_waits : List ℕ → List ℕ
declare_who_waits file =
    (file ++ codes ": note: where reclaim waits for one of them, declare who waits: an item of its ")
    ++ codes "own, on a `wq` line, that flushes it"

-- beside `safe` of a declaration with several unsure lines
-- "{file}: note: safe whatever the {all} unsure lines turn out to be"
abbrev pub safe_whatever : List ℕ → List ℕ → List ℕ
safe_whatever file all =
    ((file ++ codes ": note: safe whatever the ") ++ all)
    ++ codes " unsure lines turn out to be"

-- beside `safe` of a declaration with one unsure line
-- "{file}: note: safe whatever the 1 unsure line turns out to be"
abbrev pub safe_whatever_one : List ℕ → List ℕ
safe_whatever_one file = file ++ codes ": note: safe whatever the 1 unsure line turns out to be"

-- beside `unsure 0`
-- "{file}: note: hangs for sure: no unsure line is needed"
abbrev pub hangs_for_sure : List ℕ → List ℕ
hangs_for_sure file = file ++ codes ": note: hangs for sure: no unsure line is needed"

-- beside an unsure part of several lines
-- "{file}: note: {count} of these waits aren't decided. Take a line away if it isn't so, or its `?` if it is,
-- and ask again"
abbrev pub arent_decided : List ℕ → List ℕ → List ℕ
arent_decided file count =
    (((file ++ codes ": note: ") ++ count)
    ++ codes " of these waits aren't decided. Take a line away if it isn't so, or its `?` if ")
    ++ codes "it is, and ask again"

-- beside an unsure part of one line
-- "{file}: note: 1 of these waits isn't decided. Take a line away if it isn't so, or its `?` if it is, and ask
-- again"
abbrev pub isnt_decided : List ℕ → List ℕ
isnt_decided file =
    (file ++ codes ": note: 1 of these waits isn't decided. Take a line away if it isn't so, or its ")
    ++ codes "`?` if it is, and ask again"

-- unsure lines that `circles` leaves out
-- "{file}: note: {count} of {all} make no difference {place}: lines {lines}"
abbrev pub make_no_difference : List ℕ → List ℕ → List ℕ → List ℕ → List ℕ → List ℕ
make_no_difference file count all place lines =
    (((((((file ++ codes ": note: ") ++ count)
    ++ codes " of ") ++ all)
    ++ codes " make no difference ") ++ place)
    ++ codes ": lines ") ++ lines

-- one unsure line that `circles` leaves out
-- "{file}: note: 1 of {all} makes no difference {place}: line {line}"
abbrev pub makes_no_difference : List ℕ → List ℕ → List ℕ → List ℕ → List ℕ
makes_no_difference file all place line =
    (((((file ++ codes ": note: 1 of ") ++ all)
    ++ codes " makes no difference ") ++ place)
    ++ codes ": line ") ++ line

-- how many unsure lines there are
-- "{count} unsure lines"
abbrev pub unsure_lines : List ℕ → List ℕ
unsure_lines count = count ++ codes " unsure lines"

-- how many unsure lines there are, if there is one
-- "1 unsure line"
abbrev pub unsure_line : List ℕ
unsure_line = codes "1 unsure line"

-- what unsure lines make no difference to, if workqueues are given
-- "on these workqueues"
abbrev pub on_these : List ℕ
on_these = codes "on these workqueues"

-- what unsure lines make no difference to, if no workqueues are given
-- "to whether there is a plan"
abbrev pub to_a_plan : List ℕ
to_a_plan = codes "to whether there is a plan"

-- the same, where items must go on
-- "to what is named"
abbrev pub to_what_is_named : List ℕ
to_what_is_named = codes "to what is named"

-- beside a plan whose chain has an unsure flush
-- "{file}: note: {count} workqueues are needed if these are so; without unsure lines {fewer} are enough:"
abbrev pub are_needed : List ℕ → List ℕ → List ℕ → List ℕ
are_needed file count fewer =
    ((((file ++ codes ": note: ") ++ count)
    ++ codes " workqueues are needed if these are so; without unsure lines ") ++ fewer)
    ++ codes " are enough:"

-- beside a plan whose chain has an unsure flush, if one workqueue would be enough without it
-- "{file}: note: {count} workqueues are needed if these are so; without unsure lines 1 is enough:"
abbrev pub are_needed_not_one : List ℕ → List ℕ → List ℕ
are_needed_not_one file count =
    ((file ++ codes ": note: ") ++ count)
    ++ codes " workqueues are needed if these are so; without unsure lines 1 is enough:"
