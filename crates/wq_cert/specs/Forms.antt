-- Forms: what the words of one line say, if they have the expected form. No keyword, number or name holds a byte that
-- is forbidden in a line, so a line with such a byte before its comment has no form.
use Rattle.std.specs.Prelude.{ℕ, ◌^◌, ◌&&◌, nat_lt, if◌then◌else◌, Bool, false, List, [], ◌∷◌, Option, Some, None}
use Rattle.std.specs.Prelude.{option_map, option_and_then, bytes_eq, codes, decimal}
use Rattle.std.specs.Option.{option_zip}
use Rattle.std.specs.Str.Parse.{digits_value}
use Rattle.wq_items.specs.Table.{item_named}
use Rattle.wq_core.specs.declared.step.Step.{Step}
use Rattle.wq_core.specs.declared.step.Step.TheVariants.{Queue, Cancel, Start, Wait, Over, WaitAll, OverAll, Finish}

-- the number whose one spelling a word is: `0`, or a digit from 1 to 9 followed by digits; at most 4,294,967,295
abbrev pub number_of : List ℕ → Option ℕ
number_of word =
    let n = digits_value 10 word in
    if bytes_eq word (decimal n) && nat_lt n (2 ^ 32) then Some n else None

-- the items with these names, if each is declared
abbrev pub items_of : List (List ℕ) → List (List ℕ) → Option (List ℕ)
items_of names [] = Some []
items_of names (word ∷ words) =
    option_map (λ (p : ℕ × List ℕ). p.0 ∷ p.1) (option_zip (item_named names word) (items_of names words))

-- whether the first word is this one
abbrev pub begins_with : List ℕ → List (List ℕ) → Bool
begins_with keyword [] = false
begins_with keyword (word ∷ words) = bytes_eq word keyword

-- `KEYWORD N`: the number
abbrev pub count_form : List ℕ → List (List ℕ) → Option ℕ
count_form keyword [] = None
count_form keyword (word ∷ []) = None
count_form keyword (word ∷ number ∷ []) = if bytes_eq word keyword then number_of number else None
count_form keyword (word ∷ number ∷ more ∷ words) = None

-- `wq Q NAME..`: the number and the items, of which there may be none
abbrev pub wq_form : List (List ℕ) → List (List ℕ) → Option (ℕ × List ℕ)
wq_form names [] = None
wq_form names (word ∷ []) = None
wq_form names (word ∷ number ∷ items) =
    if bytes_eq word (codes "wq") then option_zip (number_of number) (items_of names items) else None

-- `arc NAME TARGET`: the item and the target
abbrev pub arc_form : List (List ℕ) → List (List ℕ) → Option (ℕ × ℕ)
arc_form names [] = None
arc_form names (word ∷ []) = None
arc_form names (word ∷ item ∷ []) = None
arc_form names (word ∷ item ∷ target ∷ []) =
    if bytes_eq word (codes "arc") then option_zip (item_named names item) (item_named names target) else None
arc_form names (word ∷ item ∷ target ∷ more ∷ words) = None

-- `queue NAME` or `cancel NAME`: the step
abbrev pub item_step : List ℕ → ℕ → Option Step
item_step word item =
    if bytes_eq word (codes "queue") then Some (Queue item)
    else (if bytes_eq word (codes "cancel") then Some (Cancel item) else None)

-- `start Q NAME`, `wait Q TARGET`, `over Q TARGET`, `waitwq Q TARGET`, `overwq Q TARGET` or `finish Q NAME`: the step
abbrev pub lane_step : List ℕ → ℕ → ℕ → Option Step
lane_step word lane item =
    if bytes_eq word (codes "start") then Some (Start lane item)
    else (if bytes_eq word (codes "wait") then Some (Wait lane item)
    else (if bytes_eq word (codes "over") then Some (Over lane item)
    else (if bytes_eq word (codes "waitwq") then Some (WaitAll lane item)
    else (if bytes_eq word (codes "overwq") then Some (OverAll lane item)
    else (if bytes_eq word (codes "finish") then Some (Finish lane item) else None)))))

-- the step that the words of a line say
abbrev pub step_form : List (List ℕ) → List (List ℕ) → Option Step
step_form names [] = None
step_form names (word ∷ []) = None
step_form names (word ∷ item ∷ []) = option_and_then (item_step word) (item_named names item)
step_form names (word ∷ lane ∷ item ∷ []) =
    option_and_then (λ (p : ℕ × ℕ). lane_step word p.0 p.1) (option_zip (number_of lane) (item_named names item))
step_form names (word ∷ lane ∷ item ∷ more ∷ words) = None
