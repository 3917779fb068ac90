-- What was packed is read back.
use Rattle.std.proofs.Common.{◌≡◌, ℕ, zero, suc, ◌*◌, true, false, List, [], ◌∷◌, ◌++◌, length, get_or, Option, Some, refl, sym, ◌∙◌, ap, arith, length-append}
use Rattle.std.specs.Prelude.{Bool, ◌==◌, option_map}
use Rattle.std.specs.Int.{w16, w32, to_le_bytes, from_le_bytes}
use Rattle.std.specs.Option.{option_to_list}
use Rattle.std.specs.List.{All}
use Rattle.std.proofs.lemmas.Nat.{from_le_bytes-to_le_bytes_2, from_le_bytes-to_le_bytes_4}
use Rattle.std.proofs.lemmas.Grind.{flat_map-append}
use Rattle.std.proofs.lemmas.List.{append-nil}
use Rattle.wq_core.specs.declared.step.HelpStep.{HelpStep}
use Rattle.wq_core.specs.declared.step.HelpStep.TheVariants.{Start as DoStart, Wait as DoWait, WaitAll as DoWaitAll, Over as DoOver, OverAll as DoOverAll, Finish as DoFinish}
use Rattle.wq_core.specs.Rules.{deed_item}
use Rattle.wq_rows.specs.declared.event.Event.{Event}
use Rattle.wq_rows.specs.declared.event.Event.TheVariants.{Queue, Cancel, Start, Wait, Over, Finish, Ask, Told, WaitAll, OverAll, AskLane, ToldLane, Help}
use Rattle.wq_rows.specs.declared.event.Row.{Row}
use Rattle.wq_rows.specs.Packing.{help_kind, kind_of, item_in, lane_in, helper_in, answer_byte, packed, packed_rows, HasHelperNumber, MayAnswer, IsRowInRange}
use Rattle.wq_rows.specs.Stored.{help_step_of, event_by, rows_of}

-- a helper's step is the one of its kind and item
help_step_of-same : (step : HelpStep) → help_step_of (help_kind step) (deed_item step) ≡ Some step
help_step_of-same (DoStart item) = refl
help_step_of-same (DoWait target) = refl
help_step_of-same (DoWaitAll target) = refl
help_step_of-same (DoOver target) = refl
help_step_of-same (DoOverAll target) = refl
help_step_of-same (DoFinish item) = refl

-- an event is the one of its kind, item, lane and helper
event_by-same : (event : Event) → HasHelperNumber event → event_by (kind_of event) (item_in event) (lane_in event) (helper_in event) ≡ Some event
event_by-same (Queue item) number = refl
event_by-same (Cancel item) number = refl
event_by-same (Start lane item) number = refl
event_by-same (Wait lane target) number = refl
event_by-same (Over lane target) number = refl
event_by-same (Finish lane item) number = refl
event_by-same (Ask item) number = refl
event_by-same (Told item) number = refl
event_by-same (WaitAll lane target) number = refl
event_by-same (OverAll lane target) number = refl
event_by-same (AskLane lane) number = refl
event_by-same (ToldLane lane) number = refl
event_by-same (Help lane zero step) number = absurd (omega (arith, number.0))
event_by-same (Help lane (suc h) step) number = ap (option_map (λ (one : HelpStep). Help lane (suc h) one)) (help_step_of-same step)

-- the number of a helper is in range
pub number-may : (event : Event) (said : Bool) → MayAnswer event said → HasHelperNumber event
number-may (Queue item) said may = tt
number-may (Cancel item) said may = tt
number-may (Start lane item) said may = tt
number-may (Wait lane target) said may = tt
number-may (Over lane target) said may = tt
number-may (Finish lane item) said may = tt
number-may (Ask item) said may = tt
number-may (Told item) said may = tt
number-may (WaitAll lane target) said may = tt
number-may (OverAll lane target) said may = tt
number-may (AskLane lane) said may = tt
number-may (ToldLane lane) said may = tt
number-may (Help lane helper step) said may = may.0

-- the byte of an answer is 1 exactly if the answer is yes
answer_byte-same : (said : Bool) → (answer_byte said == 1) ≡ said
answer_byte-same true = refl
answer_byte-same false = refl

-- the row of an event, an answer and a number
row_of : Bool → ℕ → Event → Row
row_of said number event = record { event = event; yes = said; number = number }

-- a packed row and what comes after it are read as the row and what the rest is read as
pub rows_of-packed : (row : Row) (rest : List ℕ) → IsRowInRange row → rows_of (packed row ++ rest) ≡ row ∷ rows_of rest
unfolding row_of
rows_of-packed row rest in_range =
    let item = from_le_bytes-to_le_bytes_2 (item_in row.event) in_range.item in
    let lane = from_le_bytes-to_le_bytes_2 (lane_in row.event) in_range.lane in
    let number = from_le_bytes-to_le_bytes_4 row.number in_range.number in
    let event : event_by (kind_of row.event) (from_le_bytes w16 (to_le_bytes w16 (item_in row.event))) (from_le_bytes w16 (to_le_bytes w16 (lane_in row.event))) (helper_in row.event)
    ≡ Some row.event =
    ap (λ (i : ℕ). event_by (kind_of row.event) i (from_le_bytes w16 (to_le_bytes w16 (lane_in row.event))) (helper_in row.event)) item
    ∙ ap (λ (l : ℕ). event_by (kind_of row.event) (item_in row.event) l (helper_in row.event)) lane ∙ event_by-same row.event in_range.helper in
    ap (λ (e : Option Event). option_to_list (option_map (row_of (answer_byte row.yes == 1) (from_le_bytes w32 (to_le_bytes w32 row.number))) e) ++ rows_of rest) event
    ∙ ap (λ (said : Bool). row_of said (from_le_bytes w32 (to_le_bytes w32 row.number)) row.event ∷ rows_of rest) (answer_byte-same row.yes)
    ∙ ap (λ (n : ℕ). row_of row.yes n row.event ∷ rows_of rest) number

-- what is packed, row by row, is read as these rows
pub rows_of-packed_rows : (rows : List Row) → All IsRowInRange rows → rows_of (packed_rows rows) ≡ rows
rows_of-packed_rows [] in_range = refl
rows_of-packed_rows (row ∷ rows) in_range =
    rows_of-packed row (packed_rows rows) (in_range 0 row (omega arith))
    ∙ ap (λ (rs : List Row). row ∷ rs) (rows_of-packed_rows rows (λ k d below. in_range (suc k) d (omega arith)))

-- each row takes 12 bytes
pub length-packed_rows : (rows : List Row) → length (packed_rows rows) ≡ 12 * length rows
length-packed_rows [] = refl
length-packed_rows (row ∷ rows) = omega (arith, length-packed_rows rows, length-append (packed row) (packed_rows rows))

-- one more row
pub packed_rows-push : (rows : List Row) (row : Row) → packed_rows (rows ++ (row ∷ [])) ≡ packed_rows rows ++ packed row
packed_rows-push rows row = flat_map-append packed rows (row ∷ []) ∙ ap (λ (l : List ℕ). packed_rows rows ++ l) (append-nil (packed row))

-- 12 bytes, byte by byte
twelve : (bs : List ℕ) → length bs ≡ 12
    → get_or bs 0 0 ∷ get_or bs 1 0 ∷ get_or bs 2 0 ∷ get_or bs 3 0 ∷ get_or bs 4 0 ∷ get_or bs 5 0 ∷ get_or bs 6 0 ∷ get_or bs 7 0 ∷ get_or bs 8 0 ∷ get_or bs 9 0 ∷ get_or bs 10 0 ∷ get_or bs 11 0 ∷ [] ≡ bs
twelve [] len = absurd (omega (arith, len))
twelve (a ∷ []) len = absurd (omega (arith, len))
twelve (a ∷ b ∷ []) len = absurd (omega (arith, len))
twelve (a ∷ b ∷ c ∷ []) len = absurd (omega (arith, len))
twelve (a ∷ b ∷ c ∷ d ∷ []) len = absurd (omega (arith, len))
twelve (a ∷ b ∷ c ∷ d ∷ e ∷ []) len = absurd (omega (arith, len))
twelve (a ∷ b ∷ c ∷ d ∷ e ∷ f ∷ []) len = absurd (omega (arith, len))
twelve (a ∷ b ∷ c ∷ d ∷ e ∷ f ∷ g ∷ []) len = absurd (omega (arith, len))
twelve (a ∷ b ∷ c ∷ d ∷ e ∷ f ∷ g ∷ h ∷ []) len = absurd (omega (arith, len))
twelve (a ∷ b ∷ c ∷ d ∷ e ∷ f ∷ g ∷ h ∷ i ∷ []) len = absurd (omega (arith, len))
twelve (a ∷ b ∷ c ∷ d ∷ e ∷ f ∷ g ∷ h ∷ i ∷ j ∷ []) len = absurd (omega (arith, len))
twelve (a ∷ b ∷ c ∷ d ∷ e ∷ f ∷ g ∷ h ∷ i ∷ j ∷ k ∷ []) len = absurd (omega (arith, len))
twelve (a ∷ b ∷ c ∷ d ∷ e ∷ f ∷ g ∷ h ∷ i ∷ j ∷ k ∷ l ∷ []) len = refl
twelve (a ∷ b ∷ c ∷ d ∷ e ∷ f ∷ g ∷ h ∷ i ∷ j ∷ k ∷ l ∷ m ∷ bs) len = absurd (omega (arith, len))

-- a row whose parts are those bytes is held by them
pub holds_row : (bs : List ℕ) (row : Row) → length bs ≡ 12 → kind_of row.event ≡ get_or bs 0 0 → answer_byte row.yes ≡ get_or bs 1 0
    → to_le_bytes w16 (item_in row.event) ≡ get_or bs 2 0 ∷ get_or bs 3 0 ∷ [] → to_le_bytes w16 (lane_in row.event) ≡ get_or bs 4 0 ∷ get_or bs 5 0 ∷ []
    → helper_in row.event ≡ get_or bs 6 0 → get_or bs 7 0 ≡ 0
    → to_le_bytes w32 row.number ≡ get_or bs 8 0 ∷ get_or bs 9 0 ∷ get_or bs 10 0 ∷ get_or bs 11 0 ∷ [] → packed row ≡ bs
holds_row bs row len kind answer item lane helper spare number =
    ap (λ (k : ℕ). k ∷ answer_byte row.yes ∷ (to_le_bytes w16 (item_in row.event) ++ (to_le_bytes w16 (lane_in row.event) ++ (helper_in row.event ∷ 0 ∷ to_le_bytes w32 row.number)))) kind
    ∙ ap (λ (k : ℕ). get_or bs 0 0 ∷ k ∷ (to_le_bytes w16 (item_in row.event) ++ (to_le_bytes w16 (lane_in row.event) ++ (helper_in row.event ∷ 0 ∷ to_le_bytes w32 row.number)))) answer
    ∙ ap (λ (l : List ℕ). get_or bs 0 0 ∷ get_or bs 1 0 ∷ (l ++ (to_le_bytes w16 (lane_in row.event) ++ (helper_in row.event ∷ 0 ∷ to_le_bytes w32 row.number)))) item
    ∙ ap (λ (l : List ℕ). get_or bs 0 0 ∷ get_or bs 1 0 ∷ get_or bs 2 0 ∷ get_or bs 3 0 ∷ (l ++ (helper_in row.event ∷ 0 ∷ to_le_bytes w32 row.number))) lane
    ∙ ap (λ (k : ℕ). get_or bs 0 0 ∷ get_or bs 1 0 ∷ get_or bs 2 0 ∷ get_or bs 3 0 ∷ get_or bs 4 0 ∷ get_or bs 5 0 ∷ k ∷ 0 ∷ to_le_bytes w32 row.number) helper
    ∙ ap (λ (k : ℕ). get_or bs 0 0 ∷ get_or bs 1 0 ∷ get_or bs 2 0 ∷ get_or bs 3 0 ∷ get_or bs 4 0 ∷ get_or bs 5 0 ∷ get_or bs 6 0 ∷ k ∷ to_le_bytes w32 row.number) (sym spare)
    ∙ ap (λ (l : List ℕ). get_or bs 0 0 ∷ get_or bs 1 0 ∷ get_or bs 2 0 ∷ get_or bs 3 0 ∷ get_or bs 4 0 ∷ get_or bs 5 0 ∷ get_or bs 6 0 ∷ get_or bs 7 0 ∷ l) number
    ∙ twelve bs len
