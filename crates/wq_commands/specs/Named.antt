-- Items that are named on the command line.
use Rattle.std.specs.Prelude.{◌≡◌, ℕ, List, Option, Some, None, filter, length, option_map}
use Rattle.std.specs.List.{range_with_len}
use Rattle.wq_cert.specs.Forms.{items_of}
use Rattle.wq_cert.specs.Reading.{stands_in}
use Rattle.wq_text.specs.Refusal.{Refusal}
use Rattle.wq_commands.specs.declared.end.End.{End}
use Rattle.wq_commands.specs.declared.found.Found.{Found}
use Rattle.wq_commands.specs.declared.found.Found.TheVariants.{Read}
use Rattle.wq_commands.specs.Answer.{PrintsRefusal}

-- the items with these names, each once, in the order in which they are declared; nothing, where a name is that of no
-- item
abbrev pub items_with_names : List (List ℕ) → List (List ℕ) → Option (List ℕ)
items_with_names names words =
    option_map (λ items. filter (stands_in items) (range_with_len 0 (length names))) (items_of names words)

-- the refusal where a name is that of no item: at no line
abbrev pub unknown_item : Refusal
unknown_item = record { code = 8; line = 0 }

-- the answer where these items are named; or, where a name is that of no item, its refusal
abbrev pub IfNamed : Option (List ℕ) → (List ℕ → End → List ℕ → Type 0) → End → List ℕ → Type 0
IfNamed None Answers end out = PrintsRefusal unknown_item end out
IfNamed (Some named) Answers end out = Answers named end out

-- the same with what is found: nothing, where a name is that of no item
abbrev pub FindsNamed : {T : Type 0} → Option (List ℕ) → (List ℕ → Found (Option T) → End → List ℕ → Type 0)
    → Found (Option T) → End → List ℕ → Type 0
FindsNamed None Finds found end out = (found ≡ Read None) × PrintsRefusal unknown_item end out
FindsNamed (Some named) Finds found end out = Finds named found end out
