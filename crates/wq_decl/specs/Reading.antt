-- Directives: what a line of a declaration says, or its first fault by the rows of the format's table.
use Rattle.std.specs.Prelude.{ℕ, ◌==◌, ◌||◌, ◌&&◌, Bool, true, false, nat_le, if◌then◌else◌, List, [], ◌∷◌, Option}
use Rattle.std.specs.Prelude.{Some, None, Result, Ok, Err, IsTrue}
use Rattle.std.specs.Option.{option_or}
use Rattle.std.specs.List.{list_all, list_any, filter_map, AllByRecursion}
use Rattle.wq_text.specs.Lines.{LineView}
use Rattle.wq_text.specs.Comments.{before_comment}
use Rattle.wq_text.specs.Words.{WordView, words_of}
use Rattle.wq_text.specs.Refusal.{Refusal}
use Rattle.wq_decl.specs.declared.directive.Directive.{Directive}
use Rattle.wq_decl.specs.declared.directive.Directive.TheVariants.{Item, Flush, FlushWq, Unsure, Ordered}
use Rattle.wq_decl.specs.declared.fault.DeclError.{DeclError}
use Rattle.wq_decl.specs.declared.fault.DeclError.TheVariants.{BadByte, UnknownWord, MissingName, ExtraWord, BadName}
use Rattle.wq_decl.specs.declared.keyword.Keyword.{Keyword}
use Rattle.wq_decl.specs.declared.keyword.Keyword.TheVariants as keyword
use Rattle.wq_decl.specs.Names.{is_name, are_names}
use Rattle.wq_decl.specs.Keywords.{keyword_of}

-- a TAB, or a printable ASCII character
abbrev pub is_text_byte : ℕ → Bool
is_text_byte b = b == 9 || (nat_le 32 b && nat_le b 126)

-- the words after `item` on line n: one name
abbrev pub item_reading : ℕ → List WordView → Result (Option Directive) DeclError
item_reading n [] = Err (MissingName n)
item_reading n (name ∷ []) = if is_name name.bytes then Ok (Some (Item name)) else Err (BadName n)
item_reading n (name ∷ extra ∷ others) = Err (ExtraWord n)

-- the words after `flush` on line n: a name and at least one target
abbrev pub flush_reading : ℕ → List WordView → Result (Option Directive) DeclError
flush_reading n [] = Err (MissingName n)
flush_reading n (name ∷ []) = Err (MissingName n)
flush_reading n (name ∷ target ∷ others) =
    if are_names (name ∷ target ∷ others) then Ok (Some (Flush name (target ∷ others))) else Err (BadName n)

-- the words after `flushwq` on line n: two names
abbrev pub flushwq_reading : ℕ → List WordView → Result (Option Directive) DeclError
flushwq_reading n [] = Err (MissingName n)
flushwq_reading n (name ∷ []) = Err (MissingName n)
flushwq_reading n (name ∷ target ∷ []) =
    if are_names (name ∷ target ∷ []) then Ok (Some (FlushWq name target)) else Err (BadName n)
flushwq_reading n (name ∷ target ∷ extra ∷ others) = Err (ExtraWord n)

-- the words after `flush?` or, of a whole workqueue, `flushwq?` on line n: two names
abbrev pub unsure_reading : ℕ → Bool → List WordView → Result (Option Directive) DeclError
unsure_reading n whole [] = Err (MissingName n)
unsure_reading n whole (name ∷ []) = Err (MissingName n)
unsure_reading n whole (name ∷ target ∷ []) =
    if are_names (name ∷ target ∷ []) then Ok (Some (Unsure name target whole)) else Err (BadName n)
unsure_reading n whole (name ∷ target ∷ extra ∷ others) = Err (ExtraWord n)

-- the words after `ordered` on line n: at least one name
abbrev pub ordered_reading : ℕ → List WordView → Result (Option Directive) DeclError
ordered_reading n [] = Err (MissingName n)
ordered_reading n (name ∷ rest) = if are_names (name ∷ rest) then Ok (Some (Ordered (name ∷ rest))) else Err (BadName n)

-- what the words after the keyword say on line n
abbrev pub reading_after : Option Keyword → ℕ → List WordView → Result (Option Directive) DeclError
reading_after None n words = Err (UnknownWord n)
reading_after (Some keyword.Item) n words = item_reading n words
reading_after (Some keyword.Flush) n words = flush_reading n words
reading_after (Some keyword.FlushWq) n words = flushwq_reading n words
reading_after (Some keyword.FlushUnsure) n words = unsure_reading n false words
reading_after (Some keyword.FlushWqUnsure) n words = unsure_reading n true words
reading_after (Some keyword.Ordered) n words = ordered_reading n words

-- what the words of line n say: nothing if there are none, or else what follows the keyword says
abbrev pub words_reading : ℕ → List WordView → Result (Option Directive) DeclError
words_reading n [] = Ok None
words_reading n (first ∷ others) = reading_after (keyword_of first.bytes) n others

-- what a line says, or its first fault; its comment may hold any bytes
abbrev pub reading : LineView → Result (Option Directive) DeclError
reading l =
    if list_all is_text_byte (before_comment l.bytes) then words_reading l.no (words_of l) else Err (BadByte l.no)

-- the fault of a line that has one
abbrev pub fault_in : Result (Option Directive) DeclError → Option DeclError
fault_in (Ok found) = None
fault_in (Err fault) = Some fault

-- the directive of line n, if it has one
abbrev pub directive_in : ℕ → Result (Option Directive) DeclError → Option (ℕ × Directive)
directive_in n (Ok (Some directive)) = Some (n, directive)
directive_in n (Ok None) = None
directive_in n (Err fault) = None

-- the fault of the first line that has one
abbrev pub first_fault : List LineView → Option DeclError
first_fault [] = None
first_fault (line ∷ lines) = option_or (fault_in (reading line)) (first_fault lines)

-- the directives in order, each with the number of its line
abbrev pub directives : List LineView → List (ℕ × Directive)
directives lines = filter_map (λ (line : LineView). directive_in line.no (reading line)) lines

-- the directive is that of an `ordered` line
abbrev pub is_ordered : Directive → Bool
is_ordered (Item name) = false
is_ordered (Flush name targets) = false
is_ordered (FlushWq name target) = false
is_ordered (Unsure name target whole) = false
is_ordered (Ordered names) = true

-- some line is an `ordered` line
abbrev pub has_ordered : List (ℕ × Directive) → Bool
has_ordered ds = list_any (λ (d : ℕ × Directive). is_ordered d.1) ds

-- the number of an `ordered` line and the names on it; nothing for any other line
abbrev pub ordered_line : ℕ × Directive → Option (ℕ × List WordView)
ordered_line (n, Item name) = None
ordered_line (n, Flush name targets) = None
ordered_line (n, FlushWq name target) = None
ordered_line (n, Unsure name target whole) = None
ordered_line (n, Ordered names) = Some (n, names)

-- the `ordered` lines among directives, in order
abbrev pub ordered_lines : List (ℕ × Directive) → List (ℕ × List WordView)
ordered_lines ds = filter_map ordered_line ds

-- each word of a directive is a name
abbrev pub HasNames : Directive → Type 0
HasNames (Item name) = IsTrue (is_name name.bytes)
HasNames (Flush name targets) =
    IsTrue (is_name name.bytes) × AllByRecursion (λ (w : WordView). IsTrue (is_name w.bytes)) targets
HasNames (FlushWq name target) = IsTrue (is_name name.bytes) × IsTrue (is_name target.bytes)
HasNames (Unsure name target whole) = IsTrue (is_name name.bytes) × IsTrue (is_name target.bytes)
HasNames (Ordered names) = AllByRecursion (λ (w : WordView). IsTrue (is_name w.bytes)) names

-- code 3, 4, 5, 12 or 6, with the line
abbrev pub decl_refusal : DeclError → Refusal
decl_refusal (BadByte line) = record { code = 3; line = line }
decl_refusal (UnknownWord line) = record { code = 4; line = line }
decl_refusal (MissingName line) = record { code = 5; line = line }
decl_refusal (ExtraWord line) = record { code = 12; line = line }
decl_refusal (BadName line) = record { code = 6; line = line }
