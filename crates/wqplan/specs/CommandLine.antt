-- The command line of the program, in the words of `clap`.
use Rattle.std.specs.Prelude.{◌≡◌, ◌==◌, ◌+◌, ◌++◌, ◌≤◌, ◌⊎◌, ℕ, Bool, not, [], ◌∷◌, List, Option, Some, None, true}
use Rattle.std.specs.Prelude.{map, option_and_then, option_map, unwrap_or, pos, nat_lt, if◌then◌else◌, Result, Ok, Err}
use Rattle.std.specs.Prelude.{codes, fold}
use Rattle.std.specs.Borrow.{Bor}
use Rattle.std.specs.List.{list_all}
use Rattle.std.specs.Str.Parse.{digits_value, without_leading_plus}
use Rattle.clap.specs.Lexer.{usize_max}
use Rattle.clap.specs.Words.{App, IsUnsignedIn, Row, Rule, Text, all_of, first_of, new_app, new_rule, one_of}
use Rattle.clap.specs.Words.{subcommand_of, with_rule, with_subcommand}
use Rattle.clap.specs.declared.builder.value_parser.ValueParser.TheVariants.{Signed}
use Rattle.wqplan.specs.declared.command_line.FileForm.{FileForm}
use Rattle.wqplan.specs.declared.command_line.FileForm.TheVariants as file_forms
use Rattle.wqplan.specs.declared.command_line.Files.{Files}
use Rattle.wqplan.specs.declared.command_line.Files.TheVariants.{Unnamed, One, Two, Three}
use Rattle.wqplan.specs.declared.command_line.Request.{Request}
use Rattle.wqplan.specs.declared.command_line.Second.{Second}
use Rattle.wqplan.specs.declared.command_line.Second.TheVariants.{Certificate, Assignment}
use Rattle.wqplan.specs.declared.command_line.Tail.{Tail}
use Rattle.wqplan.specs.declared.command_line.Tail.TheVariants as tails
use Rattle.wqplan.specs.declared.command_line.TailForm.{TailForm}
use Rattle.wqplan.specs.declared.command_line.TailForm.TheVariants as tail_forms
use Rattle.wqplan.specs.declared.commands.Verb.{Verb}
use Rattle.wqplan.specs.declared.commands.Verb.TheVariants.{Check, Explain, Plan, Run}
use Rattle.wqplan.specs.Commands.{command_name, file_form, tail_form, verbs}

-- ---- the arguments of a command

-- a positional argument that must be given
abbrev pub needed : Text → Rule
needed name = record (new_rule name) { required = true }

-- a positional argument that may come any number of times
abbrev pub many_rule : Text → Rule
many_rule name = record (new_rule name) { range = Some (record { start_inclusive = 1; end_inclusive = usize_max }) }

-- a positional argument that is a number from 0 to this one
abbrev pub number_rule : Text → ℕ → Rule
number_rule name most = record (new_rule name) { parser = Some (Signed (pos 0) (pos most)) }

-- `CERT` or `ASSIGN`
abbrev pub second_name : Second → Text
second_name Certificate = codes "CERT"
second_name Assignment = codes "ASSIGN"

-- none; `[FILE] [FIXED]`; `DECL`; `DECL ASSIGN`; `DECL [ASSIGN]`; `DECL CERT [FIXED]`; `DECL ASSIGN RUN`
abbrev pub file_rules : FileForm → List Rule
file_rules file_forms.Nothing = []
file_rules file_forms.Input = new_rule (codes "FILE") ∷ new_rule (codes "FIXED") ∷ []
file_rules file_forms.One = needed (codes "DECL") ∷ []
file_rules (file_forms.Two second) = needed (codes "DECL") ∷ needed (second_name second) ∷ []
file_rules file_forms.OneOrTwo = needed (codes "DECL") ∷ new_rule (codes "ASSIGN") ∷ []
file_rules (file_forms.TwoOrThree second) =
    needed (codes "DECL") ∷ needed (second_name second) ∷ new_rule (codes "FIXED") ∷ []
file_rules file_forms.Three = needed (codes "DECL") ∷ needed (codes "ASSIGN") ∷ needed (codes "RUN") ∷ []

-- none; `[NAME]..`; `[HELPERS]`; `[CODE]`
abbrev pub tail_rules : TailForm → List Rule
tail_rules tail_forms.Nothing = []
tail_rules tail_forms.Names = many_rule (codes "NAME") ∷ []
tail_rules tail_forms.Helpers = number_rule (codes "HELPERS") 8 ∷ []
tail_rules tail_forms.Word = new_rule (codes "CODE") ∷ []

-- a command with arguments more
abbrev pub with_rules : App → List Rule → App
with_rules = fold with_rule

-- a command with this name, these files, and this behind them
abbrev pub formed : Text → FileForm → TailForm → App
formed name files tail = with_rules (with_rules (new_app name) (file_rules files)) (tail_rules tail)

-- a command of the program
abbrev pub command : Verb → App
command verb = formed (command_name verb) (file_form verb) (tail_form verb)

-- the program without its commands: it has a version, and one of its commands must be given
abbrev pub bare : App
bare =
    let start = new_app (codes "wqplan") in
    record start { top = record start.top { has_version = true; subcommand_required = true } }

-- a program with one command more
abbrev pub with_command : App → Verb → App
with_command app verb = with_subcommand app (command verb).top

-- the program
abbrev pub wqplan : App
wqplan = fold with_command bare verbs

-- ---- what is asked for

-- what stands behind the files: nothing, names, the number of helpers, or the word to explain
pub data Behind : Type 0 where
  nothing : Behind
  names : List Text → Behind
  helpers : ℕ → Behind
  word : Option Text → Behind

-- a command, the paths of its files, and the words behind them
pub record Asked : Type 0 where
  pub verb : Verb
  pub files : Files Text
  pub behind : Behind

-- the texts behind references
abbrev pub paths : Files (Bor Text) → Files Text
paths Unnamed = Unnamed
paths (One first) = One first.now
paths (Two first second) = Two first.now second.now
paths (Three first second third) = Three first.now second.now third.now

-- what stands there in a request
abbrev pub tail_spelled : Tail → Behind
tail_spelled tails.Nothing = nothing
tail_spelled (tails.Names given) = names (map (λ s. s.now) given.items)
tail_spelled (tails.Helpers count) = helpers count
tail_spelled (tails.Word given) = word (option_map (λ s. s.now) given)

-- the names that stand there; none if something else does
abbrev pub names_asked : Behind → List Text
names_asked (names given) = given
names_asked _ = []

-- how many helpers are asked for
abbrev pub helpers_asked : Behind → ℕ
helpers_asked (helpers count) = count
helpers_asked _ = 0

-- the word to explain, if there is one
abbrev pub word_asked : Behind → Option Text
word_asked (word given) = given
word_asked _ = None

-- what a request asks for
abbrev pub spelled : Request → Asked
spelled request =
    record { verb = request.verb; files = paths request.files; behind = tail_spelled request.tail }

-- `run`, on these files, with this many helpers
abbrev pub run_asked : Files Text → ℕ → Asked
run_asked files count = record { verb = Run; files = files; behind = helpers count }

-- this command, on these files, with these names
abbrev pub named_asked : Verb → Files Text → List Text → Asked
named_asked verb files given = record { verb = verb; files = files; behind = names given }

-- `plan`, on these files
abbrev pub plan_asked : Files Text → Asked
plan_asked files = record { verb = Plan; files = files; behind = nothing }

-- `check`, on these files
abbrev pub check_asked : Files Text → Asked
check_asked files = record { verb = Check; files = files; behind = nothing }

-- the files, in the order in which they are opened
abbrev pub listed : Files Text → List Text
listed Unnamed = []
listed (One first) = first ∷ []
listed (Two first second) = first ∷ second ∷ []
listed (Three first second third) = first ∷ second ∷ third ∷ []

-- the files of a command; `explain` has none
abbrev pub opened_by : Verb → Files Text → List Text
opened_by Explain files = []
opened_by verb files = listed files

-- the files that are opened, in their order
abbrev pub files_of : Asked → List Text
files_of asked = opened_by asked.verb asked.files

-- no more than 8 helpers are asked for
abbrev pub HasFew : Behind → Type 0
HasFew (helpers count) = count ≤ 8
HasFew _ = Unit {0}

-- `HasFew` of a whole command line
abbrev pub HasFewHelpers : Asked → Type 0
HasFewHelpers asked = HasFew asked.behind

-- ---- what is asked for by matches

-- no file, a file, or a file and another one behind it, if there is one
abbrev pub one_if : Option Text → Option Text → Files Text
one_if None second = Unnamed
one_if (Some first) None = One first
one_if (Some first) (Some second) = Two first second

-- a file, and another one, if there is one
abbrev pub two_if : Text → Option Text → Files Text
two_if first None = One first
two_if first (Some second) = Two first second

-- two files, and another one, if there is one
abbrev pub three_if : Text → Text → Option Text → Files Text
three_if first second None = Two first second
three_if first second (Some third) = Three first second third

-- the files that the matches of a command give
abbrev pub files_in : FileForm → List Row → Option (Files Text)
files_in file_forms.Nothing rows = Some Unnamed
files_in file_forms.Input rows = Some (one_if (first_of (codes "FILE") rows) (first_of (codes "FIXED") rows))
files_in file_forms.One rows = option_map (λ d. One d) (first_of (codes "DECL") rows)
files_in (file_forms.Two second) rows =
    option_and_then (λ d. option_map (λ s. Two d s) (first_of (second_name second) rows)) (first_of (codes "DECL") rows)
files_in file_forms.OneOrTwo rows =
    option_map (λ d. two_if d (first_of (codes "ASSIGN") rows)) (first_of (codes "DECL") rows)
files_in (file_forms.TwoOrThree second) rows =
    option_and_then (λ d. option_map (λ s. three_if d s (first_of (codes "FIXED") rows))
    (first_of (second_name second) rows)) (first_of (codes "DECL") rows)
files_in file_forms.Three rows =
    option_and_then (λ d. option_and_then (λ a. option_map (λ r. Three d a r) (first_of (codes "RUN") rows))
    (first_of (codes "ASSIGN") rows)) (first_of (codes "DECL") rows)

-- the names that the matches give, in their order
abbrev pub names_of : List Row → List Text
names_of rows = unwrap_or (all_of (codes "NAME") rows) []

-- a word for the number of helpers is a number from 0 to 8
abbrev pub IsHelpers : Option Text → Type 0
IsHelpers None = Unit {0}
IsHelpers (Some text) = IsUnsignedIn 0 8 text

-- the number of helpers that the word says; without a word there are none
abbrev pub helpers_in : Option Text → ℕ
helpers_in None = 0
helpers_in (Some text) = digits_value 10 (without_leading_plus text)

-- the number of helpers if a word was read so: none without a word, and no more than 8
abbrev pub few_read : {E : Type 0} → Result (Option ℕ) E → Option ℕ
few_read (Ok None) = Some 0
few_read (Ok (Some n)) = if nat_lt 8 n then None else Some n
few_read (Err e) = None

-- what stands behind the files, by the matches of a command
abbrev pub behind_in : TailForm → List Row → Behind
behind_in tail_forms.Nothing rows = nothing
behind_in tail_forms.Names rows = names (names_of rows)
behind_in tail_forms.Helpers rows = helpers (helpers_in (one_of (codes "HELPERS") rows))
behind_in tail_forms.Word rows = word (first_of (codes "CODE") rows)

-- if a number of helpers is due, there is one
abbrev pub IsRead : TailForm → List Row → Type 0
IsRead tail_forms.Helpers rows = IsHelpers (one_of (codes "HELPERS") rows)
IsRead _ rows = Unit {0}

-- the matches of the command give it these files, and this behind them
abbrev pub GivesArguments : List Row → Asked → Type 0
GivesArguments rows asked = (files_in (file_form asked.verb) rows ≡ Some asked.files)
    × (behind_in (tail_form asked.verb) rows ≡ asked.behind) × IsRead (tail_form asked.verb) rows

-- the words ask for this, if they led to this command with these matches
abbrev pub AsksFor : Option (Text × List Row) → Asked → Type 0
AsksFor met wanted = (rows : List Row) × (met ≡ Some (command_name wanted.verb, rows)) × GivesArguments rows wanted

-- the words ask for this
abbrev pub Asks : List Text → Asked → Type 0
Asks words = AsksFor (subcommand_of wqplan words)

-- ---- how it is written

-- the word can't be taken for an option: it doesn't begin with `-` (45)
abbrev pub is_no_option : Text → Bool
is_no_option [] = true
is_no_option (x ∷ xs) = not (x == 45)

-- a number below ten, written as a digit; `0` is 48
abbrev pub digit : ℕ → Text
digit n = (48 + n) ∷ []

-- a command can have this many files
abbrev pub Fits : FileForm → Files Text → Type 0
Fits file_forms.Nothing Unnamed = Unit {0}
Fits file_forms.Input Unnamed = Unit {0}
Fits file_forms.Input (One first) = Unit {0}
Fits file_forms.Input (Two first second) = Unit {0}
Fits file_forms.One (One first) = Unit {0}
Fits (file_forms.Two kind) (Two first second) = Unit {0}
Fits file_forms.OneOrTwo (One first) = Unit {0}
Fits file_forms.OneOrTwo (Two first second) = Unit {0}
Fits (file_forms.TwoOrThree kind) (Two first second) = Unit {0}
Fits (file_forms.TwoOrThree kind) (Three first second third) = Unit {0}
Fits file_forms.Three (Three first second third) = Unit {0}
Fits _ _ = ⊥

-- names come behind all files that the command can have: a name behind the first of two would be the second
abbrev pub Follows : FileForm → Files Text → Behind → Type 0
Follows file_forms.OneOrTwo (One first) (names (name ∷ more)) = ⊥
Follows _ _ _ = Unit {0}

-- the words behind the files: one name at most, maybe the number of helpers, or the word to explain
abbrev pub Spells : TailForm → Behind → List Text → Type 0
Spells tail_forms.Nothing nothing words = words ≡ []
Spells tail_forms.Names (names []) words = words ≡ []
Spells tail_forms.Names (names (name ∷ [])) words = words ≡ name ∷ []
Spells tail_forms.Helpers (helpers count) words =
    ((words ≡ []) × (count ≡ 0)) ⊎ ((words ≡ digit count ∷ []) × (count ≤ 8))
Spells tail_forms.Word (word None) words = words ≡ []
Spells tail_forms.Word (word (Some code)) words = words ≡ code ∷ []
Spells _ _ words = ⊥

-- the words are the program's name, a command, and after it its files and what stands behind them. None of these words
-- looks like an option
pub record Calls (words : List Text) (asked : Asked) : Type 0 where
  pub program : Text
  pub behind : List Text
  pub are : words ≡ program ∷ command_name asked.verb ∷ listed asked.files ++ behind
  pub fit : Fits (file_form asked.verb) asked.files
  pub follow : Follows (file_form asked.verb) asked.files asked.behind
  pub spell : Spells (tail_form asked.verb) asked.behind behind
  pub plain : list_all is_no_option (listed asked.files ++ behind) ≡ true
