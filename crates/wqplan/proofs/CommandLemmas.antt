-- The command that a parse of the program's words entered, and the arguments that it was given.
use Rattle.std.proofs.Common.{refl, ap, sym, subst, arith, ℕ, zero, suc, ◌≤◌, Result, Ok, Err}
use Rattle.std.proofs.Common.{IsErrAnd, MatchResult, ◌∙◌, codes, Bool, true, false, not, ◌&&◌, [], ◌∷◌}
use Rattle.std.proofs.Common.{List, Option, Some, None, ◌≡◌, ◌<◌, ◌+◌, length, drop, slice_index_or}
use Rattle.std.specs.Prelude.{find}
use Rattle.std.specs.Prelude.{IfSome, IsSome, IsSomeAnd, option_map, unwrap_or}
use Rattle.std.specs.Str.{bytes_eq}
use Rattle.std.specs.Borrow.{Bor}
use Rattle.clap.specs.Words.{Row, Text, one_of, rows_of}
use Rattle.clap.specs.declared.builder.range.ValueRange.{ValueRange}
use Rattle.clap.specs.declared.parser.matches.Found.{Found}
use Rattle.clap.specs.Matches.{matched_of, raw_values}
use Rattle.clap.proofs.WalkLemmas.{raw_values-rows}
use Rattle.clap.specs.Lexer.{usize_max}
use Rattle.std.proofs.lemmas.Slice.Eq.{bytes_eq-Decides}
use Rattle.wqplan.specs.declared.command_line.Files.{Files}
use Rattle.wqplan.specs.declared.command_line.TailForm.{TailForm}
use Rattle.wqplan.specs.declared.command_line.TailForm.TheVariants as tail_forms
use Rattle.wqplan.specs.declared.commands.Verb.{Verb}
use Rattle.wqplan.specs.declared.commands.Verb.TheVariants.{Plan}
use Rattle.wqplan.specs.Commands.{command_name, file_form, tail_form, verb_named, verbs}
use Rattle.wqplan.specs.CommandLine.{Asked, AsksFor, Behind, GivesArguments, HasFew, HasFewHelpers}
use Rattle.wqplan.specs.CommandLine.{IsHelpers, IsRead, behind_in, files_in, helpers_in}
use Rattle.wqplan.specs.CommandLine.{command, names_of}

-- as many values as one likes, but at least one
abbrev pub many : ValueRange
many = record { start_inclusive = 1; end_inclusive = usize_max }

pub range_given : (o : Option ValueRange) → IsSomeAnd o (λ r. r ≡ many) → o ≡ Some many
range_given None is = absurd is
range_given (Some r) is = ap Some is

-- the names that a getter returns are those of its rows; if it returns none, its rows have none
pub names_given : {S : Type 0} (names : S → List Text) (r : Option S) (s : S) (f : Found)
    → option_map names r ≡ option_map raw_values (matched_of f (codes "NAME")) → r ≡ Some s
    → names s ≡ names_of (rows_of f)
names_given names r s f read is =
    ap (λ (o : Option (List Text)). unwrap_or o [])
    (sym (ap (option_map names) is) ∙ read ∙ raw_values-rows f (codes "NAME"))

pub no_names_given : {S : Type 0} (names : S → List Text) (r : Option S) (f : Found)
    → option_map names r ≡ option_map raw_values (matched_of f (codes "NAME")) → r ≡ None
    → [] ≡ names_of (rows_of f)
no_names_given names r f read is =
    ap (λ (o : Option (List Text)). unwrap_or o [])
    (sym (ap (option_map names) is) ∙ read ∙ raw_values-rows f (codes "NAME"))

-- a negated part of what holds doesn't hold
pub third_is_not : (x y z w : Bool) → x && (y && (not z && w)) ≡ true → z ≡ false
third_is_not x y false w all = refl
third_is_not true true true w all = cc
third_is_not true false true w all = cc
third_is_not false y true w all = cc

-- if no text was given, there is none
pub no_text : (r : Option (Bor Text)) (o : Option Text) → option_map (λ b. b.now) r ≡ o → r ≡ None → o ≡ None
no_text r o read is = sym read ∙ ap (option_map (λ (b : Bor Text). b.now)) is

-- a search goes on behind an item that isn't meant
find_behind : {X : Type 0} (p : X → Bool) (xs : List X) (i : ℕ) (d : X) → i < length xs
    → p (slice_index_or xs i d) ≡ false → find p (drop (suc i) xs) ≡ find p (drop i xs)
find_behind p [] i d lt other = absurd (omega (arith, lt))
find_behind p (y ∷ ys) zero d lt other = rw other refl
find_behind p (y ∷ ys) (suc i) d lt other = find_behind p ys i d (omega (arith, lt)) other

pub find_next : {X : Type 0} (p : X → Bool) (xs : List X) (i : ℕ) (d : X) → i < length xs
    → p (slice_index_or xs i d) ≡ false → find p (drop (i + 1) xs) ≡ find p (drop i xs)
find_next p xs i d lt other =
    let next : suc i ≡ i + 1 = omega arith in
    subst (λ (k : ℕ). find p (drop k xs) ≡ find p (drop i xs)) next (find_behind p xs i d lt other)

-- an option has one value
pub same_value : {T : Type 0} (o : Option T) (x y : T) → o ≡ Some x → o ≡ Some y → x ≡ y
same_value o x y is also = ap (λ p. unwrap_or p x) (sym is ∙ also)

-- to map twice is to map once
pub option_map_twice : {X Y W : Type 0} (f : X → Y) (g : Y → W) (o : Option X)
    → option_map g (option_map f o) ≡ option_map (λ x. g (f x)) o
option_map_twice f g None = refl
option_map_twice f g (Some x) = refl

-- a command that was met is its name and its rows
pub met_is : (met : Option (Text × List Row)) (name : Text) (rows : List Row) → option_map (λ p. p.0) met ≡ Some name
    → option_map (λ p. p.1) met ≡ Some rows → met ≡ Some (name, rows)
met_is None name rows named held = cc
met_is (Some p) name rows named held =
    let same_name : p.0 ≡ name = ap (λ o. unwrap_or o p.0) named in
    let same_rows : p.1 ≡ rows = ap (λ o. unwrap_or o p.1) held in
    rw (← same_name, ← same_rows) refl

-- what holds for an error holds for the result that has it
pub failed_with : {T E : Type 0} (r : Result T E) (e : E) (P : T → Type 0) (Q : E → Type 0) → IsErrAnd r (λ y. y ≡ e)
    → Q e → MatchResult r P Q
failed_with (Ok x) e P Q is holds = absurd is
failed_with (Err y) e P Q is holds = subst Q (sym is) holds

-- what holds of what there is
pub if_some : {T : Type 0} (o : Option T) (x : T) (P : T → Type 0) → o ≡ Some x → IfSome o P → P x
if_some o x P is holds = subst (λ p. IfSome p P) is holds

pub no_some : {T : Type 0} (o : Option T) → o ≡ None → IsSome o → ⊥
no_some {T} o is some = absurd (let bad : false ≡ true = subst (λ (p : Option T). IsSome p) is some in cc)

-- what is found is meant
find_holds : {X : Type 0} (p : X → Bool) (xs : List X) (x : X) → find p xs ≡ Some x → p x ≡ true
find_holds p [] x is = absurd cc
find_holds {X} p (y ∷ ys) x is = go (p y) refl (find_holds p ys x)
  where
    go : (b : Bool) → p y ≡ b → (find p ys ≡ Some x → p x ≡ true) → p x ≡ true
    go true e rest =
        let found : find p (y ∷ ys) ≡ Some y = rw e refl in
        let same : y ≡ x = ap (λ (o : Option X). unwrap_or o y) (sym found ∙ is) in
        subst (λ z. p z ≡ true) same e
    go false e rest =
        let behind : find p (y ∷ ys) ≡ find p ys = rw e refl in
        rest (sym behind ∙ is)

-- ---- which command is called

-- each command is called by its name, and by no other word
pub called : (verb : Verb) → verb_named (command_name verb) ≡ Some verb
called Plan = refl
called _ = refl

name_is : (name : Text) (verb : Verb) → verb_named name ≡ Some verb → command_name verb ≡ name
name_is name verb is =
    (bytes_eq-Decides (command_name verb) name).0
    (find_holds (λ v. bytes_eq (command_name v) name) verbs verb is)

-- a command that was met by its name
pub met_verb : (met : Option (Text × List Row)) (name : Text) (rows : List Row) (verb : Verb)
    → option_map (λ p. p.0) met ≡ Some name → option_map (λ p. p.1) met ≡ Some rows → verb_named name ≡ Some verb
    → met ≡ Some (command_name verb, rows)
met_verb met name rows verb named with_rows is =
    let pair : Text → Option (Text × List Row) = λ n. Some (n, rows) in
    met_is met name rows named with_rows ∙ ap pair (sym (name_is name verb is))

-- what asks for a command that was met asks for that one
pub asked_of : (met : Option (Text × List Row)) (name : Text) (rows : List Row) (wanted : Asked)
    → met ≡ Some (name, rows) → AsksFor met wanted
    → (command_name wanted.verb ≡ name) × GivesArguments rows wanted
asked_of met name rows wanted is (others, also, given) =
    let both : (command_name wanted.verb, others) ≡ (name, rows) =
    same_value {T = Text × List Row} met (command_name wanted.verb, others) (name, rows) also is in (
      ap (λ (p : Text × List Row). p.0) both,
      subst (λ (rs : List Row). GivesArguments rs wanted) (ap (λ (p : Text × List Row). p.1) both) given,
    )

-- a verb is known by its name
pub same_verb : (a b : Verb) → command_name a ≡ command_name b → a ≡ b
same_verb a b is = same_value (verb_named (command_name a)) a b (called a) (ap verb_named is ∙ called b)

-- what asks for a command asks for one that is called so
pub unnamed : (met : Option (Text × List Row)) (name : Text) (rows : List Row) (wanted : Asked)
    → option_map (λ p. p.0) met ≡ Some name → option_map (λ p. p.1) met ≡ Some rows → verb_named name ≡ None
    → AsksFor met wanted → ⊥
unnamed met name rows wanted called_so with_rows none asked =
    let of = asked_of met name rows wanted (met_is met name rows called_so with_rows) asked in
    let bad : Some wanted.verb ≡ None = sym (called wanted.verb) ∙ ap verb_named of.0 ∙ none in
    absurd cc

pub asks_verb : (met : Option (Text × List Row)) (rows : List Row) (verb : Verb) (wanted : Asked)
    → met ≡ Some (command_name verb, rows) → AsksFor met wanted
    → (wanted.verb ≡ verb) × GivesArguments rows wanted
asks_verb met rows verb wanted is asked =
    let of = asked_of met (command_name verb) rows wanted is asked in (same_verb wanted.verb verb of.0, of.1)

-- values that agree in all parts are equal
same_asked : (a b : Asked) → a.verb ≡ b.verb → a.files ≡ b.files → a.behind ≡ b.behind → a ≡ b
same_asked a b v f t =
    let made : Verb → Files Text → Behind → Asked = λ v f t. record { verb = v; files = f; behind = t } in
    ap (λ x. made x a.files a.behind) v ∙ ap (λ x. made b.verb x a.behind) f ∙ ap (λ x. made b.verb b.files x) t

-- equal matches give a command equal arguments
same_given : (rows : List Row) (verb : Verb) (a b : Asked) → a.verb ≡ verb → b.verb ≡ verb → GivesArguments rows a
    → GivesArguments rows b → a ≡ b
same_given rows verb a b va vb ga gb =
    let fa : files_in (file_form verb) rows ≡ Some a.files =
    subst (λ v. files_in (file_form v) rows ≡ Some a.files) va ga.0 in
    let fb : files_in (file_form verb) rows ≡ Some b.files =
    subst (λ v. files_in (file_form v) rows ≡ Some b.files) vb gb.0 in
    let ta : behind_in (tail_form verb) rows ≡ a.behind =
    subst (λ v. behind_in (tail_form v) rows ≡ a.behind) va ga.1 in
    let tb : behind_in (tail_form verb) rows ≡ b.behind =
    subst (λ v. behind_in (tail_form v) rows ≡ b.behind) vb gb.1 in
    same_asked a b (va ∙ sym vb) (same_value (files_in (file_form verb) rows) a.files b.files fa fb) (sym ta ∙ tb)

-- a command that was met asks for one thing
pub AsksFor-unique : (met : Option (Text × List Row)) (a b : Asked) → AsksFor met a → AsksFor met b → a ≡ b
AsksFor-unique met a b (rows, is, given) asked =
    let of = asks_verb met rows a.verb b is asked in same_given rows a.verb a b refl of.0 given of.1

-- at most 8 helpers are asked for
few_in : (word : Option Text) → IsHelpers word → helpers_in word ≤ 8
few_in None is = omega arith
few_in (Some text) is = is.3

few_behind : (form : TailForm) (rows : List Row) → IsRead form rows → HasFew (behind_in form rows)
few_behind tail_forms.Helpers rows read = few_in (one_of (codes "HELPERS") rows) read
few_behind _ rows read = tt

pub few_helpers : (rows : List Row) (a : Asked) → GivesArguments rows a → HasFewHelpers a
few_helpers rows a g = subst HasFew g.1 (few_behind (tail_form a.verb) rows g.2)

-- ---- how a command is built

-- no command has a group, or a setting that changes how words are read
pub plain_command : (verb : Verb) → (command verb).top.is_plain ≡ true
plain_command Plan = refl
plain_command _ = refl
