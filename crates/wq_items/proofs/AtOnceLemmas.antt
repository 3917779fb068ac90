-- Reading a text at once: what a line seems to say compared with what it says, and what the lines so far have made.
use Rattle.std.proofs.Common.{◌≡◌, ◌≢◌, ℕ, ◌+◌, ◌-◌, ◌<◌, Bool, true, false, cond, ◌||◌, List, [], ◌∷◌, ◌++◌, length}
use Rattle.std.proofs.Common.{Option, Some, None, Result, Ok, Err, IsOk, refl, sym, ap, subst, ◌∙◌, arith, inl, inr}
use Rattle.std.specs.Prelude.{IsTrue, IfSome, IfNone, option_map, codes}
use Rattle.std.specs.List.{AllByRecursion, list_all, cons_option}
use Rattle.std.specs.Option.{option_or}
use Rattle.std.proofs.lemmas.Bool.{and_from, or_right}
use Rattle.wq_text.specs.Lines.{LineView}
use Rattle.wq_text.specs.Comments.{before_comment}
use Rattle.wq_text.specs.Words.{WordView, words_of, BeginsWithWords}
use Rattle.wq_decl.specs.declared.directive.Directive.{Directive}
use Rattle.wq_decl.specs.declared.directive.Directive.TheVariants.{Item, Flush, FlushWq, Unsure, Ordered}
use Rattle.wq_decl.specs.declared.fault.DeclError.{DeclError}
use Rattle.wq_decl.specs.declared.fault.DeclError.TheVariants.{BadByte, BadName}
use Rattle.wq_decl.specs.declared.keyword.Keyword.{Keyword}
use Rattle.wq_decl.specs.declared.keyword.Keyword.TheVariants as keyword
use Rattle.wq_decl.specs.Names.{is_name, are_names}
use Rattle.wq_decl.specs.Keywords.{keyword_of}
use Rattle.wq_decl.specs.Reading.{is_text_byte, item_reading, flush_reading, flushwq_reading, unsure_reading}
use Rattle.wq_decl.specs.Reading.{ordered_reading, reading_after, words_reading, reading, directives, first_fault}
use Rattle.wq_decl.specs.Reading.{fault_in, directive_in, is_ordered, has_ordered, ordered_lines, HasNames}
use Rattle.wq_decl.proofs.NameLemmas.{HasNames-directives}
use Rattle.wq_decl.proofs.TextLemmas.{reading-text, reading-words}
use Rattle.wq_items.specs.declared.fault.ItemError.{ItemError}
use Rattle.wq_items.specs.Table.{Table, IsTable, item_named}
use Rattle.wq_items.specs.declared.target.Kind.{Kind}
use Rattle.wq_items.specs.declared.target.Target.{Target}
use Rattle.wq_items.specs.Building.{AddsOne, empty_table, items_named, declared, and_then, table_after, table_of}
use Rattle.wq_items.specs.Building.{of_item, flushes_declared, item_declared}
use Rattle.wq_items.specs.FirstFault.{RanOut, DeclaresMore}
use Rattle.wq_items.specs.AtOnce.{item_unjudged, flush_unjudged, flushwq_unjudged, unsure_unjudged, unjudged_after}
use Rattle.wq_items.specs.AtOnce.{unjudged, is_whole, Foretells, IsTaken, IsRefused}
use Rattle.wq_items.proofs.TableLemmas.{parts, item_named-below}
use Rattle.wq_items.proofs.BuildingLemmas.{IsTable-table_of}
use Rattle.wq_items.proofs.GrownTables.{known_next}
use Rattle.wq_items.proofs.FlushLemmas.{item_named-is}
use Rattle.wq_items.proofs.ReadLemmas.{Made, Made-none, Made-more, Made-ran_out, Made-out_at_end}

-- ---- what a line seems to say

-- if only the test decides whether a directive is read
by_test : (d : Directive) (b : Bool) (e : DeclError) → is_whole d ≡ b
    → Foretells (Some (Some d)) (cond b (Ok (Some d)) (Err e))
by_test d true e is = (λ (whole : IsTrue (is_whole d)). refl, λ ok. is)
by_test d false e is = (λ (whole : IsTrue (is_whole d)). absurd cc, λ ok. absurd cc)

foretells_item : (n : ℕ) (ws : List WordView) → Foretells (item_unjudged ws) (item_reading n ws)
foretells_item n [] = λ ok. cc
foretells_item n (name ∷ []) = by_test (Item name) (is_name name.bytes) (BadName n) refl
foretells_item n (name ∷ extra ∷ others) = λ ok. cc

foretells_flush : (n : ℕ) (ws : List WordView) → Foretells (flush_unjudged ws) (flush_reading n ws)
foretells_flush n [] = λ ok. cc
foretells_flush n (name ∷ []) = (λ whole. absurd cc, λ ok. absurd cc)
foretells_flush n (name ∷ target ∷ others) = by_test (Flush name (target ∷ others)) (are_names (name ∷ target ∷ others))
    (BadName n) refl

foretells_flushwq : (n : ℕ) (ws : List WordView) → Foretells (flushwq_unjudged ws) (flushwq_reading n ws)
foretells_flushwq n [] = λ ok. cc
foretells_flushwq n (name ∷ []) = λ ok. cc
foretells_flushwq n (name ∷ target ∷ []) = by_test (FlushWq name target) (are_names (name ∷ target ∷ [])) (BadName n)
    refl
foretells_flushwq n (name ∷ target ∷ extra ∷ others) = λ ok. cc

foretells_unsure : (n : ℕ) (whole : Bool) (ws : List WordView)
    → Foretells (unsure_unjudged whole ws) (unsure_reading n whole ws)
foretells_unsure n whole [] = λ ok. cc
foretells_unsure n whole (name ∷ []) = λ ok. cc
foretells_unsure n whole (name ∷ target ∷ []) = by_test (Unsure name target whole) (are_names (name ∷ target ∷ []))
    (BadName n) refl
foretells_unsure n whole (name ∷ target ∷ extra ∷ others) = λ ok. cc

foretells_ordered : (n : ℕ) (ws : List WordView) → Foretells (Some (Some (Ordered ws))) (ordered_reading n ws)
foretells_ordered n [] = (λ whole. absurd cc, λ ok. absurd cc)
foretells_ordered n (name ∷ others) = by_test (Ordered (name ∷ others)) (are_names (name ∷ others)) (BadName n) refl

foretells_after : (k : Option Keyword) (n : ℕ) (ws : List WordView)
    → Foretells (unjudged_after k ws) (reading_after k n ws)
foretells_after None n ws = λ ok. cc
foretells_after (Some keyword.Item) n ws = foretells_item n ws
foretells_after (Some keyword.Flush) n ws = foretells_flush n ws
foretells_after (Some keyword.FlushWq) n ws = foretells_flushwq n ws
foretells_after (Some keyword.FlushUnsure) n ws = foretells_unsure n false ws
foretells_after (Some keyword.FlushWqUnsure) n ws = foretells_unsure n true ws
foretells_after (Some keyword.Ordered) n ws = foretells_ordered n ws

foretells_words : (n : ℕ) (ws : List WordView) → Foretells (unjudged ws) (words_reading n ws)
foretells_words n [] = refl
foretells_words n (first ∷ others) = foretells_after (keyword_of first.bytes) n others

-- a line that has no fault holds only bytes that it may hold
text_of_read : (line : LineView) → IsOk (reading line) → list_all is_text_byte (before_comment line.bytes) ≡ true
text_of_read line ok = by (list_all is_text_byte (before_comment line.bytes)) ok
  where
    by : (b : Bool) → IsOk (cond b (words_reading line.no (words_of line)) (Err (BadByte line.no))) → b ≡ true
    by true ok = refl
    by false ok = absurd cc

words_of_read : (line : LineView) → IsOk (reading line) → IsOk (words_reading line.no (words_of line))
words_of_read line ok = subst (λ (r : Result (Option Directive) DeclError). IsOk r)
    (sym (reading-text line (text_of_read line ok))) ok

Foretells-line : (line : LineView) (o : Option (Option Directive)) → Foretells o (words_reading line.no (words_of line))
    → Foretells o (reading line)
Foretells-line line None f = λ ok. f (words_of_read line ok)
Foretells-line line (Some None) f =
    sym (reading-words line (subst (λ (r : Result (Option Directive) DeclError). IsOk r) (sym f) refl)) ∙ f
Foretells-line line (Some (Some d)) f = (
  λ whole. sym (reading-words line (subst (λ (r : Result (Option Directive) DeclError). IsOk r) (sym (f.0 whole)) refl))
      ∙ f.0 whole,
  λ ok. f.1 (words_of_read line ok),
)

-- what the words of a line seem to say tells what the line says
pub Foretells-reading : (line : LineView) → Foretells (unjudged (words_of line)) (reading line)
Foretells-reading line = Foretells-line line (unjudged (words_of line)) (foretells_words line.no (words_of line))

-- ---- the lines so far

-- the lines before those that are left have no fault and made the table
pub record SoFar (t : Table) (orders : Bool) (left all : List LineView) : Type 0 where
  pub made : Made t (directives left) (directives all)
  pub whole : table_after t (directives left) ≡ table_of (directives all)
  pub sound : first_fault left ≡ first_fault all
  pub order : (orders || has_ordered (directives left)) ≡ has_ordered (directives all)

pub SoFar-none : (t : Table) (left all : List LineView) → t ≡ empty_table → left ≡ all → SoFar t false left all
SoFar-none t left all empty same = record {
  made = Made-none t (directives left) (directives all) empty (ap (λ (ls : List LineView). directives ls) same);
  whole = ap (λ (u : Table). table_after u (directives left)) empty
      ∙ ap (λ (ls : List LineView). table_of (directives ls)) same;
  sound = ap (λ (ls : List LineView). first_fault ls) same;
  order = ap (λ (ls : List LineView). has_ordered (directives ls)) same;
}

blank_directives : (line : LineView) (rest : List LineView) → reading line ≡ Ok None
    → directives (line ∷ rest) ≡ directives rest
blank_directives line rest said =
    ap (λ (r : Result (Option Directive) DeclError). cons_option (directive_in line.no r) (directives rest)) said

more_directives : (line : LineView) (d : Directive) (rest : List LineView) → reading line ≡ Ok (Some d)
    → directives (line ∷ rest) ≡ (line.no, d) ∷ directives rest
more_directives line d rest said =
    ap (λ (r : Result (Option Directive) DeclError). cons_option (directive_in line.no r) (directives rest)) said

no_fault : (line : LineView) (o : Option Directive) (rest : List LineView) → reading line ≡ Ok o
    → first_fault (line ∷ rest) ≡ first_fault rest
no_fault line o rest said = ap (λ (r : Result (Option Directive) DeclError). option_or (fault_in r) (first_fault rest))
    said

at_lines : (t : Table) (orders : Bool) (left more all : List LineView) → left ≡ more → SoFar t orders left all
    → SoFar t orders more all
at_lines t orders left more all same h = subst (λ (ls : List LineView). SoFar t orders ls all) same h

pub SoFar-blank : (t : Table) (orders : Bool) (line : LineView) (left rest all : List LineView) → left ≡ line ∷ rest
    → reading line ≡ Ok None → SoFar t orders left all → SoFar t orders rest all
SoFar-blank t orders line left rest all step said h =
    let at = at_lines t orders left (line ∷ rest) all step h in
    let ds = blank_directives line rest said in
    record {
      made = subst (λ (xs : List (ℕ × Directive)). Made t xs (directives all)) ds at.made;
      whole = ap (λ (xs : List (ℕ × Directive)). table_after t xs) (sym ds) ∙ at.whole;
      sound = sym (no_fault line None rest said) ∙ at.sound;
      order = ap (λ (xs : List (ℕ × Directive)). orders || has_ordered xs) (sym ds) ∙ at.order;
    }

or_assoc : (a b c : Bool) → ((a || b) || c) ≡ (a || (b || c))
or_assoc true b c = refl
or_assoc false b c = refl

after_one : (r : Result Table ItemError) (u : Table) (ds : List (ℕ × Directive)) → r ≡ Ok u
    → table_after u ds ≡ and_then (λ (v : Table). table_after v ds) r
after_one r u ds taken = sym (ap (λ (q : Result Table ItemError). and_then (λ (v : Table). table_after v ds) q) taken)

pub SoFar-more : (t u : Table) (orders : Bool) (line : LineView) (d : Directive) (left rest all : List LineView)
    → left ≡ line ∷ rest → reading line ≡ Ok (Some d) → declared t line.no d ≡ Ok u
    → SoFar t orders left all → SoFar u (orders || is_ordered d) rest all
SoFar-more t u orders line d left rest all step said taken h =
    let at = at_lines t orders left (line ∷ rest) all step h in
    let ds = more_directives line d rest said in
    record {
      made = Made-more t u line.no d (directives (line ∷ rest)) (directives rest) (directives all) ds taken at.made;
      whole = after_one (declared t line.no d) u (directives rest) taken
          ∙ ap (λ (xs : List (ℕ × Directive)). table_after t xs) (sym ds) ∙ at.whole;
      sound = sym (no_fault line (Some d) rest said) ∙ at.sound;
      order = or_assoc orders (is_ordered d) (has_ordered (directives rest))
          ∙ ap (λ (xs : List (ℕ × Directive)). orders || has_ordered xs) (sym ds) ∙ at.order;
    }

each_before : (Q : ℕ × Directive → Type 0) (xs ys : List (ℕ × Directive)) → AllByRecursion Q (xs ++ ys)
    → AllByRecursion Q xs
each_before Q [] ys q = tt
each_before Q (x ∷ xs) ys q = (q.0, each_before Q xs ys q.1)

-- what the lines so far made is a table
pub IsTable-SoFar : (t : Table) (orders : Bool) (left all : List LineView) → SoFar t orders left all → IsTable t
IsTable-SoFar t orders left all h =
    let m = h.made in
    let named = subst (λ (ds : List (ℕ × Directive)). AllByRecursion (λ (d : ℕ × Directive). HasNames d.1) ds) m.parts
    (HasNames-directives all) in
    IsTable-table_of m.before t (each_before (λ (d : ℕ × Directive). HasNames d.1) m.before (directives left) named)
    m.makes

-- ---- the end, and what stops before it

-- the text has no fault, and its directives make a table
abbrev pub IsSound : List LineView → Type 0
IsSound all = (first_fault all ≡ None) × IsOk (table_of (directives all))

read_in : (r : Result (Option Directive) DeclError) (rest : Option DeclError) → option_or (fault_in r) rest ≡ None
    → IsOk r
read_in (Ok found) rest e = refl
read_in (Err fault) rest e = absurd cc

-- the first of the lines that are left has no fault
line_is_read : (t : Table) (orders : Bool) (line : LineView) (left rest all : List LineView) → left ≡ line ∷ rest
    → SoFar t orders left all → first_fault all ≡ None → IsOk (reading line)
line_is_read t orders line left rest all step h sound = read_in (reading line) (first_fault rest)
    ((at_lines t orders left (line ∷ rest) all step h).sound ∙ sound)

ok_before : (r : Result Table ItemError) (ds : List (ℕ × Directive))
    → IsOk (and_then (λ (v : Table). table_after v ds) r) → IsOk r
ok_before (Ok u) ds ok = refl
ok_before (Err e) ds ok = absurd cc

pub SoFar-ran_out : (t : Table) (orders : Bool) (line : LineView) (d : Directive) (left rest all : List LineView)
    → left ≡ line ∷ rest → Foretells (Some (Some d)) (reading line)
    → (IsTrue (is_whole d) → IsOk (declared t line.no d) → DeclaresMore (line.no, d)) → SoFar t orders left all
    → first_fault all ≡ None → IsOk (table_of (directives all)) → RanOut (directives all)
SoFar-ran_out t orders line d left rest all step said memory h sound made =
    let at = at_lines t orders left (line ∷ rest) all step h in
    let whole = said.1 (line_is_read t orders line left rest all step h sound) in
    let ds = more_directives line d rest (said.0 whole) in
    let ok : IsOk (declared t line.no d) =
    ok_before (declared t line.no d) (directives rest) (
    subst (λ (r : Result Table ItemError). IsOk r) (sym at.whole
    ∙ ap (λ (xs : List (ℕ × Directive)). table_after t xs) ds) made
    ) in
    Made-ran_out t line.no d (directives (line ∷ rest)) (directives rest) (directives all) ds ok (memory whole ok)
    at.made

pub SoFar-out_at_end : (t : Table) (orders : Bool) (left all : List LineView) → left ≡ [] → 0 < length t.names
    → SoFar t orders left all → RanOut (directives all)
SoFar-out_at_end t orders left all none some h = Made-out_at_end t (directives left) (directives all)
    (ap (λ (ls : List LineView). directives ls) none) some h.made

or_false : (b : Bool) → b ≡ (b || false)
or_false true = refl
or_false false = refl

-- ---- the `ordered` lines so far

-- from `first` on are all `ordered` lines of the text; `count` of them, where that is known, are before the lines that are left
pub record OrdersSoFar (any : Bool) (first : List LineView) (count : Option ℕ) (left all : List LineView) : Type 0 where
  pub same : ordered_lines (directives first) ≡ ordered_lines (directives all)
  pub sound : first_fault first ≡ first_fault all
  pub counted : (n : ℕ) → count ≡ Some n → length (ordered_lines (directives first)) ≡ n + length
      (ordered_lines (directives left))
  pub none : any ≡ false → count ≡ Some 0
  pub start : any ≡ false → ordered_lines (directives left) ≡ ordered_lines (directives all)

abbrev orders_of : List LineView → List (ℕ × List WordView)
orders_of lines = ordered_lines (directives lines)

pub OrdersSoFar-none : (any : Bool) (first : List LineView) (count : Option ℕ) (left all : List LineView)
    → count ≡ Some 0 → first ≡ all → left ≡ all → OrdersSoFar any first count left all
OrdersSoFar-none any first count left all zero f l = record {
  same = ap orders_of f;
  sound = ap first_fault f;
  counted = λ n is. let no : n ≡ 0 = cc in omega (
    arith,
    no,
    ap (λ (ls : List LineView). length (orders_of ls)) f,
    ap (λ (ls : List LineView). length (orders_of ls)) l,
  );
  none = λ e. zero;
  start = λ e. ap orders_of l;
}

-- no `ordered` line more
passed_line : (any : Bool) (first : List LineView) (count : Option ℕ) (line : LineView) (left rest all : List LineView)
    → left ≡ line ∷ rest → orders_of (line ∷ rest) ≡ orders_of rest
    → OrdersSoFar any first count left all → OrdersSoFar any first count rest all
passed_line any first count line left rest all step same h =
    let on : orders_of left ≡ orders_of rest = ap orders_of step ∙ same in
    record {
      same = h.same;
      sound = h.sound;
      counted = λ n is. omega (arith, h.counted n is, ap (λ (xs : List (ℕ × List WordView)). length xs) on);
      none = h.none;
      start = λ e. sym on ∙ h.start e;
    }

pub OrdersSoFar-blank : (any : Bool) (first : List LineView) (count : Option ℕ) (line : LineView)
    (left rest all : List LineView) → left ≡ line ∷ rest → reading line ≡ Ok None
    → OrdersSoFar any first count left all → OrdersSoFar any first count rest all
OrdersSoFar-blank any first count line left rest all step said h =
    passed_line any first count line left rest all step (ap ordered_lines (blank_directives line rest said)) h

other_order : (n : ℕ) (d : Directive) (ds : List (ℕ × Directive)) → is_ordered d ≡ false
    → ordered_lines ((n, d) ∷ ds) ≡ ordered_lines ds
other_order n (Item name) ds e = refl
other_order n (Flush name targets) ds e = refl
other_order n (FlushWq name target) ds e = refl
other_order n (Unsure name target whole) ds e = refl
other_order n (Ordered names) ds e = absurd cc

one_order : (n : ℕ) (d : Directive) (ds : List (ℕ × Directive)) → is_ordered d ≡ true
    → length (ordered_lines ((n, d) ∷ ds)) ≡ 1 + length (ordered_lines ds)
one_order n (Item name) ds e = absurd cc
one_order n (Flush name targets) ds e = absurd cc
one_order n (FlushWq name target) ds e = absurd cc
one_order n (Unsure name target whole) ds e = absurd cc
one_order n (Ordered names) ds e = omega arith

-- what is noted of a line with a directive
pub record IsNoted (ordered any : Bool) (first : List LineView) (count : Option ℕ) (here : List LineView)
    (new_any : Bool) (new_first : List LineView) (new_count : Option ℕ) : Type 0 where
  pub some : new_any ≡ (any || ordered)
  pub other : ordered ≡ false → (new_first ≡ first) × (new_count ≡ count)
  pub begins : ordered ≡ true → any ≡ false → new_first ≡ here
  pub later : any ≡ true → new_first ≡ first
  pub more : ordered ≡ true → (n : ℕ) → new_count ≡ Some n → (0 < n) × (count ≡ Some (n - 1))

pub OrdersSoFar-noted : (any : Bool) (first : List LineView) (count : Option ℕ) (here : List LineView) (new_any : Bool)
    (new_first : List LineView) (new_count : Option ℕ) (line : LineView) (d : Directive)
    (left rest all : List LineView) → left ≡ line ∷ rest → reading line ≡ Ok (Some d) → here ≡ left
    → first_fault left ≡ first_fault all
    → IsNoted (is_ordered d) any first count here new_any new_first new_count → OrdersSoFar any first count left all
    → OrdersSoFar new_any new_first new_count rest all
OrdersSoFar-noted any first count here new_any new_first new_count line d left rest all step said at fault noted h =
    by (is_ordered d) refl
  where
    ds : directives (line ∷ rest) ≡ (line.no, d) ∷ directives rest
    ds = more_directives line d rest said

    -- the lines from the first one on, as they were before this line or begin with it
    begun : (b : Bool) → any ≡ b → is_ordered d ≡ true
        → (orders_of new_first ≡ orders_of all) × (first_fault new_first ≡ first_fault all)
        × ((n : ℕ) → count ≡ Some n → length (orders_of new_first) ≡ n + length (orders_of left))
    begun false none is =
        let now : new_first ≡ left = noted.begins is none ∙ at in
        let zero : count ≡ Some 0 = h.none none in (
          ap orders_of now ∙ h.start none,
          ap first_fault now ∙ fault,
          λ n e. let no : n ≡ 0 = cc in omega (arith, no, ap (λ (ls : List LineView). length (orders_of ls)) now),
        )
    begun true some is =
        let now : new_first ≡ first = noted.later some in (
          ap orders_of now ∙ h.same,
          ap first_fault now ∙ h.sound,
          λ n e. omega (arith, h.counted n e, ap (λ (ls : List LineView). length (orders_of ls)) now),
        )

    by : (b : Bool) → is_ordered d ≡ b → OrdersSoFar new_any new_first new_count rest all
    by false isnt =
        let kept = noted.other isnt in
        let same : new_any ≡ any = noted.some ∙ ap (λ (b : Bool). any || b) isnt ∙ sym (or_false any) in
        subst (λ (a : Bool). OrdersSoFar a new_first new_count rest all) (sym same) (
        subst (λ (f : List LineView). OrdersSoFar any f new_count rest all) (sym kept.0) (
        subst (λ (n : Option ℕ). OrdersSoFar any first n rest all) (sym kept.1) (
        passed_line any first count line left rest all step (ap ordered_lines ds
        ∙ other_order line.no d (directives rest) isnt) h
        )
        )
        )
    by true is =
        let new = begun any refl is in
        let long : length (orders_of left) ≡ 1 + length (orders_of rest) =
        ap (λ (ls : List LineView). length (orders_of ls)) step
        ∙ ap (λ (xs : List (ℕ × Directive)). length (ordered_lines xs)) ds
        ∙ one_order line.no d (directives rest) is in
        let seen : new_any ≡ true = noted.some ∙ ap (λ (b : Bool). any || b) is ∙ or_right any true refl in
        record {
          same = new.0;
          sound = new.1;
          counted = λ n e. let up = noted.more is n e in omega (arith, up.0, long, new.2 (n - 1) up.1);
          none = λ e. absurd cc;
          start = λ e. absurd cc;
        }

-- ---- plain lines

-- what a line says that begins with these words
plain_said : (keyword : List ℕ) (words : List WordView) (lines left : List LineView)
    (b : BeginsWithWords keyword words lines left)
    → Foretells (unjudged (record { start = b.line.start; bytes = keyword } ∷ words)) (reading b.line)
plain_said keyword words lines left b =
    subst (λ (ws : List WordView). Foretells (unjudged ws) (reading b.line)) b.holds (Foretells-reading b.line)

module _ (name target : WordView) (lines left : List LineView)
    (b : BeginsWithWords (codes "flush") (name ∷ target ∷ []) lines left) where
  flush_said : Foretells (Some (Some (Flush name (target ∷ [])))) (reading b.line)
  flush_said = plain_said (codes "flush") (name ∷ target ∷ []) lines left b

  pub IsTaken-flush : (t u : Table) → IsTrue (are_names (name ∷ target ∷ []))
      → ((n : ℕ) → flushes_declared t n of_item (items_named t.names (name ∷ target ∷ [])) ≡ Ok u)
      → IsTaken t lines u left
  IsTaken-flush t u whole makes = record {
    line = b.line;
    directive = Flush name (target ∷ []);
    first = b.first;
    said = flush_said.0 whole;
    other = refl;
    makes = makes b.line.no;
  }

  pub IsRefused-flush : IsRefused lines
  IsRefused-flush = record {
    line = b.line;
    directive = Flush name (target ∷ []);
    left = left;
    first = b.first;
    said = flush_said;
    grows = inr (omega arith);
  }

module _ (name : WordView) (lines left : List LineView) (b : BeginsWithWords (codes "item") (name ∷ []) lines left)
  where
    item_said : Foretells (Some (Some (Item name))) (reading b.line)
    item_said = plain_said (codes "item") (name ∷ []) lines left b

    pub IsTaken-item : (t u : Table) → IsTrue (is_whole (Item name)) → ((n : ℕ) → item_declared t n name ≡ Ok u)
        → IsTaken t lines u left
    IsTaken-item t u whole makes = record {
      line = b.line;
      directive = Item name;
      first = b.first;
      said = item_said.0 whole;
      other = refl;
      makes = makes b.line.no;
    }

    pub IsRefused-item : IsRefused lines
    IsRefused-item = record {
      line = b.line;
      directive = Item name;
      left = left;
      first = b.first;
      said = item_said;
      grows = inl refl;
    }

-- the lines so far, after one that was taken
pub SoFar-taken : (t u : Table) (orders : Bool) (lines left all : List LineView) → IsTaken t lines u left
    → SoFar t orders lines all → SoFar u orders left all
SoFar-taken t u orders lines left all k h =
    let same : (orders || is_ordered k.directive) ≡ orders = ap (λ (b : Bool). orders || b) k.other
    ∙ sym (or_false orders) in
    subst (λ (b : Bool). SoFar u b left all) same
    (SoFar-more t u orders k.line k.directive lines left all k.first k.said k.makes h)

pub OrdersSoFar-taken : (t u : Table) (any : Bool) (first : List LineView) (count : Option ℕ)
    (lines left all : List LineView) → IsTaken t lines u left → OrdersSoFar any first count lines all
    → OrdersSoFar any first count left all
OrdersSoFar-taken t u any first count lines left all k h =
    passed_line any first count k.line lines left all k.first
    (ap ordered_lines (more_directives k.line k.directive left k.said)
    ∙ other_order k.line.no k.directive (directives left) k.other) h

-- memory ran out, if the text has no fault
pub SoFar-refused : (t : Table) (orders : Bool) (lines all : List LineView) → IsRefused lines
    → SoFar t orders lines all → first_fault all ≡ None → IsOk (table_of (directives all)) → RanOut (directives all)
SoFar-refused t orders lines all k h = SoFar-ran_out t orders k.line k.directive lines k.left all k.first k.said
    (λ whole ok. k.grows) h

pub length-taken : (t u : Table) (lines left : List LineView) → IsTaken t lines u left → length left < length lines
length-taken t u lines left k = omega (arith, ap (λ (ls : List LineView). length ls) k.first)

-- ---- names that are found

module _ (t : Table) (sound : IsTable t) where
  name_found : (name : List ℕ) (i : ℕ) → item_named t.names name ≡ Some i → is_name name ≡ true
  name_found name i e = subst (λ (n : List ℕ). is_name n ≡ true) (item_named-is t.names name i e)
      (sound.named i [] (item_named-below t.names name i e))

  names_found : (words : List WordView) (items : List ℕ) → items_named t.names words ≡ Some items
      → are_names words ≡ true
  names_found [] items e = refl
  names_found (word ∷ words) items e =
      let p = parts (item_named t.names word.bytes) (items_named t.names words) items e in
      and_from (is_name word.bytes) (are_names words) (name_found word.bytes p.item p.first)
      (names_found words p.others p.rest)

  -- an `ordered` line whose words are found is whole, if there are some
  pub whole_order : (words : List WordView) (items : List ℕ) → items_named t.names words ≡ Some items → 0 < length items
      → IsTrue (is_whole (Ordered words))
  whole_order [] items e some = let none : items ≡ [] = cc in absurd (omega (arith, ap length none, some))
  whole_order (word ∷ words) items e some = names_found (word ∷ words) items e

  pub whole_counted : (words : List WordView) (count : ℕ) → Some count ≡ option_map length (items_named t.names words)
      → count ≢ 0 → IsTrue (is_whole (Ordered words))
  whole_counted words count e some = by (items_named t.names words) refl e
    where
      by : (o : Option (List ℕ)) → items_named t.names words ≡ o → Some count ≡ option_map length o
          → IsTrue (is_whole (Ordered words))
      by None is e = absurd cc
      by (Some items) is e = let same : count ≡ length items =
          cc in whole_order words items is (omega (arith, same, some))

  -- so is a `flush` line whose words are found, if the place after its targets isn't the first
  pub whole_flushes : (name : WordView) (targets : List WordView) (i first next : ℕ)
      → item_named t.names name.bytes ≡ Some i
      → option_map (λ (items : List ℕ). first + length items) (items_named t.names targets) ≡ Some next → next ≢ first
      → IsTrue (is_whole (Flush name targets))
  whole_flushes name [] i first next found known more = let same : first + 0 ≡ next =
      cc in absurd (more (omega (arith, same)))
  whole_flushes name (target ∷ others) i first next found known more =
      let k = known_next (items_named t.names (target ∷ others)) first next known in
      and_from (is_name name.bytes) (are_names (target ∷ others)) (name_found name.bytes i found)
      (names_found (target ∷ others) k.0 k.1)

  -- so is a line of one flush whose words are found
  pub whole_both : (name target : WordView) (i j : ℕ) → item_named t.names name.bytes ≡ Some i
      → item_named t.names target.bytes ≡ Some j → IsTrue (are_names (name ∷ target ∷ []))
  whole_both name target i j first second =
      and_from (is_name name.bytes) (are_names (target ∷ [])) (name_found name.bytes i first)
      (and_from (is_name target.bytes) true (name_found target.bytes j second) refl)

  pub whole_added : {X : Type 0} (o : Option X) (old new : List (List Target)) (kind : Kind) (name target : WordView)
      (place : ℕ) → IfSome o (λ _. AddsOne t.names old kind name.bytes target.bytes place new)
      → IfSome o (λ _. IsTrue (are_names (name ∷ target ∷ [])))
  whole_added None old new kind name target place h = tt
  whole_added (Some x) old new kind name target place h = whole_both name target h.item h.other h.first h.second

-- ---- no answer

-- what holds in any case holds if there is no answer
pub IfNone-always : {X : Type 0} (o : Option X) (P : Type 0) → P → IfNone o P
IfNone-always None P p = p
IfNone-always (Some x) P p = tt
