-- What is said to be declared in a text is what its passes declare.
use Rattle.std.proofs.Common.{◌≡◌, ℕ, ◌+◌, ◌⊎◌, Bool, true, false, cond, not, inl, inr, List, [], ◌∷◌, ◌++◌, length, map, get_or, Option, Some, None, Result, Ok, Err, refl, sym, ap, ap₂, subst, ◌∙◌, arith}
use Rattle.std.specs.Prelude.{◌==◌, ◌&&◌, ◌||◌, nat_lt, nat_le, filter_map, flat_map, count_by, slice_index_or, bytes_eq, codes, is_some, is_none, is_ok, unwrap_or, option_map, option_and_then}
use Rattle.std.specs.Option.{option_or}
use Rattle.std.specs.Result.{result_ok}
use Rattle.std.specs.List.{list_all, list_any, range_with_len, cons_option}
use Rattle.std.specs.Str.Lines.{lines}
use Rattle.std.proofs.lemmas.Bool.{cases_Bool, cases_lt, cond_both, false_from_ne_true, lt-ltb, le-ltb, le-leb, lt-leb, ne_eqb}
use Rattle.std.proofs.lemmas.List.Folds.{list_all-map}
use Rattle.std.proofs.lemmas.List.Elements.{filter_agree}
use Rattle.wq_text.specs.declared.text.TextError.{TextError}
use Rattle.wq_text.specs.declared.text.TextError.TheVariants.{TextTooLong, LineTooLong}
use Rattle.wq_text.specs.Lines.{LineView, lines_of}
use Rattle.wq_text.specs.Limits.{limit_fault, first_long_line, text_refusal}
use Rattle.wq_text.specs.Comments.{before_comment}
use Rattle.wq_text.specs.Words.{WordView, words_of}
use Rattle.wq_decl.specs.declared.directive.Directive.{Directive}
use Rattle.wq_decl.specs.declared.directive.Directive.TheVariants.{Item, Flush, FlushWq, Unsure, Ordered}
use Rattle.wq_decl.specs.declared.fault.DeclError.{DeclError}
use Rattle.wq_decl.specs.declared.fault.DeclError.TheVariants.{BadByte, BadName}
use Rattle.wq_decl.specs.declared.keyword.Keyword.{Keyword}
use Rattle.wq_decl.specs.declared.keyword.Keyword.TheVariants as keyword
use Rattle.wq_decl.specs.Names.{is_name, are_names}
use Rattle.wq_decl.specs.Keywords.{keyword_of}
use Rattle.wq_decl.specs.Reading.{is_text_byte, item_reading, flush_reading, flushwq_reading, unsure_reading}
use Rattle.wq_decl.specs.Reading.{ordered_reading, reading_after, words_reading, reading, fault_in, first_fault}
use Rattle.wq_decl.specs.Reading.{directive_in, directives, decl_refusal}
use Rattle.wq_decl.proofs.KeywordLemmas.{word_of, IsWordOf, IsWordOf-keyword_of}
use Rattle.wq_items.specs.declared.fault.ItemError.{ItemError}
use Rattle.wq_items.specs.declared.fault.ItemError.TheVariants.{ItemTwice, TooManyItems, TooManyFlushes}
use Rattle.wq_items.specs.Table.{Table, item_named, max_items, max_flushes, flush_count}
use Rattle.wq_items.specs.Building.{of_item, of_workqueue, unsure_of, and_then, and_item, items_named}
use Rattle.wq_items.specs.Building.{flushes_declared, items_ordered, with_item, with_flushes, declared, table_after}
use Rattle.wq_items.specs.Building.{table_of, empty_table}
use Rattle.wq_items.proofs.FoundNames.{position-agree}
use Rattle.wq_groups.specs.Grouping.{has_twin, names_ordered, all_ordered, first_regrouped, are_together, first_member, first_members, group_number, partition_of}
use Rattle.wq_groups.proofs.Among.{same_name, Differ-has_twin, has_twin-Differ}
use Rattle.wq_groups.proofs.Regrouped.{first_regrouped-none, Differ-all_ordered}
use Rattle.wq_text.specs.Refusal.{Refusal}
use Rattle.wq_groups.proofs.Partitions.{groups_of-none, groups_of-some}
use Rattle.wq_groups.specs.DeclaredGroups.{Declared}
use Rattle.wq_commands.specs.Declaration.{by_table, unless_refused, declaration, max_declaration, max_declaration_line}
use Rattle.wq_commands.specs.DeclaredIn.{named_of, in_groups, words_by_line, is_in_form, declared_in, words_in, is_directive, is_read, Items, is_item, add_flushes, after_line, after_lines, ordered_on, go_together, first_with, first_items, group_with}
use Rattle.wq_commands.proofs.DeclaredLines.{lines-bytes, words_in-bytes, bytes_of, bytes_in}

-- ---- limits

at_most : (a b : ℕ) → nat_le a b ≡ not (nat_lt b a)
at_most a b = elim (cases_lt b a) [
  | inl more ↦ lt-leb a b more ∙ sym (ap not (lt-ltb b a more))
  | inr within ↦ le-leb a b within ∙ sym (ap not (le-ltb b a within))
]

short_lines : (most : ℕ) (ls : List LineView) → list_all (λ line. nat_le (length line) most) (bytes_in ls) ≡ is_none (first_long_line most ls)
short_lines most [] = refl
short_lines most (l ∷ ls) = ap (λ (b : Bool). b && list_all (λ line. nat_le (length line) most) (bytes_in ls)) (at_most (length l.bytes) most) ∙ here (nat_lt most (length l.bytes)) (short_lines most ls)
  where
    here : (long : Bool) → list_all (λ line. nat_le (length line) most) (bytes_in ls) ≡ is_none (first_long_line most ls)
        → (not long && list_all (λ line. nat_le (length line) most) (bytes_in ls)) ≡ is_none (cond long (Some l) (first_long_line most ls))
    here true others = refl
    here false others = others

-- a text keeps the limits if no fault of them is found
pub limits_kept : (most most_line : ℕ) (text : List ℕ)
    → (nat_le (length text) most && list_all (λ line. nat_le (length line) most_line) (bytes_in (lines_of text))) ≡ is_none (limit_fault most most_line text)
limits_kept most most_line text =
    ap₂ (λ (a b : Bool). a && b) (at_most (length text) most) (short_lines most_line (lines_of text)) ∙ here (nat_lt most (length text)) (first_long_line most_line (lines_of text))
  where
    here : (long : Bool) (line : Option LineView) → (not long && is_none line) ≡ is_none (cond long (Some TextTooLong) (option_map (λ (l : LineView). LineTooLong l.no) line))
    here true line = refl
    here false None = refl
    here false (Some l) = refl

-- ---- lines

-- the first word of a line with an unsure flush: of an item, or of a whole workqueue
abbrev unsure_word : Bool → List ℕ
unsure_word false = codes "flush?"
unsure_word true = codes "flushwq?"

-- a directive as words
abbrev said : Directive → List (List ℕ)
said (Item name) = codes "item" ∷ name.bytes ∷ []
said (Flush name targets) = codes "flush" ∷ name.bytes ∷ bytes_of targets
said (FlushWq name target) = codes "flushwq" ∷ name.bytes ∷ target.bytes ∷ []
said (Unsure name target whole) = unsure_word whole ∷ name.bytes ∷ target.bytes ∷ []
said (Ordered names) = codes "ordered" ∷ bytes_of names

-- words are read as a directive that says them, or aren't one
abbrev Says : Result (Option Directive) DeclError → List (List ℕ) → Type 0
Says (Ok None) words = words ≡ []
Says (Ok (Some d)) words = (words ≡ said d) × (is_directive words ≡ true)
Says (Err e) words = is_directive words ≡ false

all_names : (ws : List WordView) → list_all is_name (bytes_of ws) ≡ are_names ws
all_names ws = list_all-map is_name (λ (w : WordView). w.bytes) ws

item_says : (n : ℕ) (ws : List WordView) → Says (item_reading n ws) (codes "item" ∷ bytes_of ws)
item_says n [] = refl
item_says n (name ∷ []) =
    cond_both (is_name name.bytes) (Ok (Some (Item name))) (Err (BadName n)) (λ r. Says r (codes "item" ∷ name.bytes ∷ [])) (λ yes. (refl, rw yes refl)) (λ no. rw no refl)
item_says n (name ∷ extra ∷ others) =
    ap (λ (b : Bool). b && list_all is_name (bytes_of (name ∷ extra ∷ others))) (ne_eqb (length (bytes_of (name ∷ extra ∷ others))) 1 (λ e. absurd (omega (arith, e))))

flush_says : (n : ℕ) (ws : List WordView) → Says (flush_reading n ws) (codes "flush" ∷ bytes_of ws)
flush_says n [] = refl
flush_says n (name ∷ []) = refl
flush_says n (name ∷ target ∷ others) =
    let ws = name ∷ target ∷ others in
    let enough : nat_le 2 (length (bytes_of ws)) ≡ true = le-leb 2 (length (bytes_of ws)) (omega arith) in
    let is : is_directive (codes "flush" ∷ bytes_of ws) ≡ are_names ws = ap₂ (λ (a b : Bool). a && b) enough (all_names ws) in
    cond_both (are_names ws) (Ok (Some (Flush name (target ∷ others)))) (Err (BadName n)) (λ r. Says r (codes "flush" ∷ bytes_of ws)) (λ yes. (refl, is ∙ yes)) (λ no. is ∙ no)

flushwq_says : (n : ℕ) (ws : List WordView) → Says (flushwq_reading n ws) (codes "flushwq" ∷ bytes_of ws)
flushwq_says n [] = refl
flushwq_says n (name ∷ []) = refl
flushwq_says n (name ∷ target ∷ []) =
    let ws = name ∷ target ∷ [] in
    cond_both (are_names ws) (Ok (Some (FlushWq name target))) (Err (BadName n)) (λ r. Says r (codes "flushwq" ∷ bytes_of ws)) (λ yes. (refl, yes)) (λ no. no)
flushwq_says n (name ∷ target ∷ extra ∷ others) =
    ap (λ (b : Bool). b && list_all is_name (bytes_of (name ∷ target ∷ extra ∷ others))) (ne_eqb (length (bytes_of (name ∷ target ∷ extra ∷ others))) 2 (λ e. absurd (omega (arith, e))))

unsure_says : (n : ℕ) (whole : Bool) (ws : List WordView)
    → Says (unsure_reading n whole ws) (unsure_word whole ∷ bytes_of ws)
unsure_says n false [] = refl
unsure_says n true [] = refl
unsure_says n false (name ∷ []) = refl
unsure_says n true (name ∷ []) = refl
unsure_says n false (name ∷ target ∷ []) =
    let ws = name ∷ target ∷ [] in
    cond_both (are_names ws) (Ok (Some (Unsure name target false))) (Err (BadName n))
    (λ r. Says r (codes "flush?" ∷ bytes_of ws)) (λ yes. (refl, yes)) (λ no. no)
unsure_says n true (name ∷ target ∷ []) =
    let ws = name ∷ target ∷ [] in
    cond_both (are_names ws) (Ok (Some (Unsure name target true))) (Err (BadName n))
    (λ r. Says r (codes "flushwq?" ∷ bytes_of ws)) (λ yes. (refl, yes)) (λ no. no)
unsure_says n false (name ∷ target ∷ extra ∷ others) =
    ap (λ (b : Bool). b && list_all is_name (bytes_of (name ∷ target ∷ extra ∷ others)))
    (ne_eqb (length (bytes_of (name ∷ target ∷ extra ∷ others))) 2 (λ e. absurd (omega (arith, e))))
unsure_says n true (name ∷ target ∷ extra ∷ others) =
    ap (λ (b : Bool). b && list_all is_name (bytes_of (name ∷ target ∷ extra ∷ others)))
    (ne_eqb (length (bytes_of (name ∷ target ∷ extra ∷ others))) 2 (λ e. absurd (omega (arith, e))))

ordered_says : (n : ℕ) (ws : List WordView) → Says (ordered_reading n ws) (codes "ordered" ∷ bytes_of ws)
ordered_says n [] = refl
ordered_says n (name ∷ rest) =
    let ws = name ∷ rest in
    let enough : nat_le 1 (length (bytes_of ws)) ≡ true = le-leb 1 (length (bytes_of ws)) (omega arith) in
    let is : is_directive (codes "ordered" ∷ bytes_of ws) ≡ are_names ws = ap₂ (λ (a b : Bool). a && b) enough (all_names ws) in
    cond_both (are_names ws) (Ok (Some (Ordered ws))) (Err (BadName n)) (λ r. Says r (codes "ordered" ∷ bytes_of ws)) (λ yes. (refl, is ∙ yes)) (λ no. is ∙ no)

-- the first word is that of this keyword, or of none
after_says : (k : Option Keyword) (word : List ℕ) (n : ℕ) (ws : List WordView) → IsWordOf word k → Says (reading_after k n ws) (word ∷ bytes_of ws)
after_says None word n ws none =
    let no_item : bytes_eq word (codes "item") ≡ false = other keyword.Item in
    let no_flush : bytes_eq word (codes "flush") ≡ false = other keyword.Flush in
    let no_flushwq : bytes_eq word (codes "flushwq") ≡ false = other keyword.FlushWq in
    let no_flush_unsure : bytes_eq word (codes "flush?") ≡ false = other keyword.FlushUnsure in
    let no_flushwq_unsure : bytes_eq word (codes "flushwq?") ≡ false = other keyword.FlushWqUnsure in
    let no_ordered : bytes_eq word (codes "ordered") ≡ false = other keyword.Ordered in
    rw (no_item, no_flush, no_flushwq, no_flush_unsure, no_flushwq_unsure, no_ordered) refl
  where
    other : (k : Keyword) → bytes_eq word (word_of k) ≡ false
    other k = false_from_ne_true (bytes_eq word (word_of k)) (λ e. none k (same_name word (word_of k) e))
after_says (Some keyword.Item) word n ws is = subst (λ (w : List ℕ). Says (item_reading n ws) (w ∷ bytes_of ws)) (sym is) (item_says n ws)
after_says (Some keyword.Flush) word n ws is = subst (λ (w : List ℕ). Says (flush_reading n ws) (w ∷ bytes_of ws)) (sym is) (flush_says n ws)
after_says (Some keyword.FlushWq) word n ws is = subst (λ (w : List ℕ). Says (flushwq_reading n ws) (w ∷ bytes_of ws)) (sym is) (flushwq_says n ws)
after_says (Some keyword.FlushUnsure) word n ws is =
    subst (λ (w : List ℕ). Says (unsure_reading n false ws) (w ∷ bytes_of ws)) (sym is) (unsure_says n false ws)
after_says (Some keyword.FlushWqUnsure) word n ws is =
    subst (λ (w : List ℕ). Says (unsure_reading n true ws) (w ∷ bytes_of ws)) (sym is) (unsure_says n true ws)
after_says (Some keyword.Ordered) word n ws is = subst (λ (w : List ℕ). Says (ordered_reading n ws) (w ∷ bytes_of ws)) (sym is) (ordered_says n ws)

Says-words : (n : ℕ) (ws : List WordView) → Says (words_reading n ws) (bytes_of ws)
Says-words n [] = refl
Says-words n (first ∷ ws) = after_says (keyword_of first.bytes) first.bytes n ws (IsWordOf-keyword_of first.bytes)

-- a line that has no fault is read, and says these words
record IsSaid (l : LineView) (r : Result (Option Directive) DeclError) : Type 0 where
  read : is_read l.bytes ≡ is_ok r
  says : (d : Option Directive) → r ≡ Ok d → Says (Ok d) (words_in l.bytes)

IsSaid-line : (l : LineView) → IsSaid l (reading l)
IsSaid-line l = by_bytes (list_all is_text_byte (before_comment l.bytes)) refl (words_reading l.no (words_of l)) (subst (Says (words_reading l.no (words_of l))) (words_in-bytes l) (Says-words l.no (words_of l)))
  where
    by_words : (r : Result (Option Directive) DeclError) → Says r (words_in l.bytes) → is_directive (words_in l.bytes) ≡ is_ok r
    by_words (Ok None) says = ap is_directive says
    by_words (Ok (Some d)) says = says.1
    by_words (Err e) says = says

    by_bytes : (text : Bool) → list_all is_text_byte (before_comment l.bytes) ≡ text → (r : Result (Option Directive) DeclError) → Says r (words_in l.bytes) → IsSaid l (cond text r (Err (BadByte l.no)))
    by_bytes true is r says = record {
      read = ap (λ (b : Bool). b && is_directive (words_in l.bytes)) is ∙ by_words r says;
      says = λ d e. subst (λ (x : Result (Option Directive) DeclError). Says x (words_in l.bytes)) e says;
    }
    by_bytes false is r says = record { read = ap (λ (b : Bool). b && is_directive (words_in l.bytes)) is; says = λ d e. absurd cc }

pub lines_read : (ls : List LineView) → list_all is_read (bytes_in ls) ≡ is_none (first_fault ls)
lines_read [] = refl
lines_read (l ∷ ls) = ap₂ (λ (a b : Bool). a && b) (IsSaid-line l).read (lines_read ls) ∙ here (reading l) (first_fault ls)
  where
    here : (r : Result (Option Directive) DeclError) (o : Option DeclError) → (is_ok r && is_none o) ≡ is_none (option_or (fault_in r) o)
    here (Ok d) o = refl
    here (Err e) o = refl

-- lines of words are blank, or say these directives in turn
abbrev pub Follow : List (List (List ℕ)) → List (ℕ × Directive) → Type 0
Follow [] ds = ds ≡ []
Follow (line ∷ lines) ds = ((line ≡ []) × Follow lines ds)
    ⊎ ((d : ℕ × Directive) × (rest : List (ℕ × Directive)) × (ds ≡ d ∷ rest) × (line ≡ said d.1) × Follow lines rest)

pub Follow-lines : (ls : List LineView) → first_fault ls ≡ None → Follow (map words_in (bytes_in ls)) (directives ls)
Follow-lines [] none = refl
Follow-lines (l ∷ ls) none = here (reading l) (IsSaid-line l).says none (Follow-lines ls)
  where
    here : (r : Result (Option Directive) DeclError) → ((d : Option Directive) → r ≡ Ok d → Says (Ok d) (words_in l.bytes)) → option_or (fault_in r) (first_fault ls) ≡ None
        → (first_fault ls ≡ None → Follow (map words_in (bytes_in ls)) (directives ls)) → Follow (map words_in (bytes_in (l ∷ ls))) (cons_option (directive_in l.no r) (directives ls))
    here (Ok None) says none others = inl (says None refl, others none)
    here (Ok (Some d)) says none others = inr ((l.no, d), directives ls, refl, (says (Some d) refl).0, others none)
    here (Err e) says none others = absurd cc

-- ---- tables

-- the items of a table, without the places of their names
abbrev pub items_of : Table → Items
items_of t = record { names = t.names; waits = t.waits }

-- the same items, or neither has any
abbrev pub Agrees : Result Table ItemError → Option Items → Type 0
Agrees (Ok t) o = o ≡ Some (items_of t)
Agrees (Err e) o = o ≡ None

known : (names : List (List ℕ)) (ws : List WordView) → items_named names ws ≡ cond (list_all (is_item names) (bytes_of ws)) (Some (filter_map (item_named names) (bytes_of ws))) None
known names [] = refl
known names (w ∷ ws) = ap (and_item (item_named names w.bytes)) (known names ws) ∙ here (item_named names w.bytes) (list_all (is_item names) (bytes_of ws)) (filter_map (item_named names) (bytes_of ws))
  where
    here : (o : Option ℕ) (b : Bool) (items : List ℕ) → and_item o (cond b (Some items) None) ≡ cond (is_some o && b) (Some (cons_option o items)) None
    here None b items = refl
    here (Some i) true items = refl
    here (Some i) false items = refl

unless : (b : Bool) (e : ItemError) (t : Table) → Agrees (cond b (Err e) (Ok t)) (cond b None (Some (items_of t)))
unless true e t = refl
unless false e t = refl

flushes_agree : (t : Table) (n : ℕ) (whole unsure b : Bool) (items : List ℕ)
    → Agrees (flushes_declared t n (record { whole = whole; unsure = unsure }) (cond b (Some items) None))
    (cond (not b) None (add_flushes (items_of t) whole unsure items))
flushes_agree t n whole unsure true [] = refl
flushes_agree t n whole unsure true (i ∷ items) =
    unless (nat_lt max_flushes (flush_count t.waits + length items)) (TooManyFlushes n)
    (with_flushes t (record { whole = whole; unsure = unsure }) i items)
flushes_agree t n whole unsure false items = refl

line_agrees : (t : Table) (n : ℕ) (d : Directive) → Agrees (declared t n d) (after_line (items_of t) (said d))
line_agrees t n (Item name) = here (is_item t.names name.bytes) (nat_le max_items (length t.names))
  where
    here : (twice many : Bool) → Agrees (cond twice (Err (ItemTwice n)) (cond many (Err (TooManyItems n)) (Ok (with_item t name)))) (cond ((twice || false) || many) None (Some (items_of (with_item t name))))
    here true many = refl
    here false true = refl
    here false false = refl
line_agrees t n (Flush name targets) =
    subst (λ (o : Option (List ℕ)). Agrees (flushes_declared t n of_item o)
    (after_line (items_of t) (said (Flush name targets)))) (sym (known t.names (name ∷ targets)))
    (flushes_agree t n false false (list_all (is_item t.names) (bytes_of (name ∷ targets)))
    (filter_map (item_named t.names) (bytes_of (name ∷ targets))))
line_agrees t n (FlushWq name target) =
    subst (λ (o : Option (List ℕ)). Agrees (flushes_declared t n of_workqueue o)
    (after_line (items_of t) (said (FlushWq name target)))) (sym (known t.names (name ∷ target ∷ [])))
    (flushes_agree t n true false (list_all (is_item t.names) (bytes_of (name ∷ target ∷ [])))
    (filter_map (item_named t.names) (bytes_of (name ∷ target ∷ []))))
line_agrees t n (Unsure name target false) =
    subst (λ (o : Option (List ℕ)). Agrees (flushes_declared t n (unsure_of false) o)
    (after_line (items_of t) (said (Unsure name target false)))) (sym (known t.names (name ∷ target ∷ [])))
    (flushes_agree t n false true (list_all (is_item t.names) (bytes_of (name ∷ target ∷ [])))
    (filter_map (item_named t.names) (bytes_of (name ∷ target ∷ []))))
line_agrees t n (Unsure name target true) =
    subst (λ (o : Option (List ℕ)). Agrees (flushes_declared t n (unsure_of true) o)
    (after_line (items_of t) (said (Unsure name target true)))) (sym (known t.names (name ∷ target ∷ [])))
    (flushes_agree t n true true (list_all (is_item t.names) (bytes_of (name ∷ target ∷ [])))
    (filter_map (item_named t.names) (bytes_of (name ∷ target ∷ []))))
line_agrees t n (Ordered names) =
    subst (λ (o : Option (List ℕ)). Agrees (items_ordered t n o) (after_line (items_of t) (said (Ordered names)))) (sym (known t.names names))
    (here (list_all (is_item t.names) (bytes_of names)) (filter_map (item_named t.names) (bytes_of names)))
  where
    here : (b : Bool) (items : List ℕ) → Agrees (items_ordered t n (cond b (Some items) None)) (cond (not b) None (Some (items_of t)))
    here true items = refl
    here false items = refl

pub tables_agree : (t : Table) (lines : List (List (List ℕ))) (ds : List (ℕ × Directive)) → Follow lines ds → Agrees (table_after t ds) (after_lines (items_of t) lines)
tables_agree t [] ds none = subst (λ (l : List (ℕ × Directive)). Agrees (table_after t l) (Some (items_of t))) (sym none) refl
tables_agree t (line ∷ lines) ds follow = elim follow [
  | inl blank ↦ subst (λ (l : List (List ℕ)). Agrees (table_after t ds) (option_and_then (λ u. after_lines u lines) (after_line (items_of t) l))) (sym blank.0) (tables_agree t lines ds blank.1)
  | inr more ↦
      let d = more.0 in
      let rest = more.1 in
      subst (λ (l : List (ℕ × Directive)). Agrees (table_after t l) (option_and_then (λ u. after_lines u lines) (after_line (items_of t) line))) (sym more.2)
      (subst (λ (l : List (List ℕ)). Agrees (table_after t (d ∷ rest)) (option_and_then (λ u. after_lines u lines) (after_line (items_of t) l))) (sym more.3)
      (then (declared t d.0 d.1) (after_line (items_of t) (said d.1)) rest lines (line_agrees t d.0 d.1) (λ u. tables_agree u lines rest more.4)))
]
  where
    then : (r : Result Table ItemError) (o : Option Items) (rest : List (ℕ × Directive)) (lines : List (List (List ℕ))) → Agrees r o → ((u : Table) → Agrees (table_after u rest) (after_lines (items_of u) lines))
        → Agrees (and_then (λ u. table_after u rest) r) (option_and_then (λ u. after_lines u lines) o)
    then (Ok u) o rest lines is others = subst (λ (p : Option Items). Agrees (table_after u rest) (option_and_then (λ v. after_lines v lines) p)) (sym is) (others u)
    then (Err e) o rest lines is others = ap (option_and_then (λ v. after_lines v lines)) is

-- ---- groups

ordered_on-said : (n : ℕ) (d : Directive) → ordered_on (said d) ≡ names_ordered (n, d)
ordered_on-said n (Item name) = refl
ordered_on-said n (Flush name targets) = refl
ordered_on-said n (FlushWq name target) = refl
ordered_on-said n (Unsure name target false) = refl
ordered_on-said n (Unsure name target true) = refl
ordered_on-said n (Ordered names) = refl

ordered_on-line : (line : List (List ℕ)) (d : ℕ × Directive) → line ≡ said d.1 → ordered_on line ≡ names_ordered d
ordered_on-line line d is = ap ordered_on is ∙ ordered_on-said d.0 d.1

all_ordered-lines : (lines : List (List (List ℕ))) (ds : List (ℕ × Directive)) → Follow lines ds → flat_map ordered_on lines ≡ all_ordered ds
all_ordered-lines [] ds none = ap all_ordered (sym none)
all_ordered-lines (line ∷ lines) ds follow = elim follow [
  | inl blank ↦ ap (λ (l : List (List ℕ)). ordered_on l ++ flat_map ordered_on lines) blank.0 ∙ all_ordered-lines lines ds blank.1
  | inr more ↦ ap₂ (λ (a b : List (List ℕ)). a ++ b) (ordered_on-line line more.0 more.3) (all_ordered-lines lines more.1 more.4) ∙ ap all_ordered (sym more.2)
]

any_ordered : (p : List (List ℕ) → Bool) → p [] ≡ false → (lines : List (List (List ℕ))) (ds : List (ℕ × Directive)) → Follow lines ds
    → list_any (λ line. p (ordered_on line)) lines ≡ list_any (λ d. p (names_ordered d)) ds
any_ordered p empty [] ds none = ap (list_any (λ d. p (names_ordered d))) (sym none)
any_ordered p empty (line ∷ lines) ds follow = elim follow [
  | inl blank ↦ ap (λ (b : Bool). b || list_any (λ line. p (ordered_on line)) lines) (ap (λ (l : List (List ℕ)). p (ordered_on l)) blank.0 ∙ empty) ∙ any_ordered p empty lines ds blank.1
  | inr more ↦ ap₂ (λ (a b : Bool). a || b) (ap p (ordered_on-line line more.0 more.3)) (any_ordered p empty lines more.1 more.4) ∙ ap (list_any (λ d. p (names_ordered d))) (sym more.2)
]

map-agree : {X Y : Type 0} (f g : X → Y) → ((x : X) → f x ≡ g x) → (xs : List X) → map f xs ≡ map g xs
map-agree f g same [] = refl
map-agree f g same (x ∷ xs) = ap₂ (λ (y : _) (ys : List _). y ∷ ys) (same x) (map-agree f g same xs)

-- no name is ordered twice
pub no_twin : (ds : List (ℕ × Directive)) → has_twin (all_ordered ds) ≡ is_some (first_regrouped [] ds)
no_twin ds = here (first_regrouped [] ds) refl (cases_Bool (has_twin (all_ordered ds)))
  where
    here : (o : Option ℕ) → first_regrouped [] ds ≡ o → (has_twin (all_ordered ds) ≡ true) ⊎ (has_twin (all_ordered ds) ≡ false) → has_twin (all_ordered ds) ≡ is_some o
    here None none twin = has_twin-Differ (all_ordered ds) (Differ-all_ordered ds none)
    here (Some n) some twin = elim twin [ inl is ↦ is | inr apart ↦ absurd cc (sym some ∙ first_regrouped-none ds (Differ-has_twin (all_ordered ds) apart)) ]

module _ (lines : List (List (List ℕ))) (ds : List (ℕ × Directive)) (follow : Follow lines ds) where
  pub twin_lines : has_twin (flat_map ordered_on lines) ≡ is_some (first_regrouped [] ds)
  twin_lines = ap has_twin (all_ordered-lines lines ds follow) ∙ no_twin ds

  together : (a b : List ℕ) → go_together lines a b ≡ are_together ds a b
  together a b = ap (λ (c : Bool). bytes_eq a b || c) (any_ordered (λ names. list_any (bytes_eq a) names && list_any (bytes_eq b) names) refl lines ds follow)

  module _ (names : List (List ℕ)) where
    first_agrees : (name : List ℕ) → first_with lines names name ≡ first_member ds names name
    first_agrees name = ap (λ (o : Option ℕ). unwrap_or o 0) (position-agree (go_together lines name) (are_together ds name) names (λ k d within. together name (get_or names k d)))

    firsts_agree : first_items lines names ≡ first_members ds names
    firsts_agree =
        filter_agree (λ i. first_with lines names (slice_index_or names i []) == i) (λ i. first_member ds names (slice_index_or names i []) == i)
        (λ i. ap (λ (m : ℕ). m == i) (first_agrees (slice_index_or names i []))) (range_with_len 0 (length names))

    group_agrees : (name : List ℕ) → group_with lines names name ≡ group_number ds names name
    group_agrees name =
        ap (count_by (λ i. nat_lt i (first_with lines names name))) firsts_agree
        ∙ ap (λ (m : ℕ). count_by (λ i. nat_lt i m) (first_members ds names)) (first_agrees name)

    pub groups_agree : map (group_with lines names) names ≡ (partition_of ds names).group_of
    groups_agree = map-agree (group_with lines names) (group_number ds names) group_agrees names

    pub number_agrees : length (first_items lines names) ≡ (partition_of ds names).groups
    number_agrees = ap length firsts_agree

-- ---- texts

-- what the passes over tables and groups say, if no name is ordered twice
by_groups-agree : (lines : List (List (List ℕ))) (ds : List (ℕ × Directive)) → Follow lines ds → (o : Option ℕ) → first_regrouped [] ds ≡ o → (r : Result Table ItemError) (items : Option Items) → Agrees r items
    → cond (is_none o) (option_map (in_groups lines) items) None ≡ option_map named_of (result_ok (by_table ds r))
by_groups-agree lines ds follow None none (Ok t) items is =
    rw (is, groups_of-none ds t.names none) (ap₂ (λ (of : List ℕ) (groups : ℕ). Some (record { names = t.names; declared = record { waits = t.waits; group_of = of; groups = groups } })) (groups_agree lines ds follow t.names) (number_agrees lines ds follow t.names))
by_groups-agree lines ds follow (Some n) twice (Ok t) items is = rw (groups_of-some ds t.names n twice) refl
by_groups-agree lines ds follow None none (Err e) items is = rw is refl
by_groups-agree lines ds follow (Some n) twice (Err e) items is = refl

-- a text is in form if none of these passes finds a fault in it
in_form : (text : List ℕ) → first_fault (lines_of text) ≡ None → is_in_form text ≡ (is_none (limit_fault max_declaration max_declaration_line text) && is_none (first_regrouped [] (directives (lines_of text))))
in_form text none =
    let ls = lines_of text in
    let read : list_all is_read (lines text) ≡ true = ap (list_all is_read) (lines-bytes text) ∙ lines_read ls ∙ ap (λ (o : Option DeclError). is_none o) none in
    let limits : (nat_le (length text) max_declaration && list_all (λ line. nat_le (length line) max_declaration_line) (lines text)) ≡ is_none (limit_fault max_declaration max_declaration_line text) =
    ap (λ (l : List (List ℕ)). nat_le (length text) max_declaration && list_all (λ line. nat_le (length line) max_declaration_line) l) (lines-bytes text) ∙ limits_kept max_declaration max_declaration_line text in
    let twins : has_twin (flat_map ordered_on (words_by_line text)) ≡ is_some (first_regrouped [] (directives ls)) =
    ap (λ (l : List (List ℕ)). has_twin (flat_map ordered_on (map words_in l))) (lines-bytes text) ∙ twin_lines (map words_in (bytes_in ls)) (directives ls) (Follow-lines ls none) in
    ap₂ (λ (a b : Bool). a && b) limits (ap₂ (λ (a b : Bool). a && not b) read twins)

-- a text isn't in form if it has a fault of the limits or of a line
out_of_form : (text : List ℕ) → (is_none (limit_fault max_declaration max_declaration_line text) && is_none (first_fault (lines_of text))) ≡ false → is_in_form text ≡ false
out_of_form text fault =
    let twice = not (has_twin (flat_map ordered_on (words_by_line text))) in
    let limits : (nat_le (length text) max_declaration && list_all (λ line. nat_le (length line) max_declaration_line) (lines text)) ≡ is_none (limit_fault max_declaration max_declaration_line text) =
    ap (λ (l : List (List ℕ)). nat_le (length text) max_declaration && list_all (λ line. nat_le (length line) max_declaration_line) l) (lines-bytes text) ∙ limits_kept max_declaration max_declaration_line text in
    let read : list_all is_read (lines text) ≡ is_none (first_fault (lines_of text)) = ap (list_all is_read) (lines-bytes text) ∙ lines_read (lines_of text) in
    ap₂ (λ (a b : Bool). a && (b && twice)) limits read ∙ here (is_none (limit_fault max_declaration max_declaration_line text)) (is_none (first_fault (lines_of text))) twice fault
  where
    here : (a b c : Bool) → (a && b) ≡ false → (a && (b && c)) ≡ false
    here true true c e = absurd cc
    here true false c e = refl
    here false b c e = refl

-- what is said to be declared in a text is what its passes declare
pub declared_in-declaration : (text : List ℕ) → declared_in text ≡ option_map named_of (result_ok (declaration text))
declared_in-declaration text = by_limits (limit_fault max_declaration max_declaration_line text) refl (first_fault (lines_of text)) refl
  where
    tables : List ℕ → Result Declared Refusal
    tables text = by_table (directives (lines_of text)) (table_of (directives (lines_of text)))

    by_limits : (limit : Option TextError) → limit_fault max_declaration max_declaration_line text ≡ limit → (fault : Option DeclError) → first_fault (lines_of text) ≡ fault
        → declared_in text ≡ option_map named_of (result_ok (unless_refused text_refusal limit (unless_refused decl_refusal fault (tables text))))
    by_limits (Some e) is fault first = rw (out_of_form text (ap (λ (o : Option TextError). is_none o && is_none (first_fault (lines_of text))) is)) refl
    by_limits None is (Some e) first = rw (out_of_form text (ap₂ (λ (a : Option TextError) (b : Option DeclError). is_none a && is_none b) is first)) refl
    by_limits None is None first =
        let ls = lines_of text in
        let lines_are : words_by_line text ≡ map words_in (bytes_in ls) = ap (map words_in) (lines-bytes text) in
        let follow = subst (λ (w : List (List (List ℕ))). Follow w (directives ls)) (sym lines_are) (Follow-lines ls first) in
        rw (in_form text first, is) (by_groups-agree (words_by_line text) (directives ls) follow (first_regrouped [] (directives ls)) refl (table_of (directives ls)) (after_lines (record { names = []; waits = [] }) (words_by_line text))
        (tables_agree empty_table (words_by_line text) (directives ls) follow))
