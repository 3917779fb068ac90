-- What a text declares, without the reason for which a text is refused.
use Rattle.std.specs.Prelude.{ℕ, ◌+◌, ◌==◌, Bool, true, not, ◌&&◌, ◌||◌, nat_lt, nat_le, if◌then◌else◌, List, [], ◌∷◌}
use Rattle.std.specs.Prelude.{◌++◌, length, map, filter, filter_map, flat_map, position, count_by, slice_set}
use Rattle.std.specs.Prelude.{slice_index_or, bytes_eq, codes, Option, Some, None, is_some, unwrap_or, option_map}
use Rattle.std.specs.Prelude.{option_and_then}
use Rattle.std.specs.List.{slice_split, list_all, list_any, range_with_len}
use Rattle.std.specs.Str.Lines.{lines}
use Rattle.wq_text.specs.Comments.{before_comment}
use Rattle.wq_text.specs.Words.{is_blank}
use Rattle.wq_decl.specs.Names.{is_name}
use Rattle.wq_decl.specs.Reading.{is_text_byte}
use Rattle.wq_items.specs.declared.target.Target.{Target}
use Rattle.wq_items.specs.Table.{item_named, targets_of, flush_count, max_items, max_flushes}
use Rattle.wq_items.specs.Building.{targets_from}
use Rattle.wq_groups.specs.Grouping.{has_twin}
use Rattle.wq_groups.specs.Declaration.{Declaration, declaration_of}
use Rattle.wq_groups.specs.DeclaredGroups.{Declared}
use Rattle.wq_commands.specs.Declaration.{max_declaration, max_declaration_line}

-- ---- lines

-- the words of a line: its bytes before the first `#`, cut at spaces and TABs, without the parts that are empty
abbrev pub words_in : List ℕ → List (List ℕ)
words_in line = filter (λ word. nat_lt 0 (length word)) (slice_split is_blank (before_comment line))

-- of the keywords of lines that declare flushes, `flushwq` and `flushwq?` are of whole workqueues
abbrev pub is_of_workqueue : List ℕ → Bool
is_of_workqueue keyword = bytes_eq keyword (codes "flushwq") || bytes_eq keyword (codes "flushwq?")

-- and `flush?` and `flushwq?` are unsure
abbrev pub is_unsure : List ℕ → Bool
is_unsure keyword = bytes_eq keyword (codes "flush?") || bytes_eq keyword (codes "flushwq?")

-- the number of names that a keyword takes: one for `item`, two or more for `flush`, two for `flushwq`, `flush?` and
-- `flushwq?`, and one or more for `ordered`. No other word is a keyword
abbrev pub takes : List ℕ → ℕ → Bool
takes keyword n =
    if bytes_eq keyword (codes "item") then n == 1
    else (if bytes_eq keyword (codes "flush") then nat_le 2 n
    else (if is_of_workqueue keyword || is_unsure keyword then n == 2
    else bytes_eq keyword (codes "ordered") && nat_le 1 n))

-- no words, or a keyword and as many names as it takes
abbrev pub is_directive : List (List ℕ) → Bool
is_directive [] = true
is_directive (keyword ∷ names) = takes keyword (length names) && list_all is_name names

-- before a comment, which may hold any bytes, the line has only text bytes, and their words are a directive or none
abbrev pub is_read : List ℕ → Bool
is_read line = list_all is_text_byte (before_comment line) && is_directive (words_in line)

-- ---- items

-- for each item in turn its name and the targets of its flushes; items are numbered from 0
pub record Items : Type 0 where
  pub names : List (List ℕ)
  pub waits : List (List Target)

-- some item has this name
abbrev pub is_item : List (List ℕ) → List ℕ → Bool
is_item names name = is_some (item_named names name)

-- the items and a new one, which has the one name that is given and flushes nothing,
-- unless the name is taken or there are as many items as may be
abbrev pub add_item : Items → List (List ℕ) → Option Items
add_item t names =
    if list_any (is_item t.names) names || nat_le max_items (length t.names) then None
    else Some (record { names = t.names ++ names; waits = t.waits ++ ([] ∷ []) })

-- the items, of which the first that is listed now flushes the rest of the list, or
-- their whole workqueues, unless that makes too many flushes
abbrev pub add_flushes : Items → Bool → Bool → List ℕ → Option Items
add_flushes t whole unsure [] = Some t
add_flushes t whole unsure (i ∷ items) =
    if nat_lt max_flushes (flush_count t.waits + length items) then None
    else Some
    (record t {
      waits =
          slice_set t.waits i (targets_of t.waits i
          ++ targets_from (record { whole = whole; unsure = unsure }) (flush_count t.waits) items);
    })

-- the items after a line of these words, if it may come next: each name on it, except that of a new item, must be an
-- item's. The words are a directive or none (`is_read`), so any keyword except `item` and `ordered` is one of flushes
abbrev pub after_line : Items → List (List ℕ) → Option Items
after_line t [] = Some t
after_line t (keyword ∷ names) =
    if bytes_eq keyword (codes "item") then add_item t names
    else (if not (list_all (is_item t.names) names) then None
    else (if bytes_eq keyword (codes "ordered") then Some t
    else add_flushes t (is_of_workqueue keyword) (is_unsure keyword) (filter_map (item_named t.names) names)))

-- the items after these lines, if each may come next
abbrev pub after_lines : Items → List (List (List ℕ)) → Option Items
after_lines t [] = Some t
after_lines t (line ∷ lines) = option_and_then (λ u. after_lines u lines) (after_line t line)

-- ---- groups

-- the names on an `ordered` line; no other line orders any
abbrev pub ordered_on : List (List ℕ) → List (List ℕ)
ordered_on [] = []
ordered_on (keyword ∷ names) = if bytes_eq keyword (codes "ordered") then names else []

-- both names are the same, or an `ordered` line has both of them
abbrev pub go_together : List (List (List ℕ)) → List ℕ → List ℕ → Bool
go_together lines a b =
    bytes_eq a b
    || list_any (λ line. list_any (bytes_eq a) (ordered_on line) && list_any (bytes_eq b) (ordered_on line)) lines

-- the number of the first item in the group of the item with this name
abbrev pub first_with : List (List (List ℕ)) → List (List ℕ) → List ℕ → ℕ
first_with lines names name = unwrap_or (position (go_together lines name) names) 0

-- the first items of all groups, in order
abbrev pub first_items : List (List (List ℕ)) → List (List ℕ) → List ℕ
first_items lines names =
    filter (λ i. first_with lines names (slice_index_or names i []) == i) (range_with_len 0 (length names))

-- the number of the group of the item with this name: how many groups have an earlier first item
abbrev pub group_with : List (List (List ℕ)) → List (List ℕ) → List ℕ → ℕ
group_with lines names name = count_by (λ i. nat_lt i (first_with lines names name)) (first_items lines names)

-- ---- texts

-- the names of the items, and what is declared of them
pub record Named : Type 0 where
  pub names : List (List ℕ)
  pub declared : Declaration

-- the items, each with the group into which these lines put it
abbrev pub in_groups : List (List (List ℕ)) → Items → Named
in_groups lines t =
    let each = map (group_with lines t.names) t.names in
    record {
      names = t.names;
      declared = record { waits = t.waits; group_of = each; groups = length (first_items lines t.names) };
    }

-- the words of each line of a text. By the library's `lines` each line feed ends a line, which leaves out one CR
-- directly before it; bytes after the last line feed, if there are any, are a line as they are
abbrev pub words_by_line : List ℕ → List (List (List ℕ))
words_by_line text = map words_in (lines text)

-- the text and its lines keep the limits, each line is read, and no name is ordered twice, on one line or on two
abbrev pub is_in_form : List ℕ → Bool
is_in_form text =
    (nat_le (length text) max_declaration && list_all (λ line. nat_le (length line) max_declaration_line) (lines text))
    && (list_all is_read (lines text) && not (has_twin (flat_map ordered_on (words_by_line text))))

-- what a text declares, unless it is refused
abbrev pub declared_in : List ℕ → Option Named
declared_in text =
    if is_in_form text
    then option_map (in_groups (words_by_line text))
    (after_lines (record { names = []; waits = [] }) (words_by_line text))
    else None

-- ---- what the passes say

-- the names of a table, and what it declares with its groups
abbrev pub named_of : Declared → Named
named_of s = record { names = s.table.names; declared = declaration_of s.table s.partition }
