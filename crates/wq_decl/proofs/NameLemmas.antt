-- The names in directives are names.
use Rattle.std.proofs.Common.{◌≡◌, ℕ, Bool, true, false, cond, ◌&&◌, List, [], ◌∷◌, Option, Some, None, Result, Ok, Err}
use Rattle.std.proofs.Common.{refl}
use Rattle.std.specs.Prelude.{IsTrue}
use Rattle.std.specs.List.{AllByRecursion, list_all, cons_option}
use Rattle.wq_text.specs.Lines.{LineView}
use Rattle.wq_text.specs.Comments.{before_comment}
use Rattle.wq_text.specs.Words.{WordView, words_of}
use Rattle.wq_decl.specs.declared.directive.Directive.{Directive}
use Rattle.wq_decl.specs.declared.directive.Directive.TheVariants.{Item, Flush, FlushWq, Unsure, Ordered}
use Rattle.wq_decl.specs.declared.fault.DeclError.{DeclError}
use Rattle.wq_decl.specs.declared.fault.DeclError.TheVariants.{BadName}
use Rattle.wq_decl.specs.declared.keyword.Keyword.{Keyword}
use Rattle.wq_decl.specs.declared.keyword.Keyword.TheVariants as keyword
use Rattle.wq_decl.specs.Names.{is_name, are_names}
use Rattle.wq_decl.specs.Keywords.{keyword_of}
use Rattle.wq_decl.specs.Reading.{is_text_byte, item_reading, flush_reading, flushwq_reading, unsure_reading}
use Rattle.wq_decl.specs.Reading.{ordered_reading, reading_after, words_reading, reading, directive_in, directives}
use Rattle.wq_decl.specs.Reading.{HasNames}

-- a directive, if the reading found one, has names
abbrev pub NamesIn : Result (Option Directive) DeclError → Type 0
NamesIn (Ok (Some d)) = HasNames d
NamesIn (Ok None) = Unit {0}
NamesIn (Err e) = Unit {0}

both : (a b : Bool) → (a && b) ≡ true → IsTrue a × IsTrue b
both true b h = (refl, h)
both false b h = absurd cc

each_name : (ws : List WordView) → IsTrue (are_names ws)
    → AllByRecursion (λ (w : WordView). IsTrue (is_name w.bytes)) ws
each_name [] h = tt
each_name (w ∷ ws) h = let p = both (is_name w.bytes) _ h in (p.0, each_name ws p.1)

item_names : (n : ℕ) (ws : List WordView) → NamesIn (item_reading n ws)
item_names n [] = tt
item_names n (name ∷ []) = chosen (is_name name.bytes) refl
  where
    chosen : (b : Bool) → is_name name.bytes ≡ b → NamesIn (cond b (Ok (Some (Item name))) (Err (BadName n)))
    chosen true e = e
    chosen false e = tt
item_names n (name ∷ extra ∷ others) = tt

flush_names : (n : ℕ) (ws : List WordView) → NamesIn (flush_reading n ws)
flush_names n [] = tt
flush_names n (name ∷ []) = tt
flush_names n (name ∷ target ∷ others) = chosen (are_names (name ∷ target ∷ others)) refl
  where
    chosen : (b : Bool) → are_names (name ∷ target ∷ others) ≡ b
        → NamesIn (cond b (Ok (Some (Flush name (target ∷ others)))) (Err (BadName n)))
    chosen true e = let p = both (is_name name.bytes) _ e in (p.0, each_name (target ∷ others) p.1)
    chosen false e = tt

flushwq_names : (n : ℕ) (ws : List WordView) → NamesIn (flushwq_reading n ws)
flushwq_names n [] = tt
flushwq_names n (name ∷ []) = tt
flushwq_names n (name ∷ target ∷ []) = chosen (are_names (name ∷ target ∷ [])) refl
  where
    chosen : (b : Bool) → are_names (name ∷ target ∷ []) ≡ b
        → NamesIn (cond b (Ok (Some (FlushWq name target))) (Err (BadName n)))
    chosen true e = let p = both (is_name name.bytes) _ e in (p.0, (both (is_name target.bytes) _ p.1).0)
    chosen false e = tt
flushwq_names n (name ∷ target ∷ extra ∷ others) = tt

unsure_names : (n : ℕ) (whole : Bool) (ws : List WordView) → NamesIn (unsure_reading n whole ws)
unsure_names n whole [] = tt
unsure_names n whole (name ∷ []) = tt
unsure_names n whole (name ∷ target ∷ []) = chosen (are_names (name ∷ target ∷ [])) refl
  where
    chosen : (b : Bool) → are_names (name ∷ target ∷ []) ≡ b
        → NamesIn (cond b (Ok (Some (Unsure name target whole))) (Err (BadName n)))
    chosen true e = let p = both (is_name name.bytes) _ e in (p.0, (both (is_name target.bytes) _ p.1).0)
    chosen false e = tt
unsure_names n whole (name ∷ target ∷ extra ∷ others) = tt

ordered_names : (n : ℕ) (ws : List WordView) → NamesIn (ordered_reading n ws)
ordered_names n [] = tt
ordered_names n (name ∷ others) = chosen (are_names (name ∷ others)) refl
  where
    chosen : (b : Bool) → are_names (name ∷ others) ≡ b
        → NamesIn (cond b (Ok (Some (Ordered (name ∷ others)))) (Err (BadName n)))
    chosen true e = each_name (name ∷ others) e
    chosen false e = tt

after_names : (k : Option Keyword) (n : ℕ) (ws : List WordView) → NamesIn (reading_after k n ws)
after_names None n ws = tt
after_names (Some keyword.Item) n ws = item_names n ws
after_names (Some keyword.Flush) n ws = flush_names n ws
after_names (Some keyword.FlushWq) n ws = flushwq_names n ws
after_names (Some keyword.FlushUnsure) n ws = unsure_names n false ws
after_names (Some keyword.FlushWqUnsure) n ws = unsure_names n true ws
after_names (Some keyword.Ordered) n ws = ordered_names n ws

cond_names : (b : Bool) (x y : Result (Option Directive) DeclError) → NamesIn x → NamesIn y → NamesIn (cond b x y)
cond_names true x y p q = p
cond_names false x y p q = q

words_names : (n : ℕ) (ws : List WordView) → NamesIn (words_reading n ws)
words_names n [] = tt
words_names n (first ∷ others) = after_names (keyword_of first.bytes) n others

-- what a line says has names
pub NamesIn-reading : (line : LineView) → NamesIn (reading line)
NamesIn-reading line = cond_names (list_all is_text_byte (before_comment line.bytes)) _ _
    (words_names line.no (words_of line)) tt

with_first : (n : ℕ) (r : Result (Option Directive) DeclError) (lines : List LineView) → NamesIn r
    → AllByRecursion (λ (d : ℕ × Directive). HasNames d.1) (directives lines)
    → AllByRecursion (λ (d : ℕ × Directive). HasNames d.1) (cons_option (directive_in n r) (directives lines))
with_first n (Ok (Some d)) lines h rest = (h, rest)
with_first n (Ok None) lines h rest = rest
with_first n (Err e) lines h rest = rest

-- the directives of any lines have names
pub HasNames-directives : (lines : List LineView) → AllByRecursion (λ (d : ℕ × Directive). HasNames d.1)
    (directives lines)
HasNames-directives [] = tt
HasNames-directives (line ∷ lines) = with_first line.no (reading line) lines (NamesIn-reading line)
    (HasNames-directives lines)
