-- The words of directives are words of the lines.
use Rattle.std.proofs.Common.{◌≡◌, ℕ, Bool, true, false, cond, List, [], ◌∷◌, Option, Some, None, Result, Ok, Err, refl}
use Rattle.std.proofs.Common.{arith}
use Rattle.std.specs.List.{All, Any, list_all, cons_option}
use Rattle.std.proofs.lemmas.List.Elements.{All-nil, All-cons, All-weaker}
use Rattle.wq_text.specs.Lines.{LineView}
use Rattle.wq_text.specs.Comments.{before_comment}
use Rattle.wq_text.specs.Words.{WordView, words_of}
use Rattle.wq_text.proofs.LimitLaws.{Any-later}
use Rattle.wq_decl.specs.declared.directive.Directive.{Directive}
use Rattle.wq_decl.specs.declared.directive.Directive.TheVariants.{Item, Flush, FlushWq, Unsure, Ordered}
use Rattle.wq_decl.specs.declared.fault.DeclError.{DeclError}
use Rattle.wq_decl.specs.declared.fault.DeclError.TheVariants.{BadName}
use Rattle.wq_decl.specs.declared.keyword.Keyword.{Keyword}
use Rattle.wq_decl.specs.declared.keyword.Keyword.TheVariants as keyword
use Rattle.wq_decl.specs.Names.{is_name, are_names}
use Rattle.wq_decl.specs.Keywords.{keyword_of}
use Rattle.wq_decl.specs.Reading.{is_text_byte, item_reading, flush_reading, flushwq_reading, unsure_reading}
use Rattle.wq_decl.specs.Reading.{ordered_reading, reading_after, words_reading, reading, directive_in, directives}
use Rattle.wq_decl.specs.Origins.{directive_words, IsFrom}

-- a directive, if the reading found one, has the words after the first
pub record IsBehindFirst (ws : List WordView) (d : Directive) : Type 0 where
  pub first : WordView
  pub words : ws ≡ first ∷ directive_words d

abbrev WordsAmong : List WordView → Result (Option Directive) DeclError → Type 0
WordsAmong ws (Ok (Some d)) = IsBehindFirst ws d
WordsAmong ws (Ok None) = Unit {0}
WordsAmong ws (Err e) = Unit {0}

item_words : (n : ℕ) (first : WordView) (ws : List WordView) → WordsAmong (first ∷ ws) (item_reading n ws)
item_words n first [] = tt
item_words n first (name ∷ []) = chosen (is_name name.bytes)
  where
    chosen : (b : Bool) → WordsAmong (first ∷ name ∷ []) (cond b (Ok (Some (Item name))) (Err (BadName n)))
    chosen true = record { first = first; words = refl }
    chosen false = tt
item_words n first (name ∷ extra ∷ others) = tt

flush_words : (n : ℕ) (first : WordView) (ws : List WordView) → WordsAmong (first ∷ ws) (flush_reading n ws)
flush_words n first [] = tt
flush_words n first (name ∷ []) = tt
flush_words n first (name ∷ target ∷ others) = chosen (are_names (name ∷ target ∷ others))
  where
    chosen : (b : Bool) → WordsAmong (first ∷ name ∷ target ∷ others)
        (cond b (Ok (Some (Flush name (target ∷ others)))) (Err (BadName n)))
    chosen true = record { first = first; words = refl }
    chosen false = tt

flushwq_words : (n : ℕ) (first : WordView) (ws : List WordView) → WordsAmong (first ∷ ws) (flushwq_reading n ws)
flushwq_words n first [] = tt
flushwq_words n first (name ∷ []) = tt
flushwq_words n first (name ∷ target ∷ []) = chosen (are_names (name ∷ target ∷ []))
  where
    chosen : (b : Bool) → WordsAmong (first ∷ name ∷ target ∷ [])
        (cond b (Ok (Some (FlushWq name target))) (Err (BadName n)))
    chosen true = record { first = first; words = refl }
    chosen false = tt
flushwq_words n first (name ∷ target ∷ extra ∷ others) = tt

unsure_words : (n : ℕ) (whole : Bool) (first : WordView) (ws : List WordView)
    → WordsAmong (first ∷ ws) (unsure_reading n whole ws)
unsure_words n whole first [] = tt
unsure_words n whole first (name ∷ []) = tt
unsure_words n whole first (name ∷ target ∷ []) = chosen (are_names (name ∷ target ∷ []))
  where
    chosen : (b : Bool) → WordsAmong (first ∷ name ∷ target ∷ [])
        (cond b (Ok (Some (Unsure name target whole))) (Err (BadName n)))
    chosen true = record { first = first; words = refl }
    chosen false = tt
unsure_words n whole first (name ∷ target ∷ extra ∷ others) = tt

ordered_words : (n : ℕ) (first : WordView) (ws : List WordView) → WordsAmong (first ∷ ws) (ordered_reading n ws)
ordered_words n first [] = tt
ordered_words n first (name ∷ others) = chosen (are_names (name ∷ others))
  where
    chosen : (b : Bool) → WordsAmong (first ∷ name ∷ others)
        (cond b (Ok (Some (Ordered (name ∷ others)))) (Err (BadName n)))
    chosen true = record { first = first; words = refl }
    chosen false = tt

after_words : (k : Option Keyword) (n : ℕ) (first : WordView) (ws : List WordView)
    → WordsAmong (first ∷ ws) (reading_after k n ws)
after_words None n first ws = tt
after_words (Some keyword.Item) n first ws = item_words n first ws
after_words (Some keyword.Flush) n first ws = flush_words n first ws
after_words (Some keyword.FlushWq) n first ws = flushwq_words n first ws
after_words (Some keyword.FlushUnsure) n first ws = unsure_words n false first ws
after_words (Some keyword.FlushWqUnsure) n first ws = unsure_words n true first ws
after_words (Some keyword.Ordered) n first ws = ordered_words n first ws

cond_words : (ws : List WordView) (b : Bool) (x y : Result (Option Directive) DeclError) → WordsAmong ws x
    → WordsAmong ws y → WordsAmong ws (cond b x y)
cond_words ws true x y p q = p
cond_words ws false x y p q = q

all_words : (n : ℕ) (ws : List WordView) → WordsAmong ws (words_reading n ws)
all_words n [] = tt
all_words n (first ∷ others) = after_words (keyword_of first.bytes) n first others

line_words : (line : LineView) → WordsAmong (words_of line) (reading line)
line_words line = cond_words (words_of line) (list_all is_text_byte (before_comment line.bytes)) _ _
    (all_words line.no (words_of line)) tt

-- the directive comes from one of these lines
abbrev IsFromSome : List LineView → ℕ × Directive → Type 0
IsFromSome lines d = Any (IsFrom d) lines

with_first : (line : LineView) (lines : List LineView) (r : Result (Option Directive) DeclError)
    → WordsAmong (words_of line) r → All (IsFromSome lines) (directives lines)
    → All (IsFromSome (line ∷ lines)) (cons_option (directive_in line.no r) (directives lines))
with_first line lines (Ok (Some d)) words rest =
    All-cons (IsFromSome (line ∷ lines)) (line.no, d) (directives lines)
    (0, line, omega arith, refl, record { number = refl; first = words.first; words = words.words })
    (All-weaker (IsFromSome lines) (IsFromSome (line ∷ lines)) (λ (d : ℕ × Directive). Any-later (IsFrom d) line lines)
    (directives lines) rest)
with_first line lines (Ok None) words rest = All-weaker (IsFromSome lines) (IsFromSome (line ∷ lines))
    (λ (d : ℕ × Directive). Any-later (IsFrom d) line lines) (directives lines) rest
with_first line lines (Err e) words rest = All-weaker (IsFromSome lines) (IsFromSome (line ∷ lines))
    (λ (d : ℕ × Directive). Any-later (IsFrom d) line lines) (directives lines) rest

-- each directive comes from a line
pub IsFrom-directives : (lines : List LineView) → All (λ (d : ℕ × Directive). Any (IsFrom d) lines) (directives lines)
IsFrom-directives [] = All-nil (IsFromSome [])
IsFrom-directives (line ∷ lines) = with_first line lines (reading line) (line_words line) (IsFrom-directives lines)
