-- A line whose words have no fault holds only bytes that a line may have.
use Rattle.std.proofs.Common.{◌≡◌, ℕ, ◌+◌, Bool, true, false, cond, List, [], ◌∷◌, ◌++◌, Option, Some, None, Result, Ok}
use Rattle.std.proofs.Common.{Err, IsOk, refl, ap, ◌∙◌, arith, length}
use Rattle.std.specs.Prelude.{codes}
use Rattle.std.specs.List.{list_all}
use Rattle.std.proofs.lemmas.Bool.{and_parts, and_from}
use Rattle.std.proofs.lemmas.Bool.Decides.{nat_tests}
use Rattle.std.proofs.lemmas.List.Folds.{list_all-append}
use Rattle.wq_text.specs.Lines.{LineView}
use Rattle.wq_text.specs.Comments.{before_comment}
use Rattle.wq_text.specs.Words.{WordView, words_of, is_blank, AllBlank, AreTheWords}
use Rattle.wq_text.proofs.WordLaws.{AreTheWords-words_from}
use Rattle.wq_decl.specs.declared.directive.Directive.{Directive}
use Rattle.wq_decl.specs.declared.directive.Directive.TheVariants.{Item, Flush, FlushWq, Unsure, Ordered}
use Rattle.wq_decl.specs.declared.fault.DeclError.{DeclError}
use Rattle.wq_decl.specs.declared.fault.DeclError.TheVariants.{BadName}
use Rattle.wq_decl.specs.declared.keyword.Keyword.{Keyword}
use Rattle.wq_decl.specs.declared.keyword.Keyword.TheVariants as keyword
use Rattle.wq_decl.specs.Names.{is_name_byte, is_name, are_names}
use Rattle.wq_decl.specs.Keywords.{keyword_of}
use Rattle.wq_decl.specs.Reading.{is_text_byte, item_reading, flush_reading, flushwq_reading, unsure_reading}
use Rattle.wq_decl.specs.Reading.{ordered_reading, reading_after, words_reading, reading}
use Rattle.wq_decl.proofs.KeywordLemmas.{IsWordOf, IsWordOf-keyword_of}

-- ---- bytes

blank_is_text : (b : ℕ) → is_blank b ≡ true → is_text_byte b ≡ true
blank_is_text b h = grind (arith, nat_tests)

name_is_text : (b : ℕ) → is_name_byte b ≡ true → is_text_byte b ≡ true
name_is_text b h = grind (arith, nat_tests)

blanks_are_text : (bs : List ℕ) → AllBlank bs → list_all is_text_byte bs ≡ true
blanks_are_text [] h = refl
blanks_are_text (b ∷ bs) h = and_from (is_text_byte b) (list_all is_text_byte bs) (blank_is_text b h.0)
    (blanks_are_text bs h.1)

names_are_text : (bs : List ℕ) → list_all is_name_byte bs ≡ true → list_all is_text_byte bs ≡ true
names_are_text [] h = refl
names_are_text (b ∷ bs) h =
    let parts = and_parts (is_name_byte b) (list_all is_name_byte bs) h in
    and_from (is_text_byte b) (list_all is_text_byte bs) (name_is_text b parts.0) (names_are_text bs parts.1)

append_is_text : (xs ys : List ℕ) → list_all is_text_byte xs ≡ true → list_all is_text_byte ys ≡ true
    → list_all is_text_byte (xs ++ ys) ≡ true
append_is_text xs ys p q = list_all-append is_text_byte xs ys
    ∙ and_from (list_all is_text_byte xs) (list_all is_text_byte ys) p q

-- ---- words

-- each byte of the words may be in a line
abbrev pub WordsAreText : List WordView → Type 0
WordsAreText ws = list_all (λ (w : WordView). list_all is_text_byte w.bytes) ws ≡ true

-- bytes hold only their words and blanks
text_from_words : (at : ℕ) (bs : List ℕ) (ws : List WordView) → AreTheWords at bs ws → WordsAreText ws
    → list_all is_text_byte bs ≡ true
text_from_words at bs [] h words = blanks_are_text bs h
text_from_words at bs (w ∷ ws) h words =
    let first = h.1 in
    let rest = h.0 in
    let parts = and_parts (list_all is_text_byte w.bytes) (list_all (λ (v : WordView). list_all is_text_byte v.bytes)
    ws) words in
    ap (λ (l : List ℕ). list_all is_text_byte l) first.parts
    ∙ append_is_text first.gap (w.bytes ++ rest) (blanks_are_text first.gap first.blanks)
    (append_is_text w.bytes rest parts.0 (text_from_words (w.start + length w.bytes) rest ws h.2 parts.1))

name_word : (bs : List ℕ) → is_name bs ≡ true → list_all is_text_byte bs ≡ true
name_word bs h = names_are_text bs (and_parts _ _ (and_parts _ _ h).1).1

name_words : (ws : List WordView) → are_names ws ≡ true → WordsAreText ws
name_words [] h = refl
name_words (w ∷ ws) h =
    let parts = and_parts (is_name w.bytes) (are_names ws) h in
    and_from (list_all is_text_byte w.bytes) (list_all (λ (v : WordView). list_all is_text_byte v.bytes) ws)
    (name_word w.bytes parts.0) (name_words ws parts.1)

-- ---- words without a fault

-- the result is a fault, or else the words hold only such bytes
abbrev Clean : List WordView → Result (Option Directive) DeclError → Type 0
Clean ws (Ok found) = WordsAreText ws
Clean ws (Err e) = Unit {0}

clean_names : (n : ℕ) (d : Directive) (ws : List WordView) (b : Bool) → are_names ws ≡ b
    → Clean ws (cond b (Ok (Some d)) (Err (BadName n)))
clean_names n d ws true h = name_words ws h
clean_names n d ws false h = tt

clean_item : (n : ℕ) (ws : List WordView) → Clean ws (item_reading n ws)
clean_item n [] = tt
clean_item n (name ∷ []) = chosen (is_name name.bytes) refl
  where
    chosen : (b : Bool) → is_name name.bytes ≡ b → Clean (name ∷ []) (cond b (Ok (Some (Item name))) (Err (BadName n)))
    chosen true h = and_from (list_all is_text_byte name.bytes) true (name_word name.bytes h) refl
    chosen false h = tt
clean_item n (name ∷ extra ∷ others) = tt

clean_flush : (n : ℕ) (ws : List WordView) → Clean ws (flush_reading n ws)
clean_flush n [] = tt
clean_flush n (name ∷ []) = tt
clean_flush n (name ∷ target ∷ others) = clean_names n (Flush name (target ∷ others)) (name ∷ target ∷ others)
    (are_names (name ∷ target ∷ others)) refl

clean_flushwq : (n : ℕ) (ws : List WordView) → Clean ws (flushwq_reading n ws)
clean_flushwq n [] = tt
clean_flushwq n (name ∷ []) = tt
clean_flushwq n (name ∷ target ∷ []) = clean_names n (FlushWq name target) (name ∷ target ∷ [])
    (are_names (name ∷ target ∷ [])) refl
clean_flushwq n (name ∷ target ∷ extra ∷ others) = tt

clean_unsure : (n : ℕ) (whole : Bool) (ws : List WordView) → Clean ws (unsure_reading n whole ws)
clean_unsure n whole [] = tt
clean_unsure n whole (name ∷ []) = tt
clean_unsure n whole (name ∷ target ∷ []) = clean_names n (Unsure name target whole) (name ∷ target ∷ [])
    (are_names (name ∷ target ∷ [])) refl
clean_unsure n whole (name ∷ target ∷ extra ∷ others) = tt

clean_ordered : (n : ℕ) (ws : List WordView) → Clean ws (ordered_reading n ws)
clean_ordered n [] = tt
clean_ordered n (name ∷ others) = clean_names n (Ordered (name ∷ others)) (name ∷ others) (are_names (name ∷ others))
    refl

-- a word of the grammar holds such bytes, too
with_word : (first : WordView) (others : List WordView) (word : List ℕ) (r : Result (Option Directive) DeclError)
    → list_all is_text_byte word ≡ true → first.bytes ≡ word → Clean others r → Clean (first ∷ others) r
with_word first others word (Ok found) text same clean =
    and_from (list_all is_text_byte first.bytes) (list_all (λ (v : WordView). list_all is_text_byte v.bytes) others)
    (ap (λ (l : List ℕ). list_all is_text_byte l) same ∙ text) clean
with_word first others word (Err e) text same clean = tt

clean_after : (k : Option Keyword) (n : ℕ) (first : WordView) (others : List WordView) → IsWordOf first.bytes k
    → Clean (first ∷ others) (reading_after k n others)
clean_after None n first others none = tt
clean_after (Some keyword.Item) n first others is = with_word first others (codes "item") _ refl is
    (clean_item n others)
clean_after (Some keyword.Flush) n first others is = with_word first others (codes "flush") _ refl is
    (clean_flush n others)
clean_after (Some keyword.FlushWq) n first others is = with_word first others (codes "flushwq") _ refl is
    (clean_flushwq n others)
clean_after (Some keyword.FlushUnsure) n first others is = with_word first others (codes "flush?") _ refl is
    (clean_unsure n false others)
clean_after (Some keyword.FlushWqUnsure) n first others is =
    with_word first others (codes "flushwq?") _ refl is (clean_unsure n true others)
clean_after (Some keyword.Ordered) n first others is = with_word first others (codes "ordered") _ refl is
    (clean_ordered n others)

clean_words : (n : ℕ) (ws : List WordView) → Clean ws (words_reading n ws)
clean_words n [] = refl
clean_words n (first ∷ others) = clean_after (keyword_of first.bytes) n first others (IsWordOf-keyword_of first.bytes)

-- ---- lines

text_from_clean : (line : LineView) (r : Result (Option Directive) DeclError) → Clean (words_of line) r → IsOk r
    → list_all is_text_byte (before_comment line.bytes) ≡ true
text_from_clean line (Ok found) clean ok = text_from_words line.start (before_comment line.bytes) (words_of line)
    (AreTheWords-words_from line.start (before_comment line.bytes)) clean
text_from_clean line (Err e) clean ok = absurd cc

-- if the bytes may be in a line, its words say what it says
pub reading-text : (line : LineView) → list_all is_text_byte (before_comment line.bytes) ≡ true
    → words_reading line.no (words_of line) ≡ reading line
reading-text line h = rw h refl

-- also if its words have no fault
pub reading-words : (line : LineView) → IsOk (words_reading line.no (words_of line))
    → words_reading line.no (words_of line) ≡ reading line
reading-words line ok = reading-text line (text_from_clean line (words_reading line.no (words_of line))
    (clean_words line.no (words_of line)) ok)
