-- Which row of the table a line breaks first.
use Rattle.std.proofs.Common.{◌≡◌, ◌↔◌, ℕ, ◌≤◌, inl, inr, Bool, true, false, cond, ◌&&◌, List, [], ◌∷◌, Option, Some}
use Rattle.std.proofs.Common.{None, Result, Ok, Err, IsOk, refl, sym, ap, subst, ◌∙◌, arith}
use Rattle.std.specs.Prelude.{IsTrue, codes, bytes_eq}
use Rattle.std.specs.List.{Any, list_all}
use Rattle.std.proofs.lemmas.Bool.{false≢true, both_ways, false_from_ne_true}
use Rattle.std.proofs.lemmas.List.Folds.{list_all_at}
use Rattle.std.proofs.lemmas.Slice.Eq.{bytes_eq-Decides}
use Rattle.wq_text.specs.Lines.{LineView}
use Rattle.wq_text.specs.Comments.{before_comment}
use Rattle.wq_text.specs.Words.{WordView, words_of}
use Rattle.wq_text.proofs.LimitLaws.{Any-later}
use Rattle.wq_decl.specs.declared.directive.Directive.{Directive}
use Rattle.wq_decl.specs.declared.directive.Directive.TheVariants.{Item, Flush, FlushWq, Unsure, Ordered}
use Rattle.wq_decl.specs.declared.fault.DeclError.{DeclError}
use Rattle.wq_decl.specs.declared.fault.DeclError.TheVariants.{BadByte, UnknownWord, MissingName, ExtraWord, BadName}
use Rattle.wq_decl.specs.declared.keyword.Keyword.{Keyword}
use Rattle.wq_decl.specs.declared.keyword.Keyword.TheVariants as keyword
use Rattle.wq_decl.specs.Names.{is_name, are_names}
use Rattle.wq_decl.specs.Keywords.{keyword_of}
use Rattle.wq_decl.specs.Reading.{is_text_byte, item_reading, flush_reading, flushwq_reading, unsure_reading}
use Rattle.wq_decl.specs.Reading.{ordered_reading, reading_after, words_reading, reading}
use Rattle.wq_decl.specs.Rows.{HasBadByte, IsUnknown, TakesTwo, LacksName, HasExtraWord, HasBadName, OfWords, BreaksRow}
use Rattle.wq_decl.specs.Rows.{rows_above, BreaksFirst}
use Rattle.wq_decl.proofs.KeywordLemmas.{IsWordOf, IsWordOf-keyword_of}

-- ---- a test that some element fails

failed : {X : Type 0} (p : X → Bool) (x : X) (xs : List X) (b : Bool) → p x ≡ b
    → (list_all p xs ≡ false → Any (λ (y : X). ¬ IsTrue (p y)) xs) → (p x && list_all p xs) ≡ false
    → Any (λ (y : X). ¬ IsTrue (p y)) (x ∷ xs)
failed p x xs true is rest e = Any-later (λ (y : _). ¬ IsTrue (p y)) x xs
    (rest (subst (λ (b : Bool). (b && list_all p xs) ≡ false) is e))
failed p x xs false is rest e = (0, x, omega arith, refl, λ passes. false≢true (sym is ∙ passes))

fails : {X : Type 0} (p : X → Bool) (xs : List X) → list_all p xs ≡ false → Any (λ (x : X). ¬ IsTrue (p x)) xs
fails p [] e = absurd cc
fails p (x ∷ xs) e = failed p x xs (p x) refl (fails p xs) e

fails_none : {X : Type 0} (p : X → Bool) (xs : List X) → list_all p xs ≡ true → Any (λ (x : X). ¬ IsTrue (p x)) xs → ⊥
fails_none p xs e h = both_ways (list_all p xs) (list_all_at p xs h.0 h.1 h.2
    (ap p h.3 ∙ false_from_ne_true (p h.1) h.4)) e

-- ---- the rows

-- no line begins with two directives
apart : (a b bytes : List ℕ) → bytes_eq a b ≡ false → bytes ≡ a → bytes ≡ b → ⊥
apart a b bytes differ is other = both_ways (bytes_eq a b) differ ((bytes_eq-Decides a b).1 (sym is ∙ other))

-- nor with one of these and another word
apart_from_two : (a : List ℕ) (first : WordView) → bytes_eq a (codes "flushwq") ≡ false
    → bytes_eq a (codes "flush?") ≡ false → bytes_eq a (codes "flushwq?") ≡ false → first.bytes ≡ a → TakesTwo first → ⊥
apart_from_two a first flushwq unsure whole is (inl h) = apart a (codes "flushwq") first.bytes flushwq is h
apart_from_two a first flushwq unsure whole is (inr (inl h)) = apart a (codes "flush?") first.bytes unsure is h
apart_from_two a first flushwq unsure whole is (inr (inr h)) = apart a (codes "flushwq?") first.bytes whole is h

-- line n with these bytes and words before its comment breaks the row of this fault
abbrev Breaks : ℕ → List ℕ → List WordView → DeclError → Type 0
Breaks n bytes words (BadByte m) = (m ≡ n) × HasBadByte bytes
Breaks n bytes words (UnknownWord m) = (m ≡ n) × OfWords IsUnknown words
Breaks n bytes words (MissingName m) = (m ≡ n) × OfWords LacksName words
Breaks n bytes words (ExtraWord m) = (m ≡ n) × OfWords HasExtraWord words
Breaks n bytes words (BadName m) = (m ≡ n) × OfWords HasBadName words

-- the result is no fault if no row is broken; otherwise it is the fault of the first row that is broken
abbrev Follows : (DeclError → Type 0) → Result (Option Directive) DeclError → Type 0
Follows Broken (Ok found) = (e : DeclError) → Broken e → ⊥
Follows Broken (Err e) = Broken e × ((other : DeclError) → Broken other → rows_above e ≤ rows_above other)

follows_test : (Broken : DeclError → Type 0) (test : Bool) (a b : Result (Option Directive) DeclError)
    → (test ≡ true → Follows Broken a) → (test ≡ false → Follows Broken b) → Follows Broken (cond test a b)
follows_test Broken true a b p q = p refl
follows_test Broken false a b p q = q refl

module _ (n : ℕ) (bytes : List ℕ) (clean : HasBadByte bytes → ⊥) where
  abbrev Says : List WordView → Result (Option Directive) DeclError → Type 0
  Says words r = Follows (Breaks n bytes words) r

  unknown : (first : WordView) (others : List WordView) → IsUnknown first others
      → Says (first ∷ others) (Err (UnknownWord n))
  unknown first others is = ((refl, is), above)
    where
      above : (other : DeclError) → Breaks n bytes (first ∷ others) other → 1 ≤ rows_above other
      above (BadByte m) b = absurd (clean b.1)
      above (UnknownWord m) b = omega arith
      above (MissingName m) b = omega arith
      above (ExtraWord m) b = omega arith
      above (BadName m) b = omega arith

  missing : (first : WordView) (others : List WordView) → (IsUnknown first others → ⊥) → LacksName first others
      → Says (first ∷ others) (Err (MissingName n))
  missing first others known is = ((refl, is), above)
    where
      above : (other : DeclError) → Breaks n bytes (first ∷ others) other → 2 ≤ rows_above other
      above (BadByte m) b = absurd (clean b.1)
      above (UnknownWord m) b = absurd (known b.1)
      above (MissingName m) b = omega arith
      above (ExtraWord m) b = omega arith
      above (BadName m) b = omega arith

  extra : (first : WordView) (others : List WordView) → (IsUnknown first others → ⊥) → (LacksName first others → ⊥)
      → HasExtraWord first others → Says (first ∷ others) (Err (ExtraWord n))
  extra first others known enough is = ((refl, is), above)
    where
      above : (other : DeclError) → Breaks n bytes (first ∷ others) other → 3 ≤ rows_above other
      above (BadByte m) b = absurd (clean b.1)
      above (UnknownWord m) b = absurd (known b.1)
      above (MissingName m) b = absurd (enough b.1)
      above (ExtraWord m) b = omega arith
      above (BadName m) b = omega arith

  -- as many words as the directive takes; the test says whether each of them is a name
  names : (first : WordView) (others : List WordView) (d : Directive) (test : Bool) → (IsUnknown first others → ⊥)
      → (LacksName first others → ⊥) → (HasExtraWord first others → ⊥)
      → list_all (λ (w : WordView). is_name w.bytes) others ≡ test
      → Says (first ∷ others) (cond test (Ok (Some d)) (Err (BadName n)))
  names first others d true known enough few all = broken
    where
      broken : (e : DeclError) → Breaks n bytes (first ∷ others) e → ⊥
      broken (BadByte m) b = clean b.1
      broken (UnknownWord m) b = known b.1
      broken (MissingName m) b = enough b.1
      broken (ExtraWord m) b = few b.1
      broken (BadName m) b = fails_none (λ (w : WordView). is_name w.bytes) others all b.1
  names first others d false known enough few all = (
    (refl, fails (λ (w : WordView). is_name w.bytes) others all),
    above,
  )
    where
      above : (other : DeclError) → Breaks n bytes (first ∷ others) other → 4 ≤ rows_above other
      above (BadByte m) b = absurd (clean b.1)
      above (UnknownWord m) b = absurd (known b.1)
      above (MissingName m) b = absurd (enough b.1)
      above (ExtraWord m) b = absurd (few b.1)
      above (BadName m) b = omega arith

  and_true : (b : Bool) → (b && true) ≡ b
  and_true true = refl
  and_true false = refl

  item : (first : WordView) (others : List WordView) → first.bytes ≡ codes "item"
      → Says (first ∷ others) (item_reading n others)
  item first [] is = missing first [] (λ u. u.0 is) (inl (inl is, omega arith))
  item first (name ∷ []) is =
      names first (name ∷ []) (Item name) (is_name name.bytes) (λ u. u.0 is) enough few (and_true (is_name name.bytes))
    where
      enough : LacksName first (name ∷ []) → ⊥
      enough (inl h) = absurd (omega (arith, h.1))
      enough (inr (inl flush, h)) = apart (codes "item") (codes "flush") first.bytes refl is flush
      enough (inr (inr two, h)) = apart_from_two (codes "item") first refl refl refl is two

      few : HasExtraWord first (name ∷ []) → ⊥
      few (inl h) = absurd (omega (arith, h.1))
      few (inr h) = absurd (omega (arith, h.1))
  item first (name ∷ second ∷ others) is = extra first (name ∷ second ∷ others) (λ u. u.0 is) enough
      (inl (is, omega arith))
    where
      enough : LacksName first (name ∷ second ∷ others) → ⊥
      enough (inl h) = absurd (omega (arith, h.1))
      enough (inr h) = absurd (omega (arith, h.1))

  flush : (first : WordView) (others : List WordView) → first.bytes ≡ codes "flush"
      → Says (first ∷ others) (flush_reading n others)
  flush first [] is = missing first [] (λ u. u.1 is) (inr (inl is, omega arith))
  flush first (name ∷ []) is = missing first (name ∷ []) (λ u. u.1 is) (inr (inl is, omega arith))
  flush first (name ∷ target ∷ others) is =
      names first (name ∷ target ∷ others) (Flush name (target ∷ others)) (are_names (name ∷ target ∷ others))
      (λ u. u.1 is) enough few refl
    where
      enough : LacksName first (name ∷ target ∷ others) → ⊥
      enough (inl h) = absurd (omega (arith, h.1))
      enough (inr h) = absurd (omega (arith, h.1))

      few : HasExtraWord first (name ∷ target ∷ others) → ⊥
      few (inl h) = apart (codes "flush") (codes "item") first.bytes refl is h.0
      few (inr h) = apart_from_two (codes "flush") first refl refl refl is h.0

  flushwq : (first : WordView) (others : List WordView) → first.bytes ≡ codes "flushwq"
      → Says (first ∷ others) (flushwq_reading n others)
  flushwq first [] is = missing first [] (λ u. u.2 is) (inr (inr (inl is), omega arith))
  flushwq first (name ∷ []) is = missing first (name ∷ []) (λ u. u.2 is) (inr (inr (inl is), omega arith))
  flushwq first (name ∷ target ∷ []) is =
      names first (name ∷ target ∷ []) (FlushWq name target) (are_names (name ∷ target ∷ [])) (λ u. u.2 is) enough few
      refl
    where
      enough : LacksName first (name ∷ target ∷ []) → ⊥
      enough (inl h) = absurd (omega (arith, h.1))
      enough (inr h) = absurd (omega (arith, h.1))

      few : HasExtraWord first (name ∷ target ∷ []) → ⊥
      few (inl h) = apart (codes "flushwq") (codes "item") first.bytes refl is h.0
      few (inr h) = absurd (omega (arith, h.1))
  flushwq first (name ∷ target ∷ third ∷ others) is = extra first (name ∷ target ∷ third ∷ others) (λ u. u.2 is) enough
      (inr (inl is, omega arith))
    where
      enough : LacksName first (name ∷ target ∷ third ∷ others) → ⊥
      enough (inl h) = absurd (omega (arith, h.1))
      enough (inr h) = absurd (omega (arith, h.1))

  -- the words of an unsure line; its first word is known, and isn't `item`
  unsure : (whole : Bool) (first : WordView) (others : List WordView) → TakesTwo first
      → (first.bytes ≡ codes "item" → ⊥) → (IsUnknown first others → ⊥)
      → Says (first ∷ others) (unsure_reading n whole others)
  unsure whole first [] two no_item known = missing first [] known (inr (inr two, omega arith))
  unsure whole first (name ∷ []) two no_item known = missing first (name ∷ []) known (inr (inr two, omega arith))
  unsure whole first (name ∷ target ∷ []) two no_item known =
      names first (name ∷ target ∷ []) (Unsure name target whole) (are_names (name ∷ target ∷ [])) known enough few refl
    where
      enough : LacksName first (name ∷ target ∷ []) → ⊥
      enough (inl h) = absurd (omega (arith, h.1))
      enough (inr h) = absurd (omega (arith, h.1))

      few : HasExtraWord first (name ∷ target ∷ []) → ⊥
      few (inl h) = no_item h.0
      few (inr h) = absurd (omega (arith, h.1))
  unsure whole first (name ∷ target ∷ third ∷ others) two no_item known =
      extra first (name ∷ target ∷ third ∷ others) known enough (inr (two, omega arith))
    where
      enough : LacksName first (name ∷ target ∷ third ∷ others) → ⊥
      enough (inl h) = absurd (omega (arith, h.1))
      enough (inr h) = absurd (omega (arith, h.1))

  ordered : (first : WordView) (others : List WordView) → first.bytes ≡ codes "ordered"
      → Says (first ∷ others) (ordered_reading n others)
  ordered first [] is = missing first [] (λ u. u.5 is) (inl (inr is, omega arith))
  ordered first (name ∷ others) is =
      names first (name ∷ others) (Ordered (name ∷ others)) (are_names (name ∷ others)) (λ u. u.5 is) enough few refl
    where
      enough : LacksName first (name ∷ others) → ⊥
      enough (inl h) = absurd (omega (arith, h.1))
      enough (inr (inl flush, h)) = apart (codes "ordered") (codes "flush") first.bytes refl is flush
      enough (inr (inr two, h)) = apart_from_two (codes "ordered") first refl refl refl is two

      few : HasExtraWord first (name ∷ others) → ⊥
      few (inl h) = apart (codes "ordered") (codes "item") first.bytes refl is h.0
      few (inr h) = apart_from_two (codes "ordered") first refl refl refl is h.0

  after_says : (k : Option Keyword) (first : WordView) (others : List WordView) → IsWordOf first.bytes k
      → Says (first ∷ others) (reading_after k n others)
  after_says None first others none = unknown first others (
    none keyword.Item,
    none keyword.Flush,
    none keyword.FlushWq,
    none keyword.FlushUnsure,
    none keyword.FlushWqUnsure,
    none keyword.Ordered,
  )
  after_says (Some keyword.Item) first others is = item first others is
  after_says (Some keyword.Flush) first others is = flush first others is
  after_says (Some keyword.FlushWq) first others is = flushwq first others is
  after_says (Some keyword.FlushUnsure) first others is = unsure false first others (inr (inl is))
      (apart (codes "flush?") (codes "item") first.bytes refl is) (λ u. u.3 is)
  after_says (Some keyword.FlushWqUnsure) first others is = unsure true first others (inr (inr is))
      (apart (codes "flushwq?") (codes "item") first.bytes refl is) (λ u. u.4 is)
  after_says (Some keyword.Ordered) first others is = ordered first others is

  words_say : (words : List WordView) → Says words (words_reading n words)
  words_say [] = none
    where
      none : (e : DeclError) → Breaks n bytes [] e → ⊥
      none (BadByte m) b = clean b.1
      none (UnknownWord m) b = b.1
      none (MissingName m) b = b.1
      none (ExtraWord m) b = b.1
      none (BadName m) b = b.1
  words_say (first ∷ others) = after_says (keyword_of first.bytes) first others (IsWordOf-keyword_of first.bytes)

-- ---- whole lines

line_says : (line : LineView) → Follows (BreaksRow line) (reading line)
line_says line =
    follows_test (BreaksRow line) (list_all is_text_byte (before_comment line.bytes))
    (words_reading line.no (words_of line)) (Err (BadByte line.no))
    (λ all. words_say line.no (before_comment line.bytes) (fails_none is_text_byte (before_comment line.bytes) all)
    (words_of line))
    (λ bad. ((refl, fails is_text_byte (before_comment line.bytes) bad), λ other b. omega arith))

-- each row has one fault for a line
same_fault : (line : LineView) (e f : DeclError) → BreaksRow line e → BreaksRow line f → rows_above e ≡ rows_above f
    → e ≡ f
same_fault line (BadByte m) (BadByte k) p q rows = ap BadByte (p.0 ∙ sym q.0)
same_fault line (UnknownWord m) (UnknownWord k) p q rows = ap UnknownWord (p.0 ∙ sym q.0)
same_fault line (MissingName m) (MissingName k) p q rows = ap MissingName (p.0 ∙ sym q.0)
same_fault line (ExtraWord m) (ExtraWord k) p q rows = ap ExtraWord (p.0 ∙ sym q.0)
same_fault line (BadName m) (BadName k) p q rows = ap BadName (p.0 ∙ sym q.0)
same_fault line e f p q rows = absurd (omega (arith, rows))

read_from : (line : LineView) (r : Result (Option Directive) DeclError) → Follows (BreaksRow line) r
    → ((e : DeclError) → ¬ BreaksRow line e) → IsOk r
read_from line (Ok found) h none = refl
read_from line (Err e) h none = absurd (none e h.0)

none_from : (line : LineView) (r : Result (Option Directive) DeclError) → Follows (BreaksRow line) r → IsOk r
    → (e : DeclError) → ¬ BreaksRow line e
none_from line (Ok found) h ok = h
none_from line (Err e) h ok = absurd cc

first_from : (line : LineView) (e : DeclError) (r : Result (Option Directive) DeclError) → Follows (BreaksRow line) r
    → r ≡ Err e → BreaksFirst line e
first_from line e (Ok found) h is = absurd cc
first_from line e (Err f) h is =
    let same : f ≡ e = cc in
    subst (BreaksFirst line) same (record { broken = h.0; first = h.1 })

refused_from : (line : LineView) (e : DeclError) (r : Result (Option Directive) DeclError) → Follows (BreaksRow line) r
    → BreaksFirst line e → r ≡ Err e
refused_from line e (Ok found) h first = absurd (h e first.broken)
refused_from line e (Err f) h first = ap (λ (g : DeclError). Err g)
    (same_fault line f e h.0 first.broken (omega (arith, h.1 e first.broken, first.first f h.0)))

pub IsOk-reading : (line : LineView) → IsOk (reading line) ↔ ((e : DeclError) → ¬ BreaksRow line e)
IsOk-reading line = (none_from line (reading line) (line_says line), read_from line (reading line) (line_says line))

pub Err-reading : (line : LineView) (e : DeclError) → (reading line ≡ Err e) ↔ BreaksFirst line e
Err-reading line e = (
  first_from line e (reading line) (line_says line),
  refused_from line e (reading line) (line_says line),
)
