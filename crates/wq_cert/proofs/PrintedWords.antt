-- Words that are read as they are printed: numbers, names and keywords.
use Rattle.std.proofs.Common.{◌≡◌, ◌≢◌, ℕ, ◌<◌, ◌≤◌, ◌^◌, true, ◌&&◌, ltb, nat_le, List, [], ◌∷◌, length, map, ap, arith, IsTrue}
use Rattle.std.specs.Fmt.{decimal}
use Rattle.std.specs.List.{All, AllByRecursion, list_all}
use Rattle.std.specs.Str.Parse.{AllDigits}
use Rattle.std.proofs.lemmas.Bool.{ltb-true, leb-true, and_parts}
use Rattle.std.proofs.lemmas.Bool.Decides.{nat_tests}
use Rattle.std.proofs.lemmas.Fmt.{decimal_nonempty, digits_decimal, length-decimal-le}
use Rattle.std.proofs.lemmas.Str.Parse.{digit_at}
use Rattle.wq_items.specs.Names.{is_name, is_name_byte}
use Rattle.wq_cert.specs.PlanText.{name_of}
use Rattle.wq_cert.proofs.PrintedLines.{IsPlain, IsPrintable, IsPrintableLine}
use Rattle.wq_cert.proofs.SpelledNumbers.{decimals}

-- ---- numbers

plain-digits : (ds : List ℕ) → AllDigits 10 ds → IsPlain ds
plain-digits [] h = tt
plain-digits (d ∷ ds) h = let first = digit_at (d ∷ ds) 0 h (omega arith) in (omega (arith, first), plain-digits ds h.1)

pub IsPrintable-decimal : (n : ℕ) → n < 2 ^ 32 → IsPrintable (decimal n)
IsPrintable-decimal n small = record {
  filled = λ e. omega (arith, decimal_nonempty n (omega arith), ap length e);
  plain = plain-digits (decimal n) (digits_decimal decimals n (omega arith));
  short = omega (arith, length-decimal-le 10 n (omega arith) (omega arith) (omega arith));
}

-- ---- keywords

plain-test : (word : List ℕ) → list_all (λ b. ltb 35 b) word ≡ true → IsPlain word
plain-test [] e = tt
plain-test (b ∷ word) e = let parts = and_parts (ltb 35 b) (list_all (λ b. ltb 35 b) word) e in (ltb-true 35 b parts.0, plain-test word parts.1)

filled-test : (word : List ℕ) → 0 < length word → word ≢ []
filled-test word some e = omega (arith, ap length e)

pub IsPrintable-keyword : (word : List ℕ) → list_all (λ b. ltb 35 b) word ≡ true → 0 < length word → length word ≤ 63 → IsPrintable word
IsPrintable-keyword word plain some short = record { filled = filled-test word some; plain = plain-test word plain; short = short }

pub IsPrintableLine-count : (word : List ℕ) (n : ℕ) → IsPrintable word → n < 2 ^ 32 → IsPrintableLine (word ∷ decimal n ∷ [])
IsPrintableLine-count word n keyword small = record { some = λ e. absurd cc; each = (keyword, (IsPrintable-decimal n small, tt)); few = omega arith }

-- ---- names

name_byte-plain : (b : ℕ) → is_name_byte b ≡ true → 35 < b
name_byte-plain b e = grind (arith, nat_tests, e)

plain-name_bytes : (word : List ℕ) → list_all is_name_byte word ≡ true → IsPlain word
plain-name_bytes [] e = tt
plain-name_bytes (b ∷ word) e = let parts = and_parts (is_name_byte b) (list_all is_name_byte word) e in (name_byte-plain b parts.0, plain-name_bytes word parts.1)

pub IsPrintable-name : (name : List ℕ) → IsTrue (is_name name) → IsPrintable name
IsPrintable-name name h =
    let some = and_parts (nat_le 1 (length name)) (nat_le (length name) 63 && list_all is_name_byte name) h in
    let most = and_parts (nat_le (length name) 63) (list_all is_name_byte name) some.1 in
    record {
      filled = filled-test name (omega (arith, leb-true 1 (length name) some.0));
      plain = plain-name_bytes name most.1;
      short = leb-true (length name) 63 most.0;
    }

module _ (names : List (List ℕ)) where
  pub IsPrintable-name_of : All (λ (name : List ℕ). IsTrue (is_name name)) names → (i : ℕ) → i < length names → IsPrintable (name_of names i)
  IsPrintable-name_of named i within = IsPrintable-name (name_of names i) (named i [] within)

  pub IsPrintable-names_of : All (λ (name : List ℕ). IsTrue (is_name name)) names → (is : List ℕ) → AllByRecursion (λ i. i < length names) is
      → AllByRecursion IsPrintable (map (name_of names) is)
  IsPrintable-names_of named [] within = tt
  IsPrintable-names_of named (i ∷ is) within = (IsPrintable-name_of named i within.0, IsPrintable-names_of named is within.1)
