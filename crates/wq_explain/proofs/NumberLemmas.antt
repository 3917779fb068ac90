-- The number that a word spells, and how a program reads it.
use Rattle.std.proofs.Common.{arith, ◌≡◌, ◌∙◌, ◌==◌, ◌&&◌, ◌<◌, ◌^◌, ℕ, Bool, true, false, cond, drop, List, [], ◌∷◌, Some, None, Result, Ok, Err, refl, sym, ap}
use Rattle.std.specs.Prelude.{decimal, nat_lt}
use Rattle.std.specs.Char.{digit_value}
use Rattle.std.specs.List.{list_all}
use Rattle.std.specs.Result.{result_ok}
use Rattle.std.specs.Str.Parse.{AllDigits, IsNumeral, ParsesUnsigned, digits_value, without_leading_plus}
use Rattle.std.proofs.lemmas.Bool.{and_parts, lt-ltb, ltb-true, ne_eqb}
use Rattle.std.proofs.lemmas.Fmt.{decimal_is_IsNumeral}
use Rattle.std.proofs.lemmas.Str.Parse.{digit_from_value}
use Rattle.wq_explain.specs.Explaining.{is_numeral, number_in}

-- digits are digits, as a test
digits-test : (ds : List ℕ) → AllDigits 10 ds → list_all (λ d. nat_lt (digit_value d) 10) ds ≡ true
digits-test [] h = refl
digits-test (d ∷ ds) h = rw (lt-ltb (digit_value d) 10 h.0) (digits-test ds h.1)

test-digits : (ds : List ℕ) → list_all (λ d. nat_lt (digit_value d) 10) ds ≡ true → AllDigits 10 ds
test-digits [] e = tt
test-digits (d ∷ ds) e =
    let parts = and_parts _ _ e in
    (ltb-true _ _ parts.0, test-digits ds parts.1)

-- the digits spell a 32-bit number
abbrev Small : List ℕ → Type 0
Small ds = IsNumeral 10 ds × (digits_value 10 ds < 2 ^ 32)

abbrev small : List ℕ → Bool
small ds = is_numeral ds && nat_lt (digits_value 10 ds) (2 ^ 32)

Small-test : (ds : List ℕ) → Small ds → small ds ≡ true
Small-test ds h = rw (lt-ltb _ _ h.0.0, digits-test ds h.0.1, lt-ltb _ _ h.1) refl

test-Small : (ds : List ℕ) → small ds ≡ true → Small ds
test-Small ds e =
    let parts = and_parts _ _ e in
    let digits = and_parts _ _ parts.0 in
    ((ltb-true _ _ digits.0, test-digits ds digits.1), ltb-true _ _ parts.1)

-- the number that a word is parsed to is the one that it spells
pub parse-number_in : {E : Type 0} (word : List ℕ) (r : Result ℕ E) → ParsesUnsigned 32 10 word r → result_ok r ≡ number_in word
parse-number_in word (Ok n) h =
    let ds = without_leading_plus word in
    let is : small ds ≡ true = Small-test ds h.0 in
    ap Some h.1 ∙ sym (ap (λ (b : Bool). cond b (Some (digits_value 10 ds)) None) is)
parse-number_in word (Err e) h = go (small (without_leading_plus word)) refl
  where
    go : (b : Bool) → small (without_leading_plus word) ≡ b → None ≡ cond b (Some (digits_value 10 (without_leading_plus word))) None
    go true is = absurd (h (test-Small (without_leading_plus word) is))
    go false is = refl

-- digits don't begin with a `+`
no_plus : (ds : List ℕ) → IsNumeral 10 ds → without_leading_plus ds ≡ ds
no_plus [] h = refl
no_plus (d ∷ ds) h =
    let plus : (d == 43) ≡ false = ne_eqb _ _ (λ e. omega (arith, digit_from_value d h.1.0)) in
    ap (λ (b : Bool). drop (cond b 1 0) (d ∷ ds)) plus

-- the digits of a 32-bit number spell it
pub number_in-decimal : (code : ℕ) → code < 2 ^ 32 → number_in (decimal code) ≡ Some code
number_in-decimal code fits =
    let digits = decimal_is_IsNumeral code (omega arith) in
    let plain : without_leading_plus (decimal code) ≡ decimal code = no_plus (decimal code) digits.0 in
    let value : digits_value 10 (decimal code) ≡ code = digits.1 in
    let is : small (decimal code) ≡ true = Small-test (decimal code) (digits.0, omega (arith, value)) in
    ap (λ (ds : List ℕ). cond (small ds) (Some (digits_value 10 ds)) None) plain
    ∙ (ap (λ (b : Bool). cond b (Some (digits_value 10 (decimal code))) None) is ∙ ap Some value)
