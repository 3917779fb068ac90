-- Numbers of 32 bits: what `parse` reads where bytes begin as a number does.
use Rattle.std.proofs.Common.{◌≡◌, ◌≢◌, ℕ, zero, suc, ◌<◌, ◌^◌, List, length, get_or, sym, ap, subst, ◌∙◌, arith, Result, Ok, Err, IfSome, IfNone}
use Rattle.std.specs.Int.{IsInRange}
use Rattle.std.specs.Fmt.{decimal}
use Rattle.std.specs.Result.{result_ok}
use Rattle.std.specs.Str.{IsUtf8}
use Rattle.std.specs.Str.Parse.{AllDigits, digits_value, ParsesUnsigned}
use Rattle.std.proofs.lemmas.Fmt.{decimal_digit, decimal_nonempty, first_decimal, digits_decimal, decimal-digits_value, parse-decimal, IsAscii-decimal}
use Rattle.std.proofs.lemmas.Str.{IsUtf8-from_ascii}
use Rattle.std.proofs.lemmas.Str.Parse.{IsNumeralModel, numerals_by_value, tells_digits, parse_plain, digit_at}
use Rattle.wq_text.specs.Numbers.{Spells}

-- a digit, which isn't a `0` before others
pub record BeginsNumber (bs : List ℕ) : Type 0 where
  pub some : 0 < length bs
  pub digit : IsInRange 48 57 (get_or bs 0 0)
  pub alone : get_or bs 0 0 ≡ 48 → length bs ≡ 1

own : IsNumeralModel (AllDigits 10) (digits_value 10)
own = numerals_by_value _ tells_digits

below_64 : (n : ℕ) → n < 2 ^ 32 → n < 2 ^ 64
below_64 n h = omega arith

alone-decimal : (n : ℕ) → n < 2 ^ 64 → get_or (decimal n) 0 0 ≡ 48 → length (decimal n) ≡ 1
alone-decimal zero h e = ap length (decimal_digit 0 (omega arith))
alone-decimal (suc n) h e = absurd (omega (arith, first_decimal (suc n) (omega arith) h))

pub BeginsNumber-decimal : (n : ℕ) → n < 2 ^ 64 → BeginsNumber (decimal n)
BeginsNumber-decimal n h = record {
  some = decimal_nonempty n h;
  digit = digit_at (decimal n) 0 (digits_decimal own n h) (decimal_nonempty n h);
  alone = alone-decimal n h;
}

-- bytes that spell a number begin as one, and are text
pub BeginsNumber-spelled : (bs : List ℕ) (n : ℕ) → Spells bs n → BeginsNumber bs
BeginsNumber-spelled bs n s = subst BeginsNumber (sym s.digits) (BeginsNumber-decimal n (below_64 n s.fits))

pub IsUtf8-spelled : (bs : List ℕ) (n : ℕ) → Spells bs n → IsUtf8 bs
IsUtf8-spelled bs n s = subst IsUtf8 (sym s.digits) (IsUtf8-from_ascii _ (IsAscii-decimal n (below_64 n s.fits)))

-- digits that begin as a number does spell their value
spelled-value : (bs : List ℕ) (n : ℕ) → BeginsNumber bs → AllDigits 10 bs → digits_value 10 bs < 2 ^ 32 → n ≡ digits_value 10 bs → Spells bs n
spelled-value bs n b digits small e =
    record {
      fits = omega arith;
      digits = sym (decimal-digits_value own bs digits b.some b.alone (below_64 _ small)) ∙ ap decimal (sym e);
    }

no_plus : (bs : List ℕ) → BeginsNumber bs → get_or bs 0 0 ≢ 43
no_plus bs b e = omega (arith, b.digit)

-- what is parsed is spelled
pub spelled-parse : {E : Type 0} (bs : List ℕ) (r : Result ℕ E) → BeginsNumber bs → ParsesUnsigned 32 10 bs r → IfSome (result_ok r) (λ n. Spells bs n)
spelled-parse {E} bs (Ok n) b h =
    let p = parse_plain own {E = E} 32 bs (Ok n) h (no_plus bs b) in
    spelled-value bs n b p.0.0 p.0.2 p.1
spelled-parse bs (Err e) b h = tt

-- what is spelled is parsed
pub parse-spelled : {E : Type 0} (bs : List ℕ) (r : Result ℕ E) → ParsesUnsigned 32 10 bs r → IfNone (result_ok r) ((n : ℕ) → Spells bs n → ⊥)
parse-spelled bs (Ok n) h = tt
parse-spelled {E} bs (Err e) h = λ n s. let p = parse-decimal {E = E} 32 n bs (Err e) s.fits (below_64 n s.fits) s.digits h in cc
