-- The number of helpers that a word of the command line says, as `clap` reads it.
use Rattle.std.proofs.Common.{◌≡◌, ℕ, ◌<◌, ◌≤◌, Bool, true, false, List, Option, None, Some, Result, Ok, Err, refl, sym}
use Rattle.std.proofs.Common.{subst, arith}
use Rattle.std.specs.Prelude.{IfSome, IsSome, nat_lt, if◌then◌else◌}
use Rattle.std.specs.Str.Parse.{ParsesUnsigned}
use Rattle.std.proofs.lemmas.Bool.{ltb-false, ltb-true}
use Rattle.clap.specs.Words.{Text, TriesOne}
use Rattle.wqplan.specs.CommandLine.{IsHelpers, few_read, helpers_in}

-- this was read of the word
abbrev pub Reads : {E : Type 0} → (List ℕ → Result ℕ E → Type 0) → Option Text → Result (Option ℕ) E → Type 0
Reads gives None r = r ≡ Ok None
Reads gives (Some t) r = TriesOne gives t r

pub reads : {E : Type 0} (gives : List ℕ → Result ℕ E → Type 0) (word : Option Text) (r : Result (Option ℕ) E)
    → (word ≡ None → r ≡ Ok None)
    → ((t : Text) → word ≡ Some t → TriesOne gives t r) → Reads gives word r
reads gives None r none some = none refl
reads gives (Some t) r none some = some t refl

-- both of what holds of a number
both : (o : Option ℕ) (P : ℕ → Type 0) (Q : Type 0) → IfSome o (λ n. P n × Q) → IfSome o P × IfSome o (λ _. Q)
both None P Q h = (tt, tt)
both (Some n) P Q h = (h.0, h.1)

module _ {E : Type 0} (gives : List ℕ → Result ℕ E → Type 0)
    (only : (t : Text) (x : Result ℕ E) → gives t x → ParsesUnsigned 8 10 t x) where
  -- a number was read
  said : (word : Option Text) (n : ℕ) → Reads gives word (Ok (Some n)) → n ≤ 8 → (helpers_in word ≡ n) × IsHelpers word
  said None n read few = absurd cc
  said (Some t) n read few =
      let parsed = only t (Ok n) read in
      let is : n ≡ helpers_in (Some t) = parsed.1 in
      (sym is, (parsed.0.0, omega (arith, parsed.0.1), omega arith, omega (arith, is, few)))

  -- a number was read that is too large
  too_many : (word : Option Text) (n : ℕ) → Reads gives word (Ok (Some n)) → 8 < n → IsHelpers word → ⊥
  too_many None n read many is = absurd cc
  too_many (Some t) n read many is = omega (arith, (only t (Ok n) read).1, many, is.3)

  -- no number was read
  no_number : (word : Option Text) (e : E) → Reads gives word (Err e) → IsHelpers word → ⊥
  no_number None e read is = absurd cc
  no_number (Some t) e read is = only t (Err e) read (is.0, omega (arith, is.3))

  none_said : (word : Option Text) → Reads gives word (Ok None) → (helpers_in word ≡ 0) × IsHelpers word
  none_said None read = (refl, tt)
  none_said (Some t) read = absurd read

  -- what a word says that was read so
  pub number_said : (word : Option Text) (r : Result (Option ℕ) E) → Reads gives word r
      → IfSome (few_read r) (λ n. (helpers_in word ≡ n) × IsHelpers word)
  number_said word (Ok None) read = none_said word read
  number_said word (Ok (Some n)) read = go (nat_lt 8 n) refl
    where
      go : (b : Bool) → nat_lt 8 n ≡ b
          → IfSome (if b then None else Some n) (λ m. (helpers_in word ≡ m) × IsHelpers word)
      go true many = tt
      go false few = said word n read (ltb-false 8 n few)
  number_said word (Err e) read = tt

  -- `number_said` of a result that is known to be read from this word
  pub number_given : (word : Option Text) (r : Result (Option ℕ) E) (o : Option ℕ) → Reads gives word r → o ≡ few_read r
      → IfSome o (λ n. helpers_in word ≡ n) × IfSome o (λ _. IsHelpers word)
  number_given word r o read is =
      both o (λ n. helpers_in word ≡ n) (IsHelpers word)
      (subst (λ x. IfSome x (λ n. (helpers_in word ≡ n) × IsHelpers word)) (sym is) (number_said word r read))

  -- if a word is a number of helpers, it is read
  pub helpers_read : (word : Option Text) (r : Result (Option ℕ) E) → Reads gives word r → IsHelpers word
      → IsSome (few_read r)
  helpers_read word (Ok None) read is = refl
  helpers_read word (Ok (Some n)) read is = go (nat_lt 8 n) refl
    where
      go : (b : Bool) → nat_lt 8 n ≡ b → IsSome (if b then None else Some n)
      go true many = absurd (too_many word n read (ltb-true 8 n many) is)
      go false few = refl
  helpers_read word (Err e) read is = absurd (no_number word e read is)

  pub some_given : (word : Option Text) (r : Result (Option ℕ) E) (o : Option ℕ) → Reads gives word r → o ≡ few_read r
      → IsHelpers word → IsSome o
  some_given word r o read is few = subst IsSome (sym is) (helpers_read word r read few)
