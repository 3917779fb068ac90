-- What one more read or write adds to what came before it.
use Rattle.std.proofs.Common.{◌≡◌, ℕ, ◌+◌, ◌≤◌, List, ◌++◌, length, take, drop, Option, Some, None, [], refl, sym, ap, ◌∙◌, subst, append-nil, arith, length-append, length-take-le}
use Rattle.std.specs.Prelude.{IfSome}
use Rattle.std.proofs.lemmas.List.{take_all, take-append-le}
use Rattle.std.proofs.Math.Seq.{take-add}
use Rattle.std.proofs.KnownBytes.{Appends-trans, Consumes-trans}
use Rattle.std.specs.Io.KnownBytes.{Appends, Consumes}
use Rattle.std.specs.Io.KnownBytes.{IsAtEnd}
use Rattle.wq_meter.specs.Meter.{Meter, count_after, LosesPrefix}
use Rattle.wq_meter.specs.Input.{IsInput, HasGivenBytes}

-- a writer that took a prefix of a text and then a prefix of the rest took a longer prefix
pub Appends-take_more : (a b c : Option (List ℕ)) (text : List ℕ) (i n : ℕ) → Appends a b (take i text) → Appends b c (take n (drop i text)) → Appends a c (take (i + n) text)
Appends-take_more a b c text i n first second = rw (take-add i n text) (Appends-trans a b c _ _ first second)

-- a reader that gave a text and then a prefix of a chunk lost both
pub LosesPrefix-more : {R : Type 0} (remaining : R → Option (List ℕ)) (old mid new : Meter R) (most n len : ℕ) (text chunk : List ℕ)
    → Consumes (remaining old.device) (remaining mid.device) text → len ≡ length text → mid.bytes ≡ count_after old.bytes len
    → Consumes (remaining mid.device) (remaining new.device) (take n chunk) → new.bytes ≡ count_after mid.bytes n
    → n ≤ length chunk → len + n ≤ most → LosesPrefix remaining old new most
LosesPrefix-more remaining old mid new most n len text chunk first whole counted_first second counted_second in_chunk within =
    let more : length (text ++ take n chunk) ≡ length text + n = omega (arith, length-append text (take n chunk), length-take-le n chunk in_chunk) in
    record {
      lost = text ++ take n chunk;
      within = omega arith;
      consumed = Consumes-trans _ _ _ text (take n chunk) first second;
      counted = omega arith;
    }

-- ---- a text that was read

-- what was read of the text that a reader had: all of it, or a prefix of a longer one
record IsRead (known : Option (List ℕ)) (limit : ℕ) (read : List ℕ) : Type 0 where
  text : List ℕ
  input : IsInput known text
  prefix : read ≡ take (limit + 1) text

IsRead-prefix : (known : Option (List ℕ)) (limit : ℕ) (read : List ℕ) → IfSome known (λ bytes. read ≡ take (limit + 1) bytes) → length read ≤ limit + 1 → IsRead known limit read
IsRead-prefix None limit read prefix within = record { text = read; input = tt; prefix = sym (take_all (limit + 1) read within) }
IsRead-prefix (Some bytes) limit read prefix within = record { text = bytes; input = refl; prefix = prefix }

-- what came up to the end is everything that there was
pub all_read : (old new : Option (List ℕ)) (read : List ℕ) (most : ℕ) → Consumes old new read → IsAtEnd new → length read ≤ most → IfSome old (λ bytes. read ≡ take most bytes)
all_read None new read most came end within = tt
all_read (Some xs) None read most came end within = absurd came
all_read (Some xs) (Some ys) read most came end within =
    let all : xs ≡ read = came ∙ ap (λ (l : List ℕ). read ++ l) end ∙ append-nil read in
    sym (take_all most read within) ∙ ap (take most) (sym all)

-- as much as may come is a prefix of what there was
pub prefix_read : (old new : Option (List ℕ)) (read : List ℕ) (most : ℕ) → Consumes old new read → length read ≡ most → IfSome old (λ bytes. read ≡ take most bytes)
prefix_read None new read most came long = tt
prefix_read (Some xs) None read most came long = absurd came
prefix_read (Some xs) (Some ys) read most came long =
    sym (take_all most read (omega arith)) ∙ sym (take-append-le most read ys (omega arith)) ∙ ap (take most) (sym came)

-- one more read that brings nothing consumes nothing more
pub Consumes-nothing : (old mid new : Option (List ℕ)) (read chunk : List ℕ) (n : ℕ) → n ≡ 0 → Consumes old mid read → Consumes mid new (take n chunk) → Consumes old new read
Consumes-nothing old mid new read chunk n none first second =
    subst (Consumes old new) (append-nil read) (Consumes-trans old mid new read [] first (subst (λ k. Consumes mid new (take k chunk)) none second))

-- the bytes that came, n of them, are a prefix of the text that the reader had
pub HasGivenBytes-read : {R : Type 0} (remaining : R → Option (List ℕ)) (old new : Meter R) (limit n : ℕ) (read : List ℕ) → n ≡ length read
    → IfSome (remaining old.device) (λ bytes. read ≡ take (limit + 1) bytes) → n ≤ limit + 1
    → Consumes (remaining old.device) (remaining new.device) read → new.bytes ≡ count_after old.bytes n → new.calls ≤ old.calls + (n + 1)
    → new.failures ≡ old.failures → HasGivenBytes remaining old new limit read
HasGivenBytes-read remaining old new limit n read same prefix within consumed counted few_calls none_failed =
    let had = IsRead-prefix (remaining old.device) limit read prefix (omega arith) in
    record {
      given = record {
        text = had.text;
        gives = record {
          input = had.input;
          taken = record {
            consumed = subst (Consumes (remaining old.device) (remaining new.device)) had.prefix consumed;
            counted = subst (λ (bytes : List ℕ). new.bytes ≡ count_after old.bytes (length bytes)) had.prefix (subst (λ k. new.bytes ≡ count_after old.bytes k) same counted);
            few_calls = subst (λ (bytes : List ℕ). new.calls ≤ old.calls + (length bytes + 1)) had.prefix (subst (λ k. new.calls ≤ old.calls + (k + 1)) same few_calls);
          };
        };
        none_failed = none_failed;
      };
      prefix = had.prefix;
    }
