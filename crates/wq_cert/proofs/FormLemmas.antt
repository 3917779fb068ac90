-- Forms: a number by its one spelling, and names one after the other.
use Rattle.std.proofs.Common.{◌≡◌, ℕ, List, [], ◌∷◌, ◌++◌, Option, Some, None, refl, sym, ap, append_assoc}
use Rattle.std.specs.Prelude.{IfSome, IfNone, option_map}
use Rattle.std.specs.Option.{option_zip}
use Rattle.wq_text.specs.Numbers.{Spells}
use Rattle.wq_text.specs.Words.{WordView}
use Rattle.wq_cert.specs.Lines.{bytes_of}
use Rattle.wq_cert.specs.Forms.{number_of, items_of}
use Rattle.wq_cert.proofs.SpelledNumbers.{Spells-number_of, number_of-Spells}

-- ---- numbers

number_of-none : (word : List ℕ) → ((n : ℕ) → Spells word n → ⊥) → None ≡ number_of word
number_of-none word none = of (number_of word) refl
  where
    of : (o : Option ℕ) → number_of word ≡ o → None ≡ number_of word
    of None e = sym e
    of (Some n) e = absurd (none n (Spells-number_of word n e))

-- what is read from a word is its number
pub number_of-is : (word : List ℕ) (o : Option ℕ) → IfSome o (λ n. Spells word n) → IfNone o ((n : ℕ) → Spells word n → ⊥) → o ≡ number_of word
number_of-is word None some none = number_of-none word none
number_of-is word (Some n) some none = sym (number_of-Spells word n some)

-- ---- names

and_more : Option ℕ → Option (List ℕ) → Option (List ℕ)
and_more item items = option_map (λ (p : ℕ × List ℕ). p.0 ∷ p.1) (option_zip item items)

-- `rest` of all the words are left: those before it name these items
pub record FoundSoFar (names : List (List ℕ)) (items : List ℕ) (rest words : List WordView) : Type 0 where
  pub known : option_map (λ (is : List ℕ). items ++ is) (items_of names (bytes_of rest)) ≡ items_of names (bytes_of words)

same_items : (o : Option (List ℕ)) → option_map (λ (is : List ℕ). [] ++ is) o ≡ o
same_items None = refl
same_items (Some is) = refl

one_more : (i : ℕ) (items : List ℕ) (o : Option (List ℕ)) → option_map (λ (is : List ℕ). (items ++ (i ∷ [])) ++ is) o ≡ option_map (λ (is : List ℕ). items ++ is) (and_more (Some i) o)
unfolding and_more
one_more i items None = refl
one_more i items (Some is) = ap (λ (l : List ℕ). Some l) (append_assoc items (i ∷ []) is)
