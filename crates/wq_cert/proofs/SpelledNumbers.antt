-- What a word says: a number by its one spelling, or an item by its name.
use Rattle.std.proofs.Common.{◌≡◌, ◌≢◌, ℕ, ◌<◌, ◌^◌, ◌⊎◌, inl, inr, Bool, true, false, ◌&&◌, cond, ltb, List, [], ◌∷◌, length, map, get_or, Option, Some, None, refl, sym, ap, ap₂, subst, ◌∙◌, arith}
use Rattle.std.specs.Prelude.{AllPairs, bytes_eq, decimal, option_map}
use Rattle.std.specs.List.{AllByRecursion}
use Rattle.std.specs.Option.{option_zip}
use Rattle.std.specs.Str.Parse.{digits_value, AllDigits}
use Rattle.std.proofs.lemmas.Bool.{and_parts, and_from, lt-ltb, ltb-true, false_from_ne_true}
use Rattle.std.proofs.lemmas.Fmt.{digits_value-decimal}
use Rattle.std.proofs.lemmas.List.Quantifiers.{position-Some}
use Rattle.std.proofs.lemmas.Str.Parse.{IsNumeralModel, numerals_by_value, tells_digits}
use Rattle.wq_text.specs.Numbers.{Spells}
use Rattle.wq_items.specs.Table.{item_named}
use Rattle.wq_groups.proofs.Among.{same_name, bytes_eq-same}
use Rattle.wq_cert.specs.Forms.{number_of, items_of}
use Rattle.wq_cert.specs.PlanText.{name_of}
use Rattle.wq_cert.proofs.ListLemmas.{position-first}

-- ---- options

-- what is there under a test passed it
pub guarded : {X : Type 0} (b : Bool) (o : Option X) (x : X) → cond b o None ≡ Some x → (b ≡ true) × (o ≡ Some x)
guarded true o x e = (refl, e)
guarded false o x e = absurd cc

-- it is this, or else what comes after
pub one_of : {X : Type 0} (b : Bool) (x y : X) (o : Option X) → cond b (Some x) o ≡ Some y → ((b ≡ true) × (x ≡ y)) ⊎ (o ≡ Some y)
one_of true x y o e = inl (refl, cc)
one_of false x y o e = inr e

-- a pair is there if both are
pub record AreBoth {X Y : Type 0} (a : Option X) (b : Option Y) (p : X × Y) : Type 0 where
  pub left : a ≡ Some p.0
  pub right : b ≡ Some p.1

pub AreBoth-zip : {X Y : Type 0} (a : Option X) (b : Option Y) (p : X × Y) → option_zip a b ≡ Some p → AreBoth a b p
AreBoth-zip None b p e = absurd cc
AreBoth-zip (Some x) None p e = absurd cc
AreBoth-zip {X} {Y} (Some x) (Some y) p e =
    let same : (x, y) ≡ p = cc in
    record { left = ap (λ (q : X × Y). Some q.0) same; right = ap (λ (q : X × Y). Some q.1) same }

pub zip-AreBoth : {X Y : Type 0} (a : Option X) (b : Option Y) (p : X × Y) → AreBoth a b p → option_zip a b ≡ Some p
zip-AreBoth a b p both = ap₂ (λ o q. option_zip o q) both.left both.right

-- ---- numbers

-- decimal digits and their value
pub decimals : IsNumeralModel (AllDigits 10) (digits_value 10)
decimals = numerals_by_value _ tells_digits

pub Spells-number_of : (word : List ℕ) (n : ℕ) → number_of word ≡ Some n → Spells word n
Spells-number_of word n e =
    let value = digits_value 10 word in
    let found = guarded (bytes_eq word (decimal value) && ltb value (2 ^ 32)) (Some value) n e in
    let passed = and_parts (bytes_eq word (decimal value)) (ltb value (2 ^ 32)) found.0 in
    let same : value ≡ n = cc in
    record { fits = omega (arith, ltb-true value (2 ^ 32) passed.1); digits = same_name word (decimal value) passed.0 ∙ ap decimal same }

pub number_of-Spells : (word : List ℕ) (n : ℕ) → Spells word n → number_of word ≡ Some n
number_of-Spells word n s =
    let value : digits_value 10 word ≡ n = ap (digits_value 10) s.digits ∙ digits_value-decimal decimals n (omega (arith, s.fits)) in
    let passes : (bytes_eq word (decimal n) && ltb n (2 ^ 32)) ≡ true =
    and_from (bytes_eq word (decimal n)) (ltb n (2 ^ 32)) (bytes_eq-same word (decimal n) s.digits) (lt-ltb n (2 ^ 32) s.fits) in
    ap (λ (m : ℕ). cond (bytes_eq word (decimal m) && ltb m (2 ^ 32)) (Some m) None) value ∙ ap (λ (b : Bool). cond b (Some n) None) passes

-- ---- names

-- the word is the name of item i
pub record Names (names : List (List ℕ)) (word : List ℕ) (i : ℕ) : Type 0 where
  pub known : i < length names
  pub name : word ≡ name_of names i

pub Names-item_named : (names : List (List ℕ)) (word : List ℕ) (i : ℕ) → item_named names word ≡ Some i → Names names word i
Names-item_named names word i e =
    let found = position-Some (bytes_eq word) names i [] e in
    record { known = found.0; name = same_name word (get_or names i []) found.1 }

pub item_named-name_of : (names : List (List ℕ)) → AllPairs (λ (a b : List ℕ). a ≢ b) names → (i : ℕ) → i < length names → item_named names (name_of names i) ≡ Some i
item_named-name_of names differ i within =
    let name = name_of names i in
    position-first (bytes_eq name) names i [] within
    (λ k before. false_from_ne_true (bytes_eq name (get_or names k [])) (λ same. differ k i [] before within (sym (same_name name (get_or names k []) same))))
    (bytes_eq-same name name refl)

-- the words are the names of these items
pub record AreNames (names words : List (List ℕ)) (items : List ℕ) : Type 0 where
  pub known : AllByRecursion (λ i. i < length names) items
  pub words_are : words ≡ map (name_of names) items

more_names : (names words : List (List ℕ)) (word : List ℕ) (i : ℕ) (items : List ℕ) → Names names word i → AreNames names words items → AreNames names (word ∷ words) (i ∷ items)
more_names names words word i items one more = record {
  known = (one.known, more.known);
  words_are = ap₂ (λ (w : List ℕ) (ws : List (List ℕ)). w ∷ ws) one.name more.words_are;
}

split_items : (a : Option ℕ) (b : Option (List ℕ)) (items : List ℕ) → option_map (λ (p : ℕ × List ℕ). p.0 ∷ p.1) (option_zip a b) ≡ Some items
    → (i : ℕ) × (is : List ℕ) × (items ≡ i ∷ is) × (a ≡ Some i) × (b ≡ Some is)
split_items None b items e = absurd cc
split_items (Some i) None items e = absurd cc
split_items (Some i) (Some is) items e = (i, is, cc, refl, refl)

pub AreNames-items_of : (names words : List (List ℕ)) (items : List ℕ) → items_of names words ≡ Some items → AreNames names words items
AreNames-items_of names [] items e =
    let none : [] ≡ items = cc in
    subst (AreNames names []) none (record { known = tt; words_are = refl })
AreNames-items_of names (word ∷ words) items e =
    let parts = split_items (item_named names word) (items_of names words) items e in
    subst (AreNames names (word ∷ words)) (sym parts.2) (
    more_names names words word parts.0 parts.1 (Names-item_named names word parts.0 parts.3) (AreNames-items_of names words parts.1 parts.4)
    )

pub items_of-names_of : (names : List (List ℕ)) → AllPairs (λ (a b : List ℕ). a ≢ b) names → (items : List ℕ) → AllByRecursion (λ i. i < length names) items → items_of names (map (name_of names) items) ≡ Some items
items_of-names_of names differ [] h = refl
items_of-names_of names differ (i ∷ items) h =
    ap₂ (λ (o : Option ℕ) (q : Option (List ℕ)). option_map (λ (p : ℕ × List ℕ). p.0 ∷ p.1) (option_zip o q))
    (item_named-name_of names differ i h.0) (items_of-names_of names differ items h.1)
