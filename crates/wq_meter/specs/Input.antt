-- Input: texts that are taken from readers, one after another.
use Rattle.std.specs.Prelude.{◌≡◌, ◌⊎◌, ℕ, ◌+◌, List, IfSome, Option, take}
use Rattle.wq_meter.specs.Meter.{Meter, TakesPrefix, count_after}

-- the text is what a reader has left, if that is known
abbrev pub IsInput : Option (List ℕ) → List ℕ → Type 0
IsInput known text = IfSome known (λ bytes. text ≡ bytes)

-- a reader had this text, and gave it up to the first byte past the limit
pub record GivesText {R : Type 0} (remaining : R → Option (List ℕ)) (old new : Meter R) (limit : ℕ) (text : List ℕ)
    : Type 0 where
  pub input : IsInput (remaining old.device) text
  pub taken : TakesPrefix remaining old new (limit + 1) text

-- a reader gave a text in this way, and no call failed
pub record HasGiven {R : Type 0} (remaining : R → Option (List ℕ)) (old new : Meter R) (limit : ℕ) : Type 0 where
  pub text : List ℕ
  pub gives : GivesText remaining old new limit text
  pub none_failed : new.failures ≡ old.failures

-- a reader has given a text, and these are the bytes that came
pub record HasGivenBytes {R : Type 0} (remaining : R → Option (List ℕ)) (old new : Meter R) (limit : ℕ) (bytes : List ℕ)
    : Type 0 where
  pub given : HasGiven remaining old new limit
  pub prefix : bytes ≡ take (limit + 1) given.text

-- another reader is untouched, or this one gave its text first
abbrev pub AfterGiven : {R L : Type 0} → (R → Option (List ℕ)) → Meter R → Meter R → ℕ → Meter L → Meter L → Type 0
AfterGiven remaining old new limit later_old later_new = (later_new ≡ later_old) ⊎ HasGiven remaining old new limit

-- one more call of a reader failed
abbrev pub HasFailed : {R : Type 0} → Meter R → Meter R → Type 0
HasFailed old new = new.failures ≡ count_after old.failures 1
