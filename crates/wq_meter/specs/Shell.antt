-- The texts of a command are taken from readers, and something is said of the answer.
use Rattle.std.specs.Prelude.{◌≡◌, ◌⊎◌, ℕ, ◌+◌, List, [], Option, Some, None, take, refl}
use Rattle.std.specs.Coded.{Coded, code_by, coded×, coded_ℕ, coded_list}
use Rattle.wq_meter.specs.Meter.{Meter, WritesPrefix, WritesWhole}
use Rattle.wq_meter.specs.Input.{GivesText, HasGiven, HasGivenBytes, HasFailed}
use Rattle.wq_meter.specs.declared.fault.Fault.{Fault}
use Rattle.wq_meter.specs.declared.texts.Limits.{Limits}

-- the bytes of a command's texts; a text that it doesn't have is empty
pub record Given : Type 0 where
  pub first : List ℕ
  pub second : List ℕ
  pub third : List ℕ

-- the texts are stored one after another
abbrev pub given_code : Coded Given
given_code =
    code_by (List ℕ
    × (List ℕ × List ℕ)) (coded× (coded_list coded_ℕ) (coded× (coded_list coded_ℕ) (coded_list coded_ℕ)))
    (λ t. (t.first, (t.second, t.third)))
    (λ p. record { first = p.0; second = p.1.0; third = p.1.1 }) (λ _. refl)

-- ---- limits

-- how many bytes of a text are read at most: up to the first one past its limit; none if there is no such text
abbrev pub most : Option ℕ → ℕ
most None = 0
most (Some limit) = limit + 1

-- the bytes of a text that are kept
abbrev pub kept_text : Option ℕ → List ℕ → List ℕ
kept_text None text = text
kept_text (Some limit) text = take (limit + 1) text

-- the bytes of each text that are kept
abbrev pub kept : Limits → Given → Given
kept limits texts = record {
  first = take (limits.first + 1) texts.first;
  second = kept_text limits.second texts.second;
  third = kept_text limits.third texts.third;
}

-- ---- one reader, of which a text is asked only if there is a limit for it

-- a reader had this text, and gave it up to the first byte past the limit; if it isn't asked, the text is empty
abbrev pub GivesIf : {R : Type 0} → (R → Option (List ℕ)) → Meter R → Meter R → Option ℕ → List ℕ → Type 0
GivesIf remaining old new None text = (new ≡ old) × (text ≡ [])
GivesIf remaining old new (Some limit) text = GivesText remaining old new limit text

-- a reader has given its text, and no call failed
abbrev pub HasGivenIf : {R : Type 0} → (R → Option (List ℕ)) → Meter R → Meter R → Option ℕ → Type 0
HasGivenIf remaining old new None = new ≡ old
HasGivenIf remaining old new (Some limit) = HasGiven remaining old new limit

-- one more call of a reader failed
abbrev pub HasFailedIf : {R : Type 0} → Meter R → Meter R → Option ℕ → Type 0
HasFailedIf old new None = ⊥
HasFailedIf old new (Some limit) = HasFailed old new

-- a later reader is untouched, or this one gave its text first
abbrev pub AfterIf : {R L : Type 0} → (R → Option (List ℕ)) → Meter R → Meter R → Option ℕ → Meter L → Meter L → Type 0
AfterIf remaining old new limit later_old later_new = (later_new ≡ later_old) ⊎ HasGivenIf remaining old new limit

-- ---- what was read

-- the texts are those of three readers
abbrev pub AreFrom : (List ℕ → Type 0) → (List ℕ → Type 0) → (List ℕ → Type 0) → Given → Type 0
AreFrom First Second Third texts = First texts.first × Second texts.second × Third texts.third

-- readers had texts, and these are what is kept of them
pub record AreKept (limits : Limits) (From : Given → Type 0) (texts : Given) : Type 0 where
  pub had : Given
  pub from : From had
  pub is : texts ≡ kept limits had

-- ---- what is said

-- this is said: all of it, and no write fails; or a prefix of it, because a write
-- fails; or nothing, if there is nothing to say
abbrev pub TellsOf : {W : Type 0} → (W → Option (List ℕ)) → Meter W → Meter W → Option (List ℕ) → Type 0
TellsOf contents old new None = new ≡ old
TellsOf contents old new (Some text) =
    (WritesWhole contents old new text × (new.failures ≡ old.failures))
    ⊎ (WritesPrefix contents old new text × HasFailed old new)

-- what there is to say is said, or nothing if memory for it runs out; no definition tells when it does
abbrev pub Tells : {W : Type 0} → (W → Option (List ℕ)) → Meter W → Meter W → (Option (List ℕ) → Type 0) → Type 0
Tells contents old new Says = (new ≡ old) ⊎ ((said : Option (List ℕ)) × Says said × TellsOf contents old new said)

-- these bytes came: those of a text that a reader had, as far as they are kept
pub record Came {R : Type 0} (remaining : R → Option (List ℕ)) (old new : Meter R) (limit : Option ℕ) (bytes : List ℕ)
    : Type 0 where
  pub text : List ℕ
  pub gives : GivesIf remaining old new limit text
  pub prefix : bytes ≡ kept_text limit text
  pub none_failed : new.failures ≡ old.failures
