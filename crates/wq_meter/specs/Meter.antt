-- What is counted of the calls to a reader or a writer.
use Rattle.std.specs.Prelude.{◌≡◌, ℕ, ◌+◌, ◌-◌, ◌^◌, ◌<◌, ◌≤◌, min, max, List, length, take, Option, refl}
use Rattle.std.specs.Io.KnownBytes.{Appends, Consumes}
use Rattle.std.specs.Coded.{Coded, code_by, coded×, coded_ℕ}

-- a device, how many calls it got, how many bytes they moved, and how many of them failed
pub record Meter (D : Type 0) : Type 0 where
  pub device : D
  pub calls : ℕ
  pub bytes : ℕ
  pub failures : ℕ

-- a meter is stored as its fields
abbrev pub meter_code : {D : Type 0} → Coded D → Coded (Meter D)
meter_code {D} device_code =
    code_by (D × (ℕ × (ℕ × ℕ))) (coded× device_code (coded× coded_ℕ (coded× coded_ℕ coded_ℕ)))
    (λ m. (m.device, (m.calls, (m.bytes, m.failures))))
    (λ p. record { device = p.0; calls = p.1.0; bytes = p.1.1.0; failures = p.1.1.1 }) (λ _. refl)

-- a 64-bit count after n more: it stops at the largest value, and never falls
abbrev pub count_after : ℕ → ℕ → ℕ
count_after count n = max count (min (count + n) (2 ^ 64 - 1))

-- a reader lost some bytes, no more than `most`, and they were counted
pub record LosesPrefix {R : Type 0} (remaining : R → Option (List ℕ)) (old new : Meter R) (most : ℕ) : Type 0 where
  pub lost : List ℕ
  pub within : length lost ≤ most
  pub consumed : Consumes (remaining old.device) (remaining new.device) lost
  pub counted : new.bytes ≡ count_after old.bytes (length lost)

-- a reader gave a prefix of a text, up to `most` bytes, and they were counted; each
-- call except the last gave at least one
pub record TakesPrefix {R : Type 0} (remaining : R → Option (List ℕ)) (old new : Meter R) (most : ℕ) (text : List ℕ)
    : Type 0 where
  pub consumed : Consumes (remaining old.device) (remaining new.device) (take most text)
  pub counted : new.bytes ≡ count_after old.bytes (length (take most text))
  pub few_calls : new.calls ≤ old.calls + (length (take most text) + 1)

-- a writer took a text, and the bytes were counted; each call took at least one
pub record WritesWhole {W : Type 0} (contents : W → Option (List ℕ)) (old new : Meter W) (text : List ℕ) : Type 0 where
  pub appended : Appends (contents old.device) (contents new.device) text
  pub counted : new.bytes ≡ count_after old.bytes (length text)
  pub few_calls : new.calls ≤ old.calls + length text

-- a writer took a prefix of a text, but not all of it, and the bytes were counted;
-- each call except the last took at least one
pub record WritesPrefix {W : Type 0} (contents : W → Option (List ℕ)) (old new : Meter W) (text : List ℕ) : Type 0 where
  pub written : ℕ
  pub short : written < length text
  pub appended : Appends (contents old.device) (contents new.device) (take written text)
  pub counted : new.bytes ≡ count_after old.bytes written
  pub few_calls : new.calls ≤ old.calls + (written + 1)
