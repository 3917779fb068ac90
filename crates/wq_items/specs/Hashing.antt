-- Hashed names, and how they are found by their hashes.
use Rattle.std.specs.Prelude.{◌≡◌, ◌≢◌, ℕ, ◌+◌, ◌-◌, ◌<◌, ◌≤◌, List, length, map, fold, slice_index, AllPairs}
use Rattle.std.specs.List.{All}
use Rattle.std.specs.Int.Bits.{bit_and}
use Rattle.std.specs.Hash as fed
use Rattle.std.specs.Hash.FoldHasher as folding
use Rattle.wq_items.specs.declared.hashing.Name.{Name}
use Rattle.wq_items.specs.declared.hashing.Seeded.{Seeded}
use Rattle.wq_items.specs.Short.{taken}
use Rattle.wq_items.specs.Table.{max_items}

-- the hash of a name: the hasher takes the seed, the name, and the seed again
abbrev pub hash_of : Seeded → List ℕ → ℕ
hash_of hasher name =
    folding.finish (fold folding.write (fold folding.write hasher.begun (taken name)) (fed.u64 hasher.seed))

-- each name brings its own hash
abbrev pub AreHashed : Seeded → List Name → Type 0
AreHashed hasher names = All (λ (n : Name). n.hash ≡ hash_of hasher n.bytes.now) names

-- the names without their hashes
abbrev pub names_of : List Name → List (List ℕ)
names_of names = map (λ (n : Name). n.bytes.now) names

-- the keys of the names, in turn, if the greatest key is `most`: some bits of their hashes
abbrev pub keys_of : ℕ → List Name → List ℕ
keys_of most names = map (λ (n : Name). bit_and n.hash most) names

-- `end` is the place after the last one of key k before the place `bound`, or 0 if there is none
pub record EndsAfterLast (keys : List ℕ) (k bound end : ℕ) : Type 0 where
  pub within : end ≤ bound
  pub last : (p : ℕ) → p < bound → slice_index keys p ≡ k → p < end
  pub of_key : (p : ℕ) → end ≡ p + 1 → slice_index keys p ≡ k

-- for the first n places: for each key the last place with it, and for each place the previous one with the same key
pub record AreLinked (keys : List ℕ) (n : ℕ) (lasts befores : List ℕ) : Type 0 where
  pub one_each : length befores ≡ n
  pub lasts_lead : (k : ℕ) → k < length lasts → EndsAfterLast keys k n (slice_index lasts k)
  pub befores_lead : (p : ℕ) → p < n → EndsAfterLast keys (slice_index keys p) p (slice_index befores p)

-- at most 4,096 different names, which bring their hashes, and their places by key; if there is a name, there is a key
pub record AreFound (hasher : Seeded) (names : List Name) (lasts befores : List ℕ) : Type 0 where
  pub few : length names ≤ max_items
  pub hashed : AreHashed hasher names
  pub distinct : AllPairs (λ (a b : List ℕ). a ≢ b) (names_of names)
  pub keyed : 0 < length names → 0 < length lasts
  pub linked : AreLinked (keys_of (length lasts - 1) names) (length names) lasts befores
