-- Lines as they are printed.
use Rattle.std.specs.Prelude.{◌≡◌, ℕ, List, [], ◌∷◌, ◌++◌, flat_map, take}

-- a word after one space
abbrev pub spaced : List ℕ → List ℕ
spaced word = 32 ∷ word

-- the words with one space between them, and a line feed after the last
abbrev pub line_text : List (List ℕ) → List ℕ
line_text [] = 10 ∷ []
line_text (word ∷ words) = word ++ (flat_map spaced words ++ (10 ∷ []))

-- the old bytes are still there, followed by the first bytes of `text`: none, some or all of them
abbrev pub IsBegun : List ℕ → List ℕ → List ℕ → Type 0
IsBegun text old new = (n : ℕ) × (new ≡ old ++ take n text)
