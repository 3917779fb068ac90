-- Diagnoses: what standard error says about a refused text.
use Rattle.std.specs.Prelude.{◌≡◌, ◌⊎◌, ◌≤◌, ◌<◌, ℕ, List, [], ◌∷◌, ◌++◌, decimal, flat_map, map}
use Rattle.std.specs.List.{All}
use Rattle.wq_findings.specs.Shown.{place_text, shown}
use Rattle.wq_names.specs.Messages.{answered}

-- lines as they are shown
abbrev pub shown_lines : List (List ℕ) → List ℕ
shown_lines lines = flat_map (λ line. map shown line ++ (10 ∷ [])) lines

-- the first line: the file, the place in it, what is wrong, and the word of the
-- answer (`refused` or `no`) with its number
abbrev pub head : List ℕ → List ℕ → List ℕ → List ℕ → ℕ → List ℕ
head file place what word code = answered file (place_text place) what word (decimal code)

-- a place has this line, and maybe a column; with line 0, which means no line, it has neither
abbrev pub IsOnLine : ℕ → List ℕ → Type 0
IsOnLine line place = ((line ≡ 0) × (place ≡ []))
    ⊎ ((0 < line) × ((place ≡ line ∷ []) ⊎ ((column : ℕ) × (place ≡ line ∷ column ∷ []))))

-- what a terminal shows as it is: printable ASCII and line feeds
abbrev pub IsPlain : List ℕ → Type 0
IsPlain text = All (λ byte. (byte ≡ 10) ⊎ ((32 ≤ byte) × (byte ≤ 126))) text

-- a diagnosis of an answer: the first line has its file, its line, its word and its number; and it is plain
pub record IsDiagnosis (file word : List ℕ) (code line : ℕ) (text : List ℕ) : Type 0 where
  pub place : List ℕ
  pub what : List ℕ
  pub more : List (List ℕ)
  pub on_line : IsOnLine line place
  pub lines : text ≡ shown_lines (head file place what word code ∷ more)
  pub plain : IsPlain text
