-- How the bytes of a text and a place in it are shown.
use Rattle.std.specs.Prelude.{if◌then◌else◌, ◌==◌, ℕ, List, ◌∷◌, decimal, flat_map}
use Rattle.wq_decl.specs.Reading.{is_text_byte}

-- a byte as it is shown: printable ASCII as it is, a TAB as a space, any other byte as `?`
abbrev pub shown : ℕ → ℕ
shown byte = if byte == 9 then 32 else (if is_text_byte byte then byte else 63)

-- numbers, each after a colon
abbrev pub place_text : List ℕ → List ℕ
place_text place = flat_map (λ number. 58 ∷ decimal number) place
