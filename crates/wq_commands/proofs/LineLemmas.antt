-- Lines of words, as they grow word by word.
use Rattle.std.proofs.Common.{◌≡◌, ℕ, List, [], ◌∷◌, ◌++◌, sym, ap, ◌∙◌, append_assoc, append-nil}
use Rattle.std.specs.Prelude.{flat_map}
use Rattle.wq_text.specs.LineText.{spaced, line_text}

-- two words after others
pub spaced-two : (out a b : List ℕ) → (out ++ spaced a) ++ spaced b ≡ out ++ flat_map spaced (a ∷ b ∷ [])
spaced-two out a b = append_assoc out (spaced a) (spaced b) ∙ ap (λ (word : List ℕ). out ++ (spaced a ++ word)) (sym (append-nil (spaced b)))

-- two words and more
pub line_text-words : (first second : List ℕ) (words : List (List ℕ)) → ((first ++ spaced second) ++ flat_map spaced words) ++ (10 ∷ []) ≡ line_text (first ∷ second ∷ words)
line_text-words first second words =
    let end : List ℕ = 10 ∷ [] in
    append_assoc (first ++ spaced second) (flat_map spaced words) end ∙ append_assoc first (spaced second) (flat_map spaced words ++ end)
    ∙ ap (λ (l : List ℕ). first ++ l) (sym (append_assoc (spaced second) (flat_map spaced words) end))
