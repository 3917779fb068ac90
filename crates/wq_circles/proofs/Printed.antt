-- Lines of a components text, as they grow word by word.
use Rattle.std.proofs.Common.{◌≡◌, ℕ, List, [], ◌∷◌, ◌++◌, sym, ap, ◌∙◌, append_assoc, append-nil}
use Rattle.wq_text.specs.LineText.{spaced, line_text}

-- a line of two words, which is written word by word
line_text-two : (out w a : List ℕ) → ((out ++ w) ++ spaced a) ++ (10 ∷ []) ≡ out ++ line_text (w ∷ a ∷ [])
line_text-two out w a =
    let end : List ℕ = 10 ∷ [] in
    append_assoc (out ++ w) (spaced a) end ∙ append_assoc out w (spaced a ++ end) ∙ ap (λ (l : List ℕ). out ++ (w ++ (l ++ end))) (sym (append-nil (spaced a)))

pub line_text-written : (out w a first second third : List ℕ) → first ≡ out ++ w → second ≡ first ++ spaced a → third ≡ second ++ (10 ∷ []) → third ≡ out ++ line_text (w ∷ a ∷ [])
line_text-written out w a first second third one two three =
    three ∙ ap (λ (o : List ℕ). o ++ (10 ∷ [])) (two ∙ ap (λ (o : List ℕ). o ++ spaced a) one) ∙ line_text-two out w a
