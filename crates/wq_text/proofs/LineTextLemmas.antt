-- Lines as they grow word by word.
use Rattle.std.proofs.Common.{◌≡◌, ℕ, List, [], ◌∷◌, ◌++◌, sym, ap, ◌∙◌, append_assoc, append-nil}
use Rattle.wq_text.specs.LineText.{spaced, line_text}

-- a line of three words
pub line_text-three : (out w a b : List ℕ) → (((out ++ w) ++ spaced a) ++ spaced b) ++ (10 ∷ []) ≡ out ++ line_text (w ∷ a ∷ b ∷ [])
line_text-three out w a b =
    let end : List ℕ = 10 ∷ [] in
    append_assoc ((out ++ w) ++ spaced a) (spaced b) end ∙ append_assoc (out ++ w) (spaced a) (spaced b ++ end) ∙ append_assoc out w (spaced a ++ (spaced b ++ end))
    ∙ ap (λ (ls : List ℕ). out ++ (w ++ ls)) (sym (append_assoc (spaced a) (spaced b ++ []) end ∙ ap (λ (l : List ℕ). spaced a ++ (l ++ end)) (append-nil (spaced b))))
