-- What is printed piece by piece.
use Rattle.std.proofs.Common.{◌≡◌, ℕ, ◌+◌, ◌<◌, List, [], ◌∷◌, ◌++◌, length, take, get_or, refl, sym, ap, ◌∙◌, append_assoc, append-nil}
use Rattle.std.specs.Prelude.{flat_map}
use Rattle.std.proofs.lemmas.List.{take_more}
use Rattle.std.proofs.lemmas.Grind.{flat_map-append}
use Rattle.wq_dot.specs.Drawing.{ended}

-- one more piece
pub put_more : (out a b c now new : List ℕ) → now ≡ out ++ a → new ≡ now ++ b → b ≡ c → new ≡ out ++ (a ++ c)
put_more out a b c now new so_far put is = put ∙ ap (λ (o : List ℕ). o ++ b) so_far ∙ append_assoc out a b ∙ ap (λ (l : List ℕ). out ++ (a ++ l)) is

-- the piece that ends a line
pub put_end : (out a b now new : List ℕ) → now ≡ out ++ a → new ≡ now ++ ended b → new ≡ out ++ ended (a ++ b)
put_end out a b now new so_far put = put_more out a (ended b) (ended b) now new so_far put refl ∙ ap (λ (l : List ℕ). out ++ l) (sym (append_assoc a b (10 ∷ [])))

-- one more line, after others
pub put_line : (out a b now new : List ℕ) → now ≡ out ++ a → new ≡ now ++ b → new ≡ out ++ (a ++ b)
put_line out a b now new so_far put = put_more out a b b now new so_far put refl
