-- Short names: their first four bytes and their last four tell them apart.
use Rattle.std.proofs.Common.{◌≡◌, ◌≤◌, ℕ, ◌+◌, ◌-◌, true, leb, List, ◌++◌, length, take, drop, sym, ap, ◌∙◌, arith}
use Rattle.std.specs.Prelude.{bytes_eq}
use Rattle.std.specs.Bool.{Decides}
use lib.Seq.{drop-drop}
use Rattle.std.proofs.lemmas.Bool.{leb-true, and_parts}
use Rattle.std.proofs.lemmas.List.{take-append-drop}
use Rattle.std.proofs.lemmas.Bool.Decides.{same_from_decides}
use Rattle.std.proofs.lemmas.Slice.Eq.{bytes_eq-Decides}
use Rattle.wq_items.specs.Short.{is_short, last_four}

-- what follows the first four bytes is among the last four
rest-of_last : (a : List ℕ) → 4 ≤ length a → length a ≤ 8 → drop 4 a ≡ drop (8 - length a) (last_four a)
rest-of_last a long short = ap (λ (n : ℕ). drop n a) {x = 4} {y = length a - 4 + (8 - length a)} (omega arith) ∙ sym (drop-drop (8 - length a) (length a - 4) a)

same-from_ends : (a b : List ℕ) → length a ≡ length b → 4 ≤ length a → length a ≤ 8 → take 4 a ≡ take 4 b → last_four a ≡ last_four b → a ≡ b
same-from_ends a b lengths long short first last =
    let rest : drop 4 a ≡ drop 4 b =
    rest-of_last a long short ∙ ap (λ (l : List ℕ). drop (8 - length a) l) last ∙ ap (λ (n : ℕ). drop (8 - n) (last_four b)) lengths
    ∙ sym (rest-of_last b (omega (arith, lengths, long)) (omega (arith, lengths, short))) in
    sym (take-append-drop 4 a) ∙ ap (λ (x : List ℕ). x ++ drop 4 a) first ∙ ap (λ (y : List ℕ). take 4 b ++ y) rest ∙ take-append-drop 4 b

short-bounds : (a : List ℕ) → is_short a ≡ true → (4 ≤ length a) × (length a ≤ 8)
short-bounds a short =
    let both : (leb 4 (length a) ≡ true) × (leb (length a) 8 ≡ true) = and_parts (leb 4 (length a)) (leb (length a) 8) short in
    (leb-true 4 (length a) both.0, leb-true (length a) 8 both.1)

-- two short names of one length with the same first four bytes are the same where their last four are
pub bytes_eq-last_four : (a b : List ℕ) → length a ≡ length b → is_short a ≡ true → take 4 a ≡ take 4 b → bytes_eq (last_four a) (last_four b) ≡ bytes_eq a b
bytes_eq-last_four a b lengths short first =
    let last : Decides (bytes_eq (last_four a) (last_four b)) (last_four a ≡ last_four b) = bytes_eq-Decides (last_four a) (last_four b) in
    let same : Decides (bytes_eq (last_four a) (last_four b)) (a ≡ b) =
    (λ e. same-from_ends a b lengths (short-bounds a short).0 (short-bounds a short).1 first (last.0 e), λ (e : a ≡ b). last.1 (ap last_four e)) in
    same_from_decides _ _ same (bytes_eq-Decides a b)
