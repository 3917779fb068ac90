-- Texts of which a part was added.
use Rattle.std.proofs.Common.{◌≡◌, ◌<◌, ℕ, suc, List, ◌∷◌, ◌++◌, length, take, drop, min, sym, ap, subst, ◌∙◌, append_assoc, arith, ◌+◌, get_or, drop-cons}
use Rattle.std.specs.Prelude.{flat_map}
use Rattle.std.proofs.lemmas.Grind.{flat_map-append}
use Rattle.std.proofs.lemmas.List.{take-append-le, take_min, take-append-drop}
use Rattle.std.proofs.Math.Seq.{take-append-add}
use Rattle.wq_text.specs.LineText.{IsBegun}

-- a part of the first text was added
pub IsBegun-first : (first second old new : List ℕ) → IsBegun first old new → IsBegun (first ++ second) old new
IsBegun-first first second old new (n, part) =
    (min n (length first), part ∙ ap (λ (text : List ℕ). old ++ text) (sym (take-append-le (min n (length first)) first second (omega arith) ∙ take_min n first)))

-- the whole first text was added, and a part of the second
pub IsBegun-second : (first second old middle new : List ℕ) → middle ≡ old ++ first → IsBegun second middle new → IsBegun (first ++ second) old new
IsBegun-second first second old middle new whole (n, part) =
    (length first + n, part ∙ ap (λ (text : List ℕ). text ++ take n second) whole ∙ append_assoc old first (take n second) ∙ ap (λ (text : List ℕ). old ++ text) (sym (take-append-add first second n)))

-- the texts of the elements before the one at i were added whole, and a part of this one's
pub IsBegun-at : (text : ℕ → List ℕ) (xs : List ℕ) (i : ℕ) (old middle new : List ℕ) → i < length xs → middle ≡ old ++ flat_map text (take i xs) →
    IsBegun (text (get_or xs i 0)) middle new → IsBegun (flat_map text xs) old new
IsBegun-at text xs i old middle new inside whole part =
    let before = take i xs in
    let after = drop (suc i) xs in
    let parted : flat_map text before ++ (text (get_or xs i 0) ++ flat_map text after) ≡ flat_map text xs =
    sym (flat_map-append text before (get_or xs i 0 ∷ after))
    ∙ ap (λ (rest : List ℕ). flat_map text (before ++ rest)) (sym (drop-cons xs i 0 inside)) ∙ ap (flat_map text) (take-append-drop i xs) in
    subst (λ (all : List ℕ). IsBegun all old new) parted
    (IsBegun-second (flat_map text before) (text (get_or xs i 0) ++ flat_map text after) old middle new whole (IsBegun-first (text (get_or xs i 0)) (flat_map text after) middle new part))
