-- The lines of a diagnosis: they are plain, and so they are one.
use Rattle.std.proofs.Common.{◌≡◌, ◌⊎◌, inl, inr, ℕ, ◌≤◌, Bool, true, false, List, [], ◌∷◌, ◌++◌, map, refl, sym, subst, arith}
use Rattle.std.specs.Prelude.{if◌then◌else◌, ◌==◌, ◌&&◌, ◌||◌, nat_le}
use Rattle.std.proofs.lemmas.Bool.{leb-true}
use Rattle.std.proofs.lemmas.List.Elements.{All-append, All-cons, All-nil}
use Rattle.wq_findings.specs.Shown.{shown}
use Rattle.wq_diagnosis.specs.Diagnosis.{shown_lines, head, IsDiagnosis, IsOnLine, IsPlain}
use Rattle.wq_diagnosis.specs.Reasons.{IsUnlawfulText, unlawful_head}

-- ---- what is shown is plain

abbrev Plain : ℕ → Type 0
Plain byte = (byte ≡ 10) ⊎ ((32 ≤ byte) × (byte ≤ 126))

plain-shown : (byte : ℕ) → Plain (shown byte)
plain-shown byte = go (byte == 9) (nat_le 32 byte) (nat_le byte 126) refl refl where
  go : (tab low high : Bool) → nat_le 32 byte ≡ low → nat_le byte 126 ≡ high → Plain (if tab then 32 else (if (tab || (low && high)) then byte else 63))
  go true low high is_low is_high = inr (omega (arith), omega (arith))
  go false true true is_low is_high = inr (leb-true 32 byte is_low, leb-true byte 126 is_high)
  go false true false is_low is_high = inr (omega (arith), omega (arith))
  go false false high is_low is_high = inr (omega (arith), omega (arith))

plain-line : (line : List ℕ) → IsPlain (map shown line)
plain-line [] = All-nil Plain
plain-line (byte ∷ line) = All-cons Plain (shown byte) (map shown line) (plain-shown byte) (plain-line line)

pub plain-lines : (lines : List (List ℕ)) → IsPlain (shown_lines lines)
plain-lines [] = All-nil Plain
plain-lines (line ∷ lines) =
    All-append Plain (map shown line ++ (10 ∷ [])) (shown_lines lines)
    (All-append Plain (map shown line) (10 ∷ []) (plain-line line) (All-cons Plain 10 [] (inl refl) (All-nil Plain))) (plain-lines lines)

-- lines that begin with that one are a diagnosis
pub diagnosis_of : (file word what : List ℕ) (code line : ℕ) (place : List ℕ) (more : List (List ℕ)) (text : List ℕ)
    → IsOnLine line place → text ≡ shown_lines (head file place what word code ∷ more) → IsDiagnosis file word code line text
diagnosis_of file word what code line place more text on_line lines = record {
  place = place;
  what = what;
  more = more;
  on_line = on_line;
  lines = lines;
  plain = subst IsPlain (sym lines) (plain-lines (head file place what word code ∷ more));
}

-- lines that begin with that one are said of a step that isn't lawful
pub unlawful_of : (file what : List ℕ) (n : ℕ) (place : List ℕ) (more : List (List ℕ)) (text : List ℕ)
    → text ≡ shown_lines (unlawful_head file place what n ∷ more) → IsUnlawfulText file what n text
unlawful_of file what n place more text lines = record {
  place = place;
  more = more;
  lines = lines;
  plain = subst IsPlain (sym lines) (plain-lines (unlawful_head file place what n ∷ more));
}
