-- Names of workqueues can be printed.
use Rattle.std.proofs.Common.{◌≡◌, ℕ, zero, suc, ◌<◌, ◌&&◌, Bool, true, false, cond, List, [], ◌∷◌, length, map, get_or, refl, arith}
use Rattle.std.specs.Prelude.{nat_le, filter}
use Rattle.std.specs.List.{AllByRecursion, list_all}
use Rattle.std.proofs.lemmas.Bool.{leb-true, and_parts}
use Rattle.wq_text.specs.Lines.{LineView, lines_of}
use Rattle.wq_names.specs.Names.{called, is_name, is_printable, is_workqueue_line, name_on, names_of}
use Rattle.wq_repair_command.proofs.NamedLines.{IsShown}

above-printable : (bytes : List ℕ) → list_all is_printable bytes ≡ true → AllByRecursion (λ b. 31 < b) bytes
above-printable [] e = tt
above-printable (b ∷ bytes) e =
    let parts = and_parts (is_printable b) (list_all is_printable bytes) e in
    let low = and_parts (nat_le 32 b) (nat_le b 126) parts.0 in
    (omega (arith, leb-true 32 b low.0), above-printable bytes parts.1)

shown-none : IsShown []
shown-none = record { above = tt; short = omega arith }

shown-name : (bytes : List ℕ) → is_name bytes ≡ true → IsShown bytes
shown-name bytes e =
    let parts = and_parts (nat_le 1 (length bytes) && nat_le (length bytes) 63) (list_all is_printable bytes) e in
    let most = and_parts (nat_le 1 (length bytes)) (nat_le (length bytes) 63) parts.0 in
    record { above = above-printable bytes parts.1; short = leb-true (length bytes) 63 most.1 }

shown-name_on : (bytes : List ℕ) → IsShown (name_on bytes)
shown-name_on bytes = of (is_name (called bytes)) refl
  where
    of : (b : Bool) → is_name (called bytes) ≡ b → IsShown (cond b (called bytes) [])
    of true e = shown-name (called bytes) e
    of false e = shown-none

shown-at : (lines : List LineView) (q : ℕ) → IsShown (get_or (map (λ (line : LineView). name_on line.bytes) lines) q [])
shown-at [] q = shown-none
shown-at (line ∷ lines) zero = shown-name_on line.bytes
shown-at (line ∷ lines) (suc q) = shown-at lines q

-- the name of each workqueue
pub shown-names_of : (text : List ℕ) (q : ℕ) → IsShown (get_or (names_of text) q [])
shown-names_of text q = shown-at (filter is_workqueue_line (lines_of text)) q
