-- What the limits find in the lines of a text.
use Rattle.std.proofs.Common.{◌≡◌, ℕ, zero, suc, ◌+◌, ◌<◌, ◌≤◌, Bool, true, false, ltb, List, [], ◌∷◌, length, get_or, Option, Some, None, refl, ap, subst, arith, option_map}
use Rattle.std.specs.List.{All, Any}
use Rattle.std.proofs.lemmas.Bool.{ltb-true, ltb-false, le-ltb}
use Rattle.std.proofs.lemmas.List.Elements.{All-nil, All-cons, All-head, All-tail, All-weaker}
use Rattle.wq_text.specs.declared.text.TextError.{TextError}
use Rattle.wq_text.specs.declared.text.TextError.TheVariants.{LineTooLong}
use Rattle.wq_text.specs.Lines.{Piece, LineView, taken, line_bytes, lines_from, lines_of, pieces}
use Rattle.wq_text.specs.Limits.{first_long_line, limit_fault}

-- the fault of the first line that is too long
abbrev long_fault : ℕ → List LineView → Option TextError
long_fault m lines = option_map (λ (line : LineView). LineTooLong line.no) (first_long_line m lines)

abbrev pub IsShort : ℕ → LineView → Type 0
IsShort m line = length line.bytes ≤ m

-- the line has this number, and is too long
abbrev pub IsLongAt : ℕ → ℕ → LineView → Type 0
IsLongAt m n line = (line.no ≡ n) × (m < length line.bytes)

-- the line isn't before this one, or it is short
abbrev pub IsShortBelow : ℕ → ℕ → LineView → Type 0
IsShortBelow m n line = line.no < n → length line.bytes ≤ m

-- ---- no line is too long

short-step : (m : ℕ) (x : LineView) (xs : List LineView) (long : Bool) → ltb m (length x.bytes) ≡ long → (long_fault m xs ≡ None → All (IsShort m) xs)
    → long_fault m (x ∷ xs) ≡ None → All (IsShort m) (x ∷ xs)
short-step m x xs true e others h = absurd (let found = rw e at h in cc)
short-step m x xs false e others h = All-cons (IsShort m) x xs (ltb-false m (length x.bytes) e) (others (rw e at h))

IsShort-long_fault : (m : ℕ) (lines : List LineView) → long_fault m lines ≡ None → All (IsShort m) lines
IsShort-long_fault m [] h = All-nil (IsShort m)
IsShort-long_fault m (x ∷ xs) h = short-step m x xs (ltb m (length x.bytes)) refl (IsShort-long_fault m xs) h

pub first_long_line-IsShort : (m : ℕ) (lines : List LineView) → All (IsShort m) lines → first_long_line m lines ≡ None
first_long_line-IsShort m [] h = refl
first_long_line-IsShort m (x ∷ xs) h =
    let short : ltb m (length x.bytes) ≡ false = le-ltb m (length x.bytes) (All-head (IsShort m) x xs h) in
    rw short (first_long_line-IsShort m xs (All-tail (IsShort m) x xs h))

long_fault-IsShort : (m : ℕ) (lines : List LineView) → All (IsShort m) lines → long_fault m lines ≡ None
long_fault-IsShort m lines h = ap (option_map (λ (line : LineView). LineTooLong line.no)) (first_long_line-IsShort m lines h)

-- ---- one is, and no earlier one

abbrev NoFrom : ℕ → LineView → Type 0
NoFrom n line = n ≤ line.no

NoFrom-lines_from : (n start : ℕ) (ps : List Piece) → All (NoFrom n) (lines_from n start ps)
NoFrom-lines_from n start [] = All-nil (NoFrom n)
NoFrom-lines_from n start (p ∷ ps) =
    All-cons (NoFrom n) (record { no = n; start = start; bytes = line_bytes p }) (lines_from (n + 1) (start + taken p) ps) (omega arith)
    (All-weaker (NoFrom (n + 1)) (NoFrom n) (λ line h. omega arith) (lines_from (n + 1) (start + taken p) ps) (NoFrom-lines_from (n + 1) (start + taken p) ps))

pub Any-later : {X : Type 0} (P : X → Type 0) (x : X) (xs : List X) → Any P xs → Any P (x ∷ xs)
Any-later P x xs (k, y, lt, at, h) = (suc k, y, omega arith, at, h)

-- the first line that is too long has this number
abbrev pub IsFirstLong : ℕ → ℕ → List LineView → Type 0
IsFirstLong m n lines = Any (IsLongAt m n) lines × All (IsShortBelow m n) lines

first-step : (m n start k : ℕ) (p : Piece) (ps : List Piece) (long : Bool) → ltb m (length (line_bytes p)) ≡ long
    → (long_fault m (lines_from (n + 1) (start + taken p) ps) ≡ Some (LineTooLong k) → IsFirstLong m k (lines_from (n + 1) (start + taken p) ps))
    → long_fault m (lines_from n start (p ∷ ps)) ≡ Some (LineTooLong k) → IsFirstLong m k (lines_from n start (p ∷ ps))
first-step m n start k p ps true e others h =
    let line : LineView = record { no = n; start = start; bytes = line_bytes p } in
    let lines = lines_from (n + 1) (start + taken p) ps in
    let here : n ≡ k = (let found = rw e at h in cc) in
    let one : Any (IsLongAt m k) (line ∷ lines) = (0, line, omega arith, refl, (here, ltb-true m (length (line_bytes p)) e)) in (
      one,
      All-cons (IsShortBelow m k) line lines (λ lt. absurd (omega arith))
          (All-weaker (NoFrom (n + 1)) (IsShortBelow m k) (λ next from lt. absurd (omega arith)) lines (NoFrom-lines_from (n + 1) (start + taken p) ps)),
    )
first-step m n start k p ps false e others h =
    let line : LineView = record { no = n; start = start; bytes = line_bytes p } in
    let lines = lines_from (n + 1) (start + taken p) ps in
    let first = others (rw e at h) in
    (Any-later (IsLongAt m k) line lines first.0, All-cons (IsShortBelow m k) line lines (λ lt. ltb-false m (length (line_bytes p)) e) first.1)

IsFirstLong-long_fault : (m n start k : ℕ) (ps : List Piece) → long_fault m (lines_from n start ps) ≡ Some (LineTooLong k) → IsFirstLong m k (lines_from n start ps)
IsFirstLong-long_fault m n start k [] h = absurd cc
IsFirstLong-long_fault m n start k (p ∷ ps) h = first-step m n start k p ps (ltb m (length (line_bytes p))) refl (IsFirstLong-long_fault m (n + 1) (start + taken p) k ps) h

-- the number of a line is no less than that of the first
from_any : (m n k : ℕ) (lines : List LineView) → All (NoFrom n) lines → Any (IsLongAt m k) lines → n ≤ k
from_any m n k lines from (i, y, lt, at, h) =
    let there : n ≤ y.no = subst (NoFrom n) at (from i y lt) in
    omega (arith, h.0)

any_rest_at : (m k i : ℕ) (x y : LineView) (xs : List LineView) → length x.bytes ≤ m → i < length (x ∷ xs) → get_or (x ∷ xs) i y ≡ y → IsLongAt m k y → Any (IsLongAt m k) xs
any_rest_at m k zero x y xs short lt at h =
    let there : length y.bytes ≤ m = subst (IsShort m) at short in
    absurd (omega (arith, h.1))
any_rest_at m k (suc i) x y xs short lt at h = (i, y, omega arith, at, h)

any_rest : (m k : ℕ) (x : LineView) (xs : List LineView) → length x.bytes ≤ m → Any (IsLongAt m k) (x ∷ xs) → Any (IsLongAt m k) xs
any_rest m k x xs short (i, y, lt, at, h) = any_rest_at m k i x y xs short lt at h

same_number : (n k : ℕ) → n ≤ k → (n < k → ⊥) → n ≡ k
same_number n k from last = grind arith

fault-step : (m n start k : ℕ) (p : Piece) (ps : List Piece) (long : Bool) → ltb m (length (line_bytes p)) ≡ long
    → (IsFirstLong m k (lines_from (n + 1) (start + taken p) ps) → long_fault m (lines_from (n + 1) (start + taken p) ps) ≡ Some (LineTooLong k))
    → IsFirstLong m k (lines_from n start (p ∷ ps)) → long_fault m (lines_from n start (p ∷ ps)) ≡ Some (LineTooLong k)
fault-step m n start k p ps true e others first =
    let line : LineView = record { no = n; start = start; bytes = line_bytes p } in
    let lines = lines_from (n + 1) (start + taken p) ps in
    let from : n ≤ k = from_any m n k (line ∷ lines) (NoFrom-lines_from n start (p ∷ ps)) first.0 in
    let long : m < length (line_bytes p) = ltb-true m (length (line_bytes p)) e in
    let last : n < k → ⊥ = λ lt. (let short : length (line_bytes p) ≤ m = All-head (IsShortBelow m k) line lines first.1 lt in absurd (omega arith)) in
    let here : n ≡ k = same_number n k from last in
    rw e (ap (λ (j : ℕ). Some (LineTooLong j)) here)
fault-step m n start k p ps false e others first =
    let line : LineView = record { no = n; start = start; bytes = line_bytes p } in
    let lines = lines_from (n + 1) (start + taken p) ps in
    rw e (others (any_rest m k line lines (ltb-false m (length (line_bytes p)) e) first.0, All-tail (IsShortBelow m k) line lines first.1))

long_fault-IsFirstLong : (m n start k : ℕ) (ps : List Piece) → IsFirstLong m k (lines_from n start ps) → long_fault m (lines_from n start ps) ≡ Some (LineTooLong k)
long_fault-IsFirstLong m n start k [] ((i, y, lt, at, h), short) = absurd (omega arith)
long_fault-IsFirstLong m n start k (p ∷ ps) first =
    fault-step m n start k p ps (ltb m (length (line_bytes p))) refl (long_fault-IsFirstLong m (n + 1) (start + taken p) k ps) first

-- ---- the fault of a text

module _ (max_text max_line : ℕ) (text : List ℕ) where
  fits-step : (long : Bool) → ltb max_text (length text) ≡ long → limit_fault max_text max_line text ≡ None → (length text ≤ max_text) × All (IsShort max_line) (lines_of text)
  fits-step true e h = absurd (let found = rw e at h in cc)
  fits-step false e h = (ltb-false max_text (length text) e, IsShort-long_fault max_line (lines_of text) (rw e at h))

  pub fits-limit_fault : limit_fault max_text max_line text ≡ None → (length text ≤ max_text) × All (IsShort max_line) (lines_of text)
  fits-limit_fault = fits-step (ltb max_text (length text)) refl

  pub limit_fault-fits : (length text ≤ max_text) × All (IsShort max_line) (lines_of text) → limit_fault max_text max_line text ≡ None
  limit_fault-fits h =
      let short : ltb max_text (length text) ≡ false = le-ltb max_text (length text) h.0 in
      rw short (long_fault-IsShort max_line (lines_of text) h.1)

  long_line-step : (n : ℕ) (long : Bool) → ltb max_text (length text) ≡ long → limit_fault max_text max_line text ≡ Some (LineTooLong n)
      → (length text ≤ max_text) × IsFirstLong max_line n (lines_of text)
  long_line-step n true e h = absurd (let found = rw e at h in cc)
  long_line-step n false e h = (ltb-false max_text (length text) e, IsFirstLong-long_fault max_line 1 0 n (pieces text) (rw e at h))

  pub long_line-limit_fault : (n : ℕ) → limit_fault max_text max_line text ≡ Some (LineTooLong n) → (length text ≤ max_text) × IsFirstLong max_line n (lines_of text)
  long_line-limit_fault n = long_line-step n (ltb max_text (length text)) refl

  pub limit_fault-long_line : (n : ℕ) → (length text ≤ max_text) × IsFirstLong max_line n (lines_of text) → limit_fault max_text max_line text ≡ Some (LineTooLong n)
  limit_fault-long_line n h =
      let short : ltb max_text (length text) ≡ false = le-ltb max_text (length text) h.0 in
      rw short (long_fault-IsFirstLong max_line 1 0 n (pieces text) h.1)
