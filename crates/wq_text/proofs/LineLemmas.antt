-- What a line keeps of its piece.
use Rattle.std.proofs.Common.{◌≡◌, ◌≢◌, ℕ, ◌-◌, ◌≤◌, Bool, true, false, eqb, List, [], ◌∷◌, ◌++◌, length, get_or, take, drop, refl, sym, ap, ◌∙◌, arith, append-nil, length-append}
use Rattle.std.specs.Str.Lines.{strip_carriage_return}
use Rattle.std.proofs.lemmas.Bool.{eq-eqb, ne_eqb}
use Rattle.std.proofs.lemmas.List.{take-append-drop}
use Rattle.std.proofs.Math.Seq.{get_or-append_seam, take-append_seam}
use Rattle.wq_text.specs.Lines.{Piece, line_bytes}

-- the last of some bytes that end with this one
last_byte : (bs : List ℕ) (b : ℕ) → get_or (bs ++ (b ∷ [])) (length (bs ++ (b ∷ [])) - 1) 0 ≡ b
last_byte bs b =
    let place : length (bs ++ (b ∷ [])) - 1 ≡ length bs = omega (arith, length-append bs (b ∷ [])) in
    ap (λ k. get_or (bs ++ (b ∷ [])) k 0) place ∙ get_or-append_seam bs b [] 0

pub strip_carriage_return-return : (bs : List ℕ) → strip_carriage_return (bs ++ (13 ∷ [])) ≡ bs
strip_carriage_return-return bs =
    let place : length (bs ++ (13 ∷ [])) - 1 ≡ length bs = omega (arith, length-append bs (13 ∷ [])) in
    let last : eqb (get_or (bs ++ (13 ∷ [])) (length (bs ++ (13 ∷ [])) - 1) 0) 13 ≡ true = eq-eqb _ 13 (last_byte bs 13) in
    rw last (ap (λ k. take k (bs ++ (13 ∷ []))) place ∙ take-append_seam bs (13 ∷ []))

pub strip_carriage_return-other : (bs : List ℕ) (b : ℕ) → b ≢ 13 → strip_carriage_return (bs ++ (b ∷ [])) ≡ bs ++ (b ∷ [])
strip_carriage_return-other bs b ne =
    let last : eqb (get_or (bs ++ (b ∷ [])) (length (bs ++ (b ∷ [])) - 1) 0) 13 ≡ false = ne_eqb _ 13 (λ e. ne (sym (last_byte bs b) ∙ e)) in
    rw last refl

-- what is dropped comes after what is kept
strip_front : (bs : List ℕ) (cr : Bool) → eqb (get_or bs (length bs - 1) 0) 13 ≡ cr → (dropped : List ℕ) × (bs ≡ strip_carriage_return bs ++ dropped)
strip_front bs true e = (drop (length bs - 1) bs, rw e (sym (take-append-drop (length bs - 1) bs)))
strip_front bs false e = ([], rw e (sym (append-nil bs)))

line_front : (bs : List ℕ) (t : Bool) → (dropped : List ℕ) × (bs ≡ line_bytes (record { bytes = bs; ended = t }) ++ dropped)
line_front bs true = strip_front bs (eqb (get_or bs (length bs - 1) 0) 13) refl
line_front bs false = ([], sym (append-nil bs))

pub line_bytes-front : (p : Piece) → (dropped : List ℕ) × (p.bytes ≡ line_bytes p ++ dropped)
line_bytes-front p = line_front p.bytes p.ended

pub length-line_bytes-le : (p : Piece) → length (line_bytes p) ≤ length p.bytes
length-line_bytes-le p =
    let front = line_bytes-front p in
    omega (arith, ap length front.1, length-append (line_bytes p) front.0)
