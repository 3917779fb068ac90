-- What a text begins with, as pieces.
use Rattle.std.proofs.Common.{◌≡◌, ℕ, zero, suc, ◌+◌, ◌<◌, Bool, true, false, eqb, List, [], ◌∷◌, ◌++◌, length, get_or, take, drop, Some, None, refl, sym, ap, subst, ◌∙◌, arith}
use Rattle.std.specs.List.{AllByRecursion}
use Rattle.std.proofs.lemmas.Bool.{eqb-true}
use Rattle.std.proofs.lemmas.List.{take-append-drop, take_all}
use Rattle.std.proofs.Math.Seq.{drop-cons}
use Rattle.memchr.specs.Find.{IsFirstByte, is_byte}
use Rattle.wq_text.specs.Lines.{pieces}

-- no byte is a line feed
abbrev pub NoFeed : List ℕ → Type 0
NoFeed bs = AllByRecursion (λ b. eqb b 10 ≡ false) bs

pub is_false : (b : Bool) → (b ≡ true → ⊥) → b ≡ false
is_false true h = absurd (h refl)
is_false false h = refl

pub NoFeed-take : (xs : List ℕ) (k : ℕ) → ((j : ℕ) → j < k → j < length xs → eqb (get_or xs j 0) 10 ≡ true → ⊥) → NoFeed (take k xs)
NoFeed-take [] zero h = tt
NoFeed-take [] (suc k) h = tt
NoFeed-take (x ∷ xs) zero h = tt
NoFeed-take (x ∷ xs) (suc k) h =
    (is_false (eqb x 10) (h 0 (omega arith) (omega arith)), NoFeed-take xs k (λ j lt len. h (suc j) (omega arith) (omega arith)))

pub pieces-feed : (xs rest : List ℕ) → NoFeed xs → pieces (xs ++ (10 ∷ rest)) ≡ record { bytes = xs; ended = true } ∷ pieces rest
pieces-feed [] rest h = refl
pieces-feed (x ∷ xs) rest h = rw (h.0, pieces-feed xs rest h.1) refl

pub pieces-last : (x : ℕ) (xs : List ℕ) → NoFeed (x ∷ xs) → pieces (x ∷ xs) ≡ record { bytes = x ∷ xs; ended = false } ∷ []
pieces-last x [] h = rw h.0 refl
pieces-last x (y ∷ ys) h = rw (h.0, pieces-last y ys h.1) refl

pub pieces-whole : (bs : List ℕ) → 0 < length bs → NoFeed bs → pieces bs ≡ record { bytes = bs; ended = false } ∷ []
pieces-whole [] h f = absurd (omega arith)
pieces-whole (x ∷ xs) h f = pieces-last x xs f

-- the bytes round a line feed
pub split_at_feed : (bs : List ℕ) (k : ℕ) → k < length bs → get_or bs k 0 ≡ 10 → bs ≡ take k bs ++ (10 ∷ drop (k + 1) bs)
split_at_feed bs k within feed =
    let tail : drop k bs ≡ 10 ∷ drop (k + 1) bs = drop-cons bs k 0 within ∙ ap (λ (x : ℕ). x ∷ drop (suc k) bs) feed ∙ (let e : suc k ≡ k + 1 = omega arith in ap (λ (j : ℕ). 10 ∷ drop j bs) e) in
    sym (take-append-drop k bs) ∙ ap (λ (ys : List ℕ). take k bs ++ ys) tail

-- the pieces, by where the first line feed is
pub pieces-at_feed : (bs : List ℕ) (k : ℕ) → IsFirstByte (is_byte 10) bs (Some k) → pieces bs ≡ record { bytes = take k bs; ended = true } ∷ pieces (drop (k + 1) bs)
pieces-at_feed bs k h =
    let clear : NoFeed (take k bs) = NoFeed-take bs k (λ j lt len e. h.0.before j (omega arith) lt e) in
    ap pieces (split_at_feed bs k h.0.high (eqb-true _ _ h.1)) ∙ pieces-feed (take k bs) (drop (k + 1) bs) clear

-- no line feed is in the bytes
pub pieces-no_feed : (bs : List ℕ) → 0 < length bs → IsFirstByte (is_byte 10) bs None → pieces bs ≡ record { bytes = bs; ended = false } ∷ []
pieces-no_feed bs some h =
    let clear : NoFeed (take (length bs) bs) = NoFeed-take bs (length bs) (λ j lt len e. h j (omega arith) lt e) in
    pieces-whole bs some (subst NoFeed (take_all (length bs) bs (omega arith)) clear)
