-- What comes before a comment.
use Rattle.std.proofs.Common.{◌≡◌, ℕ, ◌<◌, ◌≤◌, Bool, true, false, eqb, ltb, List, ◌∷◌, ◌++◌, length, get_or, take, drop, Some, None, refl, sym, ap, ◌∙◌, arith, inl, inr, ◌⊎◌, length-append}
use Rattle.std.specs.List.{Contains, position_or_len, after_first}
use Rattle.std.proofs.lemmas.Bool.{eqb-true, eq-eqb, ltb-true, ltb-false}
use Rattle.std.proofs.lemmas.List.{take-append-drop, take_all, length-take-le}
use Rattle.std.proofs.lemmas.List.Sums.{position_or_len_is, fails_before_first, passes_at_first, split_at_first, prefix_len-le-length}
use Rattle.std.proofs.Math.ListN.{get_or-append}
use Rattle.std.proofs.Math.Seq.{get_or-append_seam, take-append_seam}
use Rattle.memchr.specs.Find.{IsFirstByte, is_byte}
use Rattle.wq_text.specs.Comments.{before_comment, IsBeforeComment}
use Rattle.wq_text.proofs.PieceLemmas.{is_false}

abbrev is_hash : ℕ → Bool
is_hash b = eqb b 35

-- where the comment begins, or the length
abbrev hash_place : List ℕ → ℕ
hash_place bs = position_or_len (λ b. is_hash b) bs

hash_place-le : (bs : List ℕ) → hash_place bs ≤ length bs
hash_place-le bs = prefix_len-le-length _ bs

pub length-before_comment-le : (bs : List ℕ) → length (before_comment bs) ≤ length bs
length-before_comment-le bs = omega (arith, length-take-le (hash_place bs) bs (hash_place-le bs), hash_place-le bs)

-- what comes before the comment is a prefix
pub before_comment-front : (bs : List ℕ) → (rest : List ℕ) × (bs ≡ before_comment bs ++ rest)
before_comment-front bs = (drop (hash_place bs) bs, sym (take-append-drop (hash_place bs) bs))

-- ---- by the place of a hash

pub before_comment-at_hash : (bs : List ℕ) (k : ℕ) → IsFirstByte (is_byte 35) bs (Some k) → take k bs ≡ before_comment bs
before_comment-at_hash bs k h =
    let within : k < length bs = h.0.high in
    let place : hash_place bs ≡ k = position_or_len_is (λ b. is_hash b) bs k 0 (omega arith) (λ j lt. is_false _ (λ e. h.0.before j (omega arith) lt e)) (λ lt. h.1) in
    ap (λ (n : ℕ). take n bs) (sym place)

pub before_comment-no_hash : (bs : List ℕ) → IsFirstByte (is_byte 35) bs None → bs ≡ before_comment bs
before_comment-no_hash bs h =
    let place : hash_place bs ≡ length bs = position_or_len_is (λ b. is_hash b) bs (length bs) 0 (omega arith) (λ j lt. is_false _ (λ e. h j (omega arith) lt e)) (λ lt. absurd (omega arith)) in
    sym (ap (λ (n : ℕ). take n bs) place ∙ take_all (length bs) bs (omega arith))

-- ---- by what it holds

no_hash_at : (bs : List ℕ) (k : ℕ) → k < length (before_comment bs) → get_or (before_comment bs) k 35 ≡ 35 → ⊥
no_hash_at bs k lt e =
    let len : length (before_comment bs) ≡ hash_place bs = length-take-le (hash_place bs) bs (hash_place-le bs) in
    let other : eqb (get_or bs k 35) 35 ≡ false = fails_before_first (λ b. is_hash b) bs k 35 (omega arith) in
    let same : get_or (before_comment bs) k 35 ≡ get_or bs k 35 =
    sym (get_or-append (before_comment bs) (drop (hash_place bs) bs) 35 k lt) ∙ ap (λ (ys : List ℕ). get_or ys k 35) (take-append-drop (hash_place bs) bs) in
    let hash : eqb (get_or bs k 35) 35 ≡ true = eq-eqb _ 35 (sym same ∙ e) in
    cc

hash_follows : (bs : List ℕ) (some : Bool) → ltb (hash_place bs) (length bs) ≡ some → (before_comment bs ≡ bs) ⊎ ((rest : List ℕ) × (bs ≡ before_comment bs ++ (35 ∷ rest)))
hash_follows bs true e =
    let lt = ltb-true (hash_place bs) (length bs) e in
    let hash : get_or bs (hash_place bs) 0 ≡ 35 = eqb-true _ _ (passes_at_first (λ b. is_hash b) bs 0 lt) in
    let rest = after_first (λ b. is_hash b) bs in
    inr (rest, split_at_first (λ b. is_hash b) bs 0 lt ∙ ap (λ (b : ℕ). before_comment bs ++ (b ∷ rest)) hash)
hash_follows bs false e = inl (take_all (hash_place bs) bs (ltb-false (hash_place bs) (length bs) e))

pub IsBeforeComment-before_comment : (bs : List ℕ) → IsBeforeComment bs (before_comment bs)
IsBeforeComment-before_comment bs = record {
  holds_no_hash = λ c. no_hash_at bs c.0 c.1 c.2;
  whole_or_hash = hash_follows bs (ltb (hash_place bs) (length bs)) refl;
}

-- ---- no other prefix does

before_comment-whole : (bs : List ℕ) → (Contains bs 35 → ⊥) → before_comment bs ≡ bs
before_comment-whole bs h =
    let place : hash_place bs ≡ length bs =
    position_or_len_is (λ b. is_hash b) bs (length bs) 35 (omega arith) (λ j lt. is_false _ (λ e. h (j, lt, eqb-true _ _ e))) (λ lt. absurd (omega arith)) in
    ap (λ (n : ℕ). take n bs) place ∙ take_all (length bs) bs (omega arith)

before_comment-append : (front rest : List ℕ) → (Contains front 35 → ⊥) → before_comment (front ++ (35 ∷ rest)) ≡ front
before_comment-append front rest h =
    let whole = front ++ (35 ∷ rest) in
    let other : (j : ℕ) → j < length front → eqb (get_or whole j 35) 35 ≡ false =
    λ j lt. is_false _ (λ e. h (j, lt, sym (get_or-append front (35 ∷ rest) 35 j lt) ∙ eqb-true _ _ e)) in
    let within : length front ≤ length whole = omega (arith, length-append front (35 ∷ rest)) in
    let place : hash_place whole ≡ length front = position_or_len_is (λ b. is_hash b) whole (length front) 35 within other (λ lt. eq-eqb _ 35 (get_or-append_seam front 35 rest 35)) in
    ap (λ (n : ℕ). take n whole) place ∙ take-append_seam front (35 ∷ rest)

front_is : (bs front : List ℕ) → (Contains front 35 → ⊥) → (front ≡ bs) ⊎ ((rest : List ℕ) × (bs ≡ front ++ (35 ∷ rest))) → front ≡ before_comment bs
front_is bs front h (inl e) = sym (before_comment-whole front h) ∙ ap (λ (ys : List ℕ). before_comment ys) e
front_is bs front h (inr (rest, e)) = sym (before_comment-append front rest h) ∙ ap (λ (ys : List ℕ). before_comment ys) (sym e)

pub before_comment-IsBeforeComment : (bs front : List ℕ) → IsBeforeComment bs front → front ≡ before_comment bs
before_comment-IsBeforeComment bs front h = front_is bs front h.holds_no_hash h.whole_or_hash
