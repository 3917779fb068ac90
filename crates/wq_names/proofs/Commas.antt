-- What comes before the first comma.
use Rattle.std.proofs.Common.{◌≡◌, ℕ, ◌<◌, ◌==◌, List, length, take, Some, None, sym, ap, ◌∙◌, arith}
use Rattle.std.specs.List.{before_first, position_or_len}
use Rattle.std.proofs.lemmas.List.{take_all}
use Rattle.std.proofs.lemmas.List.Sums.{position_or_len_is}
use Rattle.memchr.specs.Find.{IsFirstByte, is_byte}
use Rattle.wq_text.proofs.PieceLemmas.{is_false}

-- where the first comma is, or the length
abbrev comma_place : List ℕ → ℕ
comma_place bs = position_or_len (λ b. b == 44) bs

pub before_first-at_comma : (bs : List ℕ) (k : ℕ) → IsFirstByte (is_byte 44) bs (Some k) → take k bs ≡ before_first (λ b. b == 44) bs
before_first-at_comma bs k h =
    let within : k < length bs = h.0.high in
    let place : comma_place bs ≡ k = position_or_len_is (λ b. b == 44) bs k 0 (omega arith) (λ j lt. is_false _ (λ e. h.0.before j (omega arith) lt e)) (λ lt. h.1) in
    ap (λ (n : ℕ). take n bs) (sym place)

pub before_first-no_comma : (bs : List ℕ) → IsFirstByte (is_byte 44) bs None → bs ≡ before_first (λ b. b == 44) bs
before_first-no_comma bs h =
    let place : comma_place bs ≡ length bs = position_or_len_is (λ b. b == 44) bs (length bs) 0 (omega arith) (λ j lt. is_false _ (λ e. h j (omega arith) lt e)) (λ lt. absurd (omega arith)) in
    sym (ap (λ (n : ℕ). take n bs) place ∙ take_all (length bs) bs (omega arith))
