-- What a vector of sixteen bytes tells of a run.
use Rattle.std.proofs.Common.{◌≡◌, ℕ, ◌+◌, ◌%◌, ◌^◌, ◌<◌, ◌≤◌, leb, cond, not, Bool, true, false, inl, inr, List, length, map, get_or, replicate, ap, ◌∙◌, arith, w8}
use Rattle.std.specs.List.{prefix_len}
use Rattle.std.specs.Simd.Lanes.{zip2, mask_l, top, chunk}
use Rattle.std.proofs.lemmas.Bool.{cases_lt}
use Rattle.std.proofs.lemmas.Bool.Decides.{nat_tests}
use Rattle.std.proofs.lemmas.Simd.{length-chunk, bitmask_splat, first_set_mask_l, run_in_chunk_le, run_in_chunk_fails, run_in_chunk_stops}
use Rattle.wq_text.specs.Runs.{first_set}
use Rattle.wq_text.specs.Words.{in_word}

-- a run of bytes of which the test t with y fails, in the sixteen from a place on
module _ (t : ℕ → ℕ → Bool) (y : ℕ) (text : List ℕ) (at r : ℕ) (room : at + 16 ≤ length text)
    (found : r ≡ first_set (mask_l (map (top 7) (zip2 (λ a b. cond (t a b) 255 0) (chunk at 16 text) (replicate 16 y))) % 2 ^ 64)) where
  counted : r ≡ prefix_len (λ x. not (t x y)) (chunk at 16 text)
  counted =
      let long = length-chunk at 16 text room in
      found ∙ ap first_set (bitmask_splat w8 t (chunk at 16 text) 16 y long (omega arith)) ∙ first_set_mask_l (λ x. t x y) (chunk at 16 text) 16 long (omega arith)

  pub run-short : r ≤ 16
  run-short = run_in_chunk_le (λ x. t x y) text at 16 r 0 room counted

  pub run-fails : (k : ℕ) → at ≤ k → k < at + r → t (get_or text k 0) y ≡ false
  run-fails = run_in_chunk_fails (λ x. t x y) text at 16 r 0 room counted

  pub run-stops : r < 16 → t (get_or text (at + r) 0) y ≡ true
  run-stops = run_in_chunk_stops (λ x. t x y) text at 16 r 0 room counted

-- a byte that is greater than `#` may stand in a word
pub in_word-greater : (b : ℕ) → leb b 35 ≡ false → in_word b ≡ true
in_word-greater b h = grind (arith, nat_tests)

-- and so may those that were looked at, and those of a run behind them
pub in_word-run : (text : List ℕ) (len run : ℕ) → ((k : ℕ) → k < len → in_word (get_or text k 0) ≡ true) → ((k : ℕ) → len ≤ k → k < len + run → leb (get_or text k 0) 35 ≡ false)
    → (k : ℕ) → k < len + run → in_word (get_or text k 0) ≡ true
in_word-run text len run before greater k lt = elim (cases_lt k len) [
  | inl early ↦ before k early
  | inr late ↦ in_word-greater (get_or text k 0) (greater k late lt)
]
