-- Numbering the items one after the other: the groups so far, and how many there are.
use Rattle.std.proofs.Common.{◌≡◌, ◌≢◌, ℕ, suc, ◌+◌, ◌<◌, List, [], ◌∷◌, ◌++◌, length, map, get_or, sym, ap, ap₂, ◌∙◌, arith}
use Rattle.std.specs.Prelude.{slice_index}
use Rattle.std.specs.List.{range_with_len}
use Rattle.std.proofs.lemmas.List.{get_or_default}
use Rattle.std.proofs.lemmas.List.FromFn.{length-map-range_with_len, get_or-map-range_with_len, map-range_with_len_more}
use Rattle.wq_groups.specs.Numbering.{AreHeads, heads_below, head_number}
use Rattle.wq_groups.proofs.Heads.{heads_below-head, heads_below-other}

-- the items below i have their numbers, and so many of them begin a group
pub record Numbered (F : ℕ → ℕ) (i : ℕ) (group_of : List ℕ) (groups : ℕ) : Type 0 where
  pub numbers : group_of ≡ map (head_number F) (range_with_len 0 i)
  pub count : groups ≡ heads_below F i

module _ (n : ℕ) (F : ℕ → ℕ) (are : AreHeads n F) (i : ℕ) (group_of : List ℕ) (groups : ℕ) (so_far : Numbered F i group_of groups) where
  long : length group_of ≡ i
  long = ap length so_far.numbers ∙ length-map-range_with_len (head_number F) 0 i

  number_of : (j : ℕ) → j < i → slice_index group_of j ≡ head_number F j
  number_of j lt = ap (λ (gs : List ℕ). get_or gs j 0) so_far.numbers ∙ get_or-map-range_with_len (head_number F) 0 i j j 0 lt (omega arith)

  numbers_more : (g : ℕ) → g ≡ head_number F i → group_of ++ (g ∷ []) ≡ map (head_number F) (range_with_len 0 (i + 1))
  numbers_more g is = ap₂ (λ (gs : List ℕ) (k : ℕ). gs ++ (k ∷ [])) so_far.numbers is ∙ sym (map-range_with_len_more (head_number F) 0 i i (omega arith))

  -- item i is its own head, and begins a group
  pub Numbered-head : F i ≡ i → Numbered F (i + 1) (group_of ++ (groups ∷ [])) (groups + 1)
  Numbered-head head = record {
    numbers = numbers_more groups (so_far.count ∙ ap (heads_below F) (sym head));
    count = let step : i + 1 ≡ suc i = omega arith in ap (λ k. k + 1) so_far.count ∙ sym (heads_below-head F i head) ∙ ap (heads_below F) (sym step);
  }

  -- item i joins the group of its head
  module _ (within : i < n) (other : F i ≢ i) where
    before : F i < i
    before = omega (arith, are.no_later i within, other)

    pub head-within : F i < length group_of
    head-within = omega (arith, before, long)

    group_is : slice_index group_of (F i) ≡ head_number F i
    group_is = number_of (F i) before ∙ ap (heads_below F) (are.own i within)

    pub Numbered-join : (g : ℕ) → g ≡ slice_index group_of (F i) → Numbered F (i + 1) (group_of ++ (g ∷ [])) groups
    Numbered-join g is = record {
      numbers = numbers_more g (is ∙ group_is);
      count = let step : i + 1 ≡ suc i = omega arith in so_far.count ∙ sym (heads_below-other F i other) ∙ ap (heads_below F) (sym step);
    }

-- a number that is read from a list, also as an index
pub read_index : (xs : List ℕ) (at read number i : ℕ) → at < length xs → read ≡ get_or xs at read → number ≡ read → i ≡ number → i ≡ slice_index xs at
read_index xs at read number i within is as_number as_index = as_index ∙ as_number ∙ is ∙ get_or_default xs at read 0 within
