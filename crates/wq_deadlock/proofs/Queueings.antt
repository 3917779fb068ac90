-- The queueings of a run: those that come first, and then the others, one item after another.
use Rattle.std.proofs.Common.{◌≡◌, ℕ, ◌+◌, ◌≤◌, true, false, not, eqb, List, [], ◌∷◌, ◌++◌, length, map, append_assoc, sym, ap, ◌∙◌, arith}
use Rattle.std.specs.List.{filter, list_any, range_with_len}
use Rattle.std.proofs.lemmas.Bool.{cond-true, cond-false, not_from_false}
use Rattle.std.proofs.lemmas.List.{append-nil, map-append, length-append, length-map}
use Rattle.std.proofs.lemmas.List.Elements.{filter-append}
use Rattle.std.proofs.lemmas.List.FromFn.{length-range_with_len}
use Rattle.std.proofs.lemmas.List.Sums.{length-filter, count_by-le-length}
use Rattle.wq_items.proofs.TableLemmas.{range_with_len-push}
use Rattle.wq_core.specs.declared.step.Step.{Step}
use Rattle.wq_core.specs.declared.step.Step.TheVariants.{Queue}
use Rattle.wq_core.specs.Wiring.{Wiring, items}
use Rattle.wq_core.specs.Played.{queue_order}
use Rattle.wq_core.proofs.QueueOrder.{is_other, others_in_order, in_order}

others_more : (first : List ℕ) (n : ℕ) (last : List ℕ) → filter (λ i. is_other first i) (n ∷ []) ≡ last → others_in_order first (n + 1) ≡ others_in_order first n ++ last
others_more first n last is =
    ap (filter (λ i. is_other first i)) (range_with_len-push n)
    ∙ filter-append (λ i. is_other first i) (range_with_len 0 n) (n ∷ [])
    ∙ ap (λ (l : List ℕ). others_in_order first n ++ l) is

pub queued_more : (first : List ℕ) (n : ℕ) (steps new : List Step) → steps ≡ map Queue (in_order first n) → list_any (λ j. eqb n j) first ≡ false → new ≡ steps ++ (Queue n ∷ [])
    → new ≡ map Queue (in_order first (n + 1))
queued_more first n steps new so_far other pushed =
    let last : filter (λ i. is_other first i) (n ∷ []) ≡ n ∷ [] = cond-true (is_other first n) (n ∷ []) [] (not_from_false (list_any (λ j. eqb n j) first) other) in
    pushed
    ∙ ap (λ (l : List Step). l ++ (Queue n ∷ [])) so_far
    ∙ sym (map-append (λ (i : ℕ). Queue i) (in_order first n) (n ∷ []))
    ∙ ap (map Queue) (append_assoc first (others_in_order first n) (n ∷ []) ∙ ap (λ (l : List ℕ). first ++ l) (sym (others_more first n (n ∷ []) last)))

pub queued_same : (first : List ℕ) (n : ℕ) (steps : List Step) → steps ≡ map Queue (in_order first n) → list_any (λ j. eqb n j) first ≡ true → steps ≡ map Queue (in_order first (n + 1))
queued_same first n steps so_far among =
    let last : filter (λ i. is_other first i) (n ∷ []) ≡ [] = cond-false (is_other first n) (n ∷ []) [] (ap not among) in
    so_far ∙ ap (λ (l : List ℕ). map Queue (first ++ l)) (sym (others_more first n [] last ∙ append-nil (others_in_order first n)))

-- there are no more queueings than the items that come first and all items together
pub length-queue_order : (w : Wiring) (first : List ℕ) → length (queue_order w first) ≤ length first + items w
length-queue_order w first =
    let all = length-map (in_order first (items w)) (λ (i : ℕ). Queue i) in
    let both = length-append first (others_in_order first (items w)) in
    let others : length (others_in_order first (items w)) ≤ length (range_with_len 0 (items w)) =
    omega (arith, length-filter (λ i. is_other first i) (range_with_len 0 (items w)), count_by-le-length (λ i. is_other first i) (range_with_len 0 (items w))) in
    let range = length-range_with_len 0 (items w) in
    omega (arith, all, both, others, range)
