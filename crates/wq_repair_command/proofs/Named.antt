-- Items by their names, one after the other.
use Rattle.std.proofs.Common.{◌≡◌, ◌<◌, subst, length, ℕ, List, [], ◌∷◌, ◌++◌, Option, Some, None, refl, sym, ap, ◌∙◌, append_assoc, append-nil}
use Rattle.std.specs.Prelude.{option_map}
use Rattle.std.specs.List.{All, range_with_len}
use Rattle.std.specs.Option.{option_zip}
use Rattle.wq_items.specs.Table.{item_named}
use Rattle.wq_items.proofs.Lists.{range_with_len-below}
use Rattle.wq_cert.specs.Forms.{items_of}
use Rattle.wq_cert.proofs.NotedLemmas.{below_all}
use Rattle.wq_repair_command.specs.Movers.{movers}

and_more : Option ℕ → Option (List ℕ) → Option (List ℕ)
and_more item items = option_map (λ (p : ℕ × List ℕ). p.0 ∷ p.1) (option_zip item items)

-- no item yet
same_items : (o : Option (List ℕ)) → option_map (λ (is : List ℕ). [] ++ is) o ≡ o
same_items None = refl
same_items (Some is) = refl

-- one more
one_more : (i : ℕ) (items : List ℕ) (o : Option (List ℕ)) → option_map (λ (is : List ℕ). (items ++ (i ∷ [])) ++ is) o ≡ option_map (λ (is : List ℕ). items ++ is) (and_more (Some i) o)
unfolding and_more
one_more i items None = refl
one_more i items (Some is) = ap (λ (l : List ℕ). Some l) (append_assoc items (i ∷ []) is)

-- ---- which items may move

-- the numbers of movers are numbers of items
pub movers-below : (items names : List (List ℕ)) (is : List ℕ) → movers items names ≡ Some is → All (λ i. i < length items) is
movers-below items [] is e =
    let same : range_with_len 0 (length items) ≡ is = cc in
    subst (All (λ i. i < length items)) same (range_with_len-below (length items))
movers-below items (name ∷ names) is e = below_all items (name ∷ names) is e
