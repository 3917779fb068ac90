-- The calls of a caller that has got to item i, and then to the next.
use Rattle.std.proofs.Common.{◌≡◌, ◌≢◌, ℕ, ◌+◌, ◌%◌, List, [], ◌∷◌, ◌++◌, Bool, true, false, sym, ap, ◌∙◌, arith}
use Rattle.std.proofs.lemmas.Bool.Decides.{nat_tests}
use Rattle.std.specs.Prelude.{◌==◌, map, cond}
use Rattle.std.specs.List.{filter, range_with_len}
use Rattle.std.proofs.lemmas.List.{append-nil, append_assoc, map-append}
use Rattle.std.proofs.lemmas.List.Elements.{filter-append}
use Rattle.wq_items.proofs.TableLemmas.{range_with_len-push}
use Rattle.wq_script.specs.declared.acting.Act.{Act}
use Rattle.wq_script.specs.Crews.{every_second}

every_second-more : (first i : ℕ) (is : Bool) → ((i % 2) == first) ≡ is → every_second first (i + 1) ≡ every_second first i ++ cond is (i ∷ []) []
every_second-more first i is decided =
    let p = λ (n : ℕ). (n % 2) == first in
    ap (filter p) (range_with_len-push i) ∙ filter-append p (range_with_len 0 i) (i ∷ []) ∙ ap (λ (b : Bool). every_second first i ++ cond b (i ∷ []) []) decided

-- the item is one of every second
pub calls-more : (f : ℕ → Act) (first i : ℕ) (before calls more : List Act) → i % 2 ≡ first → calls ≡ before ++ map f (every_second first i) → more ≡ calls ++ (f i ∷ [])
    → more ≡ before ++ map f (every_second first (i + 1))
calls-more f first i before calls more one are is =
    let decided : ((i % 2) == first) ≡ true = grind (arith, nat_tests, one) in
    let next : map f (every_second first (i + 1)) ≡ map f (every_second first i) ++ (f i ∷ []) = ap (map f) (every_second-more first i true decided) ∙ map-append f (every_second first i) (i ∷ []) in
    is ∙ ap (λ (a : List Act). a ++ (f i ∷ [])) are ∙ append_assoc before (map f (every_second first i)) (f i ∷ []) ∙ ap (λ (a : List Act). before ++ a) (sym next)

-- it isn't
pub calls-same : (f : ℕ → Act) (first i : ℕ) (before calls : List Act) → i % 2 ≢ first → calls ≡ before ++ map f (every_second first i)
    → calls ≡ before ++ map f (every_second first (i + 1))
calls-same f first i before calls none are =
    let decided : ((i % 2) == first) ≡ false = grind (arith, nat_tests, none) in
    are ∙ ap (λ (is : List ℕ). before ++ map f is) (sym (every_second-more first i false decided ∙ append-nil (every_second first i)))
