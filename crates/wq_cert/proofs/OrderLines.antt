-- Lines of a plan text around fixed workqueues, as they grow, and an order of workqueues as it is read.
use Rattle.std.proofs.Common.{◌≡◌, ℕ, zero, suc, ◌+◌, ◌<◌, ◌≤◌, false, leb, List, [], ◌∷◌, ◌++◌}
use Rattle.std.proofs.Common.{length, map, take, get_or, sym, ap, ◌∙◌, append_assoc, append-nil, arith}
use Rattle.std.specs.Prelude.{codes, decimal, flat_map}
use Rattle.std.specs.List.{list_any, range_with_len}
use Rattle.std.proofs.lemmas.Grind.{flat_map-append}
use Rattle.std.proofs.lemmas.List.{map-append, take_more, take_all}
use Rattle.wq_text.specs.LineText.{spaced, line_text}
use Rattle.wq_cert.specs.AroundText.{order_line}

-- ---- `order Q..`

-- the line with these workqueues
abbrev pub order_front : List ℕ → List ℕ
order_front order = codes "order" ++ flat_map spaced (map decimal order)

pub order_front-none : (out : List ℕ) → out ++ codes "order" ≡ out ++ order_front []
order_front-none out = ap (λ (l : List ℕ). out ++ l) (sym (append-nil (codes "order")))

-- and with one more
order_front-push : (out order : List ℕ) (q : ℕ)
    → (out ++ order_front order) ++ spaced (decimal q) ≡ out ++ order_front (order ++ (q ∷ []))
order_front-push out order q =
    let words : List ℕ = flat_map spaced (map decimal order) in
    append_assoc out (order_front order) (spaced (decimal q))
    ∙ ap (λ (ls : List ℕ). out ++ ls) (append_assoc (codes "order") words (spaced (decimal q))
    ∙ ap (λ (ls : List ℕ). codes "order" ++ ls) (ap (λ (l : List ℕ). words ++ l) (sym (append-nil (spaced (decimal q))))
    ∙ sym (flat_map-append spaced (map decimal order) (decimal q ∷ []))
    ∙ ap (flat_map spaced) (sym (map-append decimal order (q ∷ [])))))

pub order_front-next : (out order : List ℕ) (k q : ℕ) → k < length order → q ≡ get_or order k q
    → (out ++ order_front (take k order)) ++ spaced (decimal q) ≡ out ++ order_front (take (k + 1) order)
order_front-next out order k q within at =
    order_front-push out (take k order) q
    ∙ ap (λ (l : List ℕ). out ++ order_front l)
    (ap (λ (r : ℕ). take k order ++ (r ∷ [])) at ∙ sym (take_more order k q within))

pub order_front-all : (out order : List ℕ) (k : ℕ) → length order ≤ k
    → (out ++ order_front (take k order)) ++ (10 ∷ []) ≡ out ++ line_text (order_line order)
order_front-all out order k all =
    let words : List ℕ = flat_map spaced (map decimal order) in
    ap (λ (l : List ℕ). (out ++ order_front l) ++ (10 ∷ [])) (take_all k order all)
    ∙ append_assoc out (order_front order) (10 ∷ [])
    ∙ ap (λ (ls : List ℕ). out ++ ls) (append_assoc (codes "order") words (10 ∷ []))

-- ---- lines one after the other

-- one more number
pub range_with_len-more : (a n : ℕ) → range_with_len a (suc n) ≡ range_with_len a n ++ ((a + n) ∷ [])
range_with_len-more a zero = let same : a ≡ a + 0 = omega arith in ap (λ (k : ℕ). k ∷ []) same
range_with_len-more a (suc n) =
    let same : a + 1 + n ≡ a + suc n = omega arith in
    ap (λ (ks : List ℕ). a ∷ ks)
    (range_with_len-more (a + 1) n ∙ ap (λ (k : ℕ). range_with_len (a + 1) n ++ (k ∷ [])) same)

-- ---- numbers below

-- these are the first k of the numbers, and each is below this many
pub record AreBelow (lanes : ℕ) (numbers order : List ℕ) (k : ℕ) : Type 0 where
  pub items : order ≡ take k numbers
  pub below : list_any (leb lanes) (take k numbers) ≡ false
