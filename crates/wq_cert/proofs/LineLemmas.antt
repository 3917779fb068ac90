-- Lines of a plan text, as they grow word by word.
use Rattle.std.proofs.Common.{◌≡◌, ℕ, ◌+◌, ◌<◌, ◌≤◌, ◌==◌, List, [], ◌∷◌, ◌++◌, length, map, take, get_or, sym, ap, subst, ◌∙◌, append_assoc, append-nil, arith}
use Rattle.std.specs.Prelude.{codes, decimal, flat_map, slice_index}
use Rattle.std.specs.List.{All, range_with_len}
use Rattle.std.proofs.lemmas.List.{map-append, take_more, take_all}
use Rattle.std.proofs.lemmas.List.Elements.{All-filter}
use Rattle.std.proofs.lemmas.List.FromFn.{get_or-map-range_with_len}
use Rattle.std.proofs.lemmas.Grind.{flat_map-append}
use Rattle.wq_buckets.specs.Places.{buckets_of}
use Rattle.wq_text.specs.LineText.{spaced, line_text}
use Rattle.wq_items.specs.Table.{items_at}
use Rattle.wq_items.proofs.Lists.{range_with_len-below}
use Rattle.wq_cert.specs.PlanText.{name_of, workqueue_line}

-- ---- `wq Q` and names

module _ (names : List (List ℕ)) (q : ℕ) where
  -- the line with the names of these items
  abbrev pub wq_front : List ℕ → List ℕ
  wq_front items = (codes "wq" ++ spaced (decimal q)) ++ flat_map spaced (map (name_of names) items)

  pub wq_front-none : (out : List ℕ) → (out ++ codes "wq") ++ spaced (decimal q) ≡ out ++ wq_front []
  wq_front-none out = append_assoc out (codes "wq") (spaced (decimal q)) ∙ ap (λ (ls : List ℕ). out ++ ls) (sym (append-nil (codes "wq" ++ spaced (decimal q))))

  -- and with that of one more item
  wq_front-push : (out items : List ℕ) (i : ℕ) → (out ++ wq_front items) ++ spaced (name_of names i) ≡ out ++ wq_front (items ++ (i ∷ []))
  wq_front-push out items i =
      let front : List ℕ = codes "wq" ++ spaced (decimal q) in
      let words : List ℕ = flat_map spaced (map (name_of names) items) in
      append_assoc out (wq_front items) (spaced (name_of names i))
      ∙ ap (λ (ls : List ℕ). out ++ ls) (append_assoc front words (spaced (name_of names i))
      ∙ ap (λ (ls : List ℕ). front ++ ls) (ap (λ (l : List ℕ). words ++ l) (sym (append-nil (spaced (name_of names i))))
      ∙ sym (flat_map-append spaced (map (name_of names) items) (name_of names i ∷ [])) ∙ ap (flat_map spaced) (sym (map-append (name_of names) items (i ∷ [])))))

  -- the next of these items
  pub wq_front-next : (out items name : List ℕ) (n i : ℕ) → n < length items → i ≡ get_or items n i → name_of names i ≡ name → (out ++ wq_front (take n items)) ++ spaced name ≡ out ++ wq_front (take (n + 1) items)
  wq_front-next out items name n i within at is =
      ap (λ (w : List ℕ). (out ++ wq_front (take n items)) ++ spaced w) (sym is) ∙ wq_front-push out (take n items) i
      ∙ ap (λ (l : List ℕ). out ++ wq_front l) (ap (λ (k : ℕ). take n items ++ (k ∷ [])) at ∙ sym (take_more items n i within))

  pub wq_front-all : (out items : List ℕ) (n : ℕ) → length items ≤ n → (out ++ wq_front (take n items)) ++ (10 ∷ []) ≡ out ++ line_text (workqueue_line names (q, items))
  wq_front-all out items n all =
      let end : List ℕ = 10 ∷ [] in
      let words : List ℕ = flat_map spaced (map (name_of names) items) in
      ap (λ (l : List ℕ). (out ++ wq_front l) ++ end) (take_all n items all) ∙ append_assoc out (wq_front items) end
      ∙ ap (λ (ls : List ℕ). out ++ ls) (append_assoc (codes "wq" ++ spaced (decimal q)) words end ∙ append_assoc (codes "wq") (spaced (decimal q)) (words ++ end)
      ∙ ap (λ (ls : List ℕ). codes "wq" ++ ls) (sym (append_assoc (spaced (decimal q)) words end)))

-- ---- the items of a workqueue

-- they are its bucket
pub items_at-bucket : (lane : List ℕ) (buckets : List (List ℕ)) (lanes q : ℕ) (items : List ℕ) → buckets ≡ buckets_of lane lanes → q < lanes → items ≡ get_or buckets q [] → items ≡ items_at lane q
items_at-bucket lane buckets lanes q items made below is =
    is ∙ ap (λ (bs : List (List ℕ)). get_or bs q []) made ∙ get_or-map-range_with_len (items_at lane) 0 lanes q q [] below (omega arith)

pub items_at-below : (lane : List ℕ) (q n : ℕ) → length lane ≡ n → All (λ i. i < n) (items_at lane q)
items_at-below lane q n long =
    All-filter (λ i. slice_index lane i == q) (λ i. i < n) (range_with_len 0 (length lane)) (subst (λ m. All (λ i. i < n) (range_with_len 0 m)) (sym long) (range_with_len-below n))

-- ---- lines one after the other

module _ {X : Type 0} (g : X → List (List ℕ)) where
  -- the lines of all these
  abbrev pub lines : List X → List ℕ
  lines xs = flat_map line_text (map g xs)

  pub lines-push : (out : List ℕ) (xs : List X) (x : X) → (out ++ lines xs) ++ line_text (g x) ≡ out ++ lines (xs ++ (x ∷ []))
  lines-push out xs x =
      append_assoc out (lines xs) (line_text (g x))
      ∙ ap (λ (ls : List ℕ). out ++ ls) (ap (λ (l : List ℕ). lines xs ++ l) (sym (append-nil (line_text (g x))))
      ∙ sym (flat_map-append line_text (map g xs) (g x ∷ [])) ∙ ap (flat_map line_text) (sym (map-append g xs (x ∷ []))))

-- a first line, lines, a line and lines
pub plan_text-parts : (first : List (List ℕ)) (wqs : List (List (List ℕ))) (middle : List (List ℕ)) (arcs : List (List (List ℕ)))
    → ((line_text first ++ flat_map line_text wqs) ++ line_text middle) ++ flat_map line_text arcs ≡ flat_map line_text (first ∷ (wqs ++ (middle ∷ arcs)))
plan_text-parts first wqs middle arcs =
    append_assoc (line_text first ++ flat_map line_text wqs) (line_text middle) (flat_map line_text arcs)
    ∙ append_assoc (line_text first) (flat_map line_text wqs) (line_text middle ++ flat_map line_text arcs)
    ∙ ap (λ (ls : List ℕ). line_text first ++ ls) (sym (flat_map-append line_text wqs (middle ∷ arcs)))
