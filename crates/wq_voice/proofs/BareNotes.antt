-- Notes on items of workqueues without a rescuer.
use Rattle.std.proofs.Common.{◌≡◌, ℕ, ◌+◌, ◌<◌, Bool, true, false, List, [], ◌∷◌, ◌++◌, length}
use Rattle.std.proofs.Common.{append-nil, sym, ap, ◌∙◌}
use Rattle.std.specs.Prelude.{filter}
use Rattle.std.specs.List.{All, range_with_len}
use Rattle.std.proofs.lemmas.Bool.{cond-true, cond-false}
use Rattle.std.proofs.lemmas.List.Elements.{All-filter, filter-append}
use Rattle.wq_items.proofs.Lists.{range_with_len-below}
use Rattle.wq_items.proofs.TableLemmas.{range_with_len-push}
use Rattle.wq_core.specs.Workqueues.{Workqueues}
use Rattle.wq_deadlock.specs.Judging.{is_on_bare}
use Rattle.wq_groups.specs.DeclaredGroups.{Declared}
use Rattle.wq_voice.specs.Note.{bare_items}

-- ---- the items

more : (p : ℕ → Bool) (n : ℕ) (last : List ℕ) → filter p (n ∷ []) ≡ last → filter p (range_with_len 0 (n + 1)) ≡ filter p (range_with_len 0 n) ++ last
more p n last is =
    ap (filter p) (range_with_len-push n)
    ∙ filter-append p (range_with_len 0 n) (n ∷ [])
    ∙ ap (λ (l : List ℕ). filter p (range_with_len 0 n) ++ l) is

pub kept : (p : ℕ → Bool) (n : ℕ) (items new : List ℕ) → items ≡ filter p (range_with_len 0 n) → p n ≡ true → new ≡ items ++ (n ∷ []) → new ≡ filter p (range_with_len 0 (n + 1))
kept p n items new so_far is pushed =
    pushed ∙ ap (λ (l : List ℕ). l ++ (n ∷ [])) so_far ∙ sym (more p n (n ∷ []) (cond-true (p n) (n ∷ []) [] is))

pub left : (p : ℕ → Bool) (n : ℕ) (items : List ℕ) → items ≡ filter p (range_with_len 0 n) → p n ≡ false → items ≡ filter p (range_with_len 0 (n + 1))
left p n items so_far is = so_far ∙ sym (more p n [] (cond-false (p n) (n ∷ []) [] is) ∙ append-nil (filter p (range_with_len 0 n)))

pub bare_items-within : (s : Declared) (ws : Workqueues) → All (λ i. i < length s.table.names) (bare_items s ws)
bare_items-within s ws =
    All-filter (is_on_bare ws s.partition.group_of) (λ i. i < length s.table.names) (range_with_len 0 (length s.table.names)) (range_with_len-below (length s.table.names))
