-- Texts of changes, one after another; and which changes there are.
use Rattle.std.proofs.Common.{◌≡◌, ℕ, ◌+◌, ◌<◌, inl, inr, List, [], ◌∷◌, ◌++◌, length, map, take, drop, min, get_or, append-nil, append_assoc, refl, sym, ap, subst, ◌∙◌, arith}
use Rattle.std.specs.Prelude.{filter}
use Rattle.std.specs.List.{All, range_with_len}
use Rattle.std.proofs.lemmas.Bool.{cases_lt}
use Rattle.std.proofs.lemmas.List.{take_all, take_more, drop_all}
use Rattle.std.proofs.lemmas.List.Elements.{All-append, All-filter, All-map}
use Rattle.wq_items.proofs.Lists.{range_with_len-below}
use Rattle.wq_core.specs.Workqueues.{Workqueues}
use Rattle.wq_changes.specs.declared.change.Change.{Change}
use Rattle.wq_changes.specs.declared.change.Change.TheVariants as change
use Rattle.wq_changes.specs.Changes.{changes_of, has_moved, is_given, IsOf}
use Rattle.wq_changes.specs.Told.{AreEach}

AreEach-append : (Says : Change → List ℕ → Type 0) (cs more : List Change) (one two : List ℕ) → AreEach Says cs one → AreEach Says more two → AreEach Says (cs ++ more) (one ++ two)
AreEach-append Says [] more one two none said = subst (λ (text : List ℕ). AreEach Says more (text ++ two)) (sym none) said
AreEach-append Says (c ∷ cs) more one two (first, rest, is, says, others) said =
    (first, rest ++ two, ap (λ (text : List ℕ). text ++ two) is ∙ append_assoc first rest two, says, AreEach-append Says cs more rest two others said)

-- the text of one change is added to the texts of the changes before it
pub AreEach-next : (Says : Change → List ℕ → Type 0) (cs : List Change) (k : ℕ) (c : Change) (old new one : List ℕ) → k < length cs → c ≡ get_or cs k c
    → AreEach Says (take k cs) old → Says c one → new ≡ old ++ one → AreEach Says (take (k + 1) cs) new
AreEach-next Says cs k c old new one within is so_far says added =
    let on : take (k + 1) cs ≡ take k cs ++ (c ∷ []) = take_more cs k c within ∙ ap (λ (x : Change). take k cs ++ (x ∷ [])) (sym is) in
    subst (λ (l : List Change). AreEach Says l new) (sym on)
    (subst (AreEach Says (take k cs ++ (c ∷ []))) (sym added)
    (AreEach-append Says (take k cs) (c ∷ []) old one so_far (one, [], sym (append-nil one), says, refl)))

-- each change is of one of the groups
pub All-IsOf : (groups : ℕ) (old new : Workqueues) → All (IsOf groups) (changes_of groups old new)
All-IsOf groups old new =
    All-append (IsOf groups) (map (λ q. change.Given q) (filter (is_given groups old new) (range_with_len 0 old.assignment.lanes))) (map (λ g. change.Moved g) (filter (has_moved old new) (range_with_len 0 groups)))
    (All-map (IsOf groups) (λ q. change.Given q) (filter (is_given groups old new) (range_with_len 0 old.assignment.lanes)) (λ k d is. tt))
    (All-map (IsOf groups) (λ g. change.Moved g) (filter (has_moved old new) (range_with_len 0 groups))
    (All-filter (has_moved old new) (λ g. g < groups) (range_with_len 0 groups) (range_with_len-below groups)))

-- the first n elements, or all, if there are fewer
pub take_least : {X : Type 0} (n : ℕ) (xs : List X) → take (min (length xs) n) xs ≡ take n xs
take_least n xs = elim (cases_lt (length xs) n) [
  | inl few ↦
      let all : min (length xs) n ≡ length xs = omega (arith, few) in
      ap (λ (k : ℕ). take k xs) all ∙ take_all (length xs) xs (omega arith) ∙ sym (take_all n xs (omega (arith, few)))
  | inr many ↦ let n_of : min (length xs) n ≡ n = omega (arith, many) in ap (λ (k : ℕ). take k xs) n_of
]

pub drop_least : {X : Type 0} (n : ℕ) (xs : List X) → drop (min (length xs) n) xs ≡ drop n xs
drop_least n xs = elim (cases_lt (length xs) n) [
  | inl few ↦
      let all : min (length xs) n ≡ length xs = omega (arith, few) in
      ap (λ (k : ℕ). drop k xs) all ∙ drop_all (length xs) xs (omega arith) ∙ sym (drop_all n xs (omega (arith, few)))
  | inr many ↦ let n_of : min (length xs) n ≡ n = omega (arith, many) in ap (λ (k : ℕ). drop k xs) n_of
]
