-- Lists of marks, and what a write changes in them.
use Rattle.std.proofs.Common.{◌≡◌, ◌≢◌, ℕ, ◌+◌, ◌<◌, inl, inr, Bool, true, false, List, [], ◌∷◌, ◌++◌, length, get_or, set, replicate, sym, ap, subst, ◌∙◌, arith, get_or-set_same, get_or-set_other, length-append}
use Rattle.std.specs.Prelude.{◌↔◌, ◌⊎◌, Contains, AllPairs}
use Rattle.std.proofs.lemmas.List.Elements.{Contains-get_or, Contains-push, Contains-push_cases, Contains-append_left}
use Rattle.std.proofs.lemmas.List.Quantifiers.{all_pairs_push}
use Rattle.std.proofs.Math.ListN.{length-set, length-replicate}
use Rattle.std.proofs.lemmas.List.{get_or-replicate, get_or_push, get_or_append_left, get_or_past}
use Rattle.std.proofs.lemmas.Bool.{cases_eq, cases_lt, cases_Bool, false≢true}
use Rattle.wq_repair.specs.Marks.{IsMarked, Marks}
use Rattle.wq_repair.specs.Together.{Lists}

-- a mark is within the list
pub IsMarked-below : (marks : List Bool) (k : ℕ) → IsMarked marks k → k < length marks
IsMarked-below marks k marked = elim (cases_lt k (length marks)) [
  | inl lt ↦ lt
  | inr past ↦ absurd (false≢true (sym (get_or_past marks k false past) ∙ marked))
]

-- a list says so, or doesn't
pub cases_marked : (marks : List Bool) (k : ℕ) → IsMarked marks k ⊎ (¬ IsMarked marks k)
cases_marked marks k = elim (cases_Bool (get_or marks k false)) [ inl is ↦ inl is | inr not ↦ inr (λ is. false≢true (sym not ∙ is)) ]

-- nothing is marked where all is false
pub none-marked : (n k : ℕ) → ¬ IsMarked (replicate n false) k
none-marked n k marked = elim (cases_lt k n) [
  | inl lt ↦ false≢true (sym (get_or-replicate n k false false lt) ∙ marked)
  | inr past ↦ false≢true (sym (get_or_past (replicate n false) k false
      (omega (arith, past, length-replicate n false))) ∙ marked)
]

-- the same said in other words
pub Marks-as : (P Q : ℕ → Type 0) (n : ℕ) (xs : List Bool) → ((k : ℕ) → k < n → P k ↔ Q k) → Marks P n xs → Marks Q n xs
Marks-as P Q n xs same is = record {
  one_each = is.one_each;
  exactly = λ k lt. (λ marked. (same k lt).0 ((is.exactly k lt).0 marked), λ q. (is.exactly k lt).1 ((same k lt).1 q));
}

-- j is marked
pub Marks-set : (P Q : ℕ → Type 0) (n j : ℕ) (xs : List Bool) → ((k : ℕ) → k < n → k ≢ j → P k ↔ Q k) → Q j → j < n → Marks P n xs → Marks Q n (set xs j true)
Marks-set P Q n j xs others here below is = record {
  one_each = length-set xs j true ∙ is.one_each;
  exactly = at;
}
  where
    own : IsMarked (set xs j true) j
    own = get_or-set_same xs j true false (omega (arith, below, is.one_each))

    at : (k : ℕ) → k < n → IsMarked (set xs j true) k ↔ Q k
    at k lt = elim (cases_eq k j) [
      | inl same ↦ (λ marked. subst Q (sym same) here, λ q. subst (IsMarked (set xs j true)) (sym same) own)
      | inr other ↦
          let kept : get_or (set xs j true) k false ≡ get_or xs k false = get_or-set_other xs j k true false other in
          (λ marked. (others k lt other).0 ((is.exactly k lt).0 (sym kept ∙ marked)), λ q. kept ∙ (is.exactly k lt).1 ((others k lt other).1 q))
    ]

-- j is unmarked
pub Marks-clear : (P Q : ℕ → Type 0) (n j : ℕ) (xs : List Bool) → ((k : ℕ) → k < n → k ≢ j → P k ↔ Q k) → (¬ Q j) → j < n → Marks P n xs → Marks Q n (set xs j false)
Marks-clear P Q n j xs others here below is = record {
  one_each = length-set xs j false ∙ is.one_each;
  exactly = at;
}
  where
    own : get_or (set xs j false) j false ≡ false
    own = get_or-set_same xs j false false (omega (arith, below, is.one_each))

    at : (k : ℕ) → k < n → IsMarked (set xs j false) k ↔ Q k
    at k lt = elim (cases_eq k j) [
      | inl same ↦ (
        λ marked. absurd (false≢true (sym own ∙ subst (IsMarked (set xs j false)) same marked)),
        λ q. absurd (here (subst Q same q)),
      )
      | inr other ↦
          let kept : get_or (set xs j false) k false ≡ get_or xs k false = get_or-set_other xs j k false false other in
          (λ marked. (others k lt other).0 ((is.exactly k lt).0 (sym kept ∙ marked)), λ q. kept ∙ (is.exactly k lt).1 ((others k lt other).1 q))
    ]

-- nothing is marked
pub Marks-none : (P : ℕ → Type 0) (n : ℕ) (xs : List Bool) → xs ≡ replicate n false → ((k : ℕ) → k < n → ¬ P k) → Marks P n xs
Marks-none P n xs is none = record {
  one_each = ap length is ∙ length-replicate n false;
  exactly = λ k lt. (
    λ marked. absurd (false≢true (sym (get_or-replicate n k false false lt) ∙ ap (λ (ys : List Bool). get_or ys k false) (sym is) ∙ marked)),
    λ p. absurd (none k lt p),
  );
}

-- one more is told of
pub Marks-push : (P : ℕ → Type 0) (n : ℕ) (xs : List Bool) (b : Bool) → Marks P n xs → (b ≡ true) ↔ P n → Marks P (n + 1) (xs ++ b ∷ [])
Marks-push P n xs b is last = record { one_each = omega (arith, length-append xs (b ∷ []), is.one_each); exactly = at }
  where
    own : get_or (xs ++ b ∷ []) n false ≡ b
    own = get_or_push xs b false n is.one_each

    at : (k : ℕ) → k < n + 1 → IsMarked (xs ++ b ∷ []) k ↔ P k
    at k lt = elim (cases_eq k n) [
      | inl same ↦ (
        λ marked. subst P (sym same) (last.0 (sym own ∙ ap (λ (x : ℕ). get_or (xs ++ b ∷ []) x false) (sym same) ∙ marked)),
        λ p. ap (λ (x : ℕ). get_or (xs ++ b ∷ []) x false) same ∙ own ∙ last.1 (subst P same p),
      )
      | inr other ↦
          let earlier : k < n = omega (arith, lt, other) in
          let kept : get_or (xs ++ b ∷ []) k false ≡ get_or xs k false = get_or_append_left xs (b ∷ []) false k (omega (arith, earlier, is.one_each)) in
          (λ marked. (is.exactly k earlier).0 (sym kept ∙ marked), λ p. kept ∙ (is.exactly k earlier).1 p)
    ]

-- a number below i stands in this relation to k
abbrev pub SomeBelow : (ℕ → ℕ → Type 0) → ℕ → ℕ → Type 0
SomeBelow R i k = (m : ℕ) × (m < i) × R m k

-- i is looked at, and j is the only one to which it stands in the relation
pub Marks-one_more : (R : ℕ → ℕ → Type 0) (n i j : ℕ) (xs : List Bool) → ((k : ℕ) → R i k → k ≡ j) → R i j → j < n → Marks (SomeBelow R i) n xs → Marks (SomeBelow R (i + 1)) n (set xs j true)
Marks-one_more R n i j xs only here below is = Marks-set (SomeBelow R i) (SomeBelow R (i + 1)) n j xs others (i, omega arith, here) below is
  where
    others : (k : ℕ) → k < n → k ≢ j → SomeBelow R i k ↔ SomeBelow R (i + 1) k
    others k lt other = (
      λ some. (some.0, omega (arith, some.1), some.2),
      λ some. elim (cases_eq some.0 i) [
        | inl last ↦ absurd (other (only k (subst (λ (m : ℕ). R m k) last some.2)))
        | inr before ↦ (some.0, omega (arith, some.1, before), some.2)
      ],
    )

-- ---- lists of what is marked

-- one more is in the list
pub list-one_more : (P Q : ℕ → Type 0) (xs : List ℕ) (g : ℕ) → ((k : ℕ) → Contains xs k ↔ P k) → ((k : ℕ) → Q k ↔ (P k ⊎ (k ≡ g))) → (k : ℕ) → Contains (xs ++ g ∷ []) k ↔ Q k
list-one_more P Q xs g exactly more k = (
  λ there. elim (Contains-push_cases xs g k there) [
    | inl before ↦ (more k).1 (inl ((exactly k).0 before))
    | inr last ↦ (more k).1 (inr (sym last))
  ],
  λ q. elim ((more k).0 q) [
    | inl p ↦ Contains-append_left xs (g ∷ []) k ((exactly k).1 p)
    | inr same ↦ subst (Contains (xs ++ g ∷ [])) (sym same) (Contains-push xs g)
  ],
)

pub list-once_more : (P : ℕ → Type 0) (xs : List ℕ) (g : ℕ) → ((k : ℕ) → Contains xs k ↔ P k) → (¬ P g) → AllPairs (λ (j k : ℕ). j ≢ k) xs → AllPairs (λ (j k : ℕ). j ≢ k) (xs ++ g ∷ [])
list-once_more P xs g exactly not once =
    all_pairs_push (λ (j k : ℕ). j ≢ k) xs g once (λ k d lt same. not (subst P same ((exactly (get_or xs k d)).0 (Contains-get_or xs k d lt))))

-- g is marked and listed
pub Lists-add : (marks : List Bool) (xs : List ℕ) (g : ℕ) → g < length marks → (¬ IsMarked marks g) → Lists marks xs → Lists (set marks g true) (xs ++ g ∷ [])
Lists-add marks xs g below not is = record {
  exactly = list-one_more (IsMarked marks) (IsMarked (set marks g true)) xs g is.exactly more;
  once = list-once_more (IsMarked marks) xs g is.exactly not is.once;
}
  where
    own : IsMarked (set marks g true) g
    own = get_or-set_same marks g true false below

    more : (k : ℕ) → IsMarked (set marks g true) k ↔ (IsMarked marks k ⊎ (k ≡ g))
    more k = elim (cases_eq k g) [
      | inl same ↦ (λ marked. inr same, λ either. subst (IsMarked (set marks g true)) (sym same) own)
      | inr other ↦
          let kept : get_or (set marks g true) k false ≡ get_or marks k false = get_or-set_other marks g k true false other in (
            λ marked. inl (sym kept ∙ marked),
            λ either. elim either [ inl marked ↦ kept ∙ marked | inr same ↦ absurd (other same) ],
          )
    ]

-- ---- what no number below i stands in a relation to

not_more : (R : ℕ → ℕ → Type 0) (i k : ℕ) → (¬ R i k) → (¬ SomeBelow R i k) ↔ (¬ SomeBelow R (i + 1) k)
not_more R i k none = (
  λ no some. elim (cases_eq some.0 i) [
    | inl last ↦ none (subst (λ (m : ℕ). R m k) last some.2)
    | inr before ↦ no (some.0, omega (arith, some.1, before), some.2)
  ],
  λ no some. no (some.0, omega (arith, some.1), some.2),
)

-- i is looked at, and stands in the relation to none
pub Marks-none_less : (R : ℕ → ℕ → Type 0) (n i : ℕ) (xs : List Bool) → ((k : ℕ) → ¬ R i k) → Marks (λ (k : ℕ). ¬ SomeBelow R i k) n xs → Marks (λ (k : ℕ). ¬ SomeBelow R (i + 1) k) n xs
Marks-none_less R n i xs none is = Marks-as (λ (k : ℕ). ¬ SomeBelow R i k) (λ (k : ℕ). ¬ SomeBelow R (i + 1) k) n xs (λ k lt. not_more R i k (none k)) is

-- i is looked at, and j is the only one to which it stands in the relation
pub Marks-one_less : (R : ℕ → ℕ → Type 0) (n i j : ℕ) (xs : List Bool) → ((k : ℕ) → R i k → k ≡ j) → R i j → j < n → Marks (λ (k : ℕ). ¬ SomeBelow R i k) n xs
    → Marks (λ (k : ℕ). ¬ SomeBelow R (i + 1) k) n (set xs j false)
Marks-one_less R n i j xs only here below is =
    Marks-clear (λ (k : ℕ). ¬ SomeBelow R i k) (λ (k : ℕ). ¬ SomeBelow R (i + 1) k) n j xs (λ k lt other. not_more R i k (λ r. other (only k r))) (λ no. no (i, omega arith, here)) below is
