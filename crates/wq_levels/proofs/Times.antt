-- How often numbers are in lists, and how many arcs lead to taken vertices.
use Rattle.std.proofs.Common.{◌≡◌, ◌≢◌, ℕ, zero, suc, ◌+◌, ◌<◌, ◌≤◌, ◌==◌, inl, inr, cond, List, [], ◌∷◌, ◌++◌, length, take, slice_index, refl, sym, subst, ap, ◌∙◌, arith}
use Rattle.std.specs.Prelude.{Contains}
use Rattle.std.specs.List.{All, Any, sum_by}
use Rattle.std.proofs.lemmas.Bool.{cases_eq, cases_lt, cond-true, cond-false, eq-eqb, ne_eqb}
use Rattle.std.proofs.lemmas.List.{get_or_default, get_or_append_left, get_or_push, length-append}
use Rattle.std.proofs.lemmas.List.Elements.{All-nil, All-cons, Contains-get_or}
use Rattle.std.proofs.lemmas.List.Sums.{sum_by-cons, sum_by_push, sum_by-take-le, count_by_more_yes}
use Rattle.wq_items.specs.Chain.{Repeats}
use Rattle.wq_items.proofs.Lists.{Contains-later}
use Rattle.wq_graph.proofs.ListLemmas.{Contains-cases}
use Rattle.wq_graph.specs.declared.arc.WaitArc.{WaitArc}
use Rattle.wq_levels.specs.Taking.{times, arcs_to}

-- ---- one more

pub times-cons : (x v : ℕ) (xs : List ℕ) → times (x ∷ xs) v ≡ cond (x == v) 1 0 + times xs v
times-cons x v xs = sum_by-cons (λ (u : ℕ). cond (u == v) 1 0) x xs

pub times-own : (x v : ℕ) (xs : List ℕ) → x ≡ v → times (x ∷ xs) v ≡ times xs v + 1
times-own x v xs same = omega (arith, times-cons x v xs, cond-true {A = ℕ} (x == v) 1 0 (eq-eqb x v same))

pub times-other : (x v : ℕ) (xs : List ℕ) → x ≢ v → times (x ∷ xs) v ≡ times xs v
times-other x v xs other = omega (arith, times-cons x v xs, cond-false {A = ℕ} (x == v) 1 0 (ne_eqb x v other))

times-push : (xs : List ℕ) (x v : ℕ) → times (xs ++ (x ∷ [])) v ≡ times xs v + cond (x == v) 1 0
times-push xs x v = sum_by_push (λ (u : ℕ). cond (u == v) 1 0) xs x

pub times-push_other : (xs : List ℕ) (x v : ℕ) → x ≢ v → times (xs ++ (x ∷ [])) v ≡ times xs v
times-push_other xs x v other = omega (arith, times-push xs x v, cond-false {A = ℕ} (x == v) 1 0 (ne_eqb x v other))

pub arcs_to-cons : (a : WaitArc) (arcs : List WaitArc) (w : ℕ) → arcs_to (a ∷ arcs) w ≡ cond (a.head == w) 1 0 + arcs_to arcs w
arcs_to-cons a arcs w = sum_by-cons (λ (b : WaitArc). cond (b.head == w) 1 0) a arcs

-- ---- the first ones

pub times-take : (xs : List ℕ) (i v : ℕ) → times (take i xs) v ≤ times xs v
times-take xs i v = sum_by-take-le (λ (u : ℕ). cond (u == v) 1 0) xs i

-- before an element it is in the list less often than in the whole list
pub times_before : (xs : List ℕ) (i : ℕ) → i < length xs → times (take i xs) (slice_index xs i) < times xs (slice_index xs i)
times_before xs i inside =
    let v : ℕ = slice_index xs i in
    let more : times (take (i + 1) xs) v ≡ times (take i xs) v + 1 = count_by_more_yes (λ (u : ℕ). u == v) xs i 0 inside (eq-eqb (slice_index xs i) v refl) in
    omega (arith, more, times-take xs (i + 1) v)

-- ---- whether there is one

pub Contains-times : (xs : List ℕ) (v : ℕ) → 0 < times xs v → Contains xs v
Contains-times [] v some = absurd (omega (arith, some))
Contains-times (x ∷ xs) v some = elim (cases_eq x v) [
  | inl same ↦ (0, omega arith, same)
  | inr other ↦ Contains-later x xs v (Contains-times xs v (omega (arith, some, times-other x v xs other)))
]

pub times-some : (xs : List ℕ) (v : ℕ) → Contains xs v → 0 < times xs v
times-some [] v has = absurd (omega (arith, has.1))
times-some (x ∷ xs) v has = elim (cases_eq x v) [
  | inl same ↦ omega (arith, times-own x v xs same)
  | inr other ↦ elim (Contains-cases x xs v has) [
    | inl is ↦ absurd (other is)
    | inr later ↦ omega (arith, times-other x v xs other, times-some xs v later)
  ]
]

pub arcs_to-found : (arcs : List WaitArc) (w : ℕ) → 0 < arcs_to arcs w → Any (λ (a : WaitArc). a.head ≡ w) arcs
arcs_to-found [] w some = absurd (omega (arith, some))
arcs_to-found (a ∷ arcs) w some = elim (cases_eq a.head w) [
  | inl same ↦ (0, a, omega arith, refl, same)
  | inr other ↦
      let later = arcs_to-found arcs w (omega (arith, some, arcs_to-cons a arcs w, cond-false {A = ℕ} (a.head == w) 1 0 (ne_eqb a.head w other))) in
      (suc later.0, later.1, omega (arith, later.2), later.3, later.4)
]

pub arcs_to-some : (arcs : List WaitArc) (w : ℕ) → Any (λ (a : WaitArc). a.head ≡ w) arcs → 0 < arcs_to arcs w
arcs_to-some [] w found = absurd (omega (arith, found.2))
arcs_to-some (a ∷ arcs) w (zero, b, fits, at, head) =
    omega (arith, arcs_to-cons a arcs w, cond-true {A = ℕ} (a.head == w) 1 0 (eq-eqb a.head w (ap (λ (x : WaitArc). x.head) at ∙ head)))
arcs_to-some (a ∷ arcs) w (suc k, b, fits, at, head) =
    omega (arith, arcs_to-cons a arcs w, arcs_to-some arcs w (k, b, omega (arith, fits), at, head))

-- ---- lists that hold nothing twice

Repeats-later : (x : ℕ) (xs : List ℕ) → Repeats xs → Repeats (x ∷ xs)
Repeats-later x xs (i, j, less, within, same) = (suc i, suc j, omega (arith, less), omega (arith, within), same)

Repeats-first : (x : ℕ) (xs : List ℕ) → Contains xs x → Repeats (x ∷ xs)
Repeats-first x xs (k, within, is) = (0, suc k, omega arith, omega (arith, within), sym (get_or_default xs k 0 x within ∙ is))

pub Repeats-append_left : (xs ys : List ℕ) → Repeats xs → Repeats (xs ++ ys)
Repeats-append_left xs ys (i, j, less, within, same) = (
  i,
  j,
  less,
  omega (arith, within, length-append xs ys),
  get_or_append_left xs ys 0 i (omega (arith, less, within)) ∙ same ∙ sym (get_or_append_left xs ys 0 j within),
)

pub once-push : (xs : List ℕ) (x : ℕ) → ¬ Contains xs x → ¬ Repeats xs → ¬ Repeats (xs ++ (x ∷ []))
once-push xs x new once (i, j, less, within, same) =
    let before : i < length xs = omega (arith, less, within, length-append xs (x ∷ [])) in
    let at_i = get_or_append_left xs (x ∷ []) 0 i before in
    elim (cases_lt j (length xs)) [
      | inl earlier ↦ once (i, j, less, earlier, sym at_i ∙ same ∙ get_or_append_left xs (x ∷ []) 0 j earlier)
      | inr last ↦
          let end : length xs ≡ j = omega (arith, last, within, length-append xs (x ∷ [])) in
          new (subst (Contains xs) (sym at_i ∙ same ∙ get_or_push xs x 0 j end) (Contains-get_or xs i 0 before))
    ]

times-once : (xs : List ℕ) (v : ℕ) → ¬ Repeats xs → times xs v ≤ 1
times-once [] v once = omega arith
times-once (x ∷ xs) v once = elim (cases_eq x v) [
  | inl same ↦ elim (cases_lt 0 (times xs v)) [
    | inl again ↦ absurd (once (Repeats-first x xs (subst (Contains xs) (sym same) (Contains-times xs v again))))
    | inr none ↦ omega (arith, times-own x v xs same, none)
  ]
  | inr other ↦ omega (arith, times-other x v xs other, times-once xs v (λ again. once (Repeats-later x xs again)))
]

-- ---- arcs to taken vertices

-- how many of these arcs lead to one of these vertices, which differ
abbrev pub gone : List ℕ → List WaitArc → ℕ
gone taken arcs = sum_by (λ (a : WaitArc). times taken a.head) arcs

gone-cons : (taken : List ℕ) (a : WaitArc) (arcs : List WaitArc) → gone taken (a ∷ arcs) ≡ times taken a.head + gone taken arcs
gone-cons taken a arcs = sum_by-cons (λ (b : WaitArc). times taken b.head) a arcs

pub gone-none : (arcs : List WaitArc) → gone [] arcs ≡ 0
gone-none [] = refl
gone-none (a ∷ arcs) = omega (arith, gone-cons [] a arcs, gone-none arcs)

-- one more vertex is taken
pub gone-more : (taken : List ℕ) (w : ℕ) (arcs : List WaitArc) → gone (taken ++ (w ∷ [])) arcs ≡ gone taken arcs + arcs_to arcs w
gone-more taken w [] = refl
gone-more taken w (a ∷ arcs) =
    let new = gone-cons (taken ++ (w ∷ [])) a arcs in
    let old = gone-cons taken a arcs in
    let to = arcs_to-cons a arcs w in
    let rest = gone-more taken w arcs in
    elim (cases_eq w a.head) [
      | inl same ↦
          let one : times (taken ++ (w ∷ [])) a.head ≡ times taken a.head + 1 =
          omega (arith, times-push taken w a.head, cond-true {A = ℕ} (w == a.head) 1 0 (eq-eqb w a.head same)) in
          omega (arith, new, old, to, rest, one, cond-true {A = ℕ} (a.head == w) 1 0 (eq-eqb a.head w (sym same)))
      | inr other ↦
          let one : times (taken ++ (w ∷ [])) a.head ≡ times taken a.head = times-push_other taken w a.head other in
          omega (arith, new, old, to, rest, one, cond-false {A = ℕ} (a.head == w) 1 0 (ne_eqb a.head w (λ same. other (sym same))))
    ]

pub gone-few : (taken : List ℕ) (arcs : List WaitArc) → ¬ Repeats taken → gone taken arcs ≤ length arcs
gone-few taken [] once = omega arith
gone-few taken (a ∷ arcs) once = omega (arith, gone-cons taken a arcs, times-once taken a.head once, gone-few taken arcs once)

pub gone-all : (taken : List ℕ) (arcs : List WaitArc) → ¬ Repeats taken → length arcs ≤ gone taken arcs → All (λ (a : WaitArc). Contains taken a.head) arcs
gone-all taken [] once all = All-nil (λ (a : WaitArc). Contains taken a.head)
gone-all taken (a ∷ arcs) once all =
    let own = gone-cons taken a arcs in
    let one = times-once taken a.head once in
    let few = gone-few taken arcs once in
    All-cons (λ (b : WaitArc). Contains taken b.head) a arcs (Contains-times taken a.head (omega (arith, all, own, few)))
    (gone-all taken arcs once (omega (arith, all, own, one)))

pub gone-less : (taken : List ℕ) (arcs : List WaitArc) → gone taken arcs < length arcs → Any (λ (a : WaitArc). ¬ Contains taken a.head) arcs
gone-less taken [] less = absurd (omega (arith, less))
gone-less taken (a ∷ arcs) less = elim (cases_lt 0 (times taken a.head)) [
  | inl some ↦
      let later = gone-less taken arcs (omega (arith, less, gone-cons taken a arcs, some)) in
      (suc later.0, later.1, omega (arith, later.2), later.3, later.4)
  | inr none ↦ (0, a, omega arith, refl, λ has. absurd (omega (arith, none, times-some taken a.head has)))
]
