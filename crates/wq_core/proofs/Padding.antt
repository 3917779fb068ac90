-- Places of helpers that a lane may have, and doesn't have.
use Rattle.std.proofs.Common.{◌≡◌, ℕ, zero, suc, ◌+◌, ◌-◌, ◌<◌, ◌≤◌, ◌⊎◌, inl, inr, Bool, true, false, ◌||◌, List, [], ◌∷◌, ◌++◌, length, get_or, set, replicate, Option, Some, None, refl, sym, ap, subst, ◌∙◌, arith}
use Rattle.std.specs.Prelude.{Contains, if◌then◌else◌, IfSome, IfNone, is_some, slice_get}
use Rattle.std.specs.List.{All, list_any}
use Rattle.std.proofs.lemmas.Bool.{cases_lt}
use Rattle.std.proofs.lemmas.List.{length-replicate, length-set, get_or_past, get_or_default}
use Rattle.wq_core.specs.declared.entry.Entry.{Entry}
use Rattle.wq_core.specs.declared.entry.Running.{Running}
use Rattle.wq_core.specs.State.{Lane, with_run_by, IsRunOn, IsBusy}
use Rattle.wq_core.specs.Held.{padded, IsRunAmong}
use Rattle.wq_core.proofs.Contexts.{none_there}
use Rattle.wq_core.proofs.LaneLemmas.{Contains-nil}

padding : (xs : List (Option Running)) (n h : ℕ) → get_or (xs ++ replicate n None) h None ≡ get_or xs h None
padding [] n h = none_there n h
padding (x ∷ xs) n zero = refl
padding (x ∷ xs) n (suc h) = padding xs n h

pub get-padded : (xs : List (Option Running)) (h : ℕ) → get_or (padded xs) h None ≡ get_or xs h None
get-padded xs h = padding xs (8 - length xs) h

set-front : (xs : List (Option Running)) (n h : ℕ) (o : Option Running) → h < length xs → set (xs ++ replicate n None) h o ≡ set xs h o ++ replicate n None
set-front [] n h o lt = absurd (omega arith)
set-front (x ∷ xs) n zero o lt = refl
set-front (x ∷ xs) n (suc h) o lt = ap (λ (ys : List (Option Running)). x ∷ ys) (set-front xs n h o (omega arith))

pub set-padded : (xs : List (Option Running)) (h : ℕ) (o : Option Running) → h < length xs → set (padded xs) h o ≡ padded (set xs h o)
set-padded xs h o lt = set-front xs (8 - length xs) h o lt ∙ ap (λ n. set xs h o ++ replicate n None) (omega (arith, length-set xs h o))

-- what passes a test that nothing passes by running nothing
module _ (p : Option Running → Bool) (nothing : p None ≡ false) where
  none-any : (n : ℕ) → list_any p (replicate n None) ≡ false
  none-any zero = refl
  none-any (suc n) = ap (λ (b : Bool). b || list_any p (replicate n None)) nothing ∙ none-any n

  any-front : (xs : List (Option Running)) (n : ℕ) → list_any p (xs ++ replicate n None) ≡ list_any p xs
  any-front [] n = none-any n
  any-front (x ∷ xs) n = ap (λ (b : Bool). p x || b) (any-front xs n)

  pub any-padded : (xs : List (Option Running)) → list_any p (padded xs) ≡ list_any p xs
  any-padded xs = any-front xs (8 - length xs)

pub padded-none : (k : ℕ) → k ≤ 8 → padded (replicate k None) ≡ replicate 8 None
padded-none k le =
    let n : ℕ = 8 - length (replicate {A = Option Running} k None) in
    let size : length (replicate {A = Option Running} k None) ≡ k = length-replicate {A = Option Running} k None in
    let e : k + n ≡ 8 = omega (arith, size, le) in
    joined k n ∙ ap (λ m. replicate {A = Option Running} m None) e
  where
    joined : (m n : ℕ) → replicate {A = Option Running} m None ++ replicate n None ≡ replicate (m + n) None
    joined zero n = let e : n ≡ 0 + n = omega arith in ap (λ k. replicate {A = Option Running} k None) e
    joined (suc m) n =
        let e : suc (m + n) ≡ suc m + n = omega arith in
        ap (λ (xs : List (Option Running)). None ∷ xs) (joined m n) ∙ ap (λ k. replicate {A = Option Running} k None) e

pub count-few : (b : Bool) (n : ℕ) → (if b then 0 else n) ≤ n
count-few true n = omega arith
count-few false n = omega arith

-- ---- a lane with its helpers' places

module _ (ps : List Entry) (o : Option Running) (hs : List (Option Running)) where
  abbrev lane : Lane
  lane = record { pending = ps; running = o; helping = padded hs }

  -- what one context runs is written
  pub with_run_by-rescuer : (c : ℕ) (new : Option Running) → c ≡ 0 → record { pending = ps; running = new; helping = padded hs } ≡ with_run_by lane c new
  with_run_by-rescuer c new is = ap (λ (k : ℕ). with_run_by lane k new) (sym is)

  pub with_run_by-helper : (c h : ℕ) (new : Option Running) → c ≡ suc h → h < length hs → record { pending = ps; running = o; helping = padded (set hs h new) } ≡ with_run_by lane c new
  with_run_by-helper c h new is lt =
      ap (λ (xs : List (Option Running)). record { pending = ps; running = o; helping = xs }) (sym (set-padded hs h new lt)) ∙ ap (λ (k : ℕ). with_run_by lane k new) (sym is)

  -- what runs, is run by the rescuer or by a helper
  pub IsRunOn-helper : (e : Entry) → IsRunAmong hs e → IsRunOn lane e
  IsRunOn-helper e (h, r, runs, same) = (suc h, r, get-padded hs h ∙ runs, same)

  pub cases_run_on : (e : Entry) → IsRunOn lane e → ((r : Running) × (o ≡ Some r) × (r.entry ≡ e)) ⊎ IsRunAmong hs e
  cases_run_on e (zero, r, runs, same) = inl (r, runs, same)
  cases_run_on e (suc h, r, runs, same) = inr (h, r, sym (get-padded hs h) ∙ runs, same)

  -- what a helper runs is what runs, if the rescuer runs nothing so low
  pub running-some : (mark : ℕ) (found : Option Entry) → IfSome found (λ (e : Entry). IsRunAmong hs e × (e.number < mark)) → IfSome found (λ (e : Entry). IsRunOn lane e × (e.number < mark))
  running-some mark None some = some
  running-some mark (Some e) some = (IsRunOn-helper e some.0, some.1)

  pub running-none : (mark : ℕ) → ((r : Running) → o ≡ Some r → ¬ (r.entry.number < mark)) → (found : Option Entry) → IfNone found ((e : Entry) → IsRunAmong hs e → ¬ (e.number < mark))
      → IfNone found ((e : Entry) → IsRunOn lane e → ¬ (e.number < mark))
  running-none mark low (Some x) none = none
  running-none mark low None none = λ e runs below. elim (cases_run_on e runs) [
    | inl (r, is, same) ↦ low r is (subst (λ (f : Entry). f.number < mark) (sym same) below)
    | inr among ↦ none e among below
  ]

  -- nothing is unfinished where nothing is pending and nothing runs
  pub idle-not_busy : ps ≡ [] → o ≡ None → All (λ (x : Option Running). x ≡ None) hs → ¬ IsBusy lane
  idle-not_busy empty idle all (e, inl pending) = Contains-nil e (subst (λ (es : List Entry). Contains es e) empty pending)
  idle-not_busy empty idle all (e, inr runs) = elim (cases_run_on e runs) [
    | inl (r, is, same) ↦ (let never : None ≡ Some r = sym idle ∙ is in cc)
    | inr (h, r, is, same) ↦ never_there hs all h r is
  ]
    where
      never_there : (xs : List (Option Running)) → All (λ (x : Option Running). x ≡ None) xs → (h : ℕ) (r : Running) → ¬ (get_or xs h None ≡ Some r)
      never_there xs each h r is = elim (cases_lt h (length xs)) [
        | inl within ↦ (let never : None ≡ Some r = sym (each h None within) ∙ is in cc)
        | inr past ↦ (let never : None ≡ Some r = sym (get_or_past xs h None past) ∙ is in cc)
      ]

  not_busy-pending : (¬ IsBusy lane) → ps ≡ []
  not_busy-pending none = by ps refl
    where
      by : (es : List Entry) → ps ≡ es → ps ≡ []
      by [] is = is
      by (e ∷ es) is = absurd (none (e, inl (subst (λ (xs : List Entry). Contains xs e) (sym is) (0, omega arith, refl))))

  not_busy-running : (¬ IsBusy lane) → o ≡ None
  not_busy-running none = by o refl
    where
      by : (x : Option Running) → o ≡ x → o ≡ None
      by None is = is
      by (Some r) is = absurd (none (r.entry, inr (0, r, is, refl)))

  not_busy-helping : (¬ IsBusy lane) → All (λ (x : Option Running). x ≡ None) hs
  not_busy-helping none h d lt = by (get_or hs h d) refl
    where
      by : (x : Option Running) → get_or hs h d ≡ x → get_or hs h d ≡ None
      by None is = is
      by (Some r) is = absurd (none (r.entry, inr (suc h, r, get-padded hs h ∙ get_or_default hs h None d lt ∙ is, refl)))

  pub not_busy-idle : (¬ IsBusy lane) → (ps ≡ []) × (o ≡ None) × All (λ (x : Option Running). x ≡ None) hs
  not_busy-idle none = (not_busy-pending none, not_busy-running none, not_busy-helping none)

-- ---- whether something is unfinished

pub busy-first : (own : Lane) (first : Option Entry) → first ≡ slice_get own.pending 0 → (b : Bool) → b ≡ is_some first → b ≡ true → IsBusy own
busy-first own first is b test passes = by own.pending refl first is test
  where
    by : (ps : List Entry) → own.pending ≡ ps → (o : Option Entry) → o ≡ slice_get own.pending 0 → b ≡ is_some o → IsBusy own
    by ps at None none not_so = absurd (let never : true ≡ false = sym passes ∙ not_so in cc)
    by [] at (Some e) there not_so = absurd (let never : Some e ≡ None = there ∙ ap (λ (es : List Entry). slice_get es 0) at in cc)
    by (p ∷ ps) at (Some e) there not_so = (p, inl (subst (λ (es : List Entry). Contains es p) (sym at) (0, omega arith, refl)))

pub no_first : (ps : List Entry) (first : Option Entry) → first ≡ slice_get ps 0 → (b : Bool) → b ≡ is_some first → b ≡ false → ps ≡ []
no_first [] first is b test not_so = refl
no_first (p ∷ ps) first is b test not_so = absurd (let never : false ≡ true = sym not_so ∙ test ∙ ap is_some is in cc)

pub busy-running : (own : Lane) (o : Option Running) → own.running ≡ o → (b : Bool) → b ≡ is_some o → b ≡ true → IsBusy own
busy-running own None is b test passes = absurd (let never : true ≡ false = sym passes ∙ test in cc)
busy-running own (Some r) is b test passes = (r.entry, inr (0, r, is, refl))

pub no_running : (o : Option Running) (b : Bool) → b ≡ is_some o → b ≡ false → o ≡ None
no_running None b test not_so = refl
no_running (Some r) b test not_so = absurd (let never : false ≡ true = sym not_so ∙ test in cc)
