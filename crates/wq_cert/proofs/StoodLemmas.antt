-- Marks of items that are on a workqueue.
use Rattle.std.proofs.Common.{◌≡◌, ℕ, suc, ◌+◌, ◌<◌, ◌≤◌, ◌==◌, inl, inr, Bool, true, false, ◌||◌, List, [], ◌∷◌, ◌++◌, length, get_or, set, take, drop, refl, sym, ap, ◌∙◌, arith, append_assoc, append-nil, add-one}
use Rattle.std.specs.List.{All, list_any}
use Rattle.std.proofs.Math.Bool.{or-false}
use Rattle.std.proofs.Math.Seq.{take-suc, drop-cons}
use Rattle.std.proofs.lemmas.Bool.{cases_eq, eq-eqb, ne_eqb}
use Rattle.std.proofs.lemmas.List.{length-set, get_or-set_same, get_or-set_other, get_or_default, take_all, drop_all}
use Rattle.std.proofs.lemmas.List.Folds.{list_any-append}
use Rattle.std.proofs.lemmas.List.FromFn.{length-map-range_with_len, get_or-map-range_with_len, fill_by_all}
use Rattle.wq_cert.specs.Reading.{stands_in, has_stood}
use Rattle.wq_cert.specs.Noted.{marks}

-- ---- one more element

pub take_one : {X : Type 0} (xs : List X) (k : ℕ) (x : X) → k < length xs → x ≡ get_or xs k x → take (k + 1) xs ≡ take k xs ++ (x ∷ [])
take_one {X} xs k x lt at = ap (λ n. take n xs) (add-one k) ∙ take-suc xs k x lt ∙ ap (λ (y : X). take k xs ++ (y ∷ [])) (sym at)

pub drop_one : {X : Type 0} (xs : List X) (k : ℕ) (x : X) → k < length xs → x ≡ get_or xs k x → drop k xs ≡ x ∷ drop (k + 1) xs
drop_one {X} xs k x lt at = drop-cons xs k x lt ∙ ap (λ (y : X). y ∷ drop (suc k) xs) (sym at) ∙ ap (λ n. x ∷ drop n xs) (sym (add-one k))

pub any_push : {X : Type 0} (p : X → Bool) (xs : List X) (x : X) → list_any p (xs ++ (x ∷ [])) ≡ (list_any p xs || p x)
any_push p xs x = list_any-append p xs (x ∷ []) ∙ ap (λ b. list_any p xs || b) (or-false (p x))

pub or_true : (b : Bool) → (b || true) ≡ true
or_true true = refl
or_true false = refl

-- ---- marks

pub length-marks : (n : ℕ) (items : List ℕ) → length (marks n items) ≡ n
length-marks n items = length-map-range_with_len (stands_in items) 0 n

pub get_or-marks : (n : ℕ) (items : List ℕ) (k : ℕ) (d : Bool) → k < n → get_or (marks n items) k d ≡ stands_in items k
get_or-marks n items k d lt = get_or-map-range_with_len (stands_in items) 0 n k k d lt (omega arith)

-- one more item is there
marks-set : (n : ℕ) (items : List ℕ) (x : ℕ) → x < n → set (marks n items) x true ≡ marks n (items ++ (x ∷ []))
marks-set n items x within =
    fill_by_all (stands_in (items ++ (x ∷ []))) (set (marks n items) x true) n true (length-set (marks n items) x true ∙ length-marks n items) at
  where
    at : (k : ℕ) → k < n → get_or (set (marks n items) x true) k true ≡ stands_in (items ++ (x ∷ [])) k
    at k lt = elim (cases_eq k x) [
      | inl same ↦
          ap (λ i. get_or (set (marks n items) x true) i true) same ∙ get_or-set_same (marks n items) x true true (omega (arith, within, length-marks n items))
          ∙ sym (any_push (λ j. k == j) items x ∙ ap (λ b. stands_in items k || b) (eq-eqb k x same) ∙ or_true (stands_in items k))
      | inr other ↦
          get_or-set_other (marks n items) x k true true other ∙ get_or-marks n items k true lt
          ∙ sym (any_push (λ j. k == j) items x ∙ ap (λ b. stands_in items k || b) (ne_eqb k x other) ∙ or-false (stands_in items k))
    ]

-- ---- marking

-- the first k items are marked, and none of them was
pub record Marked (old new : List Bool) (items : List ℕ) (k : ℕ) : Type 0 where
  pub long : length new ≡ length old
  pub marked : (n : ℕ) (before : List ℕ) → old ≡ marks n before → new ≡ marks n (before ++ take k items)
  pub fresh : (n : ℕ) (before : List ℕ) → old ≡ marks n before → has_stood before items ≡ has_stood (before ++ take k items) (drop k items)

pub Marked-none : (stood : List Bool) (items : List ℕ) → Marked stood stood items 0
Marked-none stood items = record {
  long = refl;
  marked = λ n before is. is ∙ ap (marks n) (sym (append-nil before));
  fresh = λ n before is. ap (λ (front : List ℕ). has_stood front items) (sym (append-nil before));
}

-- item x is the next
pub record NextItem (old new : List Bool) (items : List ℕ) (k x : ℕ) (is_marked : Bool) : Type 0 where
  pub within : k < length items
  pub item : x ≡ get_or items k x
  pub few : x < length new
  pub mark : is_marked ≡ get_or new x is_marked

pub NextItem-read : (old new : List Bool) (items : List ℕ) (k x read : ℕ) (is_marked : Bool) → k < length items → x ≡ read → read ≡ get_or items k read → All (λ i. i < length old) items → Marked old new items k
    → is_marked ≡ get_or new x is_marked → NextItem old new items k x is_marked
NextItem-read old new items k x read is_marked within same at few h mark =
    let item : x ≡ get_or items k x = same ∙ at ∙ get_or_default items k read x within in
    record { within = within; item = item; few = omega (arith, item, few k x within, h.long); mark = mark }

module _ (old new : List Bool) (items : List ℕ) (k x : ℕ) (is_marked : Bool) (next : NextItem old new items k x is_marked) (h : Marked old new items k) where
  few_marks : (n : ℕ) (before : List ℕ) → old ≡ marks n before → x < n
  few_marks n before is = omega (arith, next.few, ap length (h.marked n before is), length-marks n (before ++ take k items))

  stands : (n : ℕ) (before : List ℕ) → old ≡ marks n before → is_marked ≡ stands_in (before ++ take k items) x
  stands n before is =
      next.mark ∙ ap (λ (ms : List Bool). get_or ms x is_marked) (h.marked n before is) ∙ get_or-marks n (before ++ take k items) x is_marked (few_marks n before is)

  next_stood : (n : ℕ) (before : List ℕ) → old ≡ marks n before → has_stood before items ≡ (is_marked || has_stood ((before ++ take k items) ++ (x ∷ [])) (drop (k + 1) items))
  next_stood n before is =
      h.fresh n before is ∙ ap (has_stood (before ++ take k items)) (drop_one items k x next.within next.item)
      ∙ ap (λ b. b || has_stood ((before ++ take k items) ++ (x ∷ [])) (drop (k + 1) items)) (sym (stands n before is))

  pub Marked-twice : is_marked ≡ true → (n : ℕ) (before : List ℕ) → old ≡ marks n before → has_stood before items ≡ true
  Marked-twice twice n before is = next_stood n before is ∙ ap (λ b. b || has_stood ((before ++ take k items) ++ (x ∷ [])) (drop (k + 1) items)) twice

  front_grows : (before : List ℕ) → (before ++ take k items) ++ (x ∷ []) ≡ before ++ take (k + 1) items
  front_grows before = append_assoc before (take k items) (x ∷ []) ∙ ap (λ (front : List ℕ). before ++ front) (sym (take_one items k x next.within next.item))

  pub Marked-more : is_marked ≡ false → Marked old (set new x true) items (k + 1)
  Marked-more once = record {
    long = length-set new x true ∙ h.long;
    marked = λ n before is.
        ap (λ (ms : List Bool). set ms x true) (h.marked n before is) ∙ marks-set n (before ++ take k items) x (few_marks n before is) ∙ ap (marks n) (front_grows before);
    fresh = λ n before is.
        next_stood n before is ∙ ap (λ b. b || has_stood ((before ++ take k items) ++ (x ∷ [])) (drop (k + 1) items)) once
        ∙ ap (λ (front : List ℕ). has_stood front (drop (k + 1) items)) (front_grows before);
  }

pub Marked-all : (old new : List Bool) (items : List ℕ) (k : ℕ) → length items ≤ k → Marked old new items k → (n : ℕ) (before : List ℕ) → old ≡ marks n before → new ≡ marks n (before ++ items)
Marked-all old new items k all h n before is = h.marked n before is ∙ ap (λ (front : List ℕ). marks n (before ++ front)) (take_all k items all)
