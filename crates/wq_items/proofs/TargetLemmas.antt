-- Going through the words of a `flush` or an `ordered` line: how many were known, and what the targets of a flush added.
use Rattle.std.proofs.Common.{◌≡◌, false, ℕ, zero, suc, ◌+◌, ◌<◌, List, [], ◌∷◌, ◌++◌, length, set, Option, Some, None}
use Rattle.std.proofs.Common.{refl, sym, ap, ◌∙◌, arith, append_assoc, append-nil}
use Rattle.std.specs.Prelude.{option_map}
use Rattle.std.proofs.lemmas.List.{get_or-set_same, length-append, set-get_or}
use Rattle.wq_text.specs.Words.{WordView}
use Rattle.wq_items.specs.declared.target.Target.{Target}
use Rattle.wq_items.specs.Table.{item_named, targets_of}
use Rattle.wq_items.specs.Building.{of_item, items_named, and_item, targets_from}

-- ---- counting

-- `count` words were known so far, and `rest` of all the words are left
pub record Counted (names : List (List ℕ)) (count : ℕ) (rest words : List WordView) : Type 0 where
  pub known : option_map (λ (is : List ℕ). count + length is) (items_named names rest) ≡ option_map length
      (items_named names words)
  pub all : count + length rest ≡ length words

-- ---- adding

-- `rest` of all the words are left, and the items of those before it were added to those of one item
pub record Added (names : List (List ℕ)) (old new : List (List Target)) (item first place : ℕ)
    (rest words : List WordView) : Type 0 where
  pub front : List ℕ
  pub known : option_map (λ (is : List ℕ). front ++ is) (items_named names rest) ≡ items_named names words
  pub lists : new ≡ set old item (targets_of old item ++ targets_from of_item first front)
  pub next : place ≡ first + length front
  pub all : length front + length rest ≡ length words

pub targets_from-append : (place : ℕ) (is js : List ℕ)
    → targets_from of_item place (is ++ js) ≡ targets_from of_item place is
    ++ targets_from of_item (place + length is) js
targets_from-append place [] js = ap (λ (p : ℕ). targets_from of_item p js) (omega arith)
targets_from-append place (i ∷ is) js =
    let t : Target = record { item = i; whole = false; unsure = false; place = place } in
    ap (λ (ts : List Target). t ∷ ts) (targets_from-append (place + 1) is js
    ∙ ap (λ (p : ℕ). targets_from of_item (place + 1) is ++ targets_from of_item p js) (omega arith))

set-set : {X : Type 0} (xs : List X) (i : ℕ) (a b : X) → set (set xs i a) i b ≡ set xs i b
set-set [] i a b = refl
set-set (x ∷ xs) zero a b = refl
set-set (x ∷ xs) (suc i) a b = ap (λ (ys : List _). x ∷ ys) (set-set xs i a b)

one_in_front : (i : ℕ) (front : List ℕ) (o : Option (List ℕ))
    → option_map (λ (is : List ℕ). (front ++ (i ∷ [])) ++ is) o ≡ option_map (λ (is : List ℕ). front ++ is)
    (and_item (Some i) o)
one_in_front i front None = refl
one_in_front i front (Some is) = ap (λ (ys : List ℕ). Some ys) (append_assoc front (i ∷ []) is)

kept : (o : Option (List ℕ)) → option_map (λ (is : List ℕ). [] ++ is) o ≡ o
kept None = refl
kept (Some is) = refl

-- before the first word nothing was added
pub Added-none : (names : List (List ℕ)) (old : List (List Target)) (item place : ℕ) (rest words : List WordView)
    → rest ≡ words → Added names old old item place place rest words
Added-none names old item place rest words same = record {
  front = [];
  known = kept (items_named names rest) ∙ ap (λ (ws : List WordView). items_named names ws) same;
  lists = sym (ap (set old item) (append-nil (targets_of old item)) ∙ set-get_or old item []);
  next = omega arith;
  all = omega (arith, ap length same);
}

pub Added-more : (names : List (List ℕ)) (old mid new : List (List Target)) (item first place : ℕ) (w : WordView)
    (rest words : List WordView) (i : ℕ) → item < length old
    → item_named names w.bytes ≡ Some i → new ≡ set mid item
    (targets_of mid item ++ (record { item = i; whole = false; unsure = false; place = place } ∷ []))
    → Added names old mid item first place (w ∷ rest) words
    → Added names old new item first (place + 1) rest words
Added-more names old mid new item first place w rest words i within found grown h =
    let t : Target = record { item = i; whole = false; unsure = false; place = place } in
    let before = targets_of old item ++ targets_from of_item first h.front in
    let stood : targets_of mid item ≡ before = ap (λ (m : List (List Target)). targets_of m item) h.lists
    ∙ get_or-set_same old item before [] within in
    let one : targets_from of_item (first + length h.front) (i ∷ []) ≡ t ∷ [] =
    ap (λ (p : ℕ). record { item = i; whole = false; unsure = false; place = p } ∷ []) (sym h.next) in
    record {
      front = h.front ++ (i ∷ []);
      known = one_in_front i h.front (items_named names rest)
          ∙ ap (λ (o : Option ℕ). option_map (λ (is : List ℕ). h.front ++ is) (and_item o (items_named names rest)))
          (sym found) ∙ h.known;
      lists = grown ∙ ap (λ (ts : List Target). set mid item (ts ++ (t ∷ []))) stood
          ∙ ap (λ (m : List (List Target)). set m item (before ++ (t ∷ []))) h.lists
          ∙ set-set old item before (before ++ (t ∷ []))
          ∙ ap (set old item) (append_assoc (targets_of old item) (targets_from of_item first h.front) (t ∷ [])
          ∙ ap (λ (ts : List Target). targets_of old item ++ ts)
          (sym (targets_from-append first h.front (i ∷ [])
          ∙ ap (λ (ts : List Target). targets_from of_item first h.front ++ ts) one)));
      next = omega (arith, h.next, length-append h.front (i ∷ []));
      all = omega (arith, h.all, length-append h.front (i ∷ []));
    }
