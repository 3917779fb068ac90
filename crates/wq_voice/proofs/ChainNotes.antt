-- The note beside a plan whose chain follows unsure flushes: the lines of its waits.
use Rattle.std.proofs.Common.{◌≡◌, ◌<◌, ◌+◌, ℕ, Bool, true, false, cond, List, [], ◌∷◌, ◌++◌, length, take, get_or}
use Rattle.std.proofs.Common.{Option, Some, None, append_assoc, refl, sym, ap, ◌∙◌, arith}
use Rattle.std.specs.Prelude.{◌==◌, ◌&&◌, not, find, filter_map, flat_map}
use Rattle.std.specs.List.{list_any}
use Rattle.std.proofs.lemmas.Bool.{eqb-true}
use Rattle.std.proofs.lemmas.List.{length-append, take_more}
use Rattle.std.proofs.lemmas.List.Concat.{flat_map-append}
use Rattle.std.proofs.lemmas.List.Elements.{filter_map-append}
use Rattle.wq_text.specs.LineText.{line_text}
use Rattle.wq_items.specs.declared.target.Target.{Target}
use Rattle.wq_items.specs.Table.{targets_of}
use Rattle.wq_voice.specs.Chain.{unsure_flush}

-- ---- the flush of a wait

-- the flush that is found is of the target
found_item : (ts : List Target) (target : ℕ) (t : Target) → find (λ (u : Target). u.item == target) ts ≡ Some t
    → t.item ≡ target
found_item [] target t is = absurd cc
found_item (u ∷ ts) target t is = by (u.item == target) refl (found_item ts target t) is
  where
    by : (b : Bool) → (u.item == target) ≡ b → (find (λ (v : Target). v.item == target) ts ≡ Some t → t.item ≡ target)
        → cond b (Some u) (find (λ (v : Target). v.item == target) ts) ≡ Some t → t.item ≡ target
    by true here later e =
        let same : u ≡ t = cc in sym (ap (λ (v : Target). v.item) same) ∙ eqb-true u.item target here
    by false here later e = later e

pub unsure_flush-item : (waits : List (List Target)) (i target : ℕ) (t : Target)
    → Some t ≡ unsure_flush waits i target → t.item ≡ target
unsure_flush-item waits i target t is =
    by (list_any (λ (u : Target). (u.item == target) && not u.unsure) (targets_of waits i)) (sym is)
  where
    by : (b : Bool)
        → cond b None (find (λ (u : Target). u.item == target) (targets_of waits i)) ≡ Some t → t.item ≡ target
    by true e = absurd cc
    by false e = found_item (targets_of waits i) target t e

-- ---- lines

-- the lines of some waits, and then the line of the next one
pub lines-next : {X Y : Type 0} (f : X → Option Y) (g : Y → List ℕ) (xs : List X) (k : ℕ) (x : X)
    (old middle new : List ℕ) → k < length xs → x ≡ get_or xs k x
    → middle ≡ old ++ flat_map g (filter_map f (take k xs)) → new ≡ middle ++ flat_map g (filter_map f (x ∷ []))
    → new ≡ old ++ flat_map g (filter_map f (take (k + 1) xs))
lines-next f g xs k x old middle new within is so_far then =
    let some = flat_map g (filter_map f (take k xs)) in
    let one = flat_map g (filter_map f (x ∷ [])) in
    let on : take (k + 1) xs ≡ take k xs ++ (x ∷ []) =
    take_more xs k x within ∙ ap (λ y. take k xs ++ (y ∷ [])) (sym is) in
    let both : flat_map g (filter_map f (take (k + 1) xs)) ≡ some ++ one =
    ap (λ l. flat_map g (filter_map f l)) on ∙ ap (flat_map g) (filter_map-append f (take k xs) (x ∷ []))
    ∙ flat_map-append g (filter_map f (take k xs)) (filter_map f (x ∷ [])) in
    then ∙ ap (λ (l : List ℕ). l ++ one) so_far ∙ append_assoc old some one ∙ ap (λ (l : List ℕ). old ++ l) (sym both)

-- each line has a byte
line-some : (line : List (List ℕ)) → 0 < length (line_text line)
line-some [] = omega arith
line-some (word ∷ words) = simp length-append (omega arith)

pub lines-none : (lines : List (List (List ℕ))) → length (flat_map line_text lines) ≡ 0 → lines ≡ []
lines-none [] none = refl
lines-none (line ∷ lines) none =
    absurd (omega (arith, line-some line, length-append (line_text line) (flat_map line_text lines), none))

pub no-bytes : (text : List ℕ) → length text ≡ 0 → text ≡ []
no-bytes [] none = refl
no-bytes (byte ∷ text) none = absurd (omega (arith, none))
