-- The place of a pending entry, which is found by its number.
use Rattle.std.proofs.Common.{◌≡◌, ℕ, zero, suc, ◌<◌, ltb, List, [], ◌∷◌, get_or, Some, subst, ap, ◌∙◌, arith, true, false}
use Rattle.std.specs.Prelude.{Contains, slice_get}
use Rattle.std.specs.List.Sorted.{IsPartitionPoint}
use Rattle.std.proofs.lemmas.Option.{slice_get-get_or}
use Rattle.wq_core.specs.declared.entry.Entry.{Entry}
use Rattle.wq_core.specs.Held.{IsRising}
use Rattle.wq_core.proofs.Rising.{place_of}

-- the first entry, if it has that number
pub first-is : (ps : List Entry) (e f : Entry) → IsRising ps → Contains ps e → slice_get ps 0 ≡ Some f → f.number ≡ e.number → slice_get ps 0 ≡ Some e
first-is [] e f rising there first same = absurd cc
first-is (p ∷ ps) e f rising (zero, lt, at) first same = ap Some at
first-is (p ∷ ps) e f rising (suc k, lt, at) first same =
    let is : p ≡ f = cc in
    let later : p.number < (get_or (p ∷ ps) (suc k) e).number = rising 0 (suc k) e (omega arith) lt in
    let number : p.number < e.number = subst (λ (x : Entry). p.number < x.number) at later in
    absurd (omega (arith, number, same, ap (λ (x : Entry). x.number) is))

-- or the one at which the numbers reach its own
pub placed-is : (ps : List Entry) (e : Entry) (k : ℕ) → IsRising ps → IsPartitionPoint (λ (f : Entry). ltb f.number e.number ≡ true) (λ (f : Entry). ltb f.number e.number ≡ false) ps k → Contains ps e → slice_get ps k ≡ Some e
placed-is ps e k rising point there =
    let place = place_of ps e k rising point there in
    slice_get-get_or ps k e place.0 ∙ ap Some place.1
