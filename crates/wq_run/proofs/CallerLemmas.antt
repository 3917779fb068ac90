-- What the callers of a crew did, caller by caller, if none of them was refused.
use Rattle.std.proofs.Common.{◌≡◌, ℕ, zero, suc, ◌<◌, List, [], ◌∷◌, length, get_or, Result, Ok, Err, refl, subst}
use Rattle.std.proofs.Common.{arith}
use Rattle.std.specs.Prelude.{Some, slice_get, is_ok, IsTrue}
use Rattle.std.specs.List.{All}
use Rattle.wq_core.specs.Wiring.{Wiring}
use Rattle.wq_history.specs.declared.fault.CallError.{CallError}
use Rattle.wq_rescuer.specs.Executing.{no_counts}
use Rattle.wq_rescuer.specs.Serving.{HaveCalled}
use Rattle.wq_script.specs.declared.acting.Act.{Act}
use Rattle.wq_script.specs.Acts.{CountsActs, CountsCalls}
use Rattle.wq_run.specs.Running.{HaveMade}

-- there is something at each place of a list
at_place : {X : Type 0} (xs : List X) (n : ℕ) → n < length xs → (x : X) × (slice_get xs n ≡ Some x)
at_place [] n below = absurd (omega (arith, below))
at_place (x ∷ xs) zero below = (x, refl)
at_place (x ∷ xs) (suc n) below = at_place xs n (omega (arith, below))

-- what is at a place is what is read there
read_there : {X : Type 0} (xs : List X) (n : ℕ) (x : X) → slice_get xs n ≡ Some x → get_or xs n x ≡ x
read_there [] n x is = absurd cc
read_there (y ∷ ys) zero x is = let same : y ≡ x = cc in same
read_there (y ∷ ys) (suc n) x is = read_there ys n x is

within : {X : Type 0} (xs : List X) (n : ℕ) (x : X) → slice_get xs n ≡ Some x → n < length xs
within [] n x is = absurd cc
within (y ∷ ys) zero x is = omega arith
within (y ∷ ys) (suc n) x is = omega (arith, within ys n x is)

-- calls that weren't refused
answered : (w : Wiring) (acts : List Act) (r : Result (Unit {0}) CallError) (old new : List ℕ) → IsTrue (is_ok r)
    → CountsCalls w acts r old new → CountsActs w old new acts
answered w acts (Ok done) old new told counts = counts
answered w acts (Err e) old new told counts = absurd cc

made_each : (w : Wiring) (lists : List (List Act)) (seats : List (List ℕ)) → length seats ≡ length lists
    → ((n : ℕ) (acts : List Act) (seat : List ℕ) → slice_get lists n ≡ Some acts → slice_get seats n ≡ Some seat
    → CountsActs w (no_counts w) seat acts)
    → HaveMade w lists seats
made_each w [] [] long each = tt
made_each w [] (seat ∷ seats) long each = absurd (omega (arith, long))
made_each w (acts ∷ lists) [] long each = absurd (omega (arith, long))
made_each w (acts ∷ lists) (seat ∷ seats) long each = (
  each 0 acts seat refl refl,
  made_each w lists seats (omega (arith, long))
      (λ n a s a_at s_at. each (suc n) a s a_at s_at),
)

-- all callers
pub have_made : (w : Wiring) (lists after : List (List Act)) (results : List (Result (Unit {0}) CallError))
    (seats : List (List ℕ))
    → HaveCalled (λ before now answer seat. CountsCalls w before answer (no_counts w) seat × (now ≡ before)) lists after
    results seats
    → All (λ r. IsTrue (is_ok r)) results → HaveMade w lists seats
have_made w lists after results seats called all =
    made_each w lists seats called.a_seat_each (λ n acts seat acts_at seat_at.
    let below : n < length lists = within lists n acts acts_at in
    let now = at_place after n (omega (arith, below, called.a_caller_each)) in
    let answer = at_place results n (omega (arith, below, called.a_result_each)) in
    let yes : IsTrue (is_ok answer.0) = subst (λ r. IsTrue (is_ok r)) (read_there results n answer.0 answer.1)
    (all n answer.0 (omega (arith, below, called.a_result_each))) in
    answered w acts answer.0 (no_counts w) seat yes
    (called.each n acts now.0 answer.0 seat acts_at now.1 answer.1 seat_at).0)
