-- What holds of results: with a value, or with an error.
use Rattle.std.specs.Prelude.{Result, Ok, Err, IfOk, OnErr}

-- what follows from two clauses
pub IfOk-both : {V E : Type 0} (P Q S : V → Type 0) (r : Result V E) → IfOk r P → IfOk r Q
    → ((v : V) → P v → Q v → S v) → IfOk r S
IfOk-both P Q S (Ok v) one other then = then v one other
IfOk-both P Q S (Err e) one other then = tt

pub IfOk-then : {V E : Type 0} (P S : V → Type 0) (r : Result V E) → IfOk r P → ((v : V) → P v → S v) → IfOk r S
IfOk-then P S (Ok v) one then = then v one
IfOk-then P S (Err e) one then = tt

pub OnErr-then : {V E : Type 0} (P S : Type 0) (r : Result V E) → OnErr r P → (P → S) → OnErr r S
OnErr-then P S (Ok v) one then = tt
OnErr-then P S (Err e) one then = then one
