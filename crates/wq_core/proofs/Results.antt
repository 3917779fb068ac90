-- Results: what holds in any case holds for an error, and if there is no answer.
use Rattle.std.specs.Prelude.{Result, Ok, Err, OnErr, Option, Some, None, IfNone}

pub OnErr-holds : {T E P : Type 0} (r : Result T E) → P → OnErr r P
OnErr-holds (Ok x) p = tt
OnErr-holds (Err e) p = p

pub IfNone-holds : {T P : Type 0} (r : Option T) → P → IfNone r P
IfNone-holds (Some x) p = tt
IfNone-holds None p = p
