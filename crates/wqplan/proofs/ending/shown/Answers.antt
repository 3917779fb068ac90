use Rattle.std.proofs.Common.{◌≡◌, inl, inr, refl, subst, sym, Result, Ok, Err, OnErr}
use Rattle.std.specs.Prelude.{◌⊎◌}
use Rattle.wqplan.specs.Status.{unwritten_status}
use Rattle.wqplan.specs.declared.world.Unwritten.{Unwritten}
use Rattle.wqplan.specs.declared.world.Unwritten.TheVariants.{Failed, Unread}
use Rattle.wqplan.proofs.ending.shown.Goals as goal

three_or_141 : (why : Unwritten) → (unwritten_status why ≡ 3) ⊎ (unwritten_status why ≡ 141)
three_or_141 Unread = inr refl
three_or_141 (Failed why) = inl refl

on_err : {T E P : Type 0} (r : Result T E) → P → OnErr r P
on_err (Ok x) p = tt
on_err (Err e) p = p

pub returns-in-Err-clause-failed : goal.returns-in-Err-clause-failed
returns-in-Err-clause-failed g c =
    on_err c.args.printed.now (subst (λ n. (n ≡ 3) ⊎ (n ≡ 141)) (sym c.unwritten.ensures) (three_or_141 _))
