-- Whatever happens to the contexts of a lane, somebody looks, or will be woken, for each entry that may be started.
use Rattle.std.proofs.Common.{◌≡◌, ◌+◌, ◌≤◌, ◌⊎◌, inl, inr, arith}
use Rattle.wq_history.specs.Sleeping.{Crew, Moves, Looks, IsCovered}

-- whoever looks takes one of those that were woken, at most
at_most : (old new : Crew) → Looks old new → old.woken ≤ new.woken + 1
at_most old new (inl same) = omega (arith, same)
at_most old new (inr one) = omega (arith, one)

pub stays-covered : (old new : Crew) → Moves old new → IsCovered old → IsCovered new
stays-covered old new (inl event) (inl none) = inl (omega (arith, event.asleep, none))
stays-covered old new (inl event) (inr covered) = elim event.startable [
  | inl (fewer, same) ↦ inr (omega (arith, fewer, same, event.woken, covered))
  | inr (more, one) ↦ inr (omega (arith, more, one, event.woken, covered))
]
stays-covered old new (inr (inl wakes)) covered = by wakes.sleeper covered where
  by : ((old.asleep ≡ 0) × (new.asleep ≡ 0) × (new.woken ≡ old.woken)) ⊎ ((old.asleep ≡ new.asleep + 1) × (new.woken ≡ old.woken + 1)) → IsCovered old → IsCovered new
  by (inl nobody) before = inl nobody.1
  by (inr one) (inl none) = inl (omega (arith, one.0, none))
  by (inr one) (inr before) = inr (omega (arith, one.1, wakes.owed, wakes.startable, before))
stays-covered old new (inr (inr (inl wakes))) covered = inl wakes.asleep
stays-covered old new (inr (inr (inr (inl starts)))) (inl none) = inl (omega (arith, starts.asleep, none))
stays-covered old new (inr (inr (inr (inl starts)))) (inr covered) =
    inr (omega (arith, at_most old new starts.looks, starts.owed, starts.startable, covered))
stays-covered old new (inr (inr (inr (inr (inl finds))))) covered = inr (omega (arith, finds.none))
stays-covered old new (inr (inr (inr (inr (inr refused))))) (inl none) = inl (omega (arith, refused.asleep, none))
stays-covered old new (inr (inr (inr (inr (inr refused))))) (inr covered) =
    inr (omega (arith, at_most old new refused.looks, refused.owed, refused.startable, covered))
