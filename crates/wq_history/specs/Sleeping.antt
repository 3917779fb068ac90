-- Sleeping: why it is enough to wake one context for each entry more that may be started.
use Rattle.std.specs.Prelude.{◌≡◌, ℕ, ◌+◌, ◌≤◌, ◌⊎◌}

-- the contexts of a lane: how many sleep; how many were woken, and haven't looked yet;
-- and how many will still be woken, one at a time, for what has happened, since whoever
-- made it happen gives the lock back first. And how many entries may be started
pub record Crew : Type 0 where
  pub asleep : ℕ
  pub woken : ℕ
  pub owed : ℕ
  pub startable : ℕ

-- an event lets no more entries be started, or one more, and then one context will be woken
pub record Happens (old new : Crew) : Type 0 where
  pub asleep : new.asleep ≡ old.asleep
  pub woken : new.woken ≡ old.woken
  pub startable : ((new.startable ≤ old.startable) × (new.owed ≡ old.owed))
      ⊎ ((new.startable ≤ old.startable + 1) × (new.owed ≡ old.owed + 1))

-- one context that sleeps is woken, if there is one
pub record WakesOneOf (old new : Crew) : Type 0 where
  pub startable : new.startable ≡ old.startable
  pub owed : old.owed ≡ new.owed + 1
  pub sleeper : ((old.asleep ≡ 0) × (new.asleep ≡ 0) × (new.woken ≡ old.woken))
      ⊎ ((old.asleep ≡ new.asleep + 1) × (new.woken ≡ old.woken + 1))

-- all that sleep are woken
pub record WakesAllOf (old new : Crew) : Type 0 where
  pub startable : new.startable ≡ old.startable
  pub asleep : new.asleep ≡ 0

-- a context looks, which was woken or comes by itself
abbrev pub Looks : Crew → Crew → Type 0
Looks old new = (new.woken ≡ old.woken) ⊎ (old.woken ≡ new.woken + 1)

-- it starts an entry
pub record StartsOne (old new : Crew) : Type 0 where
  pub looks : Looks old new
  pub asleep : new.asleep ≡ old.asleep
  pub owed : new.owed ≡ old.owed
  pub startable : old.startable ≡ new.startable + 1

-- it finds none, and falls asleep or ends
pub record FindsNone (old new : Crew) : Type 0 where
  pub looks : Looks old new
  pub none : new.startable ≡ 0

-- it is refused, and another will be woken
pub record IsRefused (old new : Crew) : Type 0 where
  pub looks : Looks old new
  pub asleep : new.asleep ≡ old.asleep
  pub owed : new.owed ≡ old.owed + 1
  pub startable : new.startable ≡ old.startable

-- any of these
abbrev pub Moves : Crew → Crew → Type 0
Moves old new =
    Happens old new
    ⊎ (WakesOneOf old new ⊎ (WakesAllOf old new ⊎ (StartsOne old new ⊎ (FindsNone old new ⊎ IsRefused old new))))

-- nobody sleeps, or somebody looks, or will be woken, for each entry that may be started
abbrev pub IsCovered : Crew → Type 0
IsCovered crew = (crew.asleep ≡ 0) ⊎ (crew.startable ≤ crew.woken + crew.owed)
