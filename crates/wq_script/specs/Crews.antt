-- Crews: the calls of the two callers that run a plan.
use Rattle.std.specs.Prelude.{ℕ, ◌%◌, ◌==◌, List, [], ◌∷◌, ◌++◌, map}
use Rattle.std.specs.List.{filter, range_with_len}
use Rattle.wq_script.specs.declared.acting.Act.{Act}
use Rattle.wq_script.specs.declared.acting.Act.TheVariants.{Queue, Flush}

-- of this many items, those whose number leaves this remainder when divided by two
abbrev pub every_second : ℕ → ℕ → List ℕ
every_second first count = filter (λ i. (i % 2) == first) (range_with_len 0 count)

-- these items are queued, in order, and then flushed, in order
abbrev pub queued_then_flushed : List ℕ → List Act
queued_then_flushed is = map Queue is ++ map Flush is

-- of this many items, one caller queues and flushes those with even numbers, and the other those with odd ones
abbrev pub shared_by_two : ℕ → List (List Act)
shared_by_two count = queued_then_flushed (every_second 0 count) ∷ queued_then_flushed (every_second 1 count) ∷ []
