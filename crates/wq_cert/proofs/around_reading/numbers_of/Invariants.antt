use Rattle.std.proofs.Common.{◌≡◌, ℕ, List, ◌++◌}
use Rattle.std.specs.Prelude.{option_map}
use Rattle.wq_cert.specs.AroundReading.{numbers_of}
use Rattle.wq_cert.specs.Lines.{bytes_of}
use Rattle.wq_cert.proofs.around_reading.numbers_of.Given as goal

-- the numbers so far, and those of the other words
abbrev pub invariant-loop-word : goal.invariant-loop-word
invariant-loop-word g l =
    option_map (λ (ns : List ℕ). l.numbers.items ++ ns) (numbers_of (bytes_of l.word-iterator))
    ≡ numbers_of (bytes_of l.fn.words)
