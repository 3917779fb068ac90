-- The numbers of the reasons why a certificate around fixed workqueues shows nothing.
use Rattle.std.specs.Prelude.{ℕ}
use Rattle.wq_checker.specs.declared.around.NoAround.{NoAround}
use Rattle.wq_checker.specs.declared.around.NoAround.TheVariants as no_around
use Rattle.wq_checker.specs.Codes.{no_code}

-- a number from 50 to 55
abbrev pub no_around_code : NoAround → ℕ
no_around_code (no_around.Plain reason) = no_code reason
no_around_code no_around.HasRescuer = 55
