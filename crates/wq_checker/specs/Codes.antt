-- The numbers of the reasons why a certificate shows nothing.
use Rattle.std.specs.Prelude.{ℕ}
use Rattle.wq_checker.specs.declared.answer.No.{No}
use Rattle.wq_checker.specs.declared.answer.No.TheVariants.{NotFalling, LengthDiffers, ChainBroken, CircleBroken}
use Rattle.wq_checker.specs.declared.answer.No.TheVariants.{RunBroken}

-- a number from 50 to 54
abbrev pub no_code : No → ℕ
no_code (NotFalling item target) = 50
no_code (ChainBroken at) = 51
no_code LengthDiffers = 52
no_code (CircleBroken at) = 53
no_code RunBroken = 54
