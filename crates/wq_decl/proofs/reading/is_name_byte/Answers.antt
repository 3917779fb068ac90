-- The table is held against the definition at each of the 256 bytes, by computing.
use Rattle.std.proofs.Common.{◌≡◌, ℕ, ◌<◌, true, not, nat_eq, get_or, List, refl, arith}
use Rattle.std.proofs.lemmas.Bool.{agree_below, agree_below_at}
use Rattle.wq_decl.specs.declared.reading.TheConstants.{NAME_BYTES}
use Rattle.wq_decl.specs.Names.{is_name_byte}
use Rattle.wq_decl.proofs.reading.is_name_byte.Goals as goal

from_table : (table : List ℕ) (b : ℕ) → b < 256 → agree_below (λ k. not (nat_eq (get_or table k 0) 44)) is_name_byte 256 ≡ true → not (nat_eq (get_or table b 0) 44) ≡ is_name_byte b
from_table table b lt h = agree_below_at (λ k. not (nat_eq (get_or table k 0) 44)) is_name_byte 256 b h lt

pub returns : goal.returns
returns c = from_table NAME_BYTES c.args.byte (omega arith) refl
