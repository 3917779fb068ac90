use Rattle.std.proofs.Common.{List, ℕ, sym, ap, ◌∙◌}
use Rattle.std.specs.List.{list_all}
use Rattle.std.proofs.lemmas.Bool.{and_from}
use Rattle.std.proofs.lemmas.List.{take_all}
use Rattle.std.proofs.lemmas.List.Folds.{list_all_more, list_all_at}
use Rattle.wq_decl.specs.Names.{is_name_byte}
use Rattle.wq_decl.proofs.reading.are_name_bytes.Goals as goal

pub loop-byte-preserved : goal.loop-byte-preserved
loop-byte-preserved c =
    list_all_more is_name_byte c.loop-rest.rest.now c.loop-byte.byte-index 0 c.loop-byte-test.true
    ∙ and_from _ _ c.loop-byte.invariant (sym c.is_name_byte.ensures ∙ c.if-not-is_name_byte.false)

pub returns-then-not-is_name_byte : goal.returns-then-not-is_name_byte
returns-then-not-is_name_byte c =
    sym (c.loop-rest.invariant ∙ list_all_at is_name_byte c.loop-rest.rest.now c.loop-byte.byte-index 0
    c.loop-byte-test.true (sym c.is_name_byte.ensures ∙ c.if-not-is_name_byte.true))

pub returns : goal.returns
returns c =
    sym (c.loop-rest.invariant
    ∙ ap (λ (bs : List ℕ). list_all is_name_byte bs) (sym (take_all c.loop-byte.byte-index c.loop-rest.rest.now
    c.loop-byte-test.false))
    ∙ c.loop-byte.invariant)
