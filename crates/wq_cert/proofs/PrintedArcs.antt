-- Arcs as they are printed.
use Rattle.std.proofs.Common.{ℕ, List, [], ◌∷◌, length, map, refl, arith}
use Rattle.std.specs.Prelude.{codes}
use Rattle.std.specs.List.{All, AllByRecursion}
use Rattle.std.proofs.lemmas.List.Elements.{All-head, All-tail}
use Rattle.wq_items.specs.Table.{Table, IsTable}
use Rattle.wq_cert.specs.PlanText.{arc_line}
use Rattle.wq_cert.specs.Ranges.{IsArcOf}
use Rattle.wq_cert.proofs.PrintedLines.{IsPrintableLine}
use Rattle.wq_cert.proofs.PrintedWords.{IsPrintable-keyword, IsPrintable-name_of}

module _ (t : Table) (table : IsTable t) where
  IsPrintableLine-arc : (arc : ℕ × ℕ) → IsArcOf (length t.names) arc → IsPrintableLine (arc_line t.names arc)
  IsPrintableLine-arc arc h = record {
    some = λ e. absurd cc;
    each =
        (IsPrintable-keyword (codes "arc") refl (omega arith) (omega arith), (IsPrintable-name_of t.names table.named arc.0 h.0, (IsPrintable-name_of t.names table.named arc.1 h.1, tt)));
    few = omega arith;
  }

  pub IsPrintableLine-arcs : (arcs : List (ℕ × ℕ)) → All (IsArcOf (length t.names)) arcs → AllByRecursion IsPrintableLine (map (arc_line t.names) arcs)
  IsPrintableLine-arcs [] h = tt
  IsPrintableLine-arcs (arc ∷ arcs) h =
      (IsPrintableLine-arc arc (All-head (IsArcOf (length t.names)) arc arcs h), IsPrintableLine-arcs arcs (All-tail (IsArcOf (length t.names)) arc arcs h))
