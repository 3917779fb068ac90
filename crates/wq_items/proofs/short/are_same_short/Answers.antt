use Rattle.std.proofs.Common.{◌≡◌, List, ℕ, take, sym, ap, ◌∙◌}
use Rattle.std.specs.Prelude.{bytes_eq}
use Rattle.std.proofs.lemmas.Slice.Eq.{bytes_eq-Decides}
use Rattle.wq_items.specs.Short.{last_four}
use Rattle.wq_items.proofs.ShortNames.{bytes_eq-last_four}
use Rattle.wq_items.proofs.short.are_same_short.Goals as goal

pub returns-then-eq : goal.returns-then-eq
returns-then-eq c =
    let first : take 4 c.args.a.now ≡ take 4 c.args.b.now =
    sym c.first_four.ensures ∙ (bytes_eq-Decides c.first_four.result c.first_four-2.result).0 (sym c.eq.ensures ∙ c.if-eq.true) ∙ c.first_four-2.ensures in
    c.eq-then-eq.ensures ∙ ap (λ (l : List ℕ). bytes_eq l c.last_four-then-eq.result) c.last_four.ensures ∙ ap (λ (l : List ℕ). bytes_eq (last_four c.args.a.now) l) c.last_four-then-eq.ensures
    ∙ bytes_eq-last_four c.args.a.now c.args.b.now c.requires.long c.requires.short first
