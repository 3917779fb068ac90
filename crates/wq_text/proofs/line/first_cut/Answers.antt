use Rattle.std.proofs.Common.{◌+◌, ◌∷◌, List, ℕ, true, take, ap, sym, ◌∙◌}
use Rattle.std.proofs.lemmas.List.{take_rest}
use Rattle.wq_text.specs.Lines.{Piece, pieces}
use Rattle.wq_text.proofs.PieceLemmas.{pieces-at_feed, pieces-no_feed}
use Rattle.wq_text.proofs.line.first_cut.Goals as goal

pub returns-in-Some-clause-first : goal.returns-in-Some-clause-first
returns-in-Some-clause-first c =
    let bs = c.args.bytes.now in
    let feed = c.in-Some.feed in
    let front : Piece = record { bytes = take feed bs; ended = true } in
    pieces-at_feed bs feed c.in-Some.ensures ∙ ap (λ (ys : List ℕ). front ∷ pieces ys) (sym (take_rest bs (feed + 1)))

pub returns-in-None-clause-first : goal.returns-in-None-clause-first
returns-in-None-clause-first c = pieces-no_feed c.args.bytes.now c.requires c.in-None.ensures
