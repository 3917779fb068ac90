use Rattle.std.proofs.Common.{◌<◌, ℕ, List, length, drop, sym, subst, ◌∙◌, take_at}
use Rattle.std.specs.List.{Any}
use Rattle.std.proofs.lemmas.Bool.{false≢true}
use Rattle.wq_levels.specs.Ranks.{AreRanks}
use Rattle.wq_levels.specs.Walks.{MarkRemaining}
use Rattle.wq_levels.specs.Taking.{AreTakenOff, AreMarked}
use Rattle.wq_levels.proofs.Ranks.{AreRanks-no_circle}
use Rattle.wq_levels.proofs.Marked.{AreRanks-taken_off, MarkRemaining-taken_off}
use Rattle.wq_levels.proofs.ranking.rank.Goals as goal

pub returns-then-not-is_any_left-clause-ranking : goal.returns-then-not-is_any_left-clause-ranking
returns-then-not-is_any_left-clause-ranking g c =
    let graph = c.args.graph.now in
    let remaining = c.deref.result.now in
    let ranks = c.into_parts-remaining.result.1.items in
    let taken : AreTakenOff graph remaining ranks =
    subst (λ (l : List ℕ). AreTakenOff graph remaining l) (sym c.into_parts-remaining.ensures.ranks)
    (subst (λ (l : List ℕ). AreTakenOff graph l c.in_ok-take_off.field-0.ranks) (sym (c.deref.ensures.value ∙ c.into_parts-remaining.ensures.remaining)) c.in_ok-take_off.ensures) in
    let are : AreRanks graph ranks = AreRanks-taken_off graph remaining ranks taken (λ left. false≢true (sym c.if-not-is_any_left.true ∙ c.is_any_left.ensures.1 left)) in
    (are, AreRanks-no_circle graph ranks are)

pub walk_circle-requires : goal.walk_circle-requires
walk_circle-requires g c =
    let graph = c.args.graph.now in
    let remaining = c.deref-2.result.now in
    let old = c.as_mut_slice.result.now in
    let new = c.mark_remaining.new.ranks in
    let taken : AreTakenOff graph remaining old =
    subst (λ (l : List ℕ). AreTakenOff graph remaining l) (sym (c.as_mut_slice.ensures.value ∙ c.into_parts-remaining.ensures.ranks))
    (subst (λ (l : List ℕ). AreTakenOff graph l c.in_ok-take_off.field-0.ranks) (sym (c.deref-2.ensures.value ∙ c.into_parts-remaining.ensures.remaining)) c.in_ok-take_off.ensures) in
    let found : Any (λ (r : ℕ). 0 < r) remaining =
    subst (λ (l : List ℕ). Any (λ (r : ℕ). 0 < r) l) (c.deref.ensures.value ∙ sym c.deref-2.ensures.value) (c.is_any_left.ensures.0 c.if-not-is_any_left.false) in
    let marks : AreMarked remaining (length graph) old new = subst (λ (n : ℕ). AreMarked remaining n old new) c.vertices-vertices.ensures.vertices c.mark_remaining.ensures in
    let whole = take_at new (drop (length new) c.into_parts-remaining.result.1.items) c.into_parts-remaining.result.1.len (c.mark_remaining.auto.ranks ∙ c.as_mut_slice.ensures.len) in
    subst (λ (l : List ℕ). MarkRemaining graph l) (sym (c.deref-3.ensures.value ∙ whole))
    (MarkRemaining-taken_off graph remaining old taken c.vertices-vertices.ensures.graph new marks found)
