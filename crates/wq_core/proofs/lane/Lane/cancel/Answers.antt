use Rattle.std.proofs.Common.{◌≡◌, ◌<◌, List, Some, length, get_or, sym, subst, ap, ◌∙◌, rules}
use Rattle.std.specs.Prelude.{AllPairs, remove, slice_get}
use Rattle.std.proofs.lemmas.Option.{slice_get_within, get_or_from_slice_get}
use Rattle.wq_core.specs.declared.entry.Entry.{Entry}
use Rattle.wq_core.specs.Held.{HeldLane, padded}
use Rattle.wq_core.proofs.Sound.{Differ}
use Rattle.wq_core.proofs.Rising.{remove-others}
use Rattle.wq_core.proofs.lane.Lane.cancel.Goals as goal

pub returns-clause-lane : goal.returns-clause-lane
returns-clause-lane g c =
    let inside = c.self.inside in
    let ps = inside.pending.items in
    let e = c.args.entry.now in
    let k = c.place_of-at.result in
    let once : AllPairs Differ ps = subst (λ (h : HeldLane). AllPairs Differ h.lane.pending) (sym c.self.view_is) c.requires.once in
    let at : slice_get ps k ≡ Some e = subst (λ (h : HeldLane). slice_get h.lane.pending k ≡ Some e) (sym c.self.view_is) c.place_of-at.ensures in
    let within : k < length ps = slice_get_within ps k e at in
    let is : get_or ps k e ≡ e = get_or_from_slice_get ps k e e at in
    let removed = remove-others e.item ps k e within (ap (λ (f : Entry). f.item) is) once in
    let after : c.remove.new.self.items ≡ remove ps k = search (rules, within) in
    rw (← c.self.view_is) (ap (λ (es : List Entry). record { pending = es; running = inside.running; helping = padded inside.helping.items }) (after ∙ removed))
