use Rattle.std.proofs.Common.{◌≡◌, ℕ, ◌<◌, Bool, true, false, List, length, get_or, set, sym, ap, subst, ◌∙◌}
use Rattle.std.proofs.lemmas.Bool.{false≢true}
use Rattle.wq_repair.specs.Marks.{IsMarked}
use Rattle.wq_repair.specs.Following.{FoundGroups, HasGrown}
use Rattle.wq_repair.proofs.NeededFound.{HasGrown-add}
use Rattle.wq_repair.proofs.needed.Found.add.Goals as goal

pub returns : goal.returns
returns g c =
    let marks : List Bool = c.self.inside.marks.items in
    let list : List ℕ = c.self.inside.list.items in
    let group : ℕ = c.args.group in
    let before : FoundGroups = record { marks = marks; list = list } in
    let view : before ≡ c.args.self.now = c.self.view_is in
    let at : c.from-at.result ≡ group = c.from-at.ensures ∙ c.get.ensures in
    let below : group < length marks = subst (λ (s : FoundGroups). group < length s.marks) (sym view) c.requires in
    let read : false ≡ get_or marks c.from-at.result false = subst (λ (b : Bool). b ≡ get_or marks c.from-at.result b) c.if-index.false c.index.ensures in
    let unmarked : ¬ IsMarked marks group = λ marked. false≢true (read ∙ ap (λ (k : ℕ). get_or marks k false) at ∙ marked) in
    let grown : HasGrown before (record { marks = set marks c.from-at.result true; list = c.push.new.self.items }) (λ (h : ℕ). h ≡ group) =
    subst (λ (k : ℕ). HasGrown before (record { marks = set marks k true; list = c.push.new.self.items }) (λ (h : ℕ). h ≡ group)) (sym at)
    (subst (λ (l : List ℕ). HasGrown before (record { marks = set marks group true; list = l }) (λ (h : ℕ). h ≡ group)) (sym c.in_ok-push.ensures.items)
    (HasGrown-add marks list group below unmarked)) in
    subst (λ (s : FoundGroups). HasGrown s (record { marks = set marks c.from-at.result true; list = c.push.new.self.items }) (λ (h : ℕ). h ≡ group)) view grown
