use Rattle.std.proofs.Common.{◌≡◌, ◌<◌, ℕ, Some, None, List, length, map, arith, subst, sym, ◌∙◌}
use Rattle.std.proofs.lemmas.List.{length-map}
use Rattle.std.proofs.lemmas.Result.{IfOk-weaker}
use Rattle.wq_circles.specs.Lists.{listed_at}
use Rattle.wq_circles.specs.Finishing.{Follows, Walk, WentOn, with_vertex_finished, with_visited}
use Rattle.wq_circles.proofs.Turned.{listed_at-read, listed_at-below}
use Rattle.wq_circles.proofs.Walked.{IsTop, IsTop-from_get, IsTop-below, Follows-inside, WentOn-some, WentOn-none}
use Rattle.wq_circles.proofs.walk.Walk.step.Goals as goal

pub visit-requires : goal.visit-requires
visit-requires g c =
    let s : Walk = c.args.self.now in
    let v : ℕ = c.args.vertex in
    let shown : List (List ℕ) = map (λ list. list.items) c.args.lists.now in
    let top : IsTop s.path v = IsTop-from_get s.path v c.requires.top in
    let inside_lists : v < length c.args.lists.now = omega (arith, IsTop-below shown s v c.requires.walk top, length-map c.args.lists.now (λ list. list.items)) in
    let listed : c.deref.result.now ≡ listed_at shown v =
    c.deref.ensures.value ∙ listed_at-read c.args.lists.now v c.from.result c.index-lists-from.result c.from.ensures c.index-lists-from.is inside_lists in
    let follows : Follows s (listed_at shown v) v (Some c.in-Some.head) c.follow.new.self =
    subst (λ (l : List ℕ). Follows s l v (Some c.in-Some.head) c.follow.new.self) listed c.in-Some.ensures in
    (Follows-inside shown s v c.in-Some.head c.follow.new.self c.requires.walk (listed_at-below c.args.lists.now c.requires.within v) follows).1

pub returns-in-Some-clause-goes_on : goal.returns-in-Some-clause-goes_on
returns-in-Some-clause-goes_on g c =
    let s : Walk = c.args.self.now in
    let v : ℕ = c.args.vertex in
    let shown : List (List ℕ) = map (λ list. list.items) c.args.lists.now in
    let top : IsTop s.path v = IsTop-from_get s.path v c.requires.top in
    let inside_lists : v < length c.args.lists.now = omega (arith, IsTop-below shown s v c.requires.walk top, length-map c.args.lists.now (λ list. list.items)) in
    let listed : c.deref.result.now ≡ listed_at shown v =
    c.deref.ensures.value ∙ listed_at-read c.args.lists.now v c.from.result c.index-lists-from.result c.from.ensures c.index-lists-from.is inside_lists in
    let follows : Follows s (listed_at shown v) v (Some c.in-Some.head) c.follow.new.self =
    subst (λ (l : List ℕ). Follows s l v (Some c.in-Some.head) c.follow.new.self) listed c.in-Some.ensures in
    let inside = (Follows-inside shown s v c.in-Some.head c.follow.new.self c.requires.walk (listed_at-below c.args.lists.now c.requires.within v) follows).0 in
    IfOk-weaker c.visit.result (λ _. c.visit.new.self ≡ with_visited c.follow.new.self c.in-Some.head) (λ _. WentOn shown s c.visit.new.self)
    (λ _ same. subst (WentOn shown s) (sym same) (WentOn-some shown s v c.in-Some.head c.follow.new.self c.requires.walk top follows inside)) c.visit.ensures

pub returns-in-None-clause-goes_on : goal.returns-in-None-clause-goes_on
returns-in-None-clause-goes_on g c =
    let s : Walk = c.args.self.now in
    let v : ℕ = c.args.vertex in
    let shown : List (List ℕ) = map (λ list. list.items) c.args.lists.now in
    let top : IsTop s.path v = IsTop-from_get s.path v c.requires.top in
    let inside_lists : v < length c.args.lists.now = omega (arith, IsTop-below shown s v c.requires.walk top, length-map c.args.lists.now (λ list. list.items)) in
    let listed : c.deref.result.now ≡ listed_at shown v =
    c.deref.ensures.value ∙ listed_at-read c.args.lists.now v c.from.result c.index-lists-from.result c.from.ensures c.index-lists-from.is inside_lists in
    let follows : Follows s (listed_at shown v) v None c.follow.new.self =
    subst (λ (l : List ℕ). Follows s l v None c.follow.new.self) listed c.in-None.ensures in
    IfOk-weaker c.finish.result (λ _. c.finish.new.self ≡ with_vertex_finished c.follow.new.self v) (λ _. WentOn shown s c.finish.new.self)
    (λ _ same. subst (WentOn shown s) (sym same) (WentOn-none shown s v c.follow.new.self c.requires.walk top follows)) c.finish.ensures
