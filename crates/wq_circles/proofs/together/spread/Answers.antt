use Rattle.std.proofs.Common.{◌≡◌, ◌<◌, ◌+◌, ℕ, All, List, length, map, subst, sym, ap, ◌∙◌, arith}
use Rattle.wq_circles.specs.Lists.{listed_at}
use Rattle.wq_circles.specs.Searching.{Search, with_found, with_all_found}
use Rattle.wq_circles.proofs.Turned.{listed_at-read, shown-below}
use Rattle.wq_circles.proofs.Searched.{AreFound-new, IsSpreading, IsSpreading-at, IsSpreading-first, IsSpreading-more, Spreads-all}
use Rattle.wq_circles.proofs.together.spread.Goals as goal

pub loop-vertex-init : goal.loop-vertex-init
loop-vertex-init g c =
    let s : Search = c.args.found.now in
    let shown : List (List ℕ) = map (λ list. list.items) c.args.lists.now in
    record {
      looked =
          subst (λ (t : Search). IsSpreading shown s c.args.root t c.count-place.result) (sym c.in_ok-note.ensures)
          (subst (IsSpreading shown s c.args.root (with_found s c.args.root)) (sym c.count-place.ensures)
          (IsSpreading-first shown s c.args.root c.requires.found (omega (arith, c.requires.one_each, c.requires.root))));
      from = omega (arith, c.count-place.ensures);
    }

pub bounds-lists-from : goal.bounds-lists-from
bounds-lists-from g c =
    let shown : List (List ℕ) = map (λ list. list.items) c.args.lists.now in
    let at = IsSpreading-at shown c.args.found.now c.args.root c.loop-vertex.found c.loop-vertex.place c.in-Some.vertex c.loop-vertex.invariant.looked (sym c.in-Some.ensures) in
    omega (arith, at.0, c.from.ensures, c.requires.one_each)

pub offset_bounds-lists-from : goal.offset_bounds-lists-from
offset_bounds-lists-from g c =
    let shown : List (List ℕ) = map (λ list. list.items) c.args.lists.now in
    let at = IsSpreading-at shown c.args.found.now c.args.root c.loop-vertex.found c.loop-vertex.place c.in-Some.vertex c.loop-vertex.invariant.looked (sym c.in-Some.ensures) in
    omega (arith, at.0, c.from.ensures, c.requires.one_each)

pub note_all-requires : goal.note_all-requires
note_all-requires g c =
    let s : Search = c.args.found.now in
    let shown : List (List ℕ) = map (λ list. list.items) c.args.lists.now in
    let at = IsSpreading-at shown s c.args.root c.loop-vertex.found c.loop-vertex.place c.in-Some.vertex c.loop-vertex.invariant.looked (sym c.in-Some.ensures) in
    let listed : c.deref.result.now ≡ listed_at shown c.in-Some.vertex =
    c.deref.ensures.value ∙ listed_at-read c.args.lists.now c.in-Some.vertex c.from.result c.index-lists-from.result c.from.ensures c.index-lists-from.is (omega (arith, at.0, c.requires.one_each)) in
    subst (All (λ w. w < length c.loop-vertex.found.marks)) (sym listed)
    (subst (λ (n : ℕ). All (λ w. w < n) (listed_at shown c.in-Some.vertex)) (sym c.requires.one_each ∙ sym c.loop-vertex.invariant.looked.marks)
    (shown-below c.args.lists.now (length c.args.lists.now) c.requires.within c.in-Some.vertex))

pub overflow_add-place : goal.overflow_add-place
overflow_add-place g c =
    let shown : List (List ℕ) = map (λ list. list.items) c.args.lists.now in
    let at = IsSpreading-at shown c.args.found.now c.args.root c.loop-vertex.found c.loop-vertex.place c.in-Some.vertex c.loop-vertex.invariant.looked (sym c.in-Some.ensures) in
    omega (arith, at.1, c.requires.one_each)

pub loop-vertex-smaller : goal.loop-vertex-smaller
loop-vertex-smaller g c =
    let shown : List (List ℕ) = map (λ list. list.items) c.args.lists.now in
    let at = IsSpreading-at shown c.args.found.now c.args.root c.loop-vertex.found c.loop-vertex.place c.in-Some.vertex c.loop-vertex.invariant.looked (sym c.in-Some.ensures) in
    omega (arith, at.1, c.requires.one_each)

pub loop-vertex-preserved : goal.loop-vertex-preserved
loop-vertex-preserved g c =
    let s : Search = c.args.found.now in
    let shown : List (List ℕ) = map (λ list. list.items) c.args.lists.now in
    let before = c.loop-vertex.invariant in
    let u : ℕ = c.in-Some.vertex in
    let at = IsSpreading-at shown s c.args.root c.loop-vertex.found c.loop-vertex.place u before.looked (sym c.in-Some.ensures) in
    let listed : c.deref.result.now ≡ listed_at shown u =
    c.deref.ensures.value ∙ listed_at-read c.args.lists.now u c.from.result c.index-lists-from.result c.from.ensures c.index-lists-from.is (omega (arith, at.0, c.requires.one_each)) in
    let more : IsSpreading shown s c.args.root (with_all_found c.loop-vertex.found (listed_at shown u)) (c.loop-vertex.place + 1) =
    IsSpreading-more shown s c.args.root c.loop-vertex.found c.loop-vertex.place u before.looked before.from (sym c.in-Some.ensures)
    (subst (λ (n : ℕ). All (λ w. w < n) (listed_at shown u)) (sym c.requires.one_each) (shown-below c.args.lists.now (length c.args.lists.now) c.requires.within u)) in
    record {
      looked = subst (λ (t : Search). IsSpreading shown s c.args.root t (c.loop-vertex.place + 1)) (sym (c.in_ok-note_all.ensures ∙ ap (with_all_found c.loop-vertex.found) listed)) more;
      from = (let from = before.from in omega (arith, from));
    }

pub returns : goal.returns
returns g c =
    let shown : List (List ℕ) = map (λ list. list.items) c.args.lists.now in
    Spreads-all shown c.args.found.now c.args.root c.loop-vertex.found c.loop-vertex.place c.loop-vertex.invariant.looked
    (AreFound-new c.args.found.now c.args.root c.requires.found c.requires.new) (sym c.nth.ensures ∙ c.in_default.is)
