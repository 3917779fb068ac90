-- A depth-first search under way: what its steps keep.
use Rattle.std.proofs.Common.{◌≡◌, ◌≢◌, ℕ, ◌+◌, ◌-◌, ◌*◌, ◌<◌, ◌≤◌, ◌⊎◌, ◌↔◌, inl, inr, Bool, true, false, List, [], ◌∷◌, ◌++◌, length, take, set, replicate, slice_index, None, Some, refl, sym, subst, ap, ◌∙◌, arith}
use Rattle.std.specs.Prelude.{Contains, All, slice_get}
use Rattle.std.proofs.lemmas.Bool.{cases_eq, cases_lt}
use Rattle.std.proofs.lemmas.List.{length-append, length-set, length-take-le, get_or-set_same, get_or-set_other, get_or-replicate, length-replicate, get_or_append_left, get_or_past, get_or_push, get_or-take}
use Rattle.std.proofs.lemmas.List.Elements.{All-contains, All-nil, All-push, All-take, Contains-get_or, Contains-append_left, Contains-push, Contains-push_cases}
use Rattle.std.proofs.lemmas.Option.{get_or_from_slice_get, slice_get_within, slice_get-get_or, none-some}
use Rattle.wq_circles.specs.Leading.{Leads}
use Rattle.wq_circles.specs.Lists.{Next, listed_at}
use Rattle.wq_circles.specs.Searching.{is_marked}
use Rattle.wq_circles.specs.Finishing.{Follows, IsFinishing, IsVisited, IsWalkSoFar, LeadToLast, StandsBy, Walk, WentOn, steps_to, with_vertex_finished, with_followed, with_visited}
use Rattle.wq_circles.proofs.Leading.{Leads-arc, Leads-trans}
use Rattle.wq_circles.proofs.Once.{place-of, at_most, once_push, once_take, Contains-from_take, Contains-take}

marked_below : (marks : List Bool) (v : ℕ) → is_marked marks v ≡ true → v < length marks
marked_below marks v holds = elim (cases_lt v (length marks)) [
  | inl lt ↦ lt
  | inr past ↦ (let fails : is_marked marks v ≡ false = get_or_past marks v false past in absurd (cc))
]

-- marks stay
marked_more : (marks : List Bool) (w v : ℕ) → w < length marks → is_marked marks v ≡ true → is_marked (set marks w true) v ≡ true
marked_more marks w v within holds = elim (cases_eq v w) [
  | inl own ↦ ap (is_marked (set marks w true)) own ∙ get_or-set_same marks w true false within
  | inr other ↦ get_or-set_other marks w v true false other ∙ holds
]

-- the last of the path
pub record IsTop (path : List ℕ) (v : ℕ) : Type 0 where
  pub some : 0 < length path
  pub last : slice_index path (length path - 1) ≡ v

pub IsTop-from_get : (path : List ℕ) (v : ℕ) → slice_get path (length path - 1) ≡ Some v → IsTop path v
IsTop-from_get path v is = record {
  some = (let within = slice_get_within path (length path - 1) v is in omega (arith, within));
  last = get_or_from_slice_get path (length path - 1) v 0 is;
}

IsTop-contains : (path : List ℕ) (v : ℕ) → IsTop path v → Contains path v
IsTop-contains path v top = (let some = top.some in subst (Contains path) top.last (Contains-get_or path (length path - 1) 0 (omega (arith, some))))

-- where the search is, is a vertex
pub IsTop-below : (lists : List (List ℕ)) (s : Walk) (v : ℕ) → IsWalkSoFar lists s → IsTop s.path v → v < length lists
IsTop-below lists s v is top = All-contains (λ u. u < length lists) s.path v is.path_below (IsTop-contains s.path v top)

-- without a last vertex the path is empty
pub no_top : (path : List ℕ) → slice_get path (length path - 1) ≡ None → path ≡ []
no_top [] none = refl
no_top (v ∷ path) none =
    absurd (none-some (slice_index (v ∷ path) (length (v ∷ path) - 1)) (sym none ∙ slice_get-get_or (v ∷ path) (length (v ∷ path) - 1) 0 (omega arith)))

-- ---- the steps

-- more of a list was passed
IsWalkSoFar-followed : (lists : List (List ℕ)) (s : Walk) (v count : ℕ) → IsWalkSoFar lists s → v < length lists
    → ((k : ℕ) → slice_index s.followed v ≤ k → k < count → k < length (listed_at lists v) → IsVisited s (slice_index (listed_at lists v) k)) → IsWalkSoFar lists (with_followed s v count)
IsWalkSoFar-followed lists s v count is inside passed = record {
  marks = is.marks;
  counts = length-set s.followed v count ∙ is.counts;
  path_below = is.path_below;
  finished_below = is.finished_below;
  path_once = is.path_once;
  finished_once = is.finished_once;
  apart = is.apart;
  visited = is.visited;
  path_leads = is.path_leads;
  followed = followed;
  arcs = is.arcs;
  leads = is.leads;
} where
  followed : (u k : ℕ) → k < slice_index (set s.followed v count) u → k < length (listed_at lists u) → IsVisited s (slice_index (listed_at lists u) k)
  followed u k lt within = go (cases_eq u v) (cases_lt k (slice_index s.followed u)) where
    go : ((u ≡ v) ⊎ (u ≢ v)) → ((k < slice_index s.followed u) ⊎ (slice_index s.followed u ≤ k)) → IsVisited s (slice_index (listed_at lists u) k)
    go either (inl before) = is.followed u k before within
    go (inl own) (inr le) =
        let counts = is.counts in
        let now : slice_index (set s.followed v count) u ≡ count = ap (slice_index (set s.followed v count)) own ∙ get_or-set_same s.followed v count 0 (omega (arith, inside, counts)) in
        let le_v : slice_index s.followed v ≤ k = subst (λ (x : ℕ). slice_index s.followed x ≤ k) own le in
        let within_v : k < length (listed_at lists v) = subst (λ (x : ℕ). k < length (listed_at lists x)) own within in
        subst (λ (x : ℕ). IsVisited s (slice_index (listed_at lists x) k)) (sym own) (passed k le_v (omega (arith, lt, now)) within_v)
    go (inr other) (inr le) = (let now = get_or-set_other s.followed v u count 0 other in absurd (omega (arith, lt, le, now)))

-- one more vertex is visited, to which each of the path leads
IsWalkSoFar-visited : (lists : List (List ℕ)) (s : Walk) (w : ℕ) → IsWalkSoFar lists s → w < length lists → is_marked s.visited w ≡ false
    → ((i : ℕ) → i < length s.path → Leads (Next lists) (slice_index s.path i) w) → IsWalkSoFar lists (with_visited s w)
IsWalkSoFar-visited lists s w is inside unmarked led = record {
  marks = length-set s.visited w true ∙ is.marks;
  counts = is.counts;
  finished_below = is.finished_below;
  finished_once = is.finished_once;
  leads = is.leads;
  path_below = All-push (λ v. v < length lists) s.path w is.path_below inside;
  path_once = once_push s.path w is.path_once (λ has. new (inl has));
  apart = λ v has done. elim (Contains-push_cases s.path w v has) [
    | inl before ↦ is.apart v before done
    | inr same ↦ new (inr (subst (Contains s.finished) (sym same) done))
  ];
  visited = visited;
  path_leads = path_leads;
  followed = λ v k lt within. marked_more s.visited w (slice_index (listed_at lists v) k) in_marks (is.followed v k lt within);
  arcs = λ v u done next. marked_more s.visited w u in_marks (is.arcs v u done next);
} where
  in_marks : w < length s.visited
  in_marks = let marks = is.marks in omega (arith, inside, marks)

  new : (Contains s.path w ⊎ Contains s.finished w) → ⊥
  new has = let holds : is_marked s.visited w ≡ true = (is.visited w inside).1 has in absurd (cc)

  visited : (v : ℕ) → v < length lists → (is_marked (set s.visited w true) v ≡ true) ↔ (Contains (s.path ++ (w ∷ [])) v ⊎ Contains s.finished v)
  visited v lt = go (cases_eq v w) where
    go : ((v ≡ w) ⊎ (v ≢ w)) → (is_marked (set s.visited w true) v ≡ true) ↔ (Contains (s.path ++ (w ∷ [])) v ⊎ Contains s.finished v)
    go (inl own) = (
      (λ _. inl (subst (Contains (s.path ++ (w ∷ []))) (sym own) (Contains-push s.path w))),
      (λ _. ap (is_marked (set s.visited w true)) own ∙ get_or-set_same s.visited w true false in_marks),
    )
    go (inr other) = (
      (λ holds. elim ((is.visited v lt).0 (sym (get_or-set_other s.visited w v true false other) ∙ holds)) [
        | inl before ↦ inl (Contains-append_left s.path (w ∷ []) v before)
        | inr done ↦ inr done
      ]),
      (λ either. get_or-set_other s.visited w v true false other ∙ (is.visited v lt).1 (elim either [
        | inl has ↦ elim (Contains-push_cases s.path w v has) [ inl before ↦ inl before | inr same ↦ absurd (other (sym same)) ]
        | inr done ↦ inr done
      ])),
    )

  path_leads : (i j : ℕ) → i < j → j < length (s.path ++ (w ∷ [])) → Leads (Next lists) (slice_index (s.path ++ (w ∷ [])) i) (slice_index (s.path ++ (w ∷ [])) j)
  path_leads i j less lt = go (cases_lt j (length s.path)) where
    long : length (s.path ++ (w ∷ [])) ≡ length s.path + 1
    long = length-append s.path (w ∷ [])

    at_i : slice_index (s.path ++ (w ∷ [])) i ≡ slice_index s.path i
    at_i = get_or_append_left s.path (w ∷ []) 0 i (omega (arith, less, lt, long))

    go : ((j < length s.path) ⊎ (length s.path ≤ j)) → Leads (Next lists) (slice_index (s.path ++ (w ∷ [])) i) (slice_index (s.path ++ (w ∷ [])) j)
    go (inl before) =
        subst (λ (x : ℕ). Leads (Next lists) x (slice_index (s.path ++ (w ∷ [])) j)) (sym at_i)
        (subst (Leads (Next lists) (slice_index s.path i)) (sym (get_or_append_left s.path (w ∷ []) 0 j before)) (is.path_leads i j less before))
    go (inr last) =
        let at : length s.path ≡ j = omega (arith, last, lt, long) in
        subst (λ (x : ℕ). Leads (Next lists) x (slice_index (s.path ++ (w ∷ [])) j)) (sym at_i)
        (subst (Leads (Next lists) (slice_index s.path i)) (sym (get_or_push s.path w 0 j at)) (led i (omega (arith, less, at))))

-- the last vertex of the path is finished
IsWalkSoFar-finished : (lists : List (List ℕ)) (s : Walk) (v : ℕ) → IsWalkSoFar lists s → IsTop s.path v → ((w : ℕ) → Next lists v w → IsVisited s w) → IsWalkSoFar lists (with_vertex_finished s v)
IsWalkSoFar-finished lists s v is top all = record {
  marks = is.marks;
  counts = is.counts;
  path_below = All-take (λ u. u < length lists) end s.path is.path_below;
  finished_below = All-push (λ u. u < length lists) s.finished v is.finished_below v_below;
  path_once = once_take end s.path end_le is.path_once;
  finished_once = once_push s.finished v is.finished_once (is.apart v (IsTop-contains s.path v top));
  apart = apart;
  visited = visited;
  path_leads = λ i j less lt. (
      let j_in : j < end = omega (arith, lt, length-take-le end s.path end_le) in
      subst (λ (x : ℕ). Leads (Next lists) x (slice_index (take end s.path) j)) (sym (get_or-take end s.path i 0 (omega (arith, less, j_in))))
      (subst (Leads (Next lists) (slice_index s.path i)) (sym (get_or-take end s.path j 0 j_in)) (is.path_leads i j less (omega (arith, j_in, end_le)))));
  followed = is.followed;
  arcs = arcs;
  leads = leads;
} where
  end : ℕ
  end = length s.path - 1

  end_is : end + 1 ≡ length s.path
  end_is = let some = top.some in omega (arith, some)

  end_le : end ≤ length s.path
  end_le = omega (arith, end_is)

  v_below : v < length lists
  v_below = IsTop-below lists s v is top

  -- what is on the path is before its last vertex, or is the last one
  on_path : (u : ℕ) → Contains s.path u → Contains (take end s.path) u ⊎ (u ≡ v)
  on_path u has =
      let place = place-of s.path u has in
      elim (cases_lt place.0 end) [
        | inl lt ↦ inl (Contains-take end s.path place.0 u end_le lt place.2)
        | inr le ↦
            let at : place.0 ≡ end = omega (arith, le, place.1, end_is) in
            inr (sym place.2 ∙ ap (slice_index s.path) at ∙ top.last)
      ]

  was_on_path : (u : ℕ) → Contains (take end s.path) u → Contains s.path u
  was_on_path u has =
      let place = Contains-from_take end s.path u end_le has in
      subst (Contains s.path) place.2 (Contains-get_or s.path place.0 0 (omega (arith, place.1, end_le)))

  apart : (u : ℕ) → Contains (take end s.path) u → ¬ Contains (s.finished ++ (v ∷ [])) u
  apart u has done = elim (Contains-push_cases s.finished v u done) [
    | inl before ↦ is.apart u (was_on_path u has) before
    | inr same ↦
        let place = Contains-from_take end s.path u end_le has in
        is.path_once (place.0, end, place.1, omega (arith, end_is), place.2 ∙ sym same ∙ sym top.last)
  ]

  visited : (u : ℕ) → u < length lists → IsVisited s u ↔ (Contains (take end s.path) u ⊎ Contains (s.finished ++ (v ∷ [])) u)
  visited u lt = (
    (λ holds. elim ((is.visited u lt).0 holds) [
      | inl has ↦ elim (on_path u has) [
        | inl before ↦ inl before
        | inr same ↦ inr (subst (Contains (s.finished ++ (v ∷ []))) (sym same) (Contains-push s.finished v))
      ]
      | inr done ↦ inr (Contains-append_left s.finished (v ∷ []) u done)
    ]),
    (λ either. (is.visited u lt).1 (elim either [
      | inl has ↦ inl (was_on_path u has)
      | inr done ↦ elim (Contains-push_cases s.finished v u done) [
        | inl before ↦ inr before
        | inr same ↦ inl (subst (Contains s.path) same (IsTop-contains s.path v top))
      ]
    ])),
  )

  arcs : (u w : ℕ) → Contains (s.finished ++ (v ∷ [])) u → Next lists u w → IsVisited s w
  arcs u w done next = elim (Contains-push_cases s.finished v u done) [
    | inl before ↦ is.arcs u w before next
    | inr same ↦ all w (subst (λ (x : ℕ). Next lists x w) (sym same) next)
  ]

  long : length (s.finished ++ (v ∷ [])) ≡ length s.finished + 1
  long = length-append s.finished (v ∷ [])

  old : (i : ℕ) → i < length s.finished → slice_index (s.finished ++ (v ∷ [])) i ≡ slice_index s.finished i
  old i lt = get_or_append_left s.finished (v ∷ []) 0 i lt

  stands : (k j w : ℕ) → j ≤ k → j < length s.finished → slice_index s.finished j ≡ w → StandsBy (s.finished ++ (v ∷ [])) k w
  stands k j w le lt is_w = (j, le, omega (arith, lt, long), old j lt ∙ is_w)

  -- what is visited when v is finished is before it, or leads to it
  leads_now : (k w : ℕ) → length s.finished ≡ k → IsVisited s w → StandsBy (s.finished ++ (v ∷ [])) k w ⊎ Leads (Next lists) w (slice_index (s.finished ++ (v ∷ [])) k)
  leads_now k w at holds =
      let marks = is.marks in
      let k_is : slice_index (s.finished ++ (v ∷ [])) k ≡ v = get_or_push s.finished v 0 k at in
      elim ((is.visited w (omega (arith, marked_below s.visited w holds, marks))).0 holds) [
        | inl has ↦
            let place = place-of s.path w has in
            elim (cases_lt place.0 end) [
              | inl lt ↦
                  let led : Leads (Next lists) (slice_index s.path place.0) (slice_index s.path end) = is.path_leads place.0 end lt (omega (arith, end_is)) in
                  inr (subst (λ (x : ℕ). Leads (Next lists) x (slice_index (s.finished ++ (v ∷ [])) k)) place.2
                  (subst (Leads (Next lists) (slice_index s.path place.0)) (top.last ∙ sym k_is) led))
              | inr le ↦
                  let place_is : place.0 ≡ end = omega (arith, le, place.1, end_is) in
                  let w_is : w ≡ v = sym place.2 ∙ ap (slice_index s.path) place_is ∙ top.last in
                  inl (k, omega arith, omega (arith, at, long), k_is ∙ sym w_is)
            ]
        | inr done ↦
            let place = place-of s.finished w done in
            inl (stands k place.0 w (omega (arith, place.1, at)) place.1 place.2)
      ]

  leads : LeadToLast (Next lists) (s.finished ++ (v ∷ []))
  leads k i w le lt arc = go (cases_lt k (length s.finished)) (cases_lt i (length s.finished)) where
    go : ((k < length s.finished) ⊎ (length s.finished ≤ k)) → ((i < length s.finished) ⊎ (length s.finished ≤ i))
        → StandsBy (s.finished ++ (v ∷ [])) k w ⊎ Leads (Next lists) w (slice_index (s.finished ++ (v ∷ [])) k)
    go (inl before) either =
        elim (is.leads k i w le before (subst (λ (x : ℕ). Next lists x w) (old i (omega (arith, le, before))) arc)) [
          | inl there ↦ inl (stands k there.0 w there.1 there.2 there.3)
          | inr led ↦ inr (subst (Leads (Next lists) w) (sym (old k before)) led)
        ]
    go (inr last) (inl before) =
        let at : length s.finished ≡ k = omega (arith, last, lt, long) in
        leads_now k w at (is.arcs (slice_index s.finished i) w (Contains-get_or s.finished i 0 before) (subst (λ (x : ℕ). Next lists x w) (old i before) arc))
    go (inr last) (inr ge) =
        let at : length s.finished ≡ k = omega (arith, last, lt, long) in
        leads_now k w at (all w (subst (λ (x : ℕ). Next lists x w) (get_or_push s.finished v 0 i (omega (arith, ge, le, lt, long))) arc))

-- ---- one step

-- the vertex that comes next is one
pub Follows-inside : (lists : List (List ℕ)) (s : Walk) (v w : ℕ) (t : Walk) → IsWalkSoFar lists s → All (λ u. u < length lists) (listed_at lists v) → Follows s (listed_at lists v) v (Some w) t
    → (w < length lists) × (w < length t.visited)
Follows-inside lists s v w t is within follows =
    let inside : w < length lists = All-contains (λ u. u < length lists) (listed_at lists v) w within follows.tells.0 in
    let marks = is.marks in
    let same : length t.visited ≡ length s.visited = ap (λ (x : Walk). length x.visited) follows.after in
    (inside, omega (arith, inside, marks, same))

-- the next vertex is visited
pub WentOn-some : (lists : List (List ℕ)) (s : Walk) (v w : ℕ) (t : Walk) → IsWalkSoFar lists s → IsTop s.path v → Follows s (listed_at lists v) v (Some w) t → w < length lists
    → WentOn lists s (with_visited t w)
WentOn-some lists s v w t is top follows inside =
    subst (λ (x : Walk). WentOn lists s (with_visited x w)) (sym follows.after) (record {
      walk = IsWalkSoFar-visited lists past w (IsWalkSoFar-followed lists s v follows.count is v_below follows.passed) inside follows.tells.1 led;
      keeps = λ u holds. marked_more s.visited w u (omega (arith, inside, marks)) holds;
    })
  where
    past : Walk
    past = with_followed s v follows.count

    marks : length s.visited ≡ length lists
    marks = is.marks

    v_below : v < length lists
    v_below = IsTop-below lists s v is top

    arc : Leads (Next lists) v w
    arc = Leads-arc (Next lists) v w follows.tells.0

    led : (i : ℕ) → i < length s.path → Leads (Next lists) (slice_index s.path i) w
    led i lt = elim (cases_lt i (length s.path - 1)) [
      | inl less ↦
          Leads-trans (Next lists) (slice_index s.path i) v w
          (subst (Leads (Next lists) (slice_index s.path i)) top.last (is.path_leads i (length s.path - 1) less (omega (arith, lt)))) arc
      | inr le ↦
          let at : i ≡ length s.path - 1 = omega (arith, le, lt) in
          subst (λ (x : ℕ). Leads (Next lists) x w) (sym (ap (slice_index s.path) at ∙ top.last)) arc
    ]

-- there is no next vertex: the last one is finished
pub WentOn-none : (lists : List (List ℕ)) (s : Walk) (v : ℕ) (t : Walk) → IsWalkSoFar lists s → IsTop s.path v → Follows s (listed_at lists v) v None t → WentOn lists s (with_vertex_finished t v)
WentOn-none lists s v t is top follows =
    subst (λ (x : Walk). WentOn lists s (with_vertex_finished x v)) (sym follows.after) (record {
      walk = IsWalkSoFar-finished lists past v (IsWalkSoFar-followed lists s v follows.count is v_below follows.passed) top all;
      keeps = λ u holds. holds;
    })
  where
    past : Walk
    past = with_followed s v follows.count

    v_below : v < length lists
    v_below = IsTop-below lists s v is top

    all : (w : ℕ) → Next lists v w → IsVisited s w
    all w next =
        let place = place-of (listed_at lists v) w next in
        let end = follows.tells in
        subst (IsVisited s) place.2 (elim (cases_lt place.0 (slice_index s.followed v)) [
          | inl before ↦ is.followed v place.0 before place.1
          | inr le ↦ follows.passed place.0 le (omega (arith, place.1, end)) place.1
        ])

-- ---- from one root

-- the search comes to a root
pub WentOn-root : (lists : List (List ℕ)) (s : Walk) (w : ℕ) → IsWalkSoFar lists s → s.path ≡ [] → w < length lists → is_marked s.visited w ≡ false
    → WentOn lists s (with_visited s w) × IsVisited (with_visited s w) w
WentOn-root lists s w is at_rest inside unmarked =
    let marks = is.marks in
    let in_marks : w < length s.visited = omega (arith, inside, marks) in (
      record {
        walk = IsWalkSoFar-visited lists s w is inside unmarked (λ i lt. absurd (omega (arith, lt, ap length at_rest)));
        keeps = λ u holds. marked_more s.visited w u in_marks holds;
      },
      get_or-set_same s.visited w true false in_marks,
    )

-- there are at most three steps for each vertex (two, to be exact)
pub few_steps : (lists : List (List ℕ)) (s : Walk) → IsWalkSoFar lists s → steps_to s ≤ 3 * length lists
few_steps lists s is =
    omega (arith, at_most (length lists) s.path is.path_below is.path_once, at_most (length lists) s.finished is.finished_below is.finished_once)

-- ---- from all

pub IsFinishing-all : (lists : List (List ℕ)) (s : Walk) → IsWalkSoFar lists s → s.path ≡ [] → ((v : ℕ) → v < length lists → IsVisited s v)
    → IsFinishing (Next lists) (length lists) s.finished
IsFinishing-all lists s is no_path all = record {
  below = is.finished_below;
  all = λ v lt. elim ((is.visited v lt).0 (all v lt)) [
    | inl has ↦ absurd (omega (arith, ap length no_path, has.1))
    | inr done ↦ done
  ];
  once = is.finished_once;
  leads = is.leads;
}
