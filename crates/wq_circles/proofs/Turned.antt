-- The lists of a wait graph, and the same lists turned round.
use Rattle.std.proofs.Common.{◌≡◌, ◌≢◌, ℕ, zero, suc, ◌+◌, ◌<◌, ◌≤◌, ◌⊎◌, ◌↔◌, inl, inr, List, [], ◌∷◌, ◌++◌, length, map, get_or, set, replicate, refl, sym, subst, ap, ◌∙◌, arith}
use Rattle.std.specs.Prelude.{Contains, All, Vec}
use Rattle.std.proofs.lemmas.Bool.{cases_eq, cases_lt}
use Rattle.std.proofs.lemmas.List.{length-map, length-set, length-replicate, get_or-map, get_or-set_same, get_or-set_other, get_or-replicate, get_or_default}
use Rattle.std.proofs.lemmas.List.Elements.{All-contains, Contains-append_left, Contains-append_right, Contains-append_cases}
use Rattle.wq_items.specs.Chain.{IsChain, last_of}
use Rattle.wq_items.proofs.Lists.{Contains-here}
use Rattle.wq_graph.specs.declared.arc.WaitArc.{WaitArc}
use Rattle.wq_graph.specs.Graph.{HasArc, IsGraph, arcs_at}
use Rattle.wq_graph.proofs.ListLemmas.{Contains-cases, Contains-map, Contains-from_map}
use Rattle.wq_circles.specs.Leading.{Leads}
use Rattle.wq_circles.specs.Lists.{Next, listed_at, head_lists, HasTails, AreTurned}
use Rattle.wq_circles.proofs.Leading.{Leads-arc, Leads-trans}

nothing_in : (w : ℕ) → ¬ Contains [] w
nothing_in w has = omega (arith, has.1)

-- past its end there is nothing
past_end : {X : Type 0} (xs : List X) (i : ℕ) (d : X) → length xs ≤ i → get_or xs i d ≡ d
past_end [] i d le = refl
past_end (x ∷ xs) zero d le = absurd (omega (arith, le))
past_end (x ∷ xs) (suc i) d le = past_end xs i d (omega (arith, le))

-- what has something in its list is a vertex
pub Next-below : (lists : List (List ℕ)) (v w : ℕ) → Next lists v w → v < length lists
Next-below lists v w next = elim (cases_lt v (length lists)) [
  | inl lt ↦ lt
  | inr le ↦ absurd (nothing_in w (subst (λ (l : List ℕ). Contains l w) (past_end lists v [] le) next))
]

pub listed_at-head_lists : (graph : List (List WaitArc)) (v : ℕ) → listed_at (head_lists graph) v ≡ map (λ (a : WaitArc). a.head) (arcs_at graph v)
listed_at-head_lists [] v = refl
listed_at-head_lists (arcs ∷ graph) zero = refl
listed_at-head_lists (arcs ∷ graph) (suc v) = listed_at-head_lists graph v

pub Next-heads : (graph : List (List WaitArc)) (v w : ℕ) → HasArc graph v w → Next (head_lists graph) v w
Next-heads graph v w (k, a, lt, at, head) =
    subst (λ (l : List ℕ). Contains l w) (sym (listed_at-head_lists graph v))
    (subst (Contains (map (λ (b : WaitArc). b.head) (arcs_at graph v))) head (Contains-map (λ (b : WaitArc). b.head) (arcs_at graph v) a (k, lt, at)))

pub HasArc-heads : (graph : List (List WaitArc)) (v w : ℕ) → Next (head_lists graph) v w → HasArc graph v w
HasArc-heads graph v w next =
    let from = Contains-from_map (λ (b : WaitArc). b.head) (arcs_at graph v) w (subst (λ (l : List ℕ). Contains l w) (listed_at-head_lists graph v) next) in
    (from.1.0, from.0, from.1.1, from.1.2, from.2)

-- the heads of a wait graph are vertices
pub head_lists-below : (graph : List (List WaitArc)) → IsGraph graph → (v : ℕ) → All (λ w. w < length graph) (listed_at (head_lists graph) v)
head_lists-below graph is v k d lt = elim (cases_lt v (length graph)) [
  | inl inside ↦
      let same = listed_at-head_lists graph v in
      let within : k < length (arcs_at graph v) = omega (arith, lt, ap length same, length-map (arcs_at graph v) (λ (b : WaitArc). b.head)) in
      let a : WaitArc = record { src = 0; dst = 0; head = 0; place = 0 } in
      let head : (get_or (arcs_at graph v) k a).head < length graph = is.heads v [] inside k a within in
      subst (λ (n : ℕ). n < length graph) (sym (get_or-map (λ (b : WaitArc). b.head) (arcs_at graph v) k a d within) ∙ ap (λ (l : List ℕ). get_or l k d) (sym same)) head
  | inr past ↦
      let none : listed_at (head_lists graph) v ≡ [] = past_end (head_lists graph) v [] (omega (arith, past, length-map graph (map (λ (b : WaitArc). b.head)))) in
      absurd (omega (arith, lt, ap length none))
]

pub Next-in_range : (graph : List (List WaitArc)) → IsGraph graph → (v w : ℕ) → HasArc graph v w → w < length graph
Next-in_range graph is v w arc = All-contains (λ x. x < length graph) (listed_at (head_lists graph) v) w (head_lists-below graph is v) (Next-heads graph v w arc)

-- `below` of lists that are kept as vectors
pub lists-below : {A : Type 0} (lists : List (Vec ℕ A)) (shown : List (List ℕ)) (n : ℕ) → map (λ (l : Vec ℕ A). l.items) lists ≡ shown
    → ((v : ℕ) → All (λ w. w < n) (listed_at shown v)) → All (λ (l : Vec ℕ A). All (λ w. w < n) l.items) lists
lists-below {A = A} lists shown n same below k d lt =
    let items : Vec ℕ A → List ℕ = λ (l : Vec ℕ A). l.items in
    subst (All (λ w. w < n)) (ap (λ (ls : List (List ℕ)). listed_at ls k) (sym same) ∙ get_or-map items lists k d [] lt) (below k)

pub shown-below : {A : Type 0} (lists : List (Vec ℕ A)) (n : ℕ) → All (λ (l : Vec ℕ A). All (λ w. w < n) l.items) lists
    → (v : ℕ) → All (λ w. w < n) (listed_at (map (λ (l : Vec ℕ A). l.items) lists) v)
shown-below [] n within v = λ k d lt. absurd (omega (arith, lt))
shown-below {A = A} (l ∷ lists) n within v = elim (cases_lt v (length (l ∷ lists))) [
  | inl inside ↦
      let items : Vec ℕ A → List ℕ = λ (x : Vec ℕ A). x.items in
      subst (All (λ w. w < n)) (sym (get_or-map items (l ∷ lists) v l [] inside)) (within v l inside)
  | inr past ↦
      let items : Vec ℕ A → List ℕ = λ (x : Vec ℕ A). x.items in
      subst (All (λ w. w < n)) (sym (past_end (map items (l ∷ lists)) v [] (omega (arith, past, length-map (l ∷ lists) items)))) (λ k d lt. absurd (omega (arith, lt)))
]

-- if the lists hold vertices
pub listed_at-below : {A : Type 0} (lists : List (Vec ℕ A)) → All (λ (l : Vec ℕ A). All (λ w. w < length lists) l.items) lists
    → (v : ℕ) → All (λ w. w < length (map (λ (l : Vec ℕ A). l.items) lists)) (listed_at (map (λ (l : Vec ℕ A). l.items) lists) v)
listed_at-below {A = A} lists within v =
    let items : Vec ℕ A → List ℕ = λ (l : Vec ℕ A). l.items in
    subst (λ (n : ℕ). All (λ w. w < n) (listed_at (map items lists) v)) (sym (length-map lists items)) (shown-below lists (length lists) within v)

-- what is read at a place is the list of its vertex
pub listed_at-read : {A : Type 0} (lists : List (Vec ℕ A)) (v n : ℕ) (read : Vec ℕ A) → n ≡ v → read ≡ get_or lists n read → v < length lists
    → read.items ≡ listed_at (map (λ (l : Vec ℕ A). l.items) lists) v
listed_at-read {A = A} lists v n read same is inside =
    let items : Vec ℕ A → List ℕ = λ (l : Vec ℕ A). l.items in
    ap items (is ∙ ap (λ (k : ℕ). get_or lists k read) same) ∙ sym (get_or-map items lists v read [] inside)

-- ---- arcs turned round

-- if each arc of R is one of S, what leads by R leads by S
pub Leads-arcs : (R S : ℕ → ℕ → Type 0) → ((x y : ℕ) → R x y → S x y) → (v w : ℕ) → Leads R v w → Leads S v w
Leads-arcs R S arcs v w leads = record { others = leads.others; some = leads.some; chain = chain v leads.others leads.chain; ends = leads.ends } where
  chain : (v : ℕ) (vs : List ℕ) → IsChain R (v ∷ vs) → IsChain S (v ∷ vs)
  chain v [] is = tt
  chain v (x ∷ xs) is = (arcs v x is.0, chain x xs is.1)

-- if each arc of R is one of S turned round, what leads by R leads back by S
pub Leads-turned : (R S : ℕ → ℕ → Type 0) → ((x y : ℕ) → R x y → S y x) → (v w : ℕ) → Leads R v w → Leads S w v
Leads-turned R S arcs v w leads = go v leads.others leads.some leads.chain leads.ends where
  go : (v : ℕ) (vs : List ℕ) → vs ≢ [] → IsChain R (v ∷ vs) → last_of v vs ≡ w → Leads S w v
  go v [] some is ends = absurd (some refl)
  go v (x ∷ []) some is ends = subst (λ (z : ℕ). Leads S z v) ends (Leads-arc S x v (arcs v x is.0))
  go v (x ∷ y ∷ ys) some is ends =
      Leads-trans S w x v (go x (y ∷ ys) (λ same. (let bad : y ∷ ys ≡ [] = same in absurd (cc))) is.1 ends) (Leads-arc S x v (arcs v x is.0))

-- the tails of a graph's heads are its arcs turned round
pub Next-tails : (graph : List (List WaitArc)) (tails : List (List ℕ)) → IsGraph graph → AreTurned (head_lists graph) tails → (v w : ℕ) → HasArc graph v w → Next tails w v
Next-tails graph tails is turned v w arc =
    let long : length (head_lists graph) ≡ length graph = length-map graph (map (λ (b : WaitArc). b.head)) in
    let next : Next (head_lists graph) v w = Next-heads graph v w arc in
    let head : w < length graph = Next-in_range graph is v w arc in
    (turned.turned v w (omega (arith, long, head))).1 (Next-below (head_lists graph) v w next, next)

pub HasArc-tails : (graph : List (List WaitArc)) (tails : List (List ℕ)) → AreTurned (head_lists graph) tails → (w v : ℕ) → Next tails w v → HasArc graph v w
HasArc-tails graph tails turned w v next =
    let below : w < length tails = Next-below tails w v next in
    let same = turned.one_each in
    HasArc-heads graph v w ((turned.turned v w (omega (arith, below, same))).0 next).1

-- the tails are vertices
pub tails-below : (graph : List (List WaitArc)) (tails : List (List ℕ)) → AreTurned (head_lists graph) tails → (w : ℕ) → All (λ v. v < length tails) (listed_at tails w)
tails-below graph tails turned w k d lt = elim (cases_lt w (length tails)) [
  | inl inside ↦
      let v : ℕ = get_or (listed_at tails w) k d in
      let same = turned.one_each in
      let next : Next tails w v = (k, lt, get_or_default (listed_at tails w) k v d lt) in
      let below : v < length (head_lists graph) = ((turned.turned v w (omega (arith, inside, same))).0 next).0 in
      omega (arith, below, same)
  | inr past ↦ absurd (omega (arith, lt, ap length (past_end tails w [] past)))
]

-- ---- making the tails

-- one more head
pub HasTails-more : (old now : List (List ℕ)) (v : ℕ) (heads : List ℕ) (h : ℕ) → HasTails old now v heads → h < length old
    → HasTails old (set now h (listed_at now h ++ (v ∷ []))) v (heads ++ (h ∷ []))
HasTails-more old now v heads h has inside = record { one_each = length-set now h grown ∙ one_each; tails = tails } where
  one_each : length now ≡ length old
  one_each = has.one_each

  grown : List ℕ
  grown = listed_at now h ++ (v ∷ [])

  same : listed_at (set now h grown) h ≡ grown
  same = get_or-set_same now h grown [] (omega (arith, inside, one_each))

  tails : (u w : ℕ) → w < length old → Next (set now h grown) w u ↔ (Next old w u ⊎ ((u ≡ v) × Contains (heads ++ (h ∷ [])) w))
  tails u w lt = go (cases_eq w h) where
    before : Next now w u → Next old w u ⊎ ((u ≡ v) × Contains (heads ++ (h ∷ [])) w)
    before next = elim ((has.tails u w lt).0 next) [ inl was ↦ inl was | inr new ↦ inr (new.0, Contains-append_left heads (h ∷ []) w new.1) ]

    go : ((w ≡ h) ⊎ (w ≢ h)) → Next (set now h grown) w u ↔ (Next old w u ⊎ ((u ≡ v) × Contains (heads ++ (h ∷ [])) w))
    go (inl own) = (there, back) where
      at_h : listed_at (set now h grown) w ≡ grown
      at_h = ap (listed_at (set now h grown)) own ∙ same

      there : Next (set now h grown) w u → Next old w u ⊎ ((u ≡ v) × Contains (heads ++ (h ∷ [])) w)
      there next = elim (Contains-append_cases (listed_at now h) (v ∷ []) u (subst (λ (l : List ℕ). Contains l u) at_h next)) [
        | inl was ↦ before (subst (λ (x : ℕ). Next now x u) (sym own) was)
        | inr last ↦ elim (Contains-cases v [] u last) [
          | inl is ↦ inr (sym is, Contains-append_right heads (h ∷ []) w (subst (λ (x : ℕ). Contains (h ∷ []) x) (sym own) (Contains-here h [])))
          | inr none ↦ absurd (nothing_in u none)
        ]
      ]

      back : (Next old w u ⊎ ((u ≡ v) × Contains (heads ++ (h ∷ [])) w)) → Next (set now h grown) w u
      back (inl was) =
          let next : Next now w u = (has.tails u w lt).1 (inl was) in
          subst (λ (l : List ℕ). Contains l u) (sym at_h) (Contains-append_left (listed_at now h) (v ∷ []) u (subst (λ (x : ℕ). Next now x u) own next))
      back (inr new) =
          subst (λ (l : List ℕ). Contains l u) (sym at_h) (Contains-append_right (listed_at now h) (v ∷ []) u (subst (λ (x : ℕ). Contains (v ∷ []) x) (sym new.0) (Contains-here v [])))
    go (inr other) = (there, back) where
      at_w : listed_at (set now h grown) w ≡ listed_at now w
      at_w = get_or-set_other now h w grown [] other

      there : Next (set now h grown) w u → Next old w u ⊎ ((u ≡ v) × Contains (heads ++ (h ∷ [])) w)
      there next = before (subst (λ (l : List ℕ). Contains l u) at_w next)

      old_head : Contains (heads ++ (h ∷ [])) w → Contains heads w
      old_head has_w = elim (Contains-append_cases heads (h ∷ []) w has_w) [
        | inl was ↦ was
        | inr last ↦ elim (Contains-cases h [] w last) [ inl is ↦ absurd (other (sym is)) | inr none ↦ absurd (nothing_in w none) ]
      ]

      back : (Next old w u ⊎ ((u ≡ v) × Contains (heads ++ (h ∷ [])) w)) → Next (set now h grown) w u
      back (inl was) = subst (λ (l : List ℕ). Contains l u) (sym at_w) ((has.tails u w lt).1 (inl was))
      back (inr new) = subst (λ (l : List ℕ). Contains l u) (sym at_w) ((has.tails u w lt).1 (inr (new.0, old_head new.1)))

-- the lists of the first n vertices are turned round
pub record AreTailsUpTo (heads tails : List (List ℕ)) (n : ℕ) : Type 0 where
  pub one_each : length tails ≡ length heads
  pub turned : (u w : ℕ) → w < length heads → Next tails w u ↔ ((u < n) × Next heads u w)

pub AreTailsUpTo-more : (heads old new : List (List ℕ)) (v : ℕ) → AreTailsUpTo heads old v → HasTails old new v (listed_at heads v) → AreTailsUpTo heads new (v + 1)
AreTailsUpTo-more heads old new v are has = record {
  one_each = has.one_each ∙ are.one_each;
  turned = λ u w lt. (there u w lt, back u w lt);
} where
  in_old : (w : ℕ) → w < length heads → w < length old
  in_old w lt = let same = are.one_each in omega (arith, same, lt)

  there : (u w : ℕ) → w < length heads → Next new w u → (u < v + 1) × Next heads u w
  there u w lt next = elim ((has.tails u w (in_old w lt)).0 next) [
    | inl was ↦ let both = (are.turned u w lt).0 was in (omega (arith, both.0), both.1)
    | inr own ↦ (omega (arith, own.0), subst (λ (x : ℕ). Next heads x w) (sym own.0) own.1)
  ]

  back : (u w : ℕ) → w < length heads → ((u < v + 1) × Next heads u w) → Next new w u
  back u w lt both = elim (cases_eq u v) [
    | inl own ↦ (has.tails u w (in_old w lt)).1 (inr (own, subst (λ (x : ℕ). Next heads x w) own both.1))
    | inr other ↦ (has.tails u w (in_old w lt)).1 (inl ((are.turned u w lt).1 (omega (arith, both.0, other), both.1)))
  ]

pub AreTurned-all : (heads tails : List (List ℕ)) → AreTailsUpTo heads tails (length heads) → AreTurned heads tails
AreTurned-all heads tails are = record { one_each = are.one_each; turned = are.turned }
