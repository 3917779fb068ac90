-- What is promised where items must go on holds for each answer.
use Rattle.std.proofs.Common.{◌≡◌, ℕ, ◌<◌, inl, inr, Bool, true, false, not, List, [], ◌∷◌, ◌++◌, length}
use Rattle.std.proofs.Common.{Option, Some, None, refl, sym, ap, subst, ◌∙◌, arith}
use Rattle.std.specs.Prelude.{Contains, MatchOption}
use Rattle.std.specs.List.{All, list_any}
use Rattle.std.proofs.lemmas.Bool.{false≢true}
use Rattle.std.proofs.lemmas.List.Elements.{All-contains}
use Rattle.std.proofs.lemmas.List.Folds.{Any-from_list_any, list_any-from_Any}
use Rattle.std.proofs.lemmas.Option.{get_or_from_slice_get}
use Rattle.wq_items.specs.Chain.{IsChain, last_of}
use Rattle.wq_groups.specs.Declaration.{Declaration, IsDeclaration}
use Rattle.wq_groups.specs.DeclaredGroups.{declared_waits, Declared}
use Rattle.wq_groups.specs.Assignment.{IsAssignment, IsAssignmentOf, item_lane}
use Rattle.wq_groups.proofs.Lanes.{item_lanes-at}
use Rattle.wq_graph.specs.declared.arc.WaitArc.{WaitArc}
use Rattle.wq_core.specs.Wiring.{Wiring, HasRescuer, RescuedWaits, items, lane_of}
use Rattle.wq_core.specs.Workqueues.{Workqueues, wiring_of}
use Rattle.wq_core.specs.MustGoOn.{IsSafeFor}
use Rattle.wq_deadlock.specs.Judging.{bare_waits, is_on_bare}
use Rattle.wq_deadlock.proofs.BareLanes.{IsWiring-workqueues}
use Rattle.wq_hang.specs.declared.hop.Hop.{Hop}
use Rattle.wq_hang.specs.Walk.{IsHop, IsPath}
use Rattle.wq_hang.specs.WalkFor.{IsWalkFor}
use Rattle.wq_hang.proofs.FewestFor.{IsSafeFor-no_walk, run_for_walk}
use Rattle.wq_cert.specs.Texts.{workqueues_of_text, cert_refusal}
use Rattle.wq_cert.proofs.LanesRead.{AreWorkqueuesOf-workqueues_of_text}
use Rattle.wq_commands.specs.declared.end.End.{End}
use Rattle.wq_commands.specs.declared.end.End.TheVariants.{Good, Bad, Refused}
use Rattle.wq_commands.specs.Answer.{PrintsRefusal}
use Rattle.wq_commands.specs.Declaration.{declaration}
use Rattle.wq_commands.specs.Named.{items_with_names, IfNamed}
use Rattle.wq_commands.proofs.NamedLemmas.{items_with_names-below}
use Rattle.wq_commands.proofs.AnswerLemmas.{IsSound, IsSound-declaration, IsDeclaration-sound}
use Rattle.wq_circles.specs.Flushes.{IsInComponents, IsDeclaredFlush}
use Rattle.wq_circles.specs.Leading.{Leads}
use Rattle.wq_circles.specs.Held.{AreHeldCircles, IsLedTo, IsOrLeads, begins_marked, is_marked_component}
use Rattle.wq_circles.specs.HeldText.{CirclesFor, CirclesDeclaredFor, CirclesNamed, PrintsHeld, is_free}
use Rattle.wq_circles.specs.CirclesPromise.{KeepsHeldCircles, KeepsHeldDeclared, KeepsHeldFlushes}
use Rattle.wq_circles.proofs.ForBare.{AreForBare-waits}
use Rattle.wq_circles.proofs.HeldMarks.{Contains-kept, rescued-last}
use Rattle.wq_circles.proofs.HeldWalks.{IsSafeFor-alike, shows_walk}
use Rattle.wq_circles.proofs.OnCircles.{flush-items, lane-below}
use Rattle.wq_circles.proofs.Promised.{by_case, lie}
use Rattle.wq_circles.proofs.Safe.{flushes}

not_false : (b : Bool) → not b ≡ false → b ≡ true
not_false true same = refl
not_false false same = absurd (let never : true ≡ false = same in cc)

module _ (s : Declared) (ws : Workqueues) (declaration : IsDeclaration (declared_waits s))
    (assignment : IsAssignment s.partition.groups ws.assignment) (named : List ℕ) (components : List (List WaitArc))
    (waits ways : List WaitArc) (circles : AreHeldCircles (declared_waits s) ws named components waits ways)
    (within : (i : ℕ) → Contains named i → i < length s.partition.group_of) where
  abbrev d : Declaration
  d = declared_waits s

  abbrev w : Wiring
  w = wiring_of d ws

  abbrev R : ℕ → ℕ → Type 0
  R = RescuedWaits w

  abbrev lane : ℕ → ℕ
  lane i = item_lane ws.assignment d.group_of i

  abbrev at : ℕ → ℕ
  at i = lane_of w i

  abbrev all : List (List WaitArc)
  all = circles.all

  on_lane : (i : ℕ) → i < length d.group_of → at i ≡ lane i
  on_lane i item = item_lanes-at ws.assignment d.group_of i item

  ends : (b : WaitArc) → IsDeclaredFlush d.waits b → (b.src < length d.group_of) × (b.dst < length d.group_of)
  ends b is = flush-items d ws.assignment ws.bare declaration assignment circles.are.lowest circles.are.are_lowest b is

  below : (i : ℕ) → i < length d.group_of → lane i < ws.assignment.lanes
  below i item =
      lane-below d ws.assignment ws.bare declaration assignment circles.are.lowest circles.are.are_lowest i item

  -- ---- nothing is printed, so nobody is held up

  on_bare : (b : Bool) → (¬ b ≡ false) → b ≡ true
  on_bare true rescued = refl
  on_bare false rescued = absurd (rescued refl)

  free_walks : (cs : List (List WaitArc)) (bs : List WaitArc) → components ≡ cs → waits ≡ bs
      → is_free s ws named cs bs ≡ true → (x : ℕ) (hops : List Hop) → ¬ IsWalkFor w named x hops
  free_walks (c ∷ cs) bs are those free x hops walk = absurd (false≢true free)
  free_walks [] (b ∷ bs) are those free x hops walk = absurd (false≢true free)
  free_walks [] [] are those free x hops walk =
      elim (shows_walk d ws declaration assignment named components waits ways circles within x hops walk.is_named
      walk.holds_up) [
        | inl none ↦
            let has = walk.is_named in
            let is : is_on_bare ws d.group_of x ≡ true =
            on_bare (is_on_bare ws d.group_of x)
            (λ rescued. none.1 (subst (HasRescuer w) (sym (on_lane x (within x has))) rescued)) in
            let some : list_any (is_on_bare ws d.group_of) named ≡ true =
            list_any-from_Any (is_on_bare ws d.group_of) named (has.0, x, has.1, has.2, is) in
            false≢true (sym (ap not some) ∙ free)
        | inr shows ↦ elim shows.some [
          | inl (l, has) ↦ omega (arith, has.1, ap (λ (ls : List (List WaitArc)). length ls) are)
          | inr (b, has) ↦ omega (arith, has.1, ap (λ (ls : List WaitArc). length ls) those)
        ]
      ]

  free_safe : is_free s ws named components waits ≡ true → IsSafeFor w named
  free_safe free =
      IsSafeFor-no_walk w named (IsWiring-workqueues d ws declaration assignment)
      (free_walks components waits refl refl free)

  -- ---- something is printed, so somebody is held up

  -- a walk from an item on workqueue p to item j
  record HasPath (p j : ℕ) : Type 0 where
    pub item : ℕ
    pub on : at item ≡ p
    pub hops : List Hop
    pub path : IsPath w item hops j

  path_along : (j p : ℕ) (qs : List ℕ) → IsChain R (p ∷ qs) → last_of p qs ≡ at j → HasPath p j
  path_along j p [] chain is = record { item = j; on = sym is; hops = []; path = refl }
  path_along j p (q ∷ qs) chain is =
      let rest = path_along j q qs chain.1 is in
      let from = chain.0.2 in
      let (k, t, fits, here, same) = from.declares in
      let on : at from.item ≡ p = get_or_from_slice_get w.lane_of_item from.item p 0 from.of_item in
      let to : at t.item ≡ q = ap at same ∙ get_or_from_slice_get w.lane_of_item from.target q 0 from.of_target in
      let h : Hop = record { item = from.item; flush = t; next = rest.item } in
      let hop : IsHop w h = record { declared = (k, fits, here); rescuer = subst (HasRescuer w) (sym on) chain.0.0 } in
      record {
        item = from.item;
        on = on;
        hops = h ∷ rest.hops;
        path = (refl, hop, rest.on ∙ sym to, rest.path);
      }

  path_to : (j p : ℕ) → IsOrLeads d ws p (at j) → HasPath p j
  path_to j p (inl same) = record { item = j; on = sym same; hops = []; path = refl }
  path_to j p (inr leads) = path_along j p leads.others leads.chain leads.ends

  -- somebody is held up
  abbrev IsHeld : Type 0
  IsHeld = (x : ℕ) × (hops : List Hop) × IsWalkFor w named x hops

  item_of : (x : ℕ) → Contains named x → x < items w
  item_of x has = omega (arith, within x has, declaration.one_list_each)

  -- from a named item to the item of a flush whose workqueue is led to
  to_flush : (j : ℕ) → j < length d.group_of → IsLedTo d ws named (lane j)
      → (x : ℕ) × Contains named x × HasPath (at x) j
  to_flush j item (rescuer, (x, has, rescued, by)) = (
    x,
    has,
    path_to j (at x)
        (subst (IsOrLeads d ws (at x)) (sym (on_lane j item))
        (subst (λ (p : ℕ). IsOrLeads d ws p (lane j)) (sym (on_lane x (within x has))) by)),
  )

  held_round : (a : WaitArc) → IsDeclaredFlush d.waits a → Leads R (lane a.dst) (lane a.src)
      → IsLedTo d ws named (lane a.src) → IsHeld
  held_round a flush leads led =
      let is = ends a flush in
      let t = flush.1 in
      let start = to_flush a.src is.0 led in
      let rest : HasPath (lane a.dst) a.src =
      path_along a.src (lane a.dst) leads.others leads.chain (leads.ends ∙ sym (on_lane a.src is.0)) in
      let rescuer : HasRescuer w (at a.src) =
      subst (HasRescuer w) (sym (on_lane a.src is.0))
      (rescued-last d ws declaration assignment (lane a.dst) (lane a.src) leads) in
      let to : at t.item ≡ lane a.dst = ap at flush.4.0 ∙ on_lane a.dst is.1 in
      let h : Hop = record { item = a.src; flush = t; next = rest.item } in
      let hop : IsHop w h = record { declared = (flush.0, flush.2, flush.3); rescuer = rescuer } in
      let way = start.2 in (
        start.0,
        way.hops ++ (h ∷ rest.hops),
        record {
          is_named = start.1;
          item = item_of start.0 start.1;
          holds_up = inr (
            way.item,
            way.on,
            inl (record {
              way = way.hops;
              round = h ∷ rest.hops;
              at = a.src;
              are = refl;
              leads = way.path;
              some = omega arith;
              goes_round = (refl, hop, rest.on ∙ sym to, rest.path);
            }),
          );
        },
      )

  held_bare : (b : WaitArc) → Contains (bare_waits d ws) b → IsLedTo d ws named (lane b.src) → IsHeld
  held_bare b there led =
      let for_bare = AreForBare-waits d ws declaration assignment in
      let flush : IsDeclaredFlush d.waits b =
      All-contains (IsDeclaredFlush d.waits) (bare_waits d ws) b for_bare.declared there in
      let leads = (for_bare.lie b flush).0 (there.0, b, there.1, there.2, (refl, refl, refl)) in
      let is = ends b flush in
      let t = flush.1 in
      let start = to_flush b.src is.0 led in
      let to : lane b.dst ≡ at t.item = sym (ap at flush.4.0 ∙ on_lane b.dst is.1) in
      let h : Hop = record { item = b.src; flush = t; next = t.item } in
      let hop : IsHop w h = record {
        declared = (flush.0, flush.2, flush.3);
        rescuer = subst (HasRescuer w) (sym (on_lane b.src is.0)) leads.0;
      } in
      let bare : ¬ HasRescuer w (at t.item) = subst (λ (q : ℕ). ¬ HasRescuer w q) to leads.1 in
      let way = start.2 in (
        start.0,
        way.hops ++ (h ∷ []),
        record {
          is_named = start.1;
          item = item_of start.0 start.1;
          holds_up = inr (
            way.item,
            way.on,
            inr (record {
              way = way.hops;
              last = h;
              are = refl;
              leads = way.path;
              to_bare = record { hop = hop; bare = bare; next = refl };
            }),
          );
        },
      )

  -- a component that is printed is led to
  held_component : (l : List WaitArc) → Contains all l → is_marked_component d ws circles.led l ≡ true → IsHeld
  held_component [] among marked = absurd (false≢true marked)
  held_component (a ∷ rest) among marked =
      let flush : IsDeclaredFlush d.waits a =
      All-contains (All (IsDeclaredFlush d.waits)) all (a ∷ rest)
      (flushes d ws.assignment ws.bare declaration assignment all circles.are) among 0 a (omega arith) in
      let led = (circles.led_to.marked (lane a.src) (below a.src (ends a flush).0)).0 marked in
      let is_in : IsInComponents all a =
      (among.0, a ∷ rest, among.1, among.2, (0, a, omega arith, refl, (refl, refl, refl))) in
      held_round a flush
      ((lie d ws.assignment ws.bare declaration assignment all circles.are a flush).0 is_in) led

  held_some : (cs : List (List WaitArc)) (bs : List WaitArc) → components ≡ cs → waits ≡ bs
      → is_free s ws named cs bs ≡ false → IsHeld
  held_some (c ∷ cs) bs are those not_free =
      let there : Contains components c = subst (λ (ls : List (List WaitArc)). Contains ls c) (sym are)
      (0, omega arith, refl) in
      let kept = Contains-kept (is_marked_component d ws circles.led) all c
      (subst (λ (ls : List (List WaitArc)). Contains ls c) circles.some_components there) in
      held_component c kept.0 kept.1
  held_some [] (b ∷ bs) are those not_free =
      let there : Contains waits b = subst (λ (ls : List WaitArc). Contains ls b) (sym those) (0, omega arith, refl) in
      let kept = Contains-kept (begins_marked d ws circles.led) (bare_waits d ws) b
      (subst (λ (ls : List WaitArc). Contains ls b) circles.some_waits there) in
      let for_bare = AreForBare-waits d ws declaration assignment in
      let flush : IsDeclaredFlush d.waits b =
      All-contains (IsDeclaredFlush d.waits) (bare_waits d ws) b for_bare.declared kept.0 in
      held_bare b kept.0 ((circles.led_to.marked (lane b.src) (below b.src (ends b flush).0)).0 kept.1)
  held_some [] [] are those not_free =
      let (k, x, fits, here, is) = Any-from_list_any (is_on_bare ws d.group_of) named
      (not_false (list_any (is_on_bare ws d.group_of) named) not_free) in
      let has : Contains named x = (k, fits, here) in
      let bare : ¬ HasRescuer w (at x) = λ rescuer.
      false≢true (sym (subst (HasRescuer w) (on_lane x (within x has)) rescuer) ∙ is) in
      (x, [], record { is_named = has; item = item_of x has; holds_up = inl (refl, bare) })

  not_safe : is_free s ws named components waits ≡ false → ¬ IsSafeFor w named
  not_safe not_free safe =
      let walk = held_some components waits refl refl not_free in
      let run = run_for_walk w named walk.0 walk.1 (IsWiring-workqueues d ws declaration assignment) walk.2 in
      safe 0 (omega arith) run.0 run.1.0 run.1.1

  -- ---- the answer

  keeps : (free : Bool) → is_free s ws named components waits ≡ free → (end : End) (out : List ℕ)
      → PrintsHeld free s components waits ways end out → KeepsHeldFlushes s ws named end out
  keeps true free end out printed = record {
    safe = λ _. (free_safe free, printed.1);
    bad = λ bad. absurd (let never : Good ≡ Bad = sym printed.0 ∙ bad in cc);
  }
  keeps false not_free end out printed = record {
    safe = λ good. absurd (let never : Bad ≡ Good = sym printed.0 ∙ good in cc);
    bad = λ _. (
      components,
      waits,
      ways,
      printed.1,
      not_safe not_free,
      λ kept others alike safe.
          IsSafeFor-alike d ws declaration assignment named components waits ways circles within kept others alike safe,
    );
  }

-- ---- answers

module _ (s : Declared) (sound : IsSound s) (ws : Workqueues)
    (assigned : IsAssignmentOf s.partition.groups ws.assignment) (end : End) (out : List ℕ) where
  by_names : (names : List (List ℕ)) (found : Option (List ℕ)) → items_with_names s.table.names names ≡ found
      → IfNamed found (CirclesFor s ws) end out
      → MatchOption found (end ≡ Refused) (λ named. KeepsHeldFlushes s ws named end out)
  by_names names None is refused = refused.0
  by_names names (Some named) is answer =
      let low = items_with_names-below s.table.names names named is in
      let within : (i : ℕ) → Contains named i → i < length s.partition.group_of = λ i has.
      omega (arith, All-contains (λ (j : ℕ). j < length s.table.names) named i low has, sound.one_group_each) in
      keeps s ws (IsDeclaration-sound s sound) assigned.assignment named answer.components answer.waits answer.ways
      answer.are within (is_free s ws named answer.components answer.waits) refl end out answer.printed

pub KeepsHeldCircles-answers : (names : List (List ℕ)) (declared text : List ℕ) (end : End) (out : List ℕ)
    → CirclesNamed names declared text end out → KeepsHeldCircles names declared text end out
KeepsHeldCircles-answers names declared text end out =
    by_case (declaration declared) (λ s. CirclesDeclaredFor s names text end out)
    (λ s. KeepsHeldDeclared s names text end out) (λ r. PrintsRefusal r end out) (λ r. end ≡ Refused)
    (λ s is.
    by_case (workqueues_of_text s.table.names s.partition text)
    (λ ws. IfNamed (items_with_names s.table.names names) (CirclesFor s ws) end out)
    (λ ws. MatchOption (items_with_names s.table.names names) (end ≡ Refused)
    (λ named. KeepsHeldFlushes s ws named end out)) (λ fault. PrintsRefusal (cert_refusal fault) end out)
    (λ fault. end ≡ Refused)
    (λ ws read. let sound = IsSound-declaration declared s is in
    by_names s sound ws (AreWorkqueuesOf-workqueues_of_text s.table.names s.partition sound.partition
    (sym sound.one_group_each) text ws read).assignment end out names (items_with_names s.table.names names) refl)
    (λ fault refused. refused.0))
    (λ r refused. refused.0)
