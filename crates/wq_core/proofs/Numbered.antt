-- The number of each item's pending entry: what it answers, and how it changes with a step.
use Rattle.std.proofs.Common.{◌≡◌, ◌≢◌, ℕ, zero, suc, ◌<◌, ◌↔◌, ◌⊎◌, inl, inr, Bool, true, false, not, eqb, ltb, List, [], ◌∷◌, length, get_or, set, replicate, Some, None, refl, sym, ap, subst, ◌∙◌, arith}
use Rattle.std.specs.Prelude.{Contains, IsTrue, Option, option_map}
use Rattle.std.specs.List.{filter}
use Rattle.std.proofs.lemmas.Bool.{cases_lt, cases_eq, ne_eqb, eq-eqb}
use Rattle.std.proofs.lemmas.List.{get_or-set_same, get_or-set_other, length-set, length-replicate, get_or_past}
use Rattle.std.proofs.lemmas.List.Elements.{All-contains, Contains-append_left, Contains-push, Contains-push_cases, filter_passes}
use borrow.Author.Tests.{ltb-true}
use Rattle.wq_items.proofs.Lists.{Contains-filtered}
use Rattle.wq_core.specs.declared.entry.Entry.{Entry}
use Rattle.wq_core.specs.declared.step.Step.{Step}
use Rattle.wq_core.specs.declared.step.Step.TheVariants.{Queue, Cancel, Start, Wait, Over, WaitAll, OverAll, Finish, Help}
use Rattle.wq_core.specs.declared.step.HelpStep.{HelpStep}
use Rattle.wq_core.specs.declared.step.HelpStep.TheVariants.{Start as DoStart, Wait as DoWait, WaitAll as DoWaitAll, Over as DoOver, OverAll as DoOverAll, Finish as DoFinish}
use Rattle.wq_core.specs.Wiring.{Wiring, items, lane_of}
use Rattle.wq_core.specs.State.{Lane, State, lane_at, with_lane, empty_state, run_by, pending_of, IsPendingOn, HasPending}
use Rattle.wq_core.specs.Rules.{MayDo, Lawful, done_by, effect, begun, waiting_for, going_on, with_queued, with_cancelled, with_started, with_wait, with_over, with_finished}
use Rattle.wq_core.specs.Held.{IsSoundState, IsNumbering, HasPendingBelow}
use Rattle.wq_core.proofs.Contexts.{pending_kept as same_pending, MayStart-first}
use Rattle.wq_core.proofs.LaneLemmas.{cases_with_lane, lane_at-with_lane_same, lane_at-with_lane_other, lane_at-empty_state, lane_within, Contains-filter, Contains-nil}
use Rattle.wq_core.proofs.Machines.{pending-own_lane}

-- the numbers after what a context does
abbrev pub numbers_after_deed : HelpStep → List (Option ℕ) → List (Option ℕ)
numbers_after_deed (DoStart i) numbers = set numbers i None
numbers_after_deed (DoWait b) numbers = numbers
numbers_after_deed (DoWaitAll b) numbers = numbers
numbers_after_deed (DoOver b) numbers = numbers
numbers_after_deed (DoOverAll b) numbers = numbers
numbers_after_deed (DoFinish i) numbers = numbers

-- the numbers after a step
abbrev pub numbers_after : State → Step → List (Option ℕ) → List (Option ℕ)
numbers_after s (Queue i) numbers = set numbers i (Some s.next)
numbers_after s (Cancel i) numbers = set numbers i None
numbers_after s (Start q i) numbers = set numbers i None
numbers_after s (Wait q b) numbers = numbers
numbers_after s (Over q b) numbers = numbers
numbers_after s (WaitAll q b) numbers = numbers
numbers_after s (OverAll q b) numbers = numbers
numbers_after s (Finish q i) numbers = numbers
numbers_after s (Help q h deed) numbers = numbers_after_deed deed numbers

-- ---- before anything is queued

no_number : (n i : ℕ) → get_or {A = Option ℕ} (replicate n None) i None ≡ None
no_number zero i = refl
no_number (suc n) zero = refl
no_number (suc n) (suc i) = no_number n i

pub IsNumbering-empty : (w : Wiring) → IsNumbering w (empty_state w) (replicate (items w) None)
IsNumbering-empty w = record {
  one_each = length-replicate (items w) None;
  pending = λ i n is. absurd (let never : None ≡ Some n = sym (no_number (items w) i) ∙ is in cc);
  noted = λ q e there. absurd (Contains-nil e (subst (λ (l : Lane). IsPendingOn l e) (lane_at-empty_state w q) there));
}

-- ---- when the same entries are pending

pending_kept : (s : State) (q : ℕ) (lane : Lane) → lane.pending ≡ (lane_at s q).pending → (p : ℕ) → (lane_at (with_lane s q lane) p).pending ≡ (lane_at s p).pending
pending_kept s q lane same p = elim (cases_with_lane s q lane p) [
  | inl is ↦ ap (λ (l : Lane). l.pending) is
  | inr there ↦ ap (λ (l : Lane). l.pending) there.1 ∙ same ∙ ap (λ (r : ℕ). (lane_at s r).pending) (sym there.0)
]

IsNumbering-kept : (w : Wiring) (s : State) (q : ℕ) (lane : Lane) (numbers : List (Option ℕ)) → lane.pending ≡ (lane_at s q).pending → IsNumbering w s numbers → IsNumbering w (with_lane s q lane) numbers
IsNumbering-kept w s q lane numbers same before = record {
  one_each = before.one_each;
  pending = λ i n is. subst (λ (es : List Entry). Contains es (record { number = n; item = i })) (sym (pending_kept s q lane same (lane_of w i))) (before.pending i n is);
  noted = λ p e there. before.noted p e (subst (λ (es : List Entry). Contains es e) (pending_kept s q lane same p) there);
}

-- ---- when the entry of an item is removed

-- the second entries are the first without those of item i
record IsWithout (i : ℕ) (ps qs : List Entry) : Type 0 where
  less : (e : Entry) → Contains qs e → Contains ps e × (e.item ≢ i)
  rest : (e : Entry) → Contains ps e → e.item ≢ i → Contains qs e

IsWithout-cancelled : (i : ℕ) (ps : List Entry) → IsWithout i ps (filter (λ (e : Entry). not (eqb e.item i)) ps)
IsWithout-cancelled i ps =
    let others : Entry → Bool = λ (e : Entry). not (eqb e.item i) in
    record {
      less = λ e there. (
        Contains-filter others ps e there,
        (λ same.
            let passes : not (eqb e.item i) ≡ true = All-contains (λ (f : Entry). others f ≡ true) (filter others ps) e (filter_passes others ps) there in
            let fails : not (eqb e.item i) ≡ false = ap not (eq-eqb e.item i same) in
            absurd (let never : true ≡ false = sym passes ∙ fails in cc)),
      );
      rest = λ e there other. Contains-filtered others ps e (ap not (ne_eqb e.item i other)) there;
    }

forgotten : (numbers : List (Option ℕ)) (i : ℕ) → get_or (set numbers i None) i None ≡ None
forgotten [] i = refl
forgotten (n ∷ ns) zero = refl
forgotten (n ∷ ns) (suc i) = forgotten ns i

module _ (w : Wiring) (s : State) (q i : ℕ) (lane : Lane) (sound : IsSoundState w s) (own : lane_of w i ≡ q) (within : q < length s.lanes) (without : IsWithout i (lane_at s q).pending lane.pending) where
  less : (p : ℕ) (e : Entry) → IsPendingOn (lane_at (with_lane s q lane) p) e → IsPendingOn (lane_at s p) e × (e.item ≢ i)
  less p e there = elim (cases_eq p q) [
    | inl same ↦ (
        let here : IsPendingOn lane e = subst (λ (l : Lane). IsPendingOn l e) (ap (λ r. lane_at (with_lane s q lane) r) same ∙ lane_at-with_lane_same s q lane within) there in
        let was = without.less e here in
        (subst (λ r. IsPendingOn (lane_at s r) e) (sym same) was.0, was.1)
        )
    | inr other ↦ (
        let was : IsPendingOn (lane_at s p) e = subst (λ (l : Lane). IsPendingOn l e) (lane_at-with_lane_other s q lane p other) there in
        (was, λ is. other (sym (sound.own_lane p e (inl was)).1 ∙ ap (λ j. lane_of w j) is ∙ own))
        )
  ]

  rest : (p : ℕ) (e : Entry) → IsPendingOn (lane_at s p) e → e.item ≢ i → IsPendingOn (lane_at (with_lane s q lane) p) e
  rest p e was item = elim (cases_eq p q) [
    | inl same ↦ (
        let here : IsPendingOn lane e = without.rest e (subst (λ r. IsPendingOn (lane_at s r) e) same was) item in
        subst (λ (l : Lane). IsPendingOn l e) (sym (ap (λ r. lane_at (with_lane s q lane) r) same ∙ lane_at-with_lane_same s q lane within)) here
        )
    | inr other ↦ subst (λ (l : Lane). IsPendingOn l e) (sym (lane_at-with_lane_other s q lane p other)) was
  ]

  IsNumbering-taken : (numbers : List (Option ℕ)) → IsNumbering w s numbers → IsNumbering w (with_lane s q lane) (set numbers i None)
  IsNumbering-taken numbers before = record { one_each = length-set numbers i None ∙ before.one_each; pending = pending; noted = noted }
    where
      pending : (j n : ℕ) → get_or (set numbers i None) j None ≡ Some n → IsPendingOn (lane_at (with_lane s q lane) (lane_of w j)) (record { number = n; item = j })
      pending j n is = elim (cases_eq j i) [
        | inl same ↦ (
            let none : get_or (set numbers i None) j None ≡ None = subst (λ k. get_or (set numbers i None) k None ≡ None) (sym same) (forgotten numbers i) in
            absurd (let never : None ≡ Some n = sym none ∙ is in cc)
            )
        | inr other ↦ rest (lane_of w j) (record { number = n; item = j }) (before.pending j n (sym (get_or-set_other numbers i j None None other) ∙ is)) other
      ]

      noted : (p : ℕ) (e : Entry) → IsPendingOn (lane_at (with_lane s q lane) p) e → get_or (set numbers i None) e.item None ≡ Some e.number
      noted p e there = let was = less p e there in get_or-set_other numbers i e.item None None was.1 ∙ before.noted p e was.0

-- ---- when an entry is queued

module _ (w : Wiring) (s : State) (i : ℕ) (within : lane_of w i < length s.lanes) (none : ¬ HasPending s i) where
  abbrev new : Entry
  new = record { number = s.next; item = i }

  abbrev queued : State
  queued = with_lane s (lane_of w i) (with_queued new (lane_at s (lane_of w i)))

  own_lane_now : lane_at queued (lane_of w i) ≡ with_queued new (lane_at s (lane_of w i))
  own_lane_now = lane_at-with_lane_same s (lane_of w i) (with_queued new (lane_at s (lane_of w i))) within

  more : (p : ℕ) (e : Entry) → IsPendingOn (lane_at queued p) e → IsPendingOn (lane_at s p) e ⊎ (new ≡ e)
  more p e there = elim (cases_with_lane s (lane_of w i) (with_queued new (lane_at s (lane_of w i))) p) [
    | inl same ↦ inl (subst (λ (l : Lane). IsPendingOn l e) same there)
    | inr here ↦ elim (Contains-push_cases (lane_at s (lane_of w i)).pending new e (subst (λ (l : Lane). IsPendingOn l e) here.1 there)) [
      | inl before ↦ inl (subst (λ r. IsPendingOn (lane_at s r) e) (sym here.0) before)
      | inr same ↦ inr same
    ]
  ]

  stays : (p : ℕ) (e : Entry) → IsPendingOn (lane_at s p) e → IsPendingOn (lane_at queued p) e
  stays p e was = elim (cases_eq p (lane_of w i)) [
    | inl same ↦ (
        let here : IsPendingOn (with_queued new (lane_at s (lane_of w i))) e = Contains-append_left (lane_at s (lane_of w i)).pending (new ∷ []) e (subst (λ r. IsPendingOn (lane_at s r) e) same was) in
        subst (λ (l : Lane). IsPendingOn l e) (sym (ap (λ r. lane_at queued r) same ∙ own_lane_now)) here
        )
    | inr other ↦ subst (λ (l : Lane). IsPendingOn l e) (sym (lane_at-with_lane_other s (lane_of w i) (with_queued new (lane_at s (lane_of w i))) p other)) was
  ]

  IsNumbering-queued : (numbers : List (Option ℕ)) → i < items w → IsNumbering w s numbers → IsNumbering w queued (set numbers i (Some s.next))
  IsNumbering-queued numbers below before = record { one_each = length-set numbers i (Some s.next) ∙ before.one_each; pending = pending; noted = noted }
    where
      here : get_or (set numbers i (Some s.next)) i None ≡ Some s.next
      here = get_or-set_same numbers i (Some s.next) None (omega (arith, below, before.one_each))

      pending : (j n : ℕ) → get_or (set numbers i (Some s.next)) j None ≡ Some n → IsPendingOn (lane_at queued (lane_of w j)) (record { number = n; item = j })
      pending j n is = elim (cases_eq j i) [
        | inl same ↦ (
            let at : Some s.next ≡ Some n = sym here ∙ ap (λ k. get_or (set numbers i (Some s.next)) k None) (sym same) ∙ is in
            let number : s.next ≡ n = cc in
            let there : IsPendingOn (lane_at queued (lane_of w i)) new = subst (λ (l : Lane). IsPendingOn l new) (sym own_lane_now) (Contains-push (lane_at s (lane_of w i)).pending new) in
            subst (λ k. IsPendingOn (lane_at queued (lane_of w k)) (record { number = n; item = k })) (sym same) (subst (λ m. IsPendingOn (lane_at queued (lane_of w i)) (record { number = m; item = i })) number there)
            )
        | inr other ↦ stays (lane_of w j) (record { number = n; item = j }) (before.pending j n (sym (get_or-set_other numbers i j (Some s.next) None other) ∙ is))
      ]

      noted : (p : ℕ) (e : Entry) → IsPendingOn (lane_at queued p) e → get_or (set numbers i (Some s.next)) e.item None ≡ Some e.number
      noted p e there = elim (more p e there) [
        | inl was ↦ (
            let other : e.item ≢ i = λ same. none (record { lane = p; entry = e; pending = was; of_item = same }) in
            get_or-set_other numbers i e.item (Some s.next) None other ∙ before.noted p e was
            )
        | inr same ↦ subst (λ (f : Entry). get_or (set numbers i (Some s.next)) f.item None ≡ Some f.number) same here
      ]

-- ---- after a step

IsNumbering-deed : (w : Wiring) (s : State) (q c : ℕ) (deed : HelpStep) (numbers : List (Option ℕ)) → IsSoundState w s → MayDo w s q c deed → IsNumbering w s numbers
    → IsNumbering w (done_by s q c deed) (numbers_after_deed deed numbers)
IsNumbering-deed w s q c (DoStart i) numbers sound may before =
    let own : Lane = lane_at s q in
    let item : lane_of w i ≡ q = subst (λ j. lane_of w j ≡ q) may.of_item (sound.own_lane q may.entry (inl may.pending)).1 in
    let without = subst (IsWithout i own.pending) (sym (same_pending (with_cancelled i own) c (option_map begun (pending_of own i)))) (IsWithout-cancelled i own.pending) in
    IsNumbering-taken w s q i (with_started c i own) sound item (lane_within s q may.entry (inl may.pending)) without numbers before
IsNumbering-deed w s q c (DoWait b) numbers sound may before =
    let own : Lane = lane_at s q in
    IsNumbering-kept w s q (with_wait c false b s.next own) numbers (same_pending own c (option_map (waiting_for false b s.next) (run_by own c))) before
IsNumbering-deed w s q c (DoWaitAll b) numbers sound may before =
    let own : Lane = lane_at s q in
    IsNumbering-kept w s q (with_wait c true b s.next own) numbers (same_pending own c (option_map (waiting_for true b s.next) (run_by own c))) before
IsNumbering-deed w s q c (DoOver b) numbers sound may before =
    let own : Lane = lane_at s q in
    IsNumbering-kept w s q (with_over c own) numbers (same_pending own c (option_map going_on (run_by own c))) before
IsNumbering-deed w s q c (DoOverAll b) numbers sound may before =
    let own : Lane = lane_at s q in
    IsNumbering-kept w s q (with_over c own) numbers (same_pending own c (option_map going_on (run_by own c))) before
IsNumbering-deed w s q c (DoFinish i) numbers sound may before =
    let own : Lane = lane_at s q in
    IsNumbering-kept w s q (with_finished c own) numbers (same_pending own c None) before

pub IsNumbering-effect : (w : Wiring) (s : State) (step : Step) (numbers : List (Option ℕ)) → IsSoundState w s → ((i : ℕ) → i < items w → lane_of w i < w.lanes) → Lawful w s step → IsNumbering w s numbers
    → IsNumbering w (effect w s step) (numbers_after s step numbers)
IsNumbering-effect w s (Queue i) numbers sound within (below, none) before =
    let after = IsNumbering-queued w s i (omega (arith, within i below, sound.one_each)) none numbers below before in
    record { one_each = after.one_each; pending = after.pending; noted = after.noted }
IsNumbering-effect w s (Cancel i) numbers sound within has before =
    let own : has.lane ≡ lane_of w i = (pending-own_lane w s i sound has).1 in
    let there : lane_of w i < length s.lanes = subst (λ q. q < length s.lanes) own (lane_within s has.lane has.entry (inl has.pending)) in
    IsNumbering-taken w s (lane_of w i) i (with_cancelled i (lane_at s (lane_of w i))) sound refl there (IsWithout-cancelled i (lane_at s (lane_of w i)).pending) numbers before
IsNumbering-effect w s (Start q i) numbers sound within may before = IsNumbering-deed w s q 0 (DoStart i) numbers sound (MayStart-first (lane_at s q) i may) before
IsNumbering-effect w s (Wait q b) numbers sound within may before = IsNumbering-deed w s q 0 (DoWait b) numbers sound may before
IsNumbering-effect w s (WaitAll q b) numbers sound within may before = IsNumbering-deed w s q 0 (DoWaitAll b) numbers sound may before
IsNumbering-effect w s (Over q b) numbers sound within may before = IsNumbering-deed w s q 0 (DoOver b) numbers sound may before
IsNumbering-effect w s (OverAll q b) numbers sound within may before = IsNumbering-deed w s q 0 (DoOverAll b) numbers sound may before
IsNumbering-effect w s (Finish q i) numbers sound within may before = IsNumbering-deed w s q 0 (DoFinish i) numbers sound may before
IsNumbering-effect w s (Help q h deed) numbers sound within may before = IsNumbering-deed w s q h deed numbers sound may.1 before

-- ---- what it answers

module _ (w : Wiring) (s : State) (numbers : List (Option ℕ)) (i : ℕ) (numbering : IsNumbering w s numbers) where
  pub not_numbered : get_or numbers i None ≡ None → ¬ HasPending s i
  not_numbered is h =
      let there : get_or numbers i None ≡ Some h.entry.number = ap (λ j. get_or numbers j None) (sym h.of_item) ∙ numbering.noted h.lane h.entry h.pending in
      let never : None ≡ Some h.entry.number = sym is ∙ there in
      cc

  pub numbered-below : (n mark : ℕ) → get_or numbers i None ≡ Some n → IsTrue (ltb n mark) ↔ HasPendingBelow s i mark
  numbered-below n mark is = (
    (λ h. record { lane = lane_of w i; entry = record { number = n; item = i }; pending = numbering.pending i n is; of_item = refl; below = ltb-true n mark h }),
    (λ h.
        let there : get_or numbers i None ≡ Some h.entry.number = ap (λ j. get_or numbers j None) (sym h.of_item) ∙ numbering.noted h.lane h.entry h.pending in
        let both : Some n ≡ Some h.entry.number = sym is ∙ there in
        let same : n ≡ h.entry.number = cc in
        let below : n < mark = subst (λ k. k < mark) (sym same) h.below in
        grind (arith, below)),
  )

  pub not_numbered-below : (mark : ℕ) → get_or numbers i None ≡ None → ¬ HasPendingBelow s i mark
  not_numbered-below mark is h = not_numbered is (record { lane = h.lane; entry = h.entry; pending = h.pending; of_item = h.of_item })
