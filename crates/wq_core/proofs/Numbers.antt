-- Which number a step gives: at most one in a sound state, and one if it is lawful.
use Rattle.std.proofs.Common.{◌≡◌, ℕ, inl, inr, List, get_or, Some, refl, sym, ap, subst, ◌∙◌, arith}
use Rattle.std.specs.Prelude.{AllPairs, Contains}
use Rattle.std.proofs.lemmas.Bool.{cases_lt}
use Rattle.std.proofs.lemmas.List.{get_or_default}
use Rattle.wq_core.specs.declared.entry.Entry.{Entry}
use Rattle.wq_core.specs.declared.entry.Waiting.{Waiting}
use Rattle.wq_core.specs.declared.entry.Running.{Running}
use Rattle.wq_core.specs.declared.step.Step.{Step}
use Rattle.wq_core.specs.declared.step.Step.TheVariants.{Queue, Cancel, Start, Wait, Over, WaitAll, OverAll, Finish, Help}
use Rattle.wq_core.specs.declared.step.HelpStep.{HelpStep}
use Rattle.wq_core.specs.declared.step.HelpStep.TheVariants.{Start as DoStart, Wait as DoWait, WaitAll as DoWaitAll, Over as DoOver, OverAll as DoOverAll, Finish as DoFinish}
use Rattle.wq_core.specs.Wiring.{Wiring}
use Rattle.wq_core.specs.State.{State, lane_at, HasPending, RunsIn}
use Rattle.wq_core.specs.Rules.{MayDo, Lawful, GivesIn, Gives}
use Rattle.wq_core.specs.Runs.{IsRun, end_of}
use Rattle.wq_core.specs.Held.{IsSoundState}
use Rattle.wq_core.proofs.Contexts.{found-pending, MayStart-first}
use Rattle.wq_core.proofs.LaneLemmas.{same_running}
use Rattle.wq_core.proofs.Machines.{pending-own_lane}
use Rattle.wq_core.proofs.Sound.{Differ, IsSoundState-end_of}

-- ---- an item has at most one pending entry

-- two entries of one item, in a list that has no item twice, are the same
Contains-one : (ps : List Entry) (e f : Entry) → AllPairs Differ ps → Contains ps e → Contains ps f → e.item ≡ f.item → e ≡ f
Contains-one ps e f once (k, lt, at) (l, lt_too, at_too) same =
    elim (cases_lt k l) [
      | inl less ↦ absurd (once k l e less lt_too (ap (λ (x : Entry). x.item) at ∙ same ∙ ap (λ (x : Entry). x.item) (sym second)))
      | inr no_less ↦ elim (cases_lt l k) [
        | inl more ↦ absurd (once l k e more lt (ap (λ (x : Entry). x.item) second ∙ sym same ∙ ap (λ (x : Entry). x.item) (sym at)))
        | inr no_more ↦ (let place : k ≡ l = omega arith in sym at ∙ ap (λ n. get_or ps n e) place ∙ second)
      ]
    ]
  where
    second : get_or ps l e ≡ f
    second = get_or_default ps l e f lt_too ∙ at_too

pub pending-one : (w : Wiring) (s : State) (i : ℕ) → IsSoundState w s → (g h : HasPending s i) → g.entry ≡ h.entry
pending-one w s i sound g h =
    let lanes : h.lane ≡ g.lane = (pending-own_lane w s i sound h).1 ∙ sym (pending-own_lane w s i sound g).1 in
    let there : Contains (lane_at s g.lane).pending h.entry = subst (λ q. Contains (lane_at s q).pending h.entry) lanes h.pending in
    Contains-one (lane_at s g.lane).pending g.entry h.entry (sound.once g.lane) g.pending there (g.of_item ∙ sym h.of_item)

-- ---- at most one number

-- what context c of lane q runs waits with this mark
abbrev WaitsWith : State → ℕ → ℕ → ℕ → Type 0
WaitsWith s q c n = (r : Running) × RunsIn (lane_at s q) c r × ((f : Waiting) × (r.waiting ≡ Some f) × (f.mark ≡ n))

marks-one : (s : State) (q c n m : ℕ) → WaitsWith s q c n → WaitsWith s q c m → n ≡ m
marks-one s q c n m (r, runs, (f, waits, one)) (x, runs_too, (g, waits_too, other)) =
    let same : r ≡ x = same_running (lane_at s q) c r x runs runs_too in
    let both : Some f ≡ Some g = sym waits ∙ ap (λ (y : Running). y.waiting) same ∙ waits_too in
    let flush : f ≡ g = cc in
    sym one ∙ ap (λ (y : Waiting). y.mark) flush ∙ other

GivesIn-one : (s : State) (q c : ℕ) (deed : HelpStep) (n m : ℕ) → GivesIn s q c deed n → GivesIn s q c deed m → n ≡ m
GivesIn-one s q c (DoStart i) n m (e, first, one) (f, first_too, other) =
    let both : Some e ≡ Some f = sym first ∙ first_too in
    let same : e ≡ f = cc in
    sym one ∙ ap (λ (x : Entry). x.number) same ∙ other
GivesIn-one s q c (DoWait b) n m one other = one ∙ sym other
GivesIn-one s q c (DoWaitAll b) n m one other = one ∙ sym other
GivesIn-one s q c (DoOver b) n m one other = marks-one s q c n m one other
GivesIn-one s q c (DoOverAll b) n m one other = marks-one s q c n m one other
GivesIn-one s q c (DoFinish i) n m (r, runs, one) (x, runs_too, other) =
    sym one ∙ ap (λ (y : Running). y.entry.number) (same_running (lane_at s q) c r x runs runs_too) ∙ other

pub Gives-one : (w : Wiring) (s : State) (step : Step) (n m : ℕ) → IsSoundState w s → Gives s step n → Gives s step m → n ≡ m
Gives-one w s (Queue i) n m sound one other = one ∙ sym other
Gives-one w s (Cancel i) n m sound (g, one) (h, other) = sym one ∙ ap (λ (e : Entry). e.number) (pending-one w s i sound g h) ∙ other
Gives-one w s (Start q i) n m sound one other = GivesIn-one s q 0 (DoStart i) n m one other
Gives-one w s (Wait q b) n m sound one other = GivesIn-one s q 0 (DoWait b) n m one other
Gives-one w s (Over q b) n m sound one other = GivesIn-one s q 0 (DoOver b) n m one other
Gives-one w s (WaitAll q b) n m sound one other = GivesIn-one s q 0 (DoWaitAll b) n m one other
Gives-one w s (OverAll q b) n m sound one other = GivesIn-one s q 0 (DoOverAll b) n m one other
Gives-one w s (Finish q i) n m sound one other = GivesIn-one s q 0 (DoFinish i) n m one other
Gives-one w s (Help q h deed) n m sound one other = GivesIn-one s q h deed n m one other

pub Gives-one_after : (w : Wiring) (steps : List Step) (step : Step) (n m : ℕ) → IsRun w steps → Gives (end_of w steps) step n → Gives (end_of w steps) step m → n ≡ m
Gives-one_after w steps step n m run one other = Gives-one w (end_of w steps) step n m (IsSoundState-end_of w steps run) one other

-- ---- a number if it is lawful

GivesIn-some : (w : Wiring) (s : State) (q c : ℕ) (deed : HelpStep) → MayDo w s q c deed → (n : ℕ) × GivesIn s q c deed n
GivesIn-some w s q c (DoStart i) may =
    let found = found-pending (lane_at s q).pending i may.entry may.pending may.of_item in
    (found.0.number, (found.0, found.1, refl))
GivesIn-some w s q c (DoWait b) may = (s.next, refl)
GivesIn-some w s q c (DoWaitAll b) may = (s.next, refl)
GivesIn-some w s q c (DoOver b) (r, runs, may) = (may.flush.mark, (r, runs, (may.flush, may.waits, refl)))
GivesIn-some w s q c (DoOverAll b) (r, runs, may) = (may.flush.mark, (r, runs, (may.flush, may.waits, refl)))
GivesIn-some w s q c (DoFinish i) (r, runs, may) = (r.entry.number, (r, runs, refl))

pub Gives-some : (w : Wiring) (s : State) (step : Step) → Lawful w s step → (n : ℕ) × Gives s step n
Gives-some w s (Queue i) lawful = (s.next, refl)
Gives-some w s (Cancel i) lawful = (lawful.entry.number, (lawful, refl))
Gives-some w s (Start q i) lawful = GivesIn-some w s q 0 (DoStart i) (MayStart-first (lane_at s q) i lawful)
Gives-some w s (Wait q b) lawful = GivesIn-some w s q 0 (DoWait b) lawful
Gives-some w s (Over q b) lawful = GivesIn-some w s q 0 (DoOver b) lawful
Gives-some w s (WaitAll q b) lawful = GivesIn-some w s q 0 (DoWaitAll b) lawful
Gives-some w s (OverAll q b) lawful = GivesIn-some w s q 0 (DoOverAll b) lawful
Gives-some w s (Finish q i) lawful = GivesIn-some w s q 0 (DoFinish i) lawful
Gives-some w s (Help q h deed) lawful = GivesIn-some w s q h deed lawful.1
