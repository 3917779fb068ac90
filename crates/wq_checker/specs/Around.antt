-- Answers of the checker around fixed workqueues: what a certificate shows, or the first reason why it shows nothing.
use Rattle.std.specs.Prelude.{◌≡◌, ◌≢◌, ◌⊎◌, ℕ, ◌-◌, ◌+◌, ◌<◌, ◌≤◌, ◌==◌, List, [], ◌∷◌, length, map, Option, Some}
use Rattle.std.specs.Prelude.{None, Result, Ok, Err, slice_get, unwrap_or}
use Rattle.std.specs.List.{All, position}
use Rattle.wq_items.specs.declared.target.Target.{Target}
use Rattle.wq_items.specs.Table.{ItemWaits}
use Rattle.wq_groups.specs.Declaration.{Declaration}
use Rattle.wq_groups.specs.Assignment.{IsAssignment}
use Rattle.wq_core.specs.declared.step.Step.{Step}
use Rattle.wq_core.specs.State.{max_number}
use Rattle.wq_core.specs.Wiring.{Wiring, HasRescuer, lane_of}
use Rattle.wq_core.specs.Workqueues.{Workqueues, wiring_of}
use Rattle.wq_core.specs.Deadlock.{DeadlocksBy}
use Rattle.wq_fixed.specs.Fixed.{Fixed, Keeps, IsLeastAround, AllDeadlock, fixed_lanes, free_groups, new_among, start}
use Rattle.wq_cert.specs.AroundReading.{AroundPlan, NoRescuerCertificate, AroundCertificate, OfPlanAround}
use Rattle.wq_cert.specs.AroundReading.{OfCircleAround, OfNoRescuer}
use Rattle.wq_cert.specs.Certificate.{CircleCertificate}
use Rattle.wq_cert.specs.Reading.{max_count}
use Rattle.wq_checker.specs.declared.answer.Yes.TheVariants as yes
use Rattle.wq_checker.specs.declared.answer.No.TheVariants.{NotFalling, LengthDiffers, ChainBroken, CircleBroken}
use Rattle.wq_checker.specs.declared.answer.No.TheVariants.{RunBroken}
use Rattle.wq_checker.specs.declared.around.YesAround.{YesAround}
use Rattle.wq_checker.specs.declared.around.YesAround.TheVariants as yes_around
use Rattle.wq_checker.specs.declared.around.NoAround.{NoAround}
use Rattle.wq_checker.specs.declared.around.NoAround.TheVariants as no_around
use Rattle.wq_checker.specs.Answers.{ArcsOfItems}
use Rattle.wq_checker.specs.Chains.{before_in_chain, before_in_circle}
use Rattle.wq_checker.specs.Falling.{Declares}

-- the workqueues that a plan text says there are
abbrev pub planned : Fixed → AroundPlan → Workqueues
planned f c = record { assignment = c.assignment; bare = f.bare }

-- the wiring of the start
abbrev pub start_wiring : Declaration → Fixed → Wiring
start_wiring d f = wiring_of d (start f)

-- ---- flushes that fall

-- the place of lane q in the order: the first one, or past its end if it isn't there
abbrev pub place_in : List ℕ → ℕ → ℕ
place_in order q = unwrap_or (position (λ p. p == q) order) (length order)

-- if the lane of item i has a rescuer, that of item j has one, and comes before it in the order
abbrev pub FallsAround : Declaration → Fixed → AroundPlan → ℕ → ℕ → Type 0
FallsAround d f c i j =
    let w = wiring_of d (planned f c) in
    HasRescuer w (lane_of w i)
    → HasRescuer w (lane_of w j) × (place_in c.order (lane_of w j) < place_in c.order (lane_of w i))

-- each declared flush falls
abbrev pub AllFallAround : Declaration → Fixed → AroundPlan → Type 0
AllFallAround d f c = (i j : ℕ) → ItemWaits d.waits i j → FallsAround d f c i j

-- of the declared flushes that don't fall, the one at the lowest place is by item i, and its target is item j
pub record IsFirstNotFallingAround (d : Declaration) (f : Fixed) (c : AroundPlan) (i j : ℕ) : Type 0 where
  pub target : Target
  pub declares : Declares d i target
  pub of_target : target.item ≡ j
  pub stays : ¬ FallsAround d f c i j
  pub first : (k : ℕ) (other : Target) → Declares d k other → other.place < target.place
      → FallsAround d f c k other.item

-- ---- chains and circles of the start

-- the arc is a declared flush between items on lanes that have a rescuer; and its item is on the lane of the target of
-- the arc before it, if there is one
pub record JoinsIn (w : Wiring) (before : Option (ℕ × ℕ)) (arc : ℕ × ℕ) : Type 0 where
  pub declared : ItemWaits w.waits arc.0 arc.1
  pub from : HasRescuer w (lane_of w arc.0)
  pub to : HasRescuer w (lane_of w arc.1)
  pub joined : (b : ℕ × ℕ) → before ≡ Some b → lane_of w b.1 ≡ lane_of w arc.0

-- each arc joins the one before it
abbrev pub AllJoinIn : Wiring → (ℕ → Option (ℕ × ℕ)) → List (ℕ × ℕ) → Type 0
AllJoinIn w before arcs = (k : ℕ) (arc : ℕ × ℕ) → slice_get arcs k ≡ Some arc → JoinsIn w (before k) arc

-- the same in the start
abbrev pub AllJoinAround : Declaration → Fixed → (ℕ → Option (ℕ × ℕ)) → List (ℕ × ℕ) → Type 0
AllJoinAround d f = AllJoinIn (start_wiring d f)

-- arc `at`, counted from 1, is the first that doesn't join the one before it
pub record IsFirstBreakIn (w : Wiring) (before : ℕ → Option (ℕ × ℕ)) (arcs : List (ℕ × ℕ)) (at : ℕ) : Type 0 where
  pub from_one : 0 < at
  pub arc : ℕ × ℕ
  pub stands : slice_get arcs (at - 1) ≡ Some arc
  pub breaks : ¬ JoinsIn w (before (at - 1)) arc
  pub first : (k : ℕ) (other : ℕ × ℕ) → k < at - 1 → slice_get arcs k ≡ Some other → JoinsIn w (before k) other

-- the same in the start
abbrev pub IsFirstBreakAround : Declaration → Fixed → (ℕ → Option (ℕ × ℕ)) → List (ℕ × ℕ) → ℕ → Type 0
IsFirstBreakAround d f = IsFirstBreakIn (start_wiring d f)

-- the lanes of the start on a chain of these arcs: that of the first item, and those of the targets
abbrev pub lanes_along : Declaration → Fixed → List (ℕ × ℕ) → List ℕ
lanes_along d f [] = []
lanes_along d f (arc ∷ arcs) =
    lane_of (start_wiring d f) arc.0
    ∷ map (λ (a : ℕ × ℕ). lane_of (start_wiring d f) a.1) (arc ∷ arcs)

-- how many new lanes a chain has; one without arcs has as many as it is said to have
abbrev pub new_along : Declaration → Fixed → ℕ → List (ℕ × ℕ) → ℕ
new_along d f n [] = n
new_along d f n (arc ∷ arcs) = new_among f (lanes_along d f (arc ∷ arcs))

-- ---- plans

-- how many new lanes a plan text has
abbrev pub new_planned : Fixed → AroundPlan → ℕ
new_planned f c = c.assignment.lanes - fixed_lanes f

-- the chain is said to have one lane, but no group is free
abbrev pub LacksFree : Fixed → AroundPlan → Type 0
LacksFree f c = (c.length ≡ 1) × (free_groups f ≡ 0)

-- the chain breaks at arc `at`, counted from 1, or at 0 if it lacks its one lane
abbrev pub IsBrokenAroundAt : Declaration → Fixed → AroundPlan → ℕ → Type 0
IsBrokenAroundAt d f c at =
    (LacksFree f c × (at ≡ 0)) ⊎ IsFirstBreakAround d f (before_in_chain c.arcs) c.arcs at

-- each flush falls, and the chain has as many new lanes as the plan
pub record IsGoodPlanAround (d : Declaration) (f : Fixed) (c : AroundPlan) : Type 0 where
  pub falls : AllFallAround d f c
  pub long : new_along d f c.length c.arcs ≡ new_planned f c
  pub has_free : ¬ LacksFree f c
  pub joined : AllJoinAround d f (before_in_chain c.arcs) c.arcs

-- what is answered to the text of a plan
abbrev pub AnswersPlanAround : Declaration → Fixed → AroundPlan → Result YesAround NoAround → Type 0
AnswersPlanAround d f c (Ok (yes_around.Plain (yes.Plan number))) =
    IsGoodPlanAround d f c × (number ≡ new_planned f c)
AnswersPlanAround d f c (Err (no_around.Plain (NotFalling item target))) = IsFirstNotFallingAround d f c item target
AnswersPlanAround d f c (Err (no_around.Plain LengthDiffers)) =
    AllFallAround d f c × (new_along d f c.length c.arcs ≢ new_planned f c)
AnswersPlanAround d f c (Err (no_around.Plain (ChainBroken at))) =
    AllFallAround d f c × (new_along d f c.length c.arcs ≡ new_planned f c) × IsBrokenAroundAt d f c at
AnswersPlanAround d f c _ = ⊥

-- ---- circles, and flushes to no rescuer

-- the steps, if there are any, are a run that deadlocks
abbrev pub ShowsDeadlockIn : Wiring → Option (List Step) → Type 0
ShowsDeadlockIn w None = Unit {0}
ShowsDeadlockIn w (Some steps) = DeadlocksBy w steps

-- the same in the start
abbrev pub ShowsDeadlockAround : Declaration → Fixed → Option (List Step) → Type 0
ShowsDeadlockAround d f = ShowsDeadlockIn (start_wiring d f)

-- what is answered to the text of a circle
abbrev pub AnswersCircleIn : Wiring → CircleCertificate → Result YesAround NoAround → Type 0
AnswersCircleIn w c (Ok (yes_around.Plain (yes.Circle n))) =
    AllJoinIn w (before_in_circle c.arcs) c.arcs × ShowsDeadlockIn w c.steps × (n ≡ length c.arcs)
AnswersCircleIn w c (Err (no_around.Plain (CircleBroken at))) = IsFirstBreakIn w (before_in_circle c.arcs) c.arcs at
AnswersCircleIn w c (Err (no_around.Plain RunBroken)) =
    AllJoinIn w (before_in_circle c.arcs) c.arcs × (¬ ShowsDeadlockIn w c.steps)
AnswersCircleIn w c _ = ⊥

-- the same in the start
abbrev pub AnswersCircleAround : Declaration → Fixed → CircleCertificate → Result YesAround NoAround → Type 0
AnswersCircleAround d f c answer = AnswersCircleIn (start_wiring d f) c answer

-- the arc is a declared flush of an item on a lane that has a rescuer, and its target is on one that has none
pub record LeadsToNoneIn (w : Wiring) (arc : ℕ × ℕ) : Type 0 where
  pub declared : ItemWaits w.waits arc.0 arc.1
  pub from : HasRescuer w (lane_of w arc.0)
  pub to : ¬ HasRescuer w (lane_of w arc.1)

-- the same in the start
abbrev pub LeadsToNone : Declaration → Fixed → ℕ × ℕ → Type 0
LeadsToNone d f = LeadsToNoneIn (start_wiring d f)

-- what is answered to a norescuer text
abbrev pub AnswersNoRescuerIn : Wiring → NoRescuerCertificate → Result YesAround NoAround → Type 0
AnswersNoRescuerIn w c (Ok yes_around.NoRescuer) = LeadsToNoneIn w c.arc × ShowsDeadlockIn w c.steps
AnswersNoRescuerIn w c (Err no_around.HasRescuer) = ¬ LeadsToNoneIn w c.arc
AnswersNoRescuerIn w c (Err (no_around.Plain RunBroken)) = LeadsToNoneIn w c.arc × (¬ ShowsDeadlockIn w c.steps)
AnswersNoRescuerIn w c _ = ⊥

-- the same in the start
abbrev pub AnswersNoRescuer : Declaration → Fixed → NoRescuerCertificate → Result YesAround NoAround → Type 0
AnswersNoRescuer d f c answer = AnswersNoRescuerIn (start_wiring d f) c answer

-- what is answered to a certificate
abbrev pub AnswersAround : Declaration → Fixed → AroundCertificate → Result YesAround NoAround → Type 0
AnswersAround d f (OfPlanAround c) answer = AnswersPlanAround d f c answer
AnswersAround d f (OfCircleAround c) answer = AnswersCircleAround d f c answer
AnswersAround d f (OfNoRescuer c) answer = AnswersNoRescuer d f c answer

-- the certificate shows what it says: a good plan; or arcs that go round, or a flush to no rescuer, and the steps, if
-- there are any, are a run that deadlocks
abbrev pub IsGoodAround : Declaration → Fixed → AroundCertificate → Type 0
IsGoodAround d f (OfPlanAround c) = IsGoodPlanAround d f c
IsGoodAround d f (OfCircleAround c) =
    AllJoinAround d f (before_in_circle c.arcs) c.arcs × ShowsDeadlockAround d f c.steps
IsGoodAround d f (OfNoRescuer c) = LeadsToNone d f c.arc × ShowsDeadlockAround d f c.steps

-- ---- certificates that can be asked about

-- workqueues that keep the fixed ones; an order of these; and one arc fewer than there are lanes on the chain, or none
-- if it has no lane
pub record IsPlanAroundAsked (d : Declaration) (f : Fixed) (c : AroundPlan) : Type 0 where
  pub assignment : IsAssignment d.groups c.assignment
  pub keeps : Keeps f (planned f c)
  pub lanes : All (λ q. q < c.assignment.lanes) c.order
  pub arcs : ArcsOfItems d c.arcs
  pub count : length c.arcs ≡ c.length - 1
  pub few : c.length ≤ max_count

-- fewer steps than there are numbers
abbrev pub HasFewSteps : Option (List Step) → Type 0
HasFewSteps steps = (made : List Step) → steps ≡ Some made → length made < max_number

-- at least one arc, and few steps
pub record IsCircleAroundAsked (d : Declaration) (c : CircleCertificate) : Type 0 where
  pub arcs : ArcsOfItems d c.arcs
  pub some : 0 < length c.arcs
  pub few : length c.arcs ≤ max_count
  pub few_steps : HasFewSteps c.steps

-- an arc of items, and few steps
pub record IsNoRescuerAsked (d : Declaration) (c : NoRescuerCertificate) : Type 0 where
  pub arc : ArcsOfItems d (c.arc ∷ [])
  pub few_steps : HasFewSteps c.steps

-- what is known about every certificate that is read
abbrev pub IsAroundAsked : Declaration → Fixed → AroundCertificate → Type 0
IsAroundAsked d f (OfPlanAround c) = IsPlanAroundAsked d f c
IsAroundAsked d f (OfCircleAround c) = IsCircleAroundAsked d c
IsAroundAsked d f (OfNoRescuer c) = IsNoRescuerAsked d c

-- ---- what a yes implies

-- if the answer to a plan is yes, it has this many new workqueues, and is least around the fixed ones
abbrev pub YesIsLeastAround : Declaration → Fixed → AroundCertificate → Result YesAround NoAround → Type 0
YesIsLeastAround d f certificate answer =
    (plan : AroundPlan) (number : ℕ) → certificate ≡ OfPlanAround plan
    → answer ≡ Ok (yes_around.Plain (yes.Plan number))
    → (plan.assignment.lanes ≡ fixed_lanes f + number) × IsLeastAround d f (planned f plan)

-- if the answer to a circle is yes, all workqueues that keep the fixed ones deadlock
abbrev pub CircleIsOfAll : Declaration → Fixed → Result YesAround NoAround → Type 0
CircleIsOfAll d f answer = (n : ℕ) → answer ≡ Ok (yes_around.Plain (yes.Circle n)) → AllDeadlock d f

-- the same if the answer to a norescuer text is yes
abbrev pub NoneIsOfAll : Declaration → Fixed → Result YesAround NoAround → Type 0
NoneIsOfAll d f answer = answer ≡ Ok yes_around.NoRescuer → AllDeadlock d f
