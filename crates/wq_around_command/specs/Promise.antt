-- What an answer around fixed workqueues promises, in terms of the bytes that are printed.
use Rattle.std.specs.Prelude.{◌≡◌, ◌⊎◌, ◌-◌, ◌<◌, ℕ, List, [], ◌∷◌, codes, decimal, length, MatchResult, Ok}
use Rattle.wq_text.specs.LineText.{line_text}
use Rattle.wq_groups.specs.Assignment.{item_lanes}
use Rattle.wq_groups.specs.DeclaredGroups.{declared_waits, Declared}
use Rattle.wq_core.specs.Workqueues.{Workqueues}
use Rattle.wq_fixed.specs.Fixed.{Fixed, IsLeastAround, AllDeadlock, fixed_lanes}
use Rattle.wq_cert.specs.AroundText.{around_text}
use Rattle.wq_cert.specs.AroundReading.{AroundCertificate, OfPlanAround, OfCircleAround, OfNoRescuer, around_of_text}
use Rattle.wq_cert.specs.FixedReading.{fixed_of_text}
use Rattle.wq_checker.specs.Around.{planned}
use Rattle.wq_commands.specs.declared.end.End.{End}
use Rattle.wq_commands.specs.declared.end.End.TheVariants.{Good, Bad, Refused}
use Rattle.wq_commands.specs.Declaration.{declaration}
use Rattle.wq_commands.specs.Promise.{KeepsPromise}
use Rattle.wq_commands.specs.YesIsTrue.{YesIsTrue}

-- the bytes are the text of a plan. Its workqueues keep the fixed ones, no run of them ends stuck, and any that keep
-- the fixed ones and are fewer have a run that ends stuck, with each item queued once and flushing as declared
pub record KeepsPlanAround (s : Declared) (f : Fixed) (out : List ℕ) : Type 0 where
  pub workqueues : Workqueues
  pub order : List ℕ
  pub arcs : List (ℕ × ℕ)
  pub text : out
      ≡ around_text s.table.names (fixed_lanes f) workqueues.assignment.lanes
      (item_lanes workqueues.assignment s.partition.group_of) order arcs
  pub least : IsLeastAround (declared_waits s) f workqueues

-- what is promised of the bytes that answer fixed workqueues, of which there is one at least, by how the program ends:
-- `Good` with a plan, `Bad` where all workqueues that keep the fixed ones have such a run, and never `Refused`
abbrev pub KeepsFixed : Declared → Fixed → End → List ℕ → Type 0
KeepsFixed s f Good out = KeepsPlanAround s f out
KeepsFixed s f Bad out = AllDeadlock (declared_waits s) f
KeepsFixed s f Refused out = ⊥

-- what is promised of the bytes that answer the texts of a declaration and of fixed workqueues. If one of them is
-- refused, only that it is; and where there is no fixed workqueue, what is promised without
abbrev pub KeepsAround : List ℕ → List ℕ → End → List ℕ → Type 0
KeepsAround declared text end out =
    MatchResult (declaration declared)
    (λ s. MatchResult (fixed_of_text s.table.names s.partition text)
    (λ f. ((fixed_lanes f ≡ 0) × KeepsPromise declared end out) ⊎ ((0 < fixed_lanes f) × KeepsFixed s f end out))
    (λ _. end ≡ Refused))
    (λ _. end ≡ Refused)

-- ---- what a yes implies

-- the yes of a certificate: to a plan `yes K`, where K is the number of its new workqueues; it is least around the
-- fixed ones. To a circle `yes circle N`, where N is the number of its arcs, or to a flush to no rescuer
-- `yes norescuer`; and all workqueues that keep the fixed ones deadlock
abbrev pub YesHolds : Declared → Fixed → AroundCertificate → List ℕ → Type 0
YesHolds s f (OfPlanAround c) out =
    IsLeastAround (declared_waits s) f (planned f c)
    × (out ≡ line_text (codes "yes" ∷ decimal (c.assignment.lanes - fixed_lanes f) ∷ []))
YesHolds s f (OfCircleAround c) out =
    AllDeadlock (declared_waits s) f
    × (out ≡ line_text (codes "yes" ∷ codes "circle" ∷ decimal (length c.arcs) ∷ []))
YesHolds s f (OfNoRescuer c) out =
    AllDeadlock (declared_waits s) f × (out ≡ line_text (codes "yes" ∷ codes "norescuer" ∷ []))

-- the texts are a declaration, a certificate and fixed workqueues, and the yes that is printed is true; where there is
-- no fixed workqueue, as without
abbrev pub YesIsTrueAround : List ℕ → List ℕ → List ℕ → List ℕ → Type 0
YesIsTrueAround declared text fixed out =
    (s : Declared) × (declaration declared ≡ Ok s)
    × (f : Fixed) × (fixed_of_text s.table.names s.partition fixed ≡ Ok f)
    × (((fixed_lanes f ≡ 0) × YesIsTrue declared text out)
    ⊎ ((0 < fixed_lanes f) × (c : AroundCertificate) × (around_of_text s.table.names s.partition f text ≡ Ok c)
    × YesHolds s f c out))
