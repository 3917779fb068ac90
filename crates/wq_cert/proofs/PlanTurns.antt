-- A plan text is read in one turn: `plan`, the workqueues, `chain`, the arcs, and then the end.
use Rattle.std.proofs.Common.{◌≡◌, ℕ, ◌-◌, List, [], ◌∷◌, Result, Ok, Err, refl, ◌∙◌}
use Rattle.std.specs.Prelude.{codes}
use Rattle.wq_groups.specs.Assignment.{Assignment}
use Rattle.wq_groups.specs.Partition.{Partition}
use Rattle.wq_cert.specs.declared.fault.CertError.{CertError}
use Rattle.wq_cert.specs.Certificate.{PlanCertificate}
use Rattle.wq_cert.specs.Lines.{CertLine}
use Rattle.wq_items.specs.Building.{and_then}
use Rattle.wq_cert.specs.Reading.{Read, and_read, next_line, next_lines, at_end, count_reading, arc_reading, next_workqueues, whole_assignment, chain_reading, plan_reading}

-- ---- what follows is the same

and_then-same : {V W : Type 0} (f g : V → Result W CertError) → ((v : V) → f v ≡ g v) → (r : Result V CertError) → and_then f r ≡ and_then g r
and_then-same f g same (Ok v) = same v
and_then-same f g same (Err e) = refl

and_read-same : {V W : Type 0} (f g : V → List CertLine → Result W CertError) → ((v : V) (rest : List CertLine) → f v rest ≡ g v rest) → (r : Read V) → and_read f r ≡ and_read g r
and_read-same f g same (Ok p) = same p.0 p.1
and_read-same f g same (Err e) = refl

-- what is kept with its rest is followed by it
kept_rest : {A W : Type 0} (f : A → List CertLine → Result W CertError) (rest : List CertLine) (r : Result A CertError)
    → and_read f (and_then (λ a. Ok (a, rest)) r) ≡ and_then (λ a. f a rest) r
kept_rest f rest (Ok a) = refl
kept_rest f rest (Err e) = refl

in_one_turn : {Q A W : Type 0} (f : A → List CertLine → Result W CertError) (w : Q → Result A CertError) (r : Read Q)
    → and_read f (and_read (λ q rest. and_then (λ a. Ok (a, rest)) (w q)) r) ≡ and_read (λ q rest. and_then (λ a. f a rest) (w q)) r
in_one_turn f w (Ok p) = kept_rest f p.1 (w p.0)
in_one_turn f w (Err e) = refl

-- ---- the chain after an assignment

module _ (names : List (List ℕ)) (a : Assignment) where
  abbrev plan_with_chain : ℕ × List (ℕ × ℕ) → Result PlanCertificate CertError
  plan_with_chain chain = Ok (record { assignment = a; length = chain.0; arcs = chain.1 })

  abbrev pub last_arc : ℕ → List (ℕ × ℕ) → List CertLine → Result PlanCertificate CertError
  last_arc n arcs rest = at_end (record { assignment = a; length = n; arcs = arcs }) rest

  abbrev pub arcs_behind : ℕ → List CertLine → Result PlanCertificate CertError
  arcs_behind n lines = and_read (last_arc n) (next_lines (arc_reading names) (n - 1) lines)

  at_end-plan : (n : ℕ) (arcs : List (ℕ × ℕ)) (rest : List CertLine) → and_then plan_with_chain (at_end (n, arcs) rest) ≡ last_arc n arcs rest
  at_end-plan n arcs [] = refl
  at_end-plan n arcs (line ∷ lines) = refl

  arcs-plan : (n : ℕ) (r : Read (List (ℕ × ℕ))) → and_then plan_with_chain (and_read (λ arcs rest. at_end (n, arcs) rest) r) ≡ and_read (last_arc n) r
  arcs-plan n (Ok p) = at_end-plan n p.0 p.1
  arcs-plan n (Err e) = refl

  count-plan : (r : Read ℕ) → and_then plan_with_chain (and_read (λ n behind. and_read (λ arcs rest. at_end (n, arcs) rest) (next_lines (arc_reading names) (n - 1) behind)) r)
      ≡ and_read arcs_behind r
  count-plan (Ok p) = arcs-plan p.0 (next_lines (arc_reading names) (p.0 - 1) p.1)
  count-plan (Err e) = refl

  chain_reading-plan : (lines : List CertLine) → and_then plan_with_chain (chain_reading names lines)
      ≡ and_read arcs_behind (next_line (count_reading (codes "chain")) lines)
  chain_reading-plan lines = count-plan (next_line (count_reading (codes "chain")) lines)

-- ---- only workqueues

abbrev pub ended : List CertLine → Assignment → Result Assignment CertError
ended rest assignment = at_end assignment rest

abbrev pub assigned : Partition → List (List ℕ) → List CertLine → Result Assignment CertError
assigned p workqueues rest = and_then (ended rest) (whole_assignment p workqueues)

-- ---- the whole

module _ (names : List (List ℕ)) (p : Partition) where
  abbrev pub behind_workqueues : List CertLine → Assignment → Result PlanCertificate CertError
  behind_workqueues rest a = and_read (arcs_behind names a) (next_line (count_reading (codes "chain")) rest)

  abbrev pub with_chain : List (List ℕ) → List CertLine → Result PlanCertificate CertError
  with_chain workqueues rest = and_then (behind_workqueues rest) (whole_assignment p workqueues)

  abbrev pub behind_plan : ℕ → List CertLine → Result PlanCertificate CertError
  behind_plan lanes lines = and_read with_chain (next_workqueues names p.group_of lanes [] lines)

  pub plan_reading-turn : (lines : List CertLine) → plan_reading names p lines ≡ and_read behind_plan (next_line (count_reading (codes "plan")) lines)
  plan_reading-turn lines =
      and_read-same _ behind_plan
      (λ lanes behind.
      in_one_turn (λ a rest. and_then (plan_with_chain names a) (chain_reading names rest)) (whole_assignment p) (next_workqueues names p.group_of lanes [] behind)
      ∙ and_read-same _ with_chain
      (λ workqueues rest. and_then-same _ (behind_workqueues rest) (λ a. chain_reading-plan names a rest) (whole_assignment p workqueues)) (next_workqueues names p.group_of lanes [] behind))
      (next_line (count_reading (codes "plan")) lines)
