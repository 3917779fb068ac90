-- Reading answers around fixed workqueues: what the lines say, or the first fault. The rules are those of "Planning
-- around workqueues" in docs/FORMAT.md.
use Rattle.std.specs.Prelude.{ℕ, ◌-◌, ◌==◌, nat_lt, nat_le, if◌then◌else◌, Bool, false, List, [], ◌∷◌, length, map}
use Rattle.std.specs.Prelude.{Option, Some, None, Result, Ok, Err, ok_or, bytes_eq, codes, option_map, filter}
use Rattle.std.specs.Prelude.{slice_index, slice_index_or}
use Rattle.std.specs.List.{list_any, range_with_len}
use Rattle.std.specs.Option.{option_zip}
use Rattle.wq_items.specs.Building.{and_then}
use Rattle.wq_groups.specs.Partition.{Partition}
use Rattle.wq_groups.specs.Assignment.{Assignment, max_lanes}
use Rattle.wq_core.specs.declared.step.Step.{Step}
use Rattle.wq_fixed.specs.Fixed.{Fixed, fixed_lanes}
use Rattle.wq_cert.specs.declared.fault.CertError.{CertError}
use Rattle.wq_cert.specs.declared.fault.CertError.TheVariants.{BadCertLine, NumberOutOfRange}
use Rattle.wq_cert.specs.declared.around.AroundAnswer.{AroundAnswer}
use Rattle.wq_cert.specs.declared.around.AroundAnswer.TheVariants as answer
use Rattle.wq_cert.specs.Certificate.{CircleCertificate}
use Rattle.wq_cert.specs.Lines.{CertLine}
use Rattle.wq_cert.specs.Forms.{begins_with, count_form, number_of}
use Rattle.wq_cert.specs.Reading.{Read, and_read, next_line, next_workqueues, whole_assignment, chain_reading}
use Rattle.wq_cert.specs.Reading.{circle_reading, arc_reading, run_after}
use Rattle.wq_cert.specs.Texts.{text_reading}

-- what a plan text around fixed workqueues says: where the groups are, on the fixed workqueues and the new ones; an
-- order of workqueues; how many of the start's the chain is said to have; and its arcs
pub record AroundPlan : Type 0 where
  pub assignment : Assignment
  pub order : List ℕ
  pub length : ℕ
  pub arcs : List (ℕ × ℕ)

-- what a norescuer text says: a flush, and the steps of a run, if there is one
pub record NoRescuerCertificate : Type 0 where
  pub arc : ℕ × ℕ
  pub steps : Option (List Step)

-- what the text of an answer around fixed workqueues says
pub data AroundCertificate : Type 0 where
  OfPlanAround : (plan : AroundPlan) → AroundCertificate
  OfCircleAround : (circle : CircleCertificate) → AroundCertificate
  OfNoRescuer : (none : NoRescuerCertificate) → AroundCertificate

-- the certificate that the code holds
abbrev pub around_certificate : {A : Type 0} → AroundAnswer A → AroundCertificate
around_certificate (answer.Plan assignment order length arcs) =
    OfPlanAround (record { assignment = assignment; order = order.items; length = length; arcs = arcs.items })
around_certificate (answer.Circle arcs steps) =
    OfCircleAround (record { arcs = arcs.items; steps = option_map (λ s. s.items) steps })
around_certificate (answer.NoRescuer arc steps) =
    OfNoRescuer (record { arc = arc; steps = option_map (λ s. s.items) steps })

-- ---- lines

-- the lane is this one
abbrev pub is_lane : Option ℕ → ℕ → Bool
is_lane None q = false
is_lane (Some lane) q = lane == q

-- the items on fixed workqueue q
abbrev pub fixed_items : Partition → Fixed → ℕ → List ℕ
fixed_items p f q =
    filter (λ i. is_lane (slice_index_or f.lane_of_group (slice_index p.group_of i) None) q)
    (range_with_len 0 (length p.group_of))

-- the fixed workqueues, each with its items
abbrev pub fixed_workqueues : Partition → Fixed → List (List ℕ)
fixed_workqueues p f = map (fixed_items p f) (range_with_len 0 (fixed_lanes f))

-- `plan K`, where K isn't above what is left beside the fixed workqueues
abbrev pub new_count_reading : Fixed → CertLine → Result ℕ CertError
new_count_reading f line =
    and_then (λ n. if nat_lt (max_lanes - fixed_lanes f) n then Err (NumberOutOfRange line.no) else Ok n)
    (ok_or (count_form (codes "plan") line.words) (BadCertLine line.no))

-- the numbers whose spellings these words are
abbrev pub numbers_of : List (List ℕ) → Option (List ℕ)
numbers_of [] = Some []
numbers_of (word ∷ words) =
    option_map (λ (p : ℕ × List ℕ). p.0 ∷ p.1) (option_zip (number_of word) (numbers_of words))

-- `order Q..`
abbrev pub order_form : List (List ℕ) → Option (List ℕ)
order_form [] = None
order_form (word ∷ words) = if bytes_eq word (codes "order") then numbers_of words else None

-- `order Q..`, where each Q is the number of one of this many workqueues
abbrev pub order_reading : ℕ → CertLine → Result (List ℕ) CertError
order_reading lanes line =
    and_then (λ order. if list_any (nat_le lanes) order then Err (NumberOutOfRange line.no) else Ok order)
    (ok_or (order_form line.words) (BadCertLine line.no))

-- `norescuer 1`
abbrev pub norescuer_count_reading : CertLine → Result ℕ CertError
norescuer_count_reading line =
    and_then (λ n. if n == 1 then Ok n else Err (NumberOutOfRange line.no))
    (ok_or (count_form (codes "norescuer") line.words) (BadCertLine line.no))

-- ---- texts

-- this many new workqueues and the fixed ones as an assignment
abbrev pub new_assignment : List (List ℕ) → Partition → Fixed → ℕ → List CertLine → Read Assignment
new_assignment names p f n lines =
    and_read (λ workqueues rest.
    and_then (λ assignment. Ok (assignment, rest)) (whole_assignment p workqueues))
    (next_workqueues names p.group_of n (fixed_workqueues p f) lines)

-- `plan K`, K workqueues behind the fixed ones, their order, and a chain
abbrev pub around_plan_reading : List (List ℕ) → Partition → Fixed → List CertLine → Result AroundPlan CertError
around_plan_reading names p f lines =
    and_read (λ n behind_plan.
    and_read (λ (assignment : Assignment) behind_workqueues.
    and_read (λ order behind_order.
    and_then (λ (chain : ℕ × List (ℕ × ℕ)).
    Ok (record { assignment = assignment; order = order; length = chain.0; arcs = chain.1 }))
    (chain_reading names behind_order))
    (next_line (order_reading assignment.lanes) behind_workqueues))
    (new_assignment names p f n behind_plan))
    (next_line (new_count_reading f) lines)

-- `norescuer 1`, an arc, and perhaps a run
abbrev pub norescuer_reading : List (List ℕ) → List CertLine → Result NoRescuerCertificate CertError
norescuer_reading names lines =
    and_read (λ n behind.
    and_read (λ arc rest. and_then (λ steps. Ok (record { arc = arc; steps = steps })) (run_after names rest))
    (next_line (arc_reading names) behind))
    (next_line norescuer_count_reading lines)

-- an answer around fixed workqueues, by its first word
abbrev pub around_reading : List (List ℕ) → Partition → Fixed → List CertLine → Result AroundCertificate CertError
around_reading names p f [] = Err (BadCertLine 0)
around_reading names p f (line ∷ lines) =
    if begins_with (codes "circle") line.words
    then and_then (λ circle. Ok (OfCircleAround circle)) (circle_reading names (line ∷ lines))
    else (if begins_with (codes "norescuer") line.words
    then and_then (λ none. Ok (OfNoRescuer none)) (norescuer_reading names (line ∷ lines))
    else and_then (λ plan. Ok (OfPlanAround plan)) (around_plan_reading names p f (line ∷ lines)))

-- what the text of an answer around fixed workqueues says
abbrev pub around_of_text : List (List ℕ) → Partition → Fixed → List ℕ → Result AroundCertificate CertError
around_of_text names p f text = text_reading (around_reading names p f) text
