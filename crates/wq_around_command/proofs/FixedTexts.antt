-- What the text of fixed workqueues says: each group stays on one of them or is free, and there is room for the others.
use Rattle.std.proofs.Common.{◌≡◌, ℕ, Bool, true, false, cond, List, [], length, map, Option, Result, Ok, subst, arith}
use Rattle.std.proofs.Common.{ap}
use Rattle.std.specs.Prelude.{codes}
use Rattle.std.proofs.lemmas.List.{length-map}
use Rattle.wq_text.specs.Lines.{lines_of}
use Rattle.wq_items.specs.Building.{and_then}
use Rattle.wq_groups.specs.Partition.{Partition}
use Rattle.wq_fixed.specs.Fixed.{Fixed, IsFixed}
use Rattle.wq_cert.specs.declared.fault.CertError.{CertError}
use Rattle.wq_cert.specs.FixedReading.{fixed_lines_reading, fixed_of_text, fixed_plan_reading, fixed_reading}
use Rattle.wq_cert.specs.FixedReading.{part_lanes}
use Rattle.wq_cert.specs.Lines.{CertLine, cert_lines}
use Rattle.wq_cert.specs.Reading.{and_read, next_line, at_end, count_reading, next_workqueues, all_workqueues}
use Rattle.wq_cert.specs.Reading.{as_wq, begins_plan, chain_reading, is_bare_line}
use Rattle.wq_cert.proofs.FixedRead.{length-all_workqueues}
use Rattle.wq_cert.proofs.PartLanes.{IsFixed-part, length-part}
use Rattle.wq_cert.proofs.ReadRanges.{IsReadSo-text_reading}
use Rattle.wq_cert.proofs.SpelledLines.{Follows-and_then, FollowsRead-and_read, at_end-Ok, same_ok}

module _ (names : List (List ℕ)) (p : Partition) where
  fixed_of : (workqueues : List (List ℕ)) (lanes : List (Option ℕ)) (bare : List Bool)
      → part_lanes p workqueues ≡ Ok lanes → length bare ≡ length workqueues
      → IsFixed p.groups (record { lane_of_group = lanes; bare = bare })
  fixed_of workqueues lanes bare part long =
      subst (λ (n : ℕ). IsFixed n (record { lane_of_group = lanes; bare = bare }))
      (length-part p workqueues lanes part) (IsFixed-part p workqueues lanes bare part long)

  -- ---- a plan text

  abbrev none_bare : List (List ℕ) → List Bool
  none_bare workqueues = map (λ _. false) workqueues

  abbrev behind_chain : List (Option ℕ) → List (List ℕ) → ℕ × List (ℕ × ℕ) → Result Fixed CertError
  behind_chain lanes workqueues _ = Ok (record { lane_of_group = lanes; bare = map (λ _. false) workqueues })

  abbrev behind_lanes : List (List ℕ) → List CertLine → List (Option ℕ) → Result Fixed CertError
  behind_lanes workqueues rest lanes = and_then (behind_chain lanes workqueues) (chain_reading names rest)

  abbrev behind_workqueues : List (List ℕ) → List CertLine → Result Fixed CertError
  behind_workqueues workqueues rest = and_then (behind_lanes workqueues rest) (part_lanes p workqueues)

  abbrev behind_count : ℕ → List CertLine → Result Fixed CertError
  behind_count n rest = and_read behind_workqueues (next_workqueues names p.group_of n [] rest)

  IsFixed-plan : (lines : List CertLine) (f : Fixed) → fixed_plan_reading names p lines ≡ Ok f → IsFixed p.groups f
  IsFixed-plan lines f e =
      let count = FollowsRead-and_read behind_count (next_line (count_reading (codes "plan")) lines) f e in
      let all = FollowsRead-and_read behind_workqueues (next_workqueues names p.group_of count.value [] count.rest) f
      count.then in
      let lanes = Follows-and_then (behind_lanes all.value all.rest) (part_lanes p all.value) f all.then in
      let chain = Follows-and_then (behind_chain lanes.value all.value) (chain_reading names all.rest) f lanes.then in
      let own : Fixed = record { lane_of_group = lanes.value; bare = map (λ _. false) all.value } in
      subst (IsFixed p.groups) (same_ok own f chain.then)
      (fixed_of all.value lanes.value (none_bare all.value) lanes.first (length-map all.value (λ _. false)))

  -- ---- lines of workqueues

  module _ (lines : List CertLine) where
    abbrev made : List (Option ℕ) → Fixed
    made lanes = record { lane_of_group = lanes; bare = map is_bare_line lines }

    abbrev ended : List CertLine → List (Option ℕ) → Result Fixed CertError
    ended rest lanes = at_end (made lanes) rest

    abbrev behind_all : List (List ℕ) → List CertLine → Result Fixed CertError
    behind_all workqueues rest = and_then (ended rest) (part_lanes p workqueues)

    IsFixed-lines : (f : Fixed) → fixed_lines_reading names p lines ≡ Ok f → IsFixed p.groups f
    IsFixed-lines f e =
        let all = FollowsRead-and_read behind_all (all_workqueues names p.group_of [] (map as_wq lines)) f e in
        let lanes = Follows-and_then (ended all.rest) (part_lanes p all.value) f all.then in
        let ends = at_end-Ok (made lanes.value) f all.rest lanes.then in
        let long : length (map is_bare_line lines) ≡ length all.value =
        omega (
          arith,
          length-map lines is_bare_line,
          length-map lines as_wq,
          length-all_workqueues names p.group_of (map as_wq lines) [] all.value all.rest all.first,
          ap (λ (l : List CertLine). length l) ends.0,
        ) in
        subst (IsFixed p.groups) ends.1 (fixed_of all.value lanes.value (map is_bare_line lines) lanes.first long)

  -- ---- a text

  pub IsFixed-read : (text : List ℕ) (f : Fixed) → fixed_of_text names p text ≡ Ok f → IsFixed p.groups f
  IsFixed-read text f e =
      chosen (cert_lines (lines_of text)) (begins_plan (cert_lines (lines_of text)))
      (IsReadSo-text_reading (fixed_reading names p) text f e).is_read
    where
      chosen : (lines : List CertLine) (b : Bool)
          → cond b (fixed_plan_reading names p lines) (fixed_lines_reading names p lines) ≡ Ok f → IsFixed p.groups f
      chosen lines true read = IsFixed-plan lines f read
      chosen lines false read = IsFixed-lines lines f read
