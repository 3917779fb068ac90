-- Reading fixed workqueues: a workqueue for each line, and what the texts say.
use Rattle.std.proofs.Common.{◌≡◌, ℕ, zero, suc, ◌+◌, Bool, true, false, cond, List, [], ◌∷◌, ◌++◌, length, map, Option}
use Rattle.std.proofs.Common.{Some, None, Result, Ok, Err, refl, sym, ap, ◌∙◌, arith, length-append}
use Rattle.std.specs.Prelude.{codes, replicate}
use Rattle.std.proofs.lemmas.List.{length-map}
use Rattle.wq_groups.specs.Partition.{Partition}
use Rattle.wq_items.specs.Building.{and_then}
use Rattle.wq_fixed.specs.Fixed.{Fixed}
use Rattle.wq_cert.specs.declared.fault.CertError.{CertError}
use Rattle.wq_cert.specs.declared.fault.CertError.TheVariants.{BadCertLine}
use Rattle.wq_cert.specs.FixedReading.{part_lanes, fixed_plan_reading, fixed_lines_reading}
use Rattle.wq_cert.specs.Forms.{begins_with}
use Rattle.wq_cert.specs.Lines.{CertLine}
use Rattle.wq_cert.specs.Noted.{first_number}
use Rattle.wq_cert.specs.Reading.{Read, and_read, next_line, at_end, count_reading, next_workqueues, all_workqueues}
use Rattle.wq_cert.specs.Reading.{wq_reading, chain_reading, as_wq, is_bare_line}
use Rattle.wq_cert.specs.Texts.{IsCertFaultOf}
use Rattle.wq_cert.proofs.ReadLemmas.{IsCertFaultOf-then, IsCertFaultOf-err}
use Rattle.wq_cert.proofs.SpelledLines.{Follows-and_then, FollowsRead-and_read, same_ok}

-- ---- how many workqueues are read

module _ (names : List (List ℕ)) (group_of : List ℕ) where
  pub length-next_workqueues : (n : ℕ) (first all : List (List ℕ)) (lines rest : List CertLine)
      → next_workqueues names group_of n first lines ≡ Ok (all, rest) → length all ≡ length first + n
  length-next_workqueues zero first all lines rest e =
      let same : (first, lines) ≡ (all, rest) = same_ok (first, lines) (all, rest) e in
      omega (arith, ap (λ (q : List (List ℕ) × List CertLine). length q.0) same)
  length-next_workqueues (suc n) first all lines rest e =
      let next : List ℕ → List CertLine → Read (List (List ℕ)) = λ items behind.
      next_workqueues names group_of n (first ++ (items ∷ [])) behind in
      let found = FollowsRead-and_read next (next_line (wq_reading names group_of first) lines) (all, rest) e in
      omega (
        arith,
        length-next_workqueues n (first ++ (found.value ∷ [])) all found.rest rest found.then,
        length-append first (found.value ∷ []),
      )

  -- what comes after one more workqueue
  abbrev after : List (List ℕ) → List CertLine → List ℕ → Read (List (List ℕ))
  after first lines items = all_workqueues names group_of (first ++ (items ∷ [])) lines

  pub length-all_workqueues : (lines : List CertLine) (first all : List (List ℕ)) (rest : List CertLine)
      → all_workqueues names group_of first lines ≡ Ok (all, rest)
      → length all + length rest ≡ length first + length lines
  length-all_workqueues [] first all rest e =
      let same : (first, []) ≡ (all, rest) = same_ok (first, []) (all, rest) e in
      omega (
        arith,
        ap (λ (q : List (List ℕ) × List CertLine). length q.0) same,
        ap (λ (q : List (List ℕ) × List CertLine). length q.1) same,
      )
  length-all_workqueues (line ∷ lines) first all rest e =
      chosen (λ more is. length-all_workqueues lines more all rest is) (begins_with (codes "wq") line.words) e
    where
      chosen : ((more : List (List ℕ)) → all_workqueues names group_of more lines ≡ Ok (all, rest)
          → length all + length rest ≡ length more + length lines) → (b : Bool)
          → cond b (and_then (after first lines) (wq_reading names group_of first line)) (Ok (first, line ∷ lines))
          ≡ Ok (all, rest) → length all + length rest ≡ length first + length (line ∷ lines)
      chosen others true e =
          let found = Follows-and_then (after first lines) (wq_reading names group_of first line) (all, rest) e in
          omega (
            arith,
            others (first ++ (found.value ∷ [])) found.then,
            length-append first (found.value ∷ []),
          )
      chosen others false e =
          let same : (first, line ∷ lines) ≡ (all, rest) = same_ok (first, line ∷ lines) (all, rest) e in
          omega (
            arith,
            ap (λ (q : List (List ℕ) × List CertLine). length q.0) same,
            ap (λ (q : List (List ℕ) × List CertLine). length q.1) same,
          )

-- ---- a plan text

replicate-map : (workqueues : List (List ℕ)) → replicate (length workqueues) false ≡ map (λ _. false) workqueues
replicate-map [] = refl
replicate-map (items ∷ workqueues) = ap (λ (bs : List Bool). false ∷ bs) (replicate-map workqueues)

module _ (names : List (List ℕ)) (p : Partition) where
  -- what follows the lanes, the workqueues and the count
  abbrev of_chain : List (Option ℕ) → List (List ℕ) → ℕ × List (ℕ × ℕ) → Result Fixed CertError
  of_chain lanes workqueues _ = Ok (record { lane_of_group = lanes; bare = map (λ _. false) workqueues })

  abbrev of_lanes : List (List ℕ) → List CertLine → List (Option ℕ) → Result Fixed CertError
  of_lanes workqueues rest lanes = and_then (of_chain lanes workqueues) (chain_reading names rest)

  abbrev of_workqueues : List (List ℕ) → List CertLine → Result Fixed CertError
  of_workqueues workqueues rest = and_then (of_lanes workqueues rest) (part_lanes p workqueues)

  abbrev of_count : ℕ → List CertLine → Result Fixed CertError
  of_count n behind = and_read of_workqueues (next_workqueues names p.group_of n [] behind)

  module _ (lines : List CertLine) (line : CertLine) (behind : List CertLine) (stands : lines ≡ line ∷ behind) (n : ℕ)
      (count : Ok n ≡ count_reading (codes "plan") line) where
    fixed_plan-count : fixed_plan_reading names p lines ≡ of_count n behind
    fixed_plan-count =
        ap (fixed_plan_reading names p) stands
        ∙ ap (λ (r : Result ℕ CertError). and_read of_count (and_then (λ (m : ℕ). Ok (m, behind)) r)) (sym count)

    module _ (workqueues : List (List ℕ)) (rest : List CertLine)
        (read : next_workqueues names p.group_of n [] behind ≡ Ok (workqueues, rest)) where
      fixed_plan-workqueues : fixed_plan_reading names p lines ≡ of_workqueues workqueues rest
      fixed_plan-workqueues = fixed_plan-count ∙ ap (and_read of_workqueues) read

      -- a workqueue for each that is counted
      pub fixed_plan-many : length workqueues ≡ n
      fixed_plan-many = omega (arith, length-next_workqueues names p.group_of n [] workqueues behind rest read)

      pub fixed_plan-bare : (bare : List Bool) → bare ≡ replicate n false → length bare ≡ length workqueues
      fixed_plan-bare bare unset =
          ap length (unset ∙ ap (λ k. replicate k false) (sym fixed_plan-many) ∙ replicate-map workqueues)
          ∙ length-map workqueues (λ _. false)

      module _ (lanes : List (Option ℕ)) (part : part_lanes p workqueues ≡ Ok lanes) where
        fixed_plan-lanes : fixed_plan_reading names p lines ≡ of_lanes workqueues rest lanes
        fixed_plan-lanes = fixed_plan-workqueues ∙ ap (and_then (of_lanes workqueues rest)) part

        pub fixed_plan-all : (chain : ℕ × List (ℕ × ℕ)) (bare : List Bool) → chain_reading names rest ≡ Ok chain
            → bare ≡ replicate n false
            → fixed_plan_reading names p lines ≡ Ok (record { lane_of_group = lanes; bare = bare })
        fixed_plan-all chain bare read_chain unset =
            fixed_plan-lanes ∙ ap (and_then (of_chain lanes workqueues)) read_chain
            ∙ ap (λ (bs : List Bool). let fixed : Fixed = record { lane_of_group = lanes; bare = bs } in Ok fixed)
            (sym (replicate-map workqueues) ∙ ap (λ k. replicate k false) fixed_plan-many ∙ sym unset)

  -- ---- lines of workqueues

  module _ (lines : List CertLine) where
    -- what follows the lanes and the workqueues
    abbrev lines_lanes : List CertLine → List (Option ℕ) → Result Fixed CertError
    lines_lanes rest lanes = at_end (record { lane_of_group = lanes; bare = map is_bare_line lines }) rest

    abbrev lines_workqueues : List (List ℕ) → List CertLine → Result Fixed CertError
    lines_workqueues workqueues rest = and_then (lines_lanes rest) (part_lanes p workqueues)

    pub fixed_lines-short : (e : CertError) → IsCertFaultOf e (all_workqueues names p.group_of [] (map as_wq lines))
        → IsCertFaultOf e (fixed_lines_reading names p lines)
    fixed_lines-short e fault =
        IsCertFaultOf-then (λ (q : List (List ℕ) × List CertLine). lines_workqueues q.0 q.1) e
        (all_workqueues names p.group_of [] (map as_wq lines)) (fixed_lines_reading names p lines) refl fault

    module _ (workqueues : List (List ℕ)) (rest : List CertLine)
        (read : all_workqueues names p.group_of [] (map as_wq lines) ≡ Ok (workqueues, rest)) where
      fixed_lines-workqueues : fixed_lines_reading names p lines ≡ lines_workqueues workqueues rest
      fixed_lines-workqueues = ap (and_read lines_workqueues) read

      pub fixed_lines-part : (e : CertError) → part_lanes p workqueues ≡ Err e
          → IsCertFaultOf e (fixed_lines_reading names p lines)
      fixed_lines-part e fault =
          IsCertFaultOf-err e (fixed_lines_reading names p lines)
          (fixed_lines-workqueues ∙ ap (and_then (lines_lanes rest)) fault)

      module _ (lanes : List (Option ℕ)) (part : part_lanes p workqueues ≡ Ok lanes) where
        fixed_lines-lanes : fixed_lines_reading names p lines ≡ lines_lanes rest lanes
        fixed_lines-lanes = fixed_lines-workqueues ∙ ap (and_then (lines_lanes rest)) part

        pub fixed_lines-after : (at : ℕ) → Some at ≡ first_number rest
            → fixed_lines_reading names p lines ≡ Err (BadCertLine at)
        fixed_lines-after at after = fixed_lines-lanes ∙ ended rest after
          where
            ended : (ls : List CertLine) → Some at ≡ first_number ls → lines_lanes ls lanes ≡ Err (BadCertLine at)
            ended [] e = absurd cc
            ended (line ∷ ls) e =
                let same : line.no ≡ at = cc in
                ap (λ (k : ℕ). Err (BadCertLine k)) same

        pub fixed_lines-all : (bare : List Bool) → None ≡ first_number rest → bare ≡ map is_bare_line lines
            → fixed_lines_reading names p lines ≡ Ok (record { lane_of_group = lanes; bare = bare })
        fixed_lines-all bare none is = fixed_lines-lanes ∙ ended rest none
          where
            ended : (ls : List CertLine) → None ≡ first_number ls
                → lines_lanes ls lanes ≡ Ok (record { lane_of_group = lanes; bare = bare })
            ended [] e =
                ap (λ (bs : List Bool). let fixed : Fixed = record { lane_of_group = lanes; bare = bs } in Ok fixed)
                (sym is)
            ended (line ∷ ls) e = absurd cc

      pub fixed_lines-bare : None ≡ first_number rest → length workqueues ≡ length lines
      fixed_lines-bare none =
          let many : length workqueues + length rest ≡ length (map as_wq lines) =
          omega (arith, length-all_workqueues names p.group_of (map as_wq lines) [] workqueues rest read) in
          ended rest none many
        where
          ended : (ls : List CertLine) → None ≡ first_number ls
              → length workqueues + length ls ≡ length (map as_wq lines) → length workqueues ≡ length lines
          ended [] e many = omega (arith, many, length-map lines as_wq)
          ended (line ∷ ls) e many = absurd cc
