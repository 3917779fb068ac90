-- Noted: what is noted about the workqueues that have been read so far.
use Rattle.std.specs.Prelude.{◌≡◌, ℕ, ◌≤◌, ◌==◌, not, Bool, false, List, [], ◌∷◌, ◌++◌, length, map, Option, Some, None}
use Rattle.std.specs.Prelude.{Ok}
use Rattle.std.specs.List.{concat, range_with_len}
use Rattle.wq_groups.specs.Partition.{Partition}
use Rattle.wq_groups.specs.Assignment.{max_lanes}
use Rattle.wq_text.specs.Lines.{LineView}
use Rattle.wq_text.specs.Words.{words_of}
use Rattle.wq_cert.specs.Lines.{CertLine, bytes_of}
use Rattle.wq_cert.specs.Reading.{stands_in, workqueue_with, wq_reading, next_workqueues, all_workqueues, with_wq}

-- for each of n items, whether it is in the list
abbrev pub marks : ℕ → List ℕ → List Bool
marks n items = map (stands_in items) (range_with_len 0 n)

-- for each group, the first workqueue that holds a member of it, if one does
abbrev pub lanes_with : Partition → List (List ℕ) → List (Option ℕ)
lanes_with p workqueues = map (workqueue_with p.group_of workqueues) (range_with_len 0 p.groups)

-- what is noted after these workqueues: how many there are, at most 4,096; for each item, whether it is on one; and for
-- each group, the workqueue that holds a member of it
pub record AreNoted (p : Partition) (workqueues : List (List ℕ)) (count : ℕ) (stood : List Bool)
    (lanes : List (Option ℕ)) : Type 0 where
  pub number : count ≡ length workqueues
  pub few : count ≤ max_lanes
  pub items : stood ≡ marks (length p.group_of) (concat workqueues)
  pub groups : lanes ≡ lanes_with p workqueues

-- a group is on a workqueue other than this one
abbrev pub is_other : Option ℕ → ℕ → Bool
is_other None lane = false
is_other (Some other) lane = not (other == lane)

-- the next workqueue is read from this line, and this is noted with it
pub record IsNextNoted (names : List (List ℕ)) (p : Partition) (workqueues : List (List ℕ)) (line : CertLine)
    (count : ℕ) (stood : List Bool) (lanes : List (Option ℕ)) : Type 0 where
  pub items : List ℕ
  pub read : wq_reading names p.group_of workqueues line ≡ Ok items
  pub noted : AreNoted p (workqueues ++ (items ∷ [])) count stood lanes

-- n workqueues after the first ones are read from these lines up to `rest`, and this is noted about all of them
pub record AreRead (names : List (List ℕ)) (p : Partition) (n : ℕ) (first : List (List ℕ)) (lines : List CertLine)
    (count : ℕ) (stood : List Bool) (lanes : List (Option ℕ)) (rest : List CertLine) : Type 0 where
  pub workqueues : List (List ℕ)
  pub noted : AreNoted p workqueues count stood lanes
  pub read : next_workqueues names p.group_of n first lines ≡ Ok (workqueues, rest)

-- the line, with `wq` in place of a first word `norescuer` if the flag is set
abbrev pub said_line : Bool → LineView → CertLine
said_line bare line = record { no = line.no; words = with_wq bare (bytes_of (words_of line)) }

-- the number of the first line, if there is one
abbrev pub first_number : List CertLine → Option ℕ
first_number [] = None
first_number (line ∷ lines) = Some line.no

-- all workqueues are read from these lines, and this is noted about them; `after` is the number of the line after them
pub record AreAllRead (names : List (List ℕ)) (p : Partition) (lines : List CertLine) (count : ℕ) (stood : List Bool)
    (lanes : List (Option ℕ)) (after : Option ℕ) : Type 0 where
  pub workqueues : List (List ℕ)
  pub rest : List CertLine
  pub noted : AreNoted p workqueues count stood lanes
  pub read : all_workqueues names p.group_of [] lines ≡ Ok (workqueues, rest)
  pub line : after ≡ first_number rest
