-- What is noted about the workqueues that have been read so far, and the assignment that they are.
use Rattle.std.proofs.Common.{◌≡◌, ℕ, zero, suc, ◌+◌, ◌-◌, ◌<◌, ◌==◌, inl, inr, Bool, true, false, not, ◌||◌, cond}
use Rattle.std.proofs.Common.{leb, List, [], ◌∷◌, ◌++◌, length, map, Option, Some, None, Result, Ok, Err, refl, sym}
use Rattle.std.proofs.Common.{ap, ap₂, subst, subst₂, ◌∙◌, arith}
use Rattle.std.specs.Prelude.{replicate, option_map, ok_or, bytes_eq, codes}
use Rattle.std.specs.List.{All, concat, range_with_len}
use Rattle.std.specs.Option.{option_zip}
use Rattle.std.proofs.lemmas.Bool.{cases_lt, both_ways, le-leb}
use Rattle.std.proofs.lemmas.List.{length-append}
use Rattle.std.proofs.lemmas.List.Elements.{All-nil, All-cons}
use Rattle.wq_text.specs.Lines.{LineView}
use Rattle.wq_items.specs.Table.{item_named}
use Rattle.wq_items.proofs.TableLemmas.{item_named-below}
use Rattle.wq_groups.specs.Partition.{Partition}
use Rattle.wq_cert.specs.declared.fault.CertError.{CertError}
use Rattle.wq_cert.specs.declared.fault.CertError.TheVariants.{BadCertLine, NotAllItems, GroupSplit, NumberOutOfRange}
use Rattle.wq_cert.specs.Lines.{CertLine, cert_line}
use Rattle.wq_cert.specs.Forms.{begins_with, number_of, wq_form, items_of}
use Rattle.wq_items.specs.Building.{and_then}
use Rattle.wq_cert.specs.Reading.{Read, and_read, has_stood, splits_group, wq_items, fresh_items, wq_reading, next_workqueues, all_workqueues}
use Rattle.wq_cert.specs.Noted.{marks, lanes_with, AreNoted, IsNextNoted, AreAllRead, said_line}
use Rattle.wq_cert.specs.Texts.{IsCertFaultOf}
use Rattle.wq_cert.proofs.ReadLemmas.{IsCertFaultOf-then}
use Rattle.wq_cert.proofs.WorkqueueLists.{concat-push}

-- ---- no workqueue

replicate_is : {X : Type 0} (a n : ℕ) (v : X) → replicate n v ≡ map (λ (k : ℕ). v) (range_with_len a n)
replicate_is a zero v = refl
replicate_is {X} a (suc n) v = ap (λ (vs : List X). v ∷ vs) (replicate_is (a + 1) n v)

pub AreNoted-none : (p : Partition) (n : ℕ) (stood : List Bool) (lanes : List (Option ℕ)) → length p.group_of ≡ n → stood ≡ replicate n false → lanes ≡ replicate p.groups None → AreNoted p [] 0 stood lanes
AreNoted-none p n stood lanes all unmarked free = record {
  number = refl;
  few = omega arith;
  items = unmarked ∙ replicate_is 0 n false ∙ ap (λ k. marks k []) (sym all);
  groups = free ∙ replicate_is 0 p.groups None;
}

-- ---- one more workqueue

pub fresh_items-fresh : (group_of before items : List ℕ) (n : ℕ) → has_stood before items ≡ false → splits_group group_of before items ≡ false → fresh_items group_of before n items ≡ Ok items
fresh_items-fresh group_of before items n once apart = ap₂ (λ a b. cond a (Err (NotAllItems n)) (cond b (Err (GroupSplit n)) (Ok items))) once apart

pub AreNoted-more : (p : Partition) (workqueues : List (List ℕ)) (count : ℕ) (stood more_stood : List Bool) (lanes more_lanes : List (Option ℕ)) (items : List ℕ) → count < 4096 → AreNoted p workqueues count stood lanes
    → more_stood ≡ marks (length p.group_of) (concat workqueues ++ items) → more_lanes ≡ lanes_with p (workqueues ++ (items ∷ [])) → AreNoted p (workqueues ++ (items ∷ [])) (count + 1) more_stood more_lanes
AreNoted-more p workqueues count stood more_stood lanes more_lanes items room noted marked settled = record {
  number = omega (arith, noted.number, length-append workqueues (items ∷ []));
  few = omega (arith, room);
  items = marked ∙ ap (marks (length p.group_of)) (sym (concat-push workqueues items));
  groups = settled;
}

-- ---- items that are read are declared

some_same : (a b : List ℕ) → Some a ≡ Some b → a ≡ b
some_same a b e = cc

below_both : (names words : List (List ℕ)) (o : Option ℕ) (q : Option (List ℕ)) (items : List ℕ) → ((i : ℕ) → o ≡ Some i → i < length names) → ((is : List ℕ) → q ≡ Some is → All (λ i. i < length names) is)
    → option_map (λ (r : ℕ × List ℕ). r.0 ∷ r.1) (option_zip o q) ≡ Some items → All (λ i. i < length names) items
below_both names words None q items one others e = absurd cc
below_both names words (Some i) None items one others e = absurd cc
below_both names words (Some i) (Some is) items one others e =
    subst (All (λ i. i < length names)) (some_same (i ∷ is) items e) (All-cons (λ i. i < length names) i is (one i refl) (others is refl))

pub below_all : (names words : List (List ℕ)) (items : List ℕ) → items_of names words ≡ Some items → All (λ i. i < length names) items
below_all names [] items e = subst (All (λ i. i < length names)) (some_same [] items e) (All-nil (λ i. i < length names))
below_all names (word ∷ words) items e =
    below_both names words (item_named names word) (items_of names words) items (λ i found. item_named-below names word i found) (λ is rest. below_all names words is rest) e

zip_second : (b : Bool) (o : Option ℕ) (q : Option (List ℕ)) (n : ℕ) (items : List ℕ) → cond b (option_zip o q) None ≡ Some (n, items) → q ≡ Some items
zip_second true None q n items e = absurd cc
zip_second true (Some m) None n items e = absurd cc
zip_second true (Some m) (Some is) n items e = ap (option_map (λ (r : ℕ × List ℕ). r.1)) e
zip_second false o q n items e = absurd cc

wq_form-below : (names words : List (List ℕ)) (n : ℕ) (items : List ℕ) → wq_form names words ≡ Some (n, items) → All (λ i. i < length names) items
wq_form-below names [] n items e = absurd cc
wq_form-below names (word ∷ []) n items e = absurd cc
wq_form-below names (word ∷ number ∷ words) n items e =
    below_all names words items (zip_second (bytes_eq word (codes "wq")) (number_of number) (items_of names words) n items e)

-- the parts of a line that is read
record IsNumbered (form : Option (ℕ × List ℕ)) (place : ℕ) (items : List ℕ) : Type 0 where
  number : ℕ
  is : form ≡ Some (number, items)
  near : place < 4096

numbered : (form : Option (ℕ × List ℕ)) (place at : ℕ) (items : List ℕ)
    → and_then (λ (q : ℕ × List ℕ). cond (not (q.0 == place) || leb 4096 place) (Err (NumberOutOfRange at)) (Ok q.1)) (ok_or form (BadCertLine at)) ≡ Ok items → IsNumbered form place items
numbered None place at items e = absurd cc
numbered (Some q) place at items e = chosen (q.0 == place) (leb 4096 place) refl e
  where
    chosen : (same far : Bool) → leb 4096 place ≡ far → cond (not same || far) (Err (NumberOutOfRange at)) (Ok q.1) ≡ Ok items → IsNumbered (Some q) place items
    chosen true true is e = absurd cc
    chosen false far is e = absurd cc
    chosen true false is e = record {
      number = q.0;
      is = let same : q.1 ≡ items = cc in ap (λ (is : List ℕ). let pair : ℕ × List ℕ = (q.0, is) in Some pair) same;
      near = elim (cases_lt place 4096) [ inl lt ↦ lt | inr le ↦ absurd (both_ways (leb 4096 place) is (le-leb 4096 place le)) ];
    }

pub wq_items-below : (names : List (List ℕ)) (place : ℕ) (line : CertLine) (items : List ℕ) → wq_items names place line ≡ Ok items → All (λ i. i < length names) items
wq_items-below names place line items e = let h = numbered (wq_form names line.words) place line.no items e in wq_form-below names line.words h.number items h.is

-- ---- this many workqueues

-- after the first workqueues and some of n more this many are left, from the lines of `rest` on
pub record ReadSome (names : List (List ℕ)) (p : Partition) (n : ℕ) (first : List (List ℕ)) (lines : List CertLine)
    (count : ℕ) (stood : List Bool) (lanes : List (Option ℕ)) (left : ℕ) (rest : List CertLine) : Type 0 where
  pub workqueues : List (List ℕ)
  pub noted : AreNoted p workqueues count stood lanes
  pub goes_on : next_workqueues names p.group_of n first lines ≡ next_workqueues names p.group_of left workqueues rest

-- what the next workqueue gives
next_workqueue : List (List ℕ) → Partition → ℕ → List (List ℕ) → List CertLine → Result (List ℕ) CertError → Read (List (List ℕ))
next_workqueue names p m workqueues rest r = and_read (λ items behind. next_workqueues names p.group_of m (workqueues ++ (items ∷ [])) behind) (and_then (λ (v : List ℕ). Ok (v, rest)) r)

next_workqueue-then : (names : List (List ℕ)) (p : Partition) (m : ℕ) (workqueues : List (List ℕ)) (rest : List CertLine) (r : Result (List ℕ) CertError)
    → next_workqueue names p m workqueues rest r ≡ and_then (λ (items : List ℕ). next_workqueues names p.group_of m (workqueues ++ (items ∷ [])) rest) r
unfolding next_workqueue
next_workqueue-then names p m workqueues rest (Ok items) = refl
next_workqueue-then names p m workqueues rest (Err e) = refl

module _ (names : List (List ℕ)) (p : Partition) (n i : ℕ) (first : List (List ℕ)) (lines : List CertLine) (count : ℕ)
    (stood : List Bool) (lanes : List (Option ℕ)) (left : List LineView)
    (h : ReadSome names p n first lines count stood lanes (n - i) (map cert_line left)) where
  -- all of them
  abbrev whole : Read (List (List ℕ))
  whole = next_workqueues names p.group_of n first lines

  next_goes_on : i < n → (views : List LineView) → left ≡ views
      → whole ≡ next_workqueues names p.group_of (suc (n - (i + 1))) h.workqueues (map cert_line views)
  next_goes_on lt views is =
      let fewer : n - i ≡ suc (n - (i + 1)) = omega arith in
      subst₂ (λ (m : ℕ) (ls : List LineView).
      whole ≡ next_workqueues names p.group_of m h.workqueues (map cert_line ls)) fewer is h.goes_on

  pub ReadSome-more : (line : LineView) (rest : List LineView) (more_count : ℕ) (more_stood : List Bool) (more_lanes : List (Option ℕ)) → i < n → left ≡ line ∷ rest
      → IsNextNoted names p h.workqueues (cert_line line) more_count more_stood more_lanes
      → ReadSome names p n first lines more_count more_stood more_lanes (n - (i + 1)) (map cert_line rest)
  unfolding next_workqueue
  ReadSome-more line rest more_count more_stood more_lanes lt stands next = record {
    workqueues = h.workqueues ++ (next.items ∷ []);
    noted = next.noted;
    goes_on = next_goes_on lt (line ∷ rest) stands
        ∙ ap (next_workqueue names p (n - (i + 1)) h.workqueues (map cert_line rest)) next.read;
  }

  fault_goes_on : (line : LineView) (rest : List LineView) → i < n → left ≡ line ∷ rest
      → whole ≡ next_workqueue names p (n - (i + 1)) h.workqueues (map cert_line rest)
      (wq_reading names p.group_of h.workqueues (cert_line line))
  unfolding next_workqueue
  fault_goes_on line rest lt stands = next_goes_on lt (line ∷ rest) stands

  pub ReadSome-fault : (line : LineView) (rest : List LineView) (e : CertError) → i < n → left ≡ line ∷ rest → IsCertFaultOf e (wq_reading names p.group_of h.workqueues (cert_line line))
      → IsCertFaultOf e whole
  ReadSome-fault line rest e lt stands fault =
      let all : List CertLine = map cert_line rest in
      let r = wq_reading names p.group_of h.workqueues (cert_line line) in
      IsCertFaultOf-then
      (λ (items : List ℕ). next_workqueues names p.group_of (n - (i + 1)) (h.workqueues ++ (items ∷ [])) all) e r whole
      (fault_goes_on line rest lt stands ∙ next_workqueue-then names p (n - (i + 1)) h.workqueues all r) fault

  pub ReadSome-short : i < n → left ≡ [] → whole ≡ Err (BadCertLine 0)
  ReadSome-short lt none = next_goes_on lt [] none

-- ---- all workqueues

-- after some of the lines `rest` is left
pub record ReadSoFar (names : List (List ℕ)) (p : Partition) (lines : List CertLine) (count : ℕ) (stood : List Bool) (lanes : List (Option ℕ)) (rest : List CertLine) : Type 0 where
  pub workqueues : List (List ℕ)
  pub noted : AreNoted p workqueues count stood lanes
  pub goes_on : all_workqueues names p.group_of [] lines ≡ all_workqueues names p.group_of workqueues rest

module _ (names : List (List ℕ)) (p : Partition) (lines : List CertLine) (count : ℕ) (stood : List Bool) (lanes : List (Option ℕ)) (bare : Bool) (left : List LineView) (h : ReadSoFar names p lines count stood lanes (map (λ (line : LineView). said_line bare line) left)) where
  step : List CertLine → CertLine → Bool → Result (List ℕ) CertError → Read (List (List ℕ))
  step rest line is_wq r = cond is_wq (and_then (λ items. all_workqueues names p.group_of (h.workqueues ++ (items ∷ [])) rest) r) (Ok (h.workqueues, line ∷ rest))

  steps : (line : LineView) (rest : List LineView) → left ≡ line ∷ rest
      → all_workqueues names p.group_of [] lines ≡ step (map (λ (line : LineView). said_line bare line) rest) (said_line bare line) (begins_with (codes "wq") (said_line bare line).words) (wq_reading names p.group_of h.workqueues (said_line bare line))
  unfolding step
  steps line rest first = h.goes_on ∙ ap (λ (ls : List LineView). all_workqueues names p.group_of h.workqueues (map (λ (line : LineView). said_line bare line) ls)) first

  pub ReadSoFar-stop : (line : LineView) (rest : List LineView) (at : ℕ) → left ≡ line ∷ rest → begins_with (codes "wq") (said_line bare line).words ≡ false → at ≡ line.no → AreAllRead names p lines count stood lanes (Some at)
  unfolding step
  ReadSoFar-stop line rest at first other number = record {
    workqueues = h.workqueues;
    rest = said_line bare line ∷ map (λ (line : LineView). said_line bare line) rest;
    noted = h.noted;
    read = steps line rest first ∙ ap (λ b. step (map (λ (line : LineView). said_line bare line) rest) (said_line bare line) b (wq_reading names p.group_of h.workqueues (said_line bare line))) other;
    line = ap (λ (n : ℕ). Some n) number;
  }
