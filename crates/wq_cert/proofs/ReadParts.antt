-- Unsure parts as they are read: the place for which a line stands, and one line after the other.
use Rattle.std.proofs.Common.{◌≡◌, ℕ, suc, ◌+◌, ◌-◌, ◌<◌, ◌≤◌, ◌&&◌, Bool, true, false, not, List, [], ◌∷◌, ◌++◌}
use Rattle.std.proofs.Common.{length, map, take, get_or, set, replicate, Option, Some, None, Result, Ok, Err, sym, ap}
use Rattle.std.proofs.Common.{ap₂, subst, subst₂, ◌∙◌, arith}
use Rattle.std.specs.Prelude.{find, option_map}
use Rattle.std.specs.List.{range_with_len}
use Rattle.std.proofs.Math.Bool.{and-false}
use Rattle.std.proofs.lemmas.List.{get_or_past}
use Rattle.std.proofs.lemmas.List.FromFn.{get_or-map-range_with_len}
use Rattle.wq_text.specs.Lines.{LineView}
use Rattle.wq_items.specs.declared.target.Target.{Target}
use Rattle.wq_items.specs.Building.{and_then}
use Rattle.wq_items.specs.Readings.{is_among}
use Rattle.wq_items.specs.Table.{Table, IsTable, targets_of, flush_count, places}
use Rattle.wq_items.proofs.ReadingLists.{AreMarked, AreMarked-more, AreMarked-all, each-below}
use Rattle.wq_cert.specs.declared.fault.CertError.{CertError}
use Rattle.wq_cert.specs.declared.fault.CertError.TheVariants.{BadCertLine}
use Rattle.wq_cert.specs.Lines.{CertLine, cert_line}
use Rattle.wq_cert.specs.Reading.{Read, and_read}
use Rattle.wq_cert.specs.Part.{is_declared_so, stood_for, unsure_reading, next_unsure}
use Rattle.wq_cert.specs.Texts.{IsCertFaultOf}
use Rattle.wq_cert.proofs.FirstFound.{find-same, find-passed, find-here}
use Rattle.wq_cert.proofs.ReadLemmas.{IsCertFaultOf-err}

-- ---- the place of a line

-- the flush is declared in this form, and its place isn't marked
abbrev pub is_open : List Bool → Bool × (ℕ × ℕ) → Target → Bool
is_open marks form t = is_declared_so form t && not (get_or marks t.place true)

module _ (t : Table) (is : IsTable t) (taken : List ℕ) (marks : List Bool)
    (are : marks ≡ map (is_among taken) (range_with_len 0 (flush_count t.waits))) where
  unmarked : (p : ℕ) → p < flush_count t.waits → get_or marks p true ≡ is_among taken p
  unmarked p within = ap (λ (l : List Bool). get_or l p true) are
      ∙ get_or-map-range_with_len (is_among taken) 0 (flush_count t.waits) p p true within (omega arith)

  pub stood_for-open : (form : Bool × (ℕ × ℕ)) → form.1.0 < length t.names
      → option_map (λ (u : Target). u.place) (find (is_open marks form) (targets_of t.waits form.1.0)) ≡ stood_for
      t.waits taken form
  stood_for-open form item =
      let i : ℕ = form.1.0 in
      let within : i < length t.waits = omega (arith, is.one_list_each) in
      ap (option_map (λ (u : Target). u.place))
      (find-same (is_open marks form) (λ (u : Target). is_declared_so form u && not (is_among taken u.place))
      (targets_of t.waits i) (λ k d lt.
      let u : Target = get_or (targets_of t.waits i) k d in
      ap (λ (b : Bool). is_declared_so form u && not b)
      (unmarked u.place (each-below t.waits i within is.places_are_numbered k d lt))))

  -- what is found among the flushes of the item says for which place the line stands
  pub stood_for-of : (form : Bool × (ℕ × ℕ)) → form.1.0 < length t.names → (ts : List Target)
      → ts ≡ targets_of t.waits form.1.0 → (o : Option Target) → find (is_open marks form) ts ≡ o
      → option_map (λ (u : Target). u.place) o ≡ stood_for t.waits taken form
  stood_for-of form item ts own_targets o found =
      ap (option_map (λ (u : Target). u.place)) (sym found ∙ ap (find (is_open marks form)) own_targets)
      ∙ stood_for-open form item

module _ (marks : List Bool) (form : Bool
    × (ℕ × ℕ)) (ts : List Target) (k : ℕ) (u : Target) (lt : k < length ts) (this : u ≡ get_or ts k u)
    (so_far : find (is_open marks form) (take k ts) ≡ None) where
  pub open-here : is_declared_so form u ≡ true → not (get_or marks u.place true) ≡ true
      → find (is_open marks form) ts ≡ Some u
  open-here declared free =
      let open_now : is_open marks form u ≡ true = ap₂ (λ (a b : Bool). a && b) declared free in
      find-here (is_open marks form) ts k u lt so_far (ap (is_open marks form) (sym this) ∙ open_now)
      ∙ ap (λ (v : Target). Some v) (sym this)

  passed : is_open marks form u ≡ false → find (is_open marks form) (take (k + 1) ts) ≡ None
  passed shut = find-passed (is_open marks form) ts k u lt so_far (ap (is_open marks form) (sym this) ∙ shut)

  pub not-declared_so : is_declared_so form u ≡ false → find (is_open marks form) (take (k + 1) ts) ≡ None
  not-declared_so other = passed (ap (λ (b : Bool). b && not (get_or marks u.place true)) other)

  pub not-free : not (get_or marks u.place true) ≡ false → find (is_open marks form) (take (k + 1) ts) ≡ None
  not-free marked = passed (ap (λ (b : Bool). is_declared_so form u && b) marked ∙ and-false (is_declared_so form u))

-- ---- one line after the other

-- of a part of n lines these places are read, they are marked, and this many lines are left, from those of `rest` on
pub record PartRead (names : List (List ℕ)) (waits : List (List Target)) (n : ℕ) (lines : List CertLine)
    (places : List ℕ) (marks : List Bool) (left : ℕ) (rest : List CertLine) : Type 0 where
  pub goes_on : next_unsure names waits n [] lines ≡ next_unsure names waits left places rest
  pub marked : AreMarked (flush_count waits) places marks

-- what is read after the line for which this is answered
after_line : List (List ℕ) → List (List Target) → ℕ → List ℕ → List CertLine → Result ℕ CertError → Read (List ℕ)
after_line names waits m places rest r =
    and_read (λ place behind. next_unsure names waits m (places ++ (place ∷ [])) behind)
    (and_then (λ (v : ℕ). Ok (v, rest)) r)

module _ (names : List (List ℕ)) (waits : List (List Target)) (n i : ℕ) (lines : List CertLine) (places : List ℕ)
    (marks : List Bool) (left : List LineView)
    (h : PartRead names waits n lines places marks (n - i) (map cert_line left)) where
  next_goes_on : i < n → (views : List LineView) → left ≡ views
      → next_unsure names waits n [] lines ≡ next_unsure names waits (suc (n - (i + 1))) places (map cert_line views)
  next_goes_on lt views is =
      let fewer : n - i ≡ suc (n - (i + 1)) = omega arith in
      subst₂ (λ (m : ℕ) (ls : List LineView). next_unsure names waits n [] lines ≡ next_unsure names waits m places
      (map cert_line ls)) fewer is h.goes_on

  -- the places so far are those that are marked
  pub PartRead-marks : marks ≡ map (is_among places) (range_with_len 0 (flush_count waits))
  PartRead-marks = AreMarked-all (flush_count waits) places marks h.marked

  pub PartRead-more : (line : LineView) (rest : List LineView) (place : ℕ) (more : List ℕ) → i < n
      → left ≡ line ∷ rest → Ok place ≡ unsure_reading names waits places (cert_line line) → place < length marks
      → more ≡ places ++ (place ∷ [])
      → PartRead names waits n lines more (set marks place true) (n - (i + 1)) (map cert_line rest)
  unfolding after_line
  PartRead-more line rest place more lt first taken within grown =
      subst (λ (ps : List ℕ). PartRead names waits n lines ps (set marks place true) (n - (i + 1))
      (map cert_line rest)) (sym grown) (record {
        goes_on = next_goes_on lt (line ∷ rest) first
            ∙ ap (after_line names waits (n - (i + 1)) places (map cert_line rest)) (sym taken);
        marked = AreMarked-more (flush_count waits) places marks place (omega (arith, h.marked.len)) h.marked;
      })

  pub PartRead-fault : (line : LineView) (rest : List LineView) (e : CertError) → i < n → left ≡ line ∷ rest
      → Err e ≡ unsure_reading names waits places (cert_line line)
      → IsCertFaultOf e (next_unsure names waits n [] lines)
  unfolding after_line
  PartRead-fault line rest e lt first fault =
      IsCertFaultOf-err e (next_unsure names waits n [] lines) (next_goes_on lt (line ∷ rest) first
      ∙ ap (after_line names waits (n - (i + 1)) places (map cert_line rest)) (sym fault))

  pub PartRead-short : i < n → left ≡ [] → next_unsure names waits n [] lines ≡ Err (BadCertLine 0)
  PartRead-short lt none = next_goes_on lt [] none
