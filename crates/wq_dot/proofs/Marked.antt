-- Marks: what is written arc by arc, or wait by wait, is what the definitions say place by place.
use Rattle.std.proofs.Common.{◌≡◌, ℕ, ◌<◌, ◌==◌, ◌||◌, Bool, inl, inr, List, [], ◌∷◌, ◌++◌, length, map, get_or, set, replicate, refl, sym, ap, ◌∙◌, arith}
use Rattle.std.specs.Prelude.{cond}
use Rattle.std.specs.List.{list_any, range_with_len}
use Rattle.std.proofs.lemmas.Bool.{cases_eq, eq-eqb, ne_eqb}
use Rattle.std.specs.Prelude.{fold}
use Rattle.std.proofs.lemmas.List.{length-set, length-replicate, get_or-set_same, get_or-set_other, get_or-replicate}
use Rattle.std.proofs.lemmas.List.FromFn.{fill_by_all, get_or-map-range_with_len, length-map-range_with_len}
use Rattle.wq_graph.specs.declared.arc.WaitArc.{WaitArc}
use Rattle.wq_dot.specs.declared.look.FlushLook.{FlushLook}
use Rattle.wq_dot.specs.declared.look.FlushLook.TheVariants.{Plain, Red, BoldRed}
use Rattle.wq_hang.specs.declared.hop.Hop.{Hop}
use Rattle.wq_dot.specs.Flushes.{look_at, looks_of, red_looks_of, with_bold_red, with_marks}

-- ---- marks at the places of some things

module _ {X : Type 0} (place : X → ℕ) (look : FlushLook) where
  -- the looks after the place of each of these got this look
  abbrev marks : List FlushLook → List X → List FlushLook
  marks looks xs = fold (λ (l : List FlushLook) (x : X). set l (place x) look) looks xs

  -- one of these has the place
  abbrev has_place : List X → ℕ → Bool
  has_place xs p = list_any (λ (x : X). place x == p) xs

  length-marks : (looks : List FlushLook) (xs : List X) → length (marks looks xs) ≡ length looks
  length-marks looks [] = refl
  length-marks looks (x ∷ xs) = length-marks (set looks (place x) look) xs ∙ length-set looks (place x) look

  -- what already has this look keeps it
  get_or-kept : (looks : List FlushLook) (xs : List X) (p : ℕ) → p < length looks → get_or looks p Plain ≡ look → get_or (marks looks xs) p Plain ≡ look
  get_or-kept looks [] p within is = is
  get_or-kept looks (x ∷ xs) p within is = elim (cases_eq p (place x)) [
    | inl own ↦
        get_or-kept (set looks (place x) look) xs p (omega (arith, within, length-set looks (place x) look))
        (ap (λ (q : ℕ). get_or (set looks (place x) look) q Plain) own ∙ get_or-set_same looks (place x) look Plain (omega (arith, within, own)))
    | inr other ↦ get_or-kept (set looks (place x) look) xs p (omega (arith, within, length-set looks (place x) look)) (get_or-set_other looks (place x) p look Plain other ∙ is)
  ]

  -- a place has this look if one of these has the place, and else keeps its look
  get_or-marks : (looks : List FlushLook) (xs : List X) (p : ℕ) → p < length looks → get_or (marks looks xs) p Plain ≡ cond (has_place xs p) look (get_or looks p Plain)
  get_or-marks looks [] p within = refl
  get_or-marks looks (x ∷ xs) p within = elim (cases_eq (place x) p) [
    | inl own ↦
        get_or-kept (set looks (place x) look) xs p (omega (arith, within, length-set looks (place x) look))
        (ap (λ (q : ℕ). get_or (set looks (place x) look) q Plain) (sym own) ∙ get_or-set_same looks (place x) look Plain (omega (arith, within, own)))
        ∙ sym (ap (λ (b : Bool). cond (b || has_place xs p) look (get_or looks p Plain)) (eq-eqb (place x) p own))
    | inr other ↦
        get_or-marks (set looks (place x) look) xs p (omega (arith, within, length-set looks (place x) look))
        ∙ ap (cond (has_place xs p) look) (get_or-set_other looks (place x) p look Plain (λ e. other (sym e)))
        ∙ sym (ap (λ (b : Bool). cond (b || has_place xs p) look (get_or looks p Plain)) (ne_eqb (place x) p other))
  ]

  -- the marks of some elements, and then of others
  marks-append : (looks : List FlushLook) (one other : List X) → marks looks (one ++ other) ≡ marks (marks looks one) other
  marks-append looks [] other = refl
  marks-append looks (x ∷ one) other = marks-append (set looks (place x) look) one other

  -- if each place looked so before
  marks-is : (n : ℕ) (f : ℕ → FlushLook) (looks : List FlushLook) (xs : List X) → length looks ≡ n → ((p : ℕ) → p < n → get_or looks p Plain ≡ f p)
      → marks looks xs ≡ map (λ (p : ℕ). cond (has_place xs p) look (f p)) (range_with_len 0 n)
  marks-is n f looks xs long before =
      fill_by_all (λ (p : ℕ). cond (has_place xs p) look (f p)) (marks looks xs) n Plain (length-marks looks xs ∙ long) (λ p within.
      get_or-marks looks xs p (omega (arith, within, long)) ∙ ap (cond (has_place xs p) look) (before p within))

-- ---- marks at the places of arcs

pub length-with_marks : (look : FlushLook) (looks : List FlushLook) (arcs : List WaitArc) → length (with_marks look looks arcs) ≡ length looks
length-with_marks look = length-marks (λ (a : WaitArc). a.place) look

pub with_marks-append : (look : FlushLook) (looks : List FlushLook) (one other : List WaitArc) → with_marks look looks (one ++ other) ≡ with_marks look (with_marks look looks one) other
with_marks-append look = marks-append (λ (a : WaitArc). a.place) look

-- if all was plain before
pub with_marks-is : (n : ℕ) (look : FlushLook) (looks : List FlushLook) (arcs : List WaitArc) → looks ≡ replicate n Plain → with_marks look looks arcs ≡ looks_of n look arcs
with_marks-is n look looks arcs plain =
    marks-is (λ (a : WaitArc). a.place) look n (λ p. Plain) looks arcs (ap length plain ∙ length-replicate n Plain)
    (λ p within. ap (λ (l : List FlushLook). get_or l p Plain) plain ∙ get_or-replicate n p Plain Plain within)

-- ---- marks at the places of waits

-- if these arcs were red before
pub with_bold_red-is : (n : ℕ) (looks : List FlushLook) (arcs : List WaitArc) (hops : List Hop) → looks ≡ looks_of n Red arcs → with_bold_red looks hops ≡ red_looks_of n hops arcs
with_bold_red-is n looks arcs hops red =
    marks-is (λ (h : Hop). h.flush.place) BoldRed n (look_at Red arcs) looks hops (ap length red ∙ length-map-range_with_len (look_at Red arcs) 0 n)
    (λ p within. ap (λ (l : List FlushLook). get_or l p Plain) red ∙ get_or-map-range_with_len (look_at Red arcs) 0 n p p Plain within (omega arith))
