-- What is read of lists of marks, and which groups are tried: those on a lane that has a rescuer or is given one.
use Rattle.std.proofs.Common.{◌≡◌, ℕ, ◌<◌, ◌⊎◌, inl, inr, Bool, true, false, List, length, get_or, refl, sym, ap, subst, ◌∙◌}
use Rattle.std.specs.Prelude.{◌↔◌, not, slice_index_or}
use Rattle.std.proofs.lemmas.Bool.{false≢true}
use Rattle.std.proofs.lemmas.List.{get_or_default}
use Rattle.wq_core.specs.Workqueues.{Workqueues}
use Rattle.wq_repair.specs.Changes.{IsRescued, lane_in}
use Rattle.wq_repair.specs.Marks.{IsMarked}
use Rattle.wq_repair.specs.Ready.{Scope}

-- what is read at place i of a list
pub mark-read : (xs ys : List Bool) (i : ℕ) (b : Bool) → xs ≡ ys → i < length ys → b ≡ get_or xs i b → slice_index_or ys i false ≡ b
mark-read xs ys i b same lt is = get_or_default ys i false b lt ∙ sym (subst (λ (zs : List Bool). b ≡ get_or zs i b) same is)

not_true : (b : Bool) → not b ≡ true → b ≡ false
not_true true is = absurd (false≢true is)
not_true false is = refl

-- what is read of the lane of a group
pub rescued-read : (old : Workqueues) (s : Scope) (g lane : ℕ) (is_given is_bare : Bool) → lane_in old g ≡ lane → slice_index_or s.given lane false ≡ is_given → slice_index_or old.bare lane false ≡ is_bare
    → ((is_given ≡ true) ⊎ (not is_bare ≡ true)) ↔ (IsMarked s.given (lane_in old g) ⊎ IsRescued old (lane_in old g))
rescued-read old s g lane is_given is_bare here given_is bare_is =
    let given_here : slice_index_or s.given (lane_in old g) false ≡ is_given = ap (λ (q : ℕ). slice_index_or s.given q false) here ∙ given_is in
    let bare_here : slice_index_or old.bare (lane_in old g) false ≡ is_bare = ap (λ (q : ℕ). slice_index_or old.bare q false) here ∙ bare_is in (
      λ either. elim either [
        | inl given ↦ inl (given_here ∙ given)
        | inr rescued ↦ inr (bare_here ∙ not_true is_bare rescued)
      ],
      λ either. elim either [
        | inl marked ↦ inl (sym given_here ∙ marked)
        | inr rescued ↦ inr (ap not (sym bare_here ∙ rescued))
      ],
    )
