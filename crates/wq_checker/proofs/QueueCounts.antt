-- How often each item is queued.
use Rattle.std.proofs.Common.{◌≡◌, ◌↔◌, ℕ, ◌+◌, ◌<◌, ◌≤◌, inl, inr, Bool, false, List, length, get_or, set, take, sym, ap, ◌∙◌, arith}
use Rattle.std.specs.Prelude.{IsTrue}
use Rattle.std.specs.List.{All, count_by}
use Rattle.std.proofs.lemmas.Bool.{cases_eq, eq-eqb, ne_eqb}
use Rattle.std.proofs.lemmas.List.{length-set, get_or-set_same, get_or-set_other, get_or_default, length-take}
use Rattle.std.proofs.lemmas.List.Sums.{count_by-le-length, count_by_more_yes, count_by_more_no}
use Rattle.wq_core.specs.declared.step.Step.{Step}
use Rattle.wq_core.specs.declared.step.Step.TheVariants.{Queue}
use Rattle.wq_core.specs.Wiring.{Wiring, items}
use Rattle.wq_core.specs.Runs.{queues, IsCancel, IsOnce}

-- for each item below n, how often the steps queue it
pub record Counted (steps : List Step) (n : ℕ) (counts : List ℕ) : Type 0 where
  pub len : length counts ≡ n
  pub each : (i : ℕ) → i < n → get_or counts i 0 ≡ count_by (λ (step : Step). queues i step) steps

module _ (steps : List Step) (n k : ℕ) (counts : List ℕ) (within : k < length steps) (counted : Counted (take k steps) n counts) where
  -- a step that queues none of the items
  pub Counted-other : (step : Step) → step ≡ get_or steps k step → ((i : ℕ) → i < n → queues i step ≡ false) → Counted (take (k + 1) steps) n counts
  Counted-other step is none = record {
    len = counted.len;
    each = λ i below. counted.each i below ∙ sym (count_by_more_no (λ (s : Step). queues i s) steps k step within (ap (queues i) (sym is) ∙ none i below));
  }

  -- one that queues item i
  pub Counted-queue : (i j count : ℕ) → Queue i ≡ get_or steps k (Queue i) → j ≡ i → j < n → count ≡ get_or counts j count → Counted (take (k + 1) steps) n (set counts j (count + 1))
  Counted-queue i j count is same below read = record {
    len = length-set counts j (count + 1) ∙ counted.len;
    each = λ p lt. elim (cases_eq p j) [
      | inl one ↦
          ap (λ (q : ℕ). get_or (set counts j (count + 1)) q 0) one
          ∙ get_or-set_same counts j (count + 1) 0 (omega (arith, counted.len))
          ∙ ap (λ (q : ℕ). q + 1) (read ∙ get_or_default counts j count 0 (omega (arith, counted.len)) ∙ ap (λ (q : ℕ). get_or counts q 0) (sym one) ∙ counted.each p lt)
          ∙ sym (count_by_more_yes (λ (s : Step). queues p s) steps k (Queue i) within (ap (queues p) (sym is) ∙ eq-eqb i p (omega arith)))
      | inr other ↦
          get_or-set_other counts j p (count + 1) 0 other
          ∙ counted.each p lt
          ∙ sym (count_by_more_no (λ (s : Step). queues p s) steps k (Queue i) within (ap (queues p) (sym is) ∙ ne_eqb i p (λ e. other (omega arith))))
    ];
  }

  -- none was queued more often than there were steps
  pub Counted-few : (i count : ℕ) → i < n → count ≡ get_or counts i count → count ≤ k
  Counted-few i count below read =
      let is : count ≡ count_by (λ (step : Step). queues i step) (take k steps) = read ∙ get_or_default counts i count 0 (omega (arith, counted.len)) ∙ counted.each i below in
      omega (arith, is, count_by-le-length (λ (step : Step). queues i step) (take k steps), length-take k steps)

-- each item is queued once if each count is one
pub IsOnce-counts : (w : Wiring) (steps : List Step) (counts : List ℕ) (one : Bool) → Counted steps (items w) counts → All (λ (step : Step). ¬ IsCancel step) steps
    → (IsTrue one ↔ All (λ n. n ≡ 1) counts) → IsTrue one ↔ IsOnce w steps
IsOnce-counts w steps counts one counted uncancelled both = (to, from)
  where
    to : IsTrue one → IsOnce w steps
    to is = record {
      queued = λ i below. sym (counted.each i below) ∙ both.0 is i 0 (omega (arith, below, counted.len));
      uncancelled = uncancelled;
    }

    from : IsOnce w steps → IsTrue one
    from once = both.1 (λ k d within. get_or_default counts k d 0 within ∙ counted.each k (omega (arith, within, counted.len)) ∙ once.queued k (omega (arith, within, counted.len)))
