use Rattle.std.proofs.Common.{◌≡◌, ◌≢◌, ℕ, ◌+◌, ◌<◌, List, [], ◌∷◌, ◌++◌, inl, inr, sym, ap, subst, ◌∙◌, arith}
use Rattle.std.specs.Prelude.{◌↔◌, ◌⊎◌, Contains, AllPairs}
use Rattle.std.proofs.lemmas.Bool.{cases_eq, false≢true}
use Rattle.wq_repair.specs.Marks.{IsMarked}
use Rattle.wq_repair.proofs.Marks.{list-one_more, list-once_more}
use Rattle.wq_repair.proofs.Marks.{IsMarked-below}
use Rattle.wq_repair.proofs.listing.listed.Goals as goal

pub loop-number-preserved-then-not-is_marked : goal.loop-number-preserved-then-not-is_marked
loop-number-preserved-then-not-is_marked g c =
    let n = c.loop-number.number in
    let marks = c.args.marks.now in
    record {
      exactly = λ k. (
        λ there. let was = (c.loop-number.invariant.exactly k).0 there in (omega (arith, was.0), was.1),
        λ is. elim (cases_eq k n) [
          | inl last ↦ absurd (false≢true (sym c.if-not-is_marked.true ∙ subst (IsMarked marks) last is.1))
          | inr other ↦ (c.loop-number.invariant.exactly k).1 (omega (arith, is.0, other), is.1)
        ],
      );
      once = c.loop-number.invariant.once;
    }

pub loop-number-preserved : goal.loop-number-preserved
loop-number-preserved g c =
    let n = c.loop-number.number in
    let marks = c.args.marks.now in
    let xs : List ℕ = c.loop-number.listed.items in
    let pushed = c.in_ok-push.ensures.items ∙ ap (λ (q : ℕ). xs ++ q ∷ []) c.new.ensures in
    let more : (k : ℕ) → ((k < n + 1) × IsMarked marks k) ↔ (((k < n) × IsMarked marks k) ⊎ (k ≡ n)) = λ k. (
      λ is. elim (cases_eq k n) [ inl last ↦ inr last | inr other ↦ inl (omega (arith, is.0, other), is.1) ],
      λ either. elim either [
        | inl before ↦ (omega (arith, before.0), before.1)
        | inr last ↦ (omega (arith, last), subst (IsMarked marks) (sym last) c.if-not-is_marked.false)
      ],
    ) in
    record {
      exactly = λ k. subst (λ (ys : List ℕ). Contains ys k ↔ ((k < n + 1) × IsMarked marks k)) (sym pushed)
          (list-one_more (λ (k : ℕ). (k < n) × IsMarked marks k) (λ (k : ℕ). (k < n + 1) × IsMarked marks k) xs n c.loop-number.invariant.exactly more k);
      once = subst (λ (ys : List ℕ). AllPairs (λ (j k : ℕ). j ≢ k) ys) (sym pushed)
          (list-once_more (λ (k : ℕ). (k < n) × IsMarked marks k) xs n c.loop-number.invariant.exactly (λ is. omega (arith, is.0)) c.loop-number.invariant.once);
    }

pub returns : goal.returns
returns g c =
    let marks = c.args.marks.now in
    record {
      exactly = λ k. (
        λ there. ((c.loop-number.invariant.exactly k).0 there).1,
        λ marked. (c.loop-number.invariant.exactly k).1 (omega (arith, IsMarked-below marks k marked, c.loop-number-test.false), marked),
      );
      once = c.loop-number.invariant.once;
    }
