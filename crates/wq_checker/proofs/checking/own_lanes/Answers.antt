use Rattle.std.proofs.Common.{◌≡◌, ◌<◌, ℕ, List, [], ◌∷◌, ◌++◌, sym, ap, subst, ◌∙◌, arith}
use Rattle.std.specs.List.{All, range_with_len}
use Rattle.std.proofs.lemmas.List.FromFn.{length-range_with_len, get_or-range_with_len}
use Rattle.wq_items.proofs.TableLemmas.{range_with_len-push}
use Rattle.wq_checker.proofs.checking.own_lanes.Goals as goal

-- the numbers below n are below n
range-below : (n : ℕ) → All (λ l. l < n) (range_with_len 0 n)
range-below n k d within =
    let fits : k < n = omega (arith, within, length-range_with_len 0 n) in
    omega (arith, get_or-range_with_len 0 n k d fits)

pub loop-group-preserved : goal.loop-group-preserved
loop-group-preserved g c =
    let n = c.loop-group.group in
    c.in_ok-push.ensures.items
    ∙ ap (λ (l : List ℕ). l ++ (c.new.result ∷ [])) c.loop-group.invariant
    ∙ ap (λ (x : ℕ). range_with_len 0 n ++ (x ∷ [])) c.new.ensures
    ∙ sym (range_with_len-push n)

pub unwrap-requires : goal.unwrap-requires
unwrap-requires g c =
    let all : c.loop-group.group ≡ c.args.groups = omega (arith, c.loop-group-test.false, c.loop-group.auto.group-end) in
    c.new-2.ensures.exactly.1 (c.requires, subst (All (λ l. l < c.args.groups)) (sym (c.loop-group.invariant ∙ ap (range_with_len 0) all)) (range-below c.args.groups))
