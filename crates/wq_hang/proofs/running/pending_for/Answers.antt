use Rattle.std.proofs.Common.{◌≡◌, ◌+◌, ◌<◌, [], ◌∷◌, ◌++◌, ℕ, Bool, true, List, length, take, drop, sym, ap, subst}
use Rattle.std.proofs.Common.{◌∙◌}
use Rattle.std.proofs.Common.{length-set, take_at, append_assoc}
use Rattle.std.specs.Prelude.{flat_map, if◌then◌else◌}
use Rattle.std.proofs.lemmas.List.{append-nil}
use Rattle.wq_core.specs.Wiring.{items}
use Rattle.wq_hang.specs.declared.hop.Hop.{Hop}
use Rattle.wq_hang.specs.WalkFor.{named_beside, pending_beside}
use Rattle.wq_hang.specs.WaysFor.{IsPushedOnce}
use Rattle.wq_hang.proofs.OnceMarked.{AreOnce, AreOnce-pushed, flat_map-next}
use Rattle.wq_hang.proofs.running.pending_for.Goals as goal
use Rattle.wq_hang.proofs.running.pending_for.Goals.{then-is_pending+in_ok-push_once-2, else-is_pending}

pub loop-hop-preserved : goal.loop-hop-preserved
loop-hop-preserved g c =
    let w = c.args.waits.now in
    let n : ℕ = items w in
    let hops : List Hop = c.args.hops.now in
    let k : ℕ = c.loop-hop.hop-index in
    let h : Hop = c.hop-item.result in
    let i : ℕ = h.flush.item in
    let first : List ℕ = named_beside c.args.named hops in
    let before : List ℕ = first ++ flat_map (pending_beside w) (take k hops) in
    let after : List ℕ = first ++ flat_map (pending_beside w) (take (k + 1) hops) in
    let old = c.loop-hop.marks.items in
    let list = c.loop-hop.list.items in
    let next : after ≡ before ++ pending_beside w h =
    ap (λ (l : List ℕ). first ++ l) (flat_map-next (pending_beside w) k hops h c.loop-hop-test.true c.hop-item.is)
    ∙ sym (append_assoc first (flat_map (pending_beside w) (take k hops)) (pending_beside w h)) in
    elim c.if-is_pending.branch [
      | then-is_pending+in_ok-push_once-2 v ↦ (
          let new = v.push_once-then-is_pending.new.marks in
          let new_list = v.push_once-then-is_pending.new.list.items in
          let one : pending_beside w h ≡ i ∷ [] =
          c.is_pending.ensures ∙ ap (λ (b : Bool). if b then i ∷ [] else []) v.if-is_pending.true in
          let below : i < n = subst (λ (x : Hop). x.flush.item < n) (sym c.hop-item.is)
          (c.requires.targets k h c.loop-hop-test.true) in
          let pushed : IsPushedOnce i old list new new_list =
          subst (λ (m : List Bool). IsPushedOnce i m list new new_list) v.as_mut_slice-then-is_pending.ensures.value
          v.in_ok-push_once-2.ensures in
          let size =
          ap (λ (m : List Bool). length m) v.in_ok-push_once-2.ensures.0
          ∙ length-set v.as_mut_slice-then-is_pending.result.now i true
          ∙ v.as_mut_slice-then-is_pending.ensures.len in
          let marks_is = ap (λ m. m.items) v.marks-is ∙ take_at new (drop (length new) old) c.loop-hop.marks.len size in
          let once : AreOnce n new new_list (before ++ (i ∷ [])) =
          AreOnce-pushed n old list before c.loop-hop.invariant i new new_list below pushed in
          let same : after ≡ before ++ (i ∷ []) = next ∙ ap (λ (l : List ℕ). before ++ l) one in
          subst (λ (l : List ℕ). AreOnce n c.if-is_pending.marks.items l after) (sym (ap (λ l. l.items) v.list-is))
          (subst (λ (m : List Bool). AreOnce n m new_list after) (sym marks_is)
          (subst (λ (l : List ℕ). AreOnce n new new_list l) (sym same) once))
          )
      | else-is_pending v ↦ (
          let none : pending_beside w h ≡ [] =
          c.is_pending.ensures ∙ ap (λ (b : Bool). if b then i ∷ [] else []) v.if-is_pending.false in
          let same : after ≡ before = next ∙ ap (λ (l : List ℕ). before ++ l) none ∙ append-nil before in
          subst (λ (l : List ℕ). AreOnce n c.if-is_pending.marks.items l after) (sym (ap (λ l. l.items) v.list-is))
          (subst (λ (m : List Bool). AreOnce n m list after) (sym (ap (λ m. m.items) v.marks-is))
          (subst (λ (l : List ℕ). AreOnce n old list l) (sym same) c.loop-hop.invariant))
          )
    ]
