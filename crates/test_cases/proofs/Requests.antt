-- `is_refused` at a call: what it is handed, and what a caller has of it; and what of a body comes after it. Assumes `Logic`.
use Rattle.std.proofs.Common.{◌≡◌, ℕ, zero, suc, List, [], ◌∷◌, refl, ap}
use mathlib.Core.Bool.{Bool}
use seplogic.Ra.Ura.{Ura}
use mir.Syntax.{Body, skip, seq, assign, block, loop, cond, switch, exit, return, call, call_v, unreachable, lend_static}
use mir.Val.{Val, vbool, vptr}
use base.Logic.{SProp, ent, ex, sep, guard, id⊢}
use base.Fml.{Lft, Share, ftrue, fsep, flft}
use prog.Memory.{Memory}
use prog.Routine.{Routine}
use types.Logic.{Logic, sem}
use contract.Monad.{Fun}
use types.Kit.{‵, ◌⊛◌, some, later, ◌$◌, ◌∵◌, !, qed, move, keep, use1, split, join, pick, fjoin, feq_i, feq_l, check, show, await, updating, now as at_once, done}
use denote.RattleType.{RattleType}
use denote.Memory.{hidden_shr}
use denote.Builtin.{bool}
use denote.Steps.{nothing, only}
use denote.Triple.Statement.{Contract}
use denote.Triple.Spec.{triple_of}
use Rattle.test_cases.specs.contracts.refusing_heap.Requests as R
use Rattle.test_cases.specs.contracts.refusing_heap.Requests.is_refused as IR

-- The statements after the first one, and after the first n.
abbrev rest : Body → Body
rest skip = skip
rest (seq _ b) = b
rest (assign _ _) = skip
rest (block _) = skip
rest (loop _) = skip
rest (cond _ _ _) = skip
rest (switch _ _) = skip
rest (exit _) = skip
rest return = skip
rest (call _ _ _) = skip
rest (call_v _ _ _ _) = skip
rest unreachable = skip
rest (lend_static _ _ _) = skip

abbrev pub after : ℕ → Body → Body
after zero b = b
after (suc n) b = after n (rest b)

abbrev Requests : RattleType
Requests = R.the_row

module _ {M : Type 1} {𝓤 : Ura M} (𝓛 : Logic 𝓤) (at_mem : Memory → SProp 𝓤) (run : Routine → Fun 𝓤) where
  abbrev pub Asks : Contract 𝓤
  Asks = triple_of 𝓛 IR.signature (IR.spec 𝓛 at_mem run)

  abbrev pub at_asks : Lft → Share → ℕ × ℕ → Requests.Denot → Asks.Ghost
  at_asks κ q c x = (((κ, tt), (q, tt), tt, (record { ref_ptr = c; now = x }, tt), (vptr c.0 c.1 ∷ [], tt)), tt)

module _ {M : Type 1} {𝓤 : Ura M} (𝓛 : Logic 𝓤) (at_mem : Memory → SProp 𝓤) (run : Routine → Fun 𝓤) (κ : Lft) (q : Share) (c : ℕ × ℕ) (x : Requests.Denot) where
  open 𝓛 use {H, A}

  pub Asks-goes : ent 𝓤 (sep 𝓤 (sem 𝓛 (hidden_shr Requests κ x c.0 c.1)) (A.lft κ q)) ((Asks 𝓛 at_mem run).pre (at_asks 𝓛 at_mem run κ q c x))
  Asks-goes =
      qed 𝓛 (‵ (hidden_shr Requests κ x c.0 c.1) ∷ ‵ (flft κ q) ∷ []) ∵ feq_i ! (List Val) (vptr c.0 c.1 ∷ []) (vptr c.0 c.1 ∷ []) refl $ fjoin ! $
      nothing ! $ move ! (1 ∷ []) $ fjoin ! $ nothing ! $ move ! (2 ∷ []) $ join ! $ join ! $ nothing ! $ move ! (1 ∷ []) $ join ! $ done !

  pub Asks-gives : (v : Val) → ent 𝓤 ((Asks 𝓛 at_mem run).post (at_asks 𝓛 at_mem run κ q c x) v) (H.⇛ (ex 𝓤 (λ (r : Bool). guard 𝓤 (v ≡ vbool r) (A.lft κ q))))
  Asks-gives v =
      qed 𝓛 (types.Kit.raw ((Asks 𝓛 at_mem run).post (at_asks 𝓛 at_mem run κ q c x) v) ∷ []) ∵ updating ! $
      use1 𝓛 (later (some (λ (r : Bool). ((‵ (flft κ q) ⊛ ‵ ftrue) ⊛ ‵ (bool.own_val r (v ∷ []))) ⊛ some (λ (ws : Unit {0} × Unit {0}). ‵ (fsep ftrue ftrue) ⊛ ‵ ftrue)))) (id⊢ 𝓤 _) $ await ! tt $ pick ! (λ r.
      split ! $ split ! $ move ! (1 ∷ []) $ feq_l ! (λ e. split ! $ at_once ! $
      show ! (λ (r : Bool). guard 𝓤 (v ≡ vbool r) (A.lft κ q)) r $ check ! (ap only e) $ keep ! (0 ∷ []) $ done !))
