-- The contexts of a runtime, counted and listed lane by lane.
use Rattle.std.proofs.Common.{◌≡◌, ℕ, zero, suc, ◌+◌, ◌<◌, List, [], ◌∷◌, ◌++◌, length, map, refl, sym, ap, ◌∙◌}
use Rattle.std.proofs.Common.{append-nil, arith}
use Rattle.std.specs.Prelude.{flat_map}
use Rattle.std.specs.List.{range_with_len}
use Rattle.std.proofs.lemmas.List.{map-append, length-append, length-map}
use Rattle.std.proofs.lemmas.Grind.{flat_map-append}
use Rattle.wq_items.proofs.TableLemmas.{range_with_len-append, range_with_len-push}
use Rattle.wq_core.specs.declared.step.Context.{Context}
use Rattle.wq_core.specs.Wiring.{Wiring, helpers_of}
use Rattle.wq_rescuer.specs.Contexts.{context_at, contexts_on, contexts_of}

-- the contexts of the lanes below q
abbrev pub contexts_below : Wiring → ℕ → List Context
contexts_below w q = flat_map (contexts_on w) (range_with_len 0 q)

-- with those of one more lane
pub contexts_below-more : (w : Wiring) (q : ℕ) → contexts_below w (q + 1) ≡ contexts_below w q ++ contexts_on w q
contexts_below-more w q =
    ap (flat_map (contexts_on w)) (range_with_len-push q) ∙ flat_map-append (contexts_on w) (range_with_len 0 q) (q ∷ [])
    ∙ ap (λ cs. contexts_below w q ++ cs) (append-nil (contexts_on w q))

long_range : (a n : ℕ) → length (range_with_len a n) ≡ n
long_range a zero = refl
long_range a (suc n) = ap suc (long_range (a + 1) n)

-- a lane has one more context than helpers
long_on : (w : Wiring) (q : ℕ) → length (contexts_on w q) ≡ 1 + helpers_of w q
long_on w q = omega (arith, length-map (range_with_len 1 (helpers_of w q)) (context_at q), long_range 1 (helpers_of w q))

pub long_below-more : (w : Wiring) (q : ℕ) → length (contexts_below w (q + 1)) ≡ length (contexts_below w q) + (1 + helpers_of w q)
long_below-more w q = ap length (contexts_below-more w q) ∙ length-append (contexts_below w q) (contexts_on w q) ∙ ap (λ n. length (contexts_below w q) + n) (long_on w q)

-- there is a context if there is a lane
pub some_context : (w : Wiring) (q : ℕ) → q < w.lanes → 0 < length (contexts_of w)
some_context w q below = some w w.lanes (omega (arith, below))
  where
    some : (w : Wiring) (lanes : ℕ) → 0 < lanes → 0 < length (contexts_below w lanes)
    some w zero none = absurd (omega (arith, none))
    some w (suc lanes) more = omega (arith, length-append (contexts_on w 0) (flat_map (contexts_on w) (range_with_len 1 lanes)), long_on w 0)

-- of one lane: one more helper
pub helpers_more : (q n : ℕ) → map (context_at q) (range_with_len 1 (n + 1)) ≡ map (context_at q) (range_with_len 1 n) ++ (context_at q (n + 1) ∷ [])
helpers_more q n =
    let next : 1 + n ≡ n + 1 = omega arith in
    ap (map (context_at q)) (range_with_len-append 1 n 1) ∙ map-append (context_at q) (range_with_len 1 n) (range_with_len (1 + n) 1)
    ∙ ap (λ k. map (context_at q) (range_with_len 1 n) ++ (context_at q k ∷ [])) next

-- the contexts of one more lane were listed
pub listed_more : (w : Wiring) (q lane n : ℕ) (before after : List Context) → after ≡ before ++ (context_at lane 0 ∷ map (context_at lane) (range_with_len 1 n))
    → n ≡ helpers_of w lane → lane ≡ q → before ≡ contexts_below w q → after ≡ contexts_below w (q + 1)
listed_more w q lane n before after added many is so_far =
    added ∙ ap (λ (k : ℕ). before ++ (context_at lane 0 ∷ map (context_at lane) (range_with_len 1 k))) many
    ∙ ap (λ (l : ℕ). before ++ contexts_on w l) is ∙ ap (λ (cs : List Context). cs ++ contexts_on w q) so_far ∙ sym (contexts_below-more w q)
