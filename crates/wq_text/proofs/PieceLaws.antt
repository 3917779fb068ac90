-- The pieces of a text are the only ones that make it up.
use Rattle.std.proofs.Common.{◌≡◌, ◌≢◌, ℕ, zero, suc, ◌<◌, Bool, true, false, eqb, List, [], ◌∷◌, ◌++◌, length, get_or, refl, sym, ap, subst, ◌∙◌, arith, append_assoc, append-nil, inl, inr}
use Rattle.std.specs.List.{AllByRecursion, Contains, flat_map}
use Rattle.std.proofs.lemmas.Bool.{eqb-true, eqb-false, false≢true}
use Rattle.wq_text.specs.Lines.{Piece, pieces, in_front, piece_text, OnlyTheLastIsOpen, AreThePieces}
use Rattle.wq_text.proofs.PieceLemmas.{NoFeed, is_false, pieces-feed, pieces-whole}
use Rattle.wq_text.proofs.WordLemmas.{cons_not_nil}

-- no piece holds a line feed
abbrev HoldNoFeed : List Piece → Type 0
HoldNoFeed ps = AllByRecursion (λ (p : Piece). Contains p.bytes 10 → ⊥) ps

none-nil : Contains {X = ℕ} [] 10 → ⊥
none-nil c = absurd (omega (arith, c.1))

Contains-skip_at : (b x k : ℕ) (bs : List ℕ) → b ≢ x → k < length (b ∷ bs) → get_or (b ∷ bs) k x ≡ x → Contains bs x
Contains-skip_at b x zero bs ne lt e = absurd (ne e)
Contains-skip_at b x (suc k) bs ne lt e = (k, omega arith, e)

Contains-skip : (b x : ℕ) (bs : List ℕ) → b ≢ x → Contains (b ∷ bs) x → Contains bs x
Contains-skip b x bs ne c = Contains-skip_at b x c.0 bs ne c.1 c.2

flat_map-in_front : (b : ℕ) (ps : List Piece) → flat_map piece_text (in_front b ps) ≡ b ∷ flat_map piece_text ps
flat_map-in_front b [] = refl
flat_map-in_front b (p ∷ ps) = refl

HoldNoFeed-in_front : (b : ℕ) (ps : List Piece) → b ≢ 10 → HoldNoFeed ps → HoldNoFeed (in_front b ps)
HoldNoFeed-in_front b [] ne h = (λ c. none-nil (Contains-skip b 10 [] ne c), tt)
HoldNoFeed-in_front b (p ∷ ps) ne h = (λ c. h.0 (Contains-skip b 10 p.bytes ne c), h.1)

OnlyTheLastIsOpen-in_front : (b : ℕ) (ps : List Piece) → OnlyTheLastIsOpen ps → OnlyTheLastIsOpen (in_front b ps)
OnlyTheLastIsOpen-in_front b [] h = inr (cons_not_nil b [])
OnlyTheLastIsOpen-in_front b (p ∷ []) (inl e) = inl e
OnlyTheLastIsOpen-in_front b (p ∷ []) (inr some) = inr (cons_not_nil b p.bytes)
OnlyTheLastIsOpen-in_front b (p ∷ q ∷ ps) h = h

OnlyTheLastIsOpen-feed : (ps : List Piece) → OnlyTheLastIsOpen ps → OnlyTheLastIsOpen (record { bytes = []; ended = true } ∷ ps)
OnlyTheLastIsOpen-feed [] h = inl refl
OnlyTheLastIsOpen-feed (q ∷ ps) h = (refl, h)

AreThePieces-step : (b : ℕ) (bs : List ℕ) (t : Bool) → eqb b 10 ≡ t → AreThePieces bs (pieces bs) → AreThePieces (b ∷ bs) (pieces (b ∷ bs))
AreThePieces-step b bs true e h =
    let cut : pieces (b ∷ bs) ≡ record { bytes = []; ended = true } ∷ pieces bs = rw e refl in
    let feed : b ≡ 10 = eqb-true b 10 e in
    subst (AreThePieces (b ∷ bs)) (sym cut) (record {
      make_the_text = ap (λ (ys : List ℕ). 10 ∷ ys) h.make_the_text ∙ ap (λ (x : ℕ). x ∷ bs) (sym feed);
      hold_no_feed = (none-nil, h.hold_no_feed);
      ended = OnlyTheLastIsOpen-feed (pieces bs) h.ended;
    })
AreThePieces-step b bs false e h =
    let cut : pieces (b ∷ bs) ≡ in_front b (pieces bs) = rw e refl in
    subst (AreThePieces (b ∷ bs)) (sym cut) (record {
      make_the_text = flat_map-in_front b (pieces bs) ∙ ap (λ (ys : List ℕ). b ∷ ys) h.make_the_text;
      hold_no_feed = HoldNoFeed-in_front b (pieces bs) (eqb-false b 10 e) h.hold_no_feed;
      ended = OnlyTheLastIsOpen-in_front b (pieces bs) h.ended;
    })

pub AreThePieces-pieces : (text : List ℕ) → AreThePieces text (pieces text)
AreThePieces-pieces [] = record { make_the_text = refl; hold_no_feed = tt; ended = tt }
AreThePieces-pieces (b ∷ bs) = AreThePieces-step b bs (eqb b 10) refl (AreThePieces-pieces bs)

NoFeed-from_none : (bs : List ℕ) → (Contains bs 10 → ⊥) → NoFeed bs
NoFeed-from_none [] h = tt
NoFeed-from_none (b ∷ bs) h =
    (is_false (eqb b 10) (λ e. h (0, omega arith, eqb-true b 10 e)), NoFeed-from_none bs (λ c. h (suc c.0, omega (arith, c.1), c.2)))

pub OnlyTheLastIsOpen-tail : (p : Piece) (ps : List Piece) → OnlyTheLastIsOpen (p ∷ ps) → OnlyTheLastIsOpen ps
OnlyTheLastIsOpen-tail p [] h = tt
OnlyTheLastIsOpen-tail p (q ∷ ps) h = h.1

some_bytes : (bs : List ℕ) → bs ≢ [] → 0 < length bs
some_bytes [] h = absurd (h refl)
some_bytes (b ∷ bs) h = omega arith

pieces-piece : (xs : List ℕ) (t : Bool) (ps : List Piece) → (Contains xs 10 → ⊥) → OnlyTheLastIsOpen (record { bytes = xs; ended = t } ∷ ps)
    → pieces (flat_map piece_text ps) ≡ ps → pieces (flat_map piece_text (record { bytes = xs; ended = t } ∷ ps)) ≡ record { bytes = xs; ended = t } ∷ ps
pieces-piece xs true ps none last others =
    let p : Piece = record { bytes = xs; ended = true } in
    ap pieces (append_assoc xs (10 ∷ []) (flat_map piece_text ps)) ∙ pieces-feed xs (flat_map piece_text ps) (NoFeed-from_none xs none) ∙ ap (λ (qs : List Piece). p ∷ qs) others
pieces-piece xs false [] none (inl e) others = absurd (false≢true e)
pieces-piece xs false [] none (inr some) others =
    ap pieces (append-nil (xs ++ []) ∙ append-nil xs) ∙ pieces-whole xs (some_bytes xs some) (NoFeed-from_none xs none)
pieces-piece xs false (q ∷ ps) none last others = absurd (false≢true last.0)

pieces-flat_map : (ps : List Piece) → AllByRecursion (λ (p : Piece). Contains p.bytes 10 → ⊥) ps → OnlyTheLastIsOpen ps → pieces (flat_map piece_text ps) ≡ ps
pieces-flat_map [] none last = refl
pieces-flat_map (p ∷ ps) none last =
    pieces-piece p.bytes p.ended ps none.0 last (pieces-flat_map ps none.1 (OnlyTheLastIsOpen-tail p ps last))

pub pieces-AreThePieces : (text : List ℕ) (others : List Piece) → AreThePieces text others → others ≡ pieces text
pieces-AreThePieces text others h = sym (pieces-flat_map others h.hold_no_feed h.ended) ∙ ap pieces h.make_the_text
