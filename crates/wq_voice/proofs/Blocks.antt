-- Blocks of lines: each is plain, and they follow one another.
use Rattle.std.proofs.Common.{◌≡◌, ℕ, ◌+◌, ◌-◌, ◌<◌, List, [], ◌∷◌, ◌++◌, length, map, take, drop, get_or, append-nil, append_assoc, refl, sym, ap, subst, ◌∙◌, arith}
use Rattle.std.proofs.lemmas.List.{take_all, take_more, map_push}
use Rattle.wq_diagnosis.specs.Diagnosis.{IsPlain, shown_lines}
use Rattle.wq_diagnosis.proofs.Lines.{plain-lines}
use Rattle.wq_hang.specs.declared.hop.Hop.{Hop}
use Rattle.wq_voice.specs.Reasons.{and_lead, lead_for, plain_head, told, AddsSaid, AreSaid, IsSaidOf, Lead}

-- lines that begin with that one say this
pub said_of : (file what : List ℕ) (line column : ℕ) (more : List (List ℕ)) (text : List ℕ) → text ≡ shown_lines (plain_head file (line ∷ column ∷ []) what ∷ more)
    → IsSaidOf file what text
said_of file what line column more text lines = record {
  line = line;
  column = column;
  more = more;
  lines = lines;
  plain = subst IsPlain (sym lines) (plain-lines (plain_head file (line ∷ column ∷ []) what ∷ more));
}

-- some blocks, and the blocks behind them
AreSaid-append : (file : List ℕ) (whats more : List (List ℕ)) (one two : List ℕ) → AreSaid file whats one → AreSaid file more two → AreSaid file (whats ++ more) (one ++ two)
AreSaid-append file [] more one two none said = subst (λ (text : List ℕ). AreSaid file more (text ++ two)) (sym none) said
AreSaid-append file (what ∷ whats) more one two (block, rest, is, first, others) said =
    (block, rest ++ two, ap (λ (text : List ℕ). text ++ two) is ∙ append_assoc block rest two, first, AreSaid-append file whats more rest two others said)

-- nothing is added
pub AddsSaid-none : (file out : List ℕ) → AddsSaid file [] out out
AddsSaid-none file out = ([], sym (append-nil out), refl)

-- one block is
pub AddsSaid-one : (file what old new block : List ℕ) → IsSaidOf file what block → new ≡ old ++ block → AddsSaid file (what ∷ []) old new
AddsSaid-one file what old new block said is = (block, is, (block, [], sym (append-nil block), said, refl))

-- first some blocks are added, and then the blocks behind them
pub AddsSaid-then : (file : List ℕ) (whats more : List (List ℕ)) (old middle new : List ℕ) → AddsSaid file whats old middle → AddsSaid file more middle new → AddsSaid file (whats ++ more) old new
AddsSaid-then file whats more old middle new (one, first, said) (two, then, others) =
    (one ++ two, then ∙ ap (λ (text : List ℕ). text ++ two) first ∙ append_assoc old one two, AreSaid-append file whats more one two said others)

-- one block for each of some, and then that of the next
pub AddsSaid-next : {X : Type 0} (file : List ℕ) (what : X → List ℕ) (xs : List X) (k : ℕ) (x : X) (old middle new : List ℕ) → k < length xs → x ≡ get_or xs k x
    → AddsSaid file (map what (take k xs)) old middle → AddsSaid file (what x ∷ []) middle new → AddsSaid file (map what (take (k + 1) xs)) old new
AddsSaid-next {X = X} file what xs k x old middle new within is some one =
    let on : map what (take (k + 1) xs) ≡ map what (take k xs) ++ (what x ∷ []) =
    ap (map what) (take_more xs k x within) ∙ map_push what (take k xs) (get_or xs k x) ∙ ap (λ (y : X). map what (take k xs) ++ (what y ∷ [])) (sym is) in
    subst (λ (whats : List (List ℕ)). AddsSaid file whats old new) (sym on) (AddsSaid-then file (map what (take k xs)) (what x ∷ []) old middle new some one)

-- the block of the first wait of a walk, and behind it the blocks of the further waits
pub AddsSaid-told : (file : List ℕ) (lead : Lead) (words : Hop → List ℕ) (hops : List Hop) (h : Hop)
    (old middle new : List ℕ) → 0 < length hops → h ≡ get_or hops 0 h
    → AddsSaid file ((lead_for lead h ++ words h) ∷ []) old middle
    → AddsSaid file (map (λ (g : Hop). lead_for and_lead g ++ words g) (take (length hops - 1) (drop 1 hops)))
    middle new
    → AddsSaid file (told lead words hops) old new
AddsSaid-told file lead words [] h old middle new some is one more = absurd (omega (arith, some))
AddsSaid-told file lead words (first ∷ hops) h old middle new some is one more =
    AddsSaid-then file ((lead_for lead first ++ words first) ∷ [])
    (map (λ (g : Hop). lead_for and_lead g ++ words g) hops) old middle new
    (subst (λ (g : Hop). AddsSaid file ((lead_for lead g ++ words g) ∷ []) old middle) is one)
    (subst (λ (others : List Hop). AddsSaid file (map (λ (g : Hop). lead_for and_lead g ++ words g) others) middle new)
    (take_all (length (first ∷ hops) - 1) hops (omega arith)) more)

-- all that is added to nothing is what there is
pub AreSaid-added : (file : List ℕ) (whats : List (List ℕ)) (new : List ℕ) → AddsSaid file whats [] new → AreSaid file whats new
AreSaid-added file whats new (added, is, said) = subst (AreSaid file whats) (sym is) said
