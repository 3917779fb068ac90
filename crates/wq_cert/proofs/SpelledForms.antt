-- What a line says: its words are those of the form.
use Rattle.std.proofs.Common.{◌≡◌, ◌≢◌, ℕ, ◌<◌, ◌^◌, inl, inr, Bool, true, false, cond, List, [], ◌∷◌, length, map, Option, Some, None, refl, ap, ap₂, subst, ◌∙◌, arith}
use Rattle.std.specs.Prelude.{AllPairs, bytes_eq, codes, decimal, IfSome, IsSomeAnd}
use Rattle.std.specs.List.{AllByRecursion}
use Rattle.std.specs.Option.{option_zip, option_and_then}
use Rattle.std.proofs.lemmas.Bool.{ltb-false, lt-ltb, le-ltb}
use Rattle.wq_items.specs.Table.{item_named}
use Rattle.wq_groups.proofs.Among.{same_name, bytes_eq-same}
use Rattle.wq_core.specs.declared.step.Step.{Step}
use Rattle.wq_core.specs.declared.step.Step.TheVariants.{Queue, Cancel, Start, Wait, Over, WaitAll, OverAll, Finish, Help}
use Rattle.wq_core.specs.Runs.{IsHelp}
use Rattle.wq_cert.specs.Forms.{number_of, items_of, count_form, wq_form, arc_form, item_step, lane_step, step_form}
use Rattle.wq_cert.specs.PlanText.{name_of, workqueue_line}
use Rattle.wq_cert.specs.RunText.{step_item, step_line}
use Rattle.wq_cert.specs.LineRows.{SpellsCount, SpellsArc, SpellsStep, step_lane}
use Rattle.wq_cert.specs.Reading.{names_far_lane}
use Rattle.wq_cert.proofs.SpelledNumbers.{guarded, one_of, AreBoth-zip, zip-AreBoth, Spells-number_of, number_of-Spells, Names-item_named, item_named-name_of, AreNames-items_of, items_of-names_of}

-- ---- counts

pub SpellsCount-count_form : (keyword : List ℕ) (words : List (List ℕ)) (n : ℕ) → count_form keyword words ≡ Some n → SpellsCount keyword words n
SpellsCount-count_form keyword [] n e = absurd cc
SpellsCount-count_form keyword (word ∷ []) n e = absurd cc
SpellsCount-count_form keyword (word ∷ number ∷ []) n e =
    let found = guarded (bytes_eq word keyword) (number_of number) n e in
    let spelled = Spells-number_of number n found.1 in
    record { words_are = ap₂ (λ (w m : List ℕ). w ∷ m ∷ []) (same_name word keyword found.0) spelled.digits; fits = spelled.fits }
SpellsCount-count_form keyword (word ∷ number ∷ more ∷ words) n e = absurd cc

pub count_form-SpellsCount : (keyword : List ℕ) (words : List (List ℕ)) (n : ℕ) → SpellsCount keyword words n → count_form keyword words ≡ Some n
count_form-SpellsCount keyword words n line =
    ap (count_form keyword) line.words_are ∙ ap (λ (b : Bool). cond b (number_of (decimal n)) None) (bytes_eq-same keyword keyword refl)
    ∙ number_of-Spells (decimal n) n (record { fits = line.fits; digits = refl })

-- ---- workqueues

-- `wq Q NAME..`
pub record IsWorkqueueLine (names words : List (List ℕ)) (workqueue : ℕ × List ℕ) : Type 0 where
  pub words_are : words ≡ workqueue_line names workqueue
  pub fits : workqueue.0 < 2 ^ 32
  pub known : AllByRecursion (λ i. i < length names) workqueue.1

pub IsWorkqueueLine-wq_form : (names words : List (List ℕ)) (workqueue : ℕ × List ℕ) → wq_form names words ≡ Some workqueue → IsWorkqueueLine names words workqueue
IsWorkqueueLine-wq_form names [] workqueue e = absurd cc
IsWorkqueueLine-wq_form names (word ∷ []) workqueue e = absurd cc
IsWorkqueueLine-wq_form names (word ∷ number ∷ items) workqueue e =
    let found = guarded (bytes_eq word (codes "wq")) (option_zip (number_of number) (items_of names items)) workqueue e in
    let both = AreBoth-zip (number_of number) (items_of names items) workqueue found.1 in
    let spelled = Spells-number_of number workqueue.0 both.left in
    let named = AreNames-items_of names items workqueue.1 both.right in
    record {
      words_are = ap₂ (λ (w m : List ℕ). w ∷ m ∷ items) (same_name word (codes "wq") found.0) spelled.digits ∙ ap (λ (ws : List (List ℕ)). codes "wq" ∷ decimal workqueue.0 ∷ ws) named.words_are;
      fits = spelled.fits;
      known = named.known;
    }

pub wq_form-IsWorkqueueLine : (names words : List (List ℕ)) → AllPairs (λ (a b : List ℕ). a ≢ b) names → (workqueue : ℕ × List ℕ) → IsWorkqueueLine names words workqueue → wq_form names words ≡ Some workqueue
wq_form-IsWorkqueueLine names words differ workqueue line =
    ap (wq_form names) line.words_are ∙ zip-AreBoth (number_of (decimal workqueue.0)) (items_of names (map (name_of names) workqueue.1)) workqueue (record {
      left = number_of-Spells (decimal workqueue.0) workqueue.0 (record { fits = line.fits; digits = refl });
      right = items_of-names_of names differ workqueue.1 line.known;
    })

-- ---- arcs

pub SpellsArc-arc_form : (names words : List (List ℕ)) (arc : ℕ × ℕ) → arc_form names words ≡ Some arc → SpellsArc names words arc
SpellsArc-arc_form names [] arc e = absurd cc
SpellsArc-arc_form names (word ∷ []) arc e = absurd cc
SpellsArc-arc_form names (word ∷ item ∷ []) arc e = absurd cc
SpellsArc-arc_form names (word ∷ item ∷ target ∷ []) arc e =
    let found = guarded (bytes_eq word (codes "arc")) (option_zip (item_named names item) (item_named names target)) arc e in
    let both = AreBoth-zip (item_named names item) (item_named names target) arc found.1 in
    let one = Names-item_named names item arc.0 both.left in
    let other = Names-item_named names target arc.1 both.right in
    record {
      words_are = ap (λ (w : List ℕ). w ∷ item ∷ target ∷ []) (same_name word (codes "arc") found.0) ∙ ap₂ (λ (a b : List ℕ). codes "arc" ∷ a ∷ b ∷ []) one.name other.name;
      known = (one.known, other.known);
    }
SpellsArc-arc_form names (word ∷ item ∷ target ∷ more ∷ words) arc e = absurd cc

pub arc_form-SpellsArc : (names words : List (List ℕ)) → AllPairs (λ (a b : List ℕ). a ≢ b) names → (arc : ℕ × ℕ) → SpellsArc names words arc → arc_form names words ≡ Some arc
arc_form-SpellsArc names words differ arc line =
    ap (arc_form names) line.words_are ∙ zip-AreBoth (item_named names (name_of names arc.0)) (item_named names (name_of names arc.1)) arc (record {
      left = item_named-name_of names differ arc.0 line.known.0;
      right = item_named-name_of names differ arc.1 line.known.1;
    })

-- ---- steps

-- the workqueue of a step, if it names one, is a number
abbrev pub IsNumbered : Step → Type 0
IsNumbered step = IfSome (step_lane step) (λ q. q < 2 ^ 32)

SpellsStep-at : (names words others : List (List ℕ)) (step other : Step) → words ≡ others → other ≡ step → others ≡ step_line names other → step_item other < length names → (¬ IsHelp other) → IsNumbered other
    → SpellsStep names words step
SpellsStep-at names words others step other same is line known own fits =
    subst (SpellsStep names words) is (record { words_are = same ∙ line; known = known; no_help = own; fits = fits })

module _ (names : List (List ℕ)) (i : ℕ) (known : i < length names) where
  item_line : (word : List ℕ) (step : Step) → item_step word i ≡ Some step → SpellsStep names (word ∷ name_of names i ∷ []) step
  item_line word step e =
      let words : List ℕ → List (List ℕ) = λ w. w ∷ name_of names i ∷ [] in
      let rest : Option Step = cond (bytes_eq word (codes "cancel")) (Some (Cancel i)) None in
      elim (one_of (bytes_eq word (codes "queue")) (Queue i) step rest e) [
        | inl (here, is) ↦ SpellsStep-at names (words word) (words (codes "queue")) step (Queue i) (ap words (same_name word (codes "queue") here)) is refl known (λ h. h) tt
        | inr later ↦ elim (one_of (bytes_eq word (codes "cancel")) (Cancel i) step None later) [
          | inl (here, is) ↦ SpellsStep-at names (words word) (words (codes "cancel")) step (Cancel i) (ap words (same_name word (codes "cancel") here)) is refl known (λ h. h) tt
          | inr none ↦ absurd (cc)
        ]
      ]

  lane_line : (word : List ℕ) (q : ℕ) (step : Step) → q < 2 ^ 32 → lane_step word q i ≡ Some step → SpellsStep names (word ∷ decimal q ∷ name_of names i ∷ []) step
  lane_line word q step fits e =
      let words : List ℕ → List (List ℕ) = λ w. w ∷ decimal q ∷ name_of names i ∷ [] in
      let finish : Option Step = cond (bytes_eq word (codes "finish")) (Some (Finish q i)) None in
      let overwq : Option Step = cond (bytes_eq word (codes "overwq")) (Some (OverAll q i)) finish in
      let waitwq : Option Step = cond (bytes_eq word (codes "waitwq")) (Some (WaitAll q i)) overwq in
      let over : Option Step = cond (bytes_eq word (codes "over")) (Some (Over q i)) waitwq in
      let wait : Option Step = cond (bytes_eq word (codes "wait")) (Some (Wait q i)) over in
      elim (one_of (bytes_eq word (codes "start")) (Start q i) step wait e) [
        | inl (here, is) ↦ SpellsStep-at names (words word) (words (codes "start")) step (Start q i) (ap words (same_name word (codes "start") here)) is refl known (λ h. h) fits
        | inr a ↦ elim (one_of (bytes_eq word (codes "wait")) (Wait q i) step over a) [
          | inl (here, is) ↦ SpellsStep-at names (words word) (words (codes "wait")) step (Wait q i) (ap words (same_name word (codes "wait") here)) is refl known (λ h. h) fits
          | inr b ↦ elim (one_of (bytes_eq word (codes "over")) (Over q i) step waitwq b) [
            | inl (here, is) ↦ SpellsStep-at names (words word) (words (codes "over")) step (Over q i) (ap words (same_name word (codes "over") here)) is refl known (λ h. h) fits
            | inr d ↦ elim (one_of (bytes_eq word (codes "waitwq")) (WaitAll q i) step overwq d) [
              | inl (here, is) ↦ SpellsStep-at names (words word) (words (codes "waitwq")) step (WaitAll q i) (ap words (same_name word (codes "waitwq") here)) is refl known (λ h. h) fits
              | inr f ↦ elim (one_of (bytes_eq word (codes "overwq")) (OverAll q i) step finish f) [
                | inl (here, is) ↦ SpellsStep-at names (words word) (words (codes "overwq")) step (OverAll q i) (ap words (same_name word (codes "overwq") here)) is refl known (λ h. h) fits
                | inr g ↦ elim (one_of (bytes_eq word (codes "finish")) (Finish q i) step None g) [
                  | inl (here, is) ↦ SpellsStep-at names (words word) (words (codes "finish")) step (Finish q i) (ap words (same_name word (codes "finish") here)) is refl known (λ h. h) fits
                  | inr none ↦ absurd (cc)
                ]
              ]
            ]
          ]
        ]
      ]

-- what follows an option that is there
chained : {X Y : Type 0} (f : X → Option Y) (o : Option X) (y : Y) → option_and_then f o ≡ Some y → (x : X) × (o ≡ Some x) × (f x ≡ Some y)
chained f None y e = absurd cc
chained f (Some x) y e = (x, refl, e)

SpellsStep-words : (names words others : List (List ℕ)) (step : Step) → words ≡ others → SpellsStep names others step → SpellsStep names words step
SpellsStep-words names words others step same line = record { words_are = same ∙ line.words_are; known = line.known; no_help = line.no_help; fits = line.fits }

pub SpellsStep-step_form : (names words : List (List ℕ)) (step : Step) → step_form names words ≡ Some step → SpellsStep names words step
SpellsStep-step_form names [] step e = absurd cc
SpellsStep-step_form names (word ∷ []) step e = absurd cc
SpellsStep-step_form names (word ∷ item ∷ []) step e =
    let found = chained (item_step word) (item_named names item) step e in
    let named = Names-item_named names item found.0 found.1 in
    SpellsStep-words names (word ∷ item ∷ []) (word ∷ name_of names found.0 ∷ []) step (ap (λ (w : List ℕ). word ∷ w ∷ []) named.name)
    (item_line names found.0 named.known word step found.2)
SpellsStep-step_form names (word ∷ lane ∷ item ∷ []) step e =
    let found = chained {X = ℕ × ℕ} (λ p. lane_step word p.0 p.1) (option_zip (number_of lane) (item_named names item)) step e in
    let both = AreBoth-zip (number_of lane) (item_named names item) found.0 found.1 in
    let spelled = Spells-number_of lane found.0.0 both.left in
    let named = Names-item_named names item found.0.1 both.right in
    SpellsStep-words names (word ∷ lane ∷ item ∷ []) (word ∷ decimal found.0.0 ∷ name_of names found.0.1 ∷ []) step (ap₂ (λ (n w : List ℕ). word ∷ n ∷ w ∷ []) spelled.digits named.name)
    (lane_line names found.0.1 named.known word found.0.0 step spelled.fits found.2)
SpellsStep-step_form names (word ∷ lane ∷ item ∷ more ∷ words) step e = absurd cc

module _ (names : List (List ℕ)) (differ : AllPairs (λ (a b : List ℕ). a ≢ b) names) where
  item_said : (word : List ℕ) (i : ℕ) → i < length names → step_form names (word ∷ name_of names i ∷ []) ≡ item_step word i
  item_said word i known = ap (option_and_then (item_step word)) (item_named-name_of names differ i known)

  lane_said : (word : List ℕ) (q i : ℕ) → i < length names → q < 2 ^ 32 → step_form names (word ∷ decimal q ∷ name_of names i ∷ []) ≡ lane_step word q i
  lane_said word q i known fits =
      let step : ℕ × ℕ → Option Step = λ p. lane_step word p.0 p.1 in
      ap (λ (o : Option (ℕ × ℕ)). option_and_then step o) (zip-AreBoth (number_of (decimal q)) (item_named names (name_of names i)) (q, i) (record {
        left = number_of-Spells (decimal q) q (record { fits = fits; digits = refl });
        right = item_named-name_of names differ i known;
      }))

  pub step_form-line : (step : Step) → step_item step < length names → (¬ IsHelp step) → IsNumbered step → step_form names (step_line names step) ≡ Some step
  step_form-line (Queue i) known own fits = item_said (codes "queue") i known
  step_form-line (Cancel i) known own fits = item_said (codes "cancel") i known
  step_form-line (Start q i) known own fits = lane_said (codes "start") q i known fits
  step_form-line (Wait q b) known own fits = lane_said (codes "wait") q b known fits
  step_form-line (Over q b) known own fits = lane_said (codes "over") q b known fits
  step_form-line (WaitAll q b) known own fits = lane_said (codes "waitwq") q b known fits
  step_form-line (OverAll q b) known own fits = lane_said (codes "overwq") q b known fits
  step_form-line (Finish q i) known own fits = lane_said (codes "finish") q i known fits
  step_form-line (Help q h deed) known own fits = absurd (own tt)

-- a workqueue that isn't above 4,095 is a number
pub IsNumbered-near : (step : Step) → names_far_lane step ≡ false → IsNumbered step
IsNumbered-near (Queue i) near = tt
IsNumbered-near (Cancel i) near = tt
IsNumbered-near (Start q i) near = omega (arith, ltb-false 4095 q near)
IsNumbered-near (Wait q b) near = omega (arith, ltb-false 4095 q near)
IsNumbered-near (Over q b) near = omega (arith, ltb-false 4095 q near)
IsNumbered-near (WaitAll q b) near = omega (arith, ltb-false 4095 q near)
IsNumbered-near (OverAll q b) near = omega (arith, ltb-false 4095 q near)
IsNumbered-near (Finish q i) near = omega (arith, ltb-false 4095 q near)
IsNumbered-near (Help q h deed) near = omega (arith, ltb-false 4095 q near)

-- a step that names no workqueue above 4,095
pub names_far_lane-near : (step : Step) → (IsSomeAnd (step_lane step) (λ q. 4095 < q) → ⊥) → names_far_lane step ≡ false
names_far_lane-near (Queue i) near = refl
names_far_lane-near (Cancel i) near = refl
names_far_lane-near (Start q i) near = le-ltb 4095 q (omega (arith, near))
names_far_lane-near (Wait q b) near = le-ltb 4095 q (omega (arith, near))
names_far_lane-near (Over q b) near = le-ltb 4095 q (omega (arith, near))
names_far_lane-near (WaitAll q b) near = le-ltb 4095 q (omega (arith, near))
names_far_lane-near (OverAll q b) near = le-ltb 4095 q (omega (arith, near))
names_far_lane-near (Finish q i) near = le-ltb 4095 q (omega (arith, near))
names_far_lane-near (Help q h deed) near = le-ltb 4095 q (omega (arith, near))

pub names_far_lane-far : (step : Step) → IsSomeAnd (step_lane step) (λ q. 4095 < q) → names_far_lane step ≡ true
names_far_lane-far (Queue i) far = absurd far
names_far_lane-far (Cancel i) far = absurd far
names_far_lane-far (Start q i) far = lt-ltb 4095 q far
names_far_lane-far (Wait q b) far = lt-ltb 4095 q far
names_far_lane-far (Over q b) far = lt-ltb 4095 q far
names_far_lane-far (WaitAll q b) far = lt-ltb 4095 q far
names_far_lane-far (OverAll q b) far = lt-ltb 4095 q far
names_far_lane-far (Finish q i) far = lt-ltb 4095 q far
names_far_lane-far (Help q h deed) far = lt-ltb 4095 q far
