-- Tallies: counts that are raised row by row are those of the rows.
use Rattle.std.proofs.Common.{◌≡◌, ◌≢◌, ℕ, suc, ◌+◌, ◌*◌, ◌<◌, ◌≤◌, ◌⊎◌, inl, inr, Bool, true, false, cond, List, [], ◌∷◌, ◌++◌, length, get_or, replicate, append_assoc, refl, sym, ap, subst, ◌∙◌, arith}
use Rattle.std.specs.Prelude.{◌==◌, sum, Option, Some, None, option_map, is_some, ◌&&◌}
use Rattle.std.specs.List.{count_by}
use Rattle.std.proofs.Math.Path.{fun_ext}
use Rattle.std.proofs.lemmas.Bool.{cases_eq, eq-eqb, ne_eqb, eqb-true, and_parts, and_from, false≢true}
use Rattle.std.proofs.lemmas.List.{get_or-replicate, length-replicate, append-nil}
use Rattle.std.proofs.lemmas.List.Sums.{sum_by_push, sum_by-append, count_by-le-length}
use Rattle.std.proofs.lemmas.List.Folds.{sum_by-replicate}
use Rattle.wq_core.specs.Rules.{deed_item}
use Rattle.wq_rows.specs.declared.event.Event.{Event}
use Rattle.wq_rows.specs.declared.event.Event.TheVariants.{Queue, Cancel, Start, Wait, Over, Finish, Ask, Told, WaitAll, OverAll, AskLane, ToldLane, Help}
use Rattle.wq_rows.specs.declared.event.Row.{Row}
use Rattle.wq_rows.specs.Packing.{item_in, lane_in}
use Rattle.wq_counts.specs.declared.kind.Kind.{Kind}
use Rattle.wq_counts.specs.declared.kind.Kind.TheVariants.{Queue as QueueKind, Cancel as CancelKind, Wait as WaitKind, Over as OverKind, Ask as AskKind, Told as ToldKind, Finish as FinishKind, WaitAll as WaitAllKind, OverAll as OverAllKind}
use Rattle.wq_counts.specs.declared.kind.LaneKind.{LaneKind}
use Rattle.wq_counts.specs.declared.kind.LaneKind.TheVariants.{Ask as AskLaneKind, Told as ToldLaneKind}
use Rattle.wq_counts.specs.Counting.{counts_each, help_kind_in, kind_in, lane_kind_in, kind_place, lane_kind_place, answer_place, place, lane_place, counted_place, slot_in, HasCountsOf, made, made_lane, raised_at, raised_where, has_kind, has_lane_kind, is_of, is_of_lane, is_counted, is_at, raises, tally, tally_lane, counted_rows, AreRowsOf, AreTallies, noted_as, noted}
use Rattle.wq_counts.proofs.Places.{same_counts, cases_place, kind_place-same, lane_kind_place-same, answer_place-same, place-same, lane_place-same, place-ne-lane_place, place-ge, place-below, lane_place-below, place-lt, lane_place-lt, length-raised_at, sum-raised_at, raised_at-same, raised_at-other}

-- ---- rows that are counted

-- the place of a row, or none
pub cases_counted : (place : Option ℕ) → (place ≡ None) ⊎ ((p : ℕ) × (place ≡ Some p))
cases_counted None = inl refl
cases_counted (Some p) = inr (p, refl)

Some-same : {X : Type 0} {x y : X} → Some x ≡ Some y → x ≡ y
Some-same e = cc

-- the place of an item and a kind, if there is one
abbrev place_of_kind : ℕ → Bool → Option Kind → Option ℕ
place_of_kind i said o = option_map (λ kind. place i kind said) o

kind-some : (i : ℕ) (said : Bool) (o : Option Kind) (p : ℕ) → place_of_kind i said o ≡ Some p → is_some o ≡ true
kind-some i said None p is = absurd cc
kind-some i said (Some kind) p is = refl

kind-none : (i : ℕ) (said : Bool) (o : Option Kind) → place_of_kind i said o ≡ None → is_some o ≡ false
kind-none i said None is = refl
kind-none i said (Some kind) is = absurd cc

kind-is : (o : Option Kind) → is_some o ≡ true → (kind : Kind) × (o ≡ Some kind)
kind-is None some = absurd (false≢true some)
kind-is (Some kind) some = (kind, refl)

-- a row is counted exactly if it has a place
pub is_counted-some : (event : Event) (said : Bool) (p : ℕ) → counted_place event said ≡ Some p → is_counted event ≡ true
is_counted-some (Queue i) said p is = refl
is_counted-some (Cancel i) said p is = refl
is_counted-some (Start q i) said p is = absurd cc
is_counted-some (Wait q b) said p is = refl
is_counted-some (Over q b) said p is = refl
is_counted-some (Finish q i) said p is = refl
is_counted-some (Ask i) said p is = refl
is_counted-some (Told i) said p is = refl
is_counted-some (WaitAll q b) said p is = refl
is_counted-some (OverAll q b) said p is = refl
is_counted-some (AskLane q) said p is = refl
is_counted-some (ToldLane q) said p is = refl
is_counted-some (Help q h step) said p is = kind-some (deed_item step) said (help_kind_in step) p is

pub is_counted-none : (event : Event) (said : Bool) → counted_place event said ≡ None → is_counted event ≡ false
is_counted-none (Queue i) said is = absurd cc
is_counted-none (Cancel i) said is = absurd cc
is_counted-none (Start q i) said is = refl
is_counted-none (Wait q b) said is = absurd cc
is_counted-none (Over q b) said is = absurd cc
is_counted-none (Finish q i) said is = absurd cc
is_counted-none (Ask i) said is = absurd cc
is_counted-none (Told i) said is = absurd cc
is_counted-none (WaitAll q b) said is = absurd cc
is_counted-none (OverAll q b) said is = absurd cc
is_counted-none (AskLane q) said is = absurd cc
is_counted-none (ToldLane q) said is = absurd cc
is_counted-none (Help q h step) said is = kind-none (deed_item step) said (help_kind_in step) is

-- that place is in its slot
at_item : (i : ℕ) (kind : Kind) (said : Bool) (p : ℕ) → place i kind said ≡ p → (counts_each * i ≤ p) × (p < counts_each * i + counts_each)
at_item i kind said p is = (omega (arith, is, place-ge i kind said), omega (arith, is, place-below i kind said))

at_lane : (q : ℕ) (kind : LaneKind) (said : Bool) (p : ℕ) → lane_place q kind said ≡ p → (counts_each * q ≤ p) × (p < counts_each * q + counts_each)
at_lane q kind said p is = (omega (arith, is), omega (arith, is, lane_place-below q kind said))

at_kind : (i : ℕ) (said : Bool) (o : Option Kind) (p : ℕ) → place_of_kind i said o ≡ Some p
    → (counts_each * i ≤ p) × (p < counts_each * i + counts_each)
at_kind i said None p is = absurd cc
at_kind i said (Some kind) p is = at_item i kind said p (Some-same is)

pub in_slot : (event : Event) (said : Bool) (p : ℕ) → counted_place event said ≡ Some p
    → (counts_each * slot_in event ≤ p) × (p < counts_each * slot_in event + counts_each)
in_slot (Queue i) said p is = at_item i QueueKind said p (Some-same is)
in_slot (Cancel i) said p is = at_item i CancelKind said p (Some-same is)
in_slot (Start q i) said p is = absurd cc
in_slot (Wait q b) said p is = at_item b WaitKind said p (Some-same is)
in_slot (Over q b) said p is = at_item b OverKind said p (Some-same is)
in_slot (Finish q i) said p is = at_item i FinishKind said p (Some-same is)
in_slot (Ask i) said p is = at_item i AskKind said p (Some-same is)
in_slot (Told i) said p is = at_item i ToldKind said p (Some-same is)
in_slot (WaitAll q b) said p is = at_item b WaitAllKind said p (Some-same is)
in_slot (OverAll q b) said p is = at_item b OverAllKind said p (Some-same is)
in_slot (AskLane q) said p is = at_lane q AskLaneKind said p (Some-same is)
in_slot (ToldLane q) said p is = at_lane q ToldLaneKind said p (Some-same is)
in_slot (Help q h step) said p is = at_kind (deed_item step) said (help_kind_in step) p is

-- it is within the counts of this many slots
pub place_within : (n : ℕ) (event : Event) (said : Bool) (p : ℕ) (counts : List ℕ) → HasCountsOf n counts → counted_place event said ≡ Some p
    → slot_in event < n → p < length counts
place_within n event said p counts has is within = omega (arith, (in_slot event said p is).1, has, within)

-- a row is counted exactly if it has a kind, of an item or of a lane
pub counted-kind : (event : Event) → is_counted event ≡ true
    → ((kind : Kind) × (kind_in event ≡ Some kind)) ⊎ ((kind : LaneKind) × (lane_kind_in event ≡ Some kind))
counted-kind (Queue i) counted = inl (QueueKind, refl)
counted-kind (Cancel i) counted = inl (CancelKind, refl)
counted-kind (Start q i) counted = absurd cc
counted-kind (Wait q b) counted = inl (WaitKind, refl)
counted-kind (Over q b) counted = inl (OverKind, refl)
counted-kind (Finish q i) counted = inl (FinishKind, refl)
counted-kind (Ask i) counted = inl (AskKind, refl)
counted-kind (Told i) counted = inl (ToldKind, refl)
counted-kind (WaitAll q b) counted = inl (WaitAllKind, refl)
counted-kind (OverAll q b) counted = inl (OverAllKind, refl)
counted-kind (AskLane q) counted = inr (AskLaneKind, refl)
counted-kind (ToldLane q) counted = inr (ToldLaneKind, refl)
counted-kind (Help q h step) counted = inl (kind-is (help_kind_in step) counted)

pub kind-counted : (event : Event) (kind : Kind) → kind_in event ≡ Some kind → is_counted event ≡ true
kind-counted (Queue i) kind is = refl
kind-counted (Cancel i) kind is = refl
kind-counted (Start q i) kind is = absurd cc
kind-counted (Wait q b) kind is = refl
kind-counted (Over q b) kind is = refl
kind-counted (Finish q i) kind is = refl
kind-counted (Ask i) kind is = refl
kind-counted (Told i) kind is = refl
kind-counted (WaitAll q b) kind is = refl
kind-counted (OverAll q b) kind is = refl
kind-counted (AskLane q) kind is = absurd cc
kind-counted (ToldLane q) kind is = absurd cc
kind-counted (Help q h step) kind is = ap is_some is

pub lane_kind-counted : (event : Event) (kind : LaneKind) → lane_kind_in event ≡ Some kind → is_counted event ≡ true
lane_kind-counted (Queue i) kind is = absurd cc
lane_kind-counted (Cancel i) kind is = absurd cc
lane_kind-counted (Start q i) kind is = absurd cc
lane_kind-counted (Wait q b) kind is = absurd cc
lane_kind-counted (Over q b) kind is = absurd cc
lane_kind-counted (Finish q i) kind is = absurd cc
lane_kind-counted (Ask i) kind is = absurd cc
lane_kind-counted (Told i) kind is = absurd cc
lane_kind-counted (WaitAll q b) kind is = absurd cc
lane_kind-counted (OverAll q b) kind is = absurd cc
lane_kind-counted (AskLane q) kind is = refl
lane_kind-counted (ToldLane q) kind is = refl
lane_kind-counted (Help q h step) kind is = absurd cc

-- ---- which item or lane and kind a row is of, and with which answer

-- two tests that answer yes alike answer alike
same_tests : (a b : Bool) → (a ≡ true → b ≡ true) → (b ≡ true → a ≡ true) → a ≡ b
same_tests true b there back = sym (there refl)
same_tests false true there back = back refl
same_tests false false there back = refl

-- a kind that a row has is its own
pub has_kind-own : (own : Option Kind) (kind : Kind) → has_kind own kind ≡ true → own ≡ Some kind
has_kind-own None kind has = absurd (false≢true has)
has_kind-own (Some one) kind has = ap Some (kind_place-same one kind (eqb-true (kind_place one) (kind_place kind) has))

-- and it is of no other
pub is_of-parts : (row : Row) (i : ℕ) (kind : Kind) (said : Bool) → is_of i kind said row ≡ true
    → (kind_in row.event ≡ Some kind) × (item_in row.event ≡ i) × (row.yes ≡ said)
is_of-parts row i kind said is =
    let parts = and_parts (has_kind (kind_in row.event) kind) ((item_in row.event == i) && (answer_place row.yes == answer_place said)) is in
    let rest = and_parts (item_in row.event == i) (answer_place row.yes == answer_place said) parts.1 in
    (has_kind-own (kind_in row.event) kind parts.0, eqb-true (item_in row.event) i rest.0, answer_place-same row.yes said (eqb-true (answer_place row.yes) (answer_place said) rest.1))

has_lane_kind-own : (own : Option LaneKind) (kind : LaneKind) → has_lane_kind own kind ≡ true → own ≡ Some kind
has_lane_kind-own None kind has = absurd (false≢true has)
has_lane_kind-own (Some one) kind has = ap Some (lane_kind_place-same one kind (eqb-true (lane_kind_place one) (lane_kind_place kind) has))

pub is_of_lane-parts : (row : Row) (q : ℕ) (kind : LaneKind) (said : Bool) → is_of_lane q kind said row ≡ true
    → (lane_kind_in row.event ≡ Some kind) × (lane_in row.event ≡ q) × (row.yes ≡ said)
is_of_lane-parts row q kind said is =
    let parts = and_parts (has_lane_kind (lane_kind_in row.event) kind) ((lane_in row.event == q) && (answer_place row.yes == answer_place said)) is in
    let rest = and_parts (lane_in row.event == q) (answer_place row.yes == answer_place said) parts.1 in
    (has_lane_kind-own (lane_kind_in row.event) kind parts.0, eqb-true (lane_in row.event) q rest.0, answer_place-same row.yes said (eqb-true (answer_place row.yes) (answer_place said) rest.1))

-- ---- a row is counted where its item or lane, its kind and its answer have their place

item_at : (own : Kind) (j : ℕ) (answered : Bool) (i : ℕ) (kind : Kind) (said : Bool)
    → (place j own answered == place i kind said) ≡ ((kind_place own == kind_place kind) && ((j == i) && (answer_place answered == answer_place said)))
item_at own j answered i kind said = same_tests (place j own answered == place i kind said) ((kind_place own == kind_place kind) && ((j == i) && (answer_place answered == answer_place said)))
    (λ at.
    let same = place-same j i own kind answered said (eqb-true (place j own answered) (place i kind said) at) in
    and_from (kind_place own == kind_place kind) ((j == i) && (answer_place answered == answer_place said))
    (eq-eqb (kind_place own) (kind_place kind) (ap kind_place same.1))
    (and_from (j == i) (answer_place answered == answer_place said) (eq-eqb j i same.0) (eq-eqb (answer_place answered) (answer_place said) (ap answer_place same.2))))
    (λ each.
    let parts = and_parts (kind_place own == kind_place kind) ((j == i) && (answer_place answered == answer_place said)) each in
    let rest = and_parts (j == i) (answer_place answered == answer_place said) parts.1 in
    eq-eqb (place j own answered) (place i kind said)
    (omega (arith, eqb-true (kind_place own) (kind_place kind) parts.0, eqb-true j i rest.0, eqb-true (answer_place answered) (answer_place said) rest.1)))

lane_at : (own : LaneKind) (p : ℕ) (answered : Bool) (q : ℕ) (kind : LaneKind) (said : Bool)
    → (lane_place p own answered == lane_place q kind said) ≡ ((lane_kind_place own == lane_kind_place kind) && ((p == q) && (answer_place answered == answer_place said)))
lane_at own p answered q kind said = same_tests (lane_place p own answered == lane_place q kind said) ((lane_kind_place own == lane_kind_place kind) && ((p == q) && (answer_place answered == answer_place said)))
    (λ at.
    let same = lane_place-same p q own kind answered said (eqb-true (lane_place p own answered) (lane_place q kind said) at) in
    and_from (lane_kind_place own == lane_kind_place kind) ((p == q) && (answer_place answered == answer_place said))
    (eq-eqb (lane_kind_place own) (lane_kind_place kind) (ap lane_kind_place same.1))
    (and_from (p == q) (answer_place answered == answer_place said) (eq-eqb p q same.0) (eq-eqb (answer_place answered) (answer_place said) (ap answer_place same.2))))
    (λ each.
    let parts = and_parts (lane_kind_place own == lane_kind_place kind) ((p == q) && (answer_place answered == answer_place said)) each in
    let rest = and_parts (p == q) (answer_place answered == answer_place said) parts.1 in
    eq-eqb (lane_place p own answered) (lane_place q kind said)
    (omega (arith, eqb-true (lane_kind_place own) (lane_kind_place kind) parts.0, eqb-true p q rest.0, eqb-true (answer_place answered) (answer_place said) rest.1)))

-- the place of a lane is none of an item
item_not_at : (i : ℕ) (kind : Kind) (said : Bool) (q : ℕ) (other : LaneKind) (answer : Bool)
    → (place i kind said == lane_place q other answer) ≡ false
item_not_at i kind said q other answer = ne_eqb (place i kind said) (lane_place q other answer) (place-ne-lane_place i q kind other said answer)

lane_not_at : (q : ℕ) (kind : LaneKind) (said : Bool) (i : ℕ) (other : Kind) (answer : Bool)
    → (lane_place q kind said == place i other answer) ≡ false
lane_not_at q kind said i other answer = ne_eqb (lane_place q kind said) (place i other answer) (λ e. place-ne-lane_place i q other kind answer said (sym e))

-- nor has it another one
kind_at_item : (o : Option Kind) (j : ℕ) (answered : Bool) (i : ℕ) (kind : Kind) (said : Bool)
    → is_at (place_of_kind j answered o) (place i kind said) ≡ (has_kind o kind && ((j == i) && (answer_place answered == answer_place said)))
kind_at_item None j answered i kind said = refl
kind_at_item (Some own) j answered i kind said = item_at own j answered i kind said

kind_at_lane : (o : Option Kind) (j : ℕ) (answered : Bool) (q : ℕ) (kind : LaneKind) (said : Bool)
    → is_at (place_of_kind j answered o) (lane_place q kind said) ≡ false
kind_at_lane None j answered q kind said = refl
kind_at_lane (Some own) j answered q kind said = item_not_at j own answered q kind said

pub raises-item : (event : Event) (answered : Bool) (i : ℕ) (kind : Kind) (said : Bool)
    → is_at (counted_place event answered) (place i kind said) ≡ (has_kind (kind_in event) kind && ((item_in event == i) && (answer_place answered == answer_place said)))
raises-item (Queue j) answered i kind said = item_at QueueKind j answered i kind said
raises-item (Cancel j) answered i kind said = item_at CancelKind j answered i kind said
raises-item (Start q j) answered i kind said = refl
raises-item (Wait q b) answered i kind said = item_at WaitKind b answered i kind said
raises-item (Over q b) answered i kind said = item_at OverKind b answered i kind said
raises-item (Finish q j) answered i kind said = item_at FinishKind j answered i kind said
raises-item (Ask j) answered i kind said = item_at AskKind j answered i kind said
raises-item (Told j) answered i kind said = item_at ToldKind j answered i kind said
raises-item (WaitAll q b) answered i kind said = item_at WaitAllKind b answered i kind said
raises-item (OverAll q b) answered i kind said = item_at OverAllKind b answered i kind said
raises-item (AskLane q) answered i kind said = lane_not_at q AskLaneKind answered i kind said
raises-item (ToldLane q) answered i kind said = lane_not_at q ToldLaneKind answered i kind said
raises-item (Help q h step) answered i kind said = kind_at_item (help_kind_in step) (deed_item step) answered i kind said

pub raises-lane : (event : Event) (answered : Bool) (q : ℕ) (kind : LaneKind) (said : Bool)
    → is_at (counted_place event answered) (lane_place q kind said) ≡ (has_lane_kind (lane_kind_in event) kind && ((lane_in event == q) && (answer_place answered == answer_place said)))
raises-lane (Queue i) answered q kind said = item_not_at i QueueKind answered q kind said
raises-lane (Cancel i) answered q kind said = item_not_at i CancelKind answered q kind said
raises-lane (Start p i) answered q kind said = refl
raises-lane (Wait p b) answered q kind said = item_not_at b WaitKind answered q kind said
raises-lane (Over p b) answered q kind said = item_not_at b OverKind answered q kind said
raises-lane (Finish p i) answered q kind said = item_not_at i FinishKind answered q kind said
raises-lane (Ask i) answered q kind said = item_not_at i AskKind answered q kind said
raises-lane (Told i) answered q kind said = item_not_at i ToldKind answered q kind said
raises-lane (WaitAll p b) answered q kind said = item_not_at b WaitAllKind answered q kind said
raises-lane (OverAll p b) answered q kind said = item_not_at b OverAllKind answered q kind said
raises-lane (AskLane p) answered q kind said = lane_at AskLaneKind p answered q kind said
raises-lane (ToldLane p) answered q kind said = lane_at ToldLaneKind p answered q kind said
raises-lane (Help p h step) answered q kind said = kind_at_lane (help_kind_in step) (deed_item step) answered q kind said

-- as many rows are counted at the place of an item as are of this item, and at that of a lane as are of this lane
pub tally-item : (rows : List Row) (i : ℕ) (kind : Kind) (said : Bool) → count_by (raises (place i kind said)) rows ≡ tally rows i kind said
tally-item rows i kind said =
    let same : raises (place i kind said) ≡ is_of i kind said = fun_ext (λ row. raises-item row.event row.yes i kind said) in
    ap (λ (f : Row → Bool). count_by f rows) same

pub tally-lane : (rows : List Row) (q : ℕ) (kind : LaneKind) (said : Bool) → count_by (raises (lane_place q kind said)) rows ≡ tally_lane rows q kind said
tally-lane rows q kind said =
    let same : raises (lane_place q kind said) ≡ is_of_lane q kind said = fun_ext (λ row. raises-lane row.event row.yes q kind said) in
    ap (λ (f : Row → Bool). count_by f rows) same

-- so tallies by place are those of each item and those of each lane
pub made-tally : (n : ℕ) (rows : List Row) (counts : List ℕ) → AreTallies n rows counts
    → (i : ℕ) (kind : Kind) (said : Bool) → i < n → made counts i kind said ≡ tally rows i kind said
made-tally n rows counts tallies i kind said within = tallies (place i kind said) (place-lt i n kind said within) ∙ tally-item rows i kind said

pub made_lane-tally : (n : ℕ) (rows : List Row) (counts : List ℕ) → AreTallies n rows counts
    → (q : ℕ) (kind : LaneKind) (said : Bool) → q < n → made_lane counts q kind said ≡ tally_lane rows q kind said
made_lane-tally n rows counts tallies q kind said within = tallies (lane_place q kind said) (lane_place-lt q n kind said within) ∙ tally-lane rows q kind said

pub AreTallies-each : (n : ℕ) (rows : List Row) (counts : List ℕ)
    → ((i : ℕ) (kind : Kind) (said : Bool) → i < n → made counts i kind said ≡ tally rows i kind said)
    → ((q : ℕ) (kind : LaneKind) (said : Bool) → q < n → made_lane counts q kind said ≡ tally_lane rows q kind said)
    → AreTallies n rows counts
AreTallies-each n rows counts items lanes p h = elim (cases_place n p h) [
  | inl at ↦ ap (λ (k : ℕ). get_or counts k 0) (sym at.is) ∙ (items at.item at.kind at.said at.within ∙ (sym (tally-item rows at.item at.kind at.said) ∙ ap (λ (k : ℕ). count_by (raises k) rows) at.is))
  | inr at ↦ ap (λ (k : ℕ). get_or counts k 0) (sym at.is) ∙ (lanes at.lane at.kind at.said at.within ∙ (sym (tally-lane rows at.lane at.kind at.said) ∙ ap (λ (k : ℕ). count_by (raises k) rows) at.is))
]

-- ---- one more row

tally-more : (rows : List Row) (row : Row) (p : ℕ)
    → count_by (raises p) (rows ++ (row ∷ [])) ≡ count_by (raises p) rows + cond (raises p row) 1 0
tally-more rows row p = sum_by_push (λ (r : Row). cond (raises p r) 1 0) rows row

pub counted_rows-more : (rows : List Row) (row : Row)
    → counted_rows (rows ++ (row ∷ [])) ≡ counted_rows rows + cond (is_counted row.event) 1 0
counted_rows-more rows row = sum_by_push (λ (r : Row). cond (is_counted r.event) 1 0) rows row

-- no more rows are counted than there are rows
pub counted_rows-le-length : (rows : List Row) → counted_rows rows ≤ length rows
counted_rows-le-length rows = count_by-le-length (λ (row : Row). is_counted row.event) rows

-- no rows, for this many slots
pub AreTallies-none : (n : ℕ) → AreTallies n [] (replicate (counts_each * n) 0)
AreTallies-none n = λ p within. get_or-replicate (counts_each * n) p 0 0 within

pub HasCountsOf-none : (n : ℕ) → HasCountsOf n (replicate (counts_each * n) 0)
HasCountsOf-none n = length-replicate (counts_each * n) 0

-- what is inside the counts of this many slots
pub item_within : (n i : ℕ) (counts : List ℕ) → HasCountsOf n counts → i < n → counts_each * i + counts_each ≤ length counts
item_within n i counts has within = omega (arith, has, within)

-- a row that is counted at a place raises the count there
AreTallies-raised : (n : ℕ) (rows : List Row) (row : Row) (counts : List ℕ) (own : ℕ) → counted_place row.event row.yes ≡ Some own
    → own < length counts → AreTallies n rows counts → AreTallies n (rows ++ (row ∷ [])) (raised_at counts own)
AreTallies-raised n rows row counts own is within tallies p inside = by_place (cases_eq own p) where
  by_place : (own ≡ p) ⊎ (own ≢ p) → get_or (raised_at counts own) p 0 ≡ count_by (raises p) (rows ++ (row ∷ []))
  by_place (inl at) =
      let hit : raises p row ≡ true = ap (λ o. is_at o p) is ∙ eq-eqb own p at in
      let more = tally-more rows row p ∙ ap (λ b. count_by (raises p) rows + cond b 1 0) hit in
      let there : get_or (raised_at counts own) p 0 ≡ get_or counts own 0 + 1 = ap (λ (k : ℕ). get_or (raised_at counts own) k 0) (sym at) ∙ raised_at-same counts own within in
      let here : get_or counts own 0 ≡ get_or counts p 0 = ap (λ (k : ℕ). get_or counts k 0) at in
      omega (arith, more, there, here, tallies p inside)
  by_place (inr ne) =
      let miss : raises p row ≡ false = ap (λ o. is_at o p) is ∙ ne_eqb own p ne in
      let more = tally-more rows row p ∙ ap (λ b. count_by (raises p) rows + cond b 1 0) miss in
      let there = raised_at-other counts own p (λ e. ne (sym e)) in
      omega (arith, more, there, tallies p inside)

-- a row that isn't counted raises no count
AreTallies-not_counted : (n : ℕ) (rows : List Row) (row : Row) (counts : List ℕ) → counted_place row.event row.yes ≡ None
    → AreTallies n rows counts → AreTallies n (rows ++ (row ∷ [])) counts
AreTallies-not_counted n rows row counts none tallies p inside =
    let miss : raises p row ≡ false = ap (λ o. is_at o p) none in
    let more = tally-more rows row p ∙ ap (λ b. count_by (raises p) rows + cond b 1 0) miss in
    omega (arith, more, tallies p inside)

-- what another row of an event does, by whether it is counted
noted_as-some : (counts : List ℕ) (event : Event) (said : Bool) (p : ℕ) → counted_place event said ≡ Some p
    → noted_as counts event said ≡ raised_at counts p
noted_as-some counts event said p is = ap (λ o. raised_where counts o) is

noted_as-none : (counts : List ℕ) (event : Event) (said : Bool) → counted_place event said ≡ None → noted_as counts event said ≡ counts
noted_as-none counts event said none = ap (λ o. raised_where counts o) none

pub AreTallies-more : (n : ℕ) (rows : List Row) (row : Row) (counts : List ℕ) → HasCountsOf n counts
    → (is_counted row.event ≡ true → slot_in row.event < n) → AreTallies n rows counts
    → AreTallies n (rows ++ (row ∷ [])) (noted counts row)
AreTallies-more n rows row counts has within tallies = by_place (cases_counted (counted_place row.event row.yes)) where
  by_place : (counted_place row.event row.yes ≡ None) ⊎ ((p : ℕ) × (counted_place row.event row.yes ≡ Some p))
      → AreTallies n (rows ++ (row ∷ [])) (noted counts row)
  by_place (inl none) =
      let P : List ℕ → Type 0 = λ c. AreTallies n (rows ++ (row ∷ [])) c in
      subst P (sym (noted_as-none counts row.event row.yes none)) (AreTallies-not_counted n rows row counts none tallies)
  by_place (inr (p, is)) =
      let P : List ℕ → Type 0 = λ c. AreTallies n (rows ++ (row ∷ [])) c in
      let inside = place_within n row.event row.yes p counts has is (within (is_counted-some row.event row.yes p is)) in
      subst P (sym (noted_as-some counts row.event row.yes p is)) (AreTallies-raised n rows row counts p is inside tallies)

pub length-noted_as : (counts : List ℕ) (event : Event) (said : Bool) → length (noted_as counts event said) ≡ length counts
length-noted_as counts event said = by_place (cases_counted (counted_place event said)) where
  by_place : (counted_place event said ≡ None) ⊎ ((p : ℕ) × (counted_place event said ≡ Some p))
      → length (noted_as counts event said) ≡ length counts
  by_place (inl none) = ap length (noted_as-none counts event said none)
  by_place (inr (p, is)) = ap length (noted_as-some counts event said p is) ∙ length-raised_at counts p

pub HasCountsOf-noted_as : (n : ℕ) (counts : List ℕ) (event : Event) (said : Bool) → HasCountsOf n counts → HasCountsOf n (noted_as counts event said)
HasCountsOf-noted_as n counts event said has = length-noted_as counts event said ∙ has

pub sum-noted_as : (counts : List ℕ) (event : Event) (said : Bool)
    → (is_counted event ≡ true → counts_each * slot_in event + counts_each ≤ length counts)
    → sum (noted_as counts event said) ≡ sum counts + cond (is_counted event) 1 0
sum-noted_as counts event said within = by_place (cases_counted (counted_place event said)) where
  by_place : (counted_place event said ≡ None) ⊎ ((p : ℕ) × (counted_place event said ≡ Some p))
      → sum (noted_as counts event said) ≡ sum counts + cond (is_counted event) 1 0
  by_place (inl none) =
      let miss = ap (λ b. sum counts + cond b 1 0) (is_counted-none event said none) in
      let same = ap sum (noted_as-none counts event said none) in
      omega (arith, miss, same)
  by_place (inr (p, is)) =
      let counted = is_counted-some event said p is in
      let hit = ap (λ b. sum counts + cond b 1 0) counted in
      let same = ap sum (noted_as-some counts event said p is) in
      let inside : p < length counts = omega (arith, (in_slot event said p is).1, within counted) in
      omega (arith, hit, same, sum-raised_at counts p inside)

-- ---- what tallies say about all rows

-- two lists of counts that are those of the same rows are the same
pub AreTallies-only : (n : ℕ) (rows : List Row) (a b : List ℕ) → HasCountsOf n a → HasCountsOf n b
    → AreTallies n rows a → AreTallies n rows b → a ≡ b
AreTallies-only n rows a b ha hb ta tb = same_counts n a b ha hb (λ p within. ta p within ∙ sym (tb p within))

-- counts of these rows that add up to the number of those that are counted
pub record HasTallies (n : ℕ) (rows : List Row) : Type 0 where
  pub counts : List ℕ
  pub has : HasCountsOf n counts
  pub tallies : AreTallies n rows counts
  pub in_all : sum counts ≡ counted_rows rows

pub HasTallies-none : (n : ℕ) → HasTallies n []
HasTallies-none n = record {
  counts = replicate (counts_each * n) 0;
  has = HasCountsOf-none n;
  tallies = AreTallies-none n;
  in_all = sum_by-replicate (λ (x : ℕ). x) (counts_each * n) 0 ∙ (let zeros : counts_each * n * 0 ≡ 0 = omega arith in zeros);
}

pub HasTallies-more : (n : ℕ) (rows : List Row) (row : Row) → (is_counted row.event ≡ true → slot_in row.event < n)
    → HasTallies n rows → HasTallies n (rows ++ (row ∷ []))
HasTallies-more n rows row within old = record {
  counts = noted old.counts row;
  has = HasCountsOf-noted_as n old.counts row.event row.yes old.has;
  tallies = AreTallies-more n rows row old.counts old.has within old.tallies;
  in_all =
      let summed = sum-noted_as old.counts row.event row.yes (λ counted. item_within n (slot_in row.event) old.counts old.has (within counted)) in
      omega (arith, summed, old.in_all, counted_rows-more rows row);
}

pub HasTallies-append : (n : ℕ) (rows more : List Row) → AreRowsOf n more → HasTallies n rows
    → HasTallies n (rows ++ more)
HasTallies-append n rows [] of old =
    let P : List Row → Type 0 = λ rs. HasTallies n rs in
    subst P (sym (append-nil rows)) old
HasTallies-append n rows (row ∷ more) of old =
    let P : List Row → Type 0 = λ rs. HasTallies n rs in
    subst P (append_assoc rows (row ∷ []) more) (HasTallies-append n (rows ++ (row ∷ [])) more (λ k d within. of (suc k) d (omega (arith, within)))
    (HasTallies-more n rows row (of 0 row (omega arith)) old))

-- the sum of the tallies is the number of the counted rows
pub sum-tallies : (n : ℕ) (rows : List Row) (counts : List ℕ) → HasCountsOf n counts → AreRowsOf n rows
    → AreTallies n rows counts → sum counts ≡ counted_rows rows
sum-tallies n rows counts has of tallies =
    let made_up = HasTallies-append n [] rows of (HasTallies-none n) in
    ap sum (AreTallies-only n rows counts made_up.counts has made_up.has tallies made_up.tallies) ∙ made_up.in_all

-- ---- rows of two runs

pub AreTallies-append : (n : ℕ) (rows more : List Row) (a b c : List ℕ) → AreTallies n rows a → AreTallies n more b
    → ((p : ℕ) → get_or c p 0 ≡ get_or a p 0 + get_or b p 0) → AreTallies n (rows ++ more) c
AreTallies-append n rows more a b c ta tb each = λ p within.
    let both = sum_by-append (λ (r : Row). cond (raises p r) 1 0) rows more in
    omega (arith, each p, ta p within, tb p within, both)
