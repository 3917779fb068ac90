-- What holds for bytes that hold rows.
use Rattle.std.proofs.Common.{◌≡◌, ℕ, suc, ◌+◌, ◌*◌, ◌<◌, ◌≤◌, List, [], ◌∷◌, ◌++◌, length, take, drop, refl, sym, ◌∙◌, ap, subst, arith, length-append, Option, Some, None, take-append-drop}
use Rattle.std.specs.Prelude.{IfSome, IfNone, is_some, true, false}
use Rattle.std.specs.Iterator.{YieldsFirst}
use Rattle.std.specs.List.{IsSplitAt}
use Rattle.std.proofs.lemmas.List.Elements.{All-push, All-nil, All-cons}
use Rattle.std.proofs.lemmas.List.{take_at, drop_at}
use Rattle.wq_rows.specs.declared.event.Row.{Row}
use Rattle.wq_rows.specs.Packing.{packed, packed_rows, IsPackable, IsRowInRange, IsPackedRow}
use Rattle.wq_rows.specs.Stored.{rows_of, IsStored, IsRoomy, IsHistory}
use Rattle.wq_rows.proofs.PackingLemmas.{rows_of-packed, rows_of-packed_rows, length-packed_rows, packed_rows-push}

-- bytes that hold rows are read as these rows
pub IsStored-read : (bytes : List ℕ) (rows : List Row) → IsStored bytes rows → rows_of bytes ≡ rows
IsStored-read bytes rows stored = ap rows_of (sym stored.holds) ∙ rows_of-packed_rows rows stored.in_range

-- there are 12 bytes for each row
pub IsStored-length : (bytes : List ℕ) (rows : List Row) → IsStored bytes rows → length bytes ≡ 12 * length rows
IsStored-length bytes rows stored = ap length (sym stored.holds) ∙ length-packed_rows rows

-- one more row
pub IsStored-push : (bytes : List ℕ) (rows : List Row) (row : Row) → IsStored bytes rows → IsPackable row → IsRowInRange row → IsStored (bytes ++ packed row) (rows ++ (row ∷ []))
IsStored-push bytes rows row stored packable in_range = record {
  packable = All-push IsPackable rows row stored.packable packable;
  in_range = All-push IsRowInRange rows row stored.in_range in_range;
  holds = packed_rows-push rows row ∙ ap (λ (l : List ℕ). l ++ packed row) stored.holds;
}

-- one more row is read as one more row
pub rows_of-push : (bytes : List ℕ) (row : Row) → IsStored bytes (rows_of bytes) → IsPackable row → IsRowInRange row → rows_of (bytes ++ packed row) ≡ rows_of bytes ++ (row ∷ [])
rows_of-push bytes row stored packable in_range =
    IsStored-read (bytes ++ packed row) (rows_of bytes ++ (row ∷ [])) (IsStored-push bytes (rows_of bytes) row stored packable in_range)

-- if there is room, there is memory for a row
pub IsRoomy-memory : (bytes : List ℕ) (capacity room : ℕ) → IsRoomy bytes capacity room → length (rows_of bytes) < room → length bytes + 12 ≤ capacity
IsRoomy-memory bytes capacity room roomy below =
    let len : length bytes ≡ 12 * length (rows_of bytes) = IsStored-length bytes (rows_of bytes) roomy.stored in
    let memory = roomy.memory in
    omega arith

-- one more row, if there is room
pub IsRoomy-push : (bytes : List ℕ) (capacity more room : ℕ) (row : Row) → IsRoomy bytes capacity room → length (rows_of bytes) < room → capacity ≤ more → IsPackable row → IsRowInRange row
    → IsRoomy (bytes ++ packed row) more room
IsRoomy-push bytes capacity more room row roomy below grows packable in_range =
    let len : length bytes ≡ 12 * length (rows_of bytes) = IsStored-length bytes (rows_of bytes) roomy.stored in
    let memory = roomy.memory in
    record {
      stored =
          subst (λ (rows : List Row). IsStored (bytes ++ packed row) rows) (sym (rows_of-push bytes row roomy.stored packable in_range))
          (IsStored-push bytes (rows_of bytes) row roomy.stored packable in_range);
      within = omega (arith, length-append bytes (packed row));
      memory = omega arith;
      few = roomy.few;
    }

-- the history that is held in this way
pub IsRoomy-history : (bytes : List ℕ) (capacity room : ℕ) → IsRoomy bytes capacity room → IsHistory (record { rows = rows_of bytes; room = room })
IsRoomy-history bytes capacity room roomy =
    let len : length bytes ≡ 12 * length (rows_of bytes) = IsStored-length bytes (rows_of bytes) roomy.stored in
    let within = roomy.within in
    record {
      packable = roomy.stored.packable;
      in_range = roomy.stored.in_range;
      within = omega arith;
      few = roomy.few;
    }

-- some rows after one
pub IsStored-cons : (front after : List ℕ) (row : Row) (rows : List Row) → IsPackedRow front row → IsStored after rows → IsStored (front ++ after) (row ∷ rows)
IsStored-cons front after row rows first stored = record {
  packable = All-cons IsPackable row rows first.packable stored.packable;
  in_range = All-cons IsRowInRange row rows first.in_range stored.in_range;
  holds = ap (λ (l : List ℕ). l ++ packed_rows rows) first.holds ∙ ap (λ (l : List ℕ). front ++ l) stored.holds;
}

-- the first 12 bytes hold a row, and those after them hold the others
pub record StoredFirst (front after : List ℕ) (rows : List Row) : Type 0 where
  pub row : Row
  pub others : List Row
  pub are : rows ≡ row ∷ others
  pub first : IsPackedRow front row
  pub stored : IsStored after others

-- if the first bytes are 12, they hold a row
pub IsStored-first : (front after : List ℕ) (rows : List Row) → length front ≡ 12 → IsStored (front ++ after) rows → StoredFirst front after rows
IsStored-first front after [] long stored = absurd (omega (arith, length-append front after, IsStored-length (front ++ after) [] stored))
IsStored-first front after (row ∷ rows) long stored = record {
  row = row;
  others = rows;
  are = refl;
  first = record {
    packable = stored.packable 0 row (omega arith);
    in_range = stored.in_range 0 row (omega arith);
    holds = ap (λ (l : List ℕ). take 12 l) stored.holds ∙ take_at front after 12 long;
  };
  stored = record {
    packable = λ k d below. stored.packable (suc k) d (omega arith);
    in_range = λ k d below. stored.in_range (suc k) d (omega arith);
    holds = ap (λ (l : List ℕ). drop 12 l) stored.holds ∙ drop_at front after 12 long;
  };
}

-- the first of some rows, or d
first_or : Row → List Row → Row
first_or d [] = d
first_or d (row ∷ rows) = row

-- the same bytes hold at most one row
pub IsPackedRow-unique : (bytes : List ℕ) (a b : Row) → IsPackedRow bytes a → IsPackedRow bytes b → a ≡ b
unfolding first_or
IsPackedRow-unique bytes a b of_a of_b =
    ap (first_or a) (sym (rows_of-packed a [] of_a.in_range) ∙ ap (λ (l : List ℕ). rows_of (l ++ [])) (of_a.holds ∙ sym of_b.holds) ∙ rows_of-packed b [] of_b.in_range)

-- the same bytes hold at most one list of rows
pub IsStored-unique : (bytes : List ℕ) (a b : List Row) → IsStored bytes a → IsStored bytes b → a ≡ b
IsStored-unique bytes a b of_a of_b = sym (IsStored-read bytes a of_a) ∙ IsStored-read bytes b of_b

-- if some bytes are left, all bytes hold rows exactly if these do
pub record LeadsOn (bytes left : List ℕ) : Type 0 where
  pub on : IsStored left (rows_of left) → IsStored bytes (rows_of bytes)
  pub back : (rows : List Row) → IsStored bytes rows → (others : List Row) × IsStored left others

-- if the bytes hold some rows, they hold those that are read
pub IsStored-rows_of : (bytes : List ℕ) (rows : List Row) → IsStored bytes rows → IsStored bytes (rows_of bytes)
IsStored-rows_of bytes rows stored = subst (IsStored bytes) (sym (IsStored-read bytes rows stored)) stored

-- what is split in two consists of its two parts
pub IsSplitAt-parts : (bytes front after : List ℕ) → IsSplitAt bytes 12 front after → bytes ≡ front ++ after
IsSplitAt-parts bytes front after split =
    sym (take-append-drop 12 bytes) ∙ ap (λ (l : List ℕ). l ++ drop 12 bytes) (sym split.1) ∙ ap (λ (l : List ℕ). front ++ l) (sym split.2)

-- if bytes are split after the first 12, these hold a row
IsStored-split : (bytes front after : List ℕ) (rows : List Row) → IsSplitAt bytes 12 front after → IsStored bytes rows → StoredFirst front after rows
IsStored-split bytes front after rows split stored =
    IsStored-first front after rows split.3 (subst (λ (l : List ℕ). IsStored l rows) (IsSplitAt-parts bytes front after split) stored)

-- one more row is read
pub LeadsOn-next : (bytes left front after : List ℕ) (row : Row) → IsSplitAt left 12 front after → IsPackedRow front row → LeadsOn bytes left → LeadsOn bytes after
LeadsOn-next bytes left front after row split first leads = record {
  on = λ stored.
      leads.on
      (subst (λ (l : List ℕ). IsStored l (rows_of l)) (sym (IsSplitAt-parts left front after split))
      (IsStored-rows_of (front ++ after) (row ∷ rows_of after) (IsStored-cons front after row (rows_of after) first stored)));
  back = λ rows stored. let rest = leads.back rows stored in let at_front = IsStored-split left front after rest.0 split rest.1 in (at_front.others, at_front.stored);
}

-- if the next 12 bytes don't hold a row, the bytes don't hold rows
pub LeadsOn-no_row : (bytes left front after : List ℕ) → IsSplitAt left 12 front after → ((row : Row) → ¬ IsPackedRow front row) → LeadsOn bytes left → (rows : List Row) → ¬ IsStored bytes rows
LeadsOn-no_row bytes left front after split none leads rows stored =
    let rest = leads.back rows stored in
    let at_front = IsStored-split left front after rest.0 split rest.1 in
    none at_front.row at_front.first

-- a list of length 0 is empty
pub empty_list : (l : List ℕ) → length l ≡ 0 → l ≡ []
empty_list [] none = refl
empty_list (x ∷ l) none = absurd (omega arith)

-- if nothing is left, the bytes hold rows
pub LeadsOn-done : (bytes left : List ℕ) → length left ≡ 0 → LeadsOn bytes left → IsStored bytes (rows_of bytes)
LeadsOn-done bytes left none leads =
    leads.on
    (subst (λ (l : List ℕ). IsStored l (rows_of l)) (sym (empty_list left none)) (record { packable = All-nil IsPackable; in_range = All-nil IsRowInRange; holds = refl }))

-- if fewer than 12 bytes are left and the bytes hold rows, nothing is left
pub LeadsOn-short : (bytes left : List ℕ) → length left < 12 → LeadsOn bytes left → (rows : List Row) → IsStored bytes rows → length left ≡ 0
LeadsOn-short bytes left short leads rows stored =
    let rest = leads.back rows stored in
    let len : length left ≡ 12 * length rest.0 = IsStored-length left rest.0 rest.1 in
    omega arith

-- the first of the rows is the one that is unpacked
pub first_row : (bytes front after : List ℕ) (result : Option Row) → IsSplitAt bytes 12 front after → IsStored bytes (rows_of bytes) → IfSome result (λ row. IsPackedRow front row)
    → IfNone result ((row : Row) → ¬ IsPackedRow front row) → YieldsFirst (λ (rows : List Row). rows) (rows_of bytes) result (rows_of after)
first_row bytes front after None split stored some none =
    let at_front = IsStored-split bytes front after (rows_of bytes) split stored in
    absurd (none at_front.row at_front.first)
first_row bytes front after (Some row) split stored some none =
    let at_front = IsStored-split bytes front after (rows_of bytes) split stored in
    at_front.are
    ∙ ap (λ (r : Row). r ∷ at_front.others) (IsPackedRow-unique front at_front.row row at_front.first some)
    ∙ ap (λ (rows : List Row). row ∷ rows) (sym (IsStored-read after at_front.others at_front.stored))

-- the bytes after the first row hold rows
pub IsStored-after : (bytes front after : List ℕ) → IsSplitAt bytes 12 front after → IsStored bytes (rows_of bytes) → IsStored after (rows_of after)
IsStored-after bytes front after split stored =
    let at_front = IsStored-split bytes front after (rows_of bytes) split stored in
    IsStored-rows_of after at_front.others at_front.stored

-- what is said for no row holds if there is none
pub said_of_none : (result : Option Row) (P : Type 0) → is_some result ≡ false → IfNone result P → P
said_of_none None P is said = said
said_of_none (Some row) P is said = absurd (cc is)

-- a row about which something is said, if there is one
pub said_of_some : (result : Option Row) (P : Row → Type 0) → is_some result ≡ true → IfSome result P → (row : Row) × P row
said_of_some None P is said = absurd (cc is)
said_of_some (Some row) P is said = (row, said)
