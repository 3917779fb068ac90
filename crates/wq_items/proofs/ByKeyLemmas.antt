-- Names that bring their hashes, and how they are found by them.
use Rattle.std.proofs.Common.{
  ◌≡◌,
  ◌≢◌,
  ℕ,
  ◌+◌,
  ◌-◌,
  ◌<◌,
  ◌≤◌,
  ◌==◌,
  inl,
  inr,
  Bool,
  true,
  false,
  List,
  [],
  ◌∷◌,
  ◌++◌,
  length,
  get_or,
  set,
  replicate,
  Option,
  Some,
  None,
  refl,
  sym,
  ap,
  subst,
  ◌∙◌,
  arith,
  eq-eqb,
}
use Rattle.std.specs.Prelude.{◌&&◌, bytes_eq, slice_index, AllPairs}
use Rattle.std.specs.Int.Bits.{bit_and}
use Rattle.std.proofs.lemmas.Bool.{cases_eq, both_ways}
use Rattle.std.proofs.lemmas.List.{
  map-append,
  length-map,
  length-set,
  length-replicate,
  length_push,
  get_or-map,
  get_or-replicate,
  get_or-set_same,
  get_or-set_other,
  get_or_append_left,
  get_or_push,
  get_or_default,
}
use Rattle.std.proofs.lemmas.List.Elements.{All-nil, All-push}
use Rattle.std.proofs.lemmas.List.Quantifiers.{all_pairs_push}
use Rattle.std.proofs.lemmas.Slice.Eq.{bytes_eq-Decides}
use Rattle.wq_items.specs.declared.hashing.Name.{Name}
use Rattle.wq_items.specs.declared.hashing.Seeded.{Seeded}
use Rattle.wq_items.specs.Table.{item_named}
use Rattle.wq_items.specs.Hashing.{hash_of, names_of, keys_of, EndsAfterLast, AreLinked, AreFound}
use Rattle.wq_items.proofs.FlushLemmas.{item_named-is}
use Rattle.wq_items.proofs.TableLemmas.{item_named-below, differs-from-item_named}

-- ---- names with their hashes are the same where their bytes are

and-second : (a b : Bool) → (b ≡ true → a ≡ true) → (a && b) ≡ b
and-second true b h = refl
and-second false true h = h refl
and-second false false h = refl

pub same-hashed : (hasher : Seeded) (a b : Name) → a.hash ≡ hash_of hasher a.bytes.now → b.hash ≡ hash_of hasher b.bytes.now
    → ((a.hash == b.hash) && bytes_eq a.bytes.now b.bytes.now) ≡ bytes_eq a.bytes.now b.bytes.now
same-hashed hasher a b own-a own-b =
    and-second (a.hash == b.hash) (bytes_eq a.bytes.now b.bytes.now) (
    λ (e : bytes_eq a.bytes.now b.bytes.now ≡ true). eq-eqb a.hash b.hash (own-a ∙ ap (hash_of hasher) ((bytes_eq-Decides a.bytes.now b.bytes.now).0 e) ∙ sym own-b)
    )

-- ---- places by key

EndsAfterLast-now : (keys : List ℕ) (k n : ℕ) → slice_index keys n ≡ k → EndsAfterLast keys k (n + 1) (n + 1)
EndsAfterLast-now keys k n is = record {
  within = omega arith;
  last = λ p lt e. lt;
  of_key = λ p e. let same : p ≡ n = omega (arith, e) in ap (slice_index keys) same ∙ is;
}

EndsAfterLast-later : (keys : List ℕ) (k n end : ℕ) → slice_index keys n ≢ k → EndsAfterLast keys k n end → EndsAfterLast keys k (n + 1) end
EndsAfterLast-later keys k n end other h = record {
  within = omega (arith, h.within);
  last = λ p lt e.
      elim (cases_eq p n) [
        | inl same ↦ absurd (other (ap (slice_index keys) (sym same) ∙ e))
        | inr differ ↦ h.last p (omega (arith, lt, differ)) e
      ];
  of_key = h.of_key;
}

-- before any place is linked
pub AreLinked-none : (keys lasts befores : List ℕ) (count : ℕ) → lasts ≡ replicate count 0 → befores ≡ [] → AreLinked keys 0 lasts befores
AreLinked-none keys lasts befores count zeros empty = record {
  one_each = ap length empty;
  lasts_lead = λ k lt.
      let size : length lasts ≡ count = ap (λ (l : List ℕ). length l) zeros ∙ length-replicate {A = ℕ} count 0 in
      let none : slice_index lasts k ≡ 0 = ap (λ (l : List ℕ). slice_index l k) zeros ∙ get_or-replicate {A = ℕ} count k 0 0 (omega (arith, lt, size)) in
      record {
        within = omega (arith, none);
        last = λ p below e. absurd (omega (arith, below));
        of_key = λ p e. absurd (omega (arith, none, e));
      };
  befores_lead = λ p lt. absurd (omega (arith, lt));
}

-- one more place is linked
pub AreLinked-more : (keys lasts befores : List ℕ) (n key : ℕ) → key < length lasts → slice_index keys n ≡ key → AreLinked keys n lasts befores → AreLinked keys (n + 1) (set lasts key (n + 1)) (befores ++ (slice_index lasts key ∷ []))
AreLinked-more keys lasts befores n key inside is h = record {
  one_each = omega (arith, h.one_each, length_push befores (slice_index lasts key));
  lasts_lead = λ k lt.
      elim (cases_eq k key) [
        | inl same ↦
            subst (EndsAfterLast keys k (n + 1)) (sym (ap (slice_index (set lasts key (n + 1))) same ∙ get_or-set_same lasts key (n + 1) 0 inside)) (EndsAfterLast-now keys k n (is ∙ sym same))
        | inr differ ↦
            subst (EndsAfterLast keys k (n + 1)) (sym (get_or-set_other lasts key k (n + 1) 0 differ))
            (EndsAfterLast-later keys k n (slice_index lasts k) (λ (e : slice_index keys n ≡ k). differ (sym e ∙ is)) (h.lasts_lead k (omega (arith, lt, length-set lasts key (n + 1)))))
      ];
  befores_lead = λ p lt.
      elim (cases_eq p n) [
        | inl same ↦
            let x : ℕ = slice_index lasts key in
            let at_n : EndsAfterLast keys (slice_index keys n) n (slice_index (befores ++ (x ∷ [])) n) =
            subst (EndsAfterLast keys (slice_index keys n) n) (sym (get_or_push befores x 0 n h.one_each)) (subst (λ (k : ℕ). EndsAfterLast keys k n x) (sym is) (h.lasts_lead key inside)) in
            subst (λ (m : ℕ). EndsAfterLast keys (slice_index keys m) m (slice_index (befores ++ (x ∷ [])) m)) (sym same) at_n
        | inr differ ↦
            let below : p < n = omega (arith, lt, differ) in
            subst (EndsAfterLast keys (slice_index keys p) p) (sym (get_or_append_left befores (slice_index lasts key ∷ []) 0 p (omega (arith, below, h.one_each)))) (h.befores_lead p below)
      ];
}

-- ---- a name is looked up

-- where a look-up of a name with key k has come to: each place of the name is before `end`, and the place before `end` has the key
pub record Leads (names : List (List ℕ)) (keys : List ℕ) (name : List ℕ) (k end : ℕ) : Type 0 where
  pub within : end ≤ length names
  pub last : (p : ℕ) → p < length names → get_or names p [] ≡ name → p < end
  pub of_key : (p : ℕ) → end ≡ p + 1 → slice_index keys p ≡ k

-- where it has come to an end, no item has the name
pub Leads-none : (names : List (List ℕ)) (keys : List ℕ) (name : List ℕ) (k : ℕ) → Leads names keys name k 0 → item_named names name ≡ None
Leads-none names keys name k h = by (item_named names name) refl
  where
    by : (o : Option ℕ) → item_named names name ≡ o → o ≡ None
    by None e = refl
    by (Some j) e = absurd (omega (arith, h.last j (item_named-below names name j e) (item_named-is names name j e)))

module _ (hasher : Seeded) (names : List Name) (lasts befores : List ℕ) (are : AreFound hasher names lasts befores) (name : Name) (own : name.hash ≡ hash_of hasher name.bytes.now) where
  abbrev most : ℕ
  most = length lasts - 1

  abbrev key : ℕ
  key = bit_and name.hash most

  length-names : length (names_of names) ≡ length names
  length-names = length-map names (λ (n : Name). n.bytes.now)

  bytes-at : (p : ℕ) → p < length names → get_or (names_of names) p [] ≡ (get_or names p name).bytes.now
  bytes-at p lt = get_or-map (λ (n : Name). n.bytes.now) names p name [] lt

  -- each place of the name has its key
  key-at : (p : ℕ) → p < length names → get_or (names_of names) p [] ≡ name.bytes.now → slice_index (keys_of most names) p ≡ key
  key-at p lt same =
      get_or-map (λ (n : Name). bit_and n.hash most) names p name 0 lt
      ∙ ap (λ (h : ℕ). bit_and h most) (are.hashed p name lt ∙ ap (hash_of hasher) (sym (bytes-at p lt) ∙ same) ∙ sym own)

  pub Leads-all : key < length lasts → Leads (names_of names) (keys_of most names) name.bytes.now key (slice_index lasts key)
  Leads-all lt =
      let h = are.linked.lasts_lead key lt in
      record {
        within = omega (arith, h.within, length-names);
        last = λ p below same. let inside : p < length names = omega (arith, below, length-names) in h.last p inside (key-at p inside same);
        of_key = h.of_key;
      }

  pub Leads-next : (end place : ℕ) → end ≡ place + 1 → get_or (names_of names) place [] ≢ name.bytes.now → Leads (names_of names) (keys_of most names) name.bytes.now key end
      → Leads (names_of names) (keys_of most names) name.bytes.now key (slice_index befores place)
  Leads-next end place on other so_far =
      let inside : place < length names = omega (arith, on, so_far.within, length-names) in
      let h = are.linked.befores_lead place inside in
      let own_key : slice_index (keys_of most names) place ≡ key = so_far.of_key place on in
      record {
        within = omega (arith, h.within, inside, length-names);
        last = λ p below same.
            let differ : p ≢ place = λ (e : p ≡ place). other (ap (λ (q : ℕ). get_or (names_of names) q []) (sym e) ∙ same) in
            h.last p (omega (arith, on, differ, so_far.last p below same)) (key-at p (omega (arith, below, length-names)) same ∙ sym own_key);
        of_key = λ p e. h.of_key p e ∙ own_key;
      }

  -- the name at a place is that of the element there, and one test is the other
  name-at : (p : ℕ) (x : Name) → p < length names → x ≡ get_or names p x → get_or (names_of names) p [] ≡ x.bytes.now
  name-at p x lt is = get_or-map (λ (n : Name). n.bytes.now) names p x [] lt ∙ ap (λ (n : Name). n.bytes.now) (sym is)

  tested : (p : ℕ) (x : Name) → p < length names → x ≡ get_or names p x
      → ((x.hash == name.hash) && bytes_eq x.bytes.now name.bytes.now) ≡ bytes_eq x.bytes.now name.bytes.now
  tested p x lt is = same-hashed hasher x name (subst (λ (n : Name). n.hash ≡ hash_of hasher n.bytes.now) (sym is) (are.hashed p x lt)) own

  -- the test at a place tells whether the name is there
  pub name-there : (p : ℕ) (d : Name) (r : Bool) → p < length names
      → r ≡ (((get_or names p d).hash == name.hash) && bytes_eq (get_or names p d).bytes.now name.bytes.now) → r ≡ true
      → get_or (names_of names) p [] ≡ name.bytes.now
  name-there p d r lt test passed =
      let x = get_or names p d in
      let is : x ≡ get_or names p x = get_or_default names p d x lt in
      name-at p x lt is ∙ (bytes_eq-Decides x.bytes.now name.bytes.now).0 (sym (tested p x lt is) ∙ sym test ∙ passed)

  pub name-elsewhere : (p : ℕ) (d : Name) (r : Bool) → p < length names
      → r ≡ (((get_or names p d).hash == name.hash) && bytes_eq (get_or names p d).bytes.now name.bytes.now) → r ≡ false
      → get_or (names_of names) p [] ≢ name.bytes.now
  name-elsewhere p d r lt test failed same =
      let x = get_or names p d in
      let is : x ≡ get_or names p x = get_or_default names p d x lt in
      both_ways (bytes_eq x.bytes.now name.bytes.now) (sym (tested p x lt is) ∙ sym test ∙ failed)
      ((bytes_eq-Decides x.bytes.now name.bytes.now).1 (sym (name-at p x lt is) ∙ same))

  pub place-within : (end place : ℕ) → end ≡ place + 1 → Leads (names_of names) (keys_of most names) name.bytes.now key end → place < length names
  place-within end place on so_far = omega (arith, on, so_far.within, length-names)

-- ---- names and their places

pub AreFound-none : (hasher : Seeded) (names : List Name) (lasts befores : List ℕ) → names ≡ [] → lasts ≡ [] → befores ≡ [] → AreFound hasher names lasts befores
AreFound-none hasher names lasts befores no_names no_lasts no_befores =
    subst (λ (l : List Name). AreFound hasher l lasts befores) (sym no_names)
    record {
      few = omega arith;
      hashed = All-nil (λ (n : Name). n.hash ≡ hash_of hasher n.bytes.now);
      distinct = λ i j d lt within. absurd (omega (arith, within));
      keyed = λ some. absurd (omega (arith, some));
      linked = AreLinked-none [] lasts befores 0 no_lasts no_befores;
    }

-- other places of the same names
pub AreFound-moved : (hasher : Seeded) (names : List Name) (lasts befores new_lasts new_befores : List ℕ)
    → 0 < length new_lasts
    → AreLinked (keys_of (length new_lasts - 1) names) (length names) new_lasts new_befores
    → AreFound hasher names lasts befores → AreFound hasher names new_lasts new_befores
AreFound-moved hasher names lasts befores new_lasts new_befores some linked are = record {
  few = are.few;
  hashed = are.hashed;
  distinct = are.distinct;
  keyed = λ _. some;
  linked = linked;
}

EndsAfterLast-append : (keys more : List ℕ) (k bound end : ℕ) → bound ≤ length keys → EndsAfterLast keys k bound end
    → EndsAfterLast (keys ++ more) k bound end
EndsAfterLast-append keys more k bound end le h = record {
  within = h.within;
  last = λ p lt e. h.last p lt (sym (get_or_append_left keys more 0 p (omega (arith, lt, le))) ∙ e);
  of_key = λ p e. get_or_append_left keys more 0 p (omega (arith, h.within, e, le)) ∙ h.of_key p e;
}

-- places that are linked stay linked if there are more keys
AreLinked-append : (keys more lasts befores : List ℕ) (n : ℕ) → n ≤ length keys → AreLinked keys n lasts befores
    → AreLinked (keys ++ more) n lasts befores
AreLinked-append keys more lasts befores n le h = record {
  one_each = h.one_each;
  lasts_lead = λ k lt. EndsAfterLast-append keys more k n (slice_index lasts k) le (h.lasts_lead k lt);
  befores_lead = λ p lt.
      subst (λ (k : ℕ). EndsAfterLast (keys ++ more) k p (slice_index befores p))
      (sym (get_or_append_left keys more 0 p (omega (arith, lt, le))))
      (EndsAfterLast-append keys more (slice_index keys p) p (slice_index befores p) (omega (arith, lt, le))
      (h.befores_lead p lt));
}

-- one more name, which isn't there yet
pub AreFound-more : (hasher : Seeded) (names : List Name) (lasts befores : List ℕ) (name : Name) (key : ℕ)
    → length names < 4096 → name.hash ≡ hash_of hasher name.bytes.now
    → item_named (names_of names) name.bytes.now ≡ None → key ≡ bit_and name.hash (length lasts - 1)
    → key < length lasts → AreFound hasher names lasts befores
    → AreFound hasher (names ++ (name ∷ [])) (set lasts key (length names + 1))
    (befores ++ (slice_index lasts key ∷ []))
AreFound-more hasher names lasts befores name key room own none key_is inside are =
    let n = length names in
    let most = length lasts - 1 in
    let its_key = bit_and name.hash most in
    let keys = keys_of most names in
    let new_keys = keys ++ (its_key ∷ []) in
    let new_lasts = set lasts key (n + 1) in
    let new_befores = befores ++ (slice_index lasts key ∷ []) in
    let long : length keys ≡ n = length-map names (λ (m : Name). bit_and m.hash most) in
    let at : slice_index new_keys n ≡ key = get_or_push keys its_key 0 n long ∙ sym key_is in
    let linked : AreLinked new_keys (n + 1) new_lasts new_befores =
    AreLinked-more new_keys lasts befores n key inside at (AreLinked-append keys (its_key ∷ []) lasts befores n
    (omega (arith, long)) are.linked) in
    let are_keys : keys_of (length new_lasts - 1) (names ++ (name ∷ [])) ≡ new_keys =
    ap (λ (m : ℕ). keys_of (m - 1) (names ++ (name ∷ []))) (length-set lasts key (n + 1))
    ∙ map-append (λ (m : Name). bit_and m.hash most) names (name ∷ []) in
    record {
      few = omega (arith, room, length_push names name);
      hashed = All-push (λ (m : Name). m.hash ≡ hash_of hasher m.bytes.now) names name are.hashed own;
      distinct =
          subst (AllPairs (λ (a b : List ℕ). a ≢ b)) (sym (map-append (λ (m : Name). m.bytes.now) names (name ∷ [])))
          (all_pairs_push (λ (a b : List ℕ). a ≢ b) (names_of names) name.bytes.now are.distinct
          (λ k d lt. differs-from-item_named (names_of names) name.bytes.now none k d lt));
      keyed = λ _. omega (arith, inside, length-set lasts key (n + 1));
      linked =
          subst (λ (ks : List ℕ). AreLinked ks (length (names ++ (name ∷ []))) new_lasts new_befores) (sym are_keys)
          (subst (λ (m : ℕ). AreLinked new_keys m new_lasts new_befores) (sym (length_push names name)) linked);
    }
