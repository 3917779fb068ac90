use Rattle.std.proofs.Common.{
  ◌≡◌,
  ◌<◌,
  ◌+◌,
  ◌-◌,
  ℕ,
  Option,
  Some,
  None,
  List,
  [],
  ◌∷◌,
  ◌++◌,
  length,
  set,
  refl,
  ap,
  sym,
  subst,
  is_some,
  ◌∙◌,
  arith,
  false,
}
use Rattle.std.specs.Prelude.{slice_index}
use Rattle.std.specs.Int.Bits.{bit_and}
use Rattle.std.proofs.lemmas.List.{length-map, length_push, get_or_default}
use Rattle.wq_items.specs.declared.hashing.Name.{Name}
use Rattle.wq_items.specs.Hashing.{hash_of, AreFound, AreLinked, keys_of, names_of}
use Rattle.wq_items.specs.Table.{item_named}
use Rattle.wq_items.proofs.ByKeyLemmas.{AreFound-moved, AreFound-more}
use Rattle.wq_items.proofs.names.Names.add.Goals as goal

pub look_up-place-requires : goal.look_up-place-requires
look_up-place-requires g c =
    let s = c.self.inside in
    subst (λ (l : List Name). AreFound s.hasher l s.places.lasts.items s.places.befores.items)
    (sym c.as_slice-names.ensures.value) c.self.invariant

pub make_room-requires : goal.make_room-requires
make_room-requires g c =
    let s = c.self.inside in
    let found = subst (λ (l : List Name). AreFound s.hasher l s.places.lasts.items s.places.befores.items)
    (sym c.as_slice-names.ensures.value) c.self.invariant in
    record {
      few = omega (
        arith,
        c.requires,
        ap (λ (l : List (List ℕ)). length l) c.self.view_is,
        length-map s.names.items (λ (n : Name). n.bytes.now),
        ap (λ (l : List Name). length l)
            c.as_slice-names.ensures.value,
      );
      keyed = found.keyed;
      linked = found.linked;
    }

-- an option without a value
is_none : (o : Option ℕ) → is_some o ≡ false → o ≡ None
is_none None e = refl
is_none (Some n) e = absurd cc

pub invariant_of-self-2 : goal.invariant_of-self-2
invariant_of-self-2 g c =
    let s = c.self.inside in
    let names = s.names.items in
    let name = c.look_up-place.result.0 in
    let slice : c.as_slice-names.result.now ≡ names = c.as_slice-names.ensures.value in
    let lasts = c.make_room.new.self.lasts.items in
    let befores = c.make_room.new.self.befores.items in
    let key = c.key_of-key.result in
    let some : 0 < length lasts = c.in_ok-make_room.ensures.keyed in
    let linked : AreLinked (keys_of (length lasts - 1) names) (length names) lasts befores =
    subst (λ (l : List Name). AreLinked (keys_of (length lasts - 1) l) (length l) lasts befores) slice
    c.in_ok-make_room.ensures.linked in
    let are : AreFound s.hasher names lasts befores = AreFound-moved s.hasher names s.places.lasts.items
    s.places.befores.items lasts befores some linked c.self.invariant in
    let own : name.hash ≡ hash_of s.hasher name.bytes.now = c.look_up-place.ensures.hash
    ∙ ap (hash_of s.hasher) (sym c.look_up-place.ensures.bytes) in
    let none : item_named (names_of names) name.bytes.now ≡ None =
    ap (item_named (names_of names)) c.look_up-place.ensures.bytes
    ∙ ap (λ (l : List Name). item_named (names_of l) c.args.name.now) (sym slice)
    ∙ sym c.look_up-place.ensures.place ∙ is_none c.look_up-place.result.1
    (sym c.is_some.ensures ∙ c.if-is_some.false) in
    let count : c.len.result ≡ length lasts = c.len.ensures ∙ c.make_room.new.self.lasts.ok.0 in
    let its_key : key ≡ bit_and name.hash (length lasts - 1) = c.key_of-key.ensures.key
    ∙ ap (λ (m : ℕ). bit_and name.hash (m - 1)) count in
    let inside : key < length lasts = omega (arith, c.key_of-key.ensures.below, count, some) in
    let room : length names < 4096 = omega (
      arith,
      c.requires,
      ap (λ (l : List (List ℕ)). length l) c.self.view_is,
      length-map names (λ (n : Name). n.bytes.now),
    ) in
    let now_names : c.push.new.self.items ≡ names ++ (name ∷ []) = c.in_ok-push.ensures.items in
    let end : c.len-2.result ≡ length names + 1 = c.len-2.ensures ∙ c.push.new.self.ok.0
    ∙ ap (λ (l : List Name). length l) now_names ∙ length_push names name in
    let before : c.index-before.result.now ≡ slice_index lasts key = c.index-before.ensures
    ∙ get_or_default lasts key c.index-before.result.now 0 inside in
    let now_befores : c.push_reserved.new.self.items ≡ befores ++ (slice_index lasts key ∷ []) =
    c.push_reserved.ensures.items
    ∙ ap (λ (x : ℕ). befores ++ (x ∷ [])) before in
    subst (λ (l : List Name). AreFound s.hasher l (set lasts key c.len-2.result) c.push_reserved.new.self.items)
    (sym now_names)
    (subst (λ (n : ℕ). AreFound s.hasher (names ++ (name ∷ [])) (set lasts key n) c.push_reserved.new.self.items)
    (sym end)
    (subst (λ (l : List ℕ). AreFound s.hasher (names ++ (name ∷ [])) (set lasts key (length names + 1)) l)
    (sym now_befores)
    (AreFound-more s.hasher names lasts befores name key room own none its_key inside are)))
