use Rattle.std.proofs.Common.{◌≡◌, ◌-◌, ◌+◌, ◌<◌, ◌++◌, ◌∷◌, [], ℕ, List, length, set, sym, ap, subst, ◌∙◌, arith}
use Rattle.std.specs.Prelude.{slice_index}
use Rattle.std.specs.Int.Bits.{bit_and}
use Rattle.std.proofs.lemmas.List.{get_or-map, get_or_default, length-set, length-replicate}
use Rattle.wq_items.specs.declared.hashing.Name.{Name}
use Rattle.wq_items.specs.Hashing.{AreLinked, keys_of}
use Rattle.wq_items.proofs.ByKeyLemmas.{AreLinked-none, AreLinked-more}
use Rattle.wq_items.proofs.names.Places.with_room.Goals as goal

pub loop-place-init : goal.loop-place-init
loop-place-init g c =
    let count = c.keys_for-count.result in
    let zeros = c.in_ok-lasts.ensures.items_if_clones_equal (λ y e. e) in
    record {
      linked = AreLinked-none (keys_of (count - 1) c.args.names.now) c.in_ok-lasts.lasts.items
          c.in_ok-befores.befores.items count zeros c.in_ok-befores.ensures.items;
      keyed = ap (λ (l : List ℕ). length l) zeros ∙ length-replicate {A = ℕ} count 0;
      room = c.in_ok-befores.ensures.capacity;
    }

pub loop-place-preserved : goal.loop-place-preserved
loop-place-preserved g c =
    let most = c.keys_for-count.result - 1 in
    let names = c.args.names.now in
    let keys = keys_of most names in
    let lasts = c.loop-place.lasts.items in
    let befores = c.loop-place.befores.items in
    let i = c.loop-place.place in
    let key = c.key_of-key.result in
    let inside : key < length lasts = omega (
      arith,
      c.key_of-key.ensures.below,
      c.keys_for-count.ensures,
      c.loop-place.invariant.keyed,
    ) in
    let before : c.index.result.now ≡ slice_index lasts key = c.index.ensures ∙ get_or_default lasts key c.index.result.now 0 inside in
    let its_key : slice_index keys i ≡ key = get_or-map (λ (n : Name). bit_and n.hash most) names i _ 0
    c.loop-place-test.true ∙ sym c.key_of-key.ensures.key in
    record {
      linked = subst (AreLinked keys (i + 1) (set lasts key (i + 1)))
          (sym (c.in_ok-push.ensures.items ∙ ap (λ (x : ℕ). befores ++ (x ∷ [])) before))
          (AreLinked-more keys lasts befores i key inside its_key c.loop-place.invariant.linked);
      keyed = length-set lasts key (i + 1) ∙ c.loop-place.invariant.keyed;
      room = omega (arith, c.in_ok-push.ensures.capacity, c.loop-place.invariant.room);
    }

pub returns-clause-keyed : goal.returns-clause-keyed
returns-clause-keyed g c = omega (arith, c.loop-place.invariant.keyed, c.keys_for-count.ensures)

pub returns-clause-linked : goal.returns-clause-linked
returns-clause-linked g c =
    let names = c.args.names.now in
    let lasts = c.loop-place.lasts.items in
    let befores = c.loop-place.befores.items in
    subst (λ (count : ℕ). AreLinked (keys_of (count - 1) names) (length names) lasts befores)
    (sym c.loop-place.invariant.keyed)
    (subst (λ (n : ℕ). AreLinked (keys_of (c.keys_for-count.result - 1) names) n lasts befores)
    (omega (arith, c.loop-place-test.false, c.loop-place.auto.place-end)) c.loop-place.invariant.linked)

pub returns-clause-room : goal.returns-clause-room
returns-clause-room g c =
    omega (
      arith,
      c.loop-place.befores.ok.0,
      c.loop-place.invariant.linked.one_each,
      c.loop-place-test.false,
      c.loop-place.auto.place-end,
      c.loop-place.invariant.room,
      c.requires.more,
    )
