use Rattle.std.proofs.Common.{◌≡◌, ◌+◌, ◌-◌, ◌<◌, ℕ, length, sym, ap, subst, ◌∙◌, arith}
use Rattle.std.specs.Prelude.{slice_index}
use Rattle.std.specs.Int.Bits.{bit_and}
use Rattle.std.proofs.lemmas.List.{get_or_default}
use Rattle.wq_items.specs.Hashing.{hash_of, names_of, keys_of}
use Rattle.wq_items.specs.Table.{item_named}
use Rattle.wq_items.proofs.ByKeyLemmas.{
  Leads,
  Leads-all,
  Leads-next,
  Leads-none,
  name-there,
  name-elsewhere,
  place-within,
}
use Rattle.wq_items.proofs.FlushLemmas.{item_named-at}
use Rattle.wq_items.proofs.names.look_up.Goals as goal

pub loop-end-init : goal.loop-end-init
loop-end-init g c =
    let hasher = c.args.hasher.now in
    let names = c.args.names.now in
    let lasts = c.args.places.now.lasts.items in
    let wanted = c.name-wanted.result in
    let own : wanted.hash ≡ hash_of hasher wanted.bytes.now = c.name-wanted.ensures.hash
    ∙ ap (hash_of hasher) (sym c.name-wanted.ensures.bytes) in
    let count : c.len-count.result ≡ length lasts = c.len-count.ensures ∙ c.args.places.now.lasts.ok.0 in
    let key : c.key_of.result ≡ bit_and wanted.hash (length lasts - 1) = c.key_of.ensures.key ∙ ap (λ (m : ℕ). bit_and wanted.hash (m - 1)) count in
    let inside : c.key_of.result < length lasts = omega (arith, c.key_of.ensures.below, count, c.if-count-eq0.false) in
    let end : c.index-end.result.now ≡ slice_index lasts (bit_and wanted.hash (length lasts - 1)) =
    c.index-end.ensures ∙ get_or_default lasts c.key_of.result c.index-end.result.now 0 inside ∙ ap (slice_index lasts) key in
    subst (Leads (names_of names) (keys_of (length lasts - 1) names) wanted.bytes.now (bit_and wanted.hash (length lasts - 1))) (sym end)
    (Leads-all hasher names lasts c.args.places.now.befores.items c.requires wanted own (omega (arith, key, inside)))

pub returns-then-eq-clause-place : goal.returns-then-eq-clause-place
returns-then-eq-clause-place g c =
    let hasher = c.args.hasher.now in
    let names = c.args.names.now in
    let lasts = c.args.places.now.lasts.items in
    let wanted = c.name-wanted.result in
    let own : wanted.hash ≡ hash_of hasher wanted.bytes.now = c.name-wanted.ensures.hash
    ∙ ap (hash_of hasher) (sym c.name-wanted.ensures.bytes) in
    let place = c.from-place.result in
    let on : c.loop-end.end ≡ place + 1 = omega (arith, c.from-place.ensures, c.loop-end-test.true) in
    let inside : place < length names = place-within hasher names lasts c.args.places.now.befores.items c.requires
    wanted own c.loop-end.end place on c.loop-end.invariant in
    sym (
    item_named-at (names_of names) c.args.name.now place c.requires.distinct
    (omega (arith, inside, on, c.loop-end.invariant.within))
    (name-there hasher names lasts c.args.places.now.befores.items c.requires wanted own place _ c.eq.result inside
    c.eq.ensures c.if-eq.true ∙ c.name-wanted.ensures.bytes)
    )

pub loop-end-smaller : goal.loop-end-smaller
loop-end-smaller g c =
    let hasher = c.args.hasher.now in
    let names = c.args.names.now in
    let lasts = c.args.places.now.lasts.items in
    let befores = c.args.places.now.befores.items in
    let wanted = c.name-wanted.result in
    let own : wanted.hash ≡ hash_of hasher wanted.bytes.now = c.name-wanted.ensures.hash
    ∙ ap (hash_of hasher) (sym c.name-wanted.ensures.bytes) in
    let place = c.from-place.result in
    let on : c.loop-end.end ≡ place + 1 = omega (arith, c.from-place.ensures, c.loop-end-test.true) in
    let inside : place < length names = place-within hasher names lasts befores c.requires wanted own c.loop-end.end
    place on c.loop-end.invariant in
    let next : c.index-end-in-loop-end.result.now ≡ slice_index befores place =
    c.index-end-in-loop-end.ensures ∙ get_or_default befores place c.index-end-in-loop-end.result.now 0
    (omega (arith, inside, c.requires.linked.one_each)) in
    let before = c.requires.linked.befores_lead place inside in
    omega (arith, on, next, before.within)

pub loop-end-preserved : goal.loop-end-preserved
loop-end-preserved g c =
    let hasher = c.args.hasher.now in
    let names = c.args.names.now in
    let lasts = c.args.places.now.lasts.items in
    let befores = c.args.places.now.befores.items in
    let wanted = c.name-wanted.result in
    let own : wanted.hash ≡ hash_of hasher wanted.bytes.now = c.name-wanted.ensures.hash
    ∙ ap (hash_of hasher) (sym c.name-wanted.ensures.bytes) in
    let place = c.from-place.result in
    let on : c.loop-end.end ≡ place + 1 = omega (arith, c.from-place.ensures, c.loop-end-test.true) in
    let inside : place < length names = place-within hasher names lasts befores c.requires wanted own c.loop-end.end
    place on c.loop-end.invariant in
    let next : c.index-end-in-loop-end.result.now ≡ slice_index befores place =
    c.index-end-in-loop-end.ensures ∙ get_or_default befores place c.index-end-in-loop-end.result.now 0
    (omega (arith, inside, c.requires.linked.one_each)) in
    let other = name-elsewhere hasher names lasts befores c.requires wanted own place _ c.eq.result inside c.eq.ensures
    c.if-eq.false in
    subst (Leads (names_of names) (keys_of (length lasts - 1) names) wanted.bytes.now (bit_and wanted.hash (length lasts - 1))) (sym next)
    (Leads-next hasher names lasts befores c.requires wanted own c.loop-end.end place on other c.loop-end.invariant)

pub returns-clause-place : goal.returns-clause-place
returns-clause-place g c =
    let hasher = c.args.hasher.now in
    let names = c.args.names.now in
    let lasts = c.args.places.now.lasts.items in
    let wanted = c.name-wanted.result in
    let key = bit_and wanted.hash (length lasts - 1) in
    let keys = keys_of (length lasts - 1) names in
    let zero : c.loop-end.end ≡ 0 = omega (arith, c.loop-end-test.false) in
    sym (
    ap (item_named (names_of names)) (sym c.name-wanted.ensures.bytes)
    ∙ Leads-none (names_of names) keys wanted.bytes.now key (subst (Leads (names_of names) keys wanted.bytes.now key) zero c.loop-end.invariant)
    )
