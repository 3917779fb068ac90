use Rattle.std.proofs.Common.{rules, ◌≡◌, false, ℕ, ◌<◌, List, length, map, get_or, sym, ap, subst, ◌∙◌, arith}
use Rattle.std.specs.List.{All}
use Rattle.std.proofs.lemmas.List.Elements.{All-map}
use Rattle.std.proofs.lemmas.List.{length-map, get_or_default}
use Rattle.wq_buckets.specs.Places.{buckets_of}
use Rattle.wq_buckets.proofs.Picking.{picked-each}
use Rattle.wq_items.specs.declared.target.Target.{Target}
use Rattle.wq_items.specs.declared.flush.Flush.{Flush}
use Rattle.wq_items.proofs.waits.Waits.new.Goals as goal

some : Flush
some = record { item = 0; target = record { item = 0; whole = false; unsure = false; place = 0 } }

pub sorted-requires-clause-keys : goal.sorted-requires-clause-keys
sorted-requires-clause-keys g c =
    subst (All (λ k. k < c.args.items)) (sym (c.as_slice.ensures.value ∙ c.in_ok-flushing.ensures.items))
    (All-map (λ k. k < c.args.items) (λ (f : Flush). f.item) c.args.flushes.now c.requires.within)

pub returns-clause-waits : goal.returns-clause-waits
returns-clause-waits g c =
    let flushes = c.args.flushes.now in
    let at : ℕ → Target = λ p. (get_or flushes p some).target in
    let keys : c.as_slice.result.now ≡ map (λ (f : Flush). f.item) flushes = c.as_slice.ensures.value
    ∙ c.in_ok-flushing.ensures.items in
    let long : length c.as_slice.result.now ≡ length flushes = ap length keys
    ∙ length-map flushes (λ (f : Flush). f.item) in
    c.in_ok-targets.ensures.sorted at (λ p x lt post.
    let within : p < length flushes = omega (arith, lt, long) in
    search (rules, get_or_default)
    )
    ∙ ap (λ (l : List ℕ). map (map at) (buckets_of l c.args.items)) keys
    ∙ picked-each (λ (f : Flush). f.item) (λ (f : Flush). f.target) flushes some c.args.items

pub returns-in_err-flushing-clause-memory : goal.returns-in_err-flushing-clause-memory
returns-in_err-flushing-clause-memory g c =
    let items : 0 < c.args.items = omega (arith, c.requires.within 0 some c.in_err-flushing.ensures.memory) in
    search rules
