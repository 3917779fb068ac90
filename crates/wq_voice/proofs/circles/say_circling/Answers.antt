use Rattle.wq_voice.proofs.Circled.{circled_own, circled_read}
use Rattle.wq_voice.proofs.circles.say_circling.Goals as goal

pub assigned_of-read-requires : goal.assigned_of-read-requires
assigned_of-read-requires g c =
    let text = c.args.texts.now.second in
    let found = rw c.if-assigned.true at c.requires in
    (text, (circled_read c.args.declared.now text c.args.circling.now found.0 found.1 found.2).read)

pub say_read-requires-clause-read : goal.say_read-requires-clause-read
say_read-requires-clause-read g c =
    let found = rw c.if-assigned.true at c.requires in
    rw c.assigned_of-read.ensures
    (circled_read c.args.declared.now c.args.texts.now.second c.args.circling.now found.0 found.1 found.2).read

pub say_read-requires-clause-components : goal.say_read-requires-clause-components
say_read-requires-clause-components g c =
    let found = rw c.if-assigned.true at c.requires in
    rw c.assigned_of-read.ensures
    (circled_read c.args.declared.now c.args.texts.now.second c.args.circling.now found.0 found.1 found.2).components

pub say_read-requires-clause-waits : goal.say_read-requires-clause-waits
say_read-requires-clause-waits g c =
    let found = rw c.if-assigned.true at c.requires in
    rw c.assigned_of-read.ensures
    (circled_read c.args.declared.now c.args.texts.now.second c.args.circling.now found.0 found.1 found.2).waits

pub new-own-requires : goal.new-own-requires
new-own-requires g c =
    let found = rw c.if-assigned.false at c.requires in
    (circled_own c.args.declared.now c.args.circling.now found.0 found.1 found.2).0

pub say_own-requires-clause-components : goal.say_own-requires-clause-components
say_own-requires-clause-components g c =
    let found = rw c.if-assigned.false at c.requires in
    rw c.new-own.ensures (circled_own c.args.declared.now c.args.circling.now found.0 found.1 found.2).1

pub say_own-requires-clause-waits : goal.say_own-requires-clause-waits
say_own-requires-clause-waits g c =
    let found = rw c.if-assigned.false at c.requires in
    rw c.new-own.ensures (circled_own c.args.declared.now c.args.circling.now found.0 found.1 found.2).2

pub returns-then-assigned : goal.returns-then-assigned
returns-then-assigned g c = rw c.if-assigned.true (rw c.assigned_of-read.ensures at c.say_read.ensures)

pub returns-else-assigned : goal.returns-else-assigned
returns-else-assigned g c = rw c.if-assigned.false (rw c.new-own.ensures at c.say_own.ensures)
