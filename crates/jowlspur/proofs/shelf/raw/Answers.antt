use Rattle.std.proofs.Common.{◌≡◌, ◌-◌, length, rules, ap, ◌∙◌, subst, arith}
use Rattle.bus.specs.Requests.{Reads}
use Rattle.buses.specs.declared.memory.MemoryBus.{MemoryBus}
use Rattle.buses.specs.declared.joined.JoinedBus.{JoinedBus}
use Rattle.buses.specs.Memory.{memory_drives}
use Rattle.buses.specs.Joined.{joined}
use Rattle.buses.proofs.Joining.{reads_named, renamed_by}
use Rattle.jowlspur.proofs.Peeking.{first_peek, second_peek}
use Rattle.jowlspur.proofs.shelf.raw.Goals as goal

pub returns-then-at-n : goal.returns-then-at-n
returns-then-at-n c =
    let s = memory_drives c.args.shelf.now.below.first in
    let t = memory_drives c.args.shelf.now.below.second in
    let below = c.below-memories.ensures in
    let all : c.count.result ≡ length (joined s t) = c.count.ensures ∙ ap (λ (j : JoinedBus MemoryBus MemoryBus). length (joined (memory_drives j.first) (memory_drives j.second))) below in
    let n : c.count-n.result ≡ length s = c.count-n.ensures ∙ ap (λ m. length (memory_drives m)) (c.first.ensures ∙ ap (λ (j : JoinedBus MemoryBus MemoryBus). j.first) below) in
    let reads : Reads s s c.args.at.drive c.args.at.block c.args.buf.now c.peek.new.buf c.peek.result =
    subst (λ m. Reads (memory_drives m) (memory_drives m) c.args.at.drive c.args.at.block c.args.buf.now c.peek.new.buf c.peek.result) (c.first-then-at-n.ensures ∙ ap (λ (j : JoinedBus MemoryBus MemoryBus). j.first) below) c.peek.ensures.reads in
    first_peek s t _ _ _ _ c.peek.result c.peek.result (omega arith) (reads_named s s _ _ _ _ c.peek.result reads) (omega arith) reads

pub returns-else-at-n : goal.returns-else-at-n
returns-else-at-n c =
    let s = memory_drives c.args.shelf.now.below.first in
    let t = memory_drives c.args.shelf.now.below.second in
    let below = c.below-memories.ensures in
    let all : c.count.result ≡ length (joined s t) = c.count.ensures ∙ ap (λ (j : JoinedBus MemoryBus MemoryBus). length (joined (memory_drives j.first) (memory_drives j.second))) below in
    let n : c.count-n.result ≡ length s = c.count-n.ensures ∙ ap (λ m. length (memory_drives m)) (c.first.ensures ∙ ap (λ (j : JoinedBus MemoryBus MemoryBus). j.first) below) in
    let named = renamed_by c.args.at.drive _ (λ i j q. search rules) c.peek-read.result c.map_err.result c.map_err.ensures.cases in
    second_peek s t _ _ _ _ c.peek-read.result c.map_err.result (omega arith) named (omega arith)
    (subst (λ k. Reads t t (c.args.at.drive - k) c.args.at.block c.args.buf.now c.peek-read.new.buf c.peek-read.result) n
    (subst (λ m. Reads (memory_drives m) (memory_drives m) (c.args.at.drive - c.count-n.result) c.args.at.block c.args.buf.now c.peek-read.new.buf c.peek-read.result) (c.second.ensures ∙ ap (λ (j : JoinedBus MemoryBus MemoryBus). j.second) below) c.peek-read.ensures.reads))
