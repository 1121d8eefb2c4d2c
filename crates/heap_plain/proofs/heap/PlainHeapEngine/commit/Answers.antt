use Rattle.std.proofs.Common.{◌≡◌, ℕ, refl, sym, ◌∙◌, arith, length}
use Rattle.heap_plain.specs.Types.{Phase, Commit}
use Rattle.heap_plain.specs.Types.commit
use Rattle.heap_plain.specs.Notes.{MayEnd}
use Rattle.heap_plain.proofs.Resting.{keeps}
use Rattle.heap_plain.proofs.CommitSteps.{refuses_commit, done_facts, commits}
use Rattle.heap_plain.proofs.heap.PlainHeapEngine.commit.Goals as goal

pub opened-requires : goal.opened-requires
opened-requires g c = omega (arith, c.self.invariant.shows.frames.lanes.len, g.S.Shape.lawful.few_lanes)

pub invariant_of-self : goal.invariant_of-self
invariant_of-self g c =
    let m = rw (c.phase.ensures, c.opened.ensures, c.grey.ensures) at c.may_end-reply.ensures in
    let facts = done_facts _ _ _ _ m (sym c.is_done.ensures ∙ c.if-is_done.true) in
    let count : c.len-items.result ≡ length c.self.inside.polls.items = omega (arith, c.len-items.ensures, c.self.inside.polls.ok.0) in
    let removes = rw c.deref-then-is_done.ensures.value at c.remove_white.ensures in
    rw (c.commit_gc.ensures, facts.0, c.enter.ensures, c.clear.ensures)
    (commits c.self.invariant facts.1 facts.2 facts.3 removes (rw count at c.fill.ensures) (rw c.deref.ensures.value at c.copy.ensures)).plain

pub returns-then-is_done-clause-entries : goal.returns-then-is_done-clause-entries
returns-then-is_done-clause-entries g c =
    let m = rw (c.phase.ensures, c.opened.ensures, c.grey.ensures) at c.may_end-reply.ensures in
    let facts = done_facts _ _ _ _ m (sym c.is_done.ensures ∙ c.if-is_done.true) in
    let count : c.len-items.result ≡ length c.self.inside.polls.items = omega (arith, c.len-items.ensures, c.self.inside.polls.ok.0) in
    let removes = rw c.deref-then-is_done.ensures.value at c.remove_white.ensures in
    rw (← c.self.view_is, c.commit_gc.ensures, facts.0)
    (commits c.self.invariant facts.1 facts.2 facts.3 removes (rw count at c.fill.ensures)
    (rw c.deref.ensures.value at c.copy.ensures)).entries

pub returns-then-is_done-clause-held : goal.returns-then-is_done-clause-held
returns-then-is_done-clause-held g c = let entries = rw (← c.self.view_is) at (returns-then-is_done-clause-entries g c) in rw (← c.self.view_is) (keeps entries refl _)

pub invariant_of-self-else-is_done : goal.invariant_of-self-else-is_done
invariant_of-self-else-is_done g c =
    rw c.commit_gc.ensures (refuses_commit _ c.self.invariant (rw (c.phase.ensures, c.opened.ensures, c.grey.ensures) at c.may_end-reply.ensures) (sym c.is_done.ensures ∙ c.if-is_done.false)).plain

pub returns-clause-entries : goal.returns-clause-entries
returns-clause-entries g c =
    rw (← c.self.view_is, c.commit_gc.ensures)
    (refuses_commit _ c.self.invariant (rw (c.phase.ensures, c.opened.ensures, c.grey.ensures) at c.may_end-reply.ensures)
    (sym c.is_done.ensures ∙ c.if-is_done.false)).entries

pub returns-clause-held : goal.returns-clause-held
returns-clause-held g c = let entries = rw (← c.self.view_is) at (returns-clause-entries g c) in rw (← c.self.view_is) (keeps entries refl _)

-- an answer that ends nothing names word 0 and one bit
one_bit : (phase : Phase) (grey opened : ℕ) (reply : Commit) → MayEnd phase grey opened reply → (word bits : ℕ) → reply ≡ commit.Unfinished word bits → (word ≡ 0) × (bits ≡ 1)
one_bit phase grey opened commit.Done m word bits e = absurd cc
one_bit phase grey opened (commit.NotMarking at) m word bits e = absurd cc
one_bit phase grey opened (commit.Unfinished w b) m word bits e =
    let same_word : w ≡ word = cc in
    let same_bits : b ≡ bits = cc in
    (sym same_word ∙ m.2, sym same_bits ∙ m.3)
one_bit phase grey opened commit.Stores m word bits e = absurd m
one_bit phase grey opened (commit.Frames n) m word bits e = absurd cc

pub returns-clause-word : goal.returns-clause-word
returns-clause-word g c word bits e = one_bit _ _ _ _ c.may_end-reply.ensures word bits e

pub returns-then-is_done-clause-word : goal.returns-then-is_done-clause-word
returns-then-is_done-clause-word g c word bits e = absurd (let ended : commit.Done ≡ commit.Unfinished word bits = e in cc)
