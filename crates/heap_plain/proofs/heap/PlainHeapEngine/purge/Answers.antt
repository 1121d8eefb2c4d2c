use Rattle.std.proofs.Common.{◌≡◌, ◌<◌, ◌^◌, ◌∙◌, refl, sym, arith, get_or}
use Rattle.std.proofs.lemmas.List.{get_or_read}
use Rattle.world_model.specs.Sizes.{item_count}
use Rattle.world_model.specs.Histories.{after}
use Rattle.heap_plain.proofs.Resting.{keeps}
use Rattle.heap_plain.proofs.Purges.{purge_starts, begin_named, begin_below, purge_begins, ask_waiting, ask_named, ask_below, ask_head, ask_waits, purge_refused, purge_agreed, release_below, release_named, release_few, release_chain, release_can, purge_released, purge_ends, purge_calls, purge_tested, purge_held, waits, waits_calls}
use Rattle.heap_plain.proofs.heap.PlainHeapEngine.purge.Given.{Over}
use Rattle.heap_plain.proofs.heap.PlainHeapEngine.purge.Goals.{then-loop-steps-test+else-self-gt0, else-loop-steps-test}
use Rattle.heap_plain.proofs.heap.PlainHeapEngine.purge.Goals as goal

pub invariant_of-self : goal.invariant_of-self
invariant_of-self g c = rw c.purge_gc.ensures (waits _ c.self.invariant (sym c.phase.ensures ∙ c.in-Gathering.is)).plain

pub returns-in-Gathering-clause-entries : goal.returns-in-Gathering-clause-entries
returns-in-Gathering-clause-entries g c = rw (← c.self.view_is, c.purge_gc.ensures) (waits _ c.self.invariant (sym c.phase.ensures ∙ c.in-Gathering.is)).entries

pub returns-in-Gathering-clause-calls : goal.returns-in-Gathering-clause-calls
returns-in-Gathering-clause-calls g c = rw (← c.self.view_is, c.purge_gc.ensures) (waits_calls (after c.self.inside.diary) c.self.inside.diary c.args.budget (g.D.Hooks.calls c.args.hooks.now))

pub returns-in-Gathering-clause-held : goal.returns-in-Gathering-clause-held
returns-in-Gathering-clause-held g c = let entries = rw (← c.self.view_is) at (returns-in-Gathering-clause-entries g c) in rw (← c.self.view_is) (keeps entries refl _)

pub loop-steps-init : goal.loop-steps-init
loop-steps-init g c = rw (← c.self.view_is) (record { within = omega arith; purging = purge_starts _ _ _ _ _ c.self.invariant refl (λ e. c.in_default.not-Gathering (c.phase.ensures ∙ e)) })

pub begin_at-requires : goal.begin_at-requires
begin_at-requires g c =
    let i = c.loop-steps.invariant.purging in
    let s = i.shows in
    let below = begin_below i c.if-self-gt0.true c.in-Some.ensures in
    rw (c.deref.ensures.value, c.deref-in-Some.ensures.value) (record {
      named = begin_named i c.if-self-gt0.true c.in-Some.ensures;
      kinds = omega (arith, below, s.kinds.len);
      lives = omega (arith, below, s.units.lives_len);
    })

pub loop-steps-preserved-in-Some : goal.loop-steps-preserved-in-Some
loop-steps-preserved-in-Some g c =
    rw (c.begin_at.ensures.lives, c.begin_at.ensures.entries, c.deref.ensures.value) (record {
      within = omega (arith, c.loop-steps-test.true);
      purging = purge_begins c.loop-steps.invariant.purging c.if-self-gt0.true c.in-Some.ensures
          (rw (c.deref.ensures.value, c.deref-in-Some.ensures.value) at c.begin_at.ensures.calls) c.begin_at.ensures.test;
    })

pub index-size-requires : goal.index-size-requires
index-size-requires g c =
    let i = c.loop-steps.invariant.purging in
    omega (
      arith,
      release_below i c.if-self-gt0.true c.in_default-begin.ensures.1 c.in-Some-done.head c.in-Some-done.is (omega (arith, g.S.Shape.lawful.few_items)),
      i.shows.units.sizes_len,
      c.loop-steps.self-inside.sizes.ok.0,
    )

pub overflow_sub-self : goal.overflow_sub-self
overflow_sub-self g c =
    let i = c.loop-steps.invariant.purging in
    let few : item_count g.S.Shape.sizes < 2 ^ 32 = omega (arith, g.S.Shape.lawful.few_items) in
    let below = release_below i c.if-self-gt0.true c.in_default-begin.ensures.1 c.in-Some-done.head c.in-Some-done.is few in
    let size : c.index-size.result.now ≡ get_or c.loop-steps.self-inside.sizes.items c.in-Some-done.head 0 =
    get_or_read c.loop-steps.self-inside.sizes.items _ _ (omega (arith, below, i.shows.units.sizes_len)) c.index-size.ensures 0 in
    omega (arith, size, release_few i c.if-self-gt0.true c.in_default-begin.ensures.1 c.in-Some-done.head c.in-Some-done.is few)

pub named-requires : goal.named-requires
named-requires g c =
    let i = c.loop-steps.invariant.purging in
    rw (c.deref-in-Some-done.ensures.value) (release_named i c.if-self-gt0.true c.in_default-begin.ensures.1 c.in-Some-done.head c.in-Some-done.is (omega (arith, g.S.Shape.lawful.few_items)))

pub clear-requires : goal.clear-requires
clear-requires g c =
    let i = c.loop-steps.invariant.purging in
    let few : item_count g.S.Shape.sizes < 2 ^ 32 = omega (arith, g.S.Shape.lawful.few_items) in
    let below = release_below i c.if-self-gt0.true c.in_default-begin.ensures.1 c.in-Some-done.head c.in-Some-done.is few in
    let size : c.index-size.result.now ≡ get_or c.loop-steps.self-inside.sizes.items c.in-Some-done.head 0 =
    get_or_read c.loop-steps.self-inside.sizes.items _ _ (omega (arith, below, i.shows.units.sizes_len)) c.index-size.ensures 0 in
    rw (c.deref-in-Some-done-2.ensures.value, size) (record {
      chain = release_chain i c.if-self-gt0.true c.in_default-begin.ensures.1 c.in-Some-done.head c.in-Some-done.is few;
      items = omega (arith, i.shows.units.links_len, i.shows.pairs.len);
    })

pub release-requires : goal.release-requires
release-requires g c =
    let i = c.loop-steps.invariant.purging in
    let few : item_count g.S.Shape.sizes < 2 ^ 32 = omega (arith, g.S.Shape.lawful.few_items) in
    let below = release_below i c.if-self-gt0.true c.in_default-begin.ensures.1 c.in-Some-done.head c.in-Some-done.is few in
    let size : c.index-size.result.now ≡ get_or c.loop-steps.self-inside.sizes.items c.in-Some-done.head 0 =
    get_or_read c.loop-steps.self-inside.sizes.items _ _ (omega (arith, below, i.shows.units.sizes_len)) c.index-size.ensures 0 in
    rw (c.deref-in-Some-done-3.ensures.value, size) (record {
      chain = release_chain i c.if-self-gt0.true c.in_default-begin.ensures.1 c.in-Some-done.head c.in-Some-done.is few;
      can = release_can i c.if-self-gt0.true c.in_default-begin.ensures.1 c.in-Some-done.head c.in-Some-done.is few;
    })

pub loop-steps-preserved-in-Some-done : goal.loop-steps-preserved-in-Some-done
loop-steps-preserved-in-Some-done g c =
    let i = c.loop-steps.invariant.purging in
    let few : item_count g.S.Shape.sizes < 2 ^ 32 = omega (arith, g.S.Shape.lawful.few_items) in
    let below = release_below i c.if-self-gt0.true c.in_default-begin.ensures.1 c.in-Some-done.head c.in-Some-done.is few in
    let size : c.index-size.result.now ≡ get_or c.loop-steps.self-inside.sizes.items c.in-Some-done.head 0 =
    get_or_read c.loop-steps.self-inside.sizes.items _ _ (omega (arith, below, i.shows.units.sizes_len)) c.index-size.ensures 0 in
    let t = rw (c.deref-in-Some-done-3.ensures.value, size) at c.release.ensures in
    let name = rw (c.deref-in-Some-done.ensures.value) at c.named.ensures in
    rw (c.released.ensures, c.in_default-begin.ensures.0, c.clear.ensures, c.deref-in-Some-done-2.ensures.value) (record {
      within = omega (arith, c.loop-steps-test.true);
      purging = purge_released i c.if-self-gt0.true c.in_default-begin.ensures.1 c.in-Some-done.head c.in-Some-done.is few c.named.result name c.index-size.result.now size _ t;
    })

pub next-index-requires : goal.next-index-requires
next-index-requires g c =
    rw c.in_default-begin.ensures.0 (ask_waiting c.loop-steps.invariant.purging c.if-self-gt0.true c.in_default-begin.ensures.1 c.in_default-done.is)

pub ask_at-agreed-requires : goal.ask_at-agreed-requires
ask_at-agreed-requires g c =
    let i = c.loop-steps.invariant.purging in
    let s = i.shows in
    let below = ask_below i c.if-self-gt0.true c.in_default-begin.ensures.1 c.in_default-done.is in
    rw (c.deref-in-loop-steps.ensures.value, c.deref-in-loop-steps-2.ensures.value, c.next-index.ensures, c.in_default-begin.ensures.0) (record {
      named = ask_named i c.if-self-gt0.true c.in_default-begin.ensures.1 c.in_default-done.is;
      kinds = omega (arith, below, s.kinds.len);
      polls = omega (arith, below, s.removed.polls_len);
    })

pub finish-requires : goal.finish-requires
finish-requires g c = rw c.in_default-begin.ensures.0 (record {
  all_begun = c.in_default-begin.ensures.1;
  some = ask_waiting c.loop-steps.invariant.purging c.if-self-gt0.true c.in_default-begin.ensures.1 c.in_default-done.is;
})

pub finish_at-self-inside-requires : goal.finish_at-self-inside-requires
finish_at-self-inside-requires g c =
    let i = c.loop-steps.invariant.purging in
    let s = i.shows in
    let below = ask_below i c.if-self-gt0.true c.in_default-begin.ensures.1 c.in_default-done.is in
    rw (c.deref-then-agreed.ensures.value, c.next-index.ensures, c.in_default-begin.ensures.0) (record {
      firsts = omega (arith, below, s.units.firsts_len);
      lives = omega (arith, below, s.units.lives_len);
      head = omega (arith, ask_head i c.if-self-gt0.true c.in_default-begin.ensures.1 c.in_default-done.is, s.gone.waiting_len);
      some = ask_waits i c.if-self-gt0.true c.in_default-begin.ensures.1 c.in_default-done.is;
    })

pub loop-steps-preserved-then-agreed : goal.loop-steps-preserved-then-agreed
loop-steps-preserved-then-agreed g c =
    rw (
      c.finish_at-self-inside.ensures.lives,
      c.finish_at-self-inside.ensures.waiting,
      c.finish_at-self-inside.ensures.unit,
      c.finish.ensures,
      c.ask_at-agreed.ensures.polls,
      c.ask_at-agreed.ensures.entries,
      c.deref-in-loop-steps.ensures.value,
      c.deref-then-agreed.ensures.value,
      c.if-agreed.true,
      c.next-index.ensures,
      c.in_default-begin.ensures.0,
    ) (record {
      within = omega (arith, c.loop-steps-test.true);
      purging = purge_agreed c.loop-steps.invariant.purging c.if-self-gt0.true c.in_default-begin.ensures.1 c.in_default-done.is
          (rw (c.deref-in-loop-steps.ensures.value, c.deref-in-loop-steps-2.ensures.value, c.if-agreed.true, c.next-index.ensures, c.in_default-begin.ensures.0) at c.ask_at-agreed.ensures.calls)
          (rw (c.deref-in-loop-steps.ensures.value, c.deref-in-loop-steps-2.ensures.value, c.if-agreed.true, c.next-index.ensures, c.in_default-begin.ensures.0) at c.ask_at-agreed.ensures.answer)
          c.ask_at-agreed.ensures.test;
    })

pub turn-requires : goal.turn-requires
turn-requires g c = rw c.in_default-begin.ensures.0 (record {
  all_begun = c.in_default-begin.ensures.1;
  some = ask_waiting c.loop-steps.invariant.purging c.if-self-gt0.true c.in_default-begin.ensures.1 c.in_default-done.is;
})

pub loop-steps-preserved : goal.loop-steps-preserved
loop-steps-preserved g c =
    rw (
      c.turn.ensures,
      c.ask_at-agreed.ensures.polls,
      c.ask_at-agreed.ensures.entries,
      c.deref-in-loop-steps.ensures.value,
      c.if-agreed.false,
      c.next-index.ensures,
      c.in_default-begin.ensures.0,
    ) (record {
      within = omega (arith, c.loop-steps-test.true);
      purging = purge_refused c.loop-steps.invariant.purging c.if-self-gt0.true c.in_default-begin.ensures.1 c.in_default-done.is
          (rw (c.deref-in-loop-steps.ensures.value, c.deref-in-loop-steps-2.ensures.value, c.if-agreed.false, c.next-index.ensures, c.in_default-begin.ensures.0) at c.ask_at-agreed.ensures.calls)
          (rw (c.deref-in-loop-steps.ensures.value, c.deref-in-loop-steps-2.ensures.value, c.if-agreed.false, c.next-index.ensures, c.in_default-begin.ensures.0) at c.ask_at-agreed.ensures.answer)
          c.ask_at-agreed.ensures.test;
    })

-- there are fewer steps than the budget only where nothing is left
early : (g : Over) (c : goal.After-purge_gc-2 g) → c.loop-steps.steps < c.args.budget → c.loop-steps.self-inside.left ≡ 0
early g c less = elim c.loop-steps-test.branch [
  | then-loop-steps-test+else-self-gt0 w ↦ omega (arith, w.if-self-gt0.false)
  | else-loop-steps-test w ↦ absurd (omega (arith, w.loop-steps-test.false, less))
]

pub invariant_of-self-2 : goal.invariant_of-self-2
invariant_of-self-2 g c = rw c.purge_gc-2.ensures (purge_ends c.loop-steps.invariant.purging c.args.budget c.loop-steps.invariant.within (early g c)).plain

pub returns : goal.returns
returns g c =
    let i = c.loop-steps.invariant.purging in
    let within = c.loop-steps.invariant.within in
    rw c.purge_gc-2.ensures (record {
      entries = (purge_ends i c.args.budget within (early g c)).entries;
      calls = purge_calls i c.args.budget within (early g c);
      tested = purge_tested i c.args.budget within (early g c);
      same_test = i.same;
      held = purge_held i c.args.budget within (early g c);
    })
