use Rattle.std.proofs.Common.{◌≡◌, ◌+◌, ◌-◌, ◌≤◌, refl, ap, ◌∙◌, subst, arith, length}
use Rattle.world_model.specs.World.{made}
use Rattle.world_model.specs.Histories.{after}
use Rattle.heap_plain.specs.Types.{Ref}
use Rattle.world_model.proofs.Places.{quotas_hold_holds}
use Rattle.heap_plain.specs.Stocked.{Stocked}
use Rattle.heap_plain.proofs.Resting.{keeps}
use Rattle.heap_plain.proofs.Fillings.{from_start, row_end}
use Rattle.heap_plain.proofs.Popping.{stock_read, spare_few, pops}
use Rattle.heap_plain.proofs.NewNames.{names_of_row}
use Rattle.heap_plain.proofs.Refusals.{refuses, refusal_stays}
use Rattle.heap_plain.proofs.CreateSteps.{Creation, creates, still_held, new_held}
use Rattle.heap_plain.proofs.heap.PlainHeapEngine.create.Given.{Over}
use Rattle.heap_plain.proofs.heap.PlainHeapEngine.create.Goals as goal

pub overflow_sub-NAMES : goal.overflow_sub-NAMES
overflow_sub-NAMES g c =
    let frame = rw (← c.self.view_is) at c.requires.frame in
    let is : c.index-made.result.now ≡ made (after c.self.inside.diary) c.args.lane = c.index-made.ensures ∙ c.self.invariant.shows.made.each c.args.lane c.index-made.result.now frame.in_range in
    omega (arith, (quotas_hold_holds g.S.Shape.sizes c.self.inside.diary c.self.invariant.legal c.args.lane).names, c.NAMES.ensures, g.S.Shape.constants.names)

pub invariant_of-self : goal.invariant_of-self
invariant_of-self g c =
    let frame = rw (← c.self.view_is) at c.requires.frame in
    let s = c.self.invariant.shows in
    let is : c.index-made.result.now ≡ made (after c.self.inside.diary) c.args.lane = c.index-made.ensures ∙ s.made.each c.args.lane c.index-made.result.now frame.in_range in
    rw c.refuse.ensures
    (refuses _ _ c.self.invariant frame is (ap (λ k. k - c.index-made.result.now) (c.NAMES.ensures ∙ g.S.Shape.constants.names))
    (c.spare.ensures ∙ ap (λ x. length x.free) (stock_read s.free _ _ frame.in_range c.index-free.ensures)) c.in-Err.ensures).plain

pub returns-in-Err-clause-entries : goal.returns-in-Err-clause-entries
returns-in-Err-clause-entries g c =
    let frame = rw (← c.self.view_is) at c.requires.frame in
    let s = c.self.invariant.shows in
    let is : c.index-made.result.now ≡ made (after c.self.inside.diary) c.args.lane = c.index-made.ensures ∙ s.made.each c.args.lane c.index-made.result.now frame.in_range in
    rw (← c.self.view_is, c.refuse.ensures)
    (refuses _ _ c.self.invariant frame is (ap (λ k. k - c.index-made.result.now) (c.NAMES.ensures ∙ g.S.Shape.constants.names))
    (c.spare.ensures ∙ ap (λ x. length x.free) (stock_read s.free _ _ frame.in_range c.index-free.ensures)) c.in-Err.ensures).entries

pub returns-in-Err-clause-held : goal.returns-in-Err-clause-held
returns-in-Err-clause-held g c = let entries = rw (← c.self.view_is) at (returns-in-Err-clause-entries g c) in rw (← c.self.view_is) (keeps entries (refusal_stays _ _) _)

pub overflow_cast-spare : goal.overflow_cast-spare
overflow_cast-spare g c =
    let frame = rw (← c.self.view_is) at c.requires.frame in
    omega (arith, c.spare.ensures, spare_few c.self.invariant.shows.free _ _ frame.in_range c.index-free.ensures, g.S.Shape.lawful.few_items)

pub peek-head-requires : goal.peek-head-requires
peek-head-requires g c = omega (arith, c.in_default.ensures.1, c.spare.ensures, c.requires.some)

pub place-requires-clause-stack : goal.place-requires-clause-stack
place-requires-clause-stack g c =
    let frame = rw (← c.self.view_is) at c.requires.frame in
    pops c.self.invariant.shows.free _ _ _ _ frame.in_range c.index-free.ensures c.self.invariant.shows.names.items (omega (arith, c.in_default.ensures.1, c.spare.ensures))

pub fill_popped-requires : goal.fill_popped-requires
fill_popped-requires g c =
    let frame = rw (← c.self.view_is) at c.requires.frame in
    record { stack = pops c.self.invariant.shows.free _ _ _ _ frame.in_range c.index-free.ensures c.self.invariant.shows.units.firsts_len (omega (arith, c.in_default.ensures.1, c.spare.ensures)) }

pub classify-requires : goal.classify-requires
classify-requires g c =
    let frame = rw (← c.self.view_is) at c.requires.frame in
    record { stack = pops c.self.invariant.shows.free _ _ _ _ frame.in_range c.index-free.ensures c.self.invariant.shows.kinds.len (omega (arith, c.in_default.ensures.1, c.spare.ensures)) }

pub fill_rows-requires : goal.fill_rows-requires
fill_rows-requires g c =
    let frame = rw (← c.self.view_is) at c.requires.frame in
    let s = c.self.invariant.shows in
    let can = pops s.free _ _ _ _ frame.in_range c.index-free.ensures refl (omega (arith, c.in_default.ensures.1, c.spare.ensures)) in
    rw (c.SLOTS-slots.ensures, g.S.Shape.constants.slots)
    (record { enough = can.enough; rows = λ j b. omega (arith, row_end g.S.Shape.sizes.slots _ _ (can.places j b), s.cells.targets_len) })

pub fill_rows-requires-2 : goal.fill_rows-requires-2
fill_rows-requires-2 g c =
    let frame = rw (← c.self.view_is) at c.requires.frame in
    let s = c.self.invariant.shows in
    let can = pops s.free _ _ _ _ frame.in_range c.index-free.ensures refl (omega (arith, c.in_default.ensures.1, c.spare.ensures)) in
    rw (c.SLOTS-slots.ensures, g.S.Shape.constants.slots)
    (record { enough = can.enough; rows = λ j b. omega (arith, row_end g.S.Shape.sizes.slots _ _ (can.places j b), s.cells.plains_len) })

pub fill_popped-requires-2 : goal.fill_popped-requires-2
fill_popped-requires-2 g c =
    let frame = rw (← c.self.view_is) at c.requires.frame in
    record { stack = pops c.self.invariant.shows.free _ _ _ _ frame.in_range c.index-free.ensures c.self.invariant.shows.units.lives_len (omega (arith, c.in_default.ensures.1, c.spare.ensures)) }

pub link-requires-clause-stack : goal.link-requires-clause-stack
link-requires-clause-stack g c =
    let frame = rw (← c.self.view_is) at c.requires.frame in
    pops c.self.invariant.shows.free _ _ _ _ frame.in_range c.index-free.ensures c.self.invariant.shows.units.links_len (omega (arith, c.in_default.ensures.1, c.spare.ensures))

pub fill_popped-requires-3 : goal.fill_popped-requires-3
fill_popped-requires-3 g c =
    let frame = rw (← c.self.view_is) at c.requires.frame in
    record { stack = pops c.self.invariant.shows.free _ _ _ _ frame.in_range c.index-free.ensures c.self.invariant.shows.garbage.len (omega (arith, c.in_default.ensures.1, c.spare.ensures)) }

pub index_mut-requires : goal.index_mut-requires
index_mut-requires g c =
    let frame = rw (← c.self.view_is) at c.requires.frame in
    let units = c.self.invariant.shows.units in
    let can = pops c.self.invariant.shows.free _ _ _ _ frame.in_range c.index-free.ensures units.sizes_len (omega (arith, c.in_default.ensures.1, c.spare.ensures)) in
    omega (arith, can.places 0 c.requires.some, c.peek-head.ensures, c.self.inside.sizes.ok.0)

pub bear-requires : goal.bear-requires
bear-requires g c =
    let frame = rw (← c.self.view_is) at c.requires.frame in
    let can = pops c.self.invariant.shows.free _ _ _ _ frame.in_range c.index-free.ensures c.self.invariant.shows.marked_len (omega (arith, c.in_default.ensures.1, c.spare.ensures)) in
    omega (arith, can.places 0 c.requires.some, c.peek-head.ensures)

-- what the calls before the last one have written
creation : (g : Over) (c : goal.After-make g) → Creation g.S.Shape.sizes (record {
  gate = c.self.inside.gate;
  objects = record { names = c.self.inside.names.items; firsts = c.self.inside.firsts.items; sizes = c.self.inside.sizes.items; next = c.self.inside.next.items; lives = c.self.inside.lives.items };
  rows = record { kinds = c.self.inside.kinds.items; targets = c.self.inside.targets.items; plains = c.self.inside.plains.items };
  roots = c.self.inside.roots.items;
  garbage = c.self.inside.garbage.items;
  strong = c.self.inside.strong.items;
  pairs = c.self.inside.serials;
  colours = c.self.inside.colours;
  stock = record { stocks = c.self.inside.stocks.items; made = c.self.inside.made.items };
  ends =
      record {
        left = c.self.inside.left;
        swept = c.self.inside.swept;
        queue = c.self.inside.queue;
        polls = c.self.inside.polls.items;
        waiting = c.self.inside.waiting.items;
        done = c.self.inside.done;
      };
}) c.self.inside.diary c.args.lane c.index-made.result.now c.args.kinds.now c.place.new.names.items c.fill_popped.new.items.items
    c.link.new.next.items c.classify.new.stored.items c.fill_rows.new.cells.items c.fill_rows-2.new.cells.items c.fill_popped-2.new.items.items
    c.fill_popped-3.new.items.items
creation g c =
    let frame = rw (← c.self.view_is) at c.requires.frame in
    let s = c.self.invariant.shows in
    let d = c.in_default.ensures in
    let k = g.S.Shape.constants in
    let now = stock_read s.free _ _ frame.in_range c.index-free.ensures in
    record {
      was = c.self.invariant;
      frame = frame;
      is = c.index-made.ensures ∙ s.made.each c.args.lane c.index-made.result.now frame.in_range;
      some = c.requires.some;
      few = c.requires.few;
      lawful = c.requires.lawful;
      names_left = omega (arith, d.0, c.NAMES.ensures, k.names, c.requires.some);
      room = subst (λ (x : Stocked). length c.args.kinds.now ≤ length x.free) now (omega (arith, d.1, c.spare.ensures));
      by_name = rw now at c.place.ensures;
      by_first = rw (c.peek-head.ensures, now) at c.fill_popped.ensures;
      by_kind = rw now at c.classify.ensures;
      by_target = rw (c.SLOTS-slots.ensures, k.slots, now) at c.fill_rows.ensures;
      by_plain = rw (c.SLOTS-slots.ensures, k.slots, now) at c.fill_rows-2.ensures;
      by_life = rw now at c.fill_popped-2.ensures;
      by_next = rw now at c.link.ensures;
      by_garbage = rw now at c.fill_popped-3.ensures;
    }

pub invariant_of-self-2 : goal.invariant_of-self-2
invariant_of-self-2 g c =
    let free = c.self.invariant.shows.free in
    let lane = (creation g c).frame.in_range in
    rw (
      c.make.ensures,
      c.bear.ensures,
      c.peek-head.ensures,
      c.take.ensures,
      stock_read free _ _ lane c.index_mut-2.ensures.value,
      stock_read free _ _ lane c.index-free.ensures,
    ) (creates (creation g c)).plain

pub returns-clause-entries : goal.returns-clause-entries
returns-clause-entries g c = rw (← c.self.view_is, ← (creation g c).is, c.make.ensures) (creates (creation g c)).entries

pub returns-clause-names : goal.returns-clause-names
returns-clause-names g c =
    rw (← c.self.view_is, ← (creation g c).is) (names_of_row c.args.lane (c.index-made.result.now + 1) c.args.kinds.now c.answer.new.out (omega (arith, c.answer.ensures.len, c.requires.room))
    (λ k d below. ap (λ (r : Ref). r.name) (from_start c.answer.ensures k d (omega (arith, c.answer.ensures.len)))))

pub returns-clause-given : goal.returns-clause-given
returns-clause-given g c = λ i other below.
    let now = stock_read c.self.invariant.shows.free _ _ (creation g c).frame.in_range c.index-free.ensures in
    let there = from_start c.answer.ensures i other (omega (arith, c.answer.ensures.len)) in
    rw (c.make.ensures, there, now) (new_held (creation g c) i (omega (arith, c.answer.ensures.len, c.requires.room)))

pub returns-clause-held : goal.returns-clause-held
returns-clause-held g c = rw (← c.self.view_is, c.make.ensures) (still_held (creation g c))
