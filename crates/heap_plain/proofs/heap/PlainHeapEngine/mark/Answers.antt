use Rattle.std.proofs.Common.{◌≡◌, ◌*◌, ◌<◌, ◌≤◌, ℕ, ap, arith, get_or, length}
use Rattle.std.proofs.lemmas.List.{get_or_read}
use Rattle.heap_plain.proofs.MarkSlices.{mark_starts, head_below, head_named, chain_below, lead_named, worklist, mark_scans, slice_ends, slice_held}
use Rattle.heap_plain.proofs.Shadings.{black_is, black_few}
use Rattle.heap_plain.proofs.heap.PlainHeapEngine.mark.Given.{Over}
use Rattle.heap_plain.proofs.heap.PlainHeapEngine.mark.Goals.{then-loop-self-test+else-scanned-budget, else-loop-self-test}
use Rattle.heap_plain.proofs.heap.PlainHeapEngine.mark.Goals as goal

pub loop-self-init : goal.loop-self-init
loop-self-init g c = rw (← c.self.view_is, c.slice_open.ensures) (record { small = omega arith; slicing = mark_starts _ _ _ _ _ c.self.invariant c.requires.marker })

-- the next grey unit, and its size
pub next-head-requires : goal.next-head-requires
next-head-requires g c = omega (arith, c.grey.ensures, c.loop-self-test.true)

pub index-size-requires : goal.index-size-requires
index-size-requires g c =
    let i = c.loop-self.invariant.slicing in
    omega (arith, head_below i c.requires.marker c.next-head.ensures, i.sliced.shows.units.sizes_len, c.loop-self.self-inside.sizes.ok.0)

pub shade_unit-requires : goal.shade_unit-requires
shade_unit-requires g c =
    let i = c.loop-self.invariant.slicing in
    let first = c.next-head.ensures in
    let k = i.sliced.shows in
    let size : c.index-size.result.now ≡ get_or c.loop-self.self-inside.sizes.items c.next-head.result 0 =
    get_or_read c.loop-self.self-inside.sizes.items _ _ (omega (arith, head_below i c.requires.marker first, k.units.sizes_len)) c.index-size.ensures 0 in
    rw (
      c.deref.ensures.value,
      c.deref-in-loop-self.ensures.value,
      c.deref-in-loop-self-2.ensures.value,
      c.deref-in-loop-self-3.ensures.value,
      c.deref-in-loop-self-4.ensures.value,
      c.SLOTS.ensures,
      g.S.Shape.constants.slots,
      size,
    ) (record {
      chain = chain_below i c.requires.marker first;
      kinds = omega (arith, k.units.links_len, k.kinds.len);
      rows = omega (arith, ap (λ (n : ℕ). n * g.S.Shape.sizes.slots) k.units.links_len, k.cells.targets_len);
      fit = λ x. omega (arith, k.kinds.fit x);
      target = λ x slot t low e. omega (arith, k.cells.in_range x slot t low e, k.units.firsts_len);
      heads = λ x. omega (arith, k.units.in_range x, k.marked_len);
      named = lead_named i c.requires.marker first;
      fits = worklist i c.requires.marker first;
    })

pub blacken-requires : goal.blacken-requires
blacken-requires g c = let t = black_few c.next-head.ensures c.shade_unit.ensures in omega arith

pub named-requires : goal.named-requires
named-requires g c = rw c.deref-in-loop-self-5.ensures.value (head_named c.loop-self.invariant.slicing c.requires.marker c.next-head.ensures)

pub overflow_add-scanned : goal.overflow_add-scanned
overflow_add-scanned g c =
    let i = c.loop-self.invariant.slicing in
    let first = c.next-head.ensures in
    let size : c.index-size.result.now ≡ get_or c.loop-self.self-inside.sizes.items c.next-head.result 0 =
    get_or_read c.loop-self.self-inside.sizes.items _ _ (omega (arith, head_below i c.requires.marker first, i.sliced.shows.units.sizes_len)) c.index-size.ensures 0 in
    omega (
      arith,
      size,
      i.sliced.shows.units.small c.next-head.result,
      c.loop-self.invariant.small,
      first.few,
      i.sliced.shows.marked_len,
      g.S.Shape.lawful.few_items,
    )

pub loop-self-preserved : goal.loop-self-preserved
loop-self-preserved g c =
    let i = c.loop-self.invariant.slicing in
    let first = c.next-head.ensures in
    let size : c.index-size.result.now ≡ get_or c.loop-self.self-inside.sizes.items c.next-head.result 0 =
    get_or_read c.loop-self.self-inside.sizes.items _ _ (omega (arith, head_below i c.requires.marker first, i.sliced.shows.units.sizes_len)) c.index-size.ensures 0 in
    let sh =
    rw (
      c.deref.ensures.value,
      c.deref-in-loop-self.ensures.value,
      c.deref-in-loop-self-2.ensures.value,
      c.deref-in-loop-self-3.ensures.value,
      c.deref-in-loop-self-4.ensures.value,
      c.SLOTS.ensures,
      g.S.Shape.constants.slots,
      size,
    ) at c.shade_unit.ensures in
    let name = rw c.deref-in-loop-self-5.ensures.value at c.named.ensures in
    let black = black_is sh in
    rw (c.scanned.ensures, size, c.blacken.ensures) (record {
      small = omega (arith, black, i.sliced.shows.units.small c.next-head.result, c.loop-self.invariant.small);
      slicing = mark_scans i c.requires.marker first c.if-scanned-budget.true _ name sh;
    })

pub loop-self-smaller : goal.loop-self-smaller
loop-self-smaller g c =
    let black = black_is c.shade_unit.ensures in
    rw c.blacken.ensures (omega (arith, black, c.next-head.ensures.few, c.loop-self.invariant.slicing.sliced.shows.marked_len))

-- a slice ends early only where nothing is grey
early : (g : Over) (c : goal.After-slice g) → c.loop-self.scanned < c.args.budget → length c.loop-self.self-inside.colours.listed ≤ c.loop-self.self-inside.colours.scanned
early g c less = elim c.loop-self-test.branch [
  | then-loop-self-test+else-scanned-budget w ↦ absurd (omega (arith, w.if-scanned-budget.false, less))
  | else-loop-self-test w ↦ omega (arith, c.grey.ensures, w.loop-self-test.false)
]

pub invariant_of-self : goal.invariant_of-self
invariant_of-self g c = rw c.slice.ensures (slice_ends c.loop-self.invariant.slicing c.requires.marker _ c.stop_of.ensures (early g c)).plain

pub returns-clause-entries : goal.returns-clause-entries
returns-clause-entries g c = rw c.slice.ensures (slice_ends c.loop-self.invariant.slicing c.requires.marker _ c.stop_of.ensures (early g c)).entries

pub returns-clause-held : goal.returns-clause-held
returns-clause-held g c = rw c.slice.ensures (slice_held c.loop-self.invariant.slicing c.requires.marker _ c.stop_of.ensures (early g c))
