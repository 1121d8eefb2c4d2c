use Rattle.std.proofs.Common.{◌≡◌, refl, None, arith}
use Rattle.std.proofs.lemmas.List.{get_or_read}
use Rattle.heap_plain.specs.Parts.{target_at}
use Rattle.heap_plain.proofs.Resting.{keeps}
use Rattle.heap_plain.proofs.Handing.{stored_index, stored_room}
use Rattle.heap_plain.proofs.StrongSteps.{place_below, strong_named, strong_writes}
use Rattle.heap_plain.proofs.heap.PlainHeapEngine.set_strong.Goals as goal

pub shade_target-requires : goal.shade_target-requires
shade_target-requires g c =
    let frame = rw (← c.self.view_is) at c.requires.frame in
    let to = rw (← c.self.view_is) at c.requires.to in
    rw (c.phase.ensures, c.deref.ensures.value) (record {
      index = stored_index c.self.invariant frame c.args.to to;
      heads = λ i. omega (arith, c.self.invariant.shows.units.in_range i, c.self.invariant.shows.marked_len);
      room = stored_room c.self.invariant frame c.args.to to;
    })

pub index-requires : goal.index-requires
index-requires g c =
    let frame = rw (← c.self.view_is) at c.requires.frame in
    let place = place_below c.self.invariant frame c.args.h c.requires.number in
    rw (c.STRONG.ensures, g.S.Shape.constants.strong) (omega (arith, place, c.self.inside.strong.ok.0))

pub referred-old-requires : goal.referred-old-requires
referred-old-requires g c =
    let frame = rw (← c.self.view_is) at c.requires.frame in
    let place = place_below c.self.invariant frame c.args.h c.requires.number in
    let cell : c.index.result.now ≡ target_at g.S.Shape.sizes.strong c.self.inside.strong.items c.args.lane c.args.h =
    get_or_read c.self.inside.strong.items _ _ place (rw (c.STRONG.ensures, g.S.Shape.constants.strong) at c.index.ensures) None in
    rw (c.deref-2.ensures.value, cell) (strong_named c.self.invariant frame c.args.h c.requires.number)

pub index_mut-requires : goal.index_mut-requires
index_mut-requires g c =
    let frame = rw (← c.self.view_is) at c.requires.frame in
    let place = place_below c.self.invariant frame c.args.h c.requires.number in
    rw (c.STRONG.ensures, g.S.Shape.constants.strong) (omega (arith, place, c.self.inside.strong.ok.0))

pub invariant_of-self : goal.invariant_of-self
invariant_of-self g c =
    let frame = rw (← c.self.view_is) at c.requires.frame in
    let place = place_below c.self.invariant frame c.args.h c.requires.number in
    let to = rw (← c.self.view_is) at c.requires.to in
    let cell : c.index.result.now ≡ target_at g.S.Shape.sizes.strong c.self.inside.strong.items c.args.lane c.args.h =
    get_or_read c.self.inside.strong.items _ _ place (rw (c.STRONG.ensures, g.S.Shape.constants.strong) at c.index.ensures) None in
    let refers = rw (c.deref-2.ensures.value, cell) at c.referred-old.ensures in
    let done = strong_writes c.self.invariant frame c.args.h c.requires.number _ refers c.args.to to (rw (c.phase.ensures, c.deref.ensures.value) at c.shade_target.ensures) in
    rw (c.set_strong.ensures, c.index_of.ensures, c.name_of.ensures, c.name_of-2.ensures, c.STRONG.ensures, g.S.Shape.constants.strong) done.done.plain

pub returns-clause-entries : goal.returns-clause-entries
returns-clause-entries g c =
    let frame = rw (← c.self.view_is) at c.requires.frame in
    let place = place_below c.self.invariant frame c.args.h c.requires.number in
    let to = rw (← c.self.view_is) at c.requires.to in
    let cell : c.index.result.now ≡ target_at g.S.Shape.sizes.strong c.self.inside.strong.items c.args.lane c.args.h =
    get_or_read c.self.inside.strong.items _ _ place (rw (c.STRONG.ensures, g.S.Shape.constants.strong) at c.index.ensures) None in
    let refers = rw (c.deref-2.ensures.value, cell) at c.referred-old.ensures in
    let done = strong_writes c.self.invariant frame c.args.h c.requires.number _ refers c.args.to to (rw (c.phase.ensures, c.deref.ensures.value) at c.shade_target.ensures) in
    rw (← c.self.view_is, c.set_strong.ensures, c.name_of.ensures, c.name_of-2.ensures) done.done.entries

pub returns-clause-given : goal.returns-clause-given
returns-clause-given g c =
    let frame = rw (← c.self.view_is) at c.requires.frame in
    let place = place_below c.self.invariant frame c.args.h c.requires.number in
    let to = rw (← c.self.view_is) at c.requires.to in
    let cell : c.index.result.now ≡ target_at g.S.Shape.sizes.strong c.self.inside.strong.items c.args.lane c.args.h =
    get_or_read c.self.inside.strong.items _ _ place (rw (c.STRONG.ensures, g.S.Shape.constants.strong) at c.index.ensures) None in
    let refers = rw (c.deref-2.ensures.value, cell) at c.referred-old.ensures in
    let done = strong_writes c.self.invariant frame c.args.h c.requires.number _ refers c.args.to to (rw (c.phase.ensures, c.deref.ensures.value) at c.shade_target.ensures) in
    rw (c.set_strong.ensures, c.name_of.ensures, c.name_of-2.ensures) done.given

pub returns-clause-held : goal.returns-clause-held
returns-clause-held g c = let entries = rw (← c.self.view_is) at (returns-clause-entries g c) in rw (← c.self.view_is) (keeps entries refl _)
