use Rattle.std.proofs.Common.{◌≡◌, refl, None, arith}
use Rattle.std.proofs.lemmas.List.{get_or_read}
use Rattle.heap_plain.specs.Parts.{target_at}
use Rattle.heap_plain.proofs.Resting.{keeps}
use Rattle.heap_plain.proofs.StrongSteps.{place_below, strong_named, strong_read}
use Rattle.heap_plain.proofs.heap.PlainHeapEngine.get_strong.Goals as goal

pub index-requires : goal.index-requires
index-requires g c =
    let frame = rw (← c.self.view_is) at c.requires.frame in
    let place = place_below c.self.invariant frame c.args.h c.requires.number in
    rw (c.STRONG.ensures, g.S.Shape.constants.strong) (omega (arith, place, c.self.inside.strong.ok.0))

pub referred-got-requires : goal.referred-got-requires
referred-got-requires g c =
    let frame = rw (← c.self.view_is) at c.requires.frame in
    let place = place_below c.self.invariant frame c.args.h c.requires.number in
    let cell : c.index.result.now ≡ target_at g.S.Shape.sizes.strong c.self.inside.strong.items c.args.lane c.args.h =
    get_or_read c.self.inside.strong.items _ _ place (rw (c.STRONG.ensures, g.S.Shape.constants.strong) at c.index.ensures) None in
    rw (c.deref.ensures.value, cell) (strong_named c.self.invariant frame c.args.h c.requires.number)

pub invariant_of-self : goal.invariant_of-self
invariant_of-self g c =
    let frame = rw (← c.self.view_is) at c.requires.frame in
    let place = place_below c.self.invariant frame c.args.h c.requires.number in
    let cell : c.index.result.now ≡ target_at g.S.Shape.sizes.strong c.self.inside.strong.items c.args.lane c.args.h =
    get_or_read c.self.inside.strong.items _ _ place (rw (c.STRONG.ensures, g.S.Shape.constants.strong) at c.index.ensures) None in
    let read = strong_read c.self.invariant frame c.args.h c.requires.number _ (rw (c.deref.ensures.value, cell) at c.referred-got.ensures) in
    rw (c.get_strong.ensures, c.name_of.ensures) read.done.plain

pub returns-clause-entries : goal.returns-clause-entries
returns-clause-entries g c =
    let frame = rw (← c.self.view_is) at c.requires.frame in
    let place = place_below c.self.invariant frame c.args.h c.requires.number in
    let cell : c.index.result.now ≡ target_at g.S.Shape.sizes.strong c.self.inside.strong.items c.args.lane c.args.h =
    get_or_read c.self.inside.strong.items _ _ place (rw (c.STRONG.ensures, g.S.Shape.constants.strong) at c.index.ensures) None in
    let read = strong_read c.self.invariant frame c.args.h c.requires.number _ (rw (c.deref.ensures.value, cell) at c.referred-got.ensures) in
    rw (← c.self.view_is, c.get_strong.ensures, c.name_of.ensures) read.done.entries

pub returns-clause-given : goal.returns-clause-given
returns-clause-given g c =
    let frame = rw (← c.self.view_is) at c.requires.frame in
    let place = place_below c.self.invariant frame c.args.h c.requires.number in
    let cell : c.index.result.now ≡ target_at g.S.Shape.sizes.strong c.self.inside.strong.items c.args.lane c.args.h =
    get_or_read c.self.inside.strong.items _ _ place (rw (c.STRONG.ensures, g.S.Shape.constants.strong) at c.index.ensures) None in
    let read = strong_read c.self.invariant frame c.args.h c.requires.number _ (rw (c.deref.ensures.value, cell) at c.referred-got.ensures) in
    rw (c.get_strong.ensures, c.name_of.ensures) read.given

pub returns-clause-held : goal.returns-clause-held
returns-clause-held g c = let entries = rw (← c.self.view_is) at (returns-clause-entries g c) in rw (← c.self.view_is) (keeps entries refl _)
