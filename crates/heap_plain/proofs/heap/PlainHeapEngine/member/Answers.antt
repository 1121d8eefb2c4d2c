use Rattle.std.proofs.Common.{◌≡◌, get_or, arith}
use Rattle.std.proofs.lemmas.List.{get_or_read}
use Rattle.heap_plain.specs.Parts.{first_at}
use Rattle.heap_plain.proofs.RootSteps.{index_below, head_below}
use Rattle.heap_plain.proofs.Members.{links_below, found_named, member_found}
use Rattle.heap_plain.proofs.heap.PlainHeapEngine.member.Goals as goal

pub index-size-requires : goal.index-size-requires
index-size-requires g c =
    let frame = rw (← c.self.view_is) at c.requires.frame in
    let held = rw (← c.self.view_is) at c.requires.at in
    let s = c.self.invariant.shows in
    let head : c.index-head.result.now ≡ first_at c.self.inside.firsts.items c.args.at.index =
    get_or_read c.self.inside.firsts.items _ _ (omega (arith, index_below c.self.invariant frame held, s.units.firsts_len)) c.index-head.ensures 0 in
    omega (arith, head, head_below c.self.invariant frame held, s.units.sizes_len, c.self.inside.sizes.ok.0)

pub member_at-requires : goal.member_at-requires
member_at-requires g c =
    let frame = rw (← c.self.view_is) at c.requires.frame in
    let held = rw (← c.self.view_is) at c.requires.at in
    let s = c.self.invariant.shows in
    let head : c.index-head.result.now ≡ first_at c.self.inside.firsts.items c.args.at.index =
    get_or_read c.self.inside.firsts.items _ _ (omega (arith, index_below c.self.invariant frame held, s.units.firsts_len)) c.index-head.ensures 0 in
    let size : c.index-size.result.now ≡ get_or c.self.inside.sizes.items (first_at c.self.inside.firsts.items c.args.at.index) 0 =
    get_or_read c.self.inside.sizes.items _ _ (omega (arith, head_below c.self.invariant frame held, s.units.sizes_len)) (rw head at c.index-size.ensures) 0 in
    rw (c.deref-2.ensures.value, head, size) (record { chain = links_below c.self.invariant frame held })

pub referred-requires : goal.referred-requires
referred-requires g c =
    let frame = rw (← c.self.view_is) at c.requires.frame in
    let held = rw (← c.self.view_is) at c.requires.at in
    let s = c.self.invariant.shows in
    let head : c.index-head.result.now ≡ first_at c.self.inside.firsts.items c.args.at.index =
    get_or_read c.self.inside.firsts.items _ _ (omega (arith, index_below c.self.invariant frame held, s.units.firsts_len)) c.index-head.ensures 0 in
    let size : c.index-size.result.now ≡ get_or c.self.inside.sizes.items (first_at c.self.inside.firsts.items c.args.at.index) 0 =
    get_or_read c.self.inside.sizes.items _ _ (omega (arith, head_below c.self.invariant frame held, s.units.sizes_len)) (rw head at c.index-size.ensures) 0 in
    rw (c.deref.ensures.value, c.member_at.ensures, c.deref-2.ensures.value, head, size) (found_named c.self.invariant frame held c.args.k)

pub returns-clause-member : goal.returns-clause-member
returns-clause-member g c =
    let frame = rw (← c.self.view_is) at c.requires.frame in
    let held = rw (← c.self.view_is) at c.requires.at in
    let s = c.self.invariant.shows in
    let head : c.index-head.result.now ≡ first_at c.self.inside.firsts.items c.args.at.index =
    get_or_read c.self.inside.firsts.items _ _ (omega (arith, index_below c.self.invariant frame held, s.units.firsts_len)) c.index-head.ensures 0 in
    let size : c.index-size.result.now ≡ get_or c.self.inside.sizes.items (first_at c.self.inside.firsts.items c.args.at.index) 0 =
    get_or_read c.self.inside.sizes.items _ _ (omega (arith, head_below c.self.invariant frame held, s.units.sizes_len)) (rw head at c.index-size.ensures) 0 in
    let refers = rw (c.deref.ensures.value, c.member_at.ensures, c.deref-2.ensures.value, head, size) at c.referred.ensures in
    rw (← c.self.view_is) (member_found c.self.invariant frame held c.args.k _ refers).0

pub returns-clause-given : goal.returns-clause-given
returns-clause-given g c =
    let frame = rw (← c.self.view_is) at c.requires.frame in
    let held = rw (← c.self.view_is) at c.requires.at in
    let s = c.self.invariant.shows in
    let head : c.index-head.result.now ≡ first_at c.self.inside.firsts.items c.args.at.index =
    get_or_read c.self.inside.firsts.items _ _ (omega (arith, index_below c.self.invariant frame held, s.units.firsts_len)) c.index-head.ensures 0 in
    let size : c.index-size.result.now ≡ get_or c.self.inside.sizes.items (first_at c.self.inside.firsts.items c.args.at.index) 0 =
    get_or_read c.self.inside.sizes.items _ _ (omega (arith, head_below c.self.invariant frame held, s.units.sizes_len)) (rw head at c.index-size.ensures) 0 in
    let refers = rw (c.deref.ensures.value, c.member_at.ensures, c.deref-2.ensures.value, head, size) at c.referred.ensures in
    rw (← c.self.view_is) (member_found c.self.invariant frame held c.args.k _ refers).1
