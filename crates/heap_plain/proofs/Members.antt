-- The members of the unit of an object that a lane holds.
use Rattle.std.proofs.Common.{◌≡◌, ℕ, ◌<◌, ◌≤◌, refl, sym, subst, ap, ◌∙◌, arith, Bool, cond, true, false, List, [], ◌∷◌, length, get_or, nat_lt, slice_get, Option, Some, None, IfSome, IsSome, is_some}
use Rattle.std.proofs.lemmas.Bool.Decides.{nat_tests}
use Rattle.std.proofs.lemmas.Option.{slice_get_past}
use Rattle.world_model.specs.NameLists.{has, first_member}
use Rattle.world_model.specs.World.{unit_of}
use Rattle.world_model.specs.Histories.{after, state_of}
use Rattle.world_model.specs.Engines.{IsInFrame, name_of}
use Rattle.world_model.proofs.Holding.{held_with_unit_holds}
use Rattle.heap_plain.specs.Types.{Name, Ref, Entry}
use Rattle.heap_plain.specs.Parts.{Parts, Holds, name_at, first_at}
use Rattle.heap_plain.specs.Listing.{chained, member_at}
use Rattle.heap_plain.specs.Storing.{Refers}
use Rattle.heap_plain.specs.Units.{StandsAt, AreLinked}
use Rattle.heap_plain.specs.Plain.{Shows, IsPlain}
use Rattle.heap_plain.proofs.Listings.{linked_name, linked_member}
use Rattle.heap_plain.proofs.Standing.{name_below}
use Rattle.heap_plain.proofs.RootSteps as root

module _ {z : _} {p : Parts} {h : List Entry} {l : ℕ} {at : Ref} (was : IsPlain z p h) (frame : IsInFrame z h l) (held : Holds record { history = h; names = p.names } l at) where
  abbrev s : Shows z p (state_of h)
  s = was.shows

  abbrev head : ℕ
  head = first_at p.firsts at.index

  abbrev size : ℕ
  size = get_or p.sizes head 0

  abbrev u : List Name
  u = root.u was frame held

  stands : StandsAt p.objects (after h).units head u
  stands = root.stands was frame held

  unit_is : unit_of (after h) at.name ≡ u
  unit_is = root.unit_is was frame held

  -- ---- the first one

  first_is : (n : Name) × (name_at p.names head ≡ Some n) × (first_member u ≡ Some n)
  first_is = go u stands.linked (root.member was frame held)
    where
      go : (v : List Name) → AreLinked p.names p.next head v → has v at.name ≡ true → (n : Name) × (name_at p.names head ≡ Some n) × (first_member v ≡ Some n)
      go [] linked e = absurd cc
      go (n ∷ v) linked e = (n, linked.0, refl)

  pub first_named : IsSome (name_at p.names head)
  first_named = ap (λ (o : Option Name). is_some o) first_is.1

  pub first_of_unit : (n : Name) → name_at p.names head ≡ Some n → first_member (unit_of (after h) at.name) ≡ Some n
  first_of_unit n e = ap first_member unit_is ∙ first_is.2 ∙ sym first_is.1 ∙ e

  -- ---- one by its number

  pub links_below : (k : ℕ) → k < size → chained p.next head k < length p.next
  links_below k b =
      let r = linked_member p.names p.next head u stands.linked k (omega (arith, stands.size)) in
      omega (arith, name_below p.names (chained p.next head k) r.0 r.1, s.names.items, s.units.links_len)

  module _ (k : ℕ) where
    abbrev found : Option ℕ
    found = member_at p.next head size k

    pub found_named : (t : ℕ) → found ≡ Some t → IsSome (name_at p.names t)
    found_named t = go (nat_lt k size) refl
      where
        go : (b : Bool) → nat_lt k size ≡ b → cond b (Some (chained p.next head k)) None ≡ Some t → IsSome (name_at p.names t)
        go false e there = absurd cc
        go true e there =
            let below : k < length u = (let z = stands.size in grind (arith, nat_tests, e, z)) in
            let r = linked_member p.names p.next head u stands.linked k below in
            let same : chained p.next head k ≡ t = cc in
            subst (λ (i : ℕ). IsSome (name_at p.names i)) same (ap (λ (o : Option Name). is_some o) r.1)

    -- what is found is the member, and held
    pub member_found : (got : Option Ref) → Refers p.names found got
        → (name_of got ≡ slice_get (unit_of (after h) at.name) k) × IfSome got (λ r. Holds record { history = h; names = p.names } l r)
    member_found got = go (nat_lt k size) refl got
      where
        go : (b : Bool) → nat_lt k size ≡ b → (got : Option Ref) → Refers p.names (cond b (Some (chained p.next head k)) None) got
            → (name_of got ≡ slice_get (unit_of (after h) at.name) k) × IfSome got (λ r. Holds record { history = h; names = p.names } l r)
        go false e None refers =
            let past : length u ≤ k = (let z = stands.size in grind (arith, nat_tests, e, z)) in
            (sym (ap (λ (v : List Name). slice_get v k) unit_is ∙ slice_get_past u k past), tt)
        go false e (Some r) refers = absurd refers
        go true e None refers = absurd refers
        go true e (Some r) refers =
            let below : k < length u = (let z = stands.size in grind (arith, nat_tests, e, z)) in
            let there : slice_get u k ≡ Some r.name = sym (linked_name p.names p.next head u stands.linked k below) ∙ refers.1 in
            let member = linked_member p.names p.next head u stands.linked k below in
            let same : member.0 ≡ r.name = (let a = member.1 in let b = refers.1 in cc) in
            let inside : has (unit_of (after h) at.name) r.name ≡ true = rw unit_is (subst (λ (n : Name). has u n ≡ true) same member.2) in
            let placed : name_at p.names r.index ≡ Some r.name = ap (name_at p.names) refers.0 ∙ refers.1 in (
              sym (ap (λ (v : List Name). slice_get v k) unit_is ∙ there),
              record {
                given = held_with_unit_holds z h was.legal l at.name r.name held.given inside;
                placed = placed;
                alone = λ j other. s.names.alone j r.index r.name other placed;
              },
            )
