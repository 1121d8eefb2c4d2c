-- References that a call is given, and those that it hands out.
use Rattle.std.proofs.Common.{◌≡◌, ℕ, ◌<◌, refl, sym, ap, ◌∙◌, arith, true, false, List, [], ◌∷◌, ◌++◌, length, get_or, Option, Some, None, IfSome, option_map}
use Rattle.std.specs.Option.{option_to_list}
use Rattle.world_model.specs.Sizes.{Sizes, item_count}
use Rattle.world_model.specs.NameLists.{has}
use Rattle.world_model.specs.State.{Holds as HoldsName}
use Rattle.world_model.specs.LaneSteps.{IsShaded}
use Rattle.world_model.specs.Histories.{Legal, state_of}
use Rattle.world_model.specs.Next.{given}
use Rattle.world_model.specs.Engines.{IsInFrame, name_of}
use Rattle.world_model.proofs.NameFacts.{same_name_refl}
use Rattle.world_model.proofs.Giving.{given_is_held_holds}
use Rattle.heap_plain.specs.Types.{Name, Ref, Lane, Act, Entry}
use Rattle.heap_plain.specs.declared.life.Life.{Life}
use Rattle.heap_plain.specs.Parts.{Parts, Holds, name_at, first_at}
use Rattle.heap_plain.specs.Shading.{must_shade}
use Rattle.heap_plain.specs.Storing.{Refers}
use Rattle.heap_plain.specs.Cells.{Aims}
use Rattle.heap_plain.specs.Plain.{Shows, IsPlain}
use Rattle.heap_plain.proofs.Entries.{Done}
use Rattle.heap_plain.proofs.RootSteps as root

-- a reference to the object that a cell holds has the name that the cell names
pub refers_name : (names : List (Option Name)) (lives : List Life) (o : Option ℕ) (c : Option Name) (r : Option Ref) → Aims names lives o c → Refers names o r → name_of r ≡ c
refers_name names lives None None None a e = refl
refers_name names lives None None (Some r) a e = absurd e
refers_name names lives None (Some n) r a e = absurd a
refers_name names lives (Some t) None r a e = absurd a
refers_name names lives (Some t) (Some n) None a e = absurd e
refers_name names lives (Some t) (Some n) (Some r) a e = let x = a.name in let y = e.1 in cc

-- what a call does that hands out a reference
pub record Gives (z : Sizes) (q : Parts) (old new : List Entry) (lane : ℕ) (a : Act) (got : Option Ref) : Type 0 where
  pub done : Done z q old new (Lane lane) a
  pub given : IfSome got (λ r. Holds record { history = new; names = q.names } lane r)

-- its name is among those that its entry gives
pub gives_it : (got : Option Ref) (r : Ref) → got ≡ Some r → has (option_to_list (name_of got)) r.name ≡ true
gives_it None r e = absurd cc
gives_it (Some q) r e = let same : q ≡ r = cc in rw (ap (λ (x : Ref). x.name) same, same_name_refl r.name) refl

abbrev pub index_of : Option Ref → Option ℕ
index_of to = option_map (λ r. r.index) to

module _ {z : Sizes} {p : Parts} {h : List Entry} {l : ℕ} (was : IsPlain z p h) (frame : IsInFrame z h l) where
  abbrev s : Shows z p (state_of h)
  s = was.shows

  -- a reference that is given is held
  pub given_held : (o : Option ℕ) (got : Option Ref) (old : List Entry) (a : Act) → Legal z (old ++ record { pass = Lane l; act = a } ∷ [])
      → ((r : Ref) → got ≡ Some r → has (given l a) r.name ≡ true) → Refers p.names o got
      → IfSome got (λ r. Holds record { history = old ++ record { pass = Lane l; act = a } ∷ []; names = p.names } l r)
  given_held o None old a legal gives e = tt
  given_held None (Some r) old a legal gives e = absurd e
  given_held (Some t) (Some r) old a legal gives e = record {
    given = (given_is_held_holds z old l a legal r.name (gives r refl)).0;
    placed = ap (name_at p.names) e.0 ∙ e.1;
    alone = λ j there. s.names.alone j r.index r.name there (ap (name_at p.names) e.0 ∙ e.1);
  }

  -- what is stored is held
  abbrev pub Stored : Option Ref → Type 0
  Stored to = IfSome to (λ r. Holds record { history = h; names = p.names } l r)

  pub stored_aims : (to : Option Ref) → Stored to → Aims p.names p.lives (index_of to) (name_of to)
  stored_aims None k = tt
  stored_aims (Some r) k = root.here was frame k

  pub stored_below : (to : Option Ref) → Stored to → (t : ℕ) → index_of to ≡ Some t → t < item_count z
  stored_below None k t e = absurd cc
  stored_below (Some r) k t e = let same : r.index ≡ t = (let x = e in cc) in omega (arith, root.index_below was frame k)

  pub stored_names : (to : Option Ref) → Stored to → IfSome (name_of to) (λ m. HoldsName (state_of h) l m)
  stored_names None k = tt
  stored_names (Some r) k = k.given

  -- where nothing has to be marked, it is
  pub stored_shaded : (to : Option Ref) → Stored to → must_shade p.phase p.firsts p.marked to ≡ false → IsShaded (state_of h) (name_of to)
  stored_shaded None k e m = tt
  stored_shaded (Some r) k e m = sym (root.marked_is was frame k (s.phase ∙ m)) ∙ root.need_not p.phase (get_or p.marked (first_at p.firsts r.index) false) e (s.phase ∙ m)

  -- what a store needs of the one to which it stores
  pub stored_index : (to : Option Ref) → Stored to → IfSome to (λ r. r.index < length p.firsts)
  stored_index None k = tt
  stored_index (Some r) k = omega (arith, root.index_below was frame k, s.units.firsts_len)

  pub stored_room : (to : Option Ref) → Stored to → must_shade p.phase p.firsts p.marked to ≡ true → length p.listed < length p.marked
  stored_room None k e = absurd cc
  stored_room (Some r) k e = let d = root.must p.phase (get_or p.marked (first_at p.firsts r.index) false) e in root.has_room was frame k d.0 d.1
