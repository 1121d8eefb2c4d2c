-- Kinds and cells, while objects come and go, and cells that are written.
use Rattle.std.proofs.Common.{◌≡◌, ◌≢◌, ℕ, ◌+◌, ◌*◌, ◌<◌, ◌≤◌, refl, sym, subst, ap, ◌∙◌, arith, Bool, cond, true, false, List, length, get_or, Option, Some, None}
use Rattle.std.proofs.Math.ListN.{set}
use Rattle.std.proofs.Math.Logic.{dite}
use Rattle.std.proofs.Math.Decide.{ℕ_discrete, dec_le}
use Rattle.std.proofs.Math.Nat.{lt_of_not-le}
use Rattle.std.proofs.lemmas.List.{length-set, get_or-set_same, get_or-set_other}
use Rattle.world_model.specs.Sizes.{Sizes, item_count}
use Rattle.world_model.specs.NameLists.{same_name, set_at, set_name}
use Rattle.world_model.proofs.NameFacts.{same_name_true, same_name_refl, set_at_same}
use Rattle.heap_plain.specs.Types.{Name, Kind}
use Rattle.heap_plain.specs.declared.life.Life.{Life}
use Rattle.heap_plain.specs.Parts.{name_at, kind_at, target_at}
use Rattle.heap_plain.specs.Units.{NamesShow, LivesAt}
use Rattle.heap_plain.specs.Cells.{Aims, KindsShow, CellsShow}
use Rattle.heap_plain.proofs.WorldFacts.{set_at_other}
use Rattle.heap_plain.proofs.Fillings.{same_row, row_below}
use Rattle.heap_plain.proofs.Standing.{name_below}

-- ---- what a cell holds

pub aims_map : {names ns : List (Option Name)} {lives ls : List Life} (o : Option ℕ) (c : Option Name)
    → ((t : ℕ) (m : Name) → c ≡ Some m → LivesAt names lives t m → LivesAt ns ls t m) → Aims names lives o c → Aims ns ls o c
aims_map None None f a = tt
aims_map None (Some m) f a = absurd a
aims_map (Some t) None f a = absurd a
aims_map (Some t) (Some m) f a = f t m refl a

-- the object that a cell holds
pub aims_target : {names : List (Option Name)} {lives : List Life} (o : Option ℕ) (c : Option Name) (t : ℕ) → Aims names lives o c → o ≡ Some t → (m : Name) × (c ≡ Some m) × LivesAt names lives t m
aims_target None c t a e = absurd cc
aims_target (Some r) None t a e = absurd a
aims_target {names} {lives} (Some r) (Some m) t a e = (m, refl, subst (λ (x : ℕ). LivesAt names lives x m) (let s = e in cc) a)

-- the index of the object that a cell names
pub aims_name : {names : List (Option Name)} {lives : List Life} (o : Option ℕ) (c : Option Name) (m : Name) → Aims names lives o c → c ≡ Some m → (t : ℕ) × (o ≡ Some t) × LivesAt names lives t m
aims_name o None m a e = absurd cc
aims_name None (Some n) m a e = absurd a
aims_name {names} {lives} (Some t) (Some n) m a e = (t, refl, subst (λ (x : Name). LivesAt names lives t x) (let s = e in cc) a)

-- a cell that names an object is a reference cell
pub cell_ref : {z : Sizes} {names : List (Option Name)} {lives : List Life} {stored : List Kind} {targets : List (Option ℕ)} {plains : List ℕ}
    {kinds : ℕ → List Kind} {cell : Name → ℕ → Option Name} {plain : Name → ℕ → ℕ}
    → CellsShow z names lives stored targets plains kinds cell plain → (i : ℕ) (n : Name) (slot : ℕ) (m : Name) → LivesAt names lives i n → cell n slot ≡ Some m → slot < (kind_at stored i).refs
cell_ref {stored = stored} s i n slot m there e = dite (dec_le (kind_at stored i).refs slot)
    (λ (le : (kind_at stored i).refs ≤ slot). absurd (let none = s.no_more i n slot there le in cc))
    (λ (le : ¬ ((kind_at stored i).refs ≤ slot)). lt_of_not-le le)

-- and so one of the row
pub cell_below : {z : Sizes} {names : List (Option Name)} {lives : List Life} {stored : List Kind} {targets : List (Option ℕ)} {plains : List ℕ}
    {kinds : ℕ → List Kind} {cell : Name → ℕ → Option Name} {plain : Name → ℕ → ℕ}
    → KindsShow z names stored kinds → CellsShow z names lives stored targets plains kinds cell plain → (i : ℕ) (n : Name) (slot : ℕ) (m : Name)
    → LivesAt names lives i n → cell n slot ≡ Some m → slot < z.slots
cell_below {z} {stored = stored} ks s i n slot m there e = let b = cell_ref s i n slot m there e in omega (arith, ks.fit i)

-- ---- objects that go

-- where an object that is left lives as it did, and so do those that its cells name
pub cells_less : {z : Sizes} {names ns : List (Option Name)} {lives ls : List Life} {stored : List Kind} {targets : List (Option ℕ)} {plains : List ℕ}
    {kinds : ℕ → List Kind} {cell : Name → ℕ → Option Name} {plain : Name → ℕ → ℕ}
    → ((i : ℕ) (n : Name) → LivesAt ns ls i n → LivesAt names lives i n)
    → ((i : ℕ) (n : Name) (slot t : ℕ) (m : Name) → LivesAt ns ls i n → cell n slot ≡ Some m → LivesAt names lives t m → LivesAt ns ls t m)
    → CellsShow z names lives stored targets plains kinds cell plain → CellsShow z ns ls stored targets plains kinds cell plain
cells_less {z} {targets = targets} {cell = cell} was stays s = record {
  targets_len = s.targets_len;
  plains_len = s.plains_len;
  in_range = s.in_range;
  aims = λ i n slot there below. aims_map (target_at z.slots targets i slot) (cell n slot) (λ t m e. stays i n slot t m there e) (s.aims i n slot (was i n there) below);
  no_more = λ i n slot there. s.no_more i n slot (was i n there);
  numbers = λ i n slot there. s.numbers i n slot (was i n there);
  unmade_plain = s.unmade_plain;
}

-- ---- a value that is written

pub written_there : {A : Type 0} (f : Name → ℕ → A) (n : Name) (slot : ℕ) (v : A) → set_name f n (set_at (f n) slot v) n slot ≡ v
written_there f n slot v = let t = same_name_refl n in rw t (set_at_same (f n) slot v)

pub written_else : {A : Type 0} (f : Name → ℕ → A) (n m : Name) (slot s : ℕ) (v : A) → (m ≡ n → s ≡ slot → ⊥) → set_name f n (set_at (f n) slot v) m s ≡ f m s
written_else {A} f n m slot s v ne = go (same_name m n) refl
  where
    go : (b : Bool) → same_name m n ≡ b → cond b (set_at (f n) slot v) (f m) s ≡ f m s
    go false e = refl
    go true e = let same = same_name_true m n e in set_at_other (f n) slot s v (ne same) ∙ ap (λ (x : Name). f x s) (sym same)

module _ {z : Sizes} {names : List (Option Name)} {lives : List Life} {stored : List Kind} {targets : List (Option ℕ)} {plains : List ℕ}
    {kinds : ℕ → List Kind} {cell : Name → ℕ → Option Name} {plain : Name → ℕ → ℕ} (i : ℕ) (n : Name) (slot : ℕ)
    (ns : NamesShow z names kinds) (here : LivesAt names lives i n) (below : slot < z.slots) (s : CellsShow z names lives stored targets plains kinds cell plain) where
  abbrev place : ℕ
  place = i * z.slots + slot

  pub place_below : place < item_count z * z.slots
  place_below = row_below z.slots i (item_count z) slot (omega (arith, name_below names i n here.name, ns.items)) below

  -- another place is not this cell
  elsewhere : (j : ℕ) (m : Name) (k : ℕ) → LivesAt names lives j m → j * z.slots + k ≢ place → m ≡ n → k ≡ slot → ⊥
  elsewhere j m k there ne same at = ne (λ t. (ns.alone j i m there.name (here.name ∙ ap (λ (x : Name). Some x) (sym same))) t * z.slots + at t)

  made_it : n.count ≤ length (kinds n.lane)
  made_it = (ns.places i n here.name).few

  pub cells_write : (to : Option ℕ) (to_name : Option Name) → slot < (kind_at stored i).refs → Aims names lives to to_name → ((t : ℕ) → to ≡ Some t → t < item_count z)
      → CellsShow z names lives stored (set targets place to) plains kinds (set_name cell n (set_at (cell n) slot to_name)) plain
  cells_write to to_name is_ref aims range = record {
    targets_len = length-set targets place to ∙ s.targets_len;
    plains_len = s.plains_len;
    in_range = λ j k t low e. dite (ℕ_discrete (j * z.slots + k) place)
        (λ (at : j * z.slots + k ≡ place). range t (sym (get_or-set_same targets place to None inside) ∙ ap (λ (x : ℕ). get_or (set targets place to) x None) (sym at) ∙ e))
        (λ (ne : j * z.slots + k ≢ place). s.in_range j k t low (sym (get_or-set_other targets place (j * z.slots + k) to None ne) ∙ e));
    aims = λ j m k there low. dite (ℕ_discrete (j * z.slots + k) place)
        (λ (at : j * z.slots + k ≡ place). new_cell j m k there low at)
        (λ (ne : j * z.slots + k ≢ place).
        subst (λ (o : Option ℕ). Aims names lives o (set_name cell n (set_at (cell n) slot to_name) m k))
        (sym (get_or-set_other targets place (j * z.slots + k) to None ne))
        (subst (λ (c : Option Name). Aims names lives (target_at z.slots targets j k) c) (sym (written_else cell n m slot k to_name (elsewhere j m k there ne))) (s.aims j m k there low)));
    no_more = λ j m k there over. written_else cell n m slot k to_name (λ same at. absurd (beyond j m k there over same at)) ∙ s.no_more j m k there over;
    numbers = s.numbers;
    unmade_plain = s.unmade_plain;
  }
    where
      inside : place < length targets
      inside = omega (arith, place_below, s.targets_len)

      new_cell : (j : ℕ) (m : Name) (k : ℕ) → LivesAt names lives j m → k < z.slots → j * z.slots + k ≡ place
          → Aims names lives (target_at z.slots (set targets place to) j k) (set_name cell n (set_at (cell n) slot to_name) m k)
      new_cell j m k there low at =
          let row : j ≡ i = same_row z.slots j i k slot low below at in
          let rows : j * z.slots ≡ i * z.slots = ap (λ (x : ℕ). x * z.slots) row in
          let col : k ≡ slot = omega arith in
          let name : m ≡ n = (let a = sym (ap (name_at names) row) ∙ there.name in let b = here.name in cc) in
          let target : target_at z.slots (set targets place to) j k ≡ to = ap (λ (x : ℕ). get_or (set targets place to) x None) at ∙ get_or-set_same targets place to None inside in
          let value : set_name cell n (set_at (cell n) slot to_name) m k ≡ to_name = (λ t. set_name cell n (set_at (cell n) slot to_name) (name t) (col t)) ∙ written_there cell n slot to_name in
          subst (λ (o : Option ℕ). Aims names lives o (set_name cell n (set_at (cell n) slot to_name) m k)) (sym target)
          (subst (λ (c : Option Name). Aims names lives to c) (sym value) aims)

      beyond : (j : ℕ) (m : Name) (k : ℕ) → LivesAt names lives j m → (kind_at stored j).refs ≤ k → m ≡ n → k ≡ slot → ⊥
      beyond j m k there over same at =
          let row : j ≡ i = ns.alone j i m there.name (here.name ∙ ap (λ (x : Name). Some x) (sym same)) in
          let refs : (kind_at stored j).refs ≡ (kind_at stored i).refs = ap (λ (x : ℕ). (kind_at stored x).refs) row in
          omega arith

  pub numbers_write : (value : ℕ) → CellsShow z names lives stored targets (set plains place value) kinds cell (set_name plain n (set_at (plain n) slot value))
  numbers_write value = record {
    targets_len = s.targets_len;
    plains_len = length-set plains place value ∙ s.plains_len;
    in_range = s.in_range;
    aims = s.aims;
    no_more = s.no_more;
    numbers = λ j m k there low. dite (ℕ_discrete (j * z.slots + k) place)
        (λ (at : j * z.slots + k ≡ place).
        let row : j ≡ i = same_row z.slots j i k slot low below at in
        let rows : j * z.slots ≡ i * z.slots = ap (λ (x : ℕ). x * z.slots) row in
        let col : k ≡ slot = omega arith in
        let name : m ≡ n = (let a = sym (ap (name_at names) row) ∙ there.name in let b = here.name in cc) in
        ap (λ (x : ℕ). get_or (set plains place value) x 0) at ∙ get_or-set_same plains place value 0 (omega (arith, place_below, s.plains_len))
        ∙ sym ((λ t. set_name plain n (set_at (plain n) slot value) (name t) (col t)) ∙ written_there plain n slot value))
        (λ (ne : j * z.slots + k ≢ place).
        get_or-set_other plains place (j * z.slots + k) value 0 ne ∙ s.numbers j m k there low
        ∙ sym (written_else plain n m slot k value (elsewhere j m k there ne)));
    unmade_plain = λ m k more. written_else plain n m slot k value (λ same at.
        let count : m.count ≡ n.count = ap (λ (x : Name). x.count) same in
        let len : length (kinds m.lane) ≡ length (kinds n.lane) = ap (λ (x : Name). length (kinds x.lane)) same in
        absurd (omega (arith, made_it))) ∙ s.unmade_plain m k more;
  }
