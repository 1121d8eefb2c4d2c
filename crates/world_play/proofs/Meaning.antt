-- What the values of an outcome stand for: the pairs of weak variables, and the words of plain cells.
use Rattle.std.proofs.Common.{◌≡◌, ℕ, ◌+◌, ◌*◌, ◌/◌, ◌%◌, ◌<◌, ◌≤◌, ◌==◌, zero, suc, refl, sym, subst, ap, ◌∙◌, inl, inr, arith, Bool, cond, true, false, not, ◌&&◌, ◌⊎◌, List, [], ◌∷◌, ◌++◌, length, Option, Some, None, option_map, Result, Ok, Err}
use Rattle.std.specs.Prelude.{nat_lt, slice_get, if◌then◌else◌}
use Rattle.std.specs.List.{find}
use Rattle.std.proofs.lemmas.Bool.{both_ways, false_from_ne_true, eqb-true, eq-eqb}
use Rattle.std.proofs.lemmas.Bool.Decides.{nat_tests}
use Rattle.word_layout.specs.Values.{weak_word}
use Rattle.world_model.specs.Sizes.{Sizes, IsLawful}
use Rattle.world_model.specs.NameLists.{same_name, same_weak, set_at, set_name}
use Rattle.world_model.specs.World.{World, Pair, in_world, is_given, resolved}
use Rattle.world_model.specs.World as world
use Rattle.world_model.specs.Histories.{after, Legal}
use Rattle.world_model.proofs.ListFacts.{Among}
use Rattle.world_model.proofs.NameFacts.{same_name_true, same_name_refl}
use Rattle.world_model.proofs.Queues.{find_some}
use Rattle.world_model.proofs.Pairs.{ArePairs, pairs, pair_found, has_pair, pair_gives, no_pair_gives, same_weak_true, same_weak_refl}
use Rattle.class_schema.specs.Class.{Schema}
use Rattle.class_schema.specs.Layout.{Placed, as_field, slot_of}
use Rattle.class_schema.specs.Lawful.{IsSchema}
use Rattle.class_schema.specs.Laws.{Element}
use Rattle.class_schema.specs.Table.{placed_fields, is_called, find_field}
use Rattle.class_schema.proofs.Laying.{laid_out_holds}
use Rattle.world_play.specs.Header.{Header}
use Rattle.world_play.specs.Types.{Name, Weak, ClassId, Kind, Reply, Spot, Field, FieldKind}
use Rattle.world_play.specs.Types.field
use Rattle.world_play.specs.Pairs.{no_pair, pair_in, has_serial}
use Rattle.world_play.specs.Spots.{Kinds, is_int, is_weak, kind_at, field_of, slot_at, element_at, spot_at}
use Rattle.world_play.specs.Spots as spots
use Rattle.world_play.specs.Values.{Value, Nothing, Number, Own, Forged, number_of, pair_of, is_pair, same_value}
use Rattle.world_play.specs.Outcome.{given}
use Rattle.world_play.proofs.Removing.{scene_of, same_test}

-- ---- words

-- a pair is read from its word
pub pair_word : (p : Weak) → p.index < 4294967296 → pair_in (weak_word p) ≡ p
pair_word p small =
    let index : weak_word p % 4294967296 ≡ p.index = omega (arith, small) in
    let serial : weak_word p / 4294967296 ≡ p.serial = omega (arith, small) in
    λ i. record { index = index i; serial = serial i }

-- so a word has one pair
pub word_pair : (word : ℕ) (p : Weak) → p.index < 4294967296 → weak_word p ≡ word → p ≡ pair_in word
word_pair word p small e = sym (pair_word p small) ∙ ap pair_in e

-- ---- pairs

-- the pair of a weak variable has this value, where these pairs were made
abbrev pub Means : List Pair → Weak → Value → Type 0
Means made pair Nothing = pair ≡ no_pair
Means made pair (Number n) = ⊥
Means made pair (Own n) = (p : Pair) × Among made p × (p.name ≡ n) × (p.weak ≡ pair)
Means made pair (Forged index) = (pair ≡ record { index = index; serial = 31 }) × (index < 4294967296)

pub means_more : (made more : List Pair) (pair : Weak) (v : Value) → ((p : Pair) → Among made p → Among more p) → Means made pair v → Means more pair v
means_more made more pair Nothing keeps h = h
means_more made more pair (Number n) keeps h = h
means_more made more pair (Own n) keeps (p, k, name, is) = (p, keeps p k, name, is)
means_more made more pair (Forged index) keeps h = h

-- its index is below 2^32 where those of the made pairs are
pub means_small : (made : List Pair) (pair : Weak) (v : Value) → ((p : Pair) → Among made p → p.weak.index < 4294967296) → Means made pair v → pair.index < 4294967296
means_small made pair Nothing small h = let e : pair.index ≡ 0 = ap (λ (w : Weak). w.index) h in omega (arith, e)
means_small made pair (Number n) small h = absurd h
means_small made pair (Own n) small (p, k, name, is) = let e : p.weak.index ≡ pair.index = ap (λ (w : Weak). w.index) is in omega (arith, e, small p k)
means_small made pair (Forged index) small h = let e : pair.index ≡ index = ap (λ (w : Weak). w.index) h.0 in omega (arith, e, h.1)

-- what the pairs of a world give
pub record Points (z : Sizes) (w : World) : Type 0 where
  pub are : ArePairs z w
  pub gives : (n : Name) (pair : Weak) → world.pair_of w n ≡ Some pair → resolved w pair ≡ (if is_given w n then Some n else None)
  pub none : (pair : Weak) → ((n : Name) → in_world w n ≡ true → world.pair_of w n ≡ Some pair → ⊥) → resolved w pair ≡ None

pub points : (z : Sizes) → IsLawful z → (history : List _) → Legal z history → Points z (after history)
points z lawful history legal = record { are = pairs z lawful history legal; gives = pair_gives z lawful history legal; none = no_pair_gives z lawful history legal }

apart : (a b : Weak) → (a.serial ≡ b.serial → ⊥) → same_weak a b ≡ false
apart a b other = false_from_ne_true (same_weak a b) (λ t. other (ap (λ (w : Weak). w.serial) (same_weak_true a b t)))

both_true : (b : Bool) → (b && true) ≡ b
both_true true = refl
both_true false = refl

module _ (z : Sizes) (lawful : IsLawful z) (w : World) (h : Points z w) where
  -- no pair that was made has serial 0 or 31
  some_serial : (p : Pair) → Among w.pairs p → 0 < p.weak.serial
  some_serial p k = let s = h.are.serials p k in omega (arith, s.2)

  own_serial : (p : Pair) → Among w.pairs p → p.weak.serial ≡ 31 → ⊥
  own_serial p k e = let s = h.are.serials p k in omega (arith, s.2, e, h.are.lanes p k, lawful.few_lanes)

  serial_of : (p : Pair) (pair : Weak) → p.weak ≡ pair → p.weak.serial ≡ pair.serial
  serial_of p pair is = ap (λ (x : Weak). x.serial) is

  -- a value tells whether there is a serial
  pub serial_told : (pair : Weak) (v : Value) → Means w.pairs pair v → has_serial pair ≡ is_pair v
  serial_told pair Nothing m = ap has_serial m
  serial_told pair (Number n) m = absurd m
  serial_told pair (Own n) (p, k, name, is) = let some = some_serial p k in let t : has_serial p.weak ≡ true = grind (arith, nat_tests, some) in ap has_serial (sym is) ∙ t
  serial_told pair (Forged index) m = ap has_serial m.0

  -- and whether two pairs are the same
  pub same_told : (a b : Weak) (u v : Value) → Means w.pairs a u → Means w.pairs b v → same_weak a b ≡ same_value u v
  same_told a b (Number n) v m k = absurd m
  same_told a b u (Number n) m k = absurd k
  same_told a b Nothing Nothing m k = λ i. same_weak (m i) (k i)
  same_told a b Nothing (Own n) m (p, k, name, is) =
      apart a b (λ e. let zero_serial : a.serial ≡ 0 = ap (λ (x : Weak). x.serial) m in omega (arith, e, zero_serial, serial_of p b is, some_serial p k))
  same_told a b Nothing (Forged j) m k =
      let zero_serial : a.serial ≡ 0 = ap (λ (x : Weak). x.serial) m in
      apart a b (λ e. let s : b.serial ≡ 31 = ap (λ (x : Weak). x.serial) k.0 in omega (arith, e, zero_serial, s))
  same_told a b (Own n) Nothing (p, k, name, is) m =
      apart a b (λ e. let zero_serial : b.serial ≡ 0 = ap (λ (x : Weak). x.serial) m in omega (arith, e, zero_serial, serial_of p a is, some_serial p k))
  same_told a b (Own n) (Own m) (p, k, name, is) (q, l, called, has) = same_test (same_weak a b) (same_name n m)
      (λ t. let one : p ≡ q = h.are.by_serial p q k l (serial_of p a is ∙ ap (λ (x : Weak). x.serial) (same_weak_true a b t) ∙ sym (serial_of q b has)) in
      subst (λ (x : Name). same_name n x ≡ true) (sym name ∙ ap (λ (x : Pair). x.name) one ∙ called) (same_name_refl n))
      (λ t. let one : p ≡ q = h.are.by_name p q k l (name ∙ same_name_true n m t ∙ sym called) in
      subst (λ (x : Weak). same_weak a x ≡ true) (sym is ∙ ap (λ (x : Pair). x.weak) one ∙ has) (same_weak_refl a))
  same_told a b (Own n) (Forged j) (p, k, name, is) m = apart a b (λ e. own_serial p k (serial_of p a is ∙ e ∙ ap (λ (x : Weak). x.serial) m.0))
  same_told a b (Forged i) Nothing m k =
      let zero_serial : b.serial ≡ 0 = ap (λ (x : Weak). x.serial) k in
      apart a b (λ e. let s : a.serial ≡ 31 = ap (λ (x : Weak). x.serial) m.0 in omega (arith, e, zero_serial, s))
  same_told a b (Forged i) (Own n) m (p, k, name, is) = apart a b (λ e. own_serial p k (serial_of p b is ∙ sym e ∙ ap (λ (x : Weak). x.serial) m.0))
  same_told a b (Forged i) (Forged j) m k = (λ t. same_weak (m.0 t) (k.0 t)) ∙ both_true (i == j)

  -- and which object the pair gives
  nothing_given : (pair : Weak) → ((p : Pair) → Among w.pairs p → p.weak.serial ≡ pair.serial → ⊥) → resolved w pair ≡ None
  nothing_given pair other = h.none pair (λ n lives e. let found = pair_found w n pair e in other found.0 found.1 (serial_of found.0 pair found.3))

  pub given_told : ((n : Name) → w.garbage n ≡ false) → (pair : Weak) (v : Value) → Means w.pairs pair v → resolved w pair ≡ given (scene_of w) v
  given_told valid pair Nothing m = nothing_given pair (λ p k e. let s : pair.serial ≡ 0 = ap (λ (x : Weak). x.serial) m in omega (arith, e, s, some_serial p k))
  given_told valid pair (Number n) m = absurd m
  given_told valid pair (Own n) (p, k, name, is) =
      let own : world.pair_of w n ≡ Some pair = ap (world.pair_of w) (sym name) ∙ has_pair h.are p k ∙ ap Some is in
      h.gives n pair own ∙ ap (λ (b : Bool). if in_world w n && not b then Some n else None) (valid n) ∙ ap (λ (b : Bool). if b then Some n else None) (both_true (in_world w n))
  given_told valid pair (Forged index) m = nothing_given pair (λ p k e. own_serial p k (e ∙ ap (λ (x : Weak). x.serial) m.0))

-- ---- plain cells

-- the slot is that of an element of a field of a kind that is wanted
pub record IsCell (h : Header) (kinds : Kinds) (n : Name) (slot : ℕ) (wanted : FieldKind → Bool) : Type 0 where
  pub kind : Kind
  pub at : kind_at kinds n ≡ Some kind
  pub name : List ℕ
  pub field : Field
  pub found : find_field h.classes kind.class name ≡ Some field
  pub is : wanted field.kind ≡ true
  pub element : ℕ
  pub within : element < field.count
  pub slot_is : slot_at field element ≡ slot

-- so is the slot of an element that a spot stands for
pub cell_of : (h : Header) (kinds : Kinds) (lane : ℕ) (wanted : FieldKind → Bool) (at : Option Name) (spot : Spot) (e : spots.Element) → spot_at h kinds lane wanted at spot ≡ Ok e
    → IsCell h kinds e.at e.slot wanted
cell_of h kinds lane wanted None spot e is = absurd cc
cell_of h kinds lane wanted (Some at) spot e is = go (kind_at kinds at) refl (slice_get h.fields spot.field) is
  where
    cell : (kind : Kind) (name : List ℕ) (f : Field) (q r : Reply) → kind_at kinds at ≡ Some kind → find_field h.classes kind.class name ≡ Some f
        → (a b : Bool) → wanted f.kind ≡ a → nat_lt spot.element f.count ≡ b
        → cond a (cond b (Ok (record { at = at; slot = slot_at f spot.element; kind = f.kind })) (Err q)) (Err r) ≡ Ok e → IsCell h kinds e.at e.slot wanted
    cell kind name f q r k found true true w t same =
        let one : record { at = at; slot = slot_at f spot.element; kind = f.kind } ≡ e = cc in
        subst (λ (x : spots.Element). IsCell h kinds x.at x.slot wanted) one
        (record { kind = kind; at = k; name = name; field = f; found = found; is = w; element = spot.element; within = grind (arith, nat_tests, t); slot_is = refl })
    cell kind name f q r k found true false w t same = absurd cc
    cell kind name f q r k found false b w t same = absurd cc

    go : (k : Option Kind) → kind_at kinds at ≡ k → (name : Option (List ℕ)) → element_at lane at wanted (field_of h k name) spot.element ≡ Ok e → IsCell h kinds e.at e.slot wanted
    go None k name same = absurd cc
    go (Some kind) k None same = absurd cc
    go (Some kind) k (Some name) same = placed (find_field h.classes kind.class name) refl same
      where
        placed : (f : Option Field) → find_field h.classes kind.class name ≡ f → element_at lane at wanted f spot.element ≡ Ok e → IsCell h kinds e.at e.slot wanted
        placed None found same = absurd cc
        placed (Some f) found same = cell kind name f _ _ k found (wanted f.kind) (nat_lt spot.element f.count) refl refl same

-- an object keeps its cells as others are made
pub cell_more : (h : Header) (kinds more : Kinds) (n : Name) (slot : ℕ) (wanted : FieldKind → Bool)
    → ((m : Name) (k : Kind) → kind_at kinds m ≡ Some k → kind_at more m ≡ Some k) → IsCell h kinds n slot wanted → IsCell h more n slot wanted
cell_more h kinds more n slot wanted keeps c =
    record { kind = c.kind; at = keeps n c.kind c.at; name = c.name; field = c.field; found = c.found; is = c.is; element = c.element; within = c.within; slot_is = c.slot_is }

among_at : {A : Type 0} (xs : List A) (x : A) → Among xs x → (i : ℕ) × (slice_get xs i ≡ Some x)
among_at [] x k = absurd k
among_at (y ∷ xs) x (inl same) = (0, ap Some same)
among_at (y ∷ xs) x (inr k) = let found = among_at xs x k in (suc found.0, found.1)

-- a field that is found is one of the fields of the class
found_at : (t : Schema) (class : ClassId) (name : List ℕ) (f : Field) → find_field t class name ≡ Some f
    → (place : ℕ) × (p : Placed) × (slice_get (placed_fields t class) place ≡ Some p) × (as_field p ≡ f)
unfolding find_field
found_at t class name f e = go (find (λ placed. is_called name placed.declared) (placed_fields t class)) refl e
  where
    go : (o : Option Placed) → find (λ placed. is_called name placed.declared) (placed_fields t class) ≡ o → option_map as_field o ≡ Some f
        → (place : ℕ) × (p : Placed) × (slice_get (placed_fields t class) place ≡ Some p) × (as_field p ≡ f)
    go None found is = absurd cc
    go (Some p) found is =
        let k = find_some (λ placed. is_called name placed.declared) (placed_fields t class) p found in
        let at = among_at (placed_fields t class) p k.0 in
        (at.0, p, at.1, cc)

-- the element of a cell, among the elements of the class
element_of : (h : Header) (kinds : Kinds) (n : Name) (slot : ℕ) (wanted : FieldKind → Bool) (c : IsCell h kinds n slot wanted)
    → (d : Element h.classes c.kind.class) × (slot_of d.field d.element ≡ slot) × (wanted d.field.declared.kind ≡ true)
element_of h kinds n slot wanted c =
    let f = found_at h.classes c.kind.class c.name c.field c.found in
    let p : Placed = f.1 in (
      record { place = f.0; field = p; is = f.2; element = c.element; within = subst (λ (x : Field). c.element < x.count) (sym f.3) c.within },
      ap (λ (x : Field). slot_at x c.element) f.3 ∙ c.slot_is,
      ap (λ (x : Field). wanted x.kind) f.3 ∙ c.is,
    )

same_some : {A : Type 0} (x y : A) → Some x ≡ Some y → x ≡ y
same_some x y e = cc

not_both : (k : FieldKind) → is_int k ≡ true → is_weak k ≡ true → ⊥
not_both (field.Ref class) a b = cc
not_both field.Weak a b = cc
not_both field.Int a b = cc

-- a cell is not one of a number and one of a weak pointer
apart_kinds : (h : Header) (kinds : Kinds) (n : Name) (slot : ℕ) → IsSchema h.classes → ((k : Kind) → kind_at kinds n ≡ Some k → k.class.0 < length h.classes.classes)
    → IsCell h kinds n slot is_int → IsCell h kinds n slot is_weak → ⊥
apart_kinds h kinds n slot schema known c d = go d.kind (same_some c.kind d.kind (sym c.at ∙ d.at)) (element_of h kinds n slot is_weak d)
  where
    e : (x : Element h.classes c.kind.class) × (slot_of x.field x.element ≡ slot) × (is_int x.field.declared.kind ≡ true)
    e = element_of h kinds n slot is_int c

    go : (k : Kind) → c.kind ≡ k → (x : Element h.classes k.class) × (slot_of x.field x.element ≡ slot) × (is_weak x.field.declared.kind ≡ true) → ⊥
    go k same f = at (subst (λ (k : Kind). (x : Element h.classes k.class) × (slot_of x.field x.element ≡ slot) × (is_weak x.field.declared.kind ≡ true)) (sym same) f)
      where
        at : (x : Element h.classes c.kind.class) × (slot_of x.field x.element ≡ slot) × (is_weak x.field.declared.kind ≡ true) → ⊥
        at g =
            let places = (laid_out_holds h.classes schema c.kind.class (known c.kind c.at)).apart e.0 g.0 (e.1 ∙ sym g.1) in
            let one : e.0.field ≡ g.0.field =
            same_some e.0.field g.0.field (sym e.0.is ∙ ap (slice_get (placed_fields h.classes c.kind.class)) places.0 ∙ g.0.is) in
            not_both g.0.field.declared.kind (ap (λ (p : Placed). is_int p.declared.kind) (sym one) ∙ e.2) g.2

-- the word in a cell has this value
abbrev pub Has : Header → Kinds → List Pair → Name → ℕ → ℕ → Value → Type 0
Has h kinds made n slot word Nothing = word ≡ 0
Has h kinds made n slot word (Number v) = (word ≡ v) × IsCell h kinds n slot is_int
Has h kinds made n slot word (Own m) = Means made (pair_in word) (Own m) × IsCell h kinds n slot is_weak
Has h kinds made n slot word (Forged index) = Means made (pair_in word) (Forged index) × IsCell h kinds n slot is_weak

has_more : (h : Header) (kinds more : Kinds) (made new : List Pair) (n : Name) (slot word : ℕ) (v : Value)
    → ((m : Name) (k : Kind) → kind_at kinds m ≡ Some k → kind_at more m ≡ Some k) → ((p : Pair) → Among made p → Among new p)
    → Has h kinds made n slot word v → Has h more new n slot word v
has_more h kinds more made new n slot word Nothing keeps grows c = c
has_more h kinds more made new n slot word (Number v) keeps grows c = (c.0, cell_more h kinds more n slot is_int keeps c.1)
has_more h kinds more made new n slot word (Own m) keeps grows c = (means_more made new (pair_in word) (Own m) grows c.0, cell_more h kinds more n slot is_weak keeps c.1)
has_more h kinds more made new n slot word (Forged index) keeps grows c = (c.0, cell_more h kinds more n slot is_weak keeps c.1)

-- a number is read
pub number_told : (h : Header) (kinds : Kinds) (made : List Pair) (n : Name) (slot word : ℕ) (v : Value) → IsSchema h.classes
    → ((k : Kind) → kind_at kinds n ≡ Some k → k.class.0 < length h.classes.classes) → IsCell h kinds n slot is_int → Has h kinds made n slot word v → word ≡ number_of v
number_told h kinds made n slot word Nothing schema known cell c = c
number_told h kinds made n slot word (Number v) schema known cell c = c.0
number_told h kinds made n slot word (Own m) schema known cell c = absurd (apart_kinds h kinds n slot schema known cell c.1)
number_told h kinds made n slot word (Forged index) schema known cell c = absurd (apart_kinds h kinds n slot schema known cell c.1)

-- a pair is read
pub pair_told : (h : Header) (kinds : Kinds) (made : List Pair) (n : Name) (slot word : ℕ) (v : Value) → IsSchema h.classes
    → ((k : Kind) → kind_at kinds n ≡ Some k → k.class.0 < length h.classes.classes) → IsCell h kinds n slot is_weak → Has h kinds made n slot word v → Means made (pair_in word) (pair_of v)
pair_told h kinds made n slot word Nothing schema known cell c = ap pair_in c
pair_told h kinds made n slot word (Number v) schema known cell c = absurd (apart_kinds h kinds n slot schema known c.1 cell)
pair_told h kinds made n slot word (Own m) schema known cell c = c.0
pair_told h kinds made n slot word (Forged index) schema known cell c = c.0

pub is_pair_of : (v : Value) → is_pair (pair_of v) ≡ is_pair v
is_pair_of Nothing = refl
is_pair_of (Number n) = refl
is_pair_of (Own n) = refl
is_pair_of (Forged index) = refl

-- a pair is written
pub has_word : (h : Header) (kinds : Kinds) (made : List Pair) (n : Name) (slot : ℕ) (pair : Weak) (v : Value) → pair.index < 4294967296
    → IsCell h kinds n slot is_weak → Means made pair v → Has h kinds made n slot (weak_word pair) v
has_word h kinds made n slot pair Nothing small cell m = ap weak_word m
has_word h kinds made n slot pair (Number v) small cell m = absurd m
has_word h kinds made n slot pair (Own o) small cell m = (subst (λ (p : Weak). Means made p (Own o)) (sym (pair_word pair small)) m, cell)
has_word h kinds made n slot pair (Forged index) small cell m = (subst (λ (p : Weak). Means made p (Forged index)) (sym (pair_word pair small)) m, cell)

-- ---- all of them

-- these are the values of the weak variables and of the plain cells
pub record IsBeside (h : Header) (kinds : Kinds) (made : List Pair) (plain : Name → ℕ → ℕ) (weaks : ℕ → Weak) (values : ℕ → Value) (cells : Name → ℕ → Value) : Type 0 where
  pub weaks_mean : (weak : ℕ) → Means made (weaks weak) (values weak)
  pub cells_have : (n : Name) (slot : ℕ) → Has h kinds made n slot (plain n slot) (cells n slot)

module _ (h : Header) (kinds : Kinds) (made : List Pair) (plain : Name → ℕ → ℕ) (weaks : ℕ → Weak) (values : ℕ → Value) (cells : Name → ℕ → Value)
    (b : IsBeside h kinds made plain weaks values cells) where
  -- objects and pairs are made
  pub beside_more : (more : Kinds) (new : List Pair) → ((m : Name) (k : Kind) → kind_at kinds m ≡ Some k → kind_at more m ≡ Some k)
      → ((p : Pair) → Among made p → Among new p) → IsBeside h more new plain weaks values cells
  beside_more more new keeps grows = record {
    weaks_mean = λ weak. means_more made new (weaks weak) (values weak) grows (b.weaks_mean weak);
    cells_have = λ n slot. has_more h kinds more made new n slot (plain n slot) (cells n slot) keeps grows (b.cells_have n slot);
  }

  -- a weak variable gets a pair
  pub beside_weak : (weak : ℕ) (pair : Weak) (v : Value) → Means made pair v → IsBeside h kinds made plain (set_at weaks weak pair) (set_at values weak v) cells
  beside_weak weak pair v m = record { weaks_mean = λ i. go i (i == weak); cells_have = b.cells_have }
    where
      go : (i : ℕ) (t : Bool) → Means made (cond t pair (weaks i)) (cond t v (values i))
      go i true = m
      go i false = b.weaks_mean i

  -- a plain cell gets a word
  pub beside_plain : (at : Name) (slot word : ℕ) (v : Value) → Has h kinds made at slot word v
      → IsBeside h kinds made (set_name plain at (set_at (plain at) slot word)) weaks values (set_name cells at (set_at (cells at) slot v))
  beside_plain at slot word v has = record { weaks_mean = b.weaks_mean; cells_have = λ n j. go n j (same_name n at) refl }
    where
      inner : (j : ℕ) (t : Bool) → (j == slot) ≡ t → Has h kinds made at j (cond t word (plain at j)) (cond t v (cells at j))
      inner j true e = subst (λ (i : ℕ). Has h kinds made at i word v) (sym (eqb-true j slot e)) has
      inner j false e = b.cells_have at j

      go : (n : Name) (j : ℕ) (t : Bool) → same_name n at ≡ t
          → Has h kinds made n j (cond {A = ℕ → ℕ} t (set_at (plain at) slot word) (plain n) j) (cond {A = ℕ → Value} t (set_at (cells at) slot v) (cells n) j)
      go n j true e = subst (λ (m : Name). Has h kinds made m j (set_at (plain at) slot word j) (set_at (cells at) slot v j)) (sym (same_name_true n at e)) (inner j (j == slot) refl)
      go n j false e = b.cells_have n j
