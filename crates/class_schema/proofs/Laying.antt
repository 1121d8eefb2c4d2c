-- The law of layout.
use Rattle.std.proofs.Common.{◌≡◌, ℕ, zero, suc, ◌+◌, ◌-◌, ◌<◌, ◌≤◌, refl, sym, ap, ◌∙◌, subst, inl, inr, arith, Bool, true, false, cond, ◌⊎◌, List, [], ◌∷◌, ◌++◌, length, take, Option, Some, None, option_map, IfSome, slice_get}
use Rattle.std.specs.List.{sum_by, find, position_or_len}
use Rattle.std.proofs.lemmas.Bool.{cases_lt, cases_order, cases_Bool}
use Rattle.std.proofs.lemmas.List.{append-nil, append_assoc}
use Rattle.std.proofs.lemmas.List.Elements.{All-get_or}
use Rattle.std.proofs.lemmas.List.Folds.{find_at}
use Rattle.std.proofs.lemmas.List.Sums.{sum_by-cons}
use Rattle.std.proofs.lemmas.Option.{same_Some, slice_get_within, get_or_from_slice_get}
use Rattle.class_schema.specs.Types.{ClassId}
use Rattle.class_schema.specs.Class.{Declaration, Schema}
use Rattle.class_schema.specs.Layout.{Placed, is_ref, ref_count, plain_count, ref_slots, plain_slots, first_slot, layout, slot_of, as_field}
use Rattle.class_schema.specs.Ancestry.{fields}
use Rattle.class_schema.specs.Table.{placed_fields, is_called, find_field}
use Rattle.class_schema.specs.Lawful.{IsField, IsSchema, FitsIn}
use Rattle.class_schema.specs.Laws.{Element, IsLaidOut, LaidOut}
use Rattle.class_schema.proofs.Reading.{used_is}

-- ---- sums over the fields before a place

module _ (g : Declaration → ℕ) where
  -- what stands before a place, and at it, is within what stands before a later one
  before : (fs : List Declaration) (k l : ℕ) (f : Declaration) → slice_get fs k ≡ Some f → k < l → sum_by g (take k fs) + g f ≤ sum_by g (take l fs)
  before [] k l f at lt = absurd cc
  before (x ∷ fs) k zero f at lt = absurd (omega arith)
  before (x ∷ fs) zero (suc l) f at lt = let s = sum_by-cons g x (take l fs) in let same : g x ≡ g f = ap g (same_Some x f at) in omega arith
  before (x ∷ fs) (suc k) (suc l) f at lt =
      let a = sum_by-cons g x (take k fs) in
      let b = sum_by-cons g x (take l fs) in
      let rest = before fs k l f at (omega arith) in
      omega arith

  -- and within all
  pub inside : (fs : List Declaration) (k : ℕ) (f : Declaration) → slice_get fs k ≡ Some f → sum_by g (take k fs) + g f ≤ sum_by g fs
  inside [] k f at = absurd cc
  inside (x ∷ fs) zero f at = let s = sum_by-cons g x fs in let same : g x ≡ g f = ap g (same_Some x f at) in omega arith
  inside (x ∷ fs) (suc k) f at =
      let a = sum_by-cons g x (take k fs) in
      let b = sum_by-cons g x fs in
      let rest = inside fs k f at in
      omega arith

  -- each number is of one element
  pub one_element : (fs : List Declaration) (k l i j : ℕ) (f h : Declaration) → slice_get fs k ≡ Some f → slice_get fs l ≡ Some h → i < g f → j < g h
      → sum_by g (take k fs) + i ≡ sum_by g (take l fs) + j → (k ≡ l) × (i ≡ j)
  one_element fs k l i j f h at bt li lj same = go (cases_order k l)
    where
      go : (k ≡ l) ⊎ ((k < l) ⊎ (l < k)) → (k ≡ l) × (i ≡ j)
      go (inl e) = let s : sum_by g (take k fs) ≡ sum_by g (take l fs) = ap (λ n. sum_by g (take n fs)) e in (e, omega arith)
      go (inr (inl lt)) = let b = before fs k l f at lt in absurd (omega arith)
      go (inr (inr lt)) = let b = before fs l k h bt lt in absurd (omega arith)

  -- each number is of some element
  pub some_element : (fs : List Declaration) (n : ℕ) → n < sum_by g fs → (k : ℕ) × (f : Declaration) × (i : ℕ) × (slice_get fs k ≡ Some f) × (i < g f) × (sum_by g (take k fs) + i ≡ n)
  some_element [] n lt = absurd (omega arith)
  some_element (x ∷ fs) n lt = go (cases_lt n (g x)) (some_element fs (n - g x))
    where
      go : (n < g x) ⊎ (g x ≤ n) → (n - g x < sum_by g fs → (k : ℕ) × (f : Declaration) × (i : ℕ) × (slice_get fs k ≡ Some f) × (i < g f) × (sum_by g (take k fs) + i ≡ n - g x))
          → (k : ℕ) × (f : Declaration) × (i : ℕ) × (slice_get (x ∷ fs) k ≡ Some f) × (i < g f) × (sum_by g (take k (x ∷ fs)) + i ≡ n)
      go (inl less) rest = (0, x, n, refl, less, omega arith)
      go (inr more) rest =
          let s = sum_by-cons g x fs in
          let r = rest (omega arith) in
          let a = sum_by-cons g x (take r.0 fs) in
          let e = r.5 in
          (suc r.0, r.1, r.2, r.3, r.4, omega arith)

-- ---- places

-- what stands at a place of a layout
pub placed_is : (slots : ℕ) (head fs : List Declaration) (k : ℕ) (p : Placed) → slice_get (layout slots head fs) k ≡ Some p
    → (slice_get fs k ≡ Some p.declared) × (p.first ≡ first_slot slots (head ++ take k fs) p.declared.kind)
placed_is slots head [] k p at = absurd cc
placed_is slots head (f ∷ fs) zero p at =
    let same = same_Some (record { declared = f; first = first_slot slots head f.kind }) p at in
    (ap (λ (q : Placed). Some q.declared) same, sym (ap (λ (q : Placed). q.first) same) ∙ (λ t. first_slot slots (sym (append-nil head) t) (same t).declared.kind))
placed_is slots head (f ∷ fs) (suc k) p at =
    let r = placed_is slots (head ++ f ∷ []) fs k p at in
    (r.0, r.1 ∙ ap (λ bs. first_slot slots bs p.declared.kind) (append_assoc head (f ∷ []) (take k fs)))

pub is_placed : (slots : ℕ) (head fs : List Declaration) (k : ℕ) (f : Declaration) → slice_get fs k ≡ Some f
    → slice_get (layout slots head fs) k ≡ Some (record { declared = f; first = first_slot slots (head ++ take k fs) f.kind })
is_placed slots head [] k f at = absurd cc
is_placed slots head (x ∷ fs) zero f at =
    let put : Declaration → Option Placed = λ g. Some (record { declared = g; first = first_slot slots head g.kind }) in
    let seen : List Declaration → Option Placed = λ bs. Some (record { declared = f; first = first_slot slots bs f.kind }) in
    ap put (same_Some x f at) ∙ ap seen (sym (append-nil head))
is_placed slots head (x ∷ fs) (suc k) f at =
    let seen : List Declaration → Option Placed = λ bs. Some (record { declared = f; first = first_slot slots bs f.kind }) in
    is_placed slots (head ++ x ∷ []) fs k f at ∙ ap seen (append_assoc head (x ∷ []) (take k fs))

-- ---- the slots of a class

module _ (t : Schema) (lawful : IsSchema t) (class : ClassId) (lt : class.0 < length t.classes) where
  abbrev fs : List Declaration
  fs = fields t.classes class

  -- there are slots for all
  room : ref_slots fs + plain_slots fs ≤ t.slots
  room = let used = used_is fs in let fits = (lawful.each class lt).fits in omega arith

  -- what an element is
  at_place : (e : Element t class) → slice_get fs e.place ≡ Some e.field.declared
  at_place e = (placed_is t.slots [] fs e.place e.field e.is).0

  ref_first : (e : Element t class) → is_ref e.field.declared.kind ≡ true → (slot_of e.field e.element ≡ ref_slots (take e.place fs) + e.element) × (e.element < ref_count e.field.declared)
  ref_first e is =
      let first = (placed_is t.slots [] fs e.place e.field e.is).1 in
      let count : ref_count e.field.declared ≡ e.field.declared.count = ap (λ b. cond b e.field.declared.count 0) is in
      let w = e.within in
      let slot : slot_of e.field e.element ≡ e.field.first + e.element = ap (λ b. cond b (e.field.first + e.element) (e.field.first - e.element)) is in
      let where' : e.field.first ≡ ref_slots (take e.place fs) = first ∙ ap (λ b. cond b (ref_slots (take e.place fs)) ((t.slots - 1) - plain_slots (take e.place fs))) is in
      (omega arith, omega arith)

  plain_first : (e : Element t class) → is_ref e.field.declared.kind ≡ false
      → (slot_of e.field e.element ≡ ((t.slots - 1) - plain_slots (take e.place fs)) - e.element) × (e.element < plain_count e.field.declared)
  plain_first e is =
      let first = (placed_is t.slots [] fs e.place e.field e.is).1 in
      let count : plain_count e.field.declared ≡ e.field.declared.count = ap (λ b. cond b 0 e.field.declared.count) is in
      let w = e.within in
      let slot : slot_of e.field e.element ≡ e.field.first - e.element = ap (λ b. cond b (e.field.first + e.element) (e.field.first - e.element)) is in
      let where' : e.field.first ≡ (t.slots - 1) - plain_slots (take e.place fs) = first ∙ ap (λ b. cond b (ref_slots (take e.place fs)) ((t.slots - 1) - plain_slots (take e.place fs))) is in
      (omega arith, omega arith)

  ref_low : (e : Element t class) → is_ref e.field.declared.kind ≡ true → slot_of e.field e.element < ref_slots fs
  ref_low e is = let a = ref_first e is in let b = a.0 in let c = a.1 in let d = inside ref_count fs e.place e.field.declared (at_place e) in omega arith

  plain_high : (e : Element t class) → is_ref e.field.declared.kind ≡ false → (t.slots - plain_slots fs ≤ slot_of e.field e.element) × (slot_of e.field e.element < t.slots)
  plain_high e is =
      let a = plain_first e is in
      let b = a.0 in
      let c = a.1 in
      let d = inside plain_count fs e.place e.field.declared (at_place e) in
      let r = room in
      let some = lawful.some_slots in
      (omega arith, omega arith)

  slots_apart : (d e : Element t class) → slot_of d.field d.element ≡ slot_of e.field e.element → (d.place ≡ e.place) × (d.element ≡ e.element)
  slots_apart d e same = go (cases_Bool (is_ref d.field.declared.kind)) (cases_Bool (is_ref e.field.declared.kind))
    where
      go : (is_ref d.field.declared.kind ≡ true) ⊎ (is_ref d.field.declared.kind ≡ false)
          → (is_ref e.field.declared.kind ≡ true) ⊎ (is_ref e.field.declared.kind ≡ false) → (d.place ≡ e.place) × (d.element ≡ e.element)
      go (inl a) (inl b) =
          let x = ref_first d a in
          let y = ref_first e b in
          one_element ref_count fs d.place e.place d.element e.element d.field.declared e.field.declared (at_place d) (at_place e) x.1 y.1 (sym x.0 ∙ same ∙ y.0)
      go (inl a) (inr b) = let x = ref_low d a in let y = (plain_high e b).0 in let r = room in absurd (omega arith)
      go (inr a) (inl b) = let x = (plain_high d a).0 in let y = ref_low e b in let r = room in absurd (omega arith)
      go (inr a) (inr b) =
          let x = plain_first d a in
          let y = plain_first e b in
          let xs = x.0 in
          let ys = y.0 in
          let xl = x.1 in
          let yl = y.1 in
          let p = inside plain_count fs d.place d.field.declared (at_place d) in
          let q = inside plain_count fs e.place e.field.declared (at_place e) in
          let r = room in
          one_element plain_count fs d.place e.place d.element e.element d.field.declared e.field.declared (at_place d) (at_place e) x.1 y.1 (omega arith)

  -- a field that takes reference slots is one of references
  takes_refs : (f : Declaration) (i : ℕ) → i < ref_count f → (is_ref f.kind ≡ true) × (i < f.count)
  takes_refs f i lt = go (is_ref f.kind) refl lt
    where
      go : (b : Bool) → is_ref f.kind ≡ b → i < cond b f.count 0 → (is_ref f.kind ≡ true) × (i < f.count)
      go true e less = (e, less)
      go false e less = absurd (omega arith)

  takes_plain : (f : Declaration) (i : ℕ) → i < plain_count f → (is_ref f.kind ≡ false) × (i < f.count)
  takes_plain f i lt = go (is_ref f.kind) refl lt
    where
      go : (b : Bool) → is_ref f.kind ≡ b → i < cond b 0 f.count → (is_ref f.kind ≡ false) × (i < f.count)
      go true e less = absurd (omega arith)
      go false e less = (e, less)

  element_at : (k : ℕ) (f : Declaration) → slice_get fs k ≡ Some f → (i : ℕ) → i < f.count → Element t class
  element_at k f at i less = record { place = k; field = record { declared = f; first = first_slot t.slots (take k fs) f.kind }; is = is_placed t.slots [] fs k f at; element = i; within = less }

  refs_covered : (n : ℕ) → n < ref_slots fs → (e : Element t class) × (is_ref e.field.declared.kind ≡ true) × (slot_of e.field e.element ≡ n)
  unfolding element_at
  refs_covered n less =
      let (k, f, i, at, il, sum) = some_element ref_count fs n less in
      let takes = takes_refs f i il in
      let e = element_at k f at i takes.1 in
      (e, takes.0, (ref_first e takes.0).0 ∙ sum)

  plain_covered : (n : ℕ) → t.slots - plain_slots fs ≤ n → n < t.slots → (e : Element t class) × (is_ref e.field.declared.kind ≡ false) × (slot_of e.field e.element ≡ n)
  unfolding element_at
  plain_covered n low high =
      let r = room in
      let (k, f, i, at, il, sum) = some_element plain_count fs ((t.slots - 1) - n) (omega arith) in
      let takes = takes_plain f i il in
      let e = element_at k f at i takes.1 in
      let slot = (plain_first e takes.0).0 in
      (e, takes.0, slot ∙ omega arith)

  pub is_laid_out : IsLaidOut t class
  is_laid_out =
      record {
        apart = slots_apart;
        refs = ref_low;
        all_refs = refs_covered;
        plain = plain_high;
        all_plain = plain_covered;
        fits = room;
      }

pub laid_out_holds : LaidOut
laid_out_holds t lawful class lt = is_laid_out t lawful class lt

-- ---- the field that a search finds

-- where the slots of a field end, by those of the fields before it
fits_at : (slots : ℕ) (class_count : ℕ) (fs : List Declaration) (k : ℕ) (p : Placed) → 1 ≤ slots → ref_slots fs + plain_slots fs ≤ slots → IsField class_count p.declared
    → slice_get fs k ≡ Some p.declared → p.first ≡ first_slot slots (take k fs) p.declared.kind
    → (is_ref p.declared.kind ≡ true → p.first + p.declared.count ≤ ref_slots fs)
    × (is_ref p.declared.kind ≡ false → ((slots - plain_slots fs) + p.declared.count ≤ p.first + 1) × (p.first < slots))
fits_at slots class_count fs k p some room each at first = (refs, plain)
  where
    count_at_least : 1 ≤ p.declared.count
    count_at_least = each.some

    refs : is_ref p.declared.kind ≡ true → p.first + p.declared.count ≤ ref_slots fs
    refs is =
        let i = inside ref_count fs k p.declared at in
        let count : ref_count p.declared ≡ p.declared.count = ap (λ b. cond b p.declared.count 0) is in
        let here : p.first ≡ ref_slots (take k fs) = first ∙ ap (λ b. cond b (ref_slots (take k fs)) ((slots - 1) - plain_slots (take k fs))) is in
        omega arith

    plain : is_ref p.declared.kind ≡ false → ((slots - plain_slots fs) + p.declared.count ≤ p.first + 1) × (p.first < slots)
    plain is =
        let i = inside plain_count fs k p.declared at in
        let count : plain_count p.declared ≡ p.declared.count = ap (λ b. cond b 0 p.declared.count) is in
        let here : p.first ≡ (slots - 1) - plain_slots (take k fs) = first ∙ ap (λ b. cond b (ref_slots (take k fs)) ((slots - 1) - plain_slots (take k fs))) is in
        let n = count_at_least in
        (omega arith, omega arith)

-- the field of this name lies within the slots of its class
pub field_fits : (t : Schema) → IsSchema t → (class : ClassId) → class.0 < length t.classes → (name : List ℕ) → IfSome (find_field t class name) (FitsIn t class)
unfolding find_field
field_fits t lawful class lt name = go (find called (placed_fields t class)) refl
  where
    called : Placed → Bool
    called p = is_called name p.declared

    k : ℕ
    k = position_or_len called (placed_fields t class)

    is_field : (p : Placed) → slice_get (fields t.classes class) k ≡ Some p.declared → IsField (length t.classes) p.declared
    is_field p at =
        let fs : List Declaration = fields t.classes class in
        let here = All-get_or (IsField (length t.classes)) fs k p.declared (slice_get_within fs k p.declared at) (lawful.each class lt).whole in
        subst (IsField (length t.classes)) (get_or_from_slice_get fs k p.declared p.declared at) here

    fits : (p : Placed) → slice_get (placed_fields t class) k ≡ Some p → FitsIn t class (as_field p)
    fits p at =
        let placed = placed_is t.slots [] (fields t.classes class) k p at in
        let each : IsField (length t.classes) p.declared = is_field p placed.0 in
        let all = room t lawful class lt in
        let both = fits_at t.slots (length t.classes) (fields t.classes class) k p lawful.some_slots all each placed.0 placed.1 in
        record {
          target = each.target;
          inside = λ r. let l = both.0 r in omega arith;
          refs = both.0;
          low = λ r. (both.1 r).0;
          high = λ r. (both.1 r).1;
        }

    go : (o : Option Placed) → find called (placed_fields t class) ≡ o → IfSome (option_map as_field o) (FitsIn t class)
    go None e = tt
    go (Some p) e = fits p (sym (find_at called (placed_fields t class)) ∙ e)
