-- What the calls read is what contracts say.
use Rattle.std.proofs.Common.{◌≡◌, ◌≢◌, ℕ, ◌+◌, ◌<◌, ◌≤◌, ◌==◌, refl, sym, ap, ◌∙◌, subst, inl, inr, arith, Bool, true, false, not, cond, ◌⊎◌, List, [], ◌∷◌, length, map, Option, Some, None, option_map, slice_get, slice_index_or, String, string_bytes, codes, IsTrue}
use Rattle.std.specs.Prelude.{nat_lt, nat_le, position, Ok, Err, if◌then◌else◌}
use Rattle.std.specs.Bool.{one_answer}
use Rattle.std.specs.List.{All, AllPairs, find, list_any, position_or_len, prefix_len}
use Rattle.std.specs.Str.{bytes_eq}
use Rattle.std.specs.Map.{keys_of, lookup}
use Rattle.std.specs.declared.alloc.Global.{Global}
use Rattle.std.proofs.lemmas.Bool.{and_from, lt-ltb, ltb-true, le-leb, eqb-true, eq-eqb}
use Rattle.std.proofs.lemmas.List.{length-map}
use Rattle.std.proofs.lemmas.List.Elements.{All-weaker, All-map}
use Rattle.std.proofs.lemmas.List.Sums.{sum_by-cons}
use Rattle.std.proofs.lemmas.Option.{slice_get_within, slice_get-map, get_or_from_slice_get, same_Some}
use Rattle.world_model.specs.Sizes.{Sizes}
use Rattle.world_model.specs.LaneSteps.{is_lawful, is_readiness}
use Rattle.class_schema.specs.declared.rows.FieldRow.{FieldRow}
use Rattle.class_schema.specs.declared.rows.ClassRow.{ClassRow}
use Rattle.class_schema.specs.Types.{ClassId, Kind, Ready}
use Rattle.class_schema.specs.Types.refusal
use Rattle.class_schema.specs.Class.{Declaration, Class, Schema}
use Rattle.class_schema.specs.Layout.{is_ref, ref_count, plain_count, ref_slots, plain_slots, used_slots, layout, as_field, Placed}
use Rattle.class_schema.specs.Ancestry.{class_at, parents, parent_of, has_children, fields, IsA, is_a}
use Rattle.class_schema.specs.Table.{id_of, is_named, find_class, taken, room_for, admitted_unless, admitted, is_called, field_line, find_field, has_field, no_room, kind_of}
use Rattle.class_schema.specs.Lawful.{has_target, IsField, HasParent, IsClass, IsSchema}
use Rattle.class_schema.specs.Rows.{texts, declaration_of, placed_of, class_of, classes_of, rows_of, row_parents, IsFieldRow, Inherits, BeginsWithObject, Keeps}
use Rattle.class_schema.proofs.Ancestors.{Falls, same_id, test_is, is_test, isa_low, isa_join, isa_jump, isa_up, isa_down}
use Rattle.class_schema.proofs.Views.{Entries, something, length_rows, parents_seen, parent_seen, class_seen, rows_fall, fields_seen}
use Rattle.class_schema.proofs.Labels.{is_text, keys_differ, one_number, line_found, field_found, line_missing, field_missing, fresh_number, has_kept}

-- ---- classes by name

module _ {A B : Type 0} (f : A → B) (p : B → Bool) where
  prefix_map : (xs : List A) → prefix_len p (map f xs) ≡ prefix_len (λ x. p (f x)) xs
  prefix_map [] = refl
  prefix_map (x ∷ xs) = ap (λ n. cond (p (f x)) (1 + n) 0) (prefix_map xs)

position_map : {A B : Type 0} (f : A → B) (p : B → Bool) (xs : List A) → position p (map f xs) ≡ position (λ x. p (f x)) xs
position_map f p xs = λ t. cond (nat_lt (prefix_map f (λ y. not (p y)) xs t) (length-map xs f t)) (Some (prefix_map f (λ y. not (p y)) xs t)) None

-- a class that is looked up
pub class_found : (names : List (List ℕ)) (es : Entries) (name : List ℕ) → position (λ k. bytes_eq name (string_bytes k)) (keys_of es) ≡ position (is_named name) (classes_of names es)
class_found names es name = position_map (λ e. e.0) (λ k. bytes_eq name (string_bytes k)) es ∙ sym (position_map (class_of names) (is_named name) es)

map_of_cond : {A B : Type 0} (f : A → B) (b : Bool) (x : A) (o : Option A) → option_map f (cond b (Some x) o) ≡ cond b (Some (f x)) (option_map f o)
map_of_cond f true x o = refl
map_of_cond f false x o = refl

-- the line of a class that is looked up
pub class_taken : (names : List (List ℕ)) (es : Entries) (name : List ℕ)
    → option_map (λ (row : ClassRow). row.line) (lookup (λ k. bytes_eq name (string_bytes k)) es) ≡ taken (classes_of names es) name
unfolding taken
class_taken names [] name = refl
class_taken names (e ∷ es) name =
    map_of_cond (λ (row : ClassRow). row.line) (bytes_eq name (string_bytes e.0)) e.1 (lookup (λ k. bytes_eq name (string_bytes k)) es)
    ∙ ap (cond (bytes_eq name (string_bytes e.0)) (Some e.1.line)) (class_taken names es name)
    ∙ sym (map_of_cond (λ (class : Class). class.line) (bytes_eq name (string_bytes e.0)) (class_of names e) (find (is_named name) (classes_of names es)))

-- no row has a name that is not taken
pub class_none : (names : List (List ℕ)) (es : Entries) (name : List ℕ) → taken (classes_of names es) name ≡ None → lookup (λ k. bytes_eq name (string_bytes k)) es ≡ None
class_none names es name e = none_of (lookup (λ k. bytes_eq name (string_bytes k)) es) (class_taken names es name ∙ e)
  where
    none_of : (o : Option ClassRow) → option_map (λ (row : ClassRow). row.line) o ≡ None → o ≡ None
    none_of None e = refl
    none_of (Some row) e = absurd cc

-- ---- a class by what is kept of it

-- references and all else are all
pub used_is : (fs : List Declaration) → used_slots fs ≡ ref_slots fs + plain_slots fs
used_is [] = refl
used_is (f ∷ fs) =
    let all = sum_by-cons (λ (g : Declaration). g.count) f fs in
    let refs = sum_by-cons ref_count f fs in
    let plain = sum_by-cons plain_count f fs in
    let rest = used_is fs in
    let here = one (is_ref f.kind) f.count in
    omega arith
  where
    one : (b : Bool) (n : ℕ) → cond b n 0 + cond b 0 n ≡ n
    one true n = omega arith
    one false n = omega arith

module _ (slots : ℕ) (keys : List (String Global)) (es : Entries) (k : Keeps slots keys es) where
  abbrev table : Schema
  table = record { slots = slots; classes = classes_of (texts keys) es }

  pub falling : Falls (parents (classes_of (texts keys) es))
  falling = subst Falls (sym (parents_seen (texts keys) es)) (rows_fall slots (length keys) (rows_of es) k.rows)

  module _ (id : ClassId) (row : ClassRow) (at : slice_get (rows_of es) id.0 ≡ Some row) where
    pub children_seen : row.has_child ≡ has_children (parents (classes_of (texts keys) es)) id
    children_seen = k.children id.0 row at ∙ ap (λ ps. has_children ps id) (sym (parents_seen (texts keys) es))

    its_fields : fields (classes_of (texts keys) es) id ≡ map (declaration_of (texts keys)) row.fields
    its_fields = fields_seen slots (length keys) (texts keys) es k.rows id row at

    pub refs_seen : row.refs ≡ ref_slots (fields (classes_of (texts keys) es) id)
    refs_seen = (k.rows id.0 row at).adds_up.refs (texts keys) ∙ ap ref_slots (sym its_fields)

    pub plain_seen : row.plain ≡ plain_slots (fields (classes_of (texts keys) es) id)
    plain_seen = (k.rows id.0 row at).adds_up.plain (texts keys) ∙ ap plain_slots (sym its_fields)

    pub used_seen : row.refs + row.plain ≡ used_slots (fields (classes_of (texts keys) es) id)
    used_seen = (λ t. refs_seen t + plain_seen t) ∙ sym (used_is (fields (classes_of (texts keys) es) id))

    pub room_seen : (count : ℕ) → no_room slots (row.refs + row.plain) count ≡ no_room slots (used_slots (fields (classes_of (texts keys) es) id)) count
    room_seen count = ap (λ n. no_room slots n count) used_seen

    pub ready_seen : row.ready ≡ (class_at (classes_of (texts keys) es) id).ready
    ready_seen = sym (ap (λ (c : Class). c.ready) (class_seen (texts keys) es id row at).2)

    pub kind_seen : ◌≡◌ {A = Kind} (record { class = id; refs = row.refs; plain = row.plain; ready = row.ready }) (kind_of table id)
    kind_seen = λ t. record { class = id; refs = refs_seen t; plain = plain_seen t; ready = ready_seen t }

    pub kind_lawful : (z : Sizes) → z.slots ≡ slots → IsTrue (is_lawful z (record { class = id; refs = row.refs; plain = row.plain; ready = row.ready }))
    kind_lawful z same =
        let here = k.rows id.0 row at in
        let a = here.adds_up in
        let fits = a.fits in
        let lt = slice_get_within (rows_of es) id.0 row at in
        let len = length_rows es in
        let few = k.few in
        and_from _ _ (and_from _ _ (lt-ltb id.0 4096 (omega arith)) (le-leb (row.refs + row.plain) z.slots (omega arith))) a.ready

    -- ---- its fields by name

    module _ (name : List ℕ) where
      pub line_at : (n : ℕ) → position (is_text keys name) keys ≡ Some n → field_line (classes_of (texts keys) es) id name ≡ option_map (λ (f : FieldRow). f.line) (find (λ f. f.name == n) row.fields)
      unfolding field_line
      line_at n e =
          ap (λ fs. option_map (λ (f : Declaration). f.line) (find (is_called name) fs)) its_fields
          ∙ line_found keys name (length (rows_of es)) row.fields (k.rows id.0 row at).each k.unique_names n e

      pub line_none : position (is_text keys name) keys ≡ None → field_line (classes_of (texts keys) es) id name ≡ None
      unfolding field_line
      line_none e = ap (λ fs. option_map (λ (f : Declaration). f.line) (find (is_called name) fs)) its_fields ∙ line_missing keys name (length (rows_of es)) row.fields (k.rows id.0 row at).each e

      its_places : layout slots [] (fields (classes_of (texts keys) es) id) ≡ map (placed_of (texts keys)) row.fields
      its_places = ap (layout slots []) its_fields ∙ (k.rows id.0 row at).adds_up.placed (texts keys)

      pub field_at : (n : ℕ) → position (is_text keys name) keys ≡ Some n → find_field table id name ≡ option_map (λ (f : FieldRow). f.field) (find (λ f. f.name == n) row.fields)
      unfolding find_field
      field_at n e =
          ap (λ ps. option_map as_field (find (λ (p : Placed). is_called name p.declared) ps)) its_places
          ∙ field_found keys name (length (rows_of es)) row.fields (k.rows id.0 row at).each k.unique_names n e

      pub field_none : position (is_text keys name) keys ≡ None → find_field table id name ≡ None
      unfolding find_field
      field_none e =
          ap (λ ps. option_map as_field (find (λ (p : Placed). is_called name p.declared) ps)) its_places
          ∙ field_missing keys name (length (rows_of es)) row.fields (k.rows id.0 row at).each e

      pub fresh_seen : (n : ℕ) → position (is_text keys name) keys ≡ Some n → field_line (classes_of (texts keys) es) id name ≡ None → All (λ f. f.name ≢ n) row.fields
      unfolding field_line
      fresh_seen n e none =
          fresh_number keys name (length (rows_of es)) row.fields (k.rows id.0 row at).each k.unique_names n e
          (sym (ap (λ fs. option_map (λ (f : Declaration). f.line) (find (is_called name) fs)) its_fields) ∙ none)

    pub fresh_new : All (λ f. f.name ≢ length keys) row.fields
    fresh_new = All-weaker (IsFieldRow (length keys) (length (rows_of es))) (λ f. f.name ≢ length keys) (λ f i e. let n = i.named in absurd (omega arith)) row.fields (k.rows id.0 row at).each

    -- ---- it is a class

    is_field : (f : FieldRow) → IsFieldRow (length keys) (length (rows_of es)) f → IsField (length (classes_of (texts keys) es)) (declaration_of (texts keys) f)
    is_field f i = record { some = i.some; few = i.few; target = subst (λ (n : ℕ). IsTrue (has_target n f.field.kind)) (length_rows es ∙ sym (length-map es (class_of (texts keys)))) i.target }

    -- two fields have two names
    pairs : AllPairs (λ f g. f.name ≢ g.name) (map (declaration_of (texts keys)) row.fields)
    pairs i j d less lt same =
        let len = length-map row.fields (declaration_of (texts keys)) in
        let a = something row.fields i (omega arith) in
        let b = something row.fields j (omega arith) in
        let each = (k.rows id.0 row at).each in
        let ia : IsFieldRow (length keys) (length (rows_of es)) a.0 =
        subst (IsFieldRow (length keys) (length (rows_of es))) (get_or_from_slice_get row.fields i a.0 a.0 a.1) (each i a.0 (omega arith)) in
        let ib : IsFieldRow (length keys) (length (rows_of es)) b.0 =
        subst (IsFieldRow (length keys) (length (rows_of es))) (get_or_from_slice_get row.fields j b.0 b.0 b.1) (each j b.0 (omega arith)) in
        let da : slice_index_or (map (declaration_of (texts keys)) row.fields) i d ≡ declaration_of (texts keys) a.0 =
        get_or_from_slice_get (map (declaration_of (texts keys)) row.fields) i (declaration_of (texts keys) a.0) d
        (slice_get-map (declaration_of (texts keys)) row.fields i ∙ ap (option_map (declaration_of (texts keys))) a.1) in
        let db : slice_index_or (map (declaration_of (texts keys)) row.fields) j d ≡ declaration_of (texts keys) b.0 =
        get_or_from_slice_get (map (declaration_of (texts keys)) row.fields) j (declaration_of (texts keys) b.0) d
        (slice_get-map (declaration_of (texts keys)) row.fields j ∙ ap (option_map (declaration_of (texts keys))) b.1) in
        let texts_same : slice_index_or (texts keys) a.0.name [] ≡ slice_index_or (texts keys) b.0.name [] = sym (ap (λ (f : Declaration). f.name) da) ∙ same ∙ ap (λ (f : Declaration). f.name) db in
        let numbers : a.0.name ≡ b.0.name = one_number keys k.unique_names a.0.name b.0.name ia.named ib.named texts_same in
        (k.rows id.0 row at).adds_up.different i j a.0 less (omega arith)
        (ap (λ (f : FieldRow). f.name) (get_or_from_slice_get row.fields i a.0 a.0 a.1) ∙ numbers
        ∙ sym (ap (λ (f : FieldRow). f.name) (get_or_from_slice_get row.fields j b.0 a.0 b.1)))

    older : (o : Option ClassId) → Inherits (rows_of es) id.0 row o → HasParent id o
    older None h = h.0
    older (Some p) h = h.0

    pub is_class : IsClass table id
    is_class =
        let here = k.rows id.0 row at in
        let seen = class_seen (texts keys) es id row at in
        let fits = here.adds_up.fits in
        let used = used_seen in
        record {
          older = subst (HasParent id) (sym (ap (λ (c : Class). c.parent) seen.2)) (older row.parent here.inherits);
          whole =
              subst (All (IsField (length (classes_of (texts keys) es)))) (sym its_fields)
              (All-map (IsField (length (classes_of (texts keys) es))) (declaration_of (texts keys)) row.fields
              (All-weaker (IsFieldRow (length keys) (length (rows_of es)))
              (λ f. IsField (length (classes_of (texts keys) es)) (declaration_of (texts keys) f)) is_field row.fields here.each));
          different = subst (AllPairs (λ f g. f.name ≢ g.name)) (sym its_fields) pairs;
          fits = omega arith;
          ready = subst (λ (r : Ready). IsTrue (is_readiness r)) ready_seen here.adds_up.ready;
        }

  -- two classes have two names
  names_differ : AllPairs (λ c d. c.name ≢ d.name) (classes_of (texts keys) es)
  names_differ i j d less lt same =
      let len = length-map es (class_of (texts keys)) in
      let a = something es i (omega arith) in
      let b = something es j (omega arith) in
      let da : slice_index_or (classes_of (texts keys) es) i d ≡ class_of (texts keys) a.0 =
      get_or_from_slice_get (classes_of (texts keys) es) i (class_of (texts keys) a.0) d
      (slice_get-map (class_of (texts keys)) es i ∙ ap (option_map (class_of (texts keys))) a.1) in
      let db : slice_index_or (classes_of (texts keys) es) j d ≡ class_of (texts keys) b.0 =
      get_or_from_slice_get (classes_of (texts keys) es) j (class_of (texts keys) b.0) d
      (slice_get-map (class_of (texts keys)) es j ∙ ap (option_map (class_of (texts keys))) b.1) in
      let key_of : String Global × ClassRow → String Global = λ e. e.0 in
      let ka : slice_get (keys_of es) i ≡ Some a.0.0 = slice_get-map key_of es i ∙ ap (option_map key_of) a.1 in
      let kb : slice_get (keys_of es) j ≡ Some b.0.0 = slice_get-map key_of es j ∙ ap (option_map key_of) b.1 in
      let texts_same : string_bytes a.0.0 ≡ string_bytes b.0.0 = sym (ap (λ (c : Class). c.name) da) ∙ same ∙ ap (λ (c : Class). c.name) db in
      keys_differ (keys_of es) k.unique_classes i j a.0.0 b.0.0 less ka kb texts_same

  first : (es : Entries) → BeginsWithObject es → ((class_at (classes_of (texts keys) es) (id_of 0)).name ≡ codes "Object") × ((class_at (classes_of (texts keys) es) (id_of 0)).line ≡ 0)
  first [] h = absurd h
  first (e ∷ es) h = h

  pub schema : IsSchema table
  schema =
      let len = length-map es (class_of (texts keys)) in
      let some = k.some in
      let few = k.few in
      record {
        some_slots = k.some_slots;
        few_slots = k.few_slots;
        some = omega arith;
        few = omega arith;
        object_name = (first es k.object).0;
        object_line = (first es k.object).1;
        different = names_differ;
        each = λ id lt. let row = something (rows_of es) id.0 (let n = length_rows es in omega arith) in is_class id row.0 row.1;
      }

  -- whether some class has a field of a name
  pub has_seen : (name : List ℕ) → list_any (is_text keys name) keys ≡ has_field (classes_of (texts keys) es) name
  has_seen name = has_kept keys name slots es k.rows k.used

  -- the fields of a class of the table, where no field has the name
  module _ (id : ClassId) (lt : id.0 < length (classes_of (texts keys) es)) (name : List ℕ) (e : position (is_text keys name) keys ≡ None) where
    its_row : (row : ClassRow) × (slice_get (rows_of es) id.0 ≡ Some row)
    its_row = something (rows_of es) id.0 (let n = length_rows es in let m = length-map es (class_of (texts keys)) in omega arith)

    pub line_gone : field_line (classes_of (texts keys) es) id name ≡ None
    line_gone = line_none id its_row.0 its_row.1 name e

    pub field_gone : find_field table id name ≡ None
    field_gone = field_none id its_row.0 its_row.1 name e

  -- ---- ancestors

  module _ (id : ClassId) (row : ClassRow) (at : slice_get (rows_of es) id.0 ≡ Some row) where
    fall : Falls (row_parents (rows_of es))
    fall = rows_fall slots (length keys) (rows_of es) k.rows

    pub depth_low : row.depth < 4096
    depth_low =
        let deep = (k.rows id.0 row at).depth in
        let lt = slice_get_within (rows_of es) id.0 row at in
        let len = length_rows es in
        let few = k.few in
        omega arith

    -- the jump is to a class that is there
    pub jump_low : (row.jump.0 ≤ id.0) × (id.0 < length es)
    jump_low =
        let lt = slice_get_within (rows_of es) id.0 row at in
        let len = length_rows es in
        (isa_low (row_parents (rows_of es)) fall id row.jump (k.rows id.0 row at).jump, omega arith)

    pub jump_under : 0 < id.0 → row.jump.0 < id.0
    jump_under some = (k.rows id.0 row at).lower some

    jump_is : IsA (parents (classes_of (texts keys) es)) id row.jump
    jump_is = subst (λ ps. IsA ps id row.jump) (sym (parents_seen (texts keys) es)) (k.rows id.0 row at).jump

    pub jump_yes : (of : ClassId) → IsA (parents (classes_of (texts keys) es)) row.jump of → IsA (parents (classes_of (texts keys) es)) id of
    jump_yes of h = isa_join (parents (classes_of (texts keys) es)) id row.jump of jump_is h

    pub jump_no : (of : ClassId) → of.0 ≤ row.jump.0 → IsA (parents (classes_of (texts keys) es)) id of → IsA (parents (classes_of (texts keys) es)) row.jump of
    jump_no of up h = isa_jump (parents (classes_of (texts keys) es)) falling jump_is.0 id row.jump of jump_is.1 up h

    module _ (parent : ClassId) (e : row.parent ≡ Some parent) where
      parent_is : parent_of (parents (classes_of (texts keys) es)) (Some id) ≡ Some parent
      parent_is = ap (λ ps. parent_of ps (Some id)) (parents_seen (texts keys) es) ∙ parent_seen (rows_of es) id row at ∙ e

      pub parent_under : parent.0 < id.0
      parent_under = falling.falls id parent parent_is

      pub parent_yes : (of : ClassId) → IsA (parents (classes_of (texts keys) es)) parent of → IsA (parents (classes_of (texts keys) es)) id of
      parent_yes of h = isa_up (parents (classes_of (texts keys) es)) id parent of parent_is h

      pub parent_no : (of : ClassId) → of.0 < id.0 → IsA (parents (classes_of (texts keys) es)) id of → IsA (parents (classes_of (texts keys) es)) parent of
      parent_no of below h = go (isa_down (parents (classes_of (texts keys) es)) id of h)
        where
          go : (id ≡ of)
              ⊎ ((p : ClassId) × (parent_of (parents (classes_of (texts keys) es)) (Some id) ≡ Some p)
              × IsA (parents (classes_of (texts keys) es)) p of) → IsA (parents (classes_of (texts keys) es)) parent of
          go (inl same) = let s : id.0 ≡ of.0 = ap (λ (c : ClassId). c.0) same in absurd (omega arith)
          go (inr (p, f, r)) = subst (λ (c : ClassId). IsA (parents (classes_of (texts keys) es)) c of) (same_Some p parent (sym f ∙ parent_is)) r

    -- each class but the first has a parent
    pub orphan : row.parent ≡ None → 0 < id.0 → ⊥
    orphan none some = go row.parent (k.rows id.0 row at).inherits none
      where
        go : (o : Option ClassId) → Inherits (rows_of es) id.0 row o → o ≡ None → ⊥
        go None h e = let zero = h.0 in omega arith
        go (Some p) h e = cc

-- a search for an ancestor may go on at a class
pub record IsUnderWay (classes : List Class) (class at of : ClassId) : Type 0 where
  pub there : at.0 < length classes
  pub yes : IsA (parents classes) at of → IsA (parents classes) class of
  pub no : IsA (parents classes) class of → IsA (parents classes) at of

-- where it ends
pub ends : (classes : List Class) (class at of : ClassId) → Falls (parents classes) → at.0 ≤ of.0 → IsUnderWay classes class at of
    → ((at.0 == of.0) ≡ true → IsA (parents classes) class of) × (IsA (parents classes) class of → (at.0 == of.0) ≡ true)
ends classes class at of fall le way = (
  λ t. way.yes (0, ap Some (same_id at of (eqb-true at.0 of.0 t))),
  λ h. eq-eqb at.0 of.0 (let l = isa_low (parents classes) fall at of (way.no h) in omega arith),
)

pub ends_test : (classes : List Class) (class at of : ClassId) → Falls (parents classes) → at.0 ≤ of.0 → IsUnderWay classes class at of → (at.0 == of.0) ≡ is_a classes class of
ends_test classes class at of fall le way =
    let e = ends classes class at of fall le way in
    one_answer {P = IsA (parents classes) class of} (at.0 == of.0) (is_a classes class of) (e.0, e.1) (test_is classes class of, is_test classes class of fall)

-- the parent of a new class is a class
pub found_low : (classes : List Class) (name : List ℕ) (id : ClassId) → find_class classes name ≡ Some id → id.0 < length classes
unfolding find_class
found_low classes name id e = go (nat_lt (position_or_len (is_named name) classes) (length classes)) refl e
  where
    go : (b : Bool) → nat_lt (position_or_len (is_named name) classes) (length classes) ≡ b
        → option_map id_of (cond b (Some (position_or_len (is_named name) classes)) None) ≡ Some id → id.0 < length classes
    go true is s =
        let l = ltb-true (position_or_len (is_named name) classes) (length classes) is in
        let f : position_or_len (is_named name) classes ≡ id.0 = ap (λ (c : ClassId). c.0) (same_Some (id_of (position_or_len (is_named name) classes)) id s) in
        omega arith
    go false is s = absurd cc

pub admitted_low : (classes : List Class) (name parent : List ℕ) (id : ClassId) → admitted classes name parent ≡ Ok id → id.0 < length classes
admitted_low classes name parent id e = go (taken classes name) e
  where
    there : (o : Option ClassId) → find_class classes parent ≡ o → room_for classes o ≡ Ok id → id.0 < length classes
    there None is s = absurd cc
    there (Some p) is s = room (nat_le 4096 (length classes)) s
      where
        room : (b : Bool) → (if b then Err refusal.TooManyClasses else Ok p) ≡ Ok id → id.0 < length classes
        room true s = absurd cc
        room false s = let same : p ≡ id = cc in subst (λ (c : ClassId). c.0 < length classes) same (found_low classes parent p is)

    go : (o : Option ℕ) → admitted_unless classes o parent ≡ Ok id → id.0 < length classes
    go (Some line) s = absurd cc
    go None s = there (find_class classes parent) refl s
