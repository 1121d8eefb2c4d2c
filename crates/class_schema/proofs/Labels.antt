-- The names of fields, by number.
use Rattle.std.proofs.Common.{◌≡◌, ◌≢◌, ℕ, ◌<◌, ◌==◌, refl, sym, ap, ◌∙◌, subst, inl, inr, arith, Bool, true, false, ◌||◌, cond, ◌⊎◌, List, [], ◌∷◌, length, map, drop, Option, Some, None, option_map, slice_get, slice_index_or, String, string_bytes}
use Rattle.std.specs.Prelude.{nat_lt, position}
use Rattle.std.specs.List.{list_any, find, All, Any, IsDistinct, position_or_len}
use Rattle.std.specs.Str.{bytes_eq}
use Rattle.std.specs.String.{string_eq}
use Rattle.std.specs.declared.alloc.Global.{Global}
use Rattle.std.proofs.lemmas.Bool.{cases_order, eqb-true, eqb-false, eq-eqb, ne_eqb, ltb-true, ltb-false, false_from_ne_true}
use Rattle.std.proofs.lemmas.List.{length-map}
use Rattle.std.proofs.lemmas.List.Elements.{All-weaker, All-head, All-tail, All-cons, All-nil, All-drop}
use Rattle.std.proofs.lemmas.List.Folds.{Any-from_list_any, list_any_none, list_any_at}
use Rattle.std.proofs.lemmas.List.Quantifiers.{position-Some}
use Rattle.std.proofs.lemmas.List.Sums.{fails_before_first}
use Rattle.std.proofs.lemmas.Map.Keys.{apart_from_distinct}
use Rattle.std.proofs.lemmas.Option.{slice_get-map, get_or_from_slice_get, slice_get-get_or, slice_get_within, same_Some}
use Rattle.std.proofs.lemmas.Slice.Eq.{bytes_eq-Decides}
use Rattle.class_schema.specs.declared.rows.FieldRow.{FieldRow}
use Rattle.class_schema.specs.declared.rows.ClassRow.{ClassRow}
use Rattle.class_schema.specs.Class.{Declaration}
use Rattle.class_schema.specs.Layout.{Placed, as_field}
use Rattle.class_schema.specs.Table.{is_called, has_field}
use Rattle.class_schema.specs.Rows.{texts, declaration_of, placed_of, classes_of, rows_of, is_used, IsFieldRow, AreRows}
use Rattle.class_schema.proofs.Places.{any_weaker}
use Rattle.class_schema.proofs.Views.{Entries, something}

-- equal texts
pub same_bytes : (xs ys : List ℕ) → bytes_eq xs ys ≡ true → xs ≡ ys
same_bytes xs ys e = (bytes_eq-Decides xs ys).0 e

pub bytes_same : (xs ys : List ℕ) → xs ≡ ys → bytes_eq xs ys ≡ true
bytes_same xs ys e = (bytes_eq-Decides xs ys).1 e

-- ---- the first that passes

module _ {A B : Type 0} (f : A → B) (p : B → Bool) (q : A → Bool) where
  map_of_cond : (b : Bool) (x : A) (o : Option A) → option_map f (cond b (Some x) o) ≡ cond b (Some (f x)) (option_map f o)
  map_of_cond true x o = refl
  map_of_cond false x o = refl

  pub find_map : (xs : List A) → All (λ x. p (f x) ≡ q x) xs → find p (map f xs) ≡ option_map f (find q xs)
  find_map [] same = refl
  find_map (x ∷ xs) same = (λ t. cond (All-head (λ y. p (f y) ≡ q y) x xs same t) (Some (f x)) (find_map xs (All-tail (λ y. p (f y) ≡ q y) x xs same) t)) ∙ sym (map_of_cond (q x) x (find q xs))

pub option_map_map : {A B C : Type 0} (g : B → C) (f : A → B) (o : Option A) → option_map g (option_map f o) ≡ option_map (λ x. g (f x)) o
option_map_map g f None = refl
option_map_map g f (Some x) = refl

pub find_nothing : {A : Type 0} (p : A → Bool) (xs : List A) → All (λ x. p x ≡ false) xs → find p xs ≡ None
find_nothing p [] none = refl
find_nothing p (x ∷ xs) none = (λ t. cond (All-head (λ y. p y ≡ false) x xs none t) (Some x) (find p xs)) ∙ find_nothing p xs (All-tail (λ y. p y ≡ false) x xs none)

pub nothing_found : {A : Type 0} (p : A → Bool) (xs : List A) → find p xs ≡ None → All (λ x. p x ≡ false) xs
nothing_found p [] e = All-nil (λ x. p x ≡ false)
nothing_found p (x ∷ xs) e = go (p x) refl e (nothing_found p xs)
  where
    go : (b : Bool) → p x ≡ b → cond b (Some x) (find p xs) ≡ None → (find p xs ≡ None → All (λ y. p y ≡ false) xs) → All (λ y. p y ≡ false) (x ∷ xs)
    go true is none rest = absurd cc
    go false is none rest = All-cons (λ y. p y ≡ false) x xs is (rest none)

-- ---- a name and its number

-- two keys have two texts
pub keys_differ : (keys : List (String Global)) → IsDistinct string_eq keys → (i n : ℕ) (a b : String Global) → i < n → slice_get keys i ≡ Some a
    → slice_get keys n ≡ Some b → string_bytes a ≡ string_bytes b → ⊥
keys_differ keys unique i n a b less ai bn same =
    let within = slice_get_within keys n b bn in
    let t : string_eq a b ≡ true = bytes_same (string_bytes a) (string_bytes b) same in
    let f = apart_from_distinct string_eq keys i n a unique less within in
    let g : string_eq a b ≡ false = (λ t. string_eq (sym (get_or_from_slice_get keys i a a ai) t) (sym (get_or_from_slice_get keys n b a bn) t)) ∙ f in
    absurd cc

pub text_at : (keys : List (String Global)) (j : ℕ) (key : String Global) → slice_get keys j ≡ Some key → slice_index_or (texts keys) j [] ≡ string_bytes key
text_at keys j key at = get_or_from_slice_get (texts keys) j (string_bytes key) [] (slice_get-map string_bytes keys j ∙ ap (option_map string_bytes) at)

texts_differ : (keys : List (String Global)) → IsDistinct string_eq keys → (i n : ℕ) → i < n → n < length keys → slice_index_or (texts keys) i [] ≡ slice_index_or (texts keys) n [] → ⊥
texts_differ keys unique i n less within same =
    let a = something keys i (omega arith) in
    let b = something keys n within in
    keys_differ keys unique i n a.0 b.0 less a.1 b.1 (sym (text_at keys i a.0 a.1) ∙ same ∙ text_at keys n b.0 b.1)

-- one text has one number
pub one_number : (keys : List (String Global)) → IsDistinct string_eq keys → (i j : ℕ) → i < length keys → j < length keys → slice_index_or (texts keys) i [] ≡ slice_index_or (texts keys) j [] → i ≡ j
one_number keys unique i j li lj same = go (cases_order i j)
  where
    go : (i ≡ j) ⊎ ((i < j) ⊎ (j < i)) → i ≡ j
    go (inl e) = e
    go (inr (inl less)) = absurd (texts_differ keys unique i j less lj same)
    go (inr (inr less)) = absurd (texts_differ keys unique j i less li (sym same))

module _ (keys : List (String Global)) (name : List ℕ) where
  -- the key has the name
  abbrev pub is_text : String Global → Bool
  is_text key = bytes_eq name (string_bytes key)

  -- the text of a number that is there
  test_at : (j : ℕ) (d : String Global) → j < length keys → bytes_eq name (slice_index_or (texts keys) j []) ≡ bytes_eq name (string_bytes (slice_index_or keys j d))
  test_at j d lt = ap (bytes_eq name) (text_at keys j (slice_index_or keys j d) (slice_get-get_or keys j d lt))

  pub name_at : (k : ℕ) → position is_text keys ≡ Some k → (k < length keys) × (slice_index_or (texts keys) k [] ≡ name)
  name_at k e =
      let lt = within in
      let key = something keys k lt in
      let p = position-Some is_text keys k key.0 e in
      (lt, sym (same_bytes name _ (test_at k key.0 lt ∙ p.1)))
    where
      within : k < length keys
      within = go (nat_lt (position_or_len is_text keys) (length keys)) refl e
        where
          go : (b : Bool) → nat_lt (position_or_len is_text keys) (length keys) ≡ b → cond b (Some (position_or_len is_text keys)) None ≡ Some k → k < length keys
          go true is s = let l = ltb-true (position_or_len is_text keys) (length keys) is in let f : position_or_len is_text keys ≡ k = same_Some _ k s in omega arith
          go false is s = absurd cc

  -- only the first name that passes has the text
  pub same_number : IsDistinct string_eq keys → (k : ℕ) → position is_text keys ≡ Some k → (j : ℕ) → j < length keys → bytes_eq name (slice_index_or (texts keys) j []) ≡ (j == k)
  same_number unique k e j lt = go (cases_order j k)
    where
      here : (k < length keys) × (slice_index_or (texts keys) k [] ≡ name)
      here = name_at k e

      go : (j ≡ k) ⊎ ((j < k) ⊎ (k < j)) → bytes_eq name (slice_index_or (texts keys) j []) ≡ (j == k)
      go (inl s) = bytes_same name _ (sym (ap (λ n. slice_index_or (texts keys) n []) s ∙ here.1)) ∙ sym (eq-eqb j k s)
      go (inr (inl less)) = false_from_ne_true _ (λ t. texts_differ keys unique j k less here.0 (sym (same_bytes name _ t) ∙ sym here.1)) ∙ sym (ne_eqb j k (λ s. absurd (omega arith)))
      go (inr (inr less)) = false_from_ne_true _ (λ t. texts_differ keys unique k j less lt (here.1 ∙ same_bytes name _ t)) ∙ sym (ne_eqb j k (λ s. absurd (omega arith)))

  -- no name has a text that is not there
  pub no_number : position is_text keys ≡ None → (j : ℕ) → j < length keys → bytes_eq name (slice_index_or (texts keys) j []) ≡ false
  no_number e j lt = go (nat_lt (position_or_len is_text keys) (length keys)) refl e
    where
      go : (b : Bool) → nat_lt (position_or_len is_text keys) (length keys) ≡ b → cond b (Some (position_or_len is_text keys)) None ≡ None → bytes_eq name (slice_index_or (texts keys) j []) ≡ false
      go true is s = absurd cc
      go false is s =
          let l = ltb-false (position_or_len is_text keys) (length keys) is in
          let key = something keys j lt in
          test_at j key.0 lt ∙ fails_before_first is_text keys j key.0 (omega arith)

  pub no_key : position is_text keys ≡ None → list_any is_text keys ≡ false
  no_key e = go (nat_lt (position_or_len is_text keys) (length keys)) refl e
    where
      go : (b : Bool) → nat_lt (position_or_len is_text keys) (length keys) ≡ b → cond b (Some (position_or_len is_text keys)) None ≡ None → list_any is_text keys ≡ false
      go true is s = absurd cc
      go false is s =
          let l = ltb-false (position_or_len is_text keys) (length keys) is in
          list_any_none is_text keys (λ j d lt. fails_before_first is_text keys j d (omega arith))

  -- a key that has the text is the one that is found
  pub number_found : IsDistinct string_eq keys → (j : ℕ) → option_map string_bytes (slice_get keys j) ≡ Some name → position is_text keys ≡ Some j
  number_found unique j at = go (position is_text keys) refl
    where
      seen : slice_get (texts keys) j ≡ Some name
      seen = slice_get-map string_bytes keys j ∙ at

      inside : j < length keys
      inside = let lt = slice_get_within (texts keys) j name seen in let l = length-map keys string_bytes in omega arith

      text : slice_index_or (texts keys) j [] ≡ name
      text = get_or_from_slice_get (texts keys) j name [] seen

      go : (o : Option ℕ) → position is_text keys ≡ o → position is_text keys ≡ Some j
      go (Some k) e = e ∙ ap Some (one_number keys unique k j (name_at k e).0 inside ((name_at k e).1 ∙ sym text))
      go None e = let yes : true ≡ false = sym (bytes_same name _ (sym text)) ∙ no_number e j inside in absurd cc

  -- ---- fields by name

  module _ (classes : ℕ) (fs : List FieldRow) (each : All (IsFieldRow (length keys) classes) fs) where
    tests : (IsDistinct string_eq keys) → (k : ℕ) → position is_text keys ≡ Some k → All (λ f. bytes_eq name (slice_index_or (texts keys) f.name []) ≡ (f.name == k)) fs
    tests unique k e = All-weaker (IsFieldRow (length keys) classes) (λ f. bytes_eq name (slice_index_or (texts keys) f.name []) ≡ (f.name == k)) (λ f i. same_number unique k e f.name i.named) fs each

    fails : position is_text keys ≡ None → All (λ f. bytes_eq name (slice_index_or (texts keys) f.name []) ≡ false) fs
    fails e = All-weaker (IsFieldRow (length keys) classes) (λ f. bytes_eq name (slice_index_or (texts keys) f.name []) ≡ false) (λ f i. no_number e f.name i.named) fs each

    abbrev by_number : ℕ → FieldRow → Bool
    by_number k f = f.name == k

    pub line_found : IsDistinct string_eq keys → (k : ℕ) → position is_text keys ≡ Some k
        → option_map (λ (f : Declaration). f.line) (find (is_called name) (map (declaration_of (texts keys)) fs))
        ≡ option_map (λ (f : FieldRow). f.line) (find (λ f. f.name == k) fs)
    line_found unique k e =
        ap (option_map (λ (f : Declaration). f.line)) (find_map (declaration_of (texts keys)) (is_called name) (by_number k) fs (tests unique k e))
        ∙ option_map_map (λ (f : Declaration). f.line) (declaration_of (texts keys)) (find (by_number k) fs)

    pub field_found : IsDistinct string_eq keys → (k : ℕ) → position is_text keys ≡ Some k
        → option_map as_field (find (λ p. is_called name p.declared) (map (placed_of (texts keys)) fs))
        ≡ option_map (λ (f : FieldRow). f.field) (find (λ f. f.name == k) fs)
    field_found unique k e =
        ap (option_map as_field) (find_map (placed_of (texts keys)) (λ (p : Placed). is_called name p.declared) (by_number k) fs (tests unique k e))
        ∙ option_map_map as_field (placed_of (texts keys)) (find (by_number k) fs)

    pub line_missing : position is_text keys ≡ None → option_map (λ (f : Declaration). f.line) (find (is_called name) (map (declaration_of (texts keys)) fs)) ≡ None
    line_missing e =
        ap (option_map (λ (f : Declaration). f.line))
        (find_map (declaration_of (texts keys)) (is_called name) (λ f. false) fs (fails e)
        ∙ ap (option_map (declaration_of (texts keys))) (find_nothing (λ f. false) fs (λ k d lt. refl)))

    pub field_missing : position is_text keys ≡ None → option_map as_field (find (λ p. is_called name p.declared) (map (placed_of (texts keys)) fs)) ≡ None
    field_missing e =
        ap (option_map as_field)
        (find_map (placed_of (texts keys)) (λ (p : Placed). is_called name p.declared) (λ f. false) fs (fails e)
        ∙ ap (option_map (placed_of (texts keys))) (find_nothing (λ f. false) fs (λ k d lt. refl)))

    -- no field of a class has the number of a name that none of them has
    pub fresh_number : IsDistinct string_eq keys → (k : ℕ) → position is_text keys ≡ Some k
        → option_map (λ (f : Declaration). f.line) (find (is_called name) (map (declaration_of (texts keys)) fs)) ≡ None → All (λ f. f.name ≢ k) fs
    fresh_number unique k e none =
        All-weaker (λ f. (f.name == k) ≡ false) (λ f. f.name ≢ k) (λ f t. eqb-false f.name k t) fs (nothing_found (by_number k) fs (unmap (find (by_number k) fs) (sym (line_found unique k e) ∙ none)))
      where
        unmap : (o : Option FieldRow) → option_map (λ (f : FieldRow). f.line) o ≡ None → o ≡ None
        unmap None e = refl
        unmap (Some f) e = absurd cc

-- ---- whether some class has a field of a name

module _ (keys : List (String Global)) (name : List ℕ) where
  -- a class adds a field of the name
  abbrev adds : ClassRow → Bool
  adds row = list_any (λ f. bytes_eq name (slice_index_or (texts keys) f.name [])) (drop row.inherited row.fields)

  any_map : {A B : Type 0} (f : A → B) (p : B → Bool) (xs : List A) → list_any p (map f xs) ≡ list_any (λ x. p (f x)) xs
  any_map f p [] = refl
  any_map f p (x ∷ xs) = ap (λ b. p (f x) || b) (any_map f p xs)

  has_seen : (es : Entries) → has_field (classes_of (texts keys) es) name ≡ list_any adds (rows_of es)
  unfolding has_field
  has_seen [] = refl
  has_seen (e ∷ es) = λ t. any_map (declaration_of (texts keys)) (is_called name) (drop e.1.inherited e.1.fields) t || has_seen es t

  module _ (slots : ℕ) (es : Entries) (are : AreRows slots (length keys) (rows_of es)) (used : (n : ℕ) → n < length keys → is_used (rows_of es) n ≡ true) where
    there : list_any (is_text keys name) keys ≡ true → list_any adds (rows_of es) ≡ true
    there h = go (Any-from_list_any (is_text keys name) keys h)
      where
        go : Any (λ key. is_text keys name key ≡ true) keys → list_any adds (rows_of es) ≡ true
        go (k, key, lt, e, t) =
            any_weaker (λ row. list_any (λ f. f.name == k) (drop row.inherited row.fields)) adds
            (λ row any.
            any_weaker (λ f. f.name == k) (λ f. bytes_eq name (slice_index_or (texts keys) f.name [])) named (drop row.inherited row.fields) any)
            (rows_of es) (used k lt)
          where
            named : (f : FieldRow) → (f.name == k) ≡ true → bytes_eq name (slice_index_or (texts keys) f.name []) ≡ true
            named f s = ap (λ n. bytes_eq name (slice_index_or (texts keys) n [])) (eqb-true f.name k s) ∙ test_at keys name k key lt ∙ ap (is_text keys name) e ∙ t

    back : list_any adds (rows_of es) ≡ true → list_any (is_text keys name) keys ≡ true
    back h = go (Any-from_list_any adds (rows_of es) h)
      where
        go : Any (λ row. adds row ≡ true) (rows_of es) → list_any (is_text keys name) keys ≡ true
        go (i, row, lt, e, t) = field (Any-from_list_any (λ f. bytes_eq name (slice_index_or (texts keys) f.name [])) (drop row.inherited row.fields) t)
          where
            each : All (IsFieldRow (length keys) (length (rows_of es))) (drop row.inherited row.fields)
            each = All-drop (IsFieldRow (length keys) (length (rows_of es))) row.inherited row.fields (are i row (slice_get-get_or (rows_of es) i row lt ∙ ap Some e)).each

            field : Any (λ f. bytes_eq name (slice_index_or (texts keys) f.name []) ≡ true) (drop row.inherited row.fields) → list_any (is_text keys name) keys ≡ true
            field (j, f, within, s, u) =
                let i : IsFieldRow (length keys) (length (rows_of es)) f = subst (IsFieldRow (length keys) (length (rows_of es))) s (each j f within) in
                let key = something keys f.name i.named in
                list_any_at (is_text keys name) keys f.name key.0 i.named (sym (test_at keys name f.name key.0 i.named) ∙ u)

    -- exactly the names of fields are kept
    pub has_kept : list_any (is_text keys name) keys ≡ has_field (classes_of (texts keys) es) name
    has_kept = iff (list_any (is_text keys name) keys) (list_any adds (rows_of es)) there back ∙ sym (has_seen es)
      where
        iff : (a b : Bool) → (a ≡ true → b ≡ true) → (b ≡ true → a ≡ true) → a ≡ b
        iff true true f g = refl
        iff true false f g = sym (f refl)
        iff false true f g = g refl
        iff false false f g = refl
