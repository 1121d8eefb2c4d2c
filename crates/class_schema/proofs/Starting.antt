-- The table of one class.
use Rattle.std.proofs.Common.{◌≡◌, ℕ, zero, suc, ◌≤◌, refl, sym, ap, subst, arith, false, [], ◌∷◌, None, String, string_bytes, codes}
use Rattle.std.specs.declared.alloc.Global.{Global}
use Rattle.std.specs.List.{IsDistinct}
use Rattle.std.proofs.lemmas.Option.{same_Some}
use Rattle.class_schema.specs.declared.rows.ClassRow.{ClassRow}
use Rattle.class_schema.specs.Types.ready
use Rattle.class_schema.specs.Rows.{IsRow, AreRows, KnowChildren, Keeps}

-- what is kept of the class that each table has
abbrev pub object_row : ClassRow
object_row =
    record {
      line = 0;
      parent = None;
      has_child = false;
      depth = 0;
      jump = record { 0 = 0 };
      inherited = 0;
      fields = [];
      refs = 0;
      plain = 0;
      ready = ready.After 0;
    }

is_row : (slots : ℕ) → IsRow slots 0 (object_row ∷ []) 0 object_row
is_row slots =
    record {
      adds_up =
          record {
            refs = λ names. refl;
            plain = λ names. refl;
            fits = omega arith;
            placed = λ names. refl;
            different = λ i j d less lt. absurd (omega arith);
            inherited = omega arith;
            ready = refl;
          };
      each = λ i d lt. absurd (omega arith);
      inherits = (refl, refl);
      jump = (0, refl);
      lower = λ lt. absurd (omega arith);
      depth = omega arith;
    }

pub keeps_object : (slots : ℕ) (key : String Global) → string_bytes key ≡ codes "Object" → 1 ≤ slots → slots ≤ 64 → Keeps slots [] ((key, object_row) ∷ [])
unfolding IsDistinct
keeps_object slots key is_object some few =
    record {
      some_slots = some;
      few_slots = few;
      some = omega arith;
      few = omega arith;
      object = (is_object, refl);
      unique_classes = (tt, tt);
      unique_names = tt;
      rows = rows;
      children = children;
      used = λ n lt. absurd (omega arith);
    }
  where
    rows : AreRows slots 0 (object_row ∷ [])
    rows zero row at = subst (IsRow slots 0 (object_row ∷ []) 0) (same_Some object_row row at) (is_row slots)
    rows (suc id) row at = absurd cc

    children : KnowChildren (object_row ∷ [])
    children zero row at = ap (λ (r : ClassRow). r.has_child) (sym (same_Some object_row row at))
    children (suc id) row at = absurd cc
