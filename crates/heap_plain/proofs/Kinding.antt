-- The kinds of a list and of one that goes on with others.
use Rattle.std.proofs.Common.{◌≡◌, ℕ, ◌+◌, ◌<◌, ◌≤◌, ◌&&◌, zero, suc, arith, true, sym, ap, ◌∙◌, List, [], ◌∷◌, ◌++◌, length, length-append, get_or-append-add, slice_get, nat_le, nat_lt, Some}
use Rattle.std.specs.List.{list_all}
use Rattle.std.proofs.lemmas.Bool.Decides.{nat_tests}
use Rattle.std.proofs.lemmas.List.{get_or_append_left}
use Rattle.std.proofs.lemmas.Option.{slice_get-get_or}
use Rattle.world_model.specs.Sizes.{Sizes}
use Rattle.world_model.specs.LaneSteps.{is_lawful, is_readiness}
use Rattle.world_model.proofs.ListFacts.{and_true}
use Rattle.heap_plain.specs.Types.{Kind}
use Rattle.heap_plain.specs.Parts.{no_kind, kind_at}

pub slice_left : (xs ys : List Kind) (k : ℕ) → k < length xs → slice_get (xs ++ ys) k ≡ slice_get xs k
slice_left xs ys k b =
    slice_get-get_or (xs ++ ys) k no_kind (omega (arith, length-append xs ys))
    ∙ ap (λ (kind : Kind). Some kind) (get_or_append_left xs ys no_kind k b) ∙ sym (slice_get-get_or xs k no_kind b)

pub slice_right : (xs ys : List Kind) (k : ℕ) → k < length ys → slice_get (xs ++ ys) (length xs + k) ≡ Some (kind_at ys k)
slice_right xs ys k b = slice_get-get_or (xs ++ ys) (length xs + k) no_kind (omega (arith, length-append xs ys)) ∙ ap (λ (kind : Kind). Some kind) (get_or-append-add xs ys k no_kind)

-- the cells of a lawful kind have room
kind_fits : (z : Sizes) (kind : Kind) → is_lawful z kind ≡ true → kind.refs + kind.plain ≤ z.slots
kind_fits z kind e =
    let both = and_true (nat_lt kind.class.0 4096 && nat_le (kind.refs + kind.plain) z.slots) (is_readiness kind.ready) e in
    let low : nat_le (kind.refs + kind.plain) z.slots ≡ true = (and_true (nat_lt kind.class.0 4096) (nat_le (kind.refs + kind.plain) z.slots) both.0).1 in
    grind (arith, nat_tests, low)

pub lawful_fits : (z : Sizes) (kinds : List Kind) → list_all (is_lawful z) kinds ≡ true → (k : ℕ) → k < length kinds → (kind_at kinds k).refs + (kind_at kinds k).plain ≤ z.slots
lawful_fits z [] e k b = absurd (omega arith)
lawful_fits z (kind ∷ kinds) e zero b = kind_fits z kind (and_true _ _ e).0
lawful_fits z (kind ∷ kinds) e (suc k) b = lawful_fits z kinds (and_true _ _ e).1 k (omega arith)
