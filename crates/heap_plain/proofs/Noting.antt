-- Lists of notes.
use Rattle.std.proofs.Common.{◌≡◌, ℕ, refl, sym, ap, ◌∙◌, List, [], ◌∷◌, ◌++◌, append_assoc, Option, Some}
use Rattle.std.specs.Option.{option_to_list}
use Rattle.heap_plain.specs.Types.{Name}
use Rattle.heap_plain.specs.Parts.{name_at}
use Rattle.heap_plain.specs.Notes.{names_at}

pub names_at-append : (names : List (Option Name)) (xs ys : List ℕ) → names_at names (xs ++ ys) ≡ names_at names xs ++ names_at names ys
names_at-append names [] ys = refl
names_at-append names (x ∷ xs) ys =
    ap (λ (zs : List Name). option_to_list (name_at names x) ++ zs) (names_at-append names xs ys)
    ∙ sym (append_assoc (option_to_list (name_at names x)) (names_at names xs) (names_at names ys))

pub one_name : (names : List (Option Name)) (i : ℕ) (n : Name) → name_at names i ≡ Some n → names_at names (i ∷ []) ≡ n ∷ []
one_name names i n e = ap (λ (o : Option Name). option_to_list o ++ []) e
