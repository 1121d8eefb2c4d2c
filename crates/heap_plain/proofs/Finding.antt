-- Removing white units, and the names of removed objects in a range of indexes.
use Rattle.std.proofs.Common.{◌≡◌, ◌≢◌, ℕ, ◌+◌, ◌<◌, ap, subst, refl, sym, ◌∙◌, zero, suc, arith, Bool, false, length, get_or, List, ◌++◌, append_assoc, append-nil, Option, add-one}
use Rattle.std.proofs.Math.ListN.{set}
use Rattle.std.proofs.Math.Logic.{dite}
use Rattle.std.proofs.Math.Decide.{ℕ_discrete}
use Rattle.std.proofs.lemmas.List.{length-set, get_or-set_same, get_or-set_other}
use Rattle.heap_plain.specs.Types.{Name}
use Rattle.heap_plain.specs.declared.life.Life.{Life}
use Rattle.heap_plain.specs.declared.life.Life.TheVariants.{Free}
use Rattle.heap_plain.specs.Parts.{name_at, life_at, first_at}
use Rattle.heap_plain.specs.Sweeping.{removed_name, removed_names, without, Removes}

pub removed_more : (names : List (Option Name)) (lives : List Life) (from count : ℕ)
    → removed_names names lives from (count + 1)
    ≡ removed_names names lives from count ++ removed_name (life_at lives (from + count)) (name_at names (from + count))
removed_more names lives from count = ap (removed_names names lives from) (add-one count)

-- the ranges of indexes in a row
pub removed_append : (names : List (Option Name)) (lives : List Life) (from a b : ℕ)
    → removed_names names lives from (a + b) ≡ removed_names names lives from a ++ removed_names names lives (from + a) b
removed_append names lives from a zero = ap (removed_names names lives from) none ∙ sym (append-nil (removed_names names lives from a))
  where
    none : a + 0 ≡ a
    none = omega arith
removed_append names lives from a (suc b) =
    let sum : a + suc b ≡ suc (a + b) = omega arith in
    let place : from + (a + b) ≡ from + a + b = omega arith in
    ap (removed_names names lives from) sum
    ∙ ap (λ (i : ℕ). removed_names names lives from (a + b) ++ removed_name (life_at lives i) (name_at names i)) place
    ∙ ap (λ (ns : List Name). ns ++ removed_name (life_at lives (from + a + b)) (name_at names (from + a + b))) (removed_append names lives from a b)
    ∙ append_assoc (removed_names names lives from a) (removed_names names lives (from + a) b) (removed_name (life_at lives (from + a + b)) (name_at names (from + a + b)))

-- where each index tells the same
pub removed_same_names : (names ns : List (Option Name)) (lives ls : List Life) → ((i : ℕ) → removed_name (life_at ls i) (name_at ns i) ≡ removed_name (life_at lives i) (name_at names i))
    → (from count : ℕ) → removed_names ns ls from count ≡ removed_names names lives from count
removed_same_names names ns lives ls same from zero = refl
removed_same_names names ns lives ls same from (suc count) = λ t. removed_same_names names ns lives ls same from count t ++ same (from + count) t

-- one more item after a commit
pub removes_more : (firsts : List ℕ) (marked : List Bool) (old new : List Life) (i : ℕ) (v : Life) → Removes firsts marked old new i → i < length old
    → v ≡ without (life_at new i) (get_or marked (first_at firsts i) false)
    → Removes firsts marked old (set new i v) (i + 1)
removes_more firsts marked old new i v was below is = record {
  len = length-set new i v ∙ was.len;
  done = λ j less. dite (ℕ_discrete j i)
      (λ (e : j ≡ i). subst (λ (k : ℕ). life_at (set new i v) k ≡ without (life_at old k) (get_or marked (first_at firsts k) false)) (sym e)
      (get_or-set_same new i v Free (omega (arith, was.len)) ∙ is ∙ ap (λ (life : Life). without life (get_or marked (first_at firsts i) false)) (was.rest i (omega arith))))
      (λ (ne : j ≢ i). get_or-set_other new i j v Free ne ∙ was.done j (omega arith));
  rest = λ j more. get_or-set_other new i j v Free (λ e. absurd (omega arith)) ∙ was.rest j (omega arith);
}
