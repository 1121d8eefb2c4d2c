-- The seats and the history when a seat makes a step: it has seen all, and may add an entry.
use Rattle.std.proofs.Common.{◌≡◌, ◌≢◌, ℕ, refl, sym, ap, ◌∙◌, subst, ⊎_elim, Bool, true, false, List, [], ◌∷◌, ◌++◌, set, append_assoc, append-nil}
use Rattle.std.proofs.lemmas.List.Elements.{filter-append}
use mathlib.Core.Option.{some}
use lib.ListN.{get_elem?}
use Rattle.atomic_table.proofs.Lists.{at_set}
use Rattle.world_model.specs.Sizes.{Sizes}
use Rattle.world_model.specs.State.{State, beginning}
use Rattle.world_model.specs.Next.{next}
use Rattle.world_model.specs.Histories.{May}
use Rattle.world_model.specs.Stays.{turned_by}
use Rattle.world_model.proofs.Joins.{run-append, legal_join}
use Rattle.world_model.proofs.Staying.{parity_turns_holds}
use Rattle.heap_rule.specs.Types.{Pass, Entry, View}
use Rattle.heap_rule.specs.Views.{has_pass, EachSeat}
use Rattle.heap_rule.specs.Sees.{SeesHistory}
use Rattle.heap_rule.specs.Telling.{Adds}
use Rattle.heap_rule.specs.Rule.{Past}

-- one seat has a new view, and the others keep theirs
pub seats_stay : (K L : ℕ → View → Type 0) (views : List View) (id : ℕ) (v w : View) → get_elem? views id ≡ some v → (K id v → L id w)
    → ((j : ℕ) (u : View) → j ≢ id → get_elem? views j ≡ some u → K j u → L j u) → EachSeat K views → EachSeat L (set views id w)
seats_stay K L views id v w at mine others each j u there =
    ⊎_elim (λ (t : (j ≡ id) × (w ≡ u)). subst (λ (x : ℕ × View). L x.0 x.1) (λ i. (sym t.0 i, t.1 i)) (mine (each id v at)))
    (λ (t : (j ≢ id) × (get_elem? views j ≡ some u)). others j u t.0 t.1 (each j u t.1)) (at_set views id j w u there)

-- a pass of one seat is of no other
pub apart : (owner : Pass → ℕ) (j id : ℕ) (passes : List Pass) (p : Pass) → j ≢ id → owner p ≡ id → ((q : Pass) → has_pass passes q ≡ true → owner q ≡ j) → has_pass passes p ≡ false
apart owner j id passes p other mine own = go (has_pass passes p) refl
  where
    go : (b : Bool) → has_pass passes p ≡ b → b ≡ false
    go true e = absurd (other (sym (own p e) ∙ mine))
    go false e = refl

-- what the seat has seen when it has seen all: the past is as it was, and nothing is added
pub record NoMore (z : Sizes) (history : List Entry) (s : State) (parity : Bool) (owner : Pass → ℕ) (views : List View) (id : ℕ) (v u : View) : Type 0 where
  pub past : Past z history s parity owner (set views id (record u { front = history }))
  pub adds : Adds z v history [] u (record u { front = history })

pub no_more : (z : Sizes) (history : List Entry) (s : State) (parity : Bool) (owner : Pass → ℕ) (views : List View) (id : ℕ) (v u : View) → u.passes ≡ v.passes → get_elem? views id ≡ some v
    → Past z history s parity owner views → NoMore z history s parity owner views id v u
no_more z history s parity owner views id v u same at past =
    let seen = past.sees id v at in
    record {
      past = record {
        legal = past.legal;
        left = past.left;
        parity_is = past.parity_is;
        sees = seats_stay (SeesHistory owner history) (SeesHistory owner history) views id v (record u { front = history }) at
            (λ was. record { rest = []; begins = sym (append-nil history); others = refl; own = rw same was.own }) (λ j w other there was. was) past.sees;
      };
      adds = record { between = seen.rest; others = seen.others; seen = seen.begins; front = sym (append-nil history); legal = past.legal; now = refl };
    }

-- and when it adds an entry of its own
pub record OneMore (z : Sizes) (history : List Entry) (s : State) (parity : Bool) (owner : Pass → ℕ) (views : List View) (id : ℕ) (v u : View) (e : Entry) : Type 0 where
  pub past : Past z (history ++ e ∷ []) (next s e) (turned_by parity e.act) owner (set views id (record u { front = history ++ e ∷ [] }))
  pub adds : Adds z v history (e ∷ []) u (record u { front = history ++ e ∷ [] })

pub one_more : (z : Sizes) (history : List Entry) (s : State) (parity : Bool) (owner : Pass → ℕ) (views : List View) (id : ℕ) (v u : View) (e : Entry)
    → u.passes ≡ v.passes → get_elem? views id ≡ some v
    → has_pass v.passes e.pass ≡ true → May z s e → Past z history s parity owner views → OneMore z history s parity owner views id v u e
one_more z history s parity owner views id v u e same at own may past =
    let seen = past.sees id v at in
    let legal = legal_join z beginning history (e ∷ []) past.legal (subst (λ (t : State). May z t e) (sym past.left) may, tt) in
    record {
      past = record {
        legal = legal;
        left = run-append beginning history (e ∷ []) ∙ ap (λ (t : State). next t e) past.left;
        parity_is = parity_turns_holds history e ∙ ap (λ (b : Bool). turned_by b e.act) past.parity_is;
        sees = seats_stay (SeesHistory owner history) (SeesHistory owner (history ++ e ∷ [])) views id v (record u { front = history ++ e ∷ [] }) at
            (λ was. record { rest = []; begins = sym (append-nil (history ++ e ∷ [])); others = refl; own = rw same was.own })
            (λ j w other there was. record {
              rest = was.rest ++ e ∷ [];
              begins = ap (λ (h : List Entry). h ++ e ∷ []) was.begins ∙ append_assoc w.front was.rest (e ∷ []);
              others = filter-append (λ x. has_pass w.passes x.pass) was.rest (e ∷ []) ∙ (let off = apart owner j id w.passes e.pass other (seen.own e.pass own) was.own in rw (was.others, off) refl);
              own = was.own;
            }) past.sees;
      };
      adds = record { between = seen.rest; others = seen.others; seen = seen.begins; front = refl; legal = legal; now = refl };
    }
