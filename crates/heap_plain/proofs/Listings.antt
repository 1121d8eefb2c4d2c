-- Lists of linked indexes, as they are written.
use Rattle.std.proofs.Common.{◌≡◌, ℕ, ◌+◌, ◌<◌, ◌≤◌, refl, sym, ap, ◌∙◌, subst, zero, suc, arith, add-one, Bool, cond, true, false, List, [], ◌∷◌, ◌++◌, append_assoc, append-nil, length, length-append, get_or, slice_get, Option, Some}
use Rattle.world_model.specs.NameLists.{same_name, has}
use Rattle.world_model.proofs.ListFacts.{or_right}
use Rattle.world_model.proofs.NameFacts.{same_name_refl}
use Rattle.heap_plain.specs.Queue.{Queued}
use Rattle.heap_plain.specs.Types.{Name}
use Rattle.heap_plain.specs.declared.life.Life.{Life}
use Rattle.heap_plain.specs.Parts.{name_at, life_at, first_at, next_at}
use Rattle.heap_plain.specs.Listing.{chained, chain, begins, unit_at, units_at, CanList}
use Rattle.heap_plain.specs.Units.{AreLinked}
use Rattle.heap_plain.specs.Destroying.{AreNamed}

-- ---- chains

pub length-chain : (links : List ℕ) (i count : ℕ) → length (chain links i count) ≡ count
length-chain links i zero = refl
length-chain links i (suc count) = let rest = length-chain links i count in let a = length-append (chain links i count) (chained links i count ∷ []) in omega arith

pub chained_next : (links : List ℕ) (i k : ℕ) → chained links i (suc k) ≡ chained links (next_at links i) k
chained_next links i zero = refl
chained_next links i (suc k) = ap (next_at links) (chained_next links i k)

pub chain_next : (links : List ℕ) (i count : ℕ) → chain links i (suc count) ≡ i ∷ chain links (next_at links i) count
chain_next links i zero = refl
chain_next links i (suc count) = λ t. chain_next links i count t ++ chained_next links i count t ∷ []

-- the members of a unit are named along its links
pub linked_named : (names : List (Option Name)) (links : List ℕ) (i : ℕ) (u : List Name) → AreLinked names links i u → AreNamed names (chain links i (length u)) u
linked_named names links i [] h = tt
linked_named names links i (n ∷ u) h = subst (λ (at : List ℕ). AreNamed names at (n ∷ u)) (sym (chain_next links i (length u))) (h.0, linked_named names links (next_at links i) u h.1)

-- the names along the links of a unit are its members
pub linked_name : (names : List (Option Name)) (links : List ℕ) (i : ℕ) (u : List Name) → AreLinked names links i u → (k : ℕ) → k < length u → name_at names (chained links i k) ≡ slice_get u k
linked_name names links i [] h k b = absurd (omega arith)
linked_name names links i (n ∷ u) h zero b = h.0
linked_name names links i (n ∷ u) h (suc k) b = ap (name_at names) (chained_next links i k) ∙ linked_name names links (next_at links i) u h.1 k (omega arith)

-- a member of a unit, along its links
pub linked_member : (names : List (Option Name)) (links : List ℕ) (i : ℕ) (u : List Name) → AreLinked names links i u → (k : ℕ) → k < length u
    → (n : Name) × (name_at names (chained links i k) ≡ Some n) × (has u n ≡ true)
linked_member names links i [] h k b = absurd (omega arith)
linked_member names links i (n ∷ u) h zero b = (n, h.0, let t = same_name_refl n in rw t refl)
linked_member names links i (n ∷ u) h (suc k) b =
    let r = linked_member names links (next_at links i) u h.1 k (omega arith) in
    (r.0, ap (name_at names) (chained_next links i k) ∙ r.1, or_right (same_name r.0 n) (has u r.0) r.2)

-- ---- units in a row

units_more : (lives : List Life) (firsts sizes links : List ℕ) (from k : ℕ)
    → units_at lives firsts sizes links from (k + 1) ≡ units_at lives firsts sizes links from k ++ unit_at lives firsts sizes links (from + k)
units_more lives firsts sizes links from k = ap (units_at lives firsts sizes links from) (add-one k)

unit_there : (lives : List Life) (firsts sizes links : List ℕ) (i : ℕ) → begins (life_at lives i) (first_at firsts i) i ≡ true → unit_at lives firsts sizes links i ≡ chain links i (get_or sizes i 0)
unit_there lives firsts sizes links i e = ap (λ (b : Bool). cond b (chain links i (get_or sizes i 0)) []) e

unit_none : (lives : List Life) (firsts sizes links : List ℕ) (i : ℕ) → begins (life_at lives i) (first_at firsts i) i ≡ false → unit_at lives firsts sizes links i ≡ []
unit_none lives firsts sizes links i e = ap (λ (b : Bool). cond b (chain links i (get_or sizes i 0)) []) e

module _ (lives : List Life) (firsts sizes links : List ℕ) (from k : ℕ) (old : Queued) where
  -- the queue, when the units that begin at the first k indexes are listed
  abbrev pub listed_so_far : ℕ → Queued
  listed_so_far k = record old { todo = old.todo ++ units_at lives firsts sizes links from k }

  abbrev is_first : Bool
  is_first = begins (life_at lives (from + k)) (first_at firsts (from + k)) (from + k)

  -- the next unit fits
  pub unit_fits : {count : ℕ} {queue : Queued} → CanList lives firsts sizes links from count (length old.todo) old.room → queue ≡ listed_so_far k → k < count → is_first ≡ true
      → length queue.todo + get_or sizes (from + k) 0 ≤ queue.room
  unit_fits can was below e =
      let fits = can.fits (k + 1) (omega arith) in
      let more = ap (λ (xs : List ℕ). length xs) (units_more lives firsts sizes links from k) in
      let a = length-append (units_at lives firsts sizes links from k) (unit_at lives firsts sizes links (from + k)) in
      let b = length-append old.todo (units_at lives firsts sizes links from k) in
      let size : length (unit_at lives firsts sizes links (from + k)) ≡ get_or sizes (from + k) 0 =
      ap (λ (xs : List ℕ). length xs) (unit_there lives firsts sizes links (from + k) e) ∙ length-chain links (from + k) (get_or sizes (from + k) 0) in
      rw was (omega (arith, fits, more, a, b, size))

  more_listed : (unit : List ℕ) → unit_at lives firsts sizes links (from + k) ≡ unit → record old { todo = (old.todo ++ units_at lives firsts sizes links from k) ++ unit } ≡ listed_so_far (k + 1)
  more_listed unit is = ap (λ (xs : List ℕ). record old { todo = xs })
      (append_assoc old.todo (units_at lives firsts sizes links from k) unit
      ∙ ap (λ (xs : List ℕ). old.todo ++ xs) (ap (λ (xs : List ℕ). units_at lives firsts sizes links from k ++ xs) (sym is) ∙ sym (units_more lives firsts sizes links from k)))

  pub queues_unit : {queue next : Queued} → queue ≡ listed_so_far k → is_first ≡ true → next ≡ record queue { todo = queue.todo ++ chain links (from + k) (get_or sizes (from + k) 0) } → next ≡ listed_so_far (k + 1)
  queues_unit was e now =
      now ∙ (λ t. record (was t) { todo = (was t).todo ++ chain links (from + k) (get_or sizes (from + k) 0) })
      ∙ more_listed (chain links (from + k) (get_or sizes (from + k) 0)) (unit_there lives firsts sizes links (from + k) e)

  pub queues_none : {queue : Queued} → queue ≡ listed_so_far k → is_first ≡ false → queue ≡ listed_so_far (k + 1)
  queues_none was e =
      was ∙ ap (λ (xs : List ℕ). record old { todo = xs }) (sym (append-nil (old.todo ++ units_at lives firsts sizes links from k)))
      ∙ more_listed [] (unit_none lives firsts sizes links (from + k) e)
