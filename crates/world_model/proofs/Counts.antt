-- Counts of names: in units, among removed objects, and what each entry adds or takes.
use Rattle.std.proofs.Common.{◌≡◌, ℕ, ◌+◌, ◌≤◌, refl, sym, ap, ◌∙◌, arith, Bool, cond, true, false, not, ◌||◌, List, [], ◌∷◌, ◌++◌, map, filter, append-nil}
use Rattle.std.specs.List.{list_any, count_by, sum_by}
use Rattle.std.proofs.lemmas.Bool.{not_from_false, false_from_ne_true, and_from}
use Rattle.std.proofs.lemmas.List.Sums.{sum_by-append, sum_by-cons}
use Rattle.std.proofs.lemmas.List.Concat.{flat_map-append}
use Rattle.std.proofs.lemmas.List.Filters.{sum_by-filter_both}
use Rattle.world_model.specs.Types.{Name, Pass, Lane, Marker, Collector, Act}
use Rattle.world_model.specs.Types.act
use Rattle.world_model.specs.Types.begin
use Rattle.world_model.specs.Types.commit
use Rattle.world_model.specs.Types.{Marking}
use Rattle.world_model.specs.Sizes.{Sizes}
use Rattle.world_model.specs.NameLists.{same_name, has, all_different, members, begins_with, names_from}
use Rattle.world_model.specs.World.{World, Removal, Removed, Begun, Finished}
use Rattle.world_model.specs.State.{State, is_marked, white_units}
use Rattle.world_model.specs.Next.{lane_of, next_world}
use Rattle.world_model.specs.Histories.{MayBy}
use Rattle.world_model.specs.Follows.{made_by, freed_by}
use Rattle.world_model.proofs.NameFacts.{same_name_refl}
use Rattle.world_model.proofs.Loosening.{members_parted}
use Rattle.world_model.proofs.Queues.{names_kept}

-- ---- counts

pub count-append : {A : Type 0} (p : A → Bool) (xs ys : List A) → count_by p (xs ++ ys) ≡ count_by p xs + count_by p ys
count-append p xs ys = sum_by-append (λ x. cond {A = ℕ} (p x) 1 0) xs ys

pub count-cons : {A : Type 0} (p : A → Bool) (x : A) (xs : List A) → count_by p (x ∷ xs) ≡ cond (p x) 1 0 + count_by p xs
count-cons p x xs = sum_by-cons (λ x. cond {A = ℕ} (p x) 1 0) x xs

-- what passes somewhere is counted
pub counted : {A : Type 0} (p : A → Bool) (xs : List A) → list_any p xs ≡ true → 1 ≤ count_by p xs
counted p [] h = absurd cc
counted p (x ∷ xs) h = go (p x) refl h (counted p xs)
  where
    go : (b : Bool) → p x ≡ b → (b || list_any p xs) ≡ true → (list_any p xs ≡ true → 1 ≤ count_by p xs) → 1 ≤ count_by p (x ∷ xs)
    go true e h rest = let c : count_by p (x ∷ xs) ≡ 1 + count_by p xs = count-cons p x xs ∙ (rw e refl) in omega arith
    go false e h rest = let c : count_by p (x ∷ xs) ≡ 0 + count_by p xs = count-cons p x xs ∙ (rw e refl) in let r = rest h in omega arith

pub uncounted : {A : Type 0} (p : A → Bool) (xs : List A) → list_any p xs ≡ false → count_by p xs ≡ 0
uncounted p [] h = refl
uncounted p (x ∷ xs) h = go (p x) refl h (uncounted p xs)
  where
    go : (b : Bool) → p x ≡ b → (b || list_any p xs) ≡ false → (list_any p xs ≡ false → count_by p xs ≡ 0) → count_by p (x ∷ xs) ≡ 0
    go true e h rest = absurd cc
    go false e h rest = let c : count_by p (x ∷ xs) ≡ 0 + count_by p xs = count-cons p x xs ∙ (rw e refl) in let r = rest h in omega arith

-- of names of which each is counted once at most, all are different
pub different_from_counts : (ns : List Name) → ((n : Name) → count_by (same_name n) ns ≤ 1) → all_different ns ≡ true
different_from_counts [] h = refl
different_from_counts (m ∷ ns) h = and_from _ _ (not_from_false _ (false_from_ne_true _ twice)) (different_from_counts ns (λ n. let c = count-cons (same_name n) m ns in let one = h n in omega arith))
  where
    twice : has ns m ≡ true → ⊥
    twice k =
        let more = counted (same_name m) ns k in
        let c : count_by (same_name m) (m ∷ ns) ≡ 1 + count_by (same_name m) ns = count-cons (same_name m) m ns ∙ (rw (same_name_refl m) refl) in
        let one = h m in
        omega arith

pub count_members : (q : Name → Bool) (units : List (List Name)) → count_by q (members units) ≡ sum_by (λ u. count_by q u) units
count_members q [] = refl
count_members q (u ∷ units) = count-append q u (members units) ∙ ap (λ (k : ℕ). count_by q u + k) (count_members q units) ∙ sym (sum_by-cons (λ u. count_by q u) u units)

-- what is counted in units is counted in those that pass and in the others
pub count_parts : (q : Name → Bool) (p : List Name → Bool) (units : List (List Name))
    → count_by q (members (filter p units)) + count_by q (members (filter (λ u. not (p u)) units)) ≡ count_by q (members units)
count_parts q p units =
    let both = sum_by-filter_both p (λ u. not (p u)) (λ u. refl) (λ u. count_by q u) units in
    let a = count_members q (filter p units) in
    let b = count_members q (filter (λ u. not (p u)) units) in
    let c = count_members q units in
    omega arith

-- ---- removed objects

-- the names of removed objects
abbrev pub names_of : List Removal → List Name
names_of rs = map {A = Removal} (λ r. r.name) rs

pub count_names : (q : Name → Bool) (rs : List Removal) → count_by (λ r. q r.name) rs ≡ count_by q (names_of rs)
count_names q [] = refl
count_names q (r ∷ rs) = count-cons (λ r. q r.name) r rs ∙ ap (λ (k : ℕ). cond {A = ℕ} (q r.name) 1 0 + k) (count_names q rs) ∙ sym (count-cons q r.name (names_of rs))

pub names_filter : (k : Name → Bool) (rs : List Removal) → names_of (filter (λ r. k r.name) rs) ≡ filter k (names_of rs)
names_filter k [] = refl
names_filter k (r ∷ rs) = go (k r.name) (names_filter k rs)
  where
    go : (b : Bool) → names_of (filter (λ r. k r.name) rs) ≡ filter k (names_of rs)
        → names_of (cond b (r ∷ filter (λ r. k r.name) rs) (filter (λ r. k r.name) rs)) ≡ cond b (r.name ∷ filter k (names_of rs)) (filter k (names_of rs))
    go true e = ap (λ (ns : List Name). r.name ∷ ns) e
    go false e = e

-- newly removed objects bear the names that they are made for
pub names_new : (ns : List Name) → names_of (map (λ n. record { name = n; stage = Removed; polls = 0 }) ns) ≡ ns
names_new [] = refl
names_new (n ∷ ns) = ap (λ (ms : List Name). n ∷ ms) (names_new ns)

-- ---- what each entry adds and takes

-- the objects that live or are removed
abbrev pub total : (Name → Bool) → World → ℕ
total q w = count_by q (members w.units) + count_by q (names_of w.removals)

made_total : (q : Name → Bool) (units : List (List Name)) (u : List Name) → count_by q (members (units ++ u ∷ [])) ≡ count_by q (members units) + count_by q u
made_total q units u =
    ap (count_by q) (flat_map-append (λ (u : List Name). u) units (u ∷ [])) ∙ count-append q (members units) (u ++ [])
    ∙ ap (λ (v : List Name). count_by q (members units) + count_by q v) (append-nil u)

released_total : (q : Name → Bool) (gone : List Name) (rs : List Removal)
    → count_by q (names_of (filter (λ r. not (has gone r.name)) rs)) + count_by q (names_of (filter (λ r. has gone r.name) rs)) ≡ count_by q (names_of rs)
released_total q gone rs =
    let both = sum_by-filter_both (has gone) (λ n. not (has gone n)) (λ n. refl) (λ n. cond {A = ℕ} (q n) 1 0) (names_of rs) in
    let a = ap (count_by q) (names_filter (λ n. not (has gone n)) rs) in
    let b = ap (count_by q) (names_filter (has gone) rs) in
    omega arith

-- Of the objects that pass a test, those that live and those that are removed become more by what is made, and fewer by what is released.
pub next_total : (z : Sizes) (s : State) (p : Pass) (a : Act) → MayBy z s p a → (s.world.phase ≡ Marking → s.world.removals ≡ []) → (q : Name → Bool)
    → total q (next_world s.marks s.world p a) + count_by q (freed_by s.world a) ≡ total q s.world + count_by q (made_by p a)
next_total z s p (act.Make kinds first) may none q =
    let made = made_total q s.world.units (names_from (lane_of p) first kinds) in
    omega arith
next_total z s Collector (act.CommitGc commit.Done) may none q =
    let left : names_of s.world.removals ≡ [] = ap (λ (rs : List Removal). names_of rs) (none may.may.marking) in
    let zero : count_by q (names_of s.world.removals) ≡ 0 = ap (count_by q) left in
    let new : count_by q (names_of (map (λ n. record { name = n; stage = Removed; polls = 0 }) (members (white_units s.marks s.world))))
    ≡ count_by q (members (white_units s.marks s.world)) = ap (count_by q) (names_new (members (white_units s.marks s.world))) in
    let parts = count_parts q (is_marked s.marks) s.world.units in
    omega arith
next_total z s (Lane lane) (act.CommitGc commit.Done) may none q = absurd may.may
next_total z s (Marker marker) (act.CommitGc commit.Done) may none q = absurd may.may
next_total z s p (act.BeginGc begin.Started) may none q = refl
next_total z s p (act.Begun of) may none q =
    ap (λ (ns : List Name). count_by q (members s.world.units) + count_by q ns + 0)
    (names_kept of (λ r. record r { stage = Begun }) (λ r. refl) s.world.removals)
next_total z s p (act.Asked of poll answer) may none q =
    ap (λ (ns : List Name). count_by q (members s.world.units) + count_by q ns + 0)
    (names_kept of (λ r. record r { polls = poll }) (λ r. refl) s.world.removals)
next_total z s p (act.Finished of) may none q =
    ap (λ (ns : List Name). count_by q (members s.world.units) + count_by q ns + 0)
    (names_kept of (λ r. record r { stage = Finished }) (λ r. refl) s.world.removals)
next_total z s p (act.Released of) may none q = let parts = released_total q (members (filter (begins_with of) s.world.last_removed)) s.world.removals in omega arith
next_total z s p (act.Loose of) may none q = ap (λ (ns : List Name). count_by q ns + count_by q (names_of s.world.removals) + 0) (members_parted of s.world.units)
next_total z s p _ may none q = refl
