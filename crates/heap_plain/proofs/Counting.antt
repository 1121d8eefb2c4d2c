-- How many objects there are.
use Rattle.std.proofs.Common.{◌≡◌, refl, ℕ, ◌+◌, ap, arith, Bool, cond, true, ◌==◌, List, [], ◌∷◌, length, count_by, inl, inr}
use Rattle.world_model.specs.Sizes.{Sizes}
use Rattle.world_model.specs.World.{occupied}
use Rattle.world_model.specs.Next.{next_world}
use Rattle.world_model.specs.Histories.{Legal, May, after, state_of}
use Rattle.world_model.specs.Follows.{made_by, freed_by}
use Rattle.world_model.proofs.ListFacts.{Among}
use Rattle.world_model.proofs.Counts.{count-cons, count_names, next_total}
use Rattle.world_model.proofs.Sound.{sound}
use Rattle.heap_plain.specs.Types.{Entry}

-- the objects of a lane become more by what an entry makes, and fewer by what it releases
pub occupied_next : (z : Sizes) (h : List Entry) (e : Entry) → Legal z h → May z (state_of h) e → (lane : ℕ)
    → occupied (next_world (state_of h).marks (after h) e.pass e.act) lane + count_by (λ n. n.lane == lane) (freed_by (after h) e.act)
    ≡ occupied (after h) lane + count_by (λ n. n.lane == lane) (made_by e.pass e.act)
occupied_next z h e legal may lane =
    let total = next_total z (state_of h) e.pass e.act may (sound z h legal).destroying.unmarked (λ n. n.lane == lane) in
    let new = count_names (λ n. n.lane == lane) (next_world (state_of h).marks (after h) e.pass e.act).removals in
    let old = count_names (λ n. n.lane == lane) (after h).removals in
    omega arith

pub count_all : {A : Type 0} (q : A → Bool) (xs : List A) → ((x : A) → q x ≡ true) → count_by q xs ≡ length xs
count_all q [] f = refl
count_all q (x ∷ xs) f = let rest = count_all q xs f in let c = count-cons q x xs in let one : cond {A = ℕ} (q x) 1 0 ≡ 1 = ap (λ (b : Bool). cond {A = ℕ} b 1 0) (f x) in omega arith

-- tests that agree on the elements count the same
pub count_alike : {A : Type 0} (p q : A → Bool) (xs : List A) → ((x : A) → Among xs x → p x ≡ q x) → count_by p xs ≡ count_by q xs
count_alike p q [] h = refl
count_alike p q (x ∷ xs) h =
    let rest = count_alike p q xs (λ y a. h y (inr a)) in
    let a = count-cons p x xs in
    let b = count-cons q x xs in
    let same : cond {A = ℕ} (p x) 1 0 ≡ cond {A = ℕ} (q x) 1 0 = ap (λ (b : Bool). cond {A = ℕ} b 1 0) (h x (inl refl)) in
    omega arith
