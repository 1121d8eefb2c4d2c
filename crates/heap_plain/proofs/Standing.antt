-- Where units stand.
use Rattle.std.proofs.Common.{◌≡◌, ◌≢◌, ℕ, ◌<◌, ◌≤◌, refl, sym, subst, ap, ◌∙◌, Bool, true, false, List, [], ◌∷◌, length, get_or, Option, Some, None}
use Rattle.std.specs.List.{list_any}
use Rattle.std.proofs.Math.Logic.{dite}
use Rattle.std.proofs.Math.Decide.{dec_le}
use Rattle.std.proofs.Math.Nat.{lt_of_not-le}
use Rattle.std.proofs.lemmas.List.{get_or_past}
use Rattle.world_model.specs.Sizes.{Sizes}
use Rattle.world_model.specs.NameLists.{same_name, has}
use Rattle.world_model.specs.Midway.{AreApart}
use Rattle.world_model.proofs.ListFacts.{or_right, test_among, among_test}
use Rattle.world_model.proofs.NameFacts.{same_name_refl}
use Rattle.heap_plain.specs.Types.{Name, Kind}
use Rattle.heap_plain.specs.declared.life.Life.{Life}
use Rattle.heap_plain.specs.declared.life.Life.TheVariants.{Free, Live}
use Rattle.heap_plain.specs.Parts.{Objects, name_at, life_at, first_at, next_at}
use Rattle.heap_plain.specs.Units.{NamesShow, UnitsShow, StandsAt, LivesAt, AreLinked}

-- a bit that is set is one of the list
pub bit_below : (xs : List Bool) (i : ℕ) → get_or xs i false ≡ true → i < length xs
bit_below xs i e = dite (dec_le (length xs) i) (λ (h : length xs ≤ i). absurd (let past : get_or xs i false ≡ false = get_or_past xs i false h in cc)) (λ (h : ¬ (length xs ≤ i)). lt_of_not-le h)

pub name_below : (names : List (Option Name)) (i : ℕ) (n : Name) → name_at names i ≡ Some n → i < length names
name_below names i n e =
    dite (dec_le (length names) i) (λ (h : length names ≤ i). absurd (let past : name_at names i ≡ None = get_or_past names i None h in cc))
    (λ (h : ¬ (length names ≤ i)). lt_of_not-le h)

pub life_below : (lives : List Life) (i : ℕ) → life_at lives i ≢ Free → i < length lives
life_below lives i ne = dite (dec_le (length lives) i) (λ (h : length lives ≤ i). absurd (ne (get_or_past lives i Free h))) (λ (h : ¬ (length lives ≤ i)). lt_of_not-le h)

pub live_used : (lives : List Life) (i : ℕ) → life_at lives i ≡ Live → life_at lives i ≢ Free
live_used lives i e = λ f. cc

-- the first member of a unit
pub member_at : {z : Sizes} {o : Objects} {units : List (List Name)} → UnitsShow z o units → (head : ℕ) (u : List Name) → StandsAt o units head u
    → (n : Name) × LivesAt o.names o.lives head n × (has u n ≡ true)
member_at {o = o} us head u s =
    let named = us.named head (live_used o.lives head s.life) in
    let there : LivesAt o.names o.lives head named.0 = record { name = named.1; life = s.life } in
    (named.0, there, s.whole head named.0 there s.own)

-- what lives in the world stands at an index
pub lives_at : {z : Sizes} {o : Objects} {units : List (List Name)} → UnitsShow z o units → (n : Name) → list_any (λ u. has u n) units ≡ true → (i : ℕ) × LivesAt o.names o.lives i n
lives_at {units = units} us n e = let u = test_among (λ v. has v n) units e in let at = us.all u.0 u.1 in let j = at.1.inside n u.2 in (j.0, j.1)

-- and what stands there lives in it
pub lives_in : {z : Sizes} {o : Objects} {units : List (List Name)} → UnitsShow z o units → (i : ℕ) (n : Name) → LivesAt o.names o.lives i n → list_any (λ u. has u n) units ≡ true
lives_in {units = units} us i n a = let r = us.each i a.life in among_test (λ v. has v n) units r.0 r.1.among (r.1.whole i n a refl)

-- a unit stands at one index
pub one_head : {z : Sizes} {o : Objects} {kinds : ℕ → List Kind} {units : List (List Name)} → NamesShow z o.names kinds → UnitsShow z o units
    → (head other : ℕ) (u : List Name) → StandsAt o units head u → StandsAt o units other u → head ≡ other
one_head {o = o} ns us head other u s t =
    let m = member_at us head u s in
    let j = t.inside m.0 m.2 in
    let same : j.0 ≡ head = ns.alone j.0 head m.0 j.1.name m.1.name in
    sym s.own ∙ ap (first_at o.firsts) (sym same) ∙ j.2

-- one unit stands at an index
pub one_unit : {z : Sizes} {o : Objects} {kinds : ℕ → List Kind} {units : List (List Name)} → AreApart kinds units → UnitsShow z o units
    → (head : ℕ) (u v : List Name) → StandsAt o units head u → StandsAt o units head v → u ≡ v
one_unit apart us head u v s t =
    let m = member_at us head u s in
    apart.apart u v m.0 s.among t.among m.2 (t.whole head m.0 m.1 t.own)

-- the unit of a name stands at the name's first index
pub head_of : {z : Sizes} {o : Objects} {kinds : ℕ → List Kind} {units : List (List Name)} → NamesShow z o.names kinds → (head : ℕ) (u : List Name)
    → StandsAt o units head u → (i : ℕ) (n : Name) → name_at o.names i ≡ Some n → has u n ≡ true → first_at o.firsts i ≡ head
head_of {o = o} ns head u s i n at has_n =
    let j = s.inside n has_n in
    let same : i ≡ j.0 = ns.alone i j.0 n at j.1.name in
    ap (first_at o.firsts) same ∙ j.2

-- where the members' names and their links stay, they stay linked
pub links_same : (names ns : List (Option Name)) (links links' : List ℕ) (u : List Name)
    → ((i : ℕ) (n : Name) → has u n ≡ true → name_at names i ≡ Some n → (name_at ns i ≡ Some n) × (next_at links' i ≡ next_at links i))
    → (i : ℕ) → AreLinked names links i u → AreLinked ns links' i u
links_same names ns links links' [] same i h = tt
links_same names ns links links' (n ∷ u) same i h =
    let s = same i n (let t = same_name_refl n in rw t refl) h.0 in
    let rest = links_same names ns links links' u (λ j m e there. same j m (or_right (same_name m n) (has u m) e) there) (next_at links i) h.1 in
    (s.0, subst (λ (j : ℕ). AreLinked ns links' j u) (sym s.1) rest)
