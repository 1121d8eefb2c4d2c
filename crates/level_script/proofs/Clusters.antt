-- The members of a cluster: their number, their variables and their classes.
use Rattle.std.proofs.Common.{◌≡◌, ℕ, suc, ◌+◌, ◌<◌, ◌≤◌, ◌==◌, List, [], ◌∷◌, ◌++◌, refl, sym, ap, ◌∙◌, Bool, true, false, not, ◌&&◌, ◌||◌, cond, map, length, take, drop, get_or, arith, Option, Some, None, Result, Ok, Err}
use Rattle.std.specs.Prelude.{nat_le}
use Rattle.std.specs.List.{list_any, list_all}
use Rattle.std.specs.Str.{bytes_eq}
use Rattle.std.proofs.lemmas.Bool.{leb-true, le-leb, eqb-true}
use Rattle.std.proofs.lemmas.List.{take_more, map-append, take-append-drop}
use Rattle.std.proofs.lemmas.List.Folds.{list_any-append}
use Rattle.world_model.specs.declared.kind.ClassId.{ClassId}
use Rattle.class_schema.specs.Class.{Class}
use Rattle.class_schema.specs.Table.{find_class}
use Rattle.class_schema.proofs.Labels.{same_bytes}
use Rattle.level_script.specs.Forms.{member_of}
use Rattle.level_script.specs.Lanes.{count_of, with_var, with_vars, with_member, members_found, are_apart, or_unknown, if_apart, members_bound, with_command}
use Rattle.level_script.specs.Members.{member_before, each_member, members_of}
use Rattle.level_script.specs.Names.{number_of_name, number_in, with_name, has_number, all_differ}
use Rattle.level_script.specs.Operands.{fits_member, fits_members, vars_of}
use Rattle.level_script.specs.declared.cause.Cause.{Cause}
use Rattle.level_script.specs.declared.cause.Cause.TheVariants as cause
use Rattle.level_script.specs.declared.lane_cmd.Member.{Member}
use Rattle.level_script.specs.declared.lanes.LaneNames.{LaneNames}
use Rattle.level_script.specs.declared.operand.Known.{Known}
use Rattle.level_script.specs.declared.operand.Known.TheVariants as known
use Rattle.level_script.proofs.NameTables.{name_there}
use Rattle.level_script.proofs.Places.{ok_same, err_ok, some_same, names_grow, number_below, class_below, below_true, and_both, both, found_new, found_other, other_place, eq_self, eq_flip}

-- ---- numbers that differ

-- no two numbers are the same
abbrev pub apart : List ℕ → Bool
apart numbers = all_differ (λ a b. a == b) numbers

-- two tests that fail
neither : (a b : Bool) → (a || b) ≡ false → (a ≡ false) × (b ≡ false)
neither true b h = absurd cc
neither false b h = (refl, h)

-- a test that fails makes both fail
second_fails : (a b : Bool) → b ≡ false → (a && b) ≡ false
second_fails true b h = h
second_fails false b h = refl

-- a test that holds makes one of two hold
second_holds : (a b : Bool) → b ≡ true → (a || b) ≡ true
second_holds true b h = refl
second_holds false b h = h

-- not twice is once
not_true : (b : Bool) → not b ≡ true → b ≡ false
not_true true h = absurd cc
not_true false h = refl

-- one more number that is none of them
pub apart_more : (numbers : List ℕ) (n : ℕ) → apart numbers ≡ true → has_number numbers n ≡ false → apart (numbers ++ n ∷ []) ≡ true
apart_more [] n h new = refl
apart_more (m ∷ numbers) n h new =
    let parts = both (not (has_number numbers m)) (apart numbers) h in
    let others = neither (n == m) (has_number numbers n) new in
    let none : has_number (numbers ++ n ∷ []) m ≡ false =
    list_any-append (λ k. m == k) numbers (n ∷ []) ∙ (rw (not_true (has_number numbers m) parts.0, eq_flip m n others.0) refl) in
    and_both _ _ (ap not none) (apart_more numbers n parts.1 others.1)

-- one that is one of them
pub apart_twice : (numbers : List ℕ) (n : ℕ) → has_number numbers n ≡ true → apart (numbers ++ n ∷ []) ≡ false
apart_twice [] n h = absurd cc
apart_twice (m ∷ numbers) n h = go (n == m) refl h (apart_twice numbers n)
  where
    go : (b : Bool) → (n == m) ≡ b → (b || has_number numbers n) ≡ true → (has_number numbers n ≡ true → apart (numbers ++ n ∷ []) ≡ false)
        → (not (has_number (numbers ++ n ∷ []) m) && apart (numbers ++ n ∷ [])) ≡ false
    go false is later others = second_fails _ _ (others later)
    go true is now others =
        let one : n ≡ m = eqb-true n m is in
        let same : (m == n) ≡ true = ap (λ (k : ℕ). m == k) one ∙ eq_self m in
        let there : has_number (numbers ++ n ∷ []) m ≡ true = list_any-append (λ k. m == k) numbers (n ∷ []) ∙ second_holds (has_number numbers m) ((m == n) || false) (ap (λ (b : Bool). b || false) same) in
        ap (λ (b : Bool). not b && apart (numbers ++ n ∷ [])) there

-- where two are the same, more behind change nothing
apart_behind : (numbers more : List ℕ) → apart numbers ≡ false → apart (numbers ++ more) ≡ false
apart_behind [] more h = absurd cc
apart_behind (m ∷ numbers) more h = go (has_number numbers m) refl h (apart_behind numbers more)
  where
    go : (b : Bool) → has_number numbers m ≡ b → (not b && apart numbers) ≡ false → (apart numbers ≡ false → apart (numbers ++ more) ≡ false)
        → (not (has_number (numbers ++ more) m) && apart (numbers ++ more)) ≡ false
    go false is later others = second_fails _ _ (others later)
    go true is now others = ap (λ (b : Bool). not b && apart (numbers ++ more)) (list_any-append (λ k. m == k) numbers more ∙ ap (λ (b : Bool). b || has_number more m) is)

-- the variables up to one more member
pub vars_more : (members : List Member) (i : ℕ) (d : Member) → i < length members → vars_of (take (i + 1) members) ≡ vars_of (take i members) ++ (get_or members i d).var ∷ []
vars_more members i d below = ap vars_of (take_more members i d below) ∙ map-append (λ (m : Member). m.var) (take i members) (get_or members i d ∷ [])

-- a variable that stands before stands twice
pub vars_twice : (members : List Member) (i : ℕ) (d : Member) → i < length members → has_number (vars_of (take i members)) (get_or members i d).var ≡ true → apart (vars_of members) ≡ false
vars_twice members i d below there =
    let front : apart (vars_of (take (i + 1) members)) ≡ false = ap apart (vars_more members i d below) ∙ apart_twice (vars_of (take i members)) (get_or members i d).var there in
    let all : vars_of (take (i + 1) members) ++ vars_of (drop (i + 1) members) ≡ vars_of members =
    sym (map-append (λ (m : Member). m.var) (take (i + 1) members) (drop (i + 1) members)) ∙ ap vars_of (take-append-drop (i + 1) members) in
    ap apart (sym all) ∙ apart_behind (vars_of (take (i + 1) members)) (vars_of (drop (i + 1) members)) front

-- ---- names that differ

-- the numbers that names get, one after another
numbers_in : List (List ℕ) → List (List ℕ) → List ℕ
numbers_in names [] = []
numbers_in names (var ∷ vars) = number_in names var ∷ numbers_in (with_name names var) vars

-- the number of a name is another's just where the names are the same
one_same : (names : List (List ℕ)) (name var : List ℕ) (i : ℕ) → number_of_name names name ≡ Some i → (i == number_in names var) ≡ bytes_eq name var
one_same names name var i is = go (bytes_eq name var) refl
  where
    go : (b : Bool) → bytes_eq name var ≡ b → (i == number_in names var) ≡ b
    go true e =
        let same : name ≡ var = same_bytes name var e in
        let i_is : i ≡ number_in names name = (name_there names name i is).0 in
        ap (λ (n : List ℕ). i == number_in names n) (sym same) ∙ ap (λ (k : ℕ). i == k) (sym i_is) ∙ eq_self i
    go false e = eq_flip i (number_in names var) (other_place names var name i e is)

-- a name that is there keeps its number
keeps_number : (names : List (List ℕ)) (name var : List ℕ) (i : ℕ) → number_of_name names name ≡ Some i → number_of_name (with_name names var) name ≡ Some i
keeps_number names name var i is = go (bytes_eq name var) refl
  where
    go : (b : Bool) → bytes_eq name var ≡ b → number_of_name (with_name names var) name ≡ Some i
    go true e =
        let same : name ≡ var = same_bytes name var e in
        ap (λ (n : List ℕ). number_of_name (with_name names n) name) (sym same) ∙ found_new names name ∙ ap Some (sym (name_there names name i is).0)
    go false e = found_other names var name e ∙ is

-- so one of several names is it just where one of their numbers is
any_same : (vars names : List (List ℕ)) (name : List ℕ) (i : ℕ) → number_of_name names name ≡ Some i → has_number (numbers_in names vars) i ≡ list_any (bytes_eq name) vars
unfolding numbers_in
any_same [] names name i is = refl
any_same (var ∷ vars) names name i is = λ t. one_same names name var i is t || any_same vars (with_name names var) name i (keeps_number names name var i is) t

-- numbers differ just where the names do
numbers_apart : (vars names : List (List ℕ)) → apart (numbers_in names vars) ≡ all_differ bytes_eq vars
unfolding numbers_in
numbers_apart [] names = refl
numbers_apart (var ∷ vars) names = λ t. not (any_same vars (with_name names var) var (number_in names var) (found_new names var) t) && numbers_apart vars (with_name names var) t

-- ---- members that are found

module _ (classes : List Class) where
  -- they have the numbers of their names
  found_vars : (written : List (List ℕ × List ℕ)) (names : List (List ℕ)) (members : List Member) → members_found classes names written ≡ Some members
      → vars_of members ≡ numbers_in names (map (λ m. m.0) written)
  unfolding numbers_in
  found_vars [] names members e = ap vars_of (sym (some_same e))
  found_vars ((var, class) ∷ written) names members e =
      go (find_class classes class) (members_found classes (with_name names var) written) (λ found is. found_vars written (with_name names var) found is) e
    where
      vars : List ℕ
      vars = numbers_in (with_name names var) (map (λ m. m.0) written)

      go : (o : Option ClassId) (r : Option (List Member)) → ((found : List Member) → r ≡ Some found → vars_of found ≡ vars) → with_member (number_in names var) o r ≡ Some members
          → vars_of members ≡ number_in names var ∷ vars
      go None r others e = absurd cc
      go (Some id) None others e = absurd cc
      go (Some id) (Some found) others e = ap vars_of (sym (some_same e)) ∙ ap (λ ns. number_in names var ∷ ns) (others found refl)

  -- no two have one variable just where no name stands twice
  pub found_apart : (written : List (List ℕ × List ℕ)) (names : List (List ℕ)) (members : List Member) → members_found classes names written ≡ Some members
      → apart (vars_of members) ≡ are_apart written
  found_apart written names members e = ap apart (found_vars written names members e) ∙ numbers_apart (map (λ m. m.0) written) names

  -- they are as many
  pub found_count : (written : List (List ℕ × List ℕ)) (names : List (List ℕ)) (members : List Member) → members_found classes names written ≡ Some members
      → length members ≡ length written
  found_count [] names members e = ap length (sym (some_same e))
  found_count ((var, class) ∷ written) names members e =
      go (find_class classes class) (members_found classes (with_name names var) written) (λ found is. found_count written (with_name names var) found is) e
    where
      go : (o : Option ClassId) (r : Option (List Member)) → ((found : List Member) → r ≡ Some found → length found ≡ length written) → with_member (number_in names var) o r ≡ Some members
          → length members ≡ length ((var, class) ∷ written)
      go None r others e = absurd cc
      go (Some id) None others e = absurd cc
      go (Some id) (Some found) others e = ap length (sym (some_same e)) ∙ ap suc (others found refl)

-- variables that are bound are no fewer, and leave the frame as it is
pub vars_grow : (written : List (List ℕ × List ℕ)) (lane : LaneNames) → ((with_vars written lane).opened ≡ lane.opened) × (count_of lane ≤ count_of (with_vars written lane))
vars_grow [] lane = (refl, omega arith)
vars_grow ((var, class) ∷ written) lane =
    let h = vars_grow written (with_var var lane) in
    let one : length lane.names ≤ length (with_name lane.names var) = names_grow lane.names var in
    (h.0, omega (arith, one, h.1))

-- members that are found have variables and classes that are there
pub found_fit : (classes : List Class) (written : List (List ℕ × List ℕ)) (lane : LaneNames) (members : List Member) (vars count : ℕ)
    → members_found classes lane.names written ≡ Some members → count_of (with_vars written lane) ≤ vars → length classes ≤ count → list_all (fits_member vars count) members ≡ true
found_fit classes [] lane members vars count e few some = ap (λ (ms : List Member). list_all (fits_member vars count) ms) (sym (some_same e))
found_fit classes ((var, class) ∷ written) lane members vars count e few some =
    go (find_class classes class) (members_found classes (with_name lane.names var) written) refl (λ found is. found_fit classes written (with_var var lane) found vars count is few some) e
  where
    go : (o : Option ClassId) (r : Option (List Member)) → find_class classes class ≡ o → ((found : List Member) → r ≡ Some found → list_all (fits_member vars count) found ≡ true)
        → with_member (number_in lane.names var) o r ≡ Some members → list_all (fits_member vars count) members ≡ true
    go None r known others e = absurd cc
    go (Some id) None known others e = absurd cc
    go (Some id) (Some found) known others e =
        let below : number_in lane.names var < length (with_name lane.names var) = number_below lane.names var in
        let grows : length (with_name lane.names var) ≤ count_of (with_vars written (with_var var lane)) = (vars_grow written (with_var var lane)).1 in
        let one : fits_member vars count (record { var = number_in lane.names var; class = id }) ≡ true =
        and_both _ _ (below_true (number_in lane.names var) (length (with_name lane.names var)) vars below (omega (arith, grows, few))) (below_true id.0 (length classes) count (class_below classes class id known) some) in
        ap (λ (ms : List Member). list_all (fits_member vars count) ms) (sym (some_same e)) ∙ and_both _ _ one (others found refl)

-- ---- members that are bound

-- what is left with something that stands for what it is
pub with_ok : {A : Type 0} (left lane : LaneNames) (r : Result A Cause) (a : A) → with_command left r ≡ Ok (lane, a) → (left ≡ lane) × (r ≡ Ok a)
with_ok {A} left lane (Err why) a e = err_ok e
with_ok {A} left lane (Ok b) a e = (ap (λ (p : LaneNames × A). p.0) (ok_same e), ap (λ (p : LaneNames × A). Ok p.1) (ok_same e))

-- what is known is there
pub known_some : {A : Type 0} (o : Option A) (a : A) → or_unknown o ≡ Ok a → o ≡ Some a
known_some None a e = err_ok e
known_some (Some b) a e = ap Some (ok_same e)

-- members of which it is told whether two have one variable
pub bound_members : (classes : List Class) (names : List (List ℕ)) (written : List (List ℕ × List ℕ)) (left lane : LaneNames) (members : List Member) (twice : Bool)
    → with_command left (or_unknown (members_found classes names written)) ≡ Ok (lane, members) → twice ≡ not (apart (vars_of members))
    → with_command left (members_bound (are_apart written) (members_found classes names written)) ≡ cond twice (Err cause.NameTwice) (Ok (lane, known.Members members))
bound_members classes names written left lane members twice e told =
    let h = with_ok left lane (or_unknown (members_found classes names written)) members e in
    let found : members_found classes names written ≡ Some members = known_some _ members h.1 in
    let same : apart (vars_of members) ≡ are_apart written = found_apart classes written names members found in
    ap (λ (o : Option (List Member)). with_command left (members_bound (are_apart written) o)) found
    ∙ ap (λ (b : Bool). with_command left (if_apart b (Ok members))) (sym same) ∙ go twice (apart (vars_of members)) told
    ∙ ap (λ (l : LaneNames). cond twice (Err cause.NameTwice) (Ok (l, known.Members members))) h.0
  where
    go : (t b : Bool) → t ≡ not b → with_command left (if_apart b (Ok members)) ≡ cond t (Err cause.NameTwice) (Ok (left, known.Members members))
    go true true e = absurd cc
    go true false e = refl
    go false true e = refl
    go false false e = absurd cc

-- members that are bound are found, and no variable stands twice
pub bound_found : (apart_so : Bool) (o : Option (List Member)) (k : Known) → members_bound apart_so o ≡ Ok k
    → (members : List Member) × (o ≡ Some members) × (apart_so ≡ true) × (known.Members members ≡ k)
bound_found b None k e = err_ok e
bound_found true (Some members) k e = (members, refl, refl, ok_same e)
bound_found false (Some members) k e = err_ok e

-- they fit, where they are 1 to 1,024
pub bound_fit : (classes : List Class) (written : List (List ℕ × List ℕ)) (lane : LaneNames) (vars count : ℕ) (k : Known)
    → (1 ≤ length written) × (length written ≤ 1024) → count_of (with_vars written lane) ≤ vars → length classes ≤ count
    → members_bound (are_apart written) (members_found classes lane.names written) ≡ Ok k → (members : List Member) × (fits_members vars count members ≡ true) × (known.Members members ≡ k)
bound_fit classes written lane vars count k many few some e =
    let h = bound_found (are_apart written) (members_found classes lane.names written) k e in
    let members : List Member = h.0 in
    let long : length members ≡ length written = found_count classes written lane.names members h.1 in
    let least : nat_le 1 (length members) ≡ true = le-leb 1 (length members) (omega (arith, many.0, long)) in
    let most : nat_le (length members) 1024 ≡ true = le-leb (length members) 1024 (omega (arith, many.1, long)) in (
      members,
      and_both _ _ (and_both _ _ (and_both _ _ least most) (found_fit classes written lane members vars count h.1 few some))
          (found_apart classes written lane.names members h.1 ∙ h.2),
      h.3,
    )

-- ---- members that are written

-- they are as many as the words
each_count : (words : List (List ℕ)) (written : List (List ℕ × List ℕ)) → each_member words ≡ Some written → length written ≡ length words
each_count [] written e = ap length (sym (some_same e))
each_count (word ∷ words) written e = go (member_of word) (each_member words) (λ others is. each_count words others is) e
  where
    go : (o : Option (List ℕ × List ℕ)) (r : Option (List (List ℕ × List ℕ))) → ((others : List (List ℕ × List ℕ)) → r ≡ Some others → length others ≡ length words)
        → member_before o r ≡ Some written → length written ≡ length (word ∷ words)
    go None r count e = absurd cc
    go (Some member) None count e = absurd cc
    go (Some member) (Some others) count e = ap length (sym (some_same e)) ∙ ap suc (count others refl)

-- those of a line are 1 to 1,024
pub written_count : (words : List (List ℕ)) (written : List (List ℕ × List ℕ)) → members_of words ≡ Some written → (1 ≤ length written) × (length written ≤ 1024)
written_count words written e = go (nat_le 1 (length words) && nat_le (length words) 1024) refl e
  where
    go : (b : Bool) → (nat_le 1 (length words) && nat_le (length words) 1024) ≡ b → cond b (each_member words) None ≡ Some written → (1 ≤ length written) × (length written ≤ 1024)
    go false is e = absurd cc
    go true is e =
        let parts = both (nat_le 1 (length words)) (nat_le (length words) 1024) is in
        let some : 1 ≤ length words = leb-true 1 (length words) parts.0 in
        let few : length words ≤ 1024 = leb-true (length words) 1024 parts.1 in
        let count : length written ≡ length words = each_count words written e in
        (omega (arith, some, count), omega (arith, few, count))
