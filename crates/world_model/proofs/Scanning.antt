-- Since a collection has started no unit is scanned twice.
use Rattle.std.proofs.Common.{◌≡◌, ℕ, ◌+◌, ◌≤◌, refl, sym, subst, ap, ◌∙◌, zero, suc, arith, Bool, cond, true, false, List, [], ◌∷◌, ◌++◌, append_assoc, append-nil}
use Rattle.std.specs.List.{list_any, count_by}
use Rattle.std.proofs.lemmas.Bool.{both_ways, not-true}
use Rattle.world_model.specs.Types.{Name, Pass, Lane, Marker, Collector, Act, Entry}
use Rattle.world_model.specs.Types.act
use Rattle.world_model.specs.Types.begin
use Rattle.world_model.specs.Sizes.{Sizes}
use Rattle.world_model.specs.NameLists.{has}
use Rattle.world_model.specs.World.{unit_of, in_world}
use Rattle.world_model.specs.State.{State}
use Rattle.world_model.specs.Next.{next}
use Rattle.world_model.specs.Histories.{MayBy, May, Legal, LegalFrom, state_of, after}
use Rattle.world_model.specs.Laws.{started}
use Rattle.world_model.specs.Follows.{is_start, NoneStarts, scans, ScannedOnce}
use Rattle.world_model.proofs.ListFacts.{and_true, test_among, among_test}
use Rattle.world_model.proofs.NameFacts.{found_unit, has_among, among_has}
use Rattle.world_model.proofs.Joins.{legal_split}
use Rattle.world_model.proofs.Inductions.{one_more}
use Rattle.world_model.proofs.Units.{units_apart}
use Rattle.world_model.proofs.Barrier.{own_unit}
use Rattle.world_model.proofs.Frames.{units_never_join_holds}
use Rattle.world_model.proofs.Progress.{scanned_more, own_scanned}
use Rattle.world_model.proofs.Stages.{one_counted}

-- of this unit so much was scanned, and what was scanned is noted
record IsNoted (u : List Name) (s : State) (count : ℕ) : Type 0 where
  pub once : count ≤ 1
  pub noted : 1 ≤ count → list_any (has s.marks.scanned) u ≡ true

-- of a list of which a part passes somewhere, it does too
part_scanned : (scanned u v : List Name) → ((m : Name) → has u m ≡ true → has v m ≡ true) → list_any (has scanned) u ≡ true → list_any (has scanned) v ≡ true
part_scanned scanned u v within h =
    let one = test_among (has scanned) u h in
    among_test (has scanned) v one.0 (has_among v one.0 (within one.0 (among_has u one.0 one.1))) one.2

-- entries that scan nothing leave what is noted
noted_stays : (u : List Name) (s : State) (e : Entry) → is_start e.act ≡ false → list_any (has s.marks.scanned) u ≡ true → list_any (has (next s e).marks.scanned) u ≡ true
noted_stays u s e other h = go e.act other
  where
    go : (a : Act) → is_start a ≡ false → list_any (has (next s (record { pass = e.pass; act = a })).marks.scanned) u ≡ true
    go (act.Scanned of) other = scanned_more of s.marks.scanned u h
    go (act.BeginGc begin.Started) other = absurd cc
    go _ other = h

-- one more entry
noted_next : (z : Sizes) (u : List Name) (s : State) (e : Entry) → May z s e → is_start e.act ≡ false
    → ((of : Name) → in_world s.world of ≡ true → has u of ≡ true → (m : Name) → has u m ≡ true → has (unit_of s.world of) m ≡ true)
    → (count : ℕ) → IsNoted u s count → IsNoted u (next s e) (count + cond (scans u e.act) 1 0)
noted_next z u s e may other within count h = go (scans u e.act) refl
  where
    go : (b : Bool) → scans u e.act ≡ b → IsNoted u (next s e) (count + cond b 1 0)
    go false out = record { once = let k = h.once in omega arith; noted = λ some. noted_stays u s e other (h.noted (omega arith)) }
    go true is = scanned e.pass e.act is may
      where
        scanned : (p : Pass) (a : Act) → scans u a ≡ true → MayBy z s p a → IsNoted u (next s (record { pass = p; act = a })) (count + 1)
        scanned (Marker marker) (act.Scanned of) is may = record {
          once = omega (arith, none);
          noted = λ some. own_scanned of s.marks.scanned u is;
        }
          where
            white : list_any (has s.marks.scanned) (unit_of s.world of) ≡ false
            white = not-true _ (and_true (list_any (has s.marks.kept) (unit_of s.world of)) _ may.may.grey).1

            none : count ≡ 0
            none = zero_of count (λ some. both_ways _ white (part_scanned s.marks.scanned u (unit_of s.world of) (within of may.may.living is) (h.noted some)))
              where
                zero_of : (k : ℕ) → (1 ≤ k → ⊥) → k ≡ 0
                zero_of zero never = refl
                zero_of (suc k) never = absurd (never (omega arith))
        scanned (Lane lane) (act.Scanned of) is may = absurd may.may
        scanned Collector (act.Scanned of) is may = absurd may.may
        scanned p _ is may = absurd cc

pub scanned_once_holds : ScannedOnce
scanned_once_holds z before during legal starts n lives =
    (go [] during refl (record { once = omega arith; noted = λ some. absurd (omega arith) }) starts).once
  where
    whole : List Entry
    whole = before ++ started ∷ during

    unit : List Name
    unit = unit_of (after whole) n

    upto : List Entry → List Entry
    upto ds = before ++ started ∷ ds

    go : (ds ys : List Entry) → ds ++ ys ≡ during → IsNoted unit (state_of (upto ds)) (count_by (λ e. scans unit e.act) ds) → NoneStarts ys
        → IsNoted unit (state_of whole) (count_by (λ e. scans unit e.act) during)
    go ds [] same h none =
        let is : ds ≡ during = sym (append-nil ds) ∙ same in
        subst (λ (xs : List Entry). IsNoted unit (state_of (upto xs)) (count_by (λ e. scans unit e.act) xs)) is h
    go ds (e ∷ ys) same h none =
        go (ds ++ e ∷ []) ys (append_assoc ds (e ∷ []) ys ∙ same)
        (subst (λ (k : ℕ). IsNoted unit (state_of (upto (ds ++ e ∷ []))) k) (sym (one_counted (λ e. scans unit e.act) ds e))
        (subst (λ (s : State). IsNoted unit s (count_by (λ e. scans unit e.act) ds + cond (scans unit e.act) 1 0)) (sym longer)
        (noted_next z unit (state_of (upto ds)) e parts.1.0 none.0 within (count_by (λ e. scans unit e.act) ds) h)))
        none.1
      where
        at : whole ≡ upto ds ++ e ∷ ys
        at = ap upto (sym same) ∙ sym (append_assoc before (started ∷ ds) (e ∷ ys))

        here : Legal z (upto ds ++ e ∷ ys)
        here = subst (Legal z) at legal

        parts : Legal z (upto ds) × LegalFrom z (state_of (upto ds)) (e ∷ ys)
        parts = legal_split z _ (upto ds) (e ∷ ys) here

        longer : state_of (upto (ds ++ e ∷ [])) ≡ next (state_of (upto ds)) e
        longer = ap state_of (sym (append_assoc before (started ∷ ds) (e ∷ []))) ∙ one_more (upto ds) e

        within : (of : Name) → in_world (after (upto ds)) of ≡ true → has unit of ≡ true → (m : Name) → has unit m ≡ true → has (unit_of (after (upto ds)) of) m ≡ true
        within of lived own m k =
            let found = found_unit (after whole).units n lives in
            let same_unit : unit_of (after whole) of ≡ unit = own_unit (after whole) (units_apart z whole legal) unit of found.0 own in
            units_never_join_holds z (upto ds) (e ∷ ys) here of m lived (subst (λ (xs : List Entry). has (unit_of (after xs) of) m ≡ true) at (ap (λ (v : List Name). has v m) same_unit ∙ k))
