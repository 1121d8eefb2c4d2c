-- Induction over legal histories.
use Rattle.std.proofs.Common.{◌≡◌, ap, sym, subst, ◌∙◌, List, [], ◌∷◌, ◌++◌, append_assoc, append-nil}
use Rattle.std.specs.List.{AllByRecursion}
use Rattle.world_model.specs.Types.{Entry}
use Rattle.world_model.specs.Sizes.{Sizes}
use Rattle.world_model.specs.State.{State, beginning}
use Rattle.world_model.specs.Next.{next}
use Rattle.world_model.specs.Histories.{May, Step, Legal, LegalFrom, state_of}
use Rattle.world_model.proofs.Joins.{run-append, legal_split, legal_join}

-- what one more entry leaves
pub one_more : (xs : List Entry) (e : Entry) → state_of (xs ++ e ∷ []) ≡ next (state_of xs) e
one_more xs e = run-append beginning xs (e ∷ [])

-- what holds before any entry, and after each step if it held before it, holds of every legal history
pub by_entries : (z : Sizes) (P : List Entry → Type 0) → P [] → ((xs : List Entry) (e : Entry) → Legal z xs → Step z xs e → P xs → P (xs ++ e ∷ []))
    → (history : List Entry) → Legal z history → P history
by_entries z P first step history legal = go [] history tt first legal
  where
    go : (xs ys : List Entry) → Legal z xs → P xs → LegalFrom z (state_of xs) ys → P (xs ++ ys)
    go xs [] legal holds rest = subst P (sym (append-nil xs)) holds
    go xs (e ∷ ys) legal holds rest =
        let longer : Legal z (xs ++ e ∷ []) = legal_join z beginning xs (e ∷ []) legal (rest.0, tt) in
        subst P (append_assoc xs (e ∷ []) ys)
        (go (xs ++ e ∷ []) ys longer (step xs e legal rest.0 holds) (subst (λ (s : State). LegalFrom z s ys) (sym (one_more xs e)) rest.1))

-- the same of a fact on states
pub by_states : (z : Sizes) (I : State → Type 0) → I beginning → ((xs : List Entry) (e : Entry) → Legal z xs → May z (state_of xs) e → I (state_of xs) → I (next (state_of xs) e))
    → (history : List Entry) → Legal z history → I (state_of history)
by_states z I first step = by_entries z (λ xs. I (state_of xs)) first (λ xs e legal may holds. subst I (sym (one_more xs e)) (step xs e legal may holds))

-- what one more entry leaves of two histories in a row
pub one_more_of : (before ds : List Entry) (e : Entry) → state_of (before ++ (ds ++ e ∷ [])) ≡ next (state_of (before ++ ds)) e
one_more_of before ds e = ap state_of (sym (append_assoc before ds (e ∷ []))) ∙ one_more (before ++ ds) e

-- what holds of no entries behind a history, and of each one more if it held of those before it, holds of all that go on with the history
pub by_more : (z : Sizes) (before : List Entry) (P : List Entry → Type 0) (Q : Entry → Type 0) → P []
    → ((ds : List Entry) (e : Entry) → Legal z (before ++ ds) → May z (state_of (before ++ ds)) e → Q e → P ds → P (ds ++ e ∷ []))
    → (during : List Entry) → Legal z (before ++ during) → AllByRecursion Q during → P during
by_more z before P Q first step during legal all =
    let parts = legal_split z beginning before during legal in
    go [] during (subst (Legal z) (sym (append-nil before)) parts.0) first (subst (λ (xs : List Entry). LegalFrom z (state_of xs) during) (sym (append-nil before)) parts.1) all
  where
    go : (ds ys : List Entry) → Legal z (before ++ ds) → P ds → LegalFrom z (state_of (before ++ ds)) ys → AllByRecursion Q ys → P (ds ++ ys)
    go ds [] legal holds rest all = subst P (sym (append-nil ds)) holds
    go ds (e ∷ ys) legal holds rest all =
        let longer : Legal z (before ++ (ds ++ e ∷ [])) = subst (Legal z) (append_assoc before ds (e ∷ [])) (legal_join z beginning (before ++ ds) (e ∷ []) legal (rest.0, tt)) in
        subst P (append_assoc ds (e ∷ []) ys)
        (go (ds ++ e ∷ []) ys longer (step ds e legal rest.0 all.0 holds) (subst (λ (s : State). LegalFrom z s ys) (sym (one_more_of before ds e)) rest.1) all.1)

pub all_trivial : (entries : List Entry) → AllByRecursion (λ e. Unit {0}) entries
all_trivial [] = tt
all_trivial (e ∷ entries) = (tt, all_trivial entries)

-- what holds of all entries holds of the first ones, and of those behind them
pub all_split : (P : Entry → Type 0) (xs ys : List Entry) → AllByRecursion P (xs ++ ys) → AllByRecursion P xs × AllByRecursion P ys
all_split P [] ys all = (tt, all)
all_split P (x ∷ xs) ys all = let rest = all_split P xs ys all.1 in ((all.0, rest.0), rest.1)

-- the same of a fact on states
pub by_more_states : (z : Sizes) (before : List Entry) (P : State → Type 0) (Q : Entry → Type 0) → P (state_of before)
    → ((xs : List Entry) (e : Entry) → Legal z xs → May z (state_of xs) e → Q e → P (state_of xs) → P (next (state_of xs) e))
    → (during : List Entry) → Legal z (before ++ during) → AllByRecursion Q during → P (state_of (before ++ during))
by_more_states z before P Q first step =
    by_more z before (λ ds. P (state_of (before ++ ds))) Q (subst (λ (xs : List Entry). P (state_of xs)) (sym (append-nil before)) first)
    (λ ds e legal may q holds. subst P (sym (one_more_of before ds e)) (step (before ++ ds) e legal may q holds))
