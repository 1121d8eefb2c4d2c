-- Histories join.
use Rattle.std.proofs.Common.{◌≡◌, refl, ap, List, [], ◌∷◌, ◌++◌}
use Rattle.world_model.specs.Types.{Pass, Act, Entry}
use Rattle.world_model.specs.Sizes.{Sizes}
use Rattle.world_model.specs.State.{State, beginning}
use Rattle.world_model.specs.Next.{next, run}
use Rattle.world_model.specs.Histories.{LegalFrom}
use Rattle.world_model.specs.Calls.{by}
use Rattle.world_model.specs.Laws.{HistoriesJoin}

pub run-append : (s : State) (xs ys : List Entry) → run s (xs ++ ys) ≡ run (run s xs) ys
run-append s [] ys = refl
run-append s (x ∷ xs) ys = run-append (next s x) xs ys

pub legal_split : (z : Sizes) (s : State) (xs ys : List Entry) → LegalFrom z s (xs ++ ys) → LegalFrom z s xs × LegalFrom z (run s xs) ys
legal_split z s [] ys h = (tt, h)
legal_split z s (x ∷ xs) ys h = let rest = legal_split z (next s x) xs ys h.1 in ((h.0, rest.0), rest.1)

pub legal_join : (z : Sizes) (s : State) (xs ys : List Entry) → LegalFrom z s xs → LegalFrom z (run s xs) ys → LegalFrom z s (xs ++ ys)
legal_join z s [] ys g h = h
legal_join z s (x ∷ xs) ys g h = (g.0, legal_join z (next s x) xs ys g.1 h)

pub histories_join : HistoriesJoin
histories_join = record {
  state = λ xs ys. run-append beginning xs ys;
  legal = λ z xs ys. (legal_split z beginning xs ys, λ h. legal_join z beginning xs ys h.0 h.1);
  one_more = λ z xs e. (λ h. let parts = legal_split z beginning xs (e ∷ []) h in (parts.0, parts.1.0), λ h. legal_join z beginning xs (e ∷ []) h.0 (h.1, tt));
}

-- the entries of a pass in a row
pub by-append : (p : Pass) (xs ys : List Act) → by p (xs ++ ys) ≡ by p xs ++ by p ys
by-append p [] ys = refl
by-append p (x ∷ xs) ys = ap (λ (rest : List Entry). record { pass = p; act = x } ∷ rest) (by-append p xs ys)
