-- The headline, from the laws that it joins.
use Rattle.std.proofs.Common.{◌≡◌, refl, sym, subst, ◌∙◌, inl, inr, Bool, true, false, List, [], ◌∷◌, ◌++◌, ◌⊎◌, Contains}
use Rattle.world_model.specs.Types.{Name, Act, Entry}
use Rattle.world_model.specs.Types.act
use Rattle.world_model.specs.Sizes.{Sizes}
use Rattle.world_model.specs.NameLists.{has}
use Rattle.world_model.specs.World.{World, unit_of, in_world}
use Rattle.world_model.specs.Reach.{graph, IsUnit}
use Rattle.world_model.specs.Histories.{Legal, after}
use Rattle.world_model.specs.Laws.{done}
use Rattle.world_model.specs.Follows.{is_done, IsParted, KeepsOrRemoves, RemovesUnreached, IsRemovedWhole, HeadlineHolds}
use Rattle.world_model.proofs.ListFacts.{Among, among_contains, contains_among, among_test}
use Rattle.world_model.proofs.NameFacts.{found_unit}
use Rattle.world_model.proofs.Rounds.{has-members}
use Rattle.world_model.proofs.Barrier.{member_lives}
use Rattle.world_model.proofs.Removals.{reached_stay_holds, commit_removes_unreached_holds, lives_after_holds}
use Rattle.world_model.proofs.Stages.{destroyed_once_holds, destroyed_by_stage_holds}
use Rattle.world_model.proofs.Pairs.{none_comes_back_holds, resolve_gives_holds, resolve_gives_none_again_holds}

-- what lived before an entry lives after it, or is removed with its whole unit
lives_or_removed : (z : Sizes) (history : List Entry) (e : Entry) → Legal z (history ++ e ∷ []) → (n : Name) → in_world (after history) n ≡ true
    → (in_world (after (history ++ e ∷ [])) n ≡ true) ⊎ IsRemovedWhole (after history) (after (history ++ e ∷ [])) e n
lives_or_removed z history e legal n lives = go (in_world now n) refl
  where
    now : World
    now = after (history ++ e ∷ [])

    unit : List Name
    unit = unit_of (after history) n

    stood : Among (after history).units unit × (has unit n ≡ true)
    stood = let found = found_unit (after history).units n lives in (found.0, found.1)

    go : (b : Bool) → in_world now n ≡ b → (in_world now n ≡ true) ⊎ IsRemovedWhole (after history) now e n
    go true e = inl e
    go false out = inr (pick (kept.others unit (among_contains _ unit stood.0)))
      where
        kept : KeepsOrRemoves (after history) now e
        kept = reached_stay_holds z history e legal

        still : in_world now n ≡ true → ⊥
        still k = cc

        pick : IsUnit (graph now) unit ⊎ IsParted now e unit ⊎ ((e ≡ done) × Contains now.last_removed unit) → IsRemovedWhole (after history) now e n
        pick (inl stays) = absurd (still (member_lives now unit n (contains_among _ unit stays) stood.1))
        pick (inr (inl parts)) = absurd (still ((lives_after_holds z history e legal n).1 (inr (lives, λ is. absurd (not_done parts.by is)))))
          where
            not_done : e.act ≡ act.Loose parts.of → is_done e.act ≡ true → ⊥
            not_done same is = let wrong : is_done (act.Loose parts.of) ≡ true = subst (λ (a : Act). is_done a ≡ true) same is in cc
        pick (inr (inr gone)) = record {
          commit = gone.0;
          unreached = λ reached. still (kept.reached_live unit n reached stood.1);
          listed = gone.1;
          gone = λ m k. (removes.removed m (has-members now.last_removed m ∙ among_test (λ u. has u m) now.last_removed unit (contains_among _ unit gone.1) k)).1;
        }
          where
            removes : RemovesUnreached (after history) now
            removes =
                subst (λ (x : Entry). RemovesUnreached (after history) (after (history ++ x ∷ []))) (sym gone.0)
                (commit_removes_unreached_holds z history (subst (λ (x : Entry). Legal z (history ++ x ∷ [])) gone.0 legal))

pub headline_holds : HeadlineHolds
headline_holds z lawful history legal = record {
  removes = lives_or_removed z history;
  gone = λ more longer n made out. none_comes_back_holds z history more longer n made out;
  spares = λ n lives. (destroyed_by_stage_holds z history legal n).living lives;
  destroys = λ n. destroyed_once_holds z history legal n;
  resolves = λ lane pair got more n. resolve_gives_holds z lawful history lane pair got more n;
  never_again = λ more n pair given over lane got longer. resolve_gives_none_again_holds z lawful history more n pair given over lane got longer;
}
