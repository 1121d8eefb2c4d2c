-- In every legal history what is marked as garbage stays so, and nothing else is garbage.
use Rattle.std.proofs.Common.{◌≡◌, ℕ, refl, sym, subst, ap, inl, inr, Bool, true, false, if◌then◌else◌, List, [], ◌∷◌, ◌++◌, ◌⊎◌}
use Rattle.world_model.specs.Types.{Name, Pass, Lane, Marker, Collector, Act, Entry}
use Rattle.world_model.specs.Types.act
use Rattle.world_model.specs.Types.begin
use Rattle.world_model.specs.Types.commit
use Rattle.world_model.specs.Sizes.{Sizes}
use Rattle.world_model.specs.NameLists.{same_name, has}
use Rattle.world_model.specs.State.{State}
use Rattle.world_model.specs.Next.{next_world, next}
use Rattle.world_model.specs.Histories.{MayBy, May, Legal, state_of, after}
use Rattle.world_model.specs.Follows.{entry, IsMade, WasMarkedGarbage, GarbageIs, GarbageIsMarked, GarbageLasts}
use Rattle.world_model.proofs.ListFacts.{Among, among_append, among_left, among_right, among_contains, contains_among}
use Rattle.world_model.proofs.NameFacts.{same_name_true, same_name_refl}
use Rattle.world_model.proofs.Inductions.{by_entries, by_more_states, one_more, all_trivial}
use Rattle.world_model.proofs.Sound.{sound, made_living, made_stays}
use Rattle.world_model.proofs.Barrier.{barred, set_name_here}

garbage_stays : (s : State) (p : Pass) (a : Act) (n : Name) → s.world.garbage n ≡ true → (next_world s.marks s.world p a).garbage n ≡ true
garbage_stays s p (act.MarkGarbage at old) n h = set_name_here s.world.garbage at true (λ m b. s.world.garbage m ≡ true → b ≡ true) (λ e. refl) (λ m e. e) n h
garbage_stays s p (act.BeginGc begin.Started) n h = h
garbage_stays s p (act.CommitGc commit.Done) n h = h
garbage_stays s p _ n h = h

pub garbage_lasts_holds : GarbageLasts
garbage_lasts_holds z before more legal n is =
    by_more_states z before (λ s. s.world.garbage n ≡ true) (λ e. Unit {0}) is (λ xs e legal may q h. garbage_stays (state_of xs) e.pass e.act n h) more legal (all_trivial more)

-- what an entry marks is garbage after it
marks_it : (s : State) (p : Pass) (n : Name) (old : Bool) → (next_world s.marks s.world p (act.MarkGarbage n old)).garbage n ≡ true
marks_it s p n old = rw (same_name_refl n) refl

-- what is garbage after an entry was so, or is marked by that, and held
abbrev WasOrIs : State → Pass → Act → Name → Type 0
WasOrIs s p a n = (s.world.garbage n ≡ true) ⊎ ((lane : ℕ) × (old : Bool) × (entry p a ≡ entry (Lane lane) (act.MarkGarbage n old)) × (has (s.frames lane).held n ≡ true))

was_garbage : (z : Sizes) (s : State) (p : Pass) (a : Act) (n : Name) → MayBy z s p a → (next_world s.marks s.world p a).garbage n ≡ true → WasOrIs s p a n
was_garbage z s (Lane lane) (act.MarkGarbage at old) n may h = go (same_name n at) refl h
  where
    go : (b : Bool) → same_name n at ≡ b → (if b then true else s.world.garbage n) ≡ true → WasOrIs s (Lane lane) (act.MarkGarbage at old) n
    go true e k =
        let same : at ≡ n = sym (same_name_true n at e) in
        inr (lane, old, ap (λ (m : Name). entry (Lane lane) (act.MarkGarbage m old)) same, subst (λ (m : Name). has (s.frames lane).held m ≡ true) same may.may.0)
    go false e k = inl k
was_garbage z s (Marker marker) (act.MarkGarbage at old) n may h = absurd may.may
was_garbage z s Collector (act.MarkGarbage at old) n may h = absurd may.may
was_garbage z s p (act.BeginGc begin.Started) n may h = inl h
was_garbage z s p (act.CommitGc commit.Done) n may h = inl h
was_garbage z s p _ n may h = inl h

pub garbage_is_marked_holds : GarbageIsMarked
garbage_is_marked_holds z history legal n = by_entries z (λ xs. GarbageIs xs n) first step history legal
  where
    first : GarbageIs [] n
    first = record { marked = (λ e. absurd cc, λ h. absurd (contains_among [] _ h.told)); made = λ e. absurd cc }

    step : (xs : List Entry) (e : Entry) → Legal z xs → May z (state_of xs) e → GarbageIs xs n → GarbageIs (xs ++ e ∷ []) n
    step xs e legal may h =
        record {
          marked = (λ k. told (was (now k)), λ k. then_is (marked k.lane k.old (among_append xs (e ∷ []) _ (contains_among _ _ k.told))));
          made = λ k. is_made (was (now k));
        }
      where
        now : (after (xs ++ e ∷ [])).garbage n ≡ true → (next (state_of xs) e).world.garbage n ≡ true
        now k = subst (λ (s : State). s.world.garbage n ≡ true) (one_more xs e) k

        then_is : (next (state_of xs) e).world.garbage n ≡ true → (after (xs ++ e ∷ [])).garbage n ≡ true
        then_is k = subst (λ (s : State). s.world.garbage n ≡ true) (sym (one_more xs e)) k

        was : (next (state_of xs) e).world.garbage n ≡ true → WasOrIs (state_of xs) e.pass e.act n
        was k = was_garbage z (state_of xs) e.pass e.act n may k

        told : WasOrIs (state_of xs) e.pass e.act n → WasMarkedGarbage (xs ++ e ∷ []) n
        told (inl k) = let old = h.marked.0 k in record { lane = old.lane; old = old.old; told = among_contains _ _ (among_left xs (e ∷ []) _ (contains_among xs _ old.told)) }
        told (inr (lane, old, same, held)) = record { lane = lane; old = old; told = among_contains _ _ (among_right xs (e ∷ []) _ (inl same)) }

        marked : (lane : ℕ) (old : Bool) → Among xs (entry (Lane lane) (act.MarkGarbage n old)) ⊎ ((e ≡ entry (Lane lane) (act.MarkGarbage n old)) ⊎ ⊥) → (next (state_of xs) e).world.garbage n ≡ true
        marked lane old (inl k) = garbage_stays (state_of xs) e.pass e.act n (h.marked.1 (record { lane = lane; old = old; told = among_contains _ _ k }))
        marked lane old (inr (inl same)) = subst (λ (x : Entry). (next (state_of xs) x).world.garbage n ≡ true) (sym same) (marks_it (state_of xs) (Lane lane) n old)
        marked lane old (inr (inr none)) = absurd none

        is_made : WasOrIs (state_of xs) e.pass e.act n → IsMade (after (xs ++ e ∷ [])) n
        is_made k = subst (λ (s : State). IsMade s.world n) (sym (one_more xs e)) (made_stays (state_of xs) e.pass e.act n (before k))
          where
            before : WasOrIs (state_of xs) e.pass e.act n → IsMade (after xs) n
            before (inl k) = h.made k
            before (inr (lane, old, same, held)) = made_living (after xs) (sound z xs legal).once n ((barred z xs legal).holding.lives lane n held)
