-- Removed objects that come to another stage, or have another number of polls.
use Rattle.std.proofs.Common.{◌≡◌, ◌≢◌, ℕ, ◌<◌, ◌==◌, ◌||◌, refl, sym, subst, ap, ◌∙◌, inl, inr, arith, Bool, cond, if◌then◌else◌, true, false, not, List, [], ◌∷◌, length, map, get_or, count_by, Option, Some}
use Rattle.std.proofs.Math.ListN.{set}
use Rattle.std.proofs.Math.Logic.{dite}
use Rattle.std.proofs.Math.Decide.{ℕ_discrete}
use Rattle.std.proofs.lemmas.Bool.{cond_both}
use Rattle.std.proofs.lemmas.List.{length-map, length-set, get_or-set_same, get_or-set_other}
use Rattle.world_model.specs.Sizes.{Sizes}
use Rattle.world_model.specs.NameLists.{same_name}
use Rattle.world_model.specs.World.{Removal}
use Rattle.world_model.proofs.ListFacts.{Among, test_among}
use Rattle.world_model.proofs.NameFacts.{same_name_true, same_name_refl}
use Rattle.world_model.proofs.Counts.{count_names}
use Rattle.world_model.proofs.Queues.{names_kept}
use Rattle.heap_plain.specs.Types.{Name, Kind, Phase, Idle}
use Rattle.heap_plain.specs.declared.life.Life.{Life}
use Rattle.heap_plain.specs.declared.life.Life.TheVariants.{Free, Live}
use Rattle.heap_plain.specs.Parts.{Objects, name_at, life_at, is_gone, stage_of}
use Rattle.heap_plain.specs.Units.{NamesShow, UnitsShow, StandsAt}
use Rattle.heap_plain.specs.Stocked.{Stocked}
use Rattle.heap_plain.specs.Stocking.{FreeShows}
use Rattle.heap_plain.specs.Destroying.{RemovedShow, removal_at, GoneShow, LiesAt, at_end, still_there}
use Rattle.heap_plain.proofs.WorldFacts.{differs}
use Rattle.heap_plain.proofs.Standing.{life_below}

-- ---- lives

-- what lives, what is free and what is removed stays so
pub record SameLives (lives ls : List Life) : Type 0 where
  pub len : length ls ≡ length lives
  pub live : (i : ℕ) → life_at lives i ≡ Live → life_at ls i ≡ Live
  pub was_live : (i : ℕ) → life_at ls i ≡ Live → life_at lives i ≡ Live
  pub free : (i : ℕ) → life_at lives i ≡ Free → life_at ls i ≡ Free
  pub was_free : (i : ℕ) → life_at ls i ≡ Free → life_at lives i ≡ Free
  pub gone : (i : ℕ) → is_gone (life_at lives i) ≡ true → is_gone (life_at ls i) ≡ true
  pub was_gone : (i : ℕ) → is_gone (life_at ls i) ≡ true → is_gone (life_at lives i) ≡ true

pub lives_same : (lives : List Life) → SameLives lives lives
lives_same lives = record { len = refl; live = λ i e. e; was_live = λ i e. e; free = λ i e. e; was_free = λ i e. e; gone = λ i e. e; was_gone = λ i e. e }

not_live : (life : Life) → is_gone life ≡ true → life ≡ Live → ⊥
not_live life g e = let t : is_gone life ≡ false = ap is_gone e in cc

not_free : (life : Life) → is_gone life ≡ true → life ≡ Free → ⊥
not_free life g e = let t : is_gone life ≡ false = ap is_gone e in cc

pub gone_below : (lives : List Life) (x : ℕ) → is_gone (life_at lives x) ≡ true → x < length lives
gone_below lives x g = life_below lives x (not_free (life_at lives x) g)

pub lives_set : (lives : List Life) (x : ℕ) (v : Life) → is_gone (life_at lives x) ≡ true → is_gone v ≡ true → SameLives lives (set lives x v)
lives_set lives x v g h = record {
  len = length-set lives x v;
  live = λ i e. dite (ℕ_discrete i x) (λ (s : i ≡ x). absurd (not_live _ g (ap (life_at lives) (sym s) ∙ e))) (λ (ne : i ≢ x). other i ne ∙ e);
  was_live = λ i e. dite (ℕ_discrete i x) (λ (s : i ≡ x). absurd (not_live v h (sym here ∙ ap (life_at (set lives x v)) (sym s) ∙ e))) (λ (ne : i ≢ x). sym (other i ne) ∙ e);
  free = λ i e. dite (ℕ_discrete i x) (λ (s : i ≡ x). absurd (not_free _ g (ap (life_at lives) (sym s) ∙ e))) (λ (ne : i ≢ x). other i ne ∙ e);
  was_free = λ i e. dite (ℕ_discrete i x) (λ (s : i ≡ x). absurd (not_free v h (sym here ∙ ap (life_at (set lives x v)) (sym s) ∙ e))) (λ (ne : i ≢ x). sym (other i ne) ∙ e);
  gone = λ i e. dite (ℕ_discrete i x) (λ (s : i ≡ x). ap is_gone (ap (life_at (set lives x v)) s ∙ here) ∙ h) (λ (ne : i ≢ x). ap is_gone (other i ne) ∙ e);
  was_gone = λ i e. dite (ℕ_discrete i x) (λ (s : i ≡ x). ap is_gone (ap (life_at lives) s) ∙ g) (λ (ne : i ≢ x). ap is_gone (sym (other i ne)) ∙ e);
}
  where
    here : life_at (set lives x v) x ≡ v
    here = get_or-set_same lives x v Free (gone_below lives x g)

    other : (i : ℕ) → i ≢ x → life_at (set lives x v) i ≡ life_at lives i
    other i ne = get_or-set_other lives x i v Free ne

module _ (o : Objects) {ls : List Life} (same : SameLives o.lives ls) where
  -- the objects with these lives
  abbrev o' : Objects
  o' = record o { lives = ls }

  stands_lives : {units : List (List Name)} (head : ℕ) (u : List Name) → StandsAt o units head u → StandsAt o' units head u
  stands_lives head u t = record {
    among = t.among;
    life = same.live head t.life;
    own = t.own;
    size = t.size;
    linked = t.linked;
    inside = λ n e. let j = t.inside n e in (j.0, record { name = j.1.name; life = same.live j.0 j.1.life }, j.2);
    whole = λ i n a f. t.whole i n (record { name = a.name; life = same.was_live i a.life }) f;
  }

  pub units_lives : {z : Sizes} {units : List (List Name)} → UnitsShow z o units → UnitsShow z o' units
  units_lives us = record {
    firsts_len = us.firsts_len;
    sizes_len = us.sizes_len;
    links_len = us.links_len;
    lives_len = same.len ∙ us.lives_len;
    in_range = us.in_range;
    small = us.small;
    named = λ i ne. us.named i (λ e. ne (same.free i e));
    each = λ i e. let r = us.each i (same.was_live i e) in (r.0, stands_lives _ r.0 r.1);
    all = λ u a. let r = us.all u a in (r.0, stands_lives r.0 u r.1);
  }

-- where what is free stays so, and as many are used
pub free_lives : {z : Sizes} {names : List (Option Name)} {lives ls : List Life} {stocks : List Stocked} {used used' : ℕ → ℕ} → ((i : ℕ) → life_at lives i ≡ Free → life_at ls i ≡ Free)
    → ((i : ℕ) → life_at ls i ≡ Free → life_at lives i ≡ Free) → ((lane : ℕ) → used' lane ≡ used lane) → FreeShows z names lives stocks used → FreeShows z names ls stocks used'
free_lives free was_free counts f = record {
  lanes = f.lanes;
  each = λ lane b. let s = f.each lane b in record {
    room = s.room;
    of_lane = s.of_lane;
    unused = λ i a. free i (s.unused i a);
    once = s.once;
    all = λ i o e. s.all i o (was_free i e);
    count = omega (arith, s.count, counts lane);
  };
  nameless = λ i e. f.nameless i (was_free i e);
}

-- ---- a removal that changes

-- this name's removal changes
abbrev pub changed : Name → (Removal → Removal) → List Removal → List Removal
changed n f rs = map {A = Removal} (λ r. if same_name n r.name then f r else r) rs

module _ (n : Name) (f : Removal → Removal) (keeps : (r : Removal) → (f r).name ≡ r.name) where
  abbrev one : Removal → Removal
  one r = if same_name n r.name then f r else r

  one_name : (r : Removal) → (one r).name ≡ r.name
  one_name r = cond_both (same_name n r.name) (f r) r (λ s. s.name ≡ r.name) (λ e. keeps r) (λ e. refl)

  pub count_stays : (lane : ℕ) (rs : List Removal) → count_by (λ r. r.name.lane == lane) (changed n f rs) ≡ count_by (λ r. r.name.lane == lane) rs
  count_stays lane rs = count_names (λ m. m.lane == lane) (changed n f rs) ∙ ap (count_by (λ m. m.lane == lane)) (names_kept n f keeps rs) ∙ sym (count_names (λ m. m.lane == lane) rs)

  pub there_changed : (rs : List Removal) (m : Name) → still_there (changed n f rs) m ≡ still_there rs m
  there_changed [] m = refl
  there_changed (r ∷ rs) m = λ t. same_name m (one_name r t) || there_changed rs m t

  among_changed : (rs : List Removal) (r : Removal) → Among rs r → Among (changed n f rs) (one r)
  among_changed [] r a = absurd a
  among_changed (s ∷ rs) r (inl e) = inl (ap one e)
  among_changed (s ∷ rs) r (inr a) = inr (among_changed rs r a)

  changed_among : (rs : List Removal) (r : Removal) → Among (changed n f rs) r → (s : Removal) × Among rs s × (one s ≡ r)
  changed_among [] r a = absurd a
  changed_among (s ∷ rs) r (inl e) = (s, inl refl, e)
  changed_among (s ∷ rs) r (inr a) = let t = changed_among rs r a in (t.0, inr t.1, t.2)

  pub removed_changed : {z : Sizes} {names : List (Option Name)} {kinds : ℕ → List Kind} {lives ls : List Life} {polls ps : List ℕ}
      {left swept looked : ℕ} {removals : List Removal} {found : List Name} (x : ℕ)
      → NamesShow z names kinds → RemovedShow z names lives polls left swept Idle removals found looked → name_at names x ≡ Some n → SameLives lives ls → length ps ≡ length polls
      → ((i : ℕ) → i ≢ x → (life_at ls i ≡ life_at lives i) × (get_or ps i 0 ≡ get_or polls i 0)) → f (removal_at lives polls x n) ≡ removal_at ls ps x n
      → RemovedShow z names ls ps left swept Idle (changed n f removals) found looked
  removed_changed {names = names} {lives = lives} {ls} {polls} {ps} {removals = removals} x ns k at same len others now = record {
    swept_is = k.swept_is;
    swept_few = k.swept_few;
    polls_len = len ∙ k.polls_len;
    removed = removed;
    gone = λ r a.
        let s = changed_among removals r a in
        let j = k.gone s.0 s.1 in
        let name : s.0.name ≡ r.name = sym (one_name s.0) ∙ ap (λ (y : Removal). y.name) s.2 in
        (j.0, j.1 ∙ ap (λ (m : Name). Some m) name, same.gone j.0 j.2);
    found_is = λ e. absurd cc;
    left_is = k.left_is ∙ sym (length-map removals one);
    left_few = λ e. absurd cc;
  }
    where
      removed : (i : ℕ) (m : Name) → name_at names i ≡ Some m → is_gone (life_at ls i) ≡ true → Among (changed n f removals) (removal_at ls ps i m)
      removed i m there e =
          let was = k.removed i m there (same.was_gone i e) in
          let moved = among_changed removals (removal_at lives polls i m) was in
          dite (ℕ_discrete i x)
          (λ (here : i ≡ x).
          let name : n ≡ m = (let a = sym (ap (name_at names) here) ∙ there in let b = at in cc) in
          let is : same_name n m ≡ true = ap (same_name n) (sym name) ∙ same_name_refl n in
          let new : one (removal_at lives polls i m) ≡ removal_at ls ps i m =
          ap (λ (b : Bool). cond b (f (removal_at lives polls i m)) (removal_at lives polls i m)) is
          ∙ (λ t. f (removal_at lives polls (here t) (sym name t))) ∙ now ∙ (λ t. removal_at ls ps (sym here t) (name t)) in
          subst (λ (r : Removal). Among (changed n f removals) r) new moved)
          (λ (ne : i ≢ x).
          let is : same_name n m ≡ false = differs n m (λ e. ne (ns.alone i x n (there ∙ ap (λ (y : Name). Some y) (sym e)) at)) in
          let o = others i ne in
          let new : one (removal_at lives polls i m) ≡ removal_at ls ps i m =
          ap (λ (b : Bool). cond b (f (removal_at lives polls i m)) (removal_at lives polls i m)) is
          ∙ (λ t. record { name = m; stage = stage_of (sym o.0 t); polls = sym o.1 t }) in
          subst (λ (r : Removal). Among (changed n f removals) r) new moved)

-- ---- removed units

pub gone_changed : {z : Sizes} {o : Objects} {waiting ws : List ℕ} {ls : List Life} {removals rs : List Removal} {units : List (List Name)}
    → SameLives o.lives ls → GoneShow z o waiting removals units → length ws ≡ length waiting
    → ((m : Name) → still_there rs m ≡ still_there removals m)
    → ((head : ℕ) (u : List Name) → LiesAt o waiting removals units head u → get_or ws head 0 ≡ count_by (λ m. not (at_end rs m)) u)
    → GoneShow z (record o { lives = ls }) ws rs units
gone_changed {o = o} {waiting} {ws} {ls} {removals} {rs} {units} same g len still waits = record {
  waiting_len = len ∙ g.waiting_len;
  each = λ i e. let r = g.each i (same.was_gone i e) in (r.0, lies _ r.0 r.1);
  all = λ u n a e t. let r = g.all u n a e (sym (still n) ∙ t) in (r.0, lies r.0 u r.1);
}
  where
    lies : (head : ℕ) (u : List Name) → LiesAt o waiting removals units head u → LiesAt (record o { lives = ls }) ws rs units head u
    lies head u t = record {
      among = t.among;
      life = same.gone head t.life;
      own = t.own;
      size = t.size;
      linked = t.linked;
      inside = λ n e. let j = t.inside n e in (j.0, record { name = j.1.name; life = same.gone j.0 j.1.life }, j.2);
      whole = λ i n a f. t.whole i n (record { name = a.name; life = same.was_gone i a.life }) f;
      waits = waits head u t;
    }

-- a removed object is where its name is
pub gone_index : {z : Sizes} {names : List (Option Name)} {kinds : ℕ → List Kind} {lives : List Life} {polls : List ℕ} {left swept looked : ℕ}
    {phase : Phase} {removals : List Removal} {found : List Name}
    → NamesShow z names kinds → RemovedShow z names lives polls left swept phase removals found looked → (x : ℕ) (n : Name) → name_at names x ≡ Some n
    → still_there removals n ≡ true → is_gone (life_at lives x) ≡ true
gone_index {lives = lives} {removals = removals} ns k x n at e =
    let r = test_among (λ r. same_name n r.name) removals e in
    let j = k.gone r.0 r.1 in
    let same = ns.alone j.0 x n (j.1 ∙ ap (λ (m : Name). Some m) (sym (same_name_true n r.0.name r.2))) at in
    subst (λ (i : ℕ). is_gone (life_at lives i) ≡ true) same j.2
