-- An empty world.
use Rattle.std.proofs.Common.{◌≡◌, ◌≢◌, ℕ, ◌+◌, ◌-◌, ◌*◌, ◌<◌, ◌≤◌, zero, suc, true, false, List, [], ◌∷◌, length, length-append, get_or, replicate, refl, sym, subst, ap, ◌∙◌, arith, Option, Some, None}
use Rattle.std.proofs.Math.Nat.{mul-le-mul}
use Rattle.std.proofs.Math.Logic.{dite}
use Rattle.std.proofs.Math.Decide.{ℕ_discrete, dec_le}
use Rattle.std.proofs.Math.Nat.{lt_of_not-le}
use Rattle.std.proofs.lemmas.List.{get_or_append_left, get_or-append_right, get_or-replicate, get_or_past, length-replicate}
use Rattle.std.proofs.lemmas.List.Folds.{sum_by-replicate}
use Rattle.world_model.specs.Sizes.{Sizes, IsLawful, item_count}
use Rattle.world_model.proofs.Queues.{queue_start}
use Rattle.world_model.proofs.Between.{beginning_between}
use Rattle.heap_plain.specs.Types.{Name, Kind, Idle}
use Rattle.heap_plain.specs.declared.life.Life.{Life}
use Rattle.heap_plain.specs.declared.life.Life.TheVariants.{Free, Live}
use Rattle.heap_plain.specs.Parts.{Parts, Lists, name_at, life_at, no_kind, target_at, is_gone}
use Rattle.heap_plain.specs.Stocked.{Stocked, no_stock, rising, full_stocks}
use Rattle.heap_plain.specs.Roots.{rooted_at}
use Rattle.heap_plain.specs.Cells.{Aims}
use Rattle.heap_plain.specs.Stocking.{LaneShows, FreeShows}
use Rattle.heap_plain.specs.Destroying.{gone_world}
use Rattle.heap_plain.specs.Plain.{IsPlain}
use Rattle.heap_plain.proofs.Picking.{length-rising, rising_range, range_rising, rising_once}

-- the vectors of a new heap
abbrev pub new_parts : ℕ → ℕ → ℕ → ℕ → Parts
new_parts lanes quota slots each = record {
  gate = record { phase = Idle; frames = replicate lanes false };
  objects =
      record {
        names = replicate (lanes * quota) None;
        firsts = replicate (lanes * quota) 0;
        sizes = replicate (lanes * quota) 0;
        next = replicate (lanes * quota) 0;
        lives = replicate (lanes * quota) Free;
      };
  rows = record { kinds = replicate (lanes * quota) no_kind; targets = replicate (lanes * quota * slots) None; plains = replicate (lanes * quota * slots) 0 };
  roots = replicate (lanes * quota) false;
  garbage = replicate (lanes * quota) false;
  strong = replicate (lanes * each) None;
  pairs = record { serials = replicate (lanes * quota) 0; drawn = replicate lanes 0 };
  colours = record { marked = replicate (lanes * quota) false; listed = []; scanned = 0 };
  stock = record { stocks = full_stocks quota lanes; made = replicate lanes 0 };
  ends = record {
    left = 0;
    swept = 0;
    queue = record { room = lanes * quota; todo = []; ring = [] };
    polls = replicate (lanes * quota) 0;
    waiting = replicate (lanes * quota) 0;
    done = None;
  };
}

-- one value many times is that value everywhere, and past the end
same_everywhere : {A : Type 0} (n i : ℕ) (a : A) → get_or (replicate n a) i a ≡ a
same_everywhere n i a = dite (dec_le n i)
    (λ (h : n ≤ i). get_or_past (replicate n a) i a (omega (arith, length-replicate n a)))
    (λ (h : ¬ (n ≤ i)). get_or-replicate n i a a (lt_of_not-le h))

all_same : {A : Type 0} (n : ℕ) (a : A) → Lists (replicate n a) n (λ i. a)
all_same n a = record { len = length-replicate n a; each = λ k d below. get_or-replicate n k a d below }

no_name : (n i : ℕ) (m : Name) → name_at (replicate n None) i ≡ Some m → ⊥
no_name n i m e = let none : name_at (replicate n None) i ≡ None = same_everywhere n i None in cc

none_live : (n i : ℕ) → life_at (replicate n Free) i ≡ Live → ⊥
none_live n i e = let free : life_at (replicate n Free) i ≡ Free = same_everywhere n i Free in cc

none_used : (n i : ℕ) → life_at (replicate n Free) i ≢ Free → ⊥
none_used n i ne = ne (same_everywhere n i Free)

none_gone : (n i : ℕ) → is_gone (life_at (replicate n Free) i) ≡ true → ⊥
none_gone n i e = let free : life_at (replicate n Free) i ≡ Free = same_everywhere n i Free in let gone : is_gone Free ≡ true = subst (λ (x : Life). is_gone x ≡ true) free e in cc

some_items : (z : Sizes) → IsLawful z → 0 < item_count z
some_items z lawful = omega (arith, mul-le-mul lawful.some_lanes lawful.some_quota)

length-full_stocks : (quota lanes : ℕ) → length (full_stocks quota lanes) ≡ lanes
length-full_stocks quota zero = refl
length-full_stocks quota (suc lanes) = omega (arith, length-append (full_stocks quota lanes) (record { room = quota; free = rising (lanes * quota) quota } ∷ []), length-full_stocks quota lanes)

-- the stock of a lane among full ones
stock_at : (quota lanes lane : ℕ) → lane < lanes → get_or (full_stocks quota lanes) lane no_stock ≡ record { room = quota; free = rising (lane * quota) quota }
stock_at quota zero lane h = absurd (omega arith)
stock_at quota (suc lanes) lane h = dite (ℕ_discrete lane lanes)
    (λ (e : lane ≡ lanes).
    let last : List Stocked = record { room = quota; free = rising (lanes * quota) quota } ∷ [] in
    get_or-append_right (full_stocks quota lanes) last lanes lane no_stock (length-full_stocks quota lanes) (omega arith)
    ∙ ap (λ (k : ℕ). get_or last k no_stock) (let none : lane - lanes ≡ 0 = omega arith in none)
    ∙ ap (λ (k : ℕ). record { room = quota; free = rising (k * quota) quota }) (sym e))
    (λ (ne : lane ≢ lanes). get_or_append_left (full_stocks quota lanes) _ no_stock lane (omega (arith, length-full_stocks quota lanes)) ∙ stock_at quota lanes lane (omega arith))

-- all indexes are free
all_free : (z : Sizes) → FreeShows z (replicate (item_count z) None) (replicate (item_count z) Free) (full_stocks z.quota z.lanes) (λ lane. 0)
all_free z = record {
  lanes = length-full_stocks z.quota z.lanes;
  each = λ lane b. subst (λ (s : Stocked). LaneShows z (replicate (item_count z) Free) lane s 0) (sym (stock_at z.quota z.lanes lane b)) record {
    room = refl;
    of_lane = λ i a. let t = rising_range (lane * z.quota) z.quota i a in record { low = t.0; high = t.1 };
    unused = λ i a. same_everywhere (item_count z) i Free;
    once = rising_once (lane * z.quota) z.quota;
    all = λ i o e. range_rising (lane * z.quota) z.quota i o.low o.high;
    count = omega (arith, length-rising (lane * z.quota) z.quota);
  };
  nameless = λ i e. same_everywhere (item_count z) i None;
}

begins : (z : Sizes) → IsLawful z → IsPlain z (new_parts z.lanes z.quota z.slots z.strong) []
begins z lawful = record {
  legal = tt;
  rest = record { between = beginning_between; roots = λ e. absurd cc };
  shows = record {
    gate = record { phase = refl; frames = record { lanes = all_same z.lanes false; count = sum_by-replicate _ z.lanes false ∙ omega arith } };
    objects = record {
      names = record { items = length-replicate _ _; places = λ i n e. absurd (no_name _ i n e); alone = λ i j n e. absurd (no_name _ i n e) };
      units = record {
        firsts_len = length-replicate _ _;
        sizes_len = length-replicate _ _;
        links_len = length-replicate _ _;
        lives_len = length-replicate _ _;
        in_range = λ i. rw (same_everywhere {A = ℕ} (item_count z) i 0) (some_items z lawful);
        small = λ i. rw (same_everywhere {A = ℕ} (item_count z) i 0) (omega arith);
        named = λ i ne. absurd (none_used _ i ne);
        each = λ i e. absurd (none_live _ i e);
        all = λ u h. absurd h;
      };
    };
    rows = record {
      kinds = record {
        len = length-replicate _ _;
        each = λ i n e. absurd (no_name _ i n e);
        fit = λ i. let none : get_or (replicate (item_count z) no_kind) i no_kind ≡ no_kind = same_everywhere {A = Kind} (item_count z) i no_kind in
            rw none (omega arith);
      };
      cells = record {
        targets_len = length-replicate _ _;
        plains_len = length-replicate _ _;
        in_range =
            λ i slot t below e.
            absurd
            (let none : target_at z.slots (replicate (item_count z * z.slots) None) i slot ≡ None =
            same_everywhere {A = Option ℕ} (item_count z * z.slots) (i * z.slots + slot) None in
            cc);
        aims = λ i n slot there. absurd (no_name _ i n there.name);
        no_more = λ i n slot there. absurd (no_name _ i n there.name);
        numbers = λ i n slot there. absurd (no_name _ i n there.name);
        unmade_plain = λ n slot more. refl;
      };
    };
    roots = record {
      bits =
          record {
            len = length-replicate _ _;
            each =
                λ k d below.
                get_or-replicate (item_count z) k false d below
                ∙ sym (ap (rooted_at (λ (n : Name). false)) (same_everywhere {A = Option Name} (item_count z) k None));
          };
    };
    garbage = record { len = length-replicate _ _; each = λ i n there. absurd (no_name _ i n there.name) };
    strong = record {
      len = length-replicate _ _;
      aims = λ lane number a b. subst (λ (o : Option ℕ). Aims (replicate (item_count z) None) (replicate (item_count z) Free) o None)
          (sym (same_everywhere {A = Option ℕ} (z.lanes * z.strong) (lane * z.strong + number) None)) tt;
      no_more = λ lane number out. refl;
    };
    pairs = record {
      len = length-replicate _ _;
      drawn = all_same z.lanes 0;
      own = λ i n e. absurd (no_name _ i n e);
      blank = λ i e. same_everywhere {A = ℕ} (item_count z) i 0;
    };
    colours = record {
      marked_len = length-replicate _ _;
      idle = λ ne. refl;
      marks = λ e. absurd cc;
    };
    stock = record { made = all_same z.lanes 0; free = all_free z };
    ends = record {
      removed = record {
        swept_is = refl;
        swept_few = omega arith;
        polls_len = length-replicate _ _;
        removed = λ i n e life. absurd (no_name _ i n e);
        gone = λ r h. absurd h;
        found_is = λ e. absurd cc;
        left_is = refl;
        left_few = λ e. omega arith;
      };
      gone = record { waiting_len = length-replicate _ _; each = λ i e. absurd (none_gone _ i e); all = λ u n h. absurd h };
      room = refl;
      gathers = λ e. absurd cc;
      queue = λ e. record { todo = []; ring = []; ready = None; todo_at = tt; ring_at = tt; ready_at = tt; queue = queue_start (gone_world [] [] []) refl refl refl (λ r a. absurd a) (λ n. refl) };
      none_asked = λ ne. refl;
    };
  };
}

-- the vectors that are made by the numbers of a shape
pub begins_as : (z : Sizes) (lanes quota slots each : ℕ) (p : Parts) → IsLawful z → lanes ≡ z.lanes → quota ≡ z.quota → slots ≡ z.slots → each ≡ z.strong
    → new_parts lanes quota slots each ≡ p → IsPlain z p []
begins_as z lanes quota slots each p lawful by_lanes by_quota by_slots by_strong made = subst (λ (q : Parts). IsPlain z q []) made (rw (by_lanes, by_quota, by_slots, by_strong) (begins z lawful))
