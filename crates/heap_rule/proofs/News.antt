-- The rule at the start.
use Rattle.std.proofs.Common.{◌≡◌, ◌≢◌, ◌⊎◌, ℕ, zero, suc, ◌+◌, ◌-◌, ◌*◌, ◌/◌, ◌^◌, ◌<◌, ◌≤◌, eqb, cond, refl, sym, ap, ◌∙◌, subst, inl, inr, Bool, true, false, ◌||◌, ◌&&◌, List, [], ◌∷◌, ◌++◌, length, arith, None, mul-le-mul_right}
use Rattle.std.proofs.lemmas.Bool.{eqb-true, eq-eqb, ne_eqb}
use Rattle.std.proofs.lemmas.Nat.{div-mul-add}
use Rattle.std.specs.List.{count_by}
use mathlib.Core.Option.{some-injective, some-ne-none}
use Rattle.atomic_table.specs.Table.{opening}
use Rattle.world_model.specs.Sizes.{Sizes, IsLawful}
use Rattle.world_model.specs.State.{beginning}
use Rattle.world_model.proofs.ListFacts.{or_true}
use Rattle.world_model.proofs.Counts.{count-cons}
use Rattle.mark_core.specs.Changes.{has}
use Rattle.mark_core.specs.Machine.{count_below}
use Rattle.mark_core.specs.Words.{bits_word}
use Rattle.mark_core.proofs.Bits.{bits-suc}
use Rattle.mark_core.specs.Start.{bare}
use Rattle.mark_core.proofs.Starts.{bare_lawful}
use Rattle.word_layout.specs.Values.{stock_word}
use Rattle.heap_rule.specs.Types.{Lane, Collector, Fresh, View}
use Rattle.heap_rule.specs.Types.part
use Rattle.heap_rule.specs.Memory.{Shows}
use Rattle.heap_rule.specs.Units.{sizes_of}
use Rattle.heap_rule.specs.Items.{Free, lane_of, first_item, Linked, Lists}
use Rattle.heap_rule.specs.Views.{EachSeat, has_pass, lane_in}
use Rattle.heap_rule.specs.Sees.{LaneSeen}
use Rattle.heap_rule.specs.Rule.{Keeps}
use Rattle.heap_rule.specs.Start.{whole, items_from, lane_items, lanes_below, markers_below, lanes_whole, first_memory}

-- there is one seat
first_seat : (K : ℕ → View → Type 0) (v : View) → K 0 v → EachSeat K (v ∷ [])
first_seat K v h zero u e = subst (K 0) (some-injective v u e) h
first_seat K v h (suc j) u e = absurd (some-ne-none u (sym e))

-- ---- a word without bits

none_bits : (n : ℕ) → bits_word (λ i. false) n ≡ 0
unfolding bits_word
none_bits zero = refl
none_bits (suc n) = let tail = none_bits n in let step : bits_word (λ i. false) (suc n) ≡ bits_word (λ i. false) n + 0 * 2 ^ n = bits-suc (λ i. false) n in step ∙ (rw tail (omega arith))

bits_off : (f : ℕ → Bool) (n : ℕ) → ((i : ℕ) → f i ≡ false) → bits_word f n ≡ 0
bits_off f n off = ap (λ (g : ℕ → Bool). bits_word g n) (λ j i. off i j) ∙ none_bits n

count_off : (n : ℕ) → count_below (λ i. false) n ≡ 0
unfolding count_below
count_off zero = refl
count_off (suc n) = count_off n

-- ---- ranges of items

items_length : (i n : ℕ) → length (items_from i n) ≡ n
items_length i zero = refl
items_length i (suc n) = ap suc (items_length (suc i) n)

in_range : (i n j : ℕ) → has (items_from i n) j ≡ true → (i ≤ j) × (j < i + n)
in_range i zero j h = absurd cc
in_range i (suc n) j h = go (or_true _ _ h) (λ m. in_range (suc i) n j m)
  where
    go : ((eqb j i ≡ true) ⊎ (has (items_from (suc i) n) j ≡ true)) → (has (items_from (suc i) n) j ≡ true → (suc i ≤ j) × (j < suc i + n)) → (i ≤ j) × (j < i + suc n)
    go (inl e) tail = let same : j ≡ i = eqb-true j i e in (omega arith, omega arith)
    go (inr m) tail = let r = tail m in let a = r.0 in let b = r.1 in (omega arith, omega arith)

range_has : (i n j : ℕ) → i ≤ j → j < i + n → has (items_from i n) j ≡ true
range_has i zero j low high = absurd (omega arith)
range_has i (suc n) j low high = go (eqb j i) refl (λ far. range_has (suc i) n j far (omega arith))
  where
    go : (b : Bool) → eqb j i ≡ b → (suc i ≤ j → has (items_from (suc i) n) j ≡ true) → (b || has (items_from (suc i) n) j) ≡ true
    go true e tail = refl
    go false e tail = tail (let off : j ≢ i = λ same. let wrong : false ≡ true = sym e ∙ eq-eqb j i same in absurd cc in omega (arith, off))

none_before : (i n j : ℕ) → j < i → count_by (λ k. eqb j k) (items_from i n) ≡ 0
none_before i zero j low = refl
none_before i (suc n) j low =
    let off : eqb j i ≡ false = ne_eqb j i (λ same. absurd (omega (arith, same, low))) in
    let tail = none_before (suc i) n j (omega arith) in
    let step = count-cons (λ k. eqb j k) i (items_from (suc i) n) in let here : cond {A = ℕ} (eqb j i) 1 0 ≡ 0 = rw off refl in omega (arith, tail, step, here)

range_once : (i n j : ℕ) → count_by (λ k. eqb j k) (items_from i n) ≤ 1
range_once i zero j = omega arith
range_once i (suc n) j = go (eqb j i) refl (range_once (suc i) n j) (λ low. none_before (suc i) n j low)
  where
    go : (b : Bool) → eqb j i ≡ b → count_by (λ k. eqb j k) (items_from (suc i) n) ≤ 1 → (j < suc i → count_by (λ k. eqb j k) (items_from (suc i) n) ≡ 0)
        → count_by (λ k. eqb j k) (i ∷ items_from (suc i) n) ≤ 1
    go true e tail none =
        let same : j ≡ i = eqb-true j i e in
        let zero_more = none (omega arith) in
        let step = count-cons (λ k. eqb j k) i (items_from (suc i) n) in let one : cond {A = ℕ} (eqb j i) 1 0 ≡ 1 = rw e refl in omega (arith, zero_more, step, one)
    go false e tail none = let step = count-cons (λ k. eqb j k) i (items_from (suc i) n) in let none_here : cond {A = ℕ} (eqb j i) 1 0 ≡ 0 = rw e refl in omega (arith, step, none_here, tail)

range_linked : (next : ℕ → ℕ) (i n : ℕ) → ((j : ℕ) → i ≤ j → suc j < i + n → next j ≡ suc (suc j)) → ((j : ℕ) → i ≤ j → suc j ≡ i + n → next j ≡ 0) → Linked next 0 (items_from i n)
range_linked next i zero on end = tt
range_linked next i (suc zero) on end = end i (omega arith) (omega arith)
range_linked next i (suc (suc n)) on end =
    (on i (omega arith) (omega arith), range_linked next (suc i) (suc n) (λ j low high. on j (omega arith) (omega arith)) (λ j low high. end j (omega arith) (omega arith)))

no_lane : (m l : ℕ) → has_pass (Collector ∷ ([] ++ markers_below m)) (Lane l) ≡ true → ⊥
no_lane zero l h = absurd cc
no_lane (suc m) l h = no_lane m l h

-- ---- the parts of the lanes

module _ (z : Sizes) (limits : IsLawful z) where
  lane_part : (l j : ℕ) → l * z.quota ≤ j → j < l * z.quota + z.quota → j / z.quota ≡ l
  lane_part l j low high =
      let r : ℕ = j - l * z.quota in
      let split : j ≡ l * z.quota + r = omega arith in
      let small : r < z.quota = omega arith in
      rw split (div-mul-add l z.quota r small)

  part_bounds : (i : ℕ) → (i / z.quota * z.quota ≤ i) × (i < i / z.quota * z.quota + z.quota)
  part_bounds i = let some = limits.some_quota in (omega (arith, some), omega (arith, some))

  -- the lanes' and markers' passes
  lane_below : (n m l : ℕ) → has_pass (Collector ∷ (lanes_below n ++ markers_below m)) (Lane l) ≡ true → l < n
  lane_below zero m l h = absurd (no_lane m l h)
  lane_below (suc n) m l h = go (or_true _ _ h) (λ t. lane_below n m l t)
    where
      go : ((eqb l n ≡ true) ⊎ (has_pass (lanes_below n ++ markers_below m) (Lane l) ≡ true)) → (has_pass (lanes_below n ++ markers_below m) (Lane l) ≡ true → l < n) → l < suc n
      go (inl e) tail = let same : l ≡ n = eqb-true l n e in omega arith
      go (inr t) tail = let below = tail t in omega arith

  seen_whole : (n l : ℕ) → l < n → LaneSeen None false (lane_items z l) [] None None (lane_in (lanes_whole z n) l)
  seen_whole zero l low = absurd (omega arith)
  seen_whole (suc n) l low = go (eqb l n) refl (λ less. seen_whole n l less)
    where
      go : (b : Bool) → eqb l n ≡ b → (l < n → LaneSeen None false (lane_items z l) [] None None (lane_in (lanes_whole z n) l))
          → LaneSeen None false (lane_items z l) [] None None (cond b (record {
            lane = n;
            hand = None;
            owes = false;
            free = lane_items z n;
            making = [];
            prepared = None;
            loose = None;
          }) (lane_in (lanes_whole z n) l))
      go true e tail = let same : l ≡ n = eqb-true l n e in record { hand_is = refl; owes_is = refl; free_is = ap (lane_items z) (sym same); making_is = refl; prepared_is = refl; loose_is = refl }
      go false e tail = tail (let off : l ≢ n = λ same. let wrong : false ≡ true = sym e ∙ eq-eqb l n same in absurd cc in omega (arith, off))

  frees_linked : (l : ℕ) → Linked (λ i. first_memory z (part.Next i)) 0 (lane_items z l)
  frees_linked l = range_linked (λ i. first_memory z (part.Next i)) (l * z.quota) z.quota
      (λ j low high. on j (lane_part l j low (omega arith)) high)
      (λ j low last. end j (lane_part l j low (omega arith)) last)
    where
      on : (j : ℕ) → j / z.quota ≡ l → suc j < l * z.quota + z.quota → first_memory z (part.Next j) ≡ suc (suc j)
      on j of high =
          let off : eqb (suc j) ((j / z.quota + 1) * z.quota) ≡ false = ne_eqb (suc j) ((j / z.quota + 1) * z.quota)
          (λ same. let again : (j / z.quota + 1) * z.quota ≡ (l + 1) * z.quota = ap (λ (n : ℕ). (n + 1) * z.quota) of in absurd (omega (arith, same, again, high))) in
          rw off (omega arith)

      end : (j : ℕ) → j / z.quota ≡ l → suc j ≡ l * z.quota + z.quota → first_memory z (part.Next j) ≡ 0
      end j of last =
          let on : eqb (suc j) ((j / z.quota + 1) * z.quota) ≡ true = eq-eqb (suc j) ((j / z.quota + 1) * z.quota)
          (let again : (j / z.quota + 1) * z.quota ≡ (l + 1) * z.quota = ap (λ (n : ℕ). (n + 1) * z.quota) of in omega (arith, again, last)) in
          rw on refl

  frees_listed : (l : ℕ) → l < z.lanes → Lists z (λ i. Free (i / z.quota)) (Free l) (lane_items z l)
  frees_listed l low = record {
    all =
        λ i inside is. let of : i / z.quota ≡ l = ap lane_of is in
        let b = part_bounds i in
        let b0 = b.0 in
        let b1 = b.1 in let again : i / z.quota * z.quota ≡ l * z.quota = ap (λ (n : ℕ). n * z.quota) of in range_has (l * z.quota) z.quota i (omega (arith, b0, again)) (omega (arith, b1, again));
    each = λ i is. let r = in_range (l * z.quota) z.quota i is in (part_inside l i low r.1, ap Free (lane_part l i r.0 r.1));
    once = λ i. range_once (l * z.quota) z.quota i;
  }
    where
      part_inside : (l i : ℕ) → l < z.lanes → i < l * z.quota + z.quota → i < z.lanes * z.quota
      part_inside l i low high = let all : (l + 1) * z.quota ≤ z.lanes * z.quota = mul-le-mul_right z.quota (omega arith) in omega (arith, all, high)

pub begins_kept : (z : Sizes) (words : List ℕ) → IsLawful z → Shows z words (first_memory z) → Keeps z (opening words [] (whole z))
begins_kept z words limits shows = record {
  memory = first_memory z;
  history = [];
  s = beginning;
  c = bare (λ u. false) (λ u. []);
  index = λ n. 0;
  spot = λ i. Free (i / z.quota);
  free = lane_items z;
  back = λ l. [];
  making = λ l. [];
  prepared = λ l. None;
  loose = λ l. None;
  sweeping = [];
  cursor = 0;
  looking = Fresh;
  chain = [];
  clearing = None;
  late = λ p. false;
  owner = λ p. 0;
  shows = shows;
  past = record { legal = tt; left = refl; parity_is = refl; sees = first_seat _ (whole z) (record { rest = []; begins = refl; others = refl; own = λ p h. refl }) };
  lawful = bare_lawful (sizes_of z) (λ u. false) (λ u. []);
  phase = refl;
  frames = record { lanes = λ l. refl; markers = λ m. refl; count = no_frames };
  gate = refl;
  heads = record { firsts = λ n h. absurd cc; members = λ n h. absurd cc };
  rows = λ r w few low. sym (bits_off _ 64 (λ i. refl));
  root_words = λ w low. sym (bits_off _ 64 (λ i. and_none _));
  colours = record { marked_is = λ n h. absurd cc; alive = λ n h. absurd cc; waiting = λ n h. absurd cc; only = λ i h. absurd cc };
  greys = λ h. absurd cc;
  cells = record { lists = λ n h. absurd cc; targets = λ n slot h. absurd cc };
  roots = record { bits = λ n h. absurd cc; only = λ i u low h. absurd cc; strongs = λ l h low few. refl };
  held = λ l n h. absurd cc;
  contents = record { owners = λ n h. absurd cc; names = λ n h. absurd cc; kinds = λ n h. absurd cc; refs_are = λ n slot h. absurd cc; plains_are = λ n slot h. absurd cc };
  strongs = λ l h low few. refl;
  pairs = record { here = λ n h. absurd cc; left = λ n h. absurd cc; indexes = λ n w either is. absurd cc };
  items = record { living_stand = λ n h. absurd cc; removed_stand = λ n h. absurd cc; only = λ i n low is. absurd cc; home = λ i low. refl };
  blank =
      record {
        heads = λ i low h. refl;
        owners = λ i low h. refl;
        taken = λ i l low is. absurd cc;
        names = λ i low h. refl;
        kinds = λ i low h. refl;
        serials = λ i low h. refl;
        cells = λ i slot low h few. refl;
      };
  chains = record {
    frees =
        λ l low. record {
          stock_is = ap (λ (n : ℕ). stock_word (record { first = first_item (lane_items z l); count = n })) (sym (items_length (l * z.quota) z.quota));
          linked = frees_linked z limits l;
        };
    backs = λ l low. record { stock_is = refl; linked = tt };
    free_items = λ l low. frees_listed z limits l low;
    back_items = λ l low. record { all = λ i inside is. absurd cc; each = λ i is. absurd cc; once = λ i. omega arith };
    making_items = λ l low. record { all = λ i inside is. absurd cc; each = λ i is. absurd cc; once = λ i. omega arith };
  };
  counts = λ l low. let all = items_length (l * z.quota) z.quota in omega (arith, all);
  units = λ n h. absurd cc;
  loosens = record { prepares = λ l i h. absurd cc; leaves = λ l i h. absurd cc };
  remains = record { heads = λ r h. absurd cc; waiting = λ n h. absurd cc; owners = λ n h. absurd cc; names = λ n h. absurd cc; kinds = λ n h. absurd cc };
  clearing_is = λ first h. absurd cc;
  removed_units = record { units = λ n h. absurd cc; waiting = λ n h. absurd cc };
  removed_chain = record { objects = tt; first_is = refl; linked = tt; order = λ h. refl };
  swept = record { within = omega arith; met = λ h. absurd cc; all = λ h n is. absurd cc; few = omega arith; different = refl; removed = λ n h. absurd cc; fresh = λ n h. absurd cc };
  looks = tt;
  counters = record { names_are = λ l low h. refl; serials_are = λ l low h. refl; cursor_is = λ h. refl; left_is = λ h. refl; polling_is = λ h. refl };
  lane_licence = record { hands = λ l u h. absurd cc; owing = λ l h. absurd cc };
  found_licence = λ m s t h. absurd cc;
  root_licence = record { start = tt; roots = λ u h. absurd cc; shades = λ u h. absurd cc; amid_is = λ u m h. absurd cc };
  store_licence = tt;
  refs = first_seat _ (whole z) tt;
  lanes = first_seat _ (whole z) (λ l own. seen_whole z limits z.lanes l (lane_below z limits z.lanes z.markers l own));
  markers = first_seat _ (whole z) (λ m own. record { stack_is = λ u. refl; scan_is = refl; first_is = tt; owes_is = refl; zeros_are = λ op. absurd cc });
  collector =
      first_seat _ (whole z) (λ own. record {
        job_is = refl;
        hand_is = refl;
        found_is = λ u. refl;
        clean_is = λ h. absurd cc;
        cursor_is = refl;
        looking_is = refl;
        sweeping_is = refl;
        chain_is = refl;
        clearing_is = refl;
        returned_is = tt;
      });
  known = first_seat _ (whole z) (λ p q x own is. absurd cc);
  lates = first_seat _ (whole z) (λ p q is own. refl);
  memos = first_seat _ (whole z) tt;
}
  where
    and_none : (b : Bool) → (b && false) ≡ false
    and_none true = refl
    and_none false = refl

    no_frames : count_below (λ l. false) z.lanes + count_below (λ m. false) z.markers ≡ 0
    no_frames = let a = count_off z.lanes in let b = count_off z.markers in omega (arith, a, b)
