-- Different values have different words.
use Rattle.std.proofs.Common.{◌≡◌, ℕ, zero, suc, ◌<◌, ◌≤◌, refl, sym, ap, ◌∙◌, arith, Bool, true, false, Option, Some, None, IfSome, IsTrue}
use Rattle.std.proofs.lemmas.Bool.Decides.{nat_tests}
use Rattle.world_model.specs.LaneSteps.{is_readiness}
use Rattle.word_layout.specs.Types.{Phase, Idle, Marking, Gathering, Ready, Life}
use Rattle.word_layout.specs.Types.ready
use Rattle.word_layout.specs.Types.life
use Rattle.word_layout.specs.Values.{AreDifferent, bit, phase_number, gate_word, IsGate, life_number, head_word, IsHead, weak_word, IsWeak, ref_word, IsRef, ready_number, kind_word, IsKind, place_number, stock_word, IsStock}

-- ---- parts

pub bit_below : (b : Bool) → bit b < 2
bit_below true = omega arith
bit_below false = omega arith

bits_differ : (a b : Bool) → bit a ≡ bit b → a ≡ b
bits_differ true true e = refl
bits_differ false false e = refl
bits_differ true false e = absurd (omega arith)
bits_differ false true e = absurd (omega arith)

pub phase_below : (p : Phase) → phase_number p < 4
phase_below Idle = omega arith
phase_below Marking = omega arith
phase_below Gathering = omega arith

phases_differ : (p q : Phase) → phase_number p ≡ phase_number q → p ≡ q
phases_differ Idle Idle e = refl
phases_differ Marking Marking e = refl
phases_differ Gathering Gathering e = refl
phases_differ Idle Marking e = absurd (omega arith)
phases_differ Idle Gathering e = absurd (omega arith)
phases_differ Marking Idle e = absurd (omega arith)
phases_differ Marking Gathering e = absurd (omega arith)
phases_differ Gathering Idle e = absurd (omega arith)
phases_differ Gathering Marking e = absurd (omega arith)

pub life_below : (l : Life) → life_number l < 8
life_below life.Free = omega arith
life_below life.Live = omega arith
life_below life.Doomed = omega arith
life_below life.Begun = omega arith
life_below life.Finished = omega arith

-- the life of a number
life_of : ℕ → Life
life_of zero = life.Free
life_of (suc zero) = life.Live
life_of (suc (suc zero)) = life.Doomed
life_of (suc (suc (suc zero))) = life.Begun
life_of (suc (suc (suc (suc n)))) = life.Finished

life_again : (l : Life) → life_of (life_number l) ≡ l
unfolding life_of
life_again life.Free = refl
life_again life.Live = refl
life_again life.Doomed = refl
life_again life.Begun = refl
life_again life.Finished = refl

lives_differ : (a b : Life) → life_number a ≡ life_number b → a ≡ b
lives_differ a b e = sym (life_again a) ∙ ap life_of e ∙ life_again b

ready_few : (n : ℕ) → IsTrue (is_readiness (ready.After n)) → n ≤ 100
ready_few n h = grind (arith, nat_tests, h)

ready_below : (r : Ready) → IsTrue (is_readiness r) → ready_number r < 128
ready_below (ready.After n) h = let few = ready_few n h in omega arith
ready_below ready.Never h = omega arith

ready_differ : (a b : Ready) → IsTrue (is_readiness a) → IsTrue (is_readiness b) → ready_number a ≡ ready_number b → a ≡ b
ready_differ (ready.After m) (ready.After n) h k e = ap (λ x. ready.After x) e
ready_differ (ready.After m) ready.Never h k e = absurd (let few = ready_few m h in omega arith)
ready_differ ready.Never (ready.After n) h k e = absurd (let few = ready_few n k in omega arith)
ready_differ ready.Never ready.Never h k e = refl

place_below : (o : Option ℕ) → IfSome o (λ i. i < 1048576) → place_number o < 4294967296
place_below None h = omega arith
place_below (Some i) h = omega arith

places_differ : (a b : Option ℕ) → place_number a ≡ place_number b → a ≡ b
places_differ None None e = refl
places_differ None (Some j) e = absurd (omega arith)
places_differ (Some i) None e = absurd (omega arith)
places_differ (Some i) (Some j) e = let same : i ≡ j = omega arith in ap (λ x. Some x) same

-- ---- values

pub gates : AreDifferent IsGate gate_word
gates u v a b e =
    let p = phase_below u.phase in
    let q = phase_below v.phase in
    let c = bit_below u.parity in
    let d = bit_below v.parity in
    let f = bit_below u.dirty in
    let g = bit_below v.dirty in
    let phase : phase_number u.phase ≡ phase_number v.phase = omega arith in
    let parity : bit u.parity ≡ bit v.parity = omega arith in
    let dirty : bit u.dirty ≡ bit v.dirty = omega arith in
    let frames : u.frames ≡ v.frames = omega arith in
    λ i. record { phase = phases_differ u.phase v.phase phase i; parity = bits_differ u.parity v.parity parity i; dirty = bits_differ u.dirty v.dirty dirty i; frames = frames i }

pub heads : AreDifferent IsHead head_word
heads u v a b e =
    let p = life_below u.life in
    let q = life_below v.life in
    let c = bit_below u.colour in
    let d = bit_below v.colour in
    let number : life_number u.life ≡ life_number v.life = omega arith in
    let colour : bit u.colour ≡ bit v.colour = omega arith in
    let polls : u.polls ≡ v.polls = omega arith in
    λ i. record { life = lives_differ u.life v.life number i; colour = bits_differ u.colour v.colour colour i; polls = polls i }

pub pairs : AreDifferent IsWeak weak_word
pairs u v a b e =
    let (ai, as') = a in
    let (bi, bs) = b in
    let index : u.index ≡ v.index = omega arith in
    let serial : u.serial ≡ v.serial = omega arith in
    λ i. record { index = index i; serial = serial i }

pub references : AreDifferent IsRef ref_word
references None None a b e = refl
references None (Some v) a b e = absurd (let some = b.0 in omega arith)
references (Some u) None a b e = absurd (let some = a.0 in omega arith)
references (Some u) (Some v) a b e =
    let al = a.2 in
    let ai = a.3 in
    let bl = b.2 in
    let bi = b.3 in
    let count : u.name.count ≡ v.name.count = omega arith in
    let lane : u.name.lane ≡ v.name.lane = omega arith in
    let index : u.index ≡ v.index = omega arith in
    λ i. Some (record { index = index i; name = record { lane = lane i; count = count i } })

pub kinds : AreDifferent IsKind kind_word
kinds u v a b e =
    let ac = a.0 in
    let ar = a.1 in
    let ap' = a.2 in
    let bc = b.0 in
    let br = b.1 in
    let bp = b.2 in
    let p = ready_below u.ready a.3 in
    let q = ready_below v.ready b.3 in
    let class : u.class.0 ≡ v.class.0 = omega arith in
    let refs : u.refs ≡ v.refs = omega arith in
    let plain : u.plain ≡ v.plain = omega arith in
    let number : ready_number u.ready ≡ ready_number v.ready = omega arith in
    λ i. record { class = record { 0 = class i }; refs = refs i; plain = plain i; ready = ready_differ u.ready v.ready a.3 b.3 number i }

pub stocks : AreDifferent IsStock stock_word
stocks u v a b e =
    let p = place_below u.first a.0 in
    let q = place_below v.first b.0 in
    let place : place_number u.first ≡ place_number v.first = omega arith in
    let count : u.count ≡ v.count = omega arith in
    λ i. record { first = places_differ u.first v.first place i; count = count i }
