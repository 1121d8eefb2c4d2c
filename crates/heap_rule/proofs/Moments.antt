-- What a moment more changes of what calls under way need and of what seats know.
use Rattle.std.proofs.Common.{◌≡◌, ℕ, sym, ap, ◌∙◌, inl, inr, Bool, true, false, List, ◌∷◌, Option, Some, None}
use Rattle.std.proofs.lemmas.Bool.{or_left}
use Rattle.std.specs.List.{list_any}
use Rattle.world_model.specs.Sizes.{Sizes}
use Rattle.world_model.specs.NameLists.{same_pass}
use Rattle.world_model.specs.World.{World}
use Rattle.world_model.specs.State.{Slicing}
use Rattle.world_model.specs.Next.{seen}
use Rattle.mark_core.specs.Machine.{Scan}
use Rattle.heap_rule.specs.Types.{Name, Pass, Marker, Part, Place, Job, NoJob, Roots, Look, MarkerView, View}
use Rattle.heap_rule.specs.Memory.{Memory, write}
use Rattle.heap_rule.specs.Items.{Spot}
use Rattle.heap_rule.specs.Licences.{WhileLook, FoundsLicensed, RootsLicensed}
use Rattle.heap_rule.specs.Sees.{ZerosHold, MarkerSeen, keeper, SeesKnown}
use Rattle.heap_rule.proofs.Placing.{written}

pub founds_seen : (index : Name → ℕ) (units : List (List Name)) (scan : ℕ → Option Scan) (moments : ℕ → List World) (w : World) → FoundsLicensed index units scan moments
    → FoundsLicensed index units scan (λ m. w ∷ moments m)
founds_seen index units scan moments w h m s t at found =
    let o = h m s t at found in record { from = o.from; of = o.of; from_unit = o.from_unit; of_unit = o.of_unit; from_is = o.from_is; of_is = o.of_is; referred = inr o.referred }

pub roots_seen : (index : Name → ℕ) (units : List (List Name)) (job : Job) (hand : Option ℕ) (found : ℕ → Bool) (started shading : Bool) (moments : List World) (opened opened_now : List Pass)
    (amid amid_now : ℕ → Bool) (w : World)
    → ((m : ℕ) → list_any (same_pass (Marker m)) opened_now ≡ true → list_any (same_pass (Marker m)) opened ≡ true) → ((m : ℕ) → amid m ≡ true → amid_now m ≡ true)
    → RootsLicensed index units job hand found started shading moments opened amid → RootsLicensed index units job hand found started shading (w ∷ moments) opened_now amid_now
roots_seen index units job hand found started shading moments opened opened_now amid amid_now w fewer more h = record {
  start = h.start;
  roots = λ u is. let o = h.roots u is in (o.0, o.1, o.2, inr o.3);
  shades = h.shades;
  amid_is = λ u m is op. more m (h.amid_is u m is (fewer m op));
}

pub zeros_seen : (z : Sizes) (passes : List Pass) (place : ℕ → Place) (m : ℕ) (slice : Slicing) (w : World) (zeros : List ℕ) → ZerosHold z passes place m slice zeros
    → ZerosHold z passes place m (seen w false slice) zeros
zeros_seen z passes place m slice w zeros (inl c) = inl (inr c.0, c.1)
zeros_seen z passes place m slice w zeros (inr (inl a)) = inr (inl (or_left slice.amid_begin false a.0, a.1))
zeros_seen z passes place m slice w zeros (inr (inr e)) = inr (inr e)

pub marker_seen : (z : Sizes) (passes : List Pass) (index : Name → ℕ) (unit : Name → List Name) (place : ℕ → Place) (scan : Option Scan) (owes opened : Bool) (m : ℕ) (slice : Slicing)
    (w : World) (d : MarkerView)
    → MarkerSeen z passes index unit place scan owes opened m slice d → MarkerSeen z passes index unit place scan owes opened m (seen w false slice) d
marker_seen z passes index unit place scan owes opened m slice w d h = record {
  stack_is = h.stack_is;
  scan_is = h.scan_is;
  first_is = h.first_is;
  owes_is = h.owes_is;
  zeros_are = λ op. zeros_seen z passes place m slice w d.zeros (h.zeros_are op);
}

-- a word that is of no one pass changes
pub known_shared : (memory : Memory) (p : Part) (x : ℕ) (spot : ℕ → Spot) (removed : Name → Bool) → keeper spot removed p ≡ None → (id : ℕ) (v : View) → SeesKnown memory spot removed id v
    → SeesKnown (write memory p x) spot removed id v
known_shared memory p x spot removed shared id v h pass q y own is =
    let was = h pass q y own is in (was.0, written memory p q x (λ (n : ℕ). n ≡ y) (λ (same : q ≡ p). wrong same was.0) (λ other. was.1))
  where
    wrong : q ≡ p → keeper spot removed q ≡ Some pass → x ≡ y
    wrong same of = let none : None ≡ Some pass = sym shared ∙ (ap (keeper spot removed) (sym same) ∙ of) in absurd cc

pub while_look : {P Q : Type 0} (job : Job) → (P → Q) → WhileLook job P → WhileLook job Q
while_look NoJob f h = tt
while_look (Roots p) f h = tt
while_look (Look r w) f h = f h
