-- Marking objects as garbage, and telling whether they are valid.
use Rattle.std.proofs.Common.{◌≡◌, ◌≢◌, ℕ, ◌<◌, refl, sym, subst, ap, ◌∙◌, arith, Bool, true, false, not, List, [], ◌∷◌, ◌++◌, get_or, Option, Some}
use Rattle.std.proofs.Math.ListN.{set}
use Rattle.std.proofs.Math.Logic.{dite}
use Rattle.std.proofs.Math.Decide.{ℕ_discrete}
use Rattle.std.proofs.lemmas.List.{length-set, get_or-set_same, get_or-set_other}
use Rattle.world_model.specs.Sizes.{Sizes, item_count}
use Rattle.world_model.specs.NameLists.{same_name, set_name}
use Rattle.world_model.specs.Engines.{IsInFrame}
use Rattle.world_model.specs.Histories.{after, state_of}
use Rattle.world_model.proofs.NameFacts.{same_name_refl}
use Rattle.heap_plain.specs.Types.{Name, Ref, Kind, Lane, Entry}
use Rattle.heap_plain.specs.Types.act
use Rattle.heap_plain.specs.declared.life.Life.{Life}
use Rattle.heap_plain.specs.Parts.{Parts, Holds, name_at}
use Rattle.heap_plain.specs.Units.{LivesAt, NamesShow}
use Rattle.heap_plain.specs.Roots.{GarbageShow}
use Rattle.heap_plain.specs.Plain.{Shows, IsPlain}
use Rattle.heap_plain.proofs.WorldFacts.{differs}
use Rattle.heap_plain.proofs.Resting.{in_open}
use Rattle.heap_plain.proofs.Entries.{Done, does}
use Rattle.heap_plain.proofs.RootSteps as root

-- where no more objects live than before
pub garbage_fewer : {z : Sizes} {names ns : List (Option Name)} {lives ls : List Life} {bits : List Bool} {garbage : Name → Bool} → ((i : ℕ) (n : Name) → LivesAt ns ls i n → LivesAt names lives i n)
    → GarbageShow z names lives bits garbage → GarbageShow z ns ls bits garbage
garbage_fewer was g = record { len = g.len; each = λ i n there. g.each i n (was i n there) }

-- one object more is garbage
garbage_set : {z : Sizes} {names : List (Option Name)} {lives : List Life} {kinds : ℕ → List Kind} {bits : List Bool} {garbage : Name → Bool} (i : ℕ)
    (n : Name) → NamesShow z names kinds → i < item_count z → LivesAt names lives i n
    → GarbageShow z names lives bits garbage → GarbageShow z names lives (set bits i true) (set_name garbage n true)
garbage_set {z} {names} {lives} {bits = bits} {garbage} i n ns below here g = record {
  len = length-set bits i true ∙ g.len;
  each = λ j m there. dite (ℕ_discrete j i)
      (λ (same : j ≡ i).
      let named : ◌≡◌ {A = Option Name} (Some m) (Some n) = sym there.name ∙ ap (name_at names) same ∙ here.name in
      let is : m ≡ n = cc in
      ap (λ (x : ℕ). get_or (set bits i true) x false) same ∙ get_or-set_same bits i true false (omega (arith, below, g.len)) ∙ sym (own m is))
      (λ (ne : j ≢ i). get_or-set_other bits i j true false ne ∙ g.each j m there ∙ sym (other m (λ is. ne (ns.alone j i n (there.name ∙ ap (λ (x : Name). Some x) is) here.name))));
}
  where
    own : (m : Name) → m ≡ n → set_name garbage n true m ≡ true
    own m is = let t : same_name m n ≡ true = subst (λ (x : Name). same_name x n ≡ true) (sym is) (same_name_refl n) in rw t refl

    other : (m : Name) → m ≢ n → set_name garbage n true m ≡ garbage m
    other m ne = let t = differs m n ne in rw t refl

module _ {z : Sizes} {p : Parts} {h : List Entry} {l : ℕ} {at : Ref} (was : IsPlain z p h) (frame : IsInFrame z h l) (held : Holds record { history = h; names = p.names } l at) where
  abbrev s : Shows z p (state_of h)
  s = was.shows

  abbrev n : Name
  n = at.name

  bit_is : get_or p.garbage at.index false ≡ (after h).garbage n
  bit_is = s.garbage.each at.index n (root.here was frame held)

  pub marks : (old : Bool) → old ≡ get_or p.garbage at.index false
      → Done z (record p { garbage = set p.garbage at.index true }) h (h ++ record { pass = Lane l; act = act.MarkGarbage n old } ∷ []) (Lane l)
      (act.MarkGarbage n old)
  marks old is =
      does (Lane l) (act.MarkGarbage n old) (act.MarkGarbage n old ∷ []) was (refl, tt)
      (record { in_range = frame.in_range; frame = in_open was.rest.between frame.opened; may = (held.given, is ∙ bit_is) }, tt)
      record {
        gate = s.gate;
        objects = s.objects;
        rows = s.rows;
        roots = s.roots;
        garbage = garbage_set at.index n s.names (root.index_below was frame held) (root.here was frame held) s.garbage;
        strong = s.strong;
        pairs = s.pairs;
        colours = s.colours;
        stock = s.stock;
        ends = s.ends;
      }

  pub tells : (valid : Bool) → valid ≡ not (get_or p.garbage at.index false) → Done z p h (h ++ record { pass = Lane l; act = act.IsValid n valid } ∷ []) (Lane l) (act.IsValid n valid)
  tells valid is =
      does (Lane l) (act.IsValid n valid) (act.IsValid n valid ∷ []) was (refl, tt)
      (record { in_range = frame.in_range; frame = in_open was.rest.between frame.opened; may = (held.given, is ∙ ap not bit_is) }, tt) s
