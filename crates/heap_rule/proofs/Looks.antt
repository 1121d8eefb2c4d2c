-- A load of the gate that adds no entry, by a lane, a marker and the collector.
use Rattle.std.proofs.Common.{ℕ, ◌<◌, refl, sym, ap, ◌∙◌, subst, length, arith}
use Rattle.std.specs.Prelude.{slice_index}
use Rattle.atomic_table.specs.Table.{keeps}
use Rattle.atomic_table.specs.Table as tables
use Rattle.world_model.specs.Sizes.{Sizes, IsLawful}
use Rattle.world_model.specs.State.{State}
use Rattle.world_model.specs.Follows.{AreActors}
use Rattle.world_model.proofs.Frames.{few_open_holds}
use Rattle.word_layout.specs.Places.{place}
use Rattle.heap_rule.specs.Types.{Gate, View}
use Rattle.heap_rule.specs.Types.part
use Rattle.heap_rule.specs.Types.ask
use Rattle.heap_rule.specs.Types.lane_ask
use Rattle.heap_rule.specs.Types.lane_gate
use Rattle.heap_rule.specs.Types.marker_ask
use Rattle.heap_rule.specs.Types.collector_ask
use Rattle.heap_rule.specs.Types.collector_gate
use Rattle.heap_rule.specs.Telling.{SawGate}
use Rattle.heap_rule.specs.Rule.{Keeps}
use Rattle.heap_rule.specs.Operations.{Keeping}
use Rattle.heap_rule.proofs.Pasts.{no_more}
use Rattle.heap_rule.proofs.Loads.{Learns, loads}

-- a view that stays the same
pub same : (z : Sizes) (s : tables.State (Unit {0}) View) (k : Keeps z s) (id : ℕ) (v : View) → Learns z s k id v v
same z s k id v = record { passes = refl; refs = λ h. h; lanes = λ h. h; markers = λ h. h; collector = λ h. h; known = λ h. h; lates = λ h. h; memos = λ h. h }

-- the gate that the word is
abbrev pub gate_of : (z : Sizes) (s : tables.State (Unit {0}) View) → Keeps z s → Gate
gate_of z s k = record { phase = k.c.phase; parity = k.c.parity; dirty = k.c.dirty; frames = length k.s.world.opened }

pub saw_gate : (z : Sizes) (s : tables.State (Unit {0}) View) (k : Keeps z s) → IsLawful z → SawGate k.history (slice_index s.words (place z part.Gate)) (gate_of z s k)
saw_gate z s k limits = record {
  gate = few;
  found_is = k.shows.each part.Gate tt ∙ k.gate;
  phase_is = k.phase ∙ sym (ap (λ (t : State). t.world.phase) k.past.left);
  parity_is = sym k.past.parity_is;
  frames_is = sym (ap (λ (t : State). length t.world.opened) k.past.left);
}
  where
    actors : AreActors z k.s.world.opened
    actors = subst (λ (t : State). AreActors z t.world.opened) k.past.left (few_open_holds z k.history k.past.legal)

    few : length k.s.world.opened < 256
    few = let most = actors.few in let lanes = limits.few_lanes in let markers = limits.few_markers in omega (arith, most, lanes, markers)

pub lane_looks : (z : Sizes) (l : ℕ) → Keeping z (ask.Lane l (lane_ask.LoadGate lane_gate.Look))
lane_looks z l limits id word v may s k homes at range = (
  record v { front = k.history },
  keeps,
  tt,
  loads z id v v s k at (place z part.Gate) (same z s k id v),
  (refl, (k.history, (gate_of z s k, saw_gate z s k limits, (no_more z k.history k.s k.c.parity k.owner s.views id v v refl at k.past).adds))),
)

pub marker_looks : (z : Sizes) (m : ℕ) → Keeping z (ask.Marker m marker_ask.LoadGate)
marker_looks z m limits id word v may s k homes at range = (
  record v { front = k.history },
  keeps,
  tt,
  loads z id v v s k at (place z part.Gate) (same z s k id v),
  (refl, (k.history, (gate_of z s k, saw_gate z s k limits, (no_more z k.history k.s k.c.parity k.owner s.views id v v refl at k.past).adds))),
)

pub collector_looks : (z : Sizes) → Keeping z (ask.Collector (collector_ask.LoadGate collector_gate.Look))
collector_looks z limits id word v may s k homes at range = (
  record v { front = k.history },
  keeps,
  tt,
  loads z id v v s k at (place z part.Gate) (same z s k id v),
  (refl, (k.history, (gate_of z s k, saw_gate z s k limits, (no_more z k.history k.s k.c.parity k.owner s.views id v v refl at k.past).adds))),
)
