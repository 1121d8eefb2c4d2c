-- The start: the words of an empty heap, and the view of the seat with all passes.
use Rattle.std.specs.Prelude.{ℕ, zero, suc, ◌+◌, ◌*◌, ◌/◌, ◌==◌, if◌then◌else◌, nat_lt, false, List, [], ◌∷◌, ◌++◌, None}
use Rattle.world_model.specs.Sizes.{Sizes}
use Rattle.word_layout.specs.Values.{stock_word}
use Rattle.heap_rule.specs.Types.{Pass, Lane, Marker, Collector, LaneView, View}
use Rattle.heap_rule.specs.Types.part
use Rattle.heap_rule.specs.Memory.{Memory}
use Rattle.heap_rule.specs.Items.{first_item}
use Rattle.heap_rule.specs.Views.{resting_collector}

abbrev pub lanes_below : ℕ → List Pass
lanes_below zero = []
lanes_below (suc n) = Lane n ∷ lanes_below n

abbrev pub markers_below : ℕ → List Pass
markers_below zero = []
markers_below (suc n) = Marker n ∷ markers_below n

-- all passes of the shape
abbrev pub all_passes : Sizes → List Pass
all_passes z = Collector ∷ (lanes_below z.lanes ++ markers_below z.markers)

-- so many items from this one on, and the items of a lane's part of the array
abbrev pub items_from : ℕ → ℕ → List ℕ
items_from i zero = []
items_from i (suc n) = i ∷ items_from (suc i) n

abbrev pub lane_items : Sizes → ℕ → List ℕ
lane_items z l = items_from (l * z.quota) z.quota

-- the words: all zero, but for the free chains, each of which goes up through its lane's part of the array
abbrev pub first_memory : Sizes → Memory
first_memory z (part.FreeStock l) = stock_word (record { first = first_item (lane_items z l); count = z.quota })
first_memory z (part.Next i) = if suc i == (i / z.quota + 1) * z.quota then 0 else i + 2
first_memory z p = 0

-- each lane has its part of the array in its free chain
abbrev pub lanes_whole : Sizes → ℕ → List LaneView
lanes_whole z zero = []
lanes_whole z (suc n) = record { lane = n; hand = None; owes = false; free = lane_items z n; making = []; prepared = None; loose = None } ∷ lanes_whole z n

-- the view of the seat with all passes, before any entry
abbrev pub whole : Sizes → View
whole z = record { passes = all_passes z; front = []; refs = []; lanes = lanes_whole z z.lanes; markers = []; collector = resting_collector; known = []; late = []; memos = [] }

-- ---- how the words are made: the links of the first items, and then the stocks of the first lanes

abbrev pub linked_below : Sizes → ℕ → Memory
linked_below z n (part.Next i) = if nat_lt i n then first_memory z (part.Next i) else 0
linked_below z n p = 0

abbrev pub stocked_below : Sizes → ℕ → Memory
stocked_below z n (part.FreeStock l) = if nat_lt l n then first_memory z (part.FreeStock l) else 0
stocked_below z n (part.Next i) = first_memory z (part.Next i)
stocked_below z n p = 0
