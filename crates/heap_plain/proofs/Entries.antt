-- A plain heap after the entries of a call.
use Rattle.std.proofs.Common.{sym, subst, List, ◌++◌}
use Rattle.world_model.specs.Sizes.{Sizes}
use Rattle.world_model.specs.State.{State}
use Rattle.world_model.specs.Next.{run}
use Rattle.world_model.specs.Histories.{LegalFrom, state_of}
use Rattle.world_model.specs.Calls.{by, Appends, CallOf}
use Rattle.world_model.proofs.Solo.{solo}
use Rattle.heap_plain.specs.Types.{Pass, Act, Entry}
use Rattle.heap_plain.specs.Parts.{Parts}
use Rattle.heap_plain.specs.Plain.{Shows, IsPlain}
use Rattle.heap_plain.proofs.WorldFacts.{state_more}
use Rattle.heap_plain.proofs.Resting.{rests}

-- a call is done: it adds its entries, and the vectors are those of a plain heap again
pub record Done (z : Sizes) (p : Parts) (old new : List Entry) (pass : Pass) (a : Act) : Type 0 where
  pub plain : IsPlain z p new
  pub entries : Appends z old new pass a

-- the call has added its entries, and the vectors show what they leave
pub ends : {z : Sizes} {p q : Parts} {h new : List Entry} {pass : Pass} {a : Act} → IsPlain z p h → Appends z h new pass a → Shows z q (state_of new) → Done z q h new pass a
ends was entries shows = record { plain = record { legal = entries.legal; rest = rests entries was.rest; shows = shows }; entries = entries }

-- the same by what the entries leave
pub does : {z : Sizes} {p q : Parts} {h : List Entry} (pass : Pass) (a : Act) (acts : List Act) → IsPlain z p h → CallOf (state_of h) pass a acts
    → LegalFrom z (state_of h) (by pass acts) → Shows z q (run (state_of h) (by pass acts))
    → Done z q h (h ++ by pass acts) pass a
does {z} {q = q} {h} pass a acts was call legal shows = ends was (solo z h pass a acts call was.legal legal) (subst (λ (s : State). Shows z q s) (sym (state_more h (by pass acts))) shows)
