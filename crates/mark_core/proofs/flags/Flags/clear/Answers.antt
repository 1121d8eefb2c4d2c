use Rattle.std.proofs.Common.{Bool, false, List, map, ap, ◌∙◌}
use Rattle.mark_core.proofs.Sets.{all_out, zeroed, zeroed_view, none_now}
use Rattle.mark_core.proofs.flags.Flags.clear.Goals as goal

pub invariant_of-self : goal.invariant_of-self
invariant_of-self c = all_out c.self.inside.present c.self.inside.count c.self.inside.stamps.items c.self.invariant

pub returns-then-self-lt18446744073709551615 : goal.returns-then-self-lt18446744073709551615
returns-then-self-lt18446744073709551615 c =
    none_now c.self.inside.present c.self.inside.stamps.items c.self.invariant.past ∙ ap (λ (bs : List Bool). map (λ b. false) bs) c.self.view_is

pub invariant_of-self-2 : goal.invariant_of-self-2
invariant_of-self-2 c = zeroed c.self.inside.present c.self.inside.count c.self.inside.stamps.items _ c.zero_all.ensures.length c.zero_all.ensures.zero c.self.invariant

pub returns : goal.returns
returns c =
    zeroed_view c.self.inside.present c.self.inside.stamps.items _ c.zero_all.ensures.length c.zero_all.ensures.zero ∙ ap (λ (bs : List Bool). map (λ b. false) bs) c.self.view_is
