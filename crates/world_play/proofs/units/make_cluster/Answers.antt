use Rattle.std.proofs.Common.{refl, ◌≡◌, ◌≤◌, ◌+◌, ℕ, subst, sym, ap, ◌∙◌, arith, inl, inr, List, [], ◌∷◌, length, get_or, Some, None}
use Rattle.std.proofs.lemmas.List.{length-map}
use Rattle.world_model.specs.World.{made}
use Rattle.world_model.specs.Histories.{after, state_of}
use Rattle.world_model.specs.Calls.{CallOf}
use Rattle.world_model.specs.Engines.{act_of_refusal}
use Rattle.class_schema.specs.Table.{kind_of}
use Rattle.world_play.specs.Types.{Name, Ref, Kind, Member, Lane}
use Rattle.world_play.specs.Types.act
use Rattle.world_play.specs.Types.reply
use Rattle.world_play.specs.Bindings.{members_bound}
use Rattle.world_play.specs.Lanes.{object_of}
use Rattle.world_play.specs.Variables.{standing, shown, AreHeld}
use Rattle.world_play.proofs.Keeping.{held_on}
use Rattle.world_play.proofs.Members.{first_member, with_counts, with_held, with_shown, without_counts, without_held, without_shown}
use Rattle.world_play.proofs.Turning.{no_room_none}
use Rattle.world_play.proofs.units.make_cluster.Goals as goal

pub create-requires-clause-lawful : goal.create-requires-clause-lawful
create-requires-clause-lawful g c = c.list_kinds.ensures.lawful g.S.Shape.sizes (sym c.requires.ready.slots)

pub returns-in-Ok-clause-did : goal.returns-in-Ok-clause-did
returns-in-Ok-clause-did g c =
    let h = c.in-Ok.ensures.entries in
    let lane = c.args.lane in
    let members = c.args.members.now in
    let kinds = c.list_kinds.new.kinds in
    let old = standing c.args.variables.now in
    let none : Ref = record { index = 0; name = record { lane = 0; count = 0 } } in
    let count : ℕ = made (after (g.E.Engine.history c.args.engine.now)) lane + 1 in
    let len : length kinds ≡ length members = ap length c.list_kinds.ensures.kinds ∙ length-map members (λ (m : Member). kind_of c.args.header.now.classes m.class) in
    let name : (get_or c.create.new.out 0 none).name ≡ record { lane = lane; count = count } =
    first_member c.create.new.out none lane count kinds (omega (arith, len, c.requires.some)) c.in-Ok.ensures.names
    in
    record {
      piece = _;
      grown = h.grown;
      turn = (
        inl (
          count,
          (h.acts, (h.call.0 ∙ ap (λ (ks : List Kind). act.Make ks count ∷ []) c.list_kinds.ensures.kinds, tt), refl),
          ap (λ (n : Name). reply.Cluster lane n (length members)) name,
        ),
        ap shown c.bind_members.ensures
            ∙ with_shown old lane members c.create.new.out count kinds c.in-Ok.ensures.names len
            ∙ ap (λ (n : Name). members_bound (shown old) lane members (Some n)) (sym name),
      );
    }

pub returns-in-Ok-clause-held : goal.returns-in-Ok-clause-held
returns-in-Ok-clause-held g c =
    let old = standing c.args.variables.now in
    subst (AreHeld (g.E.Engine.holds c.create.new.self)) (sym c.bind_members.ensures)
    (with_held _ old c.args.lane c.args.members.now c.create.new.out c.in-Ok.ensures.given (held_on _ _ old c.in-Ok.ensures.held c.requires.ready.held))

pub returns-in-Ok-clause-counts : goal.returns-in-Ok-clause-counts
returns-in-Ok-clause-counts g c =
    ap (λ v. v.counts) c.bind_members.ensures ∙ with_counts (standing c.args.variables.now) c.args.lane c.args.members.now c.create.new.out

pub returns-in-Err-clause-did : goal.returns-in-Err-clause-did
returns-in-Err-clause-did g c =
    let h = c.in-Err.ensures.entries in
    let lane = c.args.lane in
    let members = c.args.members.now in
    let why = c.in-Err.why in
    let old = standing c.args.variables.now in
    let none = ap object_of c.no_room.ensures ∙ no_room_none lane why in
    record {
      piece = _;
      grown = h.grown;
      turn = (
        inr (
          why,
          (
            h.acts,
            subst (λ (n : ℕ). CallOf (state_of (g.E.Engine.history c.args.engine.now)) (Lane lane) (act_of_refusal n why) h.acts) (ap length c.list_kinds.ensures.kinds) h.call,
            refl,
          ),
          c.no_room.ensures,
        ),
        ap shown c.unbind_members.ensures ∙ without_shown old lane members ∙ ap (members_bound (shown old) lane members) (sym none),
      );
    }

pub returns-in-Err-clause-held : goal.returns-in-Err-clause-held
returns-in-Err-clause-held g c =
    let old = standing c.args.variables.now in
    subst (AreHeld (g.E.Engine.holds c.create.new.self)) (sym c.unbind_members.ensures)
    (without_held _ old c.args.lane c.args.members.now (held_on _ _ old c.in-Err.ensures.held c.requires.ready.held))

pub returns-in-Err-clause-counts : goal.returns-in-Err-clause-counts
returns-in-Err-clause-counts g c = ap (λ v. v.counts) c.unbind_members.ensures ∙ without_counts (standing c.args.variables.now) c.args.lane c.args.members.now
