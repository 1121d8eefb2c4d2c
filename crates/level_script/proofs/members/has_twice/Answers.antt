use Rattle.std.proofs.Common.{◌≡◌, ◌++◌, ◌∷◌, [], sym, ap, ◌∙◌, get_or, take, cond, not, true, false}
use Rattle.class_schema.specs.Table.{id_of}
use Rattle.level_script.specs.Names.{has_number}
use Rattle.level_script.specs.Operands.{vars_of}
use Rattle.level_script.specs.declared.lane_cmd.Member.{Member}
use Rattle.level_script.proofs.Clusters.{apart, apart_more, vars_more, vars_twice}
use Rattle.level_script.proofs.members.has_twice.Goals as goal

-- no member
abbrev none : Member
none = record { var = 0; class = id_of 0 }

pub returns-then-has : goal.returns-then-has
returns-then-has c =
    let there : has_number (vars_of (take c.loop-member.member-index c.args.members.now)) (get_or c.args.members.now c.loop-member.member-index none).var ≡ true =
    rw (sym c.loop-member.invariant.looked) (sym c.has.ensures ∙ c.if-has.true) in
    sym (ap not (vars_twice c.args.members.now c.loop-member.member-index none c.loop-member-test.true there))

pub loop-member-preserved : goal.loop-member-preserved
loop-member-preserved c =
    let new : has_number (vars_of (take c.loop-member.member-index c.args.members.now)) (get_or c.args.members.now c.loop-member.member-index none).var ≡ false =
    rw (sym c.loop-member.invariant.looked) (sym c.has.ensures ∙ c.if-has.false) in
    let more = vars_more c.args.members.now c.loop-member.member-index none c.loop-member-test.true in
    record {
      looked =
          c.in_ok-add.ensures
          ∙ ap (λ b. cond b c.loop-member.seen (c.loop-member.seen ++ (get_or c.args.members.now c.loop-member.member-index none).var ∷ [])) (sym c.has.ensures ∙ c.if-has.false)
          ∙ ap (λ ns. ns ++ (get_or c.args.members.now c.loop-member.member-index none).var ∷ []) c.loop-member.invariant.looked ∙ sym more;
      differ = ap apart more ∙ apart_more (vars_of (take c.loop-member.member-index c.args.members.now)) (get_or c.args.members.now c.loop-member.member-index none).var c.loop-member.invariant.differ new;
    }
