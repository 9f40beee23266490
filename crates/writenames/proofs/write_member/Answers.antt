-- The string, or nothing. Assumes nothing.
use Rattle.writenames.proofs.Naming.{member_in, member_out}
use Rattle.writecheck.specs.Looking.{lent_of}
use Rattle.writing.specs.Steps.{string_part}
use Rattle.writenames.proofs.write_member.Goals as goal

pub returns-then-not-member : goal.returns-then-not-member
returns-then-not-member c =
    let a = c.args in
    let t = lent_of a.lent.now in
    member_out a.member (string_part t a.allowance a.node) c.if-not-member.true c.requires.0.inside

pub returns : goal.returns
returns c = member_in c.args.member c.if-not-member.false c.write_string.ensures
