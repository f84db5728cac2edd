use Rattle.std.proofs.Common.{◌-◌, ◌<◌, sym, ap, ◌∙◌, arith}
use Rattle.mqb_entries.proofs.ListFormats.{IsHead, split_in, split_as, read_apart}
use Rattle.mqb_entries.proofs.lists.MemberList.split_first.Given as given
use Rattle.mqb_entries.proofs.lists.MemberList.split_first.Goals as goal

pub returns-in-Err : goal.returns-in-Err
returns-in-Err g c =
    let member = g.M.Member.member_at in
    let some : 0 < c.in-Spelled.count = omega (arith, c.if-count-eq0.false) in
    let s = split_in g.met.M.Member.format c.self.inside.form c.in-Spelled.bytes c.in-Spelled.count c.args.self.now c.in-Spelled.is c.self.invariant c.self.view_is some in
    absurd (read_apart (member c.new-cursor.result) (s.first, s.after) c.in-Err.field-0 (ap member c.new-cursor.ensures ∙ s.one) c.in-Err.ensures)

head_of : (g : given.Over) (c : goal.After-rest g)
    → IsHead g.M.Member.member_at g.M.Member.spelled g.M.Member.fits (c.in-Spelled.count - 1) c.args.self.now c.in-Ok.first c.rest.result.now
head_of g c =
    let member = g.M.Member.member_at in
    let some : 0 < c.in-Spelled.count = omega (arith, c.if-count-eq0.false) in
    let s = split_in g.met.M.Member.format c.self.inside.form c.in-Spelled.bytes c.in-Spelled.count c.args.self.now c.in-Spelled.is c.self.invariant c.self.view_is some in
    split_as (c.in-Spelled.count - 1) c.in-Spelled.bytes.now c.args.self.now s c.in-Ok.first c.read.new.cursor c.rest.result.now
    (sym (ap member c.new-cursor.ensures) ∙ c.in-Ok.ensures) c.rest.ensures

pub invariant_of-result : goal.invariant_of-result
invariant_of-result g c = (head_of g c).spelled

pub returns-in-Ok : goal.returns-in-Ok
returns-in-Ok g c = (head_of g c).all
