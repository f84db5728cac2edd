use Rattle.std.proofs.Common.{rules, ◌≡◌, ◌-◌, ℕ, List, sym, ap, subst, arith, length, take}
use Rattle.std.proofs.lemmas.List.{length-take-le}
use Rattle.std.proofs.lemmas.Result.{err_from_is_err_and}
use Rattle.mqb_entries.specs.Formats.{IsBytes}
use Rattle.mqb_entries.specs.lemmas.Formats.{are_bytes}
use Rattle.mqb_entries.proofs.ListFormats.{IsCut, IsListed, cut_at, cut_as, passing_fails}
use Rattle.mqb_entries.proofs.lists.MemberList.read.Given as given
use Rattle.mqb_entries.proofs.lists.MemberList.read.Goals as goal

pub returns-in_err-pass_all : goal.returns-in_err-pass_all
returns-in_err-pass_all g c =
    let p = err_from_is_err_and c.from_residual.result c.from_residual.ensures.1 in
    rw (p.1, p.2) (passing_fails g.M.Member.member_at c.args.count c.args.cursor.now c.in_err-pass_all.field-0.0 c.in_err-pass_all.ensures)

cut_of : (g : given.Over) (c : goal.After-at g) → IsCut g.M.Member.member_at g.M.Member.spelled g.M.Member.fits c.args.count c.args.cursor.now c.pass_all.new.cursor
cut_of g c =
    let all = subst IsBytes c.rest-rest.ensures (are_bytes c.rest-rest.result.now (search rules)) in
    cut_at g.met.M.Member.format c.args.count c.args.cursor.now c.pass_all.new.cursor all c.in_ok-pass_all.ensures

used_is : (g : given.Over) (c : goal.After-at g) → c.at.result - c.at-start.result ≡ c.pass_all.new.cursor.at - c.args.cursor.now.at
used_is g c = omega (arith, c.at-start.ensures, c.at.ensures)

pub slice_bounds-bytes-count : goal.slice_bounds-bytes-count
slice_bounds-bytes-count g c = omega (arith, c.at-start.ensures, c.at.ensures, (cut_of g c).ahead)

pub slice_bounds-bytes-length : goal.slice_bounds-bytes-length
slice_bounds-bytes-length g c =
    sym (length-take-le (c.at.result - c.at-start.result) c.rest-rest.result.now (omega (arith, used_is g c, (cut_of g c).within, ap (λ (bytes : List ℕ). length bytes) c.rest-rest.ensures)))

listed_of : (g : given.Over) (c : goal.After-at g)
    → IsListed g.M.Member.member_at g.M.Member.spelled g.M.Member.fits c.args.count c.args.cursor.now c.pass_all.new.cursor (take (c.at.result - c.at-start.result) c.rest-rest.result.now)
listed_of g c = cut_as c.args.count c.args.cursor.now c.pass_all.new.cursor (cut_of g c) (c.at.result - c.at-start.result) c.rest-rest.result.now (used_is g c) c.rest-rest.ensures

pub invariant_of-result : goal.invariant_of-result
invariant_of-result g c = (listed_of g c).spelled

pub returns : goal.returns
returns g c = (listed_of g c).read
