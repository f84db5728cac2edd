use Rattle.std.proofs.Common.{◌≤◌, ◌+◌, ℕ, length, subst, sym}
use Rattle.mqb_heads.specs.User.{plain_user}
use Rattle.mqb_heads.specs.lemmas.Put.{user_sizes}
use Rattle.mqb_packet.proofs.Behind.{wrote_behind}
use Rattle.mqb_packet.proofs.writing.put_user_behind.Goals as goal

pub returns : goal.returns
returns c =
    let fits : ℕ → Type 0 = λ n. c.args.at + n ≤ length c.args.to.now in
    wrote_behind c.args.to.now c.put_user.new.to (plain_user c.args.message.now c.args.target.now) c.args.at c.put_user.result
    (subst fits (sym (user_sizes c.args.message.now c.args.target.now)) c.requires.room) c.put_user.ensures.put c.put_user.ensures.len
